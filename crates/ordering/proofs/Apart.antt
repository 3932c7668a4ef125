-- Two data are of one kind, or they are apart: then they go by their kinds. What holds of both holds of any two.
use mathlib.Core.Path.{◌≡◌, refl}
use mathlib.Core.Bool.{Bool, false}
use mathlib.Core.List.{List}
use Prim.Native.Nat.{ℕ}
use lib.Dec.{eqb}
use Rattle.query.specs.Data.{pick, Data, unit, num, truth, text, bag, rec, left, right, Datas, Fields, same, is_unit, is_num, is_truth, is_text, is_bag, is_rec, is_left, is_right}
use Rattle.ordering.specs.Order.{way, rank, way_num, on_num_way, on_truth_way, on_text_way, on_bag_way, on_rec_way, on_left_way, on_right_way}

pub record Apart (d e : Data) : Type 0 where
  pub ranks : eqb (rank d) (rank e) ≡ false
  pub goes : way d e ≡ way_num (rank d) (rank e)
  pub comes : way e d ≡ way_num (rank e) (rank d)
  pub differs : same d e ≡ false

module _ (P : Data → Data → Type 0) (out : (d e : Data) → Apart d e → P d e) where
  pub at_unit : P unit unit → (e : Data) → P unit e
  unfolding rank way way_num pick same is_unit is_num is_truth is_text is_bag is_rec is_left is_right on_num_way on_truth_way on_text_way on_bag_way on_rec_way on_left_way on_right_way
  at_unit f unit = f
  at_unit f (num y) = out unit (num y) (record { ranks = refl; goes = refl; comes = refl; differs = refl })
  at_unit f (truth y) = out unit (truth y) (record { ranks = refl; goes = refl; comes = refl; differs = refl })
  at_unit f (text y) = out unit (text y) (record { ranks = refl; goes = refl; comes = refl; differs = refl })
  at_unit f (bag y) = out unit (bag y) (record { ranks = refl; goes = refl; comes = refl; differs = refl })
  at_unit f (rec y) = out unit (rec y) (record { ranks = refl; goes = refl; comes = refl; differs = refl })
  at_unit f (left y) = out unit (left y) (record { ranks = refl; goes = refl; comes = refl; differs = refl })
  at_unit f (right y) = out unit (right y) (record { ranks = refl; goes = refl; comes = refl; differs = refl })

  pub at_num : (x : ℕ) → ((y : ℕ) → P (num x) (num y)) → (e : Data) → P (num x) e
  unfolding rank way way_num pick same is_unit is_num is_truth is_text is_bag is_rec is_left is_right on_num_way on_truth_way on_text_way on_bag_way on_rec_way on_left_way on_right_way
  at_num x f unit = out (num x) unit (record { ranks = refl; goes = refl; comes = refl; differs = refl })
  at_num x f (num y) = f y
  at_num x f (truth y) = out (num x) (truth y) (record { ranks = refl; goes = refl; comes = refl; differs = refl })
  at_num x f (text y) = out (num x) (text y) (record { ranks = refl; goes = refl; comes = refl; differs = refl })
  at_num x f (bag y) = out (num x) (bag y) (record { ranks = refl; goes = refl; comes = refl; differs = refl })
  at_num x f (rec y) = out (num x) (rec y) (record { ranks = refl; goes = refl; comes = refl; differs = refl })
  at_num x f (left y) = out (num x) (left y) (record { ranks = refl; goes = refl; comes = refl; differs = refl })
  at_num x f (right y) = out (num x) (right y) (record { ranks = refl; goes = refl; comes = refl; differs = refl })

  pub at_truth : (x : Bool) → ((y : Bool) → P (truth x) (truth y)) → (e : Data) → P (truth x) e
  unfolding rank way way_num pick same is_unit is_num is_truth is_text is_bag is_rec is_left is_right on_num_way on_truth_way on_text_way on_bag_way on_rec_way on_left_way on_right_way
  at_truth x f unit = out (truth x) unit (record { ranks = refl; goes = refl; comes = refl; differs = refl })
  at_truth x f (num y) = out (truth x) (num y) (record { ranks = refl; goes = refl; comes = refl; differs = refl })
  at_truth x f (truth y) = f y
  at_truth x f (text y) = out (truth x) (text y) (record { ranks = refl; goes = refl; comes = refl; differs = refl })
  at_truth x f (bag y) = out (truth x) (bag y) (record { ranks = refl; goes = refl; comes = refl; differs = refl })
  at_truth x f (rec y) = out (truth x) (rec y) (record { ranks = refl; goes = refl; comes = refl; differs = refl })
  at_truth x f (left y) = out (truth x) (left y) (record { ranks = refl; goes = refl; comes = refl; differs = refl })
  at_truth x f (right y) = out (truth x) (right y) (record { ranks = refl; goes = refl; comes = refl; differs = refl })

  pub at_text : (x : List ℕ) → ((y : List ℕ) → P (text x) (text y)) → (e : Data) → P (text x) e
  unfolding rank way way_num pick same is_unit is_num is_truth is_text is_bag is_rec is_left is_right on_num_way on_truth_way on_text_way on_bag_way on_rec_way on_left_way on_right_way
  at_text x f unit = out (text x) unit (record { ranks = refl; goes = refl; comes = refl; differs = refl })
  at_text x f (num y) = out (text x) (num y) (record { ranks = refl; goes = refl; comes = refl; differs = refl })
  at_text x f (truth y) = out (text x) (truth y) (record { ranks = refl; goes = refl; comes = refl; differs = refl })
  at_text x f (text y) = f y
  at_text x f (bag y) = out (text x) (bag y) (record { ranks = refl; goes = refl; comes = refl; differs = refl })
  at_text x f (rec y) = out (text x) (rec y) (record { ranks = refl; goes = refl; comes = refl; differs = refl })
  at_text x f (left y) = out (text x) (left y) (record { ranks = refl; goes = refl; comes = refl; differs = refl })
  at_text x f (right y) = out (text x) (right y) (record { ranks = refl; goes = refl; comes = refl; differs = refl })

  pub at_bag : (x : Datas) → ((y : Datas) → P (bag x) (bag y)) → (e : Data) → P (bag x) e
  unfolding rank way way_num pick same is_unit is_num is_truth is_text is_bag is_rec is_left is_right on_num_way on_truth_way on_text_way on_bag_way on_rec_way on_left_way on_right_way
  at_bag x f unit = out (bag x) unit (record { ranks = refl; goes = refl; comes = refl; differs = refl })
  at_bag x f (num y) = out (bag x) (num y) (record { ranks = refl; goes = refl; comes = refl; differs = refl })
  at_bag x f (truth y) = out (bag x) (truth y) (record { ranks = refl; goes = refl; comes = refl; differs = refl })
  at_bag x f (text y) = out (bag x) (text y) (record { ranks = refl; goes = refl; comes = refl; differs = refl })
  at_bag x f (bag y) = f y
  at_bag x f (rec y) = out (bag x) (rec y) (record { ranks = refl; goes = refl; comes = refl; differs = refl })
  at_bag x f (left y) = out (bag x) (left y) (record { ranks = refl; goes = refl; comes = refl; differs = refl })
  at_bag x f (right y) = out (bag x) (right y) (record { ranks = refl; goes = refl; comes = refl; differs = refl })

  pub at_rec : (x : Fields) → ((y : Fields) → P (rec x) (rec y)) → (e : Data) → P (rec x) e
  unfolding rank way way_num pick same is_unit is_num is_truth is_text is_bag is_rec is_left is_right on_num_way on_truth_way on_text_way on_bag_way on_rec_way on_left_way on_right_way
  at_rec x f unit = out (rec x) unit (record { ranks = refl; goes = refl; comes = refl; differs = refl })
  at_rec x f (num y) = out (rec x) (num y) (record { ranks = refl; goes = refl; comes = refl; differs = refl })
  at_rec x f (truth y) = out (rec x) (truth y) (record { ranks = refl; goes = refl; comes = refl; differs = refl })
  at_rec x f (text y) = out (rec x) (text y) (record { ranks = refl; goes = refl; comes = refl; differs = refl })
  at_rec x f (bag y) = out (rec x) (bag y) (record { ranks = refl; goes = refl; comes = refl; differs = refl })
  at_rec x f (rec y) = f y
  at_rec x f (left y) = out (rec x) (left y) (record { ranks = refl; goes = refl; comes = refl; differs = refl })
  at_rec x f (right y) = out (rec x) (right y) (record { ranks = refl; goes = refl; comes = refl; differs = refl })

  pub at_left : (x : Data) → ((y : Data) → P (left x) (left y)) → (e : Data) → P (left x) e
  unfolding rank way way_num pick same is_unit is_num is_truth is_text is_bag is_rec is_left is_right on_num_way on_truth_way on_text_way on_bag_way on_rec_way on_left_way on_right_way
  at_left x f unit = out (left x) unit (record { ranks = refl; goes = refl; comes = refl; differs = refl })
  at_left x f (num y) = out (left x) (num y) (record { ranks = refl; goes = refl; comes = refl; differs = refl })
  at_left x f (truth y) = out (left x) (truth y) (record { ranks = refl; goes = refl; comes = refl; differs = refl })
  at_left x f (text y) = out (left x) (text y) (record { ranks = refl; goes = refl; comes = refl; differs = refl })
  at_left x f (bag y) = out (left x) (bag y) (record { ranks = refl; goes = refl; comes = refl; differs = refl })
  at_left x f (rec y) = out (left x) (rec y) (record { ranks = refl; goes = refl; comes = refl; differs = refl })
  at_left x f (left y) = f y
  at_left x f (right y) = out (left x) (right y) (record { ranks = refl; goes = refl; comes = refl; differs = refl })

  pub at_right : (x : Data) → ((y : Data) → P (right x) (right y)) → (e : Data) → P (right x) e
  unfolding rank way way_num pick same is_unit is_num is_truth is_text is_bag is_rec is_left is_right on_num_way on_truth_way on_text_way on_bag_way on_rec_way on_left_way on_right_way
  at_right x f unit = out (right x) unit (record { ranks = refl; goes = refl; comes = refl; differs = refl })
  at_right x f (num y) = out (right x) (num y) (record { ranks = refl; goes = refl; comes = refl; differs = refl })
  at_right x f (truth y) = out (right x) (truth y) (record { ranks = refl; goes = refl; comes = refl; differs = refl })
  at_right x f (text y) = out (right x) (text y) (record { ranks = refl; goes = refl; comes = refl; differs = refl })
  at_right x f (bag y) = out (right x) (bag y) (record { ranks = refl; goes = refl; comes = refl; differs = refl })
  at_right x f (rec y) = out (right x) (rec y) (record { ranks = refl; goes = refl; comes = refl; differs = refl })
  at_right x f (left y) = out (right x) (left y) (record { ranks = refl; goes = refl; comes = refl; differs = refl })
  at_right x f (right y) = f y
