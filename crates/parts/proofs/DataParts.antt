-- What a datum counts, from its head and the data after it.
use Rattle.std.proofs.Common.{◌≡◌, true, ℕ, suc, ◌+◌, List, [], ◌∷◌, ◌++◌, length, Some, Option, refl, ap, ◌∙◌, subst, arith}
use Rattle.query.specs.Data.{Name, Data}
use Rattle.query.specs.Size.{size_d, size_ds, size_fs, sizes}
use Rattle.format.specs.Coding.{name, counted}
use Rattle.format.specs.Wire.{write_names, data_of}
use Rattle.format.specs.Heads.{as_datas, as_fields, first_datum, DataHead, unit_h, num_h, truth_h, text_h, bag_h, rec_h, left_h, right_h, write_data_head, FitsDataHead, data_heads, data_arity, build_data}
use Rattle.format.specs.Nodes.{TellsData}
use Rattle.format.specs.declared.node.DataNode.{DataNode}
use Rattle.format.specs.declared.node.DataNode.TheVariants as dn
use Rattle.parts.specs.Counts.{total}
use Rattle.parts.specs.Heads.{own_d, Weighs, Weighed}
use Rattle.parts.proofs.Fronts.{Weights, asks_nothing}
use Rattle.parts.proofs.Aparts.{data_parted}
use Rattle.parts.proofs.Walk.{total_none}
use Rattle.parts.proofs.Owns.{tail_of, weighed_as, Holds}

datas_size : (ds : List Data) → size_ds (as_datas ds) ≡ total size_d ds
unfolding size_ds as_datas
datas_size [] = refl
datas_size (d ∷ ds) = ap (λ (n : ℕ). size_d d + n) (datas_size ds)

all_fields : (ns : List Name) (ds : List Data) → length ds ≡ length ns → size_fs (as_fields ns ds) ≡ sizes ns + total size_d ds
unfolding size_fs as_fields sizes
all_fields [] [] e = refl
all_fields [] (d ∷ ds) e = absurd (omega (arith, e))
all_fields (n ∷ ns) [] e = absurd (omega (arith, e))
all_fields (n ∷ ns) (d ∷ ds) e = omega (arith, all_fields ns ds (omega (arith, e)))

one_size : (ds : List Data) → length ds ≡ 1 → size_d (first_datum ds) ≡ total size_d ds
unfolding first_datum
one_size [] e = absurd (omega (arith, e))
one_size (d ∷ ds) e = omega (arith, total_none size_d ds (omega (arith, e)))

pub data_sizing : (h : DataHead) (ds : List Data) → length ds ≡ data_arity h → size_d (build_data h ds) ≡ suc (own_d h + total size_d ds)
unfolding size_d own_d build_data data_arity
data_sizing unit_h ds e = omega (arith, total_none size_d ds e)
data_sizing (num_h n) ds e = omega (arith, total_none size_d ds e)
data_sizing (truth_h b) ds e = omega (arith, total_none size_d ds e)
data_sizing (text_h t) ds e = omega (arith, total_none size_d ds e)
data_sizing (bag_h k) ds e = omega (arith, datas_size ds)
data_sizing (rec_h ns) ds e = omega (arith, all_fields ns ds e)
data_sizing left_h ds e = omega (arith, one_size ds e)
data_sizing right_h ds e = omega (arith, one_size ds e)

abbrev pub data_weights : Weights
data_weights = record { S = data_of; H = data_heads; arity = data_arity; build = build_data; parted = data_parted; size = size_d; own = own_d; holds = (λ _. true); good = (λ _. true); sizing = data_sizing; holding = (λ h us e. asks_nothing us) }

-- what the code's nodes say of what a head counts of its own
own_of_rest : (node : DataNode) (h : DataHead) → ((n : ℕ) → node ≡ dn.Text n → ⊥) → ((k : ℕ) → node ≡ dn.Record k → ⊥) → TellsData node h → own_d h ≡ 0
unfolding own_d
own_of_rest dn.Nothing h p q t = ap own_d t
own_of_rest (dn.Number n) h p q t = ap own_d t
own_of_rest (dn.Truth b) h p q t = ap own_d t
own_of_rest (dn.Text n) h p q t = absurd (p n refl)
own_of_rest (dn.Bag k) h p q t = ap own_d t
own_of_rest (dn.Record k) h p q t = absurd (q k refl)
own_of_rest dn.Left h p q t = ap own_d t
own_of_rest dn.Right h p q t = ap own_d t

module _ (limit : ℕ) (xs : List ℕ) (node : DataNode) where
  told : (v : DataNode) (h : DataHead) → node ≡ v → TellsData node h → TellsData v h
  told v h e s = subst (λ (w : DataNode). TellsData w h) e s

  pub own_nothing : ((n : ℕ) → node ≡ dn.Text n → ⊥) → ((k : ℕ) → node ≡ dn.Record k → ⊥) → Weighed data_heads TellsData own_d limit xs node (Some 0)
  own_nothing a b = weighed_as data_heads TellsData own_d limit xs node 0 (Some 0) (λ h s. own_of_rest node h a b s) (refl, omega arith)

  pub own_text : (n : ℕ) (r : Option ℕ) → node ≡ dn.Text n → Weighs limit n r → Weighed data_heads TellsData own_d limit xs node r
  unfolding own_d
  own_text n r e w = weighed_as data_heads TellsData own_d limit xs node n r (λ h s. let t = told (dn.Text n) h e s in ap own_d t.1 ∙ t.2) w

  pub own_names : (k : ℕ) → node ≡ dn.Record k → Holds data_heads TellsData own_d limit xs node (counted name) sizes 0
  unfolding own_d FitsDataHead write_data_head
  own_names k e h t rest f s q =
      let s' = told (dn.Record k) h e s in
      let ns = s'.0 in
      let p : t ∷ xs ≡ 6 ∷ (write_names ns ++ rest) = subst (λ (v : DataHead). t ∷ xs ≡ write_data_head v ++ rest) s'.1 q in
      record { thing = ns; fits = subst FitsDataHead s'.1 f; is = tail_of t 6 xs (write_names ns ++ rest) p; own_is = ap own_d s'.1 ∙ (let z : sizes ns ≡ 0 + sizes ns = omega arith in z) }
