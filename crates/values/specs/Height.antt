-- How deep data and types nest.
use Rattle.std.specs.Prelude.{ℕ, suc, max}
use Rattle.query.specs.Data.{Data, unit, num, truth, text, bag, rec, left, right, Datas, none, more, Fields, no_field, field}
use Rattle.query.specs.Query.{Ty, a_unit, a_num, a_truth, a_text, a_bag, a_rec, an_either, Tys, no_ty, ty}

unfoldable mutual
  pub height : Data → ℕ
  height unit = 0
  height (num n) = 0
  height (truth b) = 0
  height (text t) = 0
  height (bag ds) = suc (height_all ds)
  height (rec fs) = suc (height_fields fs)
  height (left d) = suc (height d)
  height (right d) = suc (height d)

  pub height_all : Datas → ℕ
  height_all none = 0
  height_all (more d ds) = max (height d) (height_all ds)

  pub height_fields : Fields → ℕ
  height_fields no_field = 0
  height_fields (field n d fs) = max (height d) (height_fields fs)

unfoldable mutual
  pub height_ty : Ty → ℕ
  height_ty a_unit = 0
  height_ty a_num = 0
  height_ty a_truth = 0
  height_ty a_text = 0
  height_ty (a_bag t) = suc (height_ty t)
  height_ty (a_rec ts) = suc (height_tys ts)
  height_ty (an_either t u) = suc (max (height_ty t) (height_ty u))

  pub height_tys : Tys → ℕ
  height_tys no_ty = 0
  height_tys (ty n t ts) = max (height_ty t) (height_tys ts)
