-- Data and types as a head and what is written after it, and what stands at a place where a head was read.
use Rattle.std.proofs.Common.{◌≡◌, ℕ, ◌-◌, ◌≤◌, List, [], ◌∷◌, ◌++◌, length, drop, sym, refl, ap, ◌∙◌, arith, length-drop}
use Rattle.std.proofs.lemmas.List.{append_assoc, append-nil}
use Rattle.query.specs.Data.{Data, unit, num, truth, text, bag, rec, left, right, how_many}
use Rattle.query.specs.Query.{Ty, a_unit, a_num, a_truth, a_text, a_bag, a_rec, an_either}
use Rattle.format.specs.Coding.{Coding, le, name}
use Rattle.format.specs.Wire.{names, names_ty, write_ty, write_tys, FitsTy, write_data, write_datas, write_values, FitsData}
use Rattle.format.specs.Heads.{DataHead, unit_h, num_h, truth_h, text_h, bag_h, rec_h, left_h, right_h, write_data_head, FitsDataHead, data_heads, TyHead, unit_t, num_t, truth_t, text_t, bag_t, rec_t, either_t, write_ty_head, FitsTyHead, ty_heads}
use Rattle.format.specs.Reading.{Begins, NoneInFront, OneWay}
use Rattle.format.specs.Lists.{split_at, from, from_drop}
use Rattle.format.specs.DataLaws.{data_laws}
use Rattle.format.specs.TypeLaws.{ty_laws}

abbrev pub head_of : Data → DataHead
head_of unit = unit_h
head_of (num n) = num_h n
head_of (truth b) = truth_h b
head_of (text t) = text_h t
head_of (bag ds) = bag_h (how_many ds)
head_of (rec fs) = rec_h (names fs)
head_of (left d) = left_h
head_of (right d) = right_h

-- what is written after the head
abbrev pub tail_of : Data → List ℕ
tail_of unit = []
tail_of (num n) = []
tail_of (truth b) = []
tail_of (text t) = []
tail_of (bag ds) = write_datas ds
tail_of (rec fs) = write_values fs
tail_of (left d) = write_data d
tail_of (right d) = write_data d

head_fits : (d : Data) → FitsData d → FitsDataHead (head_of d)
unfolding FitsData FitsDataHead
head_fits unit f = tt
head_fits (num n) f = f
head_fits (truth b) f = tt
head_fits (text t) f = f
head_fits (bag ds) f = f.0
head_fits (rec fs) f = f.0
head_fits (left d) f = tt
head_fits (right d) f = tt

head_written : (d : Data) → write_data d ≡ write_data_head (head_of d) ++ tail_of d
unfolding write_data write_data_head
head_written unit = refl
head_written (num n) = ap (λ (v : List ℕ). 1 ∷ v) (sym (append-nil (le 8 n)))
head_written (truth b) = refl
head_written (text t) = ap (λ (v : List ℕ). 4 ∷ v) (sym (append-nil (name.write t)))
head_written (bag ds) = refl
head_written (rec fs) = refl
head_written (left d) = refl
head_written (right d) = refl

abbrev pub head_ty : Ty → TyHead
head_ty a_unit = unit_t
head_ty a_num = num_t
head_ty a_truth = truth_t
head_ty a_text = text_t
head_ty (a_bag t) = bag_t
head_ty (a_rec ts) = rec_t (names_ty ts)
head_ty (an_either t u) = either_t

abbrev pub tail_ty : Ty → List ℕ
tail_ty a_unit = []
tail_ty a_num = []
tail_ty a_truth = []
tail_ty a_text = []
tail_ty (a_bag t) = write_ty t
tail_ty (a_rec ts) = write_tys ts
tail_ty (an_either t u) = write_ty t ++ write_ty u

head_ty_fits : (t : Ty) → FitsTy t → FitsTyHead (head_ty t)
unfolding FitsTy FitsTyHead
head_ty_fits a_unit f = tt
head_ty_fits a_num f = tt
head_ty_fits a_truth f = tt
head_ty_fits a_text f = tt
head_ty_fits (a_bag t) f = tt
head_ty_fits (a_rec ts) f = f.0
head_ty_fits (an_either t u) f = tt

head_ty_written : (t : Ty) → write_ty t ≡ write_ty_head (head_ty t) ++ tail_ty t
unfolding write_ty write_ty_head
head_ty_written a_unit = refl
head_ty_written a_num = refl
head_ty_written a_truth = refl
head_ty_written a_text = refl
head_ty_written (a_bag t) = refl
head_ty_written (a_rec ts) = refl
head_ty_written (an_either t u) = refl

-- what was read in front is what stands there
pub front : (H : Coding) → OneWay H → (xs : List ℕ) (e : ℕ) (h g : H.T) (more : List ℕ) → Begins H xs e h → H.Fits g → xs ≡ H.write g ++ more → (h ≡ g) × (from e xs ≡ more)
front H way xs e h g more b f q = let w = way h g (drop e xs) more b.fits f (sym (split_at e xs (H.write h) b.is) ∙ q) in (w.0, from_drop e xs ∙ w.1)

-- what comes after is no longer
pub shorter : (e : ℕ) (xs : List ℕ) → length (from e xs) ≤ length xs
shorter e xs = let l : length (from e xs) ≡ length xs - e = ap length (from_drop e xs) ∙ length-drop e xs in omega arith

apart : (h w xs rest tl : List ℕ) → w ≡ h ++ tl → xs ≡ w ++ rest → xs ≡ h ++ (tl ++ rest)
apart h w xs rest tl e q = q ∙ ap (λ (v : List ℕ). v ++ rest) e ∙ append_assoc h tl rest

module _ (xs : List ℕ) (d : Data) (rest : List ℕ) (f : FitsData d) (q : xs ≡ write_data d ++ rest) where
  data_apart : xs ≡ write_data_head (head_of d) ++ (tail_of d ++ rest)
  data_apart = apart (write_data_head (head_of d)) (write_data d) xs rest (tail_of d) (head_written d) q

  pub data_front : (e : ℕ) (h : DataHead) → Begins data_heads xs e h → (h ≡ head_of d) × (from e xs ≡ tail_of d ++ rest)
  data_front e h b = front data_heads data_laws.one_way xs e h (head_of d) (tail_of d ++ rest) b (head_fits d f) data_apart

  pub data_some : NoneInFront data_heads xs → ⊥
  data_some n = n (head_of d) (tail_of d ++ rest) (head_fits d f) data_apart

module _ (ys : List ℕ) (t : Ty) (rest : List ℕ) (f : FitsTy t) (q : ys ≡ write_ty t ++ rest) where
  ty_apart : ys ≡ write_ty_head (head_ty t) ++ (tail_ty t ++ rest)
  ty_apart = apart (write_ty_head (head_ty t)) (write_ty t) ys rest (tail_ty t) (head_ty_written t) q

  pub ty_front : (e : ℕ) (h : TyHead) → Begins ty_heads ys e h → (h ≡ head_ty t) × (from e ys ≡ tail_ty t ++ rest)
  ty_front e h b = front ty_heads ty_laws.one_way ys e h (head_ty t) (tail_ty t ++ rest) b (head_ty_fits t f) ty_apart

  pub ty_some : NoneInFront ty_heads ys → ⊥
  ty_some n = n (head_ty t) (tail_ty t ++ rest) (head_ty_fits t f) ty_apart
