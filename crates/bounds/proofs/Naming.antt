-- Records by the names they have.
use mathlib.Core.Path.{◌≡◌, refl}
use mathlib.Core.Bool.{Bool, true, false, ◌&&◌}
use mathlib.Core.List.{List, [], ◌∷◌, ◌++◌}
use Prim.Native.Nat.{ℕ}
use native.Mathlib.Omega.{arith}
use Rattle.query.specs.Data.{Name, pick, same_text, less_text, one_of}
use Rattle.query.specs.Query.{Ty, a_unit, a_num, a_truth, a_text, a_bag, a_rec, an_either, Tys, no_ty, ty}
use Rattle.query.specs.Types.{get_ty, put_ty, both_tys, left_out_ty, only_tys}
use Rattle.query.proofs.Tests.{and_l, and_r, and_i}
use Rattle.query.proofs.TypeParts.{heads}
use Rattle.bounds.specs.Names.{named, nameds, names_in, names_in_all, all_in}
use Rattle.bounds.proofs.Lists.{all_in_first, all_in_second}

module _ (ns : List Name) where
  pub nameds_out : (n : Name) (t : Ty) (ts : Tys) → nameds ns (ty n t ts) ≡ true → (one_of n ns ≡ true) × (named ns t ≡ true) × (nameds ns ts ≡ true)
  unfolding nameds
  nameds_out n t ts h =
      let r = and_r (one_of n ns) (named ns t && nameds ns ts) h in
      (and_l (one_of n ns) (named ns t && nameds ns ts) h, and_l (named ns t) (nameds ns ts) r, and_r (named ns t) (nameds ns ts) r)

  pub nameds_in : (n : Name) (t : Ty) (ts : Tys) → one_of n ns ≡ true → named ns t ≡ true → nameds ns ts ≡ true → nameds ns (ty n t ts) ≡ true
  unfolding nameds
  nameds_in n t ts a b c = and_i (one_of n ns) (named ns t && nameds ns ts) a (and_i (named ns t) (nameds ns ts) b c)

  pub get_named : (n : Name) (ts : Tys) (v : Ty) (m : List Ty) → nameds ns ts ≡ true → get_ty n ts ≡ v ∷ m → named ns v ≡ true
  unfolding get_ty pick
  get_named n no_ty v m h e = absurd (let z : ◌≡◌ {A = ℕ} 0 1 = cc in omega arith)
  get_named n (ty k t ts) v m h e = let o = nameds_out k t ts h in go (same_text n k) o.1 (λ f. get_named n ts v m o.2 f) e
    where
      go : (b : Bool) → named ns t ≡ true → (get_ty n ts ≡ v ∷ m → named ns v ≡ true) → pick b (t ∷ []) (get_ty n ts) ≡ v ∷ m → named ns v ≡ true
      go true h f e = rw (heads t v [] m e) at h
      go false h f e = f e

  put_named : (n : Name) (t : Ty) (ts : Tys) → one_of n ns ≡ true → named ns t ≡ true → nameds ns ts ≡ true → nameds ns (put_ty n t ts) ≡ true
  unfolding put_ty pick
  put_named n t no_ty a b h = nameds_in n t no_ty a b h
  put_named n t (ty m u ts) a b h = let o = nameds_out m u ts h in go (same_text n m) (less_text n m) o.2 (put_named n t ts a b o.2) o.0 o.1
    where
      go : (x y : Bool) → nameds ns ts ≡ true → nameds ns (put_ty n t ts) ≡ true → one_of m ns ≡ true → named ns u ≡ true → nameds ns (pick x (ty n t ts) (pick y (ty n t (ty m u ts)) (ty m u (put_ty n t ts)))) ≡ true
      go true y c d i j = nameds_in n t ts a b c
      go false true c d i j = nameds_in n t (ty m u ts) a b h
      go false false c d i j = nameds_in m u (put_ty n t ts) i j d

  pub both_named : (ts us : Tys) → nameds ns ts ≡ true → nameds ns us ≡ true → nameds ns (both_tys ts us) ≡ true
  unfolding both_tys
  both_named ts no_ty a b = a
  both_named ts (ty n t us) a b = let o = nameds_out n t us b in both_named (put_ty n t ts) us (put_named n t ts o.0 o.1 a) o.2

  pub left_out_named : (n : Name) (ts : Tys) → nameds ns ts ≡ true → nameds ns (left_out_ty n ts) ≡ true
  unfolding left_out_ty pick
  left_out_named n no_ty h = h
  left_out_named n (ty m t ts) h = let o = nameds_out m t ts h in go (same_text n m) o.2 (nameds_in m t (left_out_ty n ts) o.0 o.1 (left_out_named n ts o.2))
    where
      go : (b : Bool) → nameds ns ts ≡ true → nameds ns (ty m t (left_out_ty n ts)) ≡ true → nameds ns (pick b ts (ty m t (left_out_ty n ts))) ≡ true
      go true a c = a
      go false a c = c

  pub only_named : (ks : List Name) (ts : Tys) → nameds ns ts ≡ true → nameds ns (only_tys ks ts) ≡ true
  unfolding only_tys pick
  only_named ks no_ty h = h
  only_named ks (ty m t ts) h = let o = nameds_out m t ts h in let r = only_named ks ts o.2 in go (one_of m ks) (nameds_in m t (only_tys ks ts) o.0 o.1 r) r
    where
      go : (b : Bool) → nameds ns (ty m t (only_tys ks ts)) ≡ true → nameds ns (only_tys ks ts) ≡ true → nameds ns (pick b (ty m t (only_tys ks ts)) (only_tys ks ts)) ≡ true
      go true a c = a
      go false a c = c

  -- a type that is written out has the names that stand in it
  mutual
    unfolding named nameds names_in names_in_all all_in

    pub type_names : (t : Ty) → all_in (names_in t) ns ≡ true → named ns t ≡ true
    type_names a_unit h = refl
    type_names a_num h = refl
    type_names a_truth h = refl
    type_names a_text h = refl
    type_names (a_bag t) h = type_names t h
    type_names (a_rec ts) h = types_names ts h
    type_names (an_either t u) h = and_i (named ns t) (named ns u) (type_names t (all_in_first (names_in t) (names_in u) ns h)) (type_names u (all_in_second (names_in t) (names_in u) ns h))

    types_names : (ts : Tys) → all_in (names_in_all ts) ns ≡ true → nameds ns ts ≡ true
    types_names no_ty h = refl
    types_names (ty n t ts) h =
        let r = and_r (one_of n ns) (all_in (names_in t ++ names_in_all ts) ns) h in
        and_i (one_of n ns) (named ns t && nameds ns ts) (and_l (one_of n ns) (all_in (names_in t ++ names_in_all ts) ns) h)
        (and_i (named ns t) (nameds ns ts) (type_names t (all_in_first (names_in t) (names_in_all ts) ns r)) (types_names ts (all_in_second (names_in t) (names_in_all ts) ns r)))
