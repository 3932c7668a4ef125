-- How many parts a head has: as many as were told when it was read.
use Rattle.std.specs.Prelude.{◌≡◌, ℕ, suc, ◌+◌, ◌<◌, List, [], ◌∷◌, ◌++◌, length}
use Rattle.std.proofs.Common.{sym, refl, ap, ◌∙◌, subst, arith, length-append}
use Rattle.std.proofs.lemmas.List.{append_assoc, append-nil}
use Rattle.format.specs.Coding.{Coding, writes, AllFit}
use Rattle.format.specs.Reading.{Begins, Reads, Opened}
use Rattle.format.specs.Trees.{Laws, apart, opens, many_some, tree_way}

module _ (S H : Coding) (arity : H.T → ℕ) (laws : Laws S H arity) where
  some_bytes : (t : S.T) (ts : List S.T) → S.Fits t → 0 < length (writes S (t ∷ ts))
  some_bytes t ts f =
      let a = apart S H arity laws t f in
      omega (arith, laws.long a.head a.head_fits, length-append (S.write t) (writes S ts), ap (λ (z : List ℕ). length z) a.written, length-append (H.write a.head) (writes S a.kids))

  as_many : (us vs : List S.T) → AllFit S us → AllFit S vs → writes S us ++ [] ≡ writes S vs ++ [] → length us ≡ length vs
  as_many [] [] f g q = refl
  as_many [] (v ∷ vs) f g q = let l = ap (λ (z : List ℕ). length z) (q ∙ append-nil (writes S (v ∷ vs))) in absurd (omega (arith, some_bytes v vs g.0))
  as_many (u ∷ us) [] f g q = let l = ap (λ (z : List ℕ). length z) (sym (append-nil (writes S (u ∷ us))) ∙ q) in absurd (omega (arith, some_bytes u us f.0))
  as_many (u ∷ us) (v ∷ vs) f g q =
      let r = tree_way S H arity laws u v (writes S us ++ []) (writes S vs ++ []) f.0 g.0 (sym (append_assoc (S.write u) (writes S us) []) ∙ (q ∙ append_assoc (S.write v) (writes S vs) [])) in
      ap suc (as_many us vs f.1 g.1 r.1)

  pub parts_told : (xs : List ℕ) (k e : ℕ) (h : H.T) → Begins H xs e h → Opened S xs k e → k ≡ arity h
  parts_told xs k e h b o =
      let us = many_some S H arity laws (arity h) in
      let a : Reads S (arity h + 0) (writes S us.0) [] = record { things = us.0; fits = us.1.1; many = (let m = us.1.0 in omega arith); is = sym (append-nil (writes S us.0)) } in
      let r = (o.opens 0 (writes S us.0) []).0 (subst (λ (z : List ℕ). Reads S 1 (z ++ writes S us.0) []) (sym b.is) ((opens S H arity laws h b.fits 0 (writes S us.0) []).1 a)) in
      let m = as_many us.0 r.things us.1.1 r.fits (append-nil (writes S us.0) ∙ r.is) in
      omega (arith, us.1.0, r.many)
