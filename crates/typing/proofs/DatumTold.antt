-- Data that are written out, and matchings by two names.
use Rattle.std.proofs.Common.{◌≡◌, ℕ, ◌+◌, ◌<◌, ◌≤◌, Bool, true, false, ◌&&◌, List, [], ◌∷◌, ◌++◌, length, get_or, drop, Some, None, Option, sym, refl, ap, ◌∙◌, ap₂, arith, length-append}
use Rattle.std.proofs.lemmas.List.{append_assoc}
use Rattle.query.specs.Data.{Name}
use Rattle.query.specs.Query.{Ty}
use Rattle.query.specs.Types.{sound, is_of, if_so}
use Rattle.format.specs.Coding.{le, name}
use Rattle.format.specs.Bytes.{length_le}
use Rattle.format.specs.Lists.{from, from_drop}
use Rattle.of_type.specs.Told.{IsOfTold}
use Rattle.ranks.specs.Ranks.{names_of}
use Rattle.ranks.specs.declared.names.Names.{Names}
use Rattle.ranks.specs.Placed.{after_front, front_within}
use Rattle.types.specs.Shapes.{type_at}
use Rattle.types.specs.Operators.{matched_ty}
use Rattle.types.specs.Outcomes.{look, Meant}
use Rattle.types.specs.declared.table.Table.{Table}
use Rattle.types.proofs.Meanings.{meant_as}
use Rattle.typing.specs.Typed.{TypeTold, NameTold, DatumTold, MatchedTold}

and_so : (a b : Bool) (y : Ty) → b ≡ true → if_so (a && b) (y ∷ []) ≡ if_so a (y ∷ [])
and_so true b y e = ap (λ (z : Bool). if_so z (y ∷ [])) e
and_so false b y e = refl

and_none : (a b : Bool) (y : Ty) → if_so a (y ∷ []) ≡ [] → if_so (a && b) (y ∷ []) ≡ []
unfolding if_so
and_none true b y e = let z : ◌≡◌ {A = ℕ} 0 1 = cc in absurd (omega arith)
and_none false b y e = refl

and_not : (a b : Bool) (y : Ty) → b ≡ false → if_so (a && b) (y ∷ []) ≡ []
unfolding if_so
and_not true b y e = ap (λ (z : Bool). if_so z (y ∷ [])) e
and_not false b y e = refl

module _ (xs : List ℕ) (v : Names) (t u : Table) (at to : ℕ) where
  pub datum_none : TypeTold xs v t u at None → DatumTold xs v t u at to None
  datum_none g y d rest more f fd q qd k s =
      let m = g y rest f q k s in
      record { few = m.few; slim = m.slim; means = λ o. and_none (sound y) (is_of d y) y (m.means o) }

  pub datum_not : (x : ℕ) → TypeTold xs v t u at (Some x) → IsOfTold 8192 (from to xs) (from at xs) None → DatumTold xs v t u at to None
  datum_not x g i y d rest more f fd q qd k s =
      let m = g y rest f q k s in
      record { few = m.few; slim = m.slim; means = λ o. and_not (sound y) (is_of d y) y (i.tells d y more rest fd f (from_drop to xs ∙ qd) (from_drop at xs ∙ q) s) }

  pub datum_some : (x e : ℕ) → TypeTold xs v t u at (Some x) → IsOfTold 8192 (from to xs) (from at xs) (Some e) → DatumTold xs v t u at to (Some x)
  datum_some x e g i y d rest more f fd q qd k s =
      let m = g y rest f q k s in
      record { few = m.few; slim = m.slim; means = λ o. and_so (sound y) (is_of d y) y (i.tells d y more rest fd f (from_drop to xs ∙ qd) (from_drop at xs ∙ q) s).0 ∙ m.means o }

module _ (xs : List ℕ) (v : Names) (t : Table) (at j k x y : ℕ) (h : at < length xs) where
  first_at : (tag : ℕ) (m n : Name) (rest : List ℕ) → drop at xs ≡ (tag ∷ (name.write m ++ name.write n)) ++ rest → drop (at + 1) xs ≡ name.write m ++ (name.write n ++ rest)
  first_at tag m n rest q = after_front xs (tag ∷ []) ((name.write m ++ name.write n) ++ rest) at q ∙ append_assoc (name.write m) (name.write n) rest

  long : (m : Name) → length m ≡ j → length (name.write m) ≡ 4 + j
  long m e = length-append (le 4 (length m)) m ∙ ap₂ (λ c d. c + d) (length_le 4 (length m)) e

  second_at : (tag : ℕ) (m n : Name) (rest : List ℕ) → length m ≡ j → drop at xs ≡ (tag ∷ (name.write m ++ name.write n)) ++ rest → (drop ((at + 1) + (4 + j)) xs ≡ name.write n ++ rest) × ((at + 1) + (4 + j) ≤ length xs)
  second_at tag m n rest e q =
      let a = first_at tag m n rest q in
      let l = long m e in
      (ap (λ z. drop ((at + 1) + z) xs) (sym l) ∙ after_front xs (name.write m) (name.write n ++ rest) (at + 1) a, omega (arith, front_within xs (name.write m) (name.write n ++ rest) (at + 1) (omega arith) a))

  pub no_first : NameTold xs v (at + 1) j None → MatchedTold xs v t t at j k x y None
  no_first g tag m n rest f fn e en q i l = absurd (g.tells m (name.write n ++ rest) f e (omega arith) (first_at tag m n rest q) i)

  pub no_place : ((at + 1) + (4 + j) ≤ length xs → ⊥) → MatchedTold xs v t t at j k x y None
  no_place g tag m n rest f fn e en q i l = absurd (g (second_at tag m n rest e q).1)

  pub no_second : NameTold xs v ((at + 1) + (4 + j)) k None → MatchedTold xs v t t at j k x y None
  no_second g tag m n rest f fn e en q i l = let s = second_at tag m n rest e q in absurd (g.tells n rest fn en s.1 s.0 l)

  pub both_names : (u : Table) (a b : ℕ) (r : Option ℕ) → NameTold xs v (at + 1) j (Some a) → NameTold xs v ((at + 1) + (4 + j)) k (Some b)
      → Meant (names_of xs v) t u 2 t.names r (matched_ty (get_or (names_of xs v) a []) (get_or (names_of xs v) b []) (type_at (names_of xs v) (look t) x) (type_at (names_of xs v) (look t) y)) → MatchedTold xs v t u at j k x y r
  both_names u a b r g g2 mt tag m n rest f fn e en q i l =
      let s = second_at tag m n rest e q in
      let p : get_or (names_of xs v) a [] ≡ m = g.tells m (name.write n ++ rest) f e (omega arith) (first_at tag m n rest q) i in
      let p2 : get_or (names_of xs v) b [] ≡ n = g2.tells n rest fn en s.1 s.0 l in
      meant_as mt _ (ap₂ (λ (c d : Name). matched_ty c d (type_at (names_of xs v) (look t) x) (type_at (names_of xs v) (look t) y)) (sym p) (sym p2))
