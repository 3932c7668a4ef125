-- What a head counts of its own, from what stands in it.
use Rattle.std.proofs.Common.{◌≡◌, ℕ, ◌+◌, ◌-◌, List, ◌∷◌, ◌++◌, length, Some, None, Option, sym, ◌∙◌, subst, arith, length-append}
use Rattle.std.proofs.lemmas.List.{append_assoc}
use Rattle.format.specs.Coding.{Coding, both_of}
use Rattle.format.specs.Lists.{from, from_drop}
use Rattle.parts.specs.declared.counted.Counted.{Counted}
use Rattle.parts.specs.Counts.{Counts, CountedInFront}
use Rattle.parts.specs.Heads.{Weighs, BoundedBy, Weighed}
use Rattle.parts.proofs.Walk.{from_length, drop_front}

pub tail_of : (t u : ℕ) (xs ys : List ℕ) → t ∷ xs ≡ u ∷ ys → xs ≡ ys
tail_of t u xs ys e = cc

weighs_bounded : (limit s : ℕ) (r : Option ℕ) → Weighs limit s r → BoundedBy limit r
weighs_bounded limit s None w = tt
weighs_bounded limit s (Some n) w = omega (arith, w)

-- one thing and then another, counted one after the other
module _ (A B : Coding) (f : A.T → ℕ) (g : B.T → ℕ) (limit : ℕ) (xs : List ℕ) where
  abbrev pub pair_size : (both_of A B).T → ℕ
  pair_size p = f p.0 + g p.1

  pub pair_over : CountedInFront A f limit xs None → CountedInFront (both_of A B) pair_size limit xs None
  pair_over c = record { counts = λ p rest h q. omega (arith, c.counts p.0 (B.write p.1 ++ rest) h.0 (q ∙ append_assoc (A.write p.0) (B.write p.1) rest)); bounded = tt }

  module _ (a : Counted) (c : CountedInFront A f limit xs (Some a)) where
    second : (p : (both_of A B).T) (rest : List ℕ) → (both_of A B).Fits p → xs ≡ (both_of A B).write p ++ rest → Counts limit (f p.0) (length (A.write p.0)) (Some a) × (from a.length xs ≡ B.write p.1 ++ rest)
    second p rest h q =
        let e = q ∙ append_assoc (A.write p.0) (B.write p.1) rest in
        let k = c.counts p.0 (B.write p.1 ++ rest) h.0 e in
        let l : a.length ≡ length (A.write p.0) = k.2 in
        (k, from_drop a.length xs ∙ drop_front a.length xs (A.write p.0) (B.write p.1 ++ rest) e l)

    pub pair_second : CountedInFront B g (limit - a.parts) (from a.length xs) None → CountedInFront (both_of A B) pair_size limit xs None
    pair_second d =
        record { counts = λ p rest h q. let s = second p rest h q in omega (arith, s.0.0, s.0.1, d.counts p.1 rest h.1 s.1); bounded = tt }

    pub pair_done : (b : Counted) → CountedInFront B g (limit - a.parts) (from a.length xs) (Some b) → CountedInFront (both_of A B) pair_size limit xs (Some record { parts = a.parts + b.parts; length = a.length + b.length })
    pair_done b d =
        record {
          counts = λ p rest h q.
              let s = second p rest h q in
              let k = d.counts p.1 rest h.1 s.1 in
              (omega (arith, s.0.0, k.0), omega (arith, s.0.0, s.0.1, k.1), omega (arith, s.0.2, k.2, length-append (A.write p.0) (B.write p.1)));
          bounded = (omega (arith, c.bounded, d.bounded), omega (arith, c.bounded, d.bounded, from_length a.length xs));
        }

module _ (H : Coding) {N : Type 0} (Tells : N → H.T → Type 0) (own : H.T → ℕ) (limit : ℕ) (xs : List ℕ) (node : N) where
  -- a head that counts what its node says
  pub weighed_as : (s : ℕ) (r : Option ℕ) → ((h : H.T) → Tells node h → own h ≡ s) → Weighs limit s r → Weighed H Tells own limit xs node r
  weighed_as s r o w = record { weighs = λ h t rest f n q. subst (λ (v : ℕ). Weighs limit v r) (sym (o h n)) w; bounded = weighs_bounded limit s r w }

  -- something of a sort stands in the head after its tag
  pub record Held (S : Coding) (size : S.T → ℕ) (base : ℕ) (h : H.T) (rest : List ℕ) : Type 0 where
    pub thing : S.T
    pub fits : S.Fits thing
    pub is : xs ≡ S.write thing ++ rest
    pub own_is : own h ≡ base + size thing

  abbrev pub Holds : (S : Coding) → (S.T → ℕ) → ℕ → Type 0
  Holds S size base = (h : H.T) (t : ℕ) (rest : List ℕ) → H.Fits h → Tells node h → t ∷ xs ≡ H.write h ++ rest → Held S size base h rest

  module _ (S : Coding) (size : S.T → ℕ) (base lower : ℕ) (holds : Holds S size base) (l : lower + base ≡ limit) where
    pub weighed_over : CountedInFront S size lower xs None → Weighed H Tells own limit xs node None
    weighed_over c = record { weighs = λ h t rest f n q. let d = holds h t rest f n q in omega (arith, d.own_is, c.counts d.thing rest d.fits d.is); bounded = tt }

    pub weighed_some : (c : Counted) (m : ℕ) → m ≡ base + c.parts → CountedInFront S size lower xs (Some c) → Weighed H Tells own limit xs node (Some m)
    weighed_some c m e g =
        record {
          weighs = λ h t rest f n q.
              let d = holds h t rest f n q in
              let k = g.counts d.thing rest d.fits d.is in
              (omega (arith, d.own_is, k.0), omega (arith, d.own_is, k.1));
          bounded = omega (arith, g.bounded);
        }
