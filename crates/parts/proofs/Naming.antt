-- Names counted: one, several, and several after their count.
use Rattle.std.proofs.Common.{◌≡◌, ℕ, suc, ◌+◌, ◌<◌, ◌≤◌, true, Option, List, [], ◌∷◌, ◌++◌, length, drop, Some, None, sym, refl, ap, ◌∙◌, subst, arith, length-append}
use Rattle.std.proofs.lemmas.List.{append_assoc}
use Rattle.query.specs.Data.{Name}
use Rattle.query.specs.Size.{sizes}
use Rattle.format.specs.Coding.{Coding, le, number, name, writes, many, counted}
use Rattle.format.specs.Reading.{Begins, ReadAs, Stuck}
use Rattle.format.specs.Lists.{from, from_drop, split_at}
use Rattle.format.specs.Bytes.{length_le}
use Rattle.format.specs.Codings.{name_way, number_way}
use Rattle.parts.specs.declared.counted.Counted.{Counted}
use Rattle.parts.specs.declared.measured.Front.{Front}
use Rattle.parts.specs.Counts.{total, Counts, CountedInFront, FrontTold}
use Rattle.parts.proofs.Walk.{from_length}

abbrev pub name_size : Name → ℕ
name_size n = suc (length n)

pub total_sizes : (ns : List Name) → total name_size ns ≡ sizes ns
unfolding sizes
total_sizes [] = refl
total_sizes (n ∷ ns) = omega (arith, total_sizes ns)

-- one name
module _ (limit : ℕ) (xs : List ℕ) where
  abbrev NameTold : Option Front → Type 0
  NameTold r = FrontTold name name_size (λ _. true) limit xs r

  module _ (n : ℕ) (r : ReadAs name xs (4 + n) (λ t. length t ≡ n)) where
    -- the name that was read is the one that stands in front
    same : (m : Name) (rest : List ℕ) → name.Fits m → xs ≡ name.write m ++ rest → (length m ≡ n) × (drop (4 + n) xs ≡ rest)
    same m rest f q =
        let w = name_way r.thing m (drop (4 + n) xs) rest r.begins.fits f (sym (split_at (4 + n) xs (name.write r.thing) r.begins.is) ∙ q) in
        (sym (ap length w.0) ∙ r.says, w.1)

    pub name_long : limit ≤ n → NameTold None
    name_long h = record { tells = λ m rest f q l. absurd (omega (arith, (same m rest f q).0)); bounded = tt }

    pub name_done : n < limit → NameTold (Some record { own = 1 + n; after = 0; length = 4 + n })
    name_done h =
        record {
          tells = λ m rest f q. let s = same m rest f q in record { kids = []; many = refl; fits = tt; after = s.1; size_is = omega (arith, s.0); holds_is = refl };
          bounded = (omega arith, omega arith, r.begins.within, omega arith);
        }

-- several names, by another count of the same
pub names_counted : (k limit : ℕ) (xs : List ℕ) (r : Option Counted) → CountedInFront (many name k) (total name_size) limit xs r → CountedInFront (many name k) sizes limit xs r
names_counted k limit xs r c = record { counts = λ ns rest f q. subst (λ (n : ℕ). Counts limit n (length (writes name ns)) r) (total_sizes ns) (c.counts ns rest f q); bounded = c.bounded }

-- a count, and as many of a sort
pub after_count : (S : Coding) (xs : List ℕ) (n : ℕ) → Begins (number 4) xs 4 n → (us : List S.T) (rest : List ℕ) → (counted S).Fits us → xs ≡ (counted S).write us ++ rest → (length us ≡ n) × (drop 4 xs ≡ writes S us ++ rest)
after_count S xs n b us rest f q =
    let w = number_way 4 n (length us) (drop 4 xs) (writes S us ++ rest) b.fits f.0 (sym (split_at 4 xs (le 4 n) b.is) ∙ q ∙ append_assoc (le 4 (length us)) (writes S us) rest) in
    (sym w.0, w.1)

module _ (S : Coding) (size : List S.T → ℕ) (limit : ℕ) (xs : List ℕ) where
  module _ (n : ℕ) (b : Begins (number 4) xs 4 n) where
    pub listed_over : CountedInFront (many S n) size limit (from 4 xs) None → CountedInFront (counted S) size limit xs None
    listed_over c = record { counts = λ us rest f q. let a = after_count S xs n b us rest f q in c.counts us rest (a.0, f.1) (from_drop 4 xs ∙ a.1); bounded = tt }

    pub listed_done : (c : Counted) → CountedInFront (many S n) size limit (from 4 xs) (Some c) → CountedInFront (counted S) size limit xs (Some record { parts = c.parts; length = 4 + c.length })
    listed_done c g =
        record {
          counts = λ us rest f q.
              let a = after_count S xs n b us rest f q in
              let t = g.counts us rest (a.0, f.1) (from_drop 4 xs ∙ a.1) in
              (t.0, t.1, omega (arith, t.2, length-append (le 4 (length us)) (writes S us), length_le 4 (length us)));
          bounded = (g.bounded.0, omega (arith, g.bounded, from_length 4 xs, b.within));
        }
