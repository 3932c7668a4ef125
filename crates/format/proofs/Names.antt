-- Names and counted runs, from what was read of their counts.
use Rattle.std.proofs.Common.{◌≡◌, ℕ, ◌+◌, ◌-◌, ◌<◌, ◌≤◌, true, List, length, take, drop, replicate, subst, arith, length-drop, length-take-le}
use lib.ListN.{length-replicate}
use Rattle.query.specs.Types.{bytes}
use Rattle.format.specs.Coding.{Coding, number, raw, name, many, counted, Inhabited}
use Rattle.format.specs.Reading.{Begins, Read, ReadAs, Stuck}
use Rattle.format.specs.Lists.{bytes_drop, from, from_drop}
use Rattle.format.specs.Codings.{begins_both, stuck_first, stuck_second, number_way, raw_begins, raw_stuck, raw_some, name_splits, counted_splits}
use Rattle.format.specs.Trees.{fits_replicate}

pub name_read : (xs : List ℕ) (n : ℕ) → bytes xs ≡ true → Begins (number 4) xs 4 n → 4 + n ≤ length xs → ReadAs name xs (4 + n) (λ t. length t ≡ n)
name_read xs n b g h =
    let l : n ≤ length (drop 4 xs) = omega (arith, length-drop 4 xs) in
    record {
      thing = take n (drop 4 xs);
      begins = begins_both name (number 4) raw name_splits xs 4 n n (take n (drop 4 xs)) g (raw_begins n (drop 4 xs) (bytes_drop 4 xs b) l);
      says = length-take-le n (drop 4 xs) l;
    }

pub name_cut : (xs : List ℕ) (n : ℕ) → bytes xs ≡ true → Begins (number 4) xs 4 n → length xs - 4 < n → Stuck name xs (length xs)
name_cut xs n b g h =
    let d = length-drop 4 xs in
    let e : 4 + length (drop 4 xs) ≡ length xs = omega (arith, g.within) in
    subst (λ (v : ℕ). Stuck name xs v) e (stuck_second name (number 4) raw name_splits xs 4 (length (drop 4 xs)) n (number_way 4) g (raw_stuck n (drop 4 xs) (bytes_drop 4 xs b) (omega arith)))

pub name_short : (xs : List ℕ) (p : ℕ) → Stuck (number 4) xs p → Stuck name xs p
name_short xs p t = stuck_first name (number 4) raw name_splits xs p (λ a f. raw_some a) t

-- counted runs
module _ (S : Coding) where
  pub counted_read : (xs : List ℕ) (n e : ℕ) → Begins (number 4) xs 4 n → Read (many S n) (from 4 xs) e → ReadAs (counted S) xs (4 + e) (λ ts. length ts ≡ n)
  counted_read xs n e g r =
      let q = subst (λ (v : List ℕ). Read (many S n) v e) (from_drop 4 xs) r in
      record { thing = q.thing; begins = begins_both (counted S) (number 4) (λ k. many S k) (counted_splits S) xs 4 e n q.thing g q.begins; says = q.begins.fits.0 }

  pub counted_cut : (xs : List ℕ) (n p : ℕ) → Begins (number 4) xs 4 n → Stuck (many S n) (from 4 xs) p → Stuck (counted S) xs (4 + p)
  counted_cut xs n p g t =
      stuck_second (counted S) (number 4) (λ k. many S k) (counted_splits S) xs 4 p n (number_way 4) g (subst (λ (v : List ℕ). Stuck (many S n) v p) (from_drop 4 xs) t)

  pub counted_short : (xs : List ℕ) (p : ℕ) → Inhabited S → Stuck (number 4) xs p → Stuck (counted S) xs p
  counted_short xs p some t = stuck_first (counted S) (number 4) (λ k. many S k) (counted_splits S) xs p (λ a f. (replicate a some.thing, (length-replicate a some.thing, fits_replicate S a some.thing some.fits))) t
