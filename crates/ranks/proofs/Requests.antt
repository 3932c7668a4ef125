-- All names of a request.
use Rattle.std.proofs.Common.{◌≡◌, ℕ, ◌+◌, ◌<◌, ◌≤◌, List, [], ◌∷◌, length, get_or, vec_items, vec_capacity, sym, ap, ◌∙◌, subst, arith}
use Rattle.ranks.specs.Ranks.{In, nowhere, names_at, names_of, Listed}
use Rattle.ranks.specs.Known.{Kept, TypesTaken, QueryTaken, Gathered}
use Rattle.ranks.specs.declared.names.Place.{Place}
use Rattle.ranks.specs.declared.names.Names.{Names}
use Rattle.ranks.proofs.Listings.{names_length}
use Rattle.ranks.specs.QueryLaws.{all_more}

only : (i : ℕ) → i < 1 → i ≡ 0
only i h = omega arith

module _ (xs : List ℕ) (u : Names) (e : vec_items u.places ≡ nowhere ∷ []) where
  len : length (vec_items u.places) ≡ 1
  len = ap (λ (z : List Place). length z) e

  pub begin_listed : 8200 ≤ vec_capacity u.places → Listed xs u
  begin_listed h = record {
    lie = λ i l. subst (λ (z : Place). z.start + z.length ≤ length xs) (sym (ap (λ (z : List Place). get_or z i nowhere) e ∙ ap (λ j. get_or (nowhere ∷ []) j nowhere) (only i (omega (arith, len))))) (omega arith);
    ordered = λ i j a b. absurd (omega (arith, names_length xs (vec_items u.places), len));
    few = omega (arith, len);
    cap = h;
  }

  pub begin_alone : length (names_of xs u) ≡ 1
  begin_alone = names_length xs (vec_items u.places) ∙ len

  pub begin_there : In (names_of xs u) []
  unfolding names_at
  begin_there = record { at = 0; within = omega (arith, begin_alone); is = ap (λ (z : List Place). get_or (names_at xs z) 0 []) e }

module _ (xs : List ℕ) (v s u : Names) (at count to : ℕ) (one : length (names_of xs v) ≡ 1) (none : In (names_of xs v) []) where
  pub gathered : Kept xs v s → TypesTaken xs v s at count → Kept xs s u → QueryTaken xs s u to → Gathered xs u at count to
  gathered kt tt2 kq tq = record {
    listed = kq.listed;
    few = λ ts q rest more f m l e g l2 e2. let a = tt2 ts rest f m e in let b = tq q more (kt.among [] none) g e2 in omega (arith, a.few, b.few);
    known = λ ts q rest more f m l e g l2 e2 r.
        let a = tt2 ts rest f m e in
        let b = tq q more (kt.among [] none) g e2 in
        let af = a.few in
        (all_more (names_of xs s) (names_of xs u) kq.among ts (a.knows (omega arith)), b.knows (omega arith));
  }

pub no_schema : (xs : List ℕ) (u : Names) (at count to : ℕ) → Listed xs u → length xs < at → Gathered xs u at count to
no_schema xs u at count to l h = record { listed = l; few = λ ts q rest more f m o e g o2 e2. absurd (omega arith); known = λ ts q rest more f m o e g o2 e2 r. absurd (omega arith) }

pub no_query : (xs : List ℕ) (u : Names) (at count to : ℕ) → Listed xs u → length xs < to → Gathered xs u at count to
no_query xs u at count to l h = record { listed = l; few = λ ts q rest more f m o e g o2 e2. absurd (omega arith); known = λ ts q rest more f m o e g o2 e2 r. absurd (omega arith) }
