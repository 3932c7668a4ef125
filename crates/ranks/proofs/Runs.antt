-- The names of things that stand one after the other, gathered head by head.
use Rattle.std.proofs.Common.{◌≡◌, ℕ, suc, ◌+◌, ◌-◌, ◌*◌, ◌^◌, ◌<◌, ◌≤◌, List, length, ap, subst, sym, arith, length-drop}
use Rattle.format.specs.Coding.{Coding}
use Rattle.format.specs.Reading.{Opened, Unopened}
use Rattle.format.specs.Lists.{from, from_drop}
use Rattle.ranks.specs.Ranks.{Listed}
use Rattle.ranks.specs.Known.{Kept}
use Rattle.ranks.specs.Naming.{NamedLaws}
use Rattle.ranks.specs.declared.names.Names.{Names}
use Rattle.ranks.proofs.Gathers.{kept_none, kept_two}

-- so many things are still to come: with their names, those of all things are put
pub record Going (Run : List ℕ → Names → Names → ℕ → ℕ → Type 0) (xs : List ℕ) (v u : Names) (at count k pos : ℕ) : Type 0 where
  pub within : pos ≤ length xs
  pub small : k ≤ count + 2 ^ 32 * pos
  pub kept : Kept xs v u
  pub rest : (w : Names) → Kept xs u w → Run xs u w pos k → Run xs v w at count

-- a head that was read lies in the bytes
pub opened_lies : (S : Coding) (xs : List ℕ) (pos parts e : ℕ) → pos ≤ length xs → Opened S (from pos xs) parts e → (pos + e ≤ length xs) × (0 < e) × (parts < 2 ^ 32)
opened_lies S xs pos parts e h o = (omega (arith, o.within, ap (λ (z : List ℕ). length z) (from_drop pos xs), length-drop pos xs), o.some, o.few)

module _ (S : Coding) {H : Type 0} (Told : H → List ℕ → ℕ → Type 0) (Taken : List ℕ → Names → Names → ℕ → H → Type 0) (Run : List ℕ → Names → Names → ℕ → ℕ → Type 0) (laws : NamedLaws S Told Taken Run) where
  pub going_begin : (xs : List ℕ) (v : Names) (at count : ℕ) → Listed xs v → at ≤ length xs → Going Run xs v v at count count at
  going_begin xs v at count l h = record { within = h; small = omega arith; kept = kept_none xs v l; rest = λ w k r. r }

  module _ (xs : List ℕ) (v u : Names) (at count k pos : ℕ) (g : Going Run xs v u at count k pos) where
    before : (j : ℕ) → k ≡ j → Run xs u u pos j → Run xs v u at count
    before j e r = g.rest u (kept_none xs u g.kept.listed) (subst (λ z. Run xs u u pos z) (sym e) r)

    pub going_stuck : 0 < k → (p : ℕ) → Unopened S (from pos xs) p → Run xs v u at count
    going_stuck h p s = before (suc (k - 1)) (omega arith) (laws.stuck xs u pos (k - 1) p s)

    pub going_end : k ≤ 0 → Run xs v u at count
    going_end h = before 0 (omega arith) (laws.none xs u pos)

    pub going_on : (s : Names) (m parts e : ℕ) (h : H) → 0 < k → m ≡ k - 1 + parts → Opened S (from pos xs) parts e → Told h (from pos xs) e → Kept xs u s → Taken xs u s pos h → Going Run xs v s at count m (pos + e)
    going_on s m parts e h n q o t kp ht =
        let l = opened_lies S xs pos parts e g.within o in
        record {
          within = l.0;
          small = omega (arith, g.small, l.1, l.2);
          kept = kept_two xs v u s g.kept kp;
          rest = λ w kw r.
              g.rest w (kept_two xs u s w kp kw)
              (subst (λ z. Run xs u w pos z) one (laws.step xs u s w pos (k - 1) parts e h g.within o t kp ht kw (subst (λ z. Run xs s w (pos + e) z) q r)));
        }
      where
        one : suc (k - 1) ≡ k
        one = omega arith
