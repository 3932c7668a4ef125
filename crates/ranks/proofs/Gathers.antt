-- Names put among the others, one after the other.
use Rattle.std.proofs.Common.{◌≡◌, ℕ, ◌+◌, ◌<◌, ◌≤◌, List, [], ◌∷◌, ◌++◌, length, take, drop, sym, ap, ◌∙◌, subst, arith}
use Rattle.std.proofs.lemmas.List.{append_assoc}
use Rattle.query.specs.Data.{Name}
use Rattle.format.specs.Coding.{name, writes, AllFit}
use Rattle.format.specs.Reading.{ReadAs, Stuck}
use Rattle.format.specs.Lists.{from}
use Rattle.format.specs.Codings.{name_way}
use Rattle.ranks.specs.Ranks.{In, Among, names_of, Listed, Put}
use Rattle.ranks.specs.Known.{AllIn, Kept, Took, NamesTaken}
use Rattle.ranks.specs.declared.names.Names.{Names}
use Rattle.ranks.specs.Placed.{read_same, read_next, read_within, not_stuck, name_bytes}

pub kept_none : (xs : List ℕ) (v : Names) → Listed xs v → Kept xs v v
kept_none xs v l = record { listed = l; among = λ n m. m }

pub kept_two : (xs : List ℕ) (v u s : Names) → Kept xs v u → Kept xs u s → Kept xs v s
kept_two xs v u s a b = record { listed = b.listed; among = λ n m. b.among n (a.among n m) }

pub kept_put : (xs : List ℕ) (v u : Names) (n : Name) → Put xs v u n → Kept xs v u
kept_put xs v u n p = record { listed = p.listed; among = p.among }

-- what is to come of names that stand one after the other
pub record ToCome (xs : List ℕ) (v u : Names) (k i pos : ℕ) (ms : List Name) (rest : List ℕ) : Type 0 where
  pub us : List Name
  pub fits : AllFit name us
  pub many : length us + i ≡ k
  pub is : drop pos xs ≡ writes name us ++ rest
  pub knows : length (names_of xs v) + k ≤ 8200 → (vs : List Name) → Among (names_of xs u) vs → AllIn vs us → AllIn vs ms

pub record Naming (xs : List ℕ) (v u : Names) (at k i pos : ℕ) : Type 0 where
  pub within : pos ≤ length xs
  pub kept : Kept xs v u
  pub few : length (names_of xs u) ≤ length (names_of xs v) + i
  pub comes : (ms : List Name) (rest : List ℕ) → AllFit name ms → length ms ≡ k → drop at xs ≡ writes name ms ++ rest → ToCome xs v u k i pos ms rest

pub naming_begin : (xs : List ℕ) (v : Names) (at k : ℕ) → Listed xs v → at ≤ length xs → Naming xs v v at k 0 at
naming_begin xs v at k l h = record {
  within = h;
  kept = kept_none xs v l;
  few = omega arith;
  comes = λ ms rest f m q. record { us = ms; fits = f; many = omega arith; is = q; knows = λ o vs a g. g };
}

module _ (xs : List ℕ) (v u s : Names) (at k i pos n : ℕ) (h : i < k) (g : Naming xs v u at k i pos) where
  pub naming_lies : ReadAs name (from pos xs) (4 + n) (λ t. length t ≡ n) → (pos + (4 + n) ≤ length xs)
  naming_lies r = read_within name xs pos (4 + n) r.thing g.within r.begins

  pub naming_on : ReadAs name (from pos xs) (4 + n) (λ t. length t ≡ n) → Put xs u s (take n (drop (pos + 4) xs)) → Naming xs v s at k (i + 1) (pos + (4 + n))
  unfolding AllIn
  naming_on r p = record {
    within = naming_lies r;
    kept = kept_two xs v u s g.kept (kept_put xs u s _ p);
    few = omega (arith, g.few, p.few);
    comes = λ ms rest f m q. go ms rest (g.comes ms rest f m q);
  }
    where
      on : (ms : List Name) (rest : List ℕ) (us : List Name) → AllFit name us → length us + i ≡ k → drop pos xs ≡ writes name us ++ rest
          → (length (names_of xs v) + k ≤ 8200 → (vs : List Name) → Among (names_of xs u) vs → AllIn vs us → AllIn vs ms) → ToCome xs v s k (i + 1) (pos + (4 + n)) ms rest
      on ms rest [] f m q w = absurd (omega arith)
      on ms rest (x ∷ us) f m q w =
          let q2 : drop pos xs ≡ name.write x ++ (writes name us ++ rest) = q ∙ append_assoc (name.write x) (writes name us) rest in
          let e : r.thing ≡ x = read_same name name_way xs pos (4 + n) r.thing x (writes name us ++ rest) g.within f.0 q2 r.begins in
          let l : n ≡ length x = sym r.says ∙ ap (λ (z : Name). length z) e in
          let b : take n (drop (pos + 4) xs) ≡ x = ap (λ z. take z (drop (pos + 4) xs)) l ∙ name_bytes xs (writes name us ++ rest) pos x q2 in
          record {
            us = us;
            fits = f.1;
            many = omega arith;
            is = (read_next name name_way xs pos (4 + n) r.thing x (writes name us ++ rest) g.within f.0 q2 r.begins).rest;
            knows = λ o vs a z. w o vs (λ y m2. a y (p.among y m2)) (a x (subst (λ (y : Name). In (names_of xs s) y) b (p.there (omega (arith, g.few)))), z);
          }

      go : (ms : List Name) (rest : List ℕ) → ToCome xs v u k i pos ms rest → ToCome xs v s k (i + 1) (pos + (4 + n)) ms rest
      go ms rest c = on ms rest c.us c.fits c.many c.is c.knows

  -- a name that stands there can be read
  pub naming_stuck : (p : ℕ) → Stuck name (from pos xs) p → NamesTaken xs v u at k
  naming_stuck p st ms rest f m q = go (g.comes ms rest f m q)
    where
      on : (us : List Name) → AllFit name us → length us + i ≡ k → drop pos xs ≡ writes name us ++ rest → ⊥
      on [] f m q = absurd (omega arith)
      on (x ∷ us) f m q = not_stuck name xs pos p x (writes name us ++ rest) f.0 (q ∙ append_assoc (name.write x) (writes name us) rest) st

      go : ToCome xs v u k i pos ms rest → Took xs v u k (λ ns. AllIn ns ms)
      go c = absurd (on c.us c.fits c.many c.is)

pub naming_end : (xs : List ℕ) (v u : Names) (at k i pos : ℕ) → k ≤ i → i ≤ k → Naming xs v u at k i pos → NamesTaken xs v u at k
unfolding AllIn
naming_end xs v u at k i pos h l g ms rest f m q = record { few = omega (arith, g.few); knows = λ o. go (g.comes ms rest f m q) o }
  where
    on : (us : List Name) → length us + i ≡ k → (vs : List Name) → AllIn vs us
    on [] m vs = tt
    on (x ∷ us) m vs = absurd (omega arith)

    go : ToCome xs v u k i pos ms rest → length (names_of xs v) + k ≤ 8200 → AllIn (names_of xs u) ms
    go c o = c.knows o (names_of xs u) (λ n z. z) (on c.us c.many (names_of xs u))
