-- The ranks of names, one after the other.
use Rattle.std.proofs.Common.{Option, Some, None, ◌≡◌, ℕ, suc, ◌+◌, ◌<◌, ◌≤◌, List, [], ◌∷◌, ◌++◌, length, get_or, take, drop, sym, refl, ap, ◌∙◌, subst, arith, length-append}
use Rattle.std.proofs.lemmas.List.{append_assoc, append-nil}
use Rattle.query.specs.Data.{Name}
use Rattle.format.specs.Coding.{name, writes, AllFit}
use Rattle.format.specs.Reading.{ReadAs, Stuck}
use Rattle.format.specs.Lists.{from}
use Rattle.format.specs.Codings.{name_way}
use Rattle.ranks.specs.Ranks.{In, names_of}
use Rattle.ranks.specs.Known.{AllIn}
use Rattle.ranks.specs.declared.names.Names.{Names}
use Rattle.ranks.specs.Placed.{read_same, read_next, read_within, not_stuck, name_bytes}
use Rattle.types.specs.Operators.{NamesOf, named}
use Rattle.typing.specs.Loads.{RanksRead}

pub none_some : ◌≡◌ {A = Option (Unit {0})} None (Some tt) → ⊥
none_some e = let z : ◌≡◌ {A = ℕ} 0 1 = cc in absurd (omega arith)

names_more : (w : ℕ) (ks : List ℕ) (k : ℕ) → NamesOf w ks → k < w → NamesOf w (ks ++ (k ∷ []))
unfolding NamesOf
names_more w [] k n h = (h, tt)
names_more w (x ∷ ks) k n h = (n.0, names_more w ks k n.1 h)

named_more : (ns : List Name) (ks : List ℕ) (k : ℕ) → named ns (ks ++ (k ∷ [])) ≡ named ns ks ++ (get_or ns k [] ∷ [])
unfolding named
named_more ns [] k = refl
named_more ns (x ∷ ks) k = ap (λ (z : List Name). get_or ns x [] ∷ z) (named_more ns ks k)

pub named_length : (ns : List Name) (ks : List ℕ) → length (named ns ks) ≡ length ks
unfolding named
named_length ns [] = refl
named_length ns (k ∷ ks) = ap suc (named_length ns ks)

pub record ToCome (xs : List ℕ) (v : Names) (ks : List ℕ) (count i pos : ℕ) (ms : List Name) (rest : List ℕ) : Type 0 where
  pub us : List Name
  pub fits : AllFit name us
  pub many : length us + i ≡ count
  pub is : drop pos xs ≡ writes name us ++ rest
  pub known : AllIn (names_of xs v) us
  pub all : named (names_of xs v) ks ++ us ≡ ms

pub record Ranking (xs : List ℕ) (v : Names) (ks : List ℕ) (at count i pos : ℕ) : Type 0 where
  pub within : pos ≤ length xs
  pub below : NamesOf (length (names_of xs v)) ks
  pub long : length ks ≡ i
  pub tells : (ms : List Name) (rest : List ℕ) → AllFit name ms → length ms ≡ count → drop at xs ≡ writes name ms ++ rest → AllIn (names_of xs v) ms → ToCome xs v ks count i pos ms rest

pub ranking_begin : (xs : List ℕ) (v : Names) (ks : List ℕ) (at count : ℕ) → at ≤ length xs → ks ≡ [] → Ranking xs v ks at count 0 at
unfolding NamesOf named
ranking_begin xs v [] at count h e = record { within = h; below = tt; long = refl; tells = λ ms rest f m q a. record { us = ms; fits = f; many = omega arith; is = q; known = a; all = refl } }
ranking_begin xs v (k ∷ ks) at count h e = let z : ◌≡◌ {A = ℕ} 0 1 = cc in absurd (omega arith)

module _ (xs : List ℕ) (v : Names) (ks : List ℕ) (at count i pos : ℕ) (h : i < count) (g : Ranking xs v ks at count i pos) where
  pub ranking_stuck : (p : ℕ) → Stuck name (from pos xs) p → RanksRead xs v ks at count None
  ranking_stuck p s = record { below = g.below; many = λ e. absurd (none_some e); tells = λ ms rest f m q a c. absurd (go (g.tells ms rest f m q a)) }
    where
      on : (us : List Name) (rest : List ℕ) → AllFit name us → length us + i ≡ count → drop pos xs ≡ writes name us ++ rest → ⊥
      on [] rest f m q = absurd (omega arith)
      on (x ∷ us) rest f m q = not_stuck name xs pos p x (writes name us ++ rest) f.0 (q ∙ append_assoc (name.write x) (writes name us) rest) s

      go : {ms : List Name} {rest : List ℕ} → ToCome xs v ks count i pos ms rest → ⊥
      go {ms} {rest} c = on c.us rest c.fits c.many c.is

  pub ranking_full : 8200 ≤ length ks → RanksRead xs v ks at count None
  ranking_full l = record { below = g.below; many = λ e. absurd (none_some e); tells = λ ms rest f m q a c. absurd (omega (arith, g.long)) }

  module _ (n : ℕ) (r : ReadAs name (from pos xs) (4 + n) (λ t. length t ≡ n)) where
    pub ranking_lies : pos + (4 + n) ≤ length xs
    ranking_lies = read_within name xs pos (4 + n) r.thing g.within r.begins

    -- the next name
    next : (rest : List ℕ) (x : Name) (us : List Name) → AllFit name (x ∷ us) → drop pos xs ≡ writes name (x ∷ us) ++ rest → (take n (drop (pos + 4) xs) ≡ x) × (drop (pos + (4 + n)) xs ≡ writes name us ++ rest)
    next rest x us f q =
        let q2 : drop pos xs ≡ name.write x ++ (writes name us ++ rest) = q ∙ append_assoc (name.write x) (writes name us) rest in
        let e : r.thing ≡ x = read_same name name_way xs pos (4 + n) r.thing x (writes name us ++ rest) g.within f.0 q2 r.begins in
        let l : n ≡ length x = sym r.says ∙ ap (λ (z : Name). length z) e in (
          ap (λ z. take z (drop (pos + 4) xs)) l ∙ name_bytes xs (writes name us ++ rest) pos x q2,
          (read_next name name_way xs pos (4 + n) r.thing x (writes name us ++ rest) g.within f.0 q2 r.begins).rest,
        )

    pub ranking_absent : (In (names_of xs v) (take n (drop (pos + 4) xs)) → ⊥) → RanksRead xs v ks at count None
    unfolding AllIn
    ranking_absent no-in = record { below = g.below; many = λ e. absurd (none_some e); tells = λ ms rest f m q a c. absurd (go (g.tells ms rest f m q a)) }
      where
        on : (us : List Name) (rest : List ℕ) → AllFit name us → length us + i ≡ count → drop pos xs ≡ writes name us ++ rest → AllIn (names_of xs v) us → ⊥
        on [] rest f m q a = absurd (omega arith)
        on (x ∷ us) rest f m q a = no-in (subst (λ (z : Name). In (names_of xs v) z) (sym (next rest x us f q).0) a.0)

        go : {ms : List Name} {rest : List ℕ} → ToCome xs v ks count i pos ms rest → ⊥
        go {ms} {rest} c = on c.us rest c.fits c.many c.is c.known

    pub ranking_on : (k : ℕ) → k < length (names_of xs v) → get_or (names_of xs v) k [] ≡ take n (drop (pos + 4) xs) → (js : List ℕ) → js ≡ ks ++ (k ∷ []) → (to : ℕ) → to ≡ pos + (4 + n) → Ranking xs v js at count (i + 1) to
    unfolding AllIn
    ranking_on k l e js q to p = record {
      within = omega (arith, ranking_lies);
      below = subst (λ (z : List ℕ). NamesOf (length (names_of xs v)) z) (sym q) (names_more _ ks k g.below l);
      long = omega (arith, g.long, ap (λ (z : List ℕ). length z) q, length-append ks (k ∷ []));
      tells = λ ms rest f m w a. go (g.tells ms rest f m w a);
    }
      where
        on : (ms : List Name) (rest : List ℕ) (us : List Name) → AllFit name us → length us + i ≡ count → drop pos xs ≡ writes name us ++ rest → AllIn (names_of xs v) us → named (names_of xs v) ks ++ us ≡ ms → ToCome xs v js count (i + 1) to ms rest
        on ms rest [] f m w a z = absurd (omega arith)
        on ms rest (x ∷ us) f m w a z =
            let nx = next rest x us f w in
            record {
              us = us;
              fits = f.1;
              many = omega arith;
              is = ap (λ y. drop y xs) p ∙ nx.1;
              known = a.1;
              all = ap (λ (y : List ℕ). named (names_of xs v) y ++ us) q ∙ (ap (λ (y : List Name). y ++ us) (named_more (names_of xs v) ks k)
                  ∙ (append_assoc (named (names_of xs v) ks) (get_or (names_of xs v) k [] ∷ []) us ∙ (ap (λ (y : Name). named (names_of xs v) ks ++ (y ∷ us)) (e ∙ nx.0) ∙ z)));
            }

        go : {ms : List Name} {rest : List ℕ} → ToCome xs v ks count i pos ms rest → ToCome xs v js count (i + 1) to ms rest
        go {ms} {rest} c = on ms rest c.us c.fits c.many c.is c.known c.all

pub ranking_end : (xs : List ℕ) (v : Names) (ks : List ℕ) (at count i pos : ℕ) → count ≤ i → i ≤ count → Ranking xs v ks at count i pos → RanksRead xs v ks at count (Some tt)
ranking_end xs v ks at count i pos h l g = record { below = g.below; many = λ e. omega (arith, g.long); tells = λ ms rest f m q a c. (refl, go (g.tells ms rest f m q a)) }
  where
    on : (ms us : List Name) → length us + i ≡ count → named (names_of xs v) ks ++ us ≡ ms → named (names_of xs v) ks ≡ ms
    on ms [] m z = sym (append-nil (named (names_of xs v) ks)) ∙ z
    on ms (x ∷ us) m z = absurd (omega arith)

    go : {ms : List Name} {rest : List ℕ} → ToCome xs v ks count i pos ms rest → named (names_of xs v) ks ≡ ms
    go {ms} {rest} c = on ms c.us c.many c.all
