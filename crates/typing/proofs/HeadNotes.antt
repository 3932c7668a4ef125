-- The heads of types, noted from the front.
use Rattle.std.proofs.Common.{Some, None, ◌≡◌, ℕ, zero, suc, ◌+◌, ◌-◌, ◌*◌, ◌^◌, ◌<◌, ◌≤◌, ◌⊎◌, List, [], ◌∷◌, ◌++◌, length, get_or, drop, sym, refl, ap, ◌∙◌, subst, ap₂, inl, inr, add-zero, add-one, arith, length-append}
use Rattle.std.proofs.lemmas.List.{get_or_append_left, get_or_at}
use Rattle.query.specs.Query.{Ty, a_unit, a_num, a_truth, a_text, a_bag, a_rec, an_either, Tys, no_ty, ty}
use Rattle.query.specs.Size.{size_t, size_ts}
use Rattle.format.specs.Coding.{writes, AllFit}
use Rattle.format.specs.Wire.{types}
use Rattle.format.specs.Heads.{write_ty_head, ty_heads, ty_arity}
use Rattle.format.specs.Reading.{Stuck}
use Rattle.format.specs.Nodes.{NodeRead, TellsType}
use Rattle.format.specs.declared.node.TypeNode.{TypeNode}
use Rattle.format.specs.Lists.{from}
use Rattle.format.proofs.Pairs.{written_length}
use Rattle.format.specs.Trees.{fits_append, node_opened}
use Rattle.format.specs.TypeLaws.{ty_laws}
use Rattle.ranks.specs.Placed.{read_same, read_within, not_stuck, after_front}
use Rattle.ranks.specs.TypeHeads.{head_ty, kids_ty, listed_tys, kids_many, head_fits, kids_fit, forest}
use Rattle.typing.specs.Loads.{opened, head_long, walk, place, sizes, Walked, Headed}

-- a type is larger than its parts
tys_sizes : (ts : Tys) → sizes (listed_tys ts) ≤ size_ts ts
unfolding sizes listed_tys size_ts
tys_sizes no_ty = omega arith
tys_sizes (ty n t ts) = let h = tys_sizes ts in omega arith

pub kids_sizes : (t : Ty) → sizes (kids_ty t) < size_t t
unfolding sizes size_t
kids_sizes a_unit = omega arith
kids_sizes a_num = omega arith
kids_sizes a_truth = omega arith
kids_sizes a_text = omega arith
kids_sizes (a_bag t) = omega arith
kids_sizes (a_rec ts) = let h = tys_sizes ts in omega arith
kids_sizes (an_either t u) = omega arith

pub sizes_append : (ts us : List Ty) → sizes (ts ++ us) ≡ sizes ts + sizes us
unfolding sizes
sizes_append [] us = omega arith
sizes_append (t ∷ ts) us = let h = sizes_append ts us in omega arith

opened_sizes : (ts : List Ty) → 0 < length ts → sizes (opened ts) < sizes ts
unfolding opened sizes
opened_sizes [] h = absurd (omega arith)
opened_sizes (t ∷ ts) h = let a = sizes_append (kids_ty t) ts in let b = kids_sizes t in omega arith

pub walk_sizes : (ts : List Ty) (i : ℕ) → ((k : ℕ) → k < i → 0 < length (walk ts k)) → i + sizes (walk ts i) ≤ sizes ts
unfolding walk
walk_sizes ts zero h = omega arith
walk_sizes ts (suc i) h = let a = walk_sizes ts i (λ k l. h k (omega arith)) in let b = opened_sizes (walk ts i) (h i (omega arith)) in omega arith

pub length_sizes : (ts : List Ty) → length ts ≤ sizes ts
unfolding sizes
length_sizes [] = omega arith
length_sizes (t ∷ ts) = let h = length_sizes ts in let k = kids_sizes t in omega arith

opened_fits : (ts : List Ty) → AllFit types ts → AllFit types (opened ts)
unfolding opened
opened_fits [] f = tt
opened_fits (t ∷ ts) f = fits_append types (kids_ty t) ts (kids_fit t f.0) f.1

pub walk_fits : (ts : List Ty) (i : ℕ) → AllFit types ts → AllFit types (walk ts i)
unfolding walk
walk_fits ts zero f = f
walk_fits ts (suc i) f = opened_fits (walk ts i) (walk_fits ts i f)

opened_stands : (xs : List ℕ) (pos : ℕ) (ts : List Ty) (rest : List ℕ) → drop pos xs ≡ writes types ts ++ rest → drop (pos + head_long ts) xs ≡ writes types (opened ts) ++ rest
unfolding opened head_long
opened_stands xs pos [] rest q = ap (λ z. drop z xs) (add-zero pos) ∙ q
opened_stands xs pos (t ∷ ts) rest q = after_front xs (write_ty_head (head_ty t)) (writes types (kids_ty t ++ ts) ++ rest) pos (q ∙ forest t ts rest)

pub walk_stands : (xs : List ℕ) (at : ℕ) (ts : List Ty) (rest : List ℕ) → drop at xs ≡ writes types ts ++ rest → (i : ℕ) → drop (place ts at i) xs ≡ writes types (walk ts i) ++ rest
unfolding walk place
walk_stands xs at ts rest q zero = q
walk_stands xs at ts rest q (suc i) = opened_stands xs (place ts at i) (walk ts i) rest (walk_stands xs at ts rest q i)

pub place_on : (ts : List Ty) (at n : ℕ) → place ts at n + head_long (walk ts n) ≡ place ts at (suc n)
unfolding place
place_on ts at n = refl

pub walk_on : (ts : List Ty) (n : ℕ) → length (opened (walk ts n)) ≡ length (walk ts (suc n))
unfolding walk
walk_on ts n = refl

-- what is known while the heads are noted
pub record Noting (xs : List ℕ) (at count : ℕ) (hs : List ℕ) (k pos : ℕ) : Type 0 where
  pub within : pos ≤ length xs
  pub small : k ≤ count + 2 ^ 32 * pos
  pub lie : (i : ℕ) → i < length hs → get_or hs i 0 ≤ length xs
  pub walked : (ts : List Ty) (rest : List ℕ) → AllFit types ts → length ts ≡ count → drop at xs ≡ writes types ts ++ rest → sizes ts ≤ 8192 → Walked ts at hs × (pos ≡ place ts at (length hs)) × (k ≡ length (walk ts (length hs)))

pub noting_begin : (xs : List ℕ) (at count : ℕ) (hs : List ℕ) → at ≤ length xs → length hs ≡ 0 → Noting xs at count hs count at
unfolding walk place
noting_begin xs at count [] h e = record {
  within = h;
  small = omega arith;
  lie = λ i l. absurd (omega arith);
  walked = λ ts rest f m q s. (record { places = λ i l. absurd (omega arith); some = λ i l. absurd (omega arith) }, refl, sym m);
}
noting_begin xs at count (x ∷ hs) h e = absurd (omega arith)

last_or : (n i : ℕ) → i < n + 1 → (i < n) ⊎ (n ≡ i)
last_or n i h = grind arith

module _ (xs : List ℕ) (at count : ℕ) (hs : List ℕ) (k pos : ℕ) (h : 0 < k) (g : Noting xs at count hs k pos) where
  pub noting_stuck : (p : ℕ) → Stuck ty_heads (from pos xs) p → Headed xs hs at count None
  noting_stuck p s = record { lie = g.lie; walked = λ ts rest f m q z. absurd (none ts rest f q (g.walked ts rest f m q z)) }
    where
      on : (us : List Ty) (rest : List ℕ) → AllFit types us → length us ≡ k → drop pos xs ≡ writes types us ++ rest → ⊥
      on [] rest f m q = absurd (omega arith)
      on (t ∷ us) rest f m q = not_stuck ty_heads xs pos p (head_ty t) _ (head_fits t f.0) (q ∙ forest t us rest) s

      none : (ts : List Ty) (rest : List ℕ) → AllFit types ts → drop at xs ≡ writes types ts ++ rest → Walked ts at hs × (pos ≡ place ts at (length hs)) × (k ≡ length (walk ts (length hs))) → ⊥
      none ts rest f q w = on (walk ts (length hs)) rest (walk_fits ts (length hs) f) (sym w.2) (ap (λ z. drop z xs) w.1 ∙ walk_stands xs at ts rest q (length hs))

  -- there is always room
  pub noting_full : 8200 ≤ length hs → Headed xs hs at count None
  noting_full l = record { lie = g.lie; walked = λ ts rest f m q z. absurd (let w = g.walked ts rest f m q z in omega (arith, walk_sizes ts (length hs) w.0.some)) }

  module _ (node : TypeNode) (parts e : ℕ) (r : NodeRead ty_heads ty_arity TellsType (from pos xs) node parts e) where
    pub noting_lies : (pos + e ≤ length xs) × (0 < e) × (parts < 2 ^ 32)
    noting_lies = (read_within ty_heads xs pos e r.thing g.within r.begins, (node_opened types ty_heads ty_arity ty_laws TellsType (from pos xs) node parts e r).some, r.says.2)

    pub noting_on : (gs : List ℕ) (m : ℕ) → gs ≡ hs ++ (pos ∷ []) → m ≡ k - 1 + parts → Noting xs at count gs m (pos + e)
    unfolding head_long opened
    noting_on gs m q e2 = record {
      within = noting_lies.0;
      small = omega (arith, g.small, noting_lies.1, noting_lies.2);
      lie = λ i l. elim (last_or (length hs) i (omega (arith, len))) [
        | inl o ↦ subst (λ z. z ≤ length xs) (sym (old i o)) (g.lie i o)
        | inr o ↦ subst (λ z. z ≤ length xs) (sym (new i o)) g.within
      ];
      walked = λ ts rest f l w z. go ts rest f w (g.walked ts rest f l w z);
    }
      where
        len : length gs ≡ length hs + 1
        len = ap (λ (z : List ℕ). length z) q ∙ length-append hs (pos ∷ [])

        old : (i : ℕ) → i < length hs → get_or gs i 0 ≡ get_or hs i 0
        old i o = ap (λ (z : List ℕ). get_or z i 0) q ∙ get_or_append_left hs (pos ∷ []) 0 i o

        new : (i : ℕ) → length hs ≡ i → get_or gs i 0 ≡ pos
        new i o = ap (λ (z : List ℕ). get_or z i 0) q ∙ get_or_at hs pos [] 0 i o

        step : (us : List Ty) (rest : List ℕ) → AllFit types us → length us ≡ k → drop pos xs ≡ writes types us ++ rest → (e ≡ head_long us) × (m ≡ length (opened us))
        step [] rest f l w = absurd (omega arith)
        step (t ∷ us) rest f l w =
            let q2 = w ∙ forest t us rest in
            let same : r.thing ≡ head_ty t = read_same ty_heads ty_laws.one_way xs pos e r.thing (head_ty t) _ g.within (head_fits t f.0) q2 r.begins in
            let ar : parts ≡ length (kids_ty t) = r.says.1 ∙ (ap ty_arity same ∙ sym (kids_many t)) in
            let la = length-append (kids_ty t) us in
            (sym (written_length ty_heads (from pos xs) e r.thing r.begins) ∙ ap (λ z. length (write_ty_head z)) same, omega arith)

        go : (ts : List Ty) (rest : List ℕ) → AllFit types ts → drop at xs ≡ writes types ts ++ rest → Walked ts at hs × (pos ≡ place ts at (length hs)) × (k ≡ length (walk ts (length hs)))
            → Walked ts at gs × (pos + e ≡ place ts at (length gs)) × (m ≡ length (walk ts (length gs)))
        go ts rest f w c =
            let n = length hs in
            let s = step (walk ts n) rest (walk_fits ts n f) (sym c.2) (ap (λ z. drop z xs) c.1 ∙ walk_stands xs at ts rest w n) in
            let l1 : length gs ≡ suc n = len ∙ add-one n in (
              record {
                places = λ i l. elim (last_or n i (omega (arith, len))) [
                  | inl o ↦ old i o ∙ c.0.places i o
                  | inr o ↦ new i o ∙ (c.1 ∙ ap (λ z. place ts at z) o)
                ];
                some = λ i l. elim (last_or n i (omega (arith, len))) [
                  | inl o ↦ c.0.some i o
                  | inr o ↦ subst (λ z. 0 < length (walk ts z)) o (omega (arith, c.2))
                ];
              },
              (ap₂ (λ a b. a + b) c.1 s.0 ∙ place_on ts at n) ∙ ap (λ z. place ts at z) (sym l1),
              s.1 ∙ (walk_on ts n ∙ ap (λ z. length (walk ts z)) (sym l1)),
            )

pub noting_end : (xs : List ℕ) (at count : ℕ) (hs : List ℕ) (k pos : ℕ) → k ≤ 0 → Noting xs at count hs k pos → Headed xs hs at count (Some tt)
noting_end xs at count hs k pos h g = record { lie = g.lie; walked = λ ts rest f m q z. let w = g.walked ts rest f m q z in (refl, w.0, none (walk ts (length hs)) (omega (arith, w.2))) }
  where
    none : (us : List Ty) → length us ≡ 0 → us ≡ []
    none [] e = refl
    none (u ∷ us) e = absurd (omega arith)
