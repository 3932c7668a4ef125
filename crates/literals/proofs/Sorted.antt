-- Queries by their kind: what a node tells of it, and where the parts begin.
use Rattle.std.proofs.Common.{◌≡◌, ℕ, ◌+◌, ◌≤◌, ◌⊎◌, List, [], ◌∷◌, length, sym, refl, ap, ◌∙◌, inl, inr, arith, length-append}
use Rattle.query.specs.Data.{Data, Datas, none, more, join, how_many}
use Rattle.query.specs.Query.{Op1, not_so, in_bag, flat, count, sum, distinct, dot, as_field, without, project, Ty, Query, table, it, env, just, two, one, each, keep, product, matched, default, as_left, as_right, either, then, with_env}
use Rattle.query.specs.Size.{size_q}
use Rattle.format.specs.Wire.{write_ty, write_data, write_1, write_query}
use Rattle.format.specs.declared.node.QueryNode.{QueryNode}
use Rattle.format.specs.declared.node.QueryNode.TheVariants as qn
use Rattle.guide.specs.Guide.{first_part, last_part}
use Rattle.guide.specs.Visits.{SaysLast, IsQuery}
use Rattle.guide.proofs.Shapes.{parts, Single, Pair, single, pair, single_long, pair_long}
use Rattle.guide.proofs.Frame.{SameOver, written_some}
use Rattle.literals.specs.Numbered.{thing_at, Numbered}
use Rattle.literals.specs.Written.{written_out, JustsTyped}
use Rattle.literals.specs.Steps.{kind_of, kind_q}
use Rattle.literals.specs.declared.step.Kind.TheVariants as kd

pub kinds_same : (node : QueryNode) (q : Query) → IsQuery node q → kind_q q ≡ kind_of node
kinds_same (qn.Table n) q e = ap kind_q e
kinds_same qn.It q e = ap kind_q e
kinds_same qn.Env q e = ap kind_q e
kinds_same (qn.Just k) q e = ap kind_q e.2
kinds_same (qn.Two o) q e = ap kind_q e.2
kinds_same (qn.One u) q e = ap kind_q e.2
kinds_same qn.Each q e = ap kind_q e.2
kinds_same qn.Keep q e = ap kind_q e.2
kinds_same qn.Product q e = ap kind_q e.2
kinds_same (qn.Matched j k) q e = ap kind_q e.4
kinds_same qn.Default q e = ap kind_q e.2
kinds_same (qn.OnLeft k) q e = ap kind_q e.2
kinds_same (qn.OnRight k) q e = ap kind_q e.2
kinds_same qn.Either q e = ap kind_q e.2
kinds_same qn.Then q e = ap kind_q e.2
kinds_same qn.WithEnv q e = ap kind_q e.2

operator_some : (o : Op1) → 1 ≤ length (write_1 o)
unfolding write_1
operator_some not_so = omega arith
operator_some in_bag = omega arith
operator_some flat = omega arith
operator_some count = omega arith
operator_some sum = omega arith
operator_some distinct = omega arith
operator_some (dot n) = omega arith
operator_some (as_field n) = omega arith
operator_some (without n) = omega arith
operator_some (project ns) = omega arith

-- a guide's number for a query says where its last part begins, and the parts lie in its bytes, the first before the last
pub record PlacedParts (q : Query) (last : ℕ) : Type 0 where
  pub is : last ≡ last_part q
  pub some : 1 ≤ first_part q
  pub order : first_part q ≤ last_part q
  pub within : last_part q ≤ length (write_query q)

pair_placed : (x p q : Query) (last : ℕ) → Pair x p q → 1 ≤ first_part x → last ≡ last_part x → PlacedParts x last
pair_placed x p q last s some e = record { is = e; some = some; order = omega (arith, s.first, s.last); within = omega (arith, pair_long x p q s) }

single_placed : (x p : Query) (last : ℕ) → Single x p → 1 ≤ first_part x → last ≡ last_part x → PlacedParts x last
single_placed x p last s some e = record { is = e; some = some; order = omega (arith, s.first, s.last); within = omega (arith, s.first, s.last, single_long x p s) }

pub placed_parts : (q : Query) (last : ℕ) → SaysLast last q → (kind_q q ≡ kd.Bare) ⊎ PlacedParts q last
unfolding SaysLast first_part last_part write_query
placed_parts (table n) last e = inl refl
placed_parts it last e = inl refl
placed_parts env last e = inl refl
placed_parts (just t d) last e = inr (record { is = e; some = omega arith; order = omega arith; within = omega (arith, length-append (write_ty t) (write_data d)) })
placed_parts (two o p q) last e = inr (pair_placed (two o p q) p q last (pair (two o p q) p q refl) (omega arith) e)
placed_parts (one o q) last e = inr (single_placed (one o q) q last (single (one o q) q refl) (operator_some o) e)
placed_parts (each p q) last e = inr (pair_placed (each p q) p q last (pair (each p q) p q refl) (omega arith) e)
placed_parts (keep p q) last e = inr (pair_placed (keep p q) p q last (pair (keep p q) p q refl) (omega arith) e)
placed_parts (product p q) last e = inr (pair_placed (product p q) p q last (pair (product p q) p q refl) (omega arith) e)
placed_parts (matched m n p q) last e = inr (pair_placed (matched m n p q) p q last (pair (matched m n p q) p q refl) (omega arith) e)
placed_parts (default p q) last e = inr (pair_placed (default p q) p q last (pair (default p q) p q refl) (omega arith) e)
placed_parts (as_left t q) last e = inr (single_placed (as_left t q) q last (single (as_left t q) q refl) (omega arith) e)
placed_parts (as_right t q) last e = inr (single_placed (as_right t q) q last (single (as_right t q) q refl) (omega arith) e)
placed_parts (either p q) last e = inr (pair_placed (either p q) p q last (pair (either p q) p q refl) (omega arith) e)
placed_parts (then p q) last e = inr (pair_placed (then p q) p q last (pair (then p q) p q refl) (omega arith) e)
placed_parts (with_env p q) last e = inr (pair_placed (with_env p q) p q last (pair (with_env p q) p q refl) (omega arith) e)

-- a query without parts that writes nothing out
pub record BarePart (x : Query) : Type 0 where
  pub outs : written_out x ≡ none
  pub numbered : (l : List ℕ) (ds : Datas) (at : ℕ) → Numbered l ds at x

pub bare_part : (x : Query) → kind_q x ≡ kd.Bare → BarePart x
unfolding written_out Numbered
bare_part (table n) e = record { outs = refl; numbered = λ l ds at. tt }
bare_part it e = record { outs = refl; numbered = λ l ds at. tt }
bare_part env e = record { outs = refl; numbered = λ l ds at. tt }
bare_part (just t d) e = absurd (let z : ◌≡◌ {A = ℕ} 0 1 = cc in omega arith)
bare_part (two o p q) e = absurd (let z : ◌≡◌ {A = ℕ} 0 1 = cc in omega arith)
bare_part (one o q) e = absurd (let z : ◌≡◌ {A = ℕ} 0 1 = cc in omega arith)
bare_part (each p q) e = absurd (let z : ◌≡◌ {A = ℕ} 0 1 = cc in omega arith)
bare_part (keep p q) e = absurd (let z : ◌≡◌ {A = ℕ} 0 1 = cc in omega arith)
bare_part (product p q) e = absurd (let z : ◌≡◌ {A = ℕ} 0 1 = cc in omega arith)
bare_part (matched m n p q) e = absurd (let z : ◌≡◌ {A = ℕ} 0 1 = cc in omega arith)
bare_part (default p q) e = absurd (let z : ◌≡◌ {A = ℕ} 0 1 = cc in omega arith)
bare_part (as_left t q) e = absurd (let z : ◌≡◌ {A = ℕ} 0 1 = cc in omega arith)
bare_part (as_right t q) e = absurd (let z : ◌≡◌ {A = ℕ} 0 1 = cc in omega arith)
bare_part (either p q) e = absurd (let z : ◌≡◌ {A = ℕ} 0 1 = cc in omega arith)
bare_part (then p q) e = absurd (let z : ◌≡◌ {A = ℕ} 0 1 = cc in omega arith)
bare_part (with_env p q) e = absurd (let z : ◌≡◌ {A = ℕ} 0 1 = cc in omega arith)

pub written_part : (x : Query) → kind_q x ≡ kd.Written → (t : Ty) × (d : Data) × (x ≡ just t d)
written_part (table n) e = absurd (let z : ◌≡◌ {A = ℕ} 0 1 = cc in omega arith)
written_part it e = absurd (let z : ◌≡◌ {A = ℕ} 0 1 = cc in omega arith)
written_part env e = absurd (let z : ◌≡◌ {A = ℕ} 0 1 = cc in omega arith)
written_part (just t d) e = (t, d, refl)
written_part (two o p q) e = absurd (let z : ◌≡◌ {A = ℕ} 0 1 = cc in omega arith)
written_part (one o q) e = absurd (let z : ◌≡◌ {A = ℕ} 0 1 = cc in omega arith)
written_part (each p q) e = absurd (let z : ◌≡◌ {A = ℕ} 0 1 = cc in omega arith)
written_part (keep p q) e = absurd (let z : ◌≡◌ {A = ℕ} 0 1 = cc in omega arith)
written_part (product p q) e = absurd (let z : ◌≡◌ {A = ℕ} 0 1 = cc in omega arith)
written_part (matched m n p q) e = absurd (let z : ◌≡◌ {A = ℕ} 0 1 = cc in omega arith)
written_part (default p q) e = absurd (let z : ◌≡◌ {A = ℕ} 0 1 = cc in omega arith)
written_part (as_left t q) e = absurd (let z : ◌≡◌ {A = ℕ} 0 1 = cc in omega arith)
written_part (as_right t q) e = absurd (let z : ◌≡◌ {A = ℕ} 0 1 = cc in omega arith)
written_part (either p q) e = absurd (let z : ◌≡◌ {A = ℕ} 0 1 = cc in omega arith)
written_part (then p q) e = absurd (let z : ◌≡◌ {A = ℕ} 0 1 = cc in omega arith)
written_part (with_env p q) e = absurd (let z : ◌≡◌ {A = ℕ} 0 1 = cc in omega arith)

-- a query of one part
pub record OnePart (x : Query) : Type 0 where
  pub part : Query
  pub is : parts x ≡ part ∷ []
  pub outs : written_out x ≡ written_out part
  pub typed : JustsTyped x → JustsTyped part
  pub size : size_q part ≤ size_q x
  pub into : (l : List ℕ) (ds : Datas) (at : ℕ) → Numbered l ds (at + last_part x) part → Numbered l ds at x

pub one_part : (x : Query) → kind_q x ≡ kd.One → OnePart x
unfolding written_out JustsTyped size_q Numbered
one_part (table n) e = absurd (let z : ◌≡◌ {A = ℕ} 0 1 = cc in omega arith)
one_part it e = absurd (let z : ◌≡◌ {A = ℕ} 0 1 = cc in omega arith)
one_part env e = absurd (let z : ◌≡◌ {A = ℕ} 0 1 = cc in omega arith)
one_part (just t d) e = absurd (let z : ◌≡◌ {A = ℕ} 0 1 = cc in omega arith)
one_part (two o p q) e = absurd (let z : ◌≡◌ {A = ℕ} 0 1 = cc in omega arith)
one_part (one o q) e = record { part = q; is = refl; outs = refl; typed = λ h. h; size = omega arith; into = λ l ds at h. h }
one_part (each p q) e = absurd (let z : ◌≡◌ {A = ℕ} 0 1 = cc in omega arith)
one_part (keep p q) e = absurd (let z : ◌≡◌ {A = ℕ} 0 1 = cc in omega arith)
one_part (product p q) e = absurd (let z : ◌≡◌ {A = ℕ} 0 1 = cc in omega arith)
one_part (matched m n p q) e = absurd (let z : ◌≡◌ {A = ℕ} 0 1 = cc in omega arith)
one_part (default p q) e = absurd (let z : ◌≡◌ {A = ℕ} 0 1 = cc in omega arith)
one_part (as_left t q) e = record { part = q; is = refl; outs = refl; typed = λ h. h; size = omega arith; into = λ l ds at h. h }
one_part (as_right t q) e = record { part = q; is = refl; outs = refl; typed = λ h. h; size = omega arith; into = λ l ds at h. h }
one_part (either p q) e = absurd (let z : ◌≡◌ {A = ℕ} 0 1 = cc in omega arith)
one_part (then p q) e = absurd (let z : ◌≡◌ {A = ℕ} 0 1 = cc in omega arith)
one_part (with_env p q) e = absurd (let z : ◌≡◌ {A = ℕ} 0 1 = cc in omega arith)

-- a query of two parts
pub record TwoParts (x : Query) : Type 0 where
  pub part₁ : Query
  pub part₂ : Query
  pub is : parts x ≡ part₁ ∷ part₂ ∷ []
  pub outs : written_out x ≡ join (written_out part₁) (written_out part₂)
  pub typed : JustsTyped x → JustsTyped part₁ × JustsTyped part₂
  pub size : size_q part₁ + size_q part₂ ≤ size_q x
  pub into : (l : List ℕ) (ds : Datas) (at : ℕ) → Numbered l ds (at + first_part x) part₁ → Numbered l ds (at + last_part x) part₂ → Numbered l ds at x

pub two_parts : (x : Query) → kind_q x ≡ kd.Two → TwoParts x
unfolding written_out JustsTyped size_q Numbered
two_parts (table n) e = absurd (let z : ◌≡◌ {A = ℕ} 0 1 = cc in omega arith)
two_parts it e = absurd (let z : ◌≡◌ {A = ℕ} 0 1 = cc in omega arith)
two_parts env e = absurd (let z : ◌≡◌ {A = ℕ} 0 1 = cc in omega arith)
two_parts (just t d) e = absurd (let z : ◌≡◌ {A = ℕ} 0 1 = cc in omega arith)
two_parts (two o p q) e = record { part₁ = p; part₂ = q; is = refl; outs = refl; typed = λ h. h; size = omega arith; into = λ l ds at h k. (h, k) }
two_parts (one o q) e = absurd (let z : ◌≡◌ {A = ℕ} 0 1 = cc in omega arith)
two_parts (each p q) e = record { part₁ = p; part₂ = q; is = refl; outs = refl; typed = λ h. h; size = omega arith; into = λ l ds at h k. (h, k) }
two_parts (keep p q) e = record { part₁ = p; part₂ = q; is = refl; outs = refl; typed = λ h. h; size = omega arith; into = λ l ds at h k. (h, k) }
two_parts (product p q) e = record { part₁ = p; part₂ = q; is = refl; outs = refl; typed = λ h. h; size = omega arith; into = λ l ds at h k. (h, k) }
two_parts (matched m n p q) e = record { part₁ = p; part₂ = q; is = refl; outs = refl; typed = λ h. h; size = omega arith; into = λ l ds at h k. (h, k) }
two_parts (default p q) e = record { part₁ = p; part₂ = q; is = refl; outs = refl; typed = λ h. h; size = omega arith; into = λ l ds at h k. (h, k) }
two_parts (as_left t q) e = absurd (let z : ◌≡◌ {A = ℕ} 0 1 = cc in omega arith)
two_parts (as_right t q) e = absurd (let z : ◌≡◌ {A = ℕ} 0 1 = cc in omega arith)
two_parts (either p q) e = record { part₁ = p; part₂ = q; is = refl; outs = refl; typed = λ h. h; size = omega arith; into = λ l ds at h k. (h, k) }
two_parts (then p q) e = record { part₁ = p; part₂ = q; is = refl; outs = refl; typed = λ h. h; size = omega arith; into = λ l ds at h k. (h, k) }
two_parts (with_env p q) e = record { part₁ = p; part₂ = q; is = refl; outs = refl; typed = λ h. h; size = omega arith; into = λ l ds at h k. (h, k) }

-- marks that are the same at a query's bytes have the same numbers for it
lower : (x p : Query) (l k : List ℕ) (at : ℕ) → Single x p → SameOver l k at (length (write_query x)) → SameOver l k (at + last_part x) (length (write_query p))
lower x p l k at s same = let e = single_long x p s in let f : last_part x ≡ first_part x = s.last ∙ sym s.first in λ i a b. same i (omega arith) (omega arith)

lower₁ : (x p q : Query) (l k : List ℕ) (at : ℕ) → Pair x p q → SameOver l k at (length (write_query x)) → SameOver l k (at + first_part x) (length (write_query p))
lower₁ x p q l k at s same =
    let e = pair_long x p q s in
    let f : last_part x ≡ first_part x + length (write_query p) = s.last ∙ ap (λ (v : ℕ). v + length (write_query p)) (sym s.first) in
    λ i a b. same i (omega arith) (omega arith)

lower₂ : (x p q : Query) (l k : List ℕ) (at : ℕ) → Pair x p q → SameOver l k at (length (write_query x)) → SameOver l k (at + last_part x) (length (write_query q))
lower₂ x p q l k at s same = let e = pair_long x p q s in λ i a b. same i (omega arith) (omega arith)

pub numbered_same : (q : Query) (l k : List ℕ) (ds : Datas) (at : ℕ) → SameOver l k at (length (write_query q)) → Numbered l ds at q → Numbered k ds at q
unfolding Numbered
numbered_same (table n) l k ds at same h = tt
numbered_same it l k ds at same h = tt
numbered_same env l k ds at same h = tt
numbered_same (just t d) l k ds at same h = ap (thing_at ds) (same at (omega arith) (omega (arith, written_some (just t d)))) ∙ h
numbered_same (two o p q) l k ds at same h = (numbered_same p l k ds (at + first_part (two o p q)) (lower₁ (two o p q) p q l k at (pair (two o p q) p q refl) same) h.0, numbered_same q l k ds (at + last_part (two o p q)) (lower₂ (two o p q) p q l k at (pair (two o p q) p q refl) same) h.1)
numbered_same (one o q) l k ds at same h = numbered_same q l k ds (at + last_part (one o q)) (lower (one o q) q l k at (single (one o q) q refl) same) h
numbered_same (each p q) l k ds at same h = (numbered_same p l k ds (at + first_part (each p q)) (lower₁ (each p q) p q l k at (pair (each p q) p q refl) same) h.0, numbered_same q l k ds (at + last_part (each p q)) (lower₂ (each p q) p q l k at (pair (each p q) p q refl) same) h.1)
numbered_same (keep p q) l k ds at same h = (numbered_same p l k ds (at + first_part (keep p q)) (lower₁ (keep p q) p q l k at (pair (keep p q) p q refl) same) h.0, numbered_same q l k ds (at + last_part (keep p q)) (lower₂ (keep p q) p q l k at (pair (keep p q) p q refl) same) h.1)
numbered_same (product p q) l k ds at same h = (numbered_same p l k ds (at + first_part (product p q)) (lower₁ (product p q) p q l k at (pair (product p q) p q refl) same) h.0, numbered_same q l k ds (at + last_part (product p q)) (lower₂ (product p q) p q l k at (pair (product p q) p q refl) same) h.1)
numbered_same (matched m n p q) l k ds at same h = (numbered_same p l k ds (at + first_part (matched m n p q)) (lower₁ (matched m n p q) p q l k at (pair (matched m n p q) p q refl) same) h.0, numbered_same q l k ds (at + last_part (matched m n p q)) (lower₂ (matched m n p q) p q l k at (pair (matched m n p q) p q refl) same) h.1)
numbered_same (default p q) l k ds at same h = (numbered_same p l k ds (at + first_part (default p q)) (lower₁ (default p q) p q l k at (pair (default p q) p q refl) same) h.0, numbered_same q l k ds (at + last_part (default p q)) (lower₂ (default p q) p q l k at (pair (default p q) p q refl) same) h.1)
numbered_same (as_left t q) l k ds at same h = numbered_same q l k ds (at + last_part (as_left t q)) (lower (as_left t q) q l k at (single (as_left t q) q refl) same) h
numbered_same (as_right t q) l k ds at same h = numbered_same q l k ds (at + last_part (as_right t q)) (lower (as_right t q) q l k at (single (as_right t q) q refl) same) h
numbered_same (either p q) l k ds at same h = (numbered_same p l k ds (at + first_part (either p q)) (lower₁ (either p q) p q l k at (pair (either p q) p q refl) same) h.0, numbered_same q l k ds (at + last_part (either p q)) (lower₂ (either p q) p q l k at (pair (either p q) p q refl) same) h.1)
numbered_same (then p q) l k ds at same h = (numbered_same p l k ds (at + first_part (then p q)) (lower₁ (then p q) p q l k at (pair (then p q) p q refl) same) h.0, numbered_same q l k ds (at + last_part (then p q)) (lower₂ (then p q) p q l k at (pair (then p q) p q refl) same) h.1)
numbered_same (with_env p q) l k ds at same h = (numbered_same p l k ds (at + first_part (with_env p q)) (lower₁ (with_env p q) p q l k at (pair (with_env p q) p q refl) same) h.0, numbered_same q l k ds (at + last_part (with_env p q)) (lower₂ (with_env p q) p q l k at (pair (with_env p q) p q refl) same) h.1)

pub many_joined : (ds es : Datas) → how_many (join ds es) ≡ how_many ds + how_many es
unfolding join how_many
many_joined none es = omega arith
many_joined (more d ds) es = omega (arith, many_joined ds es)

-- no more is written out than there are parts
pub few_written : (q : Query) → how_many (written_out q) ≤ size_q q
unfolding written_out size_q how_many
few_written (table n) = omega arith
few_written it = omega arith
few_written env = omega arith
few_written (just t d) = omega arith
few_written (two o p q) = omega (arith, few_written p, few_written q, many_joined (written_out p) (written_out q))
few_written (one o q) = omega (arith, few_written q)
few_written (each p q) = omega (arith, few_written p, few_written q, many_joined (written_out p) (written_out q))
few_written (keep p q) = omega (arith, few_written p, few_written q, many_joined (written_out p) (written_out q))
few_written (product p q) = omega (arith, few_written p, few_written q, many_joined (written_out p) (written_out q))
few_written (matched m n p q) = omega (arith, few_written p, few_written q, many_joined (written_out p) (written_out q))
few_written (default p q) = omega (arith, few_written p, few_written q, many_joined (written_out p) (written_out q))
few_written (as_left t q) = omega (arith, few_written q)
few_written (as_right t q) = omega (arith, few_written q)
few_written (either p q) = omega (arith, few_written p, few_written q, many_joined (written_out p) (written_out q))
few_written (then p q) = omega (arith, few_written p, few_written q, many_joined (written_out p) (written_out q))
few_written (with_env p q) = omega (arith, few_written p, few_written q, many_joined (written_out p) (written_out q))
