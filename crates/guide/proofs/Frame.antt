-- A guide is right for a query by its numbers at the query's own bytes: others may change.
use Rattle.std.proofs.Common.{◌≡◌, ℕ, ◌+◌, ◌<◌, ◌≤◌, List, length, get_or, sym, refl, ap, ◌∙◌, arith, length-append}
use Rattle.query.specs.Query.{Query, table, it, env, just, two, one, each, keep, product, matched, default, as_left, as_right, either, then, with_env}
use Rattle.format.specs.Wire.{write_1, write_query}
use Rattle.guide.specs.Guide.{first_part, last_part, Guided}
use Rattle.guide.proofs.Shapes.{Single, Pair, single, pair, single_long, pair_long}

pub written_some : (q : Query) → 0 < length (write_query q)
unfolding write_query
written_some (table n) = omega arith
written_some it = omega arith
written_some env = omega arith
written_some (just t d) = omega arith
written_some (two o p q) = omega arith
written_some (one o q) = omega (arith, length-append (write_1 o) (write_query q), written_some q)
written_some (each p q) = omega arith
written_some (keep p q) = omega arith
written_some (product p q) = omega arith
written_some (matched m n p q) = omega arith
written_some (default p q) = omega arith
written_some (as_left t q) = omega arith
written_some (as_right t q) = omega arith
written_some (either p q) = omega arith
written_some (then p q) = omega arith
written_some (with_env p q) = omega arith

-- two guides have the same n numbers from a place on
abbrev pub SameOver : List ℕ → List ℕ → ℕ → ℕ → Type 0
SameOver g h at n = (i : ℕ) → at ≤ i → i < at + n → get_or h i 0 ≡ get_or g i 0

abbrev pub Framed : Query → Type 0
Framed q = (g h : List ℕ) (at : ℕ) → SameOver g h at (length (write_query q)) → Guided g at q → Guided h at q

single_framed : (x p : Query) → Single x p → Framed p → Framed x
single_framed x p s f g h at same d =
    let o = s.out g at d in
    let l = single_long x p s in
    let m : last_part x ≡ first_part x = s.last ∙ sym s.first in
    let n = written_some x in
    s.into h at (same at (omega arith) (omega arith) ∙ o.0) (f g h (at + last_part x) (λ i a b. same i (omega arith) (omega arith)) o.1)

pair_framed : (x p q : Query) → Pair x p q → Framed p → Framed q → Framed x
pair_framed x p q s e f g h at same d =
    let o = s.out g at d in
    let l = pair_long x p q s in
    let m : last_part x ≡ first_part x + length (write_query p) = s.last ∙ ap (λ (v : ℕ). v + length (write_query p)) (sym s.first) in
    let n = written_some x in
    s.into h at (same at (omega arith) (omega arith) ∙ o.0) (e g h (at + first_part x) (λ i a b. same i (omega arith) (omega arith)) o.1) (f g h (at + last_part x) (λ i a b. same i (omega arith) (omega arith)) o.2)

-- what is the same at a query's bytes is right for it if the other is
pub guided_same : (q : Query) → Framed q
unfolding Guided
guided_same (table n) = λ g h at same e. tt
guided_same it = λ g h at same e. tt
guided_same env = λ g h at same e. tt
guided_same (just t d) = λ g h at same e. same at (omega arith) (omega (arith, written_some (just t d))) ∙ e
guided_same (two o p q) = pair_framed (two o p q) p q (pair (two o p q) p q refl) (guided_same p) (guided_same q)
guided_same (one o q) = single_framed (one o q) q (single (one o q) q refl) (guided_same q)
guided_same (each p q) = pair_framed (each p q) p q (pair (each p q) p q refl) (guided_same p) (guided_same q)
guided_same (keep p q) = pair_framed (keep p q) p q (pair (keep p q) p q refl) (guided_same p) (guided_same q)
guided_same (product p q) = pair_framed (product p q) p q (pair (product p q) p q refl) (guided_same p) (guided_same q)
guided_same (matched m n p q) = pair_framed (matched m n p q) p q (pair (matched m n p q) p q refl) (guided_same p) (guided_same q)
guided_same (default p q) = pair_framed (default p q) p q (pair (default p q) p q refl) (guided_same p) (guided_same q)
guided_same (as_left t q) = single_framed (as_left t q) q (single (as_left t q) q refl) (guided_same q)
guided_same (as_right t q) = single_framed (as_right t q) q (single (as_right t q) q refl) (guided_same q)
guided_same (either p q) = pair_framed (either p q) p q (pair (either p q) p q refl) (guided_same p) (guided_same q)
guided_same (then p q) = pair_framed (then p q) p q (pair (then p q) p q refl) (guided_same p) (guided_same q)
guided_same (with_env p q) = pair_framed (with_env p q) p q (pair (with_env p q) p q refl) (guided_same p) (guided_same q)
