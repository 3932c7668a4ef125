-- What is seen of a query.
use Rattle.std.proofs.Common.{◌≡◌, ℕ, zero, suc, ◌+◌, ◌<◌, ◌≤◌, List, [], ◌∷◌, length, get_or, Some, None, sym, refl, ap, ◌∙◌, subst, arith, length-append, length-drop}
use Rattle.query.specs.Query.{not_so, in_bag, flat, count, sum, distinct, dot, as_field, without, project, Query, table, it, env, just, two, one, each, keep, product, matched, default, as_left, as_right, either, then, with_env}
use Rattle.format.specs.Wire.{write_query, write_1}
use Rattle.format.specs.Lists.{from, from_drop}
use Rattle.guide.specs.Guide.{Guided}
use Rattle.guide.specs.Visits.{SaysLast, Visited}
use Rattle.guide.specs.declared.Visit.{Visit}
use Rattle.typing.specs.Visits.{SeenAt}

pub says_last : (g : List ℕ) (pos : ℕ) (q : Query) → Guided g pos q → SaysLast (get_or g pos 0) q
unfolding Guided SaysLast
says_last g pos (table n) h = tt
says_last g pos it h = tt
says_last g pos env h = tt
says_last g pos (just t d) h = h
says_last g pos (two o p q) h = h.0
says_last g pos (one o q) h = h.0
says_last g pos (each p q) h = h.0
says_last g pos (keep p q) h = h.0
says_last g pos (product p q) h = h.0
says_last g pos (matched m n p q) h = h.0
says_last g pos (default p q) h = h.0
says_last g pos (as_left t q) h = h.0
says_last g pos (as_right t q) h = h.0
says_last g pos (either p q) h = h.0
says_last g pos (then p q) h = h.0
says_last g pos (with_env p q) h = h.0

long : (q : Query) → 0 < length (write_query q)
unfolding write_query write_1
long (table n) = omega arith
long it = omega arith
long env = omega arith
long (just t d) = omega arith
long (two o p q) = omega arith
long (one not_so q) = omega arith
long (one in_bag q) = omega arith
long (one flat q) = omega arith
long (one count q) = omega arith
long (one sum q) = omega arith
long (one distinct q) = omega arith
long (one (dot n) q) = omega arith
long (one (as_field n) q) = omega arith
long (one (without n) q) = omega arith
long (one (project ns) q) = omega arith
long (each p q) = omega arith
long (keep p q) = omega arith
long (product p q) = omega arith
long (matched m n p q) = omega arith
long (default p q) = omega arith
long (as_left t q) = omega arith
long (as_right t q) = omega arith
long (either p q) = omega arith
long (then p q) = omega arith
long (with_env p q) = omega arith

module _ (xs g : List ℕ) (base pos : ℕ) where
  pub seen_off : (base + pos < length xs → ⊥) → SeenAt xs g base pos None
  seen_off h = record { within = tt; sees = λ q rest f l e k. h (omega (arith, long q, length-append (write_query q) rest, ap (λ (z : List ℕ). length z) e, length-drop (base + pos) xs)) }

  pub seen_none : (last : ℕ) → last ≡ get_or g pos 0 → Visited (from (base + pos) xs) last None → SeenAt xs g base pos None
  seen_none last e v = record { within = tt; sees = λ q rest f l d k. v.visits q rest f (from_drop (base + pos) xs ∙ d) (subst (λ z. SaysLast z q) (sym e) (says_last g pos q k)) }

  pub seen_some : (last : ℕ) (y : Visit) → base + pos < length xs → last ≡ get_or g pos 0 → Visited (from (base + pos) xs) last (Some y) → SeenAt xs g base pos (Some (record { node = y.node; first = y.first; last = last }))
  seen_some last y h e v = record {
    within = h;
    sees = λ q rest f l d k.
        let i = v.visits q rest f (from_drop (base + pos) xs ∙ d) (subst (λ z. SaysLast z q) (sym e) (says_last g pos q k)) in
        (i.0, i.1, e);
  }

pub past : (g : List ℕ) (pos : ℕ) → length g ≤ pos → get_or g pos 0 ≡ 0
past [] pos h = refl
past (x ∷ g) zero h = absurd (omega arith)
past (x ∷ g) (suc pos) h = past g pos (omega arith)
