-- What a query of some type writes out is of a type each.
use Rattle.std.proofs.Common.{◌≡◌, ◌&&◌, List, [], ◌∷◌}
use Rattle.query.specs.Query.{Ty, Query, table, it, env, just, two, one, each, keep, product, matched, default, as_left, as_right, either, then, with_env}
use Rattle.query.specs.Types.{sound, is_of, Schema, type_of, sides_of, elem, fields_in}
use Rattle.query.proofs.Tests.{and_l, and_r}
use Rattle.query.proofs.TypeParts.{on_ty_out, if_so_out}
use Rattle.literals.specs.Written.{JustsTyped}

typed_by : (ss : Schema) (q : Query) (e t u : Ty) (m : List Ty) → type_of ss q e t ≡ u ∷ m → JustsTyped q
unfolding type_of JustsTyped
typed_by ss (table n) e t u m o = tt
typed_by ss it e t u m o = tt
typed_by ss env e t u m o = tt
typed_by ss (just v c) e t u m o = let s = if_so_out (sound v && is_of c v) (v ∷ []) u m o in (and_l (sound v) (is_of c v) s.0, and_r (sound v) (is_of c v) s.0)
typed_by ss (two b p q) e t u m o =
    let a = on_ty_out (type_of ss p e t) _ u m o in
    let c = on_ty_out (type_of ss q e t) _ u m a.3 in
    (typed_by ss p e t a.0 a.1 a.2, typed_by ss q e t c.0 c.1 c.2)
typed_by ss (one b q) e t u m o = let a = on_ty_out (type_of ss q e t) _ u m o in typed_by ss q e t a.0 a.1 a.2
typed_by ss (each p q) e t u m o =
    let a = on_ty_out (type_of ss q e t) _ u m o in
    let b = on_ty_out (elem a.0) _ u m a.3 in
    let c = on_ty_out (type_of ss p e b.0) _ u m b.3 in
    (typed_by ss p e b.0 c.0 c.1 c.2, typed_by ss q e t a.0 a.1 a.2)
typed_by ss (keep p q) e t u m o =
    let a = on_ty_out (type_of ss q e t) _ u m o in
    let b = on_ty_out (elem a.0) _ u m a.3 in
    let c = on_ty_out (type_of ss p e b.0) _ u m b.3 in
    (typed_by ss p e b.0 c.0 c.1 c.2, typed_by ss q e t a.0 a.1 a.2)
typed_by ss (product p q) e t u m o =
    let a = on_ty_out (type_of ss p e t) _ u m o in
    let b = on_ty_out (fields_in a.0) _ u m a.3 in
    let c = on_ty_out (type_of ss q e t) _ u m b.3 in
    (typed_by ss p e t a.0 a.1 a.2, typed_by ss q e t c.0 c.1 c.2)
typed_by ss (matched i j p q) e t u m o =
    let a = on_ty_out (type_of ss p e t) _ u m o in
    let b = on_ty_out (fields_in a.0) _ u m a.3 in
    let c = on_ty_out (type_of ss q e t) _ u m b.3 in
    (typed_by ss p e t a.0 a.1 a.2, typed_by ss q e t c.0 c.1 c.2)
typed_by ss (default p q) e t u m o =
    let a = on_ty_out (type_of ss p e t) _ u m o in
    let b = on_ty_out (elem a.0) _ u m a.3 in
    let c = on_ty_out (type_of ss q e t) _ u m b.3 in
    (typed_by ss p e t a.0 a.1 a.2, typed_by ss q e t c.0 c.1 c.2)
typed_by ss (as_left v q) e t u m o = let a = on_ty_out (type_of ss q e t) _ u m o in typed_by ss q e t a.0 a.1 a.2
typed_by ss (as_right v q) e t u m o = let a = on_ty_out (type_of ss q e t) _ u m o in typed_by ss q e t a.0 a.1 a.2
typed_by ss (either p q) e t u m o =
    let a = on_ty_out (sides_of t) _ u m o in
    let b = on_ty_out (type_of ss p e a.0.l) _ u m a.3 in
    let c = on_ty_out (type_of ss q e a.0.r) _ u m b.3 in
    (typed_by ss p e a.0.l b.0 b.1 b.2, typed_by ss q e a.0.r c.0 c.1 c.2)
typed_by ss (then p q) e t u m o =
    let a = on_ty_out (type_of ss q e t) _ u m o in
    (typed_by ss p e a.0 u m a.3, typed_by ss q e t a.0 a.1 a.2)
typed_by ss (with_env p q) e t u m o =
    let a = on_ty_out (type_of ss q e t) _ u m o in
    (typed_by ss p a.0 t u m a.3, typed_by ss q e t a.0 a.1 a.2)

pub justs_typed : (ss : Schema) (q : Query) (e t u : Ty) → type_of ss q e t ≡ u ∷ [] → JustsTyped q
justs_typed ss q e t u o = typed_by ss q e t u [] o
