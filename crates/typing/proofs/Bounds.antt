-- There is always room: names and parts of a query are together no more than the limit, so their product is bounded.
use Rattle.std.proofs.Common.{◌≡◌, ℕ, ◌+◌, ◌-◌, ◌*◌, ◌<◌, ◌≤◌, ◌⊎◌, List, [], ◌∷◌, length, ap, ◌∙◌, subst, inl, inr, mul_comm, mul-le-mul_left, mul-one, mul-add, arith}
use Rattle.query.specs.Query.{Op1, not_so, in_bag, flat, count, sum, distinct, dot, as_field, without, project, Ty, a_unit, a_num, a_truth, a_text, a_bag, a_rec, an_either, Tys, no_ty, ty, Query, table, it, env, just, two, one, each, keep, product, matched, default, as_left, as_right, either, then, with_env}
use Rattle.query.specs.Data.{Name}
use Rattle.query.specs.Types.{Schema}
use Rattle.query.specs.Size.{size_t, size_ts, size_1, size_q, size_s, sizes as sizes-n}
use Rattle.ranks.specs.Known.{names_t, names_ts, names_1, names_q, names_all}
use Rattle.typing.specs.Loads.{sizes}
use Rattle.typing.specs.Costs.{wide, nodes}

low : (x y : ℕ) → x ≤ 4096 → x + y ≤ 8192 → x * y ≤ 16777216
low x y h l =
    let d : ℕ = 4096 - x in
    let e : x + d ≡ 4096 = omega arith in
    let a = mul-le-mul_left {m = y} {n = 4096 + d} x (omega arith) in
    let b = mul-add x 4096 d in
    let c = mul-le-mul_left {m = x} {n = 4096} d h in
    let k = mul_comm x d in
    omega (arith, a, b, c, k, e)

pub bound : (x y : ℕ) → x + y ≤ 8192 → x * y ≤ 16777216
bound x y l = elim (halves x) [ inl h ↦ low x y h l | inr h ↦ subst (λ z. z ≤ 16777216) (mul_comm y x) (low y x (omega arith) (omega arith)) ]
  where
    halves : (x : ℕ) → (x ≤ 4096) ⊎ (4096 ≤ x)
    halves x = grind arith

mutual
  unfolding names_t names_ts size_t size_ts

  ty_few : (t : Ty) → names_t t < size_t t
  ty_few a_unit = omega arith
  ty_few a_num = omega arith
  ty_few a_truth = omega arith
  ty_few a_text = omega arith
  ty_few (a_bag t) = let h = ty_few t in omega arith
  ty_few (a_rec ts) = let h = tys_few ts in omega arith
  ty_few (an_either t u) = let h = ty_few t in let k = ty_few u in omega arith

  tys_few : (ts : Tys) → names_ts ts ≤ size_ts ts
  tys_few no_ty = omega arith
  tys_few (ty n t ts) = let h = ty_few t in let k = tys_few ts in omega arith

names_few : (ns : List Name) → length ns ≤ sizes-n ns
unfolding sizes-n
names_few [] = omega arith
names_few (n ∷ ns) = let h = names_few ns in omega arith

op_few : (o : Op1) → names_1 o ≤ size_1 o
unfolding names_1 size_1
op_few not_so = omega arith
op_few in_bag = omega arith
op_few flat = omega arith
op_few count = omega arith
op_few sum = omega arith
op_few distinct = omega arith
op_few (dot n) = omega arith
op_few (as_field n) = omega arith
op_few (without n) = omega arith
op_few (project ns) = let h = names_few ns in omega arith

-- parts with parts, and names, are all parts
pub query_few : (q : Query) → nodes q + names_q q < size_q q
unfolding nodes names_q size_q
query_few (table n) = omega arith
query_few it = omega arith
query_few env = omega arith
query_few (just t d) = let h = ty_few t in omega arith
query_few (two o p q) = let h = query_few p in let k = query_few q in omega arith
query_few (one o q) = let h = op_few o in let k = query_few q in omega arith
query_few (each p q) = let h = query_few p in let k = query_few q in omega arith
query_few (keep p q) = let h = query_few p in let k = query_few q in omega arith
query_few (product p q) = let h = query_few p in let k = query_few q in omega arith
query_few (matched m n p q) = let h = query_few p in let k = query_few q in omega arith
query_few (default p q) = let h = query_few p in let k = query_few q in omega arith
query_few (as_left t q) = let h = ty_few t in let k = query_few q in omega arith
query_few (as_right t q) = let h = ty_few t in let k = query_few q in omega arith
query_few (either p q) = let h = query_few p in let k = query_few q in omega arith
query_few (then p q) = let h = query_few p in let k = query_few q in omega arith
query_few (with_env p q) = let h = query_few p in let k = query_few q in omega arith

more : (w a : ℕ) → w * (1 + a) ≡ w + w * a
more w a = mul-add w 1 a ∙ ap (λ z. z + w * a) (mul-one w)

both : (w a b : ℕ) → w * (1 + (a + b)) ≡ w + (w * a + w * b)
both w a b = more w (a + b) ∙ ap (λ z. w + z) (mul-add w a b)

pub wide_few : (w : ℕ) (q : Query) → wide w q ≤ w * nodes q + names_q q
unfolding wide nodes names_q
wide_few w (table n) = omega arith
wide_few w it = omega arith
wide_few w env = omega arith
wide_few w (just t d) = omega arith
wide_few w (two o p q) = let h = wide_few w p in let k = wide_few w q in let e = both w (nodes p) (nodes q) in omega arith
wide_few w (one o q) = let k = wide_few w q in let e = more w (nodes q) in omega arith
wide_few w (each p q) = let h = wide_few w p in let k = wide_few w q in let e = both w (nodes p) (nodes q) in omega arith
wide_few w (keep p q) = let h = wide_few w p in let k = wide_few w q in let e = both w (nodes p) (nodes q) in omega arith
wide_few w (product p q) = let h = wide_few w p in let k = wide_few w q in let e = both w (nodes p) (nodes q) in omega arith
wide_few w (matched m n p q) = let h = wide_few w p in let k = wide_few w q in let e = both w (nodes p) (nodes q) in omega arith
wide_few w (default p q) = let h = wide_few w p in let k = wide_few w q in let e = both w (nodes p) (nodes q) in omega arith
wide_few w (as_left t q) = let k = wide_few w q in let e = more w (nodes q) in omega arith
wide_few w (as_right t q) = let k = wide_few w q in let e = more w (nodes q) in omega arith
wide_few w (either p q) = let h = wide_few w p in let k = wide_few w q in let e = both w (nodes p) (nodes q) in omega arith
wide_few w (then p q) = let h = wide_few w p in let k = wide_few w q in let e = both w (nodes p) (nodes q) in omega arith
wide_few w (with_env p q) = let h = wide_few w p in let k = wide_few w q in let e = both w (nodes p) (nodes q) in omega arith

pub schema_few : (ss : Schema) → (names_all ss ≤ size_s ss) × (sizes ss ≤ size_s ss)
unfolding names_all sizes size_s
schema_few [] = (omega arith, omega arith)
schema_few (t ∷ ss) = let h = schema_few ss in let k = ty_few t in (omega (arith, h.0), omega (arith, h.1))

-- room for a schema and a query within the limit of parts
pub record Enough (ss : Schema) (q : Query) (w : ℕ) : Type 0 where
  pub names : 1 + (names_all ss + names_q q) ≤ 8200
  pub entries : 1 + (sizes ss + 2 * size_q q) ≤ 16400
  pub fields : names_all ss + wide w q ≤ 16793600

pub enough : (ss : Schema) (q : Query) (w : ℕ) → size_s ss + size_q q ≤ 8192 → w ≤ 1 + (names_all ss + names_q q) → Enough ss q w
enough ss q w l h =
    let s = schema_few ss in
    let f = query_few q in
    let x = nodes q in
    let y = names_all ss + names_q q in
    let b = bound x y (omega (arith, s.0)) in
    let m = mul-le-mul_left {m = w} {n = 1 + y} x h in
    let e = more x y in
    let k = wide_few w q in
    let c = mul_comm w x in
    record { names = omega (arith, s.0); entries = omega (arith, s.1); fields = omega (arith, s.0) }
