-- How wide records are: no wider than there are names, and of names there are at most as many as parts.
use mathlib.Core.Path.{◌≡◌, refl, sym, ap, subst, ◌∙◌}
use mathlib.Core.Bool.{Bool, true, false, ◌&&◌, ◌||◌, true≢false, false≢true}
use mathlib.Core.List.{List, [], ◌∷◌, ◌++◌}
use Prim.Native.Nat.{suc, ◌+◌, ◌≤◌}
use native.Mathlib.Omega.{arith}
use lib.ListN.{length, length-append}
use Rattle.query.specs.Data.{Name, pick, same_text, less_text, one_of, no_field, field}
use Rattle.query.specs.Query.{Op1, not_so, in_bag, flat, count, sum, distinct, dot, as_field, without, project, Ty, a_unit, a_num, a_truth, a_text, a_bag, a_rec, an_either, Tys, no_ty, ty, Query, table, it, env, just, two, one, each, keep, product, matched, default, as_left, as_right, either, then, with_env}
use Rattle.query.specs.Types.{sounds, first_after, Schema}
use Rattle.query.specs.Size.{size_t, size_ts, size_1, size_q, size_s}
use Rattle.query.proofs.Tests.{and_l, and_r, and_i}
use Rattle.query.proofs.Texts.{same_text_true, same_text_self, less_differs}
use Rattle.query.proofs.SoundRecords.{sounds_out, after_trans}
use Rattle.query.proofs.OfType.{field_out, no_field_out, no_ty_out}
use Rattle.bounds.specs.Names.{width, width_ty, named, nameds, names_in, names_in_all, schema_names, op_names, query_names, all_in, schema_named}
use Rattle.bounds.specs.Bounds.{NoWider, AsWide, FewNames}
use Rattle.bounds.proofs.Lists.{all_in_left, all_in_right, all_in_first, all_in_second}
use Rattle.bounds.proofs.Naming.{nameds_out, type_names}

pub as_wide : AsWide
unfolding width width_ty
as_wide no_field no_ty h = refl
as_wide no_field (ty m t ts) h = absurd (no_field_out m t ts h)
as_wide (field n d fs) no_ty h = absurd (no_ty_out n d fs h)
as_wide (field n d fs) (ty m t ts) h = ap suc (as_wide fs ts (field_out n d fs m t ts h).2)

-- one name taken out of a list
unfoldable taken_out : Name → List Name → List Name
taken_out n [] = []
taken_out n (m ∷ ms) = pick (same_text n m) ms (m ∷ taken_out n ms)

taken_long : (n : Name) (ms : List Name) → one_of n ms ≡ true → length ms ≡ suc (length (taken_out n ms))
unfolding taken_out one_of pick
taken_long n [] e = absurd (false≢true e)
taken_long n (m ∷ ms) e = go (same_text n m) e (λ k. taken_long n ms k)
  where
    go : (t : Bool) → (t || one_of n ms) ≡ true → (one_of n ms ≡ true → length ms ≡ suc (length (taken_out n ms))) → suc (length ms) ≡ suc (length (pick t ms (m ∷ taken_out n ms)))
    go true e f = refl
    go false e f = ap suc (f e)

or_right : (t u : Bool) → t ≡ false → (t || u) ≡ true → u ≡ true
or_right true u p e = absurd (true≢false p)
or_right false u p e = e

still_in : (n k : Name) (ms : List Name) → same_text k n ≡ false → one_of k ms ≡ true → one_of k (taken_out n ms) ≡ true
unfolding taken_out one_of pick
still_in n k [] d e = e
still_in n k (m ∷ ms) d e = go (same_text n m) refl (λ l. still_in n k ms d l)
  where
    later_on : (t u w : Bool) → (t || u) ≡ true → (u ≡ true → w ≡ true) → (t || w) ≡ true
    later_on true u w e f = refl
    later_on false u w e f = f e

    go : (t : Bool) → same_text n m ≡ t → (one_of k ms ≡ true → one_of k (taken_out n ms) ≡ true) → one_of k (pick t ms (m ∷ taken_out n ms)) ≡ true
    go true s f = or_right (same_text k m) (one_of k ms) (subst (λ x. same_text k x ≡ false) (same_text_true n m s) d) e
    go false s f = later_on (same_text k m) (one_of k ms) (one_of k (taken_out n ms)) e f

-- the names of a record alone
unfoldable all_named : List Name → Tys → Bool
all_named ns no_ty = true
all_named ns (ty n t ts) = one_of n ns && all_named ns ts

only_names : (ns : List Name) (ts : Tys) → nameds ns ts ≡ true → all_named ns ts ≡ true
unfolding all_named
only_names ns no_ty h = refl
only_names ns (ty n t ts) h = let o = nameds_out ns n t ts h in and_i (one_of n ns) (all_named ns ts) o.0 (only_names ns ts o.2)

differs_flip : (a b : Name) → less_text a b ≡ true → same_text b a ≡ false
differs_flip a b h = go (same_text b a) refl
  where
    go : (x : Bool) → same_text b a ≡ x → same_text b a ≡ false
    go false e = e
    go true e = absurd (true≢false (sym (same_text_self a) ∙ subst (λ (v : Name). same_text a v ≡ false) (same_text_true b a e) (less_differs a b h)))

still_all : (n : Name) (ns : List Name) (ts : Tys) → sounds ts ≡ true → first_after n ts ≡ true → all_named ns ts ≡ true → all_named (taken_out n ns) ts ≡ true
unfolding all_named first_after
still_all n ns no_ty s a h = refl
still_all n ns (ty m t ts) s a h =
    let o = sounds_out m t ts s in
    and_i (one_of m (taken_out n ns)) (all_named (taken_out n ns) ts) (still_in n m ns (differs_flip n m a) (and_l (one_of m ns) (all_named ns ts) h))
    (still_all n ns ts o.2 (after_trans n m ts a o.1) (and_r (one_of m ns) (all_named ns ts) h))

names_wide : (ns : List Name) (ts : Tys) → sounds ts ≡ true → all_named ns ts ≡ true → width_ty ts ≤ length ns
unfolding width_ty all_named
names_wide ns no_ty s h = omega arith
names_wide ns (ty n t ts) s h =
    let o = sounds_out n t ts s in
    omega (arith, taken_long n ns (and_l (one_of n ns) (all_named ns ts) h), names_wide (taken_out n ns) ts o.2 (still_all n ns ts o.2 o.1 (and_r (one_of n ns) (all_named ns ts) h)))

pub no_wider : NoWider
no_wider ns ts s h = names_wide ns ts s (only_names ns ts h)

-- how many names there are
mutual
  unfolding names_in names_in_all size_t size_ts

  few_in : (t : Ty) → length (names_in t) ≤ size_t t
  few_in a_unit = omega arith
  few_in a_num = omega arith
  few_in a_truth = omega arith
  few_in a_text = omega arith
  few_in (a_bag t) = omega (arith, few_in t)
  few_in (a_rec ts) = omega (arith, few_in_all ts)
  few_in (an_either t u) = omega (arith, few_in t, few_in u, length-append (names_in t) (names_in u))

  few_in_all : (ts : Tys) → length (names_in_all ts) ≤ size_ts ts
  few_in_all no_ty = omega arith
  few_in_all (ty n t ts) = omega (arith, few_in t, few_in_all ts, length-append (names_in t) (names_in_all ts))

few_schema : (ss : Schema) → length (schema_names ss) ≤ size_s ss
unfolding schema_names size_s
few_schema [] = omega arith
few_schema (t ∷ ts) = omega (arith, few_in t, few_schema ts, length-append (names_in t) (schema_names ts))

few_op : (o : Op1) → length (op_names o) ≤ size_1 o
unfolding op_names size_1
few_op not_so = omega arith
few_op in_bag = omega arith
few_op flat = omega arith
few_op count = omega arith
few_op sum = omega arith
few_op distinct = omega arith
few_op (dot n) = omega arith
few_op (as_field n) = omega arith
few_op (without n) = omega arith
few_op (project ns) = omega arith

few_two : (p q : Query) → length (query_names p) ≤ size_q p → length (query_names q) ≤ size_q q → length (query_names p ++ query_names q) ≤ size_q p + size_q q
few_two p q a b = omega (arith, length-append (query_names p) (query_names q))

few_query : (q : Query) → length (query_names q) ≤ size_q q
unfolding query_names size_q
few_query (table n) = omega arith
few_query it = omega arith
few_query env = omega arith
few_query (just t d) = omega (arith, few_in t)
few_query (two o p q) = omega (arith, few_two p q (few_query p) (few_query q))
few_query (one o q) = omega (arith, few_op o, few_query q, length-append (op_names o) (query_names q))
few_query (each p q) = omega (arith, few_two p q (few_query p) (few_query q))
few_query (keep p q) = omega (arith, few_two p q (few_query p) (few_query q))
few_query (product p q) = omega (arith, few_two p q (few_query p) (few_query q))
few_query (matched m n p q) = omega (arith, few_two p q (few_query p) (few_query q))
few_query (default p q) = omega (arith, few_two p q (few_query p) (few_query q))
few_query (as_left t q) = omega (arith, few_in t, few_query q, length-append (names_in t) (query_names q))
few_query (as_right t q) = omega (arith, few_in t, few_query q, length-append (names_in t) (query_names q))
few_query (either p q) = omega (arith, few_two p q (few_query p) (few_query q))
few_query (then p q) = omega (arith, few_two p q (few_query p) (few_query q))
few_query (with_env p q) = omega (arith, few_two p q (few_query p) (few_query q))

-- a list is in itself
all_in_cons : (x : Name) (xs ns : List Name) → all_in xs ns ≡ true → all_in xs (x ∷ ns) ≡ true
all_in_cons x xs ns h = all_in_right xs (x ∷ []) ns h

self_in : (xs : List Name) → all_in xs xs ≡ true
unfolding all_in one_of
self_in [] = refl
self_in (x ∷ xs) = and_i (same_text x x || one_of x xs) (all_in xs (x ∷ xs)) (subst (λ (b : Bool). (b || one_of x xs) ≡ true) (sym (same_text_self x)) refl) (all_in_cons x xs xs (self_in xs))

schema_all : (ss : Schema) (ns : List Name) → all_in (schema_names ss) ns ≡ true → schema_named ns ss ≡ true
unfolding schema_names schema_named
schema_all [] ns h = refl
schema_all (t ∷ ts) ns h = and_i (named ns t) (schema_named ns ts) (type_names ns t (all_in_first (names_in t) (schema_names ts) ns h)) (schema_all ts ns (all_in_second (names_in t) (schema_names ts) ns h))

pub few_names : FewNames
few_names ss q = (
  omega (arith, few_schema ss, few_query q, length-append (schema_names ss) (query_names q)),
  schema_all ss (schema_names ss ++ query_names q) (all_in_left (schema_names ss) (schema_names ss) (query_names q) (self_in (schema_names ss))),
  all_in_right (query_names q) (schema_names ss) (query_names q) (self_in (query_names q)),
)
