-- Queries are trees, and their heads are told by their tags.
use Rattle.std.specs.Prelude.{◌≡◌, ℕ, ◌+◌, ◌^◌, ◌<◌, ◌≤◌, true, List, [], ◌∷◌, ◌++◌, length, take, slice_index, refl}
use Rattle.std.proofs.Common.{sym, ap, ◌∙◌, arith, Fits}
use Rattle.std.specs.Int.{w8}
use Rattle.std.proofs.lemmas.List.{append-nil, drop_more}
use Rattle.query.specs.Data.{Name, unit}
use Rattle.query.specs.Query.{Op2, equal, and, or, plus, less, join_bags, join_recs, within, Op1, not_so, in_bag, flat, count, sum, distinct, dot, as_field, without, project, Ty, a_unit, Query, table, it, env, just, two, one, each, keep, product, matched, default, as_left, as_right, either, then, with_env}
use Rattle.format.specs.Coding.{le, number, name, writes, AllFit, many, counted, both_of}
use Rattle.format.specs.Wire.{write_ty, FitsTy, write_data, FitsData, tag_2, write_1, Fits1, write_query, FitsQuery, types, data_of, queries}
use Rattle.format.specs.Heads.{QueryHead, table_q, it_q, env_q, just_q, two_q, one_q, each_q, keep_q, product_q, matched_q, default_q, left_q, right_q, either_q, then_q, with_env_q, write_query_head, FitsQueryHead, query_heads, query_arity, first_query, second_query, build_query, ty_heads, ty_arity, data_heads, data_arity}
use Rattle.query.specs.Types.{bytes}
use Rattle.format.specs.Reading.{OneWay, Begins, Stuck, ReadAs}
use Rattle.format.specs.Nodes.{NodeRead, TellsQuery, PlainHead}
use Rattle.format.specs.declared.node.QueryNode.{QueryNode}
use Rattle.format.specs.Lists.{bytes_none, from, bytes_typed}
use Rattle.format.specs.Codings.{Out, number_way, name_way, way_both, both_splits}
use Rattle.format.specs.Trees.{Laws, tree_way}
use Rattle.format.specs.Tags.{Table, end, row, alone, entry, Entry, Good, GoodEntry, Tagged, plain_way, heads_way, heads_long, node_alone, node_begins, head_stuck, stuck_tag, stuck_empty}
use Rattle.format.specs.NameLaws.{names_way}
use Rattle.format.specs.TypeLaws.{ty_laws}
use Rattle.format.specs.DataLaws.{data_laws}

pub types_way : OneWay types
types_way = tree_way types ty_heads ty_arity ty_laws

pub data_way : OneWay data_of
data_way = tree_way data_of data_heads data_arity data_laws

-- heads with a load
abbrev pub two_entry : Op2 → Entry query_heads
two_entry o = alone (two_q o)

abbrev pub one_entry : Op1 → Entry query_heads
one_entry o = alone (one_q o)

abbrev pub named_entry : (Name → Op1) → Entry query_heads
named_entry f = record { load = name; make = λ n. one_q (f n) }

abbrev pub query_table : Table query_heads
query_table =
    row record { load = number 4; make = table_q }
    (row (alone it_q)
    (row (alone env_q)
    (row record { load = both_of types data_of; make = λ p. just_q p.0 p.1 }
    (row (two_entry equal)
    (row (two_entry and)
    (row (two_entry or)
    (row (two_entry plus)
    (row (two_entry less)
    (row (two_entry join_bags)
    (row (two_entry join_recs)
    (row (two_entry within)
    (row (one_entry not_so)
    (row (one_entry in_bag)
    (row (one_entry flat)
    (row (one_entry count)
    (row (one_entry sum)
    (row (one_entry distinct)
    (row (named_entry dot)
    (row (named_entry as_field)
    (row (named_entry without)
    (row record { load = counted name; make = λ ns. one_q (project ns) }
    (row (alone each_q)
    (row (alone keep_q)
    (row (alone product_q)
    (row record { load = both_of name name; make = λ p. matched_q p.0 p.1 }
    (row (alone default_q)
    (row record { load = types; make = left_q }
    (row record { load = types; make = right_q }
    (row (alone either_q)
    (row (alone then_q)
    (row (alone with_env_q) end)))))))))))))))))))))))))))))))

alone_good : (t : ℕ) (h : QueryHead) → FitsQueryHead h → write_query_head h ≡ t ∷ [] → GoodEntry query_heads t (alone h)
alone_good t h f w = record { fits = λ l g. f; written = λ l. w; one_way = plain_way; some = tt; some_fits = tt }

named_good : (t : ℕ) (f : Name → Op1) → ((n : Name) → name.Fits n → FitsQueryHead (one_q (f n))) → ((n : Name) → write_query_head (one_q (f n)) ≡ t ∷ name.write n) → GoodEntry query_heads t (named_entry f)
named_good t f g w = record { fits = g; written = w; one_way = name_way; some = []; some_fits = (omega arith, bytes_none) }

typed_good : (t : ℕ) (f : Ty → QueryHead) → ((u : Ty) → FitsTy u → FitsQueryHead (f u)) → ((u : Ty) → write_query_head (f u) ≡ t ∷ write_ty u) → GoodEntry query_heads t record { load = types; make = f }
unfolding FitsTy
typed_good t f g w = record { fits = g; written = w; one_way = types_way; some = a_unit; some_fits = tt }

pub query_good : Good query_heads 0 query_table
unfolding write_query_head FitsQueryHead tag_2 write_1 Fits1 FitsTy FitsData
query_good = (
  record { fits = λ l f. f; written = λ l. refl; one_way = number_way 4; some = 0; some_fits = omega arith },
  (
    alone_good 1 it_q tt refl,
    (
      alone_good 2 env_q tt refl,
      (
        record { fits = λ l f. f; written = λ l. refl; one_way = way_both (both_of types data_of) types (λ a. data_of) (both_splits types data_of) types_way (λ a. data_way); some = (a_unit, unit); some_fits = (tt, tt) },
        (
          alone_good 4 (two_q equal) tt refl,
          (
            alone_good 5 (two_q and) tt refl,
            (
              alone_good 6 (two_q or) tt refl,
              (
                alone_good 7 (two_q plus) tt refl,
                (
                  alone_good 8 (two_q less) tt refl,
                  (
                    alone_good 9 (two_q join_bags) tt refl,
                    (
                      alone_good 10 (two_q join_recs) tt refl,
                      (
                        alone_good 11 (two_q within) tt refl,
                        (
                          alone_good 12 (one_q not_so) tt refl,
                          (
                            alone_good 13 (one_q in_bag) tt refl,
                            (
                              alone_good 14 (one_q flat) tt refl,
                              (
                                alone_good 15 (one_q count) tt refl,
                                (
                                  alone_good 16 (one_q sum) tt refl,
                                  (
                                    alone_good 17 (one_q distinct) tt refl,
                                    (
                                      named_good 18 dot (λ n f. f) (λ n. refl),
                                      (
                                        named_good 19 as_field (λ n f. f) (λ n. refl),
                                        (
                                          named_good 20 without (λ n f. f) (λ n. refl),
                                          (
                                            record { fits = λ l f. f; written = λ l. refl; one_way = names_way; some = []; some_fits = (omega arith, tt) },
                                            (
                                              alone_good 22 each_q tt refl,
                                              (
                                                alone_good 23 keep_q tt refl,
                                                (
                                                  alone_good 24 product_q tt refl,
                                                  (
                                                    record { fits = λ l f. f; written = λ l. refl; one_way = way_both (both_of name name) name (λ a. name) (both_splits name name) name_way (λ a. name_way); some = ([], []); some_fits = ((omega arith, bytes_none), (omega arith, bytes_none)) },
                                                    (
                                                      alone_good 26 default_q tt refl,
                                                      (
                                                        typed_good 27 left_q (λ u f. f) (λ u. refl),
                                                        (
                                                          typed_good 28 right_q (λ u f. f) (λ u. refl),
                                                          (
                                                            alone_good 29 either_q tt refl,
                                                            (
                                                              alone_good 30 then_q tt refl,
                                                              (alone_good 31 with_env_q tt refl, tt),
                                                            ),
                                                          ),
                                                        ),
                                                      ),
                                                    ),
                                                  ),
                                                ),
                                              ),
                                            ),
                                          ),
                                        ),
                                      ),
                                    ),
                                  ),
                                ),
                              ),
                            ),
                          ),
                        ),
                      ),
                    ),
                  ),
                ),
              ),
            ),
          ),
        ),
      ),
    ),
  ),
)

pub query_tagged : (h : QueryHead) → FitsQueryHead h → Tagged query_heads query_table h
unfolding FitsQueryHead Fits1
query_tagged (table_q n) f = record { tag_is = 0; load_is = n; load_fits = f; is = refl }
query_tagged it_q f = record { tag_is = 1; load_is = tt; load_fits = tt; is = refl }
query_tagged env_q f = record { tag_is = 2; load_is = tt; load_fits = tt; is = refl }
query_tagged (just_q t d) f = record { tag_is = 3; load_is = (t, d); load_fits = f; is = refl }
query_tagged (two_q equal) f = record { tag_is = 4; load_is = tt; load_fits = tt; is = refl }
query_tagged (two_q and) f = record { tag_is = 5; load_is = tt; load_fits = tt; is = refl }
query_tagged (two_q or) f = record { tag_is = 6; load_is = tt; load_fits = tt; is = refl }
query_tagged (two_q plus) f = record { tag_is = 7; load_is = tt; load_fits = tt; is = refl }
query_tagged (two_q less) f = record { tag_is = 8; load_is = tt; load_fits = tt; is = refl }
query_tagged (two_q join_bags) f = record { tag_is = 9; load_is = tt; load_fits = tt; is = refl }
query_tagged (two_q join_recs) f = record { tag_is = 10; load_is = tt; load_fits = tt; is = refl }
query_tagged (two_q within) f = record { tag_is = 11; load_is = tt; load_fits = tt; is = refl }
query_tagged (one_q not_so) f = record { tag_is = 12; load_is = tt; load_fits = tt; is = refl }
query_tagged (one_q in_bag) f = record { tag_is = 13; load_is = tt; load_fits = tt; is = refl }
query_tagged (one_q flat) f = record { tag_is = 14; load_is = tt; load_fits = tt; is = refl }
query_tagged (one_q count) f = record { tag_is = 15; load_is = tt; load_fits = tt; is = refl }
query_tagged (one_q sum) f = record { tag_is = 16; load_is = tt; load_fits = tt; is = refl }
query_tagged (one_q distinct) f = record { tag_is = 17; load_is = tt; load_fits = tt; is = refl }
query_tagged (one_q (dot n)) f = record { tag_is = 18; load_is = n; load_fits = f; is = refl }
query_tagged (one_q (as_field n)) f = record { tag_is = 19; load_is = n; load_fits = f; is = refl }
query_tagged (one_q (without n)) f = record { tag_is = 20; load_is = n; load_fits = f; is = refl }
query_tagged (one_q (project ns)) f = record { tag_is = 21; load_is = ns; load_fits = f; is = refl }
query_tagged each_q f = record { tag_is = 22; load_is = tt; load_fits = tt; is = refl }
query_tagged keep_q f = record { tag_is = 23; load_is = tt; load_fits = tt; is = refl }
query_tagged product_q f = record { tag_is = 24; load_is = tt; load_fits = tt; is = refl }
query_tagged (matched_q m n) f = record { tag_is = 25; load_is = (m, n); load_fits = f; is = refl }
query_tagged default_q f = record { tag_is = 26; load_is = tt; load_fits = tt; is = refl }
query_tagged (left_q t) f = record { tag_is = 27; load_is = t; load_fits = f; is = refl }
query_tagged (right_q t) f = record { tag_is = 28; load_is = t; load_fits = f; is = refl }
query_tagged either_q f = record { tag_is = 29; load_is = tt; load_fits = tt; is = refl }
query_tagged then_q f = record { tag_is = 30; load_is = tt; load_fits = tt; is = refl }
query_tagged with_env_q f = record { tag_is = 31; load_is = tt; load_fits = tt; is = refl }

-- no part, one, and two
nothing_written : (qs : List Query) → length qs ≡ 0 → writes queries qs ≡ []
nothing_written [] e = refl
nothing_written (q ∷ qs) e = absurd (omega (arith, e))

one_fits : (qs : List Query) → length qs ≡ 1 → AllFit queries qs → FitsQuery (first_query qs)
unfolding first_query
one_fits [] e f = absurd (omega (arith, e))
one_fits (q ∷ qs) e f = f.0

one_written : (qs : List Query) → length qs ≡ 1 → write_query (first_query qs) ≡ writes queries qs
unfolding first_query
one_written [] e = absurd (omega (arith, e))
one_written (q ∷ []) e = sym (append-nil (write_query q))
one_written (p ∷ q ∷ qs) e = absurd (omega (arith, e))

two_fits : (qs : List Query) → length qs ≡ 2 → AllFit queries qs → FitsQuery (first_query qs) × FitsQuery (second_query qs)
unfolding first_query second_query
two_fits [] e f = absurd (omega (arith, e))
two_fits (q ∷ qs) e f = (f.0, one_fits qs (omega (arith, e)) f.1)

two_written : (qs : List Query) → length qs ≡ 2 → write_query (first_query qs) ++ write_query (second_query qs) ≡ writes queries qs
unfolding first_query second_query
two_written [] e = absurd (omega (arith, e))
two_written (q ∷ qs) e = ap (λ (v : List ℕ). write_query q ++ v) (one_written qs (omega (arith, e)))

fits : (h : QueryHead) (qs : List Query) → FitsQueryHead h → (many queries (query_arity h)).Fits qs → FitsQuery (build_query h qs)
unfolding FitsQueryHead FitsQuery build_query query_arity
fits (table_q n) qs f g = f
fits it_q qs f g = tt
fits env_q qs f g = tt
fits (just_q t d) qs f g = f
fits (two_q o) qs f g = two_fits qs g.0 g.1
fits (one_q o) qs f g = (f, one_fits qs g.0 g.1)
fits each_q qs f g = two_fits qs g.0 g.1
fits keep_q qs f g = two_fits qs g.0 g.1
fits product_q qs f g = two_fits qs g.0 g.1
fits (matched_q m n) qs f g = (f, two_fits qs g.0 g.1)
fits default_q qs f g = two_fits qs g.0 g.1
fits (left_q t) qs f g = (f, one_fits qs g.0 g.1)
fits (right_q t) qs f g = (f, one_fits qs g.0 g.1)
fits either_q qs f g = two_fits qs g.0 g.1
fits then_q qs f g = two_fits qs g.0 g.1
fits with_env_q qs f g = two_fits qs g.0 g.1

-- a head, and after it what the parts are written as
leaf_written : (hs : List ℕ) (qs : List Query) → length qs ≡ 0 → hs ≡ hs ++ writes queries qs
leaf_written hs qs e = sym (append-nil hs) ∙ ap (λ (v : List ℕ). hs ++ v) (sym (nothing_written qs e))

written : (h : QueryHead) (qs : List Query) → FitsQueryHead h → (many queries (query_arity h)).Fits qs → write_query (build_query h qs) ≡ write_query_head h ++ writes queries qs
unfolding write_query_head write_query build_query query_arity
written (table_q n) qs f g = leaf_written (0 ∷ le 4 n) qs g.0
written it_q qs f g = leaf_written (1 ∷ []) qs g.0
written env_q qs f g = leaf_written (2 ∷ []) qs g.0
written (just_q t d) qs f g = leaf_written (3 ∷ (write_ty t ++ write_data d)) qs g.0
written (two_q o) qs f g = ap (λ (v : List ℕ). tag_2 o ∷ v) (two_written qs g.0)
written (one_q o) qs f g = ap (λ (v : List ℕ). write_1 o ++ v) (one_written qs g.0)
written each_q qs f g = ap (λ (v : List ℕ). 22 ∷ v) (two_written qs g.0)
written keep_q qs f g = ap (λ (v : List ℕ). 23 ∷ v) (two_written qs g.0)
written product_q qs f g = ap (λ (v : List ℕ). 24 ∷ v) (two_written qs g.0)
written (matched_q m n) qs f g = ap (λ (v : List ℕ). 25 ∷ ((name.write m ++ name.write n) ++ v)) (two_written qs g.0)
written default_q qs f g = ap (λ (v : List ℕ). 26 ∷ v) (two_written qs g.0)
written (left_q t) qs f g = ap (λ (v : List ℕ). 27 ∷ (write_ty t ++ v)) (one_written qs g.0)
written (right_q t) qs f g = ap (λ (v : List ℕ). 28 ∷ (write_ty t ++ v)) (one_written qs g.0)
written either_q qs f g = ap (λ (v : List ℕ). 29 ∷ v) (two_written qs g.0)
written then_q qs f g = ap (λ (v : List ℕ). 30 ∷ v) (two_written qs g.0)
written with_env_q qs f g = ap (λ (v : List ℕ). 31 ∷ v) (two_written qs g.0)

out : (q : Query) → FitsQuery q → Out queries query_heads (λ h. many queries (query_arity h)) build_query q
unfolding FitsQueryHead FitsQuery build_query query_arity first_query second_query
out (table n) f = record { a = table_q n; b = []; a_fits = f; b_fits = (refl, tt); is = refl }
out it f = record { a = it_q; b = []; a_fits = tt; b_fits = (refl, tt); is = refl }
out env f = record { a = env_q; b = []; a_fits = tt; b_fits = (refl, tt); is = refl }
out (just t d) f = record { a = just_q t d; b = []; a_fits = f; b_fits = (refl, tt); is = refl }
out (two o p q) f = record { a = two_q o; b = p ∷ q ∷ []; a_fits = tt; b_fits = (refl, (f.0, (f.1, tt))); is = refl }
out (one o q) f = record { a = one_q o; b = q ∷ []; a_fits = f.0; b_fits = (refl, (f.1, tt)); is = refl }
out (each p q) f = record { a = each_q; b = p ∷ q ∷ []; a_fits = tt; b_fits = (refl, (f.0, (f.1, tt))); is = refl }
out (keep p q) f = record { a = keep_q; b = p ∷ q ∷ []; a_fits = tt; b_fits = (refl, (f.0, (f.1, tt))); is = refl }
out (product p q) f = record { a = product_q; b = p ∷ q ∷ []; a_fits = tt; b_fits = (refl, (f.0, (f.1, tt))); is = refl }
out (matched m n p q) f = record { a = matched_q m n; b = p ∷ q ∷ []; a_fits = f.0; b_fits = (refl, (f.1.0, (f.1.1, tt))); is = refl }
out (default p q) f = record { a = default_q; b = p ∷ q ∷ []; a_fits = tt; b_fits = (refl, (f.0, (f.1, tt))); is = refl }
out (as_left t q) f = record { a = left_q t; b = q ∷ []; a_fits = f.0; b_fits = (refl, (f.1, tt)); is = refl }
out (as_right t q) f = record { a = right_q t; b = q ∷ []; a_fits = f.0; b_fits = (refl, (f.1, tt)); is = refl }
out (either p q) f = record { a = either_q; b = p ∷ q ∷ []; a_fits = tt; b_fits = (refl, (f.0, (f.1, tt))); is = refl }
out (then p q) f = record { a = then_q; b = p ∷ q ∷ []; a_fits = tt; b_fits = (refl, (f.0, (f.1, tt))); is = refl }
out (with_env p q) f = record { a = with_env_q; b = p ∷ q ∷ []; a_fits = tt; b_fits = (refl, (f.0, (f.1, tt))); is = refl }

pub query_laws : Laws queries query_heads query_arity
unfolding FitsQueryHead query_arity
query_laws =
    record {
      splits = record { make = build_query; fits = fits; written = written; out = out };
      one_way = heads_way query_heads query_table query_good (omega arith) query_tagged;
      long = heads_long query_heads query_table query_good (omega arith) query_tagged;
      leaf = it_q;
      leaf_fits = tt;
      leaf_alone = refl;
    }

pub queries_way : OneWay queries
queries_way = tree_way queries query_heads query_arity query_laws

-- a head has few parts
pub query_few : (h : QueryHead) → FitsQueryHead h → query_arity h < 2 ^ 32
unfolding FitsQueryHead query_arity
query_few (table_q n) f = omega arith
query_few it_q f = omega arith
query_few env_q f = omega arith
query_few (just_q t d) f = omega arith
query_few (two_q o) f = omega arith
query_few (one_q o) f = omega arith
query_few each_q f = omega arith
query_few keep_q f = omega arith
query_few product_q f = omega arith
query_few (matched_q m n) f = omega arith
query_few default_q f = omega arith
query_few (left_q t) f = omega arith
query_few (right_q t) f = omega arith
query_few either_q f = omega arith
query_few then_q f = omega arith
query_few with_env_q f = omega arith

-- what the code reads in front
module _ (xs : List ℕ) (typed : (j : ℕ) → Fits w8 (slice_index xs j)) where
  module _ (n : 0 < length xs) where
    pub query_alone : (t : ℕ) (node : QueryNode) (l : (entry query_table t).load.T) → slice_index xs 0 ≡ t → (entry query_table t).load.Fits l → (entry query_table t).load.write l ≡ []
        → TellsQuery node ((entry query_table t).make l) → ReadAs query_heads xs 1 (TellsQuery node)
    query_alone t node l = node_alone query_heads query_table query_good (omega arith) query_tagged TellsQuery xs t node l (bytes_typed xs typed) n

    pub query_begins : (t f e : ℕ) (node : QueryNode) (l : (entry query_table t).load.T) → slice_index xs 0 ≡ t → Begins (entry query_table t).load (from 1 xs) f l → e ≡ 1 + f
        → TellsQuery node ((entry query_table t).make l) → ReadAs query_heads xs e (TellsQuery node)
    query_begins t f e node l = node_begins query_heads query_table query_good (omega arith) query_tagged TellsQuery xs t f e node l (bytes_typed xs typed) n

    pub query_stuck : (t p e : ℕ) → slice_index xs 0 ≡ t → Stuck (entry query_table t).load (from 1 xs) p → e ≡ 1 + p → Stuck query_heads xs e
    query_stuck t p e = head_stuck query_heads query_table query_good (omega arith) query_tagged xs t p e (bytes_typed xs typed) n

  pub query_no_tag : 0 < length xs → 32 ≤ slice_index xs 0 → Stuck query_heads xs 0
  unfolding FitsQueryHead
  query_no_tag = stuck_tag query_heads query_table query_good (omega arith) query_tagged it_q tt xs

  pub query_empty : length xs ≡ 0 → Stuck query_heads xs 0
  unfolding FitsQueryHead
  query_empty = stuck_empty query_heads query_table query_good (omega arith) query_tagged it_q tt xs

  -- a head that is its tag alone
  pub plain_read : (node : QueryNode) → 0 < length xs → PlainHead (slice_index xs 0) node → ReadAs query_heads xs 1 (TellsQuery node)
  plain_read node n h =
      record {
        thing = h.head;
        begins = record { within = n; fits = h.fits; is = ap (λ (v : List ℕ). take 1 v) (drop_more xs 0 0 n) ∙ sym h.written };
        says = h.tells;
      }

-- the same, with how many parts follow
module _ (xs : List ℕ) (b : bytes xs ≡ true) where
  pub query_alone_parts : (t k : ℕ) (node : QueryNode) (l : (entry query_table t).load.T) → 0 < length xs → slice_index xs 0 ≡ t → (entry query_table t).load.Fits l → (entry query_table t).load.write l ≡ []
      → TellsQuery node ((entry query_table t).make l) → k ≡ query_arity ((entry query_table t).make l) → k < 2 ^ 32 → NodeRead query_heads query_arity TellsQuery xs node k 1
  query_alone_parts t k node l n g f w s a m =
      node_alone query_heads query_table query_good (omega arith) query_tagged (λ (v : ℕ) (h : QueryHead). TellsQuery node h × (v ≡ query_arity h) × (v < 2 ^ 32)) xs t k l b n g f w (s, a, m)

  pub query_begins_parts : (t k f e : ℕ) (node : QueryNode) (l : (entry query_table t).load.T) → 0 < length xs → slice_index xs 0 ≡ t → Begins (entry query_table t).load (from 1 xs) f l → e ≡ 1 + f
      → TellsQuery node ((entry query_table t).make l) → k ≡ query_arity ((entry query_table t).make l) → k < 2 ^ 32 → NodeRead query_heads query_arity TellsQuery xs node k e
  query_begins_parts t k f e node l n g r q s a m =
      node_begins query_heads query_table query_good (omega arith) query_tagged (λ (v : ℕ) (h : QueryHead). TellsQuery node h × (v ≡ query_arity h) × (v < 2 ^ 32)) xs t f e k l b n g r q (s, a, m)

  pub plain_read_parts : (node : QueryNode) (k e : ℕ) → 0 < length xs → (h : PlainHead (slice_index xs 0) node) → k ≡ query_arity h.head → k < 2 ^ 32 → e ≡ 1 → NodeRead query_heads query_arity TellsQuery xs node k e
  plain_read_parts node k e n h a m q =
      record {
        thing = h.head;
        begins = record { within = omega (arith, q); fits = h.fits; is = ap (λ (v : ℕ). take v xs) q ∙ ap (λ (v : List ℕ). take 1 v) (drop_more xs 0 0 n) ∙ sym h.written };
        says = (h.tells, a, m);
      }
