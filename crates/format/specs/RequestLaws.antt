-- Requests: told by their tags, read in one way only; what bytes ask is one thing.
use Rattle.std.specs.Prelude.{◌≡◌, ℕ, ◌+◌, ◌<◌, ◌≤◌, List, [], length, drop, slice_index, refl}
use Rattle.std.proofs.Common.{sym, ap, subst, ◌∙◌, Fits}
use Rattle.std.specs.Int.{w8}
use native.Mathlib.Omega.{arith}
use Rattle.std.proofs.lemmas.List.{append-nil}
use Rattle.query.specs.Query.{it}
use Rattle.query.specs.Promise.{Asked, plan, ask, garbled}
use Rattle.format.specs.Coding.{number, counted, Inhabited}
use Rattle.format.specs.Wire.{FitsQuery, types, data_of, queries, Request, to_ask, to_plan, lent_with, write_request, FitsRequest, requests}
use Rattle.format.specs.Nodes.{ask_tail, ask_body, ask_load, plan_load, TellsRequest, Requested}
use Rattle.format.specs.declared.node.Request.{Request as Node}
use Rattle.format.specs.Lists.{from, split_at, bytes_typed}
use Rattle.format.specs.Heads.{ty_heads, ty_arity, data_heads, data_arity}
use Rattle.format.specs.Reading.{OneWay, Begins, Stuck, ReadAs, Whole, Asks, ReadBack, AsksOne}
use Rattle.format.specs.Codings.{number_way, way_both, both_splits, one_place}
use Rattle.format.specs.Trees.{Laws, counted_way}
use Rattle.format.specs.Tags.{Table, end, row, entry, Good, Tagged, heads_way, heads_long, head_begins, head_stuck, stuck_tag, stuck_empty}
use Rattle.format.specs.NameLaws.{no_parts, alone_laws}
use Rattle.format.specs.TypeLaws.{ty_laws}
use Rattle.format.specs.DataLaws.{data_laws}
use Rattle.format.specs.QueryLaws.{queries_way}

abbrev pub request_table : Table requests
request_table = row record { load = ask_load; make = λ p. to_ask p.0 p.1.0 p.1.1.0 p.1.1.1 } (row record { load = plan_load; make = λ p. to_plan p.0 p.1 } end)

pub schema_way : OneWay (counted types)
schema_way = counted_way types ty_heads ty_arity ty_laws

pub tables_way : OneWay (counted data_of)
tables_way = counted_way data_of data_heads data_arity data_laws

tail_way : OneWay ask_tail
tail_way = way_both ask_tail queries (λ c. number 8) (both_splits queries (number 8)) queries_way (λ c. number_way 8)

ask_way : OneWay ask_load
ask_way =
    way_both ask_load (counted types) (λ a. ask_body) (both_splits (counted types) ask_body) schema_way
    (λ a. way_both ask_body (counted data_of) (λ b. ask_tail) (both_splits (counted data_of) ask_tail) tables_way
    (λ b. tail_way))

plan_way : OneWay plan_load
plan_way = way_both plan_load (counted types) (λ a. queries) (both_splits (counted types) queries) schema_way (λ a. queries_way)

pub tail_some : Inhabited ask_tail
unfolding FitsQuery
tail_some = record { thing = (it, 0); fits = (tt, omega arith) }

pub body_some : Inhabited ask_body
body_some = record { thing = ([], tail_some.thing); fits = ((omega arith, tt), tail_some.fits) }

pub request_good : Good requests 0 request_table
unfolding write_request FitsRequest FitsQuery
request_good = (
  record { fits = λ l f. f; written = λ l. refl; one_way = ask_way; some = ([], ([], (it, 0))); some_fits = ((omega arith, tt), ((omega arith, tt), (tt, omega arith))) },
  (record { fits = λ l f. f; written = λ l. refl; one_way = plan_way; some = ([], it); some_fits = ((omega arith, tt), tt) }, tt),
)

pub request_tagged : (r : Request) → FitsRequest r → Tagged requests request_table r
unfolding FitsRequest
request_tagged (to_ask ss ts q w) f = record { tag_is = 0; load_is = (ss, (ts, (q, w))); load_fits = f; is = refl }
request_tagged (to_plan ss q) f = record { tag_is = 1; load_is = (ss, q); load_fits = f; is = refl }

pub requests_way : OneWay requests
requests_way = heads_way requests request_table request_good (omega arith) request_tagged

pub request_laws : Laws requests requests (no_parts requests)
unfolding FitsRequest FitsQuery
request_laws = alone_laws requests requests_way (heads_long requests request_table request_good (omega arith) request_tagged) (to_plan [] it) ((omega arith, tt), tt)

same_request : (q r : Request) (xs : List ℕ) → FitsRequest q → FitsRequest r → xs ≡ write_request q → xs ≡ write_request r → q ≡ r
same_request q r xs f g d e = (requests_way q r [] [] f g (append-nil (write_request q) ∙ sym d ∙ e ∙ sym (append-nil (write_request r)))).0

-- a request that the bytes are, whatever else they are said to ask
asks_as : (q : Request) (xs : List ℕ) (r : ℕ) (b : Asked) → FitsRequest q → xs ≡ write_request q → Asks xs r b → lent_with q r ≡ b
unfolding lent_with
asks_as q xs r (plan ss p s) f d e = ap (λ (v : Request). lent_with v r) (same_request q (to_plan ss p) xs f e.1 d e.2) ∙ ap (λ (v : ℕ). plan ss p v) (sym e.0)
asks_as q xs r (ask ss ts p w s) f d e = ap (λ (v : Request). lent_with v r) (same_request q (to_ask ss ts p w) xs f e.1 d e.2) ∙ ap (λ (v : ℕ). ask ss ts p w v) (sym e.0)
asks_as q xs r (garbled p) f d e = absurd (e.not_whole q f d)

pub asks_one : AsksOne
unfolding lent_with
asks_one xs r (plan ss p s) b d e = ap (λ (v : ℕ). plan ss p v) d.0 ∙ asks_as (to_plan ss p) xs r b d.1 d.2 e
asks_one xs r (ask ss ts p w s) b d e = ap (λ (v : ℕ). ask ss ts p w v) d.0 ∙ asks_as (to_ask ss ts p w) xs r b d.1 d.2 e
asks_one xs r (garbled p) (plan ss q s) d e = absurd (d.not_whole (to_plan ss q) e.1 e.2)
asks_one xs r (garbled p) (ask ss ts q w s) d e = absurd (d.not_whole (to_ask ss ts q w) e.1 e.2)
asks_one xs r (garbled p) (garbled q) d e = ap garbled (one_place requests xs p q d e)

pub read_back : ReadBack
read_back q r a f e = sym (asks_as q (write_request q) r a f refl e)

-- what the code reads in front
module _ (xs : List ℕ) (typed : (j : ℕ) → Fits w8 (slice_index xs j)) where
  pub request_begins : (t f e : ℕ) (l : (entry request_table t).load.T) → 0 < length xs → slice_index xs 0 ≡ t → Begins (entry request_table t).load (from 1 xs) f l → e ≡ 1 + f → Begins requests xs e ((entry request_table t).make l)
  request_begins t f e l n = head_begins requests request_table request_good (omega arith) request_tagged xs t f e l (bytes_typed xs typed) n

  pub request_stuck : (t p e : ℕ) → 0 < length xs → slice_index xs 0 ≡ t → Stuck (entry request_table t).load (from 1 xs) p → e ≡ 1 + p → Stuck requests xs e
  request_stuck t p e n = head_stuck requests request_table request_good (omega arith) request_tagged xs t p e (bytes_typed xs typed) n

  pub request_no_tag : 0 < length xs → 2 ≤ slice_index xs 0 → Stuck requests xs 0
  unfolding FitsRequest FitsQuery
  request_no_tag = stuck_tag requests request_table request_good (omega arith) request_tagged (to_plan [] it) ((omega arith, tt), tt) xs

  pub request_empty : length xs ≡ 0 → Stuck requests xs 0
  unfolding FitsRequest FitsQuery
  request_empty = stuck_empty requests request_table request_good (omega arith) request_tagged (to_plan [] it) ((omega arith, tt), tt) xs

-- all of the bytes, and what the node tells of the request that was read
pub requested : (xs : List ℕ) (n : Node) (e : ℕ) → Whole requests xs → ReadAs requests xs e (TellsRequest xs n) → Requested xs n
requested xs n e w r =
    let o = requests_way w.thing r.thing [] (drop e xs) w.fits r.begins.fits (append-nil (write_request w.thing) ∙ sym w.is ∙ split_at e xs (write_request r.thing) r.begins.is) in
    record { request = w.thing; fits = w.fits; is = w.is; tells = subst (λ (v : Request). TellsRequest xs n v) (sym o.0) r.says }
