use Rattle.std.proofs.Common.{◌≡◌, ℕ, ◌+◌, ◌<◌, List, length, slice_index, refl, Fits, arith}
use Rattle.std.specs.Int.{w8}
use Rattle.format.specs.Coding.{many}
use Rattle.format.specs.Wire.{types}
use Rattle.format.specs.Heads.{query_heads}
use Rattle.format.specs.Nodes.{TellsQuery}
use Rattle.format.specs.declared.node.QueryNode.TheVariants.{Table, Just, OnLeft, OnRight}
use Rattle.format.specs.Reading.{Read, ReadAs, Stuck}
use Rattle.format.specs.Lists.{from}
use Rattle.format.specs.QueryLaws.{query_begins, query_stuck}
use Rattle.format.proofs.Moved.{moved_ok}
use Rattle.format.proofs.Pairs.{written_length}
use Rattle.format.proofs.Spans.{one_read, one_stuck}
use Rattle.format.proofs.queries.query_head.Goals as goal

-- the type of the other side
module _ (xs : List ℕ) (typed : (j : ℕ) → Fits w8 (slice_index xs j)) (n : 0 < length xs) where
  on_left : (t : ℕ) → slice_index xs 0 ≡ 27 → Read (many types 1) (from 1 xs) t → ReadAs query_heads xs (1 + t) (TellsQuery (OnLeft t))
  on_left t e r = let q = one_read types (from 1 xs) t r in query_begins xs typed n 27 t (1 + t) (OnLeft t) q.thing e q.begins refl (q.thing, refl, written_length types (from 1 xs) t q.thing q.begins)

  on_right : (t : ℕ) → slice_index xs 0 ≡ 28 → Read (many types 1) (from 1 xs) t → ReadAs query_heads xs (1 + t) (TellsQuery (OnRight t))
  on_right t e r = let q = one_read types (from 1 xs) t r in query_begins xs typed n 28 t (1 + t) (OnRight t) q.thing e q.begins refl (q.thing, refl, written_length types (from 1 xs) t q.thing q.begins)

  no_left : (p : ℕ) → slice_index xs 0 ≡ 27 → Stuck (many types 1) (from 1 xs) p → Stuck query_heads xs (1 + p)
  no_left p e s = query_stuck xs typed n 27 p (1 + p) e (one_stuck types (from 1 xs) p s) refl

  no_right : (p : ℕ) → slice_index xs 0 ≡ 28 → Stuck (many types 1) (from 1 xs) p → Stuck query_heads xs (1 + p)
  no_right p e s = query_stuck xs typed n 28 p (1 + p) e (one_stuck types (from 1 xs) p s) refl

pub returns-in_ok-n-in-0 : goal.returns-in_ok-n-in-0
returns-in_ok-n-in-0 c = grind (arith, query_begins _ c.type_inv.bytes (omega arith) 0 4 5 (Table c.in_ok-n-in-0.n) c.in_ok-n-in-0.n)

pub returns-in_err-n-in-0 : goal.returns-in_err-n-in-0
returns-in_err-n-in-0 c = grind (arith, query_stuck _ c.type_inv.bytes (omega arith) 0)

pub returns-in_ok-t-in-3 : goal.returns-in_ok-t-in-3
returns-in_ok-t-in-3 c =
    let r = moved_ok _ _ _ c.typed_datum.result c.map_err-in-3.result (c.in_ok-t-in-3.t, c.in_ok-t-in-3.d) c.typed_datum.ensures c.map_err-in-3.ensures.cases c.in_ok-t-in-3.was in
    query_begins _ c.type_inv.bytes (omega arith) 3 _ _ (Just c.in_ok-t-in-3.t) r.thing c.in-3.is r.begins refl (r.thing.0, r.thing.1, refl, r.says)

pub returns-in_err-t-in-3 : goal.returns-in_err-t-in-3
returns-in_err-t-in-3 c = grind (arith, query_stuck _ c.type_inv.bytes (omega arith) 3)

pub returns-in_ok-n-in-18 : goal.returns-in_ok-n-in-18
returns-in_ok-n-in-18 c = grind (arith, query_begins _ c.type_inv.bytes (omega arith) 18)

pub returns-in_err-n-in-18 : goal.returns-in_err-n-in-18
returns-in_err-n-in-18 c = grind (arith, query_stuck _ c.type_inv.bytes (omega arith) 18)

pub returns-in_ok-n-in-19 : goal.returns-in_ok-n-in-19
returns-in_ok-n-in-19 c = grind (arith, query_begins _ c.type_inv.bytes (omega arith) 19)

pub returns-in_err-n-in-19 : goal.returns-in_err-n-in-19
returns-in_err-n-in-19 c = grind (arith, query_stuck _ c.type_inv.bytes (omega arith) 19)

pub returns-in_ok-n-in-20 : goal.returns-in_ok-n-in-20
returns-in_ok-n-in-20 c = grind (arith, query_begins _ c.type_inv.bytes (omega arith) 20)

pub returns-in_err-n-in-20 : goal.returns-in_err-n-in-20
returns-in_err-n-in-20 c = grind (arith, query_stuck _ c.type_inv.bytes (omega arith) 20)

pub returns-in_ok-names-in-21 : goal.returns-in_ok-names-in-21
returns-in_ok-names-in-21 c = grind (arith, query_begins _ c.type_inv.bytes (omega arith) 21)

pub returns-in_err-names-in-21 : goal.returns-in_err-names-in-21
returns-in_err-names-in-21 c = grind (arith, query_stuck _ c.type_inv.bytes (omega arith) 21)

pub returns-in_ok-m-in-25 : goal.returns-in_ok-m-in-25
returns-in_ok-m-in-25 c = grind (arith, query_begins _ c.type_inv.bytes (omega arith) 25)

pub returns-in_err-m-in-25 : goal.returns-in_err-m-in-25
returns-in_err-m-in-25 c = grind (arith, query_stuck _ c.type_inv.bytes (omega arith) 25)

pub returns-in_ok-t-in-27 : goal.returns-in_ok-t-in-27
returns-in_ok-t-in-27 c = grind (arith, on_left _ c.type_inv.bytes (omega arith) c.in_ok-t-in-27.t)

pub returns-in_err-t-in-27 : goal.returns-in_err-t-in-27
returns-in_err-t-in-27 c = grind (arith, no_left _ c.type_inv.bytes (omega arith))

pub returns-in_ok-t-in-28 : goal.returns-in_ok-t-in-28
returns-in_ok-t-in-28 c = grind (arith, on_right _ c.type_inv.bytes (omega arith) c.in_ok-t-in-28.t)

pub returns-in_err-t-in-28 : goal.returns-in_err-t-in-28
returns-in_err-t-in-28 c = grind (arith, no_right _ c.type_inv.bytes (omega arith))
