use Rattle.std.proofs.Common.{◌≡◌, ℕ, ◌+◌, List, length, arith}
use Rattle.format.specs.Coding.{many, counted}
use Rattle.format.specs.Wire.{types, queries}
use Rattle.format.specs.Heads.{query_heads, query_arity}
use Rattle.format.specs.Nodes.{plan_load, PlansFor}
use Rattle.format.specs.Reading.{Read, ReadAs, Stuck}
use Rattle.format.specs.Lists.{from}
use Rattle.format.specs.Trees.{inhabited}
use Rattle.format.specs.QueryLaws.{query_laws}
use Rattle.format.specs.RequestLaws.{schema_way}
use Rattle.format.proofs.Spans.{one_read, one_stuck}
use Rattle.format.proofs.Pairs.{pair_read, pair_cut, pair_short}
use Rattle.format.proofs.Places.{counted_stands, stands_on, stands_front}
use Rattle.format.proofs.Moved.{moved_ok}
use Rattle.format.proofs.requests.plan_node.Goals as goal

module _ (xs : List ℕ) where
  no_schema : (p : ℕ) → Stuck (counted types) xs p → Stuck plan_load xs p
  no_schema p s = pair_short (counted types) queries xs p (inhabited queries query_heads query_arity query_laws) s

  module _ (n s : ℕ) (a : ReadAs (counted types) xs s (λ ss. length ss ≡ n)) where
    no_query : (p : ℕ) → Stuck (many queries 1) (from s xs) p → Stuck plan_load xs (s + p)
    no_query p t = pair_cut (counted types) queries xs s p a.thing schema_way a.begins (one_stuck queries (from s xs) p t)

    both : (q : ℕ) → Read (many queries 1) (from s xs) q → ReadAs plan_load xs (s + q) (λ l. PlansFor xs 0 record { types = n; query_at = s } l.0 l.1)
    both q t =
        let r = one_read queries (from s xs) q t in
        record {
          thing = (a.thing, r.thing);
          begins = pair_read (counted types) queries xs s q a.thing r.thing a.begins r.begins;
          says =
              record {
                many_types = a.says;
                schema = counted_stands types xs n s a.thing a.begins;
                query = stands_on queries xs s 0 s r.thing a.begins.within (omega arith) (stands_front queries (from s xs) q r.thing r.begins);
              };
        }

pub returns-in_err-schema : goal.returns-in_err-schema
returns-in_err-schema c = grind (arith, no_schema)

pub returns-in_err-query : goal.returns-in_err-query
returns-in_err-query c = grind (arith, no_query c.args.bytes.now _ _ c.in_ok-schema.ensures)

pub returns : goal.returns
returns c = both c.args.bytes.now _ _ c.in_ok-schema.ensures c.in_ok-query.query (moved_ok _ _ _ c.scan.result c.map_err.result _ c.scan.ensures c.map_err.ensures.cases c.in_ok-query.was)
