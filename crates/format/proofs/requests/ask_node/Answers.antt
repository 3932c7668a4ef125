use Rattle.std.proofs.Common.{◌≡◌, ℕ, ◌+◌, List, length, refl, arith}
use Rattle.format.specs.Coding.{many, counted}
use Rattle.format.specs.Wire.{types, data_of, queries}
use Rattle.format.specs.Nodes.{ask_tail, ask_body, ask_load, Stands, AsksFor}
use Rattle.format.specs.Reading.{ReadAs, Stuck}
use Rattle.format.specs.Lists.{from}
use Rattle.format.specs.RequestLaws.{schema_way, tables_way, tail_some, body_some}
use Rattle.format.proofs.Pairs.{pair_read, pair_cut, pair_short}
use Rattle.format.proofs.Places.{counted_stands, stands_on}
use Rattle.format.proofs.Moved.{moved_ok}
use Rattle.format.proofs.requests.ask_node.Goals as goal

module _ (xs : List ℕ) where
  no_schema : (p : ℕ) → Stuck (counted types) xs p → Stuck ask_load xs p
  no_schema p s = pair_short (counted types) ask_body xs p body_some s

  module _ (n s : ℕ) (a : ReadAs (counted types) xs s (λ ss. length ss ≡ n)) where
    no_tables : (p : ℕ) → Stuck (counted data_of) (from s xs) p → Stuck ask_load xs (s + p)
    no_tables p t = pair_cut (counted types) ask_body xs s p a.thing schema_way a.begins (pair_short (counted data_of) ask_tail (from s xs) p tail_some t)

    module _ (k t : ℕ) (b : ReadAs (counted data_of) (from s xs) t (λ ts. length ts ≡ k)) where
      no_tail : (p : ℕ) → Stuck ask_tail (from t (from s xs)) p → Stuck ask_load xs (s + (t + p))
      no_tail p u = pair_cut (counted types) ask_body xs s (t + p) a.thing schema_way a.begins (pair_cut (counted data_of) ask_tail (from s xs) t p b.thing tables_way b.begins u)

      all : (q w : ℕ) → ReadAs ask_tail (from t (from s xs)) (q + 8) (λ l. Stands queries (from t (from s xs)) 0 l.0 × (w ≡ l.1))
          → ReadAs ask_load xs (s + (t + (q + 8))) (λ l. AsksFor xs 0 record { types = n; tables_at = s + 4; tables = k; query_at = s + t; work = w } l.0 l.1.0 l.1.1.0 l.1.1.1)
      all q w r =
          record {
            thing = (a.thing, (b.thing, r.thing));
            begins =
                pair_read (counted types) ask_body xs s (t + (q + 8)) a.thing (b.thing, r.thing) a.begins
                (pair_read (counted data_of) ask_tail (from s xs) t (q + 8) b.thing r.thing b.begins r.begins);
            says =
                record {
                  many_types = a.says;
                  schema = counted_stands types xs n s a.thing a.begins;
                  many_tables = b.says;
                  tables = stands_on (many data_of k) xs s 4 (s + 4) b.thing a.begins.within refl (counted_stands data_of (from s xs) k t b.thing b.begins);
                  query = stands_on queries xs s t (s + t) r.thing.0 a.begins.within refl (stands_on queries (from s xs) t 0 t r.thing.0 b.begins.within (omega arith) r.says.0);
                  work = r.says.1;
                };
          }

pub returns-in_err-schema : goal.returns-in_err-schema
returns-in_err-schema c = grind (arith, no_schema)

pub returns-in_err-tables : goal.returns-in_err-tables
returns-in_err-tables c = grind (arith, no_tables c.args.bytes.now _ _ c.in_ok-schema.ensures)

pub returns-in_err-query : goal.returns-in_err-query
returns-in_err-query c =
    let tables = moved_ok _ _ _ c.scan_counted-2.result c.map_err.result c.in_ok-tables.tables c.scan_counted-2.ensures c.map_err.ensures.cases c.in_ok-tables.was in
    grind (arith, no_tail c.args.bytes.now _ _ c.in_ok-schema.ensures _ _ tables)

pub returns : goal.returns
returns c =
    let tables = moved_ok _ _ _ c.scan_counted-2.result c.map_err.result c.in_ok-tables.tables c.scan_counted-2.ensures c.map_err.ensures.cases c.in_ok-tables.was in
    all c.args.bytes.now _ _ c.in_ok-schema.ensures _ _ tables _ _ (moved_ok _ _ _ c.query_and_work.result c.map_err-2.result _ c.query_and_work.ensures c.map_err-2.ensures.cases c.in_ok-query.was)
