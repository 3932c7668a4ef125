-- The request to ask that bytes are, by its parts.
use Rattle.std.proofs.Common.{◌≡◌, ℕ, List, sym, ap, ◌∙◌, subst}
use Rattle.query.specs.Query.{Query, Tables}
use Rattle.query.specs.Types.{Schema}
use Rattle.format.specs.Wire.{Request, to_ask, write_request, FitsRequest}
use Rattle.format.specs.Nodes.{Requested, AsksFor}
use Rattle.format.specs.declared.node.Ask.{Ask}
use Rattle.format.specs.declared.node.Request.TheVariants as rn
use Rattle.checks.specs.Checks.{SchemaAt, QueryAt, TablesAt}

pub record IsToAsk (xs : List ℕ) (a : Ask) : Type 0 where
  pub schema : Schema
  pub tables : Tables
  pub query : Query
  pub fits : FitsRequest (to_ask schema tables query a.work)
  pub is : xs ≡ write_request (to_ask schema tables query a.work)
  pub schema_at : SchemaAt xs 5 a.types schema
  pub tables_at : TablesAt xs a.tables_at a.tables tables
  pub query_at : QueryAt xs a.query_at query

pub to_ask_is : (xs : List ℕ) (a : Ask) → Requested xs (rn.ToAsk a) → IsToAsk xs a
unfolding FitsRequest
to_ask_is xs a r =
    let ss = r.tells.0 in
    let ts = r.tells.1 in
    let q = r.tells.2 in
    let o : AsksFor xs 1 a ss ts q r.tells.3 = r.tells.5 in
    let e : r.request ≡ to_ask ss ts q a.work = r.tells.4 ∙ ap (λ (w : ℕ). to_ask ss ts q w) (sym o.work) in
    let f : FitsRequest (to_ask ss ts q a.work) = subst (λ (z : Request). FitsRequest z) e r.fits in
    record {
      schema = ss;
      tables = ts;
      query = q;
      fits = f;
      is = r.is ∙ ap (λ (z : Request). write_request z) e;
      schema_at = record { fits = (o.many_types, f.0.1); stands = o.schema };
      tables_at = record { fits = (o.many_tables, f.1.0.1); stands = o.tables };
      query_at = record { fits = f.1.1.0; stands = o.query };
    }
