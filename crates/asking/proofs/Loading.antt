-- Tables are loaded first, and what the query writes out above them.
use Rattle.std.proofs.Common.{◌≡◌, ℕ, suc, ◌+◌, ◌*◌, ◌<◌, ◌≤◌, true, false, List, [], ◌∷◌, length, drop, Some, None, Option, sym, refl, ap, ◌∙◌, subst, arith}
use Rattle.query.specs.Query.{a_unit}
use Rattle.query.specs.Types.{Schema, tables_are}
use Rattle.query.specs.Query.{Tables}
use Rattle.query.specs.Size.{size_q, size_tables}
use Rattle.format.specs.Coding.{many}
use Rattle.format.specs.Wire.{write_query, types}
use Rattle.format.specs.Heads.{as_datas}
use Rattle.format.specs.Nodes.{Stands}
use Rattle.format.specs.declared.node.Ask.{Ask}
use Rattle.query.proofs.Tests.{and_r}
use Rattle.guide.proofs.Sizes.{query_bytes}
use Rattle.values.specs.Memory.{Used, Under, Kept}
use Rattle.values.proofs.Frame.{kept_agree}
use Rattle.loading.specs.Loads.{TablesReady, TablesLoaded, LoadsTables}
use Rattle.literals.specs.Literals.{Literals, Brings, Brought, Ready}
use Rattle.literals.proofs.Typed.{justs_typed}
use Rattle.operators.proofs.Grows.{under_grown}
use Rattle.eval.proofs.Frames.{row_kept}
use Rattle.asking.specs.Passed.{Passed, Loading}

abbrev pub nowhere : Used
nowhere k = false

pub nothing_used : Under nowhere 0
nothing_used = record { low = λ k t. absurd t }

-- tables of a schema are as many as its types
as_many : (ts : Tables) (ss : Schema) → tables_are ts ss ≡ true → length ts ≡ length ss
unfolding tables_are
as_many [] [] e = refl
as_many [] (s ∷ ss) e = absurd (let z : ◌≡◌ {A = ℕ} 0 1 = cc in omega arith)
as_many (t ∷ ts) [] e = absurd (let z : ◌≡◌ {A = ℕ} 0 1 = cc in omega arith)
as_many (t ∷ ts) (s ∷ ss) e = ap (λ n. suc n) (as_many ts ss (and_r _ _ e))

module _ (xs g : List ℕ) (a : Ask) (p : Passed xs g a) where
  pub same_count : a.types ≡ a.tables
  same_count = sym p.schema_at.fits.0 ∙ (sym (as_many p.tables p.schema p.are) ∙ p.tables_at.fits.0)

  abbrev pub tables_ready : TablesReady xs a.tables_at 5 a.tables 0
  tables_ready = record {
    tables = p.tables;
    schema = p.schema;
    used = nowhere;
    stands = p.tables_at.stands;
    stands_types = subst (λ k. Stands (many types k) xs 5 p.schema) same_count p.schema_at.stands;
    fit = p.tables_at.fits;
    fit_types = subst (λ k. (many types k).Fits p.schema) same_count p.schema_at.fits;
    are = p.are;
    low = nothing_used;
  }

  pub not_loaded : (k m : List ℕ) (r : Option Literals) → r ≡ None → LoadsTables xs a.tables_at 5 a.tables 0 m None → Loading xs p.tables p.query a.tables k m r
  not_loaded k m r e t =
      let x : length m < 0 + 5 * size_tables p.tables = t.means tables_ready in
      subst (λ (z : Option Literals). Loading xs p.tables p.query a.tables k m z) (sym e) (omega (arith, x))

  bytes_few : length (write_query p.query) ≤ 73728
  bytes_few = omega (arith, query_bytes p.query, p.small)

  module _ (m n qs l k : List ℕ) (top : ℕ) (t : TablesLoaded xs p.tables nowhere 0 a.tables m top) (kept : Kept top m n) (q : drop a.query_at xs ≡ qs) (long : 73728 ≤ length l) where
    tables_low : Under t.now_used top
    tables_low = under_grown nothing_used t.grown (omega arith)

    literals_ready : Ready xs a.query_at qs g l top
    literals_ready = record {
      query = p.query;
      rest = p.query_at.stands.rest;
      used = t.now_used;
      fits = p.query_at.fits;
      is = sym q ∙ p.query_at.stands.is;
      spot = q;
      guided = p.guided;
      guide_long = omega (arith, bytes_few, p.guide_long);
      marks_long = omega (arith, bytes_few);
      typed = justs_typed p.schema p.query a_unit a_unit p.type p.typed;
      small = omega (arith, p.small);
      low = tables_low;
    }

    pub loaded_up : (r : Option Literals) → Brings xs a.query_at qs g l k top n r → Loading xs p.tables p.query a.tables k n r
    unfolding literals_ready
    loaded_up (Some r) b =
        let c : Brought xs p.query t.now_used top k n r = b.means literals_ready in
        record {
          used = c.now_used;
          datas = c.datas;
          tables = row_kept c.now_used (as_datas p.tables) (kept_agree tables_low kept) c.grown.wider (record { run = t.run; lie = t.lie });
          literals = record { run = c.run; lie = c.lie };
          numbered = c.numbered;
          low = under_grown tables_low c.grown c.above;
          within = c.within;
          thrifty = omega (arith, c.thrifty, t.thrifty);
        }
    loaded_up None b = let c : length n < top + 5 * size_q p.query = b.means literals_ready in omega (arith, c, t.thrifty)
