-- Tables, each of the type that stands in its order.
use Rattle.std.proofs.Common.{◌≡◌, ℕ, suc, ◌+◌, ◌<◌, ◌≤◌, true, List, [], ◌∷◌, ◌++◌, length, Some, None, refl, ap, ◌∙◌, arith, length-append}
use Rattle.query.specs.Data.{how_many}
use Rattle.query.specs.Query.{Ty, a_unit, a_num, a_truth, a_text, a_bag, a_rec, an_either, Tys, no_ty, ty, Tables}
use Rattle.query.specs.Types.{is_of, Schema, tables_are}
use Rattle.query.specs.Size.{size_ds, size_tables}
use Rattle.query.proofs.Tests.{and_l, and_r}
use Rattle.format.specs.Coding.{le, name, writes, AllFit}
use Rattle.format.specs.Wire.{names_ty, write_names, write_data, write_datas, write_ty, write_tys, FitsDatas, data_of, types}
use Rattle.format.specs.Heads.{as_datas}
use Rattle.format.specs.Bytes.{length_le}
use Rattle.values.specs.Height.{height_ty, height_tys}
use Rattle.loading.specs.declared.loaded.Slots.{Slots}
use Rattle.loading.specs.declared.loaded.Typing.TheVariants.{Own}
use Rattle.loading.specs.Loads.{EachTyped, RowReady, LoadsRow, TablesReady, LoadsTables}
use Rattle.loading.proofs.Spots.{At, at_stands, stands_at, at_first, at_second, at_long}

names_long : (ts : Tys) → 1 ≤ length (write_names (names_ty ts))
names_long ts = omega (arith, length-append (le 4 (length (names_ty ts))) (writes name (names_ty ts)), length_le 4 (length (names_ty ts)))

-- a type nests less than it has bytes
mutual
  unfolding height_ty height_tys write_ty write_tys

  pub deep_type : (t : Ty) → height_ty t < length (write_ty t)
  deep_type a_unit = omega arith
  deep_type a_num = omega arith
  deep_type a_truth = omega arith
  deep_type a_text = omega arith
  deep_type (a_bag t) = omega (arith, deep_type t)
  deep_type (a_rec ts) = omega (arith, deep_types ts, length-append (write_names (names_ty ts)) (write_tys ts), names_long ts)
  deep_type (an_either t u) = omega (arith, deep_type t, deep_type u, length-append (write_ty t) (write_ty u))

  deep_types : (ts : Tys) → height_tys ts ≤ length (write_tys ts)
  deep_types no_ty = omega arith
  deep_types (ty n t ts) = omega (arith, deep_type t, deep_types ts, length-append (write_ty t) (write_tys ts))

-- tables as data in a row
many_datas : (ts : Tables) → how_many (as_datas ts) ≡ length ts
unfolding as_datas how_many
many_datas [] = refl
many_datas (d ∷ ds) = ap (λ k. suc k) (many_datas ds)

size_datas : (ts : Tables) → size_tables ts ≡ length ts + size_ds (as_datas ts)
unfolding as_datas size_tables size_ds
size_datas [] = refl
size_datas (d ∷ ds) = omega (arith, size_datas ds)

written_datas : (ts : Tables) → writes data_of ts ≡ write_datas (as_datas ts)
unfolding as_datas write_datas
written_datas [] = refl
written_datas (d ∷ ds) = ap (λ v. write_data d ++ v) (written_datas ds)

fit_datas : (ts : Tables) → AllFit data_of ts → FitsDatas (as_datas ts)
unfolding as_datas FitsDatas
fit_datas [] f = tt
fit_datas (d ∷ ds) f = (f.0, fit_datas ds f.1)

each_typed : (bs : List ℕ) (type : ℕ) (ts : Tables) (ss : Schema) → tables_are ts ss ≡ true → At bs type (writes types ss) → AllFit types ss → EachTyped Own bs type (length bs) (as_datas ts)
unfolding as_datas tables_are EachTyped
each_typed bs type [] ss e a f = tt
each_typed bs type (d ∷ ds) [] e a f = absurd (let z : ◌≡◌ {A = ℕ} 0 1 = cc in omega arith)
each_typed bs type (d ∷ ds) (t ∷ ts) e a f =
    let b = at_first (write_ty t) (writes types ts) a in
    (t, stands_at types bs type t b, f.0, and_l (is_of d t) (tables_are ds ts) e, omega (arith, deep_type t, at_long b), each_typed bs (type + length (write_ty t)) ds ts (and_r (is_of d t) (tables_are ds ts) e) (at_second (write_ty t) (writes types ts) a) f.1)

module _ (bs : List ℕ) (at kind count top : ℕ) where
  abbrev row_ready : TablesReady bs at kind count top → RowReady Own bs at kind count (length bs) top
  row_ready g = record {
    datas = as_datas g.tables;
    used = g.used;
    rest = g.stands.rest;
    within = g.stands.within;
    is = g.stands.is ∙ ap (λ v. v ++ g.stands.rest) (written_datas g.tables);
    fits = fit_datas g.tables g.fit.1;
    typed = each_typed bs kind g.tables g.schema g.are (at_stands g.stands_types) g.fit_types.1;
    many = many_datas g.tables ∙ g.fit.0;
    low = g.low;
  }

  pub tables_none : (m : List ℕ) (end : ℕ) → LoadsRow Own bs at kind count (length bs) top m end None → LoadsTables bs at kind count top m None
  tables_none m end f = record { means = λ g. omega (arith, f.means (row_ready g), size_datas g.tables) }

  pub tables_loaded : (m : List ℕ) (end : ℕ) (r : Slots) → LoadsRow Own bs at kind count (length bs) top m end (Some r) → LoadsTables bs at kind count top m (Some end)
  tables_loaded m end r f = record {
    means = λ g.
        let a = f.means (row_ready g) in
        record { now_used = a.now_used; grown = a.grown; run = a.run; lie = a.lie; thrifty = omega (arith, a.thrifty, size_datas g.tables) };
  }
