-- What is at hand.
use Rattle.std.proofs.Common.{◌≡◌, ℕ, zero, suc, ◌+◌, ◌*◌, ◌<◌, ◌≤◌, List, [], ◌∷◌, get_or, Ok, sym, refl, ap, ◌∙◌, subst, arith}
use Rattle.query.specs.Data.{Data, Datas, how_many}
use Rattle.query.specs.Query.{table, just, Tables, table_at, get_or_fail, eval}
use Rattle.query.specs.Types.{type_of}
use Rattle.query.proofs.Comes.{table_of}
use Rattle.values.specs.Memory.{Used, Under, Holds, loaded}
use Rattle.values.specs.declared.value.Value.{Value}
use Rattle.operators.specs.Means.{Means}
use Rattle.operators.proofs.Steps.{at_hand}
use Rattle.format.specs.Heads.{as_datas}
use Rattle.eval.specs.Ready.{Setting, Row, Ready, Answers, LeafReady, LeafHolds}
use Rattle.literals.specs.Numbered.{thing_at, Numbered}
use Rattle.eval.specs.declared.shape.Leaf.{Leaf}
use Rattle.eval.specs.declared.shape.Leaf.TheVariants as lf
use Rattle.eval.specs.declared.shape.Shape.TheVariants as sh
use Rattle.eval.proofs.Frames.{one_of_row}
use Rattle.eval.proofs.Seen.{Seen}

as_table : (ts : Tables) (n : ℕ) → thing_at (as_datas ts) n ≡ table_at ts n
unfolding thing_at as_datas table_at
as_table [] n = refl
as_table (t ∷ ts) zero = refl
as_table (t ∷ ts) (suc n) = as_table ts n

row_spot : {m bs : List ℕ} {u : Used} {ds : Datas} {top a c n : ℕ} → Under u top → Row bs m u ds a c → n < c → a + 3 * n + 3 ≤ top
row_spot {top = top} {a = a} {n = n} low r h = let k : a + 3 * n + 2 < top = low.low _ (r.run.used (a + 3 * n + 2) (omega arith) (omega arith)) in omega arith

module _ {S : Setting} {qs : List ℕ} {at : ℕ} {e i : Value} {m : List ℕ} {top : ℕ} where
  table_row : (n : ℕ) (g : LeafReady S qs at (lf.Table n) e i m top) → (d : Data) × (table_at g.ready.world.tables n ≡ d ∷ []) × (n < S.scene.count) × Holds S.bytes m g.ready.used d (loaded m (S.scene.tables + 3 * n))
  unfolding type_of
  table_row n g =
      let r = g.ready in
      let t : type_of r.world.schema (table n) r.te r.ti ≡ r.tu ∷ [] = subst (λ x. type_of r.world.schema x r.te r.ti ≡ r.tu ∷ []) g.leaf r.typed.type in
      let d = table_of r.world.tables r.world.schema n r.tu [] r.world.are t in
      let o = one_of_row S.bytes m r.used (as_datas r.world.tables) S.scene.tables S.scene.count n d.0 [] r.held.tables.lie (as_table r.world.tables n ∙ d.1) in
      (d.0, d.1, o.0, o.1)

  pub table_spot : (n : ℕ) → LeafReady S qs at (lf.Table n) e i m top → S.scene.tables + 3 * n + 3 ≤ top
  table_spot n g = row_spot g.ready.held.low g.ready.held.tables (table_row n g).2

  pub table_spot_at : {l : Leaf} (n : ℕ) → l ≡ lf.Table n → LeafReady S qs at l e i m top → S.scene.tables + 3 * n + 3 ≤ top
  table_spot_at n z g = table_spot n (subst (λ l. LeafReady S qs at l e i m top) z g)

  pub table_holds : (n : ℕ) → LeafHolds S qs at (lf.Table n) e i m top (loaded m (S.scene.tables + 3 * n))
  unfolding eval get_or_fail
  table_holds n = record {
    holds = λ g.
        let r = g.ready in
        let d = table_row n g in
        record { datum = d.0; is = ap (λ x. eval r.world.tables x r.along r.looked) g.leaf ∙ ap get_or_fail d.1; holds = d.3 };
  }

  pub it_holds : LeafHolds S qs at lf.It e i m top i
  unfolding eval
  it_holds = record { holds = λ g. let r = g.ready in record { datum = r.looked; is = ap (λ x. eval r.world.tables x r.along r.looked) g.leaf; holds = r.looks } }

  pub env_holds : LeafHolds S qs at lf.Env e i m top e
  unfolding eval
  env_holds = record { holds = λ g. let r = g.ready in record { datum = r.along; is = ap (λ x. eval r.world.tables x r.along r.looked) g.leaf; holds = r.held.goes } }

  just_row : (g : LeafReady S qs at lf.Just e i m top) → (get_or S.marks at 0 < how_many g.ready.world.literals) × Holds S.bytes m g.ready.used g.leaf.1 (loaded m (S.scene.literals + 3 * get_or S.marks at 0))
  unfolding Numbered
  just_row g =
      let r = g.ready in
      let z : Numbered S.marks r.world.literals at (just g.leaf.0 g.leaf.1) = subst (λ x. Numbered S.marks r.world.literals at x) g.leaf.2 r.stands.numbered in
      one_of_row S.bytes m r.used r.world.literals S.scene.literals _ (get_or S.marks at 0) g.leaf.1 [] r.held.literals.lie z

  pub just_spot : LeafReady S qs at lf.Just e i m top → S.scene.literals + 3 * get_or S.marks at 0 + 3 ≤ top
  just_spot g = row_spot g.ready.held.low g.ready.held.literals (just_row g).0

  pub just_spot_at : {l : Leaf} → l ≡ lf.Just → LeafReady S qs at l e i m top → S.scene.literals + 3 * get_or S.marks at 0 + 3 ≤ top
  just_spot_at z g = just_spot (subst (λ l. LeafReady S qs at l e i m top) z g)

  pub just_holds : LeafHolds S qs at lf.Just e i m top (loaded m (S.scene.literals + 3 * get_or S.marks at 0))
  unfolding eval
  just_holds = record { holds = λ g. let r = g.ready in record { datum = g.leaf.1; is = ap (λ x. eval r.world.tables x r.along r.looked) g.leaf.2; holds = (just_row g).1 } }

  -- a value that is at hand is what the query comes to
  module _ (b first : ℕ) (l : Leaf) (k : Seen S qs at (sh.Leaf l) first) where
    abbrev pub leaf_ready : Ready S qs at e i m top → LeafReady S qs at l e i m top
    leaf_ready g = record { ready = g; leaf = (k _ _ g.stands).0 }

    pub leaf_comes : (v : Value) → LeafHolds S qs at l e i m top v → Answers S qs at e i m top b m (Ok (record { value = v; top = top; left = b }))
    leaf_comes v h = record {
      means = λ g.
          let a = h.holds (leaf_ready g) in
          subst (λ x. Means S.bytes g.world.rate x b g.used top m (Ok (record { value = v; top = top; left = b }))) (sym a.is)
          (at_hand S.bytes g.world.rate m g.used top b a.datum v g.held.room a.holds);
    }
