-- All that a query writes out: numbered, and then loaded.
use Rattle.std.proofs.Common.{◌≡◌, ℕ, ◌+◌, ◌*◌, ◌<◌, ◌≤◌, List, length, Some, None, refl, subst, arith}
use Rattle.query.specs.Data.{Datas, none, join, how_many}
use Rattle.values.specs.Memory.{HoldsAll, Run}
use Rattle.values.specs.declared.value.Place.{Place}
use Rattle.loading.proofs.Rows as rows
use Rattle.literals.specs.Numbered.{Numbered}
use Rattle.literals.specs.Written.{written_out}
use Rattle.literals.specs.Steps.{Here}
use Rattle.literals.specs.Literals.{Filled, NumberedOn, Numbers, FillsAll, FillReady, Ready, Brings}
use Rattle.literals.proofs.Sorted.{few_written}

module _ (bs : List ℕ) (place : ℕ) (xs g l k : List ℕ) (top count : ℕ) (n : Numbers xs g l k 0 0 count) where
  here : (y : Ready bs place xs g l top) → Here xs g 0 y.query
  here y = record { rest = y.rest; fits = y.fits; is = y.is; guided = y.guided; long = omega (arith, y.guide_long) }

  numbers : (y : Ready bs place xs g l top) → NumberedOn k 0 0 y.query count
  numbers y = n.numbers y.query (here y) (omega (arith, y.marks_long)) (omega (arith, few_written y.query, y.small))

  counted : (y : Ready bs place xs g l top) → count ≡ how_many (written_out y.query)
  counted y = omega (arith, (numbers y).end)

  numbered : (y : Ready bs place xs g l top) → Numbered k (written_out y.query) 0 y.query
  unfolding join how_many
  numbered y = subst (λ (v : Datas). Numbered k v 0 y.query) (rows.join_none (written_out y.query)) ((numbers y).numbered none none refl)

  -- too little for the slots
  pub no_slots : (m : List ℕ) → length m < top + 3 * count → Brings bs place xs g l k top m None
  no_slots m lt = record { means = λ y. omega (arith, counted y, few_written y.query) }

  abbrev slots : Place
  slots = record { start = top; count = count }

  abbrev begun : Filled
  begun = record { next = 0; top = top + 3 * count }

  abbrev fill_ready : (m : List ℕ) → Ready bs place xs g l top → FillReady bs place xs g 0 slots begun m
  fill_ready m y =
      let w = rows.fill_none bs y.used top count m in
      record {
        query = y.query;
        used = y.used;
        earlier = none;
        here = here y;
        spot = y.spot;
        typed = y.typed;
        low = y.low;
        filling = record { now_used = w.now_used; grown = w.grown; made = w.made };
        enough = omega (arith, counted y);
      }

  -- or for what is in them
  pub no_room : (m m' : List ℕ) → FillsAll bs place xs g 0 slots begun m m' None → Brings bs place xs g l k top m' None
  no_room m m' f = record { means = λ y. omega (arith, f.means (fill_ready m y), counted y) }

  pub brought : (m m' : List ℕ) (e : Filled) → top + 3 * count ≤ e.top → e.top ≤ length m' → FillsAll bs place xs g 0 slots begun m m' (Some e) → Brings bs place xs g l k top m' (Some (record { start = top; top = e.top }))
  unfolding join
  brought m m' e above within f = record {
    means = λ y.
        let w = f.means (fill_ready m y) in
        let c = counted y in
        let a = rows.fill_all bs y.used top count m' e.next e.top (written_out y.query) y.low above (record { now_used = w.filling.now_used; grown = w.filling.grown; made = w.filling.made }) (omega (arith, w.next)) in
        record {
          datas = written_out y.query;
          numbered = numbered y;
          now_used = a.now_used;
          grown = a.grown;
          run = subst (λ (v : ℕ). Run a.now_used top (3 * v)) c a.run;
          lie = subst (λ (v : ℕ). HoldsAll bs m' a.now_used (written_out y.query) top v) c a.lie;
          above = omega arith;
          within = within;
          thrifty = omega (arith, w.thrifty);
        };
  }
