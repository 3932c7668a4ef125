-- Slots that are filled with what a query writes out, by its kind.
use Rattle.std.proofs.Common.{◌≡◌, ℕ, ◌+◌, ◌*◌, ◌<◌, ◌≤◌, List, ◌++◌, length, drop, Some, None, Option, sym, refl, ap, ◌∙◌, subst, arith}
use Rattle.std.proofs.lemmas.List.{drop-drop}
use Rattle.query.specs.Data.{Data, Datas, none, more, join, how_many}
use Rattle.query.specs.Query.{Ty, Query, just}
use Rattle.query.specs.Size.{size_d, size_q}
use Rattle.format.specs.Wire.{FitsQuery, data_of}
use Rattle.format.specs.Lists.{from}
use Rattle.guide.specs.Guide.{last_part}
use Rattle.guide.proofs.Standing.{type_stands, datum_stands}
use Rattle.values.specs.Memory.{Kept, Stored, Used, Under}
use Rattle.values.specs.declared.value.Place.{Place}
use Rattle.loading.specs.Loads as loads
use Rattle.loading.proofs.Rows as rows
use Rattle.loading.proofs.Spots.{at_stands, at_long}
use Rattle.loading.proofs.Tabled.{deep_type}
use Rattle.literals.specs.Written.{written_out, JustsTyped}
use Rattle.literals.specs.Steps.{Here, Steps}
use Rattle.literals.specs.Literals.{Filled, Reserved, Filling, FillInside, FillsMore, Fills, OneReady, FillsOne, FillReady, FillsAll}
use Rattle.literals.specs.declared.step.Step.TheVariants as st
use Rattle.literals.proofs.Sorted.{bare_part, written_part, few_written, many_joined}
use Rattle.literals.proofs.Below.{only_below, both_below, spot_below}
use Rattle.literals.proofs.Numbering.{join_assoc}

-- the same as in loading
abbrev pub as_row : (bs : List ℕ) (u : Used) (s : Place) (m : List ℕ) (f : Filled) (ds : Datas) → Filling bs u s m f ds → rows.Filling bs u s.start s.count m f.next f.top ds
as_row bs u s m f ds w = record { now_used = w.now_used; grown = w.grown; made = w.made }

-- one datum
module _ (bs : List ℕ) (at kind : ℕ) (s : Place) (f : Filled) (m : List ℕ) (low : ℕ) (res : Reserved s low f.top) where
  abbrev datum_ready : (g : OneReady bs at kind s f m) → loads.Ready bs at kind (length bs) f.top
  datum_ready g = record {
    datum = g.datum;
    type = g.type;
    used = g.filling.now_used;
    stands = g.stands;
    stands_type = g.stands_type;
    fits = g.fits;
    fits_type = g.fits_type;
    is = g.is;
    shallow = omega (arith, deep_type g.type, at_long (at_stands g.stands_type));
    low = rows.fill_under bs g.used s.start s.count m f.next f.top g.earlier g.low res.above (as_row bs g.used s m f g.earlier g.filling);
  }

  pub one_none : (n : List ℕ) → loads.Loads bs at kind (length bs) f.top n None → FillsOne bs at kind s f m n None
  unfolding how_many
  one_none n l = record { means = λ g. omega (arith, l.means (datum_ready g)) }

  pub one_filled : (n n' : List ℕ) (l : loads.Laid) → f.next < s.count → Kept f.top m n → loads.LiesInside bs at kind f.top n l → loads.Loads bs at kind (length bs) f.top n (Some l) → Stored (s.start + 3 * f.next) l.value n n'
      → FillsOne bs at kind s f m n' (Some (record { next = f.next + 1; top = l.top }))
  unfolding how_many
  one_filled n n' l lt kept inside c stored = record {
    means = λ g.
        let a = c.means (datum_ready g) in
        let w = rows.fill_more bs g.used s.start s.count m f.next f.top g.earlier g.low res.above (as_row bs g.used s m f g.earlier g.filling) g.datum l.value n n' a.now_used l.top lt kept a.grown inside.above a.holds stored in
        record { next = refl; filling = record { now_used = w.now_used; grown = w.grown; made = w.made }; thrifty = omega (arith, a.thrifty) };
  }

pub inside_lower : (old top : ℕ) (m : List ℕ) (r : Option Filled) → old ≤ top → FillInside top m r → FillInside old m r
inside_lower old top m None l i = tt
inside_lower old top m (Some f) l i = (omega (arith, i.0), i.1)

-- more parts allow for more
fills_wider : (bs : List ℕ) (u : Used) (s : Place) (old : Filled) (ds new : Datas) (a b : ℕ) (m : List ℕ) (r : Option Filled) → a ≤ b → Fills bs u s old ds new a m r → Fills bs u s old ds new b m r
fills_wider bs u s old ds new a b m None l f = omega (arith, f)
fills_wider bs u s old ds new a b m (Some x) l f = record { next = f.next; filling = f.filling; thrifty = omega (arith, f.thrifty) }

module _ (bs : List ℕ) (place : ℕ) (xs g : List ℕ) (at : ℕ) (s : Place) (f : Filled) (m : List ℕ) where
  pub bare_filled : Steps xs g at st.Bare → FillsAll bs place xs g at s f m m (Some f)
  unfolding how_many
  bare_filled t = record {
    means = λ y.
        let b = bare_part y.query (t.tells y.query y.here) in
        let z : how_many (written_out y.query) ≡ 0 = ap how_many b.outs in
        let e : y.earlier ≡ join y.earlier (written_out y.query) = sym (rows.join_none y.earlier) ∙ ap (join y.earlier) (sym b.outs) in
        record { next = omega arith; filling = subst (λ (v : Datas). Filling bs y.used s m f v) e y.filling; thrifty = omega arith };
  }

  -- what is written out stands after its type
  just_ready : (t : Ty) (d : Data) (last : ℕ) (u : Used) (ds : Datas) → place + length xs ≤ length bs → 1 ≤ last → last ≤ length xs → last ≡ last_part (just t d) → Here xs g at (just t d) → drop place bs ≡ xs → JustsTyped (just t d) → Under u s.start → Filling bs u s m f ds → f.next + how_many (written_out (just t d)) ≤ s.count → OneReady bs (place + last) (place + 1) s f m
  unfolding how_many written_out JustsTyped FitsQuery
  just_ready t d last u ds long some within e h spot typed low filling enough = record {
    datum = d;
    type = t;
    used = u;
    earlier = ds;
    stands = record { within = omega arith; rest = h.rest; is = sym (drop-drop last place bs) ∙ ap (drop last) spot ∙ ap (λ (v : ℕ). drop v xs) e ∙ datum_stands t d xs h.rest h.is };
    stands_type = record { within = omega arith; rest = data_of.write d ++ h.rest; is = sym (drop-drop 1 place bs) ∙ ap (drop 1) spot ∙ type_stands t d xs h.rest h.is };
    fits = h.fits.1;
    fits_type = h.fits.0;
    is = typed.1;
    low = low;
    filling = filling;
    enough = omega arith;
  }

  just_filled : (t : Ty) (d : Data) (last : ℕ) (u : Used) (ds : Datas) (n : List ℕ) (r : Option Filled) → place + length xs ≤ length bs → 1 ≤ last → last ≤ length xs → last ≡ last_part (just t d) → Here xs g at (just t d) → drop place bs ≡ xs → JustsTyped (just t d) → Under u s.start → Filling bs u s m f ds → f.next + how_many (written_out (just t d)) ≤ s.count
      → FillsOne bs (place + last) (place + 1) s f m n r → Fills bs u s f ds (written_out (just t d)) (size_q (just t d)) n r
  unfolding written_out size_q just_ready
  just_filled t d last u ds n r long some within e h spot typed low filling enough o =
      fills_wider bs u s f ds (more d none) (size_d d) (size_q (just t d)) n r (omega arith) (o.means (just_ready t d last u ds long some within e h spot typed low filling enough))

  pub written_filled : (last : ℕ) (n : List ℕ) (r : Option Filled) → place + length xs ≤ length bs → 1 ≤ last → last ≤ length xs → Steps xs g at (st.Written last) → FillsOne bs (place + last) (place + 1) s f m n r → FillsAll bs place xs g at s f m n r
  written_filled last n r long some within t o = record {
    means = λ y.
        let k = t.tells y.query y.here in
        let w = written_part y.query k.0 in
        let e = w.2 in
        subst (λ (v : Query). Fills bs y.used s f y.earlier (written_out v) (size_q v) n r) (sym e)
        (just_filled w.0 w.1 last y.used y.earlier n r long some within (k.1 ∙ ap last_part e) (subst (λ (v : Query). Here xs g at v) e y.here) y.spot (subst (λ (v : Query). JustsTyped v) e y.typed) y.low y.filling
        (subst (λ (v : Query). f.next + how_many (written_out v) ≤ s.count) e y.enough) o);
  }

  pub one_filled_below : (first : ℕ) (n : List ℕ) (r : Option Filled) → Steps xs g at (st.One first) → FillsAll bs (place + first) (from first xs) g (at + first) s f m n r → FillsAll bs place xs g at s f m n r
  one_filled_below first n r t o = record {
    means = λ y.
        let b = only_below xs g at first y.query (t.tells y.query y.here) y.here in
        let x = b.shape in
        let c : how_many (written_out y.query) ≡ how_many (written_out x.part) = ap how_many x.outs in
        let w = o.means (record { query = x.part; used = y.used; earlier = y.earlier; here = b.here; spot = spot_below bs xs place first y.spot; typed = x.typed y.typed; low = y.low; filling = y.filling; enough = omega (arith, y.enough) }) in
        subst (λ (v : Datas). Fills bs y.used s f y.earlier v (size_q y.query) n r) (sym x.outs)
        (fills_wider bs y.used s f y.earlier (written_out x.part) (size_q x.part) (size_q y.query) n r x.size w);
  }

  module _ (first last : ℕ) (t : Steps xs g at (st.Two first last)) where
    abbrev first_ready : (y : FillReady bs place xs g at s f m) → FillReady bs (place + first) (from first xs) g (at + first) s f m
    first_ready y =
        let b = both_below xs g at first last y.query (t.tells y.query y.here) y.here in
        let x = b.shape in
        let c : how_many (written_out y.query) ≡ how_many (written_out x.part₁) + how_many (written_out x.part₂) = ap how_many x.outs ∙ many_joined (written_out x.part₁) (written_out x.part₂) in
        record { query = x.part₁; used = y.used; earlier = y.earlier; here = b.here₁; spot = spot_below bs xs place first y.spot; typed = (x.typed y.typed).0; low = y.low; filling = y.filling; enough = omega (arith, y.enough) }

    pub first_none : (n : List ℕ) → FillsAll bs (place + first) (from first xs) g (at + first) s f m n None → FillsAll bs place xs g at s f m n None
    first_none n o = record {
      means = λ y.
          let b = both_below xs g at first last y.query (t.tells y.query y.here) y.here in
          let x = b.shape in
          let c : how_many (written_out y.query) ≡ how_many (written_out x.part₁) + how_many (written_out x.part₂) = ap how_many x.outs ∙ many_joined (written_out x.part₁) (written_out x.part₂) in
          omega (arith, o.means (first_ready y), few_written x.part₂, x.size);
    }

    joined_fills : (u : Used) (ds es fs : Datas) (a b k : ℕ) (n n' : List ℕ) (e : Filled) (r : Option Filled) → a + b ≤ k → FillsMore bs u s f ds es a n e → Fills bs u s e (join ds es) fs b n' r → Fills bs u s f ds (join es fs) k n' r
    joined_fills u ds es fs a b k n n' e None l w v = omega (arith, w.thrifty, v, many_joined es fs)
    joined_fills u ds es fs a b k n n' e (Some x) l w v = record {
      next = omega (arith, w.next, v.next, many_joined es fs);
      filling = subst (λ (z : Datas). Filling bs u s n' x z) (join_assoc ds es fs) v.filling;
      thrifty = omega (arith, w.thrifty, v.thrifty, many_joined es fs);
    }

    pub two_filled : (n n' : List ℕ) (e : Filled) (r : Option Filled) → FillsAll bs (place + first) (from first xs) g (at + first) s f m n (Some e) → FillsAll bs (place + last) (from last xs) g (at + last) s e n n' r → FillsAll bs place xs g at s f m n' r
    two_filled n n' e r o₁ o₂ = record {
      means = λ y.
          let b = both_below xs g at first last y.query (t.tells y.query y.here) y.here in
          let x = b.shape in
          let c : how_many (written_out y.query) ≡ how_many (written_out x.part₁) + how_many (written_out x.part₂) = ap how_many x.outs ∙ many_joined (written_out x.part₁) (written_out x.part₂) in
          let w = o₁.means (first_ready y) in
          let v = o₂.means (record { query = x.part₂; used = y.used; earlier = join y.earlier (written_out x.part₁); here = b.here₂; spot = spot_below bs xs place last y.spot; typed = (x.typed y.typed).1; low = y.low; filling = w.filling; enough = omega (arith, y.enough, w.next) }) in
          subst (λ (z : Datas). Fills bs y.used s f y.earlier z (size_q y.query) n' r) (sym x.outs)
          (joined_fills y.used y.earlier (written_out x.part₁) (written_out x.part₂) (size_q x.part₁) (size_q x.part₂) (size_q y.query) n n' e r x.size w v);
    }
