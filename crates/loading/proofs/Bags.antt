-- A bag: its things stand in a row, and are of one type.
use Rattle.std.proofs.Common.{◌≡◌, ℕ, zero, suc, ◌+◌, ◌-◌, ◌<◌, true, List, length, Some, None, Option, sym, refl, ap, ◌∙◌, subst, arith}
use Rattle.query.specs.Data.{bag, Datas, none, more}
use Rattle.query.specs.Query.{Ty}
use Rattle.query.specs.Types.{is_of, all_of}
use Rattle.query.specs.Size.{size_d}
use Rattle.query.proofs.OfType.{first_of, rest_of}
use Rattle.format.specs.Wire.{write_data, write_ty, FitsTy, FitsData, types}
use Rattle.format.specs.Nodes.{Stands}
use Rattle.values.specs.Memory.{Holds}
use Rattle.values.specs.Height.{height_ty}
use Rattle.values.specs.declared.value.Value.TheVariants.{Bag}
use Rattle.loading.specs.declared.loaded.Slots.{Slots}
use Rattle.loading.specs.declared.loaded.Part.TheVariants as pt
use Rattle.loading.specs.declared.loaded.Typing.TheVariants.{Shared}
use Rattle.loading.specs.Fronts.{Tells}
use Rattle.loading.specs.Loads.{Laid, Ready, Comes, LoadsPart, EachTyped, RowReady, SharedLong, LoadsRow}
use Rattle.loading.proofs.Spots.{At, at_stands, stands_at}
use Rattle.loading.proofs.Typed.{BagOf, bag_of}

all_typed : (bs : List ℕ) (ty depth : ℕ) (ds : Datas) (t : Ty) → Stands types bs ty t → FitsTy t → height_ty t < depth → all_of ds t ≡ true → EachTyped Shared bs ty depth ds
unfolding EachTyped
all_typed bs ty depth none t s f h e = tt
all_typed bs ty depth (more d ds) t s f h e = (t, s, f, first_of d ds t e, h, all_typed bs ty depth ds t s f h (rest_of d ds t e))

-- what is so of a number where there are no things, and of that which they told where there are some
long_of : (count typed told : ℕ) (P : ℕ → Type 0) → (count ≡ 0 → P typed) → (0 < count → typed ≡ told) → (0 < count → P told) → P typed
long_of zero typed told P empty some p = empty refl
long_of (suc k) typed told P empty some p = subst P (sym (some (omega arith))) (p (omega arith))

module _ (bs : List ℕ) (at ty depth top count : ℕ) where
  -- a bag of so many things stands there
  abbrev There : Ready bs at ty depth top → Type 0
  There g = Tells bs (pt.Bag count) g.datum

  facts : (g : Ready bs at ty depth top) (b : There g) → BagOf bs at ty depth b.0 g.type
  facts g b =
      bag_of bs at ty depth b.0 g.type (subst (λ d. At bs at (write_data d)) b.1 (at_stands g.stands)) (at_stands g.stands_type) (subst FitsData b.1 g.fits) g.fits_type
      (subst (λ d. is_of d g.type ≡ true) b.1 g.is) g.shallow

  abbrev row_ready : (g : Ready bs at ty depth top) (b : There g) → RowReady Shared bs (at + 5) (ty + 1) count (depth - 1) top
  row_ready g b =
      let f = facts g b in
      record {
        datas = b.0;
        used = g.used;
        rest = f.stand.rest;
        within = f.stand.within;
        is = f.stand.is;
        fits = f.fit;
        typed = all_typed bs (ty + 1) (depth - 1) b.0 f.item (stands_at types bs (ty + 1) f.item f.stand_type) f.fit_type f.shallow f.all;
        many = b.2;
        low = g.low;
      }

  -- what comes of the bag comes of the datum
  on_datum : (g : Ready bs at ty depth top) (b : There g) (m : List ℕ) (r : Option Laid) → Comes bs (bag b.0) g.type g.used top m r → Comes bs g.datum g.type g.used top m r
  on_datum g b m r h = subst (λ d. Comes bs d g.type g.used top m r) (sym b.1) h

  pub bag_none : (m : List ℕ) (end : ℕ) → LoadsRow Shared bs (at + 5) (ty + 1) count (depth - 1) top m end None → LoadsPart (pt.Bag count) bs at ty depth top m None
  unfolding size_d
  bag_none m end f = record { means = λ g b. on_datum g b m None (omega (arith, f.means (row_ready g b))) }

  -- a bag of so many things was loaded, once it is told how long their type is
  loaded_once_told : (m : List ℕ) (end : ℕ) (r : Slots) (typed : ℕ) → r.start ≡ top → LoadsRow Shared bs (at + 5) (ty + 1) count (depth - 1) top m end (Some r) → ((g : Ready bs at ty depth top) → There g → SharedLong Shared bs (ty + 1) typed)
      → LoadsPart (pt.Bag count) bs at ty depth top m (Some record { value = Bag (record { start = r.start; count = count }); top = end; length = 5 + r.length; typed = 1 + typed })
  unfolding Holds size_d
  loaded_once_told m end r typed e l told = record {
    means = λ g b.
        let f = facts g b in
        let a = l.means (row_ready g b) in
        rw e (on_datum g b m (Some record { value = Bag (record { start = top; count = count }); top = end; length = 5 + r.length; typed = 1 + typed }) (record {
          now_used = a.now_used;
          grown = a.grown;
          holds = (record { start = top; count = count }, refl, a.run, a.lie);
          thrifty = omega (arith, a.thrifty);
          long = omega (arith, a.long, f.long);
          long_type = ap (λ x. 1 + x) (told g b f.item (stands_at types bs (ty + 1) f.item f.stand_type) f.fit_type) ∙ sym f.long_type;
        }));
  }

  pub bag_loaded : (m : List ℕ) (end : ℕ) (r : Slots) (typed : ℕ) → r.start ≡ top → LoadsRow Shared bs (at + 5) (ty + 1) count (depth - 1) top m end (Some r) → ((t : Ty) → Stands types bs (ty + 1) t → FitsTy t → typed ≡ length (write_ty t))
      → LoadsPart (pt.Bag count) bs at ty depth top m (Some record { value = Bag (record { start = r.start; count = count }); top = end; length = 5 + r.length; typed = 1 + typed })
  bag_loaded m end r typed e l tells = loaded_once_told m end r typed e l (λ g b. tells)

  -- its things told it, if there are any
  pub bag_loaded_by_things : (m : List ℕ) (end : ℕ) (r : Slots) (typed : ℕ) → r.start ≡ top → LoadsRow Shared bs (at + 5) (ty + 1) count (depth - 1) top m end (Some r) → (count ≡ 0 → SharedLong Shared bs (ty + 1) typed) → (0 < count → typed ≡ r.typed)
      → LoadsPart (pt.Bag count) bs at ty depth top m (Some record { value = Bag (record { start = r.start; count = count }); top = end; length = 5 + r.length; typed = 1 + typed })
  bag_loaded_by_things m end r typed e l empty some = loaded_once_told m end r typed e l (λ g b. let a = l.means (row_ready g b) in long_of count typed r.typed (SharedLong Shared bs (ty + 1)) empty some a.shared)
