-- The sides of an either: the datum is loaded, and put into a slot above it.
use Rattle.std.proofs.Common.{◌≡◌, ℕ, ◌+◌, ◌-◌, ◌<◌, ◌≤◌, true, List, length, Some, None, sym, refl, ap, subst, arith}
use Rattle.query.specs.Data.{Data}
use Rattle.query.specs.Query.{Ty}
use Rattle.query.specs.Types.{is_of}
use Rattle.query.specs.Size.{size_d}
use Rattle.format.specs.Wire.{write_data, write_ty, FitsTy, FitsData, data_of, types}
use Rattle.format.specs.Nodes.{Stands}
use Rattle.values.specs.Memory.{Kept, Used, Under, Grown, Run, Holds, Stored, loaded}
use Rattle.values.specs.declared.value.Value.TheVariants.{Left, Right}
use Rattle.values.proofs.Frame.{kept_agree, holds_kept, stored_kept}
use Rattle.loading.specs.declared.loaded.Part.TheVariants as pt
use Rattle.loading.specs.Fronts.{Before, Tells}
use Rattle.loading.specs.declared.loaded.Side.{Side}
use Rattle.loading.specs.declared.loaded.Side.TheVariants as sd
use Rattle.loading.specs.Loads.{Laid, Ready, LoadedAs, Comes, Loads, LoadsPart}
use Rattle.loading.proofs.Spots.{At, at_stands, stands_at, at_same}
use Rattle.loading.proofs.Words.{run_ranged, grown_above, under_grown}
use Rattle.values.proofs.Ranged.{ranged, ranged_old}
use Rattle.loading.proofs.Typed.{LeftOf, left_of, RightOf, right_of}

-- what a type's length is told to be
abbrev LongType : List ℕ → ℕ → ℕ → Type 0
LongType bs at k = (t : Ty) → Stands types bs at t → FitsTy t → k ≡ length (write_ty t)

-- a datum in a slot above it
record InSlot (bs : List ℕ) (d : Data) (u : Used) (top : ℕ) (n : List ℕ) (at end : ℕ) : Type 0 where
  now_used : Used
  grown : Grown u now_used top end
  run : Run now_used at 3
  holds : Holds bs n now_used d (loaded n at)

in_slot : (bs : List ℕ) (d : Data) (t : Ty) (u : Used) (top : ℕ) (m n : List ℕ) (l : Laid) (slot end : ℕ) → Under u top → top ≤ l.top → LoadedAs bs d t u top m l → slot ≡ l.top → Stored l.top l.value m n → end ≡ l.top + 3 → InSlot bs d u top n slot end
in_slot bs d t u top m n l slot end low le c at st k =
    let w : Used = ranged c.now_used l.top end in
    let kept : Kept l.top m n = stored_kept st (omega arith) in
    subst (λ y. InSlot bs d u top n y end) (sym at) (record {
      now_used = w;
      grown = grown_above c.grown le (omega arith);
      run = run_ranged c.now_used l.top end 3 (omega arith);
      holds = subst (λ v. Holds bs n w d v) (sym st.there) (holds_kept bs w d l.value (kept_agree (under_grown low c.grown le) kept) (λ i s. ranged_old c.now_used l.top end i s) c.holds);
    })

module _ (bs : List ℕ) (at kind depth top : ℕ) where
  -- the left side
  lefts : (g : Ready bs at kind depth top) (b : Tells bs (pt.Either sd.Left) g.datum) → LeftOf bs at kind depth b.0 g.type
  lefts g b =
      left_of bs at kind depth b.0 g.type (subst (λ d. At bs at (write_data d)) b.1 (at_stands g.stands)) (at_stands g.stands_type) (subst FitsData b.1 g.fits) g.fits_type
      (subst (λ d. is_of d g.type ≡ true) b.1 g.is) g.shallow

  abbrev left_ready : (g : Ready bs at kind depth top) (b : Tells bs (pt.Either sd.Left) g.datum) → Ready bs (at + 1) (kind + 1) (depth - 1) top
  left_ready g b =
      let x = lefts g b in
      let s = x.side in
      record {
        datum = b.0;
        type = x.a;
        used = g.used;
        stands = stands_at data_of bs (at + 1) b.0 s.stand;
        stands_type = stands_at types bs (kind + 1) x.a s.stand_type;
        fits = s.fit;
        fits_type = s.fit_first;
        is = s.of;
        shallow = s.shallow;
        low = g.low;
      }

  pub left_loaded : (l : Laid) (m n : List ℕ) (before slot end other : ℕ) → before ≡ 0 → top ≤ l.top → Loads bs (at + 1) (kind + 1 + before) (depth - 1) top m (Some l) → slot ≡ l.top → Stored l.top l.value m n → end ≡ l.top + 3 → LongType bs (kind + 1 + l.typed) other
      → LoadsPart (pt.Either sd.Left) bs at kind depth top n (Some record { value = Left slot; top = end; length = 1 + l.length; typed = 1 + l.typed + other })
  unfolding Holds size_d write_data
  left_loaded l m n before slot end other z le f at-slot st k o = record {
    means = λ g b.
        let x = lefts g b in
        let s = x.side in
        let e : kind + 1 + before ≡ kind + 1 = omega arith in
        let c = (subst (λ k. Loads bs (at + 1) k (depth - 1) top m (Some l)) e f).means (left_ready g b) in
        let i = in_slot bs b.0 x.a g.used top m n l slot end g.low le c at-slot st k in
        let q : other ≡ length (write_ty x.b) = o x.b (stands_at types bs (kind + 1 + l.typed) x.b (at_same s.second_type (ap (λ y. kind + 1 + y) (sym c.long_type)) refl)) s.fit_second in
        subst (λ d. Comes bs d g.type g.used top n (Some record { value = Left slot; top = end; length = 1 + l.length; typed = 1 + l.typed + other })) (sym b.1) (record {
          now_used = i.now_used;
          grown = i.grown;
          holds = (slot, refl, i.run, i.holds);
          thrifty = omega (arith, c.thrifty);
          long = omega (arith, c.long);
          long_type = omega (arith, c.long_type, q, x.long_type);
        });
  }

  -- the right side, after the left one's type
  rights : (g : Ready bs at kind depth top) (b : Tells bs (pt.Either sd.Right) g.datum) → RightOf bs at kind depth b.0 g.type
  rights g b =
      right_of bs at kind depth b.0 g.type (subst (λ d. At bs at (write_data d)) b.1 (at_stands g.stands)) (at_stands g.stands_type) (subst FitsData b.1 g.fits) g.fits_type
      (subst (λ d. is_of d g.type ≡ true) b.1 g.is) g.shallow

  module _ (other : ℕ) (o : LongType bs (kind + 1) other) where
    passed : (g : Ready bs at kind depth top) (b : Tells bs (pt.Either sd.Right) g.datum) → other ≡ length (write_ty (rights g b).a)
    passed g b = let x = rights g b in o x.a (stands_at types bs (kind + 1) x.a x.side.first_type) x.side.fit_first

    abbrev right_ready : (g : Ready bs at kind depth top) (b : Tells bs (pt.Either sd.Right) g.datum) → Ready bs (at + 1) (kind + 1 + other) (depth - 1) top
    right_ready g b =
        let x = rights g b in
        let s = x.side in
        record {
          datum = b.0;
          type = x.b;
          used = g.used;
          stands = stands_at data_of bs (at + 1) b.0 s.stand;
          stands_type = stands_at types bs (kind + 1 + other) x.b (at_same s.stand_type (ap (λ y. kind + 1 + y) (sym (passed g b))) refl);
          fits = s.fit;
          fits_type = s.fit_second;
          is = s.of;
          shallow = s.shallow;
          low = g.low;
        }

    pub right_loaded : (l : Laid) (m n : List ℕ) (slot end : ℕ) → top ≤ l.top → Loads bs (at + 1) (kind + 1 + other) (depth - 1) top m (Some l) → slot ≡ l.top → Stored l.top l.value m n → end ≡ l.top + 3
        → LoadsPart (pt.Either sd.Right) bs at kind depth top n (Some record { value = Right slot; top = end; length = 1 + l.length; typed = 1 + other + l.typed })
    unfolding Holds size_d write_data
    right_loaded l m n slot end le f at-slot st k = record {
      means = λ g b.
          let x = rights g b in
          let c = f.means (right_ready g b) in
          let i = in_slot bs b.0 x.b g.used top m n l slot end g.low le c at-slot st k in
          subst (λ d. Comes bs d g.type g.used top n (Some record { value = Right slot; top = end; length = 1 + l.length; typed = 1 + other + l.typed })) (sym b.1) (record {
            now_used = i.now_used;
            grown = i.grown;
            holds = (slot, refl, i.run, i.holds);
            thrifty = omega (arith, c.thrifty);
            long = omega (arith, c.long);
            long_type = omega (arith, c.long_type, passed g b, x.long_type);
          });
    }

  pub side_none : (s : Side) (before : ℕ) (n : List ℕ) → Before bs (kind + 1) s before → Loads bs (at + 1) (kind + 1 + before) (depth - 1) top n None → LoadsPart (pt.Either s) bs at kind depth top n None
  unfolding size_d
  side_none sd.Left before n o f = record {
    means = λ g b.
        let e : kind + 1 + before ≡ kind + 1 = omega arith in
        subst (λ d. Comes bs d g.type g.used top n None) (sym b.1) (let z = (subst (λ k. Loads bs (at + 1) k (depth - 1) top n None) e f).means (left_ready g b) in omega (arith, z));
  }
  side_none sd.Right before n o f = record { means = λ g b. subst (λ d. Comes bs d g.type g.used top n None) (sym b.1) (let z = f.means (right_ready before o g b) in omega (arith, z)) }

  pub side_no_room : (s : Side) (before : ℕ) (l : Laid) (m n : List ℕ) → Before bs (kind + 1) s before → Loads bs (at + 1) (kind + 1 + before) (depth - 1) top m (Some l) → length m < l.top + 3 → length n ≡ length m → LoadsPart (pt.Either s) bs at kind depth top n None
  unfolding size_d
  side_no_room sd.Left before l m n o f k q = record {
    means = λ g b.
        let e : kind + 1 + before ≡ kind + 1 = omega arith in
        subst (λ d. Comes bs d g.type g.used top n None) (sym b.1) (let z = (subst (λ k. Loads bs (at + 1) k (depth - 1) top m (Some l)) e f).means (left_ready g b) in omega (arith, z.thrifty));
  }
  side_no_room sd.Right before l m n o f k q = record { means = λ g b. subst (λ d. Comes bs d g.type g.used top n None) (sym b.1) (let z = f.means (right_ready before o g b) in omega (arith, z.thrifty)) }
