-- A datum without parts, and where there is none.
use Rattle.std.proofs.Common.{◌≡◌, subst, ℕ, ◌≤◌, List, length, Some, None, Option, sym, arith}
use Rattle.query.specs.Data.{Data}
use Rattle.query.specs.Query.{Ty, a_unit, a_num, a_truth, a_text, a_bag, a_rec, an_either}
use Rattle.format.specs.Wire.{data_of, write_ty, FitsData}
use Rattle.format.specs.Nodes.{Stands}
use Rattle.values.specs.declared.value.Value.{Value}
use Rattle.loading.specs.declared.loaded.Part.{Part}
use Rattle.loading.specs.declared.loaded.Part.TheVariants as pt
use Rattle.loading.specs.Fronts.{Tells, TellsFront}
use Rattle.loading.specs.Loads.{Laid, Loads, LoadsPart}
use Rattle.loading.proofs.Spots.{at_stands, at_long}
use Rattle.loading.proofs.Words.{grown_refl}

pub type_some : (t : Ty) → 1 ≤ length (write_ty t)
unfolding write_ty
type_some a_unit = omega arith
type_some a_num = omega arith
type_some a_truth = omega arith
type_some a_text = omega arith
type_some (a_bag t) = omega arith
type_some (a_rec ts) = omega arith
type_some (an_either t u) = omega arith

module _ (bs : List ℕ) (at ty depth top : ℕ) where
  pub no_type : (m : List ℕ) → length bs ≤ ty → Loads bs at ty depth top m None
  no_type m l = record { means = λ g. absurd (let z : ⊥ = omega (arith, at_long (at_stands g.stands_type), type_some g.type) in z) }

  abbrev Said : Option Part → Type 0
  Said p = (d : Data) → Stands data_of bs at d → FitsData d → TellsFront bs p d

  pub no_datum : (m : List ℕ) → Said None → Loads bs at ty depth top m None
  no_datum m f = record { means = λ g. absurd (f g.datum g.stands g.fits) }

  pub plain : (m : List ℕ) (v : Value) (n : ℕ) → Said (Some (pt.Plain v n)) → Loads bs at ty depth top m (Some record { value = v; top = top; length = n; typed = 1 })
  plain m v n f = record {
    means = λ g.
        let p = f g.datum g.stands g.fits in
        record {
          now_used = g.used;
          grown = grown_refl g.used top;
          holds = p.holds m g.used;
          thrifty = omega (arith, p.some);
          long = p.long;
          long_type = sym (p.typed g.type g.is);
        };
  }

  pub by_part : (p q : Part) (m : List ℕ) (r : Option Laid) → p ≡ q → Said (Some p) → LoadsPart q bs at ty depth top m r → Loads bs at ty depth top m r
  by_part p q m r e f l = record { means = λ g. l.means g (subst (λ x. Tells bs x g.datum) e (f g.datum g.stands g.fits)) }
