-- What comes of working a query out and writing what it comes to.
use Rattle.std.proofs.Common.{◌≡◌, ℕ, List, [], ◌∷◌, length, Ok, Err, Result, ap, arith}
use Rattle.query.specs.Data.{Data}
use Rattle.query.specs.Query.{Got}
use Rattle.query.specs.Promise.{size_out}
use Rattle.query.specs.Size.{size_d}
use Rattle.guide.proofs.Sizes.{data_bytes}
use Rattle.values.specs.Memory.{Used, Under}
use Rattle.operators.specs.Means.{CameTo, Stopped as Stops}
use Rattle.operators.specs.Came.{Came}
use Rattle.operators.specs.declared.came.Stop.{Stop}
use Rattle.operators.specs.declared.came.Stop.TheVariants.{Tired, NoRoom, Wrong}
use Rattle.operators.proofs.Grows.{under_grown}
use Rattle.asking.specs.Outcomes.{PutsOut, WrittenOut, OutOf}
use Rattle.asking.specs.declared.outcome.Outcome.{Outcome}

out_size : (g : Got) (d : Data) → g.is ≡ d ∷ [] → size_out g.is ≡ size_d d
unfolding size_out
out_size g d e = ap size_out e

module _ (bs : List ℕ) (rate : ℕ) (g : Got) (budget : ℕ) (u : Used) (old : ℕ) (m n : List ℕ) (long : length n ≡ length m) where
  pub out_of_came : (c : Came) (r : Result Outcome Stop) → Under u old → CameTo bs rate g budget u old n c → WrittenOut bs n c budget r → OutOf rate g budget old (length m) r
  out_of_came c r low k w = go r (w.means k.datum k.now_used k.holds (under_grown low k.grown k.above))
    where
      go : (r : Result Outcome Stop) → PutsOut (length n) c budget k.datum r → OutOf rate g budget old (length m) r
      go (Ok o) p = record { datum = k.datum; is = k.is; words = p.0; counted = omega (arith, p.1, k.paid); within = omega (arith, k.paid) }
      go (Err Tired) p = absurd p
      go (Err NoRoom) p = λ comes. record {
        spent = g.work;
        part = omega arith;
        afford = omega (arith, k.paid);
        lacks = omega (arith, p, long, k.thrifty, data_bytes k.datum, out_size g k.datum k.is);
      }
      go (Err Wrong) p = absurd p

  pub out_of_stop : (s : Stop) → Stops rate g budget old (length n) s → OutOf rate g budget old (length m) (Err s)
  out_of_stop Tired f = f
  out_of_stop NoRoom f = λ comes. let k = f comes in record { spent = k.spent; part = k.part; afford = k.afford; lacks = omega (arith, k.lacks, long) }
  out_of_stop Wrong f = f
