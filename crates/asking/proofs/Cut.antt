-- Memory cut where what is in use ends: values are read from the first part, and bytes are written into the rest.
use Rattle.std.proofs.Common.{◌≡◌, ℕ, ◌-◌, ◌<◌, ◌≤◌, List, ◌++◌, length, get_or, take, Some, None, Ok, Err, sym, ap, ◌∙◌, arith, length-append}
use Rattle.std.proofs.lemmas.List.{append_assoc}
use Rattle.query.specs.Data.{Data}
use Rattle.format.specs.Wire.{write_data}
use Rattle.values.specs.Memory.{Used, Under, Holds, Agree}
use Rattle.values.proofs.Slot.{word_before}
use Rattle.values.proofs.Frame.{holds_kept}
use Rattle.operators.specs.Came.{Came}
use Rattle.operators.specs.declared.came.Stop.TheVariants.{NoRoom}
use Rattle.writing.specs.Writes.{WritesAny}
use Rattle.asking.specs.Outcomes.{WrittenOut}
use Rattle.asking.specs.declared.outcome.Outcome.{Outcome}

module _ (bs b m f r : List ℕ) (c : Came) (budget : ℕ) (e : m ≡ f ++ r) (over : length b ≤ c.top) (long : length f ≡ c.top - length b) where
  cut_long : length (b ++ f) ≡ c.top
  cut_long = omega (arith, length-append b f)

  cut_agree : (u : Used) → Under u c.top → Agree u (b ++ m) (b ++ f)
  cut_agree u low = record {
    same = λ k t.
        let h : k < length (b ++ f) = omega (arith, low.low k t, cut_long) in
        word_before (b ++ f) r k h ∙ ap (λ (z : List ℕ). get_or z k 0) (append_assoc b f r ∙ ap (λ (z : List ℕ). b ++ z) (sym e));
  }

  cut_under : (u : Used) → Under u c.top → Under u (length (b ++ f))
  cut_under u low = record { low = λ k t. omega (arith, low.low k t, cut_long) }

  cut_holds : (d : Data) (u : Used) → Holds bs (b ++ m) u d c.value → Under u c.top → Holds bs (b ++ f) u d c.value
  cut_holds d u h low = holds_kept bs u d c.value (cut_agree u low) (λ k t. t) h

  pub not_written : (s : List ℕ) → WritesAny bs (b ++ f) c.value r s None → WrittenOut bs (b ++ m) c budget (Err NoRoom)
  not_written s w = record {
    means = λ d u h low.
        let x : length r < length (write_data d) = w.means d u (cut_holds d u h low) (cut_under u low) in
        omega (arith, x, length-append b m, length-append f r, ap (λ (z : List ℕ). length z) e, cut_long, length-append b f);
  }

  pub is_written : (s : List ℕ) (n : ℕ) (o : Outcome) → c.left ≤ budget → o.words.now ≡ take n s → o.looked ≡ budget - c.left → WritesAny bs (b ++ f) c.value r s (Some n) → WrittenOut bs (b ++ m) c budget (Ok o)
  is_written s n o paid i left w = record {
    means = λ d u h low. (i ∙ (w.means d u (cut_holds d u h low) (cut_under u low)).is, omega arith);
  }
