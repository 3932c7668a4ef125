-- All of the bytes as one thing: a head, and what the scan found after it.
use Rattle.std.proofs.Common.{ℕ, ◌+◌, ◌<◌, ◌≤◌, List, length, sym, ◌∙◌, subst}
use Rattle.std.proofs.lemmas.List.{take_all}
use Rattle.format.specs.Coding.{Coding, many}
use Rattle.format.specs.Reading.{Read, Stuck, Opened, Whole, Garbled, OneWay}
use Rattle.format.specs.Lists.{from, from_drop}
use Rattle.format.specs.Codings.{garbled_stuck, garbled_after}
use Rattle.format.proofs.Spans.{spans_opened, spans_read, spans_cut, one_read, one_stuck}

module _ (S : Coding) (xs : List ℕ) (k e : ℕ) (o : Opened S xs k e) where
  read_on : (f : ℕ) → Read (many S k) (from e xs) f → Read S xs (e + f)
  read_on f r = one_read S xs (e + f) (spans_read S 1 k e f xs o.within (spans_opened S xs k e o) (subst (λ (v : List ℕ). Read (many S k) v f) (from_drop e xs) r))

  pub whole_cut : (p : ℕ) → Stuck (many S k) (from e xs) p → Garbled S xs (e + p)
  whole_cut p t = garbled_stuck S xs (e + p) (one_stuck S xs (e + p) (spans_cut S 1 k e p xs o.within (spans_opened S xs k e o) (subst (λ (v : List ℕ). Stuck (many S k) v p) (from_drop e xs) t)))

  pub whole_after : (f : ℕ) → OneWay S → Read (many S k) (from e xs) f → e + f < length xs → Garbled S xs (e + f)
  whole_after f way r h = let q = read_on f r in garbled_after S xs (e + f) q.thing way q.begins h

  pub whole_all : (f : ℕ) → Read (many S k) (from e xs) f → length xs ≤ e + f → Whole S xs
  whole_all f r h = let q = read_on f r in record { thing = q.thing; fits = q.begins.fits; is = sym (take_all (e + f) xs h) ∙ q.begins.is }
