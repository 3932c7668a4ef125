-- Names that are passed over one by one.
use Rattle.std.proofs.Common.{◌≡◌, ℕ, suc, ◌+◌, ◌-◌, ◌<◌, ◌≤◌, List, [], ◌∷◌, ◌++◌, length, take, drop, Some, None, sym, ap, ◌∙◌, append_assoc, arith, length-append}
use Rattle.query.specs.Data.{Name}
use Rattle.format.specs.Coding.{le, name, writes, AllFit}
use Rattle.format.specs.Bytes.{length_le}
use Rattle.std.specs.declared.ops.Range.{Range}
use Rattle.printing.specs.Words.{value_at, NameAt, PastNames}
use Rattle.printing.proofs.Values.{number_there, within_there, after_there, front_there}

-- where a name stands: its length, its words, and what comes after it
pub record NameThere (words : List ℕ) (at : ℕ) (t rest : List ℕ) : Type 0 where
  pub long : value_at words at 4 ≡ length t
  pub within : at + 4 + length t ≤ length words
  pub is : take (length t) (drop (at + 4) words) ≡ t
  pub after : drop (at + 4 + length t) words ≡ rest

pub name_there : (words : List ℕ) (at : ℕ) (t rest : List ℕ) → name.Fits t → drop at words ≡ (le 4 (length t) ++ t) ++ rest → NameThere words at t rest
name_there words at t rest f e =
    let n = length t in
    let e' : drop at words ≡ le 4 n ++ (t ++ rest) = e ∙ append_assoc (le 4 n) t rest in
    let l4 : length (le 4 n) ≡ 4 = length_le 4 n in
    let l : length (le 4 n ++ t) ≡ 4 + length t = length-append (le 4 n) t ∙ ap (λ (k : ℕ). k + length t) l4 in
    let next : drop (at + 4) words ≡ t ++ rest = ap (λ (k : ℕ). drop (at + k) words) (sym l4) ∙ after_there words at (le 4 n) (t ++ rest) e' in
    let some : 0 < length (le 4 n ++ t) = omega arith in
    record {
      long = number_there words at 4 n (t ++ rest) f.0 e';
      within = omega (arith, within_there words at (le 4 n ++ t) rest some e);
      is = front_there words (at + 4) t rest next;
      after = after_there words (at + 4) t rest next;
    }

-- so many of the names are passed over, and the others stand where the next one is looked for
pub record ToSkip (words : List ℕ) (left end : ℕ) (rest : List ℕ) : Type 0 where
  pub ns : List Name
  pub many : length ns ≡ left
  pub fit : AllFit name ns
  pub are : drop end words ≡ writes name ns ++ rest

pub record Skipped (words : List ℕ) (at count i end : ℕ) : Type 0 where
  pub goes_on : (ns : List Name) (rest : List ℕ) → length ns ≡ count → AllFit name ns → drop at words ≡ writes name ns ++ rest → ToSkip words (count - i) end rest

pub begin : (words : List ℕ) (at count : ℕ) → Skipped words at count 0 at
begin words at count = record { goes_on = λ ns rest m f e. record { ns = ns; many = omega arith; fit = f; are = e } }

-- the first of those that are still to be passed over
pub record FirstName (words : List ℕ) (left end : ℕ) (rest : List ℕ) : Type 0 where
  pub t : Name
  pub ns : List Name
  pub many : length ns ≡ left
  pub fit : AllFit name ns
  pub stands : NameThere words end t (writes name ns ++ rest)

first_of : (words : List ℕ) (left end : ℕ) (rest : List ℕ) (ns : List Name) → length ns ≡ suc left → AllFit name ns → drop end words ≡ writes name ns ++ rest → FirstName words left end rest
first_of words left end rest [] m f e = absurd (omega arith)
first_of words left end rest (t ∷ ns) m f e =
    let m' : suc (length ns) ≡ suc left = m in
    record { t = t; ns = ns; many = omega arith; fit = f.1; stands = name_there words end t (writes name ns ++ rest) f.0 (e ∙ append_assoc (le 4 (length t) ++ t) (writes name ns) rest) }

first : (words : List ℕ) (count i end : ℕ) (rest : List ℕ) → i < count → ToSkip words (count - i) end rest → FirstName words (count - (i + 1)) end rest
first words count i end rest h s = first_of words (count - (i + 1)) end rest s.ns (omega (arith, s.many)) s.fit s.are

pub step : (words : List ℕ) (at count i end : ℕ) (span : Range ℕ) → i < count → Skipped words at count i end → NameAt words end span → Skipped words at count (i + 1) span.end
step words at count i end span h s n = record {
  goes_on = λ ns rest m f e.
      let g = first words count i end rest h (s.goes_on ns rest m f e) in
      record { ns = g.ns; many = g.many; fit = g.fit; are = ap (λ (k : ℕ). drop k words) (n.to_is ∙ ap (λ (k : ℕ). end + 4 + k) g.stands.long) ∙ g.stands.after };
}

pub cut_off : (words : List ℕ) (at count i end : ℕ) → i < count → Skipped words at count i end → length words < end + 4 + value_at words end 4 → PastNames words at count None
cut_off words at count i end h s n = record {
  is = λ ns rest m f e.
      let g = first words count i end rest h (s.goes_on ns rest m f e) in
      absurd (omega (arith, g.stands.long, g.stands.within));
}

none_left : (words : List ℕ) (end : ℕ) (rest : List ℕ) (ns : List Name) → length ns ≡ 0 → drop end words ≡ writes name ns ++ rest → drop end words ≡ rest
none_left words end rest [] m e = e
none_left words end rest (t ∷ ns) m e = absurd (let m' : suc (length ns) ≡ 0 = m in omega arith)

pub done : (words : List ℕ) (at count i end : ℕ) → count ≤ i → Skipped words at count i end → PastNames words at count (Some end)
done words at count i end h s = record {
  is = λ ns rest m f e.
      let g = s.goes_on ns rest m f e in
      none_left words end rest g.ns (omega (arith, g.many)) g.are;
}
