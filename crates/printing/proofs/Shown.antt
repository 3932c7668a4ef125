-- Numbers, texts and beginnings that the code finds at a place are those that stand there.
use Rattle.std.proofs.Common.{◌≡◌, ℕ, ◌+◌, ◌-◌, ◌^◌, ◌<◌, List, ◌++◌, length, take, drop, IsSomeAnd, Some, None, codes, decimal, Option, sym, ap, ◌∙◌, subst, ap₂, append_assoc, arith}
use Rattle.query.specs.Data.{Name}
use Rattle.format.specs.Coding.{le, name, writes}
use Rattle.format.specs.Wire.{write_names, FitNames}
use Rattle.format.specs.Bytes.{length_le}
use Rattle.printing.specs.declared.datum.Whole.TheVariants.{Bag, Record}
use Rattle.printing.specs.declared.datum.Open.{Open}
use Rattle.std.specs.declared.ops.Range.{Range}
use Rattle.printing.specs.Texts.{quoted, bytes_quoted, low_bytes}
use Rattle.printing.proofs.Escapes.{quoted_low}
use Rattle.printing.specs.Words.{value_at, NumberAt, NameAt, PastNames}
use Rattle.printing.specs.Opens.{Opened, NumberShown, TextShown, BagBegun, RecordBegun}
use Rattle.printing.proofs.Values.{number_there, within_there, after_there, low_same}
use Rattle.printing.proofs.Skips.{name_there}

-- a number of so many bytes: the code read it, and what comes after it stands behind these
found : (words : List ℕ) (at w n : ℕ) → NumberAt words at w n → (m : ℕ) (rest : List ℕ) → m < 256 ^ w → drop at words ≡ le w m ++ rest → (n ≡ m) × (drop (at + w) words ≡ rest)
found words at w n r m rest h e = (
  r.is ∙ number_there words at w m rest h e,
  ap (λ (k : ℕ). drop (at + k) words) (sym (length_le w m)) ∙ after_there words at (le w m) rest e,
)

-- too few words are no number
too_few : (words : List ℕ) (at w : ℕ) → 0 < w → length words < at + w → (m : ℕ) (rest : List ℕ) → drop at words ≡ le w m ++ rest → ⊥
too_few words at w p h m rest e =
    let l : length (le w m) ≡ w = length_le w m in
    let some : 0 < length (le w m) = omega arith in
    omega (arith, within_there words at (le w m) rest some e)

-- a count of names, and the names
counted_names : (words : List ℕ) (at n : ℕ) (r : Option ℕ) → NumberAt words at 4 n → PastNames words (at + 4) n r → (ns : List Name) (rest : List ℕ) → FitNames ns → drop at words ≡ write_names ns ++ rest → (n ≡ length ns) × IsSomeAnd r (λ e. drop e words ≡ rest)
counted_names words at n r a p ns rest f e =
    let g = found words at 4 n a (length ns) (writes name ns ++ rest) f.0 (e ∙ append_assoc (le 4 (length ns)) (writes name ns) rest) in
    (g.0, p.is ns rest (sym g.0) f.1 g.1)

module _ (words : List ℕ) (at : ℕ) {out out' : List ℕ} where
  pub number_shown : (n : ℕ) → NumberAt words at 8 n → out' ≡ out ++ decimal n → NumberShown words at out out' (Some (at + 8))
  number_shown n r o = record { is = λ m rest h e. let f = found words at 8 n r m rest h e in (f.1, o ∙ ap (λ (k : ℕ). out ++ decimal k) f.0) }

  pub number_missing : length words < at + 8 → NumberShown words at out out' None
  number_missing h = record { is = λ m rest _ e. too_few words at 8 (omega arith) h m rest e }

  pub text_shown : (s : Range ℕ) → NameAt words at s → out' ≡ out ++ quoted (take (s.end - s.start) (drop s.start words)) → TextShown words at out out' (Some s.end)
  text_shown s r o = record {
    is = λ t rest f e.
        let n = name_there words at t rest f e in
        let from_is : s.start ≡ at + 4 = r.from_is in
        let to_is : s.end ≡ at + 4 + length t = r.to_is ∙ ap (λ (k : ℕ). at + 4 + k) n.long in
        let long : s.end - s.start ≡ length t = omega arith in
        let part : take (s.end - s.start) (drop s.start words) ≡ t = ap₂ (λ (k : ℕ) (i : ℕ). take k (drop i words)) long from_is ∙ n.is in (
          ap (λ (k : ℕ). drop k words) to_is ∙ n.after,
          o ∙ ap (λ (v : List ℕ). out ++ v) (quoted_low (take (s.end - s.start) (drop s.start words)) ∙ ap bytes_quoted (ap low_bytes part ∙ low_same t f.1)),
        );
  }

  pub text_missing : length words < at + 4 + value_at words at 4 → TextShown words at out out' None
  text_missing h = record {
    is = λ t rest f e. let n = name_there words at t rest f e in omega (arith, n.long, n.within);
  }

  module _ {os os' : List Open} where
    pub bag_begun : (n : ℕ) → NumberAt words at 4 n → Opened Bag n (codes "[") os os' out out' → BagBegun words at os os' out out' (Some (at + 4))
    bag_begun n r o = record {
      is = λ m rest h e.
          let f = found words at 4 n r m rest h e in
          (f.1, subst (λ (k : ℕ). Opened Bag k (codes "[") os os' out out') f.0 o);
    }

    pub bag_missing : length words < at + 4 → BagBegun words at os os' out out' None
    bag_missing h = record { is = λ m rest _ e. too_few words at 4 (omega arith) h m rest e }

    pub record_begun : (n end : ℕ) → NumberAt words at 4 n → PastNames words (at + 4) n (Some end) → Opened (Record (at + 4)) n (codes "{") os os' out out' → RecordBegun words at os os' out out' (Some end)
    record_begun n end a p o = record {
      is = λ ns rest f e.
          let g = counted_names words at n (Some end) a p ns rest f e in
          (g.1, subst (λ (k : ℕ). Opened (Record (at + 4)) k (codes "{") os os' out out') g.0 o);
    }

    pub count_missing : length words < at + 4 → RecordBegun words at os os' out out' None
    count_missing h = record { is = λ ns rest f e. too_few words at 4 (omega arith) h (length ns) (writes name ns ++ rest) (e ∙ append_assoc (le 4 (length ns)) (writes name ns) rest) }

    pub names_missing : (n : ℕ) → NumberAt words at 4 n → PastNames words (at + 4) n None → RecordBegun words at os os' out out' None
    names_missing n a p = record { is = λ ns rest f e. (counted_names words at n None a p ns rest f e).1 }
