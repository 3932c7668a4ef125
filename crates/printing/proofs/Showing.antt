-- Whole data: head after head, until nothing is open.
use Rattle.std.proofs.Common.{◌≡◌, ℕ, ◌≤◌, true, false, List, [], ◌++◌, length, drop, Some, None, sym, refl, ap, ◌∙◌, append-nil, arith, length-append}
use Rattle.std.proofs.lemmas.List.{drop_all}
use Rattle.query.specs.Data.{Data}
use Rattle.format.specs.Wire.{write_data, FitsData}
use Rattle.printing.specs.declared.datum.Open.{Open}
use Rattle.printing.specs.Datums.{text_of, Shows}
use Rattle.printing.specs.Opens.{all_closed, Due, Still, Headed, Between}
use Rattle.printing.proofs.Dues.{some_bytes}

-- if the words are a datum, another one is due, and what is out is the front of the whole text
pub record Showing (words : List ℕ) (os : List Open) (at : ℕ) (out out' : List ℕ) : Type 0 where
  pub goes_on : (d : Data) → FitsData d → words ≡ write_data d → Still (Due words os (drop at words)) out' (out ++ text_of d)

pub showing_begin : (words : List ℕ) (os : List Open) (out : List ℕ) → os ≡ [] → Showing words os 0 out out
showing_begin words os out none = record {
  goes_on = λ d f e. record {
    text = text_of d;
    there = record { d = d; fits = f; bs = []; ts = []; stands = all_closed none refl refl; bytes_are = e ∙ sym (append-nil (write_data d)); text_is = sym (append-nil (text_of d)) };
    is = refl;
  };
}

module _ (words : List ℕ) (os os₁ : List Open) (at : ℕ) (out out' out₁ : List ℕ) (s : Showing words os at out out') where
  pub showing_stuck : Headed words at os os₁ out' out₁ None → Shows words out out₁
  showing_stuck h = record { is = λ d f e. let g = s.goes_on d f e in absurd (h.goes_on g.text g.there) }

  module _ (end : ℕ) (h : Headed words at os os₁ out' out₁ (Some end)) (os₂ : List Open) (out₂ : List ℕ) where
    pub showing_end : Between words os₁ os₂ out₁ out₂ false → Shows words out out₂
    showing_end b = record {
      is = λ d f e.
          let g = s.goes_on d f e in
          let k = h.goes_on g.text g.there in
          b.goes_on (drop end words) k.text k.there ∙ k.is ∙ g.is;
    }

    pub showing_on : Between words os₁ os₂ out₁ out₂ true → Showing words os₂ end out out₂
    showing_on b = record {
      goes_on = λ d f e.
          let g = s.goes_on d f e in
          let k = h.goes_on g.text g.there in
          let n = b.goes_on (drop end words) k.text k.there in
          record { text = n.text; there = n.there; is = n.is ∙ k.is ∙ g.is };
    }

-- a datum has at least one byte
pub showing_past : (words : List ℕ) (os : List Open) (at : ℕ) (out out' : List ℕ) → Showing words os at out out' → length words ≤ at → Shows words out out'
showing_past words os at out out' s h = record {
  is = λ d f e.
      let g = (s.goes_on d f e).there in
      let none : length (write_data g.d ++ g.bs) ≡ 0 = ap length (sym g.bytes_are ∙ drop_all at words h) in
      absurd (omega (arith, some_bytes g.d, length-append (write_data g.d) g.bs));
}
