-- Data as text, in one way only.
use Rattle.std.specs.Prelude.{◌≡◌, ℕ, Bool, true, false, List, [], ◌++◌, codes, decimal}
use Rattle.query.specs.Data.{Data, unit, num, truth, text, bag, rec, left, right, Datas, none, more, Fields, no_field, field}
use Rattle.format.specs.Wire.{write_data, FitsData}
use Rattle.printing.specs.Texts.{bytes_quoted}

unfoldable pub truth_text : Bool → List ℕ
truth_text true = codes "true"
truth_text false = codes "false"

-- a comma, where something came before
abbrev pub comma : Bool → List ℕ
comma true = codes ","
comma false = []

unfoldable mutual
  pub text_of : Data → List ℕ
  text_of unit = codes "null"
  text_of (num n) = decimal n
  text_of (truth b) = truth_text b
  text_of (text t) = bytes_quoted t
  text_of (bag ds) = codes "[" ++ (things_text false ds ++ codes "]")
  text_of (rec fs) = codes "{" ++ (fields_text false fs ++ codes "}")
  text_of (left d) = codes "left(" ++ (text_of d ++ codes ")")
  text_of (right d) = codes "right(" ++ (text_of d ++ codes ")")

  -- things of a bag, with a comma in front of each that another came before
  pub things_text : Bool → Datas → List ℕ
  things_text b none = []
  things_text b (more d ds) = comma b ++ (text_of d ++ things_text true ds)

  -- fields of a record likewise, each with its name
  pub fields_text : Bool → Fields → List ℕ
  fields_text b no_field = []
  fields_text b (field n d fs) = comma b ++ (bytes_quoted n ++ (codes ":" ++ (text_of d ++ fields_text true fs)))

-- where the words are the bytes of a datum, a byte to a word, the datum's text was appended
pub record Shows (words out out' : List ℕ) : Type 0 where
  pub is : (d : Data) → FitsData d → words ≡ write_data d → out' ≡ out ++ text_of d
