-- The lines of refusals and of outcomes.
use Rattle.std.specs.Prelude.{◌≡◌, ℕ, cond, List, [], ◌∷◌, ◌++◌, Some, None, codes, decimal, Option, ◌==◌}
use Rattle.query.specs.Data.{Data}
use Rattle.format.specs.Wire.{write_data, FitsData}
use Rattle.printing.specs.Datums.{text_of}

-- what is wrong, by the refusal's number
unfoldable pub words_for : ℕ → List ℕ
words_for n =
    cond (n == 1) (codes "the bytes are no request")
    (cond (n == 2) (codes "more than 8192 parts")
    (cond (n == 3) (codes "a record's names in the schema are not in order, each once")
    (cond (n == 4) (codes "the query has no type")
    (cond (n == 5) (codes "the tables are not of the schema")
    (cond (n == 6) (codes "this desk cannot do such a request")
    (codes "the request is refused"))))))

-- 0, the number, the place and the words, with spaces between them, and the end of the line
abbrev pub refused_line : ℕ → ℕ → List ℕ
refused_line number place =
    codes "0 " ++ (decimal number ++ (32 ∷ (decimal place ++ (32 ∷ (words_for number ++ (10 ∷ []))))))

-- how much was looked at, after a tab, where that is asked for
abbrev pub work_text : Option ℕ → List ℕ
work_text None = []
work_text (Some looked) = 9 ∷ decimal looked

-- 1, what the query comes to, how much was looked at, and the end of the line
abbrev pub outcome_line : Data → Option ℕ → List ℕ
outcome_line d work = codes "1 " ++ (text_of d ++ (work_text work ++ (10 ∷ [])))

-- where the words are the bytes of a datum, a byte to a word, the line of that outcome was appended
pub record Lines (words : List ℕ) (work : Option ℕ) (out out' : List ℕ) : Type 0 where
  pub is : (d : Data) → FitsData d → words ≡ write_data d → out' ≡ out ++ outcome_line d work
