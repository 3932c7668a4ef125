-- One piece is appended after another.
use Rattle.std.proofs.Common.{◌≡◌, ℕ, List, ◌++◌, ap, ◌∙◌, append_assoc}

pub before : (x a b : List ℕ) {y z : List ℕ} → y ≡ x ++ a → z ≡ y ++ b → z ≡ x ++ (a ++ b)
before x a b {y} {z} first second = second ∙ ap (λ r. r ++ b) first ∙ append_assoc x a b

-- what was appended is known by another name
pub known_as : (x a b c y : List ℕ) → y ≡ x ++ a → a ≡ b → b ≡ c → y ≡ x ++ c
known_as x a b c y piece one two = piece ∙ ap (λ r. x ++ r) one ∙ ap (λ r. x ++ r) two

-- seven pieces, of a line
pub seven : (x y₁ y₂ y₃ y₄ y₅ y₆ z a b c d e f g : List ℕ)
    → y₁ ≡ x ++ a
    → y₂ ≡ y₁ ++ b
    → y₃ ≡ y₂ ++ c
    → y₄ ≡ y₃ ++ d
    → y₅ ≡ y₄ ++ e
    → y₆ ≡ y₅ ++ f
    → z ≡ y₆ ++ g
    → z ≡ x ++ (a ++ (b ++ (c ++ (d ++ (e ++ (f ++ g))))))
seven x y₁ y₂ y₃ y₄ y₅ y₆ z a b c d e f g one two three four five six last =
    before x a (b ++ (c ++ (d ++ (e ++ (f ++ g))))) one
    (before y₁ b (c ++ (d ++ (e ++ (f ++ g)))) two
    (before y₂ c (d ++ (e ++ (f ++ g))) three
    (before y₃ d (e ++ (f ++ g)) four
    (before y₄ e (f ++ g) five
    (before y₅ f g six last)))))

-- four pieces
pub four_pieces : (x y₁ y₂ y₃ z a b c d : List ℕ)
    → y₁ ≡ x ++ a
    → y₂ ≡ y₁ ++ b
    → y₃ ≡ y₂ ++ c
    → z ≡ y₃ ++ d
    → z ≡ x ++ (a ++ (b ++ (c ++ d)))
four_pieces x y₁ y₂ y₃ z a b c d one two three last =
    before x a (b ++ (c ++ d)) one (before y₁ b (c ++ d) two (before y₂ c d three last))
