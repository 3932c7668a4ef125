-- The library's order of bytes is the definition's.
use Rattle.std.proofs.Common.{◌≡◌, ℕ, ◌<◌, ◌≤◌, true, List, [], ◌∷◌, sym, refl, ◌∙◌, subst, ap₂, true≢false, arith}
use Rattle.std.specs.declared.cmp.Ordering.{Ordering}
use Rattle.std.specs.declared.cmp.Ordering.TheVariants.{Less, Equal, Greater}
use Rattle.std.specs.Ordering.{ordering_then, ordering_index, nat_cmp, MatchOrdering}
use Rattle.std.specs.Cmp.{ranks}
use Rattle.std.specs.Cmp.Lexicographic.{slice_cmp}
use Rattle.query.specs.Data.{Name, less_text}
use Rattle.query.proofs.Texts.{less_self, less_trans}
use Rattle.ranks.specs.Ranks.{Ways}

head_same : (a b : ℕ) (x y : List ℕ) → a ≡ b → less_text (a ∷ x) (b ∷ y) ≡ less_text x y
unfolding less_text
head_same a b x y e = grind arith

head_less : (a b : ℕ) (x y : List ℕ) → a < b → less_text (a ∷ x) (b ∷ y) ≡ true
unfolding less_text
head_less a b x y e = grind arith

head_on : (a b : ℕ) (x y : List ℕ) (o p : Ordering) → MatchOrdering o (a < b) (a ≡ b) (b < a) → Ways x y p → Ways (a ∷ x) (b ∷ y) (ordering_then o p)
head_on a b x y Less p n w = head_less a b x y n
head_on a b x y Equal Less n w = head_same a b x y n ∙ w
head_on a b x y Equal Equal n w = ap₂ (λ (c : ℕ) (z : List ℕ). c ∷ z) n w
head_on a b x y Equal Greater n w = head_same b a y x (sym n) ∙ w
head_on a b x y Greater p n w = head_less b a y x n

pub ways : (x y : List ℕ) → Ways x y (slice_cmp nat_cmp x y)
unfolding less_text
ways [] [] = refl
ways [] (b ∷ y) = refl
ways (a ∷ x) [] = refl
ways (a ∷ x) (b ∷ y) = head_on a b x y (nat_cmp a b) (slice_cmp nat_cmp x y) (ranks a b) (ways x y)

-- what comes before itself
never : (a : Name) → less_text a a ≡ true → ⊥
never a h = true≢false (sym h ∙ less_self a)

-- of two in order the first stands no later to a third than the second
pub rises : (a b n : Name) (o p : Ordering) → less_text a b ≡ true → Ways a n o → Ways b n p → ordering_index o ≤ ordering_index p
rises a b n Less p l v w = omega arith
rises a b n Equal Less l v w = absurd (never a (less_trans _ _ _ l (subst (λ (z : Name). less_text b z ≡ true) (sym v) w)))
rises a b n Equal Equal l v w = omega arith
rises a b n Equal Greater l v w = omega arith
rises a b n Greater Less l v w = absurd (never n (less_trans _ _ _ v (less_trans _ _ _ l w)))
rises a b n Greater Equal l v w = absurd (never n (less_trans _ _ _ v (subst (λ (z : Name). less_text a z ≡ true) w l)))
rises a b n Greater Greater l v w = omega arith
