-- Runs of fields. Assumes nothing.
use Rattle.std.proofs.Common.{◌≡◌, ℕ, ◌+◌, ◌-◌, ◌<◌, ◌≤◌, List, [], ◌∷◌, ◌++◌, length, get_or, take, drop, sym, ap, ◌∙◌, add-zero, arith, below_more}
use Rattle.std.proofs.lemmas.List.{get_or_default, drop_more, drop-take, drop-drop, take-append-le, drop-append-le, drop_all, length-drop, length-take-le, get_or-take, get_or-drop, same_lists}
use Rattle.types.specs.Tables.{no_such}
use Rattle.types.specs.declared.entry.Field.{Field}

pub run_length : (fs : List Field) (a n : ℕ) → a + n ≤ length fs → length (take n (drop a fs)) ≡ n
run_length fs a n h = length-take-le n (drop a fs) (omega (arith, length-drop a fs))

pub run_at : (fs : List Field) (a n k : ℕ) (d : Field) → k < n → get_or (take n (drop a fs)) k d ≡ get_or fs (a + k) d
run_at fs a n k d h = get_or-take n (drop a fs) k d h ∙ get_or-drop a fs k d

pub runs_same : (fs : List Field) (a b n : ℕ) → a + n ≤ length fs → b + n ≤ length fs → ((k : ℕ) (d : Field) → k < n → get_or fs (a + k) d ≡ get_or fs (b + k) d) → take n (drop a fs) ≡ take n (drop b fs)
runs_same fs a b n h l s =
    same_lists (take n (drop a fs)) (take n (drop b fs)) (run_length fs a n h ∙ sym (run_length fs b n l))
    (λ k d m. let e : k < n = omega (arith, run_length fs a n h) in run_at fs a n k d e ∙ (s k d e ∙ sym (run_at fs b n k d e)))

pub field_same : (f g : Field) → f.name ≡ g.name → f.of ≡ g.of → f ≡ g
field_same f g a o = λ i. record { name = a i; of = o i }

pub runs_long : (fs : List Field) (a b n m : ℕ) → a + n ≤ length fs → b + m ≤ length fs → (n ≡ m → ⊥) → take n (drop a fs) ≡ take m (drop b fs) → ⊥
runs_long fs a b n m h l ne e = ne (sym (run_length fs a n h) ∙ (ap (λ (z : List Field). length z) e ∙ run_length fs b m l))

pub runs_differ : (fs : List Field) (a b n m k : ℕ) (d : Field) → n ≡ m → k < n → (get_or fs (a + k) d ≡ get_or fs (b + k) d → ⊥) → take n (drop a fs) ≡ take m (drop b fs) → ⊥
runs_differ fs a b n m k d q h ne e =
    ne (sym (run_at fs a n k d h) ∙ (ap (λ (z : List Field). get_or z k d) e ∙ run_at fs b m k d (omega arith)))

pub runs_equal : (fs : List Field) (a b n m : ℕ) → a + n ≤ length fs → b + m ≤ length fs → n ≡ m → ((k : ℕ) (d : Field) → k < n → get_or fs (a + k) d ≡ get_or fs (b + k) d) → take n (drop a fs) ≡ take m (drop b fs)
runs_equal fs a b n m h l q s = runs_same fs a b n h (omega arith) s ∙ ap (λ z. take z (drop b fs)) q

pub runs_more : (fs : List Field) (a b i : ℕ) (e : Field) → a + i < length fs → b + i < length fs → ((k : ℕ) (d : Field) → k < i → get_or fs (a + k) d ≡ get_or fs (b + k) d) → get_or fs (a + i) e ≡ get_or fs (b + i) e → (k : ℕ) (d : Field) → k < i + 1 → get_or fs (a + k) d ≡ get_or fs (b + k) d
runs_more fs a b i e h l s q k d m =
    below_more (λ z. get_or fs (a + z) d ≡ get_or fs (b + z) d) i (λ z y. s z d y) (get_or_default fs (a + i) d e h ∙ (q ∙ get_or_default fs (b + i) e d l)) k m

pub run_cons : (fs : List Field) (a n : ℕ) (d : Field) → a + n ≤ length fs → 0 < n → take n (drop a fs) ≡ get_or fs a d ∷ drop 1 (take n (drop a fs))
run_cons fs a n d h l =
    drop_more (take n (drop a fs)) 0 d (omega (arith, run_length fs a n h))
    ∙ ap (λ (z : Field). z ∷ drop 1 (take n (drop a fs))) (run_at fs a n 0 d l ∙ ap (λ z. get_or fs z d) (add-zero a))

pub run_step : (fs : List Field) (a n i : ℕ) (d : Field) → a + n ≤ length fs → i < n → drop i (take n (drop a fs)) ≡ get_or fs (a + i) d ∷ drop (i + 1) (take n (drop a fs))
run_step fs a n i d h l =
    drop_more (take n (drop a fs)) i d (omega (arith, run_length fs a n h))
    ∙ ap (λ (z : Field). z ∷ drop (i + 1) (take n (drop a fs))) (run_at fs a n i d l)

pub run_end : (fs : List Field) (a n i : ℕ) → a + n ≤ length fs → n ≤ i → drop i (take n (drop a fs)) ≡ []
run_end fs a n i h l = drop_all i (take n (drop a fs)) (omega (arith, run_length fs a n h))

pub run_none : (fs : List Field) (a n : ℕ) → n ≡ 0 → take n (drop a fs) ≡ []
run_none fs a n e = ap (λ z. take z (drop a fs)) e

-- a run from further on
pub run_rest : (fs : List Field) (a n i : ℕ) → i ≤ n → take (n - i) (drop (a + i) fs) ≡ drop i (take n (drop a fs))
run_rest fs a n i h =
    let e : i + (n - i) ≡ n = omega arith in
    ap (λ (z : List Field). take (n - i) z) (sym (drop-drop i a fs)) ∙ (sym (drop-take i (n - i) (drop a fs)) ∙ ap (λ z. drop i (take z (drop a fs))) e)

-- a run of what was there
pub run_kept : (fs gs : List Field) (a n : ℕ) → a + n ≤ length fs → take n (drop a (fs ++ gs)) ≡ take n (drop a fs)
run_kept fs gs a n h =
    ap (λ (z : List Field). take n z) (drop-append-le a fs gs (omega arith)) ∙ take-append-le n (drop a fs) gs (omega (arith, length-drop a fs))

pub run_cons_at : (fs : List Field) (a n : ℕ) (f : Field) → a + n ≤ length fs → 0 < n → f ≡ get_or fs a no_such → take n (drop a fs) ≡ f ∷ drop 1 (take n (drop a fs))
run_cons_at fs a n f h l e = run_cons fs a n no_such h l ∙ ap (λ (z : Field). z ∷ drop 1 (take n (drop a fs))) (sym e)
