-- Parts of a buffer: what is unread, before and after more of the file has come.
use Rattle.std.proofs.Common.{◌≡◌, ℕ, ◌+◌, ◌-◌, ◌≤◌, true, List, [], ◌++◌, length, take, drop, sym, refl, ap, ◌∙◌, append_assoc, append-nil, arith, length-append, length-drop, length-take-le, take-add, Result, Ok, Err, MatchResult}
use lib.Seq.{paste}
use Rattle.std.specs.Result.{IsOk}
use Rattle.std.specs.List.{between}
use Rattle.std.proofs.lemmas.List.{drop-drop, take-append-le, take_all, take_at}
use Rattle.std.proofs.lemmas.Slice.{between_is}
use Rattle.query.specs.Types.{bytes}
use Rattle.format.specs.Coding.{le, number}
use Rattle.format.specs.Reading.{Begins, Stuck}
use Rattle.format.specs.Lists.{none_of, split_at, bytes_take}
use Rattle.format.specs.Bytes.{length_le, pad}
use Rattle.serving.specs.declared.header.Header.{Header}
use Rattle.serving.specs.Buffers.{HeaderOf, Longer, Taken}

split : (i k j : ℕ) (xs : List ℕ) → i ≤ k → k ≤ j → between i j xs ≡ between i k xs ++ between k j xs
split i k j xs h g =
    let s : j - i ≡ (k - i) + (j - k) = omega arith in
    let m : i + (k - i) ≡ k = omega arith in
    ap (λ (n : ℕ). take n (drop i xs)) s
    ∙ take-add (k - i) (j - k) (drop i xs)
    ∙ ap (λ (v : List ℕ). between i k xs ++ take (j - k) v) (drop-drop (k - i) i xs ∙ ap (λ (n : ℕ). drop n xs) m)

long : (i j : ℕ) (xs : List ℕ) → i ≤ j → j ≤ length xs → length (between i j xs) ≡ j - i
long i j xs h g = length-take-le (j - i) (drop i xs) (omega (arith, length-drop i xs))

same_front : (i e : ℕ) (xs ys : List ℕ) → take e ys ≡ take e xs → between i e ys ≡ between i e xs
same_front i e xs ys h = between_is ys i e ∙ ap (drop i) h ∙ sym (between_is xs i e)

pub nothing_more : (xs : List ℕ) → Longer xs xs
nothing_more xs = record { arrived = []; is = sym (append-nil xs) }

pub more_and_more : (xs ys zs : List ℕ) → Longer xs ys → Longer ys zs → Longer xs zs
more_and_more xs ys zs p q = record { arrived = p.arrived ++ q.arrived; is = q.is ∙ ap (λ (v : List ℕ). v ++ q.arrived) p.is ∙ append_assoc xs p.arrived q.arrived }

-- what is unread stays, and then more comes
pub same_then_more : (xs ys zs : List ℕ) → Longer xs ys → zs ≡ ys → Longer xs zs
same_then_more xs ys zs p e = record { arrived = p.arrived; is = e ∙ p.is }

-- bytes were read behind the end
pub read_more : (i e n : ℕ) (xs ys : List ℕ) → i ≤ e → take e ys ≡ take e xs → Longer (between i e xs) (between i (e + n) ys)
read_more i e n xs ys h same = record { arrived = between e (e + n) ys; is = split i e (e + n) ys h (omega arith) ∙ ap (λ (v : List ℕ). v ++ between e (e + n) ys) (same_front i e xs ys same) }

-- none came
pub read_none : (i e : ℕ) (xs ys : List ℕ) → take e ys ≡ take e xs → Longer (between i e xs) (between i e ys)
read_none i e xs ys same = record { arrived = []; is = same_front i e xs ys same ∙ sym (append-nil (between i e xs)) }

-- a number stands in front of four bytes
pub no_number : (xs : List ℕ) (p : ℕ) → bytes xs ≡ true → 4 ≤ length xs → Stuck (number 4) xs p → ⊥
no_number xs p b h s =
    let l : length (take 4 xs) ≡ 4 = length-take-le 4 xs h in
    let q = pad 4 (take 4 xs) (omega arith) (bytes_take 4 xs b) in
    let k : length (take 4 xs) + length q.rest ≡ 4 = sym (length-append (take 4 xs) q.rest) ∙ ap length q.is ∙ length_le 4 q.n in
    let none : q.rest ≡ [] = none_of q.rest (omega arith) in
    let is : take 4 xs ≡ le 4 q.n = sym (append-nil (take 4 xs)) ∙ ap (λ (v : List ℕ). take 4 xs ++ v) (sym none) ∙ q.is in
    s.absent q.n (drop 4 xs) q.fits (split_at 4 xs (le 4 q.n) is)

-- what reading a number of four bytes says
abbrev pub NumberOrStuck : List ℕ → Result ℕ ℕ → Type 0
NumberOrStuck xs r = MatchResult r (λ n. Begins (number 4) xs 4 n) (λ p. Stuck (number 4) xs p)

-- so where four bytes are there, a number is read
pub number_there : (xs : List ℕ) → bytes xs ≡ true → 4 ≤ length xs → (r : Result ℕ ℕ) → NumberOrStuck xs r → IsOk r
number_there xs b h (Ok n) m = refl
number_there xs b h (Err p) m = absurd (no_number xs p b h m)

-- what stands in front of the part that is written stays
pub front_kept : (e n : ℕ) (xs ys zs ws : List ℕ) → ys ≡ xs → e ≤ n → e ≤ length xs → take e (take n ((take e ys ++ zs) ++ ws)) ≡ take e xs
front_kept e n xs ys zs ws same h g =
    let all = (take e xs ++ zs) ++ ws in
    let s : n ≡ e + (n - e) = omega arith in
    let l : length (take e xs) ≡ e = length-take-le e xs g in
    let first : take e all ≡ take e xs = ap (take e) (append_assoc (take e xs) zs ws) ∙ take_at (take e xs) (zs ++ ws) e l in
    ap (λ (v : List ℕ). take e (take n ((take e v ++ zs) ++ ws))) same
    ∙ ap (λ (k : ℕ). take e (take k all)) s
    ∙ ap (take e) (take-add e (n - e) all)
    ∙ take_at (take e all) (take (n - e) (drop e all)) e (ap length first ∙ l)
    ∙ first

-- the buffer was made longer
pub grown_kept : (i e n : ℕ) (xs ys zs : List ℕ) → ys ≡ take n xs ++ zs → length xs ≤ n → e ≤ length xs → between i e ys ≡ between i e xs
grown_kept i e n xs ys zs is h g =
    same_front i e xs ys (ap (take e) (is ∙ ap (λ (v : List ℕ). v ++ zs) (take_all n xs h)) ∙ take-append-le e xs zs g)

-- what is unread was moved to the front
pub moved_kept : (i e : ℕ) (xs ys : List ℕ) → ys ≡ paste xs 0 (drop i xs) (e - i) → i ≤ e → e ≤ length xs → between 0 (e - i) ys ≡ between i e xs
moved_kept i e xs ys is h g =
    let z : (e - i) - 0 ≡ e - i = omega arith in
    ap (λ (v : List ℕ). between 0 (e - i) v) is
    ∙ ap (λ (k : ℕ). take k (paste xs 0 (drop i xs) (e - i))) z
    ∙ take_at (take (e - i) (drop i xs)) (drop (0 + (e - i)) xs) (e - i) (long i e xs h g)

-- a request is taken: a header, and as many bytes as it says
pub take_request : (before : List ℕ) (h : Header) (xs : List ℕ) (at end : ℕ) (ys : List ℕ)
    → Longer before xs
    → HeaderOf xs h
    → Longer xs (between at end ys)
    → at + (8 + h.count) ≤ end
    → end ≤ length ys
    → Taken before ys (at + 8) (at + 8 + h.count) end h
take_request before h xs at end ys one head two there within =
    let cut : between at end ys ≡ between at (at + 8) ys ++ between (at + 8) end ys = split at (at + 8) end ys (omega arith) (omega arith) in
    let eight : length (between at (at + 8) ys) ≡ 8 = long at (at + 8) ys (omega arith) (omega arith) ∙ (let e : at + 8 - at ≡ 8 = omega arith in e) in
    record {
      at = at;
      behind = refl;
      header_is =
          sym (take_at (between at (at + 8) ys) (between (at + 8) end ys) 8 eight)
          ∙ ap (take 8) (sym cut ∙ two.is)
          ∙ take-append-le 8 xs two.arrived head.within
          ∙ head.is;
      as_many = refl;
      flows = more_and_more before xs (between at end ys) one two;
    }

-- nothing is unread, and nothing was
pub all_taken : (before : List ℕ) (from end : ℕ) (xs : List ℕ) → from ≡ end → Longer before (between from end xs) → (before ≡ []) × (between from end xs ≡ [])
all_taken before from end xs same l =
    let z : end - from ≡ 0 = omega arith in
    let none : between from end xs ≡ [] = ap (λ (k : ℕ). take k (drop from xs)) z in
    let k : length before + length l.arrived ≡ 0 = sym (length-append before l.arrived) ∙ ap length (sym l.is ∙ none) in
    (none_of before (omega arith), none)
