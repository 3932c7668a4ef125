-- Numbers at the front of others, written one after another.
use Rattle.std.proofs.Common.{◌≡◌, ℕ, zero, suc, ◌+◌, ◌-◌, ◌/◌, ◌%◌, ◌^◌, ◌<◌, ◌≤◌, List, [], ◌∷◌, ◌++◌, length, get_or, take, drop, set, Some, None, sym, refl, ap, ◌∙◌, subst, ap₂, arith, length-append, length-drop, length-set, length-take-le, take_at, take-add, drop_at, pow-suc}
use Rattle.std.specs.Int.{w64, bytes_low_first, to_le_bytes}
use Rattle.std.proofs.Math.Nat.{div-div-eq-div-mul}
use lib.Seq.{take-append-le}
use borrow.Rule.Slice.PartMut.{put_mid}
use Rattle.std.proofs.lemmas.List.{take_more, take_more_set, take_rest, take_all}
use Rattle.format.specs.Coding.{le, name}
use Rattle.format.specs.Bytes.{length_le}
use Rattle.values.specs.Memory.{Spelled}
use Rattle.values.specs.declared.value.Place.{Place}
use Rattle.writing.specs.Puts.{BeginsWith, PutsName}

-- the bytes that the library makes of a number are those of the format
le_low : (w i n m : ℕ) → m ≡ n / 256 ^ i → bytes_low_first i w n ≡ le w m
unfolding le
le_low zero i n m e = refl
le_low (suc w) zero n m e = ap₂ (λ (x : ℕ) (ys : List ℕ). x ∷ ys) (omega (arith, e)) (le_low w 1 n (m / 256) (omega (arith, e)))
le_low (suc w) (suc i) n m e =
    let s : m / 256 ≡ n / 256 ^ suc (suc i) = ap (λ (v : ℕ). v / 256) e ∙ div-div-eq-div-mul n (256 ^ suc i) 256 ∙ ap (λ (v : ℕ). n / v) (sym (pow-suc 256 (suc i))) in
    ap₂ (λ (x : ℕ) (ys : List ℕ). x ∷ ys) (ap (λ (v : ℕ). v % 256) (sym e)) (le_low w (suc (suc i)) n (m / 256) s)

pub le_8 : (n : ℕ) → to_le_bytes w64 n ≡ le 8 n
le_8 n = le_low 8 0 n n (omega arith)

pub le_4 : (n : ℕ) → take 4 (to_le_bytes w64 n) ≡ le 4 n
le_4 n = le_low 4 0 n n (omega arith)

-- what is written to the part from n on stands after the first n
pub part_front : (out part : List ℕ) (n k e : ℕ) → n ≤ length out → e ≤ length part → take (n + e) (put_mid n k out part) ≡ take n out ++ take e part
part_front out part n k e l m =
    let p = length-take-le n out l in
    let x = put_mid n k out part in
    take-add n e x
    ∙ ap₂ (λ (u : List ℕ) (v : List ℕ). u ++ take e v) (take_at (take n out) _ n p) (drop_at (take n out) _ n p)
    ∙ ap (λ v. take n out ++ v) (take-append-le e part _ m)

-- one thing, and then another in the part that is left
module _ (us vs a b part : List ℕ) (n : ℕ) (long : length b ≡ length a) (f : BeginsWith us a b n) where
  rest_long : length (take (length b - n) (drop n b)) ≡ length a - n
  rest_long = ap length (take_rest b n) ∙ length-drop n b ∙ ap (λ v. v - n) long

  pub then_put : (k e : ℕ) → length part ≡ length (take (length b - n) (drop n b)) → BeginsWith vs (take (length b - n) (drop n b)) part e → BeginsWith (us ++ vs) a (put_mid n k b part) (n + e)
  then_put k e lp g =
      record {
        end = omega (arith, f.end, g.end, length-append us vs);
        within = omega (arith, f.within, g.within, rest_long);
        is = part_front b part n k e (omega (arith, f.within)) (omega (arith, g.within)) ∙ ap₂ (λ (u : List ℕ) (v : List ℕ). u ++ v) f.is g.is;
      }

  pub then_none : length (take (length b - n) (drop n b)) < length vs → length a < length (us ++ vs)
  then_none h = omega (arith, f.end, f.within, rest_long, length-append us vs)

pub none_first : (us vs a : List ℕ) → length a < length us → length a < length (us ++ vs)
none_first us vs a h = omega (arith, length-append us vs)

-- a copy, cell by cell
pub copy_more : (out t : List ℕ) (i : ℕ) → i < length t → length t ≤ length out → take i out ≡ take i t → take (i + 1) (set out i (get_or t i 0)) ≡ take (i + 1) t
copy_more out t i lt l e = take_more_set out i (get_or t i 0) (omega arith) ∙ ap (λ v. v ++ (get_or t i 0 ∷ [])) e ∙ sym (take_more t i 0 lt)

pub copy_all : (out t : List ℕ) (i : ℕ) → i ≡ length t → take i out ≡ take i t → take (length t) out ≡ t
copy_all out t i q e = ap (λ v. take v out) (sym q) ∙ e ∙ take_all i t (omega arith)

-- a name
pub spelled_long : {bs t : List ℕ} {start count : ℕ} → Spelled bs t start count → length t ≡ count
spelled_long {bs} {t} {start} {count} s = ap length s.is ∙ length-take-le count (drop start bs) (omega (arith, s.within, length-drop start bs))

module _ (bs : List ℕ) (p : Place) (was : List ℕ) where
  pub name_no_room : (now : List ℕ) → length was < 4 + p.count → PutsName bs p was now None
  name_no_room now l = record { means = λ t s. omega (arith, spelled_long s, length-append (le 4 (length t)) t, length_le 4 (length t)) }

  pub name_put : (nm b part : List ℕ) (k : ℕ) → Spelled bs nm p.start p.count → length b ≡ length was → 4 + length nm ≤ length was → take 4 b ≡ take 4 (to_le_bytes w64 (length nm))
      → length part ≡ length (take (length b - 4) (drop 4 b)) → take (length nm) part ≡ nm → PutsName bs p was (put_mid 4 k b part) (Some (4 + length nm))
  name_put nm b part k x long room first lp second = record {
    means = λ t s.
        let q : nm ≡ t = x.is ∙ sym s.is in
        let y = then_put (le 4 (length nm)) nm was b part 4 long (record { end = sym (length_le 4 (length nm)); within = omega arith; is = first ∙ le_4 (length nm) }) k (length nm) lp
        (record { end = refl; within = omega (arith, ap length (take_rest b 4), length-drop 4 b); is = second }) in
        subst (λ v. BeginsWith (name.write v) was (put_mid 4 k b part) (4 + length nm)) q y;
  }

one_put : (a : List ℕ) (tag : ℕ) → 1 ≤ length a → BeginsWith (tag ∷ []) a (set a 0 tag) 1
one_put a tag l = record { end = refl; within = l; is = take_more_set a 0 tag (omega arith) }

pub tagged_put : (a part t : List ℕ) (tag k : ℕ) → 1 + length t ≤ length a → length part ≡ length (take (length (set a 0 tag) - 1) (drop 1 (set a 0 tag))) → take (length t) part ≡ t → BeginsWith (tag ∷ t) a (put_mid 1 k (set a 0 tag) part) (1 + length t)
tagged_put a part t tag k l lp e =
    let s = length-set a 0 tag in
    then_put (tag ∷ []) t a (set a 0 tag) part 1 s (one_put a tag (omega arith)) k (length t) lp
    (record { end = refl; within = omega (arith, ap length (take_rest (set a 0 tag) 1), length-drop 1 (set a 0 tag)); is = e })

-- the whole is as long as it was after a part was written to
pub part_long : (b part : List ℕ) (n : ℕ) → n ≤ length b → length part ≡ length (take (length b - n) (drop n b)) → length (put_mid n (length b - n) b part) ≡ length b
part_long b part n l e =
    omega (arith, length-append (take n b) (part ++ drop (length b - n) (drop n b)), length-append part (drop (length b - n) (drop n b)), length-take-le n b l, ap length (take_rest b n), length-drop n b, length-drop (length b - n) (drop n b))

pub part_lent : (a b part : List ℕ) (n : ℕ) → length b ≡ length a → n ≤ length a → length part ≡ length (take (length b - n) (drop n b)) → length (put_mid n (length b - n) b part) ≡ length a
part_lent a b part n long l e = part_long b part n (omega arith) e ∙ long
