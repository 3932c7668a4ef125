-- Names one after the other, of which each comes before the next.
use Rattle.std.proofs.Common.{◌≡◌, ℕ, ◌+◌, ◌-◌, ◌<◌, ◌≤◌, Bool, true, false, ◌&&◌, List, [], ◌∷◌, ◌++◌, length, take, drop, Some, None, sym, refl, ap, ◌∙◌, ap₂, arith, length-append}
use Rattle.std.proofs.lemmas.List.{append_assoc, drop-drop}
use Rattle.query.specs.Data.{Name, less_text}
use Rattle.format.specs.Coding.{le, number, name, writes, AllFit, counted}
use Rattle.format.specs.Reading.{Begins, ReadAs, Stuck}
use Rattle.format.specs.Lists.{from, from_drop, split_at, front_of}
use Rattle.format.specs.Bytes.{length_le}
use Rattle.format.specs.Codings.{name_way}
use Rattle.parts.specs.Orders.{rising, RiseInFront, NamesTold}
use Rattle.parts.proofs.Walk.{from_length, drop_front, drop_first}
use Rattle.parts.proofs.Naming.{after_count}

-- the bytes of a name that stands in front
name_bytes : (xs p rest : List ℕ) (k : ℕ) → xs ≡ name.write p ++ rest → k ≡ length p → take k (drop 4 xs) ≡ p
name_bytes xs p rest k q l =
    let d : drop 4 xs ≡ p ++ rest = drop_front 4 xs (le 4 (length p)) (p ++ rest) (q ∙ append_assoc (le 4 (length p)) p rest) (sym (length_le 4 (length p))) in
    ap₂ (λ (i : ℕ) (v : List ℕ). take i v) l d ∙ front_of p rest

name_same : (xs : List ℕ) (m : ℕ) → ReadAs name xs (4 + m) (λ t. length t ≡ m) → (p : Name) (rest : List ℕ) → name.Fits p → xs ≡ name.write p ++ rest → (length p ≡ m) × (drop (4 + m) xs ≡ rest)
name_same xs m r p rest f q =
    let w = name_way r.thing p (drop (4 + m) xs) rest r.begins.fits f (sym (split_at (4 + m) xs (name.write r.thing) r.begins.is) ∙ q) in
    (sym (ap length w.0) ∙ r.says, w.1)

module _ (xs : List ℕ) (m : ℕ) (r : ReadAs name xs (4 + m) (λ t. length t ≡ m)) where
  pub rise_cut : (p : ℕ) → Stuck name (from (4 + m) xs) p → RiseInFront xs None
  rise_cut p t = record { rises = λ a b rest f g q. absurd (t.absent b rest g (from_drop (4 + m) xs ∙ (name_same xs m r a (name.write b ++ rest) f q).1)); within = tt }

  module _ (n : ℕ) (s : ReadAs name (from (4 + m) xs) (4 + n) (λ t. length t ≡ n)) where
    compared : (a b : Name) (rest : List ℕ) → name.Fits a → name.Fits b → xs ≡ name.write a ++ (name.write b ++ rest)
        → (length a ≡ m) × (less_text (take (4 + m - 4) (drop 4 xs)) (take (8 + m + n - (8 + m)) (drop (8 + m) xs)) ≡ less_text a b)
    compared a b rest f g q =
        let k = name_same xs m r a (name.write b ++ rest) f q in
        let j = name_same (from (4 + m) xs) n s b rest g (from_drop (4 + m) xs ∙ k.1) in
        let u : take (4 + m - 4) (drop 4 xs) ≡ a = name_bytes xs a (name.write b ++ rest) (4 + m - 4) q (omega (arith, k.0)) in
        let e : (4 + m) + 4 ≡ 8 + m = omega arith in
        let d : drop (8 + m) xs ≡ drop 4 (drop (4 + m) xs) = ap (λ (i : ℕ). drop i xs) (sym e) ∙ sym (drop-drop 4 (4 + m) xs) in
        let v : take (8 + m + n - (8 + m)) (drop (8 + m) xs) ≡ b = ap (λ (w : List ℕ). take (8 + m + n - (8 + m)) w) d ∙ name_bytes (drop (4 + m) xs) b rest (8 + m + n - (8 + m)) k.1 (omega (arith, j.0)) in
        (k.0, ap₂ (λ (i : List ℕ) (l : List ℕ). less_text i l) u v)

    pub rise_yes : less_text (take (4 + m - 4) (drop 4 xs)) (take (8 + m + n - (8 + m)) (drop (8 + m) xs)) ≡ true → RiseInFront xs (Some (4 + m))
    rise_yes y =
        record {
          rises = λ a b rest f g q. let k = compared a b rest f g q in (sym k.1 ∙ y, (let e : 4 + m ≡ length (name.write a) = omega (arith, k.0, length-append (le 4 (length a)) a, length_le 4 (length a)) in e));
          within = r.begins.within;
        }

    pub rise_no : less_text (take (4 + m - 4) (drop 4 xs)) (take (8 + m + n - (8 + m)) (drop (8 + m) xs)) ≡ false → RiseInFront xs None
    rise_no y = record { rises = λ a b rest f g q. sym (compared a b rest f g q).1 ∙ y; within = tt }

-- what is left of the names, with the last that was looked at
pub record NamesLeft (count : ℕ) (xs : List ℕ) (i at : ℕ) (ns : List Name) (rest : List ℕ) : Type 0 where
  pub those : List Name
  pub how_many : length those + i ≡ count + 1
  pub fits : AllFit name those
  pub after : drop at xs ≡ writes name those ++ rest
  pub rising_is : rising those ≡ rising ns

pub record Climbed (count : ℕ) (xs : List ℕ) (i at : ℕ) : Type 0 where
  pub within : at ≤ length xs
  pub left : (ns : List Name) (rest : List ℕ) → (counted name).Fits ns → xs ≡ (counted name).write ns ++ rest → NamesLeft count xs i at ns rest

pub climb_start : (count : ℕ) (xs : List ℕ) → Begins (number 4) xs 4 count → Climbed count xs 1 4
climb_start count xs b =
    record {
      within = b.within;
      left = λ ns rest f q.
          let a = after_count name xs count b ns rest f q in
          record { those = ns; how_many = (let e : length ns + 1 ≡ count + 1 = omega (arith, a.0) in e); fits = f.1; after = a.1; rising_is = refl };
    }

and_true : (a b : Bool) → a ≡ true → b ≡ a && b
and_true true b e = refl
and_true false b e = absurd (let z : ◌≡◌ {A = ℕ} 0 1 = cc in omega arith)

and_false : (a b : Bool) → a ≡ false → false ≡ a && b
and_false true b e = absurd (let z : ◌≡◌ {A = ℕ} 0 1 = cc in omega arith)
and_false false b e = refl

module _ (count : ℕ) (xs : List ℕ) (i at : ℕ) (c : Climbed count xs i at) where
  two : (m n : Name) (those : List Name) (rest : List ℕ) → drop at xs ≡ writes name (m ∷ n ∷ those) ++ rest → from at xs ≡ name.write m ++ (name.write n ++ (writes name those ++ rest))
  two m n those rest q =
      from_drop at xs ∙ q ∙ append_assoc (name.write m) (name.write n ++ writes name those) rest ∙ ap (λ (v : List ℕ). name.write m ++ v) (append_assoc (name.write n) (writes name those) rest)

  on : (e : ℕ) (ns : List Name) (rest : List ℕ) → i < count → RiseInFront (from at xs) (Some e) → (those : List Name) → length those + i ≡ count + 1 → AllFit name those → drop at xs ≡ writes name those ++ rest → rising those ≡ rising ns
      → NamesLeft count xs (i + 1) (at + e) ns rest
  on e ns rest h r [] m f q s = absurd (omega (arith, m))
  on e ns rest h r (a ∷ []) m f q s = absurd (omega (arith, m))
  on e ns rest h r (a ∷ b ∷ those) m f q s =
      let k = r.rises a b (writes name those ++ rest) f.0 f.1.0 (two a b those rest q) in
      record {
        those = b ∷ those;
        how_many = (let m' : length (b ∷ those) + (i + 1) ≡ count + 1 = omega (arith, m) in m');
        fits = f.1;
        after = drop_first at e xs (name.write a) (writes name (b ∷ those) ++ rest) (q ∙ append_assoc (name.write a) (writes name (b ∷ those)) rest) k.1;
        rising_is = and_true (less_text a b) (rising (b ∷ those)) k.0 ∙ s;
      }

  pub climb_more : (e : ℕ) → i < count → RiseInFront (from at xs) (Some e) → Climbed count xs (i + 1) (at + e)
  climb_more e h r =
      record {
        within = omega (arith, c.within, r.within, from_length at xs);
        left = λ ns rest f q. let l = c.left ns rest f q in on e ns rest h r l.those l.how_many l.fits l.after l.rising_is;
      }

  falls : (rest : List ℕ) → i < count → RiseInFront (from at xs) None → (those : List Name) → length those + i ≡ count + 1 → AllFit name those → drop at xs ≡ writes name those ++ rest → false ≡ rising those
  falls rest h r [] m f q = absurd (omega (arith, m))
  falls rest h r (a ∷ []) m f q = absurd (omega (arith, m))
  falls rest h r (a ∷ b ∷ those) m f q = and_false (less_text a b) (rising (b ∷ those)) (r.rises a b (writes name those ++ rest) f.0 f.1.0 (two a b those rest q))

  pub climb_fails : i < count → RiseInFront (from at xs) None → NamesTold xs false
  climb_fails h r ns rest f q = let l = c.left ns rest f q in falls rest h r l.those l.how_many l.fits l.after ∙ l.rising_is

  last : (those : List Name) → count ≤ i → length those + i ≡ count + 1 → true ≡ rising those
  last [] h m = refl
  last (a ∷ []) h m = refl
  last (a ∷ b ∷ those) h m = absurd (omega (arith, m))

  pub climb_done : count ≤ i → NamesTold xs true
  climb_done h ns rest f q = let l = c.left ns rest f q in last l.those h l.how_many ∙ l.rising_is
