-- Codings made of others: one thing and then what it announces. Reading, getting stuck and one way only, from those of the parts.
use Rattle.std.specs.Prelude.{◌≡◌, ℕ, ◌+◌, ◌-◌, ◌^◌, ◌<◌, ◌≤◌, true, List, [], ◌∷◌, ◌++◌, length, take, drop, replicate, ◌≢◌, slice_index, refl}
use Rattle.std.proofs.Common.{sym, ap, ap₂, subst, ◌∙◌, arith, length-append, length-drop, take-add, length-take-le}
use Rattle.std.proofs.lemmas.List.{append_assoc, append-nil, take_all, length-replicate}
use Rattle.query.specs.Types.{bytes}
use Rattle.format.specs.Coding.{Coding, le, number, tag, raw, name, writes, many, counted, both_of}
use Rattle.format.specs.Reading.{Begins, NoneInFront, Stuck, OneWay, NotWhole, Garbled, OnePlace}
use Rattle.format.specs.Lists.{append_same, split_at, bytes_first, bytes_take, bytes_append, bytes_zeros}
use Rattle.format.specs.Bytes.{length_le, le_same, pad}

-- a thing of C is a thing of A and then one of B
pub record Out (C A : Coding) (B : A.T → Coding) (make : (a : A.T) → (B a).T → C.T) (c : C.T) : Type 0 where
  pub a : A.T
  pub b : (B a).T
  pub a_fits : A.Fits a
  pub b_fits : (B a).Fits b
  pub is : c ≡ make a b

pub record Splits (C A : Coding) (B : A.T → Coding) : Type 0 where
  pub make : (a : A.T) → (B a).T → C.T
  pub fits : (a : A.T) (b : (B a).T) → A.Fits a → (B a).Fits b → C.Fits (make a b)
  pub written : (a : A.T) (b : (B a).T) → A.Fits a → (B a).Fits b → C.write (make a b) ≡ A.write a ++ (B a).write b
  pub out : (c : C.T) → C.Fits c → Out C A B make c

module _ (C A : Coding) (B : A.T → Coding) (s : Splits C A B) where
  pub begins_both : (xs : List ℕ) (e f : ℕ) (a : A.T) (b : (B a).T) → Begins A xs e a → Begins (B a) (drop e xs) f b → Begins C xs (e + f) (s.make a b)
  begins_both xs e f a b p q =
      record {
        within = omega (arith, p.within, q.within, length-drop e xs);
        fits = s.fits a b p.fits q.fits;
        is = take-add e f xs ∙ ap₂ (λ (u : List ℕ) (v : List ℕ). u ++ v) p.is q.is ∙ sym (s.written a b p.fits q.fits);
      }

  written_out : (c : C.T) (f : C.Fits c) (rest : List ℕ) → C.write c ++ rest ≡ A.write (s.out c f).a ++ ((B (s.out c f).a).write (s.out c f).b ++ rest)
  written_out c f rest =
      let o = s.out c f in
      ap (λ (v : C.T). C.write v ++ rest) o.is
      ∙ ap (λ (v : List ℕ). v ++ rest) (s.written o.a o.b o.a_fits o.b_fits)
      ∙ append_assoc (A.write o.a) ((B o.a).write o.b) rest

  none_first : (xs : List ℕ) → NoneInFront A xs → NoneInFront C xs
  none_first xs h c rest f e = h (s.out c f).a _ (s.out c f).a_fits (e ∙ written_out c f rest)

  none_second : (a : A.T) (zs : List ℕ) → OneWay A → A.Fits a → NoneInFront (B a) zs → NoneInFront C (A.write a ++ zs)
  none_second a zs way fa h c rest f e =
      let o = s.out c f in
      let w = way a o.a zs ((B o.a).write o.b ++ rest) fa o.a_fits (e ∙ written_out c f rest) in
      go o.a w.0 o.b o.b_fits w.1
    where
      go : (a' : A.T) → a ≡ a' → (b : (B a').T) → (B a').Fits b → zs ≢ (B a').write b ++ rest
      go a' p = subst (λ (v : A.T). (b : (B v).T) → (B v).Fits b → zs ≢ (B v).write b ++ rest) p (λ b fb q. h b rest fb q)

  pub stuck_first : (xs : List ℕ) (p : ℕ) → ((a : A.T) → A.Fits a → (b : (B a).T) × (B a).Fits b) → Stuck A xs p → Stuck C xs p
  stuck_first xs p some t =
      let b = some t.thing t.fits in
      record {
        within = t.within;
        rest = t.rest ++ (B t.thing).write b.0;
        thing = s.make t.thing b.0;
        fits = s.fits t.thing b.0 t.fits b.1;
        goes_on =
            sym (append_assoc (take p xs) t.rest ((B t.thing).write b.0)) ∙ ap (λ (v : List ℕ). v ++ (B t.thing).write b.0) t.goes_on
            ∙ sym (s.written t.thing b.0 t.fits b.1);
        absent = none_first xs t.absent;
        wrong = λ h ys. none_first (take (p + 1) xs ++ ys) (t.wrong h ys);
      }

  pub stuck_second : (xs : List ℕ) (e p : ℕ) (a : A.T) → OneWay A → Begins A xs e a → Stuck (B a) (drop e xs) p → Stuck C xs (e + p)
  stuck_second xs e p a way g t =
      let front : (n : ℕ) (ys : List ℕ) → take (e + n) xs ++ ys ≡ A.write a ++ (take n (drop e xs) ++ ys)
      = λ n ys. ap (λ (v : List ℕ). v ++ ys) (take-add e n xs ∙ ap (λ (v : List ℕ). v ++ take n (drop e xs)) g.is) ∙ append_assoc (A.write a) (take n (drop e xs)) ys in
      record {
        within = omega (arith, g.within, t.within, length-drop e xs);
        rest = t.rest;
        thing = s.make a t.thing;
        fits = s.fits a t.thing g.fits t.fits;
        goes_on = front p t.rest ∙ ap (λ (v : List ℕ). A.write a ++ v) t.goes_on ∙ sym (s.written a t.thing g.fits t.fits);
        absent = subst (λ (v : List ℕ). NoneInFront C v) (sym (split_at e xs (A.write a) g.is)) (none_second a (drop e xs) way g.fits t.absent);
        wrong = λ h ys.
            let l : p < length (drop e xs) = omega (arith, length-drop e xs) in
            let m : (e + p) + 1 ≡ e + (p + 1) = omega arith in
            subst (λ (v : List ℕ). NoneInFront C v) (sym (ap (λ (n : ℕ). take n xs ++ ys) m ∙ front (p + 1) ys)) (none_second a (take (p + 1) (drop e xs) ++ ys) way g.fits (t.wrong l ys));
      }

  pub way_both : OneWay A → ((a : A.T) → OneWay (B a)) → OneWay C
  way_both wa wb x y xs ys f g e =
      let o = s.out x f in
      let q = s.out y g in
      let r : A.write o.a ++ ((B o.a).write o.b ++ xs) ≡ A.write q.a ++ ((B q.a).write q.b ++ ys) = sym (written_out x f xs) ∙ e ∙ written_out y g ys in
      let w = wa o.a q.a _ _ o.a_fits q.a_fits r in
      let z = go o.a o.b o.b_fits q.a w.0 q.b q.b_fits w.1 in
      (o.is ∙ z.0 ∙ sym q.is, z.1)
    where
      go : (a : A.T) (b : (B a).T) → (B a).Fits b → (a' : A.T) → a ≡ a' → (b' : (B a').T) → (B a').Fits b' → (B a).write b ++ xs ≡ (B a').write b' ++ ys → (s.make a b ≡ s.make a' b') × (xs ≡ ys)
      go a b fb a' p =
          subst (λ (v : A.T). (b' : (B v).T) → (B v).Fits b' → (B a).write b ++ xs ≡ (B v).write b' ++ ys → (s.make a b ≡ s.make v b') × (xs ≡ ys)) p
          (λ b' fb' q. let w = wb a b b' xs ys fb fb' q in (ap (s.make a) w.0, w.1))

-- numbers
pub number_way : (w : ℕ) → OneWay (number w)
number_way w m n xs ys f g e =
    let r = append_same (le w m) (le w n) xs ys (length_le w m ∙ sym (length_le w n)) e in
    (le_same w m n f g r.0, r.1)

pub number_stuck : (w : ℕ) (xs : List ℕ) → bytes xs ≡ true → length xs < w → Stuck (number w) xs (length xs)
number_stuck w xs b h =
    let q = pad w xs (omega arith) b in
    record {
      within = omega arith;
      rest = q.rest;
      thing = q.n;
      fits = q.fits;
      goes_on = ap (λ (v : List ℕ). v ++ q.rest) (take_all (length xs) xs (omega arith)) ∙ q.is;
      absent = λ n rest f e. omega (arith, ap length e ∙ length-append (le w n) rest, length_le w n);
      wrong = λ l ys. absurd (omega arith);
    }

-- tags
pub tag_way : OneWay tag
tag_way s t xs ys f g e = let h : s ≡ t = cc in let r : xs ≡ ys = cc in (h, r)

pub tag_begins : (xs : List ℕ) (t : ℕ) → 0 < length xs → bytes xs ≡ true → slice_index xs 0 ≡ t → Begins tag xs 1 t
tag_begins [] t l b e = absurd (omega arith)
tag_begins (x ∷ xs) t l b e = let h : x < 256 = (bytes_first x xs b).0 in record { within = omega arith; fits = omega (arith, e); is = ap (λ (v : ℕ). v ∷ []) e }

pub tag_stuck : (xs : List ℕ) → xs ≡ [] → Stuck tag xs 0
tag_stuck xs z =
    record {
      within = omega arith;
      rest = 0 ∷ [];
      thing = 0;
      fits = omega arith;
      goes_on = refl;
      absent = λ t rest f e. omega (arith, sym (ap length z) ∙ ap length e);
      wrong = λ l ys. absurd (omega (arith, ap length z));
    }

-- so many bytes
pub raw_way : (k : ℕ) → OneWay (raw k)
raw_way k u v xs ys f g e = append_same u v xs ys (f.0 ∙ sym g.0) e

pub raw_begins : (k : ℕ) (xs : List ℕ) → bytes xs ≡ true → k ≤ length xs → Begins (raw k) xs k (take k xs)
raw_begins k xs b h = record { within = h; fits = (length-take-le k xs h, bytes_take k xs b); is = refl }

pub raw_stuck : (k : ℕ) (xs : List ℕ) → bytes xs ≡ true → length xs < k → Stuck (raw k) xs (length xs)
raw_stuck k xs b h =
    let zs : List ℕ = replicate (k - length xs) 0 in
    record {
      within = omega arith;
      rest = zs;
      thing = xs ++ zs;
      fits = (let l : length xs + length zs ≡ k = omega (arith, length-replicate {A = ℕ} (k - length xs) 0) in length-append xs zs ∙ l, bytes_append xs zs b (bytes_zeros (k - length xs)));
      goes_on = ap (λ (v : List ℕ). v ++ zs) (take_all (length xs) xs (omega arith));
      absent = λ t rest f e. omega (arith, ap length e ∙ length-append t rest, f.0);
      wrong = λ l ys. absurd (omega arith);
    }

pub raw_some : (k : ℕ) → (t : List ℕ) × (raw k).Fits t
raw_some k = (replicate k 0, (length-replicate {A = ℕ} k 0, bytes_zeros k))

-- a name is its length and as many bytes
abbrev pub name_splits : Splits name (number 4) raw
name_splits =
    record {
      make = λ k t. t;
      fits = λ k t f g. (subst (λ (v : ℕ). v < 2 ^ 32) (sym g.0) f, g.1);
      written = λ k t f g. ap (λ (v : ℕ). le 4 v ++ t) g.0;
      out = λ n f. record { a = length n; b = n; a_fits = f.0; b_fits = (refl, f.1); is = refl };
    }

pub name_way : OneWay name
name_way = way_both name (number 4) raw name_splits (number_way 4) raw_way

-- a counted run is its count and as many
abbrev pub counted_splits : (S : Coding) → Splits (counted S) (number 4) (λ k. many S k)
counted_splits S =
    record {
      make = λ k xs. xs;
      fits = λ k xs f g. (subst (λ (v : ℕ). v < 2 ^ 32) (sym g.0) f, g.1);
      written = λ k xs f g. ap (λ (v : ℕ). le 4 v ++ writes S xs) g.0;
      out = λ xs f. record { a = length xs; b = xs; a_fits = f.0; b_fits = (refl, f.1); is = refl };
    }

-- one thing and then another
abbrev pub both_splits : (A B : Coding) → Splits (both_of A B) A (λ a. B)
both_splits A B = record { make = λ a b. (a, b); fits = λ a b f g. (f, g); written = λ a b f g. refl; out = λ p f. record { a = p.0; b = p.1; a_fits = f.0; b_fits = f.1; is = refl } }

-- all of the bytes are one thing, or they are garbled
pub garbled_stuck : (S : Coding) (xs : List ℕ) (p : ℕ) → Stuck S xs p → Garbled S xs p
garbled_stuck S xs p t =
    record {
      within = t.within;
      rest = t.rest;
      goes_on = record { thing = t.thing; fits = t.fits; is = t.goes_on };
      not_whole = λ x f e. t.absent x [] f (e ∙ sym (append-nil (S.write x)));
      wrong = λ h ys x f e. t.wrong h ys x [] f (e ∙ sym (append-nil (S.write x)));
    }

-- something stands after one thing
pub garbled_after : (S : Coding) (xs : List ℕ) (e : ℕ) (x : S.T) → OneWay S → Begins S xs e x → e < length xs → Garbled S xs e
garbled_after S xs e x way b h =
    let more_after : (zs ys : List ℕ) → zs ≡ S.write x ++ ys → 0 < length ys → NotWhole S zs
    = λ zs ys q l y f r. let w = way x y ys [] b.fits f (sym q ∙ r ∙ sym (append-nil (S.write y))) in omega (arith, ap length w.1) in
    record {
      within = b.within;
      rest = [];
      goes_on = record { thing = x; fits = b.fits; is = append-nil (take e xs) ∙ b.is };
      not_whole = more_after xs (drop e xs) (split_at e xs (S.write x) b.is) (omega (arith, length-drop e xs));
      wrong = λ l ys.
          more_after (take (e + 1) xs ++ ys) (take 1 (drop e xs) ++ ys)
          (ap (λ (v : List ℕ). v ++ ys) (take-add e 1 xs ∙ ap (λ (v : List ℕ). v ++ take 1 (drop e xs)) b.is) ∙ append_assoc (S.write x) (take 1 (drop e xs)) ys)
          (let n : length (take 1 (drop e xs)) ≡ 1 = length-take-le 1 (drop e xs) (omega (arith, length-drop e xs)) in omega (arith, length-append (take 1 (drop e xs)) ys));
    }

-- at most one place
one_place_below : (S : Coding) (xs : List ℕ) (p q : ℕ) → Garbled S xs p → Garbled S xs q → p < q → ⊥
one_place_below S xs p q g h l =
    let w = h.goes_on in
    let z : (p + 1) + (q - (p + 1)) ≡ q = omega arith in
    g.wrong (omega (arith, h.within)) (take (q - (p + 1)) (drop (p + 1) xs) ++ h.rest) w.thing w.fits
    (sym (append_assoc (take (p + 1) xs) (take (q - (p + 1)) (drop (p + 1) xs)) h.rest) ∙ ap (λ (v : List ℕ). v ++ h.rest) (sym (take-add (p + 1) (q - (p + 1)) xs) ∙ ap (λ (n : ℕ). take n xs) z) ∙ w.is)

pub one_place : (S : Coding) → OnePlace S
one_place S xs p q g h = omega (arith, λ (l : p < q). one_place_below S xs p q g h l, λ (l : q < p). one_place_below S xs q p h g l)
