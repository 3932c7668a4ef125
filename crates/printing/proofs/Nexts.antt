-- The next part of what is open, and the closing of what has no more parts.
use Rattle.std.proofs.Common.{◌≡◌, ℕ, suc, ◌-◌, ◌<◌, ◌≤◌, Bool, true, false, List, [], ◌∷◌, ◌++◌, length, drop, Some, None, sym, refl, ap, ◌∙◌, subst, ap₂, append_assoc, append-nil, arith, length-append}
use Rattle.query.specs.Data.{Data, Datas, none, more, Fields, no_field, field, how_many}
use Rattle.format.specs.Coding.{le, name, writes, AllFit}
use Rattle.format.specs.Wire.{names, write_data, write_datas, write_values, FitsData, FitsDatas, FitsValues}
use Rattle.printing.specs.declared.datum.Whole.{Whole}
use Rattle.printing.specs.declared.datum.Whole.TheVariants.{Bag, Record, Side}
use Rattle.printing.specs.declared.datum.Open.{Open}
use Rattle.printing.specs.Texts.{bytes_quoted}
use Rattle.printing.specs.Datums.{comma, text_of, things_text, fields_text}
use Rattle.printing.specs.Opens.{closing_of, ThingsLeft, FieldsLeft, LeftOf, Stands, all_closed, one_open, Still, TextShown, Next, Fronted, Between}

-- things: the next one, and the others
of_things : (close left : ℕ) (begun : Bool) (bytes all out out' : List ℕ) (ds : Datas)
    → FitsDatas ds
    → how_many ds ≡ suc left
    → bytes ≡ write_datas ds
    → all ≡ things_text begun ds ++ (close ∷ [])
    → out' ≡ out ++ comma begun
    → Next (λ bs ts. ThingsLeft close left true bs ts) bytes all out out'
unfolding how_many write_datas things_text FitsDatas
of_things close left begun bytes all out out' none f m b t shown = absurd (let z : 0 ≡ suc left = m in omega arith)
of_things close left begun bytes all out out' (more d ds) f m b t shown =
    let m' : suc (how_many ds) ≡ suc left = m in
    let rest = things_text true ds ++ (close ∷ []) in
    record {
      d = d;
      fits = f.0;
      bs = write_datas ds;
      ts = rest;
      part = record { ds = ds; fits = f.1; many = omega arith; bytes_are = refl; text_is = refl };
      bytes_are = b;
      text_is =
          ap (λ (v : List ℕ). v ++ (text_of d ++ rest)) shown
          ∙ append_assoc out (comma begun) (text_of d ++ rest)
          ∙ ap (λ (v : List ℕ). out ++ v)
          (sym
          (append_assoc (comma begun) (text_of d ++ things_text true ds) (close ∷ [])
          ∙ ap (λ (v : List ℕ). comma begun ++ v) (append_assoc (text_of d) (things_text true ds) (close ∷ [])))
          ∙ sym t);
    }

next_things : (close left : ℕ) (begun : Bool) (bytes all out out' : List ℕ) → ThingsLeft close (suc left) begun bytes all → out' ≡ out ++ comma begun → Next (λ bs ts. ThingsLeft close left true bs ts) bytes all out out'
next_things close left begun bytes all out out' l shown = of_things close left begun bytes all out out' l.ds l.fits l.many l.bytes_are l.text_is shown

-- fields: the next one's name, its value, and the others
record FirstField (words : List ℕ) (at left : ℕ) (begun : Bool) (bytes all : List ℕ) : Type 0 where
  n : List ℕ
  d : Data
  fs : Fields
  name_fits : name.Fits n
  names_fit : AllFit name (names fs)
  fits : FitsData d
  values_fit : FitsValues fs
  many : length (names fs) ≡ left
  after : List ℕ
  names_are : drop at words ≡ name.write n ++ (writes name (names fs) ++ after)
  bytes_are : bytes ≡ write_data d ++ write_values fs
  text_is : all ≡ (comma begun ++ (bytes_quoted n ++ (58 ∷ (text_of d ++ fields_text true fs)))) ++ (125 ∷ [])

of_fields : (words : List ℕ) (at left : ℕ) (begun : Bool) (bytes all : List ℕ) (fs : Fields) (after : List ℕ)
    → FitsValues fs
    → AllFit name (names fs)
    → length (names fs) ≡ suc left
    → drop at words ≡ writes name (names fs) ++ after
    → bytes ≡ write_values fs
    → all ≡ fields_text begun fs ++ (125 ∷ [])
    → FirstField words at left begun bytes all
unfolding names write_values fields_text FitsValues
of_fields words at left begun bytes all no_field after f g m e b t = absurd (let z : 0 ≡ suc left = m in omega arith)
of_fields words at left begun bytes all (field n d fs) after f g m e b t =
    let m' : suc (length (names fs)) ≡ suc left = m in
    record {
      n = n;
      d = d;
      fs = fs;
      name_fits = g.0;
      names_fit = g.1;
      fits = f.0;
      values_fit = f.1;
      many = omega arith;
      after = after;
      names_are = e ∙ append_assoc (le 4 (length n) ++ n) (writes name (names fs)) after;
      bytes_are = b;
      text_is = t;
    }

first_field : (words : List ℕ) (at left : ℕ) (begun : Bool) (bytes all : List ℕ) → FieldsLeft words at (suc left) begun bytes all → FirstField words at left begun bytes all
first_field words at left begun bytes all l = of_fields words at left begun bytes all l.fs l.after l.fits l.names_fit l.many l.names_are l.bytes_are l.text_is

regroup : (c q t f e : List ℕ) → (c ++ (q ++ (58 ∷ (t ++ f)))) ++ e ≡ (c ++ (q ++ (58 ∷ []))) ++ (t ++ (f ++ e))
regroup c q t f e = simp append_assoc

next_fields : (words : List ℕ) (at end left : ℕ) (begun : Bool) (bytes all out out₁ out₂ out₃ : List ℕ)
    → FieldsLeft words at (suc left) begun bytes all
    → out₁ ≡ out ++ comma begun
    → TextShown words at out₁ out₂ (Some end)
    → out₃ ≡ out₂ ++ (58 ∷ [])
    → Next (λ bs ts. FieldsLeft words end left true bs ts) bytes all out out₃
next_fields words at end left begun bytes all out out₁ out₂ out₃ l one two three =
    let g = first_field words at left begun bytes all l in
    let s = two.is g.n (writes name (names g.fs) ++ g.after) g.name_fits g.names_are in
    let rest = fields_text true g.fs ++ (125 ∷ []) in
    let shown : out₃ ≡ out ++ (comma begun ++ (bytes_quoted g.n ++ (58 ∷ []))) =
    three ∙ ap (λ (v : List ℕ). v ++ (58 ∷ [])) (s.1 ∙ ap (λ (v : List ℕ). v ++ bytes_quoted g.n) one)
    ∙ append_assoc (out ++ comma begun) (bytes_quoted g.n) (58 ∷ [])
    ∙ append_assoc out (comma begun) (bytes_quoted g.n ++ (58 ∷ [])) in
    record {
      d = g.d;
      fits = g.fits;
      bs = write_values g.fs;
      ts = rest;
      part = record { fs = g.fs; fits = g.values_fit; names_fit = g.names_fit; many = g.many; after = g.after; names_are = s.0; bytes_are = refl; text_is = refl };
      bytes_are = g.bytes_are;
      text_is =
          ap (λ (v : List ℕ). v ++ (text_of g.d ++ rest)) shown
          ∙ append_assoc out (comma begun ++ (bytes_quoted g.n ++ (58 ∷ []))) (text_of g.d ++ rest)
          ∙ ap (λ (v : List ℕ). out ++ v) (sym (regroup (comma begun) (bytes_quoted g.n) (text_of g.d) (fields_text true g.fs) (125 ∷ [])) ∙ sym g.text_is);
    }

-- what the code appends in front of the next part
pub front_plain : (words : List ℕ) (whole : Whole) (begun : Bool) (out out' : List ℕ) → ((x : ℕ) → whole ≡ Record x → ⊥) → out' ≡ out ++ comma begun → Fronted words whole begun out out' (Some whole)
front_plain words Bag begun out out' no_record shown = record { goes_on = λ left bytes all l. next_things 93 left begun bytes all out out' l shown }
front_plain words (Record at) begun out out' no_record shown = absurd (no_record at refl)
front_plain words Side begun out out' no_record shown = record { goes_on = λ left bytes all l. next_things 41 left begun bytes all out out' l shown }

pub front_missing : (words : List ℕ) (at : ℕ) (begun : Bool) (out out₁ out₂ : List ℕ) → TextShown words at out₁ out₂ None → Fronted words (Record at) begun out out₂ None
front_missing words at begun out out₁ out₂ two = record {
  goes_on = λ left bytes all l.
      let g = first_field words at left begun bytes all l in
      two.is g.n (writes name (names g.fs) ++ g.after) g.name_fits g.names_are;
}

pub front_named : (words : List ℕ) (at end : ℕ) (begun : Bool) (out out₁ out₂ out₃ : List ℕ) → out₁ ≡ out ++ comma begun → TextShown words at out₁ out₂ (Some end) → out₃ ≡ out₂ ++ (58 ∷ []) → Fronted words (Record at) begun out out₃ (Some (Record end))
front_named words at end begun out out₁ out₂ out₃ one two three = record { goes_on = λ left bytes all l. next_fields words at end left begun bytes all out out₁ out₂ out₃ l one two three }

-- a whole that has no more parts to come
record Ended (w : Whole) (bytes all : List ℕ) : Type 0 where
  no_bytes : bytes ≡ []
  closes : all ≡ closing_of w ∷ []

things_ended : (close : ℕ) (begun : Bool) (bytes all : List ℕ) (ds : Datas) → how_many ds ≡ 0 → bytes ≡ write_datas ds → all ≡ things_text begun ds ++ (close ∷ []) → (bytes ≡ []) × (all ≡ close ∷ [])
unfolding how_many write_datas things_text
things_ended close begun bytes all none m b t = (b, t)
things_ended close begun bytes all (more d ds) m b t = absurd (let z : suc (how_many ds) ≡ 0 = m in omega arith)

fields_ended : (begun : Bool) (bytes all : List ℕ) (fs : Fields) → length (names fs) ≡ 0 → bytes ≡ write_values fs → all ≡ fields_text begun fs ++ (125 ∷ []) → (bytes ≡ []) × (all ≡ 125 ∷ [])
unfolding names write_values fields_text
fields_ended begun bytes all no_field m b t = (b, t)
fields_ended begun bytes all (field n d fs) m b t = absurd (let z : suc (length (names fs)) ≡ 0 = m in omega arith)

ended : (words : List ℕ) (w : Whole) (begun : Bool) (bytes all : List ℕ) → LeftOf words w 0 begun bytes all → Ended w bytes all
ended words Bag begun bytes all l = let e = things_ended 93 begun bytes all l.ds l.many l.bytes_are l.text_is in record { no_bytes = e.0; closes = e.1 }
ended words (Record at) begun bytes all l = let e = fields_ended begun bytes all l.fs l.many l.bytes_are l.text_is in record { no_bytes = e.0; closes = e.1 }
ended words Side begun bytes all l = let e = things_ended 41 begun bytes all l.ds l.many l.bytes_are l.text_is in record { no_bytes = e.0; closes = e.1 }

-- the last of what is open
record Popped (words : List ℕ) (os : List Open) (o : Open) (bytes all : List ℕ) : Type 0 where
  bs : List ℕ
  ts : List ℕ
  bs' : List ℕ
  ts' : List ℕ
  bytes_are : bytes ≡ bs ++ bs'
  text_is : all ≡ ts ++ ts'
  part : LeftOf words o.whole o.left o.begun bs ts
  stands : Stands words os bs' ts'

last_same : {A : Type 0} (xs ys : List A) (x y : A) → xs ++ (x ∷ []) ≡ ys ++ (y ∷ []) → (xs ≡ ys) × (x ≡ y)
last_same [] [] x y e = (refl, cc)
last_same [] (b ∷ ys) x y e = absurd (let z = ap length e in let k = length-append ys (y ∷ []) in omega arith)
last_same (a ∷ xs) [] x y e = absurd (let z = ap length e in let k = length-append xs (x ∷ []) in omega arith)
last_same {A} (a ∷ xs) (b ∷ ys) x y e =
    let h : a ≡ b = cc in
    let t : xs ++ (x ∷ []) ≡ ys ++ (y ∷ []) = cc in
    let r = last_same xs ys x y t in
    (ap₂ (λ (p : A) (q : List A). p ∷ q) h r.0, r.1)

popped : (words : List ℕ) (all os : List Open) (o : Open) (bytes text : List ℕ) → all ≡ os ++ (o ∷ []) → Stands words all bytes text → Popped words os o bytes text
popped words all os o bytes text e (all_closed a b t) = absurd (let z = ap length (sym a ∙ e) in let k = length-append os (o ∷ []) in omega arith)
popped words all os o bytes text e (one_open os₁ o₁ bs ts bs' ts' a b t l s) =
    let q = last_same os₁ os o₁ o (sym a ∙ e) in
    record {
      bs = bs;
      ts = ts;
      bs' = bs';
      ts' = ts';
      bytes_are = b;
      text_is = t;
      part = subst (λ (v : Open). LeftOf words v.whole v.left v.begun bs ts) q.1 l;
      stands = subst (λ (v : List Open). Stands words v bs' ts') q.0 s;
    }

none_open : (words : List ℕ) (all : List Open) (bytes text : List ℕ) → all ≡ [] → Stands words all bytes text → text ≡ []
none_open words all bytes text e (all_closed a b t) = t
none_open words all bytes text e (one_open os o bs ts bs' ts' a b t l s) = absurd (let z = ap length (sym a ∙ e) in let k = length-append os (o ∷ []) in omega arith)

-- some of what was open is closed
pub record Unwound (words : List ℕ) (os os' : List Open) (out out' : List ℕ) : Type 0 where
  pub goes_on : (bytes text : List ℕ) → Stands words os bytes text → Still (Stands words os' bytes) out' (out ++ text)

pub unwind_none : (words : List ℕ) (os : List Open) (out : List ℕ) → Unwound words os os out out
unwind_none words os out = record { goes_on = λ bytes text s. record { text = text; there = s; is = refl } }

pub unwind_one : (words : List ℕ) (os os₁ os₂ : List Open) (o : Open) (out out₁ out₂ : List ℕ)
    → Unwound words os os₁ out out₁
    → os₁ ≡ os₂ ++ (o ∷ [])
    → o.left ≤ 0
    → out₂ ≡ out₁ ++ (closing_of o.whole ∷ [])
    → Unwound words os os₂ out out₂
unwind_one words os os₁ os₂ o out out₁ out₂ u pop no_more shown = record {
  goes_on = λ bytes text s.
      let g = u.goes_on bytes text s in
      let p = popped words os₁ os₂ o bytes g.text pop g.there in
      let zero_left : o.left ≡ 0 = omega arith in
      let e = ended words o.whole o.begun p.bs p.ts (subst (λ (n : ℕ). LeftOf words o.whole n o.begun p.bs p.ts) zero_left p.part) in
      record {
        text = p.ts';
        there = subst (λ (v : List ℕ). Stands words os₂ v p.ts') (sym (p.bytes_are ∙ ap (λ (v : List ℕ). v ++ p.bs') e.no_bytes)) p.stands;
        is =
            ap (λ (v : List ℕ). v ++ p.ts') shown
            ∙ append_assoc out₁ (closing_of o.whole ∷ []) p.ts'
            ∙ ap (λ (v : List ℕ). out₁ ++ v) (ap (λ (v : List ℕ). v ++ p.ts') (sym e.closes) ∙ sym p.text_is)
            ∙ g.is;
      };
}

pub between_end : (words : List ℕ) (os os₁ os' : List Open) (out out₁ : List ℕ) → Unwound words os os₁ out out₁ → os₁ ≡ [] → Between words os os' out out₁ false
between_end words os os₁ os' out out₁ u e = record {
  goes_on = λ bytes text s.
      let g = u.goes_on bytes text s in
      sym (append-nil out₁) ∙ ap (λ (v : List ℕ). out₁ ++ v) (sym (none_open words os₁ bytes g.text e g.there)) ∙ g.is;
}

module _ (words : List ℕ) (os os₁ os₂ : List Open) (o : Open) (out out₁ out₂ : List ℕ) (u : Unwound words os os₁ out out₁) (pop : os₁ ≡ os₂ ++ (o ∷ [])) (some : 0 < o.left) where
  pub between_stuck : (os' : List Open) → Fronted words o.whole o.begun out₁ out₂ None → Between words os os' out out₂ false
  between_stuck os' f = record {
    goes_on = λ bytes text s.
        let g = u.goes_on bytes text s in
        let p = popped words os₁ os₂ o bytes g.text pop g.there in
        let left_is : o.left ≡ suc (o.left - 1) = omega arith in
        absurd (f.goes_on (o.left - 1) p.bs p.ts (subst (λ (n : ℕ). LeftOf words o.whole n o.begun p.bs p.ts) left_is p.part));
  }

  pub between_next : (os' : List Open) (w : Whole) → Fronted words o.whole o.begun out₁ out₂ (Some w) → os' ≡ os₂ ++ (record { whole = w; left = o.left - 1; begun = true } ∷ []) → Between words os os' out out₂ true
  between_next os' w f push = record {
    goes_on = λ bytes text s.
        let g = u.goes_on bytes text s in
        let p = popped words os₁ os₂ o bytes g.text pop g.there in
        let left_is : o.left ≡ suc (o.left - 1) = omega arith in
        let n = f.goes_on (o.left - 1) p.bs p.ts (subst (λ (n : ℕ). LeftOf words o.whole n o.begun p.bs p.ts) left_is p.part) in
        record {
          text = text_of n.d ++ (n.ts ++ p.ts');
          there = record {
            d = n.d;
            fits = n.fits;
            bs = n.bs ++ p.bs';
            ts = n.ts ++ p.ts';
            stands = one_open os₂ record { whole = w; left = o.left - 1; begun = true } n.bs n.ts p.bs' p.ts' push refl refl n.part p.stands;
            bytes_are = p.bytes_are ∙ ap (λ (v : List ℕ). v ++ p.bs') n.bytes_are ∙ append_assoc (write_data n.d) n.bs p.bs';
            text_is = refl;
          };
          is =
              ap (λ (v : List ℕ). out₂ ++ v) (sym (append_assoc (text_of n.d) n.ts p.ts'))
              ∙ sym (append_assoc out₂ (text_of n.d ++ n.ts) p.ts')
              ∙ ap (λ (v : List ℕ). v ++ p.ts') n.text_is
              ∙ append_assoc out₁ p.ts p.ts'
              ∙ ap (λ (v : List ℕ). out₁ ++ v) (sym p.text_is)
              ∙ g.is;
        };
  }
