-- A datum that is due, by its first byte: what its head appends, and what is open after it.
use Rattle.std.proofs.Common.{◌≡◌, ℕ, zero, suc, ◌+◌, ◌^◌, ◌<◌, ◌≤◌, true, false, List, [], ◌∷◌, ◌++◌, length, get_or, drop, IsSomeAnd, IfSome, Some, None, codes, Option, sym, refl, ap, ◌∙◌, subst, append_assoc, append-nil, arith}
use Rattle.std.proofs.lemmas.List.{drop_more}
use Rattle.query.specs.Data.{Data, unit, num, truth, text, bag, rec, left, right, Datas, none, more, Fields, how_many}
use Rattle.format.specs.Coding.{le, name, writes}
use Rattle.format.specs.Wire.{names, write_names, FitNames, truth_tag, write_data, write_datas, write_values, FitsData, FitsDatas, FitsValues}
use Rattle.format.specs.Bytes.{length_le}
use Rattle.printing.specs.declared.datum.Whole.TheVariants.{Bag, Record, Side}
use Rattle.printing.specs.declared.datum.Open.{Open}
use Rattle.printing.specs.Datums.{truth_text, text_of, things_text, fields_text}
use Rattle.printing.proofs.Values.{after_there}
use Rattle.printing.specs.Opens.{LeftOf, Stands, one_open, Due, Still, Opened, NumberShown, TextShown, BagBegun, RecordBegun, Headed}

abbrev tag_of : Data → ℕ
tag_of d = get_or (write_data d) 0 0

abbrev body_of : Data → List ℕ
body_of d = drop 1 (write_data d)

apart : (d : Data) → write_data d ≡ tag_of d ∷ body_of d
unfolding write_data
apart unit = refl
apart (num n) = refl
apart (truth b) = refl
apart (text t) = refl
apart (bag ds) = refl
apart (rec fs) = refl
apart (left d) = refl
apart (right d) = refl

pub some_bytes : (d : Data) → 0 < length (write_data d)
some_bytes d = let e : length (write_data d) ≡ suc (length (body_of d)) = ap length (apart d) in omega arith

-- which datum begins with a tag
abbrev ByTag : ℕ → Data → Type 0
ByTag t d =
    get_or {A = Data → Type 0}
    ((λ (d : Data). d ≡ unit)
    ∷ (λ (d : Data). (n : ℕ) × (d ≡ num n))
    ∷ (λ (d : Data). d ≡ truth false)
    ∷ (λ (d : Data). d ≡ truth true)
    ∷ (λ (d : Data). (t : List ℕ) × (d ≡ text t))
    ∷ (λ (d : Data). (ds : Datas) × (d ≡ bag ds))
    ∷ (λ (d : Data). (fs : Fields) × (d ≡ rec fs))
    ∷ (λ (d : Data). (e : Data) × (d ≡ left e))
    ∷ (λ (d : Data). (e : Data) × (d ≡ right e))
    ∷ [])
    t (λ (d : Data). ⊥) d

by_tag : (d : Data) → ByTag (tag_of d) d
unfolding write_data truth_tag
by_tag unit = refl
by_tag (num n) = (n, refl)
by_tag (truth true) = refl
by_tag (truth false) = refl
by_tag (text t) = (t, refl)
by_tag (bag ds) = (ds, refl)
by_tag (rec fs) = (fs, refl)
by_tag (left d) = (d, refl)
by_tag (right d) = (d, refl)

no_such : (t : ℕ) (d : Data) → 9 ≤ t → ByTag t d → ⊥
no_such zero d h b = omega arith
no_such (suc zero) d h b = omega arith
no_such (suc (suc zero)) d h b = omega arith
no_such (suc (suc (suc zero))) d h b = omega arith
no_such (suc (suc (suc (suc zero)))) d h b = omega arith
no_such (suc (suc (suc (suc (suc zero))))) d h b = omega arith
no_such (suc (suc (suc (suc (suc (suc zero)))))) d h b = omega arith
no_such (suc (suc (suc (suc (suc (suc (suc zero))))))) d h b = omega arith
no_such (suc (suc (suc (suc (suc (suc (suc (suc zero)))))))) d h b = omega arith
no_such (suc (suc (suc (suc (suc (suc (suc (suc (suc t))))))))) d h b = b

-- a datum that is due, with its first byte read
record Tagged (words : List ℕ) (at : ℕ) (os : List Open) (all : List ℕ) (t : ℕ) : Type 0 where
  d : Data
  by : ByTag t d
  fits : FitsData d
  bs : List ℕ
  ts : List ℕ
  stands : Stands words os bs ts
  body : drop (at + 1) words ≡ body_of d ++ bs
  text_is : all ≡ text_of d ++ ts

tagged : (words : List ℕ) (at : ℕ) (os : List Open) (all : List ℕ) → at < length words → Due words os (drop at words) all → Tagged words at os all (get_or words at 0)
tagged words at os all h due =
    let e : get_or words at 0 ∷ drop (at + 1) words ≡ tag_of due.d ∷ (body_of due.d ++ due.bs) = sym (drop_more words at 0 h) ∙ due.bytes_are ∙ ap (λ (v : List ℕ). v ++ due.bs) (apart due.d) in
    let first : get_or words at 0 ≡ tag_of due.d = cc in
    let rest : drop (at + 1) words ≡ body_of due.d ++ due.bs = cc in
    record { d = due.d; by = subst (λ (t : ℕ). ByTag t due.d) (sym first) (by_tag due.d); fits = due.fits; bs = due.bs; ts = due.ts; stands = due.stands; body = rest; text_is = due.text_is }

some_weaker : {A : Type 0} (o : Option A) (P Q : A → Type 0) → ((x : A) → P x → Q x) → IsSomeAnd o P → IsSomeAnd o Q
some_weaker None P Q f p = p
some_weaker (Some x) P Q f p = f x p

module _ {words : List ℕ} {at : ℕ} {os : List Open} {all : List ℕ} {t : ℕ} (out : List ℕ) {out' : List ℕ} where
  -- the datum's whole text is out
  whole_out : (T : Tagged words at os all t) (e : ℕ) → drop e words ≡ T.bs → out' ≡ out ++ text_of T.d → Still (Stands words os (drop e words)) out' (out ++ all)
  whole_out T e rest shown = record {
    text = T.ts;
    there = subst (λ (v : List ℕ). Stands words os v T.ts) (sym rest) T.stands;
    is = ap (λ (v : List ℕ). v ++ T.ts) shown ∙ append_assoc out (text_of T.d) T.ts ∙ ap (λ (v : List ℕ). out ++ v) (sym T.text_is);
  }

  -- the datum's first bytes are out, and the rest of it is open
  begun_out : {os' : List Open} (T : Tagged words at os all t) (e : ℕ) (o : Open) (opening bytes inner : List ℕ)
      → os' ≡ os ++ (o ∷ [])
      → out' ≡ out ++ opening
      → LeftOf words o.whole o.left o.begun bytes inner
      → drop e words ≡ bytes ++ T.bs
      → text_of T.d ≡ opening ++ inner
      → Still (Stands words os' (drop e words)) out' (out ++ all)
  begun_out T e o opening bytes inner opens shown part rest whole = record {
    text = inner ++ T.ts;
    there = one_open os o bytes inner T.bs T.ts opens rest refl part T.stands;
    is =
        ap (λ (v : List ℕ). v ++ (inner ++ T.ts)) shown
        ∙ append_assoc out opening (inner ++ T.ts)
        ∙ ap (λ (v : List ℕ). out ++ v) (sym (append_assoc opening inner T.ts) ∙ ap (λ (v : List ℕ). v ++ T.ts) (sym whole) ∙ sym T.text_is);
  }

module _ (words : List ℕ) (at : ℕ) (os os' : List Open) (out out' : List ℕ) (r : Option ℕ) (here : at < length words) where
  on_tag : (t : ℕ) → get_or words at 0 ≡ t → ((all : List ℕ) → Tagged words at os all t → IsSomeAnd r (λ e. Still (Stands words os' (drop e words)) out' (out ++ all))) → Headed words at os os' out out' r
  on_tag t is f = record { goes_on = λ all due. f all (subst (λ (n : ℕ). Tagged words at os all n) is (tagged words at os all here due)) }

  pub no_head : 9 ≤ get_or words at 0 → Headed words at os os' out out' r
  no_head h = on_tag (get_or words at 0) refl (λ all T. absurd (no_such (get_or words at 0) T.d h T.by))

module _ (words : List ℕ) (at : ℕ) (os : List Open) (out out' : List ℕ) (r : Option ℕ) (here : at < length words) where
  plain_head : (t : ℕ) (shown : List ℕ) → get_or words at 0 ≡ t → ((d : Data) → ByTag t d → (text_of d ≡ shown) × (body_of d ≡ [])) → (r ≡ Some (at + 1)) × (out' ≡ out ++ shown) → Headed words at os os out out' r
  plain_head t shown is known p = on_tag words at os os out out' r here t is (λ all T.
      let k = known T.d T.by in
      subst (λ (o : Option ℕ). IsSomeAnd o (λ e. Still (Stands words os (drop e words)) out' (out ++ all))) (sym p.0)
      (whole_out out T (at + 1) (T.body ∙ ap (λ (v : List ℕ). v ++ T.bs) k.1) (p.1 ∙ ap (λ (v : List ℕ). out ++ v) (sym k.0))))

  pub null_head : get_or words at 0 ≡ 0 → (r ≡ Some (at + 1)) × (out' ≡ out ++ codes "null") → Headed words at os os out out' r
  unfolding write_data text_of
  null_head is p = plain_head 0 (codes "null") is (λ d b. (ap text_of b, ap body_of b)) p

  pub false_head : get_or words at 0 ≡ 2 → (r ≡ Some (at + 1)) × (out' ≡ out ++ codes "false") → Headed words at os os out out' r
  unfolding write_data text_of truth_text
  false_head is p = plain_head 2 (codes "false") is (λ d b. (ap text_of b, ap body_of b)) p

  pub true_head : get_or words at 0 ≡ 3 → (r ≡ Some (at + 1)) × (out' ≡ out ++ codes "true") → Headed words at os os out out' r
  unfolding write_data text_of truth_text
  true_head is p = plain_head 3 (codes "true") is (λ d b. (ap text_of b, ap body_of b)) p

  pub number_head : get_or words at 0 ≡ 1 → NumberShown words (at + 1) out out' r → Headed words at os os out out' r
  unfolding write_data text_of FitsData
  number_head is s = on_tag words at os os out out' r here 1 is (λ all T.
      let n = T.by.0 in
      let e = T.by.1 in
      some_weaker r _ _
      (λ end p. whole_out out T end p.0 (p.1 ∙ ap (λ (v : List ℕ). out ++ v) (sym (ap text_of e))))
      (s.is n T.bs (subst FitsData e T.fits) (T.body ∙ ap (λ (v : Data). body_of v ++ T.bs) e)))

  pub text_head : get_or words at 0 ≡ 4 → TextShown words (at + 1) out out' r → Headed words at os os out out' r
  unfolding write_data text_of FitsData
  text_head is s = on_tag words at os os out out' r here 4 is (λ all T.
      let t = T.by.0 in
      let e = T.by.1 in
      some_weaker r _ _
      (λ end p. whole_out out T end p.0 (p.1 ∙ ap (λ (v : List ℕ). out ++ v) (sym (ap text_of e))))
      (s.is t T.bs (subst FitsData e T.fits) (T.body ∙ ap (λ (v : Data). body_of v ++ T.bs) e)))

module _ (words : List ℕ) (at : ℕ) (os os' : List Open) (out out' : List ℕ) (r : Option ℕ) (here : at < length words) where
  pub bag_head : get_or words at 0 ≡ 5 → BagBegun words (at + 1) os os' out out' r → Headed words at os os' out out' r
  unfolding write_data text_of FitsData
  bag_head is s = on_tag words at os os' out out' r here 5 is (λ all T.
      let ds = T.by.0 in
      let d-is = T.by.1 in
      let f : (how_many ds < 2 ^ 32) × FitsDatas ds = subst FitsData d-is T.fits in
      some_weaker r _ _
      (λ end p. begun_out out T end record { whole = Bag; left = how_many ds; begun = false } (codes "[") (write_datas ds) (things_text false ds ++ codes "]") p.1.opens p.1.text_is
      (record { ds = ds; fits = f.1; many = refl; bytes_are = refl; text_is = refl }) p.0 (ap text_of d-is))
      (s.is (how_many ds) (write_datas ds ++ T.bs) f.0 (T.body ∙ ap (λ (v : Data). body_of v ++ T.bs) d-is ∙ append_assoc (le 4 (how_many ds)) (write_datas ds) T.bs)))

  pub record_head : get_or words at 0 ≡ 6 → RecordBegun words (at + 1) os os' out out' r → Headed words at os os' out out' r
  unfolding write_data text_of FitsData
  record_head is s = on_tag words at os os' out out' r here 6 is (λ all T.
      let fs = T.by.0 in
      let d-is = T.by.1 in
      let f : FitNames (names fs) × FitsValues fs = subst FitsData d-is T.fits in
      let ns = names fs in
      let body : drop (at + 1) words ≡ write_names ns ++ (write_values fs ++ T.bs) = T.body ∙ ap (λ (v : Data). body_of v ++ T.bs) d-is ∙ append_assoc (write_names ns) (write_values fs) T.bs in
      let names_are : drop (at + 1 + 4) words ≡ writes name ns ++ (write_values fs ++ T.bs) =
      ap (λ (k : ℕ). drop (at + 1 + k) words) (sym (length_le 4 (length ns))) ∙ after_there words (at + 1) (le 4 (length ns)) (writes name ns ++ (write_values fs ++ T.bs)) (body ∙ append_assoc (le 4 (length ns)) (writes name ns) (write_values fs ++ T.bs)) in
      some_weaker r _ _
      (λ end p. begun_out out T end record { whole = Record (at + 1 + 4); left = length ns; begun = false } (codes "{") (write_values fs) (fields_text false fs ++ codes "}") p.1.opens p.1.text_is
      (record { fs = fs; fits = f.1; names_fit = f.0.1; many = refl; after = write_values fs ++ T.bs; names_are = names_are; bytes_are = refl; text_is = refl }) p.0 (ap text_of d-is))
      (s.is ns (write_values fs ++ T.bs) f.0 body))

  side_head : (t : ℕ) (opening : List ℕ) → get_or words at 0 ≡ t
      → ((d : Data) → ByTag t d → (e : Data) × (text_of d ≡ opening ++ (text_of e ++ codes ")")) × (body_of d ≡ write_data e) × (FitsData d → FitsData e))
      → (r ≡ Some (at + 1)) × Opened Side 1 opening os os' out out' → Headed words at os os' out out' r
  unfolding write_datas things_text FitsDatas how_many
  side_head t opening is known p = on_tag words at os os' out out' r here t is (λ all T.
      let k = known T.d T.by in
      let e = k.0 in
      subst (λ (o : Option ℕ). IsSomeAnd o (λ end. Still (Stands words os' (drop end words)) out' (out ++ all))) (sym p.0)
      (begun_out out T (at + 1) record { whole = Side; left = 1; begun = false } opening (write_data e ++ []) ((text_of e ++ []) ++ codes ")") p.1.opens p.1.text_is
      (record { ds = more e none; fits = (k.3 T.fits, tt); many = refl; bytes_are = refl; text_is = refl })
      (T.body ∙ ap (λ (v : List ℕ). v ++ T.bs) (k.2 ∙ sym (append-nil (write_data e))))
      (k.1 ∙ ap (λ (v : List ℕ). opening ++ (v ++ codes ")")) (sym (append-nil (text_of e))))))

  pub left_head : get_or words at 0 ≡ 7 → (r ≡ Some (at + 1)) × Opened Side 1 (codes "left(") os os' out out' → Headed words at os os' out out' r
  unfolding write_data text_of FitsData
  left_head is p = side_head 7 (codes "left(") is (λ d b. (b.0, ap text_of b.1, ap body_of b.1, λ f. subst FitsData b.1 f)) p

  pub right_head : get_or words at 0 ≡ 8 → (r ≡ Some (at + 1)) × Opened Side 1 (codes "right(") os os' out out' → Headed words at os os' out out' r
  unfolding write_data text_of FitsData
  right_head is p = side_head 8 (codes "right(") is (λ d b. (b.0, ap text_of b.1, ap body_of b.1, λ f. subst FitsData b.1 f)) p

-- where reading goes on lies behind the tag
pub plain_ends : (words : List ℕ) (at : ℕ) (r : Option ℕ) → at < length words → r ≡ Some (at + 1) → IfSome r (λ e. (at < e) × (e ≤ length words))
plain_ends words at r h e = subst (λ (o : Option ℕ). IfSome o (λ e. (at < e) × (e ≤ length words))) (sym e) (omega arith, omega arith)

pub past_tag : (words : List ℕ) (at : ℕ) (r : Option ℕ) → IfSome r (λ e. (at + 1 ≤ e) × (e ≤ length words)) → IfSome r (λ e. (at < e) × (e ≤ length words))
past_tag words at None p = tt
past_tag words at (Some e) p = (omega (arith, p.0), p.1)
