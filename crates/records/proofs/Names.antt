-- Names that stand one after the other in the request's bytes.
use Rattle.std.proofs.Common.{◌≡◌, ℕ, suc, ◌+◌, ◌-◌, ◌<◌, ◌≤◌, Bool, true, false, ◌||◌, List, [], ◌∷◌, ◌++◌, length, take, drop, sym, refl, ap, ◌∙◌, subst, arith, length-append, length-drop, drop-drop}
use Rattle.std.proofs.lemmas.List.{append_assoc}
use Rattle.query.specs.Data.{same_text, Name, one_of}
use Rattle.format.specs.Coding.{le, name, writes}
use Rattle.format.specs.Reading.{ReadAs, Stuck}
use Rattle.format.specs.Lists.{split_at, front_of, after_of, from, from_drop}
use Rattle.format.specs.Bytes.{length_le}
use Rattle.format.specs.Codings.{name_way}
use Rattle.values.specs.Memory.{Spelled}
use Rattle.values.specs.declared.value.Place.{Place}
use Rattle.compare.specs.Compare.{MatchesTexts}
use Rattle.records.specs.Records.{NamesStand, IsOneOf}

-- the name in front of some that stand there, and the others after it
pub record InFront (bs : List ℕ) (at k : ℕ) (ns : List Name) : Type 0 where
  pub first : Name
  pub others : List Name
  pub is : ns ≡ first ∷ others
  pub fits : name.Fits first
  pub rest : List ℕ
  pub bytes : drop at bs ≡ name.write first ++ rest
  pub after : (e : ℕ) → e ≡ at + length (name.write first) → e ≤ length bs → NamesStand bs e k others

pub in_front : (bs : List ℕ) (at k : ℕ) (ns : List Name) → NamesStand bs at (suc k) ns → InFront bs at k ns
in_front bs at k [] s = absurd (let z : ⊥ = omega (arith, s.fit.0) in z)
in_front bs at k (n ∷ ns) s =
    let b : drop at bs ≡ name.write n ++ (writes name ns ++ s.stands.rest) = s.stands.is ∙ append_assoc (name.write n) (writes name ns) s.stands.rest in
    record {
      first = n;
      others = ns;
      is = refl;
      fits = s.fit.1.0;
      rest = writes name ns ++ s.stands.rest;
      bytes = b;
      after = λ e q l.
          let c : drop e bs ≡ drop (length (name.write n)) (drop at bs) = ap (λ z. drop z bs) q ∙ sym (drop-drop (length (name.write n)) at bs) in
          record {
            stands = record { within = l; rest = s.stands.rest; is = c ∙ ap (drop (length (name.write n))) b ∙ after_of (name.write n) (writes name ns ++ s.stands.rest) };
            fit = (omega (arith, s.fit.0), s.fit.1.1);
          };
    }

-- a name was read there: it is the one in front
pub record ReadFirst (bs : List ℕ) (at k n : ℕ) (ns : List Name) : Type 0 where
  pub first : Name
  pub others : List Name
  pub is : ns ≡ first ∷ others
  pub spelled : Spelled bs first (at + 4) n
  pub after : NamesStand bs (at + (4 + n)) k others

pub read_first : (bs : List ℕ) (at k n : ℕ) (ns : List Name) → at ≤ length bs → NamesStand bs at (suc k) ns → ReadAs name (from at bs) (4 + n) (λ t. length t ≡ n) → ReadFirst bs at k n ns
read_first bs at k n ns l s r =
    let f = in_front bs at k ns s in
    let d = from_drop at bs in
    let long : 4 + n ≤ length bs - at = omega (arith, r.begins.within, ap length d, length-drop at bs) in
    let e : name.write r.thing ++ drop (4 + n) (from at bs) ≡ name.write f.first ++ f.rest = sym (split_at (4 + n) (from at bs) (name.write r.thing) r.begins.is) ∙ d ∙ f.bytes in
    let same : r.thing ≡ f.first = (name_way r.thing f.first (drop (4 + n) (from at bs)) f.rest r.begins.fits f.fits e).0 in
    let n_is : n ≡ length f.first = sym r.says ∙ ap length same in
    let w = length-append (le 4 (length f.first)) f.first in
    let w4 = length_le 4 (length f.first) in
    let b : drop (at + 4) bs ≡ f.first ++ f.rest = ap (λ z. drop z bs) (ap (λ z. at + z) (sym w4)) ∙ sym (drop-drop (length (le 4 (length f.first))) at bs) ∙ ap (drop (length (le 4 (length f.first)))) (f.bytes ∙ append_assoc (le 4 (length f.first)) f.first f.rest) ∙ after_of (le 4 (length f.first)) (f.first ++ f.rest) in
    record {
      first = f.first;
      others = f.others;
      is = f.is;
      spelled = record { within = omega (arith, l, long); is = sym (ap (λ z. take n z) b ∙ ap (λ z. take z (f.first ++ f.rest)) n_is ∙ front_of f.first f.rest) };
      after = f.after (at + (4 + n)) (omega (arith, w, w4, n_is)) (omega (arith, l, long));
    }

-- where no name can be read none stands
pub no_name : (bs : List ℕ) (at k p : ℕ) (ns : List Name) → NamesStand bs at (suc k) ns → Stuck name (from at bs) p → ⊥
no_name bs at k p ns s t = let f = in_front bs at k ns s in t.absent f.first f.rest f.fits (from_drop at bs ∙ f.bytes)

-- a name was not among the first, and these are left
pub record Looking (bs : List ℕ) (at k : ℕ) (q : Place) (left here : ℕ) : Type 0 where
  pub within : here ≤ length bs
  pub so_far : (a : Name) (ns : List Name) → Spelled bs a q.start q.count → NamesStand bs at k ns → (ms : List Name) × (one_of a ns ≡ one_of a ms) × NamesStand bs here left ms

is_this : (a b : Name) (ms : List Name) → true ≡ same_text a b → one_of a (b ∷ ms) ≡ true
unfolding one_of
is_this a b ms h = ap (λ (z : Bool). z || one_of a ms) (sym h)

is_other : (a b : Name) (ms : List Name) → false ≡ same_text a b → one_of a (b ∷ ms) ≡ one_of a ms
unfolding one_of
is_other a b ms h = ap (λ (z : Bool). z || one_of a ms) (sym h)

of_none : (a : Name) (ms : List Name) → length ms ≡ 0 → one_of a ms ≡ false
unfolding one_of
of_none a [] e = refl
of_none a (b ∷ ms) e = absurd (let z : ⊥ = omega (arith, e) in z)

module _ (bs : List ℕ) (at k : ℕ) (q : Place) (left here : ℕ) (g : Looking bs at k q left here) (some : 0 < left) where
  module _ (n : ℕ) (r : ReadAs name (from here bs) (4 + n) (λ t. length t ≡ n)) where
    first_read : (ms : List Name) → NamesStand bs here left ms → ReadFirst bs here (left - 1) n ms
    first_read ms s = let e : left ≡ suc (left - 1) = omega arith in read_first bs here (left - 1) n ms g.within (subst (λ z. NamesStand bs here z ms) e s) r

    pub look_within : here + (4 + n) ≤ length bs
    look_within = omega (arith, g.within, r.begins.within, ap length (from_drop here bs), length-drop here bs)

    pub look_found : MatchesTexts bs q (record { start = here + 4; count = n }) true → IsOneOf bs at k q true
    look_found h =
        record {
          means = λ a ns sp s.
              let z = g.so_far a ns sp s in
              let f = first_read z.0 z.2 in
              sym (z.1 ∙ ap (one_of a) f.is ∙ is_this a f.first f.others (h.is a f.first sp f.spelled));
        }

    pub look_on : MatchesTexts bs q (record { start = here + 4; count = n }) false → Looking bs at k q (left - 1) (here + (4 + n))
    look_on h =
        record {
          within = look_within;
          so_far = λ a ns sp s.
              let z = g.so_far a ns sp s in
              let f = first_read z.0 z.2 in
              (f.others, z.1 ∙ ap (one_of a) f.is ∙ is_other a f.first f.others (h.is a f.first sp f.spelled), f.after);
        }

  pub look_stuck : (p : ℕ) → Stuck name (from here bs) p → IsOneOf bs at k q false
  look_stuck p t =
      record {
        means = λ a ns sp s.
            let z = g.so_far a ns sp s in
            let e : left ≡ suc (left - 1) = omega arith in
            absurd (no_name bs here (left - 1) p z.0 (subst (λ x. NamesStand bs here x z.0) e z.2) t);
      }

pub look_ends : (bs : List ℕ) (at k : ℕ) (q : Place) (left here : ℕ) → Looking bs at k q left here → left ≡ 0 → IsOneOf bs at k q false
look_ends bs at k q left here g e = record { means = λ a ns sp s. let z = g.so_far a ns sp s in sym (z.1 ∙ of_none a z.0 (z.2.fit.0 ∙ e)) }
