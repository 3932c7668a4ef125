-- From numbers to types: what holds of a table's entries, and how outcomes are put together.
use Rattle.std.proofs.Common.{◌≡◌, ℕ, suc, ◌+◌, ◌<◌, ◌≤◌, Bool, true, false, List, [], ◌∷◌, ◌++◌, length, get_or, take, drop, Some, None, vec_items, Option, sym, refl, ap, ◌∙◌, subst, arith}
use Rattle.std.specs.Bool.{Decides}
use Rattle.query.specs.Data.{Name}
use Rattle.query.specs.Query.{Ty, a_truth, a_rec}
use Rattle.query.specs.Types.{same_ty, as_num, elem, fields_of, sides_of, on_ty}
use Rattle.query.proofs.TypeParts.{same_ty_out, same_ty_self}
use Rattle.std.proofs.lemmas.List.{append_assoc, length-append}
use Rattle.types.specs.Shapes.{Shape, shape, run, meaning, types, type_at, Ranked, Rising, Below, Grown}
use Rattle.types.specs.Tables.{Sound, Made, Lies, bag_part, run_part, sides_part}
use Rattle.types.specs.Outcomes.{look, size, spread, Tidy, Kept, Room, told, Within, Grew, Meant, Says}
use Rattle.types.specs.declared.entry.Field.{Field}
use Rattle.types.specs.declared.entry.Entry.{Entry}
use Rattle.types.specs.declared.entry.Entry.TheVariants.{Unit as Unit', Num, Truth, Text, Bag, Either, Record}
use Rattle.types.specs.declared.entry.Run.{Run}
use Rattle.types.specs.declared.entry.Two.{Two}
use Rattle.types.specs.declared.table.Table.{Table}
use Rattle.types.proofs.Built.{type_is, type_kept, meaning_local}
use Rattle.types.proofs.Told.{one_number}
use Rattle.types.proofs.Makes.{shapes_at, shapes_length, grown_none}

-- what a table has under a number
pub type_here : (t : Table) → Tidy t → (x : ℕ) → x < size t → (ns : List Name) → type_at ns (look t) x ≡ meaning ns (types ns (look t)) (shape (vec_items t.fields) (get_or (vec_items t.entries) x Unit'))
type_here t s x h ns =
    type_is ns s.sound.good x (omega (arith, shapes_length (vec_items t.fields) (vec_items t.entries))) ∙ ap (λ (z : Shape). meaning ns (types ns (look t)) z) (shapes_at (vec_items t.fields) (vec_items t.entries) x)

pub below_here : (t : Table) → Tidy t → (x : ℕ) → x < size t → Below t.names x (shape (vec_items t.fields) (get_or (vec_items t.entries) x Unit'))
below_here t s x h =
    subst (λ (z : Shape). Below t.names x z) (shapes_at (vec_items t.fields) (vec_items t.entries) x) (s.sound.good.parts x (omega (arith, shapes_length (vec_items t.fields) (vec_items t.entries))))

-- growing
pub grown_two : {a b c : List Shape} → Grown a b → Grown b c → Grown a c
grown_two {a} {b} {c} g h = record { more = g.more ++ h.more; is = h.is ∙ (ap (λ (z : List Shape). z ++ h.more) g.is ∙ append_assoc a g.more h.more) }

pub size_grows : (t u : Table) → Grown (look t) (look u) → size t ≤ size u
size_grows t u g =
    omega (arith, shapes_length (vec_items t.fields) (vec_items t.entries), shapes_length (vec_items u.fields) (vec_items u.entries), ap (λ (z : List Shape). length z) g.is, length-append (look t) g.more)

pub kept_at : {t u : Table} {r : Option ℕ} → Grew t u r → (x : ℕ) → x < size t → (ns : List Name) → type_at ns (look u) x ≡ type_at ns (look t) x
kept_at {t} {u} g x h ns = type_kept ns g.grown x (omega (arith, shapes_length (vec_items t.fields) (vec_items t.entries)))

pub grew_two : {t u v : Table} {r p : Option ℕ} → Grew t u r → Grew u v p → Grew t v p
grew_two a b = record { names = b.names ∙ a.names; tidy = b.tidy; grown = grown_two a.grown b.grown; here = b.here }

pub stay : {t : Table} (r : Option ℕ) → Tidy t → Within (size t) r → Grew t t r
stay r s h = record { names = refl; tidy = s; grown = grown_none; here = h }

-- a number that was there before
pub still : {t u : Table} {r : Option ℕ} → Grew t u r → (x : ℕ) → x < size t → x < size u
still {t} {u} g x h = omega (arith, size_grows t u g.grown)

pub grew_at : {t u : Table} {r : Option ℕ} → Grew t u r → (p : Option ℕ) → Within (size u) p → Grew t u p
grew_at g p h = record { names = g.names; tidy = g.tidy; grown = g.grown; here = h }

-- outcomes
pub ranked_as : {ns : List Name} {w v : ℕ} → v ≡ w → Ranked ns w → Ranked ns v
ranked_as {ns} e r = subst (λ z. Ranked ns z) (sym e) r

pub stays : {ns : List Name} {t : Table} (f s : ℕ) (r : Option ℕ) (T : List Ty) → T ≡ told ns (look t) r → Meant ns t t f s r T
stays f s r T e = record { few = λ o. omega arith; slim = λ o. omega arith; means = λ o. e }

pub no_room : {ns : List Name} {t : Table} (f s : ℕ) (T : List Ty) → (Room t f s → ⊥) → Meant ns t t f s None T
no_room f s T h = record { few = λ o. absurd (h o); slim = λ o. absurd (h o); means = λ o. absurd (h o) }

pub meant_as : {ns : List Name} {t u : Table} {f s : ℕ} {r : Option ℕ} {T : List Ty} → Meant ns t u f s r T → (S : List Ty) → S ≡ T → Meant ns t u f s r S
meant_as m S e = record { few = m.few; slim = m.slim; means = λ o. e ∙ m.means o }

less_room : {t : Table} {f s : ℕ} (g h : ℕ) → Room t f s → g ≤ f → h ≤ s → Room t g h
less_room g h o a b = record { entries = omega (arith, o.entries); fields = omega (arith, o.fields) }

pub meant_more : {ns : List Name} {t u : Table} {f s : ℕ} {r : Option ℕ} {T : List Ty} → Meant ns t u f s r T → (g h : ℕ) → f ≤ g → s ≤ h → Meant ns t u g h r T
meant_more {f = f} {s = s} m g h a b = record {
  few = λ o. omega (arith, m.few (less_room f s o a b));
  slim = λ o. omega (arith, m.slim (less_room f s o a b));
  means = λ o. m.means (less_room f s o a b);
}

-- room that is left
room_left : {ns : List Name} {t u : Table} {f s : ℕ} {r : Option ℕ} {T : List Ty} (g h : ℕ) → Meant ns t u f s r T → Room t (f + g) (s + h) → Room u g h
room_left {f = f} {s = s} g h m o =
    let l = less_room f s o (omega arith) (omega arith) in
    let a = m.few l in
    let b = m.slim l in
    record { entries = omega (arith, o.entries); fields = omega (arith, o.fields) }

-- where there is no type, there is none after it
pub bind_none : {ns : List Name} {t u : Table} {f s : ℕ} {T : List Ty} (g h : ℕ) → Meant ns t u f s None T → (k : Ty → List Ty) → Meant ns t u (f + g) (s + h) None (on_ty T k)
unfolding on_ty
bind_none {f = f} {s = s} g h m k =
    let n = meant_more m (f + g) (s + h) (omega arith) (omega arith) in
    record { few = n.few; slim = n.slim; means = λ o. ap (λ (z : List Ty). on_ty z k) (n.means o) }

-- what comes after a type
pub bind_some : {ns : List Name} {t u v : Table} {f s g h : ℕ} {i : ℕ} {r : Option ℕ} {T : List Ty} → Meant ns t u f s (Some i) T → (k : Ty → List Ty) → Meant ns u v g h r (k (type_at ns (look u) i)) → Meant ns t v (f + g) (s + h) r (on_ty T k)
unfolding on_ty
bind_some {f = f} {s = s} {g = g} {h = h} m k n = record {
  few = λ o. let a = n.few (room_left g h m o) in let l = less_room f s o (omega arith) (omega arith) in omega (arith, m.few l);
  slim = λ o. let a = n.slim (room_left g h m o) in let l = less_room f s o (omega arith) (omega arith) in omega (arith, m.slim l);
  means = λ o. ap (λ (z : List Ty). on_ty z k) (m.means (less_room f s o (omega arith) (omega arith))) ∙ n.means (room_left g h m o);
}

-- something was made
pub made_grew : (t u : Table) → Tidy t → Kept t u → (s : Shape) (extra r : ℕ) → Made t.names (vec_items t.entries) (vec_items t.fields) (vec_items u.entries) (vec_items u.fields) s extra r → Grew t u (Some r)
made_grew t u a k s extra r m = record {
  names = k.names;
  tidy = record {
    sound = subst (λ (z : ℕ). Sound z (vec_items u.entries) (vec_items u.fields)) (sym k.names) m.sound;
    entries = omega (arith, k.entries, a.entries);
    fields = omega (arith, k.fields, a.fields);
  };
  grown = m.grown;
  here = m.here;
}

pub made_says : (t u : Table) (s : Shape) (extra r : ℕ) → Below t.names (size t) s
    → Made t.names (vec_items t.entries) (vec_items t.fields) (vec_items u.entries) (vec_items u.fields) s extra r
    → (ns : List Name) (T : List Ty) → T ≡ meaning ns (types ns (look t)) s ∷ [] → Meant ns t u 1 extra (Some r) T
made_says t u s extra r b m ns T e = record {
  few = λ o. m.few;
  slim = λ o. m.slim;
  means = λ o. e ∙ ap (λ (z : Ty). z ∷ [])
      (meaning_local ns (types ns (look t)) (types ns (look u)) t.names (size t) s b (λ i l. sym (type_kept ns m.grown i (omega (arith, shapes_length (vec_items t.fields) (vec_items t.entries)))))
      ∙ sym (type_is ns m.sound.good r (omega (arith, m.here, shapes_length (vec_items u.fields) (vec_items u.entries))) ∙ ap (λ (z : Shape). meaning ns (types ns (look u)) z) m.is));
}

-- the part of a bag
elem_entry : (ns : List Name) (ss : List Shape) (fs : List Field) (e : Entry) → elem (meaning ns (types ns ss) (shape fs e)) ≡ told ns ss (bag_part e)
unfolding meaning elem
elem_entry ns ss fs Unit' = refl
elem_entry ns ss fs Num = refl
elem_entry ns ss fs Truth = refl
elem_entry ns ss fs Text = refl
elem_entry ns ss fs (Bag j) = refl
elem_entry ns ss fs (Either p) = refl
elem_entry ns ss fs (Record p) = refl

part_below : (w x m : ℕ) (fs : List Field) (e : Entry) → x < m → Below w x (shape fs e) → Within m (bag_part e)
unfolding Below
part_below w x m fs Unit' h b = tt
part_below w x m fs Num h b = tt
part_below w x m fs Truth h b = tt
part_below w x m fs Text h b = tt
part_below w x m fs (Bag j) h b = omega arith
part_below w x m fs (Either p) h b = tt
part_below w x m fs (Record p) h b = tt

pub elem_grew : (t : Table) → Tidy t → (x : ℕ) → x < size t → (r : Option ℕ) → r ≡ bag_part (get_or (vec_items t.entries) x Unit') → Grew t t r
elem_grew t s x h r e = stay r s (subst (λ z. Within (size t) z) (sym e) (part_below t.names x (size t) (vec_items t.fields) (get_or (vec_items t.entries) x Unit') h (below_here t s x h)))

pub elem_says : (t : Table) → Tidy t → (x : ℕ) → x < size t → (r : Option ℕ) → r ≡ bag_part (get_or (vec_items t.entries) x Unit') → Says t t 0 0 r (λ ns. elem (type_at ns (look t) x))
elem_says t s x h r e ns rk =
    stays 0 0 r _ (ap elem (type_here t s x h ns) ∙ (elem_entry ns (look t) (vec_items t.fields) (get_or (vec_items t.entries) x Unit') ∙ ap (λ (z : Option ℕ). told ns (look t) z) (sym e)))

-- truths and numbers
pub apart : (t u : Ty) → (t ≡ u → ⊥) → same_ty t u ≡ false
apart t u h = by (same_ty t u) refl
  where
    by : (b : Bool) → same_ty t u ≡ b → b ≡ false
    by true q = absurd (h (same_ty_out t u q))
    by false q = refl

pub alike : (t u : Ty) → t ≡ u → same_ty t u ≡ true
alike t u e = ap (λ z. same_ty t z) (sym e) ∙ same_ty_self t

truth_entry : (ns : List Name) (ts : List Ty) (fs : List Field) (e : Entry) → (e ≡ Truth → ⊥) → false ≡ same_ty (meaning ns ts (shape fs e)) a_truth
unfolding meaning
truth_entry ns ts fs Unit' n = sym (apart _ a_truth (λ q. cc))
truth_entry ns ts fs Num n = sym (apart _ a_truth (λ q. cc))
truth_entry ns ts fs Truth n = absurd (n refl)
truth_entry ns ts fs Text n = sym (apart _ a_truth (λ q. cc))
truth_entry ns ts fs (Bag j) n = sym (apart _ a_truth (λ q. cc))
truth_entry ns ts fs (Either p) n = sym (apart _ a_truth (λ q. cc))
truth_entry ns ts fs (Record p) n = sym (apart _ a_truth (λ q. cc))

num_entry : (ns : List Name) (ts : List Ty) (fs : List Field) (e : Entry) → (e ≡ Num → ⊥) → false ≡ as_num (meaning ns ts (shape fs e))
unfolding meaning as_num
num_entry ns ts fs Unit' n = refl
num_entry ns ts fs Num n = absurd (n refl)
num_entry ns ts fs Truth n = refl
num_entry ns ts fs Text n = refl
num_entry ns ts fs (Bag j) n = refl
num_entry ns ts fs (Either p) n = refl
num_entry ns ts fs (Record p) n = refl

truth_yes : (t : Table) → Tidy t → (x : ℕ) → x < size t → get_or (vec_items t.entries) x Unit' ≡ Truth → (ns : List Name) → true ≡ same_ty (type_at ns (look t) x) a_truth
unfolding meaning
truth_yes t s x h e ns = sym (alike _ a_truth (type_here t s x h ns ∙ ap (λ (z : Entry). meaning ns (types ns (look t)) (shape (vec_items t.fields) z)) e))

truth_no : (t : Table) → Tidy t → (x : ℕ) → x < size t → (get_or (vec_items t.entries) x Unit' ≡ Truth → ⊥) → (ns : List Name) → false ≡ same_ty (type_at ns (look t) x) a_truth
truth_no t s x h n ns = truth_entry ns (types ns (look t)) (vec_items t.fields) _ n ∙ ap (λ (z : Ty). same_ty z a_truth) (sym (type_here t s x h ns))

pub truth_says : (t : Table) → Tidy t → (x : ℕ) → x < size t → (e : Entry) → e ≡ get_or (vec_items t.entries) x Unit' → (r : Bool) → Decides r (e ≡ Truth) → (ns : List Name) → r ≡ same_ty (type_at ns (look t) x) a_truth
truth_says t s x h e q true d ns = truth_yes t s x h (sym q ∙ d.0 refl) ns
truth_says t s x h e q false d ns = truth_no t s x h (λ k. let z : ◌≡◌ {A = Bool} false true = d.1 (q ∙ k) in cc) ns

num_yes : (t : Table) → Tidy t → (x : ℕ) → x < size t → get_or (vec_items t.entries) x Unit' ≡ Num → (ns : List Name) → true ≡ as_num (type_at ns (look t) x)
unfolding meaning as_num
num_yes t s x h e ns = sym (ap as_num (type_here t s x h ns ∙ ap (λ (z : Entry). meaning ns (types ns (look t)) (shape (vec_items t.fields) z)) e))

num_no : (t : Table) → Tidy t → (x : ℕ) → x < size t → (get_or (vec_items t.entries) x Unit' ≡ Num → ⊥) → (ns : List Name) → false ≡ as_num (type_at ns (look t) x)
num_no t s x h n ns = num_entry ns (types ns (look t)) (vec_items t.fields) _ n ∙ ap as_num (sym (type_here t s x h ns))

pub num_says : (t : Table) → Tidy t → (x : ℕ) → x < size t → (e : Entry) → e ≡ get_or (vec_items t.entries) x Unit' → (r : Bool) → Decides r (e ≡ Num) → (ns : List Name) → r ≡ as_num (type_at ns (look t) x)
num_says t s x h e q true d ns = num_yes t s x h (sym q ∙ d.0 refl) ns
num_says t s x h e q false d ns = num_no t s x h (λ k. let z : ◌≡◌ {A = Bool} false true = d.1 (q ∙ k) in cc) ns

-- a record's entry
pub run_found : (e : Entry) (p : Run) → Some p ≡ run_part e → e ≡ Record p
run_found Unit' p h = absurd cc
run_found Num p h = absurd cc
run_found Truth p h = absurd cc
run_found Text p h = absurd cc
run_found (Bag j) p h = absurd cc
run_found (Either q) p h = absurd cc
run_found (Record q) p h = cc

no_fields : (ns : List Name) (ts : List Ty) (fs : List Field) (e : Entry) → None ≡ run_part e → fields_of (meaning ns ts (shape fs e)) ≡ []
unfolding meaning fields_of
no_fields ns ts fs Unit' h = refl
no_fields ns ts fs Num h = refl
no_fields ns ts fs Truth h = refl
no_fields ns ts fs Text h = refl
no_fields ns ts fs (Bag j) h = refl
no_fields ns ts fs (Either p) h = refl
no_fields ns ts fs (Record p) h = absurd cc

pub fields_none : (t : Table) → Tidy t → (x : ℕ) → x < size t → None ≡ run_part (get_or (vec_items t.entries) x Unit') → (ns : List Name) → fields_of (type_at ns (look t) x) ≡ []
fields_none t s x h e ns = ap fields_of (type_here t s x h ns) ∙ no_fields ns (types ns (look t)) (vec_items t.fields) (get_or (vec_items t.entries) x Unit') e

-- what is known of the fields of a record's entry
pub record Has (t : Table) (x : ℕ) (p : Run) : Type 0 where
  pub lies : p.start + p.count ≤ length (vec_items t.fields)
  pub rises : Rising t.names (size t) 0 (take p.count (drop p.start (vec_items t.fields)))
  pub is : (ns : List Name) → type_at ns (look t) x ≡ a_rec (run ns (types ns (look t)) (take p.count (drop p.start (vec_items t.fields))))

pub rising_wide : (w k l p : ℕ) (fs : List Field) → k ≤ l → Rising w k p fs → Rising w l p fs
unfolding Rising
rising_wide w k l p [] h r = tt
rising_wide w k l p (f ∷ fs) h r = (r.0, r.1, omega (arith, r.2), rising_wide w k l (suc f.name) fs h r.3)

pub has : (t : Table) → Tidy t → (x : ℕ) → x < size t → (p : Run) → Some p ≡ run_part (get_or (vec_items t.entries) x Unit') → Has t x p
unfolding meaning Below
has t s x h p e =
    let q : get_or (vec_items t.entries) x Unit' ≡ Record p = run_found (get_or (vec_items t.entries) x Unit') p e in
    record {
      lies = subst (λ z. Lies (length (vec_items t.fields)) z) q (s.sound.lies x h);
      rises = rising_wide t.names x (size t) 0 _ (omega arith) (subst (λ z. Below t.names x (shape (vec_items t.fields) z)) q (below_here t s x h));
      is = λ ns. type_here t s x h ns ∙ ap (λ (z : Entry). meaning ns (types ns (look t)) (shape (vec_items t.fields) z)) q;
    }

-- an either's entry
pub sides_found : (e : Entry) (p : Two) → Some p ≡ sides_part e → e ≡ Either p
sides_found Unit' p h = absurd cc
sides_found Num p h = absurd cc
sides_found Truth p h = absurd cc
sides_found Text p h = absurd cc
sides_found (Bag j) p h = absurd cc
sides_found (Either q) p h = cc
sides_found (Record q) p h = absurd cc

no_sides : (ns : List Name) (ts : List Ty) (fs : List Field) (e : Entry) → None ≡ sides_part e → sides_of (meaning ns ts (shape fs e)) ≡ []
unfolding meaning sides_of
no_sides ns ts fs Unit' h = refl
no_sides ns ts fs Num h = refl
no_sides ns ts fs Truth h = refl
no_sides ns ts fs Text h = refl
no_sides ns ts fs (Bag j) h = refl
no_sides ns ts fs (Either p) h = absurd cc
no_sides ns ts fs (Record p) h = refl

pub sides_none : (t : Table) → Tidy t → (x : ℕ) → x < size t → None ≡ sides_part (get_or (vec_items t.entries) x Unit') → (ns : List Name) → sides_of (type_at ns (look t) x) ≡ []
sides_none t s x h e ns = ap sides_of (type_here t s x h ns) ∙ no_sides ns (types ns (look t)) (vec_items t.fields) (get_or (vec_items t.entries) x Unit') e

pub record Sided (t : Table) (x : ℕ) (p : Two) : Type 0 where
  pub left : p.left < size t
  pub right : p.right < size t
  pub is : (ns : List Name) → sides_of (type_at ns (look t) x) ≡ record { l = type_at ns (look t) p.left; r = type_at ns (look t) p.right } ∷ []

pub sided : (t : Table) → Tidy t → (x : ℕ) → x < size t → (p : Two) → Some p ≡ sides_part (get_or (vec_items t.entries) x Unit') → Sided t x p
unfolding meaning Below sides_of
sided t s x h p e =
    let q : get_or (vec_items t.entries) x Unit' ≡ Either p = sides_found (get_or (vec_items t.entries) x Unit') p e in
    let b : (p.left < x) × (p.right < x) = subst (λ z. Below t.names x (shape (vec_items t.fields) z)) q (below_here t s x h) in
    record {
      left = omega (arith, b.0);
      right = omega (arith, b.1);
      is = λ ns. ap sides_of (type_here t s x h ns ∙ ap (λ (z : Entry). meaning ns (types ns (look t)) (shape (vec_items t.fields) z)) q);
    }

-- what is shown where there is room
pub stays_if : {ns : List Name} {t : Table} (f s : ℕ) (r : Option ℕ) (T : List Ty) → (Room t f s → T ≡ told ns (look t) r) → Meant ns t t f s r T
stays_if f s r T e = record { few = λ o. omega arith; slim = λ o. omega arith; means = e }

pub meant_if : {ns : List Name} {t u : Table} {f s : ℕ} {r : Option ℕ} {T : List Ty} → Meant ns t u f s r T → (S : List Ty) → (Room t f s → S ≡ T) → Meant ns t u f s r S
meant_if m S e = record { few = m.few; slim = m.slim; means = λ o. e o ∙ m.means o }

-- what was only looked up
pub seen : {ns : List Name} {t : Table} {f s : ℕ} {r : Option ℕ} {T : List Ty} → Meant ns t t 0 0 r T → Room t f s → T ≡ told ns (look t) r
seen m o = m.means (less_room 0 0 o (omega arith) (omega arith))

-- two numbers of one type are one
pub differ : (t : Table) → Tidy t → (x y : ℕ) → x < size t → y < size t → (x ≡ y → ⊥) → (ns : List Name) → Ranked ns t.names → type_at ns (look t) x ≡ type_at ns (look t) y → ⊥
differ t s x y h l e ns rk q = e (one_number rk s.sound.good x y (omega (arith, shapes_length (vec_items t.fields) (vec_items t.entries))) (omega (arith, shapes_length (vec_items t.fields) (vec_items t.entries))) q)

-- where there is a name, there is room for a field
pub one_more : (t : Table) (n : ℕ) → n < t.names → Room t 1 t.names → spread t + 1 ≤ 16793600
one_more t n h o = omega (arith, o.fields)
