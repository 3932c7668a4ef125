-- Bags and records, written thing by thing: what holds on the way.
use Rattle.std.proofs.Common.{◌≡◌, ℕ, ◌+◌, ◌-◌, ◌*◌, ◌<◌, ◌≤◌, List, [], ◌∷◌, ◌++◌, length, take, drop, Some, None, Option, sym, refl, ap, ◌∙◌, subst, arith, length-append, length-drop, length-take-le}
use borrow.Rule.Slice.PartMut.{put_mid}
use Rattle.std.proofs.lemmas.List.{append_assoc, append-nil, take_rest}
use Rattle.std.specs.Int.{w64, to_le_bytes}
use Rattle.query.specs.Data.{bag, rec, Datas, Fields}
use Rattle.format.specs.Coding.{le, name, writes}
use Rattle.format.specs.Wire.{names, write_data, write_datas, write_values}
use Rattle.values.specs.Memory.{Used, Under, Run, Holds, HoldsAll, HoldsFields, loaded, loaded_field}
use Rattle.values.specs.declared.value.Place.{Place}
use Rattle.values.specs.declared.value.Field.{Field}
use Rattle.values.specs.declared.value.Value.{Value}
use Rattle.values.specs.declared.value.Value.TheVariants.{Bag, Record}
use Rattle.writing.specs.Puts.{BeginsWith, Put, PutsName}
use Rattle.writing.specs.Writes.{WritesAny, WritesNames}
use Rattle.writing.proofs.Fronts.{le_4, then_put, then_none, none_first}
use Rattle.writing.proofs.Views.{held, many_things, many_fields, past, moved_things, moved_fields, First, first, nothing_left, FirstField, first_field, no_fields_left}

-- so much is written, and the rest of it is to come
module _ (was now : List ℕ) (n : ℕ) (long : length now ≡ length was) (within : n ≤ length was) where
  so_far : BeginsWith (take n now) was now n
  so_far = record { end = sym (length-take-le n now (omega arith)); within = within; is = refl }

  pub whole : (all rest : List ℕ) → take n now ++ rest ≡ all → rest ≡ [] → BeginsWith all was now n
  whole all rest e z =
      let q : take n now ≡ all = sym (append-nil (take n now)) ∙ ap (λ x. take n now ++ x) (sym z) ∙ e in
      record { end = sym (length-take-le n now (omega arith)) ∙ ap length q; within = within; is = q }

  module _ (all x rest part : List ℕ) (e : take n now ++ (x ++ rest) ≡ all) where
    pub stops : length (take (length now - n) (drop n now)) < length x → length was < length all
    stops l = omega (arith, then_none (take n now) x was now part n long so_far l, length-append (take n now) x, length-append (take n now) (x ++ rest), length-append x rest, ap length e)

    pub goes_on : (k i : ℕ) → length part ≡ length (take (length now - n) (drop n now)) → BeginsWith x (take (length now - n) (drop n now)) part i → take (n + i) (put_mid n k now part) ++ rest ≡ all
    goes_on k i lp f = ap (λ y. y ++ rest) (then_put (take n now) x was now part n long so_far k i lp f).is ∙ append_assoc (take n now) x rest ∙ e

-- a bag's things, a record's fields lie at a place
pub record BagThere (bs m : List ℕ) (p : Place) : Type 0 where
  pub things : Datas
  pub used : Used
  pub run : Run used p.start (3 * p.count)
  pub lie : HoldsAll bs m used things p.start p.count
  pub low : Under used (length m)

pub record RecordThere (bs m : List ℕ) (p : Place) : Type 0 where
  pub fields : Fields
  pub used : Used
  pub run : Run used p.start (5 * p.count)
  pub lie : HoldsFields bs m used fields p.start p.count
  pub low : Under used (length m)

on_bag : (bs m : List ℕ) (p : Place) (was now : List ℕ) (r : Option ℕ) → ((g : BagThere bs m p) → Put (write_data (bag g.things)) was now r) → WritesAny bs m (Bag p) was now r
on_bag bs m p was now r f = record {
  means = λ d u h low.
      let x = held bs m u d (Bag p) h in
      subst (λ v. Put (write_data v) was now r) (sym x.1) (f (record { things = x.0; used = u; run = x.2; lie = x.3; low = low }));
}

on_record : (bs m : List ℕ) (p : Place) (was now : List ℕ) (r : Option ℕ) → ((g : RecordThere bs m p) → Put (write_data (rec g.fields)) was now r) → WritesAny bs m (Record p) was now r
on_record bs m p was now r f = record {
  means = λ d u h low.
      let x = held bs m u d (Record p) h in
      subst (λ v. Put (write_data v) was now r) (sym x.1) (f (record { fields = x.0; used = u; run = x.2; lie = x.3; low = low }));
}

-- a bag
module _ (bs m : List ℕ) (p : Place) where
  bag_bytes : (g : BagThere bs m p) → (5 ∷ take 4 (to_le_bytes w64 p.count)) ++ write_datas g.things ≡ write_data (bag g.things)
  unfolding write_data
  bag_bytes g = ap (λ v. 5 ∷ (v ++ write_datas g.things)) (le_4 p.count) ∙ ap (λ k. 5 ∷ (le 4 k ++ write_datas g.things)) (sym (many_things bs m g.used g.things p.start p.count g.lie))

  pub bag_none : (was now : List ℕ) → length was < length (5 ∷ take 4 (to_le_bytes w64 p.count)) → WritesAny bs m (Bag p) was now None
  bag_none was now l = on_bag bs m p was now None (λ g. subst (λ v. length was < length v) (bag_bytes g) (none_first (5 ∷ take 4 (to_le_bytes w64 p.count)) (write_datas g.things) was l))

  pub bag_past : (was now : List ℕ) → 0 < p.count → length m < p.start + 3 * p.count → WritesAny bs m (Bag p) was now None
  bag_past was now z l = on_bag bs m p was now None (λ g. absurd (past g.used p.start (3 * p.count) (length m) (omega arith) l g.run g.low))

  pub record BagGoing (g : BagThere bs m p) (now : List ℕ) (i n : ℕ) : Type 0 where
    pub to_come : Datas
    pub run : Run g.used (p.start + 3 * i) (3 * (p.count - i))
    pub lie : HoldsAll bs m g.used to_come (p.start + 3 * i) (p.count - i)
    pub written : take n now ++ write_datas to_come ≡ write_data (bag g.things)

  -- `i` things are written in `n` numbers
  pub record BagTurn (was now : List ℕ) (i n : ℕ) : Type 0 where
    pub some : 1 ≤ n
    pub long : length now ≡ length was
    pub within : n ≤ length was
    pub going : (g : BagThere bs m p) → BagGoing g now i n

  pub bag_begin : (was now : List ℕ) (n : ℕ) → length now ≡ length was → BeginsWith (5 ∷ take 4 (to_le_bytes w64 p.count)) was now n → BagTurn was now 0 n
  bag_begin was now n long f = record {
    some = omega (arith, f.end);
    long = long;
    within = f.within;
    going = λ g.
        record {
          to_come = g.things;
          run = record { used = λ j x y. g.run.used j (omega arith) (omega arith) };
          lie = moved_things bs m g.used g.things _ _ _ _ (omega arith) (omega arith) g.lie;
          written = ap (λ v. v ++ write_datas g.things) f.is ∙ bag_bytes g;
        };
  }

  module _ (was now : List ℕ) (i n : ℕ) (t : BagTurn was now i n) where
    pub bag_whole : i ≡ p.count → WritesAny bs m (Bag p) was now (Some n)
    bag_whole e = on_bag bs m p was now (Some n) (λ g.
        let w = t.going g in
        whole was now n t.long t.within (write_data (bag g.things)) (write_datas w.to_come) w.written (nothing_left bs m g.used w.to_come (p.start + 3 * i) (p.count - i) (omega arith) w.lie))

    module _ (lt : i < p.count) where
      bag_next : (g : BagThere bs m p) → First bs m g.used (t.going g).to_come (p.start + 3 * i) (p.count - i)
      bag_next g = first bs m g.used (t.going g).to_come (p.start + 3 * i) (p.count - i) (omega arith) (t.going g).lie

      bag_split : (g : BagThere bs m p) → take n now ++ (write_data (bag_next g).item ++ write_datas (bag_next g).others) ≡ write_data (bag g.things)
      bag_split g = ap (λ v. take n now ++ v) (sym (bag_next g).written) ∙ (t.going g).written

      module _ (v : Value) (q : v ≡ loaded m (p.start + 3 * i)) (part : List ℕ) where
        bag_item : (g : BagThere bs m p) (r : Option ℕ) → WritesAny bs m v (take (length now - n) (drop n now)) part r → Put (write_data (bag_next g).item) (take (length now - n) (drop n now)) part r
        bag_item g r f = let x = bag_next g in f.means x.item g.used (subst (λ y. Holds bs m g.used x.item y) (sym q) x.holds) g.low

        pub bag_stop : (now' : List ℕ) → WritesAny bs m v (take (length now - n) (drop n now)) part None → WritesAny bs m (Bag p) was now' None
        bag_stop now' f = on_bag bs m p was now' None (λ g.
            stops was now n t.long t.within (write_data (bag g.things)) (write_data (bag_next g).item) (write_datas (bag_next g).others) part (bag_split g) (bag_item g None f))

        pub bag_turned : (k e : ℕ) → length part ≡ length (take (length now - n) (drop n now)) → e ≤ length (take (length now - n) (drop n now)) → length (put_mid n k now part) ≡ length now → WritesAny bs m v (take (length now - n) (drop n now)) part (Some e)
            → BagTurn was (put_mid n k now part) (i + 1) (n + e)
        bag_turned k e lp lq same f = record {
          some = omega (arith, t.some);
          long = same ∙ t.long;
          within = omega (arith, ap length (take_rest now n), length-drop n now, t.long, t.within);
          going = λ g.
              let w = t.going g in
              let x = bag_next g in
              record {
                to_come = x.others;
                run = record { used = λ j y z. w.run.used j (omega arith) (omega arith) };
                lie = moved_things bs m g.used x.others _ _ _ _ (omega arith) (omega arith) x.lie;
                written = goes_on was now n t.long t.within (write_data (bag g.things)) (write_data x.item) (write_datas x.others) part (bag_split g) k e lp (bag_item g (Some e) f);
              };
        }

-- the names of a record
module _ (bs m : List ℕ) (p : Place) where
  on_names : (was now : List ℕ) (r : Option ℕ) → ((g : RecordThere bs m p) → Put (writes name (names g.fields)) was now r) → WritesNames bs m p was now r
  on_names was now r f = record { means = λ fs u run lie low. f (record { fields = fs; used = u; run = run; lie = lie; low = low }) }

  pub record NamesGoing (g : RecordThere bs m p) (now : List ℕ) (i n : ℕ) : Type 0 where
    pub to_come : Fields
    pub run : Run g.used (p.start + 5 * i) (5 * (p.count - i))
    pub lie : HoldsFields bs m g.used to_come (p.start + 5 * i) (p.count - i)
    pub written : take n now ++ writes name (names to_come) ≡ writes name (names g.fields)

  -- `i` names are written in `n` numbers
  pub record NamesTurn (was now : List ℕ) (i n : ℕ) : Type 0 where
    pub long : length now ≡ length was
    pub within : n ≤ length was
    pub going : (g : RecordThere bs m p) → NamesGoing g now i n

  module _ (was now : List ℕ) (i n : ℕ) (t : NamesTurn was now i n) where
    pub names_whole : i ≡ p.count → WritesNames bs m p was now (Some n)
    names_whole e = on_names was now (Some n) (λ g.
        let w = t.going g in
        whole was now n t.long t.within (writes name (names g.fields)) (writes name (names w.to_come)) w.written (no_fields_left bs m g.used w.to_come (p.start + 5 * i) (p.count - i) (omega arith) w.lie).1)

    module _ (lt : i < p.count) where
      module _ (f : Field) (q : f ≡ loaded_field m (p.start + 5 * i)) (part : List ℕ) where
        names_next : (g : RecordThere bs m p) → FirstField bs m g.used (t.going g).to_come f (p.start + 5 * i) (p.count - i)
        names_next g = first_field bs m g.used (t.going g).to_come f (p.start + 5 * i) (p.count - i) (omega arith) q (t.going g).lie

        names_split : (g : RecordThere bs m p) → take n now ++ (name.write (names_next g).nm ++ writes name (names (names_next g).others)) ≡ writes name (names g.fields)
        names_split g = ap (λ v. take n now ++ v) (sym (names_next g).named) ∙ (t.going g).written

        pub names_stop : (now' : List ℕ) → PutsName bs f.name (take (length now - n) (drop n now)) part None → WritesNames bs m p was now' None
        names_stop now' h = on_names was now' None (λ g.
            let x = names_next g in
            stops was now n t.long t.within (writes name (names g.fields)) (name.write x.nm) (writes name (names x.others)) part (names_split g) (h.means x.nm x.spelled))

        pub names_turned : (k e : ℕ) → length part ≡ length (take (length now - n) (drop n now)) → e ≤ length (take (length now - n) (drop n now)) → length (put_mid n k now part) ≡ length now → PutsName bs f.name (take (length now - n) (drop n now)) part (Some e)
            → NamesTurn was (put_mid n k now part) (i + 1) (n + e)
        names_turned k e lp lq same h = record {
          long = same ∙ t.long;
          within = omega (arith, ap length (take_rest now n), length-drop n now, t.long, t.within);
          going = λ g.
              let w = t.going g in
              let x = names_next g in
              record {
                to_come = x.others;
                run = record { used = λ j y z. w.run.used j (omega arith) (omega arith) };
                lie = moved_fields bs m g.used x.others _ _ _ _ (omega arith) (omega arith) x.lie;
                written = goes_on was now n t.long t.within (writes name (names g.fields)) (name.write x.nm) (writes name (names x.others)) part (names_split g) k e lp (h.means x.nm x.spelled);
              };
        }

-- a record
module _ (bs m : List ℕ) (p : Place) where
  record_head : (g : RecordThere bs m p) → (6 ∷ take 4 (to_le_bytes w64 p.count)) ++ (writes name (names g.fields) ++ write_values g.fields) ≡ write_data (rec g.fields)
  unfolding write_data
  record_head g =
      let ns = names g.fields in
      ap (λ v. 6 ∷ (v ++ (writes name ns ++ write_values g.fields))) (le_4 p.count)
      ∙ ap (λ k. 6 ∷ (le 4 k ++ (writes name ns ++ write_values g.fields))) (sym (many_fields bs m g.used g.fields p.start p.count g.lie))
      ∙ ap (λ v. 6 ∷ v) (sym (append_assoc (le 4 (length ns)) (writes name ns) (write_values g.fields)))

  pub record_none : (was now : List ℕ) → length was < length (6 ∷ take 4 (to_le_bytes w64 p.count)) → WritesAny bs m (Record p) was now None
  record_none was now l = on_record bs m p was now None (λ g.
      subst (λ v. length was < length v) (record_head g) (none_first (6 ∷ take 4 (to_le_bytes w64 p.count)) (writes name (names g.fields) ++ write_values g.fields) was l))

  pub record_past : (was now : List ℕ) → 0 < p.count → length m < p.start + 5 * p.count → WritesAny bs m (Record p) was now None
  record_past was now z l = on_record bs m p was now None (λ g. absurd (past g.used p.start (5 * p.count) (length m) (omega arith) l g.run g.low))

  said_names : (part was : List ℕ) (r : Option ℕ) → WritesNames bs m p was part r → (g : RecordThere bs m p) → Put (writes name (names g.fields)) was part r
  said_names part was r f g = f.means g.fields g.used g.run g.lie g.low

  pub record RecordGoing (g : RecordThere bs m p) (now : List ℕ) (i n : ℕ) : Type 0 where
    pub to_come : Fields
    pub run : Run g.used (p.start + 5 * i) (5 * (p.count - i))
    pub lie : HoldsFields bs m g.used to_come (p.start + 5 * i) (p.count - i)
    pub written : take n now ++ write_values to_come ≡ write_data (rec g.fields)

  -- the names and `i` values are written in `n` numbers
  pub record RecordTurn (was now : List ℕ) (i n : ℕ) : Type 0 where
    pub some : 1 ≤ n
    pub long : length now ≡ length was
    pub within : n ≤ length was
    pub going : (g : RecordThere bs m p) → RecordGoing g now i n

  module _ (was b : List ℕ) (n : ℕ) (long : length b ≡ length was) (f : BeginsWith (6 ∷ take 4 (to_le_bytes w64 p.count)) was b n) (part : List ℕ) where
    pub record_unnamed : (now : List ℕ) → WritesNames bs m p (take (length b - n) (drop n b)) part None → WritesAny bs m (Record p) was now None
    record_unnamed now h = on_record bs m p was now None (λ g.
        let ns = writes name (names g.fields) in
        let z = then_none (6 ∷ take 4 (to_le_bytes w64 p.count)) ns was b part n long f (said_names part _ None h g) in
        subst (λ v. length was < length v) (append_assoc (6 ∷ take 4 (to_le_bytes w64 p.count)) ns (write_values g.fields) ∙ record_head g) (none_first ((6 ∷ take 4 (to_le_bytes w64 p.count)) ++ ns) (write_values g.fields) was z))

    pub record_begin : (k e : ℕ) → length part ≡ length (take (length b - n) (drop n b)) → e ≤ length (take (length b - n) (drop n b)) → length (put_mid n k b part) ≡ length b → WritesNames bs m p (take (length b - n) (drop n b)) part (Some e)
        → RecordTurn was (put_mid n k b part) 0 (n + e)
    record_begin k e lp lq same h = record {
      some = omega (arith, f.end);
      long = same ∙ long;
      within = omega (arith, ap length (take_rest b n), length-drop n b, f.within);
      going = λ g.
          let ns = writes name (names g.fields) in
          let x = then_put (6 ∷ take 4 (to_le_bytes w64 p.count)) ns was b part n long f k e lp (said_names part _ (Some e) h g) in
          record {
            to_come = g.fields;
            run = record { used = λ j x y. g.run.used j (omega arith) (omega arith) };
            lie = moved_fields bs m g.used g.fields _ _ _ _ (omega arith) (omega arith) g.lie;
            written = ap (λ v. v ++ write_values g.fields) x.is ∙ append_assoc (6 ∷ take 4 (to_le_bytes w64 p.count)) ns (write_values g.fields) ∙ record_head g;
          };
    }

  module _ (was now : List ℕ) (i n : ℕ) (t : RecordTurn was now i n) where
    pub record_whole : i ≡ p.count → WritesAny bs m (Record p) was now (Some n)
    record_whole e = on_record bs m p was now (Some n) (λ g.
        let w = t.going g in
        whole was now n t.long t.within (write_data (rec g.fields)) (write_values w.to_come) w.written (no_fields_left bs m g.used w.to_come (p.start + 5 * i) (p.count - i) (omega arith) w.lie).0)

    module _ (lt : i < p.count) where
      module _ (f : Field) (q : f ≡ loaded_field m (p.start + 5 * i)) (part : List ℕ) where
        record_next : (g : RecordThere bs m p) → FirstField bs m g.used (t.going g).to_come f (p.start + 5 * i) (p.count - i)
        record_next g = first_field bs m g.used (t.going g).to_come f (p.start + 5 * i) (p.count - i) (omega arith) q (t.going g).lie

        record_split : (g : RecordThere bs m p) → take n now ++ (write_data (record_next g).item ++ write_values (record_next g).others) ≡ write_data (rec g.fields)
        record_split g = ap (λ v. take n now ++ v) (sym (record_next g).written) ∙ (t.going g).written

        record_item : (g : RecordThere bs m p) (r : Option ℕ) → WritesAny bs m f.value (take (length now - n) (drop n now)) part r → Put (write_data (record_next g).item) (take (length now - n) (drop n now)) part r
        record_item g r h = let x = record_next g in h.means x.item g.used x.holds g.low

        pub record_stop : (now' : List ℕ) → WritesAny bs m f.value (take (length now - n) (drop n now)) part None → WritesAny bs m (Record p) was now' None
        record_stop now' h = on_record bs m p was now' None (λ g.
            stops was now n t.long t.within (write_data (rec g.fields)) (write_data (record_next g).item) (write_values (record_next g).others) part (record_split g) (record_item g None h))

        pub record_turned : (k e : ℕ) → length part ≡ length (take (length now - n) (drop n now)) → e ≤ length (take (length now - n) (drop n now)) → length (put_mid n k now part) ≡ length now → WritesAny bs m f.value (take (length now - n) (drop n now)) part (Some e)
            → RecordTurn was (put_mid n k now part) (i + 1) (n + e)
        record_turned k e lp lq same h = record {
          some = omega (arith, t.some);
          long = same ∙ t.long;
          within = omega (arith, ap length (take_rest now n), length-drop n now, t.long, t.within);
          going = λ g.
              let w = t.going g in
              let x = record_next g in
              record {
                to_come = x.others;
                run = record { used = λ j y z. w.run.used j (omega arith) (omega arith) };
                lie = moved_fields bs m g.used x.others _ _ _ _ (omega arith) (omega arith) x.lie;
                written = goes_on was now n t.long t.within (write_data (rec g.fields)) (write_data x.item) (write_values x.others) part (record_split g) k e lp (record_item g (Some e) h);
              };
        }

-- only how much is lent matters, and not what stood there
put_long : (vs a b now : List ℕ) (r : Option ℕ) → length a ≡ length b → Put vs a now r → Put vs b now r
put_long vs a b now (Some n) l f = record { end = f.end; within = omega (arith, f.within); is = f.is }
put_long vs a b now None l f = omega (arith, f)

pub writes_long : (bs m : List ℕ) (v : Value) (a b now : List ℕ) (r : Option ℕ) → length a ≡ length b → WritesAny bs m v a now r → WritesAny bs m v b now r
writes_long bs m v a b now r l f = record { means = λ d u h low. put_long (write_data d) a b now r l (f.means d u h low) }

pub bag_long : (bs m : List ℕ) (p : Place) (a b now : List ℕ) (i n : ℕ) → length a ≡ length b → BagTurn bs m p a now i n → BagTurn bs m p b now i n
bag_long bs m p a b now i n l t = record { some = t.some; long = t.long ∙ l; within = omega (arith, t.within); going = t.going }

pub record_long : (bs m : List ℕ) (p : Place) (a b now : List ℕ) (i n : ℕ) → length a ≡ length b → RecordTurn bs m p a now i n → RecordTurn bs m p b now i n
record_long bs m p a b now i n l t = record { some = t.some; long = t.long ∙ l; within = omega (arith, t.within); going = t.going }
