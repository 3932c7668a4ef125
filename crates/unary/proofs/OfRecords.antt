-- What comes of records.
use Rattle.std.proofs.Common.{◌≡◌, ℕ, ◌+◌, ◌*◌, ◌≤◌, List, [], ◌∷◌, length, Some, None, Ok, Err, Result, sym, refl, ap, ◌∙◌, subst, arith}
use Rattle.query.specs.Data.{Name, Data, rec, Fields, no_field, field, get, left_out, only}
use Rattle.query.specs.Query.{Op1, dot, as_field, without, project, Got, came, adding, on_rec, apply1, get_or_fail}
use Rattle.values.specs.Memory.{Used, Spelled, Kept}
use Rattle.values.specs.Making.{RecordLies}
use Rattle.values.specs.declared.value.Place.{Place}
use Rattle.values.specs.declared.value.Value.{Value}
use Rattle.values.specs.Made.{Made}
use Rattle.values.proofs.Frame.{kept_refl}
use Rattle.records.specs.Parts.{how_many_fields}
use Rattle.records.specs.Records.{FieldsBelow, MakesField, Finds, LeavesOut, NamesStand, TakesOnly}
use Rattle.records.proofs.Fields.{record_below}
use Rattle.operators.specs.Kinds.{as_record}
use Rattle.operators.specs.Means.{Means}
use Rattle.operators.specs.Came.{Came}
use Rattle.operators.specs.declared.came.Stop.{Stop}
use Rattle.operators.specs.declared.came.Stop.TheVariants.{NoRoom, Wrong}
use Rattle.operators.proofs.OfKind.{is_record, no_record}
use Rattle.unary.specs.Unary.{Lies, PaysFor, TurnsByName, TurnsByNames}
use Rattle.unary.proofs.Paying.{stopped_wrong, made_here, is_here, lacks_room}

-- a record of one field
module _ (bs : List ℕ) (q : Place) (v : Value) (m : List ℕ) (top budget : ℕ) (n : List ℕ) where
  pub field_turns : (r : Made) → MakesField q v m top n (Some r) → TurnsByName as_field bs q v m top budget n (Ok (record { value = r.value; top = r.top; left = budget }))
  unfolding apply1 how_many_fields
  field_turns r p = record {
    kept = p.kept;
    means = λ a rate u d s g pay.
        let dear : 5 * how_many_fields (field a d no_field) ≤ rate = pay (field a d no_field) refl in
        made_here bs rate (adding 1 (came 0 (rec (field a d no_field)))) (rec (field a d no_field)) (1 + budget) u top n 5 budget r refl refl (omega (arith, dear)) (p.means bs u a d s g.holds g.low);
  }

  pub field_short : MakesField q v m top n None → TurnsByName as_field bs q v m top budget n (Err NoRoom)
  unfolding apply1 how_many_fields
  field_short p = record {
    kept = p.kept;
    means = λ a rate u d s g pay.
        let dear : 5 * how_many_fields (field a d no_field) ≤ rate = pay (field a d no_field) refl in
        lacks_room bs rate (adding 1 (came 0 (rec (field a d no_field)))) (rec (field a d no_field)) (1 + budget) u top n 5 (omega arith) (omega (arith, dear)) (p.means bs u a d s g.holds g.low);
  }

-- the operators by what they do with a record's fields
dot_on : (a : Name) (d : Data) → apply1 (dot a) d ≡ on_rec d (λ fs. get_or_fail (get a fs))
unfolding apply1
dot_on a d = refl

without_on : (a : Name) (d : Data) → apply1 (without a) d ≡ on_rec d (λ fs. came 0 (rec (left_out a fs)))
unfolding apply1
without_on a d = refl

only_on : (ns : List Name) (d : Data) → apply1 (project ns) d ≡ on_rec d (λ fs. came 0 (rec (only ns fs)))
unfolding apply1
only_on ns d = refl

-- it is no record
module _ (bs : List ℕ) (v : Value) (m : List ℕ) (top budget : ℕ) (s : Stop) (e : as_record v ≡ Err s) where
  by_name_wrong : (o : Name → Op1) (f : Name → Fields → Got) → ((a : Name) (d : Data) → apply1 (o a) d ≡ on_rec d (f a)) → (q : Place) → TurnsByName o bs q v m top budget m (Err s)
  by_name_wrong o f fits q = record {
    kept = kept_refl;
    means = λ a rate u d z g pay.
        let k = no_record bs m u d v (f a) s g.holds e in
        stopped_wrong rate (adding 1 (apply1 (o a) d)) (1 + budget) top (length m) s k.0 (ap (λ (x : Got). x.is) (fits a d) ∙ k.1);
  }

  pub dot_no_record : (q : Place) → TurnsByName dot bs q v m top budget m (Err s)
  dot_no_record = by_name_wrong dot (λ a fs. get_or_fail (get a fs)) dot_on

  pub without_no_record : (q : Place) → TurnsByName without bs q v m top budget m (Err s)
  without_no_record = by_name_wrong without (λ a fs. came 0 (rec (left_out a fs))) without_on

  pub only_no_record : (at k : ℕ) → TurnsByNames bs at k v m top budget m (Err s)
  only_no_record at j = record {
    kept = kept_refl;
    means = λ ns rate u d z g pay.
        let k = no_record bs m u d v (λ fs. came 0 (rec (only ns fs))) s g.holds e in
        stopped_wrong rate (adding 1 (apply1 (project ns) d)) (1 + budget) top (length m) s k.0 (ap (λ (x : Got). x.is) (only_on ns d) ∙ k.1);
  }

-- it is a record
module _ (v : Value) (m : List ℕ) (top budget : ℕ) (p : Place) (e : as_record v ≡ Ok p) where
  pub record_reads : Lies v m top → FieldsBelow p top
  record_reads l =
      let q = is_record l.bytes m l.used l.datum v p l.holds e in
      record_below {bs = l.bytes} {m = m} {fs = q.0} (record { run = q.2; lie = q.3; low = l.low; room = l.room })

  module _ (bs : List ℕ) where
    by_name_case : (o : Name → Op1) (q : Place) (n : List ℕ) (r : Result Came Stop) → Kept top m n →
        ((a : Name) (rate : ℕ) (u : Used) (fs : Fields) → Spelled bs a q.start q.count → RecordLies bs m p fs u top → PaysFor rate (apply1 (o a) (rec fs)) → Means bs rate (adding 1 (apply1 (o a) (rec fs))) (1 + budget) u top n r) →
        TurnsByName o bs q v m top budget n r
    by_name_case o q n r k f = record {
      kept = k;
      means = λ a rate u d s g pay.
          let x = is_record bs m u d v p g.holds e in
          subst (λ y. Means bs rate (adding 1 (apply1 (o a) y)) (1 + budget) u top n r) (sym x.1)
          (f a rate u x.0 s (record { run = x.2; lie = x.3; low = g.low; room = g.room }) (subst (λ y. PaysFor rate (apply1 (o a) y)) x.1 pay));
    }

    dot_is : (a : Name) (fs : Fields) (ds : List Data) → get a fs ≡ ds → apply1 (dot a) (rec fs) ≡ get_or_fail ds
    unfolding apply1 on_rec
    dot_is a fs ds h = ap get_or_fail h

    pub dot_turns : (q : Place) (w : Value) → Finds bs q p m (Some w) → TurnsByName dot bs q v m top budget m (Ok (record { value = w; top = top; left = budget }))
    unfolding get_or_fail
    dot_turns q w f = by_name_case dot q m (Ok (record { value = w; top = top; left = budget })) kept_refl (λ a rate u fs s l pay.
        let x = f.means a u fs top s l in
        subst (λ y. Means bs rate (adding 1 y) (1 + budget) u top m (Ok (record { value = w; top = top; left = budget }))) (sym (dot_is a fs (x.0 ∷ []) x.1))
        (is_here bs rate (adding 1 (came 0 x.0)) x.0 (1 + budget) u top m budget w refl refl l.room x.2))

    pub dot_wrong : (q : Place) → Finds bs q p m None → TurnsByName dot bs q v m top budget m (Err Wrong)
    unfolding get_or_fail
    dot_wrong q f = by_name_case dot q m (Err Wrong) kept_refl (λ a rate u fs s l pay. ap (λ (x : Got). x.is) (dot_is a fs [] (f.means a u fs top s l)))

    pub without_turns : (q : Place) (n : List ℕ) (r : Made) → LeavesOut bs q p m top n (Some r) → TurnsByName without bs q v m top budget n (Ok (record { value = r.value; top = r.top; left = budget }))
    unfolding apply1 on_rec
    without_turns q n r t = by_name_case without q n (Ok (record { value = r.value; top = r.top; left = budget })) t.kept (λ a rate u fs s l pay.
        let dear : 5 * how_many_fields (left_out a fs) ≤ rate = pay (left_out a fs) refl in
        made_here bs rate (adding 1 (came 0 (rec (left_out a fs)))) (rec (left_out a fs)) (1 + budget) u top n (5 * how_many_fields (left_out a fs)) budget r refl refl (omega (arith, dear)) (t.means a u fs s l))

    pub without_short : (q : Place) (n : List ℕ) → LeavesOut bs q p m top n None → TurnsByName without bs q v m top budget n (Err NoRoom)
    unfolding apply1 on_rec
    without_short q n t = by_name_case without q n (Err NoRoom) t.kept (λ a rate u fs s l pay.
        let dear : 5 * how_many_fields (left_out a fs) ≤ rate = pay (left_out a fs) refl in
        lacks_room bs rate (adding 1 (came 0 (rec (left_out a fs)))) (rec (left_out a fs)) (1 + budget) u top n (5 * how_many_fields (left_out a fs)) (omega arith) (omega (arith, dear)) (t.means a u fs s l))

    only_case : (at k : ℕ) (n : List ℕ) (r : Result Came Stop) → Kept top m n →
        ((ns : List Name) (rate : ℕ) (u : Used) (fs : Fields) → NamesStand bs at k ns → RecordLies bs m p fs u top → PaysFor rate (apply1 (project ns) (rec fs)) → Means bs rate (adding 1 (apply1 (project ns) (rec fs))) (1 + budget) u top n r) →
        TurnsByNames bs at k v m top budget n r
    only_case at j n r k f = record {
      kept = k;
      means = λ ns rate u d s g pay.
          let x = is_record bs m u d v p g.holds e in
          subst (λ y. Means bs rate (adding 1 (apply1 (project ns) y)) (1 + budget) u top n r) (sym x.1)
          (f ns rate u x.0 s (record { run = x.2; lie = x.3; low = g.low; room = g.room }) (subst (λ y. PaysFor rate (apply1 (project ns) y)) x.1 pay));
    }

    pub only_turns : (at k : ℕ) (n : List ℕ) (r : Made) → TakesOnly bs at k p m top n (Some r) → TurnsByNames bs at k v m top budget n (Ok (record { value = r.value; top = r.top; left = budget }))
    unfolding apply1 on_rec
    only_turns at k n r t = only_case at k n (Ok (record { value = r.value; top = r.top; left = budget })) t.kept (λ ns rate u fs s l pay.
        let dear : 5 * how_many_fields (only ns fs) ≤ rate = pay (only ns fs) refl in
        made_here bs rate (adding 1 (came 0 (rec (only ns fs)))) (rec (only ns fs)) (1 + budget) u top n (5 * how_many_fields (only ns fs)) budget r refl refl (omega (arith, dear)) (t.means ns u fs s l))

    pub only_short : (at k : ℕ) (n : List ℕ) → TakesOnly bs at k p m top n None → TurnsByNames bs at k v m top budget n (Err NoRoom)
    unfolding apply1 on_rec
    only_short at k n t = only_case at k n (Err NoRoom) t.kept (λ ns rate u fs s l pay.
        let dear : 5 * how_many_fields (only ns fs) ≤ rate = pay (only ns fs) refl in
        lacks_room bs rate (adding 1 (came 0 (rec (only ns fs)))) (rec (only ns fs)) (1 + budget) u top n (5 * how_many_fields (only ns fs)) (omega arith) (omega (arith, dear)) (t.means ns u fs s l))
