-- What is told of a datum and its type, from their heads and what is told of their parts.
use Rattle.std.proofs.Common.{◌≡◌, ℕ, ◌-◌, ◌<◌, ◌≤◌, Bool, true, false, List, ◌++◌, length, Some, None, Option, sym, refl, ap, ◌∙◌, subst, ap₂, arith, length-append}
use Rattle.std.specs.Option.{is_some}
use Rattle.query.specs.Data.{Data, bag, rec, left, right, Datas, Fields}
use Rattle.query.specs.Query.{Ty, a_unit, a_num, a_truth, a_text, a_bag, a_rec, an_either, Tys}
use Rattle.query.specs.Types.{elem, sides_of, on_one, is_of, all_of, tables_are}
use Rattle.query.specs.Size.{size_t, size_s}
use Rattle.format.specs.Wire.{write_ty, FitsTy, write_data, FitsData, FitsDatas, FitsValues, FitsTys}
use Rattle.format.specs.declared.node.DataNode.{DataNode}
use Rattle.format.specs.declared.node.DataNode.TheVariants as dn
use Rattle.of_type.specs.declared.Both.{Both}
use Rattle.of_type.specs.declared.Heads.{Heads}
use Rattle.of_type.specs.Told.{IsOfTold, TablesTold}
use Rattle.of_type.specs.Places.{NoLonger, Verdict, DatumIs, BagIs, ValuesAre, Past, TypePast, Meeting, HeadsMet}
use Rattle.of_type.proofs.Fields.{values, tys, values_fit, tys_fit, values_written, tys_written, tys_size, by_values, rec_is, as_many}

-- a type has a part
some_part : (t : Ty) → 0 < size_t t
unfolding size_t
some_part a_unit = omega arith
some_part a_num = omega arith
some_part a_truth = omega arith
some_part a_text = omega arith
some_part (a_bag t) = omega arith
some_part (a_rec ts) = omega arith
some_part (an_either t u) = omega arith

bag_size : (t u : Ty) (limit : ℕ) → t ≡ a_bag u → size_t t ≤ limit → size_t u ≤ limit - 1
unfolding size_t
bag_size t u limit e h = let z = ap size_t e in omega arith

rec_size : (t : Ty) (ts : Tys) (limit : ℕ) → t ≡ a_rec ts → size_t t ≤ limit → size_s (tys ts) ≤ limit - 1
unfolding size_t
rec_size t ts limit e h = let z = ap size_t e in let y = tys_size ts in omega arith

either_size : (t u v : Ty) (limit : ℕ) → t ≡ an_either u v → size_t t ≤ limit → (size_t u ≤ limit - 1) × (size_t v ≤ limit - 1)
unfolding size_t
either_size t u v limit e h = let z = ap size_t e in (omega arith, omega arith)

both_is : (d x : Data) (t u : Ty) → d ≡ x → t ≡ u → is_of d t ≡ is_of x u
both_is d x t u p q = ap₂ (λ (v : Data) (w : Ty). is_of v w) p q

bag_is : (ds : Datas) (u : Ty) → is_of (bag ds) (a_bag u) ≡ all_of ds u
unfolding is_of on_one elem
bag_is ds u = refl

left_is : (x : Data) (u v : Ty) → is_of (left x) (an_either u v) ≡ is_of x u
unfolding is_of on_one sides_of
left_is x u v = refl

right_is : (x : Data) (u v : Ty) → is_of (right x) (an_either u v) ≡ is_of x v
unfolding is_of on_one sides_of
right_is x u v = refl

bag_fits : (d : Data) (ds : Datas) → d ≡ bag ds → FitsData d → FitsDatas ds
unfolding FitsData
bag_fits d ds e f = (subst FitsData e f).1

rec_fits : (d : Data) (fs : Fields) → d ≡ rec fs → FitsData d → FitsValues fs
unfolding FitsData
rec_fits d fs e f = (subst FitsData e f).1

left_fits : (d x : Data) → d ≡ left x → FitsData d → FitsData x
unfolding FitsData
left_fits d x e f = subst FitsData e f

right_fits : (d x : Data) → d ≡ right x → FitsData d → FitsData x
unfolding FitsData
right_fits d x e f = subst FitsData e f

bag_fits_ty : (t u : Ty) → t ≡ a_bag u → FitsTy t → FitsTy u
unfolding FitsTy
bag_fits_ty t u e f = subst FitsTy e f

rec_fits_ty : (t : Ty) (ts : Tys) → t ≡ a_rec ts → FitsTy t → FitsTys ts
unfolding FitsTy
rec_fits_ty t ts e f = (subst FitsTy e f).1

either_fits_ty : (t u v : Ty) → t ≡ an_either u v → FitsTy t → FitsTy u × FitsTy v
unfolding FitsTy
either_fits_ty t u v e f = subst FitsTy e f

verdict : (rest rest' : List ℕ) (b c : Bool) (r : Option Both) → c ≡ b → Verdict rest rest' b r → Verdict rest rest' c r
verdict rest rest' b c r e v = subst (λ (w : Bool). Verdict rest rest' w r) (sym e) v

no_longer : (b c : Both) (r : Option Both) → NoLonger b (Some c) → NoLonger c r → NoLonger b r
no_longer b c None h n = tt
no_longer b c (Some e) h n = (omega (arith, h.0, n.0), omega (arith, h.1, n.1))

-- no parts left to look at
pub no_limit : (limit : ℕ) (b : Both) → limit ≡ 0 → DatumIs limit b None
no_limit limit b z = record { within = tt; tells = λ d t rest rest' f g p q s. absurd (let y = some_part t in omega arith) }

module _ (limit : ℕ) (b : Both) (h : Heads) (m : HeadsMet b (Some h)) where
  meeting : (n : DataNode) → h.node ≡ n → (d : Data) (t : Ty) (rest rest' : List ℕ) → FitsData d → FitsTy t → b.datum.now ≡ write_data d ++ rest → b.ty.now ≡ write_ty t ++ rest' → Meeting n d t h.after.datum.now h.after.ty.now rest rest'
  meeting n e d t rest rest' f g p q = subst (λ (v : DataNode). Meeting v d t h.after.datum.now h.after.ty.now rest rest') e (m.tells d t rest rest' f g p q)

  pub as_bag : (k : ℕ) (r : Option Both) → h.node ≡ dn.Bag k → BagIs k (limit - 1) h.after r → DatumIs limit b r
  as_bag k r e j =
      record {
        within = no_longer b h.after r m.within j.within;
        tells = λ d t rest rest' f g p q s.
            let o = meeting (dn.Bag k) e d t rest rest' f g p q in
            verdict rest rest' (all_of o.ds o.u) (is_of d t) r (both_is d (bag o.ds) t (a_bag o.u) o.is o.is_ty ∙ bag_is o.ds o.u)
            (j.tells o.ds o.u rest rest' (o.many, bag_fits d o.ds o.is f) (bag_fits_ty t o.u o.is_ty g) o.after o.after_ty (bag_size t o.u limit o.is_ty s));
      }

  pub as_record : (k : ℕ) (r : Option Both) → h.node ≡ dn.Record k → ValuesAre k (limit - 1) h.after r → DatumIs limit b r
  as_record k r e j =
      record {
        within = no_longer b h.after r m.within j.within;
        tells = λ d t rest rest' f g p q s.
            let o = meeting (dn.Record k) e d t rest rest' f g p q in
            let fs = o.fs in
            let ts = o.ts in
            verdict rest rest' (tables_are (values fs) (tys ts)) (is_of d t) r (both_is d (rec fs) t (a_rec ts) o.is o.is_ty ∙ rec_is fs ts ∙ by_values fs ts o.same_names)
            (j.tells (values fs) (tys ts) rest rest' (values_fit k fs o.many (rec_fits d fs o.is f)) (tys_fit k ts (sym (ap length o.same_names) ∙ o.many) (rec_fits_ty t ts o.is_ty g))
            (o.after ∙ ap (λ (v : List ℕ). v ++ rest) (values_written fs)) (o.after_ty ∙ ap (λ (v : List ℕ). v ++ rest') (tys_written ts)) (rec_size t ts limit o.is_ty s));
      }

  pub not_left : h.node ≡ dn.Left → DatumIs (limit - 1) h.after None → DatumIs limit b None
  not_left e j =
      record {
        within = tt;
        tells = λ d t rest rest' f g p q s.
            let o = meeting dn.Left e d t rest rest' f g p q in
            both_is d (left o.x) t (an_either o.u o.v) o.is o.is_ty ∙ left_is o.x o.u o.v
            ∙ j.tells o.x o.u rest (write_ty o.v ++ rest') (left_fits d o.x o.is f) (either_fits_ty t o.u o.v o.is_ty g).0 o.after o.after_ty (either_size t o.u o.v limit o.is_ty s).0;
      }

  pub as_left : (i : Both) (r : Option Both) → h.node ≡ dn.Left → DatumIs (limit - 1) h.after (Some i) → TypePast i r → DatumIs limit b r
  as_left i r e j l =
      record {
        within = no_longer b i r (no_longer b h.after (Some i) m.within j.within) l.within;
        tells = λ d t rest rest' f g p q s.
            let o = meeting dn.Left e d t rest rest' f g p q in
            let c = either_fits_ty t o.u o.v o.is_ty g in
            let v = j.tells o.x o.u rest (write_ty o.v ++ rest') (left_fits d o.x o.is f) c.0 o.after o.after_ty (either_size t o.u o.v limit o.is_ty s).0 in
            past i r rest rest' (is_of d t) (both_is d (left o.x) t (an_either o.u o.v) o.is o.is_ty ∙ left_is o.x o.u o.v ∙ v.0) v.1 (l.tells o.v rest' c.1 v.2);
      }
    where
      past : (i : Both) (r : Option Both) (rest rest' : List ℕ) (h : Bool) → h ≡ true → i.datum.now ≡ rest → Past i rest' r → Verdict rest rest' h r
      past i None rest rest' h y z w = absurd w
      past i (Some k) rest rest' h y z w = (y, w.0 ∙ z, w.1)

  module _ (e : h.node ≡ dn.Right) where
    pub as_right : (i : Both) (r : Option Both) → TypePast h.after (Some i) → DatumIs (limit - 1) i r → DatumIs limit b r
    as_right i r l j =
        record {
          within = no_longer b i r (no_longer b h.after (Some i) m.within l.within) j.within;
          tells = λ d t rest rest' f g p q s.
              let o = meeting dn.Right e d t rest rest' f g p q in
              let c = either_fits_ty t o.u o.v o.is_ty g in
              let v = l.tells o.u (write_ty o.v ++ rest') c.0 o.after_ty in
              verdict rest rest' (is_of o.x o.v) (is_of d t) r (both_is d (right o.x) t (an_either o.u o.v) o.is o.is_ty ∙ right_is o.x o.u o.v)
              (j.tells o.x o.v rest rest' (right_fits d o.x o.is f) c.1 (v.0 ∙ o.after) v.1 (either_size t o.u o.v limit o.is_ty s).1);
        }

    pub right_open : TypePast h.after None → DatumIs limit b None
    right_open l =
        record {
          within = tt;
          tells = λ d t rest rest' f g p q s.
              let o = meeting dn.Right e d t rest rest' f g p q in
              absurd (l.tells o.u (write_ty o.v ++ rest') (either_fits_ty t o.u o.v o.is_ty g).0 o.after_ty);
        }

-- from the start of the bytes
pub told_so : (limit : ℕ) (b i : Both) → DatumIs limit b (Some i) → IsOfTold limit b.datum.now b.ty.now (Some (length b.datum.now - length i.datum.now))
told_so limit b i j =
    record {
      within = omega arith;
      tells = λ d t rest rest' f g p q s. let v = j.tells d t rest rest' f g p q s in (v.0, omega (arith, ap length p, length-append (write_data d) rest, ap length v.1));
    }

-- as many tables as types
pub tables_told : (limit k n : ℕ) (b : Both) (r : Option Both) → k ≡ n → ValuesAre k limit b r → TablesTold limit b.datum.now k b.ty.now n (is_some r)
tables_told limit k n b None e j = record { tells = λ ts ss rest rest' f g p q s. sym (j.tells ts ss rest rest' f (g.0 ∙ sym e, g.1) p q s) }
tables_told limit k n b (Some i) e j = record { tells = λ ts ss rest rest' f g p q s. sym (j.tells ts ss rest rest' f (g.0 ∙ sym e, g.1) p q s).0 }

pub tables_other : (limit k n : ℕ) (xs ys : List ℕ) → (k ≡ n → ⊥) → TablesTold limit xs k ys n false
tables_other limit k n xs ys h = record { tells = λ ts ss rest rest' f g p q s. sym (as_many ts ss (λ e. h (sym f.0 ∙ e ∙ g.0))) }
