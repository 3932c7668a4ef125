-- Records by the numbers of names and types: a field taken, two in one, and the fields that stay.
use Rattle.std.proofs.Common.{◌≡◌, ℕ, suc, ◌<◌, Bool, true, false, not, ◌||◌, eqb, ltb, ◌⊎◌, List, [], ◌∷◌, map, get_or, take, drop, Some, None, vec_items, Option, sym, refl, ap, ◌∙◌, subst, ap₂, inl, inr, arith}
use Rattle.query.specs.Data.{pick, Name, one_of}
use Rattle.query.specs.Query.{join_recs, dot, as_field, without, project, Ty, a_unit, a_rec, Tys, ty}
use Rattle.query.specs.Types.{fields_of, on_ty, get_ty, put_ty, both_tys, left_out_ty, only_tys, type1, type2}
use Rattle.types.specs.Shapes.{Shape, s_rec, run, meaning, types, type_at, Ranked, Rising, Below}
use Rattle.types.specs.Fields.{get_f, put_f, both_f, in_f, as_told, kept_f, listed}
use Rattle.types.specs.Tables.{Made, run_part}
use Rattle.types.specs.Operators.{NamesOf, named}
use Rattle.types.specs.Outcomes.{look, size, Tidy, told, Within, Grew, Meant, Says}
use Rattle.types.specs.declared.entry.Field.{Field}
use Rattle.types.specs.declared.entry.Entry.TheVariants.{Unit as Unit'}
use Rattle.types.specs.declared.entry.Run.{Run}
use Rattle.types.specs.declared.table.Table.{Table}
use Rattle.types.proofs.Both.{pick_true, pick_false, rising_low, both_rises, eqb_yes, eqb_no}
use Rattle.types.proofs.Keeps.{kept_rises}
use Rattle.types.proofs.Operators.{on_none}
use Rattle.types.proofs.Meanings.{Has, stay, stays, meant_more, made_says, fields_none}

ap_pick : {A B : Type 0} (f : A → B) (b : Bool) (x y : A) → f (pick b x y) ≡ pick b (f x) (f y)
unfolding pick
ap_pick f true x y = refl
ap_pick f false x y = refl

pub run_get : (ns : List Name) (w : ℕ) → Ranked ns w → (ts : List Ty) (k p n : ℕ) (fs : List Field) → n < w → Rising w k p fs
    → get_ty (get_or ns n []) (run ns ts fs) ≡ map (λ (i : ℕ). get_or ts i a_unit) (get_f n fs)
unfolding run Rising get_f get_ty
run_get ns w rk ts k p n [] h r = refl
run_get ns w rk ts k p n (f ∷ fs) h r =
    ap₂ (λ (b : Bool) (z : List Ty). pick b (get_or ts f.of a_unit ∷ []) z) (rk.same n f.name h r.1) (run_get ns w rk ts k (suc f.name) n fs h r.3)
    ∙ sym (ap_pick (λ (z : List ℕ). map (λ (i : ℕ). get_or ts i a_unit) z) (eqb n f.name) (f.of ∷ []) (get_f n fs))

run_put : (ns : List Name) (w : ℕ) → Ranked ns w → (ts : List Ty) (k p : ℕ) (y : Field) (fs : List Field) → y.name < w → Rising w k p fs
    → run ns ts (put_f y fs) ≡ put_ty (get_or ns y.name []) (get_or ts y.of a_unit) (run ns ts fs)
unfolding run Rising put_f put_ty
run_put ns w rk ts k p y [] h r = refl
run_put ns w rk ts k p y (f ∷ fs) h r =
    ap_pick (λ (z : List Field). run ns ts z) (eqb y.name f.name) _ _
    ∙ ap₂ (λ (b : Bool) (z : Tys). pick b (run ns ts (y ∷ fs)) z) (sym (rk.same y.name f.name h r.1))
    (ap_pick (λ (z : List Field). run ns ts z) (ltb y.name f.name) _ _
    ∙ ap₂ (λ (b : Bool) (z : Tys). pick b (run ns ts (y ∷ f ∷ fs)) z) (sym (rk.less y.name f.name h r.1))
    (ap (λ (z : Tys). ty (get_or ns f.name []) (get_or ts f.of a_unit) z) (run_put ns w rk ts k (suc f.name) y fs h r.3)))

pub run_both : (ns : List Name) (w : ℕ) → Ranked ns w → (ts : List Ty) (k : ℕ) (xs ys : List Field) → Rising w k 0 xs → Rising w k 0 ys
    → run ns ts (both_f xs ys) ≡ both_tys (run ns ts xs) (run ns ts ys)
unfolding run both_f both_tys Rising
run_both ns w rk ts k xs [] r s = refl
run_both ns w rk ts k xs (y ∷ ys) r s =
    run_both ns w rk ts k (put_f y xs) ys (both_rises w k 0 xs (y ∷ []) r (s.0, s.1, s.2, tt)) (rising_low w k 0 (suc y.name) ys (omega arith) s.3)
    ∙ ap (λ (z : Tys). both_tys z (run ns ts ys)) (run_put ns w rk ts k 0 y xs s.1 r)

get_below : (w k p n i : ℕ) (fs : List Field) → Rising w k p fs → i ∷ [] ≡ get_f n fs → i < k
unfolding Rising get_f
get_below w k p n i [] r e = absurd cc
get_below w k p n i (f ∷ fs) r e =
    elim (sides (eqb n f.name)) [
      | inl b ↦ let q : i ∷ [] ≡ f.of ∷ [] = e ∙ pick_true (eqb n f.name) _ _ b in let o : i ≡ f.of = cc in omega (arith, r.2)
      | inr b ↦ get_below w k (suc f.name) n i fs r.3 (e ∙ pick_false (eqb n f.name) _ _ b)
    ]
  where
    sides : (b : Bool) → (b ≡ true) ⊎ (b ≡ false)
    sides true = inl refl
    sides false = inr refl

listed_here : (w k n : ℕ) (fs : List Field) (r : Option ℕ) → Rising w k 0 fs → listed r ≡ get_f n fs → Within k r
listed_here w k n fs None r e = tt
listed_here w k n fs (Some i) r e = get_below w k 0 n i fs r e

listed_told : (ns : List Name) (ss : List Shape) (r : Option ℕ) → map (λ (i : ℕ). get_or (types ns ss) i a_unit) (listed r) ≡ told ns ss r
listed_told ns ss None = refl
listed_told ns ss (Some i) = refl

-- fields that stay, by their names
either_way : (b : Bool) → (b ≡ true) ⊎ (b ≡ false)
either_way true = inl refl
either_way false = inr refl

one_of_named : (ns : List Name) (w : ℕ) → Ranked ns w → (n : ℕ) (ks : List ℕ) → n < w → NamesOf w ks → one_of (get_or ns n []) (named ns ks) ≡ in_f n ks
unfolding one_of named in_f NamesOf
one_of_named ns w rk n [] h l = refl
one_of_named ns w rk n (k ∷ ks) h l = ap₂ (λ (a b : Bool). a || b) (rk.same n k h l.0) (one_of_named ns w rk n ks h l.1)

run_only : (ns : List Name) (w : ℕ) → Ranked ns w → (ts : List Ty) (k p : ℕ) (ks : List ℕ) (fs : List Field) → NamesOf w ks → Rising w k p fs
    → run ns ts (kept_f ks true fs) ≡ only_tys (named ns ks) (run ns ts fs)
unfolding run kept_f as_told only_tys Rising
run_only ns w rk ts k p ks [] h r = refl
run_only ns w rk ts k p ks (f ∷ fs) h r =
    ap_pick (λ (z : List Field). run ns ts z) (in_f f.name ks) _ _
    ∙ ap₂ (λ (b : Bool) (z : Tys). pick b (ty (get_or ns f.name []) (get_or ts f.of a_unit) z) z) (sym (one_of_named ns w rk f.name ks r.1 h)) (run_only ns w rk ts k (suc f.name) ks fs h r.3)

-- all stay that come after the name that is left out
kept_after : (w k n : ℕ) (fs : List Field) → Rising w k (suc n) fs → kept_f (n ∷ []) false fs ≡ fs
unfolding kept_f as_told in_f Rising
kept_after w k n [] r = refl
kept_after w k n (f ∷ fs) r =
    pick_true _ _ _ (ap (λ (b : Bool). not (b || false)) (eqb_no f.name n (λ e. omega (arith, r.0))))
    ∙ ap (λ (z : List Field). f ∷ z) (kept_after w k n fs (rising_low w k (suc n) (suc f.name) fs (omega (arith, r.0)) r.3))

kept_not : (n : ℕ) (f : Field) (fs : List Field) → n ≡ f.name → kept_f (n ∷ []) false (f ∷ fs) ≡ kept_f (n ∷ []) false fs
unfolding kept_f as_told in_f
kept_not n f fs e = pick_false _ _ _ (ap (λ (b : Bool). not (b || false)) (eqb_yes f.name n (sym e)))

kept_other : (n : ℕ) (f : Field) (fs : List Field) → (n ≡ f.name → ⊥) → kept_f (n ∷ []) false (f ∷ fs) ≡ f ∷ kept_f (n ∷ []) false fs
unfolding kept_f as_told in_f
kept_other n f fs e = pick_true _ _ _ (ap (λ (b : Bool). not (b || false)) (eqb_no f.name n (λ q. e (sym q))))

same_or_not : (m n : ℕ) → (m ≡ n) ⊎ (m ≡ n → ⊥)
same_or_not m n = grind arith

run_without : (ns : List Name) (w : ℕ) → Ranked ns w → (ts : List Ty) (k p n : ℕ) (fs : List Field) → n < w → Rising w k p fs
    → run ns ts (kept_f (n ∷ []) false fs) ≡ left_out_ty (get_or ns n []) (run ns ts fs)
unfolding run left_out_ty Rising kept_f
run_without ns w rk ts k p n [] h r = refl
run_without ns w rk ts k p n (f ∷ fs) h r =
    elim (same_or_not n f.name) [
      | inl e ↦
          ap (λ (z : List Field). run ns ts z) (kept_not n f fs e ∙ kept_after w k n fs (subst (λ z. Rising w k (suc z) fs) (sym e) r.3))
          ∙ sym (pick_true _ _ _ (rk.same n f.name h r.1 ∙ eqb_yes n f.name e))
      | inr e ↦
          ap (λ (z : List Field). run ns ts z) (kept_other n f fs e)
          ∙ (ap (λ (z : Tys). ty (get_or ns f.name []) (get_or ts f.of a_unit) z) (run_without ns w rk ts k (suc f.name) n fs h r.3)
          ∙ sym (pick_false _ _ _ (rk.same n f.name h r.1 ∙ eqb_no n f.name e)))
    ]

-- what operators on records come to
pub dot_grew : (t : Table) → Tidy t → (x n : ℕ) (p : Run) → Has t x p → (r : Option ℕ) → listed r ≡ get_f n (take p.count (drop p.start (vec_items t.fields))) → Grew t t r
dot_grew t s x n p g r e = stay r s (listed_here t.names (size t) n _ r g.rises e)

pub dot_says : (t : Table) (x n : ℕ) → n < t.names → (p : Run) → Has t x p → (r : Option ℕ) → listed r ≡ get_f n (take p.count (drop p.start (vec_items t.fields)))
    → Says t t 0 0 r (λ ns. type1 (dot (get_or ns n [])) (type_at ns (look t) x))
unfolding type1 fields_of on_ty
dot_says t x n l p g r e ns rk =
    stays 0 0 r _ (ap (λ (z : Ty). type1 (dot (get_or ns n [])) z) (g.is ns) ∙ (run_get ns t.names rk (types ns (look t)) (size t) 0 n _ l g.rises ∙ (ap (λ (z : List ℕ). map (λ (i : ℕ). get_or (types ns (look t)) i a_unit) z) (sym e) ∙ listed_told ns (look t) r)))

pub dot_none : (t : Table) → Tidy t → (x n : ℕ) → x < size t → None ≡ run_part (get_or (vec_items t.entries) x Unit') → Says t t 0 0 None (λ ns. type1 (dot (get_or ns n [])) (type_at ns (look t) x))
unfolding type1
dot_none t s x n h e ns rk = stays 0 0 None _ (on_none _ _ (fields_none t s x h e ns))

pub field_says : (t u : Table) (n x r : ℕ) → n < t.names → x < size t → Made t.names (vec_items t.entries) (vec_items t.fields) (vec_items u.entries) (vec_items u.fields) (s_rec (record { name = n; of = x } ∷ [])) 1 r
    → Says t u 1 t.names (Some r) (λ ns. type1 (as_field (get_or ns n [])) (type_at ns (look t) x))
unfolding type1 meaning Below Rising run
field_says t u n x r l h m ns rk =
    meant_more (made_says t u (s_rec (record { name = n; of = x } ∷ [])) 1 r (omega arith, l, h, tt) m ns (type1 (as_field (get_or ns n [])) (type_at ns (look t) x)) refl) 1 t.names (omega arith) (omega arith)

pub without_says : (t u : Table) (n x r : ℕ) (p : Run) → n < t.names → Has t x p → Made t.names (vec_items t.entries) (vec_items t.fields) (vec_items u.entries) (vec_items u.fields) (s_rec (kept_f (n ∷ []) false (take p.count (drop p.start (vec_items t.fields))))) t.names r
    → Says t u 1 t.names (Some r) (λ ns. type1 (without (get_or ns n [])) (type_at ns (look t) x))
unfolding type1 meaning Below fields_of on_ty
without_says t u n x r p l g m ns rk =
    made_says t u _ t.names r (kept_rises t.names (size t) 0 (n ∷ []) false _ g.rises) m ns (type1 (without (get_or ns n [])) (type_at ns (look t) x))
    (ap (λ (z : Ty). type1 (without (get_or ns n [])) z) (g.is ns) ∙ ap (λ (z : Tys). a_rec z ∷ []) (sym (run_without ns t.names rk (types ns (look t)) (size t) 0 n _ l g.rises)))

pub without_none : (t : Table) → Tidy t → (x n : ℕ) → x < size t → None ≡ run_part (get_or (vec_items t.entries) x Unit') → Says t t 1 t.names None (λ ns. type1 (without (get_or ns n [])) (type_at ns (look t) x))
unfolding type1
without_none t s x n h e ns rk = stays 1 t.names None _ (on_none _ _ (fields_none t s x h e ns))

pub only_says : (t u : Table) (ks : List ℕ) (x r : ℕ) (p : Run) → Has t x p → Made t.names (vec_items t.entries) (vec_items t.fields) (vec_items u.entries) (vec_items u.fields) (s_rec (kept_f ks true (take p.count (drop p.start (vec_items t.fields))))) t.names r
    → (ns : List Name) → Ranked ns t.names → NamesOf t.names ks → Meant ns t u 1 t.names (Some r) (type1 (project (named ns ks)) (type_at ns (look t) x))
unfolding type1 meaning Below fields_of on_ty
only_says t u ks x r p g m ns rk l =
    made_says t u _ t.names r (kept_rises t.names (size t) 0 ks true _ g.rises) m ns (type1 (project (named ns ks)) (type_at ns (look t) x))
    (ap (λ (z : Ty). type1 (project (named ns ks)) z) (g.is ns) ∙ ap (λ (z : Tys). a_rec z ∷ []) (sym (run_only ns t.names rk (types ns (look t)) (size t) 0 ks _ l g.rises)))

pub only_none : (t : Table) → Tidy t → (ks : List ℕ) (x : ℕ) → x < size t → None ≡ run_part (get_or (vec_items t.entries) x Unit') → (ns : List Name) → Meant ns t t 1 t.names None (type1 (project (named ns ks)) (type_at ns (look t) x))
unfolding type1
only_none t s ks x h e ns = stays 1 t.names None _ (on_none _ _ (fields_none t s x h e ns))

pub join_says : (t u : Table) (x y r : ℕ) (p q : Run) → Has t x p → Has t y q
    → Made t.names (vec_items t.entries) (vec_items t.fields) (vec_items u.entries) (vec_items u.fields) (s_rec (both_f (take p.count (drop p.start (vec_items t.fields))) (take q.count (drop q.start (vec_items t.fields))))) t.names r
    → Says t u 1 t.names (Some r) (λ ns. type2 join_recs (type_at ns (look t) x) (type_at ns (look t) y))
unfolding type2 meaning Below fields_of on_ty
join_says t u x y r p q g h m ns rk =
    made_says t u _ t.names r (both_rises t.names (size t) 0 _ _ g.rises h.rises) m ns (type2 join_recs (type_at ns (look t) x) (type_at ns (look t) y))
    (ap₂ (λ (a b : Ty). type2 join_recs a b) (g.is ns) (h.is ns) ∙ ap (λ (z : Tys). a_rec z ∷ []) (sym (run_both ns t.names rk (types ns (look t)) (size t) _ _ g.rises h.rises)))

pub join_none : (t : Table) → Tidy t → (x y : ℕ) → x < size t → None ≡ run_part (get_or (vec_items t.entries) x Unit') → Says t t 1 t.names None (λ ns. type2 join_recs (type_at ns (look t) x) (type_at ns (look t) y))
unfolding type2
join_none t s x y h e ns rk = stays 1 t.names None _ (on_none _ _ (fields_none t s x h e ns))

none_after : {A B C : Type 0} (l : List A) (f : A → List B) (g : A → B → List C) → ((x : A) → f x ≡ []) → on_ty l (λ x. on_ty (f x) (g x)) ≡ []
unfolding on_ty
none_after [] f g h = refl
none_after (x ∷ l) f g h = ap (λ z. on_ty z (g x)) (h x)

pub join_none_second : (t : Table) → Tidy t → (x y : ℕ) → y < size t → None ≡ run_part (get_or (vec_items t.entries) y Unit') → Says t t 1 t.names None (λ ns. type2 join_recs (type_at ns (look t) x) (type_at ns (look t) y))
unfolding type2
join_none_second t s x y h e ns rk = stays 1 t.names None _ (none_after (fields_of (type_at ns (look t) x)) (λ ts. fields_of (type_at ns (look t) y)) (λ ts us. a_rec (both_tys ts us) ∷ []) (λ ts. fields_none t s y h e ns))
