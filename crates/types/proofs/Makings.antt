-- Records made of names and types one by one.
use Rattle.std.proofs.Common.{◌≡◌, ℕ, suc, ◌+◌, ◌<◌, ◌≤◌, Bool, true, false, ◌&&◌, leb, List, [], ◌∷◌, ◌++◌, length, get_or, take, drop, Some, vec_items, sym, refl, ap, ◌∙◌, subst, ap₂, arith, leb-true}
use Rattle.std.proofs.lemmas.List.{length-append, append_assoc, append-nil}
use Rattle.query.specs.Data.{Name}
use Rattle.query.specs.Query.{a_rec, Tys, ty}
use Rattle.query.specs.Types.{if_so}
use Rattle.query.proofs.Tests.{and_l, and_r}
use Rattle.types.specs.Shapes.{Shape, s_rec, run, meaning, types, type_at, Rising, Below}
use Rattle.types.specs.Fields.{zip_f, rise}
use Rattle.types.specs.Tables.{Made}
use Rattle.types.specs.Operators.{NamesOf, named, types_of, zip_ty}
use Rattle.types.specs.Outcomes.{look, size, Says}
use Rattle.types.specs.declared.entry.Field.{Field}
use Rattle.types.specs.declared.table.Table.{Table}
use Rattle.types.proofs.Operators.{if_yes}
use Rattle.types.proofs.Meanings.{made_says}

leb_yes : (m n : ℕ) → m ≤ n → leb m n ≡ true
leb_yes m n o = grind arith

leb_no : (m n : ℕ) → n < m → leb m n ≡ false
leb_no m n o = grind arith

-- numbers that rise from the first of them on
unfoldable pub climb : List ℕ → Bool
climb [] = true
climb (k ∷ ks) = rise (suc k) ks

pub climb_start : (ks : List ℕ) → rise 0 ks ≡ climb ks
unfolding climb rise
climb_start [] = refl
climb_start (k ∷ ks) = ap (λ (b : Bool). b && rise (suc k) ks) (leb_yes 0 k (omega arith))

climb_both : (x y : ℕ) (ks : List ℕ) → climb (x ∷ y ∷ ks) ≡ leb (suc x) y && climb (y ∷ ks)
unfolding climb rise
climb_both x y ks = refl

pub climb_on : (s t w : List ℕ) → 2 ≤ length s → w ≡ take 2 s → t ≡ drop 1 s → get_or w 0 0 < get_or w 1 0 → climb s ≡ climb t
climb_on [] t w l e q h = absurd (omega arith)
climb_on (x ∷ []) t w l e q h = absurd (omega arith)
climb_on (x ∷ (y ∷ s)) t w l e q h =
    let o : x < y = subst (λ (z : List ℕ). get_or z 0 0 < get_or z 1 0) e h in
    climb_both x y s ∙ (ap (λ (b : Bool). b && climb (y ∷ s)) (leb_yes (suc x) y o) ∙ ap (λ (z : List ℕ). climb z) (sym q))

pub climb_off : (s w : List ℕ) → 2 ≤ length s → w ≡ take 2 s → get_or w 1 0 ≤ get_or w 0 0 → false ≡ climb s
climb_off [] w l e h = absurd (omega arith)
climb_off (x ∷ []) w l e h = absurd (omega arith)
climb_off (x ∷ (y ∷ s)) w l e h =
    let o : y ≤ x = subst (λ (z : List ℕ). get_or z 1 0 ≤ get_or z 0 0) e h in
    sym (climb_both x y s ∙ ap (λ (b : Bool). b && climb (y ∷ s)) (leb_no (suc x) y (omega arith)))

pub climb_end : (s : List ℕ) → length s < 2 → true ≡ climb s
unfolding climb rise
climb_end [] l = refl
climb_end (x ∷ []) l = refl
climb_end (x ∷ (y ∷ s)) l = absurd (omega arith)

-- fields one by one
pub zip_on : (gs hs all : List Field) (ks xs ks' xs' : List ℕ) (k x : ℕ) → gs ++ zip_f ks xs ≡ all → ks ≡ k ∷ ks' → xs ≡ x ∷ xs' → hs ≡ gs ++ (record { name = k; of = x } ∷ []) → hs ++ zip_f ks' xs' ≡ all
unfolding zip_f
zip_on gs hs all ks xs ks' xs' k x e a b m =
    ap (λ (z : List Field). z ++ zip_f ks' xs') m ∙ (append_assoc gs _ _ ∙ (ap (λ (z : List Field). gs ++ z) (sym (ap₂ (λ (u v : List ℕ). zip_f u v) a b)) ∙ e))

pub zip_end : (gs all : List Field) (ks xs : List ℕ) → length ks ≤ 0 → gs ++ zip_f ks xs ≡ all → gs ≡ all
unfolding zip_f
zip_end gs all [] xs h e = sym (append-nil gs) ∙ e
zip_end gs all (k ∷ ks) xs h e = absurd (omega arith)

pub zip_length : (ks xs : List ℕ) → length xs ≡ length ks → length (zip_f ks xs) ≡ length ks
unfolding zip_f
zip_length [] xs e = refl
zip_length (k ∷ ks) [] e = absurd (omega arith)
zip_length (k ∷ ks) (x ∷ xs) e = ap suc (zip_length ks xs (omega arith))

pub zip_room : (fs gs : List Field) (kk xx ks xs ks' xs' : List ℕ) (k x : ℕ) → length xx ≡ length kk → gs ++ zip_f ks xs ≡ fs ++ zip_f kk xx → ks ≡ k ∷ ks' → xs ≡ x ∷ xs' → length gs < length fs + length kk
unfolding zip_f
zip_room fs gs kk xx ks xs ks' xs' k x l e a b =
    let q = ap (λ (z : List Field). length z) (ap (λ (z : List Field). gs ++ z) (sym (ap₂ (λ (u v : List ℕ). zip_f u v) a b)) ∙ e) in
    let r = length-append gs (record { name = k; of = x } ∷ zip_f ks' xs') in
    let c = length-append fs (zip_f kk xx) in
    let d = zip_length kk xx l in
    omega arith

pub zip_rises : (w b at : ℕ) (ks xs : List ℕ) → true ≡ rise at ks → NamesOf w ks → NamesOf b xs → length xs ≡ length ks → Rising w b at (zip_f ks xs)
unfolding zip_f rise NamesOf Rising
zip_rises w b at [] xs r n m l = tt
zip_rises w b at (k ∷ ks) [] r n m l = tt
zip_rises w b at (k ∷ ks) (x ∷ xs) r n m l =
    (leb-true at k (and_l (leb at k) (rise (suc k) ks) (sym r)), n.0, m.0, zip_rises w b (suc k) ks xs (sym (and_r (leb at k) (rise (suc k) ks) (sym r))) n.1 m.1 (omega arith))

zip_run : (ns : List Name) (ss : List Shape) (ks xs : List ℕ) → run ns (types ns ss) (zip_f ks xs) ≡ zip_ty (named ns ks) (types_of ns ss xs)
unfolding run zip_f named types_of zip_ty
zip_run ns ss [] xs = refl
zip_run ns ss (k ∷ ks) [] = refl
zip_run ns ss (k ∷ ks) (x ∷ xs) = ap (λ (z : Tys). ty (get_or ns k []) (type_at ns ss x) z) (zip_run ns ss ks xs)

pub record_says : (t u : Table) (ks xs : List ℕ) (r : ℕ) → true ≡ rise 0 ks → NamesOf t.names ks → NamesOf (size t) xs → length xs ≡ length ks
    → Made t.names (vec_items t.entries) (vec_items t.fields) (vec_items u.entries) (vec_items u.fields) (s_rec (zip_f ks xs)) (length ks) r
    → Says t u 1 (length ks) (Some r) (λ ns. if_so (rise 0 ks) (a_rec (zip_ty (named ns ks) (types_of ns (look t) xs)) ∷ []))
unfolding meaning Below
record_says t u ks xs r e n m l d ns rk =
    made_says t u (s_rec (zip_f ks xs)) (length ks) r (zip_rises t.names (size t) 0 ks xs e n m l) d ns _ (if_yes _ _ e ∙ ap (λ (z : Tys). a_rec z ∷ []) (sym (zip_run ns (look t) ks xs)))
