-- Fields put on top, to be a record. Assumes nothing.
use Rattle.std.proofs.Common.{◌≡◌, ℕ, ◌+◌, ◌-◌, ◌<◌, ◌≤◌, List, [], ◌∷◌, ◌++◌, length, take, drop, sym, refl, ap, ◌∙◌, subst, ap₂, arith}
use Rattle.std.proofs.lemmas.List.{length-append, append_assoc, append-nil, take_at, drop_at}
use Rattle.types.specs.Shapes.{Shape, s_rec, held, Rising}
use Rattle.types.specs.Tables.{Sound, Made}
use Rattle.types.specs.Fields.{both_f, Stepped}
use Rattle.types.specs.declared.entry.Field.{Field}
use Rattle.types.specs.declared.entry.Entry.{Entry}
use Rattle.types.specs.declared.entry.Next.{Next}
use Rattle.types.specs.declared.entry.Run.{Run}
use Rattle.types.proofs.Runs.{run_kept, run_rest, run_length}
use Rattle.types.proofs.Makes.{sound_wide}
use Rattle.types.proofs.Both.{rising_drop, rising_length, both_rises}

pub top_before : (fs gs done : List Field) (n : ℕ) → gs ≡ fs ++ done → n ≡ length fs → take n gs ≡ fs
top_before fs gs done n e q = ap (λ (z : List Field). take n z) e ∙ take_at fs done n (sym q)

pub top_after : (fs gs done : List Field) (n : ℕ) → gs ≡ fs ++ done → n ≡ length fs → drop n gs ≡ done
top_after fs gs done n e q = ap (λ (z : List Field). drop n z) e ∙ drop_at fs done n (sym q)

pub top_start : (fs gs done : List Field) (n : ℕ) → gs ≡ fs ++ done → n ≡ length fs → n ≤ length gs
top_start fs gs done n e q = omega (arith, ap (λ (z : List Field). length z) e, length-append fs done)

pub top_sound : (w : ℕ) (es : List Entry) (fs gs done : List Field) (n : ℕ) → gs ≡ fs ++ done → n ≡ length fs → Sound w es fs → Sound w es (take n gs)
top_sound w es fs gs done n e q s = subst (λ z. Sound w es z) (sym (top_before fs gs done n e q)) s

-- fields on top change no type
pub sound_field : (w : ℕ) (es : List Entry) (fs gs done : List Field) → gs ≡ fs ++ done → Sound w es fs → Sound w es gs
sound_field w es fs gs done e s = sound_wide w es gs (length fs) (top_start fs gs done (length fs) e refl) (top_sound w es fs gs done (length fs) e refl s)

pub top_rises : (w k : ℕ) (fs gs done : List Field) (n : ℕ) → gs ≡ fs ++ done → n ≡ length fs → Rising w k 0 done → Rising w k 0 (drop n gs)
top_rises w k fs gs done n e q r = subst (λ z. Rising w k 0 z) (sym (top_after fs gs done n e q)) r

pub one_rises : (w k : ℕ) (f : Field) → f.name < w → f.of < k → Rising w k 0 (f ∷ [])
unfolding Rising
one_rises w k f a b = (omega arith, a, b, tt)

slimmer : (w : ℕ) (es : List Entry) (fs : List Field) (xs : List Entry) (gs : List Field) (s : Shape) (m n r : ℕ) → m ≤ n → Made w es fs xs gs s m r → Made w es fs xs gs s n r
slimmer w es fs xs gs s m n r h k = record { sound = k.sound; grown = k.grown; here = k.here; is = k.is; few = k.few; slim = omega (arith, k.slim) }

pub top_made : (w : ℕ) (es : List Entry) (fs gs done : List Field) (n extra : ℕ) (xs : List Entry) (hs : List Field) (r : ℕ) → gs ≡ fs ++ done → n ≡ length fs → length done ≤ extra
    → Made w es (take n gs) xs hs (s_rec (drop n gs)) (length gs - n) r → Made w es fs xs hs (s_rec done) extra r
top_made w es fs gs done n extra xs hs r e q l m =
    slimmer w es fs xs hs (s_rec done) (length gs - n) extra r (omega (arith, ap (λ (z : List Field). length z) e, length-append fs done))
    (subst (λ z. Made w es z xs hs (s_rec done) (length gs - n) r) (top_before fs gs done n e q)
    (subst (λ z. Made w es (take n gs) xs hs (s_rec z) (length gs - n) r) (top_after fs gs done n e q) m))

-- two records being put in one: what is done, and what is to come
pub record Merging (w k : ℕ) (fs xs ys gs : List Field) (a n b m : ℕ) : Type 0 where
  pub done : List Field
  pub is : gs ≡ fs ++ done
  pub rest : both_f xs ys ≡ done ++ both_f (take n (drop a fs)) (take m (drop b fs))
  pub first : a + n ≤ length fs
  pub second : b + m ≤ length fs
  pub rises : Rising w k 0 (take n (drop a fs))
  pub rising : Rising w k 0 (take m (drop b fs))
  pub wide : length (both_f xs ys) ≤ w

pub merge_begin : (w k : ℕ) (fs : List Field) (a n b m : ℕ) → a + n ≤ length fs → b + m ≤ length fs → Rising w k 0 (take n (drop a fs)) → Rising w k 0 (take m (drop b fs))
    → Merging w k fs (take n (drop a fs)) (take m (drop b fs)) fs a n b m
merge_begin w k fs a n b m h l r s = record {
  done = [];
  is = sym (append-nil fs);
  rest = refl;
  first = h;
  second = l;
  rises = r;
  rising = s;
  wide = omega (arith, rising_length w k 0 (both_f (take n (drop a fs)) (take m (drop b fs))) (omega arith) (both_rises w k 0 (take n (drop a fs)) (take m (drop b fs)) r s));
}

pub merge_first : {w k : ℕ} {fs xs ys gs : List Field} {a n b m : ℕ} → Merging w k fs xs ys gs a n b m → (a + n ≤ length gs) × (b + m ≤ length gs)
merge_first {w} {k} {fs} {xs} {ys} {gs} {a} {n} {b} {m} g =
    let l = ap (λ (z : List Field). length z) g.is in
    let e = length-append fs g.done in
    (omega (arith, g.first), omega (arith, g.second))

pub merge_rises : {w k : ℕ} {fs xs ys gs : List Field} {a n b m : ℕ} → Merging w k fs xs ys gs a n b m → Rising w k 0 (take n (drop a gs))
merge_rises {w} {k} {fs} {xs} {ys} {gs} {a} {n} {b} {m} g =
    subst (λ z. Rising w k 0 z) (sym (ap (λ (z : List Field). take n (drop a z)) g.is ∙ run_kept fs g.done a n g.first)) g.rises

pub merge_rising : {w k : ℕ} {fs xs ys gs : List Field} {a n b m : ℕ} → Merging w k fs xs ys gs a n b m → Rising w k 0 (take m (drop b gs))
merge_rising {w} {k} {fs} {xs} {ys} {gs} {a} {n} {b} {m} g =
    subst (λ z. Rising w k 0 z) (sym (ap (λ (z : List Field). take m (drop b z)) g.is ∙ run_kept fs g.done b m g.second)) g.rising

old_step : {w k : ℕ} {fs xs ys gs : List Field} {a n b m : ℕ} → Merging w k fs xs ys gs a n b m → (r : Next) → Stepped (take n (drop a gs)) (take m (drop b gs)) r → Stepped (take n (drop a fs)) (take m (drop b fs)) r
old_step {w} {k} {fs} {xs} {ys} {gs} {a} {n} {b} {m} g r s =
    subst (λ z. Stepped (take n (drop a fs)) z r) (ap (λ (z : List Field). take m (drop b z)) g.is ∙ run_kept fs g.done b m g.second)
    (subst (λ z. Stepped z (take m (drop b gs)) r) (ap (λ (z : List Field). take n (drop a z)) g.is ∙ run_kept fs g.done a n g.first) s)

pub merge_counts : {w k : ℕ} {fs xs ys gs : List Field} {a n b m : ℕ} → Merging w k fs xs ys gs a n b m → (r : Next) → Stepped (take n (drop a gs)) (take m (drop b gs)) r → (r.first ≤ n) × (r.second ≤ m) × (0 < r.first + r.second)
merge_counts {w} {k} {fs} {xs} {ys} {gs} {a} {n} {b} {m} g r s =
    let o = old_step g r s in
    (omega (arith, o.first, run_length fs a n g.first), omega (arith, o.second, run_length fs b m g.second), o.some)

-- there is room for one more
pub merge_room : {w k : ℕ} {fs xs ys gs : List Field} {a n b m : ℕ} → Merging w k fs xs ys gs a n b m → (r : Next) → Stepped (take n (drop a gs)) (take m (drop b gs)) r → length gs < length fs + w
merge_room {w} {k} {fs} {xs} {ys} {gs} {a} {n} {b} {m} g r s =
    let o = old_step g r s in
    let tail = both_f (drop r.first (take n (drop a fs))) (drop r.second (take m (drop b fs))) in
    let e : both_f xs ys ≡ g.done ++ (r.field ∷ tail) = g.rest ∙ ap (λ (z : List Field). g.done ++ z) o.is in
    let l = ap (λ (z : List Field). length z) e in
    let p = length-append g.done (r.field ∷ tail) in
    let l2 = ap (λ (z : List Field). length z) g.is in
    let p2 = length-append fs g.done in
    let wd = g.wide in
    omega arith

pub merge_on : {w k : ℕ} {fs xs ys gs : List Field} {a n b m : ℕ} → Merging w k fs xs ys gs a n b m → (r : Next) → Stepped (take n (drop a gs)) (take m (drop b gs)) r → (hs : List Field) → hs ≡ gs ++ (r.field ∷ [])
    → Merging w k fs xs ys hs (a + r.first) (n - r.first) (b + r.second) (m - r.second)
merge_on {w} {k} {fs} {xs} {ys} {gs} {a} {n} {b} {m} g r s hs q =
    let o = old_step g r s in
    let cs = merge_counts g r s in
    let ea = run_rest fs a n r.first cs.0 in
    let eb = run_rest fs b m r.second cs.1 in
    record {
      done = g.done ++ (r.field ∷ []);
      is = q ∙ (ap (λ (z : List Field). z ++ (r.field ∷ [])) g.is ∙ append_assoc fs g.done (r.field ∷ []));
      rest = g.rest ∙ (ap (λ (z : List Field). g.done ++ z) (o.is ∙ ap₂ (λ (u v : List Field). r.field ∷ both_f u v) (sym ea) (sym eb)) ∙ sym (append_assoc g.done (r.field ∷ []) _));
      first = omega (arith, g.first, cs.0);
      second = omega (arith, g.second, cs.1);
      rises = subst (λ z. Rising w k 0 z) (sym ea) (rising_drop w k r.first (take n (drop a fs)) g.rises);
      rising = subst (λ z. Rising w k 0 z) (sym eb) (rising_drop w k r.second (take m (drop b fs)) g.rising);
      wide = g.wide;
    }

-- with the runs as they are after it
pub merge_skip : {w k : ℕ} {fs xs ys gs : List Field} {p q : Run} → Merging w k fs xs ys gs p.start p.count q.start q.count → (r : Next) → Stepped (held gs p) (held gs q) r → (hs : List Field) → hs ≡ gs ++ (r.field ∷ [])
    → (u v : Run) → u.start ≡ p.start + r.first → u.count ≡ p.count - r.first → v.start ≡ q.start + r.second → v.count ≡ q.count - r.second → Merging w k fs xs ys hs u.start u.count v.start v.count
merge_skip {w} {k} {fs} {xs} {ys} {gs} {p} {q} g r s hs e u v a b c d =
    subst (λ z. Merging w k fs xs ys hs z u.count v.start v.count) (sym a)
    (subst (λ z. Merging w k fs xs ys hs (p.start + r.first) z v.start v.count) (sym b)
    (subst (λ z. Merging w k fs xs ys hs (p.start + r.first) (p.count - r.first) z v.count) (sym c)
    (subst (λ z. Merging w k fs xs ys hs (p.start + r.first) (p.count - r.first) (q.start + r.second) z) (sym d) (merge_on g r s hs e))))

pub merge_end : {w k : ℕ} {fs xs ys gs : List Field} {a n b m : ℕ} → Merging w k fs xs ys gs a n b m → take n (drop a gs) ≡ [] → take m (drop b gs) ≡ [] → gs ≡ fs ++ both_f xs ys
unfolding both_f
merge_end {w} {k} {fs} {xs} {ys} {gs} {a} {n} {b} {m} g p q =
    let u = sym (ap (λ (z : List Field). take n (drop a z)) g.is ∙ run_kept fs g.done a n g.first) ∙ p in
    let v = sym (ap (λ (z : List Field). take m (drop b z)) g.is ∙ run_kept fs g.done b m g.second) ∙ q in
    g.is ∙ ap (λ (z : List Field). fs ++ z) (sym (g.rest ∙ (ap₂ (λ (u v : List Field). g.done ++ both_f u v) u v ∙ append-nil g.done)))

pub rising_as : (w k w' k' : ℕ) (z : List Field) → w' ≡ w → k' ≡ k → Rising w k 0 z → Rising w' k' 0 z
rising_as w k w' k' z e f r = subst (λ (x : ℕ). Rising x k' 0 z) (sym e) (subst (λ (x : ℕ). Rising w x 0 z) (sym f) r)

pub sound_as : (w w' : ℕ) (es es' : List Entry) (fs : List Field) → w' ≡ w → es' ≡ es → Sound w es fs → Sound w' es' fs
sound_as w w' es es' fs e f r = subst (λ (x : ℕ). Sound x es' fs) (sym e) (subst (λ (x : List Entry). Sound w x fs) (sym f) r)

pub made_as : (w w' : ℕ) (es es' : List Entry) (fs : List Field) (xs : List Entry) (hs : List Field) (s : Shape) (n r : ℕ) → w' ≡ w → es' ≡ es → Made w' es' fs xs hs s n r → Made w es fs xs hs s n r
made_as w w' es es' fs xs hs s n r e f m = subst (λ (x : ℕ). Made x es fs xs hs s n r) e (subst (λ (x : List Entry). Made w' x fs xs hs s n r) f m)

pub top_wide : (fs gs done : List Field) (w m : ℕ) → gs ≡ fs ++ done → length done ≤ w → length fs + w ≤ m → length gs ≤ m
top_wide fs gs done w m e h l = omega (arith, ap (λ (z : List Field). length z) e, length-append fs done)
