-- Trees: a head, and then as many trees as the head announces. What opens one, what cannot, and that they are read in one way only.
use Rattle.std.specs.Prelude.{◌≡◌, ℕ, zero, suc, ◌+◌, ◌^◌, ◌<◌, ◌≤◌, List, [], ◌∷◌, ◌++◌, length, take, drop, replicate, refl}
use Rattle.std.proofs.Common.{sym, ap, ap₂, subst, ◌∙◌, arith, length-append}
use Rattle.std.proofs.lemmas.List.{append_assoc, append-nil, length-replicate}
use Rattle.format.specs.Coding.{Coding, number, writes, AllFit, many, counted, Inhabited}
use Rattle.format.specs.Reading.{Begins, NoneInFront, Stuck, OneWay, Reads, Opens, Closed, Opened, Unopened}
use Rattle.format.specs.Nodes.{NodeRead}
use Rattle.format.specs.Lists.{append_same, split_at}
use Rattle.format.specs.Codings.{Splits, way_both, number_way, counted_splits}

-- what is to be shown of a sort of tree S with heads H
pub record Laws (S H : Coding) (arity : H.T → ℕ) : Type 0 where
  pub splits : Splits S H (λ h. many S (arity h))
  pub one_way : OneWay H
  pub long : (h : H.T) → H.Fits h → 0 < length (H.write h)
  pub leaf : H.T
  pub leaf_fits : H.Fits leaf
  pub leaf_alone : arity leaf ≡ 0

module _ (S : Coding) where
  pub same_reads : (m n : ℕ) (xs ys rest : List ℕ) → m ≡ n → xs ≡ ys → Reads S m xs rest → Reads S n ys rest
  same_reads m n xs ys rest e f r = record { things = r.things; fits = r.fits; many = r.many ∙ e; is = sym f ∙ r.is }

  pub writes_append : (us vs : List S.T) → writes S (us ++ vs) ≡ writes S us ++ writes S vs
  writes_append [] vs = refl
  writes_append (u ∷ us) vs = ap (λ (v : List ℕ). S.write u ++ v) (writes_append us vs) ∙ sym (append_assoc (S.write u) (writes S us) (writes S vs))

  pub fits_append : (us vs : List S.T) → AllFit S us → AllFit S vs → AllFit S (us ++ vs)
  fits_append [] vs f g = g
  fits_append (u ∷ us) vs f g = (f.0, fits_append us vs f.1 g)

  pub fits_replicate : (n : ℕ) (u : S.T) → S.Fits u → AllFit S (replicate n u)
  fits_replicate zero u f = tt
  fits_replicate (suc n) u f = (f, fits_replicate n u f)

  pub record First (ys rest : List ℕ) (n : ℕ) : Type 0 where
    pub u : S.T
    pub fit : S.Fits u
    pub more : List S.T
    pub fits : AllFit S more
    pub many : length more ≡ n
    pub is : ys ≡ S.write u ++ (writes S more ++ rest)

  pub first : (n : ℕ) (ys rest : List ℕ) → Reads S (suc n) ys rest → First ys rest n
  first n ys rest r = go r.things r.fits r.many r.is
    where
      go : (ts : List S.T) → AllFit S ts → length ts ≡ suc n → ys ≡ writes S ts ++ rest → First ys rest n
      go [] f m e = absurd (omega (arith, m))
      go (t ∷ ts) f m e = record { u = t; fit = f.0; more = ts; fits = f.1; many = (let m' : length ts ≡ n = omega (arith, m) in m'); is = e ∙ append_assoc (S.write t) (writes S ts) rest }

  pub record Cut (k n : ℕ) (ts : List S.T) : Type 0 where
    pub these : List S.T
    pub those : List S.T
    pub fits : AllFit S ts → AllFit S these × AllFit S those
    pub many : (length these ≡ k) × (length those ≡ n)
    pub is : writes S ts ≡ writes S these ++ writes S those

  pub cut : (k n : ℕ) (ts : List S.T) → length ts ≡ k + n → Cut k n ts
  cut zero n ts m = record { these = []; those = ts; fits = λ f. (tt, f); many = (refl, omega arith); is = refl }
  cut (suc k) n [] m = absurd (omega (arith, m))
  cut (suc k) n (t ∷ ts) m =
      let c = cut k n ts (omega (arith, m)) in
      record {
        these = t ∷ c.these;
        those = c.those;
        fits = λ f. let g = c.fits f.1 in ((f.0, g.0), g.1);
        many = (ap suc c.many.0, c.many.1);
        is = ap (λ (v : List ℕ). S.write t ++ v) c.is ∙ sym (append_assoc (S.write t) (writes S c.these) (writes S c.those));
      }

module _ (S H : Coding) (arity : H.T → ℕ) (laws : Laws S H arity) where
  -- a tree taken apart
  pub record Apart (u : S.T) : Type 0 where
    pub head : H.T
    pub kids : List S.T
    pub head_fits : H.Fits head
    pub many : length kids ≡ arity head
    pub kids_fit : AllFit S kids
    pub is : u ≡ laws.splits.make head kids
    pub written : S.write u ≡ H.write head ++ writes S kids

  pub apart : (u : S.T) → S.Fits u → Apart u
  apart u f =
      let o = laws.splits.out u f in
      record { head = o.a; kids = o.b; head_fits = o.a_fits; many = o.b_fits.0; kids_fit = o.b_fits.1; is = o.is; written = ap S.write o.is ∙ laws.splits.written o.a o.b o.a_fits o.b_fits }

  -- what stands in front where a head does
  pub record InFront (xs : List ℕ) (e : ℕ) (h : H.T) (u : S.T) (rest : List ℕ) : Type 0 where
    pub kids : List S.T
    pub many : length kids ≡ arity h
    pub kids_fit : AllFit S kids
    pub is : u ≡ laws.splits.make h kids
    pub after : drop e xs ≡ writes S kids ++ rest

  pub in_front : (xs : List ℕ) (e : ℕ) (h : H.T) (u : S.T) (rest : List ℕ) → Begins H xs e h → S.Fits u → xs ≡ S.write u ++ rest → InFront xs e h u rest
  in_front xs e h u rest b f q =
      let a = apart u f in
      let r : H.write h ++ drop e xs ≡ H.write a.head ++ (writes S a.kids ++ rest)
      = sym (split_at e xs (H.write h) b.is) ∙ q ∙ ap (λ (v : List ℕ). v ++ rest) a.written ∙ append_assoc (H.write a.head) (writes S a.kids) rest in
      let w = laws.one_way h a.head _ _ b.fits a.head_fits r in
      record { kids = a.kids; many = a.many ∙ ap arity (sym w.0); kids_fit = a.kids_fit; is = a.is ∙ ap (λ (v : H.T). laws.splits.make v a.kids) (sym w.0); after = w.1 }

  pub opens : (h : H.T) → H.Fits h → Opens S (arity h) (H.write h)
  opens h fh n ys rest = (
    λ r.
        let o = first S n (H.write h ++ ys) rest r in
        let a = apart o.u o.fit in
        let q : H.write h ++ ys ≡ H.write a.head ++ (writes S a.kids ++ (writes S o.more ++ rest))
        = o.is ∙ ap (λ (v : List ℕ). v ++ (writes S o.more ++ rest)) a.written ∙ append_assoc (H.write a.head) (writes S a.kids) (writes S o.more ++ rest) in
        let w = laws.one_way h a.head ys _ fh a.head_fits q in
        record {
          things = a.kids ++ o.more;
          fits = fits_append S a.kids o.more a.kids_fit o.fits;
          many = length-append a.kids o.more ∙ ap₂ (λ (i : ℕ) (j : ℕ). i + j) (a.many ∙ ap arity (sym w.0)) o.many;
          is = w.1 ∙ sym (append_assoc (writes S a.kids) (writes S o.more) rest) ∙ ap (λ (v : List ℕ). v ++ rest) (sym (writes_append S a.kids o.more));
        },
    λ r.
        let c = cut S (arity h) n r.things r.many in
        let f = c.fits r.fits in
        let bf : (many S (arity h)).Fits c.these = (c.many.0, f.0) in
        let u = laws.splits.make h c.these in
        let e : H.write h ++ ys ≡ (H.write h ++ writes S c.these) ++ (writes S c.those ++ rest)
        = ap (λ (v : List ℕ). H.write h ++ v) (r.is ∙ ap (λ (v : List ℕ). v ++ rest) c.is ∙ append_assoc (writes S c.these) (writes S c.those) rest)
        ∙ sym (append_assoc (H.write h) (writes S c.these) (writes S c.those ++ rest)) in
        record {
          things = u ∷ c.those;
          fits = (laws.splits.fits h c.these fh bf, f.1);
          many = ap suc c.many.1;
          is = e ∙ ap (λ (v : List ℕ). v ++ (writes S c.those ++ rest)) (sym (laws.splits.written h c.these fh bf)) ∙ sym (append_assoc (S.write u) (writes S c.those) rest);
        },
  )

  pub opened : (xs : List ℕ) (e k : ℕ) (h : H.T) → Begins H xs e h → k ≡ arity h → k < 2 ^ 32 → Opened S xs k e
  opened xs e k h b q l =
      record {
        some = omega (arith, laws.long h b.fits, sym (ap length b.is), length_front e xs);
        within = b.within;
        few = l;
        opens = subst (λ (v : List ℕ). Opens S k v) (sym b.is) (subst (λ (v : ℕ). Opens S v (H.write h)) (sym q) (opens h b.fits));
      }
    where
      length_front : (n : ℕ) (ys : List ℕ) → length (take n ys) ≤ n
      length_front zero ys = omega arith
      length_front (suc n) [] = omega arith
      length_front (suc n) (y ∷ ys) = omega (arith, length_front n ys)

  closed : (xs : List ℕ) → NoneInFront H xs → Closed S xs
  closed xs h n rest r =
      let o = first S n xs rest r in
      let a = apart o.u o.fit in
      h a.head (writes S a.kids ++ (writes S o.more ++ rest)) a.head_fits
      (o.is ∙ ap (λ (v : List ℕ). v ++ (writes S o.more ++ rest)) a.written ∙ append_assoc (H.write a.head) (writes S a.kids) (writes S o.more ++ rest))

  -- a tree that is its head alone
  pub least : S.T
  least = laws.splits.make laws.leaf []

  pub least_fits : S.Fits least
  unfolding least
  least_fits = laws.splits.fits laws.leaf [] laws.leaf_fits (sym laws.leaf_alone, tt)

  pub inhabited : Inhabited S
  inhabited = record { thing = least; fits = least_fits }

  pub many_some : (k : ℕ) → (us : List S.T) × (many S k).Fits us
  many_some k = (replicate k least, (length-replicate k least, fits_replicate S k least least_fits))

  pub unopened : (xs : List ℕ) (p : ℕ) → Stuck H xs p → Unopened S xs p
  unopened xs p t =
      record {
        within = t.within;
        goes_on = λ n.
            let k = arity t.thing in
            let us = many_some k in
            let vs = many_some n in
            let u = laws.splits.make t.thing us.0 in (
              t.rest ++ (writes S us.0 ++ writes S vs.0),
              record {
                things = u ∷ vs.0;
                fits = (laws.splits.fits t.thing us.0 t.fits us.1, vs.1.1);
                many = ap suc vs.1.0;
                is =
                    sym (append_assoc (take p xs) t.rest (writes S us.0 ++ writes S vs.0)) ∙ ap (λ (v : List ℕ). v ++ (writes S us.0 ++ writes S vs.0)) t.goes_on
                    ∙ sym (append_assoc (H.write t.thing) (writes S us.0) (writes S vs.0))
                    ∙ ap (λ (v : List ℕ). v ++ writes S vs.0) (sym (laws.splits.written t.thing us.0 t.fits us.1))
                    ∙ sym (append-nil (S.write u ++ writes S vs.0));
              },
            );
        closed = closed xs t.absent;
        wrong = λ h ys. closed (take (p + 1) xs ++ ys) (t.wrong h ys);
      }

  -- trees are read in one way only: by the number of bytes
  ways : (b : ℕ) (us vs : List S.T) (xs ys : List ℕ) → length (writes S us) ≤ b → AllFit S us → AllFit S vs → length us ≡ length vs → writes S us ++ xs ≡ writes S vs ++ ys → (us ≡ vs) × (xs ≡ ys)
  ways b [] [] xs ys l f g m e = (refl, e)
  ways b [] (v ∷ vs) xs ys l f g m e = absurd (omega (arith, m))
  ways b (u ∷ us) [] xs ys l f g m e = absurd (omega (arith, m))
  ways zero (u ∷ us) (v ∷ vs) xs ys l f g m e =
      let a = apart u f.0 in
      let z : length (S.write u ++ writes S us) ≡ (length (H.write a.head) + length (writes S a.kids)) + length (writes S us)
      = length-append (S.write u) (writes S us) ∙ ap (λ (w : ℕ). w + length (writes S us)) (ap length a.written ∙ length-append (H.write a.head) (writes S a.kids)) in
      absurd (omega (arith, laws.long a.head a.head_fits))
  ways (suc b) (u ∷ us) (v ∷ vs) xs ys l f g m e =
      let a = apart u f.0 in
      let c = apart v g.0 in
      let p : S.write u ++ writes S us ≡ H.write a.head ++ writes S (a.kids ++ us)
      = ap (λ (w : List ℕ). w ++ writes S us) a.written ∙ append_assoc (H.write a.head) (writes S a.kids) (writes S us) ∙ ap (λ (w : List ℕ). H.write a.head ++ w) (sym (writes_append S a.kids us)) in
      let q : S.write v ++ writes S vs ≡ H.write c.head ++ writes S (c.kids ++ vs)
      = ap (λ (w : List ℕ). w ++ writes S vs) c.written ∙ append_assoc (H.write c.head) (writes S c.kids) (writes S vs) ∙ ap (λ (w : List ℕ). H.write c.head ++ w) (sym (writes_append S c.kids vs)) in
      let s : H.write a.head ++ (writes S (a.kids ++ us) ++ xs) ≡ H.write c.head ++ (writes S (c.kids ++ vs) ++ ys)
      = sym (append_assoc (H.write a.head) (writes S (a.kids ++ us)) xs) ∙ ap (λ (w : List ℕ). w ++ xs) (sym p) ∙ e ∙ ap (λ (w : List ℕ). w ++ ys) q ∙ append_assoc (H.write c.head) (writes S (c.kids ++ vs)) ys in
      let w = laws.one_way a.head c.head _ _ a.head_fits c.head_fits s in
      let km : length a.kids ≡ length c.kids = a.many ∙ ap arity w.0 ∙ sym c.many in
      let len : length (a.kids ++ us) ≡ length (c.kids ++ vs) = length-append a.kids us ∙ (let m' : length us ≡ length vs = omega (arith, m) in ap₂ (λ (i : ℕ) (j : ℕ). i + j) km m') ∙ sym (length-append c.kids vs) in
      let sz : length (S.write u ++ writes S us) ≡ length (H.write a.head) + length (writes S (a.kids ++ us)) = ap length p ∙ length-append (H.write a.head) (writes S (a.kids ++ us)) in
      let ih = ways b (a.kids ++ us) (c.kids ++ vs) xs ys (omega (arith, laws.long a.head a.head_fits)) (fits_append S a.kids us a.kids_fit f.1) (fits_append S c.kids vs c.kids_fit g.1) len w.1 in
      let k = append_same a.kids c.kids us vs km ih.0 in
      let uv : u ≡ v = a.is ∙ ap₂ (λ (i : H.T) (j : List S.T). laws.splits.make i j) w.0 k.0 ∙ sym c.is in
      (ap₂ (λ (i : S.T) (j : List S.T). i ∷ j) uv k.1, ih.1)

  pub many_way : (k : ℕ) → OneWay (many S k)
  many_way k us vs xs ys f g e = ways (length (writes S us)) us vs xs ys (omega arith) f.1 g.1 (f.0 ∙ sym g.0) e

  pub counted_way : OneWay (counted S)
  counted_way = way_both (counted S) (number 4) (λ k. many S k) (counted_splits S) (number_way 4) many_way

  pub tree_way : OneWay S
  tree_way u v xs ys f g e =
      let r = ways (length (writes S (u ∷ []))) (u ∷ []) (v ∷ []) xs ys (omega arith) (f, tt) (g, tt) refl (append_assoc (S.write u) [] xs ∙ e ∙ sym (append_assoc (S.write v) [] ys)) in
      (head_same u v r.0, r.1)
    where
      head_same : (a b : S.T) → a ∷ [] ≡ b ∷ [] → a ≡ b
      head_same a b q = cc

  -- a head that was read opens a tree; one that cannot be read opens none
  pub node_opened : {N : Type 0} (Tells : N → H.T → Type 0) (xs : List ℕ) (node : N) (k e : ℕ) → NodeRead H arity Tells xs node k e → Opened S xs k e
  node_opened Tells xs node k e r = opened xs e k r.thing r.begins r.says.1 r.says.2
