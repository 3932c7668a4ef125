-- What has been read of so many trees, and how many are still to come: the invariant of the scan.
use Rattle.std.proofs.Common.{◌≡◌, ℕ, zero, suc, ◌+◌, ◌-◌, ◌<◌, ◌≤◌, List, [], ◌∷◌, ◌++◌, length, take, drop, sym, refl, ap, ◌∙◌, subst, arith, length-drop, take-add}
use Rattle.std.proofs.lemmas.List.{append_assoc, append-nil}
use Rattle.format.specs.Coding.{Coding, writes, many}
use Rattle.format.specs.Reading.{Begins, Read, NoneInFront, Stuck, Reads, Opens, Opened, Unopened}
use Rattle.format.specs.Lists.{split_at}
use Rattle.format.specs.Trees.{same_reads}

-- to read c trees is to read hs, and then n trees
abbrev pub Spans : Coding → ℕ → ℕ → List ℕ → Type 0
Spans S c n hs = (ys rest : List ℕ) → (Reads S c (hs ++ ys) rest → Reads S n ys rest) × (Reads S n ys rest → Reads S c (hs ++ ys) rest)

module _ (S : Coding) (c : ℕ) where
  pub spans_none : (xs : List ℕ) → Spans S c c (take 0 xs)
  spans_none xs ys rest = (λ r. r, λ r. r)

  pub spans_more : (n m k e l : ℕ) (xs : List ℕ) → 0 < n → m ≡ n - 1 + k → Spans S c n (take e xs) → Opens S k (take l (drop e xs)) → Spans S c m (take (e + l) xs)
  spans_more zero m k e l xs h q s o ys rest = absurd (omega arith)
  spans_more (suc n) m k e l xs h q s o ys rest =
      let hs = take e xs in
      let gs = take l (drop e xs) in
      let us = take (e + l) xs in
      let f : us ++ ys ≡ hs ++ (gs ++ ys) = ap (λ (v : List ℕ). v ++ ys) (take-add e l xs) ∙ append_assoc hs gs ys in
      let g : k + n ≡ m = omega arith in
      let a = s (gs ++ ys) rest in
      let b = o n ys rest in (
        λ r. same_reads S (k + n) m ys ys rest g refl (b.0 (a.0 (same_reads S c c (us ++ ys) (hs ++ (gs ++ ys)) rest refl f r))),
        λ r. same_reads S c c (hs ++ (gs ++ ys)) (us ++ ys) rest refl (sym f) (a.1 (b.1 (same_reads S m (k + n) ys ys rest (sym g) refl r))),
      )

  no_more : (rest : List ℕ) → Reads S 0 rest rest
  no_more rest = record { things = []; fits = tt; many = refl; is = refl }

  pub spans_all : (n e : ℕ) (xs : List ℕ) → n ≤ 0 → e ≤ length xs → Spans S c n (take e xs) → Read (many S c) xs e
  spans_all (suc n) e xs h l s = absurd (omega arith)
  spans_all zero e xs h l s =
      let r = (s [] []).1 (no_more []) in
      record { thing = r.things; begins = record { within = l; fits = (r.many, r.fits); is = sym (append-nil (take e xs)) ∙ r.is ∙ append-nil (writes S r.things) } }

  reads_many : (xs rest : List ℕ) (us : List S.T) → (many S c).Fits us → xs ≡ writes S us ++ rest → Reads S c xs rest
  reads_many xs rest us f e = record { things = us; fits = f.1; many = f.0; is = e }

  pub spans_stuck : (n e p : ℕ) (xs : List ℕ) → 0 < n → e ≤ length xs → Spans S c n (take e xs) → Unopened S (drop e xs) p → Stuck (many S c) xs (e + p)
  spans_stuck zero e p xs h l s u = absurd (omega arith)
  spans_stuck (suc n) e p xs h l s u =
      let g = u.goes_on n in
      let r = (s (take p (drop e xs) ++ g.0) []).1 g.1 in
      let front : (m : ℕ) (ys : List ℕ) → take (e + m) xs ++ ys ≡ take e xs ++ (take m (drop e xs) ++ ys)
      = λ m ys. ap (λ (v : List ℕ). v ++ ys) (take-add e m xs) ∙ append_assoc (take e xs) (take m (drop e xs)) ys in
      record {
        within = omega (arith, u.within, length-drop e xs);
        rest = g.0;
        thing = r.things;
        fits = (r.many, r.fits);
        goes_on = front p g.0 ∙ r.is ∙ append-nil (writes S r.things);
        absent = λ us rest f q. u.closed n rest ((s (drop e xs) rest).0 (reads_many _ rest us f (sym (split_at e xs (take e xs) refl) ∙ q)));
        wrong = λ k ys us rest f q.
            let j : p < length (drop e xs) = omega (arith, length-drop e xs) in
            let m : (e + p) + 1 ≡ e + (p + 1) = omega arith in
            u.wrong j ys n rest ((s (take (p + 1) (drop e xs) ++ ys) rest).0 (reads_many _ rest us f (sym (ap (λ (i : ℕ). take i xs ++ ys) m ∙ front (p + 1) ys) ∙ q)));
      }

  -- the rest is read at once
  pub spans_read : (n e f : ℕ) (xs : List ℕ) → e ≤ length xs → Spans S c n (take e xs) → Read (many S n) (drop e xs) f → Read (many S c) xs (e + f)
  spans_read n e f xs l s r =
      let b = r.begins in
      let q = (s (take f (drop e xs)) []).1 record { things = r.thing; fits = b.fits.1; many = b.fits.0; is = b.is ∙ sym (append-nil (writes S r.thing)) } in
      record {
        thing = q.things;
        begins = record { within = omega (arith, b.within, length-drop e xs); fits = (q.many, q.fits); is = take-add e f xs ∙ q.is ∙ append-nil (writes S q.things) };
      }

  pub spans_cut : (n e p : ℕ) (xs : List ℕ) → e ≤ length xs → Spans S c n (take e xs) → Stuck (many S n) (drop e xs) p → Stuck (many S c) xs (e + p)
  spans_cut n e p xs l s t =
      let r = (s (take p (drop e xs) ++ t.rest) []).1 record { things = t.thing; fits = t.fits.1; many = t.fits.0; is = t.goes_on ∙ sym (append-nil (writes S t.thing)) } in
      let front : (m : ℕ) (ys : List ℕ) → take (e + m) xs ++ ys ≡ take e xs ++ (take m (drop e xs) ++ ys)
      = λ m ys. ap (λ (v : List ℕ). v ++ ys) (take-add e m xs) ∙ append_assoc (take e xs) (take m (drop e xs)) ys in
      let none : (ys : List ℕ) → NoneInFront (many S n) ys → NoneInFront (many S c) (take e xs ++ ys)
      = λ ys h us rest f q. let o = (s ys rest).0 (reads_many _ rest us f q) in h o.things rest (o.many, o.fits) o.is in
      record {
        within = omega (arith, t.within, length-drop e xs);
        rest = t.rest;
        thing = r.things;
        fits = (r.many, r.fits);
        goes_on = front p t.rest ∙ r.is ∙ append-nil (writes S r.things);
        absent = subst (λ (v : List ℕ). NoneInFront (many S c) v) (sym (split_at e xs (take e xs) refl)) (none (drop e xs) t.absent);
        wrong = λ k ys.
            let j : p < length (drop e xs) = omega (arith, length-drop e xs) in
            let m : (e + p) + 1 ≡ e + (p + 1) = omega arith in
            subst (λ (v : List ℕ). NoneInFront (many S c) v) (sym (ap (λ (i : ℕ). take i xs ++ ys) m ∙ front (p + 1) ys)) (none (take (p + 1) (drop e xs) ++ ys) (t.wrong j ys));
      }

-- one tree is exactly one
pub one_read : (S : Coding) (xs : List ℕ) (e : ℕ) → Read (many S 1) xs e → Read S xs e
one_read S xs e r = go r.thing r.begins
  where
    go : (us : List S.T) → Begins (many S 1) xs e us → Read S xs e
    go [] b = absurd (omega (arith, b.fits.0))
    go (u ∷ []) b = record { thing = u; begins = record { within = b.within; fits = b.fits.1.0; is = b.is ∙ append-nil (S.write u) } }
    go (u ∷ v ∷ us) b = absurd (omega (arith, b.fits.0))

pub one_stuck : (S : Coding) (xs : List ℕ) (p : ℕ) → Stuck (many S 1) xs p → Stuck S xs p
one_stuck S xs p t = go t.thing t.fits t.goes_on
  where
    absent_one : (ys : List ℕ) → NoneInFront (many S 1) ys → NoneInFront S ys
    absent_one ys h x rest f e = h (x ∷ []) rest (refl, (f, tt)) (e ∙ sym (append_assoc (S.write x) [] rest))

    go : (us : List S.T) → (many S 1).Fits us → take p xs ++ t.rest ≡ writes S us → Stuck S xs p
    go [] f q = absurd (omega (arith, f.0))
    go (u ∷ []) f q =
        record { within = t.within; rest = t.rest; thing = u; fits = f.1.0; goes_on = q ∙ append-nil (S.write u); absent = absent_one xs t.absent; wrong = λ h ys. absent_one (take (p + 1) xs ++ ys) (t.wrong h ys) }
    go (u ∷ v ∷ us) f q = absurd (omega (arith, f.0))

-- what a head opens
pub spans_opened : (S : Coding) (xs : List ℕ) (k e : ℕ) → Opened S xs k e → Spans S 1 k (take e xs)
spans_opened S xs k e o ys rest =
    let q : k + 0 ≡ k = omega arith in
    (λ r. same_reads S (k + 0) k ys ys rest q refl ((o.opens 0 ys rest).0 r), λ r. (o.opens 0 ys rest).1 (same_reads S k (k + 0) ys ys rest (sym q) refl r))

pub unopened_stuck : (S : Coding) (xs : List ℕ) (p : ℕ) → Unopened S xs p → Stuck S xs p
unopened_stuck S xs p u = one_stuck S xs p (subst (λ (v : ℕ). Stuck (many S 1) xs v) (let z : 0 + p ≡ p = omega arith in z) (spans_stuck S 1 1 0 p xs (omega arith) (omega arith) (spans_none S 1 xs) u))
