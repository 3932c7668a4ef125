-- A thing is its head and then the things after it: what is read of its head, from what the head counts of its own.
use Rattle.std.proofs.Common.{◌≡◌, ℕ, suc, ◌+◌, ◌-◌, ◌<◌, Bool, true, false, ◌&&◌, List, ◌∷◌, ◌++◌, length, get_or, drop, Some, None, Option, sym, ap, ◌∙◌, arith}
use Rattle.std.proofs.lemmas.List.{append_assoc, drop_more}
use Rattle.format.specs.Coding.{Coding, writes}
use Rattle.format.specs.Reading.{Stuck}
use Rattle.format.specs.Nodes.{NodeRead}
use Rattle.format.specs.Lists.{from, from_drop, split_at}
use Rattle.format.proofs.Pairs.{written_length}
use Rattle.parts.specs.Counts.{total, all_hold, FrontTold}
use Rattle.parts.specs.Heads.{Weighs, Weighed}
use Rattle.parts.proofs.Aparts.{Parted, InFront, in_front}
use Rattle.parts.proofs.Walk.{and_l, all_true}

-- how a sort of thing is taken apart, what its heads count, and what of them decides on what is asked
pub record Weights : Type 1 where
  pub S : Coding
  pub H : Coding
  pub arity : H.T → ℕ
  pub build : H.T → List S.T → S.T
  pub parted : Parted S H arity build
  pub size : S.T → ℕ
  pub own : H.T → ℕ
  pub holds : S.T → Bool
  pub good : H.T → Bool
  pub sizing : (h : H.T) (us : List S.T) → length us ≡ arity h → size (build h us) ≡ suc (own h + total size us)
  pub holding : (h : H.T) (us : List S.T) → length us ≡ arity h → holds (build h us) ≡ good h && all_hold holds us

module _ (w : Weights) where
  -- each thing has a part at least
  pub front_none : (limit : ℕ) (xs : List ℕ) → limit ≡ 0 → FrontTold w.S w.size w.holds limit xs None
  front_none limit xs z = record { tells = λ u rest f q l. let a = w.parted.apart u f in absurd (omega (arith, ap w.size a.is, w.sizing a.head a.kids a.many)); bounded = tt }

  -- where no head stands in front, no thing does
  pub front_stuck : (limit p : ℕ) (xs : List ℕ) → Stuck w.H xs p → FrontTold w.S w.size w.holds limit xs None
  front_stuck limit p xs t =
      record {
        tells = λ u rest f q l.
            let a = w.parted.apart u f in
            absurd (t.absent a.head (writes w.S a.kids ++ rest) a.head_fits (q ∙ ap (λ (v : List ℕ). v ++ rest) a.written ∙ append_assoc (w.H.write a.head) (writes w.S a.kids) rest));
        bounded = tt;
      }

  module _ {N : Type 0} (Tells : N → w.H.T → Type 0) (limit : ℕ) (xs : List ℕ) (node : N) (k e : ℕ) (n : NodeRead w.H w.arity Tells xs node k e) where
    -- a head has a tag at least
    pub head_long : 0 < length xs
    head_long = omega (arith, w.parted.long n.thing n.begins.fits, written_length w.H xs e n.thing n.begins, n.begins.within)

    pub after_tag : get_or xs 0 0 ∷ from 1 xs ≡ w.H.write n.thing ++ drop e xs
    after_tag = ap (λ (v : List ℕ). get_or xs 0 0 ∷ v) (from_drop 1 xs) ∙ sym (drop_more xs 0 0 head_long) ∙ split_at e xs (w.H.write n.thing) n.begins.is

    abbrev apart_at : (u : w.S.T) (rest : List ℕ) → w.S.Fits u → xs ≡ w.S.write u ++ rest → InFront w.S w.H w.arity w.build w.parted xs e n.thing u rest
    apart_at u rest f q = in_front w.S w.H w.arity w.build w.parted xs e n.thing u rest n.begins f q

    -- the head is not as is asked
    pub front_bad : w.good n.thing ≡ false → FrontTold w.S w.size w.holds limit xs None
    front_bad b =
        record {
          tells = λ u rest f q l. let a = apart_at u rest f q in ap w.holds a.is ∙ w.holding n.thing a.kids a.many ∙ and_l (w.good n.thing) (all_hold w.holds a.kids) b;
          bounded = tt;
        }

    module _ (some : 0 < limit) where
      weighed : (r : Option ℕ) → Weighed w.H Tells w.own (limit - 1) (from 1 xs) node r → Weighs (limit - 1) (w.own n.thing) r
      weighed r v = v.weighs n.thing (get_or xs 0 0) (drop e xs) n.begins.fits n.says.0 after_tag

      -- the head alone counts more than the limit
      pub front_heavy : Weighed w.H Tells w.own (limit - 1) (from 1 xs) node None → FrontTold w.S w.size w.holds limit xs None
      front_heavy v =
          record {
            tells = λ u rest f q l. let a = apart_at u rest f q in absurd (omega (arith, weighed None v, ap w.size a.is, w.sizing n.thing a.kids a.many));
            bounded = tt;
          }

      pub front_done : (m : ℕ) → Weighed w.H Tells w.own (limit - 1) (from 1 xs) node (Some m) → w.good n.thing ≡ true → FrontTold w.S w.size w.holds limit xs (Some record { own = 1 + m; after = k; length = e })
      front_done m v g =
          let o = weighed (Some m) v in
          record {
            tells = λ u rest f q.
                let a = apart_at u rest f q in
                record {
                  kids = a.kids;
                  many = a.many ∙ sym n.says.1;
                  fits = a.kids_fit;
                  after = a.after;
                  size_is = omega (arith, o.0, ap w.size a.is, w.sizing n.thing a.kids a.many);
                  holds_is = ap w.holds a.is ∙ w.holding n.thing a.kids a.many ∙ ap (λ (b : Bool). b && all_hold w.holds a.kids) g;
                };
            bounded = (omega (arith, o.1), omega (arith, w.parted.long n.thing n.begins.fits, written_length w.H xs e n.thing n.begins), n.begins.within, n.says.2);
          }

-- where nothing is asked
pub asks_nothing : {A : Type 0} (us : List A) → true ≡ true && all_hold (λ (u : A). true) us
asks_nothing us = sym (all_true us)
