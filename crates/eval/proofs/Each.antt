-- A query asked of each of a bag: what holds on the way.
use Rattle.std.proofs.Common.{◌≡◌, ℕ, suc, ◌+◌, ◌-◌, ◌*◌, ◌<◌, ◌≤◌, true, T, ◌⊎◌, List, [], length, get_or, Ok, Err, Result, sym, refl, ap, ◌∙◌, subst, inl, inr, mul-le-mul_right, arith}
use Rattle.query.specs.Data.{Data, bag, Datas, none, more}
use Rattle.query.specs.Query.{Got, came, adding, after, each_of, eval}
use Rattle.query.specs.Types.{all_of}
use Rattle.values.specs.Memory.{Kept, Used, Under, Grown, Holds, HoldsAll, loaded}
use Rattle.values.specs.declared.value.Place.{Place}
use Rattle.values.specs.declared.value.Value.{Value}
use Rattle.values.specs.declared.value.Value.TheVariants.{Bag}
use Rattle.values.proofs.Frame.{kept_agree, holds_kept}
use Rattle.operators.specs.Means.{CameTo, Stopped, Means}
use Rattle.operators.specs.Came.{Came}
use Rattle.operators.specs.declared.came.Stop.{Stop}
use Rattle.operators.specs.declared.came.Stop.TheVariants.{Tired, NoRoom, Wrong}
use Rattle.operators.proofs.Steps.{after_came}
use Rattle.operators.proofs.Dues.{adding_zero}
use Rattle.eval.specs.Ready.{Setting, Ready, Answers, EachReady, EachAnswers}
use mathlib.Core.Path.{fun_ext}
use Rattle.query.specs.Data.{join, how_many}
use Rattle.query.proofs.OfType.{first_of, rest_of}
use Rattle.values.specs.Memory.{Stored, Agree}
use Rattle.values.proofs.Frame.{kept_trans, stored_kept, all_kept}
use Rattle.operators.specs.Means.{Comes}
use Rattle.operators.proofs.Grows.{grown_trans}
use Rattle.operators.proofs.Steps.{after_failed, after_pays}
use Rattle.operators.proofs.Dues.{adding_adding}
use Rattle.values.proofs.Ranged.{ranged, ranged_old, ranged_split, run_ranged}
use Rattle.eval.proofs.Frames.{held_kept, as_many}

pub join_none : (ds : Datas) → join ds none ≡ ds
unfolding join
join_none none = refl
join_none (more d ds) = ap (more d) (join_none ds)

pub join_one : (ds : Datas) (e : Data) (es : Datas) → join (join ds (more e none)) es ≡ join ds (more e es)
unfolding join
join_one none e es = refl
join_one (more d ds) e es = ap (more d) (join_one ds e es)

pub all_one : (bs m : List ℕ) (u : Used) (ds : Datas) (e : Data) (at n : ℕ) → HoldsAll bs m u ds at n → Holds bs m u e (loaded m (at + 3 * n)) → HoldsAll bs m u (join ds (more e none)) at (suc n)
unfolding HoldsAll join
all_one bs m u none e at n h k =
    let z : at + 3 * n ≡ at = omega (arith, h) in
    (n, refl, subst (λ x. Holds bs m u e (loaded m x)) z k, h)
all_one bs m u (more d ds) e at n h k =
    let z : at + 3 * n ≡ at + 3 + 3 * h.0 = omega (arith, h.1) in
    (n, refl, h.2, subst (λ x. HoldsAll bs m u (join ds (more e none)) (at + 3) x) (sym h.1) (all_one bs m u ds e (at + 3) h.0 h.3 (subst (λ x. Holds bs m u e (loaded m x)) z k)))

-- the first of those that are left
pub record Next (bs m : List ℕ) (u : Used) (ds : Datas) (at k : ℕ) : Type 0 where
  pub item : Data
  pub others : Datas
  pub is : ds ≡ more item others
  pub holds : Holds bs m u item (loaded m at)
  pub lie : HoldsAll bs m u others (at + 3) (k - 1)

pub next : (bs m : List ℕ) (u : Used) (ds : Datas) (at k : ℕ) → 0 < k → HoldsAll bs m u ds at k → Next bs m u ds at k
unfolding HoldsAll
next bs m u none at k lt h = absurd (let z : ⊥ = omega (arith, h) in z)
next bs m u (more d ds) at k lt h =
    let e : h.0 ≡ k - 1 = omega (arith, h.1) in
    record { item = d; others = ds; is = refl; holds = h.2; lie = subst (λ x. HoldsAll bs m u ds (at + 3) x) e h.3 }

pub none_left : (bs m : List ℕ) (u : Used) (ds : Datas) (at k : ℕ) → k ≡ 0 → HoldsAll bs m u ds at k → ds ≡ none
unfolding HoldsAll
none_left bs m u none at k z h = refl
none_left bs m u (more d ds) at k z h = absurd (let y : ⊥ = omega (arith, h.1) in y)

-- if it comes to something, each was looked at
pub each_pays : (f : Data → Got) (ds : Datas) (g : Datas → Got) → Comes (each_of f ds g) → how_many ds ≤ (each_of f ds g).work
unfolding each_of how_many
each_pays f none g c = omega arith
each_pays f (more d ds) g c = omega (arith, after_pays [] 0 (adding 1 (f d)) (λ e. each_of f ds (λ es. g (more e es))) (how_many ds) (λ e c. each_pays f ds (λ es. g (more e es)) c) c)

-- what is paid for is enough: at the start, on the way, and where memory ends
pays_first : (p n top y : ℕ) → 3 ≤ p → y ≡ n → top + 3 * n ≤ top + p * (0 + y)
pays_first p n top y l e = subst (λ y. top + 3 * n ≤ top + p * (0 + y)) (sym e) (let k : 3 * n ≤ p * n = mul-le-mul_right n l in omega (arith, k))

pays_next : (p w v y high high' top : ℕ) → high ≤ top + p * (w + (1 + y)) → high' ≤ high + p * v → high' ≤ top + p * (w + (1 + v) + y)
pays_next p w v y high high' top h k = omega (arith, h, k)

pays_until : (p w v y high top end : ℕ) → high ≤ top + p * (w + (1 + y)) → end < high + p * v → end < top + p * (w + (1 + y) + v)
pays_until p w v y high top end h k = omega (arith, h, k)

-- one of them stopped, with as many as `y` to come
each_stop : (p w y rest b : ℕ) (h : Got) (on : Data → Got) (high top end : ℕ) (s : Stop) → ((e : Data) → Comes (on e) → y ≤ (on e).work) → w + (1 + y) + rest ≡ b → high ≤ top + p * (w + (1 + y)) →
    Stopped p h rest high end s → Stopped p (adding w (after (adding 1 h) on)) b top end s
each_stop p w y rest b h on high top end Tired k e t st = λ c. omega (arith, after_pays [] 0 (adding 1 h) on y k c, st (λ z. c (after_failed [] 0 (adding 1 h) on z)))
each_stop p w y rest b h on high top end Wrong k e t st = after_failed [] 0 (adding 1 h) on st
each_stop p w y rest b h on high top end NoRoom k e t st = λ c.
    let z = st (λ z. c (after_failed [] 0 (adding 1 h) on z)) in
    record { spent = w + (1 + y) + z.spent; part = omega (arith, after_pays [] 0 (adding 1 h) on y k c, z.part); afford = omega (arith, z.afford); lacks = pays_until p w z.spent y high top end t z.lacks }

-- what is asked of each
abbrev pub asking : {S : Setting} {qs : List ℕ} {at : ℕ} {a : Value} {p : Place} {m : List ℕ} {top : ℕ} → EachReady S qs at a p m top → Data → Got
asking g x = eval g.world.tables g.query g.along x

abbrev pub to_bag : Datas → Datas → Got
to_bag done ys = came 0 (bag (join done ys))

-- `i` are done, and memory is `n`, used below `high`; the slots that are reserved for what comes lie above the top
pub record Going {S : Setting} {qs : List ℕ} {at : ℕ} {a : Value} {p : Place} {m : List ℕ} {top : ℕ} (g : EachReady S qs at a p m top) (budget : ℕ) (n : List ℕ) (i high rest : ℕ) : Type 0 where
  pub done : Datas
  pub to_come : Datas
  pub now_used : Used
  pub work : ℕ
  pub are : all_of to_come g.ti ≡ true
  pub grown : Grown g.used now_used (top + 3 * p.count) high
  pub made : HoldsAll S.bytes n now_used done top i
  pub lie : HoldsAll S.bytes n now_used to_come (p.start + 3 * i) (p.count - i)
  pub comes : each_of (asking g) g.items (λ ys. came 0 (bag ys)) ≡ adding work (each_of (asking g) to_come (to_bag done))
  pub paid : work + (p.count - i) + rest ≡ budget
  pub thrifty : high ≤ top + g.world.rate * (work + (p.count - i))

pub record Turn (S : Setting) (qs : List ℕ) (at : ℕ) (a : Value) (p : Place) (m : List ℕ) (top budget : ℕ) (n : List ℕ) (i high rest : ℕ) : Type 0 where
  pub kept : Kept top m n
  pub above : top + 3 * p.count ≤ high
  pub within : high ≤ length n
  pub going : (g : EachReady S qs at a p m top) → Going g budget n i high rest

module _ {S : Setting} {qs : List ℕ} {at : ℕ} {a : Value} {p : Place} {m : List ℕ} {top : ℕ} (b : ℕ) where
  counted : (g : EachReady S qs at a p m top) → how_many g.items ≡ p.count
  counted g = as_many S.bytes m g.used g.items p.start p.count g.row.lie

  pub each_too_many : b < p.count → EachAnswers S qs at a p m top b m (Err Tired)
  each_too_many h = record { means = λ g c. omega (arith, counted g, each_pays (asking g) g.items (λ ys. came 0 (bag ys)) c) }

  pub each_no_room : p.count ≤ b → length m < top + 3 * p.count → EachAnswers S qs at a p m top b m (Err NoRoom)
  each_no_room h k = record {
    means = λ g c.
        let d : 3 ≤ g.world.rate = omega (arith, g.world.dear) in
        record { spent = p.count; part = omega (arith, counted g, each_pays (asking g) g.items (λ ys. came 0 (bag ys)) c); afford = h; lacks = omega (arith, mul-le-mul_right p.count d) };
  }

  pub begin : p.count ≤ b → top + 3 * p.count ≤ length m → Turn S qs at a p m top b m 0 (top + 3 * p.count) (b - p.count)
  unfolding HoldsAll join
  begin enough room = record {
    kept = record { long = refl; same = λ k h. refl };
    above = omega arith;
    within = room;
    going = λ g. record {
      done = none;
      to_come = g.items;
      now_used = g.used;
      work = 0;
      are = g.are_items;
      grown = record { wider = λ k t. t; fresh = λ k t. inl t };
      made = refl;
      lie = let e : p.start + 3 * 0 ≡ p.start = omega arith in let f : p.count - 0 ≡ p.count = omega arith in
          subst (λ x. HoldsAll S.bytes m g.used g.items x (p.count - 0)) (sym e) (subst (λ x. HoldsAll S.bytes m g.used g.items p.start x) (sym f) g.row.lie);
      comes = adding_zero (each_of (asking g) g.items (λ ys. came 0 (bag ys)));
      paid = omega arith;
      thrifty = pays_first g.world.rate p.count top (p.count - 0) (omega (arith, g.world.dear)) (omega arith);
    };
  }

  pub spot : (i : ℕ) → EachReady S qs at a p m top → i < p.count → p.start + 3 * i + 3 ≤ top
  spot i g lt = let k : p.start + 3 * i + 2 < top = g.held.low.low _ (g.row.run.used (p.start + 3 * i + 2) (omega arith) (omega arith)) in omega arith

  module _ (n : List ℕ) (i high rest : ℕ) (t : Turn S qs at a p m top b n i high rest) where
    -- what the rest comes to is what all comes to
    from_rest : (g : EachReady S qs at a p m top) (n' : List ℕ) (r : Result Came Stop) →
        Means S.bytes g.world.rate (adding (t.going g).work (each_of (asking g) (t.going g).to_come (to_bag (t.going g).done))) b g.used top n' r →
        Means S.bytes g.world.rate (each_of (asking g) g.items (λ ys. came 0 (bag ys))) b g.used top n' r
    from_rest g n' r h = subst (λ x. Means S.bytes g.world.rate x b g.used top n' r) (sym (t.going g).comes) h

    pub under_high : (g : EachReady S qs at a p m top) → Under (t.going g).now_used high
    under_high g = record { low = λ k s. go k ((t.going g).grown.fresh k s) }
      where
        go : (k : ℕ) → T (g.used k) ⊎ ((top + 3 * p.count ≤ k) × (k < high)) → k < high
        go k (inl s) = omega (arith, g.held.low.low k s, t.above)
        go k (inr s) = s.1

    pub finished : i ≡ p.count → EachAnswers S qs at a p m top b n (Ok (record { value = Bag (record { start = top; count = p.count }); top = high; left = rest }))
    unfolding each_of Holds
    finished e = record {
      means = λ g.
          let w = t.going g in
          let z : w.to_come ≡ none = none_left S.bytes n w.now_used w.to_come (p.start + 3 * i) (p.count - i) (omega arith) w.lie in
          let r : Result Came Stop = Ok (record { value = Bag (record { start = top; count = p.count }); top = high; left = rest }) in
          let u : Used = ranged w.now_used top (top + 3 * p.count) in
          let none_to_go : p.count - i ≡ 0 = omega arith in
          let th : high ≤ top + g.world.rate * (w.work + 0) = subst (λ y. high ≤ top + g.world.rate * (w.work + y)) none_to_go w.thrifty in
          from_rest g n r
          (subst (λ x. Means S.bytes g.world.rate (adding w.work (each_of (asking g) x (to_bag w.done))) b g.used top n r) (sym z)
          (subst (λ x. Means S.bytes g.world.rate (adding w.work (came 0 (bag x))) b g.used top n r) (sym (join_none w.done))
          (record {
            datum = bag w.done;
            is = refl;
            now_used = u;
            grown = record { wider = λ k s. ranged_old w.now_used top (top + 3 * p.count) k (w.grown.wider k s); fresh = λ k s. split g k (ranged_split w.now_used top (top + 3 * p.count) k s) };
            holds = (
              record { start = top; count = p.count },
              refl,
              run_ranged w.now_used top (top + 3 * p.count) top (3 * p.count) (omega arith) (omega arith),
              subst (λ x. HoldsAll S.bytes n u w.done top x) e
                  (all_kept S.bytes u w.done top i (record { same = λ k s. refl }) (λ k s. ranged_old w.now_used top (top + 3 * p.count) k s) (λ k y z. refl) w.made),
            );
            paid = omega (arith, w.paid);
            above = omega (arith, t.above);
            within = t.within;
            thrifty = omega (arith, th);
          })));
    }
      where
        old_or_new : (g : EachReady S qs at a p m top) (k : ℕ) → T (g.used k) ⊎ ((top + 3 * p.count ≤ k) × (k < high)) → T (g.used k) ⊎ ((top ≤ k) × (k < high))
        old_or_new g k (inl s) = inl s
        old_or_new g k (inr s) = inr (omega (arith, s.0), s.1)

        split : (g : EachReady S qs at a p m top) (k : ℕ) → T ((t.going g).now_used k) ⊎ ((top ≤ k) × (k < top + 3 * p.count)) → T (g.used k) ⊎ ((top ≤ k) × (k < high))
        split g k (inl s) = old_or_new g k ((t.going g).grown.fresh k s)
        split g k (inr s) = inr (s.0, omega (arith, s.1, t.above))

    module _ (lt : i < p.count) where
      pub nexts : (g : EachReady S qs at a p m top) → Next S.bytes n (t.going g).now_used (t.going g).to_come (p.start + 3 * i) (p.count - i)
      nexts g = next S.bytes n (t.going g).now_used (t.going g).to_come (p.start + 3 * i) (p.count - i) (omega arith) (t.going g).lie

      pub next_are : (g : EachReady S qs at a p m top) → all_of (more (nexts g).item (nexts g).others) g.ti ≡ true
      next_are g = subst (λ x. all_of x g.ti ≡ true) (nexts g).is (t.going g).are

      -- after this one, the others
      abbrev on : (g : EachReady S qs at a p m top) → Data → Got
      on g e = each_of (asking g) (nexts g).others (λ es. came 0 (bag (join (t.going g).done (more e es))))

      from_next : (g : EachReady S qs at a p m top) (n' : List ℕ) (r : Result Came Stop) →
          Means S.bytes g.world.rate (adding (t.going g).work (after (adding 1 (asking g (nexts g).item)) (on g))) b g.used top n' r →
          Means S.bytes g.world.rate (each_of (asking g) g.items (λ ys. came 0 (bag ys))) b g.used top n' r
      unfolding each_of
      from_next g n' r h =
          from_rest g n' r (subst (λ x. Means S.bytes g.world.rate (adding (t.going g).work (each_of (asking g) x (to_bag (t.going g).done))) b g.used top n' r) (sym (nexts g).is) h)

      one_less : p.count - i ≡ 1 + (p.count - (i + 1))
      one_less = omega arith

      others : (g : EachReady S qs at a p m top) → how_many (nexts g).others ≡ p.count - (i + 1)
      others g = omega (arith, as_many S.bytes n (t.going g).now_used (nexts g).others (p.start + 3 * i + 3) (p.count - i - 1) (nexts g).lie)

      paid_for : (g : EachReady S qs at a p m top) → high ≤ top + g.world.rate * ((t.going g).work + (1 + (p.count - (i + 1))))
      paid_for g = subst (λ y. high ≤ top + g.world.rate * ((t.going g).work + y)) one_less (t.going g).thrifty

      module _ (x : Value) (e : x ≡ loaded n (p.start + 3 * i)) where
        abbrev pub item_ready : EachReady S qs at a p m top → Ready S qs at a x n high
        item_ready g =
            let w = t.going g in
            record {
              world = g.world;
              query = g.query;
              stands = g.stands;
              te = g.te;
              ti = g.ti;
              tu = g.tu;
              typed = g.typed;
              along = g.along;
              looked = (nexts g).item;
              is_along = g.is_along;
              is_looked = first_of (nexts g).item (nexts g).others g.ti (next_are g);
              used = w.now_used;
              held = held_kept (kept_agree g.held.low t.kept) w.grown.wider (under_high g) t.within g.held;
              looks = subst (λ v. Holds S.bytes n w.now_used (nexts g).item v) (sym e) (nexts g).holds;
            }

        module _ (n' : List ℕ) where
          pub item_stops : (s : Stop) → Answers S qs at a x n high rest n' (Err s) → EachAnswers S qs at a p m top b n' (Err s)
          item_stops s f = record {
            means = λ g.
                let w = t.going g in
                let y : w.work + (1 + (p.count - (i + 1))) + rest ≡ b = omega (arith, w.paid) in
                from_next g n' (Err s) (each_stop g.world.rate w.work (p.count - (i + 1)) rest b (asking g (nexts g).item) (on g) high top (length n') s
                (λ e c. omega (arith, others g, each_pays (asking g) (nexts g).others (λ es. came 0 (bag (join w.done (more e es)))) c)) y (paid_for g) (f.means (item_ready g)));
          }

          module _ (c : Came) (kept : Kept high n n') (f : Answers S qs at a x n high rest n' (Ok c)) where
            pub item_came : (g : EachReady S qs at a p m top) → CameTo S.bytes g.world.rate (asking g (nexts g).item) rest (t.going g).now_used high n' c
            item_came g = f.means (item_ready g)

            -- where those in use lie: not in the slots that are reserved
            lies : (g : EachReady S qs at a p m top) (k : ℕ) → T ((item_came g).now_used k) → (k < top) ⊎ (top + 3 * p.count ≤ k)
            lies g k s = second ((item_came g).grown.fresh k s)
              where
                first : T (g.used k) ⊎ ((top + 3 * p.count ≤ k) × (k < high)) → (k < top) ⊎ (top + 3 * p.count ≤ k)
                first (inl s) = inl (g.held.low.low k s)
                first (inr s) = inr s.0

                second : T ((t.going g).now_used k) ⊎ ((high ≤ k) × (k < c.top)) → (k < top) ⊎ (top + 3 * p.count ≤ k)
                second (inl s) = first ((t.going g).grown.fresh k s)
                second (inr s) = inr (omega (arith, s.0, t.above))

            module _ (n'' : List ℕ) (st : Stored (top + 3 * i) c.value n' n'') where
              agrees : (g : EachReady S qs at a p m top) → Agree (item_came g).now_used n' n''
              agrees g = record { same = λ k s. go k (lies g k s) }
                where
                  go : (k : ℕ) → (k < top) ⊎ (top + 3 * p.count ≤ k) → get_or n'' k 0 ≡ get_or n' k 0
                  go k (inl s) = st.before k (omega arith)
                  go k (inr s) = st.after k (omega arith)

              comes_next : (g : EachReady S qs at a p m top) → each_of (asking g) g.items (λ ys. came 0 (bag ys))
                  ≡ adding ((t.going g).work + (1 + (asking g (nexts g).item).work)) (each_of (asking g) (nexts g).others (to_bag (join (t.going g).done (more (item_came g).datum none))))
              unfolding each_of
              comes_next g =
                  let w = t.going g in
                  let f = asking g (nexts g).item in
                  let d : Data = (item_came g).datum in
                  let one_on : each_of (asking g) w.to_come (to_bag w.done) ≡ after (adding 1 f) (on g) = ap (λ y. each_of (asking g) y (to_bag w.done)) (nexts g).is in
                  let came_on : after (adding 1 f) (on g) ≡ adding (1 + f.work) (on g d) = after_came [] 0 (adding 1 f) (on g) d (item_came g).is in
                  let same_on : on g d ≡ each_of (asking g) (nexts g).others (to_bag (join w.done (more d none))) =
                  ap (λ F. each_of (asking g) (nexts g).others F) (fun_ext (λ ys. ap (λ z. came 0 (bag z)) (sym (join_one w.done d ys)))) in
                  w.comes ∙ ap (λ y. adding w.work y) (one_on ∙ came_on ∙ ap (λ y. adding (1 + f.work) y) same_on)
                  ∙ adding_adding w.work (1 + f.work) (each_of (asking g) (nexts g).others (to_bag (join w.done (more d none))))

              pub turned : EachReady S qs at a p m top → Turn S qs at a p m top b n'' (i + 1) c.top c.left
              turned g₀ = record {
                kept = kept_trans (kept_trans t.kept kept (omega (arith, t.above))) (stored_kept {top = top} st (omega arith)) (omega arith);
                above = omega (arith, t.above, (item_came g₀).above);
                within = omega (arith, (item_came g₀).within, st.long);
                going = λ g.
                    let w = t.going g in
                    let e = item_came g in
                    let j : suc i ≡ i + 1 = omega arith in
                    let s1 : p.start + 3 * i + 3 ≡ p.start + 3 * (i + 1) = omega arith in
                    let s2 : p.count - i - 1 ≡ p.count - (i + 1) = omega arith in
                    record {
                      done = join w.done (more e.datum none);
                      to_come = (nexts g).others;
                      now_used = e.now_used;
                      work = w.work + (1 + (asking g (nexts g).item).work);
                      are = rest_of (nexts g).item (nexts g).others g.ti (next_are g);
                      grown = grown_trans w.grown e.grown t.above e.above;
                      made = subst (λ y. HoldsAll S.bytes n'' e.now_used (join w.done (more e.datum none)) top y) j
                          (all_one S.bytes n'' e.now_used w.done e.datum top i
                          (all_kept S.bytes e.now_used w.done top i (agrees g) (λ k s. s) (λ k y z. st.before k z)
                          (all_kept S.bytes e.now_used w.done top i (kept_agree (under_high g) kept) e.grown.wider (λ k y z. kept.same k (omega (arith, t.above))) w.made))
                          (subst (λ v. Holds S.bytes n'' e.now_used e.datum v) (sym st.there) (holds_kept S.bytes e.now_used e.datum c.value (agrees g) (λ k s. s) e.holds)));
                      lie = subst (λ y. HoldsAll S.bytes n'' e.now_used (nexts g).others y (p.count - (i + 1))) s1 (subst (λ y. HoldsAll S.bytes n'' e.now_used (nexts g).others (p.start + 3 * i + 3) y) s2
                          (all_kept S.bytes e.now_used (nexts g).others (p.start + 3 * i + 3) (p.count - i - 1) (agrees g) (λ k s. s) (λ k y z. st.before k (far g k y z))
                          (all_kept S.bytes e.now_used (nexts g).others (p.start + 3 * i + 3) (p.count - i - 1) (kept_agree (under_high g) kept) e.grown.wider (λ k y z. kept.same k (omega (arith, far g k y z, t.above))) (nexts g).lie)));
                      comes = comes_next g;
                      paid = omega (arith, w.paid, e.paid);
                      thrifty = pays_next g.world.rate w.work (asking g (nexts g).item).work (p.count - (i + 1)) high c.top top (paid_for g) e.thrifty;
                    };
              }
                where
                  far : (g : EachReady S qs at a p m top) (k : ℕ) → p.start + 3 * i + 3 ≤ k → k < p.start + 3 * i + 3 + 3 * (p.count - i - 1) → k < top + 3 * i
                  far g k y z = let l : k < top = g.held.low.low k (g.row.run.used k (omega arith) (omega arith)) in omega arith
