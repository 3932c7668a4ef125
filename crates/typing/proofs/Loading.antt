-- Types made from the back, head by head.
use Rattle.std.proofs.Common.{◌≡◌, ℕ, zero, suc, ◌+◌, ◌<◌, ◌≤◌, Bool, true, false, ◌&&◌, ◌⊎◌, List, [], ◌∷◌, ◌++◌, length, get_or, drop, Some, None, Option, sym, refl, ap, ◌∙◌, subst, ap₂, inl, inr, add-one, arith, length-append}
use Rattle.std.proofs.lemmas.List.{get_or_append_left, get_or_at}
use Rattle.query.specs.Data.{Name, less_text}
use Rattle.query.specs.Query.{Ty, a_unit, a_num, a_truth, a_text, a_bag, a_rec, an_either, Tys, no_ty, ty}
use Rattle.query.specs.Types.{sound, sounds, first_after, if_so}
use Rattle.query.specs.Size.{size_t, size_ts, all_sound}
use Rattle.format.specs.Coding.{writes, AllFit}
use Rattle.format.specs.Wire.{types, names_ty}
use Rattle.format.specs.Heads.{write_ty_head, ty_heads, ty_arity, FitsTyHead}
use Rattle.format.specs.Reading.{Stuck}
use Rattle.format.specs.Nodes.{NodeRead, TellsType}
use Rattle.format.specs.declared.node.TypeNode.{TypeNode}
use Rattle.format.specs.Lists.{from}
use Rattle.format.specs.TypeLaws.{ty_laws}
use Rattle.ranks.specs.Ranks.{names_of}
use Rattle.ranks.specs.Known.{AllIn, head_names, KnowsAll, names_t, names_ts, names_all}
use Rattle.ranks.specs.declared.names.Names.{Names}
use Rattle.ranks.specs.Placed.{read_same, not_stuck}
use Rattle.ranks.specs.TypeHeads.{head_ty, kids_ty, listed_tys, kids_many, head_fits, forest, kids_names, names_append, ty_knows, join_knows}
use Rattle.types.specs.Shapes.{Shape}
use Rattle.types.specs.Operators.{NamesOf, types_of}
use Rattle.types.specs.Outcomes.{look, size, spread, Tidy, Room, Grew, Meant}
use Rattle.types.specs.declared.table.Table.{Table}
use Rattle.types.proofs.Meanings.{size_grows, kept_at, grew_two, grew_at, stay}
use Rattle.typing.specs.Loads.{opened, walk, place, sizes, Walked, Headed, name_first, names_rise, head_sound, TypeMade, Fit, Loaded}
use Rattle.typing.specs.Stacks.{Put}
use Rattle.typing.specs.declared.work.Work.{Work}
use Rattle.typing.proofs.HeadNotes.{walk_sizes, length_sizes, walk_fits, walk_stands}
use Rattle.typing.proofs.TypeMade.{types_length}

-- a type has fewer names than parts
mutual
  unfolding names_t names_ts size_t size_ts

  ty_small : (t : Ty) → names_t t ≤ size_t t
  ty_small a_unit = omega arith
  ty_small a_num = omega arith
  ty_small a_truth = omega arith
  ty_small a_text = omega arith
  ty_small (a_bag t) = let h = ty_small t in omega arith
  ty_small (a_rec ts) = let h = tys_small ts in omega arith
  ty_small (an_either t u) = let h = ty_small t in let k = ty_small u in omega arith

  tys_small : (ts : Tys) → names_ts ts ≤ size_ts ts
  tys_small no_ty = omega arith
  tys_small (ty n t ts) = let h = ty_small t in let k = tys_small ts in omega arith

pub names_small : (ts : List Ty) → names_all ts ≤ sizes ts
unfolding names_all sizes
names_small [] = omega arith
names_small (t ∷ ts) = let h = ty_small t in let k = names_small ts in omega arith

-- soundness, head by head
sounds_open : (ts : Tys) → sounds ts ≡ names_rise (names_ty ts) && all_sound (listed_tys ts)
unfolding sounds first_after names_rise name_first names_ty listed_tys all_sound
sounds_open no_ty = refl
sounds_open (ty n t no_ty) = swap (sound t) true true
  where
    swap : (a b c : Bool) → (a && b) && c ≡ (b && c) && (a && true)
    swap true true true = refl
    swap true true false = refl
    swap true false c = refl
    swap false true true = refl
    swap false true false = refl
    swap false false c = refl
sounds_open (ty n t (ty m u ts)) = ap (λ (z : Bool). (sound t && less_text n m) && z) (sounds_open (ty m u ts)) ∙ mix (sound t) (less_text n m) _ _
  where
    mix : (a b c d : Bool) → (a && b) && (c && d) ≡ (b && c) && (a && d)
    mix true true c d = refl
    mix true false c d = refl
    mix false true true d = refl
    mix false true false d = refl
    mix false false c d = refl

all_append : (ts us : List Ty) → all_sound (ts ++ us) ≡ all_sound ts && all_sound us
unfolding all_sound
all_append [] us = refl
all_append (t ∷ ts) us = ap (λ (z : Bool). sound t && z) (all_append ts us) ∙ assoc (sound t) (all_sound ts) (all_sound us)
  where
    assoc : (a b c : Bool) → a && (b && c) ≡ (a && b) && c
    assoc true b c = refl
    assoc false b c = refl

pub sound_open : (t : Ty) (us : List Ty) → all_sound (t ∷ us) ≡ head_sound t && all_sound (kids_ty t ++ us)
unfolding all_sound sound head_sound
sound_open a_unit us = refl
sound_open a_num us = refl
sound_open a_truth us = refl
sound_open a_text us = refl
sound_open (a_bag t) us = refl
sound_open (a_rec ts) us = ap (λ (z : Bool). z && all_sound us) (sounds_open ts) ∙ (assoc (names_rise (names_ty ts)) (all_sound (listed_tys ts)) (all_sound us) ∙ ap (λ (z : Bool). names_rise (names_ty ts) && z) (sym (all_append (listed_tys ts) us)))
  where
    assoc : (a b c : Bool) → (a && b) && c ≡ a && (b && c)
    assoc true b c = refl
    assoc false b c = refl
sound_open (an_either t u) us = assoc (sound t) (sound u) (all_sound us)
  where
    assoc : (a b c : Bool) → (a && b) && c ≡ a && (b && c)
    assoc true b c = refl
    assoc false b c = refl

-- a type's head out of order, and so the whole
opened_unsound : (ts : List Ty) → all_sound (opened ts) ≡ false → all_sound ts ≡ false
unfolding opened
opened_unsound [] h = h
opened_unsound (t ∷ ts) h = sound_open t ts ∙ off (head_sound t) (all_sound (kids_ty t ++ ts)) h
  where
    off : (a b : Bool) → b ≡ false → a && b ≡ false
    off true b h = h
    off false b h = refl

walk_unsound : (ts : List Ty) (i : ℕ) → all_sound (walk ts i) ≡ false → all_sound ts ≡ false
unfolding walk
walk_unsound ts zero h = h
walk_unsound ts (suc i) h = walk_unsound ts i (opened_unsound (walk ts i) h)

-- names, head by head
opened_names : (ts : List Ty) → names_all (opened ts) ≤ names_all ts
unfolding opened names_all
opened_names [] = omega arith
opened_names (t ∷ ts) = let a = names_append (kids_ty t) ts in let b = kids_names t in omega arith

walk_names : (ts : List Ty) (i : ℕ) → names_all (walk ts i) ≤ names_all ts
unfolding walk
walk_names ts zero = omega arith
walk_names ts (suc i) = let a = walk_names ts i in let b = opened_names (walk ts i) in omega arith

opened_known : (ns : List Name) (ts : List Ty) → KnowsAll ns ts → KnowsAll ns (opened ts)
unfolding opened KnowsAll
opened_known ns [] k = tt
opened_known ns (t ∷ ts) k = join_knows ns (kids_ty t) ts (ty_knows ns t k.0).1 k.1

walk_known : (ns : List Name) (ts : List Ty) (i : ℕ) → KnowsAll ns ts → KnowsAll ns (walk ts i)
unfolding walk
walk_known ns ts zero k = k
walk_known ns ts (suc i) k = opened_known ns (walk ts i) (walk_known ns ts i k)

-- numbers mean the same in a table that grew
pub types_kept : (ns : List Name) {t u : Table} {r : Option ℕ} → Grew t u r → (xs : List ℕ) → NamesOf (size t) xs → types_of ns (look u) xs ≡ types_of ns (look t) xs
unfolding types_of NamesOf
types_kept ns g [] n = refl
types_kept ns g (x ∷ xs) n = ap₂ (λ (a : Ty) (b : List Ty). a ∷ b) (kept_at g x n.0 ns) (types_kept ns g xs n.1)

pub numbers_kept : (m n : ℕ) (xs : List ℕ) → m ≤ n → NamesOf m xs → NamesOf n xs
unfolding NamesOf
numbers_kept m n [] h l = tt
numbers_kept m n (x ∷ xs) h l = (omega (arith, l.0), numbers_kept m n xs h l.1)

pub numbers_drop : (m k : ℕ) (xs : List ℕ) → NamesOf m xs → NamesOf m (drop k xs)
unfolding NamesOf
numbers_drop m zero xs l = l
numbers_drop m (suc k) [] l = tt
numbers_drop m (suc k) (x ∷ xs) l = numbers_drop m k xs l.1

-- while types are made
pub record SoFar (ns : List Name) (t u : Table) (st : List ℕ) (hs : List ℕ) (at : ℕ) (ts : List Ty) : Type 0 where
  pub walked : Walked ts at hs
  pub few : size u + length hs ≤ size t + sizes ts
  pub slim : spread u ≤ spread t + names_all (walk ts (length hs))
  pub is : types_of ns (look u) st ≡ walk ts (length hs)
  pub sound : all_sound (walk ts (length hs)) ≡ true

pub record Making (xs : List ℕ) (v : Names) (t u : Table) (st : List ℕ) (hs : List ℕ) (at count : ℕ) : Type 0 where
  pub grew : Grew t u None
  pub short : length st ≤ 8200
  pub numbers : NamesOf (size u) st
  pub lie : (i : ℕ) → i < length hs → get_or hs i 0 ≤ length xs
  pub told : (ts : List Ty) (rest : List ℕ) → AllFit types ts → length ts ≡ count → drop at xs ≡ writes types ts ++ rest → KnowsAll (names_of xs v) ts → sizes ts ≤ 8192 → Room t (sizes ts) (names_all ts) → SoFar (names_of xs v) t u st hs at ts

-- the beginning
module _ (xs : List ℕ) (v : Names) (t : Table) (at count : ℕ) (s : Tidy t) where
  pub making_begin : (hs : List ℕ) → Headed xs hs at count (Some tt) → (st : List ℕ) → st ≡ [] → Making xs v t t st hs at count
  unfolding NamesOf types_of names_all all_sound sizes
  making_begin hs h st none = record {
    grew = stay None s tt;
    short = let l = ap (λ (z : List ℕ). length z) none in omega arith;
    numbers = subst (λ (z : List ℕ). NamesOf (size t) z) (sym none) tt;
    lie = h.lie;
    told = λ ts rest a m q k z o.
        let d = h.walked ts rest a m q z in
        let n = walk_sizes ts (length hs) d.1.some in
        record {
          walked = d.1;
          few = omega arith;
          slim = omega arith;
          is = ap (λ (y : List ℕ). types_of (names_of xs v) (look t) y) none ∙ sym d.2;
          sound = ap all_sound d.2;
        };
  }

-- a list of one, or none
not_so : (b : Bool) (y : Ty) → if_so b (y ∷ []) ≡ [] → b ≡ false
unfolding if_so
not_so true y e = let z : ◌≡◌ {A = ℕ} 0 1 = cc in absurd (omega arith)
not_so false y e = refl

so_it_is : (b : Bool) (y x : Ty) → if_so b (y ∷ []) ≡ x ∷ [] → (b ≡ true) × (y ≡ x)
unfolding if_so
so_it_is true y x e = let q : y ≡ x = cc in (refl, q)
so_it_is false y x e = let z : ◌≡◌ {A = ℕ} 0 1 = cc in absurd (omega arith)

types_drop : (ns : List Name) (ss : List Shape) (k : ℕ) (xs : List ℕ) → types_of ns ss (drop k xs) ≡ drop k (types_of ns ss xs)
unfolding types_of
types_drop ns ss zero xs = refl
types_drop ns ss (suc k) [] = refl
types_drop ns ss (suc k) (x ∷ xs) = types_drop ns ss k xs

drop_front : (us vs : List Ty) (k : ℕ) → k ≡ length us → drop k (us ++ vs) ≡ vs
drop_front us vs k e = ap (λ z. drop z (us ++ vs)) e ∙ go us
  where
    go : (us : List Ty) → drop (length us) (us ++ vs) ≡ vs
    go [] = refl
    go (u ∷ us) = go us

-- a head taken off
opened_is : (y : Ty) (vs us : List Ty) → us ≡ y ∷ vs → opened us ≡ kids_ty y ++ vs
unfolding opened
opened_is y vs us q = ap opened q

names_open : (y : Ty) (vs : List Ty) → names_all (y ∷ vs) ≡ length (head_names (head_ty y)) + names_all (kids_ty y ++ vs)
unfolding names_all
names_open y vs = let a = names_append (kids_ty y) vs in let b = kids_names y in omega arith

known_head : (ns : List Name) (y : Ty) (vs : List Ty) → KnowsAll ns (y ∷ vs) → AllIn ns (head_names (head_ty y))
unfolding KnowsAll
known_head ns y vs k = (ty_knows ns y k.0).0

snoc_get : (hs gs : List ℕ) (p : ℕ) → hs ≡ gs ++ (p ∷ []) → (length hs ≡ length gs + 1) × (get_or hs (length gs) 0 ≡ p) × ((i : ℕ) → i < length gs → get_or gs i 0 ≡ get_or hs i 0)
snoc_get hs gs p e = (
  ap (λ (z : List ℕ). length z) e ∙ length-append gs (p ∷ []),
  ap (λ (z : List ℕ). get_or z (length gs) 0) e ∙ get_or_at gs p [] 0 (length gs) refl,
  λ i h. sym (ap (λ (z : List ℕ). get_or z i 0) e ∙ get_or_append_left gs (p ∷ []) 0 i h),
)

pub record Here (xs : List ℕ) (v : Names) (t u : Table) (nums : List ℕ) (at p : ℕ) (gs : List ℕ) (ts : List Ty) : Type 0 where
  pub y : Ty
  pub vs : List Ty
  pub is : walk ts (length gs) ≡ y ∷ vs
  pub kids : types_of (names_of xs v) (look u) nums ≡ kids_ty y ++ vs
  pub fits : FitsTyHead (head_ty y)
  pub rest : List ℕ
  pub there : drop p xs ≡ write_ty_head (head_ty y) ++ rest
  pub known : AllIn (names_of xs v) (head_names (head_ty y))
  pub some : length (head_names (head_ty y)) ≤ 8200
  pub room : Room u 1 (length (head_names (head_ty y)))
  pub sound : all_sound (kids_ty y ++ vs) ≡ true
  pub slim : names_all (walk ts (length gs)) ≡ length (head_names (head_ty y)) + names_all (kids_ty y ++ vs)
  pub walked : Walked ts at gs
  pub few : (size u + 1) + length gs ≤ size t + sizes ts
  pub wide : spread u + length (head_names (head_ty y)) ≤ spread t + names_all (walk ts (length gs))
  pub small : length (kids_ty y ++ vs) ≤ 8192

module _ (xs : List ℕ) (v : Names) (t u : Table) (st : List ℕ) (hs gs : List ℕ) (at count p : ℕ) (e : hs ≡ gs ++ (p ∷ [])) (g : Making xs v t u st hs at count) where
  sg : (length hs ≡ length gs + 1) × (get_or hs (length gs) 0 ≡ p) × ((i : ℕ) → i < length gs → get_or gs i 0 ≡ get_or hs i 0)
  sg = snoc_get hs gs p e

  pub making_lies : p ≤ length xs
  making_lies = subst (λ z. z ≤ length xs) sg.1 (g.lie (length gs) (omega (arith, sg.0)))

  abbrev Case : List Ty → List ℕ → Type 0
  Case ts rest = AllFit types ts × (length ts ≡ count) × (drop at xs ≡ writes types ts ++ rest) × KnowsAll (names_of xs v) ts × (sizes ts ≤ 8192) × Room t (sizes ts) (names_all ts)

  so_far : (ts : List Ty) (rest : List ℕ) → Case ts rest → SoFar (names_of xs v) t u st hs at ts
  so_far ts rest c = g.told ts rest c.0 c.1 c.2 c.3 c.4 c.5

  here : (ts : List Ty) (rest : List ℕ) → Case ts rest → Here xs v t u st at p gs ts
  unfolding walk
  here ts rest c = on (walk ts (length gs)) refl
    where
      d : SoFar (names_of xs v) t u st hs at ts
      d = so_far ts rest c

      n : ℕ
      n = length gs

      on : (us : List Ty) → walk ts n ≡ us → Here xs v t u st at p gs ts
      on [] q = absurd (omega (arith, d.walked.some n (omega (arith, sg.0)), ap (λ (z : List Ty). length z) q))
      on (y ∷ vs) q =
          let w : walk ts (length hs) ≡ kids_ty y ++ vs = ap (λ z. walk ts z) (sg.0 ∙ add-one n) ∙ opened_is y vs (walk ts n) q in
          let st1 = walk_stands xs at ts rest c.2 n in
          let pl : p ≡ place ts at n = sym sg.1 ∙ d.walked.places n (omega (arith, sg.0)) in
          let kn : KnowsAll (names_of xs v) (y ∷ vs) = subst (λ (z : List Ty). KnowsAll (names_of xs v) z) q (walk_known (names_of xs v) ts n c.3) in
          let nm = names_open y vs in
          let wn = walk_names ts n in
          let ln = ap (λ (z : List Ty). names_all z) q in
          let lw = ap (λ (z : List Ty). names_all z) w in
          let sz = walk_sizes ts n (λ i h. d.walked.some i (omega (arith, sg.0))) in
          let fits1 = subst (λ (z : List Ty). AllFit types z) q (walk_fits ts n c.0) in
          record {
            y = y;
            vs = vs;
            is = q;
            kids = d.is ∙ w;
            fits = head_fits y fits1.0;
            rest = writes types (kids_ty y ++ vs) ++ rest;
            there = ap (λ z. drop z xs) pl ∙ (st1 ∙ (ap (λ (z : List Ty). writes types z ++ rest) q ∙ forest y vs rest));
            known = known_head (names_of xs v) y vs kn;
            some = omega (arith, names_small ts, c.4);
            room = record { entries = omega (arith, d.few, sg.0, c.5.entries); fields = omega (arith, d.slim, c.5.fields) };
            sound = ap all_sound (sym w) ∙ d.sound;
            slim = ln ∙ nm;
            walked = record { places = λ i h. sg.2 i h ∙ d.walked.places i (omega (arith, sg.0)); some = λ i h. d.walked.some i (omega (arith, sg.0)) };
            few = omega (arith, d.few, sg.0);
            wide = omega (arith, d.slim);
            small = let a = length_sizes (kids_ty y ++ vs) in let b = ap (λ (z : List Ty). sizes z) w in let b2 = walk_sizes ts (length hs) d.walked.some in omega (arith, c.4);
          }

  -- no head where there is one
  pub making_stuck : (w : Work) (k : ℕ) → Fit w → Stuck ty_heads (from p xs) k → Loaded xs v t u w at count None
  making_stuck w k f s = record {
    grew = g.grew;
    fit = f;
    numbers = tt;
    told = λ ts rest a m q kn z o. absurd (let h = here ts rest (a, m, q, kn, z, o) in not_stuck ty_heads xs p k (head_ty h.y) h.rest h.fits h.there s);
  }

  module _ (node : TypeNode) (parts el : ℕ) (r : NodeRead ty_heads ty_arity TellsType (from p xs) node parts el) where
    head_same : (ts : List Ty) → (h : Here xs v t u st at p gs ts) → r.thing ≡ head_ty h.y
    head_same ts h = read_same ty_heads ty_laws.one_way xs p el r.thing (head_ty h.y) h.rest making_lies h.fits h.there r.begins

    meant : (u2 : Table) (x : Option ℕ) → TypeMade xs v u u2 st p node x → (ts : List Ty) → (h : Here xs v t u st at p gs ts) → Meant (names_of xs v) u u2 1 (length (head_names (head_ty h.y))) x (if_so (head_sound h.y) (h.y ∷ []))
    meant u2 x tm ts h = tm h.y h.vs h.rest (subst (λ z. TellsType node z) (head_same ts h) r.says.0) h.fits h.there h.known h.some h.kids

    many : (ts : List Ty) → (h : Here xs v t u st at p gs ts) → parts ≡ length (kids_ty h.y)
    many ts h = r.says.1 ∙ (ap ty_arity (head_same ts h) ∙ sym (kids_many h.y))

    pub making_unmade : (u2 : Table) (w : Work) → Fit w → Grew u u2 None → TypeMade xs v u u2 st p node None → Loaded xs v t u2 w at count None
    making_unmade u2 w f g2 tm = record {
      grew = grew_two g.grew g2;
      fit = f;
      numbers = tt;
      told = λ ts rest a m q kn z o.
          let h = here ts rest (a, m, q, kn, z, o) in
          let mt = meant u2 None tm ts h in
          let fw = mt.few h.room in
          let sl = mt.slim h.room in
          let wn = walk_names ts (length gs) in
          record {
            few = omega (arith, h.few);
            slim = omega (arith, h.wide);
            says = walk_unsound ts (length gs) (ap all_sound h.is ∙ (sound_open h.y h.vs ∙ ap (λ (b : Bool). b && all_sound (kids_ty h.y ++ h.vs)) (not_so (head_sound h.y) h.y (mt.means h.room))));
          };
    }

    pub making_full : (u2 : Table) (w : Work) (x : ℕ) → Fit w → Grew u u2 (Some x) → (length st < parts) ⊎ ((length st ≡ 8200) × (parts ≡ 0)) → Loaded xs v t u2 w at count None
    making_full u2 w x f g2 full = record {
      grew = grew_two g.grew (grew_at g2 None tt);
      fit = f;
      numbers = tt;
      told = λ ts rest a m q kn z o. absurd (no_way ts (here ts rest (a, m, q, kn, z, o)));
    }
      where
        no_way : (ts : List Ty) → Here xs v t u st at p gs ts → ⊥
        no_way ts h =
            let l = ap (λ (z : List Ty). length z) h.kids in
            let l2 = types_length (names_of xs v) (look u) st in
            let l4 = length-append (kids_ty h.y) h.vs in
            let l5 = many ts h in
            elim full [ inl b ↦ omega arith | inr b ↦ omega (arith, b.0, b.1, h.small) ]

    pub making_on : (u2 : Table) (x : ℕ) (su : List ℕ) → Grew u u2 (Some x) → TypeMade xs v u u2 st p node (Some x) → Put st su parts x (Some tt) → Making xs v t u2 su gs at count
    unfolding NamesOf types_of
    making_on u2 x su g2 tm pl =
        let o = pl.some refl in
        let old : NamesOf (size u) (drop parts st) = numbers_drop (size u) parts st g.numbers in
        record {
          grew = grew_two g.grew (grew_at g2 None tt);
          short = pl.few;
          numbers = subst (λ (z : List ℕ). NamesOf (size u2) z) (sym o.1) (g2.here, numbers_kept (size u) (size u2) _ (size_grows u u2 g2.grown) old);
          lie = λ i h. subst (λ z. z ≤ length xs) (sym (sg.2 i h)) (g.lie i (omega (arith, sg.0)));
          told = λ ts rest a m q kn z oo.
              let h = here ts rest (a, m, q, kn, z, oo) in
              let mt = meant u2 (Some x) tm ts h in
              let yes = so_it_is (head_sound h.y) h.y _ (mt.means h.room) in
              let fw = mt.few h.room in
              let sl = mt.slim h.room in
              let tl : types_of (names_of xs v) (look u2) (drop parts st) ≡ h.vs =
              types_kept (names_of xs v) g2 (drop parts st) old ∙ (types_drop (names_of xs v) (look u) parts st ∙ (ap (λ (y : List Ty). drop parts y) h.kids ∙ drop_front (kids_ty h.y) h.vs parts (many ts h))) in
              record {
                walked = h.walked;
                few = omega (arith, h.few);
                slim = omega (arith, h.wide);
                is = ap (λ (y : List ℕ). types_of (names_of xs v) (look u2) y) o.1 ∙ (ap₂ (λ (a : Ty) (b : List Ty). a ∷ b) (sym yes.1) tl ∙ sym h.is);
                sound = ap all_sound h.is ∙ (sound_open h.y h.vs ∙ ap₂ (λ (a b : Bool). a && b) yes.0 h.sound);
              };
        }

pub making_end : (xs : List ℕ) (v : Names) (t u : Table) (w : Work) (hs : List ℕ) (at count : ℕ) → hs ≡ [] → Fit w → Making xs v t u w.stack hs at count → Loaded xs v t u w at count (Some tt)
unfolding walk
making_end xs v t u w [] at count e f g = record {
  grew = g.grew;
  fit = f;
  numbers = g.numbers;
  told = λ ts rest a m q kn z o. let d = g.told ts rest a m q kn z o in record { few = omega (arith, d.few); slim = d.slim; says = (d.sound, d.is) };
}
making_end xs v t u w (h ∷ hs) at count e f g = let z : ◌≡◌ {A = ℕ} 0 1 = cc in absurd (omega arith)

pub stack_as : (xs : List ℕ) (v : Names) (t u : Table) (sl st : List ℕ) → sl ≡ st → (at : ℕ) (node : TypeNode) (r : Option ℕ) → TypeMade xs v t u sl at node r → TypeMade xs v t u st at node r
stack_as xs v t u sl st e at node r m = subst (λ (z : List ℕ). TypeMade xs v t u z at node r) e m
