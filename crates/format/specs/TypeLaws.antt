-- Types are trees, and their heads are told by their tags.
use Rattle.std.specs.Prelude.{◌≡◌, ℕ, suc, ◌+◌, ◌^◌, ◌<◌, ◌≤◌, true, List, [], ◌∷◌, ◌++◌, length, slice_index, refl}
use Rattle.std.proofs.Common.{sym, ap, ap₂, subst, arith, Fits}
use Rattle.std.specs.Int.{w8}
use Rattle.std.proofs.lemmas.List.{append-nil}
use Rattle.query.specs.Data.{Name}
use Rattle.query.specs.Query.{Ty, a_unit, a_num, a_truth, a_text, a_bag, a_rec, an_either, Tys, no_ty, ty}
use Rattle.format.specs.Coding.{name, writes, AllFit, many, counted}
use Rattle.format.specs.Wire.{names_ty, write_names, write_ty, write_tys, FitsTy, FitsTys, types}
use Rattle.format.specs.Heads.{as_tys, TyHead, unit_t, num_t, truth_t, text_t, bag_t, rec_t, either_t, write_ty_head, FitsTyHead, ty_heads, ty_arity, first_ty_of, second_ty_of, build_ty}
use Rattle.query.specs.Types.{bytes}
use Rattle.format.specs.Reading.{Begins, Stuck, ReadAs}
use Rattle.format.specs.Nodes.{NodeRead, TellsType}
use Rattle.format.specs.declared.node.TypeNode.{TypeNode}
use Rattle.format.specs.Lists.{from, bytes_typed}
use Rattle.format.specs.Codings.{Out}
use Rattle.format.specs.Trees.{Laws}
use Rattle.format.specs.Tags.{Table, end, row, alone, entry, Good, Tagged, plain_way, heads_way, heads_long, node_alone, node_begins, head_stuck, stuck_tag, stuck_empty}
use Rattle.format.specs.NameLaws.{names_way}

abbrev pub ty_table : Table ty_heads
ty_table = row (alone unit_t) (row (alone num_t) (row (alone truth_t) (row (alone text_t) (row (alone bag_t) (row record { load = counted name; make = rec_t } (row (alone either_t) end))))))

pub ty_good : Good ty_heads 0 ty_table
unfolding write_ty_head FitsTyHead
ty_good = (
  record { fits = λ l f. tt; written = λ l. refl; one_way = plain_way; some = tt; some_fits = tt },
  (
    record { fits = λ l f. tt; written = λ l. refl; one_way = plain_way; some = tt; some_fits = tt },
    (
      record { fits = λ l f. tt; written = λ l. refl; one_way = plain_way; some = tt; some_fits = tt },
      (
        record { fits = λ l f. tt; written = λ l. refl; one_way = plain_way; some = tt; some_fits = tt },
        (
          record { fits = λ l f. tt; written = λ l. refl; one_way = plain_way; some = tt; some_fits = tt },
          (
            record { fits = λ l f. f; written = λ l. refl; one_way = names_way; some = []; some_fits = (omega arith, tt) },
            (record { fits = λ l f. tt; written = λ l. refl; one_way = plain_way; some = tt; some_fits = tt }, tt),
          ),
        ),
      ),
    ),
  ),
)

pub ty_tagged : (h : TyHead) → FitsTyHead h → Tagged ty_heads ty_table h
unfolding FitsTyHead
ty_tagged unit_t f = record { tag_is = 0; load_is = tt; load_fits = tt; is = refl }
ty_tagged num_t f = record { tag_is = 1; load_is = tt; load_fits = tt; is = refl }
ty_tagged truth_t f = record { tag_is = 2; load_is = tt; load_fits = tt; is = refl }
ty_tagged text_t f = record { tag_is = 3; load_is = tt; load_fits = tt; is = refl }
ty_tagged bag_t f = record { tag_is = 4; load_is = tt; load_fits = tt; is = refl }
ty_tagged (rec_t ns) f = record { tag_is = 5; load_is = ns; load_fits = f; is = refl }
ty_tagged either_t f = record { tag_is = 6; load_is = tt; load_fits = tt; is = refl }

-- the types of a record's fields as a list
pub list : Tys → List Ty
list no_ty = []
list (ty n t ts) = t ∷ list ts

list_many : (ts : Tys) → length (list ts) ≡ length (names_ty ts)
unfolding list names_ty
list_many no_ty = refl
list_many (ty n t ts) = ap suc (list_many ts)

list_fits : (ts : Tys) → FitsTys ts → AllFit types (list ts)
unfolding list FitsTys
list_fits no_ty f = tt
list_fits (ty n t ts) f = (f.0, list_fits ts f.1)

list_back : (ts : Tys) → ts ≡ as_tys (names_ty ts) (list ts)
unfolding list names_ty as_tys
list_back no_ty = refl
list_back (ty n t ts) = ap (λ (v : Tys). ty n t v) (list_back ts)

as_names : (ns : List Name) (ts : List Ty) → length ts ≡ length ns → names_ty (as_tys ns ts) ≡ ns
unfolding names_ty as_tys
as_names [] ts e = refl
as_names (n ∷ ns) [] e = absurd (omega (arith, e))
as_names (n ∷ ns) (t ∷ ts) e = ap (λ (v : List Name). n ∷ v) (as_names ns ts (omega (arith, e)))

as_fits : (ns : List Name) (ts : List Ty) → length ts ≡ length ns → AllFit types ts → FitsTys (as_tys ns ts)
unfolding FitsTys as_tys
as_fits [] ts e f = tt
as_fits (n ∷ ns) [] e f = absurd (omega (arith, e))
as_fits (n ∷ ns) (t ∷ ts) e f = (f.0, as_fits ns ts (omega (arith, e)) f.1)

as_written : (ns : List Name) (ts : List Ty) → length ts ≡ length ns → write_tys (as_tys ns ts) ≡ writes types ts
unfolding write_tys as_tys
as_written [] [] e = refl
as_written [] (t ∷ ts) e = absurd (omega (arith, e))
as_written (n ∷ ns) [] e = absurd (omega (arith, e))
as_written (n ∷ ns) (t ∷ ts) e = ap (λ (v : List ℕ). write_ty t ++ v) (as_written ns ts (omega (arith, e)))

-- one part, and two
one_fits : (ts : List Ty) → length ts ≡ 1 → AllFit types ts → FitsTy (first_ty_of ts)
unfolding first_ty_of
one_fits [] e f = absurd (omega (arith, e))
one_fits (t ∷ ts) e f = f.0

one_written : (ts : List Ty) → length ts ≡ 1 → writes types ts ≡ write_ty (first_ty_of ts)
unfolding first_ty_of
one_written [] e = absurd (omega (arith, e))
one_written (t ∷ []) e = append-nil (write_ty t)
one_written (t ∷ u ∷ ts) e = absurd (omega (arith, e))

two_fits : (ts : List Ty) → length ts ≡ 2 → AllFit types ts → FitsTy (first_ty_of ts) × FitsTy (second_ty_of ts)
unfolding first_ty_of second_ty_of
two_fits [] e f = absurd (omega (arith, e))
two_fits (t ∷ ts) e f = (f.0, one_fits ts (omega (arith, e)) f.1)

two_written : (ts : List Ty) → length ts ≡ 2 → writes types ts ≡ write_ty (first_ty_of ts) ++ write_ty (second_ty_of ts)
unfolding first_ty_of second_ty_of
two_written [] e = absurd (omega (arith, e))
two_written (t ∷ ts) e = ap (λ (v : List ℕ). write_ty t ++ v) (one_written ts (omega (arith, e)))

fits : (h : TyHead) (ts : List Ty) → FitsTyHead h → (many types (ty_arity h)).Fits ts → FitsTy (build_ty h ts)
unfolding FitsTyHead FitsTy build_ty ty_arity
fits unit_t ts f g = tt
fits num_t ts f g = tt
fits truth_t ts f g = tt
fits text_t ts f g = tt
fits bag_t ts f g = one_fits ts g.0 g.1
fits (rec_t ns) ts f g = (subst (counted name).Fits (sym (as_names ns ts g.0)) f, as_fits ns ts g.0 g.1)
fits either_t ts f g = two_fits ts g.0 g.1

nothing_written : (ts : List Ty) → length ts ≡ 0 → writes types ts ≡ []
nothing_written [] e = refl
nothing_written (t ∷ ts) e = absurd (omega (arith, e))

written : (h : TyHead) (ts : List Ty) → FitsTyHead h → (many types (ty_arity h)).Fits ts → write_ty (build_ty h ts) ≡ write_ty_head h ++ writes types ts
unfolding write_ty_head write_ty build_ty ty_arity
written unit_t ts f g = ap (λ (v : List ℕ). 0 ∷ v) (sym (nothing_written ts g.0))
written num_t ts f g = ap (λ (v : List ℕ). 1 ∷ v) (sym (nothing_written ts g.0))
written truth_t ts f g = ap (λ (v : List ℕ). 2 ∷ v) (sym (nothing_written ts g.0))
written text_t ts f g = ap (λ (v : List ℕ). 3 ∷ v) (sym (nothing_written ts g.0))
written bag_t ts f g = ap (λ (v : List ℕ). 4 ∷ v) (sym (one_written ts g.0))
written (rec_t ns) ts f g = ap (λ (v : List ℕ). 5 ∷ v) (ap₂ (λ (v : List Name) (w : List ℕ). write_names v ++ w) (as_names ns ts g.0) (as_written ns ts g.0))
written either_t ts f g = ap (λ (v : List ℕ). 6 ∷ v) (sym (two_written ts g.0))

out : (t : Ty) → FitsTy t → Out types ty_heads (λ h. many types (ty_arity h)) build_ty t
unfolding FitsTyHead FitsTy build_ty ty_arity first_ty_of second_ty_of
out a_unit f = record { a = unit_t; b = []; a_fits = tt; b_fits = (refl, tt); is = refl }
out a_num f = record { a = num_t; b = []; a_fits = tt; b_fits = (refl, tt); is = refl }
out a_truth f = record { a = truth_t; b = []; a_fits = tt; b_fits = (refl, tt); is = refl }
out a_text f = record { a = text_t; b = []; a_fits = tt; b_fits = (refl, tt); is = refl }
out (a_bag t) f = record { a = bag_t; b = t ∷ []; a_fits = tt; b_fits = (refl, (f, tt)); is = refl }
out (a_rec ts) f = record { a = rec_t (names_ty ts); b = list ts; a_fits = f.0; b_fits = (list_many ts, list_fits ts f.1); is = ap a_rec (list_back ts) }
out (an_either t u) f = record { a = either_t; b = t ∷ u ∷ []; a_fits = tt; b_fits = (refl, (f.0, (f.1, tt))); is = refl }

pub ty_laws : Laws types ty_heads ty_arity
unfolding FitsTyHead ty_arity
ty_laws =
    record {
      splits = record { make = build_ty; fits = fits; written = written; out = out };
      one_way = heads_way ty_heads ty_table ty_good (omega arith) ty_tagged;
      long = heads_long ty_heads ty_table ty_good (omega arith) ty_tagged;
      leaf = unit_t;
      leaf_fits = tt;
      leaf_alone = refl;
    }

-- a head has few parts
pub ty_few : (h : TyHead) → FitsTyHead h → ty_arity h < 2 ^ 32
unfolding FitsTyHead ty_arity
ty_few unit_t f = omega arith
ty_few num_t f = omega arith
ty_few truth_t f = omega arith
ty_few text_t f = omega arith
ty_few bag_t f = omega arith
ty_few (rec_t ns) f = f.0
ty_few either_t f = omega arith

-- what the code reads in front
module _ (xs : List ℕ) (typed : (j : ℕ) → Fits w8 (slice_index xs j)) where
  module _ (n : 0 < length xs) where
    pub ty_alone : (t : ℕ) (node : TypeNode) (l : (entry ty_table t).load.T) → slice_index xs 0 ≡ t → (entry ty_table t).load.Fits l → (entry ty_table t).load.write l ≡ []
        → TellsType node ((entry ty_table t).make l) → ReadAs ty_heads xs 1 (TellsType node)
    ty_alone t node l = node_alone ty_heads ty_table ty_good (omega arith) ty_tagged TellsType xs t node l (bytes_typed xs typed) n

    pub ty_begins : (t f e : ℕ) (node : TypeNode) (l : (entry ty_table t).load.T) → slice_index xs 0 ≡ t → Begins (entry ty_table t).load (from 1 xs) f l → e ≡ 1 + f
        → TellsType node ((entry ty_table t).make l) → ReadAs ty_heads xs e (TellsType node)
    ty_begins t f e node l = node_begins ty_heads ty_table ty_good (omega arith) ty_tagged TellsType xs t f e node l (bytes_typed xs typed) n

    pub ty_stuck : (t p e : ℕ) → slice_index xs 0 ≡ t → Stuck (entry ty_table t).load (from 1 xs) p → e ≡ 1 + p → Stuck ty_heads xs e
    ty_stuck t p e = head_stuck ty_heads ty_table ty_good (omega arith) ty_tagged xs t p e (bytes_typed xs typed) n

  pub ty_no_tag : 0 < length xs → 7 ≤ slice_index xs 0 → Stuck ty_heads xs 0
  unfolding FitsTyHead
  ty_no_tag = stuck_tag ty_heads ty_table ty_good (omega arith) ty_tagged unit_t tt xs

  pub ty_empty : length xs ≡ 0 → Stuck ty_heads xs 0
  unfolding FitsTyHead
  ty_empty = stuck_empty ty_heads ty_table ty_good (omega arith) ty_tagged unit_t tt xs

-- the same, with how many parts follow
module _ (xs : List ℕ) (b : bytes xs ≡ true) where
  pub ty_alone_parts : (t k : ℕ) (node : TypeNode) (l : (entry ty_table t).load.T) → 0 < length xs → slice_index xs 0 ≡ t → (entry ty_table t).load.Fits l → (entry ty_table t).load.write l ≡ []
      → TellsType node ((entry ty_table t).make l) → k ≡ ty_arity ((entry ty_table t).make l) → k < 2 ^ 32 → NodeRead ty_heads ty_arity TellsType xs node k 1
  ty_alone_parts t k node l n g f w s a m =
      node_alone ty_heads ty_table ty_good (omega arith) ty_tagged (λ (v : ℕ) (h : TyHead). TellsType node h × (v ≡ ty_arity h) × (v < 2 ^ 32)) xs t k l b n g f w (s, a, m)

  pub ty_begins_parts : (t k f e : ℕ) (node : TypeNode) (l : (entry ty_table t).load.T) → 0 < length xs → slice_index xs 0 ≡ t → Begins (entry ty_table t).load (from 1 xs) f l → e ≡ 1 + f
      → TellsType node ((entry ty_table t).make l) → k ≡ ty_arity ((entry ty_table t).make l) → k < 2 ^ 32 → NodeRead ty_heads ty_arity TellsType xs node k e
  ty_begins_parts t k f e node l n g r q s a m =
      node_begins ty_heads ty_table ty_good (omega arith) ty_tagged (λ (v : ℕ) (h : TyHead). TellsType node h × (v ≡ ty_arity h) × (v < 2 ^ 32)) xs t f e k l b n g r q (s, a, m)
