-- Data are trees, and their heads are told by their tags.
use Rattle.std.specs.Prelude.{◌≡◌, ℕ, suc, ◌+◌, ◌^◌, ◌<◌, ◌≤◌, true, false, List, [], ◌∷◌, ◌++◌, length, slice_index, refl}
use Rattle.std.proofs.Common.{sym, ap, ap₂, subst, ◌∙◌, arith, Fits}
use Rattle.std.specs.Int.{w8}
use Rattle.std.proofs.lemmas.List.{append-nil}
use Rattle.query.specs.Data.{Name, Data, unit, num, truth, text, bag, rec, left, right, Datas, none, more, Fields, no_field, field, how_many}
use Rattle.format.specs.Coding.{le, number, name, writes, AllFit, many, counted}
use Rattle.format.specs.Wire.{names, write_names, truth_tag, write_data, write_datas, write_values, FitsData, FitsDatas, FitsValues, data_of}
use Rattle.format.specs.Heads.{as_datas, as_fields, DataHead, unit_h, num_h, truth_h, text_h, bag_h, rec_h, left_h, right_h, write_data_head, FitsDataHead, data_heads, data_arity, first_datum, build_data}
use Rattle.query.specs.Types.{bytes}
use Rattle.format.specs.Reading.{Begins, Stuck, ReadAs}
use Rattle.format.specs.Nodes.{NodeRead, TellsData}
use Rattle.format.specs.declared.node.DataNode.{DataNode}
use Rattle.format.specs.Lists.{bytes_none, from, bytes_typed}
use Rattle.format.specs.Codings.{Out, number_way, name_way}
use Rattle.format.specs.Trees.{Laws}
use Rattle.format.specs.Tags.{Table, end, row, alone, entry, Good, Tagged, plain_way, heads_way, heads_long, node_alone, node_begins, head_stuck, stuck_tag, stuck_empty}
use Rattle.format.specs.NameLaws.{names_way}

abbrev pub data_table : Table data_heads
data_table =
    row (alone unit_h)
    (row record { load = number 8; make = num_h }
    (row (alone (truth_h false))
    (row (alone (truth_h true))
    (row record { load = name; make = text_h }
    (row record { load = number 4; make = bag_h }
    (row record { load = counted name; make = rec_h }
    (row (alone left_h)
    (row (alone right_h) end))))))))

pub data_good : Good data_heads 0 data_table
unfolding write_data_head FitsDataHead truth_tag
data_good = (
  record { fits = λ l f. tt; written = λ l. refl; one_way = plain_way; some = tt; some_fits = tt },
  (
    record { fits = λ l f. f; written = λ l. refl; one_way = number_way 8; some = 0; some_fits = omega arith },
    (
      record { fits = λ l f. tt; written = λ l. refl; one_way = plain_way; some = tt; some_fits = tt },
      (
        record { fits = λ l f. tt; written = λ l. refl; one_way = plain_way; some = tt; some_fits = tt },
        (
          record { fits = λ l f. f; written = λ l. refl; one_way = name_way; some = []; some_fits = (omega arith, bytes_none) },
          (
            record { fits = λ l f. f; written = λ l. refl; one_way = number_way 4; some = 0; some_fits = omega arith },
            (
              record { fits = λ l f. f; written = λ l. refl; one_way = names_way; some = []; some_fits = (omega arith, tt) },
              (
                record { fits = λ l f. tt; written = λ l. refl; one_way = plain_way; some = tt; some_fits = tt },
                (record { fits = λ l f. tt; written = λ l. refl; one_way = plain_way; some = tt; some_fits = tt }, tt),
              ),
            ),
          ),
        ),
      ),
    ),
  ),
)

pub data_tagged : (h : DataHead) → FitsDataHead h → Tagged data_heads data_table h
unfolding FitsDataHead
data_tagged unit_h f = record { tag_is = 0; load_is = tt; load_fits = tt; is = refl }
data_tagged (num_h n) f = record { tag_is = 1; load_is = n; load_fits = f; is = refl }
data_tagged (truth_h false) f = record { tag_is = 2; load_is = tt; load_fits = tt; is = refl }
data_tagged (truth_h true) f = record { tag_is = 3; load_is = tt; load_fits = tt; is = refl }
data_tagged (text_h t) f = record { tag_is = 4; load_is = t; load_fits = f; is = refl }
data_tagged (bag_h k) f = record { tag_is = 5; load_is = k; load_fits = f; is = refl }
data_tagged (rec_h ns) f = record { tag_is = 6; load_is = ns; load_fits = f; is = refl }
data_tagged left_h f = record { tag_is = 7; load_is = tt; load_fits = tt; is = refl }
data_tagged right_h f = record { tag_is = 8; load_is = tt; load_fits = tt; is = refl }

-- the things of a bag and the values of a record as lists
pub list : Datas → List Data
list none = []
list (more d ds) = d ∷ list ds

list_many : (ds : Datas) → length (list ds) ≡ how_many ds
unfolding list how_many
list_many none = refl
list_many (more d ds) = ap suc (list_many ds)

list_fits : (ds : Datas) → FitsDatas ds → AllFit data_of (list ds)
unfolding list FitsDatas
list_fits none f = tt
list_fits (more d ds) f = (f.0, list_fits ds f.1)

list_back : (ds : Datas) → ds ≡ as_datas (list ds)
unfolding list as_datas
list_back none = refl
list_back (more d ds) = ap (more d) (list_back ds)

pub as_many : (ds : List Data) → how_many (as_datas ds) ≡ length ds
unfolding how_many as_datas
as_many [] = refl
as_many (d ∷ ds) = ap suc (as_many ds)

pub as_fits : (ds : List Data) → AllFit data_of ds → FitsDatas (as_datas ds)
unfolding FitsDatas as_datas
as_fits [] f = tt
as_fits (d ∷ ds) f = (f.0, as_fits ds f.1)

pub as_written : (ds : List Data) → write_datas (as_datas ds) ≡ writes data_of ds
unfolding write_datas as_datas
as_written [] = refl
as_written (d ∷ ds) = ap (λ (v : List ℕ). write_data d ++ v) (as_written ds)

pub values : Fields → List Data
values no_field = []
values (field n d fs) = d ∷ values fs

values_many : (fs : Fields) → length (values fs) ≡ length (names fs)
unfolding values names
values_many no_field = refl
values_many (field n d fs) = ap suc (values_many fs)

values_fit : (fs : Fields) → FitsValues fs → AllFit data_of (values fs)
unfolding values FitsValues
values_fit no_field f = tt
values_fit (field n d fs) f = (f.0, values_fit fs f.1)

values_back : (fs : Fields) → fs ≡ as_fields (names fs) (values fs)
unfolding values names as_fields
values_back no_field = refl
values_back (field n d fs) = ap (λ (v : Fields). field n d v) (values_back fs)

pub as_names : (ns : List Name) (ds : List Data) → length ds ≡ length ns → names (as_fields ns ds) ≡ ns
unfolding names as_fields
as_names [] ds e = refl
as_names (n ∷ ns) [] e = absurd (omega (arith, e))
as_names (n ∷ ns) (d ∷ ds) e = ap (λ (v : List Name). n ∷ v) (as_names ns ds (omega (arith, e)))

pub as_values_fit : (ns : List Name) (ds : List Data) → length ds ≡ length ns → AllFit data_of ds → FitsValues (as_fields ns ds)
unfolding FitsValues as_fields
as_values_fit [] ds e f = tt
as_values_fit (n ∷ ns) [] e f = absurd (omega (arith, e))
as_values_fit (n ∷ ns) (d ∷ ds) e f = (f.0, as_values_fit ns ds (omega (arith, e)) f.1)

pub as_values_written : (ns : List Name) (ds : List Data) → length ds ≡ length ns → write_values (as_fields ns ds) ≡ writes data_of ds
unfolding write_values as_fields
as_values_written [] [] e = refl
as_values_written [] (d ∷ ds) e = absurd (omega (arith, e))
as_values_written (n ∷ ns) [] e = absurd (omega (arith, e))
as_values_written (n ∷ ns) (d ∷ ds) e = ap (λ (v : List ℕ). write_data d ++ v) (as_values_written ns ds (omega (arith, e)))

one_fits : (ds : List Data) → length ds ≡ 1 → AllFit data_of ds → FitsData (first_datum ds)
unfolding first_datum
one_fits [] e f = absurd (omega (arith, e))
one_fits (d ∷ ds) e f = f.0

one_written : (ds : List Data) → length ds ≡ 1 → writes data_of ds ≡ write_data (first_datum ds)
unfolding first_datum
one_written [] e = absurd (omega (arith, e))
one_written (d ∷ []) e = append-nil (write_data d)
one_written (d ∷ c ∷ ds) e = absurd (omega (arith, e))

nothing_written : (ds : List Data) → length ds ≡ 0 → writes data_of ds ≡ []
nothing_written [] e = refl
nothing_written (d ∷ ds) e = absurd (omega (arith, e))

fits : (h : DataHead) (ds : List Data) → FitsDataHead h → (many data_of (data_arity h)).Fits ds → FitsData (build_data h ds)
unfolding FitsDataHead FitsData build_data data_arity
fits unit_h ds f g = tt
fits (num_h n) ds f g = f
fits (truth_h b) ds f g = tt
fits (text_h t) ds f g = f
fits (bag_h k) ds f g = (subst (λ (v : ℕ). v < 2 ^ 32) (sym (as_many ds ∙ g.0)) f, as_fits ds g.1)
fits (rec_h ns) ds f g = (subst (counted name).Fits (sym (as_names ns ds g.0)) f, as_values_fit ns ds g.0 g.1)
fits left_h ds f g = one_fits ds g.0 g.1
fits right_h ds f g = one_fits ds g.0 g.1

written : (h : DataHead) (ds : List Data) → FitsDataHead h → (many data_of (data_arity h)).Fits ds → write_data (build_data h ds) ≡ write_data_head h ++ writes data_of ds
unfolding write_data_head write_data build_data data_arity
written unit_h ds f g = ap (λ (v : List ℕ). 0 ∷ v) (sym (nothing_written ds g.0))
written (num_h n) ds f g = ap (λ (v : List ℕ). 1 ∷ v) (sym (append-nil (le 8 n)) ∙ ap (λ (v : List ℕ). le 8 n ++ v) (sym (nothing_written ds g.0)))
written (truth_h b) ds f g = ap (λ (v : List ℕ). truth_tag b ∷ v) (sym (nothing_written ds g.0))
written (text_h t) ds f g = ap (λ (v : List ℕ). 4 ∷ v) (sym (append-nil (name.write t)) ∙ ap (λ (v : List ℕ). name.write t ++ v) (sym (nothing_written ds g.0)))
written (bag_h k) ds f g = ap (λ (v : List ℕ). 5 ∷ v) (ap₂ (λ (n : ℕ) (v : List ℕ). le 4 n ++ v) (as_many ds ∙ g.0) (as_written ds))
written (rec_h ns) ds f g = ap (λ (v : List ℕ). 6 ∷ v) (ap₂ (λ (v : List Name) (w : List ℕ). write_names v ++ w) (as_names ns ds g.0) (as_values_written ns ds g.0))
written left_h ds f g = ap (λ (v : List ℕ). 7 ∷ v) (sym (one_written ds g.0))
written right_h ds f g = ap (λ (v : List ℕ). 8 ∷ v) (sym (one_written ds g.0))

out : (d : Data) → FitsData d → Out data_of data_heads (λ h. many data_of (data_arity h)) build_data d
unfolding FitsDataHead FitsData build_data data_arity first_datum
out unit f = record { a = unit_h; b = []; a_fits = tt; b_fits = (refl, tt); is = refl }
out (num n) f = record { a = num_h n; b = []; a_fits = f; b_fits = (refl, tt); is = refl }
out (truth b) f = record { a = truth_h b; b = []; a_fits = tt; b_fits = (refl, tt); is = refl }
out (text t) f = record { a = text_h t; b = []; a_fits = f; b_fits = (refl, tt); is = refl }
out (bag ds) f = record { a = bag_h (how_many ds); b = list ds; a_fits = f.0; b_fits = (list_many ds, list_fits ds f.1); is = ap bag (list_back ds) }
out (rec fs) f = record { a = rec_h (names fs); b = values fs; a_fits = f.0; b_fits = (values_many fs, values_fit fs f.1); is = ap rec (values_back fs) }
out (left d) f = record { a = left_h; b = d ∷ []; a_fits = tt; b_fits = (refl, (f, tt)); is = refl }
out (right d) f = record { a = right_h; b = d ∷ []; a_fits = tt; b_fits = (refl, (f, tt)); is = refl }

pub data_laws : Laws data_of data_heads data_arity
unfolding FitsDataHead data_arity
data_laws =
    record {
      splits = record { make = build_data; fits = fits; written = written; out = out };
      one_way = heads_way data_heads data_table data_good (omega arith) data_tagged;
      long = heads_long data_heads data_table data_good (omega arith) data_tagged;
      leaf = unit_h;
      leaf_fits = tt;
      leaf_alone = refl;
    }

-- a head has few parts
pub data_few : (h : DataHead) → FitsDataHead h → data_arity h < 2 ^ 32
unfolding FitsDataHead data_arity
data_few unit_h f = omega arith
data_few (num_h n) f = omega arith
data_few (truth_h b) f = omega arith
data_few (text_h t) f = omega arith
data_few (bag_h k) f = f
data_few (rec_h ns) f = f.0
data_few left_h f = omega arith
data_few right_h f = omega arith

-- what the code reads in front of a datum
module _ (xs : List ℕ) (typed : (j : ℕ) → Fits w8 (slice_index xs j)) where
  module _ (n : 0 < length xs) where
    pub data_alone : (t : ℕ) (node : DataNode) (l : (entry data_table t).load.T) → slice_index xs 0 ≡ t → (entry data_table t).load.Fits l → (entry data_table t).load.write l ≡ []
        → TellsData node ((entry data_table t).make l) → ReadAs data_heads xs 1 (TellsData node)
    data_alone t node l = node_alone data_heads data_table data_good (omega arith) data_tagged TellsData xs t node l (bytes_typed xs typed) n

    pub data_begins : (t f e : ℕ) (node : DataNode) (l : (entry data_table t).load.T) → slice_index xs 0 ≡ t → Begins (entry data_table t).load (from 1 xs) f l → e ≡ 1 + f
        → TellsData node ((entry data_table t).make l) → ReadAs data_heads xs e (TellsData node)
    data_begins t f e node l = node_begins data_heads data_table data_good (omega arith) data_tagged TellsData xs t f e node l (bytes_typed xs typed) n

    pub data_stuck : (t p e : ℕ) → slice_index xs 0 ≡ t → Stuck (entry data_table t).load (from 1 xs) p → e ≡ 1 + p → Stuck data_heads xs e
    data_stuck t p e = head_stuck data_heads data_table data_good (omega arith) data_tagged xs t p e (bytes_typed xs typed) n

  pub data_no_tag : 0 < length xs → 9 ≤ slice_index xs 0 → Stuck data_heads xs 0
  unfolding FitsDataHead
  data_no_tag = stuck_tag data_heads data_table data_good (omega arith) data_tagged unit_h tt xs

  pub data_empty : length xs ≡ 0 → Stuck data_heads xs 0
  unfolding FitsDataHead
  data_empty = stuck_empty data_heads data_table data_good (omega arith) data_tagged unit_h tt xs

-- the same, with how many parts follow
module _ (xs : List ℕ) (b : bytes xs ≡ true) where
  pub data_alone_parts : (t k : ℕ) (node : DataNode) (l : (entry data_table t).load.T) → 0 < length xs → slice_index xs 0 ≡ t → (entry data_table t).load.Fits l → (entry data_table t).load.write l ≡ []
      → TellsData node ((entry data_table t).make l) → k ≡ data_arity ((entry data_table t).make l) → k < 2 ^ 32 → NodeRead data_heads data_arity TellsData xs node k 1
  data_alone_parts t k node l n g f w s a m =
      node_alone data_heads data_table data_good (omega arith) data_tagged (λ (v : ℕ) (h : DataHead). TellsData node h × (v ≡ data_arity h) × (v < 2 ^ 32)) xs t k l b n g f w (s, a, m)

  pub data_begins_parts : (t k f e : ℕ) (node : DataNode) (l : (entry data_table t).load.T) → 0 < length xs → slice_index xs 0 ≡ t → Begins (entry data_table t).load (from 1 xs) f l → e ≡ 1 + f
      → TellsData node ((entry data_table t).make l) → k ≡ data_arity ((entry data_table t).make l) → k < 2 ^ 32 → NodeRead data_heads data_arity TellsData xs node k e
  data_begins_parts t k f e node l n g r q s a m =
      node_begins data_heads data_table data_good (omega arith) data_tagged (λ (v : ℕ) (h : DataHead). TellsData node h × (v ≡ data_arity h) × (v < 2 ^ 32)) xs t f e k l b n g r q (s, a, m)
