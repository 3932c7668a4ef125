-- Things taken apart into their head and the things after it.
use Rattle.std.proofs.Common.{◌≡◌, ℕ, suc, ◌<◌, List, [], ◌∷◌, ◌++◌, length, drop, sym, refl, ap, ◌∙◌}
use Rattle.std.proofs.lemmas.List.{append_assoc, append-nil}
use Rattle.query.specs.Data.{Data, unit, num, truth, text, bag, rec, left, right, Datas, none, more, Fields, no_field, field, how_many}
use Rattle.query.specs.Query.{Ty, a_unit, a_num, a_truth, a_text, a_bag, a_rec, an_either, Tys, no_ty, ty, Query, table, it, env, just, two, one, each, keep, product, matched, default, as_left, as_right, either, then, with_env}
use Rattle.format.specs.Coding.{Coding, le, name, writes, AllFit}
use Rattle.format.specs.Reading.{Begins, OneWay}
use Rattle.format.specs.Wire.{names, names_ty, write_names, write_ty, write_tys, FitsTy, FitsTys, write_data, write_datas, write_values, FitsData, FitsDatas, FitsValues, write_query, FitsQuery, types, data_of, queries}
use Rattle.format.specs.Heads.{as_datas, as_fields, as_tys, unit_h, num_h, truth_h, text_h, bag_h, rec_h, left_h, right_h, write_data_head, FitsDataHead, data_heads, data_arity, first_datum, build_data, unit_t, num_t, truth_t, text_t, bag_t, rec_t, either_t, write_ty_head, FitsTyHead, ty_heads, ty_arity, first_ty_of, second_ty_of, build_ty, QueryHead, table_q, it_q, env_q, just_q, two_q, one_q, each_q, keep_q, product_q, matched_q, default_q, left_q, right_q, either_q, then_q, with_env_q, write_query_head, FitsQueryHead, query_heads, query_arity, first_query, second_query, build_query}
use Rattle.format.specs.Lists.{split_at}
use Rattle.format.specs.DataLaws as dl
use Rattle.format.specs.TypeLaws as tl
use Rattle.format.specs.QueryLaws as ql

pub record Apart (S H : Coding) (arity : H.T → ℕ) (build : H.T → List S.T → S.T) (u : S.T) : Type 0 where
  pub head : H.T
  pub kids : List S.T
  pub head_fits : H.Fits head
  pub many : length kids ≡ arity head
  pub kids_fit : AllFit S kids
  pub is : u ≡ build head kids
  pub written : S.write u ≡ H.write head ++ writes S kids

-- what is to be shown of a sort
pub record Parted (S H : Coding) (arity : H.T → ℕ) (build : H.T → List S.T → S.T) : Type 0 where
  pub apart : (u : S.T) → S.Fits u → Apart S H arity build u
  pub one_way : OneWay H
  pub long : (h : H.T) → H.Fits h → 0 < length (H.write h)

module _ (S H : Coding) (arity : H.T → ℕ) (build : H.T → List S.T → S.T) (laws : Parted S H arity build) where
  -- what stands in front where a head does
  pub record InFront (xs : List ℕ) (e : ℕ) (h : H.T) (u : S.T) (rest : List ℕ) : Type 0 where
    pub kids : List S.T
    pub many : length kids ≡ arity h
    pub kids_fit : AllFit S kids
    pub is : u ≡ build h kids
    pub after : drop e xs ≡ writes S kids ++ rest

  pub in_front : (xs : List ℕ) (e : ℕ) (h : H.T) (u : S.T) (rest : List ℕ) → Begins H xs e h → S.Fits u → xs ≡ S.write u ++ rest → InFront xs e h u rest
  in_front xs e h u rest b f q =
      let a = laws.apart u f in
      let r : H.write h ++ drop e xs ≡ H.write a.head ++ (writes S a.kids ++ rest)
      = sym (split_at e xs (H.write h) b.is) ∙ q ∙ ap (λ (v : List ℕ). v ++ rest) a.written ∙ append_assoc (H.write a.head) (writes S a.kids) rest in
      let w = laws.one_way h a.head _ _ b.fits a.head_fits r in
      record { kids = a.kids; many = a.many ∙ ap arity (sym w.0); kids_fit = a.kids_fit; is = a.is ∙ ap (λ (v : H.T). build v a.kids) (sym w.0); after = w.1 }

-- data
items : Datas → List Data
items none = []
items (more d ds) = d ∷ items ds

items_many : (ds : Datas) → length (items ds) ≡ how_many ds
unfolding items how_many
items_many none = refl
items_many (more d ds) = ap suc (items_many ds)

items_fit : (ds : Datas) → FitsDatas ds → AllFit data_of (items ds)
unfolding items FitsDatas
items_fit none f = tt
items_fit (more d ds) f = (f.0, items_fit ds f.1)

items_back : (ds : Datas) → ds ≡ as_datas (items ds)
unfolding items as_datas
items_back none = refl
items_back (more d ds) = ap (λ (v : Datas). more d v) (items_back ds)

items_written : (ds : Datas) → write_datas ds ≡ writes data_of (items ds)
unfolding items write_datas
items_written none = refl
items_written (more d ds) = ap (λ (v : List ℕ). write_data d ++ v) (items_written ds)

held : Fields → List Data
held no_field = []
held (field n d fs) = d ∷ held fs

held_many : (fs : Fields) → length (held fs) ≡ length (names fs)
unfolding held names
held_many no_field = refl
held_many (field n d fs) = ap suc (held_many fs)

held_fit : (fs : Fields) → FitsValues fs → AllFit data_of (held fs)
unfolding held FitsValues
held_fit no_field f = tt
held_fit (field n d fs) f = (f.0, held_fit fs f.1)

held_back : (fs : Fields) → fs ≡ as_fields (names fs) (held fs)
unfolding held names as_fields
held_back no_field = refl
held_back (field n d fs) = ap (λ (v : Fields). field n d v) (held_back fs)

held_written : (fs : Fields) → write_values fs ≡ writes data_of (held fs)
unfolding held write_values
held_written no_field = refl
held_written (field n d fs) = ap (λ (v : List ℕ). write_data d ++ v) (held_written fs)

data_apart : (d : Data) → FitsData d → Apart data_of data_heads data_arity build_data d
unfolding FitsData write_data FitsDataHead write_data_head data_arity build_data first_datum
data_apart unit f = record { head = unit_h; kids = []; head_fits = tt; many = refl; kids_fit = tt; is = refl; written = refl }
data_apart (num n) f = record { head = num_h n; kids = []; head_fits = f; many = refl; kids_fit = tt; is = refl; written = sym (append-nil (1 ∷ le 8 n)) }
data_apart (truth b) f = record { head = truth_h b; kids = []; head_fits = tt; many = refl; kids_fit = tt; is = refl; written = refl }
data_apart (text t) f = record { head = text_h t; kids = []; head_fits = f; many = refl; kids_fit = tt; is = refl; written = sym (append-nil (4 ∷ name.write t)) }
data_apart (bag ds) f =
    record { head = bag_h (how_many ds); kids = items ds; head_fits = f.0; many = items_many ds; kids_fit = items_fit ds f.1; is = ap bag (items_back ds); written = ap (λ (v : List ℕ). 5 ∷ (le 4 (how_many ds) ++ v)) (items_written ds) }
data_apart (rec fs) f =
    record { head = rec_h (names fs); kids = held fs; head_fits = f.0; many = held_many fs; kids_fit = held_fit fs f.1; is = ap rec (held_back fs); written = ap (λ (v : List ℕ). 6 ∷ (write_names (names fs) ++ v)) (held_written fs) }
data_apart (left d) f = record { head = left_h; kids = d ∷ []; head_fits = tt; many = refl; kids_fit = (f, tt); is = refl; written = ap (λ (v : List ℕ). 7 ∷ v) (sym (append-nil (write_data d))) }
data_apart (right d) f = record { head = right_h; kids = d ∷ []; head_fits = tt; many = refl; kids_fit = (f, tt); is = refl; written = ap (λ (v : List ℕ). 8 ∷ v) (sym (append-nil (write_data d))) }

pub data_parted : Parted data_of data_heads data_arity build_data
data_parted = record { apart = data_apart; one_way = (dl.data_laws).one_way; long = (dl.data_laws).long }

-- types
listed : Tys → List Ty
listed no_ty = []
listed (ty n t ts) = t ∷ listed ts

listed_many : (ts : Tys) → length (listed ts) ≡ length (names_ty ts)
unfolding listed names_ty
listed_many no_ty = refl
listed_many (ty n t ts) = ap suc (listed_many ts)

listed_fit : (ts : Tys) → FitsTys ts → AllFit types (listed ts)
unfolding listed FitsTys
listed_fit no_ty f = tt
listed_fit (ty n t ts) f = (f.0, listed_fit ts f.1)

listed_back : (ts : Tys) → ts ≡ as_tys (names_ty ts) (listed ts)
unfolding listed names_ty as_tys
listed_back no_ty = refl
listed_back (ty n t ts) = ap (λ (v : Tys). ty n t v) (listed_back ts)

listed_written : (ts : Tys) → write_tys ts ≡ writes types (listed ts)
unfolding listed write_tys
listed_written no_ty = refl
listed_written (ty n t ts) = ap (λ (v : List ℕ). write_ty t ++ v) (listed_written ts)

ty_apart : (t : Ty) → FitsTy t → Apart types ty_heads ty_arity build_ty t
unfolding FitsTy write_ty FitsTyHead write_ty_head ty_arity build_ty first_ty_of second_ty_of
ty_apart a_unit f = record { head = unit_t; kids = []; head_fits = tt; many = refl; kids_fit = tt; is = refl; written = refl }
ty_apart a_num f = record { head = num_t; kids = []; head_fits = tt; many = refl; kids_fit = tt; is = refl; written = refl }
ty_apart a_truth f = record { head = truth_t; kids = []; head_fits = tt; many = refl; kids_fit = tt; is = refl; written = refl }
ty_apart a_text f = record { head = text_t; kids = []; head_fits = tt; many = refl; kids_fit = tt; is = refl; written = refl }
ty_apart (a_bag t) f = record { head = bag_t; kids = t ∷ []; head_fits = tt; many = refl; kids_fit = (f, tt); is = refl; written = ap (λ (v : List ℕ). 4 ∷ v) (sym (append-nil (write_ty t))) }
ty_apart (a_rec ts) f =
    record { head = rec_t (names_ty ts); kids = listed ts; head_fits = f.0; many = listed_many ts; kids_fit = listed_fit ts f.1; is = ap a_rec (listed_back ts); written = ap (λ (v : List ℕ). 5 ∷ (write_names (names_ty ts) ++ v)) (listed_written ts) }
ty_apart (an_either t u) f =
    record { head = either_t; kids = t ∷ u ∷ []; head_fits = tt; many = refl; kids_fit = (f.0, (f.1, tt)); is = refl; written = ap (λ (v : List ℕ). 6 ∷ (write_ty t ++ v)) (sym (append-nil (write_ty u))) }

pub ty_parted : Parted types ty_heads ty_arity build_ty
ty_parted = record { apart = ty_apart; one_way = (tl.ty_laws).one_way; long = (tl.ty_laws).long }

-- queries
alone : (h : QueryHead) (q : Query) → FitsQueryHead h → query_arity h ≡ 0 → q ≡ build_query h [] → write_query q ≡ write_query_head h → Apart queries query_heads query_arity build_query q
alone h q f a e w = record { head = h; kids = []; head_fits = f; many = sym a; kids_fit = tt; is = e; written = w ∙ sym (append-nil (write_query_head h)) }

with_one : (h : QueryHead) (p q : Query) → FitsQueryHead h → FitsQuery p → query_arity h ≡ 1 → q ≡ build_query h (p ∷ []) → write_query q ≡ write_query_head h ++ write_query p → Apart queries query_heads query_arity build_query q
with_one h p q f g a e w = record { head = h; kids = p ∷ []; head_fits = f; many = sym a; kids_fit = (g, tt); is = e; written = w ∙ ap (λ (v : List ℕ). write_query_head h ++ v) (sym (append-nil (write_query p))) }

with_two : (h : QueryHead) (o p q : Query) → FitsQueryHead h → FitsQuery o × FitsQuery p → query_arity h ≡ 2 → q ≡ build_query h (o ∷ p ∷ []) → write_query q ≡ write_query_head h ++ (write_query o ++ write_query p)
    → Apart queries query_heads query_arity build_query q
with_two h o p q f g a e w =
    record { head = h; kids = o ∷ p ∷ []; head_fits = f; many = sym a; kids_fit = (g.0, (g.1, tt)); is = e; written = w ∙ ap (λ (v : List ℕ). write_query_head h ++ (write_query o ++ v)) (sym (append-nil (write_query p))) }

query_apart : (q : Query) → FitsQuery q → Apart queries query_heads query_arity build_query q
unfolding FitsQuery write_query FitsQueryHead write_query_head query_arity build_query first_query second_query
query_apart (table n) f = alone (table_q n) (table n) f refl refl refl
query_apart it f = alone it_q it tt refl refl refl
query_apart env f = alone env_q env tt refl refl refl
query_apart (just t d) f = alone (just_q t d) (just t d) f refl refl refl
query_apart (two o p q) f = with_two (two_q o) p q (two o p q) tt f refl refl refl
query_apart (one o q) f = with_one (one_q o) q (one o q) f.0 f.1 refl refl refl
query_apart (each p q) f = with_two each_q p q (each p q) tt f refl refl refl
query_apart (keep p q) f = with_two keep_q p q (keep p q) tt f refl refl refl
query_apart (product p q) f = with_two product_q p q (product p q) tt f refl refl refl
query_apart (matched m n p q) f = with_two (matched_q m n) p q (matched m n p q) f.0 f.1 refl refl refl
query_apart (default p q) f = with_two default_q p q (default p q) tt f refl refl refl
query_apart (as_left t q) f = with_one (left_q t) q (as_left t q) f.0 f.1 refl refl refl
query_apart (as_right t q) f = with_one (right_q t) q (as_right t q) f.0 f.1 refl refl refl
query_apart (either p q) f = with_two either_q p q (either p q) tt f refl refl refl
query_apart (then p q) f = with_two then_q p q (then p q) tt f refl refl refl
query_apart (with_env p q) f = with_two with_env_q p q (with_env p q) tt f refl refl refl

pub query_parted : Parted queries query_heads query_arity build_query
query_parted = record { apart = query_apart; one_way = (ql.query_laws).one_way; long = (ql.query_laws).long }
