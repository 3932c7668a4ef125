-- Three lots of grain and what each weighs: two tables, their schema, eight questions and what seven of them come to.
use Rattle.std.specs.Prelude.{[], ◌∷◌, Bool, ℕ, codes}
use Rattle.query.specs.Data.{Name, Data, num, text, bag, rec, Datas, none, more, no_field, field}
use Rattle.query.specs.Query.{equal, join_recs, sum, distinct, dot, as_field, a_num, a_text, a_bag, a_rec, no_ty, ty, Query, table, it, env, just, two, one, each, keep, product, matched, with_env, Tables}
use Rattle.query.specs.Types.{Schema, type_asked}
use Rattle.query.specs.Size.{some_ty}

-- names of fields
abbrev pub at : Name
at = codes "at"

abbrev pub kilo : Name
kilo = codes "kilo"

abbrev pub kilos : Name
kilos = codes "kilos"

abbrev pub lot : Name
lot = codes "lot"

abbrev pub of : Name
of = codes "of"

-- what lots are of
abbrev pub oats : Data
oats = text (codes "oats")

abbrev pub rye : Data
rye = text (codes "rye")

-- table 0: which lot is of what
abbrev pub a_lot : ℕ → Data → Data
a_lot n x = rec (field lot (num n) (field of x no_field))

abbrev pub lots : Data
lots = bag (more (a_lot 1 rye) (more (a_lot 2 oats) (more (a_lot 3 rye) none)))

-- table 1: at which lot there are how many kilos
abbrev pub a_weight : ℕ → ℕ → Data
a_weight n k = rec (field at (num n) (field kilo (num k) no_field))

abbrev pub weights : Data
weights = bag (more (a_weight 2 70) (more (a_weight 1 40) (more (a_weight 1 5) none)))

abbrev pub tables : Tables
tables = lots ∷ (weights ∷ [])

abbrev pub schema : Schema
schema = a_bag (a_rec (ty lot a_num (ty of a_text no_ty))) ∷ (a_bag (a_rec (ty at a_num (ty kilo a_num no_ty))) ∷ [])

-- the sum of all kilos
abbrev pub all_kilos : Query
all_kilos = one sum (each (one (dot kilo) it) (table 1))

-- is it of rye
abbrev pub is_rye : Query
is_rye = two equal (one (dot of) it) (just a_text rye)

-- the lots of rye
abbrev pub rye_lots : Query
rye_lots = keep is_rye (table 0)

abbrev pub the_rye_lots : Data
the_rye_lots = bag (more (a_lot 1 rye) (more (a_lot 3 rye) none))

-- each lot with each of its weights: of all pairs those that belong together
abbrev pub kept_pairs : Query
kept_pairs = keep (two equal (one (dot lot) it) (one (dot at) it)) (product (table 0) (table 1))

-- the same by matching
abbrev pub matched_lots : Query
matched_lots = matched lot at (table 0) (table 1)

abbrev pub a_weighed_lot : ℕ → ℕ → Data → Data
a_weighed_lot n k x = rec (field at (num n) (field kilo (num k) (field lot (num n) (field of x no_field))))

abbrev pub weighed_lots : Data
weighed_lots = bag (more (a_weighed_lot 1 40 rye) (more (a_weighed_lot 1 5 rye) (more (a_weighed_lot 2 70 oats) none)))

-- the sum of the kilos of rye
abbrev pub rye_kilos : Query
rye_kilos = one sum (each (one (dot kilo) it) (keep is_rye matched_lots))

-- each lot with a bag of its kilos: the lot goes along while the weights are looked at
abbrev pub kilos_of_it : Query
kilos_of_it = with_env (each (one (dot kilo) it) (keep (two equal (one (dot at) it) (one (dot lot) env)) (table 1))) it

abbrev pub lots_with_kilos : Query
lots_with_kilos = each (two join_recs it (one (as_field kilos) kilos_of_it)) (table 0)

abbrev pub a_lot_with_kilos : ℕ → Datas → Data → Data
a_lot_with_kilos n ks x = rec (field kilos (bag ks) (field lot (num n) (field of x no_field)))

abbrev pub the_lots_with_kilos : Data
the_lots_with_kilos =
    bag (more (a_lot_with_kilos 1 (more (num 40) (more (num 5) none)) rye) (more (a_lot_with_kilos 2 (more (num 70) none) oats) (more (a_lot_with_kilos 3 none rye) none)))

-- what there are lots of, each once
abbrev pub kinds : Query
kinds = one distinct (each (one (dot of) it) (table 0))

abbrev pub the_kinds : Data
the_kinds = bag (more oats (more rye none))

-- the kilos of each lot, which have none
abbrev pub kilos_of_lots : Query
kilos_of_lots = each (one (dot kilo) it) (table 0)

abbrev pub has_type : Query → Bool
has_type q = some_ty (type_asked schema q)
