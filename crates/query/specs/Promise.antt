-- What the desk promises: requests and answers, the refusals in their order, and which answer is right.
use Rattle.std.specs.Prelude.{◌≡◌, Bool, true, false, not, ◌&&◌, List, [], ◌∷◌, ℕ, suc, ◌+◌, ◌*◌, ◌≤◌, ◌<◌, leb, eqb}
use Rattle.query.specs.Data.{pick, Name, Data}
use Rattle.query.specs.Query.{equal, dot, Ty, Tys, Query, it, two, one, keep, product, matched, Tables, asked}
use Rattle.query.specs.Types.{get_ty, fields_in, type_asked, Schema, tables_are}
use Rattle.query.specs.Size.{size_d, size_t, size_q, size_s, all_sound, some_ty, size_tables}

-- a plan is a question. What is asked: to plan one; to ask one of tables, with so much work at most; the last number says how many numbers of eight bytes are lent
pub data Asked : Type 0 where
  plan : Schema → Query → ℕ → Asked
  ask : Schema → Tables → Query → ℕ → ℕ → Asked
  garbled : ℕ → Asked

pub data Answer : Type 0 where
  refused : ℕ → ℕ → Answer
  planned : Query → Ty → Answer
  is : Data → Answer
  tired : Answer
  no_room : Answer

pub record Program : Type 0 where
  pub says : Asked → Answer

unfoldable pub kind : Asked → ℕ
kind (plan ss q r) = 1
kind (ask ss ts q w r) = 0
kind (garbled n) = 255

-- in order: 1 no request; 2 too large; 3 a schema of which a record's names aren't in order; 4 a question without a type; 5 tables that aren't of the schema; 6 what isn't there yet
unfoldable pub turned_by : Asked → ℕ
turned_by (plan ss q r) = pick (leb (size_s ss + size_q q) 8192) (pick (all_sound ss) (pick (some_ty (type_asked ss q)) 0 4) 3) 2
turned_by (ask ss ts q w r) = pick (leb (size_s ss + size_q q) 8192) (pick (all_sound ss) (pick (some_ty (type_asked ss q)) (pick (tables_are ts ss) 0 5) 4) 3) 2
turned_by (garbled n) = 1

abbrev pub turned : (ℕ → Bool) → Asked → ℕ
turned can a = pick (eqb (kind a) 255) 1 (pick (can (kind a)) (turned_by a) 6)

unfoldable pub place : Asked → ℕ
place (plan ss q r) = 0
place (ask ss ts q w r) = 0
place (garbled n) = n

-- THE MAIN PROMISE. Asking: what the question comes to, if that takes no more work than was given; else tired. Planning: a question of the same type, that comes to the same on all tables of the
-- schema, and takes no more work on any of them
abbrev pub GoodPlan : Schema → Query → Query → Ty → Type 0
GoodPlan ss q p t =
    (type_asked ss q ≡ t ∷ []) × (type_asked ss p ≡ t ∷ []) × (size_q p ≤ 4 * size_q q) × (size_s ss + size_q p ≤ 8192)
    × ((ts : Tables) → tables_are ts ss ≡ true → ((asked ts p).is ≡ (asked ts q).is) × ((asked ts p).work ≤ (asked ts q).work))

-- memory that is enough: by parts of what is given, of what comes out, and as many parts for each unit of work
unfoldable pub size_out : List Data → ℕ
size_out [] = 0
size_out (d ∷ ds) = size_d d

unfoldable pub size_type : List Ty → ℕ
size_type [] = 0
size_type (t ∷ ts) = size_t t

abbrev pub parts : Schema → Query → ℕ
parts ss q = size_s ss + size_q q

abbrev pub enough_to_ask : Schema → Tables → Query → ℕ → ℕ
enough_to_ask ss ts q w =
    16 * ((parts ss q + size_tables ts) + (parts ss q * suc (pick (leb (asked ts q).work w) (asked ts q).work w) + size_out (asked ts q).is))

abbrev pub enough_to_plan : Schema → Query → ℕ
enough_to_plan ss q = 16 * (parts ss q * suc (parts ss q) + (4 * size_q q + size_type (type_asked ss q)))

unfoldable pub RightAnswer : Asked → Answer → Type 0
RightAnswer (plan ss q r) (refused j k) = ⊥
RightAnswer (plan ss q r) (planned p t) = GoodPlan ss q p t
RightAnswer (plan ss q r) (is d) = ⊥
RightAnswer (plan ss q r) tired = ⊥
RightAnswer (plan ss q r) no_room = r < enough_to_plan ss q
RightAnswer (ask ss ts q w r) (refused j k) = ⊥
RightAnswer (ask ss ts q w r) (planned p t) = ⊥
RightAnswer (ask ss ts q w r) (is d) = ((asked ts q).work ≤ w) × ((asked ts q).is ≡ d ∷ [])
RightAnswer (ask ss ts q w r) tired = w < (asked ts q).work
RightAnswer (ask ss ts q w r) no_room = r < enough_to_ask ss ts q w
RightAnswer (garbled n) a = ⊥

unfoldable pub Right : (ℕ → Bool) → Program → Type 0
Right can f = (a : Asked) → (0 < turned can a → f.says a ≡ refused (turned can a) (place a)) × (turned can a ≡ 0 → RightAnswer a (f.says a))

-- and plans are worth it: keeping of a product those records of which a field of the first side is a field of the second takes no more than matching
abbrev pub same_fields_of : Name → Name → Query
same_fields_of m n = two equal (one (dot m) it) (one (dot n) it)

-- the fields of a bag's records, if the type is known
unfoldable pub all_fields : List Ty → List Tys
all_fields [] = []
all_fields (t ∷ ts) = fields_in t

abbrev pub has_ty : Name → Tys → Bool
has_ty a us = some_ty (get_ty a us)

unfoldable pub left_right : Name → Name → List Tys → List Tys → Bool
left_right m n [] us = false
left_right m n (t ∷ ts) [] = false
left_right m n (t ∷ ts) (u ∷ us) = (has_ty m t && has_ty n u) && not (has_ty m u)

-- the first side has m and the second n, and m is of the first side only
abbrev pub field_only_left : Schema → Name → Name → Query → Query → Bool
field_only_left ss m n p q = left_right m n (all_fields (type_asked ss p)) (all_fields (type_asked ss q))

abbrev pub takes_no_more : Schema → Query → Answer → Type 0
takes_no_more ss r (planned p t) = (ts : Tables) → tables_are ts ss ≡ true → (asked ts p).work ≤ (asked ts r).work
takes_no_more ss r (refused j k) = ⊥
takes_no_more ss r (is d) = ⊥
takes_no_more ss r tired = ⊥
takes_no_more ss r no_room = Unit {0}

unfoldable pub FindsMatches : (ℕ → Bool) → Program → Type 0
FindsMatches can f =
    (ss : Schema) (m n : Name) (p q : Query) (r : ℕ) → turned can (plan ss (keep (same_fields_of m n) (product p q)) r) ≡ 0 → field_only_left ss m n p q ≡ true →
    takes_no_more ss (matched m n p q) (f.says (plan ss (keep (same_fields_of m n) (product p q)) r)) × takes_no_more ss (matched m n p q) (f.says (plan ss (keep (same_fields_of n m) (product p q)) r))

-- the first stage asks; the whole desk plans
abbrev pub thin : ℕ → Bool
thin k = eqb k 0

abbrev pub all : ℕ → Bool
all k = true
