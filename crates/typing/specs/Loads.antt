-- Types read from their bytes: head by head.
use Rattle.std.specs.Prelude.{◌≡◌, ℕ, zero, suc, ◌+◌, ◌<◌, ◌≤◌, Bool, true, false, ◌&&◌, List, [], ◌∷◌, ◌++◌, length, drop, Some, None, vec_capacity, Option, slice_index}
use Rattle.query.specs.Data.{Name, less_text}
use Rattle.query.specs.Query.{Ty, a_unit, a_num, a_truth, a_text, a_bag, a_rec, an_either}
use Rattle.query.specs.Types.{if_so}
use Rattle.query.specs.Size.{size_t, all_sound}
use Rattle.format.specs.Coding.{name, writes, AllFit}
use Rattle.ranks.specs.Ranks.{names_of}
use Rattle.ranks.specs.Known.{AllIn, head_names, KnowsAll, names_all}
use Rattle.typing.specs.declared.work.Work.{Work}
use Rattle.ranks.specs.declared.names.Names.{Names}
use Rattle.types.specs.Operators.{NamesOf, named, types_of}
use Rattle.types.specs.Outcomes.{look, size, spread, Room, Grew, Meant}
use Rattle.types.specs.declared.table.Table.{Table}
use Rattle.format.specs.Wire.{types, names_ty}
use Rattle.format.specs.Heads.{write_ty_head, FitsTyHead}
use Rattle.format.specs.Nodes.{TellsType}
use Rattle.format.specs.declared.node.TypeNode.{TypeNode}
use Rattle.ranks.specs.TypeHeads.{head_ty, kids_ty}

-- the first of some types opened: its parts in its place
unfoldable pub opened : List Ty → List Ty
opened [] = []
opened (t ∷ ts) = kids_ty t ++ ts

-- how long its head is
unfoldable pub head_long : List Ty → ℕ
head_long [] = 0
head_long (t ∷ ts) = length (write_ty_head (head_ty t))

-- after so many heads, what is to come, and where it begins
unfoldable pub walk : List Ty → ℕ → List Ty
walk ts zero = ts
walk ts (suc n) = opened (walk ts n)

unfoldable pub place : List Ty → ℕ → ℕ → ℕ
place ts at zero = at
place ts at (suc n) = place ts at n + head_long (walk ts n)

-- how large types are together
unfoldable pub sizes : List Ty → ℕ
sizes [] = 0
sizes (t ∷ ts) = size_t t + sizes ts

-- the heads of some types, up to where something is still to come
pub record Walked (ts : List Ty) (at : ℕ) (hs : List ℕ) : Type 0 where
  pub places : (i : ℕ) → i < length hs → slice_index hs i ≡ place ts at i
  pub some : (i : ℕ) → i < length hs → 0 < length (walk ts i)

-- whatever types stand at a place, if they are not too large: all their heads were noted
pub record Headed (xs : List ℕ) (hs : List ℕ) (at count : ℕ) (r : Option (Unit {0})) : Type 0 where
  pub lie : (i : ℕ) → i < length hs → slice_index hs i ≤ length xs
  pub walked : (ts : List Ty) (rest : List ℕ) → AllFit types ts → length ts ≡ count → drop at xs ≡ writes types ts ++ rest → sizes ts ≤ 8192 → (r ≡ Some tt) × Walked ts at hs × (walk ts (length hs) ≡ [])

-- whatever names stand at a place, if all are known and not too many: these are their ranks
pub record RanksRead (xs : List ℕ) (v : Names) (ks : List ℕ) (at count : ℕ) (r : Option (Unit {0})) : Type 0 where
  pub below : NamesOf (length (names_of xs v)) ks
  pub many : r ≡ Some tt → length ks ≡ count
  pub tells : (ms : List Name) (rest : List ℕ) → AllFit name ms → length ms ≡ count → drop at xs ≡ writes name ms ++ rest → AllIn (names_of xs v) ms → count ≤ 8200 → (r ≡ Some tt) × (named (names_of xs v) ks ≡ ms)

-- names in order
unfoldable pub name_first : Name → List Name → Bool
name_first n [] = true
name_first n (m ∷ ms) = less_text n m

unfoldable pub names_rise : List Name → Bool
names_rise [] = true
names_rise (n ∷ ns) = name_first n ns && names_rise ns

-- the names in a type's head are in order
unfoldable pub head_sound : Ty → Bool
head_sound a_unit = true
head_sound a_num = true
head_sound a_truth = true
head_sound a_text = true
head_sound (a_bag t) = true
head_sound (a_rec ts) = names_rise (names_ty ts)
head_sound (an_either t u) = true

-- whatever type's head stands at a place, with the types of its parts known: the number of the type, if its names are in order
abbrev pub TypeMade : List ℕ → Names → Table → Table → List ℕ → ℕ → TypeNode → Option ℕ → Type 0
TypeMade xs v t u nums at node r =
    (y : Ty) (vs : List Ty) (rest : List ℕ) → TellsType node (head_ty y) → FitsTyHead (head_ty y) → drop at xs ≡ write_ty_head (head_ty y) ++ rest → AllIn (names_of xs v) (head_names (head_ty y)) → length (head_names (head_ty y)) ≤ 8200
    → types_of (names_of xs v) (look t) nums ≡ kids_ty y ++ vs → Meant (names_of xs v) t u 1 (length (head_names (head_ty y))) r (if_so (head_sound y) (y ∷ []))

-- what is worked in has its size
pub record Fit (w : Work) : Type 0 where
  pub heads : 8200 ≤ vec_capacity w.heads
  pub ranks : 8200 ≤ vec_capacity w.ranks

-- the numbers that were read are of types
abbrev pub OnTop : Table → Work → Option (Unit {0}) → Type 0
OnTop t w None = Unit {0}
OnTop t w (Some done) = NamesOf (size t) w.stack

abbrev pub LoadSays : List Name → Table → Work → List Ty → Option (Unit {0}) → Type 0
LoadSays ns u w ts None = all_sound ts ≡ false
LoadSays ns u w ts (Some done) = (all_sound ts ≡ true) × (types_of ns (look u) w.stack ≡ ts)

-- whatever types stand at a place, if all their names are known and they are not too large
pub record LoadTold (ns : List Name) (t u : Table) (w : Work) (ts : List Ty) (r : Option (Unit {0})) : Type 0 where
  pub few : size u ≤ size t + sizes ts
  pub slim : spread u ≤ spread t + names_all ts
  pub says : LoadSays ns u w ts r

pub record Loaded (xs : List ℕ) (v : Names) (t u : Table) (w : Work) (at count : ℕ) (r : Option (Unit {0})) : Type 0 where
  pub grew : Grew t u None
  pub fit : Fit w
  pub numbers : OnTop u w r
  pub told : (ts : List Ty) (rest : List ℕ) → AllFit types ts → length ts ≡ count → drop at xs ≡ writes types ts ++ rest → KnowsAll (names_of xs v) ts → sizes ts ≤ 8192 → Room t (sizes ts) (names_all ts) → LoadTold (names_of xs v) t u w ts r
