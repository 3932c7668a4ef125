-- What an operator is given, and what it promises: the unit of work that it costs was paid before, and pays for memory that it makes.
use Rattle.std.specs.Prelude.{◌≡◌, ℕ, ◌+◌, ◌*◌, ◌≤◌, true, List, [], ◌∷◌, length, Result}
use Rattle.query.specs.Data.{Name, Data}
use Rattle.query.specs.Query.{Ty, adding, apply2}
use Rattle.query.specs.Types.{is_of, type2}
use Rattle.format.specs.Nodes.{op_2}
use Rattle.format.specs.declared.node.Binary.{Binary}
use Rattle.values.specs.Memory.{Used, Under, Holds, Kept}
use Rattle.values.specs.declared.value.Value.{Value}
use Rattle.operators.specs.Means.{Means}
use Rattle.operators.specs.Ready.{Fine}
use Rattle.operators.specs.Came.{Came}
use Rattle.operators.specs.declared.came.Stop.{Stop}

-- two values that stand for data of the types that an operator asks for
pub record Operands (o : Binary) (bs : List ℕ) (deep : ℕ) (a b : Value) (m : List ℕ) (top : ℕ) : Type 0 where
  pub rate : ℕ
  pub names : List Name
  pub dear : 5 * length names + 3 ≤ rate
  pub first : Data
  pub second : Data
  pub of_1 : Ty
  pub of_2 : Ty
  pub to : Ty
  pub is_1 : is_of first of_1 ≡ true
  pub is_2 : is_of second of_2 ≡ true
  pub typed : type2 (op_2 o) of_1 of_2 ≡ to ∷ []
  pub fine_1 : Fine names deep of_1
  pub fine_2 : Fine names deep of_2
  pub fine_to : Fine names deep to
  pub used : Used
  pub holds_1 : Holds bs m used first a
  pub holds_2 : Holds bs m used second b
  pub low : Under used top
  pub room : top ≤ length m

-- so for words in use below some place
pub record OperandsBelow (o : Binary) (bs : List ℕ) (deep : ℕ) (a b : Value) (m : List ℕ) : Type 0 where
  pub top : ℕ
  pub given : Operands o bs deep a b m top

pub record Does (o : Binary) (bs : List ℕ) (deep : ℕ) (a b : Value) (m : List ℕ) (top left : ℕ) (n : List ℕ) (r : Result Came Stop) : Type 0 where
  pub kept : Kept top m n
  pub means : (g : Operands o bs deep a b m top) → Means bs g.rate (adding 1 (apply2 (op_2 o) g.first g.second)) (1 + left) g.used top n r

-- whatever memory holds
pub record DoesAnywhere (o : Binary) (a b : Value) (top left : ℕ) (r : Result Came Stop) : Type 0 where
  pub does : (bs : List ℕ) (deep : ℕ) (m : List ℕ) → Does o bs deep a b m top left m r

-- whatever stands in the request's bytes
pub record DoesThere (o : Binary) (a b : Value) (m : List ℕ) (top left : ℕ) (n : List ℕ) (r : Result Came Stop) : Type 0 where
  pub does : (bs : List ℕ) (deep : ℕ) → Does o bs deep a b m top left n r

pub record SomeOperands (o : Binary) (a b : Value) (m : List ℕ) (top : ℕ) : Type 0 where
  pub bytes : List ℕ
  pub deep : ℕ
  pub given : Operands o bytes deep a b m top
