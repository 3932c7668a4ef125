-- Queries by how their parts are worked out.
use Rattle.std.specs.Prelude.{◌≡◌, ℕ, Bool, false, ◌==◌}
use Rattle.query.specs.Data.{Data}
use Rattle.query.specs.Query.{Ty, Query, table, it, env, just, each, keep, default, either, then, with_env}
use Rattle.guide.specs.Visits.{IsQuery}
use Rattle.format.specs.declared.node.QueryNode.{QueryNode}
use Rattle.operators.specs.Applied.{Made1, one_query, IsSingle, Made2, two_query, IsJoint}
use Rattle.values.specs.declared.value.Place.{Place}
use Rattle.values.specs.declared.value.Value.{Value}
use Rattle.values.specs.declared.value.Value.TheVariants.{Nothing, Number, Truth, Text, Bag, Record, Left, Right}
use Rattle.eval.specs.declared.shape.Leaf.{Leaf}
use Rattle.eval.specs.declared.shape.Leaf.TheVariants as lf
use Rattle.eval.specs.declared.shape.Over.{Over}
use Rattle.eval.specs.declared.shape.Over.TheVariants as ov
use Rattle.eval.specs.declared.shape.Shape.{Shape}
use Rattle.eval.specs.declared.shape.Shape.TheVariants as sh
use Rattle.eval.specs.declared.shape.Side.{Side}

abbrev pub IsLeaf : Leaf → Query → Type 0
IsLeaf (lf.Table n) x = x ≡ table n
IsLeaf lf.It x = x ≡ it
IsLeaf lf.Env x = x ≡ env
IsLeaf lf.Just x = (t : Ty) × (d : Data) × (x ≡ just t d)

abbrev pub over_query : Over → Query → Query → Query
over_query ov.Each p q = each p q
over_query ov.Keep p q = keep p q
over_query ov.Then p q = then p q
over_query ov.WithEnv p q = with_env p q

abbrev pub Shaped : Shape → Query → Type 0
Shaped (sh.Leaf l) x = IsLeaf l x
Shaped (sh.Single s) x = (k : Made1) × (p : Query) × (x ≡ one_query k p) × IsSingle s k
Shaped (sh.Pair j) x = (k : Made2) × (p : Query) × (q : Query) × (x ≡ two_query k p q) × IsJoint j k
Shaped (sh.Over o) x = (p : Query) × (q : Query) × (x ≡ over_query o p q)
Shaped sh.Default x = (p : Query) × (q : Query) × (x ≡ default p q)
Shaped sh.Either x = (p : Query) × (q : Query) × (x ≡ either p q)

pub record TellsShape (node : QueryNode) (s : Shape) : Type 0 where
  pub tells : (x : Query) → IsQuery node x → Shaped s x

-- where a bag's things lie
abbrev pub place_in : Value → Place
place_in Nothing = record { start = 0; count = 0 }
place_in (Number n) = record { start = 0; count = 0 }
place_in (Truth b) = record { start = 0; count = 0 }
place_in (Text p) = record { start = 0; count = 0 }
place_in (Bag p) = p
place_in (Record p) = record { start = 0; count = 0 }
place_in (Left k) = record { start = 0; count = 0 }
place_in (Right k) = record { start = 0; count = 0 }

abbrev pub empty_in : Value → Bool
empty_in Nothing = false
empty_in (Number n) = false
empty_in (Truth b) = false
empty_in (Text p) = false
empty_in (Bag p) = p.count == 0
empty_in (Record p) = false
empty_in (Left k) = false
empty_in (Right k) = false

-- the part for one side of an either, and the slot of what is there
abbrev pub side_in : Value → ℕ → ℕ → Side
side_in Nothing first last = record { part = first; slot = 0 }
side_in (Number n) first last = record { part = first; slot = 0 }
side_in (Truth b) first last = record { part = first; slot = 0 }
side_in (Text p) first last = record { part = first; slot = 0 }
side_in (Bag p) first last = record { part = first; slot = 0 }
side_in (Record p) first last = record { part = first; slot = 0 }
side_in (Left k) first last = record { part = first; slot = k }
side_in (Right k) first last = record { part = last; slot = k }
