-- How many fields the types of a query may take: so many for each part that is a query, as many as there are names; and one for each name of a type that is written out.
use Rattle.std.specs.Prelude.{ℕ, ◌+◌}
use Rattle.query.specs.Query.{Query, table, it, env, just, two, one, each, keep, product, matched, default, as_left, as_right, either, then, with_env}
use Rattle.ranks.specs.Known.{names_t}

unfoldable pub wide : ℕ → Query → ℕ
wide w (table n) = 0
wide w it = 0
wide w env = 0
wide w (just t d) = names_t t
wide w (two o p q) = w + (wide w p + wide w q)
wide w (one o q) = w + wide w q
wide w (each p q) = w + (wide w p + wide w q)
wide w (keep p q) = w + (wide w p + wide w q)
wide w (product p q) = w + (wide w p + wide w q)
wide w (matched m n p q) = w + (wide w p + wide w q)
wide w (default p q) = w + (wide w p + wide w q)
wide w (as_left t q) = w + (names_t t + wide w q)
wide w (as_right t q) = w + (names_t t + wide w q)
wide w (either p q) = w + (wide w p + wide w q)
wide w (then p q) = w + (wide w p + wide w q)
wide w (with_env p q) = w + (wide w p + wide w q)

-- how many of its parts have parts
unfoldable pub nodes : Query → ℕ
nodes (table n) = 0
nodes it = 0
nodes env = 0
nodes (just t d) = 0
nodes (two o p q) = 1 + (nodes p + nodes q)
nodes (one o q) = 1 + nodes q
nodes (each p q) = 1 + (nodes p + nodes q)
nodes (keep p q) = 1 + (nodes p + nodes q)
nodes (product p q) = 1 + (nodes p + nodes q)
nodes (matched m n p q) = 1 + (nodes p + nodes q)
nodes (default p q) = 1 + (nodes p + nodes q)
nodes (as_left t q) = 1 + nodes q
nodes (as_right t q) = 1 + nodes q
nodes (either p q) = 1 + (nodes p + nodes q)
nodes (then p q) = 1 + (nodes p + nodes q)
nodes (with_env p q) = 1 + (nodes p + nodes q)
