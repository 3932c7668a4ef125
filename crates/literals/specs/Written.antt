-- What a query writes out, in the order of the places, and that each of these is of a type.
use Rattle.std.specs.Prelude.{◌≡◌, true}
use Rattle.query.specs.Data.{Datas, none, more, join}
use Rattle.query.specs.Query.{Query, table, it, env, just, two, one, each, keep, product, matched, default, as_left, as_right, either, then, with_env}
use Rattle.query.specs.Types.{sound, is_of}

unfoldable pub written_out : Query → Datas
written_out (table n) = none
written_out it = none
written_out env = none
written_out (just t d) = more d none
written_out (two o p q) = join (written_out p) (written_out q)
written_out (one o q) = written_out q
written_out (each p q) = join (written_out p) (written_out q)
written_out (keep p q) = join (written_out p) (written_out q)
written_out (product p q) = join (written_out p) (written_out q)
written_out (matched m n p q) = join (written_out p) (written_out q)
written_out (default p q) = join (written_out p) (written_out q)
written_out (as_left t q) = written_out q
written_out (as_right t q) = written_out q
written_out (either p q) = join (written_out p) (written_out q)
written_out (then p q) = join (written_out p) (written_out q)
written_out (with_env p q) = join (written_out p) (written_out q)

-- the type of each is in order, and what is written out is of it
unfoldable pub JustsTyped : Query → Type 0
JustsTyped (table n) = Unit {0}
JustsTyped it = Unit {0}
JustsTyped env = Unit {0}
JustsTyped (just t d) = (sound t ≡ true) × (is_of d t ≡ true)
JustsTyped (two o p q) = JustsTyped p × JustsTyped q
JustsTyped (one o q) = JustsTyped q
JustsTyped (each p q) = JustsTyped p × JustsTyped q
JustsTyped (keep p q) = JustsTyped p × JustsTyped q
JustsTyped (product p q) = JustsTyped p × JustsTyped q
JustsTyped (matched m n p q) = JustsTyped p × JustsTyped q
JustsTyped (default p q) = JustsTyped p × JustsTyped q
JustsTyped (as_left t q) = JustsTyped q
JustsTyped (as_right t q) = JustsTyped q
JustsTyped (either p q) = JustsTyped p × JustsTyped q
JustsTyped (then p q) = JustsTyped p × JustsTyped q
JustsTyped (with_env p q) = JustsTyped p × JustsTyped q
