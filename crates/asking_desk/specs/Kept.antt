-- What a call leaves of the desk's own memory.
use Rattle.types.specs.Outcomes.{InOrder}
use Rattle.asking_desk.specs.declared.memory.Desk.{Desk}

-- the rows of the desk's table are in order, if they were: each type stands once, after its parts
abbrev pub KeepsRows : Desk → Desk → Type 0
KeepsRows d e = InOrder d.memory.table → InOrder e.memory.table
