use Rattle.std.proofs.Common.{arith}
use Rattle.query.specs.Size.{size_t}
use Rattle.format.specs.Wire.{types}
use Rattle.format.specs.Heads.{query_heads}
use Rattle.format.specs.Nodes.{TellsQuery}
use Rattle.parts.specs.Heads.{written_out, written_size, own_q}
use Rattle.parts.proofs.QueryParts.{own_just, own_unary, own_matched, own_side, own_nothing}
use Rattle.parts.proofs.Owns.{weighed_over, weighed_some}
use Rattle.parts.proofs.queries.own_parts.Goals as goal

pub returns-in_err-written-in-Just : goal.returns-in_err-written-in-Just
returns-in_err-written-in-Just c =
    let xs = c.args.bytes.now in
    rw c.from_residual.ensures
    (weighed_over query_heads TellsQuery own_q c.args.limit xs c.args.node written_out written_size 0 c.args.limit (own_just c.args.limit xs c.args.node _ c.in-Just.is) (omega arith) c.in_err-written-in-Just.ensures)

pub returns-in_ok-written-in-Just : goal.returns-in_ok-written-in-Just
returns-in_ok-written-in-Just c =
    let xs = c.args.bytes.now in
    weighed_some query_heads TellsQuery own_q c.args.limit xs c.args.node written_out written_size 0 c.args.limit (own_just c.args.limit xs c.args.node _ c.in-Just.is) (omega arith) c.in_ok-written-in-Just.written _ (omega arith)
    c.in_ok-written-in-Just.ensures

pub returns-in-One : goal.returns-in-One
returns-in-One c = own_unary c.args.limit c.args.bytes.now c.args.node _ _ c.in-One.is c.unary_parts.ensures

pub returns-in_err-first-in-Matched : goal.returns-in_err-first-in-Matched
returns-in_err-first-in-Matched c = rw c.from_residual-in_err-first-in-Matched.ensures (own_matched c.args.limit c.args.bytes.now c.args.node _ _ _ c.in-Matched.is (omega (arith, c.in_err-first-in-Matched.ensures)))

pub returns-in_err-second-in-Matched : goal.returns-in_err-second-in-Matched
returns-in_err-second-in-Matched c =
    rw c.from_residual-in_err-second-in-Matched.ensures (own_matched c.args.limit c.args.bytes.now c.args.node _ _ _ c.in-Matched.is (omega (arith, c.in_ok-first-in-Matched.ensures, c.in_err-second-in-Matched.ensures)))

pub returns-in_ok-second-in-Matched : goal.returns-in_ok-second-in-Matched
returns-in_ok-second-in-Matched c =
    own_matched c.args.limit c.args.bytes.now c.args.node _ _ _ c.in-Matched.is (omega (arith, c.in_ok-first-in-Matched.ensures, c.in_ok-second-in-Matched.ensures), omega (arith, c.in_ok-first-in-Matched.ensures, c.in_ok-second-in-Matched.ensures))

pub returns-in_err-other-in-OnLeft : goal.returns-in_err-other-in-OnLeft
returns-in_err-other-in-OnLeft c =
    let xs = c.args.bytes.now in
    rw c.from_residual-in_err-other-in-OnLeft.ensures
    (weighed_over query_heads TellsQuery own_q c.args.limit xs c.args.node types size_t 0 c.args.limit (own_side c.args.limit xs c.args.node c.in-OnLeft.is) (omega arith) c.in_err-other-in-OnLeft.ensures)

pub returns-in_ok-other-in-OnLeft : goal.returns-in_ok-other-in-OnLeft
returns-in_ok-other-in-OnLeft c =
    let xs = c.args.bytes.now in
    weighed_some query_heads TellsQuery own_q c.args.limit xs c.args.node types size_t 0 c.args.limit (own_side c.args.limit xs c.args.node c.in-OnLeft.is) (omega arith) c.in_ok-other-in-OnLeft.other _ (omega arith)
    c.in_ok-other-in-OnLeft.ensures

pub returns-in_default : goal.returns-in_default
returns-in_default c =
    own_nothing c.args.limit c.args.bytes.now c.args.node c.in_default.not-Just c.in_default.not-One c.in_default.not-Matched c.in_default.not-OnLeft c.in_default.not-OnRight
