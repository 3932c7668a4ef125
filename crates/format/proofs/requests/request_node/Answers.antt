use Rattle.std.proofs.Common.{ℕ, ◌+◌, arith}
use Rattle.format.specs.RequestLaws.{request_stuck, request_no_tag, request_empty}
use Rattle.format.proofs.Places.{ask_told, plan_told}
use Rattle.format.proofs.Moved.{moved_ok}
use Rattle.format.proofs.requests.request_node.Goals as goal

pub returns-then-bytes-eq0 : goal.returns-then-bytes-eq0
returns-then-bytes-eq0 c = request_empty c.args.bytes.now c.type_inv.bytes c.if-bytes-eq0.true

pub returns-in_default : goal.returns-in_default
returns-in_default c = request_no_tag c.args.bytes.now c.type_inv.bytes (omega arith) (omega arith)

pub returns-in_ok-ask-in-0 : goal.returns-in_ok-ask-in-0
returns-in_ok-ask-in-0 c = ask_told _ c.type_inv.bytes (omega arith) _ _ c.in-0.is (moved_ok _ _ _ c.ask_node.result c.map_err.result _ c.ask_node.ensures c.map_err.ensures.cases c.in_ok-ask-in-0.was)

pub returns-in_err-ask-in-0 : goal.returns-in_err-ask-in-0
returns-in_err-ask-in-0 c = grind (arith, λ (p : ℕ). request_stuck _ c.type_inv.bytes 0 p (1 + p) (omega arith) c.in-0.is)

pub returns-in_ok-plan-in-1 : goal.returns-in_ok-plan-in-1
returns-in_ok-plan-in-1 c = plan_told _ c.type_inv.bytes (omega arith) _ _ c.in-1.is (moved_ok _ _ _ c.plan_node.result c.map_err-in-1.result _ c.plan_node.ensures c.map_err-in-1.ensures.cases c.in_ok-plan-in-1.was)

pub returns-in_err-plan-in-1 : goal.returns-in_err-plan-in-1
returns-in_err-plan-in-1 c = grind (arith, λ (p : ℕ). request_stuck _ c.type_inv.bytes 1 p (1 + p) (omega arith) c.in-1.is)
