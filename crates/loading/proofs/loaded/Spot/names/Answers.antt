use Rattle.loading.proofs.Starts.{names_tell, names_inside, other_type, no_names}
use Rattle.loading.proofs.Oks.{ok_some, ok_none}
use Rattle.loading.proofs.loaded.Spot.names.Goals as goal

pub returns-in-Record : goal.returns-in-Record
returns-in-Record c =
    let r = rw (ok_some c.type_node.result c.in_ok-read.read c.in_ok-read.ensures.value) at c.type_node.ensures in
    record {
      inside = names_inside c.args.self.bytes.now c.args.self.ty _ _ _ r _ c.in-Record.is c.args.self.type_inside;
      tells = names_tell c.args.self.bytes.now c.args.self.ty _ _ _ r _ c.in-Record.is;
    }

pub returns-in_default : goal.returns-in_default
returns-in_default c =
    let r = rw (ok_some c.type_node.result c.in_ok-read.read c.in_ok-read.ensures.value) at c.type_node.ensures in
    record { inside = tt; tells = other_type c.args.self.bytes.now c.args.self.ty _ _ _ r c.in_default.not-Record }

pub returns-in_err-read : goal.returns-in_err-read
returns-in_err-read c =
    let n = ok_none c.type_node.result c.in_err-read.ensures.value in
    let s = rw n.1 at c.type_node.ensures in
    rw c.from_residual.ensures record { inside = tt; tells = no_names c.args.self.bytes.now c.args.self.ty n.0 s }
