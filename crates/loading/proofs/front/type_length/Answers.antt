use Rattle.loading.proofs.Starts.{type_said}
use Rattle.loading.proofs.front.type_length.Goals as goal

pub returns : goal.returns
returns c =
    let s = type_said c.args.bytes.now c.args.ty c.scan.result c.requires c.scan.ensures in
    rw c.unwrap_or.ensures record { inside = s.0; tells = s.1 }
