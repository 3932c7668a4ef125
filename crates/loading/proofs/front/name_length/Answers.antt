use Rattle.loading.proofs.Starts.{name_said}
use Rattle.loading.proofs.front.name_length.Goals as goal

pub returns : goal.returns
returns c =
    let s = name_said c.args.bytes.now c.args.at c.read_name.result c.requires c.read_name.ensures in
    rw c.ok.ensures.value record { inside = s.0; tells = s.1 }
