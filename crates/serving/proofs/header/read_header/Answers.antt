use Rattle.std.proofs.Common.{ℕ, List, drop, subst, arith, length-drop}
use Rattle.format.specs.Lists.{bytes_typed, bytes_drop, from_drop}
use Rattle.serving.proofs.Unread.{NumberOrStuck, number_there}
use Rattle.serving.proofs.header.read_header.Goals as goal

pub unwrap-count-requires : goal.unwrap-count-requires
unwrap-count-requires c =
    let xs = c.args.bytes.now in
    number_there xs (bytes_typed xs c.type_inv.bytes) (omega (arith, c.requires)) c.read_u32.result c.read_u32.ensures

pub unwrap-numbers-requires : goal.unwrap-numbers-requires
unwrap-numbers-requires c =
    let xs = c.args.bytes.now in
    let r = c.read_u32-2.result in
    number_there (drop 4 xs) (bytes_drop 4 xs (bytes_typed xs c.type_inv.bytes)) (omega (arith, c.requires, length-drop 4 xs)) r
    (subst (λ (v : List ℕ). NumberOrStuck v r) (from_drop 4 xs) c.read_u32-2.ensures)
