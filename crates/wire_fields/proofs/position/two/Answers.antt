-- `wire_fields::position::two` meets its contract: the two bytes change places. Assumes nothing.
use native.Mathlib.Omega.{arith}
use mathlib.Core.Path.{◌≡◌}
use Prim.Native.Nat.{◌+◌, ◌*◌}
use lib.ListN.{get_or}
use Rattle.octet.specs.Number.{value_be, value_le}
use Rattle.octet.specs.Part.{part}
use Rattle.octet.proofs.PartLaws.{part_two}
use Rattle.wire_shapes.specs.Field.{number_at}
use borrow.Author.Rules.{rules}
use Rattle.wire_fields.proofs.position.two.Goals as goal

pub returns : goal.returns
unfolding value_le value_be
returns c =
    let d = c.args.d.now in
    let at = c.args.at in
    let low : value_le 256 (part at 2 d) ≡ get_or d (at + 1) 0 * 256 + get_or d at 0 = rw (part_two at d (search rules)) (omega arith) in
    let high : number_at at 2 d ≡ get_or d at 0 * 256 + get_or d (at + 1) 0 = rw (part_two at d (search rules)) (omega arith) in
    omega (arith, c.read_u16_le-swapped.ensures, low, high, c.type_inv.d at, c.type_inv.d (at + 1))
