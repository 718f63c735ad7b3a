-- `wire_sent::front::put_entry` meets its contract: three runs, one after the other. Assumes nothing.
use Prim.Native.Nat.{◌+◌, ◌*◌}
use native.Mathlib.Omega.{arith}
use mathlib.Core.Path.{refl}
use lib.ListN.{get_or}
use Rattle.wire_sent.proofs.FrontLaws.{EntryAt, entry-most, entry-put}
use Rattle.wire_sent.proofs.front.put_entry.Goals.{Start}
use Rattle.wire_sent.proofs.front.put_entry.Goals as goal

there : (s : Start) → EntryAt s.args.at s.args.s.now (44 + 16 * get_or s.args.s.now (s.args.at + 34) 0)
there s = record { within = s.requires.0; formed = s.requires.1; long = refl }

pub put_head-requires : goal.put_head-requires
put_head-requires c =
    let start = (goal.at.put_head-requires c).Start in
    (omega (arith, start.requires.2), omega (arith, entry-most (there start)))

pub put_entry-requires : goal.put_entry-requires
put_entry-requires c =
    record { start_in_bounds = c.requires.0; s_value = c.requires.1; start_in_bounds_2 = omega (arith, c.requires.2, c.put_head.auto.out) }

pub returns : goal.returns
returns c =
    let start = (goal.at.returns c).Start in
    let a = start.args in
    entry-put (there start) a.major a.minor a.to a.out.now (omega (arith, start.requires.2)) c.put_head.ensures c.put_entry.ensures c.write_u16.ensures
