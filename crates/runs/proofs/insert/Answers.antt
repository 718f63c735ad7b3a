-- `runs::insert` meets its contract: the moved part and the copied one are one replaced part. Assumes nothing.
use mathlib.Core.Path.{◌≡◌, refl}
use Prim.Native.Nat.{◌-◌}
use native.Mathlib.Omega.{arith}
use lib.ListN.{length}
use Rattle.octet.specs.Part.{part}
use Rattle.octet.proofs.PartLaws.{length_part, splice_under}
use Rattle.runs.proofs.insert.Goals as goal

pub returns : goal.returns
returns c =
    let start = c in
    let at = start.args.at in
    let s = start.args.s.now in
    let src = start.args.src.now in
    let count = start.args.end - at in
    let n : length (part at count s) ≡ count = length_part at count s (omega arith) in
    cc (splice_under at (length src) src (part at count s) s refl (omega arith))
