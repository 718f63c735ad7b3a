-- `octet::write_u16_le` meets its contract: the two stores are one replaced part. Assumes nothing.
use mathlib.Core.Path.{sym}
use Prim.Native.Nat.{◌%◌, ◌/◌}
use native.Mathlib.Omega.{arith}
use lib.ListN.{length-set}
use Rattle.octet.specs.Number.{digits_le}
use Rattle.octet.proofs.PartLaws.{splice_two}
use Rattle.octet.proofs.little.write_u16_le.Goals as goal

pub bounds-s-at-2 : goal.bounds-s-at-2
bounds-s-at-2 c = simp length-set (omega arith)

pub returns : goal.returns
unfolding digits_le
returns c = let n = c.args.n in sym (splice_two c.args.at (n % 256) (n / 256 % 256) c.args.s.now c.requires)
