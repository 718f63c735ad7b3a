-- `octet::read_u64_le` meets its contract: the halves of the part. Assumes nothing.
use mathlib.Core.Path.{◌≡◌, ap, ◌∙◌}
use Prim.Native.Nat.{ℕ, ◌+◌, ◌-◌}
use native.Mathlib.Omega.{arith}
use lib.ListN.{length, take, drop}
use Rattle.octet.specs.Number.{value_le}
use Rattle.octet.specs.Part.{part}
use Rattle.octet.proofs.PartLaws.{length_part}
use Rattle.octet.proofs.LittleLaws.{two_halves}
use Rattle.octet.proofs.little.read_u64_le.Goals as goal

pub returns : goal.returns
returns c =
    let start = c in
    let at = start.args.at in
    let s = start.args.s.now in
    let width : at + 8 - at ≡ 8 = omega arith in
    let is : take (at + 8 - at) (drop at s) ≡ part at 8 s = ap (λ (n : ℕ). take n (drop at s)) width in
    let long : length (take (at + 8 - at) (drop at s)) ≡ 8 = ap length is ∙ length_part at 8 s start.requires in
    omega (arith, c.read_u32_le-low.ensures, c.read_u32_le-high.ensures, two_halves (take (at + 8 - at) (drop at s)) long, ap (value_le 256) is)
