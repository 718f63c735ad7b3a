-- `runs::copy_block` meets its contract: the bytes held between are all replaced by those of the part. Assumes nothing.
use mathlib.Core.Path.{◌≡◌, sym, ap, ◌∙◌}
use mathlib.Core.List.{List}
use Prim.Native.Nat.{ℕ, ◌+◌, ◌-◌}
use native.Mathlib.Omega.{arith}
use lib.ListN.{length, take, drop, replicate, length-replicate}
use Rattle.octet.specs.Part.{part, splice}
use Rattle.octet.proofs.PartLaws.{length_part, splice_whole}
use Rattle.runs.proofs.copy_block.Goals as goal

pub returns : goal.returns
returns g c =
    let sent = c in
    let got = c in
    let start = c in
    let from = start.args.from in
    let s = start.args.src.now in
    let width : from + g.row.N - from ≡ g.row.N = omega arith in
    let is : take (from + g.row.N - from) (drop from s) ≡ part from g.row.N s = ap (λ (n : ℕ). take n (drop from s)) width in
    sent.copy_to-2.ensures
    ∙ ap (λ (l : List ℕ). splice start.args.at l start.args.dst.now)
    (got.copy_to.ensures ∙ splice_whole (take (from + g.row.N - from) (drop from s)) (replicate g.row.N 0) (ap length is ∙ length_part from g.row.N s start.requires.from_in_bounds ∙ sym (length-replicate {A = ℕ} g.row.N 0)) ∙ is)
