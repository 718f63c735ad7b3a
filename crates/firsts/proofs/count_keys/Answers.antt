use mathlib.Core.Path.{◌≡◌, sym, ap, ◌∙◌}
use mathlib.Core.List.{List, map}
use Prim.Native.Nat.{ℕ, ◌+◌, ◌*◌, ◌/◌}
use native.Mathlib.Omega.{arith}
use lib.ListN.{length}
use Rattle.record.specs.Record.{key_of}
use Rattle.table.specs.Rows.{rows}
use Rattle.firsts.specs.Firsts.{firsts_of}
use Rattle.firsts.proofs.FirstsLaws.{firsts_length}
use Rattle.firsts.proofs.count_keys.Goals.{Start}
use Rattle.firsts.proofs.count_keys.Goals as goal

-- the counts of the first n records
abbrev counts : Start → ℕ → List ℕ
counts s n = firsts_of (map key_of (rows 100 n s.args.cache.now))

pub loop-four-init : goal.loop-four-init
unfolding rows
loop-four-init c = c.requires.2

pub count_four-requires : goal.count_four-requires
count_four-requires c = (omega arith, omega arith, c.loop-four.invariant)

pub loop-four-preserved : goal.loop-four-preserved
loop-four-preserved c =
    let e : 4 * c.loop-four.four + 4 ≡ 4 * (c.loop-four.four + 1) = omega arith in
    c.count_four.ensures ∙ ap (counts (goal.at.loop-four-preserved c).Start) e

pub loop-i-init : goal.loop-i-init
loop-i-init c =
    let s = (goal.at.loop-i-init c).Start in
    let e : 4 * c.loop-four.four ≡ 4 * (s.args.used / 4) = omega arith in
    c.loop-four.invariant ∙ ap (counts s) e

pub count_record-requires : goal.count_record-requires
count_record-requires c = (omega arith, omega arith, c.loop-i.invariant)

pub loop-i-preserved : goal.loop-i-preserved
loop-i-preserved c = c.count_record.ensures

pub shape_of-fresh : goal.shape_of-fresh
shape_of-fresh c =
    ap length c.loop-i.invariant ∙ firsts_length _ ∙ sym (ap length c.requires.2 ∙ firsts_length _)

pub returns : goal.returns
returns c =
    let s = (goal.at.returns c).Start in
    let l = c.loop-i in
    let e : l.i ≡ s.args.used = omega arith in
    l.invariant ∙ ap (counts s) e
