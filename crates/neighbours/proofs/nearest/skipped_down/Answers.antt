use mathlib.Core.Path.{◌≡◌, sym, ap, ◌∙◌}
use mathlib.Core.Bool.{Bool}
use Prim.Native.Nat.{ℕ, ◌-◌, ◌*◌}
use native.Mathlib.Omega.{arith}
use lib.ListN.{get_or}
use Rattle.octet.specs.Part.{part}
use Rattle.octet.proofs.PartLaws.{part_at}
use Rattle.record.proofs.EntryLaws.{one_address}
use Rattle.path.specs.Path.{on_path}
use Rattle.table.specs.Rows.{rows}
use Rattle.round.specs.Over.{pass_over}
use Rattle.neighbours.specs.Where.{steps_down, skips_at}
use Rattle.neighbours.proofs.ClosestLaws.{in_form}
use Rattle.round.proofs.OverLaws.{over-on, over-here, over-end}
use Rattle.neighbours.proofs.BesideLaws.{row_in}
use Rattle.neighbours.proofs.nearest.skipped_down.Goals.{After-on_path, At-loop-i, Start}
use Rattle.neighbours.proofs.nearest.skipped_down.Goals as goal

abbrev start : At-loop-i → Start
start c = (goal.at.At-loop-i c).Start

-- is the record so many steps down on the path?
abbrev skips : Start → ℕ → Bool
skips s j = skips_at s.args.path.now s.args.cache.now (steps_down s.args.used s.args.at j)

-- what was looked at is that record
looked : (c : After-on_path) → skips (goal.at.After-on_path c).Start c.loop-i.i ≡ c.on_path.result
looked c =
    let a = c.args in
    ap (λ (n : ℕ). on_path (part (100 * n) 100 a.cache.now) a.path.now) (sym c.wrap-start.ensures.0) ∙ sym c.on_path.ensures

pub loop-i-init : goal.loop-i-init
loop-i-init c =
    let a = c.args in
    let e : a.used ≡ a.used - 0 = omega arith in
    ap (pass_over (skips (goal.at.loop-i-init c).Start) 0) e

pub overflow_mul-start : goal.overflow_mul-start
overflow_mul-start c = omega (arith, c.wrap-start.ensures.1)

pub on_path-requires : goal.on_path-requires
on_path-requires c =
    let a = c.args in
    let i = c.wrap-start.result in
    let formed = in_form (part (100 * i) 100 a.cache.now) (rows 100 a.used a.cache.now) c.requires.2 (row_in a.used i a.cache.now c.wrap-start.ensures.1) in
    let few : get_or (part (100 * i) 100 a.cache.now) 34 0 ≡ 1 = one_address (part (100 * i) 100 a.cache.now) formed in
    (omega (arith, c.wrap-start.ensures.1), omega (arith, few, part_at (100 * i) 100 34 a.cache.now (omega arith)))

pub returns-then-not-on_path : goal.returns-then-not-on_path
returns-then-not-on_path c =
    let e = (goal.at.returns-then-not-on_path c).After-on_path in
    let head = (goal.at.returns-then-not-on_path c).At-loop-i in
    let s = start head in
    sym (head.loop-i.invariant
    ∙ over-here (skips s) s.args.used head.loop-i.i (omega arith) (looked e ∙ c.if-not-on_path.true))

pub loop-i-preserved : goal.loop-i-preserved
loop-i-preserved c =
    let e = (goal.at.loop-i-preserved c).After-on_path in
    let head = (goal.at.loop-i-preserved c).At-loop-i in
    let s = start head in
    head.loop-i.invariant
    ∙ over-on (skips s) s.args.used head.loop-i.i (omega arith) (looked e ∙ c.if-not-on_path.false)

pub returns : goal.returns
returns c =
    let head = (goal.at.returns c).At-loop-i in
    let s = start head in
    let all : s.args.used ≡ head.loop-i.i = omega arith in
    all ∙ sym (head.loop-i.invariant ∙ over-end (skips s) s.args.used head.loop-i.i (omega arith))
