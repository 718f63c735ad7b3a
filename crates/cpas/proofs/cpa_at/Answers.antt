use mathlib.Core.Path.{◌≡◌, sym, ap, ◌∙◌}
use Prim.Native.Nat.{ℕ, ◌+◌, ◌-◌, ◌≤◌}
use native.Mathlib.Omega.{arith}
use lib.ListN.{length, drop, length-drop}
use Rattle.octet.specs.Part.{part}
use Rattle.cpas.specs.Cpas.{cpa_size}
use Rattle.cpas.proofs.CpaLaws.{Left, left_front, left_first, left_next, left_here}
use Rattle.cpas.proofs.cpa_at.Goals as goal

-- the CPA at the place lies within
room : (cpas : _) (place at i : ℕ) → Left place i at cpas → at + (2 + cpa_size (drop at cpas)) ≤ length cpas
room cpas place at i l = omega (arith, (left_front place i at cpas l).room, length-drop at cpas)

pub loop-i-init : goal.loop-i-init
loop-i-init c =
    (omega arith, left_first c.args.place c.requires.0 c.args.cpas.now c.requires.1 c.requires.2)

pub size_at-requires : goal.size_at-requires
size_at-requires c =
    let a = c.args in
    let l = c.loop-i in
    omega (arith, room a.cpas.now a.place l.at l._i l.invariant.1)

pub loop-i-preserved : goal.loop-i-preserved
loop-i-preserved c =
    let a = c.args in
    let l = c.loop-i in (
      omega (arith, room a.cpas.now a.place l.at l._i l.invariant.1, c.size_at.ensures.0),
      left_next a.place l._i l.at a.cpas.now (omega arith) l.invariant.1 c.size_at.ensures.0,
    )

pub overflow_add-start : goal.overflow_add-start
overflow_add-start c =
    let a = c.args in
    let l = c.loop-i in
    omega (arith, room a.cpas.now a.place l.at l._i l.invariant.1)

pub size_at-requires-2 : goal.size_at-requires-2
size_at-requires-2 c =
    let a = c.args in
    let l = c.loop-i in
    omega (arith, room a.cpas.now a.place l.at l._i l.invariant.1)

pub slice_bounds-result-end : goal.slice_bounds-result-end
slice_bounds-result-end c =
    let a = c.args in
    let l = c.loop-i in
    omega (arith, room a.cpas.now a.place l.at l._i l.invariant.1, c.size_at-2.ensures.0)

pub returns : goal.returns
returns c =
    let a = c.args in
    let l = c.loop-i in
    let n : l.at + 2 + c.size_at-2.result - (l.at + 2) ≡ c.size_at-2.result = omega arith in
    ap (λ (k : ℕ). part (l.at + 2) k a.cpas.now) n
    ∙ sym (left_here a.place l._i l.at a.cpas.now (omega arith) l.invariant.1 c.size_at-2.ensures.0)
