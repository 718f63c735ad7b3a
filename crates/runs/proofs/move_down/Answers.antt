use mathlib.Core.Path.{◌≡◌, sym, ap, ap₂, ◌∙◌}
use mathlib.Core.List.{List}
use Prim.Native.Nat.{ℕ, ◌+◌, ◌-◌}
use native.Mathlib.Nat.{add-zero}
use native.Mathlib.Omega.{arith}
use lib.ListN.{length, take, drop, length-take, length-drop}
use Rattle.octet.specs.Part.{part, splice}
use Rattle.octet.proofs.PartLaws.{splice_nil, length_part}
use Rattle.runs.proofs.LentLaws.{put_lent, part_lent}
use Rattle.runs.proofs.TurnLaws.{down_turn}
use Rattle.runs.proofs.move_down.Goals as goal

pub shift-requires : goal.shift-requires
shift-requires c =
    let a = c.args in
    let s = a.s.now in
    omega (arith, length-take (length s - a.to) (drop a.to s), length-drop a.to s)

pub returns-then-from-to-eq100 : goal.returns-then-from-to-eq100
returns-then-from-to-eq100 c =
    let start = c in
    let a = start.args in
    let s = a.s.now in
    let from : a.to + 100 ≡ a.from = omega arith in
    put_lent a.to 0 (part 100 a.n (take (length s - a.to) (drop a.to s))) s c.shift.new.s
    (omega (
      arith,
      length_part 100 a.n (take (length s - a.to) (drop a.to s))
          (omega (arith, length-take (length s - a.to) (drop a.to s), length-drop a.to s)),
    )) c.shift.ensures
    ∙ ap₂ (λ (p : ℕ) (l : List ℕ). splice p l s) (add-zero a.to)
    (part_lent a.to 100 a.n s (omega arith) ∙ ap (λ (p : ℕ). part p a.n s) from)

pub shift-requires-then-from-to-eq140 : goal.shift-requires-then-from-to-eq140
shift-requires-then-from-to-eq140 c =
    let a = c.args in
    let s = a.s.now in
    omega (arith, length-take (length s - a.to) (drop a.to s), length-drop a.to s)

pub returns-then-from-to-eq140 : goal.returns-then-from-to-eq140
returns-then-from-to-eq140 c =
    let start = c in
    let a = start.args in
    let s = a.s.now in
    let from : a.to + 140 ≡ a.from = omega arith in
    put_lent a.to 0 (part 140 a.n (take (length s - a.to) (drop a.to s))) s c.shift-then-from-to-eq140.new.s
    (omega (
      arith,
      length_part 140 a.n (take (length s - a.to) (drop a.to s))
          (omega (arith, length-take (length s - a.to) (drop a.to s), length-drop a.to s)),
    )) c.shift-then-from-to-eq140.ensures
    ∙ ap₂ (λ (p : ℕ) (l : List ℕ). splice p l s) (add-zero a.to)
    (part_lent a.to 140 a.n s (omega arith) ∙ ap (λ (p : ℕ). part p a.n s) from)

pub loop-i-init : goal.loop-i-init
loop-i-init c = let a = c.args in (sym (splice_nil a.to a.s.now))

pub loop-i-preserved : goal.loop-i-preserved
loop-i-preserved c =
    let at-loop = c in
    let at-start = c in
    down_turn at-start.args.from at-start.args.to at-loop.loop-i.i at-start.args.s.now
    (omega arith) (omega arith) at-loop.loop-i.s at-loop.loop-i.invariant

pub returns : goal.returns
returns c =
    let at-start = c in
    let e : c.loop-i.i ≡ at-start.args.n = omega arith in
    c.loop-i.invariant
    ∙ ap (λ (k : ℕ). splice at-start.args.to (part at-start.args.from k at-start.args.s.now) at-start.args.s.now) e
