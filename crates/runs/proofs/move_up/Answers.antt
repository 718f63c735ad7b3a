use mathlib.Core.Path.{◌≡◌, sym, ap, ap₂, ◌∙◌}
use mathlib.Core.List.{List}
use Prim.Native.Nat.{ℕ, ◌+◌, ◌-◌}
use native.Mathlib.Nat.{add-zero, sub_self, sub-zero}
use native.Mathlib.Omega.{arith}
use lib.ListN.{length, take, drop, length-take, length-drop}
use Rattle.octet.specs.Part.{part, splice}
use Rattle.octet.proofs.PartLaws.{splice_nil, length_part}
use Rattle.runs.proofs.LentLaws.{put_lent, part_lent}
use Rattle.runs.proofs.TurnLaws.{up_turn}
use Rattle.runs.proofs.move_up.Goals as goal

pub lift-requires : goal.lift-requires
lift-requires c =
    let a = c.args in
    let s = a.s.now in
    omega (arith, length-take (length s - a.from) (drop a.from s), length-drop a.from s)

pub returns-then-to-from-eq100 : goal.returns-then-to-from-eq100
returns-then-to-from-eq100 c =
    let start = c in
    let a = start.args in
    let s = a.s.now in
    let to : a.from + 100 ≡ a.to = omega arith in
    put_lent a.from 100 (part 0 a.n (take (length s - a.from) (drop a.from s))) s c.lift.new.s
    (omega (
      arith,
      length_part 0 a.n (take (length s - a.from) (drop a.from s))
          (omega (arith, length-take (length s - a.from) (drop a.from s), length-drop a.from s)),
    )) c.lift.ensures
    ∙ ap₂ (λ (p : ℕ) (l : List ℕ). splice p l s) to (part_lent a.from 0 a.n s (omega arith)
    ∙ ap (λ (p : ℕ). part p a.n s) (add-zero a.from))

pub lift-requires-then-to-from-eq140 : goal.lift-requires-then-to-from-eq140
lift-requires-then-to-from-eq140 c =
    let a = c.args in
    let s = a.s.now in
    omega (arith, length-take (length s - a.from) (drop a.from s), length-drop a.from s)

pub returns-then-to-from-eq140 : goal.returns-then-to-from-eq140
returns-then-to-from-eq140 c =
    let start = c in
    let a = start.args in
    let s = a.s.now in
    let to : a.from + 140 ≡ a.to = omega arith in
    put_lent a.from 140 (part 0 a.n (take (length s - a.from) (drop a.from s))) s c.lift-then-to-from-eq140.new.s
    (omega (
      arith,
      length_part 0 a.n (take (length s - a.from) (drop a.from s))
          (omega (arith, length-take (length s - a.from) (drop a.from s), length-drop a.from s)),
    )) c.lift-then-to-from-eq140.ensures
    ∙ ap₂ (λ (p : ℕ) (l : List ℕ). splice p l s) to (part_lent a.from 0 a.n s (omega arith)
    ∙ ap (λ (p : ℕ). part p a.n s) (add-zero a.from))

pub loop-i-init : goal.loop-i-init
loop-i-init c =
    let a = c.args in
    let s = a.s.now in
    let end = a.to + a.n in
    let none = ap (λ (k : ℕ). splice end (part (a.from + a.n) k s) s) (sub_self a.n) in
    (sym (none ∙ splice_nil end s))

pub loop-i-preserved : goal.loop-i-preserved
loop-i-preserved c =
    let at-loop = c in
    let at-start = c in
    up_turn at-start.args.from at-start.args.to at-start.args.n at-loop.loop-i.i (at-loop.loop-i.i - 1) at-start.args.s.now
    (omega arith) (omega arith) (omega arith) (omega arith) at-loop.loop-i.s at-loop.loop-i.invariant

pub returns : goal.returns
returns c =
    let at-start = c in
    let s = at-start.args.s.now in
    let e : c.loop-i.i ≡ 0 = omega arith in
    c.loop-i.invariant
    ∙ ap (λ (k : ℕ). splice (at-start.args.to + k) (part (at-start.args.from + k) (at-start.args.n - k) s) s) e
    ∙ simp (add-zero, sub-zero)
