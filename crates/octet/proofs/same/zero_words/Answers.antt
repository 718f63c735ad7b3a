use mathlib.Core.Path.{◌≡◌, sym, ap, ap₂, ◌∙◌}
use mathlib.Core.Bool.{Bool, ◌&&◌}
use Prim.Native.Nat.{ℕ, ◌+◌, ◌-◌, ◌*◌}
use native.Mathlib.Omega.{arith}
use borrow.Author.Tests.{eq-eqb, ne_eqb}
use lib.Dec.{eqb}
use Rattle.octet.specs.Part.{part, all_zero}
use Rattle.octet.proofs.TestLaws.{zero_turn}
use Rattle.octet.proofs.same.zero_words.Goals.{After-read_u64_le}
use Rattle.octet.proofs.same.zero_words.Goals as goal

-- whether the words after the one that was read are zero, and what that one and they say
abbrev rest : After-read_u64_le → Bool
rest c =
    let at-loop = c in
    let args = at-loop.args in
    let k = at-loop.loop-k.k in
    all_zero (part (args.at + 8 * (k + 1)) (8 * args.n - 8 * (k + 1)) args.s.now)

turn : (c : After-read_u64_le) → let args = c.args in
    all_zero (part args.at (8 * args.n) args.s.now) ≡ eqb c.read_u64_le.result 0 && rest c
turn c =
    let at-loop = c in
    let args = at-loop.args in
    at-loop.loop-k.invariant ∙ zero_turn args.at args.n at-loop.loop-k.k args.s.now (omega arith)
    ∙ ap (λ (x : ℕ). eqb x 0 && rest c) (sym c.read_u64_le.ensures)

pub loop-k-init : goal.loop-k-init
loop-k-init c =
    let at = c.args.at in
    let n = c.args.n in
    let place : at ≡ at + 8 * 0 = omega arith in
    let width : 8 * n ≡ 8 * n - 8 * 0 = omega arith in
    (ap₂ (λ (p w : ℕ). all_zero (part p w c.args.s.now)) place width)

pub returns-then-read_u64_le-ne0 : goal.returns-then-read_u64_le-ne0
returns-then-read_u64_le-ne0 c = sym (turn (goal.at.returns-then-read_u64_le-ne0 c).After-read_u64_le ∙ ap (λ (t : Bool). t && rest (goal.at.returns-then-read_u64_le-ne0 c).After-read_u64_le) (ne_eqb _ 0 c.if-read_u64_le-ne0.true))

pub loop-k-preserved : goal.loop-k-preserved
loop-k-preserved c = (turn (goal.at.loop-k-preserved c).After-read_u64_le ∙ ap (λ (t : Bool). t && rest (goal.at.loop-k-preserved c).After-read_u64_le) (eq-eqb _ 0 c.if-read_u64_le-ne0.false))

pub returns : goal.returns
unfolding all_zero
returns c =
    let args = c.args in
    let e : 8 * args.n - 8 * c.loop-k.k ≡ 0 = omega arith in
    sym (c.loop-k.invariant ∙ ap (λ (w : ℕ). all_zero (part (args.at + 8 * c.loop-k.k) w args.s.now)) e)
