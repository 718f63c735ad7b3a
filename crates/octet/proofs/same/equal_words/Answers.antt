use mathlib.Core.Path.{◌≡◌, sym, ap, ap₂, ◌∙◌}
use mathlib.Core.Bool.{Bool, ◌&&◌}
use Prim.Native.Nat.{ℕ, ◌+◌, ◌-◌, ◌*◌}
use native.Mathlib.Omega.{arith}
use borrow.Author.Tests.{eq-eqb, ne_eqb}
use lib.Dec.{eqb}
use Rattle.octet.specs.Part.{part, same}
use Rattle.octet.proofs.TestLaws.{same_from_lem, same_turn}
use Rattle.octet.proofs.same.equal_words.Goals.{After-read_u64_le-y}
use Rattle.octet.proofs.same.equal_words.Goals as goal

-- whether the words after the two that were read are the same, and what those two and they say
abbrev rest : After-read_u64_le-y → Bool
rest c =
    let at-loop = c in
    let args = at-loop.args in
    same_from_lem (at-loop.loop-word.word + 1) args.n args.a args.b args.s.now args.t.now

turn : (c : After-read_u64_le-y) → let args = c.args in
    same (part args.a (8 * args.n) args.s.now) (part args.b (8 * args.n) args.t.now)
    ≡ eqb c.read_u64_le-x.result c.read_u64_le-y.result && rest c
turn c =
    let at-loop = c in
    let known2 = c in
    let known = c in
    let start = c in
    let args = start.args in
    at-loop.loop-word.invariant
    ∙ same_turn args.a args.b args.n args.s.now args.t.now
    (λ i. omega (arith, known.type_inv.s i)) (λ i. omega (arith, known2.type_inv.t i))
    start.requires.n_in_bounds start.requires.n_in_bounds_2 at-loop.loop-word.word (omega arith)
    ∙ ap₂ (λ (x y : ℕ). eqb x y && rest c) (sym c.read_u64_le-x.ensures) (sym c.read_u64_le-y.ensures)

pub loop-word-init : goal.loop-word-init
loop-word-init c =
    let args = c.args in
    let a : args.a ≡ args.a + 8 * 0 = omega arith in
    let b : args.b ≡ args.b + 8 * 0 = omega arith in
    let width : 8 * args.n ≡ 8 * args.n - 8 * 0 = omega arith in
    ap₂ (λ (p q : ℕ). same (part p (8 * args.n) args.s.now) (part q (8 * args.n) args.t.now)) a b
    ∙ ap (λ (w : ℕ). same (part (args.a + 8 * 0) w args.s.now) (part (args.b + 8 * 0) w args.t.now)) width

pub returns-then-x-y : goal.returns-then-x-y
returns-then-x-y c = sym (turn (goal.at.returns-then-x-y c).After-read_u64_le-y ∙ ap (λ (t : Bool). t && rest (goal.at.returns-then-x-y c).After-read_u64_le-y) (ne_eqb _ _ c.if-x-y.true))

pub loop-word-preserved : goal.loop-word-preserved
loop-word-preserved c = (turn (goal.at.loop-word-preserved c).After-read_u64_le-y ∙ ap (λ (t : Bool). t && rest (goal.at.loop-word-preserved c).After-read_u64_le-y) (eq-eqb _ _ c.if-x-y.false))

pub returns : goal.returns
unfolding same
returns c =
    let at-loop = c in
    let args = at-loop.args in
    let word = at-loop.loop-word.word in
    let e : 8 * args.n - 8 * word ≡ 0 = omega arith in
    sym (at-loop.loop-word.invariant ∙ ap (λ (w : ℕ). same (part (args.a + 8 * word) w args.s.now) (part (args.b + 8 * word) w args.t.now)) e)
