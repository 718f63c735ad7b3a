use Rattle.std.proofs.Common.{◌≡◌, ℕ, ◌+◌, ◌-◌, ◌*◌, sym, refl, ◌∙◌, ap₂, add-zero, arith}
use Rattle.std.specs.Ordering.{ordering_then}
use Rattle.octet.specs.Number.{value_be}
use Rattle.octet.specs.Part.{part}
use Rattle.key.specs.Number.{order_of}
use Rattle.key.proofs.OrderLaws.{order_by, order_same, then_differ, then_equal}
use Rattle.key.proofs.PlaceLaws.{order_from, order-words}
use Rattle.key.proofs.ordered.order_at.Goals.{After-read_u64-y}
use Rattle.key.proofs.ordered.order_at.Goals as goal

-- what the two words that were read say: they decide, or else the words after them
turn : (c : After-read_u64-y) → let args = c.args in
    order_of (value_be 256 (part args.a 32 args.s.now)) (value_be 256 (part args.b 32 args.t.now))
    ≡ ordering_then (order_of c.read_u64-x.result c.read_u64-y.result)
    (order_from (c.loop-k.k + 1) args.a args.b args.s.now args.t.now)
turn c =
    let at-loop = c in
    let known2 = c in
    let known = c in
    let start = c in
    let a = start.args.a in
    let b = start.args.b in
    let s = start.args.s.now in
    let t = start.args.t.now in
    let k = at-loop.loop-k.k in
    at-loop.loop-k.invariant
    ∙ order-words a b s t (λ i. omega (arith, known.type_inv.s i)) (λ i. omega (arith, known2.type_inv.t i))
    start.requires.a_in_bounds start.requires.b_in_bounds k (omega arith)
    ∙ ap₂ (λ (x y : ℕ). ordering_then (order_of x y) (order_from (k + 1) a b s t)) (sym c.read_u64-x.ensures) (sym c.read_u64-y.ensures)

pub loop-k-init : goal.loop-k-init
loop-k-init c = simp add-zero

pub returns-then-x-y : goal.returns-then-x-y
returns-then-x-y c =
    let x = c.read_u64-x.result in
    let y = c.read_u64-y.result in
    c.cmp.ensures ∙ order_by x y ∙ sym (turn (goal.at.returns-then-x-y c).After-read_u64-y ∙ then_differ x y _ c.if-x-y.true)

pub loop-k-preserved : goal.loop-k-preserved
loop-k-preserved c = turn (goal.at.loop-k-preserved c).After-read_u64-y ∙ then_equal _ _ _ (omega arith)

pub returns : goal.returns
unfolding value_be
returns c =
    let e : 32 - 8 * c.loop-k.k ≡ 0 = omega arith in
    sym (c.loop-k.invariant ∙ rw e (order_same {m = 0} {n = 0} refl))
