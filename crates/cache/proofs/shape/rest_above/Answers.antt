use mathlib.Core.Path.{◌≡◌, refl, sym, ap₂, ◌∙◌}
use Prim.Native.Nat.{ℕ, ◌+◌, ◌-◌, ◌*◌}
use native.Mathlib.Nat.{add-zero}
use native.Mathlib.Omega.{arith}
use Rattle.std.specs.Ordering.{ordering_then}
use Rattle.octet.specs.Number.{value_be}
use Rattle.octet.specs.Part.{part}
use Rattle.key.specs.Number.{key_at, order_of}
use Rattle.key.proofs.OrderLaws.{order_same, test_same, less_alike, then_differ, then_equal}
use Rattle.key.proofs.PlaceLaws.{order_from, order-words}
use Rattle.cache.proofs.shape.rest_above.Goals.{After-read_u64-y}
use Rattle.cache.proofs.shape.rest_above.Goals as goal

-- the first words are the same, so those after them decide
pub loop-word-init : goal.loop-word-init
loop-word-init c =
    let start = c in
    let s = start.args.cache.now in
    let b = 100 * (start.args.i - 1) in
    let a = 100 * start.args.i in
    let room = start.requires.i_nonzero.1 in
    let all : order_of (key_at b s) (key_at a s) ≡ order_from 0 b a s s = simp add-zero in
    let first : value_be 256 (part (b + 8 * 0) 8 s) ≡ value_be 256 (part (a + 8 * 0) 8 s) = simp add-zero start.requires.cache_value in
    all
    ∙ order-words b a s s (λ i. omega (arith, c.type_inv.cache i)) (λ i. omega (arith, c.type_inv.cache i))
    (omega (arith, room)) (omega (arith, room)) 0 (omega arith)
    ∙ then_equal _ _ _ first

-- what the two words that were read say: they decide, or else the words after them
turn : (c : After-read_u64-y) → let args = c.args in
    order_of (key_at (100 * (args.i - 1)) args.cache.now) (key_at (100 * args.i) args.cache.now)
    ≡ ordering_then (order_of c.read_u64-x.result c.read_u64-y.result)
    (order_from (c.loop-word.word + 1) (100 * (args.i - 1)) (100 * args.i) args.cache.now args.cache.now)
turn c =
    let at-loop = c in
    let known = c in
    let start = c in
    let s = start.args.cache.now in
    let b = 100 * (start.args.i - 1) in
    let a = 100 * start.args.i in
    let k = at-loop.loop-word.word in
    let room = start.requires.i_nonzero.1 in
    at-loop.loop-word.invariant
    ∙ order-words b a s s (λ i. omega (arith, known.type_inv.cache i)) (λ i. omega (arith, known.type_inv.cache i))
    (omega (arith, room)) (omega (arith, room)) k (omega arith)
    ∙ ap₂ (λ (x y : ℕ). ordering_then (order_of x y) (order_from (k + 1) b a s s))
    (sym c.read_u64-x.ensures) (sym c.read_u64-y.ensures)

-- words that differ stand as the keys do
pub returns-then-x-y : goal.returns-then-x-y
returns-then-x-y c =
    let args = c.args in
    let x = c.read_u64-x.result in
    let y = c.read_u64-y.result in
    sym (less_alike (key_at (100 * (args.i - 1)) args.cache.now) (key_at (100 * args.i) args.cache.now) x y
    (turn (goal.at.returns-then-x-y c).After-read_u64-y ∙ then_differ x y _ c.if-x-y.true))

pub loop-word-preserved : goal.loop-word-preserved
loop-word-preserved c =
    turn (goal.at.loop-word-preserved c).After-read_u64-y ∙ then_equal _ _ _ (omega arith)

-- no word differs: they are the same
pub returns : goal.returns
unfolding value_be
returns c =
    let args = c.args in
    let e : 32 - 8 * c.loop-word.word ≡ 0 = omega arith in
    sym (test_same (key_at (100 * (args.i - 1)) args.cache.now) (key_at (100 * args.i) args.cache.now)
    (c.loop-word.invariant ∙ rw e (order_same {m = 0} {n = 0} refl))).0
