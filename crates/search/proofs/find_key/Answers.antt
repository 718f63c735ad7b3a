use mathlib.Core.Path.{◌≡◌, sym, ◌∙◌}
use mathlib.Core.List.{List, map}
use Prim.Native.Nat.{ℕ, ◌+◌, ◌-◌, ◌*◌, ◌/◌, ◌<◌}
use native.Mathlib.Omega.{arith}
use lib.ListN.{length, get_or}
use Rattle.key.specs.Number.{key_at, order_of}
use Rattle.std.specs.declared.cmp.Ordering.{Ordering}
use Rattle.key.proofs.OrderLaws.{less_is, same-is, more_is}
use Rattle.record.specs.Record.{key_of}
use Rattle.table.specs.Rows.{rows}
use Rattle.search.proofs.HalvingLaws.{halvings_few}
use Rattle.search.proofs.SeekLaws.{key-among, keys_many, halved-all, halved-less, halved-more, halved-same, halved-end}
use Rattle.search.proofs.find_key.Goals.{After-order_of, At-loop-low, Start}
use Rattle.search.proofs.find_key.Goals as goal

-- a turn of the loop, and where it began
abbrev turn : After-order_of → At-loop-low
turn r = (goal.at.After-order_of r).At-loop-low

abbrev start : At-loop-low → Start
start l = (goal.at.At-loop-low l).Start

abbrev wanted : At-loop-low → ℕ
wanted l = key_at 0 (start l).args.key.now

abbrev keys : At-loop-low → List ℕ
keys l = map key_of (rows 100 (start l).args.used (start l).args.cache.now)

abbrev middle : At-loop-low → ℕ
middle l = l.loop-low.low + (l.loop-low.high - l.loop-low.low) / 2

-- how the key in the middle stands to the one that is looked for
told : (r : After-order_of) {o : Ordering} → r.order_of.result ≡ o
    → order_of (key_at (100 * middle (turn r)) (start (turn r)).args.cache.now) (wanted (turn r)) ≡ o
told r e = sym r.order_of.ensures ∙ e

many : (l : At-loop-low) → length (keys l) ≡ (start l).args.used
many l = keys_many (start l).args.used (start l).args.cache.now

-- the key in the middle, among the keys
here : (l : At-loop-low) → l.loop-low.low < l.loop-low.high
    → get_or (keys l) (middle l) 0 ≡ key_at (100 * middle l) (start l).args.cache.now
here l some = key-among (start l).args.used (start l).args.cache.now (middle l) (omega (arith, many l, l.loop-low.invariant.within))

pub loop-low-init : goal.loop-low-init
loop-low-init c =
    let s = c in
    let a = s.args in
    halved-all (key_at 0 a.key.now) (map key_of (rows 100 a.used a.cache.now)) s.requires.rising a.used
    (keys_many a.used a.cache.now)

pub overflow_add-middle : goal.overflow_add-middle
overflow_add-middle c = omega (arith, many (goal.at.overflow_add-middle c).At-loop-low)

pub overflow_add-compared : goal.overflow_add-compared
overflow_add-compared c = let l = (goal.at.overflow_add-compared c).At-loop-low in omega (arith, l.loop-low.invariant.counted, halvings_few (keys l) (wanted l), many l)

pub order_of-requires : goal.order_of-requires
order_of-requires c =
    let l = (goal.at.order_of-requires c).At-loop-low in
    let s = start l in
    record { i_in_bounds = omega (arith, s.requires.used_in_bounds, l.loop-low.invariant.within, many l); in_bounds = omega (arith, s.requires.in_bounds); first_value = l.read_u64-first.ensures }

pub overflow_add-low : goal.overflow_add-low
overflow_add-low c = omega (arith, many (turn (goal.at.overflow_add-low c).After-order_of))

-- below the key: so are all before it
pub loop-low-preserved-in-Less : goal.loop-low-preserved-in-Less
loop-low-preserved-in-Less c =
    let r = (goal.at.loop-low-preserved-in-Less c).After-order_of in
    let l = turn r in
    let a = (start l).args in
    let some : l.loop-low.low < l.loop-low.high = omega arith in
    halved-less (wanted l) (keys l) (start l).requires.rising l.loop-low.low l.loop-low.high l.loop-low.compared l.loop-low.invariant some
    (omega (arith, here l some, less_is (key_at (100 * middle l) a.cache.now) (wanted l) (told r c.in-Less.is)))

pub returns-in-Equal : goal.returns-in-Equal
returns-in-Equal c =
    let r = (goal.at.returns-in-Equal c).After-order_of in
    let l = turn r in
    let a = (start l).args in
    let some : l.loop-low.low < l.loop-low.high = omega arith in
    sym (halved-same (wanted l) (keys l) (start l).requires.rising l.loop-low.low l.loop-low.high l.loop-low.compared l.loop-low.invariant some
    (here l some ∙ same-is (key_at (100 * middle l) a.cache.now) (wanted l) (told r c.in-Equal.is)))

-- above the key: so are all after it
pub loop-low-preserved : goal.loop-low-preserved
loop-low-preserved c =
    let r = (goal.at.loop-low-preserved c).After-order_of in
    let l = turn r in
    let a = (start l).args in
    let some : l.loop-low.low < l.loop-low.high = omega arith in
    halved-more (wanted l) (keys l) (start l).requires.rising l.loop-low.low l.loop-low.high l.loop-low.compared l.loop-low.invariant some
    (omega (arith, here l some, more_is (key_at (100 * middle l) a.cache.now) (wanted l) (told r c.in-Greater.is)))

pub returns : goal.returns
returns c =
    let l = (goal.at.returns c).At-loop-low in
    sym (halved-end (wanted l) (keys l) (start l).requires.rising l.loop-low.low l.loop-low.high l.loop-low.compared l.loop-low.invariant (omega arith))
