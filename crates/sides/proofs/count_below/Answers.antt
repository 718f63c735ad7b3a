-- `sides::count_below` meets its contract: what is found of the opposite point says how many are above. Assumes nothing.
use mathlib.Core.Path.{◌≡◌}
use mathlib.Core.List.{List, map}
use Prim.Native.Nat.{ℕ, ◌+◌, ◌-◌, ◌*◌, ◌≤◌, ◌<◌}
use native.Mathlib.Omega.{arith}
use lib.ListN.{length, take, drop, get_or, length-take, length-drop}
use Rattle.octet.specs.Number.{Bytes}
use Rattle.key.specs.Number.{key_at}
use Rattle.key.specs.Around.{ring}
use Rattle.key.proofs.KeyLaws.{key-lt}
use Rattle.ring.proofs.HalfLaws.{byte_low, byte_high}
use Rattle.record.specs.Record.{key_of}
use Rattle.table.specs.Rows.{rows}
use Rattle.kept.specs.Keys.{Rising, plain}
use Rattle.kept.specs.Plain.{count_below}
use Rattle.kept.specs.Turned.{count_upto}
use Rattle.sides.proofs.SideLaws.{first-most, rises-over, rises-under, low_sum, high_sum}
use borrow.Author.Rules.{rules}
use Rattle.sides.proofs.count_below.Goals.{After-opposite-opposite, Start}
use Rattle.sides.proofs.count_below.Goals as goal

abbrev start : After-opposite-opposite → Start
start c = (goal.at.After-opposite-opposite c).Start

own_bytes : (c : After-opposite-opposite) → Bytes (start c).args.own.now
own_bytes c = λ i. omega (arith, c.type_inv.own i)

bytes : (c : After-opposite-opposite) → Bytes (start c).args.cache.now
bytes c = λ i. omega (arith, c.type_inv.cache i)

small : (c : After-opposite-opposite) → key_of (start c).args.own.now < ring
small c = key-lt 0 (start c).args.own.now (own_bytes c) (start c).requires.in_bounds.0

room : (s : Start) → 100 * s.args.used ≤ length s.args.cache.now
room s = s.requires.in_bounds.1

most : (c : After-opposite-opposite) → (start c).args.first ≤ (start c).args.used
most c =
    let s = start c in
    first-most (key_of s.args.own.now) s.args.used s.args.first s.args.cache.now (room s) s.requires.rising s.requires.every (small c) (bytes c) s.requires.first_value

abbrev own : After-opposite-opposite → ℕ
own c = key_of (start c).args.own.now

-- the keys from our own key's place on
abbrev over : After-opposite-opposite → List ℕ
over c =
    let a = (start c).args in
    map key_of (rows 100 (a.used - a.first) (take (length a.cache.now - 100 * a.first) (drop (100 * a.first) a.cache.now)))

-- what the two searches ask, and what they tell
module _ (c : After-opposite-opposite) where
  ask-over : Rising plain 0 (over c)
  ask-over =
      let a = (start c).args in
      rises-over (own c) a.used a.first a.cache.now (room (start c)) (start c).requires.rising (start c).requires.every (small c) (bytes c)
      (start c).requires.first_value

  ask-under : Rising plain 0 (map key_of (rows 100 (start c).args.first (start c).args.cache.now))
  ask-under =
      let a = (start c).args in
      rises-under (own c) a.used a.first a.cache.now (room (start c)) (start c).requires.rising (start c).requires.every (small c) (bytes c)
      (start c).requires.first_value

  low : (n : ℕ) → get_or (start c).args.own.now 0 0 < 128
      → n ≡ count_upto (key_at 0 c.opposite-opposite.result) (over c)
      → count_below (own c) (map key_of (rows 100 (start c).args.used (start c).args.cache.now)) + n ≡ (start c).args.used
  low n h e =
      let a = (start c).args in
      low_sum (own c) a.used a.first a.cache.now (room (start c)) (start c).requires.rising (start c).requires.every (small c) (bytes c)
      (start c).requires.first_value (key_at 0 c.opposite-opposite.result) n
      c.opposite-opposite.ensures (byte_low a.own.now (own_bytes c) (start c).requires.in_bounds.0 h) e

  high : (n : ℕ) → 128 ≤ get_or (start c).args.own.now 0 0
      → n ≡ count_upto (key_at 0 c.opposite-opposite.result) (map key_of (rows 100 (start c).args.first (start c).args.cache.now))
      → count_below (own c) (map key_of (rows 100 (start c).args.used (start c).args.cache.now)) + n ≡ (start c).args.first
  high n h e =
      let a = (start c).args in
      high_sum (own c) a.used a.first a.cache.now (room (start c)) (start c).requires.rising (start c).requires.every (small c) (bytes c)
      (start c).requires.first_value (key_at 0 c.opposite-opposite.result) n
      c.opposite-opposite.ensures (byte_high a.own.now (own_bytes c) (start c).requires.in_bounds.0 h) e

pub overflow_mul-start : goal.overflow_mul-start
overflow_mul-start c =
    let m = most (goal.at.overflow_mul-start c).After-opposite-opposite in omega (arith, room (start (goal.at.overflow_mul-start c).After-opposite-opposite))

pub slice_bounds-count_upto-count : goal.slice_bounds-count_upto-count
slice_bounds-count_upto-count c =
    let m = most (goal.at.slice_bounds-count_upto-count c).After-opposite-opposite in omega (arith, room (start (goal.at.slice_bounds-count_upto-count c).After-opposite-opposite))

pub slice_bounds-count_upto-start : goal.slice_bounds-count_upto-start
slice_bounds-count_upto-start c = let m = most (goal.at.slice_bounds-count_upto-start c).After-opposite-opposite in omega (arith, room (start (goal.at.slice_bounds-count_upto-start c).After-opposite-opposite))

pub overflow_sub-used : goal.overflow_sub-used
overflow_sub-used c = most (goal.at.overflow_sub-used c).After-opposite-opposite

pub count_upto-requires : goal.count_upto-requires
count_upto-requires c =
    let o = (goal.at.count_upto-requires c).After-opposite-opposite in
    let s = start o in record {
      used_in_bounds = omega (
        arith,
        most o,
        room s,
        length-take (length s.args.cache.now - 100 * s.args.first) (drop (100 * s.args.first) s.args.cache.now),
        length-drop (100 * s.args.first) s.args.cache.now,
      );
      in_bounds = search rules;
      rising = ask-over o;
    }

pub overflow_sub-result : goal.overflow_sub-result
overflow_sub-result c =
    let o = (goal.at.overflow_sub-result c).After-opposite-opposite in
    omega (arith, low o c.count_upto.result c.if-own-lt128.true c.count_upto.ensures)

pub returns-then-own-lt128 : goal.returns-then-own-lt128
returns-then-own-lt128 c =
    let o = (goal.at.returns-then-own-lt128 c).After-opposite-opposite in
    omega (arith, low o c.count_upto.result c.if-own-lt128.true c.count_upto.ensures)

pub count_upto-requires-2 : goal.count_upto-requires-2
count_upto-requires-2 c =
    let o = (goal.at.count_upto-requires-2 c).After-opposite-opposite in
    let s = start o in
    record { used_in_bounds = omega (arith, most o, room s); in_bounds = search rules; rising = ask-under o }

pub overflow_sub-result-2 : goal.overflow_sub-result-2
overflow_sub-result-2 c =
    let o = (goal.at.overflow_sub-result-2 c).After-opposite-opposite in
    omega (arith, high o c.count_upto-2.result (omega (arith, c.if-own-lt128.false)) c.count_upto-2.ensures)

pub returns : goal.returns
returns c =
    let o = (goal.at.returns c).After-opposite-opposite in
    omega (arith, high o c.count_upto-2.result (omega (arith, c.if-own-lt128.false)) c.count_upto-2.ensures)
