-- `convert::held::form` meets its contract: each test of the size refuses; then so many places are counted and the rest is zero or not. Assumes nothing.
use mathlib.Core.Path.{◌≡◌, refl, sym, ap, ◌∙◌}
use mathlib.Core.Bool.{Bool, true, false, cond}
use mathlib.Core.List.{List}
use Prim.Native.Nat.{ℕ, ◌-◌, ◌*◌, ◌/◌, ◌≤◌}
use lib.ListN.{length, take, drop, length-drop}
use lib.Seq.{take_all}
use Rattle.octet.specs.Part.{all_zero}
use Rattle.own.specs.Own.{own_keys}
use Rattle.own.proofs.FormLaws.{keys_many}
use Rattle.table.proofs.RowLaws.{rows-length}
use Rattle.std.specs.Prelude.{Some, None}
use Rattle.std.specs.Bool.{then_some}
use Rattle.convert.specs.Old.{old_held_in}
use Rattle.convert.proofs.HeldLaws.{held_most, not-whole, too_small, too_large, too_few, by-rest}
use native.Mathlib.Omega.{arith}
use Rattle.convert.proofs.held.form.Goals.{After-count, After-count_held-used}
use Rattle.convert.proofs.held.form.Goals as goal

-- no more are held than there are places
few : (c : After-count_held-used) → c.count_held-used.result ≤ length c.args.cache.now / 100
unfolding old_held_in
few c =
    let a = c.args in
    omega (arith, held_most (own_keys a.own.now) a.cache.now, c.count_held-used.ensures)

-- the part that is lent to the test
rest : (n : ℕ) (s : List ℕ) → take (length s - n) (drop n s) ≡ drop n s
rest n s = take_all (length s - n) (drop n s) (simp length-drop (omega arith))

-- how many own keys there are
keys : (c : After-count) → length (own_keys c.args.own.now) ≡ c.count.result
keys c =
    let own = c.args.own.now in
    keys_many own ∙ sym (rows-length 100 (length own / 100) own) ∙ sym c.count.ensures

pub returns-then-size-ne0 : goal.returns-then-size-ne0
returns-then-size-ne0 c = let a = c.args in sym (not-whole (own_keys a.own.now) a.cache.now c.if-size-ne0.true)

pub returns-then-size-lt1000 : goal.returns-then-size-lt1000
returns-then-size-lt1000 c =
    let a = c.args in
    sym (too_small (own_keys a.own.now) a.cache.now c.if-size-ne0.false c.if-size-lt1000.true)

pub returns-then-size-gt25600 : goal.returns-then-size-gt25600
returns-then-size-gt25600 c =
    let a = c.args in
    sym (too_large (own_keys a.own.now) a.cache.now c.if-size-ne0.false (omega arith) c.if-size-gt25600.true)

pub returns-then-size-count : goal.returns-then-size-count
returns-then-size-count c =
    let n = (goal.at.returns-then-size-count c).After-count in
    let a = c.args in
    sym (too_few (own_keys a.own.now) a.cache.now c.if-size-ne0.false (omega arith) (omega arith) (omega (arith, keys n, c.if-size-count.true)))

pub overflow_mul-end : goal.overflow_mul-end
overflow_mul-end c = omega (arith, few (goal.at.overflow_mul-end c).After-count_held-used)

pub slice_bounds-is_zero-count : goal.slice_bounds-is_zero-count
slice_bounds-is_zero-count c = omega (arith, few (goal.at.slice_bounds-is_zero-count c).After-count_held-used)

pub slice_bounds-is_zero-start : goal.slice_bounds-is_zero-start
slice_bounds-is_zero-start c = omega (arith, few (goal.at.slice_bounds-is_zero-start c).After-count_held-used)

-- by the test of the rest
pub returns : goal.returns
returns c =
    let n = (goal.at.returns c).After-count in
    let a = c.args in
    c.then_some.ensures ∙ some_by c.is_zero.result c.count_held-used.result
    ∙ sym (by-rest (own_keys a.own.now) a.cache.now c.if-size-ne0.false (omega arith) c.count_held-used.result c.is_zero.result (omega arith)
    (omega (arith, keys n, c.if-size-count.false)) c.count_held-used.ensures
    (c.is_zero.ensures ∙ ap all_zero (rest (100 * c.count_held-used.result) a.cache.now)))
  where
    some_by : (b : Bool) (n : ℕ) → then_some b n ≡ cond b (Some n) None
    some_by true n = refl
    some_by false n = refl
