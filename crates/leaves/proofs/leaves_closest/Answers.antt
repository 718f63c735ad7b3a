-- `leaves::leaves_closest` meets its contract: the word of the record that is shown, 0 where none is. Assumes nothing.
use mathlib.Core.Path.{◌≡◌, refl, sym, ap, ◌∙◌, subst}
use mathlib.Core.List.{List, []}
use Prim.Native.Nat.{ℕ, ◌+◌, ◌-◌, ◌*◌, ◌/◌, ◌≤◌, ◌<◌}
use native.Mathlib.Omega.{arith}
use lib.ListN.{length, take, drop}
use borrow.Author.Rules.{rules}
use Rattle.std.specs.Prelude.{Result, Ok}
use Rattle.own.specs.Own.{own_records}
use Rattle.table.proofs.RowLaws.{rows-length}
use Rattle.neighbours.specs.declared.nearest.Spot.{Spot}
use Rattle.neighbours.specs.Calls.{Shown, shown_by, Inside, closest_call}
use Rattle.leaves.specs.Leaves.{word_or0}
use Rattle.leaves.proofs.leaves_closest.Goals.{After-closest_record-sighted, In-Ok-Held, In-Ok-Own, Start}
use Rattle.leaves.proofs.leaves_closest.Goals as goal

abbrev start : After-closest_record-sighted → Start
start c = (goal.at.After-closest_record-sighted c).Start

-- the bytes that an answer shows
shows : (c : After-closest_record-sighted) (n : Result Spot ℕ) → c.closest_record-sighted.result.nearest ≡ n
    → (shown_by (start c).args.own.now (start c).args.cache.now n).bytes
    ≡ (closest_call (start c).args.own.now (start c).args.cache.now [] (start c).args.target.now).bytes
shows c n e =
    let a = (start c).args in
    ap (λ (h : Shown). h.bytes) (ap (shown_by a.own.now a.cache.now) (sym e) ∙ c.closest_record-sighted.ensures.nearest_value)

no_word : word_or0 24 [] ≡ 0
unfolding word_or0
no_word = refl

-- the place lies within the own records, or within the cache
ours : (c : In-Ok-Own)
    → 100 * c.in-Ok-Own.i + 100 ≤ length (start (goal.at.In-Ok-Own c).After-closest_record-sighted).args.own.now
ours c =
    let r = (goal.at.In-Ok-Own c).After-closest_record-sighted in
    let own = (start r).args.own.now in
    let w : c.in-Ok-Own.i < length (own_records own) =
    subst (Inside own (start r).args.cache.now) (c.in-Ok-Own.is ∙ ap Ok (rw c.in-Ok-Own.is at c.in-Ok-Own.field-0-is)) r.closest_record-sighted.ensures.inside in
    omega (arith, w, rows-length 100 (length own / 100) own)

inside : (c : In-Ok-Held)
    → 100 * c.in-Ok-Held.i + 100 ≤ length (start (goal.at.In-Ok-Held c).After-closest_record-sighted).args.cache.now
inside c =
    let r = (goal.at.In-Ok-Held c).After-closest_record-sighted in
    (subst (Inside (start r).args.own.now (start r).args.cache.now) (c.in-Ok-Held.is ∙ ap Ok (rw c.in-Ok-Held.is at c.in-Ok-Held.field-0-is)) r.closest_record-sighted.ensures.inside).1

pub overflow_mul-at : goal.overflow_mul-at
overflow_mul-at c = omega (arith, ours (goal.at.overflow_mul-at c).In-Ok-Own)

pub overflow_add-at : goal.overflow_add-at
overflow_add-at c = omega (arith, ours (goal.at.overflow_add-at c).In-Ok-Own)

pub slice_bounds-leaves_u64-end : goal.slice_bounds-leaves_u64-end
slice_bounds-leaves_u64-end c = omega (arith, ours (goal.at.slice_bounds-leaves_u64-end c).In-Ok-Own)

pub overflow_mul-at-in-Ok-Held : goal.overflow_mul-at-in-Ok-Held
overflow_mul-at-in-Ok-Held c = omega (arith, inside (goal.at.overflow_mul-at-in-Ok-Held c).In-Ok-Held)

pub overflow_add-at-in-Ok-Held : goal.overflow_add-at-in-Ok-Held
overflow_add-at-in-Ok-Held c = omega (arith, inside (goal.at.overflow_add-at-in-Ok-Held c).In-Ok-Held)

pub slice_bounds-leaves_u64-end-in-Ok-Held : goal.slice_bounds-leaves_u64-end-in-Ok-Held
slice_bounds-leaves_u64-end-in-Ok-Held c = omega (arith, inside (goal.at.slice_bounds-leaves_u64-end-in-Ok-Held c).In-Ok-Held)

pub returns-in-Err : goal.returns-in-Err
returns-in-Err c = sym no_word ∙ ap (word_or0 24) (shows (goal.at.returns-in-Err c).After-closest_record-sighted _ c.in-Err.is)

-- 100 bytes from a place on
hundred : (i : ℕ) (s : List ℕ) → word_or0 24 (take (100 * i + 100 - 100 * i) (drop (100 * i) s)) ≡ word_or0 24 (take 100 (drop (100 * i) s))
hundred i s =
    let n : 100 * i + 100 - 100 * i ≡ 100 = omega arith in
    ap (λ (k : ℕ). word_or0 24 (take k (drop (100 * i) s))) n

pub returns-in-Ok-Own : goal.returns-in-Ok-Own
returns-in-Ok-Own c =
    let place = c in
    let found = (goal.at.returns-in-Ok-Own c).After-closest_record-sighted in
    c.leaves_u64.ensures ∙ hundred place.in-Ok-Own.i (start found).args.own.now
    ∙ ap (word_or0 24) (shows found _ (c.in-Ok-Own.is ∙ ap Ok (rw c.in-Ok-Own.is at c.in-Ok-Own.field-0-is)))

pub returns-in-Ok-Held : goal.returns-in-Ok-Held
returns-in-Ok-Held c =
    let place = c in
    let found = (goal.at.returns-in-Ok-Held c).After-closest_record-sighted in
    c.leaves_u64-in-Ok-Held.ensures ∙ hundred place.in-Ok-Held.i (start found).args.cache.now
    ∙ ap (word_or0 24) (shows found _ (c.in-Ok-Held.is ∙ ap Ok (rw c.in-Ok-Held.is at c.in-Ok-Held.field-0-is)))
