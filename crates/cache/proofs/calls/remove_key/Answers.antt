-- `cache::calls::remove_key` meets its contract: each test that fails is the first row that applies; where none does, the key is removed.
-- Assumes nothing.
use mathlib.Core.Path.{sym, ap, ◌∙◌}
use mathlib.Core.Bool.{not}
use mathlib.Core.List.{List, []}
use Prim.Native.Nat.{ℕ}
use lib.Dec.{eqb}
use Rattle.std.specs.Prelude.{Ok, Err}
use lib.ListN.{length}
use borrow.Author.Tests.{eq-eqb, ne_eqb}
use Rattle.key.specs.Number.{key_at}
use Rattle.table.specs.Rows.{bytes_of}
use Rattle.cache.specs.Bytes.{after_remove}
use Rattle.cache.specs.Calls.{Changed, cache_changed, remove_call, held_by}
use Rattle.refusal.proofs.CallLaws.{row_applies, row_passes, no_row}
use Rattle.cache.proofs.LentLaws.{not_is, not_isn't, memory-form, memory-held, memory-passes, memory-refuses}
use native.Mathlib.Omega.{arith}
use Rattle.cache.proofs.calls.remove_key.Goals.{Start}
use Rattle.cache.proofs.calls.remove_key.Goals as goal

-- what a refusal hands back, and what is handed back where there is none
abbrev refuse : Start → ℕ → Changed
refuse s n = cache_changed (Err n) s.args.cache.now

abbrev done : Start → Changed
done s =
    cache_changed (Ok tt)
    (bytes_of (length s.args.cache.now) (after_remove (key_at 0 s.args.key.now) (held_by s.args.own.now s.args.cache.now)))

pub returns-in_default : goal.returns-in_default
unfolding remove_call
returns-in_default c =
    let s = (goal.at.returns-in_default c).Start in
    sym (memory-refuses s.args.own.now s.args.cache.now c.memory.ensures c.in_default.is (refuse s) _ (done s))

pub returns-then-key-ne32 : goal.returns-then-key-ne32
unfolding remove_call
returns-then-key-ne32 c =
    let s = (goal.at.returns-then-key-ne32 c).Start in
    sym (memory-passes s.args.own.now s.args.cache.now c.memory.ensures c.in-Some.is (refuse s) _ (done s)
    ∙ row_applies (refuse s) 1 (not (eqb (length s.args.key.now) 32)) [] (done s) (not_isn't (ne_eqb (length s.args.key.now) 32
    c.if-key-ne32.true)))

pub remove-requires : goal.remove-requires
remove-requires c =
    let s = (goal.at.remove-requires c).Start in record { in_bounds = omega (arith, c.if-key-ne32.false); form = memory-form s.args.own.now s.args.cache.now c.memory.ensures c.in-Some.is }

pub returns : goal.returns
unfolding remove_call
returns c =
    let s = (goal.at.returns c).Start in
    let n = length s.args.cache.now in
    let held = memory-held s.args.own.now s.args.cache.now c.memory.ensures c.in-Some.is in
    ap (cache_changed (Ok tt)) (c.remove.ensures.cache_after ∙ ap (λ (l : List (List ℕ)). bytes_of n (after_remove (key_at 0 s.args.key.now) l))
    (sym held))
    ∙ sym (memory-passes s.args.own.now s.args.cache.now c.memory.ensures c.in-Some.is (refuse s) _ (done s)
    ∙ row_passes (refuse s) 1 (not (eqb (length s.args.key.now) 32)) [] (done s) (not_is (eq-eqb (length s.args.key.now) 32
    c.if-key-ne32.false))
    ∙ no_row (refuse s) (done s))
