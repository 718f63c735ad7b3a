-- `cache::calls::learn_record` meets its contract: each test that fails is the first row that applies; where none does, the record is learned.
-- Assumes nothing.
use mathlib.Core.Path.{sym, ap, ◌∙◌}
use mathlib.Core.Bool.{not}
use mathlib.Core.List.{List, []}
use Prim.Native.Nat.{ℕ}
use Rattle.std.specs.Prelude.{Ok, Err}
use lib.ListN.{length}
use Rattle.record.specs.Record.{key_of, record_form}
use Rattle.own.specs.Own.{own_keys, is_own}
use Rattle.own.proofs.PlaceLaws.{not_own}
use Rattle.record.proofs.EntryLaws.{form_length}
use Rattle.table.specs.Rows.{bytes_of}
use Rattle.cache.specs.Bytes.{after_learn}
use Rattle.cache.specs.Calls.{Changed, cache_changed, learn_call, held_by}
use Rattle.refusal.proofs.CallLaws.{row_applies, row_passes, no_row}
use Rattle.cache.proofs.LentLaws.{not_is, not_isn't, memory-own, memory-form, memory-held, memory-passes, memory-refuses}
use native.Mathlib.Omega.{arith}
use Rattle.cache.proofs.calls.learn_record.Goals.{Start}
use Rattle.cache.proofs.calls.learn_record.Goals as goal

-- what a refusal hands back, and what is handed back where there is none
abbrev refuse : Start → ℕ → Changed
refuse s n = cache_changed (Err n) s.args.cache.now

abbrev done : Start → Changed
done s =
    let n = length s.args.cache.now in
    cache_changed (Ok tt) (bytes_of n (after_learn (own_keys s.args.own.now) n (held_by s.args.own.now s.args.cache.now) s.args.«record».now))

pub returns-in_default : goal.returns-in_default
unfolding learn_call
returns-in_default c =
    let s = (goal.at.returns-in_default c).Start in
    sym (memory-refuses s.args.own.now s.args.cache.now c.memory.ensures c.in_default.is (refuse s) _ (done s))

pub returns-then-not-is_record : goal.returns-then-not-is_record
unfolding learn_call
returns-then-not-is_record c =
    let s = (goal.at.returns-then-not-is_record c).Start in
    let wrong = not_isn't (sym c.is_record.ensures ∙ c.if-not-is_record.true) in
    sym (memory-passes s.args.own.now s.args.cache.now c.memory.ensures c.in-Some.is (refuse s) _ (done s)
    ∙ row_applies (refuse s) 1 (not (record_form s.args.«record».now)) _ (done s) wrong)

pub is_own-requires : goal.is_own-requires
is_own-requires c =
    let s = (goal.at.is_own-requires c).Start in
    let long = form_length s.args.«record».now (sym c.is_record.ensures ∙ c.if-not-is_record.false) in
    omega (arith, long)

pub returns-then-is_own : goal.returns-then-is_own
unfolding learn_call
returns-then-is_own c =
    let s = (goal.at.returns-then-is_own c).Start in
    sym (memory-passes s.args.own.now s.args.cache.now c.memory.ensures c.in-Some.is (refuse s) _ (done s)
    ∙ row_passes (refuse s) 1 (not (record_form s.args.«record».now)) _ (done s) (not_is (sym c.is_record.ensures ∙ c.if-not-is_record.false))
    ∙ row_applies (refuse s) 1 (is_own (own_keys s.args.own.now) (key_of s.args.«record».now)) [] (done s) (sym c.is_own.ensures
    ∙ c.if-is_own.true))

pub learn-requires : goal.learn-requires
learn-requires c =
    let s = (goal.at.learn-requires c).Start in record {
      own_value = (
        memory-own s.args.own.now s.args.cache.now c.memory.ensures c.in-Some.is,
        sym c.is_record.ensures
            ∙ c.if-not-is_record.false,
      );
      form = memory-form s.args.own.now s.args.cache.now c.memory.ensures c.in-Some.is;
      not_own = not_own (own_keys s.args.own.now) (key_of s.args.«record».now)
          (sym c.is_own.ensures ∙ c.if-is_own.false);
    }

pub returns : goal.returns
unfolding learn_call
returns c =
    let s = (goal.at.returns c).Start in
    let n = length s.args.cache.now in
    let held = memory-held s.args.own.now s.args.cache.now c.memory.ensures c.in-Some.is in
    ap (cache_changed (Ok tt)) (c.learn.ensures.cache_after ∙ ap (λ (l : List (List ℕ)). bytes_of n (after_learn (own_keys s.args.own.now) n l
    s.args.«record».now)) (sym held))
    ∙ sym (memory-passes s.args.own.now s.args.cache.now c.memory.ensures c.in-Some.is (refuse s) _ (done s)
    ∙ row_passes (refuse s) 1 (not (record_form s.args.«record».now)) _ (done s) (not_is (sym c.is_record.ensures ∙ c.if-not-is_record.false))
    ∙ row_passes (refuse s) 1 (is_own (own_keys s.args.own.now) (key_of s.args.«record».now)) [] (done s) (sym c.is_own.ensures
    ∙ c.if-is_own.false)
    ∙ no_row (refuse s) (done s))
