-- `cache::calls::search_key` meets its contract: each test that fails is the first row that applies; where none does, what the search tells.
-- Assumes nothing.
use mathlib.Core.Path.{◌≡◌, sym, ap, ◌∙◌}
use mathlib.Core.Bool.{not}
use mathlib.Core.List.{List, []}
use Prim.Native.Nat.{ℕ, ◌*◌, ◌≤◌}
use native.Mathlib.Omega.{arith}
use lib.Dec.{ltb, eqb}
use lib.ListN.{length}
use borrow.Author.Tests.{eq-eqb, ne_eqb}
use Rattle.key.specs.Number.{key_at}
use Rattle.refusal.proofs.CallLaws.{row_applies, row_passes, no_row}
use Rattle.own.specs.Own.{own_keys}
use Rattle.table.specs.Rows.{rows}
use Rattle.kept.proofs.TurnLaws.{among-le}
use Rattle.search.specs.Halving.{halvings}
use Rattle.search.proofs.SeekLaws.{keys_many, sought-held}
use Rattle.cache.specs.declared.calls.Searched.{Searched}
use Rattle.cache.specs.Form.{keys_of, Form}
use Rattle.cache.specs.Calls.{held_by}
use Rattle.cache.specs.Searching.{searched, place_among, search_call}
use Rattle.cache.proofs.FormLaws.{form_laid}
use Rattle.cache.proofs.LentLaws.{not_is, not_isn't, memory-form, memory-held, memory-passes, memory-refuses}
use Rattle.cache.proofs.SearchLaws.{told-held, told_none}
use Rattle.cache.proofs.calls.search_key.Goals.{After-memory, Else-key-ne32, Start}
use Rattle.cache.proofs.calls.search_key.Goals as goal

abbrev start : After-memory → Start
start m = (goal.at.After-memory m).Start

-- what a refusal hands back, and what is handed back where there is none, of the records held
abbrev refuse : ℕ → Searched
refuse n = searched n 0 0

abbrev told : Start → List (List ℕ) → Searched
told s held = searched 0 (place_among (key_at 0 s.args.key.now) (keys_of held)) (halvings (keys_of held) (key_at 0 s.args.key.now))

abbrev done : Start → Searched
done s = told s (held_by s.args.own.now s.args.cache.now)

pub returns-in_default : goal.returns-in_default
unfolding search_call
returns-in_default c =
    let m = (goal.at.returns-in_default c).After-memory in
    let s = start m in
    sym (memory-refuses s.args.own.now s.args.cache.now m.memory.ensures c.in_default.is refuse _ (done s))

pub returns-then-key-ne32 : goal.returns-then-key-ne32
unfolding search_call
returns-then-key-ne32 c =
    let found = c in
    let m = (goal.at.returns-then-key-ne32 c).After-memory in
    let s = start m in
    let n = length s.args.key.now in
    sym (memory-passes s.args.own.now s.args.cache.now m.memory.ensures found.in-Some.is refuse _ (done s)
    ∙ row_applies refuse 1 (not (eqb n 32)) [] (done s) (not_isn't (ne_eqb n 32 c.if-key-ne32.true)))

-- behind the tests
module _ (e : Else-key-ne32) where
  abbrev tested : After-memory
  tested = (goal.at.Else-key-ne32 e).After-memory

  abbrev used : ℕ
  used = e.in-Some.used

  abbrev own : List ℕ
  own = (start tested).args.own.now

  abbrev cache : List ℕ
  cache = (start tested).args.cache.now

  form : Form (own_keys own) cache (rows 100 used cache)
  form = memory-form own cache tested.memory.ensures e.in-Some.is

  room : 100 * used ≤ length cache
  room = (form_laid (own_keys own) used cache form).room

  accepted : search_call own cache (start tested).args.key.now ≡ told (start tested) (rows 100 used cache)
  unfolding search_call
  accepted =
      let s = start tested in
      let n = length s.args.key.now in
      let good = e.in-Some.is in
      memory-passes own cache tested.memory.ensures good refuse _ (done s)
      ∙ row_passes refuse 1 (not (eqb n 32)) [] (done s) (not_is (eq-eqb n 32 e.if-key-ne32.false))
      ∙ no_row refuse (done s)
      ∙ ap (told s) (memory-held own cache tested.memory.ensures good)

pub find_key-sought-requires : goal.find_key-sought-requires
find_key-sought-requires c = record { used_in_bounds = room (goal.at.find_key-sought-requires c).Else-key-ne32; in_bounds = omega (arith, c.if-key-ne32.false); rising = (form (goal.at.find_key-sought-requires c).Else-key-ne32).held.rising }

pub overflow_add-place : goal.overflow_add-place
overflow_add-place c =
    let e = (goal.at.overflow_add-place c).Else-key-ne32 in
    let ks = keys_of (rows 100 (used e) (cache e)) in
    omega (
      arith,
      (sought-held (key_at 0 (start (tested e)).args.key.now) ks c.find_key-sought.ensures c.in-Ok.is).1,
      among-le (λ (j : ℕ). ltb j (key_at 0 (start (tested e)).args.key.now)) ks,
      keys_many (used e) (cache e),
      room e,
      (form e).places.most,
    )

pub returns-in-Ok : goal.returns-in-Ok
returns-in-Ok c =
    let e = (goal.at.returns-in-Ok c).Else-key-ne32 in
    told-held (key_at 0 c.args.key.now) (keys_of (rows 100 (used e) c.args.cache.now)) c.find_key-sought.ensures c.in-Ok.is ∙ sym (accepted e)

pub returns-in-Err : goal.returns-in-Err
returns-in-Err c =
    let e = (goal.at.returns-in-Err c).Else-key-ne32 in
    told_none (key_at 0 c.args.key.now) (keys_of (rows 100 (used e) c.args.cache.now)) c.find_key-sought.ensures c.in-Err.is ∙ sym (accepted e)
