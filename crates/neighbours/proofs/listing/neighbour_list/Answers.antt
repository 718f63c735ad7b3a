-- `neighbours::listing::neighbour_list` meets its contract: each test that fails is the first row that applies; where none does, the list is written.
-- Assumes nothing.
use mathlib.Core.Path.{◌≡◌, sym, ap, ap₂, ◌∙◌}
use mathlib.Core.Bool.{true, not}
use mathlib.Core.List.{List, [], ◌∷◌}
use Prim.Native.Nat.{ℕ}
use lib.Dec.{eqb, ltb}
use lib.ListN.{length}
use Rattle.std.specs.Prelude.{Ok, Err}
use borrow.Author.Tests.{eq-eqb, ne_eqb, lt-ltb, le-ltb}
use Rattle.refusal.specs.Table.{when, or_refuse}
use Rattle.refusal.proofs.CallLaws.{row_applies, row_passes, no_row}
use Rattle.key.specs.Number.{key_at}
use Rattle.own.specs.Own.{own_keys, is_own}
use Rattle.own.proofs.PlaceLaws.{own_in, not_this}
use Rattle.table.specs.Rows.{rows}
use Rattle.cache.specs.Form.{keys_of}
use Rattle.cache.specs.Calls.{held_by}
use Rattle.cache.proofs.FormLaws.{form_laid}
use Rattle.cache.proofs.LentLaws.{not_is, not_isn't, memory-form, memory-held, memory-passes, memory-refuses}
use Rattle.neighbours.specs.Listing.{after_list, counts_of}
use Rattle.neighbours.specs.Calls.{Written, list_written, list_call}
use Rattle.neighbours.specs.declared.listing.Counts.{Counts}
use native.Mathlib.Omega.{arith}
use Rattle.neighbours.proofs.listing.neighbour_list.Goals.{After-memory, Else-not-is_own, In-Some, Start}
use Rattle.neighbours.proofs.listing.neighbour_list.Goals as goal

abbrev start : After-memory → Start
start m = (goal.at.After-memory m).Start

-- what a refusal hands back, and what is handed back where there is none
abbrev refuse : Start → ℕ → Written
refuse s n = list_written (Err n) s.args.out.now

abbrev done : Start → Written
done s =
    list_written (Ok (counts_of (key_at 0 s.args.key.now) (held_by s.args.own.now s.args.cache.now)))
    (after_list (key_at 0 s.args.key.now) (held_by s.args.own.now s.args.cache.now) s.args.out.now)

pub returns-in_default : goal.returns-in_default
unfolding list_call
returns-in_default c =
    let m = (goal.at.returns-in_default c).After-memory in
    let s = start m in
    sym (memory-refuses s.args.own.now s.args.cache.now m.memory.ensures c.in_default.is (refuse s) _ (done s))

-- memory is in form: the key's rows are left
module _ (k : In-Some) where
  abbrev tested : After-memory
  tested = (goal.at.In-Some k).After-memory

  abbrev s : Start
  s = start tested

  abbrev own : List ℕ
  own = s.args.own.now

  abbrev key : List ℕ
  key = s.args.key.now

  abbrev out : List ℕ
  out = s.args.out.now

  abbrev cache : List ℕ
  cache = s.args.cache.now

  abbrev used : ℕ
  used = k.in-Some.used

  in_form : list_call own cache key out
      ≡ or_refuse (refuse s)
      (when 1 (not (eqb (length key) 32)) ∷ when 12 (not (is_own (own_keys own) (key_at 0 key))) ∷ when 15 (ltb (length out) 320) ∷ []) (done s)
  unfolding list_call
  in_form = memory-passes own cache tested.memory.ensures k.in-Some.is (refuse s) _ (done s)

  module _ (long : length key ≡ 32) where
    keyed : list_call own cache key out
        ≡ or_refuse (refuse s) (when 12 (not (is_own (own_keys own) (key_at 0 key))) ∷ when 15 (ltb (length out) 320) ∷ []) (done s)
    keyed = in_form ∙ row_passes (refuse s) 1 (not (eqb (length key) 32)) _ (done s) (not_is (eq-eqb (length key) 32 long))

    ours : is_own (own_keys own) (key_at 0 key) ≡ true → list_call own cache key out ≡ or_refuse (refuse s) (when 15 (ltb (length out) 320) ∷ []) (done s)
    ours e = keyed ∙ row_passes (refuse s) 12 (not (is_own (own_keys own) (key_at 0 key))) _ (done s) (not_is e)

pub returns-then-key-ne32 : goal.returns-then-key-ne32
returns-then-key-ne32 c =
    let k = (goal.at.returns-then-key-ne32 c).In-Some in
    sym (in_form k ∙ row_applies (refuse (s k)) 1 (not (eqb (length (key k)) 32)) _ (done (s k)) (not_isn't (ne_eqb (length (key k)) 32 c.if-key-ne32.true)))

pub returns-then-not-is_own : goal.returns-then-not-is_own
returns-then-not-is_own c =
    let k = (goal.at.returns-then-not-is_own c).In-Some in
    sym (keyed k c.if-key-ne32.false
    ∙ row_applies (refuse (s k)) 12 (not (is_own (own_keys (own k)) (key_at 0 (key k)))) _ (done (s k))
    (not_isn't (sym c.is_own.ensures ∙ c.if-not-is_own.true)))

-- the key is ours
own_key : (c : Else-not-is_own) → is_own (own_keys c.args.own.now) (key_at 0 c.args.key.now) ≡ true
own_key c = sym c.is_own.ensures ∙ c.if-not-is_own.false

pub returns-then-out-lt320 : goal.returns-then-out-lt320
returns-then-out-lt320 c =
    let e = (goal.at.returns-then-out-lt320 c).Else-not-is_own in
    let k = (goal.at.returns-then-out-lt320 c).In-Some in
    sym (ours k e.if-key-ne32.false (own_key e)
    ∙ row_applies (refuse (s k)) 15 (ltb (length (out k)) 320) [] (done (s k)) (lt-ltb (length (out k)) 320 c.if-out-lt320.true))

pub neighbours-requires : goal.neighbours-requires
neighbours-requires c =
    let e = (goal.at.neighbours-requires c).Else-not-is_own in
    let k = (goal.at.neighbours-requires c).In-Some in
    let f = memory-form (own k) (cache k) (tested k).memory.ensures k.in-Some.is in record {
      in_bounds = (omega (arith, e.if-key-ne32.false), c.if-out-lt320.false, (form_laid (own_keys (own k)) (used k) (cache k) f).room);
      rising = f.held.rising;
      every = not_this (own_keys (own k)) (key_at 0 (key k)) (keys_of (rows 100 (used k) (cache k))) (own_in (own_keys (own k)) (key_at 0 (key k)) (own_key e))
          f.held.others;
    }

pub returns : goal.returns
returns c =
    let n = c in
    let at_room = c in
    let e = (goal.at.returns c).Else-not-is_own in
    let k = (goal.at.returns c).In-Some in
    let held = memory-held (own k) (cache k) (tested k).memory.ensures k.in-Some.is in
    ap₂ (λ (m : Counts) (l : List ℕ). list_written (Ok m) l)
    (n.neighbours.ensures.value ∙ ap (counts_of (key_at 0 (key k))) (sym held))
    (n.neighbours.ensures.out_after ∙ ap (λ (l : List (List ℕ)). after_list (key_at 0 (key k)) l (out k)) (sym held))
    ∙ sym (ours k e.if-key-ne32.false (own_key e)
    ∙ row_passes (refuse (s k)) 15 (ltb (length (out k)) 320) [] (done (s k)) (le-ltb (length (out k)) 320 at_room.if-out-lt320.false)
    ∙ no_row (refuse (s k)) (done (s k)))
