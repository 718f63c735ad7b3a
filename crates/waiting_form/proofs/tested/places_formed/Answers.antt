use lib.Dec.{leb}
use mathlib.Core.Path.{◌≡◌, refl, sym, ap, ◌∙◌}
use mathlib.Core.Bool.{Bool, true, false, ◌&&◌, not}
use mathlib.Core.List.{List}
use Prim.Native.Nat.{ℕ, ◌+◌, ◌*◌, ◌-◌}
use native.Mathlib.Omega.{arith}
use lib.ListN.{take, drop, length-take, length-drop}
use borrow.Author.Tests.{le-leb, lt-leb}
use Rattle.record.specs.Record.{record_form}
use Rattle.own.specs.Own.{Own, own_keys}
use Rattle.table.specs.Rows.{rows}
use Rattle.waiting.specs.Form.{again, place_form, places_form}
use Rattle.waiting.proofs.PlaceLaws.{id-at}
use Rattle.waiting.proofs.WalkLaws.{place, later, tests, tests-are, form_not, form-on, form-end}
use Rattle.waiting_form.proofs.HeadLaws.{and_false}
use Rattle.waiting_form.proofs.tested.places_formed.Goals.{After-read_u32_le-id, At-loop-at, Else-id-low, Start}
use Rattle.waiting_form.proofs.tested.places_formed.Goals as goal

-- the tests of a turn are the place's, by what is known of them: whether it is in form, and whether its key comes again
module _ (c : After-read_u32_le-id) where
  abbrev at-loop : At-loop-at
  at-loop = (goal.at.After-read_u32_le-id c).At-loop-at

  abbrev from : Start
  from = (goal.at.At-loop-at at-loop).Start

  abbrev used : ℕ
  used = from.args.used

  abbrev table : List ℕ
  table = from.args.table.now

  abbrev own : Own
  own = own_keys from.args.own.now

  abbrev turn : Bool
  turn = tests used table at-loop.loop-at.at record_form own at-loop.loop-at.low

  abbrev comesAgain : Bool
  comesAgain = again (place used table at-loop.loop-at.at) (later used table at-loop.loop-at.at)

  abbrev isFormed : Bool
  isFormed = place_form own (take ((140 * at-loop.loop-at.at + 140) - 140 * at-loop.loop-at.at) (drop (140 * at-loop.loop-at.at) table))

  turned : (f a : Bool) → f ≡ isFormed → a ≡ comesAgain → turn ≡ (f && leb at-loop.loop-at.low c.read_u32_le-id.result && not a)
  turned f a e g = tests-are used table at-loop.loop-at.at record_form own at-loop.loop-at.low e c.read_u32_le-id.ensures g

  -- a turn whose tests fail
  fails : turn ≡ false → false ≡ places_form own 0 (rows 140 used table)
  fails e =
      let l = at-loop.loop-at in
      sym (l.invariant.1 ∙ form_not used table l.at record_form own l.low (omega arith) e)

pub loop-at-init : goal.loop-at-init
loop-at-init c = (omega arith, refl)

pub returns-then-id-low : goal.returns-then-id-low
returns-then-id-low c =
    let p = (goal.at.returns-then-id-low c).After-read_u32_le-id in
    fails p
    (turned p (isFormed p) (comesAgain p) refl refl ∙ ap (λ (t : Bool). isFormed p && t && not (comesAgain p)) (lt-leb _ _ c.if-id-low.true)
    ∙ ap (λ (t : Bool). t && not (comesAgain p)) (and_false (isFormed p)))

pub place_formed-requires : goal.place_formed-requires
place_formed-requires c = simp (length-take, length-drop) (omega arith)

pub returns-then-not-place_formed : goal.returns-then-not-place_formed
returns-then-not-place_formed c =
    let p = (goal.at.returns-then-not-place_formed c).After-read_u32_le-id in
    fails p (turned p false _ (sym (c.if-not-place_formed.true) ∙ c.place_formed.ensures) refl)

pub key_again-requires : goal.key_again-requires
key_again-requires c = (omega arith, omega arith)

pub returns-then-key_again : goal.returns-then-key_again
returns-then-key_again c =
    let p = (goal.at.returns-then-key_again c).After-read_u32_le-id in
    let place = sym c.if-not-place_formed.false ∙ c.place_formed.ensures in
    fails p
    (turned p true true place (sym c.if-key_again.true ∙ c.key_again.ensures)
    ∙ ap (λ (t : Bool). t && false) (le-leb _ _ c.if-id-low.false))

pub loop-at-preserved : goal.loop-at-preserved
loop-at-preserved c =
    let p = (goal.at.loop-at-preserved c).After-read_u32_le-id in
    let a = p.args in
    let l = p.loop-at in
    let own = own_keys a.own.now in
    let id = id-at (140 * l.at) a.table.now ∙ sym p.read_u32_le-id.ensures in
    let place = sym (c.if-not-place_formed.false) ∙ c.place_formed.ensures in
    let passes =
    turned p true false place (sym c.if-key_again.false ∙ c.key_again.ensures) ∙ ap (λ (t : Bool). t && true) (le-leb _ _ c.if-id-low.false) in (
      omega arith,
      l.invariant.1 ∙ form-on a.used a.table.now l.at record_form own l.low (omega arith) passes
          ∙ ap (λ (n : ℕ). places_form own (n + 1) (drop (l.at + 1) (rows 140 a.used a.table.now))) id,
    )

pub returns : goal.returns
returns c =
    let a = c.args in
    let l = c.loop-at in
    sym (l.invariant.1 ∙ form-end a.used a.table.now l.at record_form (own_keys a.own.now) l.low (omega arith))
