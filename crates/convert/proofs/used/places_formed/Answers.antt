use lib.Dec.{leb}
use mathlib.Core.Path.{◌≡◌, refl, sym, ap, ◌∙◌}
use mathlib.Core.Bool.{◌&&◌, not}
use Prim.Native.Nat.{ℕ, ◌+◌, ◌*◌}
use native.Mathlib.Omega.{arith}
use lib.ListN.{drop, length-take, length-drop}
use Rattle.own.specs.Own.{own_keys}
use Rattle.table.specs.Rows.{rows}
use Rattle.waiting.specs.Form.{places_by}
use Rattle.waiting.proofs.PlaceLaws.{id-at}
use Rattle.waiting.proofs.WalkLaws.{tests, tests-are, form_not, form-on, form-end}
use Rattle.convert.specs.Old.{old_record_form}
use Rattle.convert.proofs.used.places_formed.Goals.{After-key_again-again, At-loop-at, Start}
use Rattle.convert.proofs.used.places_formed.Goals as goal

-- where the turn and the function began
abbrev at-loop : After-key_again-again → At-loop-at
at-loop c = (goal.at.After-key_again-again c).At-loop-at

abbrev from : After-key_again-again → Start
from c = (goal.at.After-key_again-again c).Start

-- the three tests of a turn are the place's
turned : (c : After-key_again-again)
    → tests (from c).args.used (from c).args.table.now (at-loop c).loop-at.at old_record_form (own_keys (from c).args.own.now) (at-loop c).loop-at.low
    ≡ (c.place_formed-formed.result && leb (at-loop c).loop-at.low c.read_u32_le-id.result && not c.key_again-again.result)
turned c =
    let a = c.args in
    let l = c.loop-at in
    let id = c.read_u32_le-id.ensures in
    tests-are a.used a.table.now l.at old_record_form (own_keys a.own.now) l.low c.place_formed-formed.ensures id c.key_again-again.ensures

pub loop-at-init : goal.loop-at-init
loop-at-init c = (omega arith, refl)

pub place_formed-formed-requires : goal.place_formed-formed-requires
place_formed-formed-requires c = simp (length-take, length-drop) (omega arith)

pub key_again-again-requires : goal.key_again-again-requires
key_again-again-requires c = (omega arith, omega arith)

pub returns-then-not-formed-low : goal.returns-then-not-formed-low
returns-then-not-formed-low c =
    let at-loop = c in
    let a = at-loop.args in
    let l = at-loop.loop-at in
    sym (l.invariant.1 ∙ form_not a.used a.table.now l.at old_record_form (own_keys a.own.now) l.low (omega arith)
    (turned (goal.at.returns-then-not-formed-low c).After-key_again-again ∙ c.if-not-formed-low.true))

pub loop-at-preserved : goal.loop-at-preserved
loop-at-preserved c =
    let a = c.args in
    let l = c.loop-at in
    let own = own_keys a.own.now in
    let id = id-at (140 * l.at) a.table.now ∙ sym c.read_u32_le-id.ensures in (
      omega arith,
      l.invariant.1 ∙ form-on a.used a.table.now l.at old_record_form own l.low (omega arith) (turned (goal.at.loop-at-preserved c).After-key_again-again ∙ c.if-not-formed-low.false)
          ∙ ap (λ (n : ℕ). places_by old_record_form own (n + 1) (drop (l.at + 1) (rows 140 a.used a.table.now))) id,
    )

pub returns : goal.returns
returns c =
    let a = c.args in
    let l = c.loop-at in
    sym (l.invariant.1 ∙ form-end a.used a.table.now l.at old_record_form (own_keys a.own.now) l.low (omega arith))
