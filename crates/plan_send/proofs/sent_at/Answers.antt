-- `plan_send::sent_at` meets its contract: the place of our key, or the one found. Assumes nothing.
use mathlib.Core.Path.{refl, sym, ◌∙◌}
use native.Mathlib.Omega.{arith}
use Rattle.key.specs.Number.{key_at}
use Rattle.own.specs.Own.{own_keys}
use Rattle.own.proofs.PlaceLaws.{own_in}
use Rattle.gauge_plan.proofs.FoundLaws.{place_is}
use Rattle.plan_send.proofs.sent_at.Goals as goal

pub place_of-requires : goal.place_of-requires
place_of-requires c =
    let s = c in
    record { at_in_bounds = omega (arith, s.requires.0); own = own_in (own_keys s.args.own.now) (key_at 0 s.args.key.now) (sym s.requires.1 ∙ c.if-ours.true) }

pub returns-then-ours : goal.returns-then-ours
returns-then-ours c = c.place_of.ensures.value ∙ rw c.if-ours.true refl

pub returns : goal.returns
returns c = c.unwrap_or.ensures ∙ place_is c.args.found ∙ rw c.if-ours.false refl
