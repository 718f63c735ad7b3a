-- `waiting::round::move_place` meets its contract: a place that stands there already is as moved. Assumes nothing.
use mathlib.Core.Path.{sym, ap, ◌∙◌}
use Prim.Native.Nat.{ℕ, ◌*◌}
use native.Mathlib.Omega.{arith}
use Rattle.octet.specs.Part.{part, splice}
use Rattle.waiting.proofs.TickLaws.{place_stays}
use Rattle.waiting.proofs.round.move_place.Goals as goal

pub returns-then-kept-at : goal.returns-then-kept-at
returns-then-kept-at c =
    let s = c in
    let a = s.args in
    let t = a.table.now in
    sym (ap (λ (k : ℕ). splice (140 * k) (part (140 * a.at) 140 t) t) c.if-kept-at.true ∙ place_stays (140 * a.at) 140 t (omega (arith, s.requires)))

pub returns : goal.returns
returns c = c.move_down.ensures
