-- `reason::reason_by` meets its contract: each answer is its clause. Assumes nothing.
use mathlib.Core.Path.{◌≡◌, refl, sym, ap₂, ◌∙◌}
use lib.Dec.{eqb}
use Rattle.key.specs.Number.{number}
use Rattle.key.specs.Around.{apart}
use Rattle.reason.proofs.reason_by.Goals.{After-is_same-2}
use Rattle.reason.proofs.reason_by.Goals as goal

-- what the second comparison says, of how far the two are
says : (c : After-is_same-2)
    → (let a = c.args in
    eqb (apart (number a.target) (number a.next)) (apart (number a.target) (number a.k)) ≡ c.is_same-2.result)
says c = sym (c.is_same-2.ensures ∙ ap₂ eqb c.how_far-away.ensures c.how_far-far.ensures)

pub returns-then-alone : goal.returns-then-alone
returns-then-alone c = rw c.if-alone.true refl

pub returns-then-is_same : goal.returns-then-is_same
returns-then-is_same c = rw (c.if-alone.false, sym c.is_same.ensures ∙ c.if-is_same.true) refl

pub returns-then-is_same-2 : goal.returns-then-is_same-2
returns-then-is_same-2 c =
    rw (c.if-alone.false, sym c.is_same.ensures ∙ c.if-is_same.false, says (goal.at.returns-then-is_same-2 c).After-is_same-2 ∙ c.if-is_same-2.true) refl

pub returns : goal.returns
returns c =
    rw (c.if-alone.false, sym c.is_same.ensures ∙ c.if-is_same.false, says (goal.at.returns c).After-is_same-2 ∙ c.if-is_same-2.false) refl
