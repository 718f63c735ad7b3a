-- `waiting::seek::is_inquiry` meets its contract: the key decides, or the kind. Assumes nothing.
use mathlib.Core.Path.{◌≡◌, refl, sym, ap, ◌∙◌}
use mathlib.Core.Bool.{Bool, true, false, ◌&&◌}
use Prim.Native.Nat.{◌+◌}
use lib.Dec.{eqb}
use lib.ListN.{get_or}
use Rattle.octet.proofs.TestLaws.{and_true}
use Rattle.key.specs.Number.{key_at}
use Rattle.waiting.proofs.WalkLaws.{inquiry-is}
use Rattle.waiting.proofs.seek.is_inquiry.Goals as goal

and_false : (b : Bool) → false ≡ b && false
and_false true = refl
and_false false = refl

pub returns-then-not-same_at : goal.returns-then-not-same_at
returns-then-not-same_at c =
    let s = c in
    let a = s.args in
    let kind = eqb (get_or a.table.now (a.from + 4) 0) 2 in
    sym (inquiry-is (key_at a.place a.key.now) a.from a.table.now c.same_at.ensures
    ∙ ap (λ (b : Bool). kind && b) (c.if-not-same_at.true) ∙ sym (and_false kind))

pub returns : goal.returns
returns c =
    let s = c in
    let a = s.args in
    let kind = eqb (get_or a.table.now (a.from + 4) 0) 2 in
    sym (inquiry-is (key_at a.place a.key.now) a.from a.table.now c.same_at.ensures
    ∙ ap (λ (b : Bool). kind && b) (c.if-not-same_at.false) ∙ and_true kind)
