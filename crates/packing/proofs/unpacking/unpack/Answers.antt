-- `packing::unpacking::unpack` meets its contract: the tests that lead to each answer are those of `unpack_of`. Assumes nothing.
use mathlib.Core.Path.{◌≡◌, sym, ap, ◌∙◌}
use Prim.Native.Nat.{ℕ, ◌+◌, ◌≤◌}
use lib.ListN.{length}
use Rattle.readings.specs.Unpack.{told_in}
use Rattle.readings.proofs.UnpackLaws.{unpack-short, unpack-cut, unpack-depth, unpack-fault, unpack-unknown}
use borrow.Author.Rules.{rules}
use Rattle.packing.proofs.unpacking.unpack.Goals.{Else-s-told}
use Rattle.packing.proofs.unpacking.unpack.Goals as goal

-- behind the second test: as long as its length says, and long enough to have a kind
whole : (c : Else-s-told) → (let s = c.args.s.now in (length s ≡ 2 + told_in s) × (4 ≤ length s))
whole c = (c.if-s-told.false ∙ ap (λ (n : ℕ). 2 + n) (c.from-told.ensures ∙ c.read_u16_le.ensures), search rules)

pub returns-then-s-lt4 : goal.returns-then-s-lt4
returns-then-s-lt4 c = unpack-short _ c.if-s-lt4.true

pub returns-then-s-told : goal.returns-then-s-told
returns-then-s-told c = unpack-cut _ c.if-s-lt4.false (λ e. c.if-s-told.true (e ∙ ap (λ (n : ℕ). 2 + n) (sym (c.from-told.ensures ∙ c.read_u16_le.ensures))))

pub returns-then-kind-eq1 : goal.returns-then-kind-eq1
returns-then-kind-eq1 c =
    let w = whole (goal.at.returns-then-kind-eq1 c).Else-s-told in
    c.unpack_depth.ensures ∙ unpack-depth _ w.1 w.0 (sym c.read_u16_le-kind.ensures ∙ c.if-kind-eq1.true)

pub returns-then-kind-eq2 : goal.returns-then-kind-eq2
returns-then-kind-eq2 c =
    let w = whole (goal.at.returns-then-kind-eq2 c).Else-s-told in
    c.unpack_fault.ensures ∙ unpack-fault _ w.1 w.0 (sym c.read_u16_le-kind.ensures ∙ c.if-kind-eq2.true)

pub returns : goal.returns
returns c =
    let w = whole (goal.at.returns c).Else-s-told in
    let kind = c.read_u16_le-kind.ensures in
    unpack-unknown _ w.1 w.0 (λ e. c.if-kind-eq1.false (kind ∙ e)) (λ e. c.if-kind-eq2.false (kind ∙ e))
