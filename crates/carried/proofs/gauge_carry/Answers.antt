-- `carried::gauge_carry` meets its contract. Assumes nothing.
use mathlib.Core.Path.{◌≡◌, ap, sym, subst, ◌∙◌}
use mathlib.Core.List.{List}
use Prim.Native.Nat.{ℕ, ◌≤◌}
use lib.ListN.{length}
use Rattle.std.specs.Prelude.{Option, Some, None, Err, IfNone, IfSome}
use Rattle.wire_fields.specs.Kinds.{authority_kinds}
use Rattle.wire_fields.specs.Reading.{fields_as}
use Rattle.wire_fields.specs.Refusals.{found_of}
use Rattle.wire_fields.proofs.RefusalLaws.{gated}
use Rattle.wire_read.specs.Answers.{read_in, incoming_of}
use Rattle.carried.specs.Whole.{whole_of}
use Rattle.carried.specs.Carry.{carry, carry_handed}
use Rattle.carried.specs.declared.Carry.{Carry}
use Rattle.carried.proofs.CarryLaws.{read-whole, whole_authority, carry-other, carry-authority}
use Rattle.carried.proofs.gauge_carry.Goals.{After-read_authority}
use Rattle.carried.proofs.gauge_carry.Goals as goal

-- where nothing stands against it, it is read as an AUTHORITY
abbrev Alone : List ℕ → ℕ → Type 0
Alone d major = (12 ≤ length d) × (read_in d major ≡ incoming_of d (gated 8 d (found_of 8 (fields_as 8 authority_kinds d))))

abbrev Stands : List ℕ → ℕ → ℕ → Type 0
Stands d major n = whole_of (read_in d major) ≡ Err n

whole-is : (c : After-read_authority) → (let a = c.args in whole_of (read_in a.authority.now a.major) ≡ c.read_authority.result)
whole-is c =
    let a = c.args in
    let alone : Alone a.authority.now a.major =
    subst (λ (o : Option ℕ). IfNone o (Alone a.authority.now a.major)) c.in_default.is c.other_number.ensures.none in
    read-whole _ _ _ alone.1 c.read_authority.ensures

pub put_reading-requires : goal.put_reading-requires
put_reading-requires c = whole_authority _ _ (whole-is (goal.at.put_reading-requires c).After-read_authority ∙ c.in-Ok.is)

pub returns-in-Some : goal.returns-in-Some
returns-in-Some c =
    let a = c.args in
    let stands = subst (λ (o : Option ℕ). IfSome o (Stands a.authority.now a.major)) c.in-Some.is c.other_number.ensures.some in
    ap (λ (g : Carry). carry_handed g c.args.output.now) c.unread.ensures ∙ carry-other _ _ _ _ _ stands

pub returns-in-Err : goal.returns-in-Err
returns-in-Err c = ap (λ (g : Carry). carry_handed g c.args.output.now) (c.unread-in-Err.ensures ∙ ap (λ (n : ℕ). carry n 0 0) c.from.ensures) ∙ carry-other _ _ _ _ _ (whole-is (goal.at.returns-in-Err c).After-read_authority ∙ c.in-Err.is)

pub returns-in-Ok : goal.returns-in-Ok
returns-in-Ok c = c.put_reading.ensures ∙ carry-authority _ _ _ _ _ (whole-is (goal.at.returns-in-Ok c).After-read_authority ∙ c.in-Ok.is)
