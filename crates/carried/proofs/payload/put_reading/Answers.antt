-- `carried::payload::put_reading` meets its contract. Assumes nothing.
use mathlib.Core.Path.{sym, ◌∙◌}
use native.Mathlib.Omega.{arith}
use Rattle.carried.proofs.CarryLaws.{reading-fine, carried-refused, carried-read}
use Rattle.carried.proofs.payload.put_reading.Goals as goal

pub put_packed-requires : goal.put_packed-requires
put_packed-requires c =
    record { major_value = c.requires; measured_value = reading-fine _ _ _ _ _ (sym c.reading_of-made.ensures ∙ c.in-Ok.is) }

pub returns-in-Err : goal.returns-in-Err
returns-in-Err c =
    carried-refused _ _ (λ i. omega (arith, c.type_inv.d i)) _ c.requires _ _ _ _
    (sym c.reading_of-made.ensures ∙ c.in-Err.is) c.refused.ensures

pub returns-in-Ok : goal.returns-in-Ok
returns-in-Ok c =
    carried-read _ _ (λ i. omega (arith, c.type_inv.d i)) _ c.requires _ _ _ _
    (sym c.reading_of-made.ensures ∙ c.in-Ok.is)
    c.put_packed.ensures
