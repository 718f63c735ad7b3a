-- `wire_rows::pieces::lookup_bytes` meets its contract: the digits of the precision. Assumes nothing.
use mathlib.Core.Path.{refl}
use native.Mathlib.Nat.{div-one}
use Rattle.octet.specs.Number.{digits_be}
use Rattle.wire_rows.proofs.pieces.lookup_bytes.Goals as goal

pub returns : goal.returns
unfolding digits_be
returns c = rw (div-one c.args.precision) refl
