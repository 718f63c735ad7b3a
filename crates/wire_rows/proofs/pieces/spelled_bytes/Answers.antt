-- `wire_rows::pieces::spelled_bytes` meets its contract: the digits of the two numbers. Assumes nothing.
use native.Mathlib.Nat.{div-one}
use Rattle.octet.specs.Number.{digits_be}
use Rattle.wire_rows.proofs.pieces.spelled_bytes.Goals as goal

pub returns : goal.returns
unfolding digits_be
returns c = rw (div-one c.args.acked, div-one c.args.size)
