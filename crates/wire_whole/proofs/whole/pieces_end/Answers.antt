use Prim.Native.Nat.{◌<◌, min}
use native.Mathlib.Omega.{arith}
use mathlib.Core.List.{[]}
use mathlib.Core.Path.{◌≡◌, ◌∙◌}
use lib.ListN.{length, drop, drop_of_length-le}
use Rattle.wire_write.specs.Pieces.{end_rows}
use Rattle.wire_write.proofs.PieceLaws.{no_row, no_piece_lem, step-cap}
use Rattle.wire_whole.proofs.whole.pieces_end.Goals as goal

pub loop-i-preserved : goal.loop-i-preserved
loop-i-preserved c =
    let a = c.args in
    let i = c.loop-i.i in
    let hr : i < length a.rows = omega (arith, c.requires.0) in
    let hp : i < length a.ps = omega (arith, c.requires.1) in (
      step-cap a.rows a.ps i no_row no_piece_lem hr hp c.loop-i.at _ c.piece_past-at.ensures ∙ c.loop-i.invariant.0,
      omega (arith, c.piece_past-at.ensures),
    )

pub returns : goal.returns
returns c =
    let a = c.args in
    let v = c.loop-i.invariant in
    let i = c.loop-i.i in
    let d : drop i a.rows ≡ [] = drop_of_length-le a.rows {i = i} (omega (arith, c.requires.0)) in
    let e : min 1233 c.loop-i.at ≡ min 1233 (end_rows 12 a.rows a.ps) = rw d at v.0 in
    omega (arith, v.1)
