use Prim.Native.Nat.{◌<◌}
use native.Mathlib.Omega.{arith}
use mathlib.Core.List.{[]}
use mathlib.Core.Path.{◌≡◌, sym, ◌∙◌}
use lib.ListN.{length, drop, drop_of_length-le}
use Rattle.wire_write.specs.Pieces.{lent_of}
use Rattle.wire_write.proofs.PieceLaws.{no_row, no_piece_lem, step_ok}
use Rattle.wire_write.proofs.check.pieces_ok.Goals as goal

pub returns-then-not-piece_ok : goal.returns-then-not-piece_ok
returns-then-not-piece_ok c =
    let a = c.args in
    let i = c.loop-i.i in
    let v = c.loop-i.invariant in
    let l = lent_of a.spelled.now a.first.now a.second.now in
    let hr : i < length a.rows = (let z = c.requires.0 in omega arith) in
    let hp : i < length a.ps = (let z = c.requires.1 in omega arith) in
    rw (sym v, step_ok a.rows a.ps i no_row no_piece_lem hr hp l, sym c.piece_ok.ensures ∙ c.if-not-piece_ok.true)

pub loop-i-preserved : goal.loop-i-preserved
loop-i-preserved c =
    let a = c.args in
    let i = c.loop-i.i in
    let v = c.loop-i.invariant in
    let l = lent_of a.spelled.now a.first.now a.second.now in
    let hr : i < length a.rows = (let z = c.requires.0 in omega arith) in
    let hp : i < length a.ps = (let z = c.requires.1 in omega arith) in
    let e = step_ok a.rows a.ps i no_row no_piece_lem hr hp l in
    let f = sym c.piece_ok.ensures ∙ c.if-not-piece_ok.false in
    rw f at (sym e) ∙ v

pub returns : goal.returns
returns c =
    let a = c.args in
    let v = c.loop-i.invariant in
    let i = c.loop-i.i in
    let d : drop i a.rows ≡ [] = drop_of_length-le a.rows {i = i} (let z = c.requires.0 in omega arith) in
    rw d at v
