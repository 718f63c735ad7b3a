-- `wire_whole::whole::write_rows` meets its contract: the tests in their order, then what was written by whether there was room (wrote_by).
-- Assumes nothing.
use Prim.Native.Nat.{min}
use mathlib.Core.Path.{sym, ap, ◌∙◌}
use Rattle.wire_write.specs.Pieces.{lent_of, givens_of, kinds_of_rows, made_by}
use Rattle.wire_write.proofs.PieceLaws.{rows_in, end_rows_lem}
use Rattle.wire_write.proofs.WriteLaws.{wrote-6, wrote_by, room-is, exact-end}
use Rattle.wire_whole.proofs.whole.write_rows.Goals as goal

pub returns-then-not-pieces_ok : goal.returns-then-not-pieces_ok
unfolding made_by
returns-then-not-pieces_ok c =
    wrote-6 _ _ (sym c.pieces_ok.ensures ∙ c.if-not-pieces_ok.true)

pub put_where-requires : goal.put_where-requires
unfolding made_by
put_where-requires c =
    let a = c.args in
    let l = lent_of a.spelled.now a.first.now a.second.now in
    let gs = givens_of l a.ps in
    let k = sym c.pieces_ok.ensures ∙ c.if-not-pieces_ok.false in
    let inside = rows_in l a.rows a.ps (c.requires.0 ∙ sym c.requires.1) k in
    let n = c.pieces_end-size.ensures ∙ ap (min 1233) (end_rows_lem l a.rows 12 a.ps inside) in
    let room = room-is (kinds_of_rows a.rows) a.major a.minor a.kind a.id gs a.out.now c.pieces_end-size.result n in
    record { rows_len = c.requires; all_in = inside; out_value = λ h. sym room ∙ sym c.has_room-room.ensures ∙ h }

pub returns : goal.returns
unfolding made_by
returns c =
    let a = c.args in
    let l = lent_of a.spelled.now a.first.now a.second.now in
    let gs = givens_of l a.ps in
    let K = kinds_of_rows a.rows in
    let k = sym c.pieces_ok.ensures ∙ c.if-not-pieces_ok.false in
    let n = c.pieces_end-size.ensures ∙ ap (min 1233) (end_rows_lem l a.rows 12 a.ps (rows_in l a.rows a.ps (c.requires.0 ∙ sym c.requires.1) k)) in
    let room = c.has_room-room.ensures ∙ room-is K a.major a.minor a.kind a.id gs a.out.now c.pieces_end-size.result n in
    rw c.written.ensures
    (wrote_by _ a.out.now _ c.pieces_end-size.result _
    k
    room
    (λ h. exact-end K a.major a.minor a.kind a.id gs a.out.now (sym room ∙ h) c.pieces_end-size.result n)
    c.put_where.ensures)
