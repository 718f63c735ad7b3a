-- `wire_whole::whole::put_where` meets its contract: where there is room, the header and the fields are the message (whole-put). Assumes nothing.
use native.Mathlib.Omega.{arith}
use Rattle.wire_write.specs.Pieces.{lent_of, givens_of, kinds_of_rows, made_by}
use Rattle.wire_write.proofs.PieceLaws.{end_rows_lem}
use Rattle.wire_write.proofs.WriteLaws.{end_least, ends-within, whole-put}
use Rattle.wire_whole.proofs.whole.put_where.Goals as goal

pub returns-then-not-room : goal.returns-then-not-room
returns-then-not-room c = rw (c.if-not-room.true)

pub put_header-requires : goal.put_header-requires
unfolding made_by
put_header-requires c =
    let a = c.args in
    let gs = givens_of (lent_of a.spelled.now a.first.now a.second.now) a.ps in
    let K = kinds_of_rows a.rows in
    let f = c.requires.out_value (c.if-not-room.false) in
    omega (arith, end_least K 12 gs, (ends-within K a.major a.minor a.kind a.id gs a.out.now f).0)

pub put_pieces-requires : goal.put_pieces-requires
unfolding made_by
put_pieces-requires c =
    let a = c.args in
    let gs = givens_of (lent_of a.spelled.now a.first.now a.second.now) a.ps in
    let K = kinds_of_rows a.rows in
    let f = c.requires.out_value (c.if-not-room.false) in
    let w = ends-within K a.major a.minor a.kind a.id gs a.out.now f in
    let y = end_rows_lem (lent_of a.spelled.now a.first.now a.second.now) a.rows 12 a.ps c.requires.all_in in
    record { rows_len = c.requires.rows_len; all_in = c.requires.all_in; ps_in_bounds = omega (arith, c.put_header.auto.out); ps_bound = omega arith }

pub returns : goal.returns
unfolding made_by
returns c =
    let a = c.args in
    let gs = givens_of (lent_of a.spelled.now a.first.now a.second.now) a.ps in
    let k = c.if-not-room.false in
    rw (k, c.put_pieces.ensures, c.put_header.ensures)
    (whole-put (kinds_of_rows a.rows) a.major a.minor a.kind a.id gs a.out.now (c.requires.out_value k))
