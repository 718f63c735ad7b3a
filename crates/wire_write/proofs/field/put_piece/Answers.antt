-- `wire_write::field::put_piece` meets its contract, by the slice that the piece is in. Assumes nothing.
use borrow.Author.Tests.{not-true, not-false}
use mathlib.Core.Path.{sym}
use Rattle.octet.proofs.PartLaws.{splice_nil}
use Rattle.wire_write.specs.Pieces.{part_bytes, past_of}
use Rattle.wire_write.proofs.field.put_piece.Goals as goal

pub returns-then-not-p : goal.returns-then-not-p
unfolding part_bytes past_of
returns-then-not-p c =
    let a = c.args in
    let t = not-true a.p.there c.if-not-p.true in
    record { value = rw t; out_after = rw t (sym (splice_nil a.at a.out.now)) }

pub put_bytes-requires : goal.put_bytes-requires
unfolding past_of
put_bytes-requires c =
    let t = not-false c.args.p.there c.if-not-p.false in
    record { len_in_bounds = rw c.in-Spelled.is at (c.requires.piece_in t); len_bound = c.requires.len_bound t; len_in_bounds_2 = rw t at c.requires.len_in_bounds }

pub put_bytes-requires-in-First : goal.put_bytes-requires-in-First
unfolding past_of
put_bytes-requires-in-First c =
    let t = not-false c.args.p.there c.if-not-p.false in
    record { len_in_bounds = rw c.in-First.is at (c.requires.piece_in t); len_bound = c.requires.len_bound t; len_in_bounds_2 = rw t at c.requires.len_in_bounds }

pub put_bytes-requires-in-Second : goal.put_bytes-requires-in-Second
unfolding past_of
put_bytes-requires-in-Second c =
    let t = not-false c.args.p.there c.if-not-p.false in
    record { len_in_bounds = rw c.in-Second.is at (c.requires.piece_in t); len_bound = c.requires.len_bound t; len_in_bounds_2 = rw t at c.requires.len_in_bounds }

pub returns-in-Spelled : goal.returns-in-Spelled
unfolding part_bytes past_of
returns-in-Spelled c =
    let t = not-false c.args.p.there c.if-not-p.false in
    record { value = rw t c.put_bytes.ensures.value; out_after = rw (t, c.in-Spelled.is) c.put_bytes.ensures.out_after }

pub returns-in-First : goal.returns-in-First
unfolding part_bytes past_of
returns-in-First c =
    let t = not-false c.args.p.there c.if-not-p.false in
    record { value = rw t c.put_bytes-in-First.ensures.value; out_after = rw (t, c.in-First.is) c.put_bytes-in-First.ensures.out_after }

pub returns-in-Second : goal.returns-in-Second
unfolding part_bytes past_of
returns-in-Second c =
    let t = not-false c.args.p.there c.if-not-p.false in
    record { value = rw t c.put_bytes-in-Second.ensures.value; out_after = rw (t, c.in-Second.is) c.put_bytes-in-Second.ensures.out_after }
