-- `wire_copy::flood` meets its contract: its rows and pieces are the definition's. Assumes nothing.
use Rattle.octet.specs.Number.{digits_be}
use mathlib.Core.Path.{refl, sym, ◌∙◌}
use Rattle.wire_copy.specs.Resent.{resent}
use Rattle.wire_write.proofs.WriteLaws.{wrote-6}
use mathlib.Core.Bool.{not-not, true, false, not}
use mathlib.Core.Path.{◌≡◌, ap}
use Rattle.wire_fields.specs.Kinds.{one_of}
use Rattle.wire_read.specs.Answers.{is_here}
use Rattle.wire_copy.proofs.flood.Goals as goal

pub returns-then-both_or_neither : goal.returns-then-both_or_neither
unfolding resent
returns-then-both_or_neither c =
    let b = not-not (one_of (is_here c.args.m.revoke) (is_here c.args.m.entry)) in
    let e : one_of (is_here c.args.m.revoke) (is_here c.args.m.entry) ≡ false =
    sym b ∙ ap not (sym (rw (c.piece_of-revoke.ensures, c.piece_of-entry.ensures) at
    c.both_or_neither.ensures) ∙ c.if-both_or_neither.true) in
    rw e (wrote-6 _ _ refl)

pub slice_bounds-write_rows-end : goal.slice_bounds-write_rows-end
unfolding digits_be
slice_bounds-write_rows-end c = rw c.spelled_bytes-spelled.ensures

pub write_rows-requires : goal.write_rows-requires
write_rows-requires c =
    (rw c.flood_rows-rows.ensures, refl)

pub returns : goal.returns
unfolding resent
returns c =
    let b = not-not (one_of (is_here c.args.m.revoke) (is_here c.args.m.entry)) in
    let e : one_of (is_here c.args.m.revoke) (is_here c.args.m.entry) ≡ true =
    sym b ∙ ap not (sym (rw (c.piece_of-revoke.ensures, c.piece_of-entry.ensures) at
    c.both_or_neither.ensures) ∙ c.if-both_or_neither.false) in
    rw e
    (rw (
      c.no_piece-none.ensures,
      c.piece_of-reached.ensures,
      c.piece_of-token.ensures,
      c.first_piece-validate.ensures,
      c.spelled_piece-controls.ensures,
      c.spelled_bytes-spelled.ensures,
      c.bit_of-low.ensures.value,
      c.piece_of-entry.ensures,
      c.piece_of-revoke.ensures,
      c.flood_rows-rows.ensures,
    ) at c.write_rows.ensures)
