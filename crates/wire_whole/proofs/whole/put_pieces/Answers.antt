use Prim.Native.Nat.{◌≤◌, ◌<◌}
use native.Mathlib.Omega.{arith}
use mathlib.Core.List.{[]}
use mathlib.Core.Path.{◌≡◌, refl, sym, ◌∙◌}
use lib.ListN.{length, drop, drop_of_length-le}
use Rattle.wire_write.specs.Pieces.{lent_of, givens_of, kinds_of_rows, end_rows}
use Rattle.wire_write.proofs.PieceLaws.{no_row, no_piece_lem, step_in, step_room, step-short, step-put, step_end, end_rows_lem}
use Rattle.wire_write.proofs.WriteLaws.{put_all, put_all_lem}
use Rattle.wire_whole.proofs.whole.put_pieces.Goals as goal

pub loop-i-init : goal.loop-i-init
loop-i-init c = record { puts = refl; ends = refl; inside = c.requires.all_in }

pub put_piece-at-requires : goal.put_piece-at-requires
put_piece-at-requires c =
    let a = c.args in
    let i = c.loop-i.i in
    let at = c.loop-i.at in
    let v = c.loop-i.invariant in
    let l = lent_of a.spelled.now a.first.now a.second.now in
    let hr : i < length a.rows = omega (arith, c.requires.rows_len.0) in
    let hp : i < length a.ps = omega (arith, c.requires.rows_len.1) in
    let e : end_rows at (drop i a.rows) (drop i a.ps) ≤ length c.loop-i.out = omega (arith, v.ends, c.requires.ps_in_bounds) in record {
      piece_in = (step_in a.rows a.ps i no_row no_piece_lem hr hp l v.inside).0;
      len_in_bounds = step_room a.rows a.ps i no_row no_piece_lem hr hp at _ e;
      len_bound = step-short a.rows a.ps i no_row no_piece_lem hr hp at (end_rows at (drop i a.rows) (drop i a.ps)) (omega arith)
          (omega (arith, v.ends, c.requires.ps_bound));
    }

pub loop-i-preserved : goal.loop-i-preserved
loop-i-preserved c =
    let a = c.args in
    let i = c.loop-i.i in
    let at = c.loop-i.at in
    let v = c.loop-i.invariant in
    let l = lent_of a.spelled.now a.first.now a.second.now in
    let hr : i < length a.rows = omega (arith, c.requires.rows_len.0) in
    let hp : i < length a.ps = omega (arith, c.requires.rows_len.1) in
    let q = step_in a.rows a.ps i no_row no_piece_lem hr hp l v.inside in
    let r = c.put_piece-at.ensures in
    record {
      puts = rw (r.value, r.out_after) (sym (step-put a.rows a.ps i no_row no_piece_lem hr hp l q.0 _ at) ∙ v.puts);
      ends = rw r.value (sym (step_end a.rows a.ps i no_row no_piece_lem hr hp at) ∙ v.ends);
      inside = q.1;
    }

pub returns : goal.returns
returns c =
    let a = c.args in
    let v = c.loop-i.invariant in
    let i = c.loop-i.i in
    let l = lent_of a.spelled.now a.first.now a.second.now in
    let gs = givens_of l a.ps in
    let d : drop i a.rows ≡ [] = drop_of_length-le a.rows {i = i} (omega (arith, c.requires.rows_len.0)) in
    let e : c.loop-i.out ≡ put_all a.out.now 12 (kinds_of_rows a.rows) gs = rw d at v.puts in
    e ∙ put_all_lem (kinds_of_rows a.rows) a.out.now 12 gs (omega (arith, end_rows_lem l a.rows 12 a.ps c.requires.all_in, c.requires.ps_in_bounds))
