-- `record::entry::put_record` meets its contract: the five pieces, put one after the other, are the record (put-pieces, record-in). Assumes nothing.
use Prim.Native.Nat.{ℕ, ◌+◌}
use native.Mathlib.Omega.{arith}
use mathlib.Core.List.{List, [], ◌∷◌}
use mathlib.Core.Path.{refl, sym, ap, ◌∙◌}
use lib.ListN.{replicate, length-replicate}
use Rattle.octet.specs.Part.{part, splice}
use Rattle.octet.proofs.PartLaws.{length_part}
use Rattle.record.proofs.PlaceLaws.{Entry-at, entry_at, record_in, put_pieces}
use Rattle.record.proofs.entry.put_record.Goals.{After-copy_block, After-copy_piece, After-copy_piece-2, After-copy_to, Start}
use Rattle.record.proofs.entry.put_record.Goals as goal

-- the first place, from behind each piece
abbrev first : After-copy_block → Start
first c = (goal.at.After-copy_block c).Start

abbrev second : After-copy_piece → Start
second c = first (goal.at.After-copy_piece c).After-copy_block

abbrev third : After-copy_to → Start
third c = second (goal.at.After-copy_to c).After-copy_piece

abbrev fourth : After-copy_piece-2 → Start
fourth c = third (goal.at.After-copy_piece-2 c).After-copy_to

-- the entry lies there whole
whole : (b : Start) → Entry-at b.args.start b.args.len b.args.d.now
whole b = entry_at b.args.start b.args.len b.args.d.now b.requires.len_in_bounds b.requires.d_value

pub copy_block-requires : goal.copy_block-requires
copy_block-requires c =
    let w = whole (goal.at.copy_block-requires c).Start in
    record { at_in_bounds = omega arith; from_in_bounds = omega (arith, w.long) }

pub copy_piece-requires : goal.copy_piece-requires
copy_piece-requires c =
    let w = whole (first (goal.at.copy_piece-requires c).After-copy_block) in
    record { n_in_bounds = omega arith; n_in_bounds_2 = omega (arith, w.least, w.long) }

pub copy_piece-requires-2 : goal.copy_piece-requires-2
copy_piece-requires-2 c =
    let w = whole (third (goal.at.copy_piece-requires-2 c).After-copy_to) in
    record { n_in_bounds = omega arith; n_in_bounds_2 = omega (arith, w.least, w.long) }

pub returns : goal.returns
returns c =
    let cleared = c in
    let addresses = c in
    let two = c in
    let port = c in
    let key = (goal.at.returns c).After-copy_block in
    let b = first key in
    let s = b.args.dst.now in
    let d = b.args.d.now in
    let at = b.args.at in
    let start = b.args.start in
    let w = whole b in
    let f = w.least in
    let l = w.long in
    let z = length-replicate {A = ℕ} 48 0 in
    rw (cleared.clear.ensures, addresses.copy_piece-2.ensures, two.copy_to.ensures, port.copy_piece.ensures, key.copy_block.ensures)
    (put_pieces at (part start 32 d) (part (start + 34) 2 d) (1 ∷ 0 ∷ []) (part (start + 38) 16 d)
    (replicate 48 0) s (length_part start 32 d (omega arith)) (length_part (start + 34) 2 d (omega arith)) refl
    (length_part (start + 38) 16 d (omega arith)) z (omega arith)
    ∙ ap (λ (r : List ℕ). splice at r s) (sym (record_in start b.args.len d b.requires.len_in_bounds b.requires.d_value)))
