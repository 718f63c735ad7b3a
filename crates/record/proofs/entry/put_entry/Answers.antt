-- `record::entry::put_entry` meets its contract: the five pieces, put one after the other, are the entry (put_four, entry_in). Assumes nothing.
use Prim.Native.Nat.{ℕ, ◌+◌, ◌*◌, ◌≤◌}
use native.Mathlib.Omega.{arith}
use mathlib.Core.List.{List, [], ◌∷◌, ◌++◌}
use mathlib.Core.Path.{refl, sym, ap}
use lib.ListN.{get_or, length-append}
use Rattle.octet.specs.Part.{part, splice}
use Rattle.octet.proofs.PartLaws.{length_part, splice_next}
use Rattle.record.proofs.PlaceLaws.{record_at_lem, entry_in_lem, put_four}
use Rattle.record.proofs.entry.put_entry.Goals.{After-copy_block, After-copy_piece, After-copy_to, After-copy_to-2, Start}
use Rattle.record.proofs.entry.put_entry.Goals as goal

-- the first place, from behind each piece
abbrev first : After-copy_block → Start
first c = (goal.at.After-copy_block c).Start

abbrev second : After-copy_to → Start
second c = first (goal.at.After-copy_to c).After-copy_block

abbrev third : After-copy_piece → Start
third c = second (goal.at.After-copy_piece c).After-copy_to

abbrev fourth : After-copy_to-2 → Start
fourth c = third (goal.at.After-copy_to-2 c).After-copy_piece

-- the record has one to four addresses
abbrev count : Start → ℕ
count b = get_or b.args.s.now (b.args.start + 34) 0

whole : (b : Start) → (1 ≤ count b) × (count b ≤ 4)
whole b = record_at_lem b.args.start b.args.s.now b.requires.start_in_bounds b.requires.s_value

pub copy_piece-requires-2 : goal.copy_piece-requires-2
copy_piece-requires-2 c =
    let w = whole (fourth (goal.at.copy_piece-requires-2 c).After-copy_to-2) in
    record { n_in_bounds = omega arith; n_in_bounds_2 = omega (arith, w.1) }

pub returns : goal.returns
returns c =
    let addresses = c in
    let two = c in
    let port = c in
    let versions = c in
    let key = (goal.at.returns c).After-copy_block in
    let b = first key in
    let o = b.args.dst.now in
    let s = b.args.s.now in
    let at = b.args.at in
    let start = b.args.start in
    let w = whole b in
    let m = w.1 in
    let n = count b in
    let k = part start 32 s in
    let v : List ℕ = b.args.major ∷ b.args.minor ∷ [] in
    let p = part (start + 32) 2 s in
    let r : List ℕ = 0 ∷ n ∷ [] in
    let x = part (start + 36) (16 * n) s in
    let lk = length_part start 32 s (omega arith) in
    let lp = length_part (start + 32) 2 s (omega arith) in
    let lx = length_part (start + 36) (16 * n) s (omega arith) in
    let f = length-append k v in
    let g = length-append (k ++ v) p in
    let d = length-append (k ++ v ++ p) r in
    rw (
      addresses.copy_piece-2.ensures,
      two.copy_to-2.ensures,
      port.copy_piece.ensures,
      versions.copy_to.ensures,
      key.copy_block.ensures,
      put_four at 2 k v p r o lk refl lp refl (omega arith),
      splice_next at 38 (k ++ v ++ p ++ r) x o (omega arith) (omega arith),
    )
    (ap (λ (l : List ℕ). splice at l o) (sym (entry_in_lem b.args.major b.args.minor start s m)))
