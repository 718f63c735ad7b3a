use mathlib.Core.Path.{◌≡◌, ap, ◌∙◌}
use mathlib.Core.List.{List}
use Prim.Native.Nat.{ℕ, ◌+◌, ◌*◌, ◌≤◌}
use native.Mathlib.Omega.{arith}
use lib.ListN.{length}
use Rattle.octet.specs.Part.{part, splice}
use Rattle.cut.specs.Cut.{converted_place}
use Rattle.cut.proofs.CutLaws.{Changed, place_length, changed-none, changed-length, changed-next, changed-all}
use Rattle.cut.proofs.cut_places.Goals.{Start}
use Rattle.cut.proofs.cut_places.Goals as goal

-- the rows lie within
room : (s : Start) → 140 * s.args.used ≤ length s.args.table.now
room s = s.requires.room

pub loop-i-init : goal.loop-i-init
loop-i-init c = (omega arith, changed-none 140 converted_place place_length c.args.table.now)

pub overflow_mul-i : goal.overflow_mul-i
overflow_mul-i c = omega (arith, room (goal.at.overflow_mul-i c).Start)

pub cut_place-requires : goal.cut_place-requires
cut_place-requires c = omega (arith, room (goal.at.cut_place-requires c).Start, c.loop-i.invariant.0)

pub loop-i-preserved : goal.loop-i-preserved
loop-i-preserved c =
    let called = c in
    let l = called.loop-i in
    let s = (goal.at.loop-i-preserved c).Start in
    let old = s.args.table.now in
    let fits : 140 * l.i + 140 ≤ length old = omega (arith, room s) in
    let turn = called.cut_place.ensures
    ∙ ap (λ (t : List ℕ). splice (140 * l.i) (converted_place (part (140 * l.i) 140 t)) t) l.invariant.1
    ∙ changed-next 140 converted_place place_length old l.i fits in
    (omega (arith, ap length turn, changed-length 140 converted_place place_length old (l.i + 1) (omega arith)), turn)

pub shape_of-table : goal.shape_of-table
shape_of-table c = c.loop-i.invariant.0

pub returns : goal.returns
returns c =
    let l = c.loop-i in
    let s = c in
    let all : l.i ≡ s.args.used = omega arith in
    l.invariant.1 ∙ ap (Changed 140 converted_place place_length s.args.table.now) all
    ∙ changed-all 140 converted_place place_length s.args.table.now s.args.used s.requires
