use mathlib.Core.Path.{◌≡◌, ap, ◌∙◌}
use mathlib.Core.List.{List}
use Prim.Native.Nat.{ℕ, ◌+◌, ◌*◌, ◌≤◌}
use native.Mathlib.Omega.{arith}
use lib.ListN.{length}
use Rattle.octet.specs.Part.{part, splice}
use Rattle.cut.specs.Cut.{converted}
use Rattle.cut.proofs.CutLaws.{Changed, converted-length, changed-none, changed-length, changed-next, changed-all}
use Rattle.cut.proofs.cut_records.Goals.{Start}
use Rattle.cut.proofs.cut_records.Goals as goal

-- the rows lie within
room : (s : Start) → 100 * s.args.held ≤ length s.args.cache.now
room s = s.requires.room

pub loop-i-init : goal.loop-i-init
loop-i-init c = (omega arith, changed-none 100 converted converted-length c.args.cache.now)

pub overflow_mul-i : goal.overflow_mul-i
overflow_mul-i c = omega (arith, room (goal.at.overflow_mul-i c).Start)

pub cut_record-requires : goal.cut_record-requires
cut_record-requires c = omega (arith, room (goal.at.cut_record-requires c).Start, c.loop-i.invariant.0)

pub loop-i-preserved : goal.loop-i-preserved
loop-i-preserved c =
    let called = c in
    let l = called.loop-i in
    let s = (goal.at.loop-i-preserved c).Start in
    let old = s.args.cache.now in
    let fits : 100 * l.i + 100 ≤ length old = omega (arith, room s) in
    let turn = called.cut_record.ensures
    ∙ ap (λ (t : List ℕ). splice (100 * l.i) (converted (part (100 * l.i) 100 t)) t) l.invariant.1
    ∙ changed-next 100 converted converted-length old l.i fits in
    (omega (arith, ap length turn, changed-length 100 converted converted-length old (l.i + 1) (omega arith)), turn)

pub shape_of-cache : goal.shape_of-cache
shape_of-cache c = c.loop-i.invariant.0

pub returns : goal.returns
returns c =
    let l = c.loop-i in
    let s = c in
    let all : l.i ≡ s.args.held = omega arith in
    l.invariant.1 ∙ ap (Changed 100 converted converted-length s.args.cache.now) all
    ∙ changed-all 100 converted converted-length s.args.cache.now s.args.held s.requires
