-- `convert::held::place_follows` meets its contract: each test decides a part of `follows`. Assumes nothing.
use mathlib.Core.Path.{◌≡◌, refl, sym, ap, ◌∙◌}
use mathlib.Core.Bool.{true, false, not}
use mathlib.Core.List.{List}
use Prim.Native.Nat.{ℕ, ◌*◌}
use lib.Dec.{leb}
use Rattle.octet.specs.Part.{part}
use Rattle.key.specs.Number.{key_at}
use Rattle.record.specs.Record.{key_of}
use Rattle.cache.specs.Form.{follows}
use Rattle.own.specs.Low.{low_at}
use Rattle.cache.proofs.FormLaws.{key_of-row}
use Rattle.convert.specs.Old.{old_record_form}
use Rattle.convert.proofs.held.place_follows.Goals.{Else-not-is_formed, Start}
use Rattle.convert.proofs.held.place_follows.Goals as goal

-- the place's bytes
abbrev row : Start → List ℕ
row s = part (100 * s.args.i) 100 s.args.cache.now

abbrev low : Start → ℕ
low s = low_at s.args.cache.now s.args.i

row-key : (s : Start) → key_of (row s) ≡ key_at (100 * s.args.i) s.args.cache.now
row-key s = key_of-row (100 * s.args.i) s.args.cache.now

pub returns-then-not-is_formed : goal.returns-then-not-is_formed
unfolding follows
returns-then-not-is_formed c =
    let s = (goal.at.returns-then-not-is_formed c).Start in
    let f : old_record_form (row s) ≡ false = sym c.is_formed.ensures ∙ c.if-not-is_formed.true in
    sym (rw f refl)

-- the record is in form
formed : (m : Else-not-is_formed) → old_record_form (part (100 * m.args.i) 100 m.args.cache.now) ≡ true
formed m = sym m.is_formed.ensures ∙ m.if-not-is_formed.false

pub returns-then-not-above_before : goal.returns-then-not-above_before
unfolding follows
returns-then-not-above_before c =
    let first = (goal.at.returns-then-not-above_before c).Else-not-is_formed in
    let s = (goal.at.returns-then-not-above_before c).Start in
    let l : leb (low s) (key_of (row s)) ≡ false = ap (leb (low s)) (row-key s) ∙ sym c.above_before.ensures
    ∙ c.if-not-above_before.true in
    sym (rw (formed first, l) refl)

pub returns : goal.returns
unfolding follows
returns c =
    let tested = c in
    let first = (goal.at.returns c).Else-not-is_formed in
    let s = (goal.at.returns c).Start in
    let l : leb (low s) (key_of (row s)) ≡ true = ap (leb (low s)) (row-key s) ∙ sym tested.above_before.ensures
    ∙ c.if-not-above_before.false in
    ap not c.is_own.ensures ∙ sym (rw (formed first, l, row-key s) refl)
