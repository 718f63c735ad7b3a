-- `next_row::is_wanted` meets its contract: the record's place on the path first, then its key. Assumes nothing.
use mathlib.Core.Path.{◌≡◌, refl, sym, ap, ◌∙◌}
use Prim.Native.Nat.{ℕ}
use lib.Dec.{eqb}
use Rattle.octet.specs.Part.{part}
use Rattle.key.specs.Number.{number}
use Rattle.record.specs.Record.{key_of}
use Rattle.next_row.specs.Walk.{wanted}
use Rattle.cache.proofs.FormLaws.{key_of-row}
use Rattle.next_row.proofs.is_wanted.Goals as goal

pub returns-then-on_path : goal.returns-then-on_path
unfolding wanted
returns-then-on_path c = rw (sym c.on_path.ensures ∙ c.if-on_path.true) refl

pub returns-then-not-leave : goal.returns-then-not-leave
unfolding wanted
returns-then-not-leave c =
    rw (sym c.on_path.ensures ∙ c.if-on_path.false, c.if-not-leave.true) refl

pub returns : goal.returns
unfolding wanted
returns c =
    let off = sym c.on_path.ensures ∙ c.if-on_path.false in
    let is : eqb (key_of (part c.args.at 100 c.args.s.now)) (number c.args.k) ≡ c.is_same.result =
    ap (λ (n : ℕ). eqb n (number c.args.k)) (key_of-row c.args.at c.args.s.now ∙ sym c.key_at.ensures)
    ∙ sym c.is_same.ensures in
    rw (off, c.if-not-leave.false, is) refl
