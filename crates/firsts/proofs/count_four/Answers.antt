-- `firsts::count_four` meets its contract: one record after the other. Assumes nothing.
use mathlib.Core.Path.{◌≡◌, ap, ◌∙◌}
use mathlib.Core.List.{List, map}
use Prim.Native.Nat.{ℕ, ◌+◌}
use native.Mathlib.Omega.{arith}
use Rattle.record.specs.Record.{key_of}
use Rattle.table.specs.Rows.{rows}
use Rattle.firsts.specs.Firsts.{firsts_of}
use Rattle.firsts.proofs.count_four.Goals.{Start}
use Rattle.firsts.proofs.count_four.Goals as goal

-- the counts of the first n records
abbrev counts : Start → ℕ → List ℕ
counts s n = firsts_of (map key_of (rows 100 n s.args.cache.now))

pub count_record-requires-3 : goal.count_record-requires-3
count_record-requires-3 c =
    let s = (goal.at.count_record-requires-3 c).Start in
    let e : s.args.i + 1 + 1 ≡ s.args.i + 2 = omega arith in
    (omega arith, omega arith, c.count_record-2.ensures ∙ ap (counts s) e)

pub count_record-requires-4 : goal.count_record-requires-4
count_record-requires-4 c =
    let s = (goal.at.count_record-requires-4 c).Start in
    let e : s.args.i + 2 + 1 ≡ s.args.i + 3 = omega arith in
    (omega arith, omega arith, c.count_record-3.ensures ∙ ap (counts s) e)

pub returns : goal.returns
returns c =
    let s = (goal.at.returns c).Start in
    let e : s.args.i + 3 + 1 ≡ s.args.i + 4 = omega arith in
    c.count_record-4.ensures ∙ ap (counts s) e
