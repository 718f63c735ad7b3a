-- `listed::is_listed` meets its contract: one run after the other. Assumes nothing.
use mathlib.Core.Path.{sym, ◌∙◌}
use Rattle.listed.proofs.ListedLaws.{in-a, none-b, in_b, none-c, in_c, none-d, in-d}
use Rattle.listed.proofs.is_listed.Goals as goal

pub in_run-requires : goal.in_run-requires
in_run-requires c = let p = c.requires in (p.0, p.1, p.2.0.0, p.2.0.1)

pub returns-then-in_run : goal.returns-then-in_run
returns-then-in_run c =
    let r1 = c in
    let a = r1.args in
    in-a a.total a.x a.runs (sym r1.in_run.ensures ∙ c.if-in_run.true)

pub returns-then-runs-lt2 : goal.returns-then-runs-lt2
returns-then-runs-lt2 c =
    let i1 = c in
    let r1 = c in
    let a = r1.args in
    none-b a.total a.x a.runs (sym r1.in_run.ensures ∙ i1.if-in_run.false) c.if-runs-lt2.true

pub in_run-requires-2 : goal.in_run-requires-2
in_run-requires-2 c = let p = c.requires in (p.0, p.1, p.2.1.0, p.2.1.1)

pub returns-then-in_run-2 : goal.returns-then-in_run-2
returns-then-in_run-2 c =
    let r2 = c in
    let i2 = c in
    let i1 = c in
    let r1 = c in
    let a = r1.args in
    in_b a.total a.x a.runs (sym r1.in_run.ensures ∙ i1.if-in_run.false) i2.if-runs-lt2.false (sym r2.in_run-2.ensures ∙ c.if-in_run-2.true)

pub returns-then-runs-lt3 : goal.returns-then-runs-lt3
returns-then-runs-lt3 c =
    let i3 = c in
    let r2 = c in
    let i2 = c in
    let i1 = c in
    let r1 = c in
    let a = r1.args in
    none-c a.total a.x a.runs (sym r1.in_run.ensures ∙ i1.if-in_run.false) (sym r2.in_run-2.ensures ∙ i3.if-in_run-2.false)
    i2.if-runs-lt2.false c.if-runs-lt3.true

pub in_run-requires-3 : goal.in_run-requires-3
in_run-requires-3 c =
    let p = c.requires in (p.0, p.1, p.2.2.0, p.2.2.1)

pub returns-then-in_run-3 : goal.returns-then-in_run-3
returns-then-in_run-3 c =
    let r3 = c in
    let i4 = c in
    let i3 = c in
    let r2 = c in
    let i1 = c in
    let r1 = c in
    let a = r1.args in
    in_c a.total a.x a.runs (sym r1.in_run.ensures ∙ i1.if-in_run.false) (sym r2.in_run-2.ensures ∙ i3.if-in_run-2.false) i4.if-runs-lt3.false
    (sym r3.in_run-3.ensures ∙ c.if-in_run-3.true)

pub returns-then-runs-lt4 : goal.returns-then-runs-lt4
returns-then-runs-lt4 c =
    let i5 = c in
    let r3 = c in
    let i4 = c in
    let i3 = c in
    let r2 = c in
    let i1 = c in
    let r1 = c in
    let a = r1.args in
    none-d a.total a.x a.runs (sym r1.in_run.ensures ∙ i1.if-in_run.false) (sym r2.in_run-2.ensures ∙ i3.if-in_run-2.false)
    (sym r3.in_run-3.ensures ∙ i5.if-in_run-3.false) i4.if-runs-lt3.false c.if-runs-lt4.true

pub in_run-requires-4 : goal.in_run-requires-4
in_run-requires-4 c =
    let i3 = c in
    let p = i3.requires in (p.0, p.1, p.2.3.0, p.2.3.1)

pub returns : goal.returns
returns c =
    let i6 = c in
    let i5 = c in
    let r3 = c in
    let i3 = c in
    let r2 = c in
    let i1 = c in
    let r1 = c in
    let a = r1.args in
    c.in_run-4.ensures
    ∙ in-d a.total a.x a.runs (sym r1.in_run.ensures ∙ i1.if-in_run.false) (sym r2.in_run-2.ensures ∙ i3.if-in_run-2.false)
    (sym r3.in_run-3.ensures ∙ i5.if-in_run-3.false) i6.if-runs-lt4.false
