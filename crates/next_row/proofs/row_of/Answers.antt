use mathlib.Core.Path.{◌≡◌, sym, subst, ◌∙◌}
use mathlib.Core.Bool.{Bool}
use mathlib.Core.List.{List}
use Prim.Native.Nat.{ℕ, ◌+◌}
use native.Mathlib.Omega.{arith}
use Rattle.key.specs.Number.{number}
use Rattle.next_row.specs.Walk.{wanted, row_at, place_among}
use Rattle.next_row.proofs.WalkLaws.{placeAt, place-starts, place-takes, place-leaves, place-ends}
use Rattle.next_row.proofs.row_of.Goals.{At-loop-i, Start, then-is_taken, else-is_taken}
use Rattle.next_row.proofs.row_of.Goals as goal

abbrev start : At-loop-i → Start
start c = (goal.at.At-loop-i c).Start

-- which records are looked for
abbrev test : Start → List ℕ → Bool
test s = wanted s.args.path.now s.args.leave (number s.args.k)

pub loop-i-init : goal.loop-i-init
loop-i-init c =
    let s = (goal.at.loop-i-init c).Start in
    let a = s.args in
    (omega arith, place-starts (number a.target) (test s) a.n a.s.now)

pub is_taken-requires : goal.is_taken-requires
is_taken-requires c =
    let l = (goal.at.is_taken-requires c).At-loop-i in
    let s = start l in
    (s.requires.0, l.loop-i.invariant.0, (omega arith), s.requires.1)

pub loop-i-preserved : goal.loop-i-preserved
loop-i-preserved c =
    let l = (goal.at.loop-i-preserved c).At-loop-i in
    let s = start l in
    let a = s.args in
    let t = number a.target in
    elim c.if-is_taken.branch [
      | then-is_taken w ↦ (
        omega arith,
        subst (λ (b : ℕ). place_among t (test s) a.n a.s.now ≡ placeAt t (test s) a.n a.s.now b (row_at a.n a.s.now b) (l.loop-i.i + 1))
            (sym w.best-is)
            (l.loop-i.invariant.1 ∙ place-takes t (test s) a.n a.s.now l.loop-i.best l.loop-i.i (omega arith)
            (sym c.is_taken.ensures ∙ w.if-is_taken.true)),
      )
      | else-is_taken w ↦ (
        omega arith,
        subst (λ (b : ℕ). place_among t (test s) a.n a.s.now ≡ placeAt t (test s) a.n a.s.now b (row_at a.n a.s.now b) (l.loop-i.i + 1))
            (sym w.best-is)
            (l.loop-i.invariant.1 ∙ place-leaves t (test s) a.n a.s.now l.loop-i.best l.loop-i.i (omega arith)
            (sym c.is_taken.ensures ∙ w.if-is_taken.false)),
      )
    ]

pub returns : goal.returns
returns c =
    let l = (goal.at.returns c).At-loop-i in
    let s = start l in
    let a = s.args in
    sym (l.loop-i.invariant.1
    ∙ place-ends (number a.target) (test s) a.n a.s.now l.loop-i.best (row_at a.n a.s.now l.loop-i.best) l.loop-i.i
    (omega arith))
