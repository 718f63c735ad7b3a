-- `ring::is_closer` meets its contract: the two differences decide, and where neither is less the tie. Assumes nothing.
use mathlib.Core.Path.{◌≡◌, sym, ◌∙◌}
use native.Mathlib.Omega.{arith}
use Prim.Native.Nat.{◌≤◌, ◌<◌}
use borrow.Author.Tests.{ltb-true, ltb-false}
use Rattle.key.specs.Number.{number}
use Rattle.key.specs.Around.{apart}
use Rattle.key.proofs.AroundLaws.{closer_less, closer-same, closer_more}
use Rattle.ring.proofs.is_closer.Goals.{Else-is_less-2}
use Rattle.ring.proofs.is_closer.Goals as goal

pub returns-then-is_less : goal.returns-then-is_less
returns-then-is_less c =
    let a = c.args in
    let h : number a.d < number a.e = ltb-true (number a.d) (number a.e) (sym c.is_less.ensures ∙ c.if-is_less.true) in
    sym (closer_less (number a.target) (number a.k) (number a.j) (omega arith))

pub returns-then-is_less-2 : goal.returns-then-is_less-2
returns-then-is_less-2 c =
    let a = c.args in
    let h : number a.e < number a.d = ltb-true (number a.e) (number a.d) (sym c.is_less-2.ensures ∙ c.if-is_less-2.true) in
    sym (closer_more (number a.target) (number a.k) (number a.j) (omega arith))

-- where neither is less, the keys are equally far
equally : (c : Else-is_less-2) → let a = c.args in
    apart (number a.target) (number a.k) ≡ apart (number a.target) (number a.j)
equally c =
    let m = c in
    let s = c in
    let a = s.args in
    let h : number a.e ≤ number a.d = ltb-false (number a.d) (number a.e) (sym m.is_less.ensures ∙ c.if-is_less.false) in
    let g : number a.d ≤ number a.e = ltb-false (number a.e) (number a.d) (sym c.is_less-2.ensures ∙ c.if-is_less-2.false) in
    let e : number a.d ≡ number a.e = omega arith in
    sym s.requires.d_value ∙ e ∙ s.requires.e_value

pub wins_tie-requires : goal.wins_tie-requires
wins_tie-requires c = equally (goal.at.wins_tie-requires c).Else-is_less-2

pub returns : goal.returns
returns c =
    let a = c.args in
    c.wins_tie.ensures ∙ sym (closer-same (number a.target) (number a.k) (number a.j) (equally (goal.at.returns c).Else-is_less-2))
