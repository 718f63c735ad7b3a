-- `going::farther_of` meets its contract: the steps up to the one key against the steps down to the other. Assumes nothing.
use mathlib.Core.Path.{◌≡◌, sym, ap₂, ◌∙◌}
use mathlib.Core.List.{List, map}
use Prim.Native.Nat.{ℕ}
use native.Mathlib.Omega.{arith}
use lib.ListN.{get_or}
use Rattle.key.specs.Number.{number}
use Rattle.key.specs.Around.{up}
use Rattle.record.specs.Record.{key_of}
use Rattle.table.specs.Rows.{rows, insert_at}
use Rattle.going.proofs.GoingLaws.{under-farther, over-farther, lower-over, lower-under}
use Rattle.going.proofs.farther_of.Goals.{After-minus-down, Start}
use Rattle.going.proofs.farther_of.Goals as goal

abbrev start : After-minus-down → Start
start c = (goal.at.After-minus-down c).Start

abbrev own : After-minus-down → ℕ
own c = key_of (start c).args.own.now

abbrev keys : After-minus-down → List ℕ
keys c = let a = (start c).args in map key_of (insert_at a.at a.«record».now (rows 100 a.used a.cache.now))

-- the steps up to the one, and down to the other
ups : (c : After-minus-down) → number c.minus-up.result ≡ up (own c) (get_or (keys c) (start c).args.x 0)
ups c =
    let m = c in
    m.minus-up.ensures ∙ ap₂ up m.key_at-first.ensures m.key_there.ensures

downs : (c : After-minus-down) → number c.minus-down.result ≡ up (get_or (keys c) (start c).args.y 0) (own c)
downs c = c.minus-down.ensures ∙ ap₂ up c.key_there-2.ensures c.key_at-first.ensures

pub returns-then-is_less : goal.returns-then-is_less
returns-then-is_less c =
    let l = c in
    let m = (goal.at.returns-then-is_less c).After-minus-down in
    let a = (start m).args in
    under-farther (own m) (keys m) a.x a.y (ups m) (downs m) (sym l.is_less.ensures ∙ c.if-is_less.true)

pub returns-then-is_less-2 : goal.returns-then-is_less-2
returns-then-is_less-2 c =
    let l = c in
    let i1 = c in
    let m = (goal.at.returns-then-is_less-2 c).After-minus-down in
    let a = (start m).args in
    over-farther (own m) (keys m) a.x a.y (ups m) (downs m) (sym i1.is_less.ensures ∙ i1.if-is_less.false)
    (sym l.is_less-2.ensures ∙ c.if-is_less-2.true)

pub returns-then-x-y : goal.returns-then-x-y
returns-then-x-y c =
    let i2 = c in
    let l = c in
    let i1 = c in
    let m = (goal.at.returns-then-x-y c).After-minus-down in
    let a = (start m).args in
    lower-over (own m) (keys m) a.x a.y (ups m) (downs m) (sym i1.is_less.ensures ∙ i1.if-is_less.false)
    (sym l.is_less-2.ensures ∙ i2.if-is_less-2.false)
    c.if-x-y.true

pub returns : goal.returns
returns c =
    let i2 = c in
    let l = c in
    let i1 = c in
    let m = (goal.at.returns c).After-minus-down in
    let a = (start m).args in
    lower-under (own m) (keys m) a.x a.y (ups m) (downs m) (sym i1.is_less.ensures ∙ i1.if-is_less.false)
    (sym l.is_less-2.ensures ∙ i2.if-is_less-2.false)
    (omega (arith, c.if-x-y.false))
