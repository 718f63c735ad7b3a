-- `going::key_there` meets its contract: before the newcomer, after it, its own. Assumes nothing.
use mathlib.Core.Path.{◌∙◌}
use native.Mathlib.Omega.{arith}
use Rattle.going.proofs.GoingLaws.{there-before, there-after, there-at}
use Rattle.going.proofs.key_there.Goals as goal

pub returns-then-x-at : goal.returns-then-x-at
returns-then-x-at c =
    let s = c in
    let a = s.args in
    c.key_at.ensures ∙ there-before a.used a.at a.cache.now a.«record».now s.requires.2 a.x c.if-x-at.true

pub returns-then-at-x : goal.returns-then-at-x
returns-then-at-x c =
    let s = c in
    let a = s.args in
    c.key_at-then-at-x.ensures ∙ there-after a.used a.at a.cache.now a.«record».now s.requires.2 a.x c.if-at-x.true s.requires.3

pub returns : goal.returns
returns c =
    let i2 = c in
    let s = c in
    let a = s.args in
    c.key_at-2.ensures
    ∙ there-at a.used a.at a.cache.now a.«record».now s.requires.2 a.x (omega (arith, i2.if-x-at.false, i2.if-at-x.false))
