use mathlib.Core.Path.{refl, ◌∙◌}
use Prim.Native.Nat.{◌*◌}
use native.Mathlib.Omega.{arith}
use Rattle.octet.specs.Part.{part}
use Rattle.waiting.specs.Ticking.{spent}
use Rattle.waiting.proofs.TickLaws.{left-start, turn, end-count, end_list, end-cleared}
use Rattle.waiting.proofs.round.tick_places.Goals as goal

pub loop-at-init : goal.loop-at-init
loop-at-init c = left-start c.args.used c.args.table.now c.args.output.now

pub tick_place-kept-requires : goal.tick_place-kept-requires
tick_place-kept-requires c = (omega arith, omega arith, omega arith, omega arith)

pub loop-at-preserved : goal.loop-at-preserved
loop-at-preserved c =
    let l = c.loop-at in
    let a = c.args in
    rw (c.tick_place-kept.ensures.0, c.tick_place-kept.ensures.1, c.tick_place-kept.ensures.2)
    (turn a.used a.table.now a.output.now l.table l.output l.at l.kept l.invariant
    (omega arith) (omega arith) (omega arith) (omega arith) (spent (part (140 * l.at) 140 l.table)) refl)

pub shape_of-output : goal.shape_of-output
shape_of-output c = c.loop-at.invariant.room

pub returns : goal.returns
returns c =
    let l = c.loop-at in
    let a = c.args in (
      end-count a.used a.table.now a.output.now l.table l.output l.at l.kept l.invariant (omega arith),
      c.clear.ensures
          ∙ end-cleared a.used a.table.now a.output.now l.table l.output l.at l.kept l.invariant (omega arith) c.requires.3
          (omega arith) (omega arith),
      end_list a.used a.table.now a.output.now l.table l.output l.at l.kept l.invariant (omega arith),
    )
