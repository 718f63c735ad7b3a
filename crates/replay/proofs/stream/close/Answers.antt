-- `replay::stream::close` meets its contract. Assumes nothing.
use mathlib.Core.Path.{sym}
use native.Mathlib.Omega.{arith}
use lib.ListN.{take}
use lib.Seq.{length-take-le}
use Rattle.night.specs.Step.{night_in}
use Rattle.replay.proofs.RoomLaws.{close-over, close-none, close-some}
use Rattle.replay.proofs.stream.close.Goals as goal

pub returns-then-from : goal.returns-then-from
returns-then-from c =
    let a = c.args in
    record { state_after = close-over a.from.at (night_in a.state.now) a.from.over _ c.if-from.true; upper_bound = omega arith }

pub put_end-requires : goal.put_end-requires
put_end-requires c = c.requires.in_bounds

pub shape_of-text-then-begun-eq0 : goal.shape_of-text-then-begun-eq0
shape_of-text-then-begun-eq0 c = c.put_end.auto.out

pub returns-then-begun-eq0 : goal.returns-then-begun-eq0
returns-then-begun-eq0 c =
    let a = c.args in record {
      state_after = close-none a.from.at (night_in a.state.now) a.from.over a.room.now a.from.begun
          c.requires.begun_in_bounds c.if-from.false _ c.if-begun-eq0.true c.put_end.ensures.out_after;
      upper_bound = c.put_end.ensures.upper_bound;
    }

pub slice_bounds-step-end : goal.slice_bounds-step-end
slice_bounds-step-end c = sym (length-take-le _ _ c.requires.begun_in_bounds)

pub put-requires : goal.put-requires
put-requires c = c.requires.in_bounds

pub shape_of-state : goal.shape_of-state
shape_of-state c = c.step-answer.auto.state

pub shape_of-text : goal.shape_of-text
shape_of-text c = c.put.auto.out

pub returns : goal.returns
returns c =
    let a = c.args in record {
      state_after = close-some a.from.at (night_in a.state.now) a.from.over a.room.now a.from.begun
          c.requires.begun_in_bounds c.if-from.false (take c.put.result c.put.new.out)
          c.step-answer.result (night_in c.step-answer.new.state) c.if-begun-eq0.false c.step-answer.ensures c.put.ensures.out_after;
      upper_bound = c.put.ensures.upper_bound;
    }
