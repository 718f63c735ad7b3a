-- `replay::stream::take_run` meets its contract. Assumes nothing.
use mathlib.Core.Path.{sym}
use native.Mathlib.Omega.{arith}
use lib.ListN.{take}
use lib.Seq.{length-take-le}
use Rattle.night.specs.Step.{night_in}
use Rattle.replay.proofs.RoomLaws.{run-part, run-begun, run-whole, none_begun, in-room, in-new-room, still_roomy, up_to, le_refl}
use Rattle.replay.proofs.stream.take_run.Goals as goal

pub copy_to-requires : goal.copy_to-requires
copy_to-requires c =
    in-room _ _ _ c.requires.in_bounds c.requires.run_bound

pub overflow_add-len : goal.overflow_add-len
overflow_add-len c = omega (arith, c.requires.run_bound)

pub wanted_of-requires : goal.wanted_of-requires
wanted_of-requires c =
    in-new-room _ _ _ c.requires.in_bounds c.requires.run_bound _ c.copy_to.auto.dst

pub shape_of-room-then-wanted_of-len : goal.shape_of-room-then-wanted_of-len
shape_of-room-then-wanted_of-len c = c.copy_to.auto.dst

pub returns-then-wanted_of-len : goal.returns-then-wanted_of-len
returns-then-wanted_of-len c =
    let a = c.args in
    let p = c.requires in record {
      over_after = run-part a.at (night_in a.state.now) a.room.now a.run.now a.begun (take a.end a.text.now)
          p.run_nonzero (in-room _ _ _ p.in_bounds p.run_bound) p.run_bound_2 _ c.copy_to.ensures _ c.wanted_of.ensures.value c.if-wanted_of-len.true;
      at_bound_2 = up_to _ 1;
      end_bound = up_to _ 42;
      begun = run-begun a.at (night_in a.state.now) a.room.now a.run.now a.begun (take a.end a.text.now)
          p.run_nonzero (in-room _ _ _ p.in_bounds p.run_bound) p.run_bound_2 _ c.copy_to.ensures _ c.wanted_of.ensures.value
          c.if-wanted_of-len.true p.in_bounds;
    }

pub slice_bounds-step-end : goal.slice_bounds-step-end
slice_bounds-step-end c =
    in-new-room _ _ _ c.requires.in_bounds c.requires.run_bound _ c.copy_to.auto.dst

pub slice_bounds-step-end-2 : goal.slice_bounds-step-end-2
slice_bounds-step-end-2 c =
    sym (length-take-le _ _ (in-new-room _ _ _ c.requires.in_bounds c.requires.run_bound _ c.copy_to.auto.dst))

pub put-put-requires : goal.put-put-requires
put-put-requires c = c.requires.end_in_bounds

pub overflow_add-result : goal.overflow_add-result
overflow_add-result c = omega (arith, c.requires.at_bound)

pub shape_of-state : goal.shape_of-state
shape_of-state c = c.step-answer.auto.state

pub shape_of-room : goal.shape_of-room
shape_of-room c = c.copy_to.auto.dst

pub shape_of-text : goal.shape_of-text
shape_of-text c = c.put-put.auto.out

pub returns : goal.returns
returns c =
    let a = c.args in
    let p = c.requires in record {
      over_after = run-whole a.at (night_in a.state.now) a.room.now a.run.now a.begun (take a.end a.text.now)
          p.run_nonzero (in-room _ _ _ p.in_bounds p.run_bound) p.run_bound_2 _ c.copy_to.ensures _ c.wanted_of.ensures.value c.if-wanted_of-len.false
          c.step-answer.result (night_in c.step-answer.new.state) c.is_end-over.result
          (take c.put-put.result c.put-put.new.out) c.step-answer.ensures c.put-put.ensures.out_after c.is_end-over.ensures;
      at_bound_2 = le_refl _;
      end_bound = c.put-put.ensures.upper_bound;
      begun = none_begun _ (still_roomy _ _ p.in_bounds c.copy_to.auto.dst);
    }
