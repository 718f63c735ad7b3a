-- `replay::stream::feed` meets its contract. Assumes nothing.
use mathlib.Core.Path.{◌≡◌, refl, ◌∙◌}
use Prim.Native.Nat.{◌+◌, ◌-◌, ◌*◌, ◌≤◌}
use native.Mathlib.Omega.{arith}
use lib.ListN.{length, take, drop}
use Rattle.night.specs.Step.{night_in}
use Rattle.replay.specs.Stream.{stream, after, fed}
use Rattle.replay.specs.Room.{Begun}
use Rattle.replay.proofs.RoomLaws.{piece-turn, piece-over, piece-end, Run, run_of_lem, run-asks, run-closer, run-lines, run-numbers, length_run, up_to, up_to_end, at_piece_end}
use Rattle.replay.proofs.stream.feed.Goals.{After-least}
use Rattle.replay.proofs.stream.feed.Goals as goal

-- a run has a byte at least, and as many as were asked
fit : (g : After-least)
    → (let l = g.loop-i in
    let a = g.args in
    Run l.i g.least.result (length a.piece.now) l.h.begun g.wanted_of-want.result)
fit g =
    let l = g.loop-i in
    run_of_lem _ _ _ _ _ _ g.loop-i-test.true g.least.ensures.upper_bound g.least.ensures.upper_bound_2
    g.wanted_of-want.ensures.value l.invariant.4.partly g.least.ensures.result_nonzero

pub loop-i-init : goal.loop-i-init
loop-i-init c = (refl, omega arith, omega arith, omega arith, c.requires.begun, refl, refl, refl)

pub shape_of-state-then-h : goal.shape_of-state-then-h
shape_of-state-then-h c = c.loop-i.invariant.5

pub shape_of-room-then-h : goal.shape_of-room-then-h
shape_of-room-then-h c = c.loop-i.invariant.6

pub shape_of-text-then-h : goal.shape_of-text-then-h
shape_of-text-then-h c = c.loop-i.invariant.7

pub returns-then-h : goal.returns-then-h
returns-then-h c =
    let l = c.loop-i in
    let n = length c.args.piece.now in record {
      over_after = piece-over c.args.piece.now l.i _ (take l.h.end l.text) l.h.at (night_in l.state)
          (take l.h.begun l.room) l.h.over l.invariant.0 c.if-h.true;
      at_bound = up_to_end _ _ l.i n l.invariant.1 l.invariant.3;
      end_in_bounds = at_piece_end l.i n _ _ _ l.invariant.1 l.invariant.2 c.requires.piece_in_bounds l.invariant.7;
      begun_2 = l.invariant.4;
    }

pub wanted_of-want-requires : goal.wanted_of-want-requires
wanted_of-want-requires c = c.loop-i.invariant.4.inside

pub overflow_sub-want : goal.overflow_sub-want
overflow_sub-want c = omega (arith, c.wanted_of-want.ensures.value, c.loop-i.invariant.4.partly)

pub overflow_sub-piece : goal.overflow_sub-piece
overflow_sub-piece c = omega (arith, c.loop-i.invariant.1)

pub overflow_add-next : goal.overflow_add-next
overflow_add-next c = omega (arith, (fit (goal.at.overflow_add-next c).After-least).rest)

pub slice_bounds-run-count : goal.slice_bounds-run-count
slice_bounds-run-count c = up_to _ _

pub slice_bounds-run-start : goal.slice_bounds-run-start
slice_bounds-run-start c = up_to _ _

pub slice_bounds-run-end : goal.slice_bounds-run-end
slice_bounds-run-end c = (fit (goal.at.slice_bounds-run-end c).After-least).rest

pub take_run-h-requires : goal.take_run-h-requires
take_run-h-requires c =
    let g = (goal.at.take_run-h-requires c).After-least in
    let l = g.loop-i in
    let w = g.wanted_of-want.ensures in
    let long = length_run c.args.piece.now l.i g.least.result (fit g).rest in
    let asks =
    run-asks (fit g) _ _ _ _ _ _ _ long w.value w.upper_bound l.invariant.2 l.invariant.7 c.requires.piece_in_bounds
    l.invariant.3 c.requires.piece_bound in record {
      in_bounds = l.invariant.4.roomy;
      run_nonzero = asks.0;
      run_bound = asks.1.0;
      run_bound_2 = asks.1.1.0;
      end_in_bounds = asks.1.1.1.0;
      at_bound = asks.1.1.1.1;
    }

pub loop-i-smaller : goal.loop-i-smaller
loop-i-smaller c =
    run-closer (fit (goal.at.loop-i-smaller c).After-least)

pub loop-i-preserved : goal.loop-i-preserved
loop-i-preserved c =
    let g = (goal.at.loop-i-preserved c).After-least in
    let t = c.take_run-h in
    let l = g.loop-i in
    let k = g.least.result in
    let e = t.ensures in (
      piece-turn c.args.piece.now l.i (l.i + k) (up_to l.i k) _ (take l.h.end l.text) l.h.at
          (night_in l.state)
          (take l.h.begun l.room) l.h.over l.invariant.0 g.if-h.false
          (take t.result.end t.new.text)
          (stream t.result.at (night_in t.new.state) (take t.result.begun t.new.room) t.result.over)
          e.over_after,
      (fit g).rest,
      run-lines (fit g) _ _ l.invariant.2 e.end_bound,
      run-numbers (fit g) _ _ _ l.invariant.3 e.at_bound_2,
      e.begun,
      t.auto.state ∙ l.invariant.5,
      t.auto.room ∙ l.invariant.6,
      t.auto.text ∙ l.invariant.7,
    )

pub shape_of-state : goal.shape_of-state
shape_of-state c = c.loop-i.invariant.5

pub shape_of-room : goal.shape_of-room
shape_of-room c = c.loop-i.invariant.6

pub shape_of-text : goal.shape_of-text
shape_of-text c = c.loop-i.invariant.7

pub returns : goal.returns
returns c =
    let l = c.loop-i in
    let n = length c.args.piece.now in record {
      over_after = piece-end c.args.piece.now l.i _ (take l.h.end l.text) l.h.at (night_in l.state)
          (take l.h.begun l.room) l.h.over l.invariant.0 (omega arith);
      at_bound = up_to_end _ _ l.i n l.invariant.1 l.invariant.3;
      end_in_bounds = at_piece_end l.i n _ _ _ l.invariant.1 l.invariant.2 c.requires.piece_in_bounds l.invariant.7;
      begun_2 = l.invariant.4;
    }
