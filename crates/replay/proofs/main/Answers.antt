-- `replay::main` meets its contract. Assumes nothing.
use mathlib.Core.Path.{◌≡◌, sym, refl, ◌∙◌}
use Prim.Native.Nat.{◌-◌, ◌*◌, ◌≤◌}
use native.Mathlib.Omega.{arith}
use lib.ListN.{length}
use lib.Seq.{length-take-le}
use Rattle.night.specs.Step.{state_len}
use Rattle.replay.specs.Room.{Begun}
use Rattle.replay.proofs.RoomLaws.{begun_at_0, zeros, start_at, roomy_by, line_by, read-text, read_count, read-numbers}
use Rattle.replay.proofs.main.Goals as goal

pub loop-reads-init : goal.loop-reads-init
loop-reads-init c = (
  start_at _ c.opened-held.ensures.at_value,
  begun_at_0 _ _ c.opened-held.ensures.begun_value (roomy_by _ (zeros _)),
  zeros _,
  zeros _,
  zeros _,
  zeros _,
)

pub slice_bounds-read-end : goal.slice_bounds-read-end
slice_bounds-read-end c = c.loop-reads.invariant.4

pub slice_bounds-close-end : goal.slice_bounds-close-end
slice_bounds-close-end c = c.loop-reads.invariant.2

pub slice_bounds-close-end-then-n-eq0 : goal.slice_bounds-close-end-then-n-eq0
slice_bounds-close-end-then-n-eq0 c = c.loop-reads.invariant.3

pub slice_bounds-close-end-then-n-eq0-2 : goal.slice_bounds-close-end-then-n-eq0-2
slice_bounds-close-end-then-n-eq0-2 c = c.loop-reads.invariant.5

pub close-end-requires : goal.close-end-requires
close-end-requires c =
    record { begun_in_bounds = c.loop-reads.invariant.1.inside; in_bounds = line_by _ c.loop-reads.invariant.5 }

pub slice_bounds-text-end : goal.slice_bounds-text-end
slice_bounds-text-end c = omega (arith, c.close-end.ensures.upper_bound, c.type_inv.text)

pub slice_bounds-write-end : goal.slice_bounds-write-end
slice_bounds-write-end c =
    let e = c.close-end.ensures.upper_bound in
    let long = c.close-end.auto.text ∙ sym c.loop-reads.invariant.5 in
    sym (length-take-le _ _ (omega (arith, e, long)))

pub slice_bounds-piece-end : goal.slice_bounds-piece-end
slice_bounds-piece-end c = c.in-Ok.ensures.bound.0

pub slice_bounds-new-end : goal.slice_bounds-new-end
slice_bounds-new-end c = c.in-Ok.ensures.bound.1

pub slice_bounds-feed-end : goal.slice_bounds-feed-end
slice_bounds-feed-end c = c.loop-reads.invariant.2

pub slice_bounds-feed-end-in-loop-reads : goal.slice_bounds-feed-end-in-loop-reads
slice_bounds-feed-end-in-loop-reads c = c.loop-reads.invariant.3

pub slice_bounds-feed-end-in-loop-reads-2 : goal.slice_bounds-feed-end-in-loop-reads-2
slice_bounds-feed-end-in-loop-reads-2 c = c.loop-reads.invariant.5

pub feed-held-requires : goal.feed-held-requires
feed-held-requires c =
    let l = c.loop-reads in
    let few = c.in-Ok.ensures.bound in
    let same = c.read.auto.buf in record {
      begun = l.invariant.1;
      piece_in_bounds = read-text _ _ _ _ few.0 few.1 same l.invariant.4 _ l.invariant.5;
      piece_bound = read_count _ _ _ _ few.0 few.1 same l.invariant.4 _ _ l.invariant.0 (omega arith);
    }

pub slice_bounds-text-end-in-loop-reads : goal.slice_bounds-text-end-in-loop-reads
slice_bounds-text-end-in-loop-reads c = c.feed-held.ensures.end_in_bounds

pub slice_bounds-write-end-in-loop-reads : goal.slice_bounds-write-end-in-loop-reads
slice_bounds-write-end-in-loop-reads c = sym (length-take-le _ _ c.feed-held.ensures.end_in_bounds)

pub loop-reads-preserved : goal.loop-reads-preserved
loop-reads-preserved c =
    let f = c.feed-held in
    let few = c.in-Ok.ensures.bound in
    let same = c.read.auto.buf in
    let l = c.loop-reads in (
      read-numbers _ _ _ _ few.0 few.1 same l.invariant.4 _ _ l.invariant.0 _ f.ensures.at_bound,
      f.ensures.begun_2,
      l.invariant.2 ∙ sym f.auto.state,
      l.invariant.3 ∙ sym f.auto.room,
      l.invariant.4 ∙ sym same,
      l.invariant.5 ∙ sym f.auto.text,
    )
