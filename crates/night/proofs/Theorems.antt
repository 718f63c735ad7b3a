-- What is proved of the replay. Assumes nothing.
use mathlib.Core.Path.{refl}
use Rattle.refusal.specs.Table.{first_of}
use Rattle.sentences.proofs.ComputedLaws.{computed}
use Rattle.trace.specs.Trace.{body_fits, cut_into, written, all_written}
use Rattle.trace.specs.Fault.{faults}
use Rattle.night.specs.Step.{called, step_of}
use Rattle.night.specs.Replay.{replay_from}
use Rattle.night.specs.Statements.{OneByOne, Stops, ToldSame, TraceReadsBack, Whole, Example}
use Rattle.night.proofs.ToldLaws as whole-told
use Rattle.night.proofs.MadeLaws as made
use Rattle.night.proofs.TraceLaws as trace

pub one_by_one : OneByOne
one_by_one = made.one_by_one

pub stops : Stops
stops = made.stops

pub told_same : ToldSame
told_same = whole-told.told_same

pub reads_back : TraceReadsBack
reads_back = trace.reads_back

pub whole : Whole
whole = trace.whole

pub example : Example
unfolding computed first_of body_fits cut_into written all_written faults called step_of replay_from
example = (refl, refl, refl)
