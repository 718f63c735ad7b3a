-- `wire_whole::whole::past` meets its contract: whatever is past 1232 is counted as 1233. Assumes nothing.
use native.Mathlib.Omega.{arith}
use mathlib.Core.Bool.{true}
use Rattle.wire_write.specs.Pieces.{past_of}
use Rattle.wire_write.proofs.WriteLaws.{past_more}
use Rattle.wire_whole.proofs.whole.past.Goals as goal

pub returns-then-at-gt1232 : goal.returns-then-at-gt1232
returns-then-at-gt1232 c = let a = c.args in omega (arith, past_more a.at true a.padded a.len)

pub returns-then-len-gt1232 : goal.returns-then-len-gt1232
unfolding past_of
returns-then-len-gt1232 c = omega arith

pub returns-then-next-gt1232 : goal.returns-then-next-gt1232
unfolding past_of
returns-then-next-gt1232 c = omega (arith, c.padding.ensures.value)

pub returns : goal.returns
unfolding past_of
returns c = omega (arith, c.padding.ensures.value)
