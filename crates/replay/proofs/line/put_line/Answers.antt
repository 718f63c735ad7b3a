-- `replay::line::put_line` meets its contract. Assumes nothing.
use mathlib.Core.Path.{◌≡◌, ◌∙◌}
use mathlib.Core.List.{◌++◌}
use Prim.Native.Nat.{◌+◌, ◌≤◌}
use native.Mathlib.Omega.{arith}
use lib.ListN.{length, take, set, length-set}
use borrow.Author.Rules.{rules}
use Rattle.night.specs.Replay.{line}
use Rattle.replay.specs.Text.{text_of}
use Rattle.replay.proofs.TextLaws.{line-put}
use Rattle.replay.proofs.line.put_line.Goals.{After-put_decimal-end}
use Rattle.replay.proofs.line.put_line.Goals as goal

as_long : (c : After-put_decimal-end)
    → length c.put_decimal-end.new.out ≡ length c.args.out.now
as_long c =
    c.put_decimal-end.auto.out ∙ length-set c.put_decimal-space.new.out c.put_decimal-space.result 32 ∙ c.put_decimal-space.auto.out

laid : (c : After-put_decimal-end) → (let a = c.args in
    (c.put_decimal-end.result + 1 ≤ a.from + 42)
    × (take (c.put_decimal-end.result + 1) (set c.put_decimal-end.new.out c.put_decimal-end.result 10)
    ≡ take a.from a.out.now ++ text_of (line a.at a.answer)))
laid c =
    let a = c.args in
    line-put a.out.now a.from c.requires (line a.at a.answer) _ _ _ _ c.put_decimal-space.ensures.value
    c.put_decimal-space.ensures.out_after c.put_decimal-end.ensures.value c.put_decimal-end.ensures.out_after

pub put_decimal-end-requires : goal.put_decimal-end-requires
put_decimal-end-requires c =
    omega (arith, length-set c.put_decimal-space.new.out c.put_decimal-space.result 32, c.put_decimal-space.auto.out, c.put_decimal-space.ensures.upper_bound)

pub bounds-out-end : goal.bounds-out-end
bounds-out-end c = omega (arith, (laid (goal.at.bounds-out-end c).After-put_decimal-end).0, as_long (goal.at.bounds-out-end c).After-put_decimal-end)

pub shape_of-out : goal.shape_of-out
shape_of-out c = length-set c.put_decimal-end.new.out c.put_decimal-end.result 10 ∙ as_long (goal.at.shape_of-out c).After-put_decimal-end

pub returns : goal.returns
returns c = let all = laid (goal.at.returns c).After-put_decimal-end in record { upper_bound = all.0; out_after = all.1 }
