-- `runs::move_up` meets its contract: by a known distance, or in a loop that has moved the bytes from index i on and no more. Assumes nothing.
use mathlib.Core.Path.{◌≡◌}
use Prim.Native.Nat.{◌+◌, ◌-◌}
use Rattle.octet.specs.Part.{part, splice}
use Rattle.runs.proofs.move_up.Given as goal

abbrev pub invariant-loop-i : goal.invariant-loop-i
invariant-loop-i l = l.s ≡ splice (l.to + l.i) (part (l.from + l.i) (l.n - l.i) l.initial.s) l.initial.s
