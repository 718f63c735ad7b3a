-- `runs::lift` meets its contract. The invariant: the bytes from index i on are moved, and no more. Assumes nothing.
use mathlib.Core.Path.{◌≡◌}
use Prim.Native.Nat.{◌+◌, ◌-◌}
use Rattle.octet.specs.Part.{part, splice}
use Rattle.runs.proofs.rows.lift.Given as goal

abbrev pub invariant-loop-i : goal.invariant-loop-i
invariant-loop-i g l = l.s ≡ splice (g.row.R + l.i) (part (0 + l.i) (l.n - l.i) l.initial.s) l.initial.s
