-- `cpas::cpas_form` meets its contract: the answer is always the answer for what is left. Assumes nothing.
use mathlib.Core.Path.{◌≡◌}
use Prim.Native.Nat.{◌-◌, ◌≤◌}
use lib.ListN.{length, drop}
use Rattle.cpas.specs.Cpas.{cpas_form}
use Rattle.cpas.proofs.cpas_form.Given as goal

abbrev pub invariant-loop-i : goal.invariant-loop-i
invariant-loop-i l = (l.at ≤ length l.cpas) × (cpas_form l.n l.cpas ≡ cpas_form (l.n - l._i) (drop l.at l.cpas))
