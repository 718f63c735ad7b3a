-- `cache::shape::rest_clear` meets its contract: nothing is left, or what is left is tested. Assumes nothing.
use mathlib.Core.Path.{◌≡◌, sym, ap, ◌∙◌}
use mathlib.Core.Bool.{true}
use mathlib.Core.List.{List}
use Prim.Native.Nat.{ℕ, ◌-◌, ◌≤◌}
use lib.ListN.{length, take, drop, length-drop, drop_of_length-le}
use lib.Seq.{take_all}
use Rattle.octet.specs.Part.{all_zero}
use native.Mathlib.Omega.{arith}
use Rattle.cache.proofs.shape.rest_clear.Goals as goal

-- nothing is zero
nothing : (n : ℕ) (s : List ℕ) → length s ≤ n → true ≡ all_zero (drop n s)
unfolding all_zero
nothing n s h = sym (ap all_zero (drop_of_length-le s h))

-- the part that is lent to the test
rest : (n : ℕ) (s : List ℕ) → take (length s - n) (drop n s) ≡ drop n s
rest n s = take_all (length s - n) (drop n s) (simp length-drop (omega arith))

pub returns-then-end-cache : goal.returns-then-end-cache
returns-then-end-cache c = let a = c.args in nothing a.end a.cache.now (omega arith)

pub returns : goal.returns
returns c = let a = c.args in c.is_zero.ensures ∙ ap all_zero (rest a.end a.cache.now)
