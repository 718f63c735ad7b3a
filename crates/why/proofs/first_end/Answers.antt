-- `why::first_end` meets its contract: as far as the length says, or all there is. Assumes nothing.
use mathlib.Core.Path.{◌≡◌, refl, sym, ap, ◌∙◌}
use mathlib.Core.List.{List}
use Prim.Native.Nat.{ℕ, ◌+◌, ◌-◌, ◌≤◌}
use native.Mathlib.Omega.{arith}
use lib.ListN.{length, take, drop, drop_of_length-le}
use lib.Seq.{take_all}
use Rattle.trace.specs.Trace.{length_of}
use borrow.Author.Rules.{rules}
use Rattle.why.proofs.first_end.Goals as goal

-- more than there is
all : (d : List ℕ) (n : ℕ) → length d ≤ n → take (length d) d ≡ take n d
all d n h = take_all (length d) d (omega arith) ∙ sym (take_all n d h)

none : (d : List ℕ) (n : ℕ) → length d ≤ n → drop (length d) d ≡ drop n d
none d n h = drop_of_length-le d {i = length d} (omega arith) ∙ sym (drop_of_length-le d {i = n} h)

pub returns-then-len-lt2 : goal.returns-then-len-lt2
returns-then-len-lt2 c =
    let d = c.args.input.now in
    record { upper_bound = omega arith; input_value = all d (2 + length_of d) (omega (arith, c.if-len-lt2.true)); input_value_2 = none d (2 + length_of d) (omega (arith, c.if-len-lt2.true)) }

pub returns-then-len-told : goal.returns-then-len-told
returns-then-len-told c =
    let d = c.args.input.now in
    let more : length d ≤ 2 + length_of d = omega (arith, c.if-len-told.true, c.read_u16_le-told.ensures) in
    record { upper_bound = omega arith; input_value = all d (2 + length_of d) more; input_value_2 = none d (2 + length_of d) more }

pub returns : goal.returns
returns c =
    let d = c.args.input.now in
    let is = c.read_u16_le-told.ensures in record { upper_bound = omega (arith, c.if-len-told.false, c.if-len-lt2.false); input_value = ap (λ (n : ℕ). take (2 + n) d) is; input_value_2 = ap (λ (n : ℕ). drop (2 + n) d) is }
