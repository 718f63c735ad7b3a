-- `why::answer` meets its contract: the first record is tested, then what stands behind it is told. Assumes nothing.
use mathlib.Core.Path.{◌≡◌, sym, ap, ap₂, subst, ◌∙◌}
use mathlib.Core.List.{List}
use Prim.Native.Nat.{ℕ, ◌+◌, ◌-◌, ◌≤◌}
use native.Mathlib.Omega.{arith}
use lib.ListN.{length, take, drop, length-drop}
use lib.Seq.{take_all, length-take-le}
use Rattle.refusal.specs.Table.{first_of as firstRow}
use Rattle.trace.specs.Fault.{faults}
use Rattle.why.specs.Text.{text_of}
use Rattle.why.specs.Input.{first_of, told_behind}
use Rattle.why.proofs.InputLaws.{first_long, told_none, told-bad, told-good}
use borrow.Author.Rules.{rules}
use Rattle.why.proofs.answer.Goals.{After-fault_of-number, Start}
use Rattle.why.proofs.answer.Goals as goal

abbrev start : After-fault_of-number → Start
start g = (goal.at.After-fault_of-number g).Start

-- the number is that of the first record
tested : (g : After-fault_of-number) → g.fault_of-number.result ≡ firstRow (faults 0 (first_of (start g).args.input.now))
tested g = g.fault_of-number.ensures ∙ ap (λ (r : List ℕ). firstRow (faults 0 r)) g.first_end-end.ensures.input_value

pub returns-then-input-eq0 : goal.returns-then-input-eq0
returns-then-input-eq0 c =
    record {
      out_after = c.put_number.ensures.puts.stands
          ∙ ap text_of (told_none c.args.input.now c.if-input-eq0.true);
      upper_bound = omega (arith, c.requires, c.put_number.ensures.upper_bound);
    }

pub slice_bounds-first-end : goal.slice_bounds-first-end
slice_bounds-first-end c = sym (length-take-le _ _ (search rules))

pub returns-then-number-ne0 : goal.returns-then-number-ne0
returns-then-number-ne0 c =
    let g = (goal.at.returns-then-number-ne0 c).After-fault_of-number in
    record { out_after = c.put_number-then-number-ne0.ensures.puts.stands ∙ ap text_of (told-bad c.args.input.now c.if-input-eq0.false g.fault_of-number.result (tested g) c.if-number-ne0.true); upper_bound = omega (arith, c.requires, c.put_number-then-number-ne0.ensures.upper_bound) }

pub put_behind-requires : goal.put_behind-requires
put_behind-requires c =
    let g = (goal.at.put_behind-requires c).After-fault_of-number in
    (c.requires, omega (arith, first_long _ (sym g.fault_of-number.ensures ∙ c.if-number-ne0.false)))

pub returns : goal.returns
returns c =
    let g = (goal.at.returns c).After-fault_of-number in
    let input = c.args.input.now in
    let end = c.first_end-end.result in
    let rest : take (length input - end) (drop end input) ≡ drop end input =
    take_all (length input - end) (drop end input) (omega (arith, length-drop end input)) in record {
      out_after = c.put_behind.ensures.out_after
          ∙ ap text_of (ap₂ told_behind c.first_end-end.ensures.input_value (rest ∙ c.first_end-end.ensures.input_value_2)
          ∙ told-good input c.if-input-eq0.false (sym (tested g) ∙ c.if-number-ne0.false));
      upper_bound = c.put_behind.ensures.upper_bound;
    }
