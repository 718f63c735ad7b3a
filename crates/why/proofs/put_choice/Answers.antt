-- `why::put_choice` meets its contract: the record's line, and the reason's behind it. Assumes nothing.
use mathlib.Core.Path.{◌≡◌, sym, ap, ap₂, subst, ◌∙◌}
use mathlib.Core.List.{List, ◌++◌}
use Prim.Native.Nat.{ℕ, ◌+◌, ◌≤◌}
use native.Mathlib.Omega.{arith}
use lib.ListN.{length}
use Rattle.record.specs.Record.{key_of}
use Rattle.reason.specs.Reason.{because_of}
use Rattle.named.specs.Spots.{record_at}
use Rattle.why.specs.Text.{record_text, reason_text}
use Rattle.why.specs.Puts.{HasKey}
use Rattle.why.proofs.PutsLaws.{puts_next}
use Rattle.why.proofs.ChoiceLaws.{record_long, has_key}
use borrow.Author.Rules.{rules}
use Rattle.why.proofs.put_choice.Goals as goal

pub put_record-at-requires : goal.put_record-at-requires
put_record-at-requires c =
    let a = c.args in
    let long = ap length c.record_at-record.ensures
    ∙ record_long a.own.now a.cache.now a.choice.chosen c.requires.1.chosen c.requires.1.somewhere in
    (omega (arith, c.requires.0), omega (arith, long))

pub put_reason-requires : goal.put_reason-requires
put_reason-requires c =
    let a = c.args in (
      omega (arith, c.requires.0, c.put_record-at.ensures.upper_bound, c.put_record-at.auto.out),
      subst (HasKey a.choice.reason) (sym c.record_at-next.ensures)
          (has_key a.own.now a.cache.now a.choice.reason a.choice.other c.requires.1.other c.requires.1.shows),
    )

pub returns : goal.returns
returns c =
    let a = c.args in record {
      out_after = (puts_next c.put_record-at.ensures.puts c.put_reason.ensures.puts).stands
          ∙ ap₂ (λ (x y : List ℕ). record_text x ++ reason_text (because_of a.choice.reason (key_of y))) c.record_at-record.ensures
          c.record_at-next.ensures;
      upper_bound = omega (arith, c.requires.0, c.put_record-at.ensures.upper_bound, c.put_reason.ensures.upper_bound);
    }
