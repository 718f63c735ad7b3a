-- `why::put_named` meets its contract: the text of what the call tells. Assumes nothing.
use mathlib.Core.Path.{◌≡◌, sym, ap, subst, ◌∙◌}
use Prim.Native.Nat.{ℕ, ◌≤◌}
use native.Mathlib.Omega.{arith}
use Rattle.std.specs.Prelude.{Result}
use Rattle.named.specs.Call.{name_call}
use Rattle.named.specs.Spots.{told_by, Within}
use Rattle.named.specs.declared.Choice.{Choice}
use Rattle.why.specs.Text.{text_of}
use borrow.Author.Rules.{rules}
use Rattle.why.proofs.put_named.Goals.{After-name, Start}
use Rattle.why.proofs.put_named.Goals as goal

abbrev start : After-name → Start
start m = (goal.at.After-name m).Start

told : (m : After-name) {r : Result Choice ℕ} → m.name.result ≡ r
    → (let a = (start m).args in told_by a.own.now a.cache.now r ≡ name_call a.own.now a.cache.now a.major a.datagram.now)
told m e = let a = (start m).args in sym (ap (told_by a.own.now a.cache.now) e) ∙ m.name.ensures.result_value

pub put_choice-requires : goal.put_choice-requires
put_choice-requires c =
    let m = (goal.at.put_choice-requires c).After-name in
    let s = start m in
    (s.requires, subst (Within s.args.own.now s.args.cache.now) c.in-Ok.is m.name.ensures.within)

pub returns-in-Err : goal.returns-in-Err
returns-in-Err c =
    let m = (goal.at.returns-in-Err c).After-name in
    record { out_after = c.put_number.ensures.puts.stands ∙ ap text_of (told m c.in-Err.is); upper_bound = omega (arith, (start m).requires, c.put_number.ensures.upper_bound) }

pub returns-in-Ok : goal.returns-in-Ok
returns-in-Ok c =
    let m = (goal.at.returns-in-Ok c).After-name in
    record { out_after = c.put_choice.ensures.out_after ∙ ap text_of (told m c.in-Ok.is); upper_bound = c.put_choice.ensures.upper_bound }
