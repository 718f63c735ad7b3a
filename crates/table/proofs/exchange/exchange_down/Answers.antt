-- `table::exchange_down` meets its contract: those between move up, and the other stands before them. Assumes nothing.
use mathlib.Core.Path.{ap, ◌∙◌}
use mathlib.Core.List.{List}
use Prim.Native.Nat.{ℕ, ◌*◌}
use Rattle.octet.specs.Part.{splice}
use Rattle.table.proofs.ExchangeLaws.{exchanged-down}
use Rattle.table.proofs.exchange.exchange_down.Goals as goal

pub returns : goal.returns
returns c =
    let copied = c in
    let moved = c in
    let s = c in
    let a = s.args in
    copied.copy_to.ensures ∙ ap (λ (t : List ℕ). splice (100 * a.at) a.row.now t) moved.move_up.ensures
    ∙ exchanged-down a.used a.s.now a.row.now s.requires.3 s.requires.2 a.gone a.at s.requires.0 s.requires.1
