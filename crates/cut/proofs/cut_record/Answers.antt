-- `cut::cut_record` meets its contract: what is written is the converted record in its place (cut_at). Assumes nothing.
use mathlib.Core.Path.{ap, ◌∙◌}
use mathlib.Core.List.{List}
use Prim.Native.Nat.{ℕ, ◌+◌}
use lib.ListN.{set}
use Rattle.cut.proofs.CutLaws.{cut_at}
use Rattle.cut.proofs.cut_record.Goals as goal

pub returns : goal.returns
returns c =
    let s = c in
    ap (λ (l : List ℕ). set l (s.args.at + 34) 1) c.clear.ensures ∙ cut_at s.args.at s.args.s.now s.requires
