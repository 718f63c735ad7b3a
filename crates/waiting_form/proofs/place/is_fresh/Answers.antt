-- `waiting_form::place::is_fresh` meets its contract: the number's three higher bytes are the three that are tested. Assumes nothing.
use mathlib.Core.Path.{ap, ◌∙◌}
use Prim.Native.Nat.{ℕ, ◌/◌}
use native.Mathlib.Omega.{arith}
use lib.Dec.{leb}
use Rattle.waiting_form.proofs.HeadLaws.{head_word}
use Rattle.waiting_form.proofs.place.is_fresh.Goals as goal

pub returns : goal.returns
returns c =
    let known = c in
    let s = c in
    ap (λ (n : ℕ). leb (n / 256) 2) c.read_u32_le.ensures
    ∙ head_word s.args.place.now (λ i. omega (arith, known.type_inv.place i)) s.requires
