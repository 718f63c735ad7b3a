-- `replay::stream::wanted_of` meets its contract. Assumes nothing.
use mathlib.Core.Path.{ap, ◌∙◌}
use Prim.Native.Nat.{ℕ, ◌+◌}
use native.Mathlib.Omega.{arith}
use borrow.Author.Rules.{rules}
use Rattle.replay.proofs.RoomLaws.{room-two, room-told}
use Rattle.replay.proofs.stream.wanted_of.Goals as goal

pub returns-then-begun-lt2 : goal.returns-then-begun-lt2
returns-then-begun-lt2 c = record { value = room-two _ _ c.requires c.if-begun-lt2.true; upper_bound = omega arith }

pub returns : goal.returns
returns c =
    record {
      value = ap (λ (k : ℕ). 2 + k) (c.wide.ensures ∙ c.read_u16_le.ensures)
          ∙ room-told _ _ c.requires (omega (arith, c.if-begun-lt2.false));
      upper_bound = omega arith;
    }
