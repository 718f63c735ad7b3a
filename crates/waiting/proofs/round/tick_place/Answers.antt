-- `waiting::round::tick_place` meets its contract: by whether the place is spent. Assumes nothing.
use mathlib.Core.Path.{refl, sym, ap, ◌∙◌}
use mathlib.Core.List.{List}
use Prim.Native.Nat.{ℕ, ◌+◌, ◌*◌, ◌-◌}
use native.Mathlib.Omega.{arith}
use lib.ListN.{get_or, set}
use Rattle.octet.specs.Number.{digits_le}
use Rattle.octet.specs.Part.{splice}
use Rattle.waiting.proofs.PlaceLaws.{id-at}
use Rattle.waiting.proofs.TickLaws.{is-spent, not-spent, kept_place}
use Rattle.waiting.proofs.round.tick_place.Goals as goal

pub returns-then-tries-eq0 : goal.returns-then-tries-eq0
returns-then-tries-eq0 c =
    let a = c.args in
    let gone = is-spent (140 * a.at) a.table.now c.if-tries-eq0.true in
    (rw gone refl, rw gone refl, rw gone refl)

pub returns : goal.returns
returns c =
    let listed = c in
    let read = c in
    let kept = c in
    let a = kept.args in
    let t = a.table.now in
    let from = 140 * a.at in
    let to = 140 * a.kept in
    let stays = not-spent from t kept.if-tries-eq0.false in
    let same = read.read_u32_le-id.ensures ∙ sym (id-at from t) in
    let moved = ap (λ (l : List ℕ). set l (to + 5) (get_or t (from + 5) 0 - 1)) c.move_place.ensures in (
      rw stays refl,
      rw stays (moved ∙ kept_place from to t (omega arith) (omega arith)),
      rw stays (listed.write_u32_le.ensures ∙ ap (λ (n : ℕ). splice (4 * a.kept) (digits_le 256 4 n) a.output.now) same),
    )
