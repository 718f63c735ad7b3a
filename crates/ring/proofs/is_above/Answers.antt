-- `ring::is_above` meets its contract: by the steps up from our own key. Assumes nothing.
use mathlib.Core.Path.{◌≡◌, sym, ap, ap₂, ◌∙◌}
use mathlib.Core.Bool.{◌&&◌}
use Prim.Native.Nat.{ℕ}
use native.Mathlib.Omega.{arith}
use lib.Dec.{leb}
use Rattle.key.specs.Number.{number, key_at}
use Rattle.key.specs.Around.{half, up}
use Rattle.key.proofs.KeyLaws.{key-lt}
use Rattle.key.proofs.AroundLaws.{above_steps}
use Rattle.ring.proofs.is_above.Goals as goal

pub returns : goal.returns
returns c =
    let c3 = c in
    let known2 = c in
    let known = c in
    let start = c in
    let a = start.args in
    let o : ℕ = key_at 0 a.own.now in
    let k : ℕ = key_at a.at a.s.now in
    let e : number c.minus-up.result ≡ up o k = c.minus-up.ensures ∙ ap₂ up c.key_at-2.ensures c3.key_at.ensures in
    c.is_up.ensures ∙ ap (λ (n : ℕ). leb 1 n && leb n half) e
    ∙ sym (above_steps o k (key-lt 0 a.own.now (λ i. omega (arith, known.type_inv.own i)) start.requires.in_bounds)
    (key-lt a.at a.s.now (λ i. omega (arith, known2.type_inv.s i)) start.requires.at_in_bounds))
