use mathlib.Core.Path.{◌≡◌, sym, ap, subst, ◌∙◌}
use Prim.Native.Nat.{ℕ, ◌+◌, ◌*◌, ◌/◌}
use native.Mathlib.Nat.{zero-add}
use lib.ListN.{length}
use Rattle.octet.specs.Number.{value_be}
use Rattle.octet.specs.Part.{part}
use Rattle.table.specs.Rows.{rows}
use Rattle.cache.specs.Place.{ordered, Carried}
use Rattle.own.specs.Low.{low_at}
use Rattle.cache.proofs.ShapeLaws.{carried_next}
use Rattle.cache.proofs.OrderedLaws.{ordered-more, ordered-stop, ordered_end}
use native.Mathlib.Omega.{arith}
use Rattle.cache.proofs.shape.count_held.Invariants.{from}
use Rattle.cache.proofs.shape.count_held.Goals as goal

pub loop-at-init : goal.loop-at-init
unfolding low_at
loop-at-init c =
    let a = c.args in (
      omega arith,
      omega arith,
      omega arith,
      sym (zero-add (ordered 0 (rows 100 (length a.cache.now / 100) a.cache.now))),
      tt,
    )

pub place_follows-requires : goal.place_follows-requires
place_follows-requires c = let l = c in record { at_in_bounds = (omega arith, l.loop-at.invariant.2); carried = l.loop-at.invariant.4 }

pub returns-then-not-place_follows : goal.returns-then-not-place_follows
returns-then-not-place_follows c =
    let l = c in
    let a = l.args in
    sym (l.loop-at.invariant.3 ∙ ordered-stop (length a.cache.now / 100) a.cache.now (l.loop-at.at / 100) (omega arith)
    (sym c.place_follows.ensures ∙ c.if-not-place_follows.true))

pub loop-at-preserved : goal.loop-at-preserved
loop-at-preserved c =
    let tested = c in
    let l = c in
    let s = l.args.cache.now in
    let i = l.loop-at.at / 100 in
    let e : i + 1 ≡ (l.loop-at.at + 100) / 100 = omega (arith, l.loop-at.invariant.2) in
    let p : l.loop-at.at ≡ 100 * i = omega (arith, l.loop-at.invariant.2) in (
      omega arith,
      omega (arith, l.loop-at.invariant.2),
      omega (arith, l.loop-at.invariant.2),
      l.loop-at.invariant.3 ∙ ordered-more (length s / 100) s i (omega (arith, l.loop-at.invariant.2)) (sym tested.place_follows.ensures ∙ tested.if-not-place_follows.false)
          ∙ ap (from s) e,
      subst (λ (j : ℕ). Carried s j c.read_u64-last.result) e
          (carried_next s i c.read_u64-last.result (c.read_u64-last.ensures ∙ ap (λ (n : ℕ). value_be 256 (part n 8 s)) p)),
    )

pub returns : goal.returns
returns c =
    let l = c in
    let a = l.args in
    let e = ordered_end (length a.cache.now / 100) a.cache.now (l.loop-at.at / 100) (omega arith) in
    omega (arith, e, l.loop-at.invariant.3)
