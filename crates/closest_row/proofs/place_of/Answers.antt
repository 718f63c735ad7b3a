use mathlib.Core.Path.{◌≡◌, sym, ap₂, ◌∙◌}
use mathlib.Core.List.{List}
use Prim.Native.Nat.{ℕ, ◌*◌}
use native.Mathlib.Omega.{arith}
use Rattle.key.specs.Number.{number, key_at}
use Rattle.key.specs.Around.{closer}
use Rattle.closest_row.proofs.ClosestLaws.{walk-starts, walk-takes, walk-leaves, walk_ends, place-starts, place-takes, place-leaves, place-ends}
use Rattle.closest_row.proofs.place_of.Goals.{After-is_closer-closer, At-loop-i, Start, then-closer, else-closer}
use Rattle.closest_row.proofs.place_of.Goals as goal

pub loop-i-init : goal.loop-i-init
loop-i-init c =
    let s = c in
    let a = s.args in (
      s.requires.0,
      walk-starts (number a.target) a.n a.s.now s.requires.0,
      place-starts (number a.target) a.n a.s.now s.requires.0,
    )

-- what the comparison says, of the keys where they lie
module _ (c : After-is_closer-closer) where
  abbrev loop : At-loop-i
  loop = (goal.at.After-is_closer-closer c).At-loop-i

  abbrev start : Start
  start = (goal.at.At-loop-i loop).Start

  abbrev t : ℕ
  t = number start.args.target

  abbrev s : List ℕ
  s = start.args.s.now

  says : closer t (key_at (100 * loop.loop-i.i) s) (key_at (100 * loop.loop-i.best) s) ≡ c.is_closer-closer.result
  says =
      sym (c.is_closer-closer.ensures ∙ ap₂ (closer t) c.key_at-other.ensures c.key_at-near.ensures)

pub overflow_mul-best : goal.overflow_mul-best
overflow_mul-best c = let s = c in omega (arith, s.requires.1)

pub key_at-near-requires : goal.key_at-near-requires
key_at-near-requires c = let s = c in omega (arith, s.requires.1)

pub overflow_mul-i : goal.overflow_mul-i
overflow_mul-i c = let s = c in omega (arith, s.requires.1)

pub key_at-other-requires : goal.key_at-other-requires
key_at-other-requires c = let s = c in omega (arith, s.requires.1)

pub is_closer-closer-requires : goal.is_closer-closer-requires
is_closer-closer-requires c = record { d_value = c.how_far-away.ensures; e_value = c.how_far-far.ensures }

pub loop-i-preserved : goal.loop-i-preserved
loop-i-preserved c =
    let m = (goal.at.loop-i-preserved c).After-is_closer-closer in
    let l = (loop m).loop-i in
    let n = (start m).args.n in
    elim c.if-closer.branch [
      | then-closer w ↦ rw w.best-is (
        omega arith,
        l.invariant.1 ∙ walk-takes (t m) n (s m) l.best l.i (omega arith) (says m ∙ w.if-closer.true),
        l.invariant.2 ∙ place-takes (t m) n (s m) l.best l.i (omega arith) (says m ∙ w.if-closer.true),
      )
      | else-closer w ↦ rw w.best-is (
        omega arith,
        l.invariant.1 ∙ walk-leaves (t m) n (s m) l.best l.i (omega arith) (says m ∙ w.if-closer.false),
        l.invariant.2 ∙ place-leaves (t m) n (s m) l.best l.i (omega arith) (says m ∙ w.if-closer.false),
      )
    ]

pub returns : goal.returns
returns c =
    let l = c in
    let a = l.args in
    let t = number a.target in record { s_value = sym (l.loop-i.invariant.1 ∙ walk_ends t a.n a.s.now l.loop-i.best l.loop-i.i (omega arith)); upper_bound = (l.loop-i.invariant.0, sym (l.loop-i.invariant.2 ∙ place-ends t a.n a.s.now l.loop-i.best l.loop-i.i (omega arith))) }
