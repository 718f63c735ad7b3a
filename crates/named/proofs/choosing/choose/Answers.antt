-- `named::choosing::choose` meets its contract: the closest of the candidates, the closest of the others, and the reason by the two. Assumes nothing.
use mathlib.Core.Path.{◌≡◌, sym, ap, subst, ◌∙◌}
use mathlib.Core.Bool.{Bool, true, false, not}
use mathlib.Core.List.{List}
use Prim.Native.Nat.{ℕ}
use borrow.Author.Rules.{rules}
use Rattle.std.specs.Prelude.{Option}
use Rattle.key.specs.Number.{number}
use Rattle.neighbours.specs.declared.nearest.Spot.{Spot}
use Rattle.named.specs.Spots.{Inside}
use Rattle.named.specs.Places.{spot_for}
use Rattle.named.proofs.SpotLaws.{choice-is, finds-inside}
use Rattle.named.proofs.choosing.choose.Goals.{Start}
use Rattle.named.proofs.choosing.choose.Goals as goal

-- a place that the search answers lies within what is lent
inside : (s : Start) (leave : Bool) (k : ℕ) {x : Option Spot}
    → x ≡ spot_for s.args.own.now s.args.cache.now s.args.used s.args.path.now (number s.args.target) leave k
    → Inside s.args.own.now s.args.cache.now x
inside s leave k e =
    let a = s.args in
    subst (Inside a.own.now a.cache.now) (sym e)
    (finds-inside a.own.now a.cache.now a.used a.path.now (number a.target) s.requires.0 s.requires.1 leave k)

-- there is none where there is not one
turned : (a b : Bool) → a ≡ not b → b ≡ not a
turned a true e = sym (ap not e)
turned a false e = sym (ap not e)

pub key_of-k-requires : goal.key_of-k-requires
key_of-k-requires c = let s = (goal.at.key_of-k-requires c).Start in inside s false (number s.args.target) c.spot_of-chosen.ensures

pub key_of-next-requires : goal.key_of-next-requires
key_of-next-requires c = inside (goal.at.key_of-next-requires c).Start true (number c.key_of-k.result) c.spot_of-other.ensures

pub returns : goal.returns
returns c =
    let a = c.args in
    choice-is a.own.now a.cache.now a.used a.path.now (number a.target) c.spot_of-chosen.ensures
    c.key_of-k.ensures c.spot_of-other.ensures c.key_of-next.ensures (turned _ _ c.is_none.ensures)
    c.reason_by-reason.ensures
