-- `named::choosing::key_of` meets its contract: the key of the record at each place. Assumes nothing.
use mathlib.Core.Path.{◌≡◌, sym, ap, subst, ◌∙◌}
use Prim.Native.Nat.{ℕ, ◌+◌, ◌*◌, ◌≤◌}
use native.Mathlib.Omega.{arith}
use lib.ListN.{length}
use Rattle.std.specs.Prelude.{Option}
use Rattle.octet.specs.Number.{value_be}
use Rattle.octet.proofs.PartLaws.{length_part}
use Rattle.key.specs.Number.{number}
use Rattle.record.specs.Record.{key_of}
use Rattle.neighbours.specs.Where as W
use Rattle.neighbours.specs.declared.nearest.Spot.{Spot}
use Rattle.neighbours.specs.declared.nearest.Spot.TheVariants.{Own, Held}
use Rattle.named.specs.Spots.{record_at, Inside}
use Rattle.named.proofs.choosing.key_of.Goals.{Start}
use Rattle.named.proofs.choosing.key_of.Goals as goal

-- what is known of the place, and its record's key
inside : (s : Start) {x : Option Spot} → s.args.spot ≡ x → Inside s.args.own.now s.args.cache.now x
inside s e = subst (Inside s.args.own.now s.args.cache.now) e s.requires

key_there : (s : Start) {x : Option Spot} → s.args.spot ≡ x
    → key_of (record_at s.args.own.now s.args.cache.now s.args.spot) ≡ key_of (record_at s.args.own.now s.args.cache.now x)
key_there s e = ap (λ (x : Option Spot). key_of (record_at s.args.own.now s.args.cache.now x)) e

-- a record that lies there has its length
whole : (own cache : _) (x : Spot) → W.Lies own cache x → length (W.record_at own cache x) ≡ 100
whole own cache (Own i) w = length_part (100 * i) 100 own w
whole own cache (Held i) w = length_part (100 * i) 100 cache w

pub record_at-requires : goal.record_at-requires
record_at-requires c = inside (goal.at.record_at-requires c).Start c.in-Some.is

pub key_at-requires : goal.key_at-requires
key_at-requires c =
    let s = (goal.at.key_at-requires c).Start in
    omega (arith, whole s.args.own.now s.args.cache.now c.in-Some.spot (inside s c.in-Some.is), ap length c.record_at.ensures)

pub returns-in-None : goal.returns-in-None
unfolding number value_be
returns-in-None c = sym (key_there (goal.at.returns-in-None c).Start c.in-None.is)

pub returns-in-Some : goal.returns-in-Some
returns-in-Some c =
    let s = (goal.at.returns-in-Some c).Start in
    c.key_at.ensures ∙ ap key_of c.record_at.ensures ∙ sym (key_there s c.in-Some.is)
