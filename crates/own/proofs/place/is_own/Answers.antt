-- `own::place::is_own` meets its contract: with one own record the key is compared with its key; of several all are walked. Assumes nothing.
use mathlib.Core.Path.{sym, ◌∙◌}
use native.Mathlib.Omega.{arith}
use Rattle.key.specs.Number.{key_at}
use Rattle.own.proofs.PlaceLaws.{one-own-is}
use Rattle.own.proofs.place.is_own.Goals as goal

pub same_at-requires : goal.same_at-requires
same_at-requires c = record { a_in_bounds = c.requires; b_in_bounds = omega (arith, c.if-own-eq-RECORD_LEN.true) }

pub returns-then-own-eq-RECORD_LEN : goal.returns-then-own-eq-RECORD_LEN
returns-then-own-eq-RECORD_LEN c =
    let s = c in
    c.same_at.ensures ∙ sym (one-own-is s.args.own.now c.if-own-eq-RECORD_LEN.true (key_at s.args.at s.args.s.now))

pub is_any-requires : goal.is_any-requires
is_any-requires c = c.requires

pub returns : goal.returns
returns c = c.is_any.ensures
