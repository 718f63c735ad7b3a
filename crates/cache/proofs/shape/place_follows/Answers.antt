-- `cache::shape::place_follows` meets its contract: each test decides a part of `rises`. Assumes nothing.
use mathlib.Core.Path.{◌≡◌, refl, sym, ap, ◌∙◌}
use mathlib.Core.Bool.{true, false}
use mathlib.Core.List.{List}
use Prim.Native.Nat.{ℕ, ◌*◌, ◌/◌}
use lib.Dec.{leb}
use Rattle.octet.specs.Number.{value_be}
use Rattle.octet.specs.Part.{part}
use Rattle.key.specs.Number.{key_at}
use Rattle.record.specs.Record.{key_of, record_form}
use Rattle.cache.specs.Place.{rises}
use Rattle.own.specs.Low.{low_at}
use Rattle.cache.proofs.FormLaws.{key_of-row}
use native.Mathlib.Omega.{arith}
use Rattle.cache.proofs.shape.place_follows.Goals.{Start}
use Rattle.cache.proofs.shape.place_follows.Goals as goal

-- the place's bytes
abbrev row : Start → List ℕ
row s = part (100 * (s.args.at / 100)) 100 s.args.cache.now

abbrev low : Start → ℕ
low s = low_at s.args.cache.now (s.args.at / 100)

row-key : (s : Start) → key_of (row s) ≡ key_at (100 * (s.args.at / 100)) s.args.cache.now
row-key s = key_of-row (100 * (s.args.at / 100)) s.args.cache.now

-- where it begins
begins : (s : Start) → s.args.at ≡ 100 * (s.args.at / 100)
begins s = omega (arith, s.requires.at_in_bounds.1)

is_row : (s : Start) → record_form (part s.args.at 100 s.args.cache.now) ≡ record_form (row s)
is_row s = ap (λ (n : ℕ). record_form (part n 100 s.args.cache.now)) (begins s)

pub returns-then-not-is_formed : goal.returns-then-not-is_formed
unfolding rises
returns-then-not-is_formed c =
    let s = (goal.at.returns-then-not-is_formed c).Start in
    let f : record_form (row s) ≡ false = sym (c.is_formed.ensures ∙ is_row s) ∙ c.if-not-is_formed.true in
    sym (rw f refl)

pub above_before-requires : goal.above_before-requires
above_before-requires c =
    let s = (goal.at.above_before-requires c).Start in
    record { at_in_bounds = s.requires.at_in_bounds; word_value = c.read_u64-word.ensures ∙ ap (λ (n : ℕ). value_be 256 (part n 8 s.args.cache.now)) (begins s); carried = s.requires.carried }

pub returns : goal.returns
unfolding rises
returns c =
    let tested = c in
    let s = (goal.at.returns c).Start in
    let f : record_form (row s) ≡ true = sym (tested.is_formed.ensures ∙ is_row s) ∙ tested.if-not-is_formed.false in
    c.above_before.ensures ∙ sym (ap (leb (low s)) (row-key s)) ∙ sym (rw f refl)
