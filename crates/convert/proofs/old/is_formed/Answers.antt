-- `convert::old::is_formed` meets its contract: each test decides for the counts that are left. Assumes nothing.
use mathlib.Core.Path.{◌≡◌, sym, ◌∙◌}
use mathlib.Core.Bool.{true}
use mathlib.Core.List.{List}
use Prim.Native.Nat.{ℕ, ◌+◌, ◌*◌}
use native.Mathlib.Omega.{arith}
use borrow.Author.Tests.{lt-leb}
use lib.ListN.{get_or}
use Rattle.octet.specs.Part.{part, all_zero}
use Rattle.record.proofs.PlaceLaws.{count_word}
use Rattle.convert.proofs.OldLaws.{form_at, form_left, form_over, form_spoilt, zero_both, zero-none}
use Rattle.convert.proofs.old.is_formed.Goals.{After-read_u16_le-count, Else-not-zero_pair, Else-not-zero_pair-2, Else-not-zero_pair-3}
use Rattle.convert.proofs.old.is_formed.Goals as goal

-- the place and the bytes, and what was read there
abbrev place : After-read_u16_le-count → ℕ
place r = r.args.at

abbrev bytes : After-read_u16_le-count → List ℕ
bytes r = r.args.s.now

counted : (r : After-read_u16_le-count) → r.read_u16_le-count.result ≡ get_or (bytes r) (place r + 35) 0 * 256 + get_or (bytes r) (place r + 34) 0
counted r = r.read_u16_le-count.ensures ∙ count_word (place r) (bytes r) (omega (arith, r.requires))

-- the pairs that have passed, the last first
last : (c : Else-not-zero_pair) → all_zero (part (c.args.at + 84) 16 c.args.s.now) ≡ true
last c = sym c.zero_pair.ensures ∙ c.if-not-zero_pair.false

middle : (c : Else-not-zero_pair-2) → all_zero (part (c.args.at + 68) 16 c.args.s.now) ≡ true
middle c = sym c.zero_pair-2.ensures ∙ c.if-not-zero_pair-2.false

first : (c : Else-not-zero_pair-3) → all_zero (part (c.args.at + 52) 16 c.args.s.now) ≡ true
first c = sym c.zero_pair-3.ensures ∙ c.if-not-zero_pair-3.false

pub returns-then-count-gt4 : goal.returns-then-count-gt4
returns-then-count-gt4 c =
    let r = (goal.at.returns-then-count-gt4 c).After-read_u16_le-count in
    form_over (place r) (bytes r) (omega (arith, counted r, c.if-count-gt4.true))

pub returns-then-count-eq4 : goal.returns-then-count-eq4
returns-then-count-eq4 c =
    let r = (goal.at.returns-then-count-eq4 c).After-read_u16_le-count in
    zero-none (place r + 100) (bytes r)
    ∙ form_left (place r) (place r + 100) 0 (bytes r) r.requires (omega (arith, counted r)) (omega (arith, counted r))
    (omega (arith, counted r))
    (omega (arith, counted r)) (omega (arith, counted r))

pub returns-then-not-zero_pair : goal.returns-then-not-zero_pair
returns-then-not-zero_pair c =
    let r = (goal.at.returns-then-not-zero_pair c).After-read_u16_le-count in
    form_spoilt (place r) (place r + 84) (bytes r) r.requires (omega (arith, counted r)) (omega (arith, counted r)) (omega arith)
    (sym c.zero_pair.ensures ∙ c.if-not-zero_pair.true)

pub returns-then-count-eq3 : goal.returns-then-count-eq3
returns-then-count-eq3 c =
    let r = (goal.at.returns-then-count-eq3 c).After-read_u16_le-count in
    sym (last (goal.at.returns-then-count-eq3 c).Else-not-zero_pair) ∙ form_left (place r) (place r + 84) 16 (bytes r) r.requires (omega (arith, counted r))
    (omega (arith, counted r)) (omega (arith, counted r)) (omega (arith, counted r)) (omega (arith, counted r))

pub returns-then-not-zero_pair-2 : goal.returns-then-not-zero_pair-2
returns-then-not-zero_pair-2 c =
    let r = (goal.at.returns-then-not-zero_pair-2 c).After-read_u16_le-count in
    form_spoilt (place r) (place r + 68) (bytes r) r.requires (omega (arith, counted r)) (omega (arith, counted r)) (omega arith)
    (sym c.zero_pair-2.ensures ∙ c.if-not-zero_pair-2.true)

pub returns-then-count-eq2 : goal.returns-then-count-eq2
returns-then-count-eq2 c =
    let r = (goal.at.returns-then-count-eq2 c).After-read_u16_le-count in
    let two = zero_both (place r + 68) (place r + 84) 16 (bytes r) (omega arith) (middle (goal.at.returns-then-count-eq2 c).Else-not-zero_pair-2) (last (goal.at.returns-then-count-eq2 c).Else-not-zero_pair) in
    sym two ∙ form_left (place r) (place r + 68) 32 (bytes r) r.requires (omega (arith, counted r)) (omega (arith, counted r))
    (omega (arith, counted r)) (omega (arith, counted r)) (omega (arith, counted r))

pub returns-then-not-zero_pair-3 : goal.returns-then-not-zero_pair-3
returns-then-not-zero_pair-3 c =
    let r = (goal.at.returns-then-not-zero_pair-3 c).After-read_u16_le-count in
    form_spoilt (place r) (place r + 52) (bytes r) r.requires (omega (arith, counted r)) (omega (arith, counted r)) (omega arith)
    (sym c.zero_pair-3.ensures ∙ c.if-not-zero_pair-3.true)

pub returns-then-count-eq1 : goal.returns-then-count-eq1
returns-then-count-eq1 c =
    let r = (goal.at.returns-then-count-eq1 c).After-read_u16_le-count in
    let two = zero_both (place r + 68) (place r + 84) 16 (bytes r) (omega arith) (middle (goal.at.returns-then-count-eq1 c).Else-not-zero_pair-2)
    (last (goal.at.returns-then-count-eq1 c).Else-not-zero_pair) in
    let three = zero_both (place r + 52) (place r + 68) 32 (bytes r) (omega arith) (first (goal.at.returns-then-count-eq1 c).Else-not-zero_pair-3) two in
    sym three ∙ form_left (place r) (place r + 52) 48 (bytes r) r.requires (omega (arith, counted r)) (omega (arith, counted r))
    (omega (arith, counted r)) (omega (arith, counted r)) (omega (arith, counted r))

pub returns : goal.returns
returns c =
    let r = (goal.at.returns c).After-read_u16_le-count in
    rw (
      form_at (place r) (bytes r) r.requires (omega (arith, counted r)),
      lt-leb 1 (get_or (bytes r) (place r + 34) 0)
          (omega (arith, counted r)),
    )
