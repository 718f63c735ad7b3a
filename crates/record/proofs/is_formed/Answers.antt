-- `record::is_formed` meets its contract: count and zero byte are one number, and that is 1. Assumes nothing.
use mathlib.Core.Path.{◌≡◌, sym, ap, ◌∙◌}
use mathlib.Core.Bool.{Bool, true, false, ◌&&◌}
use mathlib.Core.List.{List}
use Prim.Native.Nat.{ℕ, ◌+◌, ◌*◌}
use native.Mathlib.Omega.{arith}
use lib.ListN.{get_or}
use Rattle.octet.specs.Part.{part, all_zero}
use Rattle.record.specs.Record.{record_form}
use Rattle.record.proofs.PlaceLaws.{form_one, form_not, count_word, zero_halves}
use Rattle.record.proofs.is_formed.Goals.{After-read_u16_le-count, After-zero_three}
use Rattle.record.proofs.is_formed.Goals as goal

-- the place and the bytes, and what was read there
abbrev place : After-read_u16_le-count → ℕ
place r = r.args.at

abbrev bytes : After-read_u16_le-count → List ℕ
bytes r = r.args.s.now

counted : (r : After-read_u16_le-count) → r.read_u16_le-count.result ≡ get_or (bytes r) (place r + 35) 0 * 256 + get_or (bytes r) (place r + 34) 0
counted r = r.read_u16_le-count.ensures ∙ count_word (place r) (bytes r) (omega (arith, r.requires))

pub returns-then-count-ne1 : goal.returns-then-count-ne1
returns-then-count-ne1 c =
    let r = (goal.at.returns-then-count-ne1 c).After-read_u16_le-count in
    form_not (place r) (bytes r) r.requires (λ e. c.if-count-ne1.true (omega (arith, counted r, e)))

-- the number is 1, so the form is that what follows the first address is zero, in two halves
left_is : (l : After-zero_three) → let r = (goal.at.After-zero_three l).After-read_u16_le-count in
    all_zero (part (place r + 52) 24 (bytes r)) && all_zero (part (place r + 76) 24 (bytes r)) ≡ record_form (part (place r) 100 (bytes r))
left_is l =
    let r = (goal.at.After-zero_three l).After-read_u16_le-count in
    zero_halves (place r) (bytes r)
    ∙ form_one (place r) (bytes r) r.requires (omega (arith, counted r, l.if-count-ne1.false))

pub returns-then-not-zero_three : goal.returns-then-not-zero_three
returns-then-not-zero_three c =
    let l = (goal.at.returns-then-not-zero_three c).After-zero_three in
    let r = (goal.at.returns-then-not-zero_three c).After-read_u16_le-count in
    let z : all_zero (part (place r + 52) 24 (bytes r)) ≡ false = sym l.zero_three.ensures ∙ c.if-not-zero_three.true in
    ap (λ (b : Bool). b && all_zero (part (place r + 76) 24 (bytes r))) (sym z) ∙ left_is l

pub returns : goal.returns
returns c =
    let l = (goal.at.returns c).After-zero_three in
    let r = (goal.at.returns c).After-read_u16_le-count in
    let z : all_zero (part (place r + 52) 24 (bytes r)) ≡ true = sym l.zero_three.ensures ∙ c.if-not-zero_three.false in
    c.zero_three-2.ensures ∙ ap (λ (b : Bool). b && all_zero (part (place r + 76) 24 (bytes r))) (sym z) ∙ left_is l
