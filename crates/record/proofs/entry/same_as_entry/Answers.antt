-- `record::entry::same_as_entry` meets its contract: the test goes by its pieces (same-pieces). Assumes nothing.
use Prim.Native.Nat.{◌+◌}
use native.Mathlib.Omega.{arith}
use borrow.Author.Tests.{eq-eqb, ne_eqb}
use mathlib.Core.Bool.{Bool, true, false, ◌&&◌}
use mathlib.Core.Path.{◌≡◌, sym, ◌∙◌}
use lib.Dec.{eqb}
use lib.ListN.{get_or}
use Rattle.octet.specs.Part.{part, same, all_zero}
use Rattle.record.specs.Entry.{record_of}
use Rattle.record.proofs.PlaceLaws.{Entry-at, entry_at, same_pieces}
use Rattle.record.proofs.entry.same_as_entry.Goals.{After-equal_words, Else-not-equal_words, Else-not-equal_words-2, Else-not-same_piece, Else-s-at-ne0, Else-s-at-ne1, Start}
use Rattle.record.proofs.entry.same_as_entry.Goals as goal

-- the six tests, in words of what was lent
abbrev keys : Start → Bool
keys b = same (part b.args.at 32 b.args.s.now) (part b.args.start 32 b.args.d.now)

abbrev ports : Start → Bool
ports b = same (part (b.args.at + 32) 2 b.args.s.now) (part (b.args.start + 34) 2 b.args.d.now)

abbrev counts : Start → Bool
counts b = eqb (get_or b.args.s.now (b.args.at + 34) 0) 1

abbrev closed : Start → Bool
closed b = eqb (get_or b.args.s.now (b.args.at + 35) 0) 0

abbrev used : Start → Bool
used b = same (part (b.args.at + 36) 16 b.args.s.now) (part (b.args.start + 38) 16 b.args.d.now)

abbrev unused : Start → Bool
unused b = all_zero (part (b.args.at + 52) 48 b.args.s.now)

pieces : (b : Start)
    → same (part b.args.at 100 b.args.s.now) (record_of (part b.args.start b.args.len b.args.d.now))
    ≡ keys b && ports b && (counts b && closed b) && used b && unused b
pieces b =
    let a = b.args in
    same_pieces a.at a.start a.len a.s.now a.d.now b.requires.at_in_bounds b.requires.len_in_bounds b.requires.d_value

-- the entry lies there whole
whole : (b : Start) → Entry-at b.args.start b.args.len b.args.d.now
whole b = entry_at b.args.start b.args.len b.args.d.now b.requires.len_in_bounds b.requires.d_value

-- each place from that of the next test
abbrev start : After-equal_words → Start
start c = (goal.at.After-equal_words c).Start

abbrev first : Else-not-equal_words → Start
first c = start (goal.at.Else-not-equal_words c).After-equal_words

abbrev second : Else-not-same_piece → Start
second c = first (goal.at.Else-not-same_piece c).Else-not-equal_words

abbrev third : Else-s-at-ne1 → Start
third c = second (goal.at.Else-s-at-ne1 c).Else-not-same_piece

abbrev fourth : Else-s-at-ne0 → Start
fourth c = third (goal.at.Else-s-at-ne0 c).Else-s-at-ne1

abbrev fifth : Else-not-equal_words-2 → Start
fifth c = fourth (goal.at.Else-not-equal_words-2 c).Else-s-at-ne0

-- what each test that was passed says
same_keys : (c : Else-not-equal_words) → keys (first c) ≡ true
same_keys c = sym c.equal_words.ensures ∙ c.if-not-equal_words.false

same-ports : (c : Else-not-same_piece) → ports (second c) ≡ true
same-ports c = sym c.same_piece.ensures ∙ c.if-not-same_piece.false

same-counts : (c : Else-s-at-ne1) → counts (third c) ≡ true
same-counts c = eq-eqb _ _ c.if-s-at-ne1.false

is-closed : (c : Else-s-at-ne0) → closed (fourth c) ≡ true
is-closed c = eq-eqb _ _ c.if-s-at-ne0.false

same-used : (c : Else-not-equal_words-2) → used (fifth c) ≡ true
same-used c = sym c.equal_words-2.ensures ∙ c.if-not-equal_words-2.false

pub equal_words-requires : goal.equal_words-requires
equal_words-requires c = let w = whole (goal.at.equal_words-requires c).Start in record { n_in_bounds = omega arith; n_in_bounds_2 = omega (arith, w.most, w.long) }

pub returns-then-not-equal_words : goal.returns-then-not-equal_words
returns-then-not-equal_words c =
    let e = (goal.at.returns-then-not-equal_words c).After-equal_words in
    let f : keys (start e) ≡ false = sym e.equal_words.ensures ∙ c.if-not-equal_words.true in
    rw (pieces (start e), f)

pub same_piece-requires : goal.same_piece-requires
same_piece-requires c = let w = whole (first (goal.at.same_piece-requires c).Else-not-equal_words) in record { n_in_bounds = omega arith; n_in_bounds_2 = omega (arith, w.most, w.long) }

pub returns-then-not-same_piece : goal.returns-then-not-same_piece
returns-then-not-same_piece c =
    let e = (goal.at.returns-then-not-same_piece c).Else-not-equal_words in
    let f : ports (first e) ≡ false = sym c.same_piece.ensures ∙ c.if-not-same_piece.true in
    rw (pieces (first e), same_keys e, f)

pub returns-then-s-at-ne1 : goal.returns-then-s-at-ne1
returns-then-s-at-ne1 c =
    let e = (goal.at.returns-then-s-at-ne1 c).Else-not-same_piece in
    let f : counts (second e) ≡ false = ne_eqb _ _ c.if-s-at-ne1.true in
    rw (pieces (second e), same_keys (goal.at.Else-not-same_piece e).Else-not-equal_words, same-ports e, f)

pub returns-then-s-at-ne0 : goal.returns-then-s-at-ne0
returns-then-s-at-ne0 c =
    let e₃ = (goal.at.returns-then-s-at-ne0 c).Else-s-at-ne1 in
    let e₂ = (goal.at.returns-then-s-at-ne0 c).Else-not-same_piece in
    let f : closed (third e₃) ≡ false = ne_eqb _ _ c.if-s-at-ne0.true in
    rw (pieces (third e₃), same_keys (goal.at.Else-not-same_piece e₂).Else-not-equal_words, same-ports e₂, same-counts e₃, f)

pub overflow_add-start-2 : goal.overflow_add-start-2
overflow_add-start-2 c = let w = whole (fourth (goal.at.overflow_add-start-2 c).Else-s-at-ne0) in omega (arith, w.least, w.long)

pub equal_words-requires-2 : goal.equal_words-requires-2
equal_words-requires-2 c = let w = whole (fourth (goal.at.equal_words-requires-2 c).Else-s-at-ne0) in record { n_in_bounds = omega arith; n_in_bounds_2 = omega (arith, w.least, w.long) }

pub returns-then-not-equal_words-2 : goal.returns-then-not-equal_words-2
returns-then-not-equal_words-2 c =
    let e₄ = (goal.at.returns-then-not-equal_words-2 c).Else-s-at-ne0 in
    let e₃ = (goal.at.returns-then-not-equal_words-2 c).Else-s-at-ne1 in
    let e₂ = (goal.at.returns-then-not-equal_words-2 c).Else-not-same_piece in
    let f : used (fourth e₄) ≡ false = sym c.equal_words-2.ensures ∙ c.if-not-equal_words-2.true in
    rw (pieces (fourth e₄), same_keys (goal.at.Else-not-same_piece e₂).Else-not-equal_words, same-ports e₂, same-counts e₃, is-closed e₄, f)

pub returns : goal.returns
returns c =
    let e₅ = (goal.at.returns c).Else-not-equal_words-2 in
    let e₄ = (goal.at.returns c).Else-s-at-ne0 in
    let e₃ = (goal.at.returns c).Else-s-at-ne1 in
    let e₂ = (goal.at.returns c).Else-not-same_piece in
    rw (pieces (fifth e₅), same_keys (goal.at.Else-not-same_piece e₂).Else-not-equal_words, same-ports e₂, same-counts e₃, is-closed e₄, same-used e₅)
    c.zero_words.ensures
