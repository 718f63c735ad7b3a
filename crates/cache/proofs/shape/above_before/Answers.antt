-- `cache::shape::above_before` meets its contract: by the first words, or where they are the same by the others. Assumes nothing.
use mathlib.Core.Path.{◌≡◌, sym, ap, ◌∙◌}
use mathlib.Core.List.{List}
use Prim.Native.Nat.{ℕ, zero, suc, ◌-◌, ◌*◌, ◌/◌}
use native.Mathlib.Omega.{arith}
use Rattle.octet.specs.Number.{value_be}
use Rattle.octet.specs.Part.{part}
use Rattle.key.specs.Number.{key_at}
use Rattle.key.proofs.OrderLaws.{test_more}
use Rattle.cache.specs.Place.{Carried}
use Rattle.search.proofs.SeekLaws.{first_more}
use Rattle.own.proofs.LowLaws.{low_first, low_next}
use Rattle.cache.proofs.ShapeLaws.{low_words}
use Rattle.cache.proofs.shape.above_before.Goals.{Start}
use Rattle.cache.proofs.shape.above_before.Goals as goal

-- what is carried, by the place before
carried_at : (s : List ℕ) (i last : ℕ) → Carried s i last → ¬ (i ≡ 0) → last ≡ value_be 256 (part (100 * (i - 1)) 8 s)
carried_at s zero last is d = absurd (d (omega arith))
carried_at s (suc i) last is d =
    let p : 100 * i ≡ 100 * (suc i - 1) = omega arith in
    is ∙ ap (λ (n : ℕ). value_be 256 (part n 8 s)) p

-- a place that does not begin at the first byte is not the first
later : (s : Start) → ¬ (s.args.at ≡ 0) → ¬ (s.args.at / 100 ≡ 0)
later s n e = n (omega (arith, s.requires.at_in_bounds.1, e))

pub returns-then-last-word : goal.returns-then-last-word
returns-then-last-word c =
    let known = c in
    let start = c in
    let a = start.args in
    low_words a.cache.now (a.at / 100) a.last (λ i. omega (arith, known.type_inv.cache i)) (omega (arith, start.requires.at_in_bounds)) start.requires.carried
    (omega (arith, c.if-last-word.true, start.requires.word_value))

pub returns-then-at-eq0 : goal.returns-then-at-eq0
returns-then-at-eq0 c =
    let a = c.args in
    sym (low_first a.cache.now (a.at / 100) (key_at (100 * (a.at / 100)) a.cache.now) (omega (arith, c.if-at-eq0.true)))

pub returns-then-word-last : goal.returns-then-word-last
returns-then-word-last c =
    let known = c in
    let start = (goal.at.returns-then-word-last c).Start in
    let a = start.args in
    let s = a.cache.now in
    let room = start.requires.at_in_bounds in
    let i = a.at / 100 in
    let last = carried_at s i a.last start.requires.carried (later start c.if-at-eq0.false) in
    sym (low_next s i (key_at (100 * i) s) (later start c.if-at-eq0.false)
    ∙ (test_more (key_at (100 * (i - 1)) s) (key_at (100 * i) s)
    (first_more (100 * (i - 1)) (100 * i) s s (λ i. omega (arith, known.type_inv.cache i))
    (λ i. omega (arith, known.type_inv.cache i)) (omega (arith, room)) (omega (arith, room))
    (omega (arith, c.if-word-last.true, last, start.requires.word_value)))).0)

pub rest_above-requires : goal.rest_above-requires
rest_above-requires c =
    let start = (goal.at.rest_above-requires c).Start in
    let a = start.args in
    let n = later start c.if-at-eq0.false in
    let last = carried_at a.cache.now (a.at / 100) a.last start.requires.carried n in
    record { i_nonzero = (omega (arith, n), omega (arith, start.requires.at_in_bounds)); cache_value = omega (arith, c.if-word-last.false, c.if-last-word.false, last, start.requires.word_value) }

pub returns : goal.returns
returns c =
    let start = (goal.at.returns c).Start in
    let a = start.args in
    c.rest_above.ensures
    ∙ sym (low_next a.cache.now (a.at / 100) (key_at (100 * (a.at / 100)) a.cache.now) (later start c.if-at-eq0.false))
