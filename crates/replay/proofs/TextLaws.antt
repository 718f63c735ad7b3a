-- Lines as text. The texts of a record's lines. Assumes nothing.
use mathlib.Core.Path.{◌≡◌, refl, sym, ap, ap₂, ◌∙◌}
use mathlib.Core.List.{List, [], ◌∷◌, ◌++◌, append-nil}
use Prim.Native.Nat.{ℕ, ◌+◌, ◌≤◌}
use native.Mathlib.Omega.{arith}
use lib.ListN.{length, take, set, length-append}
use borrow.Author.Tests.{eq-eqb, ne_eqb}
use Rattle.octet.specs.Part.{splice}
use Rattle.octet.proofs.PartLaws.{splice-snoc, splice-splice, take-splice}
use Rattle.digits.specs.Digits.{decimal}
use Rattle.digits.proofs.DigitLaws.{length-decimal}
use Rattle.night.specs.Replay.{Line, line, line_of, at_end}
use Rattle.replay.specs.Text.{text_of, texts_of}

pub one_text : (l : Line) → text_of l ≡ texts_of (l ∷ [])
unfolding texts_of
one_text l = sym (append-nil (text_of l))

module _ (at answer : ℕ) (front : List ℕ) where
  pub no_line : at ≡ 0 → answer ≡ 0 → front ≡ front ++ texts_of (line_of at answer)
  unfolding texts_of
  no_line a b = rw (eq-eqb _ _ a, eq-eqb _ _ b) (sym (append-nil front))

  pub bad-first : at ≡ 0 → (answer ≡ 0 → ⊥) → front ++ text_of (line at answer) ≡ front ++ texts_of (line_of at answer)
  bad-first a b = rw (eq-eqb _ _ a, ne_eqb _ _ b) (ap (λ (t : List ℕ). front ++ t) (one_text (line at answer)))

  pub later-line : (at ≡ 0 → ⊥) → front ++ text_of (line at answer) ≡ front ++ texts_of (line_of at answer)
  later-line a = rw (ne_eqb _ _ a) (ap (λ (t : List ℕ). front ++ t) (one_text (line at answer)))

pub empty_trace : (at : ℕ) → at ≡ 0 → text_of (line 0 17) ≡ texts_of (at_end at)
empty_trace at a = rw (eq-eqb _ _ a) (one_text (line 0 17))

pub ended : (at : ℕ) → (at ≡ 0 → ⊥) → [] ≡ texts_of (at_end at)
unfolding texts_of
ended at a = rw (ne_eqb _ _ a) refl

-- a line put together in the code's order: the number, a space, the answer, the line's end
module _ (s : List ℕ) (from : ℕ) (room : from + 42 ≤ length s) (l : Line) where
  pub line-put : (space end : ℕ) (s1 s2 : List ℕ) → space ≡ from + length (decimal l.place) → s1 ≡ splice from (decimal l.place) s
      → end ≡ space + 1 + length (decimal l.answer) → s2 ≡ splice (space + 1) (decimal l.answer) (set s1 space 32)
      → (end + 1 ≤ from + 42) × (take (end + 1) (set s2 end 10) ≡ take from s ++ text_of l)
  unfolding text_of
  line-put space end s1 s2 p q p2 q2 =
      let xs = decimal l.place in
      let ys = decimal l.answer in
      let sp = xs ++ (32 ∷ []) in
      let bs = sp ++ ys in
      let cs = bs ++ (10 ∷ []) in
      let n : length xs ≤ 20 = length-decimal l.place in
      let m : length ys ≤ 20 = length-decimal l.answer in
      let la : length sp ≡ length xs + 1 = length-append xs (32 ∷ []) in
      let lb : length bs ≡ length sp + length ys = length-append sp ys in
      let lc : length cs ≡ length bs + 1 = length-append bs (10 ∷ []) in
      let e1 : set s1 space 32 ≡ splice from sp s =
      ap₂ (λ (k : ℕ) (t : List ℕ). set t k 32) p q ∙ splice-snoc from xs s (omega arith) 32 (omega arith) in
      let e2 : s2 ≡ splice from bs s =
      q2 ∙ ap₂ (λ (k : ℕ) (t : List ℕ). splice k ys t) (omega (arith, p, la)) e1 ∙ splice-splice from sp s (omega arith) ys (omega arith) in
      let at : end ≡ from + length bs = omega (arith, p, p2, la, lb) in
      let e3 : set s2 end 10 ≡ splice from cs s =
      ap₂ (λ (k : ℕ) (t : List ℕ). set t k 10) at e2 ∙ splice-snoc from bs s (omega arith) 10 (omega arith) in
      let all : end + 1 ≡ from + length cs = omega (arith, at, lc) in
      (omega (arith, all, lc, lb, la), ap₂ (λ (k : ℕ) (t : List ℕ). take k t) all e3 ∙ take-splice from cs s (omega arith))
