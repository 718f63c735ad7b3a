-- Laws of numbers and flags in contents: what is kept of them is what the answer says. Assumes nothing.
use Prim.Native.Nat.{ℕ, zero, suc, ◌+◌, ◌*◌, ◌/◌, ◌%◌, ◌≤◌, ◌<◌}
use native.Mathlib.Nat.{mod-lt}
use native.Mathlib.Omega.{arith}
use mathlib.Core.List.{List, [], ◌∷◌, ◌++◌}
use mathlib.Core.Bool.{Bool, true, false, cond}
use mathlib.Core.Path.{◌≡◌, refl, sym, ap, ap₂, ◌∙◌}
use lib.Dec.{eqb}
use lib.ListN.{length, get_or}
use Rattle.octet.specs.Number.{Bytes, digits_be}
use Rattle.octet.specs.Part.{part}
use Rattle.octet.proofs.PartLaws.{length_part, part_at, part_two, part_one, part_add}
use Rattle.wire_shapes.specs.Field.{number_at, keep}
use Rattle.wire_fields.specs.Kinds.{none_of_two, last_of_two, last_of_two_and_one, flags_axc, flags_lbn, keep_lookup, split_bytes}
use Rattle.wire_fields.proofs.HeadLaws.{digits_at}
use Rattle.wire_buffer.specs.Buffer.{flag_at}
use Rattle.wire_read.specs.Answers.{precision_at}
use Rattle.wire_read.specs.Meaning.{bit}

-- a bit of a byte as a flag
pub bit_of : (n : ℕ) → n < 2 → n ≡ bit (eqb n 1)
bit_of zero h = refl
bit_of (suc zero) h = refl
bit_of (suc (suc n)) h = absurd (omega arith)

-- the bit of a weight, kept
pub flag_bit : (d : List ℕ) (s j w : ℕ) → get_or d (s + j) 0 / w % 2 ≡ bit (flag_at d s j w)
unfolding flag_at
flag_bit d s j w = bit_of (get_or d (s + j) 0 / w % 2) (mod-lt (get_or d (s + j) 0 / w) (omega arith))

two_bytes : (d : List ℕ) (s : ℕ) → s + 2 ≤ length d → part s 2 d ≡ get_or d (s + 0) 0 ∷ get_or d (s + 1) 0 ∷ []
two_bytes d s h = let z : s ≡ s + 0 = omega arith in part_two s d h ∙ ap (λ (n : ℕ). get_or d n 0 ∷ get_or d (s + 1) 0 ∷ []) z

three_bytes : (d : List ℕ) (s : ℕ) → s + 3 ≤ length d → part s 3 d ≡ get_or d (s + 0) 0 ∷ get_or d (s + 1) 0 ∷ get_or d (s + 2) 0 ∷ []
three_bytes d s h = part_add s 2 1 d ∙ ap₂ ◌++◌ (two_bytes d s (omega arith)) (part_one (s + 2) d (omega arith))

module _ (d : List ℕ) (s : ℕ) where
  pub none_kept : s + 2 ≤ length d → keep none_of_two (part s 2 d) ≡ 0 ∷ 0 ∷ []
  none_kept h = rw (two_bytes d s h)

  pub last-kept : s + 2 ≤ length d → keep last_of_two (part s 2 d) ≡ 0 ∷ bit (flag_at d s 1 1) ∷ []
  last-kept h =
      let e : get_or d (s + 1) 0 / 1 % 2 * 1 + 0 ≡ bit (flag_at d s 1 1) = omega (arith, flag_bit d s 1 1) in
      rw (two_bytes d s h, e)

  pub controls-kept : s + 3 ≤ length d → keep last_of_two_and_one (part s 3 d) ≡ 0 ∷ bit (flag_at d s 1 1) ∷ 0 ∷ []
  controls-kept h =
      let e : get_or d (s + 1) 0 / 1 % 2 * 1 + 0 ≡ bit (flag_at d s 1 1) = omega (arith, flag_bit d s 1 1) in
      rw (three_bytes d s h, e)

  pub axc-kept : s + 2 ≤ length d
      → keep flags_axc (part s 2 d) ≡ 0 ∷ (16 * bit (flag_at d s 1 16) + (8 * bit (flag_at d s 1 8) + 4 * bit (flag_at d s 1 4))) ∷ []
  axc-kept h =
      let b = get_or d (s + 1) 0 in
      let e : b / 16 % 2 * 16 + (b / 8 % 2 * 8 + (b / 4 % 2 * 4 + 0))
      ≡ 16 * bit (flag_at d s 1 16) + (8 * bit (flag_at d s 1 8) + 4 * bit (flag_at d s 1 4)) =
      rw (flag_bit d s 1 16, flag_bit d s 1 8, flag_bit d s 1 4) (omega arith) in
      rw (two_bytes d s h, e)

  pub lbn-kept : s + 2 ≤ length d
      → keep flags_lbn (part s 2 d) ≡ (2 * bit (flag_at d s 0 2)) ∷ (8 * bit (flag_at d s 1 8) + bit (flag_at d s 1 1)) ∷ []
  lbn-kept h =
      let a = get_or d (s + 0) 0 in
      let b = get_or d (s + 1) 0 in
      let e : a / 2 % 2 * 2 + 0 ≡ 2 * bit (flag_at d s 0 2) = rw (flag_bit d s 0 2) (omega arith) in
      let f : b / 8 % 2 * 8 + (b / 1 % 2 * 1 + 0) ≡ 8 * bit (flag_at d s 1 8) + bit (flag_at d s 1 1) =
      rw (flag_bit d s 1 8, flag_bit d s 1 1) (omega arith) in
      rw (two_bytes d s h, e, f)

  -- four bytes as a number
  pub acked-bytes : Bytes d → s + 4 ≤ length d → part s 4 d ≡ digits_be 256 4 (number_at s 4 d)
  acked-bytes b h = sym (digits_at s 4 d b h)

  -- split controls of a whole message
  pub split-bytes : (n : ℕ) → Bytes d → s + 4 ≤ length d → number_at s 2 d ≡ n → number_at (s + 2) 2 d ≡ 0 → part s 4 d ≡ split_bytes n
  unfolding digits_be
  split-bytes n b h p q =
      part_add s 2 2 d
      ∙ ap₂ ◌++◌ (sym (digits_at s 2 d b (omega arith)) ∙ ap (digits_be 256 2) p) (sym (digits_at (s + 2) 2 d b (omega arith)) ∙ ap (digits_be 256 2) q)

  -- LOOKUP's controls
  precise : (t : Bool) → Bytes d → eqb (get_or d (s + 4) 0) 8 ≡ t
      → cond t (get_or d (s + 2) 0) 0 ∷ cond t (get_or d (s + 3) 0) 0 ∷ [] ≡ digits_be 256 2 (precision_at d s)
  unfolding precision_at digits_be
  precise true b q =
      let b₂ = b (s + 2) in
      let b₃ = b (s + 3) in
      let x = get_or d (s + 2) 0 in
      let y = get_or d (s + 3) 0 in
      let e : (x * 256 + y) / 256 % 256 ≡ x = omega arith in
      let f : (x * 256 + y) / 1 % 256 ≡ y = omega arith in
      rw (q, e, f)
  precise false b q = rw q

  pub lookup-kept : Bytes d → s + 8 ≤ length d
      → keep_lookup (part s 8 d)
      ≡ 0 ∷ (2 * bit (flag_at d s 1 2)) ∷ (digits_be 256 2 (precision_at d s) ++ (get_or d (s + 4) 0 ∷ get_or d (s + 5) 0 ∷ 0 ∷ 0 ∷ []))
  lookup-kept b h =
      let e : get_or d (s + 1) 0 / 2 % 2 * 2 + 0 ≡ 2 * bit (flag_at d s 1 2) = rw (flag_bit d s 1 2) (omega arith) in
      rw (
        length_part s 8 d h,
        part_at s 8 1 d (omega arith),
        part_at s 8 2 d (omega arith),
        part_at s 8 3 d (omega arith),
        part_at s 8 4 d (omega arith),
        part_at s 8 5 d (omega arith),
        e,
        sym (precise (eqb (get_or d (s + 4) 0) 8) b refl),
      )
