-- What the writes make of the output: an entry is one piece, and entry and rest are the list from there on. Assumes nothing.
use mathlib.Core.Path.{◌≡◌, refl, sym, ap, ◌∙◌}
use mathlib.Core.List.{List, [], ◌∷◌}
use Prim.Native.Nat.{ℕ, zero, suc, ◌+◌, ◌*◌, ◌≤◌}
use native.Mathlib.Omega.{arith}
use lib.ListN.{length, replicate, length-replicate}
use Rattle.octet.specs.Part.{part, splice}
use Rattle.octet.proofs.PartLaws.{length_part, splice_nil, splice_next}
use Rattle.table.specs.Rows.{rows}
use Rattle.table.proofs.RowLaws.{rows-sized, sized-drop}
use Rattle.merged.specs.declared.merge.Next.{Next}
use Rattle.changed.specs.Entries.{list_bytes}
use Rattle.merged.specs.Steps.{gone_bytes, held_bytes, step_bytes}
use Rattle.changed.proofs.SizeLaws.{list_size}
use Rattle.merged.proofs.StepLaws.{Rest, Stepped}

-- ---- one entry

pub gone_piece : (at i : ℕ) (s out : List ℕ) → 100 * i + 100 ≤ length s → at + 101 ≤ length out
    → splice (at + 33) (replicate 68 0) (splice (at + 1) (part (100 * i) 32 s) (splice at (1 ∷ []) out)) ≡ splice at (gone_bytes s i) out
gone_piece at i s out h r =
    let key = part (100 * i) 32 s in
    let long : length key ≡ 32 = length_part (100 * i) 32 s (omega arith) in
    let zeros : length (replicate {A = ℕ} 68 0) ≡ 68 = length-replicate {A = ℕ} 68 0 in
    ap (splice (at + 33) (replicate 68 0)) (splice_next at 1 (1 ∷ []) key out refl (omega arith))
    ∙ splice_next at 33 (1 ∷ key) (replicate 68 0) out (ap suc long) (omega arith)

pub held_piece : (at kind j : ℕ) (t out : List ℕ) → 100 * j + 100 ≤ length t → at + 101 ≤ length out
    → splice (at + 1) (part (100 * j) 100 t) (splice at (kind ∷ []) out) ≡ splice at (held_bytes kind t j) out
held_piece at kind j t out h r =
    let long : length (part (100 * j) 100 t) ≡ 100 = length_part (100 * j) 100 t (omega arith) in
    splice_next at 1 (kind ∷ []) (part (100 * j) 100 t) out refl (omega arith)

-- by its kind
module _ (s : List ℕ) (i : ℕ) (t : List ℕ) (j at : ℕ) (out : List ℕ) where
  pub kind-none : (kind : ℕ) → kind ≡ 0 → out ≡ splice at (step_bytes kind s i t j) out
  kind-none zero e = sym (splice_nil at out)
  kind-none (suc k) e = absurd (omega arith)

  pub kind-gone : (kind : ℕ) → kind ≡ 1 → splice at (gone_bytes s i) out ≡ splice at (step_bytes kind s i t j) out
  kind-gone zero e = absurd (omega arith)
  kind-gone (suc zero) e = refl
  kind-gone (suc (suc k)) e = absurd (omega arith)

  pub kind-held : (kind : ℕ) → 2 ≤ kind → splice at (held_bytes kind t j) out ≡ splice at (step_bytes kind s i t j) out
  kind-held zero e = absurd (omega arith)
  kind-held (suc zero) e = absurd (omega arith)
  kind-held (suc (suc k)) e = refl

-- ---- entry and rest

pub write_turn : (s : List ℕ) (used : ℕ) (t : List ℕ) (held i j : ℕ) (n : Next) → Stepped s used t held i j n → 100 * held ≤ length t
    → (at : ℕ) (out : List ℕ) → at + 101 * length (Rest s used t held i j) ≤ length out
    → splice (at + 101 * n.entries) (list_bytes (Rest s used t held (i + n.old) (j + n.new))) (splice at (step_bytes n.kind s i t j) out)
    ≡ splice at (list_bytes (Rest s used t held i j)) out
write_turn s used t held i j n d tr at out room =
    let rest = list_bytes (Rest s used t held (i + n.old) (j + n.new)) in
    let long : length rest ≡ 101 * length (Rest s used t held (i + n.old) (j + n.new)) =
    list_size _ _ (sized-drop 100 (j + n.new) (rows 100 held t) (rows-sized 100 held t tr)) in
    splice_next at (101 * n.entries) (step_bytes n.kind s i t j) rest out d.size (omega (arith, d.counted))
    ∙ ap (λ (x : List ℕ). splice at x out) (sym d.written)
