-- The parts of a waiting place, where they lie in the table, as they are lent; a place found and freed. Assumes nothing.
use mathlib.Core.Path.{◌≡◌, sym, ap, ◌∙◌}
use mathlib.Core.Logic.{inl, inr}
use mathlib.Core.Bool.{true}
use mathlib.Core.List.{List, [], ◌∷◌}
use Prim.Native.Nat.{ℕ, ◌+◌, ◌-◌, ◌*◌, ◌≤◌, ◌<◌}
use native.Mathlib.Omega.{arith}
use lib.ListN.{length, take, drop, get_or}
use Rattle.octet.specs.Number.{value_be}
use Rattle.octet.specs.Part.{part}
use Rattle.octet.proofs.PartLaws.{length_part}
use Rattle.key.specs.Number.{key_at}
use Rattle.record.specs.Record.{key_of, record_form}
use Rattle.table.specs.Rows.{rows, bytes_of, Laid}
use Rattle.table.proofs.PieceLaws.{part_lent, part-start}
use Rattle.table.proofs.RowLaws.{row_at, rows-length, laid-bytes}
use Rattle.kept.specs.Keys.{Every, ◌∈◌}
use Rattle.cache.specs.Form.{Form}
use Rattle.neighbours.specs.Closest.{candidates, closest_of}
use Rattle.neighbours.proofs.ClosestLaws.{closest-among}
use Rattle.std.specs.Prelude.{Option, Some, None}
use Rattle.waiting.specs.Place.{place_key, place_record}
use Rattle.waiting.specs.Form.{is_inquiry}
use Rattle.waiting.specs.Open.{freed}
use Rattle.table.specs.Seek.{seek}
use Rattle.waiting.proofs.PlaceLaws.{key-at, record_at_lem}
use Rattle.table.proofs.SeekLaws.{found_within}
use Rattle.gauge_commit.specs.Replies.{freed_at}

-- ---- of a place, as lent

module _ (used : ℕ) (t : List ℕ) (at : ℕ) where
  pub record-lent : take ((140 * at + 40 + 100) - (140 * at + 40)) (drop (140 * at + 40) t) ≡ part (140 * at + 40) 100 t
  record-lent = part_lent (140 * at + 40) 100 t

  pub record-place : at < used → part (140 * at + 40) 100 t ≡ place_record (get_or (rows 140 used t) at [])
  record-place h = sym (ap place_record (row_at 140 used t at h) ∙ record_at_lem (140 * at) t)

  pub record_key : key_of (part (140 * at + 40) 100 t) ≡ key_at (140 * at + 40) t
  record_key = ap (value_be 256) (part-start (140 * at + 40) 100 32 t (omega arith))

  pub key-lent : at < used → key_at 0 (take ((140 * at + 8 + 32) - (140 * at + 8)) (drop (140 * at + 8) t)) ≡ place_key (get_or (rows 140 used t) at [])
  key-lent h =
      ap (key_at 0) (part_lent (140 * at + 8) 32 t) ∙ ap (value_be 256) (part-start (140 * at + 8) 32 32 t (omega arith))
      ∙ sym (ap place_key (row_at 140 used t at h) ∙ key-at (140 * at) t)

-- the key lent of a datagram
pub target_lent : (at : ℕ) (d : List ℕ) → key_at 0 (take ((at + 32) - at) (drop at d)) ≡ key_at at d
target_lent at d = ap (key_at 0) (part_lent at 32 d) ∙ ap (value_be 256) (part-start at 32 32 d (omega arith))

pub target_long : (at : ℕ) (d : List ℕ) → at + 32 ≤ length d → length (take ((at + 32) - at) (drop at d)) ≡ 32
target_long at d h = ap length (part_lent at 32 d) ∙ length_part at 32 d h

-- ---- an inquiry found, and none

module _ (k used : ℕ) (t : List ℕ) {found : Option ℕ} (is : found ≡ seek (is_inquiry k) 0 (drop 0 (rows 140 used t))) where
  pub found-used : {at : ℕ} → found ≡ Some at → at < used
  found-used {at} e = omega (arith, found_within (is_inquiry k) at (rows 140 used t) (sym is ∙ e), rows-length 140 used t)

  pub found-freed : {at : ℕ} → found ≡ Some at → freed_at (seek (is_inquiry k) 0 (rows 140 used t)) (rows 140 used t) ≡ freed at (rows 140 used t)
  found-freed e = ap (λ (f : Option ℕ). freed_at f (rows 140 used t)) (sym is ∙ e)

  pub none-freed : found ≡ None → length t ≡ 2240 → Laid 140 used t
      → t ≡ bytes_of 2240 (freed_at (seek (is_inquiry k) 0 (rows 140 used t)) (rows 140 used t))
  none-freed e long laid =
      laid-bytes 140 used t laid ∙ ap (λ (n : ℕ). bytes_of n (rows 140 used t)) long
      ∙ ap (λ (f : Option ℕ). bytes_of 2240 (freed_at f (rows 140 used t))) (sym (sym is ∙ e))
