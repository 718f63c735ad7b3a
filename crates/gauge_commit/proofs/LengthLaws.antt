-- How long the datagrams are that the calls send: ACK 20 or 26, INQUIRE 76, AUTHORITY 40 and its CPA, or 80 and its addresses, FLOOD 100 and its
-- addresses. Assumes nothing.
use mathlib.Core.Path.{◌≡◌, refl, sym, ap, ◌∙◌}
use mathlib.Core.Bool.{Bool, true, false, cond}
use mathlib.Core.List.{List}
use Prim.Native.Nat.{ℕ, ◌+◌, ◌*◌, ◌≤◌}
use native.Mathlib.Omega.{arith}
use lib.ListN.{length, length-append, length-replicate}
use Rattle.octet.specs.Number.{digits_be}
use Rattle.octet.specs.Part.{part}
use Rattle.octet.proofs.PartLaws.{part_at}
use Rattle.record.specs.Record.{count_of, record_form}
use Rattle.record.specs.Entry.{entry_of}
use Rattle.record.proofs.PlaceLaws.{record_at_lem, entry_length}
use Rattle.wire_write.specs.Making.{ack_made, flood_made, inquire_made, cpa_made, closest_made}

module _ (major minor id : ℕ) where
  pub ack-length : (acked : ℕ) (n : Bool) → length (ack_made major minor id acked n).bytes ≡ cond n 26 20
  unfolding ack_made digits_be
  ack-length acked true = refl
  ack-length acked false = refl

  pub inquire-length : (key nonce : List ℕ) → length key ≡ 32 → length nonce ≡ 16 → length (inquire_made major minor id key nonce).bytes ≡ 76
  unfolding inquire_made digits_be
  inquire-length key nonce k n = simp length-append (omega arith)

  pub cpa_length : (acked : ℕ) (cpa : List ℕ) → length (cpa_made major minor id acked cpa).bytes ≡ 40 + length cpa
  unfolding cpa_made digits_be
  cpa_length acked cpa = simp length-append (omega arith)

  -- of the record in form at a place
  module _ (s : List ℕ) (at : ℕ) (h : at + 100 ≤ length s) (formed : record_form (part at 100 s) ≡ true) where
    entry-long : length (entry_of major minor (part at 100 s)) ≡ 38 + 16 * count_of (part at 100 s)
    entry-long =
        entry_length major minor at s h (record_at_lem at s h formed).1
        ∙ ap (λ (c : ℕ). 38 + 16 * c) (sym (part_at at 100 34 s (omega arith)))

    pub closest-length : (acked : ℕ) → length (closest_made major minor id acked s at).bytes ≡ 80 + 16 * count_of (part at 100 s)
    unfolding closest_made digits_be
    closest-length acked = let e = entry-long in simp (length-append, length-replicate) (omega arith)

    pub flood-length : (key : List ℕ) → length key ≡ 32 → length (flood_made major minor id key s at).bytes ≡ 100 + 16 * count_of (part at 100 s)
    unfolding flood_made digits_be
    flood-length key k = let e = entry-long in simp (length-append, length-replicate) (omega arith)
