-- The theorems of Sending: each message that a call sends is well formed. Assumes nothing.
use Prim.Native.Nat.{ℕ, ◌+◌, ◌-◌, ◌*◌, ◌<◌, ◌≤◌}
use native.Mathlib.Omega.{arith}
use mathlib.Core.List.{List, [], ◌∷◌, ◌++◌}
use mathlib.Core.Bool.{true, false}
use mathlib.Core.Option.{some}
use mathlib.Core.Path.{◌≡◌, refl, sym, ap, ◌∙◌}
use lib.Dec.{leb, eqb}
use lib.ListN.{length, get_or, length-append, length-replicate}
use lib.Seq.{take_at}
use borrow.Author.Tests.{le-leb, leb-true, eqb-true, eq-eqb}
use Rattle.octet.specs.Number.{Bytes, digits_be, value_be}
use Rattle.octet.specs.Part.{part}
use Rattle.octet.proofs.PartLaws.{part-digits, part_at}
use Rattle.octet.proofs.TestLaws.{both_true}
use Rattle.octet.proofs.BigLaws.{length-digits_be, value_be-digits_be}
use Rattle.octet.proofs.BytesLaws.{bytes_nil, bytes_cons, bytes_append, bytes_digits}
use Rattle.record.specs.Record.{count_of, record_form}
use Rattle.record.specs.Entry.{entry_of}
use Rattle.record.proofs.EntryLaws.{entry_form_lem}
use Rattle.record.proofs.PlaceLaws.{record_at_lem, entry_length, entry_in_lem}
use Rattle.wire_shapes.specs.Field.{number_at, gap}
use Rattle.wire_shapes.specs.Shapes.{has_shape, split_form}
use Rattle.wire_fields.specs.Places.{here}
use Rattle.wire_fields.specs.Kinds.{must, may, acked_kind, split_kind, flags_lbn, kinds_of, joined_fields, sized, derived, flood_kinds, authority_kinds, split_bytes}
use Rattle.wire_fields.specs.Message.{Held, layout_of, message_bytes}
use Rattle.wire_shapes.specs.declared.Shape.TheVariants.{Sized, Entry}
use Rattle.wire_write.specs.Writing.{fit}
use Rattle.wire_write.specs.Sent.{flood_sent, cpa_sent, closest_sent}
use Rattle.wire_write.specs.Making.{flood_made, inquire_made, cpa_made, closest_made, formed_at}
use Rattle.wire.specs.Sending.{AckFormed, FloodFormed, InquireFormed, CpaFormed, ClosestFormed}

-- ---- fields that are the writer's own

small_bytes : (a b : ℕ) → a < 256 → b < 256 → Bytes (a ∷ b ∷ [])
small_bytes a b p q = bytes_cons a (b ∷ []) p (bytes_cons b [] q bytes_nil)

acked_held : (acked : ℕ) → Held acked_kind (digits_be 256 4 acked)
unfolding has_shape
acked_held acked =
    let l = length-digits_be 256 4 acked in
    record { shaped = eq-eqb (length (digits_be 256 4 acked)) 4 l; clear = refl; whole = bytes_digits 4 acked; short = omega arith }

key-held : (n : ℕ) (key : List ℕ) → length key ≡ 32 → Bytes key → Held (must n false (Sized 32) []) key
unfolding has_shape
key-held n key l b = record { shaped = eq-eqb (length key) 32 l; clear = refl; whole = b; short = omega arith }

entry_bytes_lem : (major minor at n : ℕ) (s : List ℕ) → major < 256 → minor < 256 → Bytes s
    → Bytes (part at 32 s ++ (major ∷ minor ∷ []) ++ part (at + 32) 2 s ++ (0 ∷ get_or s (at + 34) 0 ∷ []) ++ part (at + 36) n s)
entry_bytes_lem major minor at n s p q b =
    let k = part at 32 s in
    let v : List ℕ = major ∷ minor ∷ [] in
    let o = part (at + 32) 2 s in
    let c : List ℕ = 0 ∷ get_or s (at + 34) 0 ∷ [] in
    bytes_append (k ++ v ++ o ++ c) (part (at + 36) n s)
    (bytes_append (k ++ v ++ o) c
    (bytes_append (k ++ v) o (bytes_append k v (part-digits 256 at 32 s (omega arith) b) (small_bytes major minor p q))
    (part-digits 256 (at + 32) 2 s (omega arith) b))
    (small_bytes 0 (get_or s (at + 34) 0) (omega arith) (b (at + 34))))
    (part-digits 256 (at + 36) n s (omega arith) b)

entry-held : (major minor at : ℕ) (s : List ℕ) → major < 256 → minor < 256 → Bytes s → formed_at at s ≡ true
    → Held (may 0x9A true Entry []) (entry_of major minor (part at 100 s)) × (length (entry_of major minor (part at 100 s)) ≤ 102)
unfolding has_shape
entry-held major minor at s p q b e =
    let w = both_true (leb (at + 100) (length s)) (record_form (part at 100 s)) e in
    let h : at + 100 ≤ length s = leb-true _ _ w.0 in
    let m = record_at_lem at s h w.1 in
    let m₁ = m.1 in
    let l = entry_length major minor at s h m.1 in (
      record {
        shaped = entry_form_lem major minor (part at 100 s) w.1;
        clear = refl;
        whole = rw (entry_in_lem major minor at s m.1) (entry_bytes_lem major minor at (16 * get_or s (at + 34) 0) s p q b);
        short = omega arith;
      },
      omega arith,
    )

-- what fits is no longer than a datagram
fit_small : (b old : List ℕ) → fit b old ≡ true → length b ≤ 1232
unfolding fit
fit_small b old f = leb-true (length b) 1232 (both_true (leb (length b) (length old)) (leb (length b) 1232) f).1

-- ---- the messages

pub ack_formed : AckFormed
unfolding kinds_of joined_fields sized has_shape digits_be
ack_formed major minor id acked true h =
    record {
      known = refl;
      major-byte = h.0;
      minor-byte = h.1;
      type-byte = omega arith;
      id-small = h.2;
      formed = (
        acked_held acked,
        (
          record {
            shaped = refl;
            clear = refl;
            whole = small_bytes 0 1 (omega arith) (omega arith);
            short = omega arith;
          },
          tt,
        ),
      );
      joins = refl;
      sizes = refl;
      fits = omega arith;
    }
ack_formed major minor id acked false h =
    record {
      known = refl;
      major-byte = h.0;
      minor-byte = h.1;
      type-byte = omega arith;
      id-small = h.2;
      formed = (acked_held acked, (refl, tt));
      joins = refl;
      sizes = refl;
      fits = omega arith;
    }

pub inquire_formed : InquireFormed
unfolding kinds_of joined_fields sized has_shape inquire_made digits_be
inquire_formed major minor id key nonce h bk bn e =
    let w = both_true (eqb (length key) 32) (eqb (length nonce) 16) e in
    let lk : length key ≡ 32 = eqb-true _ _ w.0 in
    let ln : length nonce ≡ 16 = eqb-true _ _ w.1 in
    record {
      known = refl;
      major-byte = h.0;
      minor-byte = h.1;
      type-byte = omega arith;
      id-small = h.2;
      formed = (
        record { shaped = refl; clear = refl; whole = small_bytes 0 0x10 (omega arith) (omega arith); short = omega arith },
        (key-held 0x39 key lk bk, (record { shaped = w.1; clear = refl; whole = bn; short = omega arith }, (refl, (refl, (refl, tt))))),
      );
      joins = refl;
      sizes = refl;
      fits = simp (length-append, lk, ln) (omega arith);
    }

pub flood_formed : FloodFormed
unfolding kinds_of joined_fields sized has_shape flood_made
flood_formed major minor id key s at old h bk bs e f =
    let w = both_true (eqb (length key) 32) (formed_at at s) e in
    let lk : length key ≡ 32 = eqb-true _ _ w.0 in
    let n = entry-held major minor at s h.0 h.1 bs w.1 in
    record {
      known = refl;
      major-byte = h.0;
      minor-byte = h.1;
      type-byte = omega arith;
      id-small = h.2;
      formed = (
        record {
          shaped = refl;
          clear = refl;
          whole = bytes_cons 0 (0 ∷ 0 ∷ []) (omega arith)
              (small_bytes 0 0 (omega arith) (omega arith));
          short = omega arith;
        },
        (key-held 0x39 key lk bk, (refl, (refl, (n.0, (refl, tt))))),
      );
      joins = refl;
      sizes = refl;
      fits = fit_small (message_bytes (layout_of flood_kinds (flood_sent major minor id key (part at 100 s)))) old f;
    }

-- split controls of a whole buffer
split_size : (size : ℕ) → size ≤ 1232 → number_at 0 2 (split_bytes size) ≡ size
split_size size h =
    ap (value_be 256) (take_at (digits_be 256 2 size) (0 ∷ 0 ∷ []) 2 (length-digits_be 256 2 size))
    ∙ value_be-digits_be 256 2 size (omega arith) (omega arith)

split_offset : (size : ℕ) → number_at 2 2 (split_bytes size) ≡ 0
unfolding digits_be value_be
split_offset size = refl

pub split_held : (size : ℕ) → size ≤ 1232 → Held split_kind (split_bytes size)
unfolding has_shape split_form
split_held size h =
    let l : length (split_bytes size) ≡ 4 = length-append (digits_be 256 2 size) (0 ∷ 0 ∷ []) ∙ omega (arith, length-digits_be 256 2 size) in
    record {
      shaped = rw (eq-eqb (length (split_bytes size)) 4 l, split_size size h, le-leb size 0x91E4 (omega arith), split_offset size);
      clear = refl;
      whole = bytes_append (digits_be 256 2 size) (0 ∷ 0 ∷ []) (bytes_digits 2 size) (small_bytes 0 0 (omega arith) (omega arith));
      short = omega arith;
    }

pub follows : (total s l size : ℕ) → size ≤ 1232 → total - (s + l) ≡ size → derived total (here s l) (some (split_bytes size)) ≡ true
follows total s l size h e =
    rw (
      eq-eqb (number_at 0 2 (split_bytes size)) (total - (s + l)) (split_size size h ∙ sym e),
      eq-eqb (number_at 2 2 (split_bytes size)) 0 (split_offset size),
    )

flags_held : Held (must 0x40 true (Sized 2) flags_lbn) (0 ∷ 0 ∷ [])
unfolding has_shape
flags_held = record { shaped = refl; clear = refl; whole = small_bytes 0 0 (omega arith) (omega arith); short = omega arith }

pub cpa_formed : CpaFormed
unfolding kinds_of joined_fields sized has_shape cpa_made digits_be
cpa_formed major minor id acked cpa old h b f =
    let n : length (message_bytes (layout_of authority_kinds (cpa_sent major minor id acked cpa))) ≡ 40 + length cpa = simp length-append (omega arith) in
    let m : length (message_bytes (layout_of authority_kinds (cpa_sent major minor id acked cpa))) ≤ 1232 = fit_small _ old f in
    record {
      known = refl;
      major-byte = h.0;
      minor-byte = h.1;
      type-byte = omega arith;
      id-small = h.2;
      formed = (
        acked_held acked,
        (
          split_held (12 + length cpa) (omega arith),
          (
            flags_held,
            (
              refl,
              (
                refl,
                (
                  refl,
                  (
                    refl,
                    (
                      refl,
                      (record { shaped = refl; clear = refl; whole = b; short = omega arith }, tt),
                    ),
                  ),
                ),
              ),
            ),
          ),
        ),
      );
      joins = refl;
      sizes = follows (length (message_bytes (layout_of authority_kinds (cpa_sent major minor id acked cpa)))) 24 4 (12 + length cpa) (omega arith)
          (omega arith);
      fits = m;
    }

pub closest_formed : ClosestFormed
unfolding kinds_of joined_fields sized has_shape closest_made digits_be
closest_formed major minor id acked s at h b e =
    let w = both_true (leb (at + 100) (length s)) (record_form (part at 100 s)) e in
    let in-s : at + 100 ≤ length s = leb-true _ _ w.0 in
    let c : count_of (part at 100 s) ≡ get_or s (at + 34) 0 = part_at at 100 34 s (omega arith) in
    let most = (record_at_lem at s in-s w.1).1 in
    let k = entry-held major minor at s h.0 h.1 b e in
    let x = entry_of major minor (part at 100 s) in
    let l : length x ≡ 38 + 16 * get_or s (at + 34) 0 = entry_length major minor at s in-s most in
    let g : gap true (36 + (length x + 4)) ≡ 2 = omega arith in
    let z = length-replicate {A = ℕ} (gap true (36 + (length x + 4))) 0 in
    let n : length (message_bytes (layout_of authority_kinds (closest_sent major minor id acked (part at 100 s)))) ≡ 80 + 16 * count_of (part at 100 s) =
    simp length-append (omega arith) in
    record {
      known = refl;
      major-byte = h.0;
      minor-byte = h.1;
      type-byte = omega arith;
      id-small = h.2;
      formed = (
        acked_held acked,
        (
          split_held (52 + 16 * count_of (part at 100 s)) (omega arith),
          (flags_held, (refl, (refl, (refl, (refl, (k.0, (refl, tt))))))),
        ),
      );
      joins = refl;
      sizes = follows (length (message_bytes (layout_of authority_kinds (closest_sent major minor id acked (part at 100 s))))) 24 4
          (52 + 16 * count_of (part at 100 s))
          (omega arith) (omega arith);
      fits = omega arith;
    }
