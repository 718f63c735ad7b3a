-- Laws of the datagrams that the calls send, as they are put: one run after another from the start of the output on; what is known of each
-- message, and what is given and left where it has no room or is there. Assumes nothing.
use Prim.Native.Nat.{ℕ, ◌+◌, ◌-◌, ◌*◌, ◌%◌, ◌≤◌, ◌<◌}
use native.Mathlib.Omega.{arith}
use mathlib.Core.List.{List, ◌++◌, append_assoc, append-nil}
use mathlib.Core.Bool.{Bool, true, false, cond}
use mathlib.Core.Path.{◌≡◌, refl, sym, ap, ◌∙◌}
use lib.Dec.{leb}
use lib.ListN.{length, get_or, length-append}
use lib.Seq.{take_all}
use borrow.Author.Tests.{le-leb, lt-leb, leb-true}
use Rattle.octet.specs.Number.{digits_be}
use Rattle.octet.specs.Part.{part, splice}
use Rattle.octet.proofs.PartLaws.{part_at}
use Rattle.octet.proofs.TestLaws.{both_true}
use Rattle.octet.proofs.BigLaws.{length-digits_be}
use Rattle.record.proofs.PlaceLaws.{record_at_lem, entry_length}
use Rattle.record.specs.Record.{count_of, record_form}
use Rattle.record.specs.Entry.{entry_of}
use Rattle.wire_shapes.proofs.ShapeLaws.{and_false}
use Rattle.wire_write.specs.Writing.{Made, fit, Wrote}
use Rattle.wire_write.specs.Making.{ack_made, flood_made, inquire_made, cpa_made, closest_made, formed_at}
use Rattle.wire_write.proofs.PutLaws.{put-put, head_length}
use Rattle.wire_write.proofs.WriteLaws.{wrote-15, wrote_by}
use Rattle.wire_sent.specs.Fronts.{header_bytes, mark, word_field, entry_field, entry_len, acked_front, answer_front, key_front}

-- a run right after those from the start on
pub next : (o : List ℕ) (n : ℕ) (xs ys : List ℕ) {a b : List ℕ} → a ≡ splice 0 xs o → length xs ≡ n → n + length ys ≤ length o → b ≡ splice n ys a
    → b ≡ splice 0 (xs ++ ys) o
next o n xs ys e l h f = f ∙ ap (splice n ys) e ∙ put-put o 0 xs (omega arith) n ys (omega arith) h

-- ---- runs that several datagrams have

module _ (major minor kind id : ℕ) (o : List ℕ) {h : List ℕ} (e : h ≡ splice 0 (header_bytes major minor kind id) o) where
  pub acked-put : (acked : ℕ) {a : List ℕ} → 20 ≤ length o → a ≡ splice 12 (word_field 0x18 4 acked) h
      → a ≡ splice 0 (acked_front major minor kind id acked) o
  unfolding digits_be
  acked-put acked l f = next o 12 (header_bytes major minor kind id) (word_field 0x18 4 acked) e refl (omega arith) f

  pub key-put : (number len word : ℕ) (key : List ℕ) {a b c : List ℕ} → length key ≡ 32 → 56 ≤ length o → a ≡ splice 12 (word_field number len word) h
      → b ≡ splice 20 (mark 0x39 32) a → c ≡ splice 24 (part 0 32 key) b → c ≡ splice 0 (key_front major minor kind id number len word key) o
  unfolding digits_be
  key-put number len word key {a} {b} k l f g i =
      let x = header_bytes major minor kind id in
      let y = x ++ word_field number len word in
      let whole : part 0 32 key ≡ key = take_all 32 key (omega arith) in
      next o 24 (y ++ mark 0x39 32) key
      (next o 20 y (mark 0x39 32) (next o 12 x (word_field number len word) e refl (omega arith) f) refl (omega arith) g)
      refl (omega arith) (i ∙ ap (λ (v : List ℕ). splice 24 v b) whole)

pub answer-put : (major minor id acked size : ℕ) (o : List ℕ) {h a b c d : List ℕ} → 36 ≤ length o
    → h ≡ splice 0 (acked_front major minor 8 id acked) o → a ≡ splice 20 (mark 0x98 4) h → b ≡ splice 24 (digits_be 256 2 size) a
    → c ≡ splice 26 (digits_be 256 2 0) b → d ≡ splice 28 (word_field 0x40 2 0) c
    → d ≡ splice 0 (answer_front major minor id acked size) o
unfolding digits_be
answer-put major minor id acked size o l e f g i j =
    let x = acked_front major minor 8 id acked in
    let y = x ++ mark 0x98 4 in
    let z = y ++ digits_be 256 2 size in
    next o 28 (z ++ digits_be 256 2 0) (word_field 0x40 2 0)
    (next o 26 z (digits_be 256 2 0)
    (next o 24 y (digits_be 256 2 size) (next o 20 x (mark 0x98 4) e refl (omega arith) f) refl (omega arith) g) refl (omega arith) i)
    refl (omega arith) j

-- ---- what a writer gives and leaves

-- a message whose fields are right: its bytes, and how many
pub record Known (m : Made) (b : List ℕ) (n : ℕ) : Type 0 where
  pub ok : m.ok ≡ true
  pub is : m.bytes ≡ b
  pub long : length b ≡ n

module _ {m : Made} {b : List ℕ} {n : ℕ} (k : Known m b n) (old : List ℕ) where
  size : length m.bytes ≡ n
  size = ap length k.is ∙ k.long

  pub wrote-short : length old < n → Wrote m old (record { number = 15; length = 0 }) old
  unfolding fit
  wrote-short h = wrote-15 m old k.ok (rw (size, lt-leb n (length old) h) refl)

  pub wrote-long : 1232 < n → Wrote m old (record { number = 15; length = 0 }) old
  unfolding fit
  wrote-long h = wrote-15 m old k.ok (rw (size, lt-leb n 1232 h) (and_false (leb n (length old))))

  pub wrote_right : {out : List ℕ} → n ≤ length old → n ≤ 1232 → out ≡ splice 0 b old → Wrote m old (record { number = 0; length = n }) out
  unfolding fit
  wrote_right {out} room short at =
      let fits : fit m.bytes old ≡ true = rw (size, le-leb n (length old) room, le-leb n 1232 short) refl in
      wrote_by m old true n out k.ok (sym fits) (λ _. sym size) (at ∙ ap (λ (l : List ℕ). splice 0 l old) (sym k.is))

-- ---- ACK

module _ (major minor id acked : ℕ) where
  abbrev pub notedBytes : List ℕ
  notedBytes = acked_front major minor 9 id acked ++ mark 0x40 2 ++ digits_be 256 2 1

  pub ack-plain : Known (ack_made major minor id acked false) (acked_front major minor 9 id acked) 20
  unfolding ack_made digits_be
  ack-plain = record { ok = refl; is = refl; long = refl }

  pub ack-noted : Known (ack_made major minor id acked true) notedBytes 26
  unfolding ack_made digits_be
  ack-noted = record { ok = refl; is = refl; long = refl }

  pub noted-put : (o : List ℕ) {h a b : List ℕ} → 26 ≤ length o → h ≡ splice 0 (acked_front major minor 9 id acked) o → a ≡ splice 20 (mark 0x40 2) h
      → b ≡ splice 24 (digits_be 256 2 1) a → b ≡ splice 0 notedBytes o
  unfolding digits_be
  noted-put o l e f g =
      let x = acked_front major minor 9 id acked in
      next o 24 (x ++ mark 0x40 2) (digits_be 256 2 1) (next o 20 x (mark 0x40 2) e refl (omega arith) f) refl (omega arith) g

-- ---- FLOOD and INQUIRE

module _ (major minor kind id number len word : ℕ) (key : List ℕ) (k : length key ≡ 32) where
  pub key-long : length (key_front major minor kind id number len word key) ≡ 56
  unfolding digits_be
  key-long = simp length-append (omega (arith, k))

module _ (major minor id : ℕ) (key nonce : List ℕ) where
  abbrev pub inquireBytes : List ℕ
  inquireBytes = key_front major minor 7 id 0x40 2 0x00100000 key ++ mark 0x93 16 ++ nonce

  pub inquire_known : length key ≡ 32 → length nonce ≡ 16 → Known (inquire_made major minor id key nonce) inquireBytes 76
  unfolding inquire_made digits_be
  inquire_known k n =
      record { ok = rw (k, n) refl; is = rw (k, n) (simp (append_assoc, append-nil)); long = simp length-append (omega (arith, k, n)) }

  pub inquire-put : (o : List ℕ) {h a b : List ℕ} → length key ≡ 32 → length nonce ≡ 16 → 76 ≤ length o
      → h ≡ splice 0 (key_front major minor 7 id 0x40 2 0x00100000 key) o → a ≡ splice 56 (mark 0x93 16) h → b ≡ splice 60 (part 0 16 nonce) a
      → b ≡ splice 0 inquireBytes o
  inquire-put o {h} {a} k n l e f g =
      let x = key_front major minor 7 id 0x40 2 0x00100000 key in
      let long = key-long major minor 7 id 0x40 2 0x00100000 key k in
      let mark-long = head_length 0x93 20 in
      let whole : part 0 16 nonce ≡ nonce = take_all 16 nonce (omega arith) in
      next o 60 (x ++ mark 0x93 16) nonce (next o 56 x (mark 0x93 16) e long (omega arith) f)
      (length-append x (mark 0x93 16) ∙ omega arith) (omega arith)
      (g ∙ ap (λ (v : List ℕ). splice 60 v a) whole)

-- ---- AUTHORITY

pub answer_long : (major minor id acked size : ℕ) → length (answer_front major minor id acked size) ≡ 36
unfolding digits_be
answer_long major minor id acked _ = refl

module _ (major minor id acked : ℕ) (cpa : List ℕ) where
  abbrev pub cpaBytes : List ℕ
  cpaBytes = answer_front major minor id acked (12 + length cpa) ++ mark 0x9B (length cpa) ++ cpa

  pub cpa-known : Known (cpa_made major minor id acked cpa) cpaBytes (40 + length cpa)
  unfolding cpa_made digits_be
  cpa-known = record { ok = refl; is = simp (append_assoc, append-nil); long = simp length-append (omega arith) }

  pub cpa-put : (o : List ℕ) {h a b : List ℕ} → 40 + length cpa ≤ length o → h ≡ splice 0 (answer_front major minor id acked (12 + length cpa)) o
      → a ≡ splice 36 (mark 0x9B (length cpa)) h → b ≡ splice 40 cpa a → b ≡ splice 0 cpaBytes o
  unfolding digits_be
  cpa-put o l e f g =
      let x = answer_front major minor id acked (12 + length cpa) in
      next o 40 (x ++ mark 0x9B (length cpa)) cpa (next o 36 x (mark 0x9B (length cpa)) e refl (omega arith) f) refl (omega arith) g

-- ---- the route entry of a record in form at a place

-- as a field of n bytes
pub record EntryAt (at : ℕ) (s : List ℕ) (n : ℕ) : Type 0 where
  pub within : at + 100 ≤ length s
  pub formed : record_form (part at 100 s) ≡ true
  pub long : n ≡ 44 + 16 * get_or s (at + 34) 0

pub entry_formed : (at : ℕ) (s : List ℕ) → formed_at at s ≡ true → EntryAt at s (44 + 16 * get_or s (at + 34) 0)
entry_formed at s t =
    let w = both_true (leb (at + 100) (length s)) (record_form (part at 100 s)) t in
    record { within = leb-true (at + 100) (length s) w.0; formed = w.1; long = refl }

-- what the length says
module _ (at n : ℕ) (s : List ℕ) (e : n ≡ entry_len at s) where
  none_by : (b : Bool) → n ≡ cond b (44 + 16 * get_or s (at + 34) 0) 0 → n ≡ 0 → b ≡ false
  none_by true f z = absurd (omega arith)
  none_by false f z = refl

  pub no-entry : n ≡ 0 → formed_at at s ≡ false
  no-entry z = none_by (formed_at at s) e z

  there-by : (b : Bool) → formed_at at s ≡ b → n ≡ cond b (44 + 16 * get_or s (at + 34) 0) 0 → (n ≡ 0 → ⊥) → EntryAt at s n
  there-by true t f z = let w = entry_formed at s t in record { within = w.within; formed = w.formed; long = f }
  there-by false t f z = absurd (z f)

  pub entry-there : (n ≡ 0 → ⊥) → EntryAt at s n
  entry-there z = there-by (formed_at at s) refl e z

module _ {at n : ℕ} {s : List ℕ} (w : EntryAt at s n) where
  count-is : count_of (part at 100 s) ≡ get_or s (at + 34) 0
  count-is = part_at at 100 34 s (omega arith)

  count-few : get_or s (at + 34) 0 ≤ 4
  count-few = (record_at_lem at s w.within w.formed).1

  pub entry-most : n ≤ 108
  entry-most = omega (arith, count-few)

  formed_at_lem : formed_at at s ≡ true
  formed_at_lem = rw (le-leb (at + 100) (length s) w.within, w.formed)

  gap-flood : (4 - (56 + (38 + 16 * get_or s (at + 34) 0 + 4)) % 4) % 4 ≡ 2
  gap-flood = omega arith

  gap-closest : (4 - (36 + (38 + 16 * get_or s (at + 34) 0 + 4)) % 4) % 4 ≡ 2
  gap-closest = omega arith

  module _ (major minor : ℕ) where
    entry-long : length (entry_of major minor (part at 100 s)) ≡ 38 + 16 * get_or s (at + 34) 0
    entry-long = entry_length major minor at s w.within count-few

    pub field-long : length (entry_field major minor (part at 100 s)) ≡ n
    field-long =
        let c = count_of (part at 100 s) in
        let v = entry_of major minor (part at 100 s) in
        let x = length-append (mark 0x9A (38 + 16 * c)) v in
        let y = length-append (mark 0x9A (38 + 16 * c) ++ v) (digits_be 256 2 0) in
        omega (arith, entry-long, head_length 0x9A (38 + 16 * c + 4), length-digits_be 256 2 0)

    pub entry-put : (to : ℕ) (o : List ℕ) {a b d : List ℕ} → to + n ≤ length o → a ≡ splice to (mark 0x9A (38 + 16 * get_or s (at + 34) 0)) o
        → b ≡ splice (to + 4) (entry_of major minor (part at 100 s)) a → d ≡ splice (to + (38 + 16 * get_or s (at + 34) 0 + 4)) (digits_be 256 2 0) b
        → d ≡ splice to (entry_field major minor (part at 100 s)) o
    entry-put to o l e f g =
        let m = 38 + 16 * get_or s (at + 34) 0 in
        let x = mark 0x9A m in
        let v = entry_of major minor (part at 100 s) in
        let lx = head_length 0x9A (m + 4) in
        let lv = entry-long in
        let lz = length-digits_be 256 2 0 in
        let la = length-append x v in
        g ∙ ap (splice (to + (m + 4)) (digits_be 256 2 0))
        (f ∙ ap (splice (to + 4) v) e ∙ put-put o to x (omega arith) (to + 4) v (omega arith) (omega arith))
        ∙ put-put o to (x ++ v) (omega arith) (to + (m + 4)) (digits_be 256 2 0) (omega arith) (omega arith)
        ∙ ap (λ (c : ℕ). splice to (mark 0x9A (38 + 16 * c) ++ v ++ digits_be 256 2 0) o) (sym count-is)

    flood-is : (id : ℕ) (key : List ℕ) → length key ≡ 32
        → ((flood_made major minor id key s at).ok ≡ true)
        × ((flood_made major minor id key s at).bytes ≡ key_front major minor 4 id 0x43 3 0 key ++ entry_field major minor (part at 100 s))
    unfolding flood_made digits_be
    flood-is id key k = (rw (k, formed_at_lem) refl, rw (k, entry-long, gap-flood, count-is) (simp append-nil))

    pub flood_known : (id : ℕ) (key : List ℕ) → length key ≡ 32
        → Known (flood_made major minor id key s at) (key_front major minor 4 id 0x43 3 0 key ++ entry_field major minor (part at 100 s)) (56 + n)
    flood_known id key k =
        let x = key_front major minor 4 id 0x43 3 0 key in
        let front = key-long major minor 4 id 0x43 3 0 key k in
        record {
          ok = (flood-is id key k).0;
          is = (flood-is id key k).1;
          long = length-append x (entry_field major minor (part at 100 s)) ∙ omega (arith, front, field-long);
        }

    closest-is : (id acked : ℕ)
        → ((closest_made major minor id acked s at).ok ≡ true)
        × ((closest_made major minor id acked s at).bytes
        ≡ answer_front major minor id acked (52 + 16 * get_or s (at + 34) 0) ++ entry_field major minor (part at 100 s))
    unfolding closest_made digits_be
    closest-is id acked = (formed_at_lem, rw (entry-long, gap-closest, count-is) (simp append-nil))

    pub closest-known : (id acked : ℕ)
        → Known (closest_made major minor id acked s at) (answer_front major minor id acked (8 + n) ++ entry_field major minor (part at 100 s)) (36 + n)
    closest-known id acked =
        let x = answer_front major minor id acked (8 + n) in
        let z : 52 + 16 * get_or s (at + 34) 0 ≡ 8 + n = omega arith in
        record {
          ok = (closest-is id acked).0;
          is = (closest-is id acked).1 ∙ ap (λ (m : ℕ). answer_front major minor id acked m ++ entry_field major minor (part at 100 s)) z;
          long = length-append x (entry_field major minor (part at 100 s)) ∙ omega (arith, answer_long major minor id acked (8 + n), field-long);
        }
