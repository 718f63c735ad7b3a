-- What a writer gives and leaves where the fields are right and the bytes fit: their length, and the output with them at its start or at a place
-- of it; one datagram and two, one after the other. Assumes nothing.
use mathlib.Core.Path.{◌≡◌, refl, sym, ap, ap₂, ◌∙◌}
use mathlib.Core.Bool.{Bool, true, false}
use mathlib.Core.List.{List, [], ◌∷◌, ◌++◌, append-nil, append_assoc}
use Prim.Native.Nat.{ℕ, ◌+◌, ◌-◌, ◌*◌, ◌≤◌, ◌<◌}
use native.Mathlib.Nat.{zero-add}
use native.Mathlib.Omega.{arith}
use lib.ListN.{length, take, drop, length-take, length-drop, drop_of_length-le}
use lib.Seq.{take_all, drop-drop}
use borrow.Author.Tests.{le-leb}
use borrow.Rule.Slice.PartMut.{put_mid}
use Rattle.octet.specs.Part.{part, splice}
use Rattle.octet.proofs.PartLaws.{length_part, part_at, splice_nil, splice_next, splice_whole}
use Rattle.record.specs.Record.{count_of, record_form}
use Rattle.record.specs.Entry.{entry_form, record_of}
use Rattle.record.proofs.EntryLaws.{form_length, record_form_lem}
use Rattle.record.proofs.PlaceLaws.{record_at_lem}
use Rattle.table.specs.Rows.{joined}
use Rattle.table.proofs.RowLaws.{joined_append}
use Rattle.table.proofs.PieceLaws.{part-start}
use Rattle.wire_write.specs.declared.Written.{Written}
use Rattle.wire_write.specs.Writing.{Made, fit, write_as, write_in, Wrote}
use Rattle.wire_write.specs.Making.{ack_made, flood_made, inquire_made, cpa_made, closest_made}
use Rattle.plan_flood.specs.Rooms.{ack_room}
use Rattle.asking.specs.Asking.{inquire_room}
use Rattle.asking.specs.Ids.{id_after}
use Rattle.plan_send.specs.Send.{record_sent, flood_room}
use Rattle.plan_flood.proofs.FloodLaws.{ack_most}
use Rattle.gauge_commit.specs.Sending.{answer, lengths, sending}
use Rattle.gauge_commit.specs.Replies.{ack_written, inquire_written}
use Rattle.gauge_commit.proofs.LengthLaws.{ack-length, inquire-length, cpa_length, closest-length, flood-length}

-- ---- one datagram

pub joined_one : (b : List ℕ) → joined (b ∷ []) ≡ b
unfolding joined
joined_one b = append-nil b

module _ {m : Made} {old : List ℕ} {r : Written} {out : List ℕ} (w : Wrote m old r out) (ok : m.ok ≡ true)
    (room : length m.bytes ≤ length old) (short : length m.bytes ≤ 1232) where
  fits : fit m.bytes old ≡ true
  unfolding fit
  fits = rw (le-leb (length m.bytes) (length old) room, le-leb (length m.bytes) 1232 short)

  pub wrote-length : r.length ≡ length m.bytes
  unfolding write_as
  wrote-length = ap (λ (a : Written). a.length) w.answer ∙ rw (ok, fits)

  pub wrote-bytes : out ≡ m.bytes ++ drop (length m.bytes) old
  unfolding write_in
  wrote-bytes = w.output ∙ rw (ok, fits)

  pub wrote-start : out ≡ sending (m.bytes ∷ []) old
  unfolding splice
  wrote-start = rw (joined_one m.bytes, zero-add) wrote-bytes

-- written in what is lent of the output from a place on
pub put_from : (at : ℕ) (b old new : List ℕ) → at + length b ≤ length old → new ≡ b ++ drop (length b) (take (length old - at) (drop at old))
    → put_mid at (length old - at) old new ≡ splice at b old
unfolding splice
put_from at b old new h e =
    let all : take (length old - at) (drop at old) ≡ drop at old = take_all (length old - at) (drop at old) (omega (arith, length-drop at old)) in
    let none : drop (length old - at) (drop at old) ≡ [] =
    drop_of_length-le (drop at old) {i = length old - at} (omega (arith, length-drop at old)) in
    rw (e, all, none, drop-drop (length b) at old, append-nil) (sym (append_assoc (take at old) b (drop (at + length b) old)))

-- ---- the ACK, and the INQUIRE behind it

pub room_few : (silent n : Bool) {k : ℕ} → k ≡ ack_room silent n → k < 65536
room_few silent n e = omega (arith, e, ack_most silent n)

-- the INQUIRE for a record's key, at a place of the output
inquire_made_lem : (major minor id : ℕ) (key nonce : List ℕ) → length key ≡ 32 → length nonce ≡ 16 → (inquire_made major minor id key nonce).ok ≡ true
unfolding inquire_made
inquire_made_lem major minor id key nonce k f = rw (k, f)

module _ (major minor id at : ℕ) (r nonce old : List ℕ) where
  pub inquire-sent : {a : Written} {out : List ℕ} → at + 76 ≤ length old → length r ≡ 100 → length nonce ≡ 16
      → Wrote (inquire_made major minor id (part 0 32 r) nonce) (take (length old - at) (drop at old)) a out
      → put_mid at (length old - at) old out ≡ splice at (inquire_made major minor id (part 0 32 r) nonce).bytes old
  inquire-sent {a} {out} h long fresh w =
      let m = inquire_made major minor id (part 0 32 r) nonce in
      let key : length (part 0 32 r) ≡ 32 = length_part 0 32 r (omega arith) in
      let size : length m.bytes ≡ 76 = inquire-length major minor id (part 0 32 r) nonce key fresh in
      let rest : length (take (length old - at) (drop at old)) ≡ length old - at = simp (length-take, length-drop) (omega arith) in
      put_from at m.bytes old out (omega arith)
      (wrote-bytes w (inquire_made_lem major minor id (part 0 32 r) nonce key fresh) (omega arith) (omega arith))

-- the record that an entry names, put into bytes of its length
pub named_is : (v z : List ℕ) {new : List ℕ} → entry_form v ≡ true → length z ≡ 100 → new ≡ splice 0 (record_of v) z → new ≡ record_of v
named_is v z e long is = is ∙ splice_whole (record_of v) z (form_length (record_of v) (record_form_lem v e) ∙ sym long)

pub record_long : (v : List ℕ) → entry_form v ≡ true → length (record_of v) ≡ 100
record_long v e = form_length (record_of v) (record_form_lem v e)

abbrev pub asked : ℕ → ℕ → ℕ → List ℕ → List ℕ → List ℕ
asked major minor id nonce r = (inquire_made major minor (id_after id) (part 0 32 r) nonce).bytes

module _ (major minor id acked : ℕ) (n : Bool) where
  pub acks-room : (silent : Bool) → length (joined (ack_written major minor id silent acked n)) ≡ ack_room silent n
  unfolding joined
  acks-room true = refl
  acks-room false = ap length (append-nil (ack_made major minor id acked n).bytes) ∙ ack-length major minor id acked n

  pub acks-told : (silent : Bool) {k : ℕ} → k ≡ ack_room silent n → answer 0 k 0 ≡ lengths (ack_written major minor id silent acked n)
  acks-told true e = ap (λ (l : ℕ). answer 0 l 0) e
  acks-told false e = ap (λ (l : ℕ). answer 0 l 0) (e ∙ sym (ack-length major minor id acked n))

  pub silent-told : (silent : Bool) → silent ≡ true → 0 ≡ ack_room silent n
  silent-told silent e = rw e

  pub silent-sent : (silent : Bool) (old : List ℕ) → silent ≡ true → old ≡ sending (ack_written major minor id silent acked n) old
  unfolding joined
  silent-sent silent old e = rw e (sym (splice_nil 0 old))

  ack-made : (ack_made major minor id acked n).ok ≡ true
  unfolding ack_made
  ack-made = refl

  module _ (silent : Bool) {old : List ℕ} {r : Written} {out : List ℕ} (heard : silent ≡ false) (room : ack_room silent n ≤ length old)
      (w : Wrote (ack_made major minor id acked n) old r out) where
    ack-size : length (ack_made major minor id acked n).bytes ≡ ack_room silent n
    ack-size = ack-length major minor id acked n ∙ rw heard

    pub heard-told : r.length ≡ ack_room silent n
    heard-told = wrote-length w ack-made (omega (arith, ack-size)) (omega (arith, ack-size, ack_most silent n)) ∙ ack-size

    pub heard-sent : out ≡ sending (ack_written major minor id silent acked n) old
    heard-sent = rw heard (wrote-start w ack-made (omega (arith, ack-size)) (omega (arith, ack-size, ack_most silent n)))

  -- what follows the ACK
  module _ (silent opens : Bool) (nonce r : List ℕ) where
    pub none-follows : opens ≡ false → ack_written major minor id silent acked n ++ inquire_written major minor id opens nonce r ≡ ack_written major minor id silent acked n
    none-follows e = rw e (append-nil (ack_written major minor id silent acked n))

    module _ (long : length r ≡ 100) (fresh : length nonce ≡ 16) (e : opens ≡ true) where
      asked-long : length (asked major minor id nonce r) ≡ 76
      asked-long = inquire-length major minor (id_after id) (part 0 32 r) nonce (length_part 0 32 r (omega arith)) fresh

      pub follows-sent : (k : ℕ) (old between : List ℕ) → ack_room silent n + inquire_room opens ≤ length old
          → k ≡ ack_room silent n → between ≡ sending (ack_written major minor id silent acked n) old
          → splice k (asked major minor id nonce r) between
          ≡ sending (ack_written major minor id silent acked n ++ inquire_written major minor id opens nonce r) old
      follows-sent k old between h is left =
          let b = asked major minor id nonce r in
          let xs = ack_written major minor id silent acked n in
          let l = asked-long in
          let room : ack_room silent n + 76 ≤ length old = rw e at h in
          rw e
          (ap₂ (λ (p : ℕ) (o : List ℕ). splice p b o) (is ∙ sym (zero-add (ack_room silent n))) left
          ∙ splice_next 0 (ack_room silent n) (joined xs) b old (acks-room silent) (omega arith)
          ∙ ap (λ (y : List ℕ). splice 0 y old) (ap (λ (y : List ℕ). joined xs ++ y) (sym (joined_one b)) ∙ sym (joined_append xs (b ∷ []))))

      pub follows-told : {k : ℕ} → k ≡ ack_room silent n → silent ≡ false
          → answer 0 k 76 ≡ lengths (ack_written major minor id silent acked n ++ inquire_written major minor id opens nonce r)
      follows-told is heard =
          rw (e, heard) (ap₂ (answer 0) (is ∙ ap (λ (s : Bool). ack_room s n) heard ∙ sym (ack-length major minor id acked n)) (sym asked-long))

      pub alone-told : silent ≡ true → answer 0 76 0 ≡ lengths (ack_written major minor id silent acked n ++ inquire_written major minor id opens nonce r)
      alone-told s = rw (e, s) (ap (λ (l : ℕ). answer 0 l 0) (sym asked-long))

-- ---- any datagram, and the INQUIRE behind it

module _ (major minor id : ℕ) (b : List ℕ) (opens : Bool) (nonce r : List ℕ) where
  pub none-behind : opens ≡ false → b ∷ inquire_written major minor id opens nonce r ≡ b ∷ []
  none-behind e = rw e refl

  module _ (long : length r ≡ 100) (fresh : length nonce ≡ 16) (e : opens ≡ true) where
    behind-long : length (asked major minor id nonce r) ≡ 76
    behind-long = inquire-length major minor (id_after id) (part 0 32 r) nonce (length_part 0 32 r (omega arith)) fresh

    pub behind-sent : (k : ℕ) (old between : List ℕ) → length b + inquire_room opens ≤ length old → k ≡ length b → between ≡ sending (b ∷ []) old
        → splice k (asked major minor id nonce r) between ≡ sending (b ∷ inquire_written major minor id opens nonce r) old
    behind-sent k old between h is left =
        let a = asked major minor id nonce r in
        let room : length b + 76 ≤ length old = rw e at h in
        rw e
        (ap₂ (λ (p : ℕ) (o : List ℕ). splice p a o) (is ∙ sym (zero-add (length b))) left
        ∙ splice_next 0 (length b) (joined (b ∷ [])) a old (ap length (joined_one b)) (omega (arith, behind-long))
        ∙ ap (λ (y : List ℕ). splice 0 y old) (ap (λ (y : List ℕ). joined (b ∷ []) ++ y) (sym (joined_one a)) ∙ sym (joined_append (b ∷ []) (a ∷ []))))

    pub behind-told : {k : ℕ} → k ≡ length b → answer 0 k 76 ≡ lengths (b ∷ inquire_written major minor id opens nonce r)
    behind-told is = rw e (ap₂ (answer 0) is (sym behind-long))

-- ---- the AUTHORITY with a CPA

module _ (major minor id acked : ℕ) (cpa : List ℕ) {old : List ℕ} {r : Written} {out : List ℕ} (short : length cpa ≤ 1024)
    (room : 40 + length cpa ≤ length old) (w : Wrote (cpa_made major minor id acked cpa) old r out) where
  cpa-made : (cpa_made major minor id acked cpa).ok ≡ true
  unfolding cpa_made
  cpa-made = refl

  pub cpa-told : r.length ≡ length (cpa_made major minor id acked cpa).bytes
  cpa-told = let e = cpa_length major minor id acked cpa in wrote-length w cpa-made (omega arith) (omega arith)

  pub cpa-few : r.length < 65536
  cpa-few = omega (arith, cpa-told, cpa_length major minor id acked cpa)

  pub cpa-sent : out ≡ sending ((cpa_made major minor id acked cpa).bytes ∷ []) old
  cpa-sent = let e = cpa_length major minor id acked cpa in wrote-start w cpa-made (omega arith) (omega arith)

-- ---- the AUTHORITY with a record

pub shown_closest : (major minor id acked : ℕ) (s : List ℕ) → record_form s ≡ true
    → length (closest_made major minor id acked s 0).bytes ≡ 80 + 16 * count_of s
shown_closest major minor id acked s formed =
    let long = form_length s formed in
    let whole : part 0 100 s ≡ s = take_all 100 s (omega (arith, long)) in
    closest-length major minor id s 0 (omega (arith, long)) (ap record_form whole ∙ formed) acked ∙ ap (λ (l : List ℕ). 80 + 16 * count_of l) whole

module _ (major minor id acked : ℕ) (s : List ℕ) {old : List ℕ} {r : Written} {out : List ℕ} (formed : record_form s ≡ true)
    (room : 80 + 16 * count_of s ≤ length old) (w : Wrote (closest_made major minor id acked s 0) old r out) where
  shown-long : length s ≡ 100
  shown-long = form_length s formed

  whole : part 0 100 s ≡ s
  whole = take_all 100 s (omega (arith, shown-long))

  formed-part : record_form (part 0 100 s) ≡ true
  formed-part = ap record_form whole ∙ formed

  shown : (closest_made major minor id acked s 0).ok ≡ true
  unfolding closest_made
  shown = rw (le-leb (0 + 100) (length s) (omega (arith, shown-long)), formed-part)

  shown-size : length (closest_made major minor id acked s 0).bytes ≡ 80 + 16 * count_of s
  shown-size = shown_closest major minor id acked s formed

  shown-few : count_of s ≤ 4
  shown-few = (record_at_lem 0 s (omega (arith, shown-long)) formed-part).1

  pub closest-told : r.length ≡ length (closest_made major minor id acked s 0).bytes
  closest-told = wrote-length w shown (omega (arith, shown-size)) (omega (arith, shown-size, shown-few))

  pub closest_few : r.length < 65536
  closest_few = omega (arith, closest-told, shown-size, shown-few)

  pub closest-sent : out ≡ sending ((closest_made major minor id acked s 0).bytes ∷ []) old
  closest-sent = wrote-start w shown (omega (arith, shown-size)) (omega (arith, shown-size, shown-few))

-- ---- the FLOOD with the record at a place

-- its bytes are those of the record alone
pub flood_bytes : (major minor id : ℕ) (key s : List ℕ) (at : ℕ)
    → (flood_made major minor id key s at).bytes ≡ (flood_made major minor id key (part at 100 s) 0).bytes
unfolding flood_made
flood_bytes major minor id key s at = rw (part-start at 100 100 s (omega arith)) refl

module _ (major minor id : ℕ) (key s : List ℕ) (at : ℕ) {old : List ℕ} {r : Written} {out : List ℕ} (keyed : length key ≡ 32)
    (within : at + 100 ≤ length s) (formed : record_form (part at 100 s) ≡ true) (room : flood_room (part at 100 s) ≤ length old)
    (w : Wrote (flood_made major minor id key s at) old r out) where
  flood-made : (flood_made major minor id key s at).ok ≡ true
  unfolding flood_made
  flood-made = rw (keyed, le-leb (at + 100) (length s) within, formed)

  flood-size : length (flood_made major minor id key s at).bytes ≡ flood_room (part at 100 s)
  flood-size = flood-length major minor id s at within formed key keyed

  flood-few-addresses : count_of (part at 100 s) ≤ 4
  flood-few-addresses = let e = part_at at 100 34 s (omega arith) in let h = (record_at_lem at s within formed).1 in omega arith

  pub flood-told : r.length ≡ length (flood_made major minor id key (part at 100 s) 0).bytes
  flood-told =
      wrote-length w flood-made (omega (arith, flood-size)) (omega (arith, flood-size, flood-few-addresses))
      ∙ ap length (flood_bytes major minor id key s at)

  pub flood-few : r.length < 65536
  flood-few =
      omega (arith, flood-told, ap length (flood_bytes major minor id key s at), flood-size, flood-few-addresses)

  pub flood-sent : out ≡ sending ((flood_made major minor id key (part at 100 s) 0).bytes ∷ []) old
  flood-sent =
      wrote-start w flood-made (omega (arith, flood-size)) (omega (arith, flood-size, flood-few-addresses))
      ∙ ap (λ (b : List ℕ). sending (b ∷ []) old) (flood_bytes major minor id key s at)

-- the record sent stands where it is written from
module _ (own cache : List ℕ) (ours : Bool) (at : ℕ) where
  pub ours-sent : ours ≡ true → part (100 * at) 100 own ≡ record_sent own cache ours at
  ours-sent is = rw is refl

  pub held-sent : ours ≡ false → part (100 * at) 100 cache ≡ record_sent own cache ours at
  held-sent is = rw is refl
