-- Each datagram that a call sends reads back as the message meant. In this order: bytes of records; each message; what answers a datagram; a
-- FLOOD sent. Assumes nothing.
use mathlib.Core.Path.{◌≡◌, refl, sym, ap, subst, ◌∙◌}
use mathlib.Core.Logic.{◌↔◌, inl, inr}
use mathlib.Core.Option as O
use mathlib.Core.Bool.{Bool, true, false, cond}
use mathlib.Core.List.{List, [], ◌∷◌, ◌++◌}
use Prim.Native.Nat.{ℕ, zero, suc, ◌+◌, ◌-◌, ◌*◌, ◌≤◌, ◌<◌}
use native.Mathlib.Nat.{mod-lt}
use native.Mathlib.Omega.{arith}
use lib.ListN.{length, drop, replicate}
use lib.Seq.{get_or-drop}
use borrow.Author.Tests.{eq-eqb, le-leb}
use Rattle.octet.specs.Number.{Bytes}
use Rattle.octet.specs.Part.{part}
use Rattle.octet.proofs.PartLaws.{length_part, part-digits}
use Rattle.octet.proofs.BytesLaws.{bytes_nil, bytes_cons, bytes_append, bytes_zeros}
use Rattle.key.specs.Number.{key_at}
use Rattle.record.specs.Record.{count_of, record_form}
use Rattle.record.specs.Entry.{record_of}
use Rattle.record.proofs.EntryLaws.{form_length, record_form_lem}
use Rattle.record.proofs.PlaceLaws.{record_at_lem}
use Rattle.own.specs.Own.{Own, own_keys, own_records, own_place}
use Rattle.table.specs.Rows.{rows}
use Rattle.kept.specs.Keys.{Every, ◌∈◌}
use Rattle.cache.specs.Form.{cache_form, held_in, held_of}
use Rattle.cache.proofs.FormLaws.{true_form}
use Rattle.wire_fields.specs.Kinds.{ack_kinds, flood_kinds, inquire_kinds, authority_kinds}
use Rattle.wire_write.specs.Writing.{fit}
use Rattle.wire_write.specs.Sent.{ack_sent, flood_sent, inquire_sent, cpa_sent, closest_sent}
use Rattle.wire_write.specs.Making.{flood_made, inquire_made, cpa_made, closest_made}
use Rattle.wire.specs.Sending.{Numbers}
use Rattle.wire.proofs.SendingLaws as formed
use Rattle.wire.proofs.Theorems.{written_back}
use Rattle.asking.specs.Ids.{id_after}
use Rattle.gauge_commit.proofs.LengthLaws.{cpa_length, flood-length}
use Rattle.gauge_laws.proofs.FirstLaws.{whole_record}
use Rattle.gauge_plan.specs.Lent.{Memory, Receive, cpa_for, ReceiveLent}
use Rattle.gauge_plan.proofs.OwnLaws.{place_within, record-formed}
use Rattle.sentences.proofs.OursLaws.{own_formed, own_bytes, cpa_most, cpa_bytes}
use Rattle.sentences.specs.Heard.{Heard, entry, revoke, inquire, authority, ack, lookup, other}
use Rattle.sentences.specs.Sentences as S
use Rattle.sentences.specs.Numbers as Num
use Rattle.sentences.specs.Back.{ReadsBack, Bytewise, BytewiseSend, SentReads, FloodReads}
use Rattle.sentences.proofs.HeardLaws.{EntryHeard, entry-heard, lookup_entry-heard}

-- ---- bytes of records

drop_bytes : (n : ℕ) (s : List ℕ) → Bytes s → Bytes (drop n s)
drop_bytes n s b i = rw (get_or-drop n s i 0) (b (n + i))

rows_bytes : (w n : ℕ) (s : List ℕ) → Bytes s → Every Bytes (rows w n s)
unfolding rows
rows_bytes w zero s b = tt
rows_bytes w (suc n) s b = (part-digits 256 0 w s (omega arith) b, rows_bytes w n (drop w s) (drop_bytes w s b))

-- what holds of each record held holds of one
each_of : (P : List ℕ → Type 0) (r : List ℕ) (recs : List (List ℕ)) → Every P recs → r ∈ recs → P r
each_of P r [] a m = absurd m
each_of P r (q ∷ recs) a (inl e) = rw e a.0
each_of P r (q ∷ recs) a (inr m) = each_of P r recs a.1 m

held_bytes_lem : (k : Own) (cache r : List ℕ) → Bytes cache → r ∈ held_of k cache → Bytes r
unfolding held_of
held_bytes_lem k cache r b m = each_of Bytes r (rows 100 (held_in k cache) cache) (rows_bytes 100 (held_in k cache) cache b) m

held_formed : (k : Own) (cache r : List ℕ) → cache_form k cache ≡ true → r ∈ held_of k cache → record_form r ≡ true
held_formed k cache r f m = each_of (λ (q : List ℕ). record_form q ≡ true) r (held_of k cache) (true_form k cache f).held.formed m

-- the record that an entry names
record_bytes_lem : (v : List ℕ) → Bytes v → Bytes (record_of v)
unfolding record_of
record_bytes_lem v b =
    let two : List ℕ = 1 ∷ 0 ∷ [] in
    bytes_append (part 0 32 v ++ part 34 2 v ++ two ++ part 38 16 v) (replicate 48 0)
    (bytes_append (part 0 32 v ++ part 34 2 v ++ two) (part 38 16 v)
    (bytes_append (part 0 32 v ++ part 34 2 v) two
    (bytes_append (part 0 32 v) (part 34 2 v) (part-digits 256 0 32 v (omega arith) b) (part-digits 256 34 2 v (omega arith) b))
    (bytes_cons 1 (0 ∷ []) (omega arith) (bytes_cons 0 [] (omega arith) bytes_nil)))
    (part-digits 256 38 16 v (omega arith) b))
    (bytes_zeros 48)

-- ---- each message

module _ (major minor id : ℕ) (h : Numbers major minor id) where
  ack-back : (acked : ℕ) (n : Bool) → ReadsBack (S.written ack_kinds (ack_sent major minor id acked n))
  ack-back acked n = (
    ack_kinds,
    ack_sent major minor id acked n,
    refl,
    written_back ack_kinds (ack_sent major minor id acked n)
        (formed.ack_formed major minor id acked n h),
  )

  inquire-back : (key nonce : List ℕ) → length key ≡ 32 → length nonce ≡ 16 → Bytes key → Bytes nonce
      → ReadsBack (S.written inquire_kinds (inquire_sent major minor id key nonce))
  unfolding inquire_made
  inquire-back key nonce lk ln bk bn =
      let msg = inquire_sent major minor id key nonce in
      let ok = formed.inquire_formed major minor id key nonce h bk bn (rw (eq-eqb (length key) 32 lk, eq-eqb (length nonce) 16 ln) refl) in
      (inquire_kinds, msg, refl, written_back inquire_kinds msg ok)

  cpa-back : (acked : ℕ) (cpa : List ℕ) → length cpa ≤ 1024 → Bytes cpa → ReadsBack (S.written authority_kinds (cpa_sent major minor id acked cpa))
  unfolding cpa_made fit
  cpa-back acked cpa short b =
      let msg = cpa_sent major minor id acked cpa in
      let d = (cpa_made major minor id acked cpa).bytes in
      let long = cpa_length major minor id acked cpa in
      let ok =
      formed.cpa_formed major minor id acked cpa d h b (rw (le-leb (length d) (length d) (omega arith), le-leb (length d) 1232 (omega arith)) refl) in
      (authority_kinds, msg, refl, written_back authority_kinds msg ok)

  closest-back : (acked : ℕ) (r : List ℕ) → record_form r ≡ true → Bytes r → ReadsBack (S.written authority_kinds (closest_sent major minor id acked r))
  unfolding closest_made
  closest-back acked r ok b =
      let long = form_length r ok in
      let whole = whole_record r ok in
      let ok' : record_form (part 0 100 r) ≡ true = ap record_form whole ∙ ok in
      subst (λ (x : List ℕ). ReadsBack (S.written authority_kinds (closest_sent major minor id acked x))) whole (
        authority_kinds,
        closest_sent major minor id acked (part 0 100 r),
        refl,
        written_back authority_kinds (closest_sent major minor id acked (part 0 100 r))
            (formed.closest_formed major minor id acked r 0 h b (rw (le-leb 100 (length r) (omega arith), ok') refl)),
      )

  flood-back : (key r : List ℕ) → length key ≡ 32 → Bytes key → record_form r ≡ true → Bytes r
      → ReadsBack (S.written flood_kinds (flood_sent major minor id key r))
  unfolding flood_made fit
  flood-back key r lk bk ok b =
      let long = form_length r ok in
      let whole = whole_record r ok in
      let ok' : record_form (part 0 100 r) ≡ true = ap record_form whole ∙ ok in
      let d = (flood_made major minor id key r 0).bytes in
      let size = flood-length major minor id r 0 (omega arith) ok' key lk in
      let few = (record_at_lem 0 r (omega arith) ok').1 in
      let count : count_of (part 0 100 r) ≡ count_of r = ap count_of whole in
      subst (λ (x : List ℕ). ReadsBack (S.written flood_kinds (flood_sent major minor id key x))) whole (
        flood_kinds,
        flood_sent major minor id key (part 0 100 r),
        refl,
        written_back flood_kinds (flood_sent major minor id key (part 0 100 r))
            (formed.flood_formed major minor id key r 0 d h bk b (rw (eq-eqb (length key) 32 lk, le-leb 100 (length r) (omega arith), ok') refl)
            (rw (le-leb (length d) (length d) (omega arith), le-leb (length d) 1232 (omega arith)) refl)),
      )

-- ---- what answers a datagram

both_back : (xs ys : List (List ℕ)) → Every ReadsBack xs → Every ReadsBack ys → Every ReadsBack (xs ++ ys)
both_back [] ys a b = b
both_back (x ∷ xs) ys a b = (a.0, both_back xs ys a.1 b)

module _ (m : Memory) (l : Receive) (w : Bytewise m l) (ok : ReceiveLent m l) where
  acks-back : (id : ℕ) (silent n : Bool) → Every ReadsBack (S.acks l id silent n)
  acks-back id true n = tt
  acks-back id false n = (ack-back l.major l.minor l.id w.numbers id n, tt)

  asks_back : (ask : Bool) (r : List ℕ) → length r ≡ 100 → Bytes r → Every ReadsBack (S.asks l ask r)
  asks_back true r long b =
      let next : Numbers l.major l.minor (id_after l.id) = (w.numbers.0, w.numbers.1, mod-lt _ (omega arith)) in (
        inquire-back l.major l.minor (id_after l.id) next (part 0 32 r) l.nonce (length_part 0 32 r (omega arith)) ok.nonce
            (part-digits 256 0 32 r (omega arith) b) w.nonce,
        tt,
      )
  asks_back false r long b = tt

  -- a record of our own or one held
  candidate-fine : (path r : List ℕ) → S.Candidate m l path r → (record_form r ≡ true) × Bytes r
  candidate-fine path r (inl i) = (own_formed l.own ok.own r i, own_bytes l.own w.own r i)
  candidate-fine path r (inr i) =
      (held_formed (own_keys l.own) m.cache r ok.cache i.0, held_bytes_lem (own_keys l.own) m.cache r w.cache i.0)

  -- the INQUIRE for the record of a route entry
  heard-back : (ask : Bool) (r : List ℕ) → EntryHeard l.datagram r → Every ReadsBack (S.asks l ask r)
  heard-back ask r e =
      let long = form_length r (ap record_form e.is ∙ record_form_lem (part e.start e.len l.datagram) e.formed) in
      let b : Bytes r = subst Bytes (sym e.is)
      (record_bytes_lem (part e.start e.len l.datagram) (part-digits 256 e.start e.len l.datagram (omega arith) w.datagram)) in
      asks_back ask r long b

  -- none for no entry
  lookup-back : (id t : ℕ) (path : List ℕ) (o : O.Option (List ℕ)) → Num.Says l (lookup id t path o) → (ask : Bool)
      → ((ask ≡ true) ↔ S.EntryAsks (own_keys l.own) m o) → Every ReadsBack (S.asks l ask (S.entry_record o))
  lookup-back id t path O.none h true a = absurd (a.0 refl)
  lookup-back id t path O.none h false a = tt
  lookup-back id t path (O.some r) h ask a = heard-back ask r (lookup_entry-heard l.datagram w.datagram l.major id t path r h)

  reply-back : (x : Heard) → Num.Says l x → (ds : List (List ℕ)) → S.Reply m l x ds → Every ReadsBack ds
  reply-back (entry id silent validate r) h ds s =
      subst (Every ReadsBack) (sym s.are)
      (both_back (S.acks l id silent s.n) (S.asks l s.ask r) (acks-back id silent s.n)
      (heard-back s.ask r (entry-heard l.datagram w.datagram l.major id silent validate r h)))
  reply-back (revoke id silent validate) h ds s = subst (Every ReadsBack) (sym s.are) (acks-back id silent s.n)
  reply-back (inquire id validate) h ds s =
      subst (Every ReadsBack) (sym s) (
        cpa-back l.major l.minor l.id w.numbers id (cpa_for l validate)
            (cpa_most (length (own_records l.own)) (own_place (own_keys l.own) validate) l.cpas ok.cpas)
            (cpa_bytes (own_place (own_keys l.own) validate) l.cpas w.cpas),
        tt,
      )
  reply-back (authority acked cpa) h ds s = subst (Every ReadsBack) (sym s) tt
  reply-back (ack acked n) h ds s = subst (Every ReadsBack) (sym s) tt
  reply-back (lookup id target path e) h ds s =
      let f = candidate-fine path s.r s.closest.candidate in
      subst (Every ReadsBack) (sym s.are)
      (closest-back l.major l.minor l.id w.numbers id s.r f.0 f.1, lookup-back id target path e h s.ask s.asked)
  reply-back other h ds s = absurd s

pub sent_reads : SentReads
sent_reads m l w ok x h ds s = reply-back m l w ok x h ds s

-- ---- a FLOOD sent

pub flood_reads : FloodReads
flood_reads m l w ok r (inl n) = (
  (let at = own_place (own_keys l.own) (key_at 0 l.key) in
      flood-back l.major l.minor l.id w.numbers l.neighbour r ok.neighbour w.neighbour
      (ap record_form n.1 ∙ record-formed l.own ok.own at (place_within l.own (key_at 0 l.key) n.0))
      (subst Bytes (sym n.1) (part-digits 256 (100 * at) 100 l.own (omega arith) w.own))),
  tt,
)
flood_reads m l w ok r (inr n) = (
  flood-back l.major l.minor l.id w.numbers l.neighbour r ok.neighbour w.neighbour
      (held_formed (own_keys l.own) m.cache r ok.cache n.1) (held_bytes_lem (own_keys l.own) m.cache r w.cache n.1),
  tt,
)
