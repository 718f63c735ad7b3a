-- A FLOOD received is refused when the clauses say so: the rows of its table, with a route entry and with a revocation. Assumes nothing.
use mathlib.Core.Path.{◌≡◌, refl, sym, ap, ap₂, ◌∙◌}
use mathlib.Core.Logic.{inl, inr}
use mathlib.Core.Bool.{Bool, true, false}
use mathlib.Core.List.{List, ◌++◌}
use Prim.Native.Nat.{ℕ, ◌+◌}
use native.Mathlib.Omega.{arith}
use lib.Dec.{eqb}
use lib.ListN.{length, length-append}
use borrow.Author.Tests.{eq-eqb, eqb-true}
use Rattle.octet.specs.Part.{part}
use Rattle.octet.proofs.PartLaws.{length_part}
use Rattle.octet.proofs.TestLaws.{both_true}
use Rattle.key.specs.Number.{key_at}
use Rattle.record.specs.Record.{key_of}
use Rattle.record.specs.Entry.{entry_form, record_of}
use Rattle.own.specs.Own.{Own, own_keys}
use Rattle.own.proofs.PlaceLaws.{own_in, in_own}
use Rattle.refusal.specs.Table.{place_in, Before}
use Rattle.refusal.proofs.TableLaws.{sooner}
use Rattle.table.specs.Rows.{joined, any_of}
use Rattle.table.proofs.RowLaws.{rows-length, joined_append}
use Rattle.kept.proofs.WithoutLaws.{eq_or}
use Rattle.cache.specs.Form.{held_of}
use Rattle.waiting.specs.Place.{id_of}
use Rattle.waiting.specs.Form.{used_of, places_of}
use Rattle.waiting.specs.Seek.{has_id}
use Rattle.std.specs.Prelude.{Some, None}
use Rattle.wire_fields.specs.Places.{Part, here}
use Rattle.wire_write.specs.Making.{ack_made, inquire_made}
use Rattle.plan_flood.specs.Rooms.{ack_room}
use Rattle.asking.specs.Asking.{inquire_room, must_ask}
use Rattle.asking.specs.Ids.{id_after}
use Rattle.gauge_plan.specs.Own.{not_ours}
use Rattle.gauge_commit.proofs.LengthLaws.{inquire-length}
use Rattle.gauge_commit.proofs.SentLaws.{joined_one, acks-room, record_long}
use Rattle.gauge_plan.specs.Lent.{Memory, Receive}
use Rattle.plan_message.proofs.AnswerLaws.{EntryIn}
use Rattle.gauge_laws.specs.Table.{flood_table}
use Rattle.sentences.specs.Heard.{Heard, entry, revoke}
use Rattle.sentences.specs.Sentences as S
use Rattle.sentences.specs.Numbers as Num
use Rattle.sentences.proofs.MoveLaws.{any-in, in-any}
use Rattle.sentences.proofs.HeardLaws.{said_by}
use Rattle.sentences.proofs.WordLaws.{not_iff, must_iff}
use Rattle.sentences.proofs.OursLaws.{ours_iff}
use Rattle.plan_flood.proofs.FloodLaws.{ack_most}
use Rattle.asking.proofs.AskingLaws.{inquire_most}
use Rattle.sentences.proofs.FirstLaws.{Row}
use Rattle.sentences.proofs.SaidLaws.{Said, short-to, short-from, First, Both, good}

module _ (m : Memory) (l : Receive) (n : ℕ) (low : First m l n) where
  abbrev k : Own
  k = own_keys l.own

  abbrev recs : List (List ℕ)
  recs = held_of (own_keys l.own) m.cache

  abbrev ps : List (List ℕ)
  ps = places_of m.waiting

  -- FLOOD with a route entry
  module _ (id : ℕ) (s : Bool) (validate start len : ℕ) (formed : entry_form (part start len l.datagram) ≡ true) where
    abbrev r : List ℕ
    r = record_of (part start len l.datagram)

    abbrev x : Heard
    x = entry id s (key_at validate l.datagram) r

    abbrev b : Bool
    b = not_ours k validate l.datagram

    abbrev o : Bool
    o = must_ask recs ps r

    abbrev ds : List (List ℕ)
    ds = S.acks l id s b ++ S.asks l o r

    entry-reply : S.Reply m l x ds
    entry-reply = record { n = b; ask = o; set = ours_iff k (key_at validate l.datagram); asked = must_iff k m r; are = refl }

    asks-room : length l.nonce ≡ 16 → (y : Bool) → length (joined (S.asks l y r)) ≡ inquire_room y
    unfolding joined inquire_made
    asks-room fresh true =
        let long = record_long (part start len l.datagram) formed in
        ap length (joined_one (inquire_made l.major l.minor (id_after l.id) (part 0 32 r) l.nonce).bytes)
        ∙ inquire-length l.major l.minor (id_after l.id) (part 0 32 r) l.nonce (length_part 0 32 r (omega arith)) fresh
    asks-room fresh false = refl

    entry-room : length l.nonce ≡ 16 → length (joined ds) ≡ ack_room s b + inquire_room o
    unfolding ack_made
    entry-room fresh =
        ap length (joined_append (S.acks l id s b) (S.asks l o r)) ∙ length-append (joined (S.acks l id s b)) (joined (S.asks l o r))
        ∙ ap₂ ◌+◌ (acks-room l.major l.minor l.id id b s) (asks-room fresh o)

    entry-both : Both m l n x (flood_table m l s validate (here start len))
    entry-both = (to, from)
      where
        full_is : length ps ≡ used_of m.waiting
        full_is = rows-length 140 (used_of m.waiting) m.waiting

        to : Said m l x n → Row n (flood_table m l s validate (here start len))
        to (inl (inl w)) = inl (w.0, in_own k (key_of r) w.1)
        to (inl (inr (inl w))) =
            let there = any-in (has_id (id_after l.id)) w.2 ps w.3 (eq-eqb (id_of w.2) (id_after l.id) w.4) in
            inr (inl (w.0, rw ((must_iff k m r).1 w.1, there) refl))
        to (inl (inr (inr w))) =
            inr (inr (inl (w.0, rw ((must_iff k m r).1 w.1, eq-eqb (used_of m.waiting) 16 (sym full_is ∙ w.2)) refl)))
        to (inr w) =
            let g = good m l n low (sooner 1 15 (unfold place_in in refl) w.0) in
            inr (inr (inr (inl (short-from m l x ds n _ g entry-reply (entry-room g.nonce)
            (omega (arith, ack_most s b, inquire_most o)) w))))

        from : Row n (flood_table m l s validate (here start len)) → Said m l x n
        from (inl w) = inl (inl (w.0, own_in k (key_of r) w.1))
        from (inr (inl w)) =
            let v = both_true o (any_of (has_id (id_after l.id)) ps) w.1 in
            let p = in-any (has_id (id_after l.id)) ps v.1 in
            inl (inr (inl (w.0, (must_iff k m r).0 v.0, p.0, p.1, eqb-true (id_of p.0) (id_after l.id) p.2)))
        from (inr (inr (inl w))) =
            let v = both_true o (eqb (used_of m.waiting) 16) w.1 in
            inl (inr (inr (w.0, (must_iff k m r).0 v.0, full_is ∙ eqb-true (used_of m.waiting) 16 v.1)))
        from (inr (inr (inr (inl w)))) = inr (short-to m l x ds n _ entry-reply (entry-room (good m l n low (sooner 1 15 (unfold place_in in refl) w.0)).nonce) w)
        from (inr (inr (inr (inr w)))) = absurd w

  -- FLOOD with a revocation
  module _ (id : ℕ) (s : Bool) (validate : ℕ) where
    abbrev rx : Heard
    rx = revoke id s (key_at validate l.datagram)

    abbrev rb : Bool
    rb = not_ours k validate l.datagram

    revoke-reply : S.Reply m l rx (S.acks l id s rb)
    revoke-reply = record { n = rb; set = ours_iff k (key_at validate l.datagram); are = refl }

    revoke-room : length (joined (S.acks l id s rb)) ≡ ack_room s rb
    unfolding ack_made
    revoke-room = acks-room l.major l.minor l.id id rb s

    revoke-both : Num.Says l rx → Both m l n rx (flood_table m l s validate None)
    revoke-both says = (to, from)
      where
        is-good : Before 9 n → l.verdict ≡ 1
        is-good h = elim (eq_or l.verdict 1) [ inl e ↦ e | inr d ↦ absurd (low 9 h (Num.bad-revocation refl id s (key_at validate l.datagram) says d)) ]

        to : Said m l rx n → Row n (flood_table m l s validate None)
        to (inl (inl w)) = inl (w.0, (not_iff l.verdict 1).1 w.1)
        to (inl (inr w)) = inr (inl (w.0, in_own k (key_at 0 l.key) w.2))
        to (inr w) =
            let g = good m l n low (sooner 1 15 (unfold place_in in refl) w.0) in
            inr (inr (inl (short-from m l rx (S.acks l id s rb) n _ g revoke-reply revoke-room (omega (arith, ack_most s rb)) w)))

        from : Row n (flood_table m l s validate None) → Said m l rx n
        from (inl w) = inl (inl (w.0, (not_iff l.verdict 1).0 w.1))
        from (inr (inl w)) = inl (inr (w.0, is-good (sooner 9 11 (unfold place_in in refl) w.0), own_in k (key_at 0 l.key) w.1))
        from (inr (inr (inl w))) = inr (short-to m l rx (S.acks l id s rb) n _ revoke-reply revoke-room w)
        from (inr (inr (inr w))) = absurd w

  -- any FLOOD
  pub flood-both : (id : ℕ) (s : Bool) (validate : ℕ) (route : Part) → EntryIn l.datagram route
      → Num.Says l (said_by l.datagram id s validate route) → Both m l n (said_by l.datagram id s validate route) (flood_table m l s validate route)
  flood-both id s validate (Some p) w says = entry-both id s validate p.start p.len w.1
  flood-both id s validate None w says = revoke-both id s validate says
