-- Two datagrams that say the same are taken alike. In this order: what was heard was read; each clause and each sentence, moved from one datagram
-- to the other; the number; the whole. Assumes nothing.
use mathlib.Core.Path.{◌≡◌, refl, sym, ap, subst, ◌∙◌}
use mathlib.Core.Bool.{Bool, true, false, not}
use mathlib.Core.List.{List}
use mathlib.Core.Logic.{◌↔◌}
use mathlib.Core.Option.{Option, none}
use Prim.Native.Nat.{ℕ, zero, suc, ◌^◌, ◌≤◌, ◌<◌}
use native.Mathlib.Omega.{arith}
use lib.Dec.{leb}
use lib.ListN.{length, get_or}
use borrow.Author.Tests.{eqb-true, leb-true, not-false}
use Rattle.octet.specs.Number.{Bytes}
use Rattle.octet.specs.Part.{part, same}
use Rattle.octet.proofs.TestLaws.{both_true, same-eq}
use Rattle.refusal.specs.Table.{first_of, order, place_in, Before, by_number}
use Rattle.refusal.proofs.TableLaws.{AllFail, all_fail, both, places_differ}
use Rattle.refusal.proofs.CallLaws.{number_is}
use Rattle.kept.proofs.PutLaws.{Tri, less, more, tri}
use Rattle.kept.proofs.PutLaws as put
use Rattle.wire_shapes.specs.Shapes.{Kind}
use Rattle.wire_fields.specs.Kinds.{kinds_of, present}
use Rattle.wire_fields.specs.Message.{opening, type_of}
use Rattle.wire_fields.specs.Refusals as fields
use Rattle.wire_fields.specs.Refusals.{fields_in, refusals}
use Rattle.wire_read.specs.Answers as R
use Rattle.wire_read.specs.Meaning.{number_of}
use Rattle.gauge_commit.specs.Sending.{answer, Handed, handed}
use Rattle.gauge_plan.specs.Lent.{Memory, Receive, hearing, Call, receives, ReceiveLent}
use Rattle.gauge_plan.proofs.MemoryLaws.{lent_hearing}
use Rattle.gauge_laws.proofs.TableLaws.{shown-message}
use Rattle.gauge.specs.Words.{Gauge}
use Rattle.sentences.specs.Heard.{Heard, entry, revoke, inquire, authority, ack, lookup, other, Hears}
use Rattle.sentences.specs.Sentences as S
use Rattle.sentences.specs.Numbers as Num
use Rattle.sentences.specs.Meets.{MeetsSentences}
use Rattle.sentences.specs.Same.{SameHeard}
use Rattle.sentences.proofs.OneLaws.{hears_one, receives-one, holds}
use Rattle.sentences.proofs.HeardLaws.{hears-answer}
use Rattle.sentences.proofs.WordLaws.{message-zero}
use Rattle.sentences.proofs.PartLaws.{part-from}

-- ---- what was heard was read: none of the numbers 2 to 7 applies

module _ (l : Receive) where
  read_number : number_of (R.read_in l.datagram l.major) ≡ first_of (refusals l.datagram l.major)
  unfolding fields.found_in R.incoming_of
  read_number =
      let d = l.datagram in
      let found = fields.found (type_of d) (fields.spans_of (fields_in d)) in
      number_is (λ (f : fields.Found). number_of (R.incoming_of d f)) fields.refused (λ m. refl) found
      (message-zero (R.incoming_of d found) (shown-message d (type_of d) (fields.spans_of (fields_in d)))) (refusals d l.major)

  zero-fails : number_of (R.read_in l.datagram l.major) ≡ 0 → AllFail (refusals l.datagram l.major)
  zero-fails z = all_fail by_number (refusals l.datagram l.major) 1 (omega arith) (sym read_number ∙ z)

-- ---- from one datagram to the other

module _ (m : Memory) (c : Receive) (d d' : List ℕ) (b : Bytes d) (x : Heard) (a : Hears d c.major x) (a' : Hears d' c.major x) where
  abbrev major : ℕ
  major = c.major

  abbrev l : Receive
  l = hearing d c

  abbrev l' : Receive
  l' = hearing d' c

  fails : AllFail (refusals d major)
  fails = zero-fails l (hears-answer d b major x a).0

  heard-too : (y : Heard) → Hears d major y → Hears d' major y
  heard-too y h = subst (Hears d' major) (hears_one d major x y a h) a'

  lent-too : ReceiveLent m l → ReceiveLent m l'
  lent-too w = lent_hearing m l d' w

  lent_back : ReceiveLent m l' → ReceiveLent m l
  lent_back w = lent_hearing m l' d w

  reply-too : (y : Heard) (ds : List (List ℕ)) → S.Reply m l y ds → S.Reply m l' y ds
  reply-too (entry i silent validate r) ds w = record { n = w.n; ask = w.ask; set = w.set; asked = w.asked; are = w.are }
  reply-too (revoke i silent validate) ds w = record { n = w.n; set = w.set; are = w.are }
  reply-too (inquire i validate) ds w = w
  reply-too (authority acked c) ds w = w
  reply-too (ack acked n) ds w = w
  reply-too (lookup i target path e) ds w = record {
    r = w.r;
    ask = w.ask;
    closest = record { candidate = w.closest.candidate; none-closer = w.closest.none-closer };
    asked = w.asked;
    are = w.are;
  }
  reply-too other ds w = absurd w

  leaves-too : (y : Heard) (left : Memory) → S.Leaves m l y left → S.Leaves m l' y left
  leaves-too (entry i silent validate r) left w = record { cache = w.cache; table = w.table }
  leaves-too (revoke i silent validate) left w = w
  leaves-too (inquire i validate) left w = w
  leaves-too (authority acked c) left w = w
  leaves-too (ack acked n) left w = w
  leaves-too (lookup i target path e) left w = record { cache = w.cache; table = w.table }
  leaves-too other left w = absurd w

  does-too : (h : Handed) → S.Receives m l h → S.Receives m l' h
  does-too h w =
      record {
        x = w.x;
        hears = heard-too w.x w.hears;
        ds = w.ds;
        reply = reply-too w.x w.ds w.reply;
        sent = w.sent;
        leaves = leaves-too w.x h.memory w.leaves;
        rest = w.rest;
      }

  is-long : (12 ≤ length d) × (length d ≤ 1232)
  is-long =
      let w = both_true (leb 12 (length d)) (leb (length d) 1232) (not-false _ fails.0) in
      (leb-true 12 (length d) w.0, leb-true (length d) 1232 w.1)

  is_known : kinds_of (type_of d) ≡ none → ⊥
  is_known e = both (ap (λ (o : Option (List Kind)). not (present o)) e) fails.1.1.1.0

  applies-too : (n : ℕ) → Num.ReceiveApplies m l n → Num.ReceiveApplies m l' n
  applies-too n (Num.out-of-form e h) = Num.out-of-form e (λ w. h (lent_back w))
  applies-too n (Num.wrong-length e h) = absurd (h is-long)
  applies-too n (Num.not_opened e h) = absurd (h (same-eq (part 0 5 d) opening (not-false _ fails.1.0)))
  applies-too n (Num.not-major e h) = absurd (h (eqb-true (get_or d 5 0) major (not-false _ fails.1.1.0)))
  applies-too n (Num.not_known e h) = absurd (is_known h)
  applies-too n (Num.not-read e p h) = absurd (h (x, a))
  applies-too n (Num.not_taken e says) = Num.not_taken e (heard-too other says)
  applies-too n (Num.in-part e p) = both (part-from d p) fails.1.1.1.1.1.0
  applies-too n (Num.no-flood e acked y says h) = Num.no-flood e acked y (heard-too _ says) h
  applies-too n (Num.no-inquiry e acked c says h) = Num.no-inquiry e acked c (heard-too _ says) h
  applies-too n (Num.no_cpa e acked says) = Num.no_cpa e acked (heard-too _ says)
  applies-too n (Num.bad-authority e acked c says h) = Num.bad-authority e acked c (heard-too _ says) h
  applies-too n (Num.bad-revocation e i s validate says h) = Num.bad-revocation e i s validate (heard-too _ says) h
  applies-too n (Num.other_key e acked says good p w h) = Num.other_key e acked (heard-too _ says) good p w h
  applies-too n (Num.own-entry e i s validate r says h) = Num.own-entry e i s validate r (heard-too _ says) h
  applies-too n (Num.own-revocation e i s validate says good h) = Num.own-revocation e i s validate (heard-too _ says) good h
  applies-too n (Num.not_ours e i validate says h) = Num.not_ours e i validate (heard-too _ says) h
  applies-too n (Num.id-waits e i s validate r says must p w h) = Num.id-waits e i s validate r (heard-too _ says) must p w h
  applies-too n (Num.all-used e i s validate r says must h) = Num.all-used e i s validate r (heard-too _ says) must h
  applies-too n (Num.lookup-id-waits e i t q o says asks p w h) = Num.lookup-id-waits e i t q o (heard-too _ says) asks p w h
  applies-too n (Num.lookup-all-used e i t q o says asks h) = Num.lookup-all-used e i t q o (heard-too _ says) asks h
  applies-too n (Num.no_room e y says ds r h) = Num.no_room e y (heard-too y says) ds (reply-too y ds r) h

-- ---- the number: the first that applies is one where the same apply

abbrev First : (ℕ → Type 0) → ℕ → Type 0
First A n = A n × ((i : ℕ) → Before i n → ¬ A i)

module _ (A B : ℕ → Type 0) (to : (n : ℕ) → A n → B n) (from : (n : ℕ) → B n → A n) (a b : ℕ) where
  numbers-same : ((n : ℕ) → 0 < n → (a ≡ n) ↔ First A n) → ((a ≡ 0) ↔ ((i : ℕ) → ¬ A i)) → ((n : ℕ) → 0 < n → (b ≡ n) ↔ First B n)
      → ((b ≡ 0) ↔ ((i : ℕ) → ¬ B i)) → a ≡ b
  numbers-same p q r s = go a b refl refl
    where
      go : (i j : ℕ) → a ≡ i → b ≡ j → a ≡ b
      go zero zero d e = d ∙ sym e
      go zero (suc j) d e = absurd (q.0 d (suc j) (from (suc j) ((r (suc j) (omega arith)).0 e).0))
      go (suc i) zero d e = absurd (s.0 e (suc i) (to (suc i) ((p (suc i) (omega arith)).0 d).0))
      go (suc i) (suc j) d e = by (tri (place_in order (suc i)) (place_in order (suc j)))
        where
          by : Tri (place_in order (suc i)) (place_in order (suc j)) → a ≡ b
          by (less k) = absurd (((r (suc j) (omega arith)).0 e).1 (suc i) k (to (suc i) ((p (suc i) (omega arith)).0 d).0))
          by (put.same k) = d ∙ places_differ order (suc i) (suc j) k ∙ sym e
          by (more k) = absurd (((p (suc i) (omega arith)).0 d).1 (suc j) k (from (suc j) ((r (suc j) (omega arith)).0 e).0))

-- ---- the whole

module _ (g : Gauge) (p : MeetsSentences g) (m : Memory) (l : Receive) (d d' : List ℕ) (small : l.id < 2 ^ 32) (b : Bytes d) (b' : Bytes d')
    (x : Heard) (a : Hears d l.major x) (a' : Hears d' l.major x) where
  abbrev c : Call
  c = receives (hearing d l)

  abbrev c' : Call
  c' = receives (hearing d' l)

  number_same : (g m c).answer.number ≡ (g m c').answer.number
  number_same =
      numbers-same (Num.Applies m c) (Num.Applies m c')
      (applies-too m l d d' b x a a') (applies-too m l d' d b' x a' a)
      (g m c).answer.number (g m c').answer.number (p.table.number m c (b, small)) (p.table.accepted m c (b, small))
      (p.table.number m c' (b', small)) (p.table.accepted m c' (b', small))

  whole_same : (n : ℕ) → (g m c).answer.number ≡ n → g m c ≡ g m c'
  whole_same zero e =
      let none = (p.table.accepted m c' (b', small)).0 (sym number_same ∙ e) in
      receives-one m (hearing d' l)
      (holds _ (λ f. none 1 (Num.out-of-form refl (λ w. both w.own f))))
      (holds _ (λ f. none 1 (Num.out-of-form refl (λ w. both w.cache f))))
      (holds _ (λ f. none 1 (Num.out-of-form refl (λ w. both w.waiting f))))
      (g m c) (g m c')
      (does-too m l d d' b x a a' (g m c) (p.does m c (b, small) e))
      (p.does m c' (b', small) (sym number_same ∙ e))
  whole_same (suc n) e =
      p.table.keeps m c (omega arith) ∙ ap (λ (k : ℕ). handed (answer k 0 0) m l.output) number_same
      ∙ sym (p.table.keeps m c' (omega (arith, number_same)))

pub same-heard : SameHeard
same-heard g p m l d d' small b b' x a a' = whole_same g p m l d d' small b b' x a a' _ refl
