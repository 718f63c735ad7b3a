-- A datagram received is refused when the clauses say so: each clause and its row of the call's table. Assumes nothing.
use mathlib.Core.Path.{◌≡◌, refl, sym, ap, subst}
use mathlib.Core.Logic.{inl, inr}
use mathlib.Core.Bool.{true, false, not}
use mathlib.Core.List.{List, ◌++◌}
use mathlib.Core.Option.{Option}
use Prim.Native.Nat.{ℕ, ◌+◌, ◌-◌}
use lib.ListN.{get_or}
use borrow.Author.Tests.{not-true}
use Rattle.octet.specs.Number.{Bytes}
use Rattle.octet.specs.Part.{part}
use Rattle.octet.proofs.TestLaws.{same-eq}
use Rattle.refusal.specs.Table.{Refusal}
use Rattle.refusal.proofs.TableLaws.{both}
use Rattle.kept.proofs.ListLaws.{Test, pass, fail, test}
use Rattle.wire_shapes.specs.Shapes.{Kind}
use Rattle.wire_fields.specs.Kinds.{present}
use Rattle.wire_fields.specs.Message.{opening, type_of}
use Rattle.wire_fields.specs.Refusals as fields
use Rattle.wire_fields.specs.Refusals.{in_part}
use Rattle.wire_buffer.specs.Buffer.{start_of}
use Rattle.wire_read.specs.Answers as R
use Rattle.wire_read.specs.declared.Incoming as T
use Rattle.wire_read.specs.declared.Incoming.TheVariants as M
use Rattle.look.specs.Seen.{size_of}
use Rattle.gauge_plan.specs.Memory.{tables_fit, hands_fit}
use Rattle.gauge_plan.proofs.MemoryLaws.{fit-lent, lent-tables, lent-hands}
use Rattle.gauge_plan.specs.Lent.{Memory, Receive, ReceiveLent}
use Rattle.plan_message.proofs.AnswerLaws.{KnownAnswer, known_answer}
use Rattle.gauge_laws.specs.Table.{message_rows, receive_table}
use Rattle.gauge_laws.proofs.TableLaws.{IsMessage}
use Rattle.sentences.specs.Heard.{Heard, entry, revoke, inquire, authority, ack, lookup, other}
use Rattle.sentences.specs.Numbers as Num
use Rattle.sentences.proofs.MoveLaws.{holds_not}
use Rattle.sentences.proofs.HeardLaws.{heard_by, lookup_heard, answer-hears, hears-answer}
use Rattle.sentences.proofs.WordLaws.{not_iff, message-zero}
use Rattle.sentences.proofs.PartLaws.{part-to, part-from}
use Rattle.sentences.proofs.FirstLaws.{Row, row_front, row-behind, row_either, Agree}
use Rattle.sentences.proofs.SaidLaws.{refused-applies, Clause, Said, First, Both}
use Rattle.sentences.proofs.FloodRowsLaws.{flood-both}
use Rattle.sentences.proofs.MessageRowsLaws.{inquire-both, authority-both, ack-both, lookup-both, seven-both}
use Rattle.sentences.proofs.ReadLaws.{zero-fails, fails-message, rows-message, is-long, read-row, row_read}

module _ (m : Memory) (l : Receive) (n : ℕ) (low : First m l n) where
  -- any message
  any-both : (a : T.Incoming) → IsMessage a → KnownAnswer l.datagram a → Num.Says l (heard_by l.datagram a)
      → Both m l n (heard_by l.datagram a) (message_rows m l a)
  any-both (M.Refused m) i w says = absurd i
  any-both (M.Solicit x) i w says = seven-both m l n low
  any-both (M.Advertise x) i w says = seven-both m l n low
  any-both (M.Request x) i w says = seven-both m l n low
  any-both (M.Flood x) i w says = flood-both m l n low x.head.id x.d x.validate x.entry w.1 says
  any-both (M.Inquire x) i w says = inquire-both m l n low x.head.id x.validate
  any-both (M.Authority x) i w says = authority-both m l n low x.acked (R.is_here x.fields.cpa) says
  any-both (M.Ack x) i w says = ack-both m l n low x.acked x.n
  any-both (M.Lookup x) i w says =
      subst (λ (y : Heard). Both m l n y (message_rows m l (M.Lookup x))) (sym (lookup_heard l.datagram x w))
      (lookup-both m l n low x.head.id x.target (start_of x.path + 8) (size_of x.path - 8) x.entry w.1)

module _ (m : Memory) (l : Receive) (bytes : Bytes l.datagram) where
  abbrev d : List ℕ
  d = l.datagram

  abbrev a : T.Incoming
  a = R.read_in l.datagram l.major

  abbrev rs : List Refusal
  rs = fields.refusals l.datagram l.major

  module _ (n : ℕ) (low : First m l n) where
    says_row : (x : Heard) → Num.Says l x → Said m l x n → Row n (rs ++ message_rows m l a)
    says_row x says w =
        let h = hears-answer d bytes l.major x says in
        row-behind n rs (message_rows m l a)
        ((any-both m l n low a (fails-message m l (zero-fails m l h.0)) (known_answer d l.major) (answer-hears d bytes l.major h.0)).0
        (subst (λ (y : Heard). Said m l y n) h.1 w))

    row-says : Row n (message_rows m l a) → Clause m l n
    row-says w =
        let i = rows-message m l n a w in
        let says = answer-hears d bytes l.major (message-zero a i) in
        elim ((any-both m l n low a i (known_answer d l.major) says).1 w) [
          | inl v ↦ refused-applies m l n (heard_by d a) says v
          | inr v ↦ Num.no_room v.0 (heard_by d a) says v.1 v.2 v.3
        ]

    lent_row : n ≡ 1 → ¬ ReceiveLent m l → Row n (receive_table m l)
    lent_row e h = go (test (tables_fit l.own m)) (test (hands_fit m l))
      where
        go : Test (tables_fit l.own m) → Test (hands_fit m l) → Row n (receive_table m l)
        go (fail t) u = inl (e, ap not t)
        go (pass t) (fail u) = inr (inl (e, ap not u))
        go (pass t) (pass u) = absurd (h (fit-lent m l t u))

    to : Clause m l n → Row n (receive_table m l)
    to (Num.out-of-form e h) = lent_row e h
    to (Num.wrong-length e h) = inr (inr (inl (e, ap not (holds_not _ (λ w. h (is-long m l w))))))
    to (Num.not_opened e h) = inr (inr (inr (inl (e, ap not (holds_not _ (λ w. h (same-eq (part 0 5 d) opening w)))))))
    to (Num.not-major e h) = inr (inr (inr (inr (inl (e, (not_iff (get_or d 5 0) l.major).1 h)))))
    to (Num.not_known e h) = inr (inr (inr (inr (inr (inl (e, ap (λ (o : Option (List Kind)). not (present o)) h))))))
    to (Num.not-read e p h) =
        inr (inr (row_front n rs (message_rows m l a) (read-row m l bytes n low e (holds_not (in_part (type_of d) d) (λ w. p (part-to d w))) h)))
    to (Num.not_taken e says) = inr (inr (says_row other says (inl e)))
    to (Num.in-part e p) = inr (inr (inr (inr (inr (inr (inr (inl (e, part-from d p))))))))
    to (Num.no-flood e acked y says h) = inr (inr (says_row (ack acked y) says (inl (e, h))))
    to (Num.no-inquiry e acked cpa says h) = inr (inr (says_row (authority acked cpa) says (inl (inl (e, h)))))
    to (Num.no_cpa e acked says) = inr (inr (says_row (authority acked false) says (inl (inr (inl (e, inl refl))))))
    to (Num.bad-authority e acked cpa says h) = inr (inr (says_row (authority acked cpa) says (inl (inr (inl (e, inr h))))))
    to (Num.bad-revocation e id s validate says h) = inr (inr (says_row (revoke id s validate) says (inl (inl (e, h)))))
    to (Num.other_key e acked says good p w h) = inr (inr (says_row (authority acked true) says (inl (inr (inr (e, refl, good, p, w, h))))))
    to (Num.own-entry e id s validate r says h) = inr (inr (says_row (entry id s validate r) says (inl (inl (e, h)))))
    to (Num.own-revocation e id s validate says good h) = inr (inr (says_row (revoke id s validate) says (inl (inr (e, good, h)))))
    to (Num.not_ours e id validate says h) = inr (inr (says_row (inquire id validate) says (inl (e, h))))
    to (Num.id-waits e id s validate r says must p w h) = inr (inr (says_row (entry id s validate r) says (inl (inr (inl (e, must, p, w, h))))))
    to (Num.all-used e id s validate r says must h) = inr (inr (says_row (entry id s validate r) says (inl (inr (inr (e, must, h))))))
    to (Num.lookup-id-waits e id t q o says asks p w h) = inr (inr (says_row (lookup id t q o) says (inl (inl (e, asks, p, w, h)))))
    to (Num.lookup-all-used e id t q o says asks h) = inr (inr (says_row (lookup id t q o) says (inl (inr (e, asks, h)))))
    to (Num.no_room e x says ds r h) = inr (inr (says_row x says (inr (e, ds, r, h))))

    from : Row n (receive_table m l) → Clause m l n
    from (inl w) = Num.out-of-form w.0 (λ v. both (lent-tables m l v) (not-true _ w.1))
    from (inr (inl w)) = Num.out-of-form w.0 (λ v. both (lent-hands m l v) (not-true _ w.1))
    from (inr (inr w)) = elim (row_either n rs (message_rows m l a) w) [ inl v ↦ row_read m l bytes n low v | inr v ↦ row-says v ]

  pub receive-agree : Agree (Clause m l) (receive_table m l)
  receive-agree n low = (to n low, from n low)
