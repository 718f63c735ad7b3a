-- Ours does what the sentences say of a datagram received, message by message. Assumes nothing.
use mathlib.Core.Path.{◌≡◌, refl, sym, subst}
use Prim.Native.Nat.{◌+◌, ◌-◌}
use Rattle.octet.specs.Number.{Bytes}
use Rattle.own.specs.Own.{own_keys}
use Rattle.refusal.proofs.TableLaws.{AllFail, both}
use Rattle.cache.specs.Form.{held_of}
use Rattle.wire_buffer.specs.Buffer.{start_of}
use Rattle.wire_read.specs.Answers as R
use Rattle.wire_read.specs.declared.Incoming as T
use Rattle.wire_read.specs.declared.Incoming.TheVariants as M
use Rattle.plan_answer.specs.Answering.{authority_plan, ack_plan, inquire_plan, lookup_plan}
use Rattle.look.specs.Seen.{size_of}
use Rattle.gauge_plan.specs.Lent.{Memory, Receive}
use Rattle.gauge_commit.specs.Sending.{Handed}
use Rattle.plan_message.specs.Planned.{plan_for}
use Rattle.gauge.specs.Receive.{receive_call}
use Rattle.plan_message.proofs.AnswerLaws.{KnownAnswer, known_answer}
use Rattle.gauge.proofs.ReceiveLaws.{call_by}
use Rattle.gauge_laws.specs.Table.{message_rows}
use Rattle.gauge_laws.proofs.TableLaws.{IsMessage}
use Rattle.gauge_laws.proofs.FormLaws.{receive-rest}
use Rattle.sentences.specs.Heard.{Heard}
use Rattle.sentences.specs.Sentences as S
use Rattle.sentences.proofs.HeardLaws.{heard_by, lookup_heard, answer-hears}
use Rattle.sentences.proofs.WordLaws.{message-zero}
use Rattle.sentences.proofs.PlanLaws.{held, used, Fine, Does, fine, message-fails, plan-is, is-message, passed}
use Rattle.sentences.proofs.FloodDoesLaws.{flood-does}
use Rattle.sentences.proofs.MessageDoesLaws.{authority-does, ack-does, inquire-does, lookup-does}

module _ (m : Memory) (l : Receive) where
  any-does : Fine m l → (a : T.Incoming) → IsMessage a → KnownAnswer l.datagram a → AllFail (message_rows m l a)
      → Does m l (heard_by l.datagram a) (plan_for m l (held m l) (used m l) a)
  unfolding plan_for authority_plan ack_plan inquire_plan lookup_plan held_of
  any-does ok (M.Refused n) i w bars = absurd i
  any-does ok (M.Solicit x) i w bars = both refl bars.0
  any-does ok (M.Advertise x) i w bars = both refl bars.0
  any-does ok (M.Request x) i w bars = both refl bars.0
  any-does ok (M.Flood x) i w bars = flood-does m l ok x.head x.d x.validate x.entry w.1 bars
  any-does ok (M.Inquire x) i w bars = passed m l _ _ _ bars (inquire-does m l ok x.head.id x.validate)
  any-does ok (M.Authority x) i w bars = passed m l _ _ _ bars (authority-does m l ok x.acked (R.is_here x.fields.cpa) bars.0)
  any-does ok (M.Ack x) i w bars = passed m l _ _ _ bars (ack-does m l ok x.acked x.n bars.0)
  any-does ok (M.Lookup x) i w bars =
      subst (λ (y : Heard). Does m l y (plan_for m l (held m l) (used m l) (M.Lookup x))) (sym (lookup_heard l.datagram x w))
      (passed m l _ (message_rows m l (M.Lookup x)) _ bars (lookup-does m l ok x.head.id x.target (start_of x.path + 8) (size_of x.path - 8) x.entry w.1 bars.0 bars.1.0))

  pub receives-does : Bytes l.datagram → (receive_call m l).answer.number ≡ 0 → S.Receives m l (receive_call m l)
  receives-does b z =
      let a = R.read_in l.datagram l.major in
      let i = is-message m l z in
      let d = any-does (fine m l z) a i (known_answer l.datagram l.major) (message-fails m l z)
      (answer-hears l.datagram b l.major (message-zero a i)) in
      let is = call_by m l (plan-is m l z) in
      subst (S.Receives m l) (sym is) (d (subst (λ (h : Handed). S.Beside (own_keys l.own) m h.memory) is (receive-rest m l z)))
