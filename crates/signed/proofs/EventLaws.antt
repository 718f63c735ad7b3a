-- What an accepted datagram does to the keys, as the log tells it, by what was planned for it. Assumes nothing.
use mathlib.Core.Path.{◌≡◌, refl, sym, subst}
use mathlib.Core.Bool.{Bool, cond}
use borrow.Author.Tests.{not-false}
use mathlib.Core.List.{List, [], ◌∷◌}
use Prim.Native.Nat.{ℕ}
use Rattle.key.specs.Number.{key_at}
use Rattle.own.specs.Own.{own_keys}
use Rattle.refusal.specs.Table.{Refusal, or_refuse}
use Rattle.refusal.proofs.TableLaws.{AllFail, both}
use Rattle.refusal.proofs.CallLaws.{all_pass}
use Rattle.table.specs.Rows.{rows}
use Rattle.kept.specs.History.{learned, removed}
use Rattle.cache.specs.Form.{held_in, held_of}
use Rattle.waiting.specs.Form.{used_of, places_of}
use Rattle.table.specs.Seek.{seek}
use Rattle.waiting.specs.Seek.{is_at}
use Rattle.wire_fields.specs.Message.{type_of}
use Rattle.wire_fields.specs.Refusals as fields
use Rattle.std.specs.Prelude.{Some, None}
use Rattle.wire_fields.specs.Places.{Part}
use Rattle.wire_read.specs.Answers as R
use Rattle.wire_read.specs.declared.Incoming as T
use Rattle.wire_read.specs.declared.Incoming.TheVariants as M
use Rattle.wire_read.specs.declared.messages.Flood as F
use Rattle.wire.proofs.ShownLaws.{with_entry}
use Rattle.gauge_plan.specs.Memory.{tables_fit, memory_of, hands_fit}
use Rattle.plan_flood.specs.Flood.{flood_plan, revoke_plan}
use Rattle.gauge_plan.specs.Found.{place_of}
use Rattle.plan_answer.specs.Answering.{ack_refusals, authority_plan, ack_plan, inquire_plan, lookup_plan}
use Rattle.gauge_plan.specs.declared.Plan.{Plan}
use Rattle.gauge_plan.specs.declared.Plan.TheVariants.{Refuse, Flood, Revoke, Learn, Free, Certify, Show}
use Rattle.gauge_plan.proofs.FoundLaws.{some_found}
use Rattle.plan_answer.proofs.AnsweringLaws.{Waits, waits}
use Rattle.gauge_plan.specs.Lent.{Memory, Receive, receives}
use Rattle.plan_message.specs.Planned.{by_entry, plan_for, receive_plan}
use Rattle.gauge.specs.Receive.{receive_call}
use Rattle.gauge_laws.specs.Table.{flood_table, message_rows, receive_table}
use Rattle.gauge_laws.proofs.TableLaws.{IsMessage, shown-message, none_applies}
use Rattle.gauge.specs.Words.{Entry}
use Rattle.sentences.proofs.HeardLaws.{heard_by}
use Rattle.signed.specs.Events.{sent_to, removed_if, told_by}

-- an ACK: the flood that waits with the acked ID, and with N the key that it went to
pub record Acked (m : Memory) (l : Receive) (a : T.Incoming) (u at : ℕ) (n : Bool) : Type 0 where
  pub acked : ℕ
  pub waiting : Waits acked 1 at (rows 140 u m.waiting)
  pub told : (es : List Entry) → told_by es (key_at 0 l.key) (heard_by l.datagram a) ≡ cond n (removed_if (sent_to acked es)) []

-- what a message tells, where a plan is made for it
abbrev pub Told : Memory → Receive → T.Incoming → Plan → Type 0
Told m l a (Refuse n) = ⊥
Told m l a (Flood u s n b o at size) = (es : List Entry) → told_by es (key_at 0 l.key) (heard_by l.datagram a) ≡ []
Told m l a (Revoke h u s n b) = (es : List Entry) → told_by es (key_at 0 l.key) (heard_by l.datagram a) ≡ removed (key_at 0 l.key) ∷ []
Told m l a (Learn h u at) = (es : List Entry) → told_by es (key_at 0 l.key) (heard_by l.datagram a) ≡ learned (key_at 0 l.key) ∷ []
Told m l a (Free h u at n) = Acked m l a u at n
Told m l a (Certify b i) = (es : List Entry) → told_by es (key_at 0 l.key) (heard_by l.datagram a) ≡ []
Told m l a (Show h u b t p z o start len) = (es : List Entry) → told_by es (key_at 0 l.key) (heard_by l.datagram a) ≡ []

-- where no row of a table applies, what stands behind it
behind : (m : Memory) (l : Receive) (a : T.Incoming) (rs : List Refusal) (done : Plan) → AllFail rs → Told m l a done → Told m l a (or_refuse Refuse rs done)
behind m l a rs done f t = subst (Told m l a) (sym (all_pass Refuse rs done f)) t

module _ (m : Memory) (l : Receive) where
  told-flood : (x : F.Flood) (p : Part) → AllFail (flood_table m l x.d x.validate p)
      → Told m l (M.Flood (with_entry x p))
      (by_entry m l (held_in (own_keys l.own) m.cache) (used_of m.waiting) x.head x.d x.validate p)
  unfolding flood_plan revoke_plan held_of
  told-flood x (Some p) f = behind m l (M.Flood (with_entry x (Some p))) _ _ f (λ es. refl)
  told-flood x None f = behind m l (M.Flood (with_entry x None)) _ _ f (λ es. refl)

  told-message : (a : T.Incoming) → IsMessage a → AllFail (message_rows m l a)
      → Told m l a (plan_for m l (held_in (own_keys l.own) m.cache) (used_of m.waiting) a)
  unfolding plan_for authority_plan ack_plan inquire_plan lookup_plan held_of
  told-message (M.Refused n) w f = w
  told-message (M.Solicit x) w f = both refl f.0
  told-message (M.Advertise x) w f = both refl f.0
  told-message (M.Request x) w f = both refl f.0
  told-message (M.Flood x) w f = told-flood x x.entry f
  told-message (M.Inquire x) w f = behind m l (M.Inquire x) _ _ f (λ es. refl)
  told-message (M.Authority x) w f = behind m l (M.Authority x) _ _ f (λ es. refl)
  told-message (M.Ack x) w f =
      let ps = places_of m.waiting in
      let found = seek (is_at x.acked 1) 0 ps in
      behind m l (M.Ack x) (ack_refusals ps x.acked) (Free (held_in (own_keys l.own) m.cache) (used_of m.waiting) (place_of found) x.n) f
      (record { acked = x.acked; waiting = waits x.acked 1 (place_of found) ps (some_found found f.0); told = λ es. refl })
  told-message (M.Lookup x) w f = behind m l (M.Lookup x) _ _ f (λ es. refl)

  -- a datagram that no row of reading refuses holds a message
  is-message : AllFail (fields.refusals l.datagram l.major) → IsMessage (R.read_in l.datagram l.major)
  unfolding fields.found_in
  is-message f =
      let done = fields.found (type_of l.datagram) (fields.spans_of (fields.fields_in l.datagram)) in
      subst (λ (x : fields.Found). IsMessage (R.incoming_of l.datagram x))
      (sym (all_pass fields.refused (fields.refusals l.datagram l.major) done f))
      (shown-message l.datagram _ _)

  planned : AllFail (receive_table m l)
      → receive_plan m l ≡ plan_for m l (held_in (own_keys l.own) m.cache) (used_of m.waiting) (R.read_in l.datagram l.major)
  unfolding receive_plan memory_of or_refuse
  planned f = rw (not-false (tables_fit l.own m) f.0, not-false (hands_fit m l) f.1.0) refl

  pub told : (receive_call m l).answer.number ≡ 0 → Told m l (R.read_in l.datagram l.major) (receive_plan m l)
  told z =
      let f = none_applies m (receives l) z in
      let r = f.1.1 in
      let reads : AllFail (fields.refusals l.datagram l.major) =
      (r.0, (r.1.0, (r.1.1.0, (r.1.1.1.0, (r.1.1.1.1.0, (r.1.1.1.1.1.0, tt)))))) in
      subst (Told m l (R.read_in l.datagram l.major)) (sym (planned f))
      (told-message (R.read_in l.datagram l.major) (is-message reads) r.1.1.1.1.1.1)
