-- What an accepted datagram tells of inquiries, by what was planned for it, and the log with one datagram more. Assumes nothing.
use mathlib.Core.Path.{◌≡◌, refl, sym, ap, subst}
use mathlib.Core.Bool.{Bool, true, false, cond, ◌&&◌}
use mathlib.Core.List.{List, [], ◌∷◌, ◌++◌}
use mathlib.Core.Option.{Option, some}
use Prim.Native.Nat.{ℕ}
use native.Mathlib.Omega.{arith}
use lib.Dec.{eqb}
use lib.ListN.{length}
use lib.Seq.{length-take-le}
use borrow.Author.Tests.{eq-eqb, ne_eqb, eqb-false, not-false}
use Rattle.octet.specs.Part.{part}
use Rattle.key.specs.Number.{key_at}
use Rattle.record.specs.Entry.{record_of}
use Rattle.own.specs.Own.{own_keys}
use Rattle.refusal.specs.Table.{Refusal, or_refuse}
use Rattle.refusal.proofs.TableLaws.{AllFail, both}
use Rattle.refusal.proofs.CallLaws.{or_known}
use Rattle.table.specs.Rows.{rows}
use Rattle.cache.specs.Form.{held_in}
use Rattle.waiting.specs.Form.{used_of}
use Rattle.table.specs.Seek.{seek}
use Rattle.waiting.specs.Seek.{is_at}
use Rattle.std.specs.Prelude.{Some, None}
use Rattle.wire_fields.specs.Places.{Part}
use Rattle.wire_buffer.specs.Buffer.{start_of}
use Rattle.wire_read.specs.Answers as R
use Rattle.wire_read.specs.declared.Incoming as T
use Rattle.wire_read.specs.declared.Incoming.TheVariants as M
use Rattle.wire_read.specs.declared.messages.Flood as F
use Rattle.wire.proofs.ShownLaws.{with_entry}
use Rattle.wire_write.specs.Making.{inquire_made}
use Rattle.look.specs.Seen.{size_of}
use Rattle.asking.specs.Asking.{asks_for}
use Rattle.asking.specs.Ids.{id_after}
use Rattle.asking.proofs.AskingLaws.{asks_none}
use Rattle.gauge_plan.specs.Memory.{fitness, tables_fit, memory_of, hands_fit}
use Rattle.plan_flood.specs.Flood.{flood_plan, revoke_plan}
use Rattle.gauge_plan.specs.Found.{place_of}
use Rattle.plan_answer.specs.Answering.{authority_refusals, authority_plan, ack_plan, inquire_plan, lookup_plan}
use Rattle.gauge_plan.specs.declared.Plan.{Plan}
use Rattle.gauge_plan.specs.declared.Plan.TheVariants.{Refuse, Flood, Revoke, Learn, Free, Certify, Show}
use Rattle.gauge_plan.proofs.FoundLaws.{some_found}
use Rattle.plan_answer.proofs.AnsweringLaws.{Waits, waits}
use Rattle.gauge_commit.specs.Sending.{lengths}
use Rattle.gauge_commit.specs.Replies.{ack_written, inquire_written}
use Rattle.gauge_commit.specs.declared.Answer.{Answer}
use Rattle.gauge_commit.proofs.LengthLaws.{ack-length, inquire-length}
use Rattle.gauge_plan.specs.Lent.{Memory, Receive, receives}
use Rattle.plan_message.specs.Planned.{by_entry, plan_for, receive_plan}
use Rattle.gauge.specs.Receive.{receive_call}
use Rattle.plan_message.proofs.PlannedLaws.{plan-message}
use Rattle.gauge_laws.proofs.TableLaws.{none_applies}
use Rattle.signed.specs.Answered.{AnswerTold, answer_told, inquires, entry_or, named_or, inquired, that_of, answered_by, answered}
use Rattle.signed.proofs.EventLaws as event

-- ---- what an accepted datagram tells of inquiries, by its plan

-- neither that one is sent nor that one is answered
pub record Quiet (m : Memory) (l : Receive) (a : T.Incoming) : Type 0 where
  pub asked : (earlier : Option (List ℕ)) → named_or l.datagram a earlier ≡ earlier
  pub answers : (es : List AnswerTold) → answered_by es a ≡ []

-- a FLOOD with a route entry
pub record Floods (m : Memory) (l : Receive) (a : T.Incoming) (start len : ℕ) : Type 0 where
  pub asked : (earlier : Option (List ℕ)) → named_or l.datagram a earlier ≡ some (record_of (part start len l.datagram))
  pub answers : (es : List AnswerTold) → answered_by es a ≡ []

-- a LOOKUP, whose route entry is inquired about or not
pub record Looks (m : Memory) (l : Receive) (a : T.Incoming) (opens : Bool) (start len : ℕ) : Type 0 where
  pub asked : opens ≡ true → (earlier : Option (List ℕ)) → named_or l.datagram a earlier ≡ some (record_of (part start len l.datagram))
  pub answers : (es : List AnswerTold) → answered_by es a ≡ []

-- an AUTHORITY: the inquiry that waits with the acked ID
pub record Answers (m : Memory) (l : Receive) (a : T.Incoming) (u at : ℕ) : Type 0 where
  pub acked : ℕ
  pub waiting : Waits acked 2 at (rows 140 u m.waiting)
  pub asked : (earlier : Option (List ℕ)) → named_or l.datagram a earlier ≡ earlier
  pub answers : (es : List AnswerTold) → answered_by es a ≡ that_of (inquired acked es)

abbrev pub Heard : Memory → Receive → T.Incoming → Plan → Type 0
Heard m l a (Refuse n) = ⊥
Heard m l a (Flood u s n b o start len) = Floods m l a start len
Heard m l a (Revoke h u s n b) = Quiet m l a
Heard m l a (Learn h u at) = Answers m l a u at
Heard m l a (Free h u at n) = Quiet m l a
Heard m l a (Certify b i) = Quiet m l a
Heard m l a (Show h u b t p z o start len) = Looks m l a o start len

module _ (m : Memory) (l : Receive) where
  -- behind a table: what is refused is not accepted, and the rest is known where no row applies
  behind : (a : T.Incoming) (rs : List Refusal) (done : Plan) → (AllFail rs → Heard m l a done)
      → event.Told m l a (or_refuse Refuse rs done) → Heard m l a (or_refuse Refuse rs done)
  behind a rs done h = or_known (λ (p : Plan). event.Told m l a p → Heard m l a p) Refuse rs done (λ n t. t) (λ f t. h f)

  heard-flood : (h u : ℕ) (x : F.Flood) (p : Part)
      → event.Told m l (M.Flood (with_entry x p)) (by_entry m l h u x.head x.d x.validate p)
      → Heard m l (M.Flood (with_entry x p)) (by_entry m l h u x.head x.d x.validate p)
  unfolding flood_plan revoke_plan
  heard-flood h u x (Some p) = behind _ _ _ (λ f. record { asked = λ earlier. refl; answers = λ es. refl })
  heard-flood h u x None = behind _ _ _ (λ f. record { asked = λ earlier. refl; answers = λ es. refl })

  heard-message : (h u : ℕ) (a : T.Incoming) → event.Told m l a (plan_for m l h u a) → Heard m l a (plan_for m l h u a)
  unfolding plan_for authority_plan ack_plan inquire_plan lookup_plan
  heard-message h u (M.Refused n) t = t
  heard-message h u (M.Solicit x) t = t
  heard-message h u (M.Advertise x) t = t
  heard-message h u (M.Request x) t = t
  heard-message h u (M.Flood x) t = heard-flood h u x x.entry t
  heard-message h u (M.Inquire x) t = behind _ _ _ (λ f. record { asked = λ earlier. refl; answers = λ es. refl }) t
  heard-message h u (M.Authority x) t =
      let ps = rows 140 u m.waiting in
      let found = seek (is_at x.acked 2) 0 ps in
      behind (M.Authority x) (authority_refusals ps l.verdict (key_at 0 l.key) x.acked (R.is_here x.fields.cpa))
      (Learn h u (place_of found)) (λ f. record {
        acked = x.acked;
        waiting = waits x.acked 2 (place_of found) ps (some_found found f.0);
        asked = λ earlier. refl;
        answers = λ es. refl;
      }) t
  heard-message h u (M.Ack x) t = behind _ _ _ (λ f. record { asked = λ earlier. refl; answers = λ es. refl }) t
  heard-message h u (M.Lookup x) t = behind _ _ _ (λ f. record { asked = entry-asked x.entry; answers = λ es. refl }) t
    where
      entry-asked : (p : Part)
          → asks_for (own_keys l.own) (rows 100 h m.cache) (rows 140 u m.waiting) (part (start_of p) (size_of p) l.datagram) ≡ true
          → (earlier : Option (List ℕ)) → entry_or l.datagram p earlier ≡ some (record_of (part (start_of p) (size_of p) l.datagram))
      entry-asked (Some p) e earlier = refl
      entry-asked None e earlier = both e (asks_none (own_keys l.own) (rows 100 h m.cache) (rows 140 u m.waiting) [] refl)

  pub heard : (receive_call m l).answer.number ≡ 0 → Heard m l (R.read_in l.datagram l.major) (receive_plan m l)
  unfolding memory_of
  heard z =
      let a = R.read_in l.datagram l.major in
      let f = none_applies m (receives l) z in
      let h = held_in (own_keys l.own) m.cache in
      let u = used_of m.waiting in
      let fit : memory_of l.own m ≡ fitness h u = rw (not-false (tables_fit l.own m) f.0) refl in
      let is = plan-message m l fit (not-false (hands_fit m l) f.1.0) in
      subst (Heard m l a) (sym is) (heard-message h u a (subst (event.Told m l a) is (event.told m l z)))

-- ---- the log with one call more

cond_same : {A : Type 0} (b : Bool) (x : A) → cond b x x ≡ x
cond_same true x = refl
cond_same false x = refl

cond_unless : {A : Type 0} (b : Bool) (x y : A) → cond (b && false) x y ≡ y
cond_unless true x y = refl
cond_unless false x y = refl

module _ (m : Memory) (l : Receive) (g : Answer) (es : List AnswerTold) where
  abbrev Message : T.Incoming
  Message = R.read_in l.datagram l.major

  -- which inquiry an ID is that of
  pub asked-still : ((earlier : Option (List ℕ)) → named_or l.datagram Message earlier ≡ earlier)
      → (id : ℕ) → inquired id (answer_told (receives l) g ∷ es) ≡ inquired id es
  unfolding inquired
  asked-still q id = rw (q (inquired id es)) (cond_same (inquires g && eqb (id_after l.id) id) (inquired id es))

  pub asked-none : inquires g ≡ false → (id : ℕ) → inquired id (answer_told (receives l) g ∷ es) ≡ inquired id es
  unfolding inquired
  asked-none e id = rw e refl

  pub asked-other : (id : ℕ) → eqb id (id_after l.id) ≡ false → inquired id (answer_told (receives l) g ∷ es) ≡ inquired id es
  unfolding inquired
  asked-other id e =
      rw (ne_eqb (id_after l.id) id (λ is. eqb-false id (id_after l.id) e (sym is)))
      (cond_unless (inquires g) (named_or l.datagram Message (inquired id es)) (inquired id es))

  pub asked_here : (r : List ℕ) → ((earlier : Option (List ℕ)) → named_or l.datagram Message earlier ≡ some r) → inquires g ≡ true
      → inquired (id_after l.id) (answer_told (receives l) g ∷ es) ≡ some r
  unfolding inquired
  asked_here r f e = rw (e, eq-eqb (id_after l.id) (id_after l.id) refl) (f (inquired (id_after l.id) es))

  -- which were answered
  pub answered-still : ((fs : List AnswerTold) → answered_by fs Message ≡ []) → answered (answer_told (receives l) g ∷ es) ≡ answered es
  unfolding answered
  answered-still q = rw (q es) (ap (λ (rs : List (List ℕ)). rs ++ answered es) (cond_same (eqb g.number 0) []))

  pub answered-one : (r : List ℕ) → answered_by es Message ≡ r ∷ [] → g.number ≡ 0 → answered (answer_told (receives l) g ∷ es) ≡ r ∷ answered es
  unfolding answered
  answered-one r e z = rw (e, eq-eqb g.number 0 z) refl

-- an INQUIRE is told exactly where one is sent
module _ (major minor id acked : ℕ) (nonce r : List ℕ) (fresh : length nonce ≡ 16) (long : length r ≡ 100) where
  asked-long : length (inquire_made major minor (id_after id) (part 0 32 r) nonce).bytes ≡ 76
  asked-long = inquire-length major minor (id_after id) (part 0 32 r) nonce (length-take-le 32 r (omega arith)) fresh

  pub inquires-is : (silent n opens : Bool) → inquires (lengths (ack_written major minor id silent acked n ++ inquire_written major minor id opens nonce r)) ≡ opens
  inquires-is true n true = rw asked-long refl
  inquires-is true n false = refl
  inquires-is false true true = rw (ack-length major minor id acked true, asked-long) refl
  inquires-is false false true = rw (ack-length major minor id acked false, asked-long) refl
  inquires-is false true false = rw (ack-length major minor id acked true) refl
  inquires-is false false false = rw (ack-length major minor id acked false) refl

-- behind an AUTHORITY with a record, which is longer
pub inquires-behind : (major minor id : ℕ) (nonce r shown : List ℕ) (opens : Bool) → ¬ (length shown ≡ 76) → (opens ≡ true → (length nonce ≡ 16) × (length r ≡ 100))
    → inquires (lengths (shown ∷ inquire_written major minor id opens nonce r)) ≡ opens
inquires-behind major minor id nonce r shown true other sized =
    let s = sized refl in
    rw (ne_eqb (length shown) 76 other, inquire-length major minor (id_after id) (part 0 32 r) nonce (length-take-le 32 r (omega (arith, s.1))) s.0) refl
inquires-behind major minor id nonce r shown false other sized = rw (ne_eqb (length shown) 76 other) refl
