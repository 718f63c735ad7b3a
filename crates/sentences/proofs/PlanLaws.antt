-- What is known of a datagram that is accepted: memory as it should be, a message read, the plan for it. Assumes nothing.
use mathlib.Core.Path.{◌≡◌, refl, sym, subst}
use mathlib.Core.Bool.{true}
use mathlib.Core.List.{List, [], ◌∷◌, ◌++◌, map}
use Prim.Native.Nat.{ℕ}
use borrow.Author.Tests.{not-false}
use Rattle.own.specs.Own.{own_keys}
use Rattle.refusal.specs.Table.{Refusal, or_refuse}
use Rattle.refusal.proofs.TableLaws.{AllFail}
use Rattle.refusal.proofs.CallLaws.{all_pass}
use Rattle.kept.specs.Keys.{Rising, plain}
use Rattle.cache.specs.Form.{held_in}
use Rattle.waiting.specs.Place.{id_of}
use Rattle.waiting.specs.Form.{used_of, places_of}
use Rattle.waiting.proofs.FormLaws.{form_of}
use Rattle.waiting.specs.Form as W
use Rattle.wire_fields.specs.Message.{type_of}
use Rattle.wire_fields.specs.Refusals as fields
use Rattle.wire_read.specs.Answers as R
use Rattle.gauge_plan.specs.Memory.{tables_fit, memory_of}
use Rattle.gauge_plan.specs.declared.Plan.{Plan}
use Rattle.gauge_plan.specs.declared.Plan.TheVariants.{Refuse}
use Rattle.gauge_plan.proofs.MemoryLaws.{Ready, Handed, known_hands}
use Rattle.gauge_plan.specs.Lent.{Memory, Receive, receives}
use Rattle.plan_message.specs.Planned.{plan_for, receive_plan}
use Rattle.gauge.specs.Receive.{carried, receive_call}
use Rattle.plan_message.proofs.PlannedLaws.{plan-message}
use Rattle.gauge_laws.specs.Table.{message_rows}
use Rattle.gauge_laws.proofs.TableLaws.{none_applies, IsMessage, shown-message}
use Rattle.gauge_laws.proofs.MovedLaws.{receive-ready}
use Rattle.sentences.specs.Heard.{Heard, Hears}
use Rattle.sentences.specs.Sentences as S
use Rattle.sentences.proofs.MembersLaws.{places_rise}

-- what fails in both tables fails in each
fails_behind : (rs ss : List Refusal) → AllFail (rs ++ ss) → AllFail ss
fails_behind [] ss a = a
fails_behind (r ∷ rs) ss a = fails_behind rs ss a.1

fails_front : (rs ss : List Refusal) → AllFail (rs ++ ss) → AllFail rs
fails_front [] ss a = tt
fails_front (r ∷ rs) ss a = (a.0, fails_front rs ss a.1)

module _ (m : Memory) (l : Receive) where
  abbrev pub held : ℕ
  held = held_in (own_keys l.own) m.cache

  abbrev pub used : ℕ
  used = used_of m.waiting

  -- what is known of an accepted call
  pub record Fine : Type 0 where
    pub ready : Ready l.own m held used
    pub hands : Handed l.own l.cpas l.nonce l.key

  -- by the message: what a plan does is what the sentence says; of the counts by first byte it is known (receive-rest, gauge_laws)
  abbrev pub Does : Heard → Plan → Type 0
  Does x p = Hears l.datagram l.major x → S.Beside (own_keys l.own) m (carried m l p).memory → S.Receives m l (carried m l p)

  module _ (z : (receive_call m l).answer.number ≡ 0) where
    pub fine : Fine
    fine = record { ready = receive-ready m l z; hands = known_hands m l (not-false _ (none_applies m (receives l) z).1.0) }

    pub message-fails : AllFail (message_rows m l (R.read_in l.datagram l.major))
    message-fails =
        fails_behind (fields.refusals l.datagram l.major) (message_rows m l (R.read_in l.datagram l.major))
        (none_applies m (receives l) z).1.1

    pub plan-is : receive_plan m l ≡ plan_for m l held used (R.read_in l.datagram l.major)
    unfolding memory_of
    plan-is =
        let fit : tables_fit l.own m ≡ true = not-false _ (none_applies m (receives l) z).0 in
        plan-message m l (rw fit refl) (not-false _ (none_applies m (receives l) z).1.0)

    -- it read a message
    reads-it : fields.found_in l.datagram l.major ≡ fields.found (type_of l.datagram) (fields.spans_of (fields.fields_in l.datagram))
    unfolding fields.found_in
    reads-it =
        let behind = message_rows m l (R.read_in l.datagram l.major) in
        all_pass fields.refused (fields.refusals l.datagram l.major) _
        (fails_front (fields.refusals l.datagram l.major) behind (none_applies m (receives l) z).1.1)

    pub is-message : IsMessage (R.read_in l.datagram l.major)
    is-message = subst (λ (x : fields.Found). IsMessage (R.incoming_of l.datagram x)) (sym reads-it) (shown-message l.datagram _ _)

  module _ (ok : Fine) where
    pub table-form : W.PlacesForm (own_keys l.own) m.waiting (places_of m.waiting)
    table-form = form_of (own_keys l.own) m.waiting ok.ready.tabled

    pub ids-rise : Rising plain 0 (map id_of (places_of m.waiting))
    ids-rise = places_rise (own_keys l.own) m.waiting ok.ready.tabled

-- the plan behind a table none of whose tests holds
pub passed : (m : Memory) (l : Receive) (x : Heard) (rs : List Refusal) (p : Plan) → AllFail rs → Does m l x p → Does m l x (or_refuse Refuse rs p)
passed m l x rs p bars d = subst (Does m l x) (sym (all_pass Refuse rs p bars)) d
