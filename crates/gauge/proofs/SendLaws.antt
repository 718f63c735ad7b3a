-- Laws of a FLOOD sent: what is known of its plan; what the commit requires; the call by its plan. Assumes nothing.
use mathlib.Core.Path.{◌≡◌, sym, ap, subst}
use mathlib.Core.Bool.{Bool, true, false}
use mathlib.Core.List.{List, [], ◌∷◌}
use Prim.Native.Nat.{ℕ, ◌+◌, ◌*◌, ◌≤◌, ◌<◌}
use lib.ListN.{length}
use Rattle.std.specs.Prelude.{Result, Err}
use Rattle.record.specs.Record.{record_form}
use Rattle.table.specs.Rows.{rows, bytes_of, Laid}
use Rattle.waiting.specs.Open.{opened}
use Rattle.waiting.specs.Place.{flood_place}
use Rattle.wire_write.specs.Making.{flood_made}
use Rattle.gauge_plan.specs.Lent.{Memory, with_waiting, Send}
use Rattle.plan_send.specs.Send.{record_sent, flood_room, sends_at}
use Rattle.plan_send.specs.declared.Flood.{Flood}
use Rattle.plan_send.proofs.SendLaws as planned
use Rattle.gauge_commit.specs.declared.Answer.{Answer}
use Rattle.gauge_commit.specs.Sending.{answer, handed, lengths, sending}
use Rattle.gauge.specs.Send.{send_plan, send_carried, send_call}

-- ---- what is known of a plan

abbrev pub KnownSend : Memory → Send → Result Flood ℕ → Type 0
KnownSend m l p = planned.KnownSend l.own m l.id l.neighbour l.key (length l.output) p

pub send_known : (m : Memory) (l : Send) → KnownSend m l (send_plan m l)
send_known m l = planned.known-send l.own m l.id l.neighbour l.key (length l.output)

module _ (m : Memory) (l : Send) where
  pub send-known-by : {p : Result Flood ℕ} → send_plan m l ≡ p → KnownSend m l p
  send-known-by e = subst (KnownSend m l) e (send_known m l)

  -- ---- what the commit requires, and how long the record's key is

  pub send-needs : {u : ℕ} {ours : Bool} {at : ℕ} → send_plan m l ≡ sends_at u ours at
      → (u < 16) × (length m.waiting ≡ 2240) × Laid 140 u m.waiting × (length l.neighbour ≡ 32)
      × (ours ≡ true → 100 * at + 100 ≤ length l.own) × (ours ≡ false → 100 * at + 100 ≤ length m.cache)
      × (record_form (record_sent l.own m.cache ours at) ≡ true)
      × (flood_room (record_sent l.own m.cache ours at) ≤ length l.output) × (length l.key ≡ 32)
  send-needs {u} {ours} {at} e =
      let k = send-known-by e in (k.free, k.ready.size, k.ready.laid, k.addressed, k.own-within, k.within, k.formed, k.fits_in, k.keyed)

  -- ---- the call, by its plan

  pub send_by : {p : Result Flood ℕ} → send_plan m l ≡ p → send_call m l ≡ send_carried m l p
  unfolding send_call
  send_by e = ap (send_carried m l) e

  pub send_refused : {n : ℕ} {r : Answer} → send_plan m l ≡ Err n → r ≡ answer n 0 0 → handed r m l.output ≡ send_call m l
  unfolding send_carried
  send_refused e is = rw is (sym (send_by e))

  pub send-sent : {u : ℕ} {ours : Bool} {at : ℕ} {r : Answer} {w o : List ℕ} → send_plan m l ≡ sends_at u ours at
      → r ≡ lengths ((flood_made l.major l.minor l.id l.neighbour (record_sent l.own m.cache ours at) 0).bytes ∷ [])
      → w ≡ bytes_of 2240 (opened (flood_place l.id l.neighbour) (rows 140 u m.waiting))
      → o ≡ sending ((flood_made l.major l.minor l.id l.neighbour (record_sent l.own m.cache ours at) 0).bytes ∷ []) l.output
      → handed r (with_waiting w m) o ≡ send_call m l
  unfolding send_carried
  send-sent e told place written = rw (told, place, written) (sym (send_by e))
