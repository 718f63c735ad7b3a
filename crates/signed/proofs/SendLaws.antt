-- What is known of an accepted send: the own record is in form, the neighbour's key has 32 bytes, the ID did not wait. Assumes nothing.
use mathlib.Core.Path.{◌≡◌}
use mathlib.Core.Bool.{true, false}
use Prim.Native.Nat.{ℕ}
use lib.Dec.{eqb}
use lib.ListN.{length}
use borrow.Author.Tests.{eqb-true, not-false}
use Rattle.octet.proofs.TestLaws.{both_true}
use Rattle.own.specs.Own.{own_form}
use Rattle.table.specs.Rows.{any_of}
use Rattle.waiting.specs.Form.{places_of}
use Rattle.waiting.specs.Seek.{has_id}
use Rattle.gauge_plan.specs.Memory.{tables_fit}
use Rattle.plan_send.specs.Send.{keys_fit}
use Rattle.gauge_plan.proofs.MemoryLaws.{ready}
use Rattle.gauge_plan.specs.Lent.{Memory, Send, sends}
use Rattle.gauge.specs.Send.{send_call}
use Rattle.gauge_laws.proofs.TableLaws.{none_applies}

-- an accepted one
pub record Sent (m : Memory) (l : Send) : Type 0 where
  pub owned : own_form l.own ≡ true
  pub short : length l.neighbour ≡ 32
  pub new : any_of (has_id l.id) (places_of m.waiting) ≡ false

pub sent : (m : Memory) (l : Send) → (send_call m l).answer.number ≡ 0 → Sent m l
sent m l z =
    let a = none_applies m (sends l) z in
    let keys = both_true (eqb (length l.neighbour) 32) (eqb (length l.key) 32) (not-false (keys_fit l.neighbour l.key) a.1.0) in
    record {
      owned = (ready l.own m (not-false (tables_fit l.own m) a.0)).owned;
      short = eqb-true (length l.neighbour) 32 keys.0;
      new = a.1.1.1.1.0;
    }
