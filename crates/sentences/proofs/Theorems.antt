-- Ours meets the sentences, so any gauge that meets them is ours. Assumes nothing.
use mathlib.Core.Path.{◌≡◌, refl}
use mathlib.Core.Logic.{◌↔◌}
use Prim.Native.Nat.{ℕ, ◌<◌}
use native.Mathlib.Omega.{arith}
use Rattle.refusal.specs.Table.{Refusal}
use Rattle.gauge_plan.specs.Lent.{Memory, Call, receives, sends, ticks, lists}
use Rattle.gauge.specs.Words.{Gauge, Typed}
use Rattle.gauge.specs.Ours.{ours}
use Rattle.gauge_laws.specs.Table.{table_of}
use Rattle.gauge_laws.proofs.TableLaws.{exactly, accepted}
use Rattle.gauge_laws.proofs.RefusedLaws.{refused_keeps}
use Rattle.sentences.specs.Sentences as S
use Rattle.sentences.specs.Numbers as Num
use Rattle.sentences.specs.Meets as Meets
use Rattle.sentences.proofs.FirstLaws.{Agree, first-iff, none-iff}
use Rattle.sentences.proofs.NumberLaws.{receive-agree}
use Rattle.sentences.proofs.OtherLaws.{tick_agree, list_agree, send-agree}
use Rattle.sentences.proofs.DoesLaws.{ticks-does, lists-does, sends-does}
use Rattle.sentences.proofs.ReceiveLaws.{receives-does}
use Rattle.sentences.proofs.OneLaws.{one_gauge}

agree : (m : Memory) (c : Call) → Typed c → Agree (Num.Applies m c) (table_of m c)
agree m (receives l) ty = receive-agree m l ty.0
agree m (sends l) ty = send-agree m l
agree m (ticks l) ty = tick_agree m l
agree m (lists l) ty = list_agree m l

does : (m : Memory) (c : Call) → Typed c → (ours m c).answer.number ≡ 0 → S.Does m c (ours m c)
does m (receives l) ty z = receives-does m l ty.0 z
does m (sends l) ty z = sends-does m l ty z
does m (ticks l) ty z = ticks-does m l z
does m (lists l) ty z = lists-does m l z

pub ours_meets_table : Meets.MeetsTable ours
ours_meets_table = record {
  number = λ m c ty n p.
      let e = exactly m c n p in
      let f = first-iff (Num.Applies m c) (table_of m c) (agree m c ty) n in
      (λ h. f.0 (e.0 h), λ h. e.1 (f.1 h));
  accepted = λ m c ty.
      let e = accepted m c in
      let f = none-iff (Num.Applies m c) (table_of m c) (agree m c ty) in
      (λ h. f.0 (e.0 h), λ h. e.1 (f.1 h));
  keeps = refused_keeps;
}

pub ours_meets : Meets.MeetsSentences ours
ours_meets = record { table = ours_meets_table; does = does }

-- what a gauge that meets the sentences hands back is what ours does: each number and each byte
pub acts : (g : Gauge) → Meets.MeetsSentences g → (m : Memory) (c : Call) → Typed c → g m c ≡ ours m c
acts g p m c ty = one_gauge g ours p ours_meets m c ty
