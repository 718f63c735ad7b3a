-- Beside the demands. Document 01's third slip, "a late AUTHORITY bringing back a key revoked meanwhile", of any gauge that meets the sentences: after
-- an accepted revocation of a key no record of it is held and no AUTHORITY for it is accepted, until an INQUIRE for it was sent. A theorem of the name stands
-- in proofs/LateLaws.antt. Assumes nothing.
use Rattle.std.specs.Prelude.{ℕ, Bool, ◌⊎◌, List, [], ◌∷◌, ◌≡◌}
use Rattle.std.proofs.Math.Option.{some}
use Rattle.key.specs.Number.{key_at}
use Rattle.record.specs.Record.{key_of}
use Rattle.own.specs.Own.{Own, own_keys}
use Rattle.kept.specs.Keys.{Every}
use Rattle.gauge_plan.specs.Lent.{Memory, Call, receives, sends, ticks, lists}
use Rattle.gauge.specs.Words.{Gauge, left, Typed, OneKey}
use Rattle.sentences.specs.Heard.{entry, revoke, authority, lookup, Hears}
use Rattle.sentences.specs.Sentences.{Holds, MustAsk}
use Rattle.sentences.specs.Meets.{MeetsSentences}

-- a FLOOD that revokes the key u, by the host's verdict; an AUTHORITY whose CPA is good for it
abbrev pub Revokes : ℕ → Call → Type 0
Revokes u (receives l) =
    (i : ℕ) × (silent : Bool) × (validate : ℕ) × Hears l.datagram l.major (revoke i silent validate) × (key_at 0 l.key ≡ u)
Revokes u (sends l) = ⊥
Revokes u (ticks l) = ⊥
Revokes u (lists l) = ⊥

abbrev pub Answers : ℕ → Call → Type 0
Answers u (receives l) = (acked : ℕ) × (c : Bool) × Hears l.datagram l.major (authority acked c) × (key_at 0 l.key ≡ u)
Answers u (sends l) = ⊥
Answers u (ticks l) = ⊥
Answers u (lists l) = ⊥

-- a FLOOD or LOOKUP with a record of the key, which must be inquired about
abbrev pub AsksFor : ℕ → Memory → Call → Type 0
AsksFor u m (receives l) =
    ((i : ℕ) × (silent : Bool) × (validate : ℕ) × (r : List ℕ) × Hears l.datagram l.major (entry i silent validate r) × (key_of r ≡ u)
    × MustAsk (own_keys l.own) m r)
    ⊎ ((i target : ℕ) × (path r : List ℕ) × Hears l.datagram l.major (lookup i target path (some r)) × (key_of r ≡ u)
    × MustAsk (own_keys l.own) m r)
AsksFor u m (sends l) = ⊥
AsksFor u m (ticks l) = ⊥
AsksFor u m (lists l) = ⊥

-- of calls one after the other no accepted one asks for the key
abbrev pub NoneAsks : Gauge → ℕ → Memory → List Call → Type 0
NoneAsks g u m [] = Unit {0}
NoneAsks g u m (c ∷ cs) = Typed c × ((g m c).answer.number ≡ 0 → ¬ AsksFor u m c) × NoneAsks g u (g m c).memory cs

-- the memory m that these calls leave, where they have the same own keys, holds no record of the key u; and no AUTHORITY for u is accepted on it
pub record StaysOut (g : Gauge) (u : ℕ) (calls : List Call) (m : Memory) : Type 0 where
  pub not-held : (own : Own) → Every (OneKey own) calls → (r : List ℕ) → Holds own m r → ¬ (key_of r ≡ u)
  pub refused : (late : Call) → Typed late → Answers u late → ¬ ((g m late).answer.number ≡ 0)

-- c is the revocation, cs any calls after it
abbrev pub RevokedStaysOut : Type 0
RevokedStaysOut =
    (g : Gauge) → MeetsSentences g → (u : ℕ) (m : Memory) (c : Call) → Typed c → Revokes u c → (g m c).answer.number ≡ 0
    → (cs : List Call) → NoneAsks g u (g m c).memory cs → StaysOut g u (c ∷ cs) (left g (g m c).memory cs)
