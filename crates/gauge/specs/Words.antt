-- To believe. The words in which all that is signed speaks: a gauge, and calls one after the other with the numbers given. Assumes nothing.
use Rattle.std.specs.Prelude.{ℕ, ◌+◌, ◌*◌, ◌^◌, ◌<◌, List, [], ◌∷◌, ◌≡◌, true}
use Rattle.octet.specs.Number.{Bytes}
use Rattle.own.specs.Own.{Own, own_form, own_keys}
use Rattle.kept.specs.Keys.{Every}
use Rattle.gauge_plan.specs.Lent.{Memory, Call, receives, sends, ticks, lists, own_of}
use Rattle.gauge_commit.specs.declared.Answer.{Answer}
use Rattle.gauge_commit.specs.Sending.{Handed}

abbrev pub Gauge : Type 0
Gauge = Memory → Call → Handed

-- how many bytes of the output the two counts stand for: lengths of datagrams, IDs of 4 bytes, keys of 32
abbrev pub returned : Call → Answer → ℕ
returned (receives l) a = a.first + a.second
returned (sends l) a = a.first + a.second
returned (ticks l) a = 4 * a.first
returned (lists l) a = 32 * (a.first + a.second)

-- what the types of a call say: a datagram is one of bytes, an ID has 32 bits
abbrev pub Typed : Call → Type 0
Typed (receives l) = Bytes l.datagram × (l.id < 2 ^ 32)
Typed (sends l) = l.id < 2 ^ 32
Typed (ticks l) = Unit {0}
Typed (lists l) = Unit {0}

-- ---- one call after the other

-- the memory after the calls
unfoldable pub left : Gauge → Memory → List Call → Memory
left g m [] = m
left g m (c ∷ cs) = left g (g m c).memory cs

-- the log: each call with the number that it was given, and never the memory
pub record Entry : Type 0 where
  pub call : Call
  pub number : ℕ

abbrev pub entry : Call → ℕ → Entry
entry c n = record { call = c; number = n }

unfoldable pub log : Gauge → Memory → List Call → List Entry
log g m [] = []
log g m (c ∷ cs) = entry c (g m c).answer.number ∷ log g (g m c).memory cs

-- calls as their types say, with the same own keys: records in form that are handed in as ours have them, ports and addresses may change
abbrev pub OneKey : Own → Call → Type 0
OneKey own c = own_form (own_of c) ≡ true → own_keys (own_of c) ≡ own

abbrev pub Proper : Own → List Call → Type 0
Proper own calls = Every (λ (c : Call). OneKey own c × Typed c) calls
