-- To believe. "What we write reads back as the same message", of each datagram that a call sends. Assumes nothing.
use Rattle.std.specs.Prelude.{ℕ, ◌^◌, ◌<◌, List, ◌≡◌}
use Rattle.octet.specs.Number.{Bytes}
use Rattle.kept.specs.Keys.{Every}
use Rattle.wire_shapes.specs.Shapes.{Kind}
use Rattle.wire_fields.specs.Message.{Message, Reads}
use Rattle.gauge_plan.specs.Lent.{Memory, Receive, Send, ReceiveLent, SendLent}
use Rattle.sentences.specs.Heard.{Heard}
use Rattle.sentences.specs.Sentences.{written, Reply, Named, flooding}
use Rattle.sentences.specs.Numbers.{Says}

-- the datagram is the bytes of a message, and reads as it
abbrev pub ReadsBack : List ℕ → Type 0
ReadsBack d = (ks : List Kind) × (msg : Message) × (d ≡ written ks msg) × Reads ks d msg

-- what the types of a call say of all that goes into a datagram
pub record Bytewise (m : Memory) (l : Receive) : Type 0 where
  pub numbers : (l.major < 256) × (l.minor < 256) × (l.id < 2 ^ 32)
  pub own : Bytes l.own
  pub cpas : Bytes l.cpas
  pub cache : Bytes m.cache
  pub nonce : Bytes l.nonce
  pub datagram : Bytes l.datagram

pub record BytewiseSend (m : Memory) (l : Send) : Type 0 where
  pub numbers : (l.major < 256) × (l.minor < 256) × (l.id < 2 ^ 32)
  pub own : Bytes l.own
  pub cache : Bytes m.cache
  pub neighbour : Bytes l.neighbour

abbrev pub SentReads : Type 0
SentReads =
    (m : Memory) (l : Receive) → Bytewise m l → ReceiveLent m l → (x : Heard) → Says l x
    → (ds : List (List ℕ)) → Reply m l x ds → Every ReadsBack ds

abbrev pub FloodReads : Type 0
FloodReads =
    (m : Memory) (l : Send) → BytewiseSend m l → SendLent m l → (r : List ℕ) → Named m l r → Every ReadsBack (flooding l r)
