-- To believe. All that a call is lent and handed in: the memory that only calls change, and for each of the four calls all else, the output as lent among
-- it; and when it is as it should be. Assumes nothing.
use Rattle.std.specs.Prelude.{ℕ, ◌*◌, ◌≡◌, true, List, length, replicate}
use Rattle.own.specs.Own.{Own, own_form, own_keys, own_records, own_place}
use Rattle.cache.specs.Form.{keys_of, held_of, cache_form}
use Rattle.firsts.specs.Firsts.{firsts_of}
use Rattle.waiting.specs.Form.{waiting_form}
use Rattle.cpas.specs.Cpas.{cpas_form, cpa_of}

-- what is lent to each call as the one before left it
pub record Memory : Type 0 where
  pub cache : List ℕ
  pub firsts : List ℕ
  pub waiting : List ℕ

abbrev pub memory : (cache firsts waiting : List ℕ) → Memory
memory cache firsts waiting = record { cache = cache; firsts = firsts; waiting = waiting }

-- an empty cache of C records, no key counted, and an empty waiting table
abbrev pub empty : ℕ → Memory
empty C = memory (replicate (100 * C) 0) (replicate 512 0) (replicate 2240 0)

-- the same memory with another cache; with other counts by first byte; with another waiting table
abbrev pub with_cache : List ℕ → Memory → Memory
with_cache cache m = memory cache m.firsts m.waiting

abbrev pub with_firsts : List ℕ → Memory → Memory
with_firsts firsts m = memory m.cache firsts m.waiting

abbrev pub with_waiting : List ℕ → Memory → Memory
with_waiting waiting m = memory m.cache m.firsts waiting

-- with both tables, and whatever memory there is besides: what a function leaves open that is lent these two alone
abbrev pub with_tables : List ℕ → List ℕ → Memory → Memory
with_tables cache waiting m = with_cache cache (with_waiting waiting m)

-- the counts by first byte are those of the keys held, "those counted afresh" (02, Wish 12)
abbrev pub Counted : Own → Memory → Type 0
Counted own m = m.firsts ≡ firsts_of (keys_of (held_of own m.cache))

-- memory is in form, for our own keys
abbrev pub InForm : Own → Memory → Type 0
InForm own m = (cache_form own m.cache ≡ true) × (waiting_form own m.waiting ≡ true) × Counted own m

-- what a received datagram comes with
pub record Receive : Type 0 where
  pub own : List ℕ
  pub cpas : List ℕ
  pub major : ℕ
  pub minor : ℕ
  pub id : ℕ
  pub nonce : List ℕ
  pub verdict : ℕ
  pub key : List ℕ
  pub datagram : List ℕ
  pub output : List ℕ

abbrev pub receive : (own cpas : List ℕ) (major minor id : ℕ) (nonce : List ℕ) (verdict : ℕ) (key datagram output : List ℕ) → Receive
receive own cpas major minor id nonce verdict key datagram output =
    record {
      own = own;
      cpas = cpas;
      major = major;
      minor = minor;
      id = id;
      nonce = nonce;
      verdict = verdict;
      key = key;
      datagram = datagram;
      output = output;
    }

-- the same with another datagram; by a gauge with other own records
abbrev pub hearing : List ℕ → Receive → Receive
hearing d l = receive l.own l.cpas l.major l.minor l.id l.nonce l.verdict l.key d l.output

abbrev pub hearing_as : List ℕ → Receive → Receive
hearing_as own l = receive own l.cpas l.major l.minor l.id l.nonce l.verdict l.key l.datagram l.output

-- with these, and whatever it comes with besides: what a function leaves open that gets these alone. What is handed in with a datagram; what a plan is made of
abbrev pub handing : (own cpas nonce key : List ℕ) → Receive → Receive
handing own cpas nonce key l = receive own cpas l.major l.minor l.id nonce l.verdict key l.datagram l.output

abbrev pub planning : (own cpas : List ℕ) (major id verdict : ℕ) (key datagram output : List ℕ) → Receive → Receive
planning own cpas major id verdict key datagram output l = receive own cpas major l.minor id l.nonce verdict key datagram output

-- our CPA for a key of ours: that of the own record with it
abbrev pub cpa_for : Receive → ℕ → List ℕ
cpa_for l k = cpa_of (own_place (own_keys l.own) k) l.cpas

-- what a FLOOD is sent from
pub record Send : Type 0 where
  pub own : List ℕ
  pub major : ℕ
  pub minor : ℕ
  pub id : ℕ
  pub neighbour : List ℕ
  pub key : List ℕ
  pub output : List ℕ

abbrev pub send : (own : List ℕ) (major minor id : ℕ) (neighbour key output : List ℕ) → Send
send own major minor id neighbour key output =
    record { own = own; major = major; minor = minor; id = id; neighbour = neighbour; key = key; output = output }

-- what a tick comes with, and a neighbour list
pub record Tick : Type 0 where
  pub own : List ℕ
  pub output : List ℕ

abbrev pub tick : List ℕ → List ℕ → Tick
tick own output = record { own = own; output = output }

pub record Listing : Type 0 where
  pub own : List ℕ
  pub key : List ℕ
  pub output : List ℕ

abbrev pub listing : (own key output : List ℕ) → Listing
listing own key output = record { own = own; key = key; output = output }

-- one call, whichever it is
pub data Call : Type 0 where
  receives : Receive → Call
  sends : Send → Call
  ticks : Tick → Call
  lists : Listing → Call

-- ---- lent as it should be: "Each call on the cache or the waiting table is lent the own record too"; a CPA for each own record (02, Wish 11); "a 16-byte nonce"; "A key
-- handed in has 32 bytes"; "Counts lent that disagree with the cache are refused" (02, Wish 12)

pub record ReceiveLent (m : Memory) (l : Receive) : Type 0 where
  pub own : own_form l.own ≡ true
  pub cache : cache_form (own_keys l.own) m.cache ≡ true
  pub waiting : waiting_form (own_keys l.own) m.waiting ≡ true
  pub firsts : Counted (own_keys l.own) m
  pub cpas : cpas_form (length (own_records l.own)) l.cpas ≡ true
  pub nonce : length l.nonce ≡ 16
  pub key : length l.key ≡ 32

pub record SendLent (m : Memory) (l : Send) : Type 0 where
  pub own : own_form l.own ≡ true
  pub cache : cache_form (own_keys l.own) m.cache ≡ true
  pub waiting : waiting_form (own_keys l.own) m.waiting ≡ true
  pub neighbour : length l.neighbour ≡ 32
  pub key : length l.key ≡ 32

pub record TickLent (m : Memory) (l : Tick) : Type 0 where
  pub own : own_form l.own ≡ true
  pub waiting : waiting_form (own_keys l.own) m.waiting ≡ true

pub record ListLent (m : Memory) (l : Listing) : Type 0 where
  pub own : own_form l.own ≡ true
  pub cache : cache_form (own_keys l.own) m.cache ≡ true
  pub key : length l.key ≡ 32

-- ---- one call, of any of the four

-- of any of them, the own records and the output as lent
abbrev pub own_of : Call → List ℕ
own_of (receives l) = l.own
own_of (sends l) = l.own
own_of (ticks l) = l.own
own_of (lists l) = l.own

abbrev pub output_of : Call → List ℕ
output_of (receives l) = l.output
output_of (sends l) = l.output
output_of (ticks l) = l.output
output_of (lists l) = l.output
