-- Controls. Document 01's wrong gauges ("Try these against demands 2 and 3"), each with the statement that it does not meet the demand it breaks, nor the sentences;
-- and one that meets all demands on keys and keeps them with another's addresses. A theorem of each name stands in proofs/ListsLaws.antt. Assumes nothing.
use Rattle.std.specs.Prelude.{ℕ, ◌<◌, Bool, true, false, cond, List, ◌++◌, map, length}
use Rattle.octet.specs.Part.{part, all_zero}
use Rattle.own.specs.Own.{own_keys}
use Rattle.table.specs.Rows.{bytes_of}
use Rattle.cache.specs.Form.{held_of}
use Rattle.gauge_commit.specs.Sending.{answer, handed}
use Rattle.gauge_plan.specs.Lent.{with_cache, with_firsts, Call, receives, sends, ticks, lists, own_of, output_of}
use Rattle.gauge.specs.Words.{Gauge}
use Rattle.gauge.specs.Ours.{ours}
use Rattle.sentences.specs.Meets.{MeetsTable, MeetsSentences}
use Rattle.signed.specs.Statements.{MeetsDemand3}
use Rattle.signed.specs.Answered.{HoldsLastAnswered}

abbrev pub is_list : Call → Bool
is_list (receives l) = false
is_list (sends l) = false
is_list (ticks l) = false
is_list (lists l) = true

-- ---- the gauges

-- "a gauge refusing all": every call is given the number n
unfoldable pub refuses_all : ℕ → Gauge
refuses_all n m c = handed (answer n 0 0) m (output_of c)

-- "one giving case 2's list always": as ours, but nothing is ever listed, with counts 0 and 0
unfoldable pub empty_list : Gauge
empty_list m c = cond (is_list c) (handed (answer 0 0 0) m (output_of c)) (ours m c)

-- "one that learns nothing": as ours, but the cache stays as lent, and the counts of its keys
unfoldable pub learns_nothing : Gauge
learns_nothing m c =
    let h = ours m c in
    handed h.answer (with_cache m.cache (with_firsts m.firsts h.memory)) h.output

-- "one that learns the first AUTHORITY and only says 0 to later ones": as ours while nothing is held, then the cache stays as lent
unfoldable pub learns_once : Gauge
learns_once m c = cond (all_zero m.cache) (ours m c) (learns_nothing m c)

-- "one returning invented list counts": as ours, but the list has always these two
unfoldable pub invented_counts : ℕ → ℕ → Gauge
invented_counts first second m c =
    let h = ours m c in
    cond (is_list c) (handed (answer h.answer.number first second) h.memory h.output) h

-- as ours, but each key is kept with the port and the addresses of the first record held
unfoldable pub mixes : Gauge
mixes m c =
    let h = ours m c in
    let s = h.memory.cache in
    let mixed = map (λ (r : List ℕ). part 0 32 r ++ part 32 68 s) (held_of (own_keys (own_of c)) s) in
    handed h.answer (with_cache (bytes_of (length s) mixed) h.memory) h.output

-- ---- each is shut out

-- "shut out by 'given exactly when'"
abbrev pub RefusesAllShut : Type 0
RefusesAllShut = (n : ℕ) → 0 < n → ¬ MeetsTable (refuses_all n)

-- by demand 3, and by the sentences too
abbrev pub BothShut : Gauge → Type 0
BothShut g = (¬ MeetsDemand3 g) × (¬ MeetsSentences g)

abbrev pub EmptyListShut : Type 0
EmptyListShut = BothShut empty_list

abbrev pub LearnsNothingShut : Type 0
LearnsNothingShut = BothShut learns_nothing

abbrev pub LearnsOnceShut : Type 0
LearnsOnceShut = BothShut learns_once

-- whatever the two counts are
abbrev pub InventedCountsShut : Type 0
InventedCountsShut = (first second : ℕ) → BothShut (invented_counts first second)

-- by the record last answered
abbrev pub MixesShut : Type 0
MixesShut = ¬ HoldsLastAnswered mixes
