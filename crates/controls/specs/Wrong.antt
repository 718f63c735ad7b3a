-- Controls. Gauges that are wrong in one thing, and the statement that document 01's sentences shut each of them out. No part of what is believed: a reader sees
-- here what the sentences are good for. A theorem of each name stands in proofs/WrongLaws.antt. Assumes nothing.
use Rattle.std.specs.Prelude.{ℕ, ◌+◌, ◌-◌, ◌<◌, Bool, true, false, not, cond, ◌&&◌, List, [], ◌∷◌, ◌++◌, eqb, leb, ltb, length, get_or, replicate, set, take, drop}
use Rattle.octet.specs.Part.{part, same, all_zero}
use Rattle.own.specs.Own.{own_keys, own_records}
use Rattle.table.specs.Rows.{joined}
use Rattle.cpas.specs.Cpas.{cpa_size}
use Rattle.kept.specs.Keys.{Every}
use Rattle.cache.specs.Form.{keys_of, held_of}
use Rattle.firsts.specs.Firsts.{firsts_of}
use Rattle.firsts.specs.Places.{count_at, with_count}
use Rattle.waiting.specs.Form.{used_of}
use Rattle.gauge_commit.specs.Sending.{answer, Handed, handed}
use Rattle.gauge_plan.specs.Lent.{Memory, with_cache, with_firsts, with_waiting, hearing_as, hearing, handing, listing, Call, receives, sends, ticks, lists, own_of, output_of}
use Rattle.gauge.specs.Words.{Gauge}
use Rattle.gauge.specs.Ours.{ours}
use Rattle.sentences.specs.Meets.{MeetsSentences}

-- ---- which call it is

-- the datagram received, none where another call is made
abbrev pub datagram_of : Call → List ℕ
datagram_of (receives l) = l.datagram
datagram_of (sends l) = []
datagram_of (ticks l) = []
datagram_of (lists l) = []

-- a datagram received of the type: 4 FLOOD, 8 AUTHORITY, 11 LOOKUP
abbrev pub hears_type : ℕ → Call → Bool
hears_type t c = eqb (get_or (datagram_of c) 7 0) t

abbrev pub is_one_tick : Call → Bool
is_one_tick (receives l) = false
is_one_tick (sends l) = false
is_one_tick (ticks l) = true
is_one_tick (lists l) = false

-- the same datagram, as another gauge would hear it: with another own record
abbrev pub heard_by : List ℕ → Call → Call
heard_by r (receives l) = receives (hearing_as r l)
heard_by r (sends l) = sends l
heard_by r (ticks l) = ticks l
heard_by r (lists l) = lists l

-- a cache without its first record
abbrev pub behind_first : List ℕ → List ℕ
behind_first cache = drop 100 cache ++ replicate 100 0

-- the counts by first byte with one more for the byte b, and with one less
abbrev pub one_up : ℕ → List ℕ → List ℕ
one_up b firsts = with_count b (count_at b firsts + 1) firsts

abbrev pub one_down : ℕ → List ℕ → List ℕ
one_down b firsts = with_count b (count_at b firsts - 1) firsts

-- memory with an empty cache; without its first record; with cache and counts as they were lent
abbrev pub forgetting : Memory → Memory
forgetting m = with_cache (replicate (length m.cache) 0) (with_firsts (replicate 512 0) m)

abbrev pub forgetting_first : Memory → Memory
forgetting_first m = with_cache (behind_first m.cache) (with_firsts (one_down (get_or m.cache 0 0) m.firsts) m)

abbrev pub as_held : Memory → Memory → Memory
as_held m left = with_cache m.cache (with_firsts m.firsts left)

-- is the last place of the cache used? Its count of addresses stands 66 bytes before the end
abbrev pub is_full : List ℕ → Bool
is_full cache = ltb 0 (get_or cache (length cache - 66) 0)

-- ---- what is sent

-- where only an ACK would be sent, nothing is
unfoldable pub never_acks : Gauge
never_acks m c =
    let h = ours m c in
    cond (hears_type 4 c && eqb h.answer.second 0 && leb h.answer.first 26) (handed (answer h.answer.number 0 0) h.memory (output_of c)) h

-- an ACK with N loses its last field
unfoldable pub never_n : Gauge
never_n m c =
    let h = ours m c in
    cond (hears_type 4 c && eqb h.answer.first 26)
    (handed (answer h.answer.number 20 h.answer.second) h.memory (take 20 h.output ++ drop 26 h.output ++ replicate 6 0)) h

-- N is set when the validate key is not the record's, where it should be ours: in a FLOOD without a key token they stand at 24 and 60
unfoldable pub n_by_the_record : Gauge
n_by_the_record m c =
    let h = ours m c in
    cond (hears_type 4 c && eqb h.answer.first 20 && eqb h.answer.second 0 && not (same (part 24 32 (datagram_of c)) (part 60 32 (datagram_of c))))
    (handed (answer 0 26 0) h.memory (take 20 h.output ++ (0 ∷ 0x40 ∷ 0 ∷ 6 ∷ 0 ∷ 1 ∷ []) ++ drop 26 h.output)) h

-- N is set when the validate key is not the first of our keys, where it should be none of them
unfoldable pub n_by_the_first : Gauge
n_by_the_first m c =
    let h = ours m c in
    cond (hears_type 4 c && eqb h.answer.first 20 && eqb h.answer.second 0 && not (same (part 24 32 (datagram_of c)) (part 0 32 (own_of c))))
    (handed (answer 0 26 0) h.memory (take 20 h.output ++ (0 ∷ 0x40 ∷ 0 ∷ 6 ∷ 0 ∷ 1 ∷ []) ++ drop 26 h.output)) h

-- an INQUIRE is answered with the CPA of the first own record, whichever key it is for: so each is lent as if it were that one
abbrev pub with_first : Call → Call
with_first (receives l) =
    let first = take (2 + cpa_size l.cpas) l.cpas in
    receives (handing l.own (joined (replicate (length (own_records l.own)) first)) l.nonce l.key l)
with_first (sends l) = sends l
with_first (ticks l) = ticks l
with_first (lists l) = lists l

unfoldable pub first_cpa : Gauge
first_cpa m c = ours m (with_first c)

-- the list is always that of the first own key
abbrev pub round_first : Call → Call
round_first (receives l) = receives l
round_first (sends l) = sends l
round_first (ticks l) = ticks l
round_first (lists l) = lists (listing l.own (part 0 32 l.own) l.output)

unfoldable pub first_list : Gauge
first_list m c = ours m (round_first c)

-- the second datagram stands a byte further
unfoldable pub moves_second : Gauge
moves_second m c =
    let h = ours m c in
    cond (ltb 0 h.answer.second)
    (handed h.answer h.memory (take h.answer.first h.output ++ (0 ∷ drop h.answer.first (take (length h.output - 1) h.output)))) h

-- a LOOKUP is always shown our own record, or always one held
unfoldable pub shows_own : Gauge
shows_own m c =
    let h = ours (forgetting m) c in
    cond (hears_type 11 c) (handed h.answer m h.output) (ours m c)

unfoldable pub shows_held : Gauge
shows_held m c =
    let h = ours (forgetting_first m) (heard_by (part 0 100 m.cache) c) in
    cond (hears_type 11 c && not (all_zero m.cache)) (handed h.answer m h.output) (ours m c)

-- document 01's first slip, four bytes of a difference: a record that agrees with the target in its key's last four bytes is shown; here the second held.
-- A LOOKUP's target stands at 28
unfoldable pub four_bytes : Gauge
four_bytes m c =
    let r = part 100 100 m.cache in
    let h = ours (forgetting m) (heard_by r c) in
    cond (hears_type 11 c && same (part 28 4 r) (part 56 4 (datagram_of c))) (handed h.answer m h.output) (ours m c)

-- a LOOKUP is sent back where it came from: its path is heard as if the first endpoint were another. Without a route entry its port stands at 108
abbrev pub from_elsewhere : Call → Call
from_elsewhere (receives l) = receives (hearing (set l.datagram 108 255) l)
from_elsewhere (sends l) = sends l
from_elsewhere (ticks l) = ticks l
from_elsewhere (lists l) = lists l

unfoldable pub sends_back : Gauge
sends_back m c = cond (hears_type 11 c) (ours m (from_elsewhere c)) (ours m c)

-- ---- what is held

-- document 01's second slip: a record is learned from its FLOOD. The place that opens has it from byte 40 on
unfoldable pub learns_early : Gauge
learns_early m c =
    let h = ours m c in
    cond (hears_type 4 c && all_zero m.cache && ltb 0 (used_of h.memory.waiting))
    (handed h.answer (with_cache (part 40 100 h.memory.waiting ++ drop 100 m.cache)
    (with_firsts (one_up (get_or h.memory.waiting 40 0) m.firsts) h.memory)) h.output) h

-- document 01's fourth slip: where the cache is full, the newcomer is dropped always; or the record that has stood longest at its start, never the newcomer
unfoldable pub drops_newcomer : Gauge
drops_newcomer m c =
    let h = ours m c in
    cond (hears_type 8 c && is_full m.cache) (handed h.answer (as_held m h.memory) h.output) h

unfoldable pub drops_oldest : Gauge
drops_oldest m c = cond (hears_type 8 c && is_full m.cache) (ours (forgetting_first m) c) (ours m c)

-- the key that is dropped is still counted by its first byte (02, Wish 12): the newcomer's count goes up, and none down
abbrev pub key_in : Call → List ℕ
key_in (receives l) = l.key
key_in (sends l) = l.key
key_in (ticks l) = []
key_in (lists l) = l.key

unfoldable pub counts_dropped : Gauge
counts_dropped m c =
    let h = ours m c in
    cond (hears_type 8 c && is_full m.cache)
    (handed h.answer (with_firsts (one_up (get_or (key_in c) 0 0) m.firsts) h.memory) h.output) h

-- counts that disagree with the cache are not refused, but counted afresh
unfoldable pub recounts : Gauge
recounts m c = ours (with_firsts (firsts_of (keys_of (held_of (own_keys (own_of c)) m.cache))) m) c

-- ---- what waits

-- document 01's third slip: a FLOOD frees no place, so that a late AUTHORITY brings back the key revoked meanwhile
unfoldable pub revokes_late : Gauge
revokes_late m c =
    let h = ours m c in
    cond (hears_type 4 c && ltb (used_of h.memory.waiting) (used_of m.waiting))
    (handed h.answer (with_waiting m.waiting h.memory) h.output) h

-- document 01's fifth slip: the place is freed, and the call then refused for room
unfoldable pub frees_then_refuses : Gauge
frees_then_refuses m c =
    let h = ours m c in
    cond (hears_type 4 c && eqb h.answer.number 15) (handed h.answer (with_waiting (replicate 2240 0) m) h.output) h

-- an AUTHORITY's place stays
unfoldable pub keeps_place : Gauge
keeps_place m c = let h = ours m c in cond (hears_type 8 c) (handed h.answer (with_waiting m.waiting h.memory) h.output) h

-- a place opens though the very same record is held
unfoldable pub asks_again : Gauge
asks_again m c =
    let h = ours (forgetting m) c in
    cond (hears_type 4 c) (handed h.answer (as_held m h.memory) h.output) (ours m c)

-- a LOOKUP's route entry is not inquired about
unfoldable pub leaves_unasked : Gauge
leaves_unasked m c =
    let h = ours m c in
    cond (hears_type 11 c)
    (handed (answer h.answer.number h.answer.first 0) m (take h.answer.first h.output ++ drop h.answer.first (output_of c))) h

-- a FLOOD gives the first place that waits its two tries back
unfoldable pub resets_tries : Gauge
resets_tries m c = let h = ours m c in cond (hears_type 4 c) (handed h.answer (with_waiting (set h.memory.waiting 5 2) h.memory) h.output) h

-- a tick takes no try, and one that frees all places
unfoldable pub keeps_tries : Gauge
keeps_tries m c = let h = ours m c in cond (is_one_tick c) (handed h.answer m h.output) h

unfoldable pub frees_all : Gauge
frees_all m c = let h = ours m c in cond (is_one_tick c) (handed h.answer (with_waiting (replicate 2240 0) m) h.output) h

-- ---- which number

-- 15 is given one byte too early
unfoldable pub wants_more : Gauge
wants_more m c = cond (is_one_tick c && eqb (length (output_of c)) 64) (handed (answer 15 0 0) m (output_of c)) (ours m c)

-- ---- each is shut out

abbrev pub Shut : Gauge → Type 0
Shut g = ¬ MeetsSentences g

abbrev pub AllShut : Type 0
AllShut =
    Every Shut
    (never_acks ∷ never_n ∷ n_by_the_record ∷ moves_second ∷ shows_own ∷ shows_held ∷ four_bytes ∷ learns_early ∷ drops_newcomer ∷ drops_oldest ∷ revokes_late
    ∷ frees_then_refuses ∷ keeps_place ∷ asks_again ∷ resets_tries ∷ keeps_tries ∷ frees_all ∷ wants_more ∷ sends_back ∷ leaves_unasked ∷ n_by_the_first ∷ first_cpa ∷ first_list
    ∷ counts_dropped ∷ recounts ∷ [])
