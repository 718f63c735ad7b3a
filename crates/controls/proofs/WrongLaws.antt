-- The wrong gauges are shut out: each differs from ours in one call, which antt computes byte by byte, and a gauge that meets the sentences does not.
-- Assumes nothing.
use Prim.Native.Nat.{ℕ, ◌+◌, ◌*◌, ◌<◌}
use mathlib.Core.List.{List, [], ◌∷◌, ◌++◌}
use mathlib.Core.Option.{some, none}
use mathlib.Core.Path.{◌≡◌, refl}
use native.Mathlib.Omega.{arith}
use lib.ListN.{length, get_or, replicate}
use Rattle.record.specs.Entry.{entry_of}
use Rattle.waiting.specs.Form.{used_of}
use Rattle.waiting.specs.Place.{new_place}
use Rattle.wire_write.specs.Making.{flood_made, inquire_made}
use Rattle.gauge_plan.specs.Lent.{with_firsts, tick, listing, Call, ticks, lists}
use Rattle.gauge_commit.specs.Sending.{Handed}
use Rattle.sentences.proofs.ComputedLaws.{computed}
use Rattle.signed.specs.Cases.{key, record_with, record_on, endpoint, holding_records, holding, hears_into, hears_two, hears, inquiry_for, authority, revocation, lookup_by, lookup_of}
use Rattle.controls.specs.Wrong as W
use Rattle.controls.proofs.ShutLaws.{fits, fits_bytes, shut}

-- an inquiry for 99 waits, and 99 is revoked
revokes_late_shut : W.Shut W.revokes_late
unfolding computed W.revokes_late fits
revokes_late_shut =
    shut W.revokes_late (holding 10 [] (inquiry_for 99 ∷ [])) (hears 100 99 revocation) (λ (h : Handed). used_of h.memory.waiting)
    (fits_bytes revocation refl, omega arith) (λ e. absurd (let z : ◌≡◌ {A = ℕ} 1 0 = e in omega arith))

never_acks_shut : W.Shut W.never_acks
unfolding computed W.never_acks fits
never_acks_shut =
    shut W.never_acks (holding 10 [] []) (hears 100 99 revocation) (λ (h : Handed). h.answer.first) (fits_bytes revocation refl, omega arith)
    (λ e. absurd (let z : ◌≡◌ {A = ℕ} 0 26 = e in omega arith))

never_n_shut : W.Shut W.never_n
unfolding computed W.never_n fits
never_n_shut =
    shut W.never_n (holding 10 [] []) (hears 100 99 revocation) (λ (h : Handed). h.answer.first) (fits_bytes revocation refl, omega arith)
    (λ e. absurd (let z : ◌≡◌ {A = ℕ} 20 26 = e in omega arith))

keeps_place_shut : W.Shut W.keeps_place
unfolding computed W.keeps_place fits
keeps_place_shut =
    shut W.keeps_place (holding 10 [] (inquiry_for 99 ∷ [])) (hears 100 99 authority) (λ (h : Handed). used_of h.memory.waiting)
    (fits_bytes authority refl, omega arith) (λ e. absurd (let z : ◌≡◌ {A = ℕ} 1 0 = e in omega arith))

-- the tries stand in the sixth byte of a place
keeps_tries_shut : W.Shut W.keeps_tries
unfolding computed W.keeps_tries
keeps_tries_shut =
    shut W.keeps_tries (holding 10 [] (inquiry_for 99 ∷ [])) (ticks (tick (record_with 100) (replicate 64 0))) (λ (h : Handed). get_or h.memory.waiting 5 0) tt
    (λ e. absurd (let z : ◌≡◌ {A = ℕ} 2 1 = e in omega arith))

frees_all_shut : W.Shut W.frees_all
unfolding computed W.frees_all
frees_all_shut =
    shut W.frees_all (holding 10 [] (inquiry_for 99 ∷ [])) (ticks (tick (record_with 100) (replicate 64 0))) (λ (h : Handed). used_of h.memory.waiting) tt
    (λ e. absurd (let z : ◌≡◌ {A = ℕ} 0 1 = e in omega arith))

-- a FLOOD of 99's record to another's validate key: an ACK of 26 bytes, and the INQUIRE's third byte 0 and not 16
abbrev flood : List ℕ
flood = (flood_made 6 101 5 (key 3) (record_with 99) 0).bytes

abbrev asked : Call
asked = hears_into 102 100 99 flood

moves_second_shut : W.Shut W.moves_second
unfolding computed W.moves_second fits
moves_second_shut =
    shut W.moves_second (holding 10 [] []) asked (λ (h : Handed). get_or h.output 27 0) (fits_bytes flood refl, omega arith)
    (λ e. absurd (let z : ◌≡◌ {A = ℕ} 0 16 = e in omega arith))

wants_more_shut : W.Shut W.wants_more
unfolding computed W.wants_more
wants_more_shut =
    shut W.wants_more (holding 10 [] []) (ticks (tick (record_with 100) (replicate 64 0))) (λ (h : Handed). h.answer.number) tt
    (λ e. absurd (let z : ◌≡◌ {A = ℕ} 15 0 = e in omega arith))

-- 99 is held and looked up by the gauge 100: the last byte of the key in the AUTHORITY
shows_own_shut : W.Shut W.shows_own
unfolding computed W.shows_own fits
shows_own_shut =
    shut W.shows_own (holding 10 (99 ∷ []) []) (hears 100 0 (lookup_of 99)) (λ (h : Handed). get_or h.output 71 0)
    (fits_bytes (lookup_of 99) refl, omega arith) (λ e. absurd (let z : ◌≡◌ {A = ℕ} 100 99 = e in omega arith))

asks_again_shut : W.Shut W.asks_again
unfolding computed W.asks_again fits
asks_again_shut =
    shut W.asks_again (holding 10 (99 ∷ []) []) asked (λ (h : Handed). used_of h.memory.waiting) (fits_bytes flood refl, omega arith)
    (λ e. absurd (let z : ◌≡◌ {A = ℕ} 1 0 = e in omega arith))

-- a place with one try left stands before the one that opens
resets_tries_shut : W.Shut W.resets_tries
unfolding computed W.resets_tries fits
resets_tries_shut =
    shut W.resets_tries (holding 10 [] (new_place 3 1 1 (key 7) (replicate 100 0) ∷ [])) asked (λ (h : Handed). get_or h.memory.waiting 5 0)
    (fits_bytes flood refl, omega arith) (λ e. absurd (let z : ◌≡◌ {A = ℕ} 2 1 = e in omega arith))

-- document 01's case 3: 90 to 99 are held, and 101 is learned
drops_newcomer_shut : W.Shut W.drops_newcomer
unfolding computed W.drops_newcomer fits
drops_newcomer_shut =
    shut W.drops_newcomer (holding 10 (90 ∷ 91 ∷ 92 ∷ 93 ∷ 94 ∷ 95 ∷ 96 ∷ 97 ∷ 98 ∷ 99 ∷ []) (inquiry_for 101 ∷ [])) (hears 100 101 authority)
    (λ (h : Handed). get_or h.memory.cache 31 0) (fits_bytes authority refl, omega arith)
    (λ e. absurd (let z : ◌≡◌ {A = ℕ} 90 91 = e in omega arith))

-- the same to our own validate key: an ACK of 20 bytes
abbrev flood_to_us : List ℕ
flood_to_us = (flood_made 6 101 5 (key 100) (record_with 99) 0).bytes

-- 99 is held, so that only the ACK is sent
n_by_the_record_shut : W.Shut W.n_by_the_record
unfolding computed W.n_by_the_record fits
n_by_the_record_shut =
    shut W.n_by_the_record (holding 10 (99 ∷ []) []) (hears 100 0 flood_to_us) (λ (h : Handed). h.answer.first) (fits_bytes flood_to_us refl, omega arith)
    (λ e. absurd (let z : ◌≡◌ {A = ℕ} 26 20 = e in omega arith))

-- 50 is held, and 100 looked up, which is our own
shows_held_shut : W.Shut W.shows_held
unfolding computed W.shows_held fits
shows_held_shut =
    shut W.shows_held (holding 10 (50 ∷ []) []) (hears 100 0 (lookup_of 100)) (λ (h : Handed). get_or h.output 71 0)
    (fits_bytes (lookup_of 100) refl, omega arith) (λ e. absurd (let z : ◌≡◌ {A = ℕ} 50 100 = e in omega arith))

-- document 01's case 7: own 9, held 1 and 4294967296, target 0
four_bytes_shut : W.Shut W.four_bytes
unfolding computed W.four_bytes fits
four_bytes_shut =
    shut W.four_bytes (holding 10 (1 ∷ 4294967296 ∷ []) []) (hears 9 0 (lookup_of 0)) (λ (h : Handed). get_or h.output 71 0)
    (fits_bytes (lookup_of 0) refl, omega arith) (λ e. absurd (let z : ◌≡◌ {A = ℕ} 0 1 = e in omega arith))

learns_early_shut : W.Shut W.learns_early
unfolding computed W.learns_early fits
learns_early_shut =
    shut W.learns_early (holding 10 [] []) asked (λ (h : Handed). get_or h.memory.cache 31 0) (fits_bytes flood refl, omega arith)
    (λ e. absurd (let z : ◌≡◌ {A = ℕ} 99 0 = e in omega arith))

-- document 01's case 4: 90 to 99 are held, and 89 is learned
drops_oldest_shut : W.Shut W.drops_oldest
unfolding computed W.drops_oldest fits
drops_oldest_shut =
    shut W.drops_oldest (holding 10 (90 ∷ 91 ∷ 92 ∷ 93 ∷ 94 ∷ 95 ∷ 96 ∷ 97 ∷ 98 ∷ 99 ∷ []) (inquiry_for 89 ∷ [])) (hears 100 89 authority)
    (λ (h : Handed). get_or h.memory.cache 31 0) (fits_bytes authority refl, omega arith)
    (λ e. absurd (let z : ◌≡◌ {A = ℕ} 89 90 = e in omega arith))

-- the revocation, with room for 25 bytes where its ACK has 26
frees_then_refuses_shut : W.Shut W.frees_then_refuses
unfolding computed W.frees_then_refuses fits
frees_then_refuses_shut =
    shut W.frees_then_refuses (holding 10 [] (inquiry_for 99 ∷ []))
    (hears_into 25 100 99 revocation)
    (λ (h : Handed). used_of h.memory.waiting) (fits_bytes revocation refl, omega arith)
    (λ e. absurd (let z : ◌≡◌ {A = ℕ} 0 1 = e in omega arith))

-- 99 is held with port 5000 and address 1, and looked up by a LOOKUP that came from there
abbrev came_by : List ℕ
came_by = lookup_by none (endpoint 5000 1 ∷ []) 99

sends_back_shut : W.Shut W.sends_back
unfolding computed W.sends_back fits
sends_back_shut =
    shut W.sends_back (holding_records 10 (record_on 99 5000 1 ∷ []) []) (hears 100 0 came_by) (λ (h : Handed). get_or h.output 71 0)
    (fits_bytes came_by refl, omega arith) (λ e. absurd (let z : ◌≡◌ {A = ℕ} 99 100 = e in omega arith))

-- a LOOKUP with a route entry of 99's record
abbrev names_another : List ℕ
names_another = lookup_by (some (entry_of 6 101 (record_with 99))) (endpoint 1 1 ∷ []) 50

leaves_unasked_shut : W.Shut W.leaves_unasked
unfolding computed W.leaves_unasked fits
leaves_unasked_shut =
    shut W.leaves_unasked (holding 10 [] []) (hears_into 172 100 0 names_another) (λ (h : Handed). used_of h.memory.waiting)
    (fits_bytes names_another refl, omega arith) (λ e. absurd (let z : ◌≡◌ {A = ℕ} 0 1 = e in omega arith))

-- own keys 100 and 200: a FLOOD to the second, of a record that is held, so that only the ACK is sent
abbrev flood_to_second : List ℕ
flood_to_second = (flood_made 6 101 5 (key 200) (record_with 99) 0).bytes

n_by_the_first_shut : W.Shut W.n_by_the_first
unfolding computed W.n_by_the_first fits
n_by_the_first_shut =
    shut W.n_by_the_first (holding 20 (99 ∷ []) []) (hears_two 96 100 200 0 flood_to_second) (λ (h : Handed). h.answer.first)
    (fits_bytes flood_to_second refl, omega arith) (λ e. absurd (let z : ◌≡◌ {A = ℕ} 26 20 = e in omega arith))

-- an INQUIRE for the second, whose CPA is the byte 8
abbrev inquiry_second : List ℕ
inquiry_second = (inquire_made 6 101 5 (key 200) (replicate 16 0)).bytes

first_cpa_shut : W.Shut W.first_cpa
unfolding computed W.first_cpa fits
first_cpa_shut =
    shut W.first_cpa (holding 20 [] []) (hears_two 41 100 200 0 inquiry_second) (λ (h : Handed). get_or h.output 40 0)
    (fits_bytes inquiry_second refl, omega arith) (λ e. absurd (let z : ◌≡◌ {A = ℕ} 7 8 = e in omega arith))

-- 150 is above 100, and below 200
first_list_shut : W.Shut W.first_list
unfolding computed W.first_list
first_list_shut =
    shut W.first_list (holding 20 (150 ∷ []) []) (lists (listing (record_with 100 ++ record_with 200) (key 200) (replicate 320 0))) (λ (h : Handed). h.answer.first) tt
    (λ e. absurd (let z : ◌≡◌ {A = ℕ} 0 1 = e in omega arith))

-- case 3 once more: 90 is dropped and 101 joins, and all of these begin with the byte 0
counts_dropped_shut : W.Shut W.counts_dropped
unfolding computed W.counts_dropped fits
counts_dropped_shut =
    shut W.counts_dropped (holding 10 (90 ∷ 91 ∷ 92 ∷ 93 ∷ 94 ∷ 95 ∷ 96 ∷ 97 ∷ 98 ∷ 99 ∷ []) (inquiry_for 101 ∷ [])) (hears 100 101 authority)
    (λ (h : Handed). get_or h.memory.firsts 0 0) (fits_bytes authority refl, omega arith)
    (λ e. absurd (let z : ◌≡◌ {A = ℕ} 11 10 = e in omega arith))

-- 99 is held, and no key counted
recounts_shut : W.Shut W.recounts
unfolding computed W.recounts fits
recounts_shut =
    shut W.recounts (with_firsts (replicate 512 0) (holding 10 (99 ∷ []) [])) (hears 100 0 (lookup_of 99)) (λ (h : Handed). h.answer.number)
    (fits_bytes (lookup_of 99) refl, omega arith) (λ e. absurd (let z : ◌≡◌ {A = ℕ} 0 1 = e in omega arith))

pub all_shut : W.AllShut
all_shut = (
  never_acks_shut,
  (
    never_n_shut,
    (
      n_by_the_record_shut,
      (
        moves_second_shut,
        (
          shows_own_shut,
          (
            shows_held_shut,
            (
              four_bytes_shut,
              (
                learns_early_shut,
                (
                  drops_newcomer_shut,
                  (
                    drops_oldest_shut,
                    (
                      revokes_late_shut,
                      (
                        frees_then_refuses_shut,
                        (
                          keeps_place_shut,
                          (
                            asks_again_shut,
                            (
                              resets_tries_shut,
                              (keeps_tries_shut, (frees_all_shut, (wants_more_shut, (sends_back_shut, (leaves_unasked_shut, (n_by_the_first_shut, (first_cpa_shut, (first_list_shut, (counts_dropped_shut, (recounts_shut, tt)))))))))),
                            ),
                          ),
                        ),
                      ),
                    ),
                  ),
                ),
              ),
            ),
          ),
        ),
      ),
    ),
  ),
)
