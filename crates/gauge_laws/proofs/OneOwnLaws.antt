-- With one own record each call is what it was before there could be several (02, Wish 11), but for the key that is dropped: its key alone is ours, its CPA is lent
-- behind its length, an INQUIRE is for it, the list is round it, and it is the own record that is sent. Assumes nothing.
use mathlib.Core.Path.{◌≡◌, refl, sym, ap, ap₂, ◌∙◌}
use mathlib.Core.Bool.{Bool, true, false, not, cond, ◌&&◌}
use mathlib.Core.List.{List, [], ◌∷◌, ◌++◌}
use Prim.Native.Nat.{ℕ, ◌+◌, ◌-◌, ◌*◌, ◌≤◌, ◌<◌}
use native.Mathlib.Omega.{arith}
use lib.Dec.{eqb, leb, ltb}
use lib.ListN.{length, take, drop, length-append}
use lib.Seq.{take_all, take_at, drop_at, drop-length}
use borrow.Author.Tests.{le-leb, eq-eqb, eqb-true}
use Rattle.octet.specs.Number.{value_le, digits_le}
use Rattle.octet.specs.Part.{part}
use Rattle.octet.proofs.LittleLaws.{value_le-digits_le, length-digits_le}
use Rattle.key.specs.Number.{key_at}
use Rattle.record.specs.Record.{key_of, record_form}
use Rattle.own.proofs.PlaceLaws.{one-own-records, one-own-keys, one-own-is}
use Rattle.own.specs.Own.{Own, own_form, own_keys, own_records, own_record, own_place, is_own}
use Rattle.refusal.specs.Table.{Refusal, when, or_refuse}
use Rattle.refusal.proofs.CallLaws.{row_applies, row_passes}
use Rattle.cpas.specs.Cpas.{cpa_size, behind_cpa, cpa_form, cpas_form, cpa_of}
use Rattle.cpas.proofs.CpaLaws.{cpa_tests, form-on, form-end}
use Rattle.cache.specs.Form.{follows, cache_form}
use Rattle.cache.specs.Calls.{memory_wrong, held_by}
use Rattle.neighbours.specs.Listing.{after_list, counts_of}
use Rattle.neighbours.specs.Closest.{candidates}
use Rattle.std.specs.Prelude.{Ok, Err}
use Rattle.neighbours.specs.Calls.{Written, list_written, list_call}
use Rattle.waiting.specs.Place.{kind_of, place_key, place_record}
use Rattle.waiting.specs.Form.{inquiry_form}
use Rattle.gauge_plan.specs.Own.{not_ours}
use Rattle.gauge_plan.specs.declared.Plan.TheVariants.{Refuse, Certify}
use Rattle.plan_answer.specs.Answering.{inquire_refusals, inquire_plan}
use Rattle.plan_send.specs.Send.{record_sent}

-- ---- one own record

module _ (own : List ℕ) (one : length own ≡ 100) where
  pub one-own-place : own_place (own_keys own) (key_of own) ≡ 0
  unfolding own_place
  one-own-place = ap (λ (o : Own). own_place o (key_of own)) (one-own-keys own one) ∙ rw (eq-eqb (key_of own) (key_of own) refl) refl

  -- N: set where the validate key is not that of the own record
  pub one-own-n : (at : ℕ) (d : List ℕ) → not_ours (own_keys own) at d ≡ not (eqb (key_at at d) (key_of own))
  one-own-n at d = ap not (one-own-is own one (key_at at d))

  -- a row of the cache: in form, above those before it, not of the own key
  pub one-own-row : (low : ℕ) (r : List ℕ) → follows record_form (own_keys own) low r ≡ record_form r && leb low (key_of r) && not (eqb (key_of r) (key_of own))
  unfolding follows
  one-own-row low r = ap (λ (b : Bool). record_form r && leb low (key_of r) && not b) (one-own-is own one (key_of r))

  -- an inquiry in the waiting table: for another key than the own one
  pub one-own-inquiry : (p : List ℕ) → inquiry_form record_form (own_keys own) p
      ≡ eqb (kind_of p) 2 && record_form (place_record p) && eqb (key_of (place_record p)) (place_key p) && not (eqb (place_key p) (key_of own))
  one-own-inquiry p =
      ap (λ (b : Bool). eqb (kind_of p) 2 && record_form (place_record p) && eqb (key_of (place_record p)) (place_key p) && not b) (one-own-is own one (place_key p))

  -- the candidates of a LOOKUP
  pub one-own-candidates : (held : List (List ℕ)) → candidates (own_records own) held ≡ own ∷ held
  one-own-candidates held = ap (λ (rs : List (List ℕ)). candidates rs held) (one-own-records own one)

  -- the record sent
  pub one-own-sent : (cache : List ℕ) → record_sent own cache true (own_place (own_keys own) (key_of own)) ≡ own
  one-own-sent cache = ap (own_record own) one-own-place ∙ take_all 100 own (omega (arith, one))

  -- ---- its CPA, behind its length

  module _ (cpa : List ℕ) (least : 1 ≤ length cpa) (most : length cpa ≤ 1024) where
    abbrev pub lentCpa : List ℕ
    lentCpa = digits_le 256 2 (length cpa) ++ cpa

    front : length (digits_le 256 2 (length cpa)) ≡ 2
    front = length-digits_le 256 2 (length cpa)

    size : cpa_size lentCpa ≡ length cpa
    size =
        ap (value_le 256) (take_at (digits_le 256 2 (length cpa)) cpa 2 front) ∙ value_le-digits_le 256 2 (length cpa) (omega arith) (omega (arith, most))

    long : length lentCpa ≡ 2 + length cpa
    long = length-append (digits_le 256 2 (length cpa)) cpa ∙ ap (λ (n : ℕ). n + length cpa) front

    behind : behind_cpa lentCpa ≡ []
    behind = ap (λ (n : ℕ). drop n lentCpa) (ap (λ (n : ℕ). 2 + n) size ∙ sym long) ∙ drop-length lentCpa

    formed : cpa_form lentCpa ≡ true
    formed =
        let room : 2 + length cpa ≡ length lentCpa - 0 = omega (arith, long) in
        sym (cpa_tests 0 lentCpa (sym size) room)
        ∙ rw (le-leb 1 (length cpa) least, le-leb (length cpa) 1024 most, le-leb (2 + length cpa) (2 + length cpa) (omega arith)) refl

    pub one-own-cpas : cpas_form (length (own_records own)) lentCpa ≡ true
    one-own-cpas =
        ap (λ (rs : List (List ℕ)). cpas_form (length rs) lentCpa) (one-own-records own one)
        ∙ form-on 0 lentCpa formed ∙ form-end 0 (behind_cpa lentCpa) ∙ ap (λ (b : List ℕ). eqb (length b) 0) behind

    pub one-own-cpa : cpa_of 0 lentCpa ≡ cpa
    unfolding cpa_of
    one-own-cpa =
        ap₂ take size (drop_at (digits_le 256 2 (length cpa)) cpa 2 front) ∙ take_all (length cpa) cpa (omega arith)

    -- an INQUIRE
    pub one-own-inquire : (room : ℕ) (d : List ℕ) (acked validate : ℕ)
        → inquire_plan (own_keys own) lentCpa room d acked validate
        ≡ or_refuse Refuse (when 12 (not (eqb (key_at validate d) (key_of own))) ∷ when 15 (ltb room (40 + length cpa)) ∷ []) (Certify acked 0)
    unfolding inquire_plan
    one-own-inquire room d acked validate = go (eqb k (key_of own)) refl
      where
        k : ℕ
        k = key_at validate d

        go : (t : Bool) → eqb k (key_of own) ≡ t
            → or_refuse Refuse (inquire_refusals (own_keys own) lentCpa room d validate) (Certify acked (own_place (own_keys own) k))
            ≡ or_refuse Refuse (when 12 (not (eqb k (key_of own))) ∷ when 15 (ltb room (40 + length cpa)) ∷ []) (Certify acked 0)
        go false e = row_applies Refuse 12 _ _ _ (ap not (one-own-is own one k ∙ e)) ∙ sym (row_applies Refuse 12 _ _ _ (ap not e))
        go true e =
            let first : own_place (own_keys own) k ≡ 0 = ap (own_place (own_keys own)) (eqb-true k (key_of own) e) ∙ one-own-place in
            row_passes Refuse 12 _ _ _ (ap not (one-own-is own one k ∙ e))
            ∙ ap (λ (i : ℕ). or_refuse Refuse (when 15 (ltb room (40 + length (cpa_of i lentCpa))) ∷ []) (Certify acked i)) first
            ∙ ap (λ (c : List ℕ). or_refuse Refuse (when 15 (ltb room (40 + length c)) ∷ []) (Certify acked 0)) one-own-cpa
            ∙ sym (row_passes Refuse 12 _ _ _ (ap not e))

  -- ---- the list round its key

  -- behind the rows of memory
  behind-memory : {A : Type 0} (refuse : ℕ → A) (cache : List ℕ) (more rest : List Refusal) (done then : A)
      → or_refuse refuse more done ≡ or_refuse refuse rest then
      → or_refuse refuse (memory_wrong own cache more) done ≡ or_refuse refuse (memory_wrong own cache rest) then
  unfolding or_refuse
  behind-memory {A} refuse cache more rest done then e =
      ap (λ (x : A). cond (not (own_form own)) (refuse 1) (cond (not (cache_form (own_keys own) cache)) (refuse 1) x)) e

  module _ (cache out : List ℕ) where
    abbrev refused : ℕ → Written
    refused n = list_written (Err n) out

    -- the list round a key
    abbrev listed : ℕ → Written
    listed k = list_written (Ok (counts_of k (held_by own cache))) (after_list k (held_by own cache) out)

    pub one-own-list : (key : List ℕ) → length key ≡ 32 → key_at 0 key ≡ key_of own
        → list_call own cache key out ≡ or_refuse refused (memory_wrong own cache (when 15 (ltb (length out) 320) ∷ [])) (listed (key_of own))
    unfolding list_call
    one-own-list key long is =
        behind-memory refused cache _ _ _ _
        (row_passes refused 1 _ _ _ (ap not (eq-eqb (length key) 32 long))
        ∙ row_passes refused 12 _ _ _ (ap not (one-own-is own one (key_at 0 key) ∙ eq-eqb (key_at 0 key) (key_of own) is))
        ∙ ap (λ (k : ℕ). or_refuse refused (when 15 (ltb (length out) 320) ∷ []) (listed k)) is)
