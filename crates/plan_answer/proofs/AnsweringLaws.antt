-- Laws of the plans for an AUTHORITY, an ACK, an INQUIRE and a LOOKUP.
-- In this order: the place found; each plan by the tests that the code makes; what is known of a plan. Assumes nothing.
use mathlib.Core.Path.{◌≡◌, refl, ap, ◌∙◌}
use mathlib.Core.Logic.{inl, inr}
use mathlib.Core.Bool.{Bool, true, false, not, ◌||◌}
use mathlib.Core.List.{List, [], ◌∷◌, ◌++◌}
use Prim.Native.Nat.{ℕ, ◌+◌, ◌*◌, ◌≤◌, ◌<◌}
use native.Mathlib.Omega.{arith}
use lib.Dec.{eqb, ltb}
use lib.ListN.{length, get_or}
use borrow.Author.Tests.{eq-eqb, ne_eqb, eqb-true, eqb-false, ltb-false, not-false}
use Rattle.octet.specs.Part.{part}
use Rattle.octet.proofs.TestLaws.{both_true}
use Rattle.key.specs.Number.{key_at}
use Rattle.record.specs.Record.{count_of}
use Rattle.own.specs.Own.{Own, own_keys, own_records, own_place, is_own, IsOwn}
use Rattle.own.proofs.PlaceLaws.{own_in}
use Rattle.refusal.specs.Table.{when, or_refuse, Refusal, first_of}
use Rattle.cpas.specs.Cpas.{cpa_of}
use Rattle.refusal.proofs.CallLaws.{or_known}
use Rattle.table.specs.Rows.{rows, any_of}
use Rattle.table.proofs.RowLaws.{rows-length, row_at}
use Rattle.neighbours.specs.Closest.{candidates, off_path, closest_of}
use Rattle.waiting.specs.Place.{id_of, kind_of, place_key}
use Rattle.table.specs.Seek.{seek}
use Rattle.waiting.specs.Seek.{is_at, has_id}
use Rattle.std.specs.Prelude.{Option, Some, None}
use Rattle.waiting.proofs.PlaceLaws.{key-at}
use Rattle.table.proofs.SeekLaws.{found_within, found_passes}
use Rattle.gauge_plan.specs.Found.{is_nothing, place_of}
use Rattle.gauge_plan.specs.Opening.{open_rows}
use Rattle.gauge_plan.proofs.OpeningLaws.{open-refuses, open-passes, second_fails}
use Rattle.asking.specs.Asking.{asks_for, inquire_room}
use Rattle.asking.specs.Ids.{id_after}
use Rattle.plan_answer.specs.Answering.{authority_plan, ack_plan, inquire_plan, lookup_plan, authority_refusals, ack_refusals, inquire_refusals, lookup_refusals}
use Rattle.gauge_plan.proofs.FoundLaws.{some_found}
use Rattle.gauge_plan.specs.declared.Plan.{Plan}
use Rattle.gauge_plan.specs.declared.Plan.TheVariants.{Refuse, Flood, Revoke, Learn, Free, Certify, Show}

-- ---- the place found

module _ (test : List ℕ → Bool) (used i : ℕ) (t : List ℕ) (e : seek test 0 (rows 140 used t) ≡ Some i) where
  pub place_within : i < used
  place_within = omega (arith, found_within test i (rows 140 used t) e, rows-length 140 used t)

  pub place_key_lem : place_key (get_or (rows 140 used t) i []) ≡ key_at (140 * i + 8) t
  place_key_lem = ap place_key (row_at 140 used t i place_within) ∙ key-at (140 * i) t

-- ---- each plan by the tests that the code makes

module _ (ps : List (List ℕ)) (held used verdict k acked : ℕ) (cpa : Bool) where
  pub authority-none : seek (is_at acked 2) 0 ps ≡ None → authority_plan ps held used verdict k acked cpa ≡ Refuse 8
  unfolding authority_plan or_refuse
  authority-none e = rw e refl

  module _ {i : ℕ} (e : seek (is_at acked 2) 0 ps ≡ Some i) where
    pub authority-bare : not cpa ≡ true → authority_plan ps held used verdict k acked cpa ≡ Refuse 9
    unfolding authority_plan or_refuse
    authority-bare b = rw (e, b) refl

    module _ (has : not cpa ≡ false) where
      pub authority-bad : (verdict ≡ 1 → ⊥) → authority_plan ps held used verdict k acked cpa ≡ Refuse 9
      unfolding authority_plan or_refuse
      authority-bad d = rw (e, has, ne_eqb verdict 1 d) refl

      module _ (good : verdict ≡ 1) {j : ℕ} (is : place_key (get_or ps i []) ≡ j) where
        pub authority-other : eqb k j ≡ false → authority_plan ps held used verdict k acked cpa ≡ Refuse 10
        unfolding authority_plan or_refuse
        authority-other d = rw (e, has, eq-eqb verdict 1 good, is, d) refl

        pub authority-right : eqb k j ≡ true → authority_plan ps held used verdict k acked cpa ≡ Learn held used i
        unfolding authority_plan or_refuse
        authority-right d = rw (e, has, eq-eqb verdict 1 good, is, d) refl

module _ (ps : List (List ℕ)) (held used acked : ℕ) (n : Bool) where
  pub ack-none : seek (is_at acked 1) 0 ps ≡ None → ack_plan ps held used acked n ≡ Refuse 8
  unfolding ack_plan or_refuse
  ack-none e = rw e refl

  pub ack-by : {i : ℕ} → seek (is_at acked 1) 0 ps ≡ Some i → ack_plan ps held used acked n ≡ Free held used i n
  unfolding ack_plan or_refuse
  ack-by e = rw e refl

module _ (own : List ℕ) (recs ps : List (List ℕ)) (held used id room : ℕ) (d : List ℕ) (acked target path size start len : ℕ) where
  -- the record shown
  abbrev nearest : List ℕ
  nearest = closest_of (key_at target d) (candidates (own_records own) (off_path (part path size d) recs))

  -- with opens for whether the entry's record must be inquired about, barred for the number that stands against its place
  module _ {opens : Bool} {barred : ℕ} (eo : opens ≡ asks_for (own_keys own) recs ps (part start len d))
      (eb : barred ≡ first_of (open_rows opens ps used (id_after id))) where
    abbrev lookup-done : Plan
    lookup-done = Show held used acked target path size opens start len

    abbrev lookup-rest : List Refusal
    lookup-rest = when 15 (ltb room (80 + 16 * count_of nearest + inquire_room opens)) ∷ []

    lookup-asked : lookup_plan own recs ps held used id room d acked target path size start len
        ≡ or_refuse Refuse (open_rows opens ps used (id_after id) ++ lookup-rest) lookup-done
    unfolding lookup_plan
    lookup-asked = rw eo refl

    pub lookup-barred : 0 < barred → lookup_plan own recs ps held used id room d acked target path size start len ≡ Refuse barred
    lookup-barred p = lookup-asked ∙ open-refuses Refuse opens ps used (id_after id) lookup-rest lookup-done eb p

    module _ (free : barred ≡ 0) where
      pub lookup-by : {c : ℕ} → count_of nearest ≡ c → lookup_plan own recs ps held used id room d acked target path size start len
          ≡ or_refuse Refuse (when 15 (ltb room (80 + 16 * c + inquire_room opens)) ∷ []) (Show held used acked target path size opens start len)
      lookup-by e =
          lookup-asked ∙ open-passes Refuse opens ps used (id_after id) lookup-rest lookup-done eb free
          ∙ ap (λ (n : ℕ). or_refuse Refuse (when 15 (ltb room (80 + 16 * n + inquire_room opens)) ∷ []) lookup-done) e

-- ---- what is known of a plan

-- neither without a CPA nor with a verdict that is not good
neither : (cpa good : Bool) → (not cpa || not good) ≡ false → (cpa ≡ true) × (good ≡ true)
neither true true e = (refl, refl)
neither true false e = let z : ◌≡◌ {A = ℕ} 0 1 = cc in absurd (omega arith)
neither false good e = let z : ◌≡◌ {A = ℕ} 0 1 = cc in absurd (omega arith)

-- the place with the acked ID and the kind
pub record Waits (id kind at : ℕ) (ps : List (List ℕ)) : Type 0 where
  pub found : seek (is_at id kind) 0 ps ≡ Some at
  pub within : at < length ps
  pub id-is : id_of (get_or ps at []) ≡ id
  pub kind-is : kind_of (get_or ps at []) ≡ kind

pub waits : (id kind at : ℕ) (ps : List (List ℕ)) → seek (is_at id kind) 0 ps ≡ Some at → Waits id kind at ps
waits id kind at ps e =
    let p = get_or ps at [] in
    let b = both_true (eqb (id_of p) id) (eqb (kind_of p) kind) (found_passes (is_at id kind) at ps e) in
    record {
      found = e;
      within = found_within (is_at id kind) at ps e;
      id-is = eqb-true (id_of p) id b.0;
      kind-is = eqb-true (kind_of p) kind b.1;
    }

module _ (ps : List (List ℕ)) (held used verdict k acked : ℕ) (cpa : Bool) where
  -- an AUTHORITY is planned: the inquiry with the acked ID waits, and the verdict is good for its key
  pub record Learning (h u at : ℕ) : Type 0 where
    pub held-is : h ≡ held
    pub used-is : u ≡ used
    pub waiting : Waits acked 2 at ps
    pub cpa-is : cpa ≡ true
    pub verdict-is : verdict ≡ 1
    pub key-is : k ≡ place_key (get_or ps at [])

  abbrev pub KnownAuthority : Plan → Type 0
  KnownAuthority (Refuse m) = Unit {0}
  KnownAuthority (Flood u s n a o at size) = ⊥
  KnownAuthority (Revoke h u s n a) = ⊥
  KnownAuthority (Learn h u at) = Learning h u at
  KnownAuthority (Free h u at m) = ⊥
  KnownAuthority (Certify a i) = ⊥
  KnownAuthority (Show h u a t p m o at size) = ⊥

  pub known-authority : KnownAuthority (authority_plan ps held used verdict k acked cpa)
  unfolding authority_plan
  known-authority =
      let f = seek (is_at acked 2) 0 ps in
      or_known KnownAuthority Refuse (authority_refusals ps verdict k acked cpa) (Learn held used (place_of f))
      (λ m. tt)
      (λ w. let b = neither cpa (eqb verdict 1) w.1.0 in record {
        held-is = refl;
        used-is = refl;
        waiting = waits acked 2 (place_of f) ps (some_found f w.0);
        cpa-is = b.0;
        verdict-is = eqb-true verdict 1 b.1;
        key-is = eqb-true k (place_key (get_or ps (place_of f) [])) (not-false (eqb k (place_key (get_or ps (place_of f) []))) w.1.1.0);
      })

module _ (ps : List (List ℕ)) (held used acked : ℕ) (n : Bool) where
  -- an ACK is planned: the flood with the acked ID waits
  pub record Freeing (h u at : ℕ) (m : Bool) : Type 0 where
    pub held-is : h ≡ held
    pub used-is : u ≡ used
    pub n-is : m ≡ n
    pub waiting : Waits acked 1 at ps

  abbrev pub KnownAck : Plan → Type 0
  KnownAck (Refuse m) = Unit {0}
  KnownAck (Flood u s n a o at size) = ⊥
  KnownAck (Revoke h u s n a) = ⊥
  KnownAck (Learn h u at) = ⊥
  KnownAck (Free h u at m) = Freeing h u at m
  KnownAck (Certify a i) = ⊥
  KnownAck (Show h u a t p m o at size) = ⊥

  pub known-ack : KnownAck (ack_plan ps held used acked n)
  unfolding ack_plan
  known-ack =
      let f = seek (is_at acked 1) 0 ps in
      or_known KnownAck Refuse (ack_refusals ps acked) (Free held used (place_of f) n)
      (λ m. tt)
      (λ w. record { held-is = refl; used-is = refl; n-is = refl; waiting = waits acked 1 (place_of f) ps (some_found f w.0) })

module _ (own : Own) (cpas : List ℕ) (room : ℕ) (d : List ℕ) (acked validate : ℕ) where
  -- an INQUIRE is planned: it is for one of our keys, and the AUTHORITY has room
  pub record Certifying (a at : ℕ) : Type 0 where
    pub acked-is : a ≡ acked
    pub at_is : at ≡ own_place own (key_at validate d)
    pub ours : IsOwn own (key_at validate d)
    pub fits_in : 40 + length (cpa_of at cpas) ≤ room

  abbrev pub KnownInquire : Plan → Type 0
  KnownInquire (Refuse m) = Unit {0}
  KnownInquire (Flood u s n a o at size) = ⊥
  KnownInquire (Revoke h u s n a) = ⊥
  KnownInquire (Learn h u at) = ⊥
  KnownInquire (Free h u at m) = ⊥
  KnownInquire (Certify a i) = Certifying a i
  KnownInquire (Show h u a t p m o at size) = ⊥

  pub known-inquire : KnownInquire (inquire_plan own cpas room d acked validate)
  unfolding inquire_plan
  known-inquire =
      or_known KnownInquire Refuse (inquire_refusals own cpas room d validate) (Certify acked (own_place own (key_at validate d)))
      (λ m. tt)
      (λ w. record {
        acked-is = refl;
        at_is = refl;
        ours = own_in own (key_at validate d) (not-false (is_own own (key_at validate d)) w.0);
        fits_in = ltb-false room (40 + length (cpa_of (own_place own (key_at validate d)) cpas)) w.1.0;
      })

module _ (own : List ℕ) (recs ps : List (List ℕ)) (held used id room : ℕ) (d : List ℕ) (acked target path size start len : ℕ) where
  -- a LOOKUP is planned: its numbers, and that nothing stands against the AUTHORITY with the closest record and the INQUIRE
  pub record Showing (h u a t p m : ℕ) (opens : Bool) (at n : ℕ) : Type 0 where
    pub held-is : h ≡ held
    pub used-is : u ≡ used
    pub acked-is : a ≡ acked
    pub target_is : t ≡ target
    pub path-is : p ≡ path
    pub size_is : m ≡ size
    pub opens-is : opens ≡ asks_for (own_keys own) recs ps (part start len d)
    pub start_is : at ≡ start
    pub len_is : n ≡ len
    pub new : opens ≡ true → any_of (has_id (id_after id)) ps ≡ false
    pub free : opens ≡ true → u ≡ 16 → ⊥
    pub fits_in : 80 + 16 * count_of (closest_of (key_at target d) (candidates (own_records own) (off_path (part path size d) recs))) + inquire_room opens ≤ room

  abbrev pub KnownLookup : Plan → Type 0
  KnownLookup (Refuse m) = Unit {0}
  KnownLookup (Flood u s n a o at size) = ⊥
  KnownLookup (Revoke h u s n a) = ⊥
  KnownLookup (Learn h u at) = ⊥
  KnownLookup (Free h u at m) = ⊥
  KnownLookup (Certify a i) = ⊥
  KnownLookup (Show h u a t p m opens at n) = Showing h u a t p m opens at n

  pub known-lookup : KnownLookup (lookup_plan own recs ps held used id room d acked target path size start len)
  unfolding lookup_plan
  known-lookup =
      let r = closest_of (key_at target d) (candidates (own_records own) (off_path (part path size d) recs)) in
      let opens = asks_for (own_keys own) recs ps (part start len d) in
      or_known KnownLookup Refuse (lookup_refusals ps used id room opens r) (Show held used acked target path size opens start len)
      (λ m. tt)
      (λ w. record {
        held-is = refl;
        used-is = refl;
        acked-is = refl;
        target_is = refl;
        path-is = refl;
        size_is = refl;
        opens-is = refl;
        start_is = refl;
        len_is = refl;
        new = second_fails opens (any_of (has_id (id_after id)) ps) w.0;
        free = λ o. eqb-false used 16 (second_fails opens (eqb used 16) w.1.0 o);
        fits_in = ltb-false room (80 + 16 * count_of r + inquire_room opens) w.1.1.0;
      })
