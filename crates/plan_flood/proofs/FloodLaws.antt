-- Laws of the plans for a FLOOD: how many bytes the ACK has; each plan by the tests that the code makes; what is known of a plan. Assumes nothing.
use mathlib.Core.Path.{◌≡◌, refl, ◌∙◌}
use mathlib.Core.Bool.{Bool, true, false}
use mathlib.Core.List.{List, [], ◌∷◌}
use Prim.Native.Nat.{ℕ, ◌+◌, ◌≤◌, ◌<◌}
use native.Mathlib.Omega.{arith}
use lib.Dec.{eqb, ltb}
use borrow.Author.Tests.{eq-eqb, ne_eqb, eqb-true, eqb-false, ltb-false, not-false}
use Rattle.octet.specs.Part.{part}
use Rattle.record.specs.Record.{key_of}
use Rattle.record.specs.Entry.{record_of}
use Rattle.own.specs.Own.{Own, is_own, IsOwn}
use Rattle.own.proofs.PlaceLaws.{not_own}
use Rattle.refusal.specs.Table.{when, or_refuse, Refusal, first_of}
use Rattle.refusal.proofs.CallLaws.{or_known, row_passes}
use Rattle.table.specs.Rows.{any_of}
use Rattle.waiting.specs.Seek.{has_id}
use Rattle.gauge_plan.specs.Own.{not_ours}
use Rattle.asking.specs.Asking.{must_ask, inquire_room}
use Rattle.plan_flood.specs.Flood.{flood_refusals, flood_plan, revoke_refusals, revoke_plan}
use Rattle.plan_flood.specs.Rooms.{ack_room}
use Rattle.gauge_plan.specs.declared.Plan.{Plan}
use Rattle.gauge_plan.specs.declared.Plan.TheVariants.{Refuse, Flood, Revoke, Learn, Free, Certify, Show}
use Rattle.gauge_plan.specs.Opening.{open_rows}
use Rattle.gauge_plan.proofs.OpeningLaws.{open-refuses, open-passes, second_fails}
use Rattle.asking.specs.Ids.{id_after}
use mathlib.Core.List.{◌++◌}

-- ---- how many bytes

pub ack_most : (silent n : Bool) → ack_room silent n ≤ 26
ack_most true n = omega arith
ack_most false true = omega arith
ack_most false false = omega arith

-- ---- each plan by the tests that the code makes

module _ (own : Own) (recs ps : List (List ℕ)) (used id room : ℕ) (d : List ℕ) (silent : Bool) (acked validate start len : ℕ) where
  pub flood-own : is_own own (key_of (record_of (part start len d))) ≡ true
      → flood_plan own recs ps used id room d silent acked validate start len ≡ Refuse 11
  unfolding flood_plan or_refuse
  flood-own e = rw e refl

  -- with n for N, opens for whether the record must be inquired about, barred for the number that stands against its place
  module _ (other : is_own own (key_of (record_of (part start len d))) ≡ false) {n opens : Bool} {barred : ℕ} (en : n ≡ not_ours own validate d)
      (eo : opens ≡ must_ask recs ps (record_of (part start len d))) (eb : barred ≡ first_of (open_rows opens ps used (id_after id))) where
    abbrev rest : List Refusal
    rest = when 15 (ltb room (ack_room silent n + inquire_room opens)) ∷ []

    flood-other : flood_plan own recs ps used id room d silent acked validate start len
        ≡ or_refuse Refuse (open_rows opens ps used (id_after id) ++ rest) (Flood used silent n acked opens start len)
    unfolding flood_plan
    flood-other = row_passes Refuse 11 _ _ _ other ∙ rw (en, eo) refl

    pub flood-barred : 0 < barred → flood_plan own recs ps used id room d silent acked validate start len ≡ Refuse barred
    flood-barred p = flood-other ∙ open-refuses Refuse opens ps used (id_after id) rest _ eb p

    pub flood-by : barred ≡ 0 → flood_plan own recs ps used id room d silent acked validate start len
        ≡ or_refuse Refuse rest (Flood used silent n acked opens start len)
    flood-by z = flood-other ∙ open-passes Refuse opens ps used (id_after id) rest _ eb z

module _ (own : Own) (held used verdict k room : ℕ) (d : List ℕ) (silent : Bool) (acked validate : ℕ) where
  pub revoke-bad : (verdict ≡ 1 → ⊥) → revoke_plan own held used verdict k room d silent acked validate ≡ Refuse 9
  unfolding revoke_plan or_refuse
  revoke-bad e = rw (ne_eqb verdict 1 e) refl

  module _ (good : verdict ≡ 1) where
    pub revoke-own : is_own own k ≡ true → revoke_plan own held used verdict k room d silent acked validate ≡ Refuse 11
    unfolding revoke_plan or_refuse
    revoke-own e = rw (eq-eqb verdict 1 good, e) refl

    pub revoke-by : is_own own k ≡ false → {n : Bool} {a : ℕ} → n ≡ not_ours own validate d → a ≡ ack_room silent n
        → revoke_plan own held used verdict k room d silent acked validate
        ≡ or_refuse Refuse (when 15 (ltb room a) ∷ []) (Revoke held used silent n acked)
    unfolding revoke_plan or_refuse
    revoke-by e en ea = rw (eq-eqb verdict 1 good, e, ea, en) refl

-- ---- what is known of a plan

module _ (own : Own) (recs ps : List (List ℕ)) (used id room : ℕ) (d : List ℕ) (silent : Bool) (acked validate start len : ℕ) where
  -- a FLOOD with a route entry is planned: its numbers, and that nothing stands against it
  pub record Flooding (u : ℕ) (s n : Bool) (a : ℕ) (opens : Bool) (at size : ℕ) : Type 0 where
    pub used-is : u ≡ used
    pub silent-is : s ≡ silent
    pub n-is : n ≡ not_ours own validate d
    pub acked-is : a ≡ acked
    pub opens-is : opens ≡ must_ask recs ps (record_of (part start len d))
    pub start_is : at ≡ start
    pub len_is : size ≡ len
    pub other : ¬ IsOwn own (key_of (record_of (part start len d)))
    pub new : opens ≡ true → any_of (has_id (id_after id)) ps ≡ false
    pub free : opens ≡ true → u ≡ 16 → ⊥
    pub fits_in : ack_room s n + inquire_room opens ≤ room

  abbrev pub KnownFlood : Plan → Type 0
  KnownFlood (Refuse m) = Unit {0}
  KnownFlood (Flood u s n a opens at size) = Flooding u s n a opens at size
  KnownFlood (Revoke h u s n a) = ⊥
  KnownFlood (Learn h u at) = ⊥
  KnownFlood (Free h u at m) = ⊥
  KnownFlood (Certify a i) = ⊥
  KnownFlood (Show h u a t p m o at size) = ⊥

  pub known-flood : KnownFlood (flood_plan own recs ps used id room d silent acked validate start len)
  unfolding flood_plan
  known-flood =
      let r = record_of (part start len d) in
      let n = not_ours own validate d in
      let opens = must_ask recs ps r in
      or_known KnownFlood Refuse (flood_refusals own ps used id room silent n opens r) (Flood used silent n acked opens start len)
      (λ m. tt)
      (λ f. record {
        used-is = refl;
        silent-is = refl;
        n-is = refl;
        acked-is = refl;
        opens-is = refl;
        start_is = refl;
        len_is = refl;
        other = not_own own (key_of r) f.0;
        new = second_fails opens (any_of (has_id (id_after id)) ps) f.1.0;
        free = λ o. eqb-false used 16 (second_fails opens (eqb used 16) f.1.1.0 o);
        fits_in = ltb-false room (ack_room silent n + inquire_room opens) f.1.1.1.0;
      })

module _ (own : Own) (held used verdict k room : ℕ) (d : List ℕ) (silent : Bool) (acked validate : ℕ) where
  -- a FLOOD with a revocation is planned
  pub record Revoking (h u : ℕ) (s n : Bool) (a : ℕ) : Type 0 where
    pub held-is : h ≡ held
    pub used-is : u ≡ used
    pub silent-is : s ≡ silent
    pub n-is : n ≡ not_ours own validate d
    pub acked-is : a ≡ acked
    pub verdict-is : verdict ≡ 1
    pub other : ¬ IsOwn own k
    pub fits_in : ack_room s n ≤ room

  abbrev pub KnownRevoke : Plan → Type 0
  KnownRevoke (Refuse m) = Unit {0}
  KnownRevoke (Flood u s n a o at size) = ⊥
  KnownRevoke (Revoke h u s n a) = Revoking h u s n a
  KnownRevoke (Learn h u at) = ⊥
  KnownRevoke (Free h u at m) = ⊥
  KnownRevoke (Certify a i) = ⊥
  KnownRevoke (Show h u a t p m o at size) = ⊥

  pub known-revoke : KnownRevoke (revoke_plan own held used verdict k room d silent acked validate)
  unfolding revoke_plan
  known-revoke =
      let n = not_ours own validate d in
      or_known KnownRevoke Refuse (revoke_refusals own verdict k room silent n) (Revoke held used silent n acked)
      (λ m. tt)
      (λ f. record {
        held-is = refl;
        used-is = refl;
        silent-is = refl;
        n-is = refl;
        acked-is = refl;
        verdict-is = eqb-true verdict 1 (not-false (eqb verdict 1) f.0);
        other = not_own own k f.1.0;
        fits_in = ltb-false room (ack_room silent n) f.1.1.0;
      })
