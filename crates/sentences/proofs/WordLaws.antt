-- Tests of a call on a datagram in the sentences' words: what must be inquired about, and the place that is answered. Assumes nothing.
use mathlib.Core.Path.{◌≡◌, refl, sym, ap, subst, ◌∙◌}
use mathlib.Core.Logic.{◌↔◌}
use mathlib.Core.Bool.{Bool, true, false, not, ◌&&◌}
use mathlib.Core.List.{List, []}
use Prim.Native.Nat.{ℕ}
use lib.Dec.{eqb}
use lib.ListN.{get_or}
use borrow.Author.Tests.{eq-eqb, ne_eqb, eqb-true}
use Rattle.octet.specs.Part.{same}
use Rattle.octet.proofs.TestLaws.{both_true, same_refl, same-eq}
use Rattle.refusal.proofs.TableLaws.{both}
use Rattle.record.specs.Record.{key_of}
use Rattle.own.specs.Own.{Own}
use Rattle.kept.specs.Keys.{◌∈◌}
use Rattle.cache.specs.Form.{held_of}
use Rattle.waiting.specs.Place.{id_of, kind_of}
use Rattle.table.specs.Rows.{any_of}
use Rattle.waiting.specs.Form.{is_inquiry, places_of}
use Rattle.table.specs.Seek.{seek}
use Rattle.waiting.specs.Seek.{is_at}
use Rattle.std.specs.Prelude.{Option}
use Rattle.wire_read.specs.Meaning.{number_of}
use Rattle.wire_read.specs.declared.Incoming as T
use Rattle.wire_read.specs.declared.Incoming.TheVariants as M
use Rattle.asking.specs.Asking.{must_ask}
use Rattle.gauge_plan.specs.Found.{is_nothing, place_of}
use Rattle.gauge_plan.specs.Lent.{Memory}
use Rattle.gauge_laws.proofs.TableLaws.{IsMessage}
use Rattle.sentences.specs.Sentences as S
use Rattle.sentences.proofs.MoveLaws.{holds_not, none_in, in_none, found_in, seek-some, seek-none, is_inquiry_lem, inquiry-is}

-- ---- tests and what they say

pub not_iff : (a b : ℕ) → (not (eqb a b) ≡ true) ↔ (¬ (a ≡ b))
not_iff a b = (λ e d. both (sym (ap not (eq-eqb a b d)) ∙ e) refl, λ h. ap not (ne_eqb a b h))

-- no inquiry for its key waits, by the test
pub none-asked : (k : Own) (m : Memory) (r : List ℕ) → S.MustAsk k m r → any_of (is_inquiry (key_of r)) (places_of m.waiting) ≡ false
none-asked k m r h =
    in_none (is_inquiry (key_of r)) (places_of m.waiting) (λ q i. holds_not (is_inquiry (key_of r) q) (λ e. h.1 (q, i, inquiry-is (key_of r) q e)))

-- whether the record must be inquired about
ask_by : (x y : Bool) → not x && not y ≡ true → (x ≡ false) × (y ≡ false)
ask_by false false e = (refl, refl)
ask_by false true e = both e refl
ask_by true y e = both e refl

pub must_iff : (k : Own) (m : Memory) (r : List ℕ) → (must_ask (held_of k m.cache) (places_of m.waiting) r ≡ true) ↔ S.MustAsk k m r
unfolding must_ask
must_iff k m r = (to, from)
  where
    to : not (any_of (λ (q : List ℕ). same q r) (held_of k m.cache)) && not (any_of (is_inquiry (key_of r)) (places_of m.waiting)) ≡ true
        → S.MustAsk k m r
    to e =
        let w = ask_by _ _ e in (
          λ h. both (same_refl r) (none_in (λ (q : List ℕ). same q r) (held_of k m.cache) w.0 r h),
          λ p. both (is_inquiry_lem (key_of r) p.0 p.2) (none_in (is_inquiry (key_of r)) (places_of m.waiting) w.1 p.0 p.1),
        )

    not-held : S.MustAsk k m r → (q : List ℕ) → q ∈ held_of k m.cache → same q r ≡ false
    not-held h q i = holds_not (same q r) (λ e. h.0 (subst (λ (x : List ℕ). x ∈ held_of k m.cache) (same-eq q r e) i))

    from : S.MustAsk k m r → not (any_of (λ (q : List ℕ). same q r) (held_of k m.cache))
        && not (any_of (is_inquiry (key_of r)) (places_of m.waiting)) ≡ true
    from h = rw (in_none (λ (q : List ℕ). same q r) (held_of k m.cache) (not-held h), none-asked k m r h) refl

-- ---- the place that an AUTHORITY or an ACK answers

module _ (m : Memory) (kind acked : ℕ) where
  abbrev ps : List (List ℕ)
  ps = places_of m.waiting

  abbrev found : Option ℕ
  found = seek (is_at acked kind) 0 (places_of m.waiting)

  pub found-waits : is_nothing found ≡ false → S.WaitsAs m kind acked (get_or ps (place_of found) [])
  found-waits e =
      let p = get_or ps (place_of found) [] in
      let w = found_in (is_at acked kind) (place_of found) ps (seek-some (is_at acked kind) ps e) in
      let v = both_true (eqb (id_of p) acked) (eqb (kind_of p) kind) w.1 in
      (w.0, eqb-true (id_of p) acked v.0, eqb-true (kind_of p) kind v.1)

  waits-at : (p : List ℕ) → S.WaitsAs m kind acked p → is_at acked kind p ≡ true
  waits-at p w = rw (eq-eqb (id_of p) acked w.1, eq-eqb (kind_of p) kind w.2) refl

  pub none-iff-not : (is_nothing found ≡ true) ↔ (¬ ((p : List ℕ) × S.WaitsAs m kind acked p))
  none-iff-not = (to, from)
    where
      to : is_nothing found ≡ true → ¬ ((p : List ℕ) × S.WaitsAs m kind acked p)
      to e w = both (waits-at w.0 w.1) (none_in (is_at acked kind) ps (seek-none (is_at acked kind) ps e) w.0 w.1.0)

      from : ¬ ((p : List ℕ) × S.WaitsAs m kind acked p) → is_nothing found ≡ true
      from h = go (is_nothing found) refl
        where
          go : (y : Bool) → is_nothing found ≡ y → is_nothing found ≡ true
          go true e = e
          go false e = absurd (h (get_or ps (place_of found) [], found-waits e))

-- ---- a message was read

pub message-zero : (a : T.Incoming) → IsMessage a → number_of a ≡ 0
message-zero (M.Refused n) i = absurd i
message-zero (M.Solicit x) i = refl
message-zero (M.Advertise x) i = refl
message-zero (M.Request x) i = refl
message-zero (M.Flood x) i = refl
message-zero (M.Inquire x) i = refl
message-zero (M.Authority x) i = refl
message-zero (M.Ack x) i = refl
message-zero (M.Lookup x) i = refl
