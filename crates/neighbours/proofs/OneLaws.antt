-- Any two answers that the contract of `closest_record` allows are one: the number where it is refused, else no two places have the same record.
-- Assumes nothing.
use mathlib.Core.Path.{◌≡◌, refl, sym, ap, ◌∙◌, subst}
use mathlib.Core.Bool.{true}
use mathlib.Core.List.{List, [], ◌∷◌}
use Prim.Native.Nat.{ℕ, zero, suc, ◌+◌, ◌*◌, ◌/◌, ◌≤◌, ◌<◌}
use native.Mathlib.Omega.{arith}
use lib.ListN.{length, get_or, length-map}
use borrow.Author.Tests.{not-false}
use Rattle.std.specs.Prelude.{Result, Ok, Err}
use Rattle.octet.specs.Part.{part}
use Rattle.octet.proofs.PartLaws.{length_part}
use Rattle.refusal.proofs.TableLaws.{AllFail}
use Rattle.record.specs.Record.{key_of}
use Rattle.own.specs.Own.{own_form, own_keys, own_records, own_record}
use Rattle.own.proofs.FormLaws.{own_formed}
use Rattle.own.proofs.PlaceLaws as own-laws
use Rattle.table.proofs.RowLaws.{rows-length}
use Rattle.kept.specs.Keys.{◌∈◌, Rising, plain}
use Rattle.kept.specs.Plain.{NotOwn}
use Rattle.kept.proofs.ListLaws.{every_at, rising-at}
use Rattle.neighbours.specs.declared.nearest.Spot.{Spot}
use Rattle.neighbours.specs.declared.nearest.Spot.TheVariants.{Own, Held}
use Rattle.cache.specs.Form.{keys_of, Form, held_in, held_of}
use Rattle.cache.specs.Calls.{held_by}
use Rattle.neighbours.specs.Calls.{Shown, shown, shown_by, Inside, closest_wrong, closest_call}
use Rattle.cache.proofs.FormLaws.{key_of-row, true_form}
use Rattle.neighbours.proofs.ListLaws.{key_of_place}
use Rattle.neighbours.proofs.ClosestLaws.{held-key}
use Rattle.neighbours.proofs.BesideLaws.{get_d_in, row_in}
use Rattle.neighbours.proofs.CallLaws.{closest-passes}

-- rising keys are told apart by their places
rise_one : (low : ℕ) (ks : List ℕ) (i j : ℕ) → Rising plain low ks → i < length ks → j < length ks → get_or ks i 0 ≡ get_or ks j 0 → i ≡ j
rise_one low [] i j r l m e = absurd (omega arith)
rise_one low (k ∷ ks) zero zero r l m e = refl
rise_one low (k ∷ ks) zero (suc j) r l m e =
    absurd (omega (arith, e, rising-at plain (suc k) (get_or ks j 0) ks r.1 (get_d_in ks j 0 (omega arith))))
rise_one low (k ∷ ks) (suc i) zero r l m e =
    absurd (omega (arith, e, rising-at plain (suc k) (get_or ks i 0) ks r.1 (get_d_in ks i 0 (omega arith))))
rise_one low (k ∷ ks) (suc i) (suc j) r l m e = ap suc (rise_one (suc k) ks i j r.1 (omega arith) (omega arith) e)

module _ (own cache path target : List ℕ) where
  module _ (z : List ℕ) (e : shown 0 z ≡ closest_call own cache path target) where
    passes : AllFail (closest_wrong own cache path target)
    passes = closest-passes own cache path target (sym (ap (λ (h : Shown). h.number) e))

    own-good : own_form own ≡ true
    own-good = not-false _ passes.0

    holds : Form (own_keys own) cache (held_by own cache)
    holds = true_form (own_keys own) cache (not-false _ passes.1.0)

    held-row : (i : ℕ) → i < length (held_by own cache) → part (100 * i) 100 cache ∈ held_by own cache
    unfolding held_of
    held-row i l = row_in (held_in (own_keys own) cache) i cache (omega (arith, l, rows-length 100 (held_in (own_keys own) cache) cache))

    held-key-at : (i : ℕ) → i < length (held_by own cache) → get_or (keys_of (held_by own cache)) i 0 ≡ key_of (part (100 * i) 100 cache)
    unfolding held_of
    held-key-at i l =
        key_of_place (held_in (own_keys own) cache) cache i (omega (arith, l, rows-length 100 (held_in (own_keys own) cache) cache))
        ∙ sym (key_of-row (100 * i) cache)

    -- an own record is none of those held
    not-held : (k i : ℕ) → k < length (own_records own) → i < length (held_by own cache) → own_record own k ≡ part (100 * i) 100 cache → ⊥
    not-held k i w l d =
        every_at (NotOwn (own_keys own)) (key_of (part (100 * i) 100 cache)) (keys_of (held_by own cache)) holds.held.others
        (held-key (part (100 * i) 100 cache) (held_by own cache) (held-row i l))
        (subst (λ (k : ℕ). k ∈ own_keys own) (ap key_of d) (held-key (own_record own k) (own_records own) (own_row k w)))
      where
        own_row : (k : ℕ) → k < length (own_records own) → own_record own k ∈ own_records own
        own_row k w = row_in (length own / 100) k own (omega (arith, w, rows-length 100 (length own / 100) own))

    -- two own records are told apart by their places
    own-place : (k l : ℕ) → k < length (own_records own) → l < length (own_records own) → own_record own k ≡ own_record own l → k ≡ l
    own-place k l v w d =
        let n = rows-length 100 (length own / 100) own in
        let m = length-map (own_records own) key_of in
        rise_one 0 (own_keys own) k l (own_formed own own-good).rising (omega (arith, v, m)) (omega (arith, w, m))
        (sym (own-laws.key_of_place own k (omega (arith, v, n))) ∙ ap key_of d ∙ own-laws.key_of_place own l (omega (arith, w, n)))

    -- and they have bytes
    own_some : (k : ℕ) → k < length (own_records own) → own_record own k ≡ [] → ⊥
    own_some k w d =
        let m = (own_formed own own-good).many in
        let n : ◌≡◌ {A = ℕ} 0 100 = sym (ap length d) ∙ length_part (100 * k) 100 own (omega (arith, w, m, rows-length 100 (length own / 100) own)) in
        omega (arith, n)

    one_place : (i j : ℕ) → i < length (held_by own cache) → j < length (held_by own cache)
        → part (100 * i) 100 cache ≡ part (100 * j) 100 cache → i ≡ j
    one_place i j l m d =
        let n = length-map (held_by own cache) key_of in
        rise_one 0 (keys_of (held_by own cache)) i j holds.held.rising (omega (arith, l, n)) (omega (arith, m, n))
        (held-key-at i l ∙ ap key_of d ∙ sym (held-key-at j m))

  bytes_of : {m n : ℕ} {r s : List ℕ} → shown m r ≡ closest_call own cache path target → shown n s ≡ closest_call own cache path target → r ≡ s
  bytes_of p q = ap (λ (h : Shown). h.bytes) (p ∙ sym q)

  some : (i : ℕ) → 100 * i + 100 ≤ length cache → part (100 * i) 100 cache ≡ [] → ⊥
  some i l e = let n : ◌≡◌ {A = ℕ} 0 100 = sym (ap length e) ∙ length_part (100 * i) 100 cache l in omega (arith, n)

  pub nearest-one : (a b : Result Spot ℕ) → shown_by own cache a ≡ closest_call own cache path target → Inside own cache a
      → shown_by own cache b ≡ closest_call own cache path target → Inside own cache b → a ≡ b
  nearest-one (Err m) (Err n) p f q g = ap Err (ap (λ (h : Shown). h.number) (p ∙ sym q))
  nearest-one (Err m) (Ok (Own j)) p f q g = absurd (own_some (own_record own j) q j g (bytes_of q p))
  nearest-one (Err m) (Ok (Held i)) p f q g = absurd (some i g.1 (bytes_of q p))
  nearest-one (Ok (Own k)) (Err n) p f q g = absurd (own_some (own_record own k) p k f (bytes_of p q))
  nearest-one (Ok (Own k)) (Ok (Own j)) p f q g = ap (λ (n : ℕ). Ok (Own n)) (own-place (own_record own k) p k j f g (bytes_of p q))
  nearest-one (Ok (Own k)) (Ok (Held i)) p f q g = absurd (not-held (own_record own k) p k i f g.0 (bytes_of p q))
  nearest-one (Ok (Held i)) (Err n) p f q g = absurd (some i f.1 (bytes_of p q))
  nearest-one (Ok (Held i)) (Ok (Own k)) p f q g = absurd (not-held (own_record own k) q k i g f.0 (bytes_of q p))
  nearest-one (Ok (Held i)) (Ok (Held j)) p f q g = ap (λ (n : ℕ). Ok (Held n)) (one_place (part (100 * i) 100 cache) p i j f.0 g.0 (bytes_of p q))
