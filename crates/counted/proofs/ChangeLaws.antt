-- What learning and removing do to the keys held, case by case as the answer tells. Assumes nothing.
use mathlib.Core.Path.{◌≡◌, refl, sym, ap, ap₂, subst, ◌∙◌}
use mathlib.Core.Logic.{inl, inr}
use mathlib.Core.Bool.{Bool, true, false, cond}
use mathlib.Core.List.{List, [], ◌∷◌}
use Prim.Native.Nat.{ℕ, zero-le, ◌*◌, ◌≤◌, ◌<◌}
use native.Mathlib.Omega.{arith}
use lib.Dec.{ltb, eqb}
use lib.ListN.{length, length-map}
use borrow.Author.Tests.{ltb-true, ltb-false, eqb-true}
use Rattle.record.specs.Record.{key_of}
use Rattle.own.specs.Own.{Own}
use Rattle.kept.specs.Keys.{◌∈◌, has, plain, put, without}
use Rattle.kept.specs.History.{learn_with}
use Rattle.kept.specs.Records.{put_by}
use Rattle.kept.specs.Plain.{NotOwn, first_of, drops}
use Rattle.kept.proofs.ListLaws.{Test, pass, fail, test, has_in, in_has, in_get_d, rising-put, every-put}
use Rattle.kept.proofs.PutLaws.{Tri, less, same, more, tri, put-nil, put-less, put-more}
use Rattle.kept.proofs.WithoutLaws.{without_this, without_other, without_absent}
use Rattle.kept.proofs.HistoryLaws.{learn-held, learn-room, learn-full}
use Rattle.kept.proofs.RecordLaws.{keys-put, keys-learn, keys-without}
use Rattle.kept.proofs.PondRuleLaws.{plain_rule}
use Rattle.cache.specs.Form.{keys_of, places_in, Places, HeldRecords}
use Rattle.cache.specs.Bytes.{after_learn, after_remove}
use Rattle.cache.specs.Change.{Changes, changes, learned, removed}

both : {b : Bool} → b ≡ true → b ≡ false → ⊥
both p q = let z : ◌≡◌ {A = ℕ} 0 1 = cc in absurd (omega arith)

-- a key that joins and is taken out again
put_out : (k : ℕ) (l : List ℕ) → ¬ (k ∈ l) → without k (put plain k l) ≡ l
unfolding without
put_out k [] out = ap (without k) (put-nil plain k) ∙ without_this k k [] refl
put_out k (j ∷ l) out = go (tri k j) (put_out k l (λ m. out (inr m)))
  where
    go : Tri k j → without k (put plain k l) ≡ l → without k (put plain k (j ∷ l)) ≡ j ∷ l
    go (less h) ih = ap (without k) (put-less plain k j l h) ∙ without_this k k (j ∷ l) refl ∙ without_absent k (j ∷ l) out
    go (same e) ih = absurd (out (inl e))
    go (more h) ih =
        ap (without k) (put-more plain k j l h) ∙ without_other k j (put plain k l) (λ e. out (inl e)) ∙ ap (λ (t : List ℕ). j ∷ t) ih

-- ---- learning

-- the keys held before, the one learned, the keys held after, and what is told
pub data Learnt (keys : List ℕ) (k : ℕ) (left : List ℕ) : Changes → Type 0 where
  stays : left ≡ keys → Learnt keys k left (changes false false 0)
  joins : ¬ (k ∈ keys) → left ≡ put plain k keys → Learnt keys k left (changes true false 0)
  trades : (d : ℕ) → ¬ (k ∈ keys) → d ∈ put plain k keys → left ≡ without d (put plain k keys) → Learnt keys k left (changes true true d)

module _ {keys : List ℕ} {k : ℕ} {left : List ℕ} where
  pub told-stays : {c : Changes} → Learnt keys k left c → c.joined ≡ false → left ≡ keys
  told-stays (stays e) h = e
  told-stays (joins out e) h = absurd (both refl h)
  told-stays (trades d out m e) h = absurd (both refl h)

  pub told-joins : {c : Changes} → Learnt keys k left c → c.joined ≡ true → ¬ (k ∈ keys)
  told-joins (stays e) h = absurd (both h refl)
  told-joins (joins out e) h = out
  told-joins (trades d out m e) h = out

  pub told-alone : {c : Changes} → Learnt keys k left c → c.joined ≡ true → c.left ≡ false → left ≡ put plain k keys
  told-alone (stays e) h l = absurd (both h refl)
  told-alone (joins out e) h l = e
  told-alone (trades d out m e) h l = absurd (both refl l)

  pub told-trades : {c : Changes} → Learnt keys k left c → c.joined ≡ true → c.left ≡ true
      → (c.gone ∈ put plain k keys) × (left ≡ without c.gone (put plain k keys))
  told-trades (stays e) h l = absurd (both h refl)
  told-trades (joins out e) h l = absurd (both l refl)
  told-trades (trades d out m e) h l = (m, e)

module _ (own : Own) (some : 0 < length own) (size : ℕ) (places : Places own size) (recs : List (List ℕ)) (held : HeldRecords own recs)
    (fits : 100 * length recs ≤ size) (r : List ℕ) (other : NotOwn own (key_of r)) where
  keys : List ℕ
  keys = keys_of recs

  more-keys : List ℕ
  more-keys = put plain (key_of r) keys

  learned-keys : learned own size recs r
      ≡ cond (has (key_of r) keys) (changes false false 0)
      (cond (ltb (places_in size) (length more-keys))
      (cond (eqb (drops own more-keys) (key_of r)) (changes false false 0) (changes true true (drops own more-keys))) (changes true false 0))
  unfolding learned keys more-keys
  learned-keys =
      let more = put_by key_of r recs in
      let e : keys_of more ≡ put plain (key_of r) (keys_of recs) = keys-put key_of r recs in
      ap₂ (λ (n : ℕ) (p : List ℕ). cond (has (key_of r) (keys_of recs)) (changes false false 0)
      (cond (ltb (places_in size) n) (cond (eqb (drops own p) (key_of r)) (changes false false 0) (changes true true (drops own p))) (changes true false 0)))
      (sym (length-map more key_of) ∙ ap length e) e

  left-keys : keys_of (after_learn own size recs r) ≡ learn_with (drops own) (places_in size) keys (key_of r)
  unfolding keys
  left-keys = keys-learn key_of (drops own) (places_in size) recs r

  few : length keys ≤ places_in size
  unfolding keys
  few = omega (arith, length-map recs key_of)

  dropped : places_in size < length more-keys → drops own more-keys ∈ more-keys
  unfolding keys more-keys
  dropped h =
      (plain_rule own (places_in size) (omega (arith, places.enough)) (first_of own) (in_get_d own 0 some)).held (put plain (key_of r) (keys_of recs))
      (rising-put plain 0 (key_of r) (keys_of recs) zero-le held.rising) (every-put plain (NotOwn own) (key_of r) (keys_of recs) other held.others) h

  pub learnt : Learnt (keys_of recs) (key_of r) (keys_of (after_learn own size recs r)) (learned own size recs r)
  unfolding keys more-keys
  learnt =
      subst (Learnt keys k left) (sym learned-keys) (go (test (has k keys)) (test (ltb C (length more-keys))) (test (eqb (drops own more-keys) k)))
    where
      k : ℕ
      k = key_of r

      C : ℕ
      C = places_in size

      left : List ℕ
      left = keys_of (after_learn own size recs r)

      go : Test (has k keys) → Test (ltb C (length more-keys)) → Test (eqb (drops own more-keys) k)
          → Learnt keys k left (cond (has k keys) (changes false false 0) (cond (ltb C (length more-keys))
          (cond (eqb (drops own more-keys) k) (changes false false 0) (changes true true (drops own more-keys))) (changes true false 0)))
      go (pass h) t u = rw h (stays (left-keys ∙ learn-held (drops own) C k keys held.rising few (in_has k keys h)))
      go (fail h) (fail t) u =
          rw (h, t) (joins (λ m. both (has_in k keys m) h) (left-keys ∙ learn-room (drops own) C k keys (ltb-false C (length more-keys) t)))
      go (fail h) (pass t) (pass u) =
          rw (h, t, u) (stays (left-keys ∙ learn-full (drops own) C k keys (ltb-true C (length more-keys) t)
          ∙ ap (λ (d : ℕ). without d more-keys) (eqb-true (drops own more-keys) k u) ∙ put_out k keys (λ m. both (has_in k keys m) h)))
      go (fail h) (pass t) (fail u) =
          rw (h, t, u) (trades (drops own more-keys) (λ m. both (has_in k keys m) h) (dropped (ltb-true C (length more-keys) t))
          (left-keys ∙ learn-full (drops own) C k keys (ltb-true C (length more-keys) t)))

-- ---- removing

module _ (k : ℕ) (recs : List (List ℕ)) where
  pub removed_keys : keys_of (after_remove k recs) ≡ without k (keys_of recs)
  removed_keys = keys-without key_of k recs

  pub told-left : (removed k recs).left ≡ true → k ∈ keys_of recs
  unfolding removed
  told-left e = go (test (has k (keys_of recs))) e
    where
      go : Test (has k (keys_of recs)) → (cond (has k (keys_of recs)) (changes false true k) (changes false false 0)).left ≡ true → k ∈ keys_of recs
      go (pass h) e = in_has k (keys_of recs) h
      go (fail h) e = absurd (both (ap (λ (b : Bool). (cond b (changes false true k) (changes false false 0)).left) (sym h) ∙ e) refl)

  pub told-kept : (removed k recs).left ≡ false → keys_of (after_remove k recs) ≡ keys_of recs
  unfolding removed
  told-kept e = go (test (has k (keys_of recs))) e
    where
      go : Test (has k (keys_of recs)) → (cond (has k (keys_of recs)) (changes false true k) (changes false false 0)).left ≡ false
          → keys_of (after_remove k recs) ≡ keys_of recs
      go (pass h) e = absurd (both refl (ap (λ (b : Bool). (cond b (changes false true k) (changes false false 0)).left) (sym h) ∙ e))
      go (fail h) e = removed_keys ∙ without_absent k (keys_of recs) (λ m. both (has_in k (keys_of recs) m) h)
