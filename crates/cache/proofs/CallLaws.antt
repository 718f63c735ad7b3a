-- Laws of the calls: what an accepted one does, to records and to keys; that it leaves memory in form; what a refused one leaves; that any two results which
-- a contract allows coincide. In this order: one result; calls that write the cache; learning; removing. Assumes nothing.
use mathlib.Core.Path.{◌≡◌, refl, sym, ap, ◌∙◌}
use mathlib.Core.Logic.{◌↔◌}
use mathlib.Core.Bool.{true, false}
use mathlib.Core.List.{List}
use Prim.Native.Nat.{ℕ, ◌<◌}
use native.Mathlib.Omega.{arith}
use lib.ListN.{length}
use Rattle.std.specs.Prelude.{Result, Ok, Err}
use borrow.Author.Tests.{not-false}
use Rattle.refusal.specs.Table.{Refusal, applies_in, or_refuse, InOrder, by_number}
use Rattle.refusal.proofs.TableLaws.{AllFail, all_fail}
use Rattle.refusal.proofs.CallLaws.{all_pass, number_is, refusal-keeps, call-exactly}
use Rattle.key.specs.Number.{key_at}
use Rattle.record.specs.Record.{key_of}
use Rattle.own.specs.Own.{own_keys}
use Rattle.own.proofs.FormLaws.{own_some}
use Rattle.own.proofs.PlaceLaws.{not_own}
use Rattle.table.specs.Rows.{bytes_of}
use Rattle.kept.specs.Keys.{without}
use Rattle.kept.specs.Plain as Plain
use Rattle.cache.specs.Form.{keys_of, places_in, Form, cache_form}
use Rattle.cache.specs.Bytes.{after_learn, after_remove}
use Rattle.cache.specs.Calls.{held_by, Changed, change_number, cache_changed, learn_wrong, learn_call, remove_wrong, remove_call}
use Rattle.cache.proofs.FormLaws.{form-held, form-true, true_form}
use Rattle.cache.proofs.KeepLaws.{learnt_keys, learnt_form, removed_keys, removed_form}

-- ---- one result

module _ (own cache r : List ℕ) (m n : Result (Unit {0}) ℕ) (s t : List ℕ) where
  pub learn-coincides : cache_changed m s ≡ learn_call own cache r → cache_changed n t ≡ learn_call own cache r → (m ≡ n) × (s ≡ t)
  learn-coincides p q = let e : cache_changed m s ≡ cache_changed n t = p ∙ sym q in (ap (λ (h : Changed). h.answer) e, ap (λ (h : Changed). h.cache) e)

  pub remove-coincides : cache_changed m s ≡ remove_call own cache r → cache_changed n t ≡ remove_call own cache r → (m ≡ n) × (s ≡ t)
  remove-coincides p q = let e : cache_changed m s ≡ cache_changed n t = p ∙ sym q in (ap (λ (h : Changed). h.answer) e, ap (λ (h : Changed). h.cache) e)

-- ---- calls that write the cache

module _ (cache : List ℕ) (rs : List Refusal) (o : InOrder by_number 0 rs) (after : List ℕ) where
  pub call_passes : change_number (or_refuse (λ (n : ℕ). cache_changed (Err n) cache) rs (cache_changed (Ok tt) after)).answer ≡ 0 → AllFail rs
  call_passes e =
      all_fail by_number rs 0 o (sym (number_is (λ (h : Changed). change_number h.answer) (λ (n : ℕ). cache_changed (Err n) cache) (λ n. refl) (cache_changed (Ok tt) after) refl rs) ∙ e)

  pub call-does : AllFail rs → or_refuse (λ (n : ℕ). cache_changed (Err n) cache) rs (cache_changed (Ok tt) after) ≡ cache_changed (Ok tt) after
  call-does a = all_pass (λ (n : ℕ). cache_changed (Err n) cache) rs (cache_changed (Ok tt) after) a

  pub call-keeps : 0 < change_number (or_refuse (λ (n : ℕ). cache_changed (Err n) cache) rs (cache_changed (Ok tt) after)).answer
      → (or_refuse (λ (n : ℕ). cache_changed (Err n) cache) rs (cache_changed (Ok tt) after)).cache ≡ cache
  call-keeps p =
      refusal-keeps (λ (h : Changed). change_number h.answer) (λ (n : ℕ). cache_changed (Err n) cache) (λ n. refl) (cache_changed (Ok tt) after) refl
      (λ (h : Changed). h.cache) cache (λ n. refl) rs p

-- what a call has done that is accepted: memory is in form, and holds these records
pub record Holds (own cache : List ℕ) (recs : List (List ℕ)) : Type 0 where
  pub form : cache_form (own_keys own) cache ≡ true
  pub held : held_by own cache ≡ recs

holds : (own cache : List ℕ) (recs : List (List ℕ)) → Form (own_keys own) cache recs → Holds own cache recs
holds own cache recs f = record { form = form-true (own_keys own) cache recs f; held = form-held (own_keys own) cache recs f }

-- ---- learning

module _ (own cache r : List ℕ) where
  learn-bytes : List ℕ
  learn-bytes = bytes_of (length cache) (after_learn (own_keys own) (length cache) (held_by own cache) r)

  learn-order : InOrder by_number 0 (learn_wrong own cache r)
  learn-order = (omega arith, omega arith, (omega arith, omega arith, (omega arith, omega arith, (omega arith, omega arith, tt))))

  learn-holds : AllFail (learn_wrong own cache r) → Holds own learn-bytes (after_learn (own_keys own) (length cache) (held_by own cache) r)
  unfolding learn-bytes
  learn-holds a =
      holds own _ _ (learnt_form (own_keys own) cache (held_by own cache) r (own_some own (not-false _ a.0))
      (true_form (own_keys own) cache (not-false _ a.1.0)) (not-false _ a.1.1.0) (not_own (own_keys own) (key_of r) a.1.1.1.0))

  -- accepted: the record is learned, by its key as kept has it
  pub learn-does : change_number (learn_call own cache r).answer ≡ 0 → Holds own (learn_call own cache r).cache (after_learn (own_keys own) (length cache) (held_by own cache) r)
  unfolding learn_call learn-bytes
  learn-does e =
      let a = call_passes cache (learn_wrong own cache r) learn-order learn-bytes e in
      rw (call-does cache (learn_wrong own cache r) learn-order learn-bytes a) (learn-holds a)

  pub learn-keys : change_number (learn_call own cache r).answer ≡ 0
      → keys_of (held_by own (learn_call own cache r).cache) ≡ Plain.learn (own_keys own) (places_in (length cache)) (keys_of (held_by own cache)) (key_of r)
  learn-keys e = ap keys_of (learn-does e).held ∙ learnt_keys (own_keys own) (length cache) (held_by own cache) r

  -- refused: nothing changes
  pub learn-keeps : 0 < change_number (learn_call own cache r).answer → (learn_call own cache r).cache ≡ cache
  unfolding learn_call learn-bytes
  learn-keeps p = call-keeps cache (learn_wrong own cache r) learn-order learn-bytes p

  -- and exactly when
  pub learn-exactly : (n : ℕ) → 0 < n
      → (change_number (learn_call own cache r).answer ≡ n) ↔ ((applies_in n (learn_wrong own cache r) ≡ true) × ((m : ℕ) → m < n → applies_in m (learn_wrong own cache r) ≡ false))
  unfolding learn_call learn-bytes
  learn-exactly n p =
      call-exactly (λ (h : Changed). change_number h.answer) (λ (n : ℕ). cache_changed (Err n) cache) (λ n. refl) (cache_changed (Ok tt) learn-bytes) refl (learn_wrong own cache r) 0 learn-order n p

-- ---- removing

module _ (own cache key : List ℕ) where
  remove-bytes : List ℕ
  remove-bytes = bytes_of (length cache) (after_remove (key_at 0 key) (held_by own cache))

  remove-order : InOrder by_number 0 (remove_wrong own cache key)
  remove-order = (omega arith, omega arith, (omega arith, omega arith, (omega arith, omega arith, tt)))

  remove-holds : AllFail (remove_wrong own cache key) → Holds own remove-bytes (after_remove (key_at 0 key) (held_by own cache))
  unfolding remove-bytes
  remove-holds a = holds own _ _ (removed_form (own_keys own) (key_at 0 key) cache (held_by own cache) (true_form (own_keys own) cache (not-false _ a.1.0)))

  pub remove-does : change_number (remove_call own cache key).answer ≡ 0 → Holds own (remove_call own cache key).cache (after_remove (key_at 0 key) (held_by own cache))
  unfolding remove_call remove-bytes
  remove-does e =
      let a = call_passes cache (remove_wrong own cache key) remove-order remove-bytes e in
      rw (call-does cache (remove_wrong own cache key) remove-order remove-bytes a) (remove-holds a)

  pub remove-keys : change_number (remove_call own cache key).answer ≡ 0
      → keys_of (held_by own (remove_call own cache key).cache) ≡ without (key_at 0 key) (keys_of (held_by own cache))
  remove-keys e = ap keys_of (remove-does e).held ∙ removed_keys (key_at 0 key) (held_by own cache)

  pub remove-keeps : 0 < change_number (remove_call own cache key).answer → (remove_call own cache key).cache ≡ cache
  unfolding remove_call remove-bytes
  remove-keeps p = call-keeps cache (remove_wrong own cache key) remove-order remove-bytes p

  pub remove-exactly : (n : ℕ) → 0 < n
      → (change_number (remove_call own cache key).answer ≡ n)
      ↔ ((applies_in n (remove_wrong own cache key) ≡ true) × ((m : ℕ) → m < n → applies_in m (remove_wrong own cache key) ≡ false))
  unfolding remove_call remove-bytes
  remove-exactly n p =
      call-exactly (λ (h : Changed). change_number h.answer) (λ (n : ℕ). cache_changed (Err n) cache) (λ n. refl) (cache_changed (Ok tt) remove-bytes) refl (remove_wrong own cache key) 0
      remove-order n p
