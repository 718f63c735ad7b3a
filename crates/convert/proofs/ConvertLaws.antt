-- What a conversion does, for whoever reads it: it is taken exactly where memory is in the old form; refused, it changes nothing; taken, it leaves memory of
-- today that holds the same keys in the same order, each record with its first address; and done twice it changes nothing more. Assumes nothing.
use mathlib.Core.Path.{◌≡◌, refl, sym, ap, ap₂, ◌∙◌}
use mathlib.Core.Logic.{◌↔◌}
use mathlib.Core.Bool.{Bool, true, false}
use mathlib.Core.List.{List, map}
use Prim.Native.Nat.{ℕ}
use native.Mathlib.Omega.{arith}
use Rattle.own.specs.Own.{own_keys}
use Rattle.cache.specs.Form.{keys_of, held_of, cache_form}
use Rattle.cache.proofs.FormLaws.{form-true, form-held}
use Rattle.waiting.specs.Place.{id_of, kind_of, tries_of, place_key}
use Rattle.waiting.specs.Form.{places_of, waiting_form}
use Rattle.waiting.proofs.FormLaws.{form_test, form_unique}
use Rattle.convert.specs.Old.{old_own_form, old_held_of, old_cache_form, old_waiting_form}
use Rattle.cut.specs.Cut.{converted, converted_place}
use Rattle.convert.specs.Convert.{Converted, convert_handed, convert_done, convert_call}
use Rattle.convert.proofs.CallLaws.{own-bad, cache-bad, table-bad, converts}
use Rattle.convert.proofs.CacheLaws.{converted-cache, old-keys-stay, now-old, now-stays}
use Rattle.convert.proofs.TableLaws.{converted-table, table-sized, same_id, same_kind, same-tries, same_key, each_stays, table-now-old, table_stays}

-- memory in the old form
pub record Old (own cache t : List ℕ) : Type 0 where
  pub own-record : old_own_form own ≡ true
  pub held : old_cache_form (own_keys own) cache ≡ true
  pub waits : old_waiting_form (own_keys own) t ≡ true

module _ (own cache t : List ℕ) where
  taken : Old own cache t → convert_call own cache t ≡ convert_done own cache t
  taken o = converts own cache t o.own-record o.held o.waits

  -- a number other than 0 is 1, and nothing changes
  either : (Old own cache t → ⊥) → convert_call own cache t ≡ convert_handed 1 cache t
  either never = first (old_own_form own) refl
    where
      third : old_own_form own ≡ true → old_cache_form (own_keys own) cache ≡ true → (b : Bool) → old_waiting_form (own_keys own) t ≡ b
          → convert_call own cache t ≡ convert_handed 1 cache t
      third o h true e = absurd (never (record { own-record = o; held = h; waits = e }))
      third o h false e = table-bad own cache t o h e

      second : old_own_form own ≡ true → (b : Bool) → old_cache_form (own_keys own) cache ≡ b → convert_call own cache t ≡ convert_handed 1 cache t
      second o true e = third o e (old_waiting_form (own_keys own) t) refl
      second o false e = cache-bad own cache t o e

      first : (b : Bool) → old_own_form own ≡ b → convert_call own cache t ≡ convert_handed 1 cache t
      first true e = second e (old_cache_form (own_keys own) cache) refl
      first false e = own-bad own cache t e

  was-old : (convert_call own cache t).number ≡ 0 → Old own cache t
  was-old z = by-case (old_own_form own) (old_cache_form (own_keys own) cache) (old_waiting_form (own_keys own) t) refl refl refl
    where
      refused : convert_call own cache t ≡ convert_handed 1 cache t → Old own cache t
      refused e = let w : ◌≡◌ {A = ℕ} 1 0 = sym (ap (λ (c : Converted). c.number) e) ∙ z in absurd (omega arith)

      by-case : (a b c : Bool) → old_own_form own ≡ a → old_cache_form (own_keys own) cache ≡ b → old_waiting_form (own_keys own) t ≡ c → Old own cache t
      by-case true true true o h w = record { own-record = o; held = h; waits = w }
      by-case true true false o h w = refused (table-bad own cache t o h w)
      by-case true false c o h w = refused (cache-bad own cache t o h)
      by-case false b c o h w = refused (own-bad own cache t o)

  -- it is taken exactly where memory is in the old form
  pub convert-exactly : ((convert_call own cache t).number ≡ 0) ↔ Old own cache t
  unfolding convert_done
  convert-exactly = (was-old, λ o. ap (λ (c : Converted). c.number) (taken o))

  -- refused it gives 1 and changes nothing
  pub convert-refused : ((convert_call own cache t).number ≡ 0 → ⊥) → convert_call own cache t ≡ convert_handed 1 cache t
  unfolding convert_done
  convert-refused n = either (λ o. n (ap (λ (c : Converted). c.number) (taken o)))

  module _ (z : (convert_call own cache t).number ≡ 0) where
    -- taken it leaves memory in the form of today
    pub convert-form : (cache_form (own_keys own) (convert_call own cache t).cache ≡ true) × (waiting_form (own_keys own) (convert_call own cache t).waiting ≡ true)
    unfolding convert_done
    convert-form =
        let o = was-old z in (
          ap (λ (c : Converted). cache_form (own_keys own) c.cache) (taken o) ∙ form-true (own_keys own) _ _ (converted-cache (own_keys own) cache o.held),
          ap (λ (c : Converted). waiting_form (own_keys own) c.waiting) (taken o)
              ∙ form_test (own_keys own) _ _ (converted-table (own_keys own) t o.waits),
        )

    -- with the records it held, each with its first address: the same keys in the same order
    pub convert-records : held_of (own_keys own) (convert_call own cache t).cache ≡ map converted (old_held_of (own_keys own) cache)
    unfolding convert_done
    convert-records =
        let o = was-old z in
        ap (λ (c : Converted). held_of (own_keys own) c.cache) (taken o) ∙ form-held (own_keys own) _ _ (converted-cache (own_keys own) cache o.held)

    pub convert-keys : keys_of (held_of (own_keys own) (convert_call own cache t).cache) ≡ keys_of (old_held_of (own_keys own) cache)
    convert-keys = ap keys_of convert-records ∙ old-keys-stay (own_keys own) cache (was-old z).held

    -- and the places that waited, with the IDs, kinds, tries and keys they had
    pub convert-places : places_of (convert_call own cache t).waiting ≡ map converted_place (places_of t)
    unfolding convert_done
    convert-places =
        let o = was-old z in
        ap (λ (c : Converted). places_of c.waiting) (taken o) ∙ sym (form_unique (own_keys own) _ _ (converted-table (own_keys own) t o.waits))

    pub convert-waiting : (map id_of (places_of (convert_call own cache t).waiting) ≡ map id_of (places_of t))
        × (map kind_of (places_of (convert_call own cache t).waiting) ≡ map kind_of (places_of t))
        × (map tries_of (places_of (convert_call own cache t).waiting) ≡ map tries_of (places_of t))
        × (map place_key (places_of (convert_call own cache t).waiting) ≡ map place_key (places_of t))
    convert-waiting =
        let sized = table-sized (own_keys own) t (was-old z).waits in (
          ap (map id_of) convert-places ∙ each_stays id_of same_id (places_of t) sized,
          ap (map kind_of) convert-places ∙ each_stays kind_of same_kind (places_of t) sized,
          ap (map tries_of) convert-places ∙ each_stays tries_of same-tries (places_of t) sized,
          ap (map place_key) convert-places ∙ each_stays place_key same_key (places_of t) sized,
        )

    -- "doing it twice changes nothing more"
    pub convert-twice : convert_call own (convert_call own cache t).cache (convert_call own cache t).waiting ≡ convert_call own cache t
    unfolding convert_done
    convert-twice =
        let c = convert_call own cache t in
        let o = was-old z in
        let f = convert-form in
        converts own c.cache c.waiting o.own-record (now-old (own_keys own) c.cache f.0) (table-now-old (own_keys own) c.waiting f.1)
        ∙ ap₂ (convert_handed 0) (now-stays (own_keys own) c.cache f.0) (table_stays (own_keys own) c.waiting f.1)
        ∙ ap (λ (n : ℕ). convert_handed n c.cache c.waiting) (sym z)

-- memory of today is taken, and nothing changes
pub convert_now : (own cache t : List ℕ) → old_own_form own ≡ true → cache_form (own_keys own) cache ≡ true → waiting_form (own_keys own) t ≡ true
    → convert_call own cache t ≡ convert_handed 0 cache t
unfolding convert_done
convert_now own cache t o f g =
    converts own cache t o (now-old (own_keys own) cache f) (table-now-old (own_keys own) t g)
    ∙ ap₂ (convert_handed 0) (now-stays (own_keys own) cache f) (table_stays (own_keys own) t g)
