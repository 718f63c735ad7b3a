-- The very same record among those held: only one with its key can be it, and keys rise, so the place found for the key decides. Assumes nothing.
use Rattle.std.proofs.Common.{◌≡◌, ℕ, suc, ◌*◌, ◌<◌, Bool, true, false, ◌||◌, List, [], ◌∷◌, get_or, sym, refl, ap, ◌∙◌, arith, le-ltb, lt-ltb, eq-eqb, ne_eqb}
use Rattle.octet.specs.Part.{part, same}
use Rattle.octet.proofs.TestLaws.{same-eq}
use Rattle.key.proofs.OrderLaws.{Stand, stand}
use Rattle.key.proofs.OrderLaws.Stand.{below, equal, above}
use Rattle.record.specs.Record.{key_of}
use Rattle.table.specs.Rows.{rows, any_of}
use Rattle.table.proofs.RowLaws.{row_at}
use Rattle.kept.specs.Keys.{Rising, plain}
use Rattle.std.specs.Prelude.{Result, Ok, Err}
use Rattle.cache.specs.Form.{keys_of}
use Rattle.cache.specs.Place.{further, find_key}

-- a record with another key is another
other_key : (q r : List ℕ) → (key_of q ≡ key_of r → ⊥) → same q r ≡ false
other_key q r ne = go (same q r) refl
  where
    go : (b : Bool) → same q r ≡ b → same q r ≡ false
    go true e = absurd (ne (ap key_of (same-eq q r e)))
    go false e = e

or_false : (t : Bool) → t || false ≡ t
or_false true = refl
or_false false = refl

none_above : (r : List ℕ) (low : ℕ) (recs : List (List ℕ)) → key_of r < low → Rising plain low (keys_of recs)
    → any_of (λ (q : List ℕ). same q r) recs ≡ false
unfolding any_of
none_above r low [] h rise = refl
none_above r low (x ∷ xs) h rise =
    rw (other_key x r (λ (e : key_of x ≡ key_of r). omega (arith, rise.0)))
    (none_above r (suc (key_of x)) xs (omega (arith, rise.0)) rise.1)

-- what a place found says of it
abbrev same_at : Result ℕ ℕ → List ℕ → List (List ℕ) → Bool
same_at (Ok i) r recs = same (get_or recs i []) r
same_at (Err i) r recs = false

further_same : (f : Result ℕ ℕ) (r x : List ℕ) (xs : List (List ℕ)) → same_at (further f) r (x ∷ xs) ≡ same_at f r xs
further_same (Ok i) r x xs = refl
further_same (Err i) r x xs = refl

same_found : (r : List ℕ) (low : ℕ) (recs : List (List ℕ)) → Rising plain low (keys_of recs)
    → any_of (λ (q : List ℕ). same q r) recs ≡ same_at (find_key (key_of r) (keys_of recs)) r recs
unfolding any_of find_key
same_found r low [] rise = refl
same_found r low (x ∷ xs) rise = go (stand (key_of x) (key_of r)) (same_found r (suc (key_of x)) xs rise.1)
  where
    go : Stand (key_of x) (key_of r)
        → any_of (λ (q : List ℕ). same q r) xs ≡ same_at (find_key (key_of r) (keys_of xs)) r xs
        → any_of (λ (q : List ℕ). same q r) (x ∷ xs) ≡ same_at (find_key (key_of r) (keys_of (x ∷ xs))) r (x ∷ xs)
    go (below h) ih =
        rw (lt-ltb (key_of x) (key_of r) h, other_key x r (λ (e : key_of x ≡ key_of r). omega arith))
        (ih ∙ sym (further_same (find_key (key_of r) (keys_of xs)) r x xs))
    go (equal h) ih =
        rw (
          le-ltb (key_of x) (key_of r) (omega arith),
          eq-eqb (key_of x) (key_of r) h,
          none_above r (suc (key_of x)) xs (omega arith) rise.1,
        )
        (or_false (same x r))
    go (above h) ih =
        rw (le-ltb (key_of x) (key_of r) (omega arith), ne_eqb (key_of x) (key_of r) (λ (e : key_of x ≡ key_of r). omega arith))
        (none_above r (key_of x) (x ∷ xs) h (omega arith, rise.1))

-- of the records in a cache, by what was found
module _ (r : List ℕ) (held : ℕ) (s : List ℕ) (rise : Rising plain 0 (keys_of (rows 100 held s)))
    {f : Result ℕ ℕ} (is : f ≡ find_key (key_of r) (keys_of (rows 100 held s))) {i : ℕ} where
  pub same_here : f ≡ Ok i → i < held → any_of (λ (q : List ℕ). same q r) (rows 100 held s) ≡ same (part (100 * i) 100 s) r
  same_here e h =
      same_found r 0 (rows 100 held s) rise ∙ ap (λ (g : Result ℕ ℕ). same_at g r (rows 100 held s)) (sym is ∙ e)
      ∙ ap (λ (q : List ℕ). same q r) (row_at 100 held s i h)

  pub same-nowhere : f ≡ Err i → any_of (λ (q : List ℕ). same q r) (rows 100 held s) ≡ false
  same-nowhere e = same_found r 0 (rows 100 held s) rise ∙ ap (λ (g : Result ℕ ℕ). same_at g r (rows 100 held s)) (sym is ∙ e)
