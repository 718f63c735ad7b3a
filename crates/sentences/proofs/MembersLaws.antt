-- Members determine bytes: two caches in form of one size that hold the same records are equal, and so are two waiting tables in form with the
-- same places. Assumes nothing.
use mathlib.Core.Path.{◌≡◌, refl, sym, ap, ap₂, ◌∙◌}
use mathlib.Core.Logic.{inl, inr}
use mathlib.Core.Bool.{true}
use mathlib.Core.List.{List, [], ◌∷◌, map}
use Prim.Native.Nat.{ℕ, suc, ◌≤◌}
use native.Mathlib.Omega.{arith}
use lib.ListN.{length}
use Rattle.record.specs.Record.{key_of}
use Rattle.own.specs.Own.{Own}
use Rattle.table.specs.Rows.{bytes_of}
use Rattle.kept.specs.Keys.{◌∈◌, Rising, plain}
use Rattle.cache.specs.Form.{keys_of, held_of, cache_form}
use Rattle.cache.proofs.FormLaws.{true_form}
use Rattle.waiting.specs.Place.{id_of}
use Rattle.waiting.specs.Form.{places_of, place_form, waiting_form}
use Rattle.waiting.proofs.FormLaws.{Placed, form_of, form-placed}
use Rattle.sentences.specs.Sentences.{HoldsExactly, WaitsExactly}

-- ---- lists that rise by a measure

module _ {A : Type 0} (f : A → ℕ) where
  pub rise-at : (b : ℕ) (x : A) (xs : List A) → Rising plain b (map f xs) → x ∈ xs → b ≤ f x
  rise-at b x [] r m = absurd m
  rise-at b x (y ∷ xs) r (inl e) = let q = ap f e in omega (arith, r.0)
  rise-at b x (y ∷ xs) r (inr m) = let h : suc (f y) ≤ f x = rise-at (suc (f y)) x xs r.1 m in omega (arith, r.0)

  -- two members with one measure are one
  pub rise_one : (b : ℕ) (x y : A) (xs : List A) → Rising plain b (map f xs) → x ∈ xs → y ∈ xs → f x ≡ f y → x ≡ y
  rise_one b x y [] r m n e = absurd m
  rise_one b x y (z ∷ xs) r (inl p) (inl q) e = p ∙ sym q
  rise_one b x y (z ∷ xs) r (inl p) (inr n) e = let q = ap f p in absurd (omega (arith, rise-at (suc (f z)) y xs r.1 n))
  rise_one b x y (z ∷ xs) r (inr m) (inl q) e = let p = ap f q in absurd (omega (arith, rise-at (suc (f z)) x xs r.1 m))
  rise_one b x y (z ∷ xs) r (inr m) (inr n) e = rise_one (suc (f z)) x y xs r.1 m n e

  -- two with the same members are equal
  pub rise-ext : (a b : ℕ) (l m : List A) → Rising plain a (map f l) → Rising plain b (map f m)
      → ((k : A) → k ∈ l → k ∈ m) → ((k : A) → k ∈ m → k ∈ l) → l ≡ m
  rise-ext a b [] [] r q to from = refl
  rise-ext a b [] (j ∷ m) r q to from = absurd (from j (inl refl))
  rise-ext a b (i ∷ l) [] r q to from = absurd (to i (inl refl))
  rise-ext a b (i ∷ l) (j ∷ m) r q to from =
      let e : i ≡ j = heads (to i (inl refl)) (from j (inl refl)) in
      ap₂ (λ (x : A) (t : List A). x ∷ t) e
      (rise-ext (suc (f i)) (suc (f j)) l m r.1 q.1 (λ k t. right k t e (to k (inr t))) (λ k t. left k t e (from k (inr t))))
    where
      heads : i ∈ (j ∷ m) → j ∈ (i ∷ l) → i ≡ j
      heads (inl e) t = e
      heads (inr s) (inl e) = sym e
      heads (inr s) (inr t) = absurd (omega (arith, rise-at (suc (f j)) i m q.1 s, rise-at (suc (f i)) j l r.1 t))

      right : (k : A) → k ∈ l → i ≡ j → k ∈ (j ∷ m) → k ∈ m
      right k t e (inl d) = absurd (omega (arith, rise-at (suc (f i)) k l r.1 t, ap f (d ∙ sym e)))
      right k t e (inr s) = s

      left : (k : A) → k ∈ m → i ≡ j → k ∈ (i ∷ l) → k ∈ l
      left k t e (inl d) = absurd (omega (arith, rise-at (suc (f j)) k m q.1 t, ap f (d ∙ e)))
      left k t e (inr s) = s

-- ---- the cache

pub held-rises : (k : Own) (s : List ℕ) → cache_form k s ≡ true → Rising plain 0 (keys_of (held_of k s))
held-rises k s f = (true_form k s f).held.rising

pub cache_ext : (k : Own) (a b : List ℕ) → cache_form k a ≡ true → cache_form k b ≡ true → length a ≡ length b
    → ((r : List ℕ) → r ∈ held_of k a → r ∈ held_of k b) → ((r : List ℕ) → r ∈ held_of k b → r ∈ held_of k a) → a ≡ b
cache_ext k a b fa fb e to from =
    (true_form k a fa).bytes
    ∙ ap₂ bytes_of e (rise-ext key_of 0 0 (held_of k a) (held_of k b) (held-rises k a fa) (held-rises k b fb) to from)
    ∙ sym (true_form k b fb).bytes

-- so what is said of the records held fixes the cache
pub cache_same : (k : Own) (lent a b : List ℕ) (P Q : List ℕ → Type 0) → HoldsExactly k lent a P → HoldsExactly k lent b Q
    → ((r : List ℕ) → P r → Q r) → ((r : List ℕ) → Q r → P r) → a ≡ b
cache_same k lent a b P Q c d to from =
    cache_ext k a b c.form d.form (c.size ∙ sym d.size) (λ r m. (d.members r).1 (to r ((c.members r).0 m)))
    (λ r m. (c.members r).1 (from r ((d.members r).0 m)))

-- ---- the waiting table

placed_rises : (own : Own) (low : ℕ) (ps : List (List ℕ)) → Placed own low ps → Rising plain low (map id_of ps)
placed_rises own low [] h = tt
placed_rises own low (p ∷ ps) h = (h.1, placed_rises own (suc (id_of p)) ps h.3)

pub places_rise : (k : Own) (t : List ℕ) → waiting_form k t ≡ true → Rising plain 0 (map id_of (places_of t))
places_rise k t f = placed_rises k 0 (places_of t) (form-placed k t f)

-- each place that waits is in form
placed_in : (own : Own) (low : ℕ) (ps : List (List ℕ)) → Placed own low ps → (p : List ℕ) → p ∈ ps → place_form own p ≡ true
placed_in own low [] h p m = absurd m
placed_in own low (q ∷ ps) h p (inl e) = ap (place_form own) e ∙ h.0
placed_in own low (q ∷ ps) h p (inr m) = placed_in own (suc (id_of q)) ps h.3 p m

pub place_formed : (k : Own) (t : List ℕ) → waiting_form k t ≡ true → (p : List ℕ) → p ∈ places_of t → place_form k p ≡ true
place_formed k t f p m = placed_in k 0 (places_of t) (form-placed k t f) p m

pub table_ext : (k : Own) (a b : List ℕ) → waiting_form k a ≡ true → waiting_form k b ≡ true
    → ((p : List ℕ) → p ∈ places_of a → p ∈ places_of b) → ((p : List ℕ) → p ∈ places_of b → p ∈ places_of a) → a ≡ b
table_ext k a b fa fb to from =
    (form_of k a fa).bytes
    ∙ ap (bytes_of 2240) (rise-ext id_of 0 0 (places_of a) (places_of b) (places_rise k a fa) (places_rise k b fb) to from)
    ∙ sym (form_of k b fb).bytes

pub table_same : (k : Own) (a b : List ℕ) (P Q : List ℕ → Type 0) → WaitsExactly k a P → WaitsExactly k b Q
    → ((p : List ℕ) → P p → Q p) → ((p : List ℕ) → Q p → P p) → a ≡ b
table_same k a b P Q c d to from =
    table_ext k a b c.form d.form (λ p m. (d.members p).1 (to p ((c.members p).0 m))) (λ p m. (c.members p).1 (from p ((d.members p).0 m)))
