-- Each entry is true, and each difference is listed: what an entry says of the whole records is what it says of the rests, or it is the first.
-- Assumes nothing.
use mathlib.Core.Path.{◌≡◌, refl, sym, ◌∙◌, ap, subst}
use mathlib.Core.Logic.{◌⊎◌, inl, inr, ◌↔◌}
use mathlib.Core.List.{List, [], ◌∷◌}
use Prim.Native.Nat.{ℕ, suc}
use native.Mathlib.Omega.{arith}
use Rattle.record.specs.Record.{key_of}
use Rattle.kept.specs.Keys.{◌∈◌, plain}
use Rattle.kept.proofs.ListLaws.{rising-at}
use Rattle.cache.specs.Form.{keys_of}
use Rattle.changed.specs.Changes.{Change, gone, new, other}
use Rattle.changed.specs.Statements.{Differs}
use Rattle.changed.proofs.StepLaws.{Above}

abbrev pub Exactly : List (List ℕ) → List (List ℕ) → List Change → Type 0
Exactly a b l = (c : Change) → (c ∈ l) ↔ Differs a b c

pub key_in_lem : (r : List ℕ) (a : List (List ℕ)) → r ∈ a → key_of r ∈ keys_of a
key_in_lem r [] m = absurd m
key_in_lem r (x ∷ a) (inl e) = inl (ap key_of e)
key_in_lem r (x ∷ a) (inr m) = inr (key_in_lem r a m)

-- a key that all others are above is none of them, and neither is a record that has it
not_key : (j k : ℕ) (a : List (List ℕ)) → Above k a → j ≡ k → ¬ (j ∈ keys_of a)
not_key j k a r e m = absurd (omega (arith, rising-at plain (suc k) j (keys_of a) r m))

not_record : (r : List ℕ) (k : ℕ) (a : List (List ℕ)) → Above k a → key_of r ≡ k → ¬ (r ∈ a)
not_record r k a up e m = not_key (key_of r) k a up e (key_in_lem r a m)

-- ---- from the rests to the whole: one entry more, or none

module _ (a b : List (List ℕ)) (whole whole' : List (List ℕ)) (c₀ : Change) (l : List Change) (first : Differs whole whole' c₀)
    (widen : (c : Change) → Differs a b c → Differs whole whole' c) (narrow : (c : Change) → Differs whole whole' c → (c ≡ c₀) ⊎ Differs a b c)
    (rest : Exactly a b l) where
  forth : (c : Change) → c ∈ (c₀ ∷ l) → Differs whole whole' c
  forth c (inl e) = subst (Differs whole whole') (sym e) first
  forth c (inr m) = widen c ((rest c).0 m)

  back : (c : Change) → (c ≡ c₀) ⊎ Differs a b c → c ∈ (c₀ ∷ l)
  back c (inl e) = inl e
  back c (inr d) = inr ((rest c).1 d)

  one_more : Exactly whole whole' (c₀ ∷ l)
  one_more c = (forth c, λ d. back c (narrow c d))

-- ---- a key gone

module _ (p : List ℕ) (a b : List (List ℕ)) (ra : Above (key_of p) a) (rb : Above (key_of p) b) where
  gone-widen : (c : Change) → Differs a b c → Differs (p ∷ a) b c
  gone-widen (gone k) d = (inr d.0, d.1)
  gone-widen (new r) d = (d.0, out)
    where
      out : ¬ (key_of r ∈ keys_of (p ∷ a))
      out (inl e) = not_record r (key_of p) b rb e d.0
      out (inr m) = d.1 m
  gone-widen (other r) d = (d.0, inr d.1, out)
    where
      out : ¬ (r ∈ (p ∷ a))
      out (inl e) = not_record r (key_of p) b rb (ap key_of e) d.0
      out (inr m) = d.2 m

  gone-narrow : (c : Change) → Differs (p ∷ a) b c → (c ≡ gone (key_of p)) ⊎ Differs a b c
  gone-narrow (gone k) d = go d.0
    where
      go : k ∈ keys_of (p ∷ a) → (gone k ≡ gone (key_of p)) ⊎ Differs a b (gone k)
      go (inl e) = inl (ap gone e)
      go (inr m) = inr (m, d.1)
  gone-narrow (new r) d = inr (d.0, λ m. d.1 (inr m))
  gone-narrow (other r) d = go d.1
    where
      go : key_of r ∈ keys_of (p ∷ a) → (other r ≡ gone (key_of p)) ⊎ Differs a b (other r)
      go (inl e) = absurd (not_record r (key_of p) b rb e d.0)
      go (inr m) = inr (d.0, m, λ n. d.2 (inr n))

  pub exactly-gone : (l : List Change) → Exactly a b l → Exactly (p ∷ a) b (gone (key_of p) ∷ l)
  exactly-gone l rest = one_more a b (p ∷ a) b (gone (key_of p)) l (inl refl, not_key (key_of p) (key_of p) b rb refl) gone-widen gone-narrow rest

-- ---- a new key

module _ (q : List ℕ) (a b : List (List ℕ)) (ra : Above (key_of q) a) (rb : Above (key_of q) b) where
  new-widen : (c : Change) → Differs a b c → Differs a (q ∷ b) c
  new-widen (gone k) d = (d.0, out)
    where
      out : ¬ (k ∈ keys_of (q ∷ b))
      out (inl e) = not_key k (key_of q) a ra e d.0
      out (inr m) = d.1 m
  new-widen (new r) d = (inr d.0, d.1)
  new-widen (other r) d = (inr d.0, d.1, d.2)

  new-narrow : (c : Change) → Differs a (q ∷ b) c → (c ≡ new q) ⊎ Differs a b c
  new-narrow (gone k) d = inr (d.0, λ m. d.1 (inr m))
  new-narrow (new r) d = go d.0
    where
      go : r ∈ (q ∷ b) → (new r ≡ new q) ⊎ Differs a b (new r)
      go (inl e) = inl (ap new e)
      go (inr m) = inr (m, d.1)
  new-narrow (other r) d = go d.0
    where
      go : r ∈ (q ∷ b) → (other r ≡ new q) ⊎ Differs a b (other r)
      go (inl e) = absurd (not_key (key_of r) (key_of q) a ra (ap key_of e) d.1)
      go (inr m) = inr (m, d.1, d.2)

  pub exactly-new : (l : List Change) → Exactly a b l → Exactly a (q ∷ b) (new q ∷ l)
  exactly-new l rest = one_more a b a (q ∷ b) (new q) l (inl refl, not_key (key_of q) (key_of q) a ra refl) new-widen new-narrow rest

-- ---- one key in both

module _ (p q : List ℕ) (a b : List (List ℕ)) (e : key_of p ≡ key_of q) (ra : Above (key_of q) a) (rb : Above (key_of q) b) where
  both-widen : (c : Change) → Differs a b c → Differs (p ∷ a) (q ∷ b) c
  both-widen (gone k) d = (inr d.0, out)
    where
      out : ¬ (k ∈ keys_of (q ∷ b))
      out (inl t) = not_key k (key_of q) a ra t d.0
      out (inr m) = d.1 m
  both-widen (new r) d = (inr d.0, out)
    where
      out : ¬ (key_of r ∈ keys_of (p ∷ a))
      out (inl t) = not_record r (key_of q) b rb (t ∙ e) d.0
      out (inr m) = d.1 m
  both-widen (other r) d = (inr d.0, inr d.1, out)
    where
      out : ¬ (r ∈ (p ∷ a))
      out (inl t) = not_record r (key_of q) b rb (ap key_of t ∙ e) d.0
      out (inr m) = d.2 m

  both-narrow : (c : Change) → Differs (p ∷ a) (q ∷ b) c → (c ≡ other q) ⊎ Differs a b c
  both-narrow (gone k) d = go d.0
    where
      go : k ∈ keys_of (p ∷ a) → (gone k ≡ other q) ⊎ Differs a b (gone k)
      go (inl t) = absurd (d.1 (inl (t ∙ e)))
      go (inr m) = inr (m, λ n. d.1 (inr n))
  both-narrow (new r) d = go d.0
    where
      go : r ∈ (q ∷ b) → (new r ≡ other q) ⊎ Differs a b (new r)
      go (inl t) = absurd (d.1 (inl (ap key_of t ∙ sym e)))
      go (inr m) = inr (m, λ n. d.1 (inr n))
  both-narrow (other r) d = go d.0 d.1
    where
      go : r ∈ (q ∷ b) → key_of r ∈ keys_of (p ∷ a) → (other r ≡ other q) ⊎ Differs a b (other r)
      go (inl t) k = inl (ap other t)
      go (inr m) (inl t) = absurd (not_record r (key_of q) b rb (t ∙ e) m)
      go (inr m) (inr k) = inr (m, k, λ n. d.2 (inr n))

  pub exactly-other : (l : List Change) → ¬ (p ≡ q) → Exactly a b l → Exactly (p ∷ a) (q ∷ b) (other q ∷ l)
  exactly-other l differ rest = one_more a b (p ∷ a) (q ∷ b) (other q) l (inl refl, inl (sym e), out) both-widen both-narrow rest
    where
      out : ¬ (q ∈ (p ∷ a))
      out (inl t) = differ (sym t)
      out (inr m) = not_record q (key_of q) a ra refl m

-- the very record in both is no difference
module _ (p : List ℕ) (a b : List (List ℕ)) (ra : Above (key_of p) a) (rb : Above (key_of p) b) where
  same-narrow : (c : Change) → Differs (p ∷ a) (p ∷ b) c → (c ≡ other p) ⊎ Differs a b c → Differs a b c
  same-narrow c d (inl t) = let same : Differs (p ∷ a) (p ∷ b) (other p) = subst (Differs (p ∷ a) (p ∷ b)) t d in absurd (same.2 (inl refl))
  same-narrow c d (inr n) = n

  pub exactly-same : (l : List Change) → Exactly a b l → Exactly (p ∷ a) (p ∷ b) l
  exactly-same l rest c =
      (λ m. both-widen p p a b refl ra rb c ((rest c).0 m), λ d. (rest c).1 (same-narrow c d (both-narrow p p a b refl ra rb c d)))
