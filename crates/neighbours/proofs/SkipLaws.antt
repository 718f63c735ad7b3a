-- Laws of records passed over: the records held that are not on a path. Assumes nothing.
use mathlib.Core.Path.{◌≡◌, refl, sym, ap, ◌∙◌}
use mathlib.Core.Logic.{inl, inr}
use mathlib.Core.Bool.{Bool, true, false, cond}
use mathlib.Core.List.{List, [], ◌∷◌}
use Prim.Native.Nat.{ℕ, suc}
use native.Mathlib.Omega.{arith}
use Rattle.record.specs.Record.{key_of}
use Rattle.own.specs.Own.{Own}
use Rattle.kept.specs.Keys.{◌∈◌, Every, Rising, plain}
use Rattle.kept.proofs.ListLaws.{rising-from}
use Rattle.path.specs.Path.{on_path}
use Rattle.path.proofs.OnPathLaws.{empty_path}
use Rattle.cache.specs.Form.{keys_of, HeldRecords}
use Rattle.neighbours.specs.Closest.{off_path}

module _ (path : List ℕ) where
  off-skips : (r : List ℕ) (recs : List (List ℕ)) → on_path r path ≡ true → off_path path (r ∷ recs) ≡ off_path path recs
  unfolding off_path
  off-skips r recs e = rw e refl

  off-keeps : (r : List ℕ) (recs : List (List ℕ)) → on_path r path ≡ false → off_path path (r ∷ recs) ≡ r ∷ off_path path recs
  unfolding off_path
  off-keeps r recs e = rw e refl

  -- they are those held that are not on it
  pub off-has : (y : List ℕ) (recs : List (List ℕ)) → y ∈ recs → on_path y path ≡ false → y ∈ off_path path recs
  off-has y [] m e = absurd m
  off-has y (r ∷ recs) (inl is) e = rw (off-keeps r recs (ap (λ (q : List ℕ). on_path q path) (sym is) ∙ e)) (inl is)
  off-has y (r ∷ recs) (inr m) e = go (on_path r path) refl (off-has y recs m e)
    where
      go : (b : Bool) → on_path r path ≡ b → y ∈ off_path path recs → y ∈ off_path path (r ∷ recs)
      go true p n = rw (off-skips r recs p) n
      go false p n = rw (off-keeps r recs p) (inr n)

  pub has-off : (y : List ℕ) (recs : List (List ℕ)) → y ∈ off_path path recs → (y ∈ recs) × (on_path y path ≡ false)
  unfolding off_path
  has-off y [] m = absurd m
  has-off y (r ∷ recs) m = go (on_path r path) refl m (has-off y recs)
    where
      go : (b : Bool) → on_path r path ≡ b → y ∈ cond b (off_path path recs) (r ∷ off_path path recs)
          → (y ∈ off_path path recs → (y ∈ recs) × (on_path y path ≡ false)) → (y ∈ (r ∷ recs)) × (on_path y path ≡ false)
      go true p n ih = (inr (ih n).0, (ih n).1)
      go false p (inl is) ih = (inl is, ap (λ (q : List ℕ). on_path q path) is ∙ p)
      go false p (inr n) ih = (inr (ih n).0, (ih n).1)

  -- what holds of all that are held, of their keys, and that these rise
  every-off : (P : List ℕ → Type 0) (recs : List (List ℕ)) → Every P recs → Every P (off_path path recs)
  unfolding off_path
  every-off P [] h = tt
  every-off P (r ∷ recs) h = go (on_path r path) (every-off P recs h.1)
    where
      go : (b : Bool) → Every P (off_path path recs) → Every P (cond b (off_path path recs) (r ∷ off_path path recs))
      go true t = t
      go false t = (h.0, t)

  pub keys-off : (P : ℕ → Type 0) (recs : List (List ℕ)) → Every P (keys_of recs) → Every P (keys_of (off_path path recs))
  unfolding off_path
  keys-off P [] h = tt
  keys-off P (r ∷ recs) h = go (on_path r path) (keys-off P recs h.1)
    where
      go : (b : Bool) → Every P (keys_of (off_path path recs)) → Every P (keys_of (cond b (off_path path recs) (r ∷ off_path path recs)))
      go true t = t
      go false t = (h.0, t)

  rising-off : (low : ℕ) (recs : List (List ℕ)) → Rising plain low (keys_of recs) → Rising plain low (keys_of (off_path path recs))
  unfolding off_path
  rising-off low [] h = tt
  rising-off low (r ∷ recs) h = go (on_path r path) (rising-off (suc (key_of r)) recs h.1)
    where
      go : (b : Bool) → Rising plain (suc (key_of r)) (keys_of (off_path path recs))
          → Rising plain low (keys_of (cond b (off_path path recs) (r ∷ off_path path recs)))
      go true t = rising-from plain low (suc (key_of r)) (keys_of (off_path path recs)) (omega (arith, h.0)) t
      go false t = (h.0, t)

  pub off-held : (own : Own) (recs : List (List ℕ)) → HeldRecords own recs → HeldRecords own (off_path path recs)
  off-held own recs f = record {
    formed = every-off _ recs f.formed;
    rising = rising-off 0 recs f.rising;
    others = keys-off _ recs f.others;
  }

-- where none is, there is none
pub off_none : (recs : List (List ℕ)) → ((y : List ℕ) → y ∈ recs → ⊥) → recs ≡ []
off_none [] h = refl
off_none (r ∷ recs) h = absurd (h r (inl refl))

-- with no path all that are held are candidates, as in document 01
pub off_empty : (recs : List (List ℕ)) → off_path [] recs ≡ recs
off_empty [] = unfold off_path in refl
off_empty (r ∷ recs) = off-keeps [] r recs (empty_path r) ∙ ap (λ (l : List (List ℕ)). r ∷ l) (off_empty recs)
