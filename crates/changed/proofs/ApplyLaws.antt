-- What the list makes of the first records are the second: an entry behind the first record leaves that where it is. Assumes nothing.
use mathlib.Core.Path.{◌≡◌, refl, ◌∙◌, ap}
use mathlib.Core.List.{List, [], ◌∷◌, map}
use Prim.Native.Nat.{ℕ, suc, ◌<◌}
use native.Mathlib.Omega.{arith}
use borrow.Author.Tests.{lt-ltb, le-ltb}
use Rattle.record.specs.Record.{key_of}
use Rattle.kept.specs.Keys.{Rising, plain}
use Rattle.kept.specs.Records.{put_by}
use Rattle.kept.proofs.ListLaws.{rising-from}
use Rattle.cache.proofs.FindLaws.{without_low, without_skip, without_this}
use Rattle.changed.specs.Changes.{Change, gone, new, other, key_in, changed_by, apply}
use Rattle.changed.proofs.StepLaws.{Above}

-- ---- a record put in by its key

put-behind : (r x : List ℕ) (a : List (List ℕ)) → key_of x < key_of r → put_by key_of r (x ∷ a) ≡ x ∷ put_by key_of r a
unfolding put_by
put-behind r x a h = rw (le-ltb (key_of r) (key_of x) (omega arith), lt-ltb (key_of x) (key_of r) h) refl

put_over : (r x : List ℕ) (a : List (List ℕ)) → key_of x ≡ key_of r → put_by key_of r (x ∷ a) ≡ r ∷ a
unfolding put_by
put_over r x a e = rw (le-ltb (key_of r) (key_of x) (omega arith), le-ltb (key_of x) (key_of r) (omega arith)) refl

put_front : (r : List ℕ) (a : List (List ℕ)) → Above (key_of r) a → put_by key_of r a ≡ r ∷ a
unfolding put_by
put_front r [] up = refl
put_front r (x ∷ a) up = rw (lt-ltb (key_of r) (key_of x) (omega (arith, up.0))) refl

-- ---- behind the first record

by_behind : (x : List ℕ) (c : Change) (a : List (List ℕ)) → key_of x < key_in c → changed_by c (x ∷ a) ≡ x ∷ changed_by c a
unfolding changed_by
by_behind x (gone k) a h = without_skip k x a (λ e. absurd (omega arith))
by_behind x (new r) a h = put-behind r x a h
by_behind x (other r) a h = put-behind r x a h

apply-behind : (x : List ℕ) (cs : List Change) (a : List (List ℕ)) → Rising plain (suc (key_of x)) (map key_in cs) → apply cs (x ∷ a) ≡ x ∷ apply cs a
unfolding apply
apply-behind x [] a r = refl
apply-behind x (c ∷ cs) a r =
    ap (apply cs) (by_behind x c a r.0)
    ∙ apply-behind x cs (changed_by c a) (rising-from plain (suc (key_of x)) (suc (key_in c)) (map key_in cs) (omega (arith, r.0)) r.1)

-- ---- by the first entry

module _ (l : List Change) (a b : List (List ℕ)) where
  pub apply-gone : (p : List ℕ) → Above (key_of p) a → apply l a ≡ b → apply (gone (key_of p) ∷ l) (p ∷ a) ≡ b
  unfolding apply changed_by
  apply-gone p up e =
      ap (apply l) (without_this (key_of p) p a refl ∙ without_low (key_of p) (suc (key_of p)) a (omega arith) up) ∙ e

  module _ (q : List ℕ) (later : Rising plain (suc (key_of q)) (map key_in l)) (e : apply l a ≡ b) where
    pub apply-same : apply l (q ∷ a) ≡ q ∷ b
    apply-same = apply-behind q l a later ∙ ap (λ (x : List (List ℕ)). q ∷ x) e

    pub apply-new : Above (key_of q) a → apply (new q ∷ l) a ≡ q ∷ b
    unfolding apply changed_by
    apply-new up = ap (apply l) (put_front q a up) ∙ apply-same

    pub apply-other : (p : List ℕ) → key_of p ≡ key_of q → apply (other q ∷ l) (p ∷ a) ≡ q ∷ b
    unfolding apply changed_by
    apply-other p d = ap (apply l) (put_over q p a d) ∙ apply-same
