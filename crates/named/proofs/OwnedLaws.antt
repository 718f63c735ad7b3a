-- Our own records with those held that are not on a path are candidates: one at least, and no key twice. Assumes nothing.
use mathlib.Core.Path.{◌≡◌, refl, sym, ap, subst}
use mathlib.Core.Logic.{◌⊎◌, inl, inr}
use mathlib.Core.Bool.{true}
use mathlib.Core.List.{List, [], ◌∷◌, ◌++◌, map}
use Prim.Native.Nat.{ℕ, suc}
use native.Mathlib.Omega.{arith}
use lib.ListN.{length, length-append}
use Rattle.record.specs.Record.{key_of}
use Rattle.own.specs.Own.{own_form, own_keys, own_records}
use Rattle.own.proofs.FormLaws.{own_formed}
use Rattle.kept.specs.Keys.{◌∈◌, Rising, plain}
use Rattle.kept.specs.Plain.{NotOwn}
use Rattle.kept.proofs.ListLaws.{every_at, rising-at}
use Rattle.kept.proofs.TurnLaws.{in_append}
use Rattle.cache.specs.Form.{keys_of, HeldRecords}
use Rattle.neighbours.specs.Closest.{candidates, off_path}
use Rattle.neighbours.proofs.ClosestLaws.{records_some}
use Rattle.neighbours.proofs.SkipLaws.{off-held}
use Rattle.reason.specs.Because.{Once, Candidates}

rising_once : (low : ℕ) (ks : List ℕ) → Rising plain low ks → Once ks
rising_once low [] r = tt
rising_once low (k ∷ ks) r = (λ m. omega (arith, rising-at plain (suc k) k ks r.1 m), rising_once (suc k) ks r.1)

-- keys that rise, and others of which none is among them
once_append : (low : ℕ) (ks js : List ℕ) → Rising plain low ks → ((k : ℕ) → k ∈ js → ¬ (k ∈ ks)) → Once js → Once (ks ++ js)
once_append low [] js r d o = o
once_append low (k ∷ ks) js r d o = (λ m. apart (in_append k ks js m), once_append (suc k) ks js r.1 (λ j m n. d j m (inr n)) o)
  where
    apart : (k ∈ ks) ⊎ (k ∈ js) → ⊥
    apart (inl m) = omega (arith, rising-at plain (suc k) k ks r.1 m)
    apart (inr m) = d k m (inl refl)

keys_append : (xs ys : List (List ℕ)) → map key_of (xs ++ ys) ≡ map key_of xs ++ map key_of ys
keys_append [] ys = refl
keys_append (x ∷ xs) ys = ap (λ (l : List ℕ). key_of x ∷ l) (keys_append xs ys)

pub candidates_are : (own : List ℕ) → own_form own ≡ true → (held : List (List ℕ)) (path : List ℕ) → HeldRecords (own_keys own) held
    → Candidates (candidates (own_records own) (off_path path held))
candidates_are own formed held path h =
    let off = off-held path (own_keys own) held h in
    let ours = own_formed own formed in (
      omega (arith, records_some own formed, length-append (own_records own) (off_path path held)),
      subst Once (sym (keys_append (own_records own) (off_path path held)))
          (once_append 0 (own_keys own) (keys_of (off_path path held)) ours.rising
          (λ k m. every_at (NotOwn (own_keys own)) k (keys_of (off_path path held)) off.others m)
          (rising_once 0 (keys_of (off_path path held)) off.rising)),
    )
