-- A place opened is a row inserted at its slot, and a place freed a row removed: what the byte moves cite. Assumes nothing.
use mathlib.Core.Path.{◌≡◌, refl, sym, ap, ap₂, ◌∙◌}
use mathlib.Core.Bool.{Bool, true, false, cond}
use mathlib.Core.List.{List, [], ◌∷◌}
use Prim.Native.Nat.{ℕ, zero, suc, ◌≤◌}
use native.Mathlib.Omega.{arith}
use lib.Dec.{leb}
use lib.ListN.{length}
use Rattle.table.specs.Rows.{insert_at, remove_at}
use Rattle.waiting.specs.Place.{id_of}
use Rattle.waiting.specs.Open.{opened, freed}
use Rattle.waiting.specs.Slot.{slot_in}

pub opened_insert : (p : List ℕ) (ps : List (List ℕ)) → insert_at (slot_in (id_of p) ps) p ps ≡ opened p ps
unfolding opened slot_in
opened_insert p [] = refl
opened_insert p (q ∷ ps) = go (leb (id_of p) (id_of q)) (opened_insert p ps)
  where
    go : (b : Bool) → insert_at (slot_in (id_of p) ps) p ps ≡ opened p ps
        → insert_at (cond b zero (suc (slot_in (id_of p) ps))) p (q ∷ ps) ≡ cond b (p ∷ q ∷ ps) (q ∷ opened p ps)
    go true ih = refl
    go false ih = ap (λ (l : List (List ℕ)). q ∷ l) ih

-- at the slot that was found for its ID
pub opened_at : (id at : ℕ) (row p : List ℕ) (ps : List (List ℕ)) → at ≡ slot_in id ps → id_of p ≡ id → row ≡ p → insert_at at row ps ≡ opened p ps
opened_at id at row p ps e d r =
    ap₂ (λ (n : ℕ) (x : List ℕ). insert_at n x ps) (e ∙ ap (λ (n : ℕ). slot_in n ps) (sym d)) r ∙ opened_insert p ps

pub freed_remove : (at : ℕ) (ps : List (List ℕ)) → remove_at at ps ≡ freed at ps
unfolding freed
freed_remove zero [] = refl
freed_remove (suc at) [] = refl
freed_remove zero (p ∷ ps) = refl
freed_remove (suc at) (p ∷ ps) = ap (λ (l : List (List ℕ)). p ∷ l) (freed_remove at ps)

-- a slot is at most behind the last
pub slot_few : (id : ℕ) (ps : List (List ℕ)) → slot_in id ps ≤ length ps
unfolding slot_in
slot_few id [] = omega arith
slot_few id (p ∷ ps) = go (leb id (id_of p)) (slot_few id ps)
  where
    go : (b : Bool) → slot_in id ps ≤ length ps → cond b zero (suc (slot_in id ps)) ≤ suc (length ps)
    go true h = omega arith
    go false h = omega arith
