-- Laws of searches among rows. In this order: a row that was found is where it is said, and passes the test; whether one does is whether it is found; a turn
-- and the end of a walk, where the answer for the whole is the answer for what is left from row number at on. Assumes nothing.
use mathlib.Core.Path.{◌≡◌, refl, ap, ◌∙◌}
use mathlib.Core.Bool.{Bool, true, false, ◌||◌, cond}
use mathlib.Core.List.{List, [], ◌∷◌}
use Prim.Native.Nat.{ℕ, suc, ◌+◌, ◌*◌, ◌≤◌, ◌<◌}
use native.Mathlib.Omega.{arith}
use lib.ListN.{length, drop, get_or}
use Rattle.octet.specs.Part.{part}
use Rattle.std.specs.Prelude.{Option, Some, None, is_some}
use Rattle.table.specs.Rows.{rows, any_of}
use Rattle.table.specs.Seek.{seek}
use Rattle.table.proofs.RowLaws.{rows_next, rows_end}

-- ---- what was found

-- row number i of a list whose first is number n, and it passes the test
pub data Here (test : List ℕ → Bool) (n i : ℕ) (ps : List (List ℕ)) : Type 0 where
  here : (j : ℕ) → i ≡ n + j → j < length ps → test (get_or ps j []) ≡ true → Here test n i ps

-- the same row, in a list that has one more before it
further : (test : List ℕ → Bool) (n i : ℕ) (p : List ℕ) (ps : List (List ℕ)) → Here test (n + 1) i ps → Here test n i (p ∷ ps)
further test n i p ps (here j e l t) = here (suc j) (omega arith) (omega arith) t

found_by : (test : List ℕ → Bool) (n i : ℕ) (p : List ℕ) (ps : List (List ℕ)) (b : Bool) → test p ≡ b
    → (seek test (n + 1) ps ≡ Some i → Here test (n + 1) i ps) → cond b (Some n) (seek test (n + 1) ps) ≡ Some i → Here test n i (p ∷ ps)
found_by test n i p ps true t later e = let is : n ≡ i = cc in here 0 (omega arith) (omega arith) t
found_by test n i p ps false t later e = further test n i p ps (later e)

-- where the found row is, and that it passes the test
pub seek_is : (test : List ℕ → Bool) (n i : ℕ) (ps : List (List ℕ)) → seek test n ps ≡ Some i → Here test n i ps
unfolding seek
seek_is test n i [] e = let z : ◌≡◌ {A = ℕ} 0 1 = cc in absurd (omega arith)
seek_is test n i (p ∷ ps) e = found_by test n i p ps (test p) refl (seek_is test (n + 1) i ps) e

from_start : (test : List ℕ → Bool) (i : ℕ) (ps : List (List ℕ)) → Here test 0 i ps → (i < length ps) × (test (get_or ps i []) ≡ true)
from_start test i ps (here j e l t) =
    let is : i ≡ j = omega arith in
    (omega arith, ap (λ (k : ℕ). test (get_or ps k [])) is ∙ t)

pub found_within : (test : List ℕ → Bool) (i : ℕ) (ps : List (List ℕ)) → seek test 0 ps ≡ Some i → i < length ps
found_within test i ps e = (from_start test i ps (seek_is test 0 i ps e)).0

pub found_passes : (test : List ℕ → Bool) (i : ℕ) (ps : List (List ℕ)) → seek test 0 ps ≡ Some i → test (get_or ps i []) ≡ true
found_passes test i ps e = (from_start test i ps (seek_is test 0 i ps e)).1

-- ---- whether one does

-- whether one passes a test is whether it is found
some_by : (b : Bool) (n : ℕ) (f : Option ℕ) (r : Bool) → r ≡ is_some f → (b || r) ≡ is_some (cond b (Some n) f)
some_by true n f r e = refl
some_by false n f r e = e

pub any_found : (test : List ℕ → Bool) (n : ℕ) (ps : List (List ℕ)) → any_of test ps ≡ is_some (seek test n ps)
unfolding any_of seek
any_found test n [] = refl
any_found test n (p ∷ ps) = some_by (test p) n (seek test (n + 1) ps) (any_of test ps) (any_found test (n + 1) ps)

-- where none is found, none passes
pub none_found : (test : List ℕ → Bool) (n : ℕ) (ps : List (List ℕ)) → seek test n ps ≡ None → any_of test ps ≡ false
none_found test n ps e = any_found test n ps ∙ ap is_some e

-- ---- walks

module _ (w used : ℕ) (t : List ℕ) (at : ℕ) where
  -- row number at, and those from there on
  abbrev row : List ℕ
  row = part (w * at) w t

  abbrev left : List (List ℕ)
  left = drop at (rows w used t)

  abbrev later : List (List ℕ)
  later = drop (at + 1) (rows w used t)

  next : at < used → left ≡ row ∷ later
  next h = rows_next w used t at h

  none : used ≤ at → left ≡ []
  none h = rows_end w used t at h

  module _ (test : List ℕ → Bool) where
    -- ---- the first that passes a test

    pub seek-here : at < used → test row ≡ true → seek test at left ≡ Some at
    unfolding seek
    seek-here h e = ap (seek test at) (next h) ∙ rw e refl

    pub seek-on : at < used → test row ≡ false → seek test at left ≡ seek test (at + 1) later
    unfolding seek
    seek-on h e = ap (seek test at) (next h) ∙ rw e refl

    pub seek-end : used ≤ at → seek test at left ≡ None
    unfolding seek
    seek-end h = ap (seek test at) (none h)

    -- ---- whether one does

    pub any_here : at < used → test row ≡ true → any_of test left ≡ true
    unfolding any_of
    any_here h e = ap (any_of test) (next h) ∙ rw e refl

    pub any-on : at < used → test row ≡ false → any_of test left ≡ any_of test later
    unfolding any_of
    any-on h e = ap (any_of test) (next h) ∙ rw e refl

    pub any_end : used ≤ at → any_of test left ≡ false
    unfolding any_of
    any_end h = ap (any_of test) (none h)
