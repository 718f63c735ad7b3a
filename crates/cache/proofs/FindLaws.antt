-- What the place found for a key says of the records: where one joins, which one goes, whether the key is held, how many are smaller.
-- First of any rising keys, then of the records in a cache. Elsewhere: the search's loop, in crate search. Assumes nothing.
use mathlib.Core.Path.{◌≡◌, refl, sym, ap, ◌∙◌, subst}
use mathlib.Core.Logic.{◌⊎◌, inl, inr}
use mathlib.Core.List.{List, [], ◌∷◌}
use mathlib.Core.Bool.{Bool, cond}
use Prim.Native.Nat.{ℕ, suc, ◌≤◌, ◌<◌}
use native.Mathlib.Omega.{arith}
use lib.ListN.{length, get_or, set, length-map}
use borrow.Author.Tests.{lt-ltb, le-ltb, eq-eqb, ne_eqb, le-leb, lt-leb}
use Rattle.key.proofs.OrderLaws.{Stand, stand}
use Rattle.key.proofs.OrderLaws.Stand.{below, equal, above}
use Rattle.record.specs.Record.{key_of}
use Rattle.table.specs.Rows.{rows, insert_at, remove_at}
use Rattle.table.proofs.RowLaws.{rows-length}
use Rattle.kept.specs.Keys.{◌∈◌, has, Rising, plain, among}
use Rattle.kept.specs.Turned.{count_under, count_upto}
use Rattle.kept.specs.Records.{put_by, without_by}
use Rattle.kept.proofs.ListLaws.{has_out, rising-at}
use Rattle.std.specs.Prelude.{Result, Ok, Err, is_ok}
use Rattle.cache.specs.Form.{keys_of}
use Rattle.cache.specs.Place.{further, find_key}

-- ---- what a place found says of the records

abbrev pub put_at : Result ℕ ℕ → List ℕ → List (List ℕ) → List (List ℕ)
put_at (Ok i) r rs = set rs i r
put_at (Err i) r rs = insert_at i r rs

abbrev pub taken_out_lem : Result ℕ ℕ → List (List ℕ) → List (List ℕ)
taken_out_lem (Ok i) rs = remove_at i rs
taken_out_lem (Err i) rs = rs

abbrev pub Inside : Result ℕ ℕ → ℕ → Type 0
Inside (Ok i) n = i < n
Inside (Err i) n = i ≤ n

abbrev pub place_of : Result ℕ ℕ → ℕ
place_of (Ok i) = i
place_of (Err i) = i

-- how many places there are up to k's own
abbrev pub past_of : Result ℕ ℕ → ℕ
past_of (Ok i) = suc i
past_of (Err i) = i

put-further : (f : Result ℕ ℕ) (r x : List ℕ) (xs : List (List ℕ)) → put_at (further f) r (x ∷ xs) ≡ x ∷ put_at f r xs
put-further (Ok i) r x xs = refl
put-further (Err i) r x xs = refl

out_further : (f : Result ℕ ℕ) (x : List ℕ) (xs : List (List ℕ)) → taken_out_lem (further f) (x ∷ xs) ≡ x ∷ taken_out_lem f xs
out_further (Ok i) x xs = refl
out_further (Err i) x xs = refl

inside-further : (f : Result ℕ ℕ) (n : ℕ) → Inside f n → Inside (further f) (suc n)
inside-further (Ok i) n h = omega arith
inside-further (Err i) n h = omega arith

place_further : (f : Result ℕ ℕ) → place_of (further f) ≡ suc (place_of f)
place_further (Ok i) = refl
place_further (Err i) = refl

-- a record joins there, or takes the place of the one there
pub put_found : (r : List ℕ) (recs : List (List ℕ)) → put_by key_of r recs ≡ put_at (find_key (key_of r) (keys_of recs)) r recs
unfolding put_by find_key
put_found r [] = refl
put_found r (x ∷ xs) = go (stand (key_of x) (key_of r)) (put_found r xs)
  where
    go : Stand (key_of x) (key_of r) → put_by key_of r xs ≡ put_at (find_key (key_of r) (keys_of xs)) r xs
        → put_by key_of r (x ∷ xs) ≡ put_at (find_key (key_of r) (keys_of (x ∷ xs))) r (x ∷ xs)
    go (below h) ih =
        rw (le-ltb (key_of r) (key_of x) (omega arith), lt-ltb (key_of x) (key_of r) h)
        (ap (λ (l : List (List ℕ)). x ∷ l) ih ∙ sym (put-further (find_key (key_of r) (keys_of xs)) r x xs))
    go (equal h) ih =
        rw (le-ltb (key_of r) (key_of x) (omega arith), le-ltb (key_of x) (key_of r) (omega arith), eq-eqb (key_of x) (key_of r) h) refl
    go (above h) ih =
        rw (lt-ltb (key_of r) (key_of x) h, le-ltb (key_of x) (key_of r) (omega arith), ne_eqb (key_of x) (key_of r) (omega arith)) refl

-- a key that is not there takes nothing out
pub without_low : (k low : ℕ) (recs : List (List ℕ)) → k < low → Rising plain low (keys_of recs) → without_by key_of k recs ≡ recs
unfolding without_by
without_low k low [] h r = refl
without_low k low (x ∷ xs) h r =
    rw (ne_eqb k (key_of x) (omega (arith, r.0)))
    (ap (λ (l : List (List ℕ)). x ∷ l) (without_low k (suc (key_of x)) xs (omega (arith, r.0)) r.1))

pub without_skip : (k : ℕ) (x : List ℕ) (xs : List (List ℕ)) → ¬ (k ≡ key_of x) → without_by key_of k (x ∷ xs) ≡ x ∷ without_by key_of k xs
unfolding without_by
without_skip k x xs d = rw (ne_eqb k (key_of x) d) refl

pub without_this : (k : ℕ) (x : List ℕ) (xs : List (List ℕ)) → k ≡ key_of x → without_by key_of k (x ∷ xs) ≡ without_by key_of k xs
unfolding without_by
without_this k x xs e = rw (eq-eqb k (key_of x) e) refl

pub remove_found : (k low : ℕ) (recs : List (List ℕ)) → Rising plain low (keys_of recs) → without_by key_of k recs ≡ taken_out_lem (find_key k (keys_of recs)) recs
unfolding find_key
remove_found k low [] r = without_low k (suc k) [] (omega arith) tt
remove_found k low (x ∷ xs) r = go (stand (key_of x) k) (remove_found k (suc (key_of x)) xs r.1)
  where
    go : Stand (key_of x) k → without_by key_of k xs ≡ taken_out_lem (find_key k (keys_of xs)) xs
        → without_by key_of k (x ∷ xs) ≡ taken_out_lem (find_key k (keys_of (x ∷ xs))) (x ∷ xs)
    go (below h) ih =
        rw (lt-ltb (key_of x) k h)
        (without_skip k x xs (omega arith) ∙ ap (λ (l : List (List ℕ)). x ∷ l) ih ∙ sym (out_further (find_key k (keys_of xs)) x xs))
    go (equal h) ih =
        rw (le-ltb (key_of x) k (omega arith), eq-eqb (key_of x) k h)
        (without_this k x xs (sym h) ∙ without_low k (suc (key_of x)) xs (omega arith) r.1)
    go (above h) ih =
        rw (le-ltb (key_of x) k (omega arith), ne_eqb (key_of x) k (omega arith)) (without_low k (key_of x) (x ∷ xs) h (omega arith, r.1))

pub found_inside : (k : ℕ) (ks : List ℕ) → Inside (find_key k ks) (length ks)
unfolding find_key
found_inside k [] = omega arith
found_inside k (j ∷ ks) = go (stand j k) (found_inside k ks)
  where
    go : Stand j k → Inside (find_key k ks) (length ks) → Inside (find_key k (j ∷ ks)) (suc (length ks))
    go (below h) ih = rw (lt-ltb j k h) (inside-further (find_key k ks) (length ks) ih)
    go (equal h) ih = rw (le-ltb j k (omega arith), eq-eqb j k h) (omega arith)
    go (above h) ih = rw (le-ltb j k (omega arith), ne_eqb j k (omega arith)) (omega arith)

-- where it is one of theirs the key there is k, where it is before one k is not among them
abbrev pub Tells : ℕ → List ℕ → Result ℕ ℕ → Type 0
Tells k ks (Ok i) = get_or ks i 0 ≡ k
Tells k ks (Err i) = ¬ (k ∈ ks)

not_first : (k j : ℕ) (ks : List ℕ) → j < k → ¬ (k ∈ ks) → ¬ (k ∈ (j ∷ ks))
not_first k j ks h out (inl e) = absurd (omega arith)
not_first k j ks h out (inr m) = out m

tells_further : (f : Result ℕ ℕ) (k j : ℕ) (ks : List ℕ) → j < k → Tells k ks f → Tells k (j ∷ ks) (further f)
tells_further (Ok i) k j ks h t = t
tells_further (Err i) k j ks h t = not_first k j ks h t

pub found_tells : (k low : ℕ) (ks : List ℕ) → Rising plain low ks → Tells k ks (find_key k ks)
unfolding find_key
found_tells k low [] r = λ m. m
found_tells k low (j ∷ ks) r = go (stand j k) (found_tells k (suc j) ks r.1)
  where
    go : Stand j k → Tells k ks (find_key k ks) → Tells k (j ∷ ks) (find_key k (j ∷ ks))
    go (below h) ih = rw (lt-ltb j k h) (tells_further (find_key k ks) k j ks h ih)
    go (equal h) ih = rw (le-ltb j k (omega arith), eq-eqb j k h) h
    go (above h) ih = rw (le-ltb j k (omega arith), ne_eqb j k (omega arith))
        (λ m. absurd (omega (arith, rising-at plain j k (j ∷ ks) (omega arith, r.1) m)))

at_further : (f : Result ℕ ℕ) → is_ok (further f) ≡ is_ok f
at_further (Ok i) = refl
at_further (Err i) = refl

pub found_has : (k low : ℕ) (ks : List ℕ) → Rising plain low ks → has k ks ≡ is_ok (find_key k ks)
unfolding find_key has
found_has k low [] r = refl
found_has k low (j ∷ ks) r = go (stand j k) (found_has k (suc j) ks r.1)
  where
    later : j < k ⊎ k < j → has k (j ∷ ks) ≡ has k ks
    later (inl h) = rw (ne_eqb k j (omega arith)) refl
    later (inr h) = rw (ne_eqb k j (omega arith)) refl

    go : Stand j k → has k ks ≡ is_ok (find_key k ks) → has k (j ∷ ks) ≡ is_ok (find_key k (j ∷ ks))
    go (below h) ih = rw (lt-ltb j k h) (later (inl h) ∙ ih ∙ sym (at_further (find_key k ks)))
    go (equal h) ih = rw (le-ltb j k (omega arith), eq-eqb j k h, eq-eqb k j (sym h)) refl
    go (above h) ih =
        rw (le-ltb j k (omega arith), ne_eqb j k (omega arith))
        (later (inr h) ∙ has_out k ks (λ m. absurd (omega (arith, rising-at plain (suc j) k ks r.1 m))))

-- so many keys are smaller
none_under : (own low : ℕ) (ks : List ℕ) → own ≤ low → Rising plain low ks → count_under own ks ≡ 0
unfolding among
none_under own low [] h r = refl
none_under own low (j ∷ ks) h r = rw (le-ltb j own (omega (arith, r.0))) (none_under own (suc j) ks (omega (arith, r.0)) r.1)

pub place_under : (own low : ℕ) (ks : List ℕ) → Rising plain low ks → place_of (find_key own ks) ≡ count_under own ks
unfolding find_key among
place_under own low [] r = refl
place_under own low (j ∷ ks) r = go (stand j own) (place_under own (suc j) ks r.1)
  where
    go : Stand j own → place_of (find_key own ks) ≡ count_under own ks → place_of (find_key own (j ∷ ks)) ≡ count_under own (j ∷ ks)
    go (below h) ih = rw (lt-ltb j own h) (place_further (find_key own ks) ∙ ap suc ih)
    go (equal h) ih = rw (le-ltb j own (omega arith), eq-eqb j own h) (sym (none_under own (suc j) ks (omega arith) r.1))
    go (above h) ih = rw (le-ltb j own (omega arith), ne_eqb j own (omega arith)) (sym (none_under own (suc j) ks (omega arith) r.1))

-- it is what the search tells: whether k is there, and how many are smaller
pub found_sought : (k low : ℕ) (ks : List ℕ) → Rising plain low ks → {b : Bool} → has k ks ≡ b
    → find_key k ks ≡ cond b (Ok (count_under k ks)) (Err (count_under k ks))
found_sought k low ks r {b} e = go (find_key k ks) (sym (found_has k low ks r) ∙ e) (place_under k low ks r)
  where
    go : (f : Result ℕ ℕ) → is_ok f ≡ b → place_of f ≡ count_under k ks → f ≡ cond b (Ok (count_under k ks)) (Err (count_under k ks))
    go (Ok i) h p = rw (sym h) (ap Ok p)
    go (Err i) h p = rw (sym h) (ap Err p)

-- so many are at most k
past_further : (f : Result ℕ ℕ) → past_of (further f) ≡ suc (past_of f)
past_further (Ok i) = refl
past_further (Err i) = refl

none_upto : (k low : ℕ) (ks : List ℕ) → k < low → Rising plain low ks → count_upto k ks ≡ 0
unfolding among
none_upto k low [] h r = refl
none_upto k low (j ∷ ks) h r = rw (lt-leb j k (omega (arith, r.0))) (none_upto k (suc j) ks (omega (arith, r.0)) r.1)

pub place_upto : (k low : ℕ) (ks : List ℕ) → Rising plain low ks → past_of (find_key k ks) ≡ count_upto k ks
unfolding find_key among
place_upto k low [] r = refl
place_upto k low (j ∷ ks) r = go (stand j k) (place_upto k (suc j) ks r.1)
  where
    go : Stand j k → past_of (find_key k ks) ≡ count_upto k ks → past_of (find_key k (j ∷ ks)) ≡ count_upto k (j ∷ ks)
    go (below h) ih = rw (lt-ltb j k h, le-leb j k (omega arith)) (past_further (find_key k ks) ∙ ap suc ih)
    go (equal h) ih =
        rw (le-ltb j k (omega arith), eq-eqb j k h, le-leb j k (omega arith)) (ap suc (sym (none_upto k (suc j) ks (omega arith) r.1)))
    go (above h) ih =
        rw (le-ltb j k (omega arith), ne_eqb j k (omega arith), lt-leb j k h) (sym (none_upto k (suc j) ks (omega arith) r.1))

-- ---- of the records in a cache

module _ (k used : ℕ) (s : List ℕ) {f g : Result ℕ ℕ} (e : f ≡ find_key k (keys_of (rows 100 used s))) (t : f ≡ g) where
  pub found-place : Inside g used
  found-place =
      subst (λ (n : ℕ). Inside g n) (length-map (rows 100 used s) key_of ∙ rows-length 100 used s)
      (subst (λ (h : Result ℕ ℕ). Inside h (length (keys_of (rows 100 used s)))) (sym e ∙ t) (found_inside k (keys_of (rows 100 used s))))

  -- the key there is k, or k is not held
  pub found-is : Rising plain 0 (keys_of (rows 100 used s)) → Tells k (keys_of (rows 100 used s)) g
  found-is rises = subst (λ (h : Result ℕ ℕ). Tells k (keys_of (rows 100 used s)) h) (sym e ∙ t) (found_tells k 0 (keys_of (rows 100 used s)) rises)

  pub found-held : Rising plain 0 (keys_of (rows 100 used s)) → has k (keys_of (rows 100 used s)) ≡ is_ok g
  found-held rises = found_has k 0 (keys_of (rows 100 used s)) rises ∙ ap is_ok (sym e ∙ t)

  pub found-removes : Rising plain 0 (keys_of (rows 100 used s)) → taken_out_lem g (rows 100 used s) ≡ without_by key_of k (rows 100 used s)
  found-removes rises = ap (λ (h : Result ℕ ℕ). taken_out_lem h (rows 100 used s)) (sym t ∙ e) ∙ sym (remove_found k 0 (rows 100 used s) rises)

  pub found-under : Rising plain 0 (keys_of (rows 100 used s)) → place_of g ≡ count_under k (keys_of (rows 100 used s))
  found-under rises = ap place_of (sym t ∙ e) ∙ place_under k 0 (keys_of (rows 100 used s)) rises

  pub found-upto : Rising plain 0 (keys_of (rows 100 used s)) → past_of g ≡ count_upto k (keys_of (rows 100 used s))
  found-upto rises = ap past_of (sym t ∙ e) ∙ place_upto k 0 (keys_of (rows 100 used s)) rises

pub found_puts : (r : List ℕ) (used : ℕ) (s : List ℕ) {f g : Result ℕ ℕ} → f ≡ find_key (key_of r) (keys_of (rows 100 used s)) → f ≡ g
    → put_at g r (rows 100 used s) ≡ put_by key_of r (rows 100 used s)
found_puts r used s e t = ap (λ (h : Result ℕ ℕ). put_at h r (rows 100 used s)) (sym t ∙ e) ∙ sym (put_found r (rows 100 used s))
