-- Laws of the two calls: what an accepted one does; what a refused one leaves; that any two results which the contract of the list allows
-- coincide (of the other: OneLaws). In this order: one result; the neighbour list; the closest record. Assumes nothing.
use mathlib.Core.Path.{◌≡◌, refl, sym, ap, ◌∙◌}
use mathlib.Core.Logic.{◌↔◌}
use mathlib.Core.Bool.{true, false}
use mathlib.Core.List.{List, []}
use Prim.Native.Nat.{ℕ, ◌+◌, ◌*◌, ◌≤◌, ◌<◌}
use native.Mathlib.Nat.{zero-add}
use native.Mathlib.Omega.{arith}
use lib.ListN.{length, drop, length-append, length-take}
use Rattle.std.specs.Prelude.{Result, Ok, Err}
use borrow.Author.Tests.{not-false}
use Rattle.octet.specs.Part.{splice}
use Rattle.octet.proofs.PartLaws.{drop-splice}
use Rattle.refusal.specs.Table.{applies_in, InOrder, by_number}
use Rattle.refusal.proofs.TableLaws.{AllFail, all_fail}
use Rattle.refusal.proofs.CallLaws.{all_pass, number_is, refusal-keeps, call-exactly}
use Rattle.key.specs.Number.{key_at}
use Rattle.key.specs.Around.{Side, below, above, side_of, nearness, closer}
use Rattle.record.specs.Record.{key_of}
use Rattle.own.specs.Own.{own_keys, own_records}
use Rattle.kept.specs.Keys.{◌∈◌}
use Rattle.kept.specs.Neighbours.{IsNeighbours, nearest_first}
use Rattle.kept.specs.Plain.{NotOwn, neighbours, neighbour_list}
use Rattle.kept.proofs.HistoryLaws.{neighbours-right, neighbours-only}
use Rattle.kept.proofs.Demand3Laws.{plain-order}
use Rattle.neighbours.specs.declared.listing.Counts.{Counts}
use Rattle.cache.specs.Form.{keys_of, cache_form}
use Rattle.neighbours.specs.Listing.{key_bytes, after_list}
use Rattle.neighbours.specs.Closest.{candidates, off_path, closest_of}
use Rattle.cache.specs.Calls.{held_by}
use Rattle.neighbours.specs.Calls.{Written, list_number, list_counts, list_written, list_wrong, list_call, Shown, shown, closest_wrong, closest_call}
use Rattle.cache.proofs.FormLaws.{true_form}
use Rattle.neighbours.proofs.ListLaws.{keys_length}
use Rattle.neighbours.proofs.ClosestLaws.{closest-among, closest-least, closest_only}
use Rattle.neighbours.proofs.SkipLaws.{off-held, off_empty}

-- ---- one result

pub list_coincides : (own cache key out : List ℕ) (a b : Result Counts ℕ) (s t : List ℕ) → list_written a s ≡ list_call own cache key out
    → list_written b t ≡ list_call own cache key out → (a ≡ b) × (s ≡ t)
list_coincides own cache key out a b s t p q =
    let e : list_written a s ≡ list_written b t = p ∙ sym q in (ap (λ (h : Written). h.answer) e, ap (λ (h : Written). h.output) e)

-- ---- the neighbour list

-- of memory in form each side's list round a key has the property of neighbours among the keys held, and no other list has it
pub list_right : (own cache : List ℕ) (k : ℕ) → cache_form (own_keys own) cache ≡ true → (s : Side)
    → IsNeighbours (side_of k) (nearness k) s (keys_of (held_by own cache)) (neighbours k s (keys_of (held_by own cache)))
list_right own cache k e s =
    let f = true_form (own_keys own) cache e in
    neighbours-right (NotOwn (own_keys own)) (side_of k) (nearness k) (plain-order (NotOwn (own_keys own)) k) (keys_of (held_by own cache))
    (record { rises = f.held.rising; oks = f.held.others }) s

pub list_only : (own cache : List ℕ) (k : ℕ) → cache_form (own_keys own) cache ≡ true → (s : Side) (l : List ℕ)
    → IsNeighbours (side_of k) (nearness k) s (keys_of (held_by own cache)) l → l ≡ neighbours k s (keys_of (held_by own cache))
list_only own cache k e s l h =
    neighbours-only (NotOwn (own_keys own)) (side_of k) (nearness k) (plain-order (NotOwn (own_keys own)) k) (keys_of (held_by own cache))
    (true_form (own_keys own) cache e).held.others s l (neighbours k s (keys_of (held_by own cache))) h (list_right own cache k e s)

module _ (own cache key out : List ℕ) where
  list-order : InOrder by_number 0 (list_wrong own cache key out)
  list-order =
      (omega arith, omega arith, (omega arith, omega arith, (omega arith, omega arith, (omega arith, omega arith, (omega arith, omega arith, tt)))))

  -- what an accepted list hands back
  list_done : Written
  list_done =
      list_written
      (Ok (record {
        below = length (neighbours (key_at 0 key) below (keys_of (held_by own cache)));
        above = length (neighbours (key_at 0 key) above (keys_of (held_by own cache)));
      }))
      (after_list (key_at 0 key) (held_by own cache) out)

  list_refused : ℕ → Written
  list_refused n = list_written (Err n) out

  pub list-does : list_number (list_call own cache key out).answer ≡ 0
      → ((list_call own cache key out).output ≡ after_list (key_at 0 key) (held_by own cache) out)
      × ((list_counts (list_call own cache key out).answer).below ≡ length (neighbours (key_at 0 key) below (keys_of (held_by own cache))))
      × ((list_counts (list_call own cache key out).answer).above ≡ length (neighbours (key_at 0 key) above (keys_of (held_by own cache))))
  unfolding list_call list_done list_refused
  list-does e =
      let a = all_fail by_number (list_wrong own cache key out) 0 list-order
      (sym (number_is (λ (h : Written). list_number h.answer) list_refused (λ n. refl) list_done refl (list_wrong own cache key out)) ∙ e) in
      let d : list_call own cache key out ≡ list_done = all_pass list_refused (list_wrong own cache key out) list_done a in
      (ap (λ (h : Written). h.output) d, ap (λ (h : Written). (list_counts h.answer).below) d, ap (λ (h : Written). (list_counts h.answer).above) d)

  list-lent : {W : Type 0} (w : Written → W) (lent : W) → ((n : ℕ) → w (list_refused n) ≡ lent) → 0 < list_number (list_call own cache key out).answer
      → w (list_call own cache key out) ≡ lent
  unfolding list_call list_done list_refused
  list-lent w lent e p =
      refusal-keeps (λ (h : Written). list_number h.answer) list_refused (λ n. refl) list_done refl w lent e (list_wrong own cache key out) p

  -- refused: nothing changes, and the counts are 0
  pub list_keeps : 0 < list_number (list_call own cache key out).answer
      → ((list_call own cache key out).output ≡ out) × ((list_counts (list_call own cache key out).answer).below ≡ 0) × ((list_counts (list_call own cache key out).answer).above ≡ 0)
  unfolding list_refused
  list_keeps p = (
    list-lent (λ (h : Written). h.output) out (λ n. refl) p,
    list-lent (λ (h : Written). (list_counts h.answer).below) 0 (λ n. refl) p,
    list-lent (λ (h : Written). (list_counts h.answer).above) 0 (λ n. refl) p,
  )

  pub list_exactly : (n : ℕ) → 0 < n
      → (list_number (list_call own cache key out).answer ≡ n)
      ↔ ((applies_in n (list_wrong own cache key out) ≡ true) × ((m : ℕ) → m < n → applies_in m (list_wrong own cache key out) ≡ false))
  unfolding list_call list_done list_refused
  list_exactly n p =
      call-exactly (λ (h : Written). list_number h.answer) list_refused (λ n. refl) list_done refl (list_wrong own cache key out) 0 list-order n p

-- the output changes in its first bytes only, 32 for each key listed
pub list_rest : (own : ℕ) (recs : List (List ℕ)) (out : List ℕ) → 320 ≤ length out
    → drop (32 * (length (neighbours own below (keys_of recs)) + length (neighbours own above (keys_of recs)))) (after_list own recs out)
    ≡ drop (32 * (length (neighbours own below (keys_of recs)) + length (neighbours own above (keys_of recs)))) out
list_rest own recs out h =
    let b : List ℕ = neighbours own below (keys_of recs) in
    let a : List ℕ = neighbours own above (keys_of recs) in
    let xs : List ℕ = key_bytes (neighbour_list own (keys_of recs)) in
    let n : length xs ≡ 32 * (length b + length a) = keys_length (neighbour_list own (keys_of recs)) ∙ ap (λ (k : ℕ). 32 * k) (length-append b a) in
    let e : 0 + length xs ≡ 32 * (length b + length a) = zero-add (length xs) ∙ n in
    let p : length b ≤ 5 = omega (arith, length-take 5 (nearest_first (side_of own) (nearness own) below (keys_of recs))) in
    let q : length a ≤ 5 = omega (arith, length-take 5 (nearest_first (side_of own) (nearness own) above (keys_of recs))) in
    ap (λ (k : ℕ). drop k (splice 0 xs out)) (sym e) ∙ drop-splice 0 xs out (omega (arith, e)) ∙ ap (λ (k : ℕ). drop k out) e

-- ---- the closest record

module _ (own cache path target : List ℕ) (a : AllFail (closest_wrong own cache path target)) where
  -- accepted: the record is our own or one held and not on the path, none is closer, and no other is so
  pub closest-does : closest_call own cache path target ≡ shown 0 (closest_of (key_at 0 target) (candidates (own_records own) (off_path path (held_by own cache))))
  unfolding closest_call
  closest-does =
      all_pass (λ (n : ℕ). shown n []) (closest_wrong own cache path target)
      (shown 0 (closest_of (key_at 0 target) (candidates (own_records own) (off_path path (held_by own cache))))) a

  closest-bytes : (closest_call own cache path target).bytes ≡ closest_of (key_at 0 target) (candidates (own_records own) (off_path path (held_by own cache)))
  closest-bytes = ap (λ (h : Shown). h.bytes) closest-does

  pub closest-candidate : (closest_call own cache path target).bytes ∈ candidates (own_records own) (off_path path (held_by own cache))
  closest-candidate = rw closest-bytes (closest-among (key_at 0 target) own (off_path path (held_by own cache)) (not-false _ a.0))

  pub closest-none-closer : (y : List ℕ) → y ∈ candidates (own_records own) (off_path path (held_by own cache))
      → closer (key_at 0 target) (key_of y) (key_of (closest_call own cache path target).bytes) ≡ false
  closest-none-closer y m = rw closest-bytes (closest-least (key_at 0 target) own (off_path path (held_by own cache)) y m)

  pub closest-fixed : (z : List ℕ) → z ∈ candidates (own_records own) (off_path path (held_by own cache))
      → ((y : List ℕ) → y ∈ candidates (own_records own) (off_path path (held_by own cache)) → closer (key_at 0 target) (key_of y) (key_of z) ≡ false)
      → z ≡ (closest_call own cache path target).bytes
  closest-fixed z m h =
      closest_only (key_at 0 target) own (off_path path (held_by own cache)) (not-false _ a.0)
      (off-held path (own_keys own) (held_by own cache) (true_form (own_keys own) cache (not-false _ a.1.0)).held) z m h ∙ sym closest-bytes

module _ (own cache path target : List ℕ) where
  closest-order : InOrder by_number 0 (closest_wrong own cache path target)
  closest-order = (omega arith, omega arith, (omega arith, omega arith, (omega arith, omega arith, (omega arith, omega arith, tt))))

  closest-done : Shown
  closest-done = shown 0 (closest_of (key_at 0 target) (candidates (own_records own) (off_path path (held_by own cache))))

  pub closest-passes : (closest_call own cache path target).number ≡ 0 → AllFail (closest_wrong own cache path target)
  unfolding closest_call closest-done
  closest-passes e =
      all_fail by_number (closest_wrong own cache path target) 0 closest-order
      (sym (number_is (λ (h : Shown). h.number) (λ (n : ℕ). shown n []) (λ n. refl) closest-done refl (closest_wrong own cache path target)) ∙ e)

  -- refused: no record is shown; and exactly when
  pub closest_keeps : 0 < (closest_call own cache path target).number → (closest_call own cache path target).bytes ≡ []
  unfolding closest_call closest-done
  closest_keeps p =
      refusal-keeps (λ (h : Shown). h.number) (λ (n : ℕ). shown n []) (λ n. refl) closest-done refl (λ (h : Shown). h.bytes) [] (λ n. refl)
      (closest_wrong own cache path target) p

  pub closest-exactly : (n : ℕ) → 0 < n
      → ((closest_call own cache path target).number ≡ n)
      ↔ ((applies_in n (closest_wrong own cache path target) ≡ true) × ((m : ℕ) → m < n → applies_in m (closest_wrong own cache path target) ≡ false))
  unfolding closest_call closest-done
  closest-exactly n p =
      call-exactly (λ (h : Shown). h.number) (λ (n : ℕ). shown n []) (λ n. refl) closest-done refl (closest_wrong own cache path target) 0 closest-order n p

-- with no path it is the closest of our own record and all that are held, as document 01 has it
pub closest_empty_path : (own cache target : List ℕ) → AllFail (closest_wrong own cache [] target)
    → closest_call own cache [] target ≡ shown 0 (closest_of (key_at 0 target) (candidates (own_records own) (held_by own cache)))
closest_empty_path own cache target a =
    closest-does own cache [] target a
    ∙ ap (λ (l : List (List ℕ)). shown 0 (closest_of (key_at 0 target) (candidates (own_records own) l))) (off_empty (held_by own cache))
