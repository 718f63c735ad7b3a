-- Laws of a record on a path: with no path; where its address and an endpoint lie; a turn of each of the two loops. Assumes nothing.
use mathlib.Core.Path.{◌≡◌, refl, ap, ◌∙◌}
use mathlib.Core.Bool.{Bool, true, false, ◌||◌}
use mathlib.Core.List.{List, []}
use Prim.Native.Nat.{ℕ, ◌+◌, ◌*◌, ◌/◌, ◌≤◌, ◌<◌}
use native.Mathlib.Omega.{arith}
use lib.Dec.{eqb}
use lib.ListN.{length, drop, take}
use lib.Seq.{drop-drop}
use Rattle.octet.specs.Part.{part, same}
use Rattle.record.specs.Record.{port_of, count_of}
use Rattle.record.proofs.PlaceLaws.{part-part}
use Rattle.table.specs.Rows.{rows, any_of}
use Rattle.table.proofs.RowLaws.{rows_next}
use Rattle.table.proofs.SeekLaws.{any_here, any-on, any_end}
use Rattle.path.specs.Path.{endpoints_of, endpoint_port, endpoint_address, address_rows, stands_in, on_path}

-- ---- with no path no record is on it

pub empty_path : (r : List ℕ) → on_path r [] ≡ false
unfolding on_path rows any_of
empty_path r = refl

-- ---- where they lie

-- address number i of the record at a place
pub address_lies : (at i : ℕ) (s : List ℕ) → i < 4 → part (16 * i) 16 (drop 36 (part at 100 s)) ≡ part (at + 36 + 16 * i) 16 s
address_lies at i s h =
    let f : at + (36 + 16 * i) ≡ at + 36 + 16 * i = omega arith in
    ap (take 16) (drop-drop (16 * i) 36 (part at 100 s)) ∙ part-part at 100 (36 + 16 * i) 16 s (omega arith) ∙ ap (λ (k : ℕ). part k 16 s) f

-- the address of endpoint number k
pub endpoint_lies : (start : ℕ) (path : List ℕ) → endpoint_address (part start 18 path) ≡ part (start + 2) 16 path
endpoint_lies start path = part-part start 18 2 16 path (omega arith)

-- ---- turns

module _ (r path : List ℕ) where
  abbrev matches : List ℕ → List ℕ → Bool
  matches e a = same a (endpoint_address e)

  -- what is left to be looked at from endpoint number k on
  abbrev pub leftFrom : ℕ → Bool
  leftFrom k = any_of (stands_in r) (drop k (endpoints_of path))

  -- of its addresses, from number i on
  abbrev pub addressesFrom : ℕ → List ℕ → Bool
  addressesFrom i e = any_of (matches e) (drop i (address_rows r))

  abbrev pub endpoint : ℕ → List ℕ
  endpoint k = part (18 * k) 18 path

  pub from_start : on_path r path ≡ leftFrom 0
  unfolding on_path
  from_start = refl

  pub none_left : (k : ℕ) → length path / 18 ≤ k → leftFrom k ≡ false
  none_left k h = any_end 18 (length path / 18) path k (stands_in r) h

  -- an endpoint with another port; one with the same port, at its first address
  pub other-port : (k : ℕ) → k < length path / 18 → eqb (endpoint_port (endpoint k)) (port_of r) ≡ false → leftFrom k ≡ leftFrom (k + 1)
  unfolding stands_in
  other-port k h e = any-on 18 (length path / 18) path k (stands_in r) h (rw e refl)

  pub same-port : (k : ℕ) → k < length path / 18 → eqb (endpoint_port (endpoint k)) (port_of r) ≡ true
      → leftFrom k ≡ addressesFrom 0 (endpoint k) || leftFrom (k + 1)
  unfolding stands_in any_of
  same-port k h e = ap (any_of (stands_in r)) (rows_next 18 (length path / 18) path k h) ∙ rw e refl

  -- an address that is the endpoint's; one that is not; no more. Then the endpoints from number next on are left
  module _ (e : List ℕ) (next i : ℕ) where
    pub address-found : i < count_of r → same (part (16 * i) 16 (drop 36 r)) (endpoint_address e) ≡ true → addressesFrom i e || leftFrom next ≡ true
    address-found h is = ap (λ (b : Bool). b || leftFrom next) (any_here 16 (count_of r) (drop 36 r) i (matches e) h is)

    pub address-passed : i < count_of r → same (part (16 * i) 16 (drop 36 r)) (endpoint_address e) ≡ false
        → addressesFrom i e || leftFrom next ≡ addressesFrom (i + 1) e || leftFrom next
    address-passed h is = ap (λ (b : Bool). b || leftFrom next) (any-on 16 (count_of r) (drop 36 r) i (matches e) h is)

    pub addresses-end : count_of r ≤ i → addressesFrom i e || leftFrom next ≡ leftFrom next
    addresses-end h = ap (λ (b : Bool). b || leftFrom next) (any_end 16 (count_of r) (drop 36 r) i (matches e) h)
