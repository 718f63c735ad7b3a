-- Laws of a record and the route entry that carries it: each is in form where the other is, a record comes back from its entry, an entry of one address
-- from its record, and they have one key and one port.
-- In this order: the bytes of each; a view of what is in form; the laws. Assumes nothing.
use mathlib.Core.Path.{◌≡◌, refl, sym, ap, ap₂, ◌∙◌}
use mathlib.Core.Bool.{true, ◌&&◌}
use mathlib.Core.List.{List, [], ◌∷◌, ◌++◌, append_assoc}
use Prim.Native.Nat.{ℕ, ◌+◌, ◌*◌, ◌≤◌, ◌<◌}
use native.Mathlib.Numerals.{add-one}
use native.Mathlib.Omega.{arith}
use lib.Dec.{eqb}
use lib.ListN.{length, take, drop, get_or, replicate, length-append, length-replicate, length-drop, take-append-drop}
use lib.Seq.{take-add, take_at, drop_at, take_all, drop-drop, drop-cons, get_or-append-add}
use borrow.Author.Tests.{le-leb, eq-eqb, leb-true, eqb-true}
use Rattle.octet.specs.Number.{value_be}
use Rattle.octet.specs.Part.{part, splice, all_zero}
use Rattle.octet.proofs.PartLaws.{length_part}
use Rattle.octet.proofs.TestLaws.{both_true, zeros_all, all_zeros}
use Rattle.key.specs.Number.{key_at}
use Rattle.record.specs.Record.{key_of, port_of, count_of, record_form}
use Rattle.record.specs.Entry.{entry_count, entry_form, record_of, entry_of}

-- ---- the bytes, taken apart: a is the key, p and q the port, f the flags, c the count, x the addresses

abbrev entry_bytes : List ℕ → ℕ → ℕ → ℕ → ℕ → ℕ → ℕ → List ℕ → List ℕ
entry_bytes a major minor p q f c x = a ++ (major ∷ minor ∷ p ∷ q ∷ f ∷ c ∷ x)

abbrev record_bytes : List ℕ → ℕ → ℕ → ℕ → ℕ → List ℕ → List ℕ
record_bytes a p q c z x = a ++ (p ∷ q ∷ c ∷ z ∷ x)

-- what stands behind the first 32
behind : (a y : List ℕ) (j n : ℕ) → length a ≡ 32 → part (32 + j) n (a ++ y) ≡ part j n y
behind a y j n e =
    ap (take n) (sym (drop-drop j 32 (a ++ y)) ∙ ap (drop j) (drop_at a y 32 e))

at_behind : (a y : List ℕ) (j : ℕ) → length a ≡ 32 → get_or (a ++ y) (32 + j) 0 ≡ get_or y j 0
at_behind a y j e = ap (λ (n : ℕ). get_or (a ++ y) (n + j) 0) (sym e) ∙ get_or-append-add a y j 0

module _ (a : List ℕ) (major minor p q f c : ℕ) (x : List ℕ) (e : length a ≡ 32) where
  record_bytes_lem : record_of (entry_bytes a major minor p q f c x) ≡ record_bytes a p q 1 0 (take 16 x ++ replicate 48 0)
  unfolding record_of
  record_bytes_lem =
      let y = major ∷ minor ∷ p ∷ q ∷ f ∷ c ∷ x in
      rw (take_at a y 32 e, behind a y 2 2 e, behind a y 6 16 e) (simp append_assoc)

  entry_bytes_lem : length x ≡ 16 * c → (z : ℕ) (w : List ℕ) → entry_of major minor (record_bytes a p q c z (x ++ w)) ≡ entry_bytes a major minor p q 0 c x
  unfolding entry_of
  entry_bytes_lem n z w =
      let y = p ∷ q ∷ c ∷ z ∷ (x ++ w) in
      rw (at_behind a y 2 e, take_at a y 32 e, behind a y 0 2 e, behind a y 4 (16 * c) e, take_at x w (16 * c) n) (simp append_assoc)

-- ---- views of what is in form

record EntryView (v : List ℕ) : Type 0 where
  a : List ℕ
  major : ℕ
  minor : ℕ
  p : ℕ
  q : ℕ
  f : ℕ
  c : ℕ
  x : List ℕ
  key : length a ≡ 32
  least : 1 ≤ c
  most : c ≤ 4
  long : length x ≡ 16 * c
  is : v ≡ entry_bytes a major minor p q f c x

record RecordView (r : List ℕ) : Type 0 where
  a : List ℕ
  p : ℕ
  q : ℕ
  x : List ℕ
  key : length a ≡ 32
  long : length x ≡ 16
  is : r ≡ record_bytes a p q 1 0 (x ++ replicate 48 0)

-- n elements from a place on, one after the other
next : (at : ℕ) (v : List ℕ) → at < length v → drop at v ≡ get_or v at 0 ∷ drop (at + 1) v
next at v h = rw (add-one, drop-cons v at 0)

entry_view : (v : List ℕ) → entry_form v ≡ true → EntryView v
unfolding entry_form
entry_view v e =
    let w = both_true _ _ e in
    let u = both_true _ _ w.0 in
    let a : 1 ≤ entry_count v = leb-true _ _ u.0 in
    let b : entry_count v ≤ 4 = leb-true _ _ u.1 in
    let n : length v ≡ 38 + 16 * entry_count v = eqb-true _ _ w.1 in
    let six : drop 32 v ≡ get_or v 32 0 ∷ get_or v 33 0 ∷ get_or v 34 0 ∷ get_or v 35 0 ∷ get_or v 36 0 ∷ get_or v 37 0 ∷ drop 38 v =
    rw (
      next 32 v (omega arith),
      next 33 v (omega arith),
      next 34 v (omega arith),
      next 35 v (omega arith),
      next 36 v (omega arith),
      next 37 v (omega arith),
    ) in
    record {
      a = take 32 v;
      major = get_or v 32 0;
      minor = get_or v 33 0;
      p = get_or v 34 0;
      q = get_or v 35 0;
      f = get_or v 36 0;
      c = get_or v 37 0;
      x = drop 38 v;
      key = length_part 0 32 v (omega arith);
      least = a;
      most = b;
      long = length-drop 38 v ∙ omega arith;
      is = sym (take-append-drop 32 v) ∙ ap (λ (l : List ℕ). take 32 v ++ l) six;
    }

pub form_length : (r : List ℕ) → record_form r ≡ true → length r ≡ 100
unfolding record_form
form_length r e = eqb-true _ _ (both_true _ _ (both_true _ _ (both_true _ _ e).0).0).0

-- what the form says beside the length: the count, the zero byte and the other addresses
pub form_told : (r : List ℕ) → record_form r ≡ true → (count_of r ≡ 1) × (get_or r 35 0 ≡ 0) × (all_zero (drop 52 r) ≡ true)
unfolding record_form
form_told r e =
    let a = both_true (eqb (length r) 100 && eqb (count_of r) 1 && eqb (get_or r 35 0) 0) (all_zero (drop 52 r)) e in
    let b = both_true (eqb (length r) 100 && eqb (count_of r) 1) (eqb (get_or r 35 0) 0) a.0 in
    (eqb-true (count_of r) 1 (both_true (eqb (length r) 100) (eqb (count_of r) 1) b.0).1, eqb-true (get_or r 35 0) 0 b.1, a.1)

record_view : (r : List ℕ) → record_form r ≡ true → RecordView r
record_view r e =
    let n = form_length r e in
    let w = form_told r e in
    let four : drop 32 r ≡ get_or r 32 0 ∷ get_or r 33 0 ∷ get_or r 34 0 ∷ get_or r 35 0 ∷ drop 36 r =
    rw (next 32 r (omega arith), next 33 r (omega arith), next 34 r (omega arith), next 35 r (omega arith)) in
    let m : length (drop 52 r) ≡ 48 = length-drop 52 r ∙ omega arith in
    let unused : drop 16 (drop 36 r) ≡ replicate 48 0 =
    drop-drop 16 36 r ∙ all_zeros (drop 52 r) w.2 ∙ ap (λ (k : ℕ). replicate k 0) m in
    let rest : drop 36 r ≡ take 16 (drop 36 r) ++ replicate 48 0 =
    sym (take-append-drop 16 (drop 36 r)) ∙ ap (λ (l : List ℕ). take 16 (drop 36 r) ++ l) unused in
    record {
      a = take 32 r;
      p = get_or r 32 0;
      q = get_or r 33 0;
      x = take 16 (drop 36 r);
      key = length_part 0 32 r (omega arith);
      long = length_part 36 16 r (omega arith);
      is = sym (take-append-drop 32 r) ∙ ap (λ (l : List ℕ). take 32 r ++ l) four
          ∙ ap (λ (k : ℕ). take 32 r ++ (get_or r 32 0 ∷ get_or r 33 0 ∷ k ∷ get_or r 35 0 ∷ drop 36 r)) w.0
          ∙ ap₂ (λ (k : ℕ) (l : List ℕ). take 32 r ++ (get_or r 32 0 ∷ get_or r 33 0 ∷ 1 ∷ k ∷ l)) w.1 rest;
    }

-- ---- the laws

-- the bytes of a record in form
formed : (a : List ℕ) (p q : ℕ) (x : List ℕ) → length a ≡ 32 → length x ≡ 16 → record_form (record_bytes a p q 1 0 (x ++ replicate 48 0)) ≡ true
unfolding record_form
formed a p q x e n =
    let z = replicate {A = ℕ} 48 0 in
    let y = p ∷ q ∷ 1 ∷ 0 ∷ (x ++ z) in
    let len : length (a ++ y) ≡ 100 = length-append a y ∙ omega (arith, length-append x z, length-replicate {A = ℕ} 48 0) in
    let unused : drop 52 (a ++ y) ≡ z =
    sym (drop-drop 16 36 (a ++ y))
    ∙ ap (drop 16) (sym (drop-drop 4 32 (a ++ y)) ∙ ap (drop 4) (drop_at a y 32 e))
    ∙ drop_at x z 16 n in
    rw (len, at_behind a y 2 e, at_behind a y 3 e, unused, zeros_all 48)

entry_formed : (a : List ℕ) (major minor p q f c : ℕ) (x : List ℕ) → length a ≡ 32 → 1 ≤ c → c ≤ 4 → length x ≡ 16 * c
    → entry_form (entry_bytes a major minor p q f c x) ≡ true
unfolding entry_form
entry_formed a major minor p q f c x e l m n =
    let y = major ∷ minor ∷ p ∷ q ∷ f ∷ c ∷ x in
    let len : length (a ++ y) ≡ 38 + 16 * c = length-append a y ∙ omega arith in
    rw (len, at_behind a y 5 e, le-leb 1 c l, le-leb c 4 m, eq-eqb (38 + 16 * c) (38 + 16 * c) refl)

-- a record has one address
pub one_address : (r : List ℕ) → record_form r ≡ true → count_of r ≡ 1
one_address r e = (form_told r e).0

-- of one to four addresses there is a first
first_long : (c : ℕ) (x : List ℕ) → 1 ≤ c → length x ≡ 16 * c → length (take 16 x) ≡ 16
first_long c x l n = length_part 0 16 x (omega arith)

-- the record of an entry in form is in form, and so 100 bytes long
pub record_form_lem : (v : List ℕ) → entry_form v ≡ true → record_form (record_of v) ≡ true
record_form_lem v e =
    let w = entry_view v e in
    rw (w.is, record_bytes_lem w.a w.major w.minor w.p w.q w.f w.c w.x w.key)
    (formed w.a w.p w.q (take 16 w.x) w.key (first_long w.c w.x w.least w.long))

-- the entry of a record in form is in form
pub entry_form_lem : (major minor : ℕ) (r : List ℕ) → record_form r ≡ true → entry_form (entry_of major minor r) ≡ true
entry_form_lem major minor r e =
    let w = record_view r e in
    rw (w.is, entry_bytes_lem w.a major minor w.p w.q 0 1 w.x w.key w.long 0 (replicate 48 0))
    (entry_formed w.a major minor w.p w.q 0 1 w.x w.key (omega arith) (omega arith) w.long)

-- a record goes out and comes back the same
pub record_of-entry : (major minor : ℕ) (r : List ℕ) → record_form r ≡ true → record_of (entry_of major minor r) ≡ r
record_of-entry major minor r e =
    let w = record_view r e in
    let all : take 16 w.x ≡ w.x = take_all 16 w.x (omega (arith, w.long)) in
    ap (λ (l : List ℕ). record_of (entry_of major minor l)) w.is
    ∙ ap record_of (entry_bytes_lem w.a major minor w.p w.q 0 1 w.x w.key w.long 0 (replicate 48 0))
    ∙ record_bytes_lem w.a major minor w.p w.q 0 1 w.x w.key
    ∙ ap (λ (l : List ℕ). record_bytes w.a w.p w.q 1 0 (l ++ replicate 48 0)) all ∙ sym w.is

flags_zero : (a : List ℕ) (major minor p q f c : ℕ) (x : List ℕ) → length a ≡ 32
    → splice 36 (0 ∷ []) (entry_bytes a major minor p q f c x) ≡ entry_bytes a major minor p q 0 c x
unfolding splice
flags_zero a major minor p q f c x e =
    let y = major ∷ minor ∷ p ∷ q ∷ f ∷ c ∷ x in
    let front : take 36 (a ++ y) ≡ a ++ (major ∷ minor ∷ p ∷ q ∷ []) =
    take-add 32 4 (a ++ y) ∙ ap₂ (λ (l m : List ℕ). l ++ take 4 m) (take_at a y 32 e) (drop_at a y 32 e) in
    let back : drop 37 (a ++ y) ≡ c ∷ x = sym (drop-drop 5 32 (a ++ y)) ∙ ap (drop 5) (drop_at a y 32 e) in
    rw (front, back) (simp append_assoc)

-- an entry of one address, taken in and sent out again with its own versions, is the entry with its flags zero
pub entry_of_record : (v : List ℕ) → entry_form v ≡ true → entry_count v ≡ 1 → entry_of (get_or v 32 0) (get_or v 33 0) (record_of v) ≡ splice 36 (0 ∷ []) v
entry_of_record v e one =
    let w = entry_view v e in
    let a = w.a in
    let y = w.major ∷ w.minor ∷ w.p ∷ w.q ∷ w.f ∷ w.c ∷ w.x in
    let major : get_or v 32 0 ≡ w.major = ap (λ (l : List ℕ). get_or l 32 0) w.is ∙ at_behind a y 0 w.key in
    let minor : get_or v 33 0 ≡ w.minor = ap (λ (l : List ℕ). get_or l 33 0) w.is ∙ at_behind a y 1 w.key in
    let c : w.c ≡ 1 = sym (ap (λ (l : List ℕ). get_or l 37 0) w.is ∙ at_behind a y 5 w.key) ∙ one in
    let long : length w.x ≡ 16 = omega (arith, w.long, c) in
    let all : take 16 w.x ≡ w.x = take_all 16 w.x (omega (arith, long)) in
    let r : record_of v ≡ record_bytes a w.p w.q 1 0 (w.x ++ replicate 48 0) =
    ap record_of w.is ∙ record_bytes_lem a w.major w.minor w.p w.q w.f w.c w.x w.key
    ∙ ap (λ (l : List ℕ). record_bytes a w.p w.q 1 0 (l ++ replicate 48 0)) all in
    rw (major, minor, r)
    (entry_bytes_lem a w.major w.minor w.p w.q 0 1 w.x w.key long 0 (replicate 48 0)
    ∙ sym (flags_zero a w.major w.minor w.p w.q w.f 1 w.x w.key)
    ∙ ap (λ (n : ℕ). splice 36 (0 ∷ []) (entry_bytes a w.major w.minor w.p w.q w.f n w.x)) (sym c)
    ∙ ap (splice 36 (0 ∷ [])) (sym w.is))

-- both have one key and one port
pub record_key : (v : List ℕ) → entry_form v ≡ true → key_of (record_of v) ≡ key_at 0 v
record_key v e =
    let w = entry_view v e in
    rw (
      w.is,
      record_bytes_lem w.a w.major w.minor w.p w.q w.f w.c w.x w.key,
      take_at w.a _ 32 w.key,
      take_at w.a _ 32 w.key,
    )

pub entry_key : (major minor : ℕ) (r : List ℕ) → record_form r ≡ true → key_at 0 (entry_of major minor r) ≡ key_of r
entry_key major minor r e = sym (record_key (entry_of major minor r) (entry_form_lem major minor r e)) ∙ ap key_of (record_of-entry major minor r e)

pub record_port : (v : List ℕ) → entry_form v ≡ true → port_of (record_of v) ≡ value_be 256 (part 34 2 v)
record_port v e =
    let w = entry_view v e in
    let a = w.a in
    rw (
      w.is,
      record_bytes_lem a w.major w.minor w.p w.q w.f w.c w.x w.key,
      behind a _ 0 2 w.key,
      behind a _ 2 2 w.key,
    )
