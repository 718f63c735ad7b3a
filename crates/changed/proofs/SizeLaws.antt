-- A list has at most an entry for each record of either cache, and 101 bytes for each entry where the second cache's records have 100. Assumes nothing.
use mathlib.Core.Path.{◌≡◌, refl, ap}
use mathlib.Core.List.{List, [], ◌∷◌}
use Prim.Native.Nat.{ℕ, suc, ◌+◌, ◌*◌, ◌≤◌}
use native.Mathlib.Omega.{arith}
use lib.ListN.{length, length-append, length-replicate}
use Rattle.octet.specs.Part as bytes
use Rattle.octet.proofs.BigLaws.{length-digits_be}
use Rattle.record.specs.Record.{key_of}
use Rattle.table.specs.Rows.{joined, Sized}
use Rattle.kept.proofs.PutLaws.{Tri, less, same, more, tri}
use Rattle.kept.proofs.ListLaws.{Test, pass, fail, test}
use Rattle.changed.specs.Changes.{Change, gone, new, other, changes}
use Rattle.changed.proofs.StepLaws.{first-gone, first-new, first_same, first-other}
use Rattle.changed.specs.Entries.{entry_bytes, list_bytes}

-- ---- by what stands first, of records in any order

module _
    (P : List (List ℕ) → List (List ℕ) → List Change → Type 0)
    (none : P [] [] [])
    (goes : (p : List ℕ) (a b : List (List ℕ)) (l : List Change) → P a b l → P (p ∷ a) b (gone (key_of p) ∷ l))
    (comes : (q : List ℕ) (a b : List (List ℕ)) (l : List Change) → P a b l → P a (q ∷ b) (new q ∷ l))
    (stays : (p q : List ℕ) (a b : List (List ℕ)) (l : List Change) → P a b l → P (p ∷ a) (q ∷ b) l)
    (turns : (p q : List ℕ) (a b : List (List ℕ)) (l : List Change) → P a b l → P (p ∷ a) (q ∷ b) (other q ∷ l))
  where
    module _ (p q : List ℕ) (a b : List (List ℕ)) where
      one_key_lem : key_of p ≡ key_of q → Test (bytes.same p q) → P a b (changes a b) → P (p ∷ a) (q ∷ b) (changes (p ∷ a) (q ∷ b))
      one_key_lem h (pass t) ih = rw (first_same p q a b h t) (stays p q a b _ ih)
      one_key_lem h (fail t) ih = rw (first-other p q a b h t) (turns p q a b _ ih)

      by_first : Tri (key_of p) (key_of q) → P a (q ∷ b) (changes a (q ∷ b)) → P (p ∷ a) b (changes (p ∷ a) b) → P a b (changes a b)
          → P (p ∷ a) (q ∷ b) (changes (p ∷ a) (q ∷ b))
      by_first (less h) ih jh kh = rw (first-gone p q a b h) (goes p a (q ∷ b) _ ih)
      by_first (more h) ih jh kh = rw (first-new p q a b h) (comes q (p ∷ a) b _ jh)
      by_first (same h) ih jh kh = one_key_lem h (test (bytes.same p q)) kh

    by_heads : (a b : List (List ℕ)) → P a b (changes a b)
    unfolding changes
    by_heads [] [] = none
    by_heads [] (q ∷ b) = comes q [] b _ (by_heads [] b)
    by_heads (p ∷ a) [] = goes p a [] _ (by_heads a [])
    by_heads (p ∷ a) (q ∷ b) = by_first p q a b (tri (key_of p) (key_of q)) (by_heads a (q ∷ b)) (by_heads (p ∷ a) b) (by_heads a b)

-- ---- how many entries

abbrev Few : List (List ℕ) → List (List ℕ) → List Change → Type 0
Few a b l = length l ≤ length a + length b

pub list_few : (a b : List (List ℕ)) → length (changes a b) ≤ length a + length b
list_few a b =
    by_heads Few (omega arith) (λ p a b l h. omega arith) (λ q a b l h. omega arith) (λ p q a b l h. omega arith) (λ p q a b l h. omega arith) a b

-- ---- how many bytes

abbrev Long : List (List ℕ) → List (List ℕ) → List Change → Type 0
Long a b l = Sized 100 b → length (list_bytes l) ≡ 101 * length l

more_bytes : (c : Change) (l : List Change) → length (entry_bytes c) ≡ 101 → length (list_bytes l) ≡ 101 * length l
    → length (list_bytes (c ∷ l)) ≡ 101 * length (c ∷ l)
unfolding joined
more_bytes c l e ih = simp length-append (omega (arith, e, ih))

gone_size : (k : ℕ) → length (entry_bytes (gone k)) ≡ 101
gone_size k = simp (length-append, length-digits_be, length-replicate) (omega arith)

no_bytes : Long [] [] []
unfolding joined
no_bytes z = refl

pub list_size : (a b : List (List ℕ)) → Sized 100 b → length (list_bytes (changes a b)) ≡ 101 * length (changes a b)
list_size a b =
    by_heads Long no_bytes
    (λ p a b l ih z. more_bytes (gone (key_of p)) l (gone_size (key_of p)) (ih z))
    (λ q a b l ih z. more_bytes (new q) l (ap suc z.0) (ih z.1))
    (λ p q a b l ih z. ih z.1)
    (λ p q a b l ih z. more_bytes (other q) l (ap suc z.0) (ih z.1))
    a b
