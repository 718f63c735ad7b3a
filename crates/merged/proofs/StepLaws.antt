-- One step through two caches: it stays within them and goes on, it lists what the list has next, and the rest of the list is that of the rests.
-- Assumes nothing.
use mathlib.Core.Path.{◌≡◌, refl, sym, ap, ap₂, ◌∙◌, subst}
use mathlib.Core.Logic.{◌⊎◌, inl, inr}
use mathlib.Core.Bool.{true, false}
use mathlib.Core.List.{List, [], ◌∷◌, ◌++◌}
use Prim.Native.Nat.{ℕ, suc, ◌+◌, ◌*◌, ◌≤◌, ◌<◌}
use native.Mathlib.Nat.{eq-or-lt_of_le}
use native.Mathlib.Omega.{arith}
use lib.ListN.{length, drop, length-append, length-replicate, replicate}
use Rattle.octet.specs.Number.{Bytes, value_be, digits_be}
use Rattle.octet.specs.Part.{part}
use Rattle.octet.specs.Part as bytes
use Rattle.octet.proofs.PartLaws.{length_part, part-digits}
use Rattle.octet.proofs.BigLaws.{digits_be-value_be}
use Rattle.key.specs.Number.{key_at, order_of}
use Rattle.std.specs.declared.cmp.Ordering.{Ordering}
use Rattle.key.proofs.OrderLaws.{order_less, order_same, order_more}
use Rattle.record.specs.Record.{key_of}
use Rattle.table.specs.Rows.{rows, joined}
use Rattle.table.proofs.RowLaws.{rows_next, rows_end}
use Rattle.table.proofs.PieceLaws.{part-start}
use Rattle.kept.proofs.PutLaws.{Tri, less, same, more, tri}
use Rattle.kept.proofs.ListLaws.{Test, pass, fail, test}
use Rattle.changed.specs.Changes.{Change, gone, new, other, changes}
use Rattle.changed.proofs.StepLaws.{first-gone, first-new, first_same, first-other}
use Rattle.merged.specs.declared.merge.Next.{Next}
use Rattle.changed.specs.Entries.{list_bytes}
use Rattle.merged.specs.Steps.{step, one_key, by_order, step_of, step_bytes}

module _ (s : List ℕ) (used : ℕ) (t : List ℕ) (held : ℕ) where
  -- the records from a place on
  abbrev olds : ℕ → List (List ℕ)
  olds i = drop i (rows 100 used s)

  abbrev news : ℕ → List (List ℕ)
  news j = drop j (rows 100 held t)

  -- what is listed from two places on
  abbrev pub Rest : ℕ → ℕ → List Change
  Rest i j = changes (olds i) (news j)

  pub record Stepped (i j : ℕ) (n : Next) : Type 0 where
    pub old-within : i + n.old ≤ used
    pub new-within : j + n.new ≤ held
    pub onward : 0 < n.old + n.new
    pub few : n.entries ≤ 1
    pub counted : length (Rest i j) ≡ n.entries + length (Rest (i + n.old) (j + n.new))
    pub known : n.kind ≤ 3
    pub old-read : n.kind ≡ 1 → i < used
    pub new-read : 2 ≤ n.kind → j < held
    pub one : 1 ≤ n.kind → n.entries ≡ 1
    pub size : length (step_bytes n.kind s i t j) ≡ 101 * n.entries
    pub written : list_bytes (Rest i j) ≡ step_bytes n.kind s i t j ++ list_bytes (Rest (i + n.old) (j + n.new))

  module _ (sb : Bytes s) (sr : 100 * used ≤ length s) (tr : 100 * held ≤ length t) (i j : ℕ) where
    abbrev p : List ℕ
    p = part (100 * i) 100 s

    abbrev q : List ℕ
    q = part (100 * j) 100 t

    -- ---- the four steps

    key_bytes_lem : i < used → digits_be 256 32 (key_of p) ≡ part (100 * i) 32 s
    key_bytes_lem h =
        let long : length (part (100 * i) 32 s) ≡ 32 = length_part (100 * i) 32 s (omega arith) in
        ap (λ (v : List ℕ). digits_be 256 32 (value_be 256 v)) (part-start (100 * i) 100 32 s (omega arith))
        ∙ ap (λ (w : ℕ). digits_be 256 w (value_be 256 (part (100 * i) 32 s))) (sym long)
        ∙ digits_be-value_be 256 (part (100 * i) 32 s) (part-digits 256 (100 * i) 32 s (omega arith) sb)

    goes : i < used → j ≤ held → Rest i j ≡ gone (key_of p) ∷ Rest (i + 1) j → Stepped i j (step 1 1 0 1)
    unfolding joined
    goes h k e =
        let z : j ≡ j + 0 = omega arith in
        let f : Rest i j ≡ gone (key_of p) ∷ Rest (i + 1) (j + 0) = e ∙ ap (λ (m : ℕ). gone (key_of p) ∷ Rest (i + 1) m) z in
        let long : length (part (100 * i) 32 s) ≡ 32 = length_part (100 * i) 32 s (omega arith) in
        record {
          old-within = omega arith;
          new-within = omega arith;
          onward = omega arith;
          few = omega arith;
          counted = let m : length (Rest i j) ≡ suc (length (Rest (i + 1) (j + 0))) = ap length f in omega arith;
          known = omega arith;
          old-read = λ d. h;
          new-read = λ d. absurd (omega arith);
          one = λ d. refl;
          size = simp (length-append, length-replicate) (omega (arith, long));
          written = ap list_bytes f
              ∙ ap (λ (v : List ℕ). (1 ∷ (v ++ replicate 68 0)) ++ list_bytes (Rest (i + 1) (j + 0))) (key_bytes_lem h);
        }

    comes : i ≤ used → j < held → Rest i j ≡ new q ∷ Rest i (j + 1) → Stepped i j (step 2 0 1 1)
    unfolding joined
    comes h k e =
        let z : i ≡ i + 0 = omega arith in
        let f : Rest i j ≡ new q ∷ Rest (i + 0) (j + 1) = e ∙ ap (λ (m : ℕ). new q ∷ Rest m (j + 1)) z in
        record {
          old-within = omega arith;
          new-within = omega arith;
          onward = omega arith;
          few = omega arith;
          counted = let m : length (Rest i j) ≡ suc (length (Rest (i + 0) (j + 1))) = ap length f in omega arith;
          known = omega arith;
          old-read = λ d. absurd (omega arith);
          new-read = λ d. k;
          one = λ d. refl;
          size = ap suc (length_part (100 * j) 100 t (omega arith));
          written = ap list_bytes f;
        }

    stays : i < used → j < held → Rest i j ≡ Rest (i + 1) (j + 1) → Stepped i j (step 0 1 1 0)
    stays h k e =
        record {
          old-within = omega arith;
          new-within = omega arith;
          onward = omega arith;
          few = omega arith;
          counted = let m : length (Rest i j) ≡ length (Rest (i + 1) (j + 1)) = ap length e in omega arith;
          known = omega arith;
          old-read = λ d. absurd (omega arith);
          new-read = λ d. absurd (omega arith);
          one = λ d. absurd (omega arith);
          size = refl;
          written = ap list_bytes e;
        }

    turns : i < used → j < held → Rest i j ≡ other q ∷ Rest (i + 1) (j + 1) → Stepped i j (step 3 1 1 1)
    unfolding joined
    turns h k e =
        record {
          old-within = omega arith;
          new-within = omega arith;
          onward = omega arith;
          few = omega arith;
          counted = let m : length (Rest i j) ≡ suc (length (Rest (i + 1) (j + 1))) = ap length e in omega arith;
          known = omega arith;
          old-read = λ d. absurd (omega arith);
          new-read = λ d. k;
          one = λ d. refl;
          size = ap suc (length_part (100 * j) 100 t (omega arith));
          written = ap list_bytes e;
        }

    -- ---- which it is

    abbrev Right : Type 0
    Right = Stepped i j (step_of (olds i) (news j))

    new-only : i ≡ used → j < held → Right
    unfolding changes
    new-only h k =
        let no_old : olds i ≡ [] = rows_end 100 used s i (omega arith) in
        let next : news j ≡ q ∷ news (j + 1) = rows_next 100 held t j k in
        let e : Rest i j ≡ new q ∷ Rest i (j + 1) =
        ap₂ changes no_old next ∙ ap (λ (a : List (List ℕ)). new q ∷ changes a (news (j + 1))) (sym no_old) in
        subst (Stepped i j) (ap₂ step_of (sym no_old) (sym next)) (comes (omega arith) k e)

    gone-only : i < used → j ≡ held → Right
    unfolding changes
    gone-only h k =
        let next : olds i ≡ p ∷ olds (i + 1) = rows_next 100 used s i h in
        let no-new : news j ≡ [] = rows_end 100 held t j (omega arith) in
        let e : Rest i j ≡ gone (key_of p) ∷ Rest (i + 1) j =
        ap₂ changes next no-new ∙ ap (λ (b : List (List ℕ)). gone (key_of p) ∷ changes (olds (i + 1)) b) (sym no-new) in
        subst (Stepped i j) (ap₂ step_of (sym next) (sym no-new)) (goes h (omega arith) e)

    module _ (h : i < used) (k : j < held) where
      next-old : olds i ≡ p ∷ olds (i + 1)
      next-old = rows_next 100 used s i h

      next-new : news j ≡ q ∷ news (j + 1)
      next-new = rows_next 100 held t j k

      -- the two heads in hand
      both : (n : Next) → step_of (p ∷ olds (i + 1)) (q ∷ news (j + 1)) ≡ n → Stepped i j n → Right
      both n e r = subst (Stepped i j) (sym (ap₂ step_of next-old next-new ∙ e)) r

      one_key_lem : key_of p ≡ key_of q → Test (bytes.same p q) → Right
      one_key_lem e (pass d) =
          both (step 0 1 1 0) (rw (order_same e, d) refl)
          (stays h k (ap₂ changes next-old next-new ∙ first_same p q (olds (i + 1)) (news (j + 1)) e d))
      one_key_lem e (fail d) =
          both (step 3 1 1 1) (rw (order_same e, d) refl)
          (turns h k (ap₂ changes next-old next-new ∙ first-other p q (olds (i + 1)) (news (j + 1)) e d))

      by-keys : Tri (key_of p) (key_of q) → Right
      by-keys (less d) =
          both (step 1 1 0 1) (rw (order_less d) refl)
          (goes h (omega arith) (ap₂ changes next-old next-new ∙ first-gone p q (olds (i + 1)) (news (j + 1)) d
          ∙ ap (λ (b : List (List ℕ)). gone (key_of p) ∷ changes (olds (i + 1)) b) (sym next-new)))
      by-keys (more d) =
          both (step 2 0 1 1) (rw (order_more d) refl)
          (comes (omega arith) k (ap₂ changes next-old next-new ∙ first-new p q (olds (i + 1)) (news (j + 1)) d
          ∙ ap (λ (a : List (List ℕ)). new q ∷ changes a (news (j + 1))) (sym next-old)))
      by-keys (same d) = one_key_lem d (test (bytes.same p q))

    by-ends : (i ≡ used) ⊎ (i < used) → (j ≡ held) ⊎ (j < held) → i + j < used + held → Right
    by-ends (inl h) (inl k) g = absurd (omega arith)
    by-ends (inl h) (inr k) g = new-only h k
    by-ends (inr h) (inl k) g = gone-only h k
    by-ends (inr h) (inr k) g = by-keys h k (tri (key_of p) (key_of q))

    pub stepped : (n : Next) → n ≡ step_of (olds i) (news j) → i ≤ used → j ≤ held → i + j < used + held → Stepped i j n
    stepped n e h k g = subst (Stepped i j) (sym e) (by-ends (eq-or-lt_of_le h) (eq-or-lt_of_le k) g)

  -- at the start all of it is left, at the end nothing
  pub rest_all : Rest 0 0 ≡ changes (rows 100 used s) (rows 100 held t)
  rest_all = refl

  pub rest-none : (i j : ℕ) → used ≤ i → held ≤ j → Rest i j ≡ []
  unfolding changes
  rest-none i j h k = ap₂ changes (rows_end 100 used s i h) (rows_end 100 held t j k)

-- ---- which step it is, as the code finds it

pub one_same : (p q : List ℕ) → bytes.same p q ≡ true → step 0 1 1 0 ≡ one_key p q
one_same p q e = rw e refl

pub one_other : (p q : List ℕ) → bytes.same p q ≡ false → step 3 1 1 1 ≡ one_key p q
one_other p q e = rw e refl

-- an end is reached, or both have a record there
pub step_new : (s : List ℕ) (used i : ℕ) (b : List (List ℕ)) → used ≤ i → step 2 0 1 1 ≡ step_of (drop i (rows 100 used s)) b
step_new s used i b h = sym (ap (λ (a : List (List ℕ)). step_of a b) (rows_end 100 used s i h))

pub step_gone : (s : List ℕ) (used i : ℕ) (t : List ℕ) (held j : ℕ) → i < used → held ≤ j
    → step 1 1 0 1 ≡ step_of (drop i (rows 100 used s)) (drop j (rows 100 held t))
step_gone s used i t held j h k = sym (ap₂ step_of (rows_next 100 used s i h) (rows_end 100 held t j k))

pub step_by : (s : List ℕ) (used i : ℕ) (t : List ℕ) (held j : ℕ) → i < used → j < held → (o : Ordering) → order_of (key_at (100 * i) s) (key_at (100 * j) t) ≡ o
    → by_order o (part (100 * i) 100 s) (part (100 * j) 100 t) ≡ step_of (drop i (rows 100 used s)) (drop j (rows 100 held t))
step_by s used i t held j h k o e =
    let p = part (100 * i) 100 s in
    let q = part (100 * j) 100 t in
    let keys : order_of (key_of p) (key_of q) ≡ o =
    ap₂ (λ (x : List ℕ) (y : List ℕ). order_of (value_be 256 x) (value_be 256 y)) (part-start (100 * i) 100 32 s (omega arith))
    (part-start (100 * j) 100 32 t (omega arith)) ∙ e in
    ap (λ (x : Ordering). by_order x p q) (sym keys) ∙ sym (ap₂ step_of (rows_next 100 used s i h) (rows_next 100 held t j k))
