-- The theorems of specs/Statements.antt, under the same names. Assumes nothing.
use mathlib.Core.Path.{◌≡◌, refl, sym, ap, ◌∙◌, subst}
use mathlib.Core.Logic.{◌↔◌}
use mathlib.Core.Bool.{true, false, not}
use mathlib.Core.List.{List, [], ◌∷◌}
use Prim.Native.Nat.{ℕ, ◌+◌, ◌*◌, ◌≤◌, ◌<◌}
use native.Mathlib.Omega.{arith}
use lib.Dec.{eqb, ltb}
use lib.ListN.{length, drop}
use borrow.Author.Tests.{not-false, eqb-true, ltb-false}
use Rattle.octet.proofs.PartLaws.{length-splice}
use Rattle.refusal.specs.Table.{Refusal, first_of, or_refuse, InOrder, by_number}
use Rattle.refusal.proofs.TableLaws.{AllFail, all_fail}
use Rattle.refusal.proofs.CallLaws.{all_pass, or_known, or_refuses, number_is, call-exactly}
use Rattle.own.specs.Own.{own_keys}
use Rattle.table.specs.Rows.{bytes_of}
use Rattle.table.proofs.PieceLaws.{drop-behind}
use Rattle.cache.specs.Form.{Form, cache_form, held_of}
use Rattle.cache.specs.Calls.{held_by}
use Rattle.cache.proofs.FormLaws.{formed_sized, true_form}
use Rattle.changed.specs.Changes.{Change, changes, apply}
use Rattle.changed.specs.Entries.{list_bytes}
use Rattle.changed.specs.Statements.{Lists}
use Rattle.changed.proofs.SizeLaws.{list_size}
use Rattle.changed.proofs.Theorems.{changes_lists, applies_back, empty-same}
use Rattle.gauge_commit.specs.Sending.{answer, OnlyFirst}
use Rattle.changes.specs.Listed.{Listed, listed, changes_of, refused_with, list_done, list_wrong, list_call}
use Rattle.changes.specs.Statements.{Tells, ListTells, ListExactly, ListKeeps, ListFirst}

module _ (own a b out : List ℕ) where
  abbrev done : Listed
  done = list_done (changes_of own a b) out

  abbrev wrong : List Refusal
  wrong = list_wrong own a b out

  in_order : InOrder by_number 0 wrong
  in_order = (omega arith, omega arith, (omega arith, omega arith, (omega arith, omega arith, (omega arith, omega arith, (omega arith, omega arith, tt)))))

  -- ---- accepted

  passed : (list_call own a b out).given.number ≡ 0 → AllFail wrong
  unfolding list_call
  passed e = all_fail by_number wrong 0 in_order (sym (number_is (λ (h : Listed). h.given.number) (refused_with out) (λ n. refl) done refl wrong) ∙ e)

  module _ (f : AllFail wrong) where
    first-form : Form (own_keys own) a (held_by own a)
    first-form = true_form (own_keys own) a (not-false _ f.1.0)

    second-form : Form (own_keys own) b (held_by own b)
    second-form = true_form (own_keys own) b (not-false _ f.1.1.0)

    lengths : length a ≡ length b
    lengths = eqb-true (length a) (length b) (not-false _ f.1.1.1.0)

    gives_back : bytes_of (length a) (apply (changes_of own a b) (held_by own a)) ≡ b
    gives_back =
        ap (bytes_of (length a)) (applies_back (held_by own a) (held_by own b) first-form.held.rising second-form.held.rising)
        ∙ ap (λ (n : ℕ). bytes_of n (held_by own b)) lengths ∙ sym second-form.bytes

    no-entry : (l : List Change) → length l ≡ 0 → l ≡ []
    no-entry [] e = refl
    no-entry (c ∷ l) e = absurd (omega arith)

    nothing : (length (changes_of own a b) ≡ 0) ↔ (a ≡ b)
    nothing = (forth, back)
      where
        forth : length (changes_of own a b) ≡ 0 → a ≡ b
        forth e =
            let held = (empty-same (held_by own a) (held_by own b) first-form.held.rising second-form.held.rising).0 (no-entry _ e) in
            first-form.bytes ∙ ap (bytes_of (length a)) held ∙ ap (λ (n : ℕ). bytes_of n (held_by own b)) lengths ∙ sym second-form.bytes

        back : a ≡ b → length (changes_of own a b) ≡ 0
        back e = ap length ((empty-same (held_by own a) (held_by own b) first-form.held.rising second-form.held.rising).1 (ap (held_by own) e))

    told : Tells own a b out
    unfolding list_call
    told =
        record {
          handed = all_pass (refused_with out) wrong done f;
          lists = changes_lists (held_by own a) (held_by own b) first-form.held.rising second-form.held.rising;
          back = gives_back;
          empty = nothing;
        }

  -- ---- whatever is answered

  abbrev First : Listed → Type 0
  First h = OnlyFirst h.given.second out h.output

  first_done : AllFail wrong → First done
  first_done f =
      let l = changes_of own a b in
      let room : 101 * length l ≤ length out = ltb-false (length out) (101 * length l) f.1.1.1.1.0 in
      let size : length (list_bytes l) ≡ 101 * length l = list_size (held_by own a) (held_by own b) (formed_sized (held_by own b) (second-form f).held.formed) in
      (room, length-splice 0 (list_bytes l) out (omega arith), drop-behind 0 (list_bytes l) out (101 * length l) (omega arith) (omega arith))

pub list_tells : ListTells
list_tells own a b out e = told own a b out (passed own a b out e)

pub list_exactly : ListExactly
unfolding list_call
list_exactly own a b out n p =
    call-exactly (λ (h : Listed). h.given.number) (refused_with out) (λ m. refl) (done own a b out) refl (wrong own a b out) 0 (in_order own a b out) n p

pub list_keeps : ListKeeps
unfolding list_call
list_keeps own a b out p =
    let n = number_is (λ (h : Listed). h.given.number) (refused_with out) (λ m. refl) (done own a b out) refl (wrong own a b out) in
    or_refuses (refused_with out) (wrong own a b out) (done own a b out) (omega (arith, n, p)) ∙ ap (refused_with out) (sym n)

pub list_first : ListFirst
unfolding list_call
list_first own a b out =
    or_known (First own a b out) (refused_with out) (wrong own a b out) (done own a b out) (λ n. (omega arith, refl, refl)) (first_done own a b out)
