-- What each test of the call says of its table of refusals; where all pass, what is left is the list and its room. Assumes nothing.
use mathlib.Core.Path.{◌≡◌, sym, ap, ap₂, ◌∙◌}
use mathlib.Core.Bool.{Bool, true, false, not, cond}
use mathlib.Core.List.{List, [], ◌∷◌}
use Prim.Native.Nat.{ℕ, ◌*◌, ◌≤◌, ◌<◌}
use native.Mathlib.Omega.{arith}
use lib.Dec.{eqb, ltb}
use lib.ListN.{length}
use borrow.Author.Tests.{eq-eqb, ne_eqb, lt-ltb, le-ltb}
use Rattle.octet.specs.Part.{splice}
use Rattle.refusal.specs.Table.{Refusal, when, or_refuse}
use Rattle.refusal.proofs.CallLaws.{row_applies, row_passes, no_row}
use Rattle.own.specs.Own.{own_form, own_keys}
use Rattle.table.specs.Rows.{rows}
use Rattle.cache.specs.Form.{cache_form, Form}
use Rattle.cache.specs.Place.{cache_formed}
use Rattle.std.specs.Prelude.{Option, Some, None}
use Rattle.cache.proofs.FormLaws.{form_laid}
use Rattle.cache.proofs.ShapeLaws.{good-is, good-held, good_form, bad-is}
use Rattle.cache.proofs.LentLaws.{not_is, not_isn't, memory-form, memory-held, memory-passes, memory-refuses}
use Rattle.changed.specs.Changes.{Change, changes}
use Rattle.changed.specs.Entries.{list_bytes}
use Rattle.gauge_commit.specs.Sending.{answer}
use Rattle.changes.specs.Listed.{Listed, listed, changes_of, refused_with, list_done, room_wrong, list_or_room, list_call}

-- ---- the room

module _ (l : List Change) (out : List ℕ) (n : ℕ) (e : n ≡ length l) where
  pub no_room : length out < 101 * n → refused_with out 15 ≡ list_or_room l out
  unfolding list_or_room
  no_room h = sym (row_applies (refused_with out) 15 (ltb (length out) (101 * length l)) [] (list_done l out) (lt-ltb (length out) (101 * length l) (omega arith)))

  pub some-room : 101 * n ≤ length out → listed (answer 0 n (101 * n)) (splice 0 (list_bytes l) out) ≡ list_or_room l out
  unfolding list_or_room
  some-room h =
      ap (λ (k : ℕ). listed (answer 0 k (101 * k)) (splice 0 (list_bytes l) out)) e
      ∙ sym (row_passes (refused_with out) 15 (ltb (length out) (101 * length l)) [] (list_done l out) (le-ltb (length out) (101 * length l) (omega arith))
      ∙ no_row (refused_with out) (list_done l out))

-- ---- what was lent

module _ (own a b out : List ℕ) where
  abbrev done : Listed
  done = list_done (changes_of own a b) out

  module _ {m : Option ℕ} (is : m ≡ cond (own_form own) (cache_formed (own_keys own) a) None) where
    pub first-wrong : m ≡ None → refused_with out 1 ≡ list_call own a b out
    unfolding list_call
    first-wrong bad = sym (memory-refuses own a is bad (refused_with out) _ done)

    module _ {used : ℕ} (right : m ≡ Some used) {n : Option ℕ} (also : n ≡ cache_formed (own_keys own) b) where
      pub second-wrong : n ≡ None → refused_with out 1 ≡ list_call own a b out
      unfolding list_call
      second-wrong bad =
          sym (memory-passes own a is right (refused_with out) _ done
          ∙ row_applies (refused_with out) 1 (not (cache_form (own_keys own) b)) _ done (not_isn't (bad-is (own_keys own) b (sym also ∙ bad))))

      module _ {held : ℕ} (well : n ≡ Some held) where
        formed : cache_formed (own_keys own) b ≡ Some held
        formed = sym also ∙ well

        abbrev later : List Refusal
        later = room_wrong (changes_of own a b) out

        passes : (more : List Refusal) → or_refuse (refused_with out) (when 1 (not (cache_form (own_keys own) b)) ∷ more) done
            ≡ or_refuse (refused_with out) more done
        passes more = row_passes (refused_with out) 1 (not (cache_form (own_keys own) b)) more done (not_is (good-is (own_keys own) b formed).0)

        pub lengths-wrong : ¬ (length a ≡ length b) → refused_with out 1 ≡ list_call own a b out
        unfolding list_call
        lengths-wrong differ =
            sym (memory-passes own a is right (refused_with out) _ done ∙ passes _
            ∙ row_applies (refused_with out) 1 (not (eqb (length a) (length b))) later done (not_isn't (ne_eqb (length a) (length b) differ)))

        pub all_right : length a ≡ length b → list_or_room (changes (rows 100 used a) (rows 100 held b)) out ≡ list_call own a b out
        unfolding list_call list_or_room
        all_right e =
            sym (memory-passes own a is right (refused_with out) _ done ∙ passes _
            ∙ row_passes (refused_with out) 1 (not (eqb (length a) (length b))) later done (not_is (eq-eqb (length a) (length b) e))
            ∙ ap (λ (l : List Change). list_or_room l out) (ap₂ changes (memory-held own a is right) (good-held (own_keys own) b formed)))

        pub within : (100 * used ≤ length a) × (100 * held ≤ length b) × (used ≤ 256) × (held ≤ 256)
        within =
            let f = memory-form own a is right in
            let g = good_form (own_keys own) b formed in
            let h = (form_laid (own_keys own) used a f).room in
            let k = (form_laid (own_keys own) held b g).room in
            (h, k, omega (arith, f.places.most), omega (arith, g.places.most))
