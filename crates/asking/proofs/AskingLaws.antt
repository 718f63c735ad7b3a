-- Laws of a record that must be inquired about: how many bytes; the key of the record that an entry names; whether the record must be inquired about; of an entry
-- that may be none.
-- Elsewhere: the very same record among those held, in SameLaws. Assumes nothing.
use Rattle.std.proofs.Common.{◌≡◌, ℕ, ◌+◌, ◌≤◌, Bool, true, false, not, ◌&&◌, eqb, List, length, sym, refl, ap, ◌∙◌, arith, eq-eqb, ne_eqb}
use borrow.Author.Tests.{eqb-false}
use Rattle.octet.specs.Number.{value_be}
use Rattle.octet.specs.Part.{part, same}
use Rattle.key.specs.Number.{key_at}
use Rattle.record.specs.Record.{key_of}
use Rattle.record.specs.Entry.{entry_form, record_of}
use Rattle.record.proofs.EntryLaws.{record_key}
use Rattle.record.proofs.PlaceLaws.{entry_at}
use Rattle.own.specs.Own.{Own, is_own, IsOwn}
use Rattle.own.proofs.PlaceLaws.{not_own}
use Rattle.table.specs.Rows.{any_of}
use Rattle.table.proofs.PieceLaws.{part-start}
use Rattle.waiting.specs.Form.{is_inquiry}
use Rattle.table.specs.Seek.{seek}
use Rattle.std.specs.Prelude.{Option, is_some}
use Rattle.table.proofs.SeekLaws.{any_found}
use Rattle.asking.specs.Asking.{must_ask, asks_for, inquire_room}

-- ---- how many bytes

pub inquire_most : (opens : Bool) → inquire_room opens ≤ 76
inquire_most true = omega arith
inquire_most false = omega arith

-- ---- the key of the record that an entry names is the key that the entry begins with

module _ (start len : ℕ) (d : List ℕ) (room : start + len ≤ length d) (form : entry_form (part start len d) ≡ true) where
  pub entry-room : start + 32 ≤ length d
  entry-room = let l = (entry_at start len d room form).long in omega arith

  pub key_in_lem : key_of (record_of (part start len d)) ≡ key_at start d
  key_in_lem =
      let l = (entry_at start len d room form).long in
      record_key (part start len d) form ∙ ap (value_be 256) (part-start start len 32 d (omega arith))

-- ---- whether the record must be inquired about

module _ (recs ps : List (List ℕ)) (r : List ℕ) where
  pub ask-held : any_of (λ (q : List ℕ). same q r) recs ≡ true → must_ask recs ps r ≡ false
  unfolding must_ask
  ask-held e = rw e refl

  pub ask-found : any_of (λ (q : List ℕ). same q r) recs ≡ false → {k : ℕ} → key_of r ≡ k → {f : Option ℕ} → f ≡ seek (is_inquiry k) 0 ps
      → must_ask recs ps r ≡ not (is_some f)
  unfolding must_ask
  ask-found e {k} is {f} found =
      rw e (ap not (ap (λ (j : ℕ). any_of (is_inquiry j) ps) is ∙ any_found (is_inquiry k) 0 ps ∙ ap is_some (sym found)))

-- what is not some is none
pub not_so : {a b : Bool} → a ≡ not b → not a ≡ b
not_so {a} {b} e = go a b e
  where
    go : (a b : Bool) → a ≡ not b → not a ≡ b
    go true true e = let z : ◌≡◌ {A = ℕ} 0 1 = cc in absurd (omega arith)
    go true false e = refl
    go false true e = refl
    go false false e = let z : ◌≡◌ {A = ℕ} 0 1 = cc in absurd (omega arith)

both_not : (a b : Bool) → not a && not b ≡ true → (a ≡ false) × (b ≡ false)
both_not false false e = (refl, refl)
both_not false true e = let z : ◌≡◌ {A = ℕ} 0 1 = cc in absurd (omega arith)
both_not true b e = let z : ◌≡◌ {A = ℕ} 0 1 = cc in absurd (omega arith)

-- a record that must be inquired about is not held, and no inquiry for its key is waiting
pub ask_tells : (recs ps : List (List ℕ)) (r : List ℕ) → must_ask recs ps r ≡ true
    → (any_of (λ (q : List ℕ). same q r) recs ≡ false) × (any_of (is_inquiry (key_of r)) ps ≡ false)
unfolding must_ask
ask_tells recs ps r e = both_not (any_of (λ (q : List ℕ). same q r) recs) (any_of (is_inquiry (key_of r)) ps) e

-- ---- of an entry that may be none

three : (a b c : Bool) → not a && not b && c ≡ true → (a ≡ false) × (b ≡ false) × (c ≡ true)
three false false true e = (refl, refl, refl)
three false false false e = let z : ◌≡◌ {A = ℕ} 0 1 = cc in absurd (omega arith)
three false true c e = let z : ◌≡◌ {A = ℕ} 0 1 = cc in absurd (omega arith)
three true b c e = let z : ◌≡◌ {A = ℕ} 0 1 = cc in absurd (omega arith)

module _ (own : Own) (recs ps : List (List ℕ)) (v : List ℕ) where
  pub asks_none : length v ≡ 0 → asks_for own recs ps v ≡ false
  unfolding asks_for
  asks_none e = rw (eq-eqb (length v) 0 e) refl

  module _ (some : ¬ (length v ≡ 0)) where
    pub asks-own : is_own own (key_of (record_of v)) ≡ true → asks_for own recs ps v ≡ false
    unfolding asks_for
    asks-own e = rw (ne_eqb (length v) 0 some, e) refl

    pub asks-other : is_own own (key_of (record_of v)) ≡ false → asks_for own recs ps v ≡ must_ask recs ps (record_of v)
    unfolding asks_for
    asks-other e = rw (ne_eqb (length v) 0 some, e) refl

  -- an entry that is asked for is there, has another key than ours, and must be inquired about
  pub asks-tells : asks_for own recs ps v ≡ true → ¬ (length v ≡ 0) × ¬ IsOwn own (key_of (record_of v)) × (must_ask recs ps (record_of v) ≡ true)
  unfolding asks_for
  asks-tells e =
      let t = three (eqb (length v) 0) (is_own own (key_of (record_of v))) (must_ask recs ps (record_of v)) e in
      (eqb-false (length v) 0 t.0, not_own own (key_of (record_of v)) t.1, t.2)
