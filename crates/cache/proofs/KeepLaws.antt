-- What learning and removing keep: the records held after are in form, and their keys are what kept says of keys.
-- In this order: each record; laid out anew; learning; removing. Assumes nothing.
use mathlib.Core.Path.{◌≡◌, sym, ap, subst}
use mathlib.Core.Logic.{inl, inr}
use mathlib.Core.Bool.{true}
use mathlib.Core.List.{List, [], ◌∷◌}
use Prim.Native.Nat.{ℕ, ◌*◌, ◌≤◌, ◌<◌}
use native.Mathlib.Omega.{arith}
use lib.Dec.{ltb, eqb}
use lib.ListN.{length, length-map}
use Rattle.key.specs.Around.{side_of, nearness}
use Rattle.record.specs.Record.{key_of, record_form}
use Rattle.table.specs.Rows.{bytes_of}
use Rattle.table.proofs.RowLaws.{bytes-length}
use Rattle.own.specs.Own.{Own}
use Rattle.kept.specs.Keys.{◌∈◌, Every, Rising, plain, without}
use Rattle.kept.specs.History.{learned, learn_with, happen, after, Learns}
use Rattle.kept.specs.Rules.{DropRule}
use Rattle.kept.specs.Records.{put_by, without_by, learn_by}
use Rattle.kept.specs.Plain as Plain
use Rattle.kept.specs.Plain.{NotOwn, first_of, drops}
use Rattle.kept.proofs.ListLaws.{Test, pass, fail, test, in_get_d}
use Rattle.kept.proofs.WithoutLaws.{every_without, rising_without, length_without}
use Rattle.kept.proofs.HistoryLaws.{Fine, after-fine, after-length}
use Rattle.kept.proofs.PondRuleLaws.{plain_rule}
use Rattle.kept.proofs.Demand3Laws.{plain-order}
use Rattle.kept.proofs.RecordLaws.{keys-learn, keys-without}
use Rattle.cache.specs.Form.{keys_of, places_in, Places, HeldRecords, Form}
use Rattle.cache.specs.Bytes.{after_learn, after_remove}
use Rattle.cache.proofs.FormLaws.{formed_sized, form-room}

-- ---- each record

module _ (P : List ℕ → Type 0) where
  every-put : (r : List ℕ) (recs : List (List ℕ)) → P r → Every P recs → Every P (put_by key_of r recs)
  unfolding put_by
  every-put r [] p a = (p, tt)
  every-put r (x ∷ xs) p a = go (test (ltb (key_of r) (key_of x))) (test (ltb (key_of x) (key_of r))) (every-put r xs p a.1)
    where
      go : Test (ltb (key_of r) (key_of x)) → Test (ltb (key_of x) (key_of r)) → Every P (put_by key_of r xs) → Every P (put_by key_of r (x ∷ xs))
      go (pass e) t ih = rw e (p, a)
      go (fail e) (pass t) ih = rw (e, t) (a.0, ih)
      go (fail e) (fail t) ih = rw (e, t) (p, a.1)

  every-out : (k : ℕ) (recs : List (List ℕ)) → Every P recs → Every P (without_by key_of k recs)
  unfolding without_by
  every-out k [] a = tt
  every-out k (x ∷ xs) a = go (test (eqb k (key_of x))) (every-out k xs a.1)
    where
      go : Test (eqb k (key_of x)) → Every P (without_by key_of k xs) → Every P (without_by key_of k (x ∷ xs))
      go (pass e) ih = rw e ih
      go (fail e) ih = rw e (a.0, ih)

  every-learn : (rule : List ℕ → ℕ) (C : ℕ) (recs : List (List ℕ)) (r : List ℕ) → P r → Every P recs → Every P (learn_by key_of rule C recs r)
  unfolding learn_by
  every-learn rule C recs r p a = go (test (ltb C (length (put_by key_of r recs))))
    where
      go : Test (ltb C (length (put_by key_of r recs))) → Every P (learn_by key_of rule C recs r)
      go (pass e) = rw e (every-out (rule (keys_of (put_by key_of r recs))) (put_by key_of r recs) (every-put r recs p a))
      go (fail e) = rw e (every-put r recs p a)

-- ---- laid out anew

pub form_anew : (own : Own) (size : ℕ) (recs : List (List ℕ)) → Places own size → HeldRecords own recs → 100 * length recs ≤ size → Form own (bytes_of size recs) recs
form_anew own size recs pl h fits =
    let n : length (bytes_of size recs) ≡ size = bytes-length 100 size recs (formed_sized recs h.formed) fits in
    record { places = rw n pl; bytes = ap (λ (m : ℕ). bytes_of m recs) (sym n); held = h }

-- ---- learning

-- on keys, by kept's laws of a history of one event
module _ (own : Own) (some : 0 < length own) (C : ℕ) (c : 10 * length own ≤ C) (keys : List ℕ) (rises : Rising plain 0 keys)
    (others : Every (NotOwn own) keys) (k : ℕ) (other : NotOwn own k) where
  -- by any of our keys
  first : ℕ
  first = first_of own

  rule : DropRule (NotOwn own) (side_of first) (nearness first) (drops own) C
  unfolding first
  rule = plain_rule own C c (first_of own) (in_get_d own 0 some)

  fine : Fine (NotOwn own) keys
  fine = record { rises = rises; oks = others }

  sound : (j : ℕ) → Learns j (learned k ∷ []) → NotOwn own j
  sound j (inl e) d = other (subst (λ (i : ℕ). i ∈ own) e d)
  sound j (inr m) d = absurd m

  learn-fine : Fine (NotOwn own) (learn_with (drops own) C keys k)
  unfolding after happen
  learn-fine = after-fine (NotOwn own) (side_of first) (nearness first) (plain-order (NotOwn own) first) (drops own) C rule (learned k ∷ []) keys fine sound

  learn-fits : length keys ≤ C → length (learn_with (drops own) C keys k) ≤ C
  unfolding after happen
  learn-fits h = after-length (NotOwn own) (side_of first) (nearness first) (plain-order (NotOwn own) first) (drops own) C rule (learned k ∷ []) keys fine h sound

-- what learning does to records is what kept says of keys
pub learnt_keys : (own : Own) (size : ℕ) (recs : List (List ℕ)) (r : List ℕ)
    → keys_of (after_learn own size recs r) ≡ Plain.learn own (places_in size) (keys_of recs) (key_of r)
learnt_keys own size recs r = keys-learn key_of (drops own) (places_in size) recs r

module _ (own : Own) (some : 0 < length own) (size : ℕ) (pl : Places own size) (recs : List (List ℕ)) (h : HeldRecords own recs) (fits : 100 * length recs ≤ size)
    (r : List ℕ) (formed : record_form r ≡ true) (other : NotOwn own (key_of r)) where
  pub learnt-held : HeldRecords own (after_learn own size recs r)
  learnt-held =
      let f = learn-fine own some (places_in size) (omega (arith, pl.enough)) (keys_of recs) h.rising h.others (key_of r) other in
      record {
        formed = every-learn (λ (q : List ℕ). record_form q ≡ true) (drops own) (places_in size) recs r formed h.formed;
        rising = rw (learnt_keys own size recs r) f.rises;
        others = rw (learnt_keys own size recs r) f.oks;
      }

  pub learnt-fits : 100 * length (after_learn own size recs r) ≤ size
  learnt-fits =
      let n = learn-fits own some (places_in size) (omega (arith, pl.enough)) (keys_of recs) h.rising h.others (key_of r) other
      (omega (arith, length-map recs key_of, pl.whole)) in
      let m : length (keys_of (after_learn own size recs r)) ≤ places_in size = rw (learnt_keys own size recs r) n in
      omega (arith, m, length-map (after_learn own size recs r) key_of, pl.whole)

-- a cache in form that has learned a record of another is in form, and holds what kept says
pub learnt_form : (own : Own) (s : List ℕ) (recs : List (List ℕ)) (r : List ℕ) → 0 < length own → Form own s recs → record_form r ≡ true
    → NotOwn own (key_of r) → Form own (bytes_of (length s) (after_learn own (length s) recs r)) (after_learn own (length s) recs r)
learnt_form own s recs r some f formed other =
    form_anew own (length s) (after_learn own (length s) recs r) f.places
    (learnt-held own some (length s) f.places recs f.held (form-room own s recs f) r formed other)
    (learnt-fits own some (length s) f.places recs f.held (form-room own s recs f) r formed other)

-- ---- removing

pub removed_keys : (k : ℕ) (recs : List (List ℕ)) → keys_of (after_remove k recs) ≡ without k (keys_of recs)
removed_keys k recs = keys-without key_of k recs

pub removed-held : (own : Own) (k : ℕ) (recs : List (List ℕ)) → HeldRecords own recs → HeldRecords own (after_remove k recs)
removed-held own k recs h = record {
  formed = every-out (λ (q : List ℕ). record_form q ≡ true) k recs h.formed;
  rising = rw (removed_keys k recs) (rising_without plain 0 k (keys_of recs) h.rising);
  others = rw (removed_keys k recs) (every_without (NotOwn own) k (keys_of recs) h.others);
}

pub removed_fewer : (k : ℕ) (recs : List (List ℕ)) → length (after_remove k recs) ≤ length recs
removed_fewer k recs =
    omega (arith, length_without k (keys_of recs), ap length (removed_keys k recs), length-map recs key_of, length-map (after_remove k recs) key_of)

pub removed_form : (own : Own) (k : ℕ) (s : List ℕ) (recs : List (List ℕ)) → Form own s recs → Form own (bytes_of (length s) (after_remove k recs)) (after_remove k recs)
removed_form own k s recs f =
    form_anew own (length s) (after_remove k recs) f.places (removed-held own k recs f.held) (omega (arith, removed_fewer k recs, form-room own s recs f))
