-- What is held and what waits afterwards, from the rows that were made: the views Cache and Table; and learning, with the record dropped.
-- Assumes nothing.
use mathlib.Core.Path.{◌≡◌, refl, sym, ap, ap₂, subst, ◌∙◌}
use mathlib.Core.Logic.{◌⊎◌, ◌↔◌, inl, inr}
use mathlib.Core.Bool.{Bool, true, false, cond}
use mathlib.Core.List.{List, [], ◌∷◌, map}
use Prim.Native.Nat.{ℕ, zero, suc, ◌+◌, ◌*◌, ◌≤◌, ◌<◌, zero-le}
use native.Mathlib.Omega.{arith}
use lib.ListN.{length, length-map}
use borrow.Author.Tests.{lt-ltb, le-ltb}
use Rattle.record.specs.Record.{key_of, record_form}
use Rattle.own.specs.Own.{Own, first_own, IsOwn}
use Rattle.table.specs.Rows.{bytes_of}
use Rattle.kept.specs.Keys.{◌∈◌, Every, Rising, plain}
use Rattle.kept.specs.Records.{put_by, without_by, learn_by}
use Rattle.kept.specs.Plain.{NotOwn, neighbour_list, drops}
use Rattle.kept.proofs.ListLaws.{rising-put, every-put}
use Rattle.kept.proofs.RecordLaws.{keys-put}
use Rattle.cache.specs.Form.{keys_of, places_in, held_of, cache_form, HeldRecords, Form}
use Rattle.cache.specs.Bytes.{after_learn, after_remove}
use Rattle.cache.proofs.FormLaws.{form-held, form-true, true_form, form-room, formed_sized}
use Rattle.cache.proofs.KeepLaws.{learnt_form, learnt-fits, removed_form, removed_fewer}
use Rattle.table.proofs.RowLaws.{bytes-length}
use Rattle.waiting.specs.Form as W
use Rattle.waiting.specs.Form.{places_of, waiting_form}
use Rattle.waiting.proofs.FormLaws.{form_unique, form_test}
use Rattle.gauge_plan.specs.Lent.{Memory}
use Rattle.sentences.specs.Sentences as S
use Rattle.key.specs.Around as around
use Rattle.sentences.proofs.GoesLaws.{InNone, drops_goes}
use Rattle.sentences.proofs.MembersLaws.{rise_one}
use Rattle.sentences.proofs.MoveLaws.{without_in, put_in}

-- ---- the views, from rows

pub table_by : (k : Own) (t : List ℕ) (ps : List (List ℕ)) (P : List ℕ → Type 0) → W.PlacesForm k t ps → ((p : List ℕ) → (p ∈ ps) ↔ P p)
    → S.WaitsExactly k t P
table_by k t ps P f h = record {
  form = form_test k t ps f;
  members = λ p. subst (λ (l : List (List ℕ)). (p ∈ l) ↔ P p) (form_unique k t ps f) (h p);
}

pub cache_by : (k : Own) (lent left : List ℕ) (recs : List (List ℕ)) (P : List ℕ → Type 0) → Form k left recs → length left ≡ length lent
    → ((r : List ℕ) → (r ∈ recs) ↔ P r) → S.HoldsExactly k lent left P
cache_by k lent left recs P f e h = record {
  form = form-true k left recs f;
  size = e;
  members = λ r. subst (λ (l : List (List ℕ)). (r ∈ l) ↔ P r) (sym (form-held k left recs f)) (h r);
}

-- a cache laid out anew has its size
anew_size : (k : Own) (n : ℕ) (recs : List (List ℕ)) → HeldRecords k recs → 100 * length recs ≤ n → length (bytes_of n recs) ≡ n
anew_size k n recs h fits = bytes-length 100 n recs (formed_sized recs h.formed) fits

-- ---- removing

module _ (k : Own) (m : Memory) (form : cache_form k m.cache ≡ true) (u : ℕ) where
  pub removes : S.HoldsExactly k m.cache (bytes_of (length m.cache) (after_remove u (held_of k m.cache)))
      (λ (r : List ℕ). S.Holds k m r × (¬ (key_of r ≡ u)))
  removes =
      let old = held_of k m.cache in
      let f = true_form k m.cache form in
      let g = removed_form k u m.cache old f in
      cache_by k m.cache (bytes_of (length m.cache) (after_remove u old)) (after_remove u old) _ g
      (anew_size k (length m.cache) (after_remove u old) g.held (omega (arith, removed_fewer u old, form-room k m.cache old f)))
      (λ r. without_in key_of u r old)

-- ---- the record of a key

key_there : (j : ℕ) (recs : List (List ℕ)) → j ∈ keys_of recs → (d : List ℕ) × (d ∈ recs) × (key_of d ≡ j)
key_there j [] m = absurd m
key_there j (r ∷ recs) (inl e) = (r, inl refl, sym e)
key_there j (r ∷ recs) (inr m) = let w = key_there j recs m in (w.0, inr w.1, w.2)

key_in_lem : (q : List ℕ) (recs : List (List ℕ)) → q ∈ recs → key_of q ∈ keys_of recs
key_in_lem q [] m = absurd m
key_in_lem q (r ∷ recs) (inl e) = inl (ap key_of e)
key_in_lem q (r ∷ recs) (inr m) = inr (key_in_lem q recs m)

first_own_lem : (own : Own) → 0 < length own → IsOwn own (first_own own)
first_own_lem [] h = absurd (omega arith)
first_own_lem (j ∷ own) h = inl refl

-- ---- learning

module _ (k : Own) (some : 0 < length k) (m : Memory) (form : cache_form k m.cache ≡ true) (r : List ℕ) (formed : record_form r ≡ true)
    (other : NotOwn k (key_of r)) where
  abbrev old : List (List ℕ)
  old = held_of k m.cache

  abbrev all : List (List ℕ)
  all = put_by key_of r old

  abbrev left : List ℕ
  left = bytes_of (length m.cache) (after_learn k (length m.cache) old r)

  f : Form k m.cache old
  f = true_form k m.cache form

  rises : Rising plain 0 (keys_of all)
  rises = subst (Rising plain 0) (sym (keys-put key_of r old)) (rising-put plain 0 (key_of r) (keys_of old) zero-le f.held.rising)

  others : Every (NotOwn k) (keys_of all)
  others = subst (Every (NotOwn k)) (sym (keys-put key_of r old)) (every-put plain (NotOwn k) (key_of r) (keys_of old) other f.held.others)

  g : Form k left (after_learn k (length m.cache) old r)
  g = learnt_form k m.cache old r some f formed other

  size : length left ≡ length m.cache
  size = anew_size k (length m.cache) (after_learn k (length m.cache) old r) g.held
      (learnt-fits k some (length m.cache) f.places old f.held (form-room k m.cache old f) r formed other)

  whole : length all ≤ places_in (length m.cache) → after_learn k (length m.cache) old r ≡ all
  unfolding learn_by
  whole h = rw (le-ltb (places_in (length m.cache)) (length all) h) refl

  less : places_in (length m.cache) < length all → after_learn k (length m.cache) old r ≡ without_by key_of (drops k (keys_of all)) all
  unfolding learn_by
  less h = rw (lt-ltb (places_in (length m.cache)) (length all) h) refl

  pub learns : S.Learns k m r left
  learns = record {
    more = all;
    rising = rises;
    are = λ q. put_in key_of r q old f.held.rising;
    fits = λ h. cache_by k m.cache left (after_learn k (length m.cache) old r) _ g size
        (λ q. subst (λ (l : List (List ℕ)). (q ∈ l) ↔ (q ∈ all)) (sym (whole h)) (λ i. i, λ i. i));
    dropped = λ h.
        let goes = drops_goes k (keys_of all) (first_own_lem k some) others rises (omega (arith, h, length-map all key_of, f.places.enough, f.places.whole)) in
        let d = key_there (drops k (keys_of all)) all goes.unlisted.0 in
        let none : (q : List ℕ) → S.Unlisted k all q → InNone k (keys_of all) (key_of q) = λ q w. (key_in_lem q all w.0, w.1) in (
          d.0,
          record {
            unlisted = (d.1, subst (λ (n : ℕ). (j : ℕ) → IsOwn k j → ¬ (n ∈ neighbour_list j (keys_of all))) (sym d.2) goes.unlisted.1);
            farthest = λ q w. subst (λ (n : ℕ). around.apart (first_own k) (key_of q) ≤ around.apart (first_own k) n) (sym d.2) (goes.farthest (key_of q) (none q w));
            lower = λ q w e. subst (λ (n : ℕ). n ≤ key_of q) (sym d.2) (goes.lower (key_of q) (none q w) (e ∙ ap (around.apart (first_own k)) d.2));
          },
          cache_by k m.cache left (after_learn k (length m.cache) old r) _ g size
              (λ q. subst (λ (l : List (List ℕ)). (q ∈ l) ↔ ((q ∈ all) × (¬ (q ≡ d.0)))) (sym (less h)) (
                λ i. let w = (without_in key_of (drops k (keys_of all)) q all).0 i in (w.0, λ e. w.1 (ap key_of e ∙ d.2)),
                λ i. (without_in key_of (drops k (keys_of all)) q all).1
                    (i.0, λ e. i.1 (rise_one key_of 0 q d.0 all rises i.0 d.1 (e ∙ sym d.2))),
              )),
        );
  }
