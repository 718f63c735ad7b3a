-- What the conversion makes of a cache in the old form: a cache of today, whose records are the old ones converted, in their order. And one of today is in
-- the old form, with the same records. Assumes nothing.
use mathlib.Core.Path.{◌≡◌, refl, sym, ap, ap₂, ◌∙◌, subst}
use mathlib.Core.Bool.{Bool, true, false, ◌&&◌}
use mathlib.Core.List.{List, [], ◌∷◌, map}
use Prim.Native.Nat.{ℕ, zero, suc, ◌+◌, ◌-◌, ◌*◌, ◌%◌, ◌≤◌}
use native.Mathlib.Omega.{arith}
use lib.Dec.{eqb}
use lib.ListN.{length, take, replicate, length-map}
use borrow.Author.Tests.{lt-leb, eq-eqb, le-leb}
use Rattle.record.specs.Record.{count_of, record_form}
use Rattle.own.specs.Own.{Own}
use Rattle.table.specs.Rows.{rows, joined, bytes_of}
use Rattle.table.proofs.RowLaws.{rows-length, rows_take, rows_append, bytes-length}
use Rattle.kept.specs.Keys.{Every, Rising, plain}
use Rattle.kept.specs.Plain.{NotOwn}
use Rattle.cache.specs.Form.{keys_of, places_in, Places, Form, leading, held_of, cache_form}
use Rattle.cache.proofs.FormLaws.{From, counted, counts, Stops, get_d_zeros, formed_sized, true_form, form-room, form-rows, form-clear}
use Rattle.convert.specs.Old.{old_record_form, old_held_in, old_held_of, old_cache_form}
use Rattle.cut.specs.Cut.{converted}
use Rattle.convert.proofs.OldLaws.{old_length, new_old}
use Rattle.convert.proofs.HeldLaws.{held_most}
use Rattle.convert.proofs.RecordLaws.{converted-key, converted_form, converted_stays}
use Rattle.convert.proofs.CallLaws.{cache-places, cache-laid}

-- ---- lists of records

abbrev Olds : List (List ℕ) → Type 0
Olds recs = Every (λ (r : List ℕ). old_record_form r ≡ true) recs

abbrev News : List (List ℕ) → Type 0
News recs = Every (λ (r : List ℕ). record_form r ≡ true) recs

pub keys_stay : (recs : List (List ℕ)) → Olds recs → keys_of (map converted recs) ≡ keys_of recs
keys_stay [] h = refl
keys_stay (r ∷ recs) h = ap₂ (λ (k : ℕ) (ks : List ℕ). k ∷ ks) (converted-key r (old_length r h.0)) (keys_stay recs h.1)

all_new : (recs : List (List ℕ)) → Olds recs → News (map converted recs)
all_new [] h = tt
all_new (r ∷ recs) h = (converted_form r h.0, all_new recs h.1)

all_old : (recs : List (List ℕ)) → News recs → Olds recs
all_old [] h = tt
all_old (r ∷ recs) h = (new_old r h.0, all_old recs h.1)

pub all_stay : (recs : List (List ℕ)) → News recs → map converted recs ≡ recs
all_stay [] h = refl
all_stay (r ∷ recs) h = ap₂ (λ (q : List ℕ) (qs : List (List ℕ)). q ∷ qs) (converted_stays r h.0) (all_stay recs h.1)

-- ---- a cache in the old form

module _ (own : Own) (s : List ℕ) (e : old_cache_form own s ≡ true) where
  old-from : From old_record_form own 0 (old_held_of own s)
  unfolding old_held_in
  old-from =
      let n : ℕ = places_in (length s) in
      subst (λ (l : List (List ℕ)). From old_record_form own 0 l) (rows_take 100 (old_held_in own s) n s (held_most own s))
      (counted old_record_form own 0 (rows 100 n s))

  -- the cache that the conversion leaves holds the records converted
  pub converted-cache : Form own (bytes_of (length s) (map converted (old_held_of own s))) (map converted (old_held_of own s))
  converted-cache =
      let recs = old_held_of own s in
      let news = all_new recs old-from.formed in
      let sized = formed_sized (map converted recs) news in
      let few : 100 * length (map converted recs) ≤ length s =
      omega (arith, length-map recs converted, rows-length 100 (old_held_in own s) s, (cache-laid own s e).room) in
      let long : length (bytes_of (length s) (map converted recs)) ≡ length s = bytes-length 100 (length s) (map converted recs) sized few in
      let same = keys_stay recs old-from.formed in
      record {
        places = subst (Places own) (sym long) (cache-places own s e);
        bytes = ap (λ (n : ℕ). bytes_of n (map converted recs)) (sym long);
        held = record {
          formed = news;
          rising = subst (λ (ks : List ℕ). Rising plain 0 ks) (sym same) old-from.rising;
          others = subst (λ (ks : List ℕ). Every (NotOwn own) ks) (sym same) old-from.others;
        };
      }

  pub old-keys-stay : keys_of (map converted (old_held_of own s)) ≡ keys_of (old_held_of own s)
  old-keys-stay = keys_stay (old_held_of own s) old-from.formed

-- ---- a cache of today

-- a row of zeros is no old record either
zeros_bad : (m : ℕ) → old_record_form (take 100 (replicate m 0)) ≡ false
unfolding old_record_form
zeros_bad m =
    let r : List ℕ = take 100 (replicate m 0) in
    go (eqb (length r) 100) _ _ _ _ (lt-leb 1 (count_of r) (omega (arith, get_d_zeros 100 m 34)))
  where
    go : (a b c d e : Bool) → b ≡ false → a && b && c && d && e ≡ false
    go true b c d e h = rw h refl
    go false b c d e h = refl

zeros_stop : (k m : ℕ) → Stops old_record_form (rows 100 k (replicate m 0))
unfolding rows
zeros_stop zero m = tt
zeros_stop (suc k) m = zeros_bad m

module _ (own : Own) (s : List ℕ) (e : cache_form own s ≡ true) where
  now-form : Form own s (held_of own s)
  now-form = true_form own s e

  same_count : old_held_in own s ≡ length (held_of own s)
  unfolding old_held_in bytes_of
  same_count =
      let f = now-form in
      let recs = held_of own s in
      let sized = formed_sized recs f.held.formed in
      let m : ℕ = length s - length (joined recs) in
      let k : ℕ = places_in (length s) - length recs in
      let places : places_in (length s) ≡ length recs + k = omega (arith, form-room own s recs f) in
      ap (leading old_record_form own 0) (ap₂ (rows 100) places f.bytes ∙ rows_append 100 recs k (replicate m 0) sized)
      ∙ counts old_record_form own 0 recs (rows 100 k (replicate m 0))
      (record { formed = all_old recs f.held.formed; rising = f.held.rising; others = f.held.others }) (zeros_stop k m)

  pub now-held : old_held_of own s ≡ held_of own s
  now-held = ap (λ (n : ℕ). rows 100 n s) same_count ∙ sym (form-rows own s (held_of own s) now-form)

  pub now-old : old_cache_form own s ≡ true
  unfolding old_cache_form
  now-old =
      let p = now-form.places in
      rw (
        eq-eqb (length s % 100) 0 p.whole,
        le-leb 1000 (length s) p.least,
        le-leb (length s) 25600 p.most,
        le-leb (1000 * length own) (length s) p.enough,
        same_count,
      )
      (form-clear own s (held_of own s) now-form)

  -- nothing changes in it
  pub now-stays : bytes_of (length s) (map converted (old_held_of own s)) ≡ s
  now-stays =
      ap (λ (recs : List (List ℕ)). bytes_of (length s) (map converted recs)) now-held
      ∙ ap (bytes_of (length s)) (all_stay (held_of own s) now-form.held.formed)
      ∙ sym now-form.bytes
