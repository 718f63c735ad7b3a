-- Laws of the cache's form: what the test counts, that it holds exactly where some records have the form, and that there is one list of them.
-- In this order: a row; the count; records in form are counted; the form; the test. Elsewhere: the test by its parts, as code meets it, in ShapeLaws.
-- Assumes nothing.
use mathlib.Core.Path.{◌≡◌, refl, sym, ap, ap₂, ◌∙◌, subst}
use mathlib.Core.Logic.{◌↔◌}
use mathlib.Core.List.{List, [], ◌∷◌, ◌++◌}
use mathlib.Core.Bool.{Bool, true, false, not, cond, ◌&&◌}
use Prim.Native.Nat.{ℕ, zero, suc, ◌+◌, ◌-◌, ◌*◌, ◌%◌, ◌≤◌, ◌<◌}
use native.Mathlib.Omega.{arith}
use lib.Dec.{leb, eqb}
use lib.ListN.{length, take, drop, get_or, replicate, length-append, length-drop, length-replicate}
use lib.Seq.{take-take, get_or-drop}
use borrow.Author.Tests.{eq-eqb, ne_eqb, le-leb, leb-true, eqb-true, not-true}
use Rattle.octet.specs.Number.{Bytes, value_be}
use Rattle.octet.specs.Part.{part, all_zero}
use Rattle.octet.proofs.TestLaws.{both_true, zeros_all}
use Rattle.key.specs.Number.{key_at}
use Rattle.key.specs.Around.{ring}
use Rattle.key.proofs.KeyLaws.{key-lt}
use Rattle.record.specs.Record.{key_of, count_of, record_form}
use Rattle.record.proofs.EntryLaws.{form_length}
use Rattle.table.specs.Rows.{rows, joined, bytes_of, Sized, Laid}
use Rattle.table.proofs.RowLaws.{rows-length, rows_take, rows_append, rows-of-joined, joined_length, bytes_clear, laid-bytes}
use Rattle.kept.specs.Keys.{Every, Rising, plain}
use Rattle.kept.specs.Plain.{NotOwn}
use Rattle.own.specs.Own.{Own, is_own}
use Rattle.own.proofs.PlaceLaws.{not_own, own_not}
use Rattle.cache.specs.Form.{keys_of, places_in, Places, Form, follows, leading, held_in, held_of, cache_form}

-- ---- a row

pub key_of-row : (at : ℕ) (s : List ℕ) → key_of (part at 100 s) ≡ key_at at s
key_of-row at s = ap (value_be 256) (take-take 32 100 (drop at s) (omega arith))

-- the keys of bytes are keys
pub keys_small : (used : ℕ) (s : List ℕ) → Bytes s → 100 * used ≤ length s → Every (λ (k : ℕ). k < ring) (keys_of (rows 100 used s))
unfolding rows
keys_small zero s b h = tt
keys_small (suc n) s b h = (
  subst (λ (k : ℕ). k < ring) (sym (key_of-row 0 s)) (key-lt 0 s b (omega arith)),
  keys_small n (drop 100 s) (λ i. omega (arith, get_or-drop 100 s i 0, b (100 + i))) (simp length-drop (omega arith)),
)

pub formed_sized : (recs : List (List ℕ)) → Every (λ (r : List ℕ). record_form r ≡ true) recs → Sized 100 recs
formed_sized [] h = tt
formed_sized (r ∷ recs) h = (form_length r h.0, formed_sized recs h.1)

-- what `follows` tells, of records by whatever test
pub record Follows (good : List ℕ → Bool) (own : Own) (low : ℕ) (r : List ℕ) : Type 0 where
  pub formed : good r ≡ true
  pub least : low ≤ key_of r
  pub other : NotOwn own (key_of r)

pub follows_tells : (good : List ℕ → Bool) (own : Own) (low : ℕ) (r : List ℕ) → follows good own low r ≡ true → Follows good own low r
unfolding follows
follows_tells good own low r e =
    let p = both_true (good r && leb low (key_of r)) (not (is_own own (key_of r))) e in
    let q = both_true (good r) (leb low (key_of r)) p.0 in
    record { formed = q.0; least = leb-true low (key_of r) q.1; other = not_own own (key_of r) (not-true (is_own own (key_of r)) p.1) }

pub follows-told : (good : List ℕ → Bool) (own : Own) (low : ℕ) (r : List ℕ) → Follows good own low r → follows good own low r ≡ true
unfolding follows
follows-told good own low r h = rw (h.formed, le-leb low (key_of r) h.least, own_not own (key_of r) h.other) refl

-- ---- what is counted has the form of records held

-- the same as `Held`, where the first key is at least low
pub record From (good : List ℕ → Bool) (own : Own) (low : ℕ) (recs : List (List ℕ)) : Type 0 where
  pub formed : Every (λ (r : List ℕ). good r ≡ true) recs
  pub rising : Rising plain low (keys_of recs)
  pub others : Every (NotOwn own) (keys_of recs)

pub counted : (good : List ℕ → Bool) (own : Own) (low : ℕ) (rs : List (List ℕ)) → From good own low (take (leading good own low rs) rs)
unfolding leading
counted good own low [] = record { formed = tt; rising = tt; others = tt }
counted good own low (r ∷ rs) = go (follows good own low r) refl (counted good own (suc (key_of r)) rs)
  where
    go : (b : Bool) → follows good own low r ≡ b → From good own (suc (key_of r)) (take (leading good own (suc (key_of r)) rs) rs)
        → From good own low (take (cond b (suc (leading good own (suc (key_of r)) rs)) 0) (r ∷ rs))
    go true e t =
        let f = follows_tells good own low r e in
        record { formed = (f.formed, t.formed); rising = (f.least, t.rising); others = (f.other, t.others) }
    go false e t = record { formed = tt; rising = tt; others = tt }

pub leading_most : (good : List ℕ → Bool) (own : Own) (low : ℕ) (rs : List (List ℕ)) → leading good own low rs ≤ length rs
unfolding leading
leading_most good own low [] = omega arith
leading_most good own low (r ∷ rs) = go (follows good own low r) (leading_most good own (suc (key_of r)) rs)
  where
    go : (b : Bool) {n m : ℕ} → n ≤ m → cond b (suc n) 0 ≤ suc m
    go true h = omega arith
    go false h = omega arith

pub held_most : (own : Own) (s : List ℕ) → held_in own s ≤ places_in (length s)
unfolding held_in
held_most own s = omega (arith, leading_most record_form own 0 (rows 100 (places_in (length s)) s), rows-length 100 (places_in (length s)) s)

-- ---- records in form are counted

-- no record stands at the front
abbrev pub Stops : (List ℕ → Bool) → List (List ℕ) → Type 0
Stops good [] = Unit {0}
Stops good (z ∷ zs) = good z ≡ false

pub counts : (good : List ℕ → Bool) (own : Own) (low : ℕ) (recs zs : List (List ℕ)) → From good own low recs → Stops good zs → leading good own low (recs ++ zs) ≡ length recs
unfolding leading follows
counts good own low [] [] h st = refl
counts good own low [] (z ∷ zs) h st = rw st refl
counts good own low (r ∷ recs) zs h st =
    ap (λ (b : Bool). cond b (suc (leading good own (suc (key_of r)) (recs ++ zs))) 0)
    (follows-told good own low r (record { formed = h.formed.0; least = h.rising.0; other = h.others.0 }))
    ∙ ap suc (counts good own (suc (key_of r)) recs zs (record { formed = h.formed.1; rising = h.rising.1; others = h.others.1 }) st)

pub get_d_zeros : (k m i : ℕ) → get_or {A = ℕ} (take k (replicate m 0)) i 0 ≡ 0
get_d_zeros zero m i = refl
get_d_zeros (suc k) zero i = refl
get_d_zeros (suc k) (suc m) zero = refl
get_d_zeros (suc k) (suc m) (suc i) = get_d_zeros k m i

-- a row of zeros is no record
zeros_bad : (m : ℕ) → record_form (take 100 (replicate m 0)) ≡ false
unfolding record_form
zeros_bad m =
    let r : List ℕ = take 100 (replicate m 0) in
    go (eqb (length r) 100) _ _ _ (ne_eqb (count_of r) 1 (λ e. omega (arith, e, get_d_zeros 100 m 34)))
  where
    go : (a b c d : Bool) → b ≡ false → a && b && c && d ≡ false
    go true b c d h = rw h refl
    go false b c d h = refl

zeros_stop : (k m : ℕ) → Stops record_form (rows 100 k (replicate m 0))
unfolding rows
zeros_stop zero m = tt
zeros_stop (suc k) m = zeros_bad m

-- ---- the form

-- memory laid out in rows that may stand one after the other is in form
pub form_of : (own : Own) (s : List ℕ) (used : ℕ) → Places own (length s) → used ≡ held_in own s → Laid 100 used s → Form own s (rows 100 used s)
unfolding held_in
form_of own s used pl e laid =
    let n : ℕ = places_in (length s) in
    let c : From record_form own 0 (rows 100 used s) =
    subst (λ (l : List (List ℕ)). From record_form own 0 l)
    (ap (λ (k : ℕ). take k (rows 100 n s)) (sym e) ∙ rows_take 100 used n s (omega (arith, laid.room))) (counted record_form own 0 (rows 100 n s)) in
    record {
      places = pl;
      bytes = laid-bytes 100 used s laid;
      held = record { formed = c.formed; rising = c.rising; others = c.others };
    }

module _ (own : Own) (s : List ℕ) (recs : List (List ℕ)) (f : Form own s recs) where
  sized : Sized 100 recs
  sized = formed_sized recs f.held.formed

  -- the records fit, they are the first rows, and zeros follow them
  pub form-room : 100 * length recs ≤ length s
  unfolding bytes_of
  form-room =
      let e : length s ≡ length (joined recs) + length (replicate {A = ℕ} (length s - length (joined recs)) 0) =
      ap length f.bytes ∙ length-append (joined recs) _ in
      omega (arith, e, joined_length 100 recs sized, length-replicate {A = ℕ} (length s - length (joined recs)) 0)

  pub form-rows : recs ≡ rows 100 (length recs) s
  unfolding bytes_of
  form-rows = sym (ap (rows 100 (length recs)) f.bytes ∙ rows-of-joined 100 recs _ sized)

  pub form-clear : all_zero (drop (100 * length recs) s) ≡ true
  form-clear =
      ap (λ (l : List ℕ). all_zero (drop (100 * length recs) l)) f.bytes
      ∙ ap (λ (k : ℕ). all_zero (drop k (bytes_of (length s) recs))) (sym (joined_length 100 recs sized))
      ∙ ap all_zero (bytes_clear (length s) recs) ∙ zeros_all (length s - length (joined recs))

  -- the test counts them
  pub form-counts : held_in own s ≡ length recs
  unfolding held_in bytes_of
  form-counts =
      let m : ℕ = length s - length (joined recs) in
      let k : ℕ = places_in (length s) - length recs in
      let e : places_in (length s) ≡ length recs + k = omega (arith, form-room) in
      ap (leading record_form own 0) (ap₂ (rows 100) e f.bytes ∙ rows_append 100 recs k (replicate m 0) sized)
      ∙ counts record_form own 0 recs (rows 100 k (replicate m 0))
      (record { formed = f.held.formed; rising = f.held.rising; others = f.held.others }) (zeros_stop k m)

  pub form-held : held_of own s ≡ recs
  unfolding held_of
  form-held = ap (λ (n : ℕ). rows 100 n s) form-counts ∙ sym form-rows

  -- and holds
  pub form-true : cache_form own s ≡ true
  unfolding cache_form
  form-true =
      rw (
        eq-eqb (length s % 100) 0 f.places.whole,
        le-leb 1000 (length s) f.places.least,
        le-leb (length s) 25600 f.places.most,
        le-leb (1000 * length own) (length s) f.places.enough,
        form-counts,
      )
      form-clear

-- there is one list of records that a cache in form holds
pub form_unique : (own : Own) (s : List ℕ) (a b : List (List ℕ)) → Form own s a → Form own s b → a ≡ b
form_unique own s a b f g = sym (form-held own s a f) ∙ form-held own s b g

-- where the first rows are the records, so many are counted, and memory is laid out in them
pub form_used : (own : Own) (used : ℕ) (s : List ℕ) → Form own s (rows 100 used s) → held_in own s ≡ used
form_used own used s f = form-counts own s (rows 100 used s) f ∙ rows-length 100 used s

pub form_laid : (own : Own) (used : ℕ) (s : List ℕ) → Form own s (rows 100 used s) → Laid 100 used s
form_laid own used s f =
    let n = rows-length 100 used s in record {
      room = omega (arith, form-room own s (rows 100 used s) f, n);
      clear = ap (λ (k : ℕ). all_zero (drop (100 * k) s)) (sym n) ∙ form-clear own s (rows 100 used s) f;
    }

-- ---- the test

pub true_form : (own : Own) (s : List ℕ) → cache_form own s ≡ true → Form own s (held_of own s)
unfolding cache_form held_of
true_form own s e =
    let a = both_true (eqb (length s % 100) 0 && leb 1000 (length s) && leb (length s) 25600 && leb (1000 * length own) (length s)) _ e in
    let d = both_true (eqb (length s % 100) 0 && leb 1000 (length s) && leb (length s) 25600) _ a.0 in
    let b = both_true (eqb (length s % 100) 0 && leb 1000 (length s)) _ d.0 in
    let c = both_true (eqb (length s % 100) 0) _ b.0 in
    let pl : Places own (length s) = record {
      whole = eqb-true (length s % 100) 0 c.0;
      least = leb-true 1000 (length s) c.1;
      most = leb-true (length s) 25600 b.1;
      enough = leb-true (1000 * length own) (length s) d.1;
    } in
    form_of own s (held_in own s) pl refl (record { room = omega (arith, held_most own s, pl.whole); clear = a.1 })

-- it holds exactly where the cache holds some records; `form-held` says which
pub cache_form_lem : (own : Own) (s : List ℕ) → (cache_form own s ≡ true) ↔ Form own s (held_of own s)
cache_form_lem own s = (true_form own s, form-true own s (held_of own s))
