-- Laws of a place made of its fields: the fields read back, its form, and how it is written. Assumes nothing.
use mathlib.Core.Path.{◌≡◌, refl, sym, ap, ap₂, ◌∙◌}
use mathlib.Core.Bool.{true, false}
use mathlib.Core.List.{List, [], ◌∷◌, ◌++◌, append_assoc}
use Prim.Native.Nat.{ℕ, ◌^◌, ◌<◌}
use native.Mathlib.Omega.{arith}
use lib.ListN.{length, take, drop, get_or, replicate, length-append, length-replicate}
use lib.Seq.{take_at, drop_at, take_all, length-take-le}
use borrow.Author.Tests.{eq-eqb}
use Rattle.octet.specs.Number.{value_be, value_le, digits_le}
use Rattle.octet.specs.Part.{part, splice}
use Rattle.octet.proofs.PartLaws.{splice_next, splice_whole}
use Rattle.octet.proofs.TestLaws.{zeros_all}
use Rattle.octet.proofs.LittleLaws.{length-digits_le, value_le-digits_le}
use Rattle.record.specs.Record.{key_of, record_form}
use Rattle.own.specs.Own.{Own, is_own}
use Rattle.waiting.specs.Place.{id_of, kind_of, tries_of, place_key, place_record, new_place, inquiry_place, flood_place}
use Rattle.waiting.specs.Form.{place_form}
use Rattle.waiting.proofs.PlaceLaws.{fields_form, by_fields}

module _ (id kind tries : ℕ) (key held : List ℕ) (short : length key ≡ 32) (long : length held ≡ 100) where
  head : List ℕ
  head = digits_le 256 4 id ++ (kind ∷ tries ∷ 0 ∷ 0 ∷ [])

  place : List ℕ
  place = new_place id kind tries key held

  pieces : place ≡ head ++ (key ++ held)
  unfolding place head new_place
  pieces = append_assoc (digits_le 256 4 id ++ (kind ∷ tries ∷ 0 ∷ 0 ∷ [])) key held

  head_length : length head ≡ 8
  unfolding head
  head_length = simp (length-append, length-digits_le) (omega arith)

  pub new-length : length (new_place id kind tries key held) ≡ 140
  unfolding place
  new-length = ap length pieces ∙ simp length-append (omega (arith, head_length))

  pub new-id : id < 2 ^ 32 → id_of (new_place id kind tries key held) ≡ id
  unfolding new_place
  new-id small =
      ap (value_le 256)
      (ap (take 4) (append_assoc (digits_le 256 4 id ++ (kind ∷ tries ∷ 0 ∷ 0 ∷ [])) key held
      ∙ append_assoc (digits_le 256 4 id) (kind ∷ tries ∷ 0 ∷ 0 ∷ []) (key ++ held))
      ∙ take_at (digits_le 256 4 id) ((kind ∷ tries ∷ 0 ∷ 0 ∷ []) ++ (key ++ held)) 4 (length-digits_le 256 4 id))
      ∙ value_le-digits_le 256 4 id (omega arith) small

  after-head : drop 8 place ≡ key ++ held
  unfolding place
  after-head = ap (drop 8) pieces ∙ drop_at head (key ++ held) 8 head_length

  pub new-key : part 8 32 (new_place id kind tries key held) ≡ key
  unfolding place
  new-key = ap (take 32) after-head ∙ take_at key held 32 short

  pub new-record : place_record (new_place id kind tries key held) ≡ held
  unfolding place
  new-record =
      let at40 : drop 40 place ≡ held =
      ap (drop 40) (pieces ∙ sym (append_assoc head key held))
      ∙ drop_at (head ++ key) held 40 (simp length-append (omega (arith, head_length))) in
      ap (take 100) at40 ∙ take_all 100 held (omega arith)

  pub new-kind : kind_of (new_place id kind tries key held) ≡ kind
  unfolding new_place digits_le
  new-kind = refl

  pub new-tries : tries_of (new_place id kind tries key held) ≡ tries
  unfolding new_place digits_le
  new-tries = refl

  new-six : get_or (new_place id kind tries key held) 6 0 ≡ 0
  unfolding new_place digits_le
  new-six = refl

  new-seven : get_or (new_place id kind tries key held) 7 0 ≡ 0
  unfolding new_place digits_le
  new-seven = refl

  -- its form
  pub new-form : (own : Own) → place_form own (new_place id kind tries key held) ≡ fields_form own tries 0 0 kind (value_be 256 key) held
  unfolding place
  new-form own =
      by_fields own place
      ∙ ap₂ (λ (n m : ℕ). fields_form own (tries_of place) n m (kind_of place) (place_key place) (place_record place)) new-six new-seven
      ∙ ap₂ (λ (n m : ℕ). fields_form own n 0 0 m (place_key place) (place_record place)) new-tries new-kind
      ∙ ap₂ (λ (n : ℕ) (l : List ℕ). fields_form own tries 0 0 kind n l) (ap (value_be 256) new-key) new-record

  -- written field by field
  pub written : (p : List ℕ) → length p ≡ 140
      → splice 40 held (splice 8 key (splice 4 (kind ∷ tries ∷ 0 ∷ 0 ∷ []) (splice 0 (digits_le 256 4 id) p))) ≡ new_place id kind tries key held
  unfolding new_place
  written p lp =
      let d : List ℕ = digits_le 256 4 id in
      let k : List ℕ = kind ∷ tries ∷ 0 ∷ 0 ∷ [] in
      let e4 : length d ≡ 4 = length-digits_le 256 4 id in
      let e8 : length (d ++ k) ≡ 8 = simp length-append (omega arith) in
      let e40 : length (d ++ k ++ key) ≡ 40 = simp length-append (omega arith) in
      let all : length (d ++ k ++ key ++ held) ≡ length p = simp length-append (omega arith) in
      ap (λ (l : List ℕ). splice 40 held (splice 8 key l)) (splice_next 0 4 d k p e4 (omega arith))
      ∙ ap (splice 40 held) (splice_next 0 8 (d ++ k) key p e8 (omega arith))
      ∙ splice_next 0 40 (d ++ k ++ key) held p e40 (omega arith)
      ∙ splice_whole (d ++ k ++ key ++ held) p all

-- an inquiry's place for a record in form with another key than ours, and a flood's place, are in form
pub inquiry_form_lem : (own : Own) (id : ℕ) (r : List ℕ) → length r ≡ 100 → record_form r ≡ true → is_own own (key_of r) ≡ false
    → place_form own (inquiry_place id r) ≡ true
inquiry_form_lem own id r long ok others =
    new-form id 2 2 (part 0 32 r) r (length-take-le 32 r (omega arith)) long own
    ∙ rw (ok, others, eq-eqb (key_of r) (key_of r) refl) refl

pub flood_form_lem : (own : Own) (id : ℕ) (key : List ℕ) → length key ≡ 32 → place_form own (flood_place id key) ≡ true
flood_form_lem own id key short =
    new-form id 1 2 key (replicate 100 0) short (length-replicate {A = ℕ} 100 0) own
    ∙ rw (zeros_all 100) refl
