-- An AUTHORITY says the same with another payload. In this order: a field that is not changed; what is heard; the datagrams. Assumes nothing.
use mathlib.Core.Path.{◌≡◌, refl, sym, ap, ap₂, subst, ◌∙◌}
use mathlib.Core.List.{List, [], ◌∷◌}
use mathlib.Core.Option.{some, none}
use Prim.Native.Nat.{ℕ, zero, suc, ◌≤◌}
use native.Mathlib.Omega.{arith}
use lib.ListN.{length, get_or}
use Rattle.octet.specs.Number.{Bytes, value_be}
use Rattle.wire_shapes.specs.Shapes.{Kind}
use Rattle.wire_fields.specs.Kinds.{kinds_of, authority_kinds, present}
use Rattle.wire_fields.specs.Message.{Contents, Message, WellFormed, Reads, layout_of, message_bytes}
use Rattle.wire.specs.Statements.{changed_at, split_again, changed}
use Rattle.wire.proofs.BytesLaws.{bytes_message}
use Rattle.wire.proofs.Theorems.{payload_reads}
use Rattle.sentences.specs.Heard.{authority, contents, field, number_in, heard, Hears}

-- ---- a field that is not changed

changed_other : (n i : ℕ) (c : Contents) (fs : List Contents) → ¬ (n ≡ i) → get_or (changed_at n c fs) i none ≡ get_or fs i none
changed_other n i c [] h = refl
changed_other zero zero c (f ∷ fs) h = absurd (h refl)
changed_other zero (suc i) c (f ∷ fs) h = refl
changed_other (suc n) zero c (f ∷ fs) h = refl
changed_other (suc n) (suc i) c (f ∷ fs) h = changed_other n i c fs (λ e. h (ap suc e))

-- the split controls are the second field
split_first : (fs : List Contents) → get_or (split_again authority_kinds fs) 0 none ≡ get_or fs 0 none
split_first [] = refl
split_first (f ∷ []) = refl
split_first (f ∷ s ∷ fs) = refl

split_later : (i : ℕ) (fs : List Contents) → get_or (split_again authority_kinds fs) (suc (suc i)) none ≡ get_or fs (suc (suc i)) none
split_later i [] = refl
split_later i (f ∷ []) = refl
split_later i (f ∷ s ∷ fs) = refl

-- ---- what is heard of an AUTHORITY: the acked ID, and whether there is a CPA

heard-authority : (m : Message) → m.type ≡ 8 → heard m ≡ authority (number_in 0 m) (present (field 8 m))
unfolding heard
heard-authority m t = rw t refl

module _ (m : Message) (t : m.type ≡ 8) (v : List ℕ) where
  abbrev is : Message
  is = changed authority_kinds m 6 (some v)

  fields-are : is.fields ≡ split_again authority_kinds (changed_at 6 (some v) m.fields)
  fields-are = rw t refl

  first_same : field 0 is ≡ field 0 m
  first_same =
      ap (λ (fs : List Contents). get_or fs 0 none) fields-are ∙ split_first (changed_at 6 (some v) m.fields)
      ∙ changed_other 6 0 (some v) m.fields (λ e. omega (arith, e))

  cpa-same : field 8 is ≡ field 8 m
  cpa-same =
      ap (λ (fs : List Contents). get_or fs 8 none) fields-are ∙ split_later 6 (changed_at 6 (some v) m.fields)
      ∙ changed_other 6 8 (some v) m.fields (λ e. omega (arith, e))

  pub heard-same : heard is ≡ heard m
  heard-same =
      heard-authority is t
      ∙ ap₂ (λ (x y : Contents). authority (value_be 256 (contents x)) (present y)) first_same cpa-same
      ∙ sym (heard-authority m t)

-- ---- the datagrams

authority_well : (ks : List Kind) (m : Message) → m.type ≡ 8 → WellFormed ks m → WellFormed authority_kinds m
unfolding kinds_of
authority_well ks m t w =
    let e : some ks ≡ some authority_kinds = sym w.known ∙ ap kinds_of t in
    let same : ks ≡ authority_kinds = cc in
    subst (λ (k : List Kind). WellFormed k m) same w

module _ (major : ℕ) (d : List ℕ) (ks : List Kind) (m : Message) (reads : Reads ks d m) (version : m.major ≡ major) (t : m.type ≡ 8)
    (v : List ℕ) (bytes : Bytes v) (short : length v ≤ 1232) where
  abbrev anew : List ℕ
  anew = message_bytes (layout_of authority_kinds (changed authority_kinds m 6 (some v)))

  pub hears-before : Hears d major (heard m)
  hears-before = record { kinds = ks; message = m; reads = reads; version = version; says = refl }

  reads-anew : length anew ≤ 1232 → Reads authority_kinds anew (changed authority_kinds m 6 (some v))
  reads-anew l = payload_reads m v (authority_well ks m t reads.well) bytes short l

  pub hears-after : length anew ≤ 1232 → Hears anew major (heard m)
  hears-after l =
      record {
        kinds = authority_kinds;
        message = changed authority_kinds m 6 (some v);
        reads = reads-anew l;
        version = version;
        says = heard-same m t v;
      }

  pub bytes_after : length anew ≤ 1232 → Bytes anew
  bytes_after l = bytes_message authority_kinds (changed authority_kinds m 6 (some v)) (reads-anew l).well
