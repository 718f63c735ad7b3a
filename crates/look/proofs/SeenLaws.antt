-- Laws of what the radio program is told: every field that is told stands within the datagram, so that its place and length are small numbers.
-- Assumes nothing.
use Prim.Native.Nat.{ℕ, zero, suc, ◌+◌, ◌≤◌, ◌<◌}
use native.Mathlib.Omega.{arith}
use mathlib.Core.Path.{◌≡◌, sym, subst}
use mathlib.Core.Bool.{Bool, false}
use mathlib.Core.List.{List, [], ◌∷◌}
use lib.ListN.{length, get_or}
use lib.Seq.{get_or-drop}
use Rattle.wire_shapes.specs.Shapes.{Kind}
use Rattle.wire_fields.specs.Kinds as K
use Rattle.wire_fields.specs.Kinds.{must}
use Rattle.std.specs.Prelude.{Some, None}
use Rattle.wire_fields.specs.Places.{Part}
use Rattle.wire_shapes.specs.declared.Shape.TheVariants.{Sized}
use Rattle.wire_read.specs.Answers as R
use Rattle.wire_buffer.specs.Buffer.{start_of}
use Rattle.wire_read.specs.Answers.{read_in}
use Rattle.wire_read.specs.declared.Incoming.{Incoming}
use Rattle.wire.proofs.StandLaws.{Fact, Stand, after, sized-length}
use Rattle.wire.proofs.ShownLaws.{of-each}
use Rattle.look.specs.Seen.{size_of, seen_as, look_of}
use Rattle.look.specs.declared.Look.{Look}

-- ---- of the places found

-- the place of field number j
fact_at : (j : ℕ) (k₀ : Kind) (ks : List Kind) (d : List ℕ) (i : ℕ) (ps : List Part) → j < length ks → Stand ks d i ps
    → (m : ℕ) × Fact (get_or ks j k₀) d m (get_or ps j None)
fact_at j k₀ [] d i ps h w = absurd (omega arith)
fact_at j k₀ (k ∷ ks) d i [] h w = absurd w
fact_at zero k₀ (k ∷ ks) d i (p ∷ ps) h w = (i, w.0)
fact_at (suc j) k₀ (k ∷ ks) d i (p ∷ ps) h w = fact_at j k₀ ks d (after k i p) ps (omega arith) w.1

module _ (d : List ℕ) where
  abbrev Inside : Part → Type 0
  Inside p = start_of p + size_of p ≤ length d

  fact-inside : (k : Kind) (m : ℕ) (p : Part) → Fact k d m p → Inside p
  fact-inside k m (Some p) f = f.1
  fact-inside k m None f = omega arith

  inside-at : (j : ℕ) (ks : List Kind) (ps : List Part) → j < length ks → Stand ks d 12 ps → Inside (get_or ps j None)
  inside-at j ks ps h w =
      let (m, f) = fact_at j K.acked_kind ks d 12 ps h w in
      fact-inside (get_or ks j K.acked_kind) m (get_or ps j None) f

  -- a field of a fixed size, that must be there
  sized_inside : (n : ℕ) (padded : Bool) (size m : ℕ) (p : Part) → Fact (must n padded (Sized size) []) d m p → start_of p + size ≤ length d
  sized_inside n padded size m (Some p) f = let e = sized-length size d p.start p.len f.0 f.1 in let h = f.1 in omega arith
  sized_inside n padded size m None f = absurd (let z : ◌≡◌ {A = ℕ} 0 1 = cc in omega arith)

-- ---- of what is told

-- the four fields stand within so many bytes
abbrev pub Told : ℕ → Look → Type 0
Told n r =
    (r.cpa + r.cpa_length ≤ n) × (r.nonce + r.nonce_length ≤ n) × (r.entry + r.entry_length ≤ n) × (r.target + r.target_length ≤ n)

module _ (d : List ℕ) (n : ℕ) (within : length d ≤ 1232 → length d ≤ n) where
  abbrev Tells : Incoming → Type 0
  Tells a = Told n (look_of a)

  module _ (h : length d ≤ n) where
    solicit-told : (ps : List Part) → Stand K.solicit_kinds d 12 ps → Tells (R.solicit_shown d ps)
    unfolding look_of
    solicit-told ps w =
        let a = inside-at d 0 K.solicit_kinds ps (omega arith) w in
        let (m, f) = fact_at 1 K.acked_kind K.solicit_kinds d 12 ps (omega arith) w in
        let b = sized_inside d 0x92 false 20 m (get_or ps 1 None) f in
        (omega arith, omega arith, omega arith, omega arith)

    advertise-told : (ps : List Part) → Stand K.advertise_kinds d 12 ps → Tells (R.advertise_shown d ps)
    unfolding look_of
    advertise-told ps w =
        let (m, f) = fact_at 2 K.acked_kind K.advertise_kinds d 12 ps (omega arith) w in
        let b = sized_inside d 0x92 false 20 m (get_or ps 2 None) f in
        (omega arith, omega arith, omega arith, omega arith)

    request-told : (ps : List Part) → Stand K.request_kinds d 12 ps → Tells (R.request_shown d ps)
    unfolding look_of
    request-told ps w =
        let (m, f) = fact_at 2 K.acked_kind K.request_kinds d 12 ps (omega arith) w in
        let b = sized_inside d 0x93 false 16 m (get_or ps 2 None) f in
        (omega arith, omega arith, omega arith, omega arith)

    flood-told : (ps : List Part) → Stand K.flood_kinds d 12 ps → Tells (R.flood_shown d ps)
    unfolding look_of
    flood-told ps w =
        let a = inside-at d 3 K.flood_kinds ps (omega arith) w in
        let b = inside-at d 4 K.flood_kinds ps (omega arith) w in
        (omega arith, omega arith, omega arith, omega arith)

    inquire-told : (ps : List Part) → Stand K.inquire_kinds d 12 ps → Tells (R.inquire_shown d ps)
    unfolding look_of
    inquire-told ps w =
        let a = inside-at d 2 K.inquire_kinds ps (omega arith) w in
        (omega arith, omega arith, omega arith, omega arith)

    authority-told : (ps : List Part) → Stand K.authority_kinds d 12 ps → Tells (R.authority_shown d ps)
    unfolding look_of
    authority-told ps w =
        let a = subst (Inside d) (sym (get_or-drop 2 ps 5 None)) (inside-at d 7 K.authority_kinds ps (omega arith) w) in
        let b = subst (Inside d) (sym (get_or-drop 2 ps 6 None)) (inside-at d 8 K.authority_kinds ps (omega arith) w) in
        (omega arith, omega arith, omega arith, omega arith)

    lookup-told : (ps : List Part) → Stand K.lookup_kinds d 12 ps → Tells (R.lookup_shown d ps)
    unfolding look_of
    lookup-told ps w =
        let a = inside-at d 3 K.lookup_kinds ps (omega arith) w in
        let (m, f) = fact_at 1 K.acked_kind K.lookup_kinds d 12 ps (omega arith) w in
        let b = sized_inside d 0x38 false 32 m (get_or ps 1 None) f in
        (omega arith, omega arith, omega arith, omega arith)

  zeros : (m : ℕ) → Told n (seen_as m 0 0 0 None None None None)
  zeros m = (omega arith, omega arith, omega arith, omega arith)

  told : (major : ℕ) → Tells (read_in d major)
  unfolding look_of
  told major =
      of-each Tells d zeros
      (λ h. record {
        solicit = solicit-told (within h);
        advertise = advertise-told (within h);
        request = request-told (within h);
        flood = flood-told (within h);
        inquire = inquire-told (within h);
        authority = authority-told (within h);
        ack = λ ps w. (omega arith, omega arith, omega arith, omega arith);
        lookup = lookup-told (within h);
      })
      major

-- every field told stands within the datagram
pub look_within : (d : List ℕ) (major : ℕ) → Told (length d) (look_of (read_in d major))
look_within d major = told d (length d) (λ h. omega arith) major

pub look_small : (d : List ℕ) (major : ℕ) → Told 1232 (look_of (read_in d major))
look_small d major = told d 1232 (λ h. h) major
