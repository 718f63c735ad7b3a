-- Laws of whole datagrams, for every type of message: what `found_in` finds is what the datagram reads as, at most one message reads from a datagram,
-- what is written reads back, and what was read is written back with the ignored bits zero. Assumes nothing.
use Prim.Native.Nat.{ℕ, ◌+◌, ◌^◌, ◌≤◌, ◌<◌}
use native.Mathlib.Omega.{arith}
use mathlib.Core.List.{List, [], ◌∷◌, ◌++◌}
use mathlib.Core.Bool.{Bool, true, false}
use mathlib.Core.Option.{Option, some, none}
use mathlib.Core.Path.{◌≡◌, refl, sym, ap, ap₂, ◌∙◌}
use lib.Dec.{leb, eqb}
use lib.ListN.{length, get_or, take, drop, replicate, length-replicate}
use lib.Seq.{take-add, take-take, take_all, get_or-take, take-append_seam, drop-append_seam}
use borrow.Author.Tests.{le-leb, leb-true, eq-eqb, eqb-true}
use Rattle.octet.specs.Number.{Bytes, digits_be}
use mathlib.Core.Bool.{◌&&◌}
use mathlib.Core.Bool.{cond}
use Rattle.wire_shapes.specs.Field.{number_at, gap}
use Rattle.wire_shapes.specs.Shapes.{Kind}
use Rattle.wire_fields.specs.Kinds.{kinds_of, joined_fields, sized}
use Rattle.wire_fields.specs.Message.{opening, Segment, Contents, Formed, ends, layout_from, message_bytes, cleared, Message, header_of, layout_of, parts_of, WellFormed, Reads}
use Rattle.octet.specs.Part.{same}
use Rattle.octet.proofs.PartLaws.{part_add, part_one, part_two}
use Rattle.octet.proofs.TestLaws.{same-eq, same_refl, both_true}
use Rattle.octet.proofs.BigLaws.{length-digits_be}
use Rattle.wire_fields.specs.Reading.{checked, fields_as, places_at, values_of, message_at}
use Rattle.wire_fields.specs.Refusals.{Found, refused, found, found_of, found_in}
use Rattle.wire_fields.specs.Places.{Part}
use Rattle.record.proofs.PlaceLaws.{part-part}
use Rattle.wire_fields.proofs.HeadLaws.{digits_at, number_at_lem, number_small}
use Rattle.wire_fields.proofs.SegmentLaws.{Agrees, Lengths, agrees_of, of_agrees, cleared-length}
use Rattle.wire_fields.proofs.TableLaws.{Lawful, sound, complete, places}
use Rattle.wire_fields.proofs.RefusalLaws.{by_type, in_steps, found_steps, gated_found, whole_not-part}
use Rattle.wire_fields.proofs.KindLaws.{lawful}

-- the clearing of every segment of a layout keeps the length
pub lengths : (ks : List Kind) → Lawful ks → (i : ℕ) (fs : List Contents) → Lengths (layout_from i ks fs)
lengths [] w i fs = tt
lengths (k ∷ ks) w i [] = tt
lengths (k ∷ ks) w i (none ∷ fs) = lengths ks w.2 i fs
lengths (k ∷ ks) w i (some v ∷ fs) =
    (λ x. refl, (w.0.long, (λ x. length-replicate {A = ℕ} (length x) 0, lengths ks w.2 (ends i k (some v)) fs)))

passed : (b : Bool) (x : Found) (n t : ℕ) (ps : List Part) → cond b x (refused n) ≡ found t ps → (b ≡ true) × (x ≡ found t ps)
passed true x n t ps e = (refl, e)
passed false x n t ps e = absurd (let z : ◌≡◌ {A = ℕ} 0 1 = cc in omega arith)

-- the header, as bytes and as numbers
pub length_header : (m : Message) → length (header_of m) ≡ 12
length_header m = omega (arith, length-digits_be 256 4 m.id)

header_bytes_lem : (d : List ℕ) → Bytes d → 12 ≤ length d → take 5 d ≡ opening → (ks : List Kind) (ps : List Part)
    → take 12 d ≡ header_of (message_at ks d (get_or d 7 0) ps)
header_bytes_lem d b h e ks ps =
    take-add 5 7 d
    ∙ ap₂ ◌++◌ e
    (part_add 5 3 4 d ∙ ap₂ ◌++◌ (part_add 5 2 1 d ∙ ap₂ ◌++◌ (part_two 5 d (omega arith)) (part_one 7 d (omega arith)))
    (sym (digits_at 8 4 d b (omega arith))))

-- how a message was found
pub record Way (d : List ℕ) (major t : ℕ) (ps : List Part) (ks : List Kind) : Type 0 where
  pub least : 12 ≤ length d
  pub most : length d ≤ 1232
  pub opens : take 5 d ≡ opening
  pub version : get_or d 5 0 ≡ major
  pub kind : get_or d 7 0 ≡ t
  pub kinds : kinds_of t ≡ some ks
  pub places : places_at ks d 12 ≡ some ps
  pub joins : joined_fields t (values_of ks d ps) ≡ true
  pub sizes : sized t (length d) ps (values_of ks d ps) ≡ true

checked_found : (t₀ t : ℕ) (ks : List Kind) (d : List ℕ) (o : Option (List Part)) (ps : List Part) → found_of t₀ (checked t₀ ks d o) ≡ found t ps
    → (t₀ ≡ t) × (o ≡ some ps) × (joined_fields t (values_of ks d ps) && sized t (length d) ps (values_of ks d ps) ≡ true)
checked_found t₀ t ks d none ps e = absurd (let z : ◌≡◌ {A = ℕ} 0 1 = cc in omega arith)
checked_found t₀ t ks d (some qs) ps e = by _ refl e
  where
    by : (b : Bool) → joined_fields t₀ (values_of ks d qs) && sized t₀ (length d) qs (values_of ks d qs) ≡ b
        → found_of t₀ (cond b (some qs) none) ≡ found t ps
        → (t₀ ≡ t) × (some qs ≡ some ps) × (joined_fields t (values_of ks d ps) && sized t (length d) ps (values_of ks d ps) ≡ true)
    by true b e =
        let p : t₀ ≡ t = cc in
        let q : qs ≡ ps = cc in
        (p, ap some q, rw (p, q) at b)
    by false b e = absurd (let z : ◌≡◌ {A = ℕ} 0 1 = cc in omega arith)

by_kinds : (d : List ℕ) (major t : ℕ) (ps : List Part) → leb 12 (length d) && leb (length d) 1232 ≡ true
    → same (take 5 d) opening ≡ true → eqb (get_or d 5 0) major ≡ true
    → (o : Option (List Kind)) → kinds_of (get_or d 7 0) ≡ o → by_type (get_or d 7 0) d o ≡ found t ps → (ks : List Kind) × Way d major t ps ks
unfolding fields_as
by_kinds d major t ps b₁ b₂ b₃ none q e = absurd (let z : ◌≡◌ {A = ℕ} 0 1 = cc in omega arith)
by_kinds d major t ps b₁ b₂ b₃ (some ks) q e =
    let g = gated_found d (found_of (get_or d 7 0) (checked (get_or d 7 0) ks d (places_at ks d 12))) t ps (get_or d 7 0) e in
    let r = checked_found (get_or d 7 0) t ks d (places_at ks d 12) ps g in
    let sizes = both_true (leb 12 (length d)) (leb (length d) 1232) b₁ in
    let rest = both_true (joined_fields t (values_of ks d ps)) (sized t (length d) ps (values_of ks d ps)) r.2 in (
      ks,
      record {
        least = leb-true _ _ sizes.0;
        most = leb-true _ _ sizes.1;
        opens = same-eq (take 5 d) opening b₂;
        version = eqb-true _ _ b₃;
        kind = r.0;
        kinds = ap kinds_of (sym r.0) ∙ q;
        places = r.1;
        joins = rest.0;
        sizes = rest.1;
      },
    )

pub way : (d : List ℕ) (major t : ℕ) (ps : List Part) → found_in d major ≡ found t ps → (ks : List Kind) × Way d major t ps ks
unfolding in_steps
way d major t ps e =
    let r₁ = passed _ _ 2 t ps (sym (found_steps d major) ∙ e) in
    let r₂ = passed _ _ 3 t ps r₁.1 in
    let r₃ = passed _ _ 4 t ps r₂.1 in
    by_kinds d major t ps r₁.0 r₂.0 r₃.0 _ refl r₃.1

-- what is found is what the datagram reads as
pub found_reads : (d : List ℕ) → Bytes d → (major t : ℕ) (ps : List Part) → found_in d major ≡ found t ps
    → (ks : List Kind) × Reads ks d (message_at ks d t ps) × (get_or d 5 0 ≡ major)
unfolding digits_be
found_reads d b major t ps e =
    let (ks, w) = way d major t ps e in
    let m = message_at ks d t ps in
    let law = lawful t ks w.kinds in
    let s = sound ks law d b 12 ps w.places in
    let h : take 12 d ≡ header_of m =
    header_bytes_lem d b w.least w.opens ks ps ∙ ap (λ (x : ℕ). header_of (message_at ks d x ps)) w.kind in
    let a : Agrees (layout_of ks m) d = (w.least, h, s.1) in
    let c = of_agrees (layout_of ks m) d a in
    let l = lengths ks law 12 (values_of ks d ps) in
    let n : length (message_bytes (layout_of ks m)) ≡ length d = sym (ap length c) ∙ cleared-length (layout_of ks m) (λ x. refl, l) d in
    let b₅ = b 5 in
    let b₆ = b 6 in
    let b₇ = b 7 in
    let i₈ = number_small 8 4 d b w.least in
    let o = w.most in
    let k = w.kind in (
      ks,
      record {
        well = record {
          known = w.kinds;
          major-byte = b₅;
          minor-byte = b₆;
          type-byte = omega arith;
          id-small = i₈;
          formed = s.0;
          joins = w.joins;
          sizes = rw (n, places ks law d 12 ps w.places) w.sizes;
          fits = omega arith;
        };
        same = c;
      },
      w.version,
    )

-- the header of a datagram that reads as a message
module _ (d : List ℕ) (m : Message) (e : take 12 d ≡ header_of m) where
  header_at : (j : ℕ) → j < 12 → get_or d j 0 ≡ get_or (header_of m) j 0
  header_at j h = sym (get_or-take 12 d j 0 h) ∙ ap (λ (l : List ℕ). get_or l j 0) e

  header-opens : take 5 d ≡ opening
  header-opens = sym (take-take 5 12 d (omega arith)) ∙ ap (take 5) e

  header-id : m.id < 2 ^ 32 → number_at 8 4 d ≡ m.id
  header-id h =
      number_at_lem 8 4 m.id d h
      (sym (part-part 0 12 8 4 d (omega arith)) ∙ ap (λ (l : List ℕ). take 4 (drop 8 l)) e
      ∙ take_all 4 (digits_be 256 4 m.id) (omega (arith, length-digits_be 256 4 m.id)))

-- what a datagram reads as is found
pub reads_found : (ks : List Kind) (d : List ℕ) (m : Message) → Reads ks d m
    → (found_in d m.major ≡ found m.type (parts_of 12 ks m.fields)) × (message_at ks d m.type (parts_of 12 ks m.fields) ≡ m)
unfolding in_steps fields_as digits_be
reads_found ks d m r =
    let w = r.well in
    let law = lawful m.type ks w.known in
    let l = lengths ks law 12 m.fields in
    let a = agrees_of (layout_of ks m) (λ x. refl, l) d r.same in
    let n : length (message_bytes (layout_of ks m)) ≡ length d =
    sym (ap length r.same) ∙ cleared-length (layout_of ks m) (λ x. refl, l) d in
    let f = w.fits in
    let h : 12 ≤ length d = a.0 in
    let e : take 12 d ≡ header_of m = a.1 in
    let c = complete ks law d 12 h m.fields w.formed a.2 in
    let z : sized m.type (length d) (parts_of 12 ks m.fields) m.fields ≡ true = rw n at w.sizes in
    let y = whole_not-part m.type ks d (parts_of 12 ks m.fields) w.known c.0 (rw c.1 z) in
    let e₅ : get_or d 5 0 ≡ m.major = header_at d m e 5 (omega arith) in
    let e₆ : get_or d 6 0 ≡ m.minor = header_at d m e 6 (omega arith) in
    let e₇ : get_or d 7 0 ≡ m.type = header_at d m e 7 (omega arith) in (
      found_steps d m.major
          ∙ rw (
            le-leb 12 (length d) h,
            le-leb (length d) 1232 (omega arith),
            header-opens d m e,
            same_refl opening,
            eq-eqb (get_or d 5 0) m.major e₅,
            e₇,
            w.known,
            y,
            c.0,
            c.1,
            w.joins,
            z,
          ),
      rw (e₅, e₆, header-id d m e w.id-small, c.1),
    )

-- at most one message reads from a datagram
pub reads_once : (ks₁ ks₂ : List Kind) (d : List ℕ) (m₁ m₂ : Message) → Reads ks₁ d m₁ → Reads ks₂ d m₂ → m₁ ≡ m₂
reads_once ks₁ ks₂ d m₁ m₂ r₁ r₂ =
    let f₁ = reads_found ks₁ d m₁ r₁ in
    let f₂ = reads_found ks₂ d m₂ r₂ in
    let p₁ = parts_of 12 ks₁ m₁.fields in
    let p₂ = parts_of 12 ks₂ m₂.fields in
    let v : m₁.major ≡ m₂.major = sym (ap (λ (m : Message). m.major) f₁.1) ∙ ap (λ (m : Message). m.major) f₂.1 in
    let q : found m₁.type p₁ ≡ found m₂.type p₂ = sym f₁.0 ∙ ap (found_in d) v ∙ f₂.0 in
    let t : m₁.type ≡ m₂.type = cc in
    let p : p₁ ≡ p₂ = cc in
    let k : ks₁ ≡ ks₂ = cc (r₁.well.known, r₂.well.known) in
    sym f₁.1 ∙ rw (t, p, k) f₂.1

-- segments whose bytes have the ignored bits zero
abbrev Fixed : List Segment → Type 0
Fixed [] = Unit {0}
Fixed (s ∷ ss) = (s.kept s.bytes ≡ s.bytes) × Fixed ss

fixed_same : (ss : List Segment) → Fixed ss → cleared ss (message_bytes ss) ≡ message_bytes ss
fixed_same [] h = refl
fixed_same (s ∷ ss) h =
    rw (take-append_seam s.bytes (message_bytes ss), drop-append_seam s.bytes (message_bytes ss), h.0, fixed_same ss h.1)

fixed_layout : (ks : List Kind) (i : ℕ) (fs : List Contents) → Formed ks fs → Fixed (layout_from i ks fs)
fixed_layout [] i fs f = tt
fixed_layout (k ∷ ks) i [] f = tt
fixed_layout (k ∷ ks) i (none ∷ fs) f = fixed_layout ks i fs f.1
fixed_layout (k ∷ ks) i (some v ∷ fs) f = (
  refl,
  (
    f.0.clear,
    (
      ap (λ (n : ℕ). replicate n 0) (length-replicate {A = ℕ} (gap k.padded (i + (length v + 4))) 0),
      fixed_layout ks (ends i k (some v)) fs f.1,
    ),
  ),
)

-- what is written reads back as the same message
pub written_reads : (ks : List Kind) (m : Message) → WellFormed ks m → Reads ks (message_bytes (layout_of ks m)) m
written_reads ks m w =
    record { well = w; same = fixed_same (layout_of ks m) (refl, fixed_layout ks 12 m.fields w.formed) }

-- what was read, written again, is the datagram with the ignored bits zero
pub read_written : (ks : List Kind) (d : List ℕ) (m : Message) → Reads ks d m → message_bytes (layout_of ks m) ≡ cleared (layout_of ks m) d
read_written ks d m r = sym r.same
