-- Laws of the answer of reading: the places in it stand within the datagram, and a route entry is in form. Assumes nothing.
use Prim.Native.Nat.{ℕ, ◌+◌, ◌≤◌}
use native.Mathlib.Omega.{arith}
use mathlib.Core.Path.{◌≡◌, refl, sym, ap, subst, ◌∙◌}
use mathlib.Core.Bool.{Bool, true, false, ◌&&◌}
use mathlib.Core.List.{List, [], ◌∷◌}
use lib.ListN.{length, drop}
use borrow.Author.Tests.{leb-true}
use Rattle.octet.specs.Part.{part}
use Rattle.octet.proofs.PartLaws.{length_part}
use Rattle.octet.proofs.TestLaws.{both_true}
use Rattle.record.specs.Entry.{entry_form}
use Rattle.wire_shapes.specs.Shapes.{Kind, has_shape, array_form}
use Rattle.wire_fields.specs.Kinds.{must, may, last_of_two_and_one, flags_axc, keep_lookup, endpoints, flood_kinds, inquire_kinds, lookup_kinds}
use Rattle.std.specs.Prelude.{Some, None}
use Rattle.wire_fields.specs.Places.{Part, here}
use Rattle.wire_shapes.specs.declared.Shape.TheVariants.{Sized, Any, Entry, Lookup}
use Rattle.wire_read.specs.Answers.{read_in, flood_shown, inquire_shown, lookup_shown}
use Rattle.wire_read.specs.declared.Incoming as T
use Rattle.wire_read.specs.declared.Incoming.TheVariants as M
use Rattle.wire.proofs.StandLaws.{Fact, Stand, needed, maybed, sized-length}
use Rattle.wire.proofs.ShownLaws.{of-each}

-- ---- what is known of an answer

abbrev pub EntryIn : List ℕ → Part → Type 0
EntryIn d (Some p) = (p.start + p.len ≤ length d) × (entry_form (part p.start p.len d) ≡ true)
EntryIn d None = Unit {0}

-- an array of endpoints has a header of 8 bytes
abbrev pub PathIn : List ℕ → Part → Type 0
PathIn d (Some p) = (8 ≤ p.len) × (p.start + p.len ≤ length d)
PathIn d None = ⊥

abbrev pub KnownAnswer : List ℕ → T.Incoming → Type 0
KnownAnswer d (M.Refused n) = Unit {0}
KnownAnswer d (M.Solicit x) = Unit {0}
KnownAnswer d (M.Advertise x) = Unit {0}
KnownAnswer d (M.Request x) = Unit {0}
KnownAnswer d (M.Flood x) = (x.validate + 32 ≤ length d) × EntryIn d x.entry
KnownAnswer d (M.Inquire x) = x.validate + 32 ≤ length d
KnownAnswer d (M.Authority x) = Unit {0}
KnownAnswer d (M.Ack x) = Unit {0}
KnownAnswer d (M.Lookup x) = (x.target + 32 ≤ length d) × EntryIn d x.entry × PathIn d x.path

-- ---- of the three types with places that a plan looks at

entry_in_lem : (d : List ℕ) (i : ℕ) (p : Part) → Fact (may 0x9A true Entry []) d i p → EntryIn d p
unfolding has_shape
entry_in_lem d i (Some p) f = (f.1, f.0)
entry_in_lem d i None f = tt

-- a key of 32 bytes
key_in_lem : (d : List ℕ) (s l : ℕ) → has_shape (Sized 32) (part s l d) ≡ true → s + l ≤ length d → s + 32 ≤ length d
key_in_lem d s l e h = let n = sized-length 32 d s l e h in omega arith

flood_known : (d : List ℕ) (ps : List Part) → Stand flood_kinds d 12 ps → KnownAnswer d (flood_shown d ps)
flood_known d ps w =
    let n₀ = needed (must 0x43 true (Sized 3) last_of_two_and_one) (drop 1 flood_kinds) d 12 ps refl w in
    let n₁ = needed (must 0x39 false (Sized 32) []) (drop 2 flood_kinds) d _ n₀.rest refl n₀.more in
    let n₂ = maybed (may 0x9F true Any []) (drop 3 flood_kinds) d _ n₁.rest n₁.more in
    let n₃ = maybed (may 0x9C true Any []) (drop 4 flood_kinds) d _ n₂.rest n₂.more in
    let n₄ = maybed (may 0x9A true Entry []) (drop 5 flood_kinds) d _ n₃.rest n₃.more in
    let tail = n₁.is ∙ ap (λ (r : List Part). here n₁.s n₁.l ∷ r) (n₂.is ∙ ap (λ (r : List Part). n₂.p ∷ r)
    (n₃.is ∙ ap (λ (r : List Part). n₃.p ∷ r) n₄.is)) in
    let all = n₀.is ∙ ap (λ (r : List Part). here n₀.s n₀.l ∷ r) tail in
    subst (λ (q : List Part). KnownAnswer d (flood_shown d q)) (sym all)
    (key_in_lem d n₁.s n₁.l n₁.shaped n₁.within, entry_in_lem d _ n₄.p n₄.fact)

inquire_known : (d : List ℕ) (ps : List Part) → Stand inquire_kinds d 12 ps → KnownAnswer d (inquire_shown d ps)
inquire_known d ps w =
    let n₀ = needed (must 0x40 true (Sized 2) flags_axc) (drop 1 inquire_kinds) d 12 ps refl w in
    let n₁ = needed (must 0x39 false (Sized 32) []) (drop 2 inquire_kinds) d _ n₀.rest refl n₀.more in
    let all = n₀.is ∙ ap (λ (r : List Part). here n₀.s n₀.l ∷ r) n₁.is in
    subst (λ (q : List Part). KnownAnswer d (inquire_shown d q)) (sym all) (key_in_lem d n₁.s n₁.l n₁.shaped n₁.within)

abbrev controls : Kind
controls = record { number = 0x45; optional = false; padded = false; shape = Lookup; kept = keep_lookup }

-- endpoints in an array
array_in : (d : List ℕ) (s l : ℕ) → has_shape endpoints (part s l d) ≡ true → s + l ≤ length d → PathIn d (here s l)
unfolding has_shape array_form
array_in d s l e h = (omega (arith, leb-true 8 (length (part s l d)) (first _ _ _ _ _ _ _ e), length_part s l d h), h)
  where
    first : (a b c x y z w : Bool) → a && b && c && x && y && z && w ≡ true → a ≡ true
    first a b c x y z w e =
        (both_true a b (both_true (a && b) c (both_true (a && b && c) x (both_true (a && b && c && x) y (both_true (a && b && c && x && y) z
        (both_true (a && b && c && x && y && z) w e).0).0).0).0).0).0

lookup_known : (d : List ℕ) (ps : List Part) → Stand lookup_kinds d 12 ps → KnownAnswer d (lookup_shown d ps)
lookup_known d ps w =
    let n₀ = needed controls (drop 1 lookup_kinds) d 12 ps refl w in
    let n₁ = needed (must 0x38 false (Sized 32) []) (drop 2 lookup_kinds) d _ n₀.rest refl n₀.more in
    let n₂ = needed (must 0x39 false (Sized 32) []) (drop 3 lookup_kinds) d _ n₁.rest refl n₁.more in
    let n₃ = maybed (may 0x9A true Entry []) (drop 4 lookup_kinds) d _ n₂.rest n₂.more in
    let n₄ = needed (must 0x9E false endpoints []) (drop 5 lookup_kinds) d _ n₃.rest refl n₃.more in
    let tail = n₁.is ∙ ap (λ (r : List Part). here n₁.s n₁.l ∷ r) (n₂.is ∙ ap (λ (r : List Part). here n₂.s n₂.l ∷ r)
    (n₃.is ∙ ap (λ (r : List Part). n₃.p ∷ r) n₄.is)) in
    let all = n₀.is ∙ ap (λ (r : List Part). here n₀.s n₀.l ∷ r) tail in
    subst (λ (q : List Part). KnownAnswer d (lookup_shown d q)) (sym all)
    (key_in_lem d n₁.s n₁.l n₁.shaped n₁.within, entry_in_lem d _ n₃.p n₃.fact, array_in d n₄.s n₄.l n₄.shaped n₄.within)

-- ---- of each answer

pub known_answer : (d : List ℕ) (major : ℕ) → KnownAnswer d (read_in d major)
known_answer d major =
    of-each (KnownAnswer d) d (λ n. tt)
    (λ h. record {
      solicit = λ ps w. tt;
      advertise = λ ps w. tt;
      request = λ ps w. tt;
      flood = flood_known d;
      inquire = inquire_known d;
      authority = λ ps w. tt;
      ack = λ ps w. tt;
      lookup = lookup_known d;
    })
    major
