-- Laws of the places found: one for each field of the type, each within the datagram and of its shape; taken apart field by field. Assumes nothing.
use Prim.Native.Nat.{ℕ, ◌+◌, ◌≤◌}
use native.Mathlib.Omega.{arith}
use mathlib.Core.List.{List, [], ◌∷◌}
use mathlib.Core.Bool.{Bool, true, false, cond}
use mathlib.Core.Option.{Option, some, none}
use mathlib.Core.Path.{◌≡◌, refl, sym, ap, subst, ◌∙◌}
use lib.Dec.{eqb}
use lib.ListN.{length}
use borrow.Author.Tests.{eqb-true}
use Rattle.octet.specs.Part.{part}
use Rattle.octet.proofs.PartLaws.{length_part}
use Rattle.wire_shapes.specs.Field.{number_at, gap}
use Rattle.wire_shapes.specs.Shapes.{Kind, has_shape}
use Rattle.wire_fields.specs.Kinds.{may}
use Rattle.wire_fields.specs.Reading.{places_at, value_of, contents_in}
use Rattle.std.specs.Prelude.{Some, None}
use Rattle.wire_fields.specs.Places.{Part, here}
use Rattle.wire_shapes.specs.declared.Shape.{Shape}
use Rattle.wire_shapes.specs.declared.Shape.TheVariants.{Sized}
use Rattle.wire_fields.proofs.SpanLaws.{span_fits}
use Rattle.wire_fields.proofs.FieldLaws.{Came, left_out, found, field-came}

-- a place for each kind, from place i on: none only where it is optional, and else right behind the field's head, within the datagram and of the
-- shape
abbrev pub Fact : Kind → List ℕ → ℕ → Part → Type 0
Fact k d i None = k.optional ≡ true
Fact k d i (Some p) = (has_shape k.shape (part p.start p.len d) ≡ true) × (p.start + p.len ≤ length d) × (p.start ≡ i + 4)

abbrev pub after : Kind → ℕ → Part → ℕ
after k i None = i
after k i (Some p) = i + (p.len + 4) + gap k.padded (i + (p.len + 4))

abbrev pub Stand : List Kind → List ℕ → ℕ → List Part → Type 0
Stand [] d i [] = Unit {0}
Stand [] d i (p ∷ ps) = ⊥
Stand (k ∷ ks) d i [] = ⊥
Stand (k ∷ ks) d i (p ∷ ps) = Fact k d i p × Stand ks d (after k i p) ps

at_end_lem : (d : List ℕ) (i : ℕ) (ps : List Part) (b : Bool) → ◌≡◌ {A = Option (List Part)} (cond b (some []) none) (some ps) → Stand [] d i ps
at_end_lem d i [] b e = tt
at_end_lem d i (p ∷ ps) true e = let z : ◌≡◌ {A = ℕ} 0 1 = cc in omega arith
at_end_lem d i (p ∷ ps) false e = let z : ◌≡◌ {A = ℕ} 0 1 = cc in omega arith

step : (k : Kind) (ks : List Kind) (d : List ℕ) (i : ℕ) → ((j : ℕ) (qs : List Part) → places_at ks d j ≡ some qs → Stand ks d j qs)
    → (ps : List Part) → Came k ks d i ps → Stand (k ∷ ks) d i ps
step k ks d i ih ps (left_out qs e o q) = rw e (o, ih i qs q)
step k ks d i ih ps (found p c qs e q g r) =
    let f = span_fits d i k.number k.padded p c q in
    let a = f.within in
    let b : number_at (i + 2) 2 d ≡ p.len + 4 = sym f.long in
    let o = f.starts in
    let n : c.at ≡ after k i (Some p) = f.goes ∙ ap (λ (w : ℕ). i + w + gap k.padded (i + w)) b in
    rw e ((g, omega arith, o), subst (λ (j : ℕ). Stand ks d j qs) n (ih c.at qs r))

pub stands : (ks : List Kind) (d : List ℕ) (i : ℕ) (ps : List Part) → places_at ks d i ≡ some ps → Stand ks d i ps
unfolding places_at
stands [] d i ps e = at_end_lem d i ps (eqb i (length d)) e
stands (k ∷ ks) d i ps e = step k ks d i (λ j qs q. stands ks d j qs q) ps (field-came k ks d i ps e)

-- ---- taken apart

pub record Needed (k : Kind) (ks : List Kind) (d : List ℕ) (i : ℕ) (ps : List Part) : Type 0 where
  pub s : ℕ
  pub l : ℕ
  pub rest : List Part
  pub is : ps ≡ here s l ∷ rest
  pub shaped : has_shape k.shape (part s l d) ≡ true
  pub within : s + l ≤ length d
  pub starts : s ≡ i + 4
  pub more : Stand ks d (after k i (here s l)) rest

pub record Maybed (k : Kind) (ks : List Kind) (d : List ℕ) (i : ℕ) (ps : List Part) : Type 0 where
  pub p : Part
  pub rest : List Part
  pub is : ps ≡ p ∷ rest
  pub fact : Fact k d i p
  pub more : Stand ks d (after k i p) rest

pub needed : (k : Kind) (ks : List Kind) (d : List ℕ) (i : ℕ) (ps : List Part) → k.optional ≡ false → Stand (k ∷ ks) d i ps → Needed k ks d i ps
needed k ks d i [] o w = absurd w
needed k ks d i (None ∷ ps) o w = absurd (let e = w.0 in let z : ◌≡◌ {A = ℕ} 0 1 = cc in omega arith)
needed k ks d i (Some p ∷ ps) o w = record { s = p.start; l = p.len; rest = ps; is = refl; shaped = w.0.0; within = w.0.1; starts = w.0.2; more = w.1 }

pub maybed : (k : Kind) (ks : List Kind) (d : List ℕ) (i : ℕ) (ps : List Part) → Stand (k ∷ ks) d i ps → Maybed k ks d i ps
maybed k ks d i [] w = absurd w
maybed k ks d i (p ∷ ps) w = record { p = p; rest = ps; is = refl; fact = w.0; more = w.1 }

pub ended : (d : List ℕ) (i : ℕ) (ps : List Part) → Stand [] d i ps → ps ≡ []
ended d i [] w = refl
ended d i (p ∷ ps) w = absurd w

pub last_needed : {k : Kind} {d : List ℕ} {i : ℕ} {ps : List Part} → (n : Needed k [] d i ps) → n.rest ≡ []
last_needed {k} {d} {i} n = ended d (after k i (here n.s n.l)) n.rest n.more

pub last_maybed : {k : Kind} {d : List ℕ} {i : ℕ} {ps : List Part} → (n : Maybed k [] d i ps) → n.rest ≡ []
last_maybed {k} {d} {i} n = ended d (after k i n.p) n.rest n.more

-- ---- contents

-- a field whose bits all count is its bytes
pub plain-may : (n : ℕ) (o : Bool) (shape : Shape) (d : List ℕ) (p : Part) → value_of (may n o shape []) d p ≡ contents_in d p
plain-may n o shape d (Some p) = refl
plain-may n o shape d None = refl

-- a field of a fixed size is so many bytes
pub sized-length : (n : ℕ) (d : List ℕ) (s l : ℕ) → has_shape (Sized n) (part s l d) ≡ true → s + l ≤ length d → l ≡ n
unfolding has_shape
sized-length n d s l e h = sym (length_part s l d h) ∙ eqb-true (length (part s l d)) n e
