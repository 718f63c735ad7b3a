-- One field of a layout: what it is to read it, and what it is for a datagram to agree with it.
use Prim.Native.Nat.{ℕ, ◌+◌, ◌-◌, ◌≤◌}
use native.Mathlib.Omega.{arith}
use mathlib.Core.List.{List, ◌∷◌, ◌++◌}
use mathlib.Core.Bool.{Bool, true, false}
use mathlib.Core.Option.{Option, some, none}
use mathlib.Core.Path.{◌≡◌, refl, sym, ap, ◌∙◌}
use lib.ListN.{length, take, drop, replicate, length-replicate, length-take, length-drop}
use lib.Seq.{drop-drop}
use Rattle.octet.specs.Number.{digits_be}
use Rattle.octet.specs.Part.{part}
use mathlib.Core.Bool.{cond}
use Rattle.wire_shapes.specs.Field.{gap}
use Rattle.wire_shapes.specs.Shapes.{Kind, has_shape}
use Rattle.wire_fields.specs.Message.{Segment, ends, field_layout}
use Rattle.wire_fields.specs.Reading.{span_at, need_at, need_of, maybe_at, maybe_of, places_at, before, after_need, after_maybe}
use Rattle.wire_fields.specs.declared.Cursor.{Cursor}
use Rattle.wire_fields.specs.declared.Span.{Span}
use Rattle.wire_fields.specs.declared.Span.TheVariants.{Whole, Other, Cut}
use Rattle.std.specs.Prelude.{Some, None}
use Rattle.wire_fields.specs.declared.Place.{Place}
use Rattle.wire_fields.specs.Places.{Part, Need, Maybe}
use Rattle.wire_fields.proofs.StepLaws.{need-good, maybe-good, maybe-other}
use Rattle.wire_fields.proofs.SegmentLaws.{Agrees}

either : {A : Type 0} (b : Bool) (x y z : A) → x ≡ z → y ≡ z → cond b x y ≡ z
either true x y z p q = p
either false x y z p q = q

module _ (k : Kind) (ks : List Kind) (d : List ℕ) (i : ℕ) where
  pub field-whole : (o : Place) (c : Cursor) → span_at d i k.number k.padded ≡ Whole o c → has_shape k.shape (part o.start o.len d) ≡ true
      → places_at (k ∷ ks) d i ≡ before (Some o) (places_at ks d c.at)
  unfolding places_at
  field-whole o c q g =
      either k.optional _ _ _
      (ap (after_maybe (places_at ks d)) (sym (maybe-good d i k.number k.padded k.shape _ refl o c q g)))
      (ap (after_need (places_at ks d)) (sym (need-good d i k.number k.padded k.shape _ refl o c q g)))

  pub field-absent : k.optional ≡ true → span_at d i k.number k.padded ≡ Other
      → places_at (k ∷ ks) d i ≡ before None (places_at ks d i)
  unfolding places_at
  field-absent o q =
      rw o (ap (after_maybe (places_at ks d)) (sym (maybe-other d i k.number k.padded k.shape _ refl q)))

  -- how the places of a list of kinds came about
  pub data Came (ps : List Part) : Type 0 where
    left_out : (qs : List Part) → ps ≡ None ∷ qs → k.optional ≡ true → places_at ks d i ≡ some qs → Came ps
    found : (o : Place) (c : Cursor) (qs : List Part) → ps ≡ Some o ∷ qs → span_at d i k.number k.padded ≡ Whole o c
        → has_shape k.shape (part o.start o.len d) ≡ true → places_at ks d c.at ≡ some qs → Came ps

  behind : (p : Part) (o : Option (List Part)) (ps : List Part) → before p o ≡ some ps → (qs : List Part) × (o ≡ some qs) × (ps ≡ p ∷ qs)
  behind p none ps e = absurd (let z : ◌≡◌ {A = ℕ} 0 1 = cc in omega arith)
  behind p (some qs) ps e = (qs, refl, cc)

  -- r is the span and g whether its contents are good
  module _ (ps : List Part) where
    whole-came : (o : Place) (c : Cursor) → span_at d i k.number k.padded ≡ Whole o c → (g : Bool) → has_shape k.shape (part o.start o.len d) ≡ g
        → cond g (before (Some o) (places_at ks d c.at)) none ≡ some ps → Came ps
    whole-came o c q true g e =
        let b = behind (Some o) (places_at ks d c.at) ps e in
        found o c b.0 b.2 q g b.1
    whole-came o c q false g e = absurd (let z : ◌≡◌ {A = ℕ} 0 1 = cc in omega arith)

    -- the test goes through what follows it
    after-maybe : (g : Bool) (p : Part) (c : Cursor)
        → after_maybe (places_at ks d) (cond {A = Maybe} g (Some (p, c)) None) ≡ cond g (before p (places_at ks d c.at)) none
    after-maybe true p c = refl
    after-maybe false p c = refl

    after-need : (g : Bool) (o : Place) (c : Cursor)
        → after_need (places_at ks d) (cond {A = Need} g (Some (o, c)) None) ≡ cond g (before (Some o) (places_at ks d c.at)) none
    after-need true o c = refl
    after-need false o c = refl

    came-maybe : k.optional ≡ true → (r : Span) → span_at d i k.number k.padded ≡ r
        → after_maybe (places_at ks d) (maybe_of d k.shape i r) ≡ some ps → Came ps
    came-maybe a (Whole o c) q e =
        whole-came o c q _ refl (sym (after-maybe (has_shape k.shape (part o.start o.len d)) (Some o) c) ∙ e)
    came-maybe a Other q e =
        let b = behind None (places_at ks d i) ps e in
        left_out b.0 b.2 a b.1
    came-maybe a Cut q e = absurd (let z : ◌≡◌ {A = ℕ} 0 1 = cc in omega arith)

    came-need : (r : Span) → span_at d i k.number k.padded ≡ r → after_need (places_at ks d) (need_of d k.shape r) ≡ some ps → Came ps
    came-need (Whole o c) q e = whole-came o c q _ refl (sym (after-need (has_shape k.shape (part o.start o.len d)) o c) ∙ e)
    came-need Other q e = absurd (let z : ◌≡◌ {A = ℕ} 0 1 = cc in omega arith)
    came-need Cut q e = absurd (let z : ◌≡◌ {A = ℕ} 0 1 = cc in omega arith)

    by-optional : (o : Bool) → k.optional ≡ o
        → cond o (after_maybe (places_at ks d) (maybe_at d i k.number k.padded k.shape))
        (after_need (places_at ks d) (need_at d i k.number k.padded k.shape)) ≡ some ps → Came ps
    unfolding maybe_at need_at
    by-optional true o e = came-maybe o _ refl e
    by-optional false o e = came-need _ refl e

    pub field-came : places_at (k ∷ ks) d i ≡ some ps → Came ps
    unfolding places_at
    field-came e = by-optional k.optional refl e

-- a datagram agrees with a field that is there, and then with what follows
pub record Stands (k : Kind) (i : ℕ) (v d : List ℕ) (rest : List Segment) : Type 0 where
  pub head : take 4 (drop i d) ≡ digits_be 256 2 k.number ++ digits_be 256 2 (length v + 4)
  pub room : ends i k (some v) ≤ length d
  pub body : k.kept (part (i + 4) (length v) d) ≡ v
  pub tail : Agrees rest (drop (ends i k (some v)) d)

-- the padding after contents
abbrev past : Kind → ℕ → List ℕ → ℕ
past k i v = gap k.padded (i + (length v + 4))

zeros : (n : ℕ) → length (replicate {A = ℕ} n 0) ≡ n
zeros n = length-replicate {A = ℕ} n 0

module _ (k : Kind) (i : ℕ) (v d : List ℕ) (rest : List Segment) where
  where-rest : drop (past k i v) (drop (length v) (drop 4 (drop i d))) ≡ drop (ends i k (some v)) d
  where-rest =
      let e : i + 4 + length v + past k i v ≡ ends i k (some v) = omega arith in
      rw (drop-drop 4 i d, drop-drop (length v) (i + 4) d, drop-drop (past k i v) (i + 4 + length v) d, e)

  pub agrees-stands : Agrees (field_layout i k (some v) rest) (drop i d) → Stands k i v d rest
  unfolding digits_be
  agrees-stands h =
      let t = h.2.2 in
      let l₁ : 4 ≤ length d - i = rw length-drop at h.0 in
      let l₂ : length v ≤ length d - i - 4 = rw (length-drop 4 (drop i d), length-drop i d) at h.2.0 in
      let l₃ : past k i v ≤ length d - i - 4 - length v =
      rw (zeros (past k i v), length-drop (length v) (drop 4 (drop i d)), length-drop 4 (drop i d), length-drop i d) at t.0 in
      record {
        head = h.1;
        room = omega arith;
        body = rw (drop-drop 4 i d) at h.2.1;
        tail = rw (zeros (past k i v), where-rest) at t.2;
      }

  pub stands-agrees : Stands k i v d rest → Agrees (field_layout i k (some v) rest) (drop i d)
  unfolding digits_be
  stands-agrees s =
      let r : i + (length v + 4) + past k i v ≤ length d = s.room in
      let n = past k i v in
      let x = drop (length v) (drop 4 (drop i d)) in
      let lx : length x ≡ length d - i - 4 - length v = simp length-drop in
      let l : length (take n x) ≡ n = length-take n x ∙ omega arith in (
        simp length-drop (omega arith),
        s.head,
        (
          simp length-drop (omega arith),
          rw (drop-drop 4 i d) s.body,
          (rw (zeros n) (omega arith), rw (zeros n, l), rw (zeros n, where-rest) s.tail),
        ),
      )
