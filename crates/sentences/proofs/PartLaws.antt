-- An AUTHORITY in part, in words and by the reader's test. Assumes nothing.
use mathlib.Core.Path.{◌≡◌, refl, sym, ap, ap₂, subst, ◌∙◌}
use mathlib.Core.Logic.{◌↔◌}
use mathlib.Core.Bool.{Bool, true, false, not, cond, ◌&&◌}
use mathlib.Core.List.{List}
use Prim.Native.Nat.{ℕ, ◌+◌, ◌-◌, ◌≤◌}
use native.Mathlib.Omega.{arith}
use lib.Dec.{eqb}
use lib.ListN.{length}
use borrow.Author.Tests.{eq-eqb, ne_eqb, eqb-true, eqb-false, not-true}
use Rattle.octet.specs.Part.{part}
use Rattle.octet.proofs.PartLaws.{length_part}
use Rattle.octet.proofs.TestLaws.{both_true}
use Rattle.refusal.proofs.TableLaws.{both}
use Rattle.wire_shapes.specs.Field.{number_at}
use Rattle.wire_shapes.specs.Shapes.{has_shape, split_form}
use Rattle.wire_fields.specs.Reading.{span_at, need_of, need_at, whole_in}
use Rattle.wire_fields.specs.Refusals.{in_part, part_by_acked, part_by_split}
use Rattle.wire_fields.specs.Message.{type_of}
use Rattle.wire_shapes.specs.declared.Shape.{Shape}
use Rattle.wire_shapes.specs.declared.Shape.TheVariants.{Sized, Split}
use Rattle.wire_fields.specs.declared.Span.{Span}
use Rattle.wire_fields.specs.declared.Span.TheVariants.{Whole, Other, Cut}
use Rattle.wire_fields.specs.declared.Cursor.{Cursor}
use Rattle.std.specs.Prelude.{Some, None}
use Rattle.wire_fields.specs.declared.Place.{Place}
use Rattle.wire_fields.specs.Places.{here, Need}
use Rattle.wire_fields.proofs.SpanLaws.{span-whole, span_fits, span-length}
use Rattle.wire_fields.proofs.RefusalLaws.{split_four, sized_four}
use Rattle.sentences.specs.Numbers.{InPart}

-- a field that must be there, found
record Found (d : List ℕ) (i n : ℕ) (shape : Shape) (o : Place) (c : Cursor) : Type 0 where
  span : span_at d i n false ≡ Whole o c
  shaped : has_shape shape (part o.start o.len d) ≡ true

need_found : (d : List ℕ) (i n : ℕ) (shape : Shape) (o : Place) (c : Cursor) → need_at d i n false shape ≡ Some (o, c) → Found d i n shape o c
unfolding need_at
need_found d i n shape o c e = go (span_at d i n false) refl e
  where
    by : (b : Bool) (o' : Place) (c' : Cursor) → has_shape shape (part o'.start o'.len d) ≡ b → span_at d i n false ≡ Whole o' c'
        → cond {A = Need} b (Some (o', c')) None ≡ Some (o, c)
        → Found d i n shape o c
    by true o' c' h w q =
        let both : ◌≡◌ {A = Place × Cursor} (o', c') (o, c) = cc in
        let eo : o' ≡ o = ap (λ (x : Place × Cursor). x.0) both in
        let ec : c' ≡ c = ap (λ (x : Place × Cursor). x.1) both in
        record { span = w ∙ ap₂ Whole eo ec; shaped = ap (λ (x : Place). has_shape shape (part x.start x.len d)) (sym eo) ∙ h }
    by false o' c' h w q = let z : ◌≡◌ {A = ℕ} 0 1 = cc in absurd (omega arith)

    go : (x : Span) → span_at d i n false ≡ x → need_of d shape x ≡ Some (o, c) → Found d i n shape o c
    go (Whole o' c') w q = by (has_shape shape (part o'.start o'.len d)) o' c' refl w q
    go Other w q = let z : ◌≡◌ {A = ℕ} 0 1 = cc in absurd (omega arith)
    go Cut w q = let z : ◌≡◌ {A = ℕ} 0 1 = cc in absurd (omega arith)

-- one of four bytes
record Four (d : List ℕ) (i n : ℕ) (o : Place) (c : Cursor) : Type 0 where
  room : i + 8 ≤ length d
  number : number_at i 2 d ≡ n
  length-is : number_at (i + 2) 2 d ≡ 8
  starts : o.start ≡ i + 4
  long : o.len ≡ 4
  goes : c.at ≡ i + 8

found_four : (d : List ℕ) (i n : ℕ) (shape : Shape) (o : Place) (c : Cursor) → ((v : List ℕ) → has_shape shape v ≡ true → length v ≡ 4)
    → Found d i n shape o c → Four d i n o c
found_four d i n shape o c four f =
    let w = span_fits d i n false o c f.span in
    let e : o.len ≡ 4 = sym (span-length d i n false o c f.span) ∙ four (part o.start o.len d) f.shaped in
    let g : number_at (i + 2) 2 d ≡ 8 = omega (arith, w.long) in
    record {
      room = omega (arith, w.within);
      number = w.number;
      length-is = g;
      starts = w.starts;
      long = e;
      goes = w.goes ∙ omega arith;
    }

-- and made
four_need : (d : List ℕ) (i n : ℕ) (shape : Shape) → i + 8 ≤ length d → number_at i 2 d ≡ n → number_at (i + 2) 2 d ≡ 8
    → has_shape shape (part (i + 4) 4 d) ≡ true → need_at d i n false shape ≡ Some (record { start = i + 4; len = 4 }, record { at = i + 8 + 0 })
unfolding need_at
four_need d i n shape room e g h =
    ap (need_of d shape) (span-whole d i n false 8 0 (sym g) refl (omega arith) e (omega arith) (omega arith)) ∙ rw h refl

split_shape : (v : List ℕ) → has_shape Split v ≡ split_form v
unfolding has_shape
split_shape v = refl

module _ (d : List ℕ) where
  abbrev Whole-buffer : Type 0
  Whole-buffer = (number_at 0 2 (part 24 4 d) ≡ length d - 28) × (number_at 2 2 (part 24 4 d) ≡ 0)

  whole-at : Whole-buffer → whole_in d (here 24 4) ≡ true
  unfolding whole_in
  whole-at y = rw (eq-eqb (number_at 0 2 (part 24 4 d)) (length d - 28) y.0, eq-eqb (number_at 2 2 (part 24 4 d)) 0 y.1) refl

  at-whole : whole_in d (here 24 4) ≡ true → Whole-buffer
  unfolding whole_in
  at-whole e =
      let w = both_true (eqb (number_at 0 2 (part 24 4 d)) (length d - 28)) (eqb (number_at 2 2 (part 24 4 d)) 0) e in
      (eqb-true (number_at 0 2 (part 24 4 d)) (length d - 28) w.0, eqb-true (number_at 2 2 (part 24 4 d)) 0 w.1)

  whole_is : (s l : ℕ) → s ≡ 24 → l ≡ 4 → Whole-buffer → whole_in d (here s l) ≡ true
  whole_is s l es el y = ap₂ (λ (x z : ℕ). whole_in d (here x z)) es el ∙ whole-at y

  pub part-to : in_part (type_of d) d ≡ true → InPart d
  unfolding in_part
  part-to e = acked (need_at d 12 0x18 false (Sized 4)) refl w.1
    where
      w : (eqb (type_of d) 8 ≡ true) × (part_by_acked d (need_at d 12 0x18 false (Sized 4)) ≡ true)
      w = both_true (eqb (type_of d) 8) (part_by_acked d (need_at d 12 0x18 false (Sized 4))) e

      split : (o : Place) (c : Cursor) → Four d 12 0x18 o c → (x : Need) → need_at d 20 0x98 false Split ≡ x → part_by_split d x ≡ true → InPart d
      split o c f (Some (o', c')) q h =
          let g = need_found d 20 0x98 Split o' c' q in
          let v = found_four d 20 0x98 Split o' c' split_four g in
          record {
            type = eqb-true (type_of d) 8 w.0;
            long = v.room;
            acked = (f.number, f.length-is);
            split = (v.number, v.length-is);
            allowed = sym (split_shape (part 24 4 d)) ∙ ap₂ (λ (x y : ℕ). has_shape Split (part x y d)) (sym v.starts) (sym v.long) ∙ g.shaped;
            not-whole = λ y. both (whole_is o'.start o'.len v.starts v.long y) (not-true (whole_in d (Some o')) h);
          }
      split o c f None q h = both h refl

      acked : (x : Need) → need_at d 12 0x18 false (Sized 4) ≡ x → part_by_acked d x ≡ true → InPart d
      acked (Some (o, c)) q h =
          let v = found_four d 12 0x18 (Sized 4) o c sized_four (need_found d 12 0x18 (Sized 4) o c q) in
          split o c v (need_at d 20 0x98 false Split) refl (subst (λ (n : ℕ). part_by_split d (need_at d n 0x98 false Split) ≡ true) v.goes h)
      acked None q h = both h refl

  four-sized : 28 ≤ length d → has_shape (Sized 4) (part 16 4 d) ≡ true
  unfolding has_shape
  four-sized h = eq-eqb (length (part 16 4 d)) 4 (length_part 16 4 d (omega arith))

  not-whole : ¬ Whole-buffer → not (whole_in d (here 24 4)) ≡ true
  not-whole h = go (whole_in d (here 24 4)) refl
    where
      go : (b : Bool) → whole_in d (here 24 4) ≡ b → not (whole_in d (here 24 4)) ≡ true
      go true e = absurd (h (at-whole e))
      go false e = ap not e

  pub part-from : InPart d → in_part (type_of d) d ≡ true
  unfolding in_part
  part-from y =
      let first = four_need d 12 0x18 (Sized 4) (let h = y.long in omega arith) y.acked.0 y.acked.1 (four-sized y.long) in
      let second = four_need d 20 0x98 Split y.long y.split.0 y.split.1 (split_shape (part 24 4 d) ∙ y.allowed) in
      let inner : part_by_acked d (need_at d 12 0x18 false (Sized 4)) ≡ true =
      ap (part_by_acked d) first ∙ ap (part_by_split d) second ∙ not-whole y.not-whole in
      rw (eq-eqb (type_of d) 8 y.type, inner) refl
