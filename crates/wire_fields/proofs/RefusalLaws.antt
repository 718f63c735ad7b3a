-- Laws of the table of reading's refusals: the steps in which the code goes through it; an AUTHORITY in part, and that a whole one is not; the four
-- bytes of split controls. Assumes nothing.
use Prim.Native.Nat.{ℕ, ◌+◌, ◌-◌, ◌≤◌}
use native.Mathlib.Omega.{arith}
use mathlib.Core.List.{List, [], ◌∷◌}
use mathlib.Core.Bool.{Bool, true, false, cond, not, ◌&&◌}
use mathlib.Core.Option.{Option, some, none}
use mathlib.Core.Path.{◌≡◌, refl, sym, ap, subst, ◌∙◌}
use lib.Dec.{leb, eqb}
use lib.ListN.{length, get_or, take}
use borrow.Author.Tests.{eqb-true, eq-eqb, le-leb}
use Rattle.octet.specs.Part.{part, same}
use Rattle.octet.proofs.TestLaws.{both_true}
use Rattle.refusal.specs.Table.{or_refuse}
use Rattle.wire_shapes.specs.Field.{number_at}
use Rattle.wire_shapes.specs.Shapes.{Kind, has_shape, split_form}
use Rattle.wire_shapes.proofs.ShapeLaws.{number-first, number_in}
use Rattle.wire_fields.specs.Kinds.{kinds_of, sized, derived, may, present, acked_kind, split_kind, authority_kinds}
use Rattle.wire_fields.specs.Message.{opening}
use Rattle.wire_fields.specs.Reading.{span_at, need_at, need_of, maybe_at, maybe_of, places_at, values_of, value_of, whole_in, FourAt, fields_as}
use Rattle.wire_fields.specs.Refusals.{Found, refused, found, found_of, spans_of, fields_by, part_by_split, in_part, found_in}
use Rattle.wire_fields.specs.declared.Cursor.{Cursor}
use Rattle.wire_fields.specs.declared.Span.{Span}
use Rattle.wire_fields.specs.declared.Span.TheVariants.{Whole, Other, Cut}
use Rattle.std.specs.Prelude.{Some, None}
use Rattle.wire_fields.specs.declared.Place.{Place}
use Rattle.wire_fields.specs.Places.{Part, Need, Maybe}
use Rattle.wire_shapes.specs.declared.Shape.{Shape}
use Rattle.wire_shapes.specs.declared.Shape.TheVariants.{Sized, Split}
use Rattle.wire_fields.proofs.SpanLaws.{span_fits, span-length}
use Rattle.wire_fields.proofs.StepLaws.{need-good}
use Rattle.wire_fields.proofs.FieldLaws.{Came, left_out, found as came, field-came}

-- ---- the steps of the code

-- the type's fields behind the test for an AUTHORITY in part
abbrev pub gated : ℕ → List ℕ → Found → Found
gated t d x = cond (in_part t d) (refused 7) x

abbrev pub by_type : ℕ → List ℕ → Option (List Kind) → Found
by_type t d none = refused 5
by_type t d (some ks) = gated t d (found_of t (fields_as t ks d))

-- what the code follows: each test once, and no more after one that fails
unfoldable pub in_steps : List ℕ → ℕ → Found
in_steps d major =
    cond (leb 12 (length d) && leb (length d) 1232)
    (cond (same (take 5 d) opening)
    (cond (eqb (get_or d 5 0) major) (by_type (get_or d 7 0) d (kinds_of (get_or d 7 0))) (refused 4))
    (refused 3))
    (refused 2)

not_first : (b : Bool) (x y z : Found) → y ≡ z → cond (not b) x y ≡ cond b z x
not_first true x y z e = e
not_first false x y z e = refl

six_seven : (p : Bool) (t : ℕ) (o : Option (List Part))
    → cond (not p && not (present o)) (refused 6) (cond p (refused 7) (found t (spans_of o))) ≡ cond p (refused 7) (found_of t o)
six_seven true t o = refl
six_seven false t none = refl
six_seven false t (some ps) = refl

by_type_lem : (d : List ℕ) (t : ℕ) (o : Option (List Kind))
    → cond (not (present o)) (refused 5)
    (cond (not (in_part t d) && not (present (fields_by t d o))) (refused 6) (cond (in_part t d) (refused 7) (found t (spans_of (fields_by t d o)))))
    ≡ by_type t d o
by_type_lem d t none = refl
by_type_lem d t (some ks) = six_seven (in_part t d) t (fields_as t ks d)

pub found_steps : (d : List ℕ) (major : ℕ) → found_in d major ≡ in_steps d major
unfolding found_in or_refuse in_steps
found_steps d major =
    not_first (leb 12 (length d) && leb (length d) 1232) _ _ _
    (not_first (same (take 5 d) opening) _ _ _
    (not_first (eqb (get_or d 5 0) major) _ _ _ (by_type_lem d (get_or d 7 0) (kinds_of (get_or d 7 0)))))

-- a datagram's header is right: what is found is by its type
pub found_by_type : (d : List ℕ) (major : ℕ) → 12 ≤ length d → length d ≤ 1232 → same (take 5 d) opening ≡ true → get_or d 5 0 ≡ major
    → found_in d major ≡ by_type (get_or d 7 0) d (kinds_of (get_or d 7 0))
unfolding in_steps
found_by_type d major a b o e =
    rw (found_steps d major, le-leb 12 (length d) a, le-leb (length d) 1232 b, o, eq-eqb (get_or d 5 0) major e)

-- ---- an AUTHORITY in part

-- what is found behind the test is found
pub gated_found : (d : List ℕ) (x : Found) (u : ℕ) (ps : List Part) (t : ℕ) → gated t d x ≡ found u ps → x ≡ found u ps
gated_found d x u ps t e = by (in_part t d) e
  where
    by : (b : Bool) → cond b (refused 7) x ≡ found u ps → x ≡ found u ps
    by true e = absurd (let z : ◌≡◌ {A = ℕ} 0 1 = cc in omega arith)
    by false e = e

-- by the two fields before the buffer
module _ (d : List ℕ) (o : Place) (c : Cursor) (q : need_at d 12 0x18 false (Sized 4) ≡ Some (o, c)) where
  pub part-split : (n : Need) → need_at d c.at 0x98 false Split ≡ n → in_part 8 d ≡ part_by_split d n
  unfolding in_part
  part-split n e = rw (q, e)

pub part_missing : (d : List ℕ) → need_at d 12 0x18 false (Sized 4) ≡ None → in_part 8 d ≡ false
unfolding in_part
part_missing d q = rw q

second : (ks : List Kind) (d : List ℕ) (o : Place) (c : Cursor) (ps qs : List Part) → ps ≡ Some o ∷ qs
    → need_at d 12 0x18 false (Sized 4) ≡ Some (o, c) → Came split_kind ks d c.at qs
    → sized 8 (length d) ps (values_of (acked_kind ∷ split_kind ∷ ks) d ps) ≡ true → in_part 8 d ≡ false
unfolding sized whole_in
second ks d o c ps qs e q (left_out rs e₂ a r) h = absurd (let z : ◌≡◌ {A = ℕ} 0 1 = cc in omega arith)
second ks d o c ps qs e q (came o₂ c₂ rs e₂ q₂ g r) h =
    let n = sym (need-good d c.at 0x98 false Split _ refl o₂ c₂ q₂ g) in
    let w : whole_in d (Some o₂) ≡ true = rw (e, e₂) at h in
    part-split d o c q (Some (o₂, c₂)) n ∙ ap not w

first : (ks : List Kind) (d : List ℕ) (ps : List Part) → Came acked_kind (split_kind ∷ ks) d 12 ps
    → sized 8 (length d) ps (values_of (acked_kind ∷ split_kind ∷ ks) d ps) ≡ true → in_part 8 d ≡ false
first ks d ps (left_out qs e a r) h = absurd (let z : ◌≡◌ {A = ℕ} 0 1 = cc in omega arith)
first ks d ps (came o c qs e q g r) h =
    second ks d o c ps qs e (sym (need-good d 12 0x18 false (Sized 4) _ refl o c q g)) (field-came split_kind ks d c.at qs r) h

whole_eight : (ks : List Kind) (d : List ℕ) (ps : List Part) → places_at (acked_kind ∷ split_kind ∷ ks) d 12 ≡ some ps
    → sized 8 (length d) ps (values_of (acked_kind ∷ split_kind ∷ ks) d ps) ≡ true → in_part 8 d ≡ false
whole_eight ks d ps e h = first ks d ps (field-came acked_kind (split_kind ∷ ks) d 12 ps e) h

eight : (ks : List Kind) → kinds_of 8 ≡ some ks → authority_kinds ≡ ks
unfolding kinds_of
eight ks e = cc

part_other : (d : List ℕ) (t : ℕ) → eqb t 8 ≡ false → in_part t d ≡ false
unfolding in_part
part_other d t q = rw q

of_eight : (d : List ℕ) (ps : List Part) (t : ℕ) → t ≡ 8 → (ks : List Kind) → authority_kinds ≡ ks → places_at ks d 12 ≡ some ps
    → sized t (length d) ps (values_of ks d ps) ≡ true → in_part t d ≡ false
of_eight d ps t z ks y e h = rw z (whole_eight _ d ps (rw (sym y) at e) (rw (z, sym y) at h))

by_eight : (t : ℕ) (ks : List Kind) (d : List ℕ) (ps : List Part) (b : Bool) → eqb t 8 ≡ b → kinds_of t ≡ some ks
    → places_at ks d 12 ≡ some ps → sized t (length d) ps (values_of ks d ps) ≡ true → in_part t d ≡ false
by_eight t ks d ps true q k e h =
    let z : t ≡ 8 = eqb-true t 8 q in
    let y : authority_kinds ≡ ks = eight ks (ap kinds_of (sym z) ∙ k) in
    of_eight d ps t z ks y e h
by_eight t ks d ps false q k e h = part_other d t q

-- a message that is whole is not in part
pub whole_not-part : (t : ℕ) (ks : List Kind) (d : List ℕ) (ps : List Part) → kinds_of t ≡ some ks → places_at ks d 12 ≡ some ps
    → sized t (length d) ps (values_of ks d ps) ≡ true → in_part t d ≡ false
whole_not-part t ks d ps k e h = by_eight t ks d ps _ refl k e h

-- ---- fields of four bytes

pub split_four : (v : List ℕ) → has_shape Split v ≡ true → length v ≡ 4
unfolding has_shape split_form
split_four v e = eqb-true (length v) 4 (both_true _ _ (both_true _ _ e).0).0

pub sized_four : (v : List ℕ) → has_shape (Sized 4) v ≡ true → length v ≡ 4
unfolding has_shape
sized_four v e = eqb-true (length v) 4 e

module _ (d : List ℕ) (i n : ℕ) (p : Bool) (h : Shape) (four : (v : List ℕ) → has_shape h v ≡ true → length v ≡ 4) where
  whole_four : (o : Place) (c : Cursor) → span_at d i n p ≡ Whole o c → has_shape h (part o.start o.len d) ≡ true → FourAt d (Some o)
  whole_four o c q g =
      let f = span_fits d i n p o c q in
      let e = four (part o.start o.len d) g in
      let z = span-length d i n p o c q in
      let a = f.within in
      let b = f.long in
      let o = f.starts in
      (sym z ∙ e, omega arith)

  need-by : (o : Place) (c : Cursor) (o₂ : Place) (c₂ : Cursor) → span_at d i n p ≡ Whole o₂ c₂ → (g : Bool) → has_shape h (part o₂.start o₂.len d) ≡ g
      → cond {A = Need} g (Some (o₂, c₂)) None ≡ Some (o, c) → FourAt d (Some o)
  need-by o c o₂ c₂ q true g e =
      let both : ◌≡◌ {A = Place × Cursor} (o₂, c₂) (o, c) = cc in
      let a : o₂ ≡ o = ap (λ (x : Place × Cursor). x.0) both in
      rw a at (whole_four o₂ c₂ q g)
  need-by o c o₂ c₂ q false g e = absurd (let z : ◌≡◌ {A = ℕ} 0 1 = cc in omega arith)

  need-of : (o : Place) (c : Cursor) (r : Span) → span_at d i n p ≡ r → need_of d h r ≡ Some (o, c) → FourAt d (Some o)
  need-of o c (Whole o₂ c₂) q e = need-by o c o₂ c₂ q _ refl e
  need-of o c Other q e = absurd (let z : ◌≡◌ {A = ℕ} 0 1 = cc in omega arith)
  need-of o c Cut q e = absurd (let z : ◌≡◌ {A = ℕ} 0 1 = cc in omega arith)

  pub need-four : (o : Place) (c : Cursor) → need_at d i n p h ≡ Some (o, c) → FourAt d (Some o)
  unfolding need_at
  need-four o c e = need-of o c _ refl e

  maybe-by : (r : Part) (c : Cursor) (o : Place) (c₂ : Cursor) → span_at d i n p ≡ Whole o c₂ → (g : Bool) → has_shape h (part o.start o.len d) ≡ g
      → cond {A = Maybe} g (Some (Some o, c₂)) None ≡ Some (r, c) → FourAt d r
  maybe-by r c o c₂ q true g e =
      let both : ◌≡◌ {A = Part × Cursor} (Some o, c₂) (r, c) = cc in
      let a : Some o ≡ r = ap (λ (x : Part × Cursor). x.0) both in
      subst (FourAt d) a (whole_four o c₂ q g)
  maybe-by r c o c₂ q false g e = absurd (let z : ◌≡◌ {A = ℕ} 0 1 = cc in omega arith)

  maybe-of : (r : Part) (c : Cursor) (s : Span) → span_at d i n p ≡ s → maybe_of d h i s ≡ Some (r, c) → FourAt d r
  maybe-of r c (Whole o c₂) q e = maybe-by r c o c₂ q _ refl e
  maybe-of r c Other q e =
      let both : ◌≡◌ {A = Part × Cursor} (None, record { at = i }) (r, c) = cc in
      subst (FourAt d) (ap (λ (x : Part × Cursor). x.0) both) tt
  maybe-of r c Cut q e = absurd (let z : ◌≡◌ {A = ℕ} 0 1 = cc in omega arith)

  pub maybe-four : (r : Part) (c : Cursor) → maybe_at d i n p h ≡ Some (r, c) → FourAt d r
  unfolding maybe_at
  maybe-four r c e = maybe-of r c _ refl e

-- REQUEST's split controls, as the reader tests them
pub split_value : (d : List ℕ) (p : Part) → derived (length d) p (value_of (may 0x98 false (Sized 4) []) d p) ≡ whole_in d p
unfolding whole_in
split_value d (Some o) = refl
split_value d None = refl

-- split controls, by the datagram's own bytes
pub whole_in_lem : (d : List ℕ) (o : Place) → o.start + o.len ≤ length d → o.len ≡ 4
    → whole_in d (Some o) ≡ eqb (number_at o.start 2 d) (length d - (o.start + o.len)) && eqb (number_at (o.start + 2) 2 d) 0
unfolding whole_in
whole_in_lem d o h m = rw (number-first d o.start o.len h 2 (omega arith), number_in d o.start o.len h 2 2 (omega arith))
