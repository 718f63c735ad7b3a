-- The laws of reading, for every list of kinds: what is found agrees with the layout of what it is (`sound`), and a datagram that
-- agrees with the layout of well formed fields is read as these (`complete`).
use Prim.Native.Nat.{ℕ, ◌+◌, ◌-◌, ◌≤◌, ◌<◌}
use native.Mathlib.Omega.{arith}
use mathlib.Core.List.{List, [], ◌∷◌}
use mathlib.Core.Bool.{Bool, true, false}
use mathlib.Core.Option.{Option, some, none}
use mathlib.Core.Path.{◌≡◌, refl, sym, ap, ◌∙◌}
use lib.Dec.{eqb}
use lib.ListN.{length, drop, length-drop, drop_of_length-le}
use borrow.Author.Tests.{eq-eqb, eqb-true}
use Rattle.octet.specs.Number.{Bytes}
use Rattle.octet.specs.Part.{part}
use mathlib.Core.Bool.{cond}
use Rattle.wire_shapes.specs.Field.{number_at, gap}
use Rattle.wire_shapes.specs.Shapes.{Kind, has_shape}
use Rattle.wire_fields.specs.Message.{Contents, Held, Formed, ends, layout_from, parts_of}
use Rattle.wire_fields.specs.Reading.{span_at, places_at, values_of, before}
use Rattle.wire_fields.specs.declared.Cursor.{Cursor}
use Rattle.wire_fields.specs.declared.Span.TheVariants.{Whole, Other}
use Rattle.std.specs.Prelude.{Some, None}
use Rattle.wire_fields.specs.declared.Place.{Place}
use Rattle.wire_fields.specs.Places.{Part, here}
use Rattle.wire_fields.proofs.SpanLaws.{span-short, span-other, span-whole, span_fits, span-length}
use Rattle.octet.proofs.PartLaws.{part-digits}
use Rattle.wire_fields.proofs.HeadLaws.{number_small, head_bytes, head-number, head_length}
use Rattle.wire_fields.proofs.SegmentLaws.{Agrees}
use Rattle.wire_fields.proofs.FieldLaws.{Came, left_out, found, field-came, field-whole, field-absent, Stands, agrees-stands, stands-agrees}

-- what is asked of a kind of field
pub record Law (k : Kind) : Type 0 where
  pub small : k.number < 65536
  pub long : (v : List ℕ) → length (k.kept v) ≡ length v
  pub once : (v : List ℕ) → k.kept (k.kept v) ≡ k.kept v
  pub same : (v : List ℕ) → has_shape k.shape (k.kept v) ≡ has_shape k.shape v
  pub bytes : (v : List ℕ) → Bytes v → Bytes (k.kept v)

-- and of a list of them: no number stands twice
abbrev pub Fresh : ℕ → List Kind → Type 0
Fresh n [] = Unit {0}
Fresh n (k ∷ ks) = (k.number ≡ n → ⊥) × Fresh n ks

abbrev pub Lawful : List Kind → Type 0
Lawful [] = Unit {0}
Lawful (k ∷ ks) = Law k × Fresh k.number ks × Lawful ks

-- reading is sound
abbrev Sound : List Kind → List ℕ → ℕ → List Part → Type 0
Sound ks d i ps = Formed ks (values_of ks d ps) × Agrees (layout_from i ks (values_of ks d ps)) (drop i d)

sound_here : (k : Kind) → Law k → (ks : List Kind) (d : List ℕ) → Bytes d → (i : ℕ) (o : Place) (c : Cursor) (qs : List Part)
    → span_at d i k.number k.padded ≡ Whole o c → has_shape k.shape (part o.start o.len d) ≡ true → Sound ks d c.at qs
    → Sound (k ∷ ks) d i (Some o ∷ qs)
sound_here k w ks d b i o c qs q g ih =
    let f = span_fits d i k.number k.padded o c q in
    let v = k.kept (part o.start o.len d) in
    let vs = values_of ks d qs in
    let lv : length v ≡ o.len = w.long (part o.start o.len d) ∙ span-length d i k.number k.padded o c q in
    let small : number_at (i + 2) 2 d < 65536 = number_small (i + 2) 2 d b (let r = f.room in omega arith) in
    let tw : number_at (i + 2) 2 d ≡ length v + 4 = omega arith in
    let e : c.at ≡ ends i k (some v) = f.goes ∙ ap (λ (n : ℕ). i + n + gap k.padded (i + n)) tw in
    let kv : k.kept (part (i + 4) (length v) d) ≡ v = ap₂-part d k (sym f.starts) lv in (
      (
        record {
          shaped = w.same (part o.start o.len d) ∙ g;
          clear = w.once (part o.start o.len d);
          whole = w.bytes (part o.start o.len d) (part-digits 256 o.start o.len d (omega arith) b);
          short = omega arith;
        },
        ih.0,
      ),
      stands-agrees k i v d (layout_from (ends i k (some v)) ks vs) (record {
        head = head_bytes d b i k.number (length v + 4) f.room f.number tw;
        room = rw (sym e) (rw f.goes f.within);
        body = kv;
        tail = rw e at ih.1;
      }),
    )
  where
    ap₂-part : (d : List ℕ) (k : Kind) {s s' l l' : ℕ} → s ≡ s' → l ≡ l' → k.kept (part s l d) ≡ k.kept (part s' l' d)
    ap₂-part d k p q = rw (p, q)

sound_step : (k : Kind) → Law k → (ks : List Kind) (d : List ℕ) → Bytes d → (i : ℕ)
    → ((j : ℕ) (qs : List Part) → places_at ks d j ≡ some qs → Sound ks d j qs) → (ps : List Part) → Came k ks d i ps → Sound (k ∷ ks) d i ps
sound_step k w ks d b i ih ps (left_out qs e o q) = let r = ih i qs q in rw e ((o, r.0), r.1)
sound_step k w ks d b i ih ps (found o c qs e q g r) = rw e (sound_here k w ks d b i o c qs q g (ih c.at qs r))

at_end_lem : (d : List ℕ) (i : ℕ) (ps : List Part) (t : Bool) → eqb i (length d) ≡ t → ◌≡◌ {A = Option (List Part)} (cond t (some []) none) (some ps)
    → drop i d ≡ []
at_end_lem d i ps true q e = let h : i ≡ length d = eqb-true i (length d) q in drop_of_length-le d {i = i} (omega arith)
at_end_lem d i ps false q e = absurd (let z : ◌≡◌ {A = ℕ} 0 1 = cc in omega arith)

pub sound : (ks : List Kind) → Lawful ks → (d : List ℕ) → Bytes d → (i : ℕ) (ps : List Part) → places_at ks d i ≡ some ps → Sound ks d i ps
unfolding places_at
sound [] w d b i ps e = (tt, at_end_lem d i ps _ refl e)
sound (k ∷ ks) w d b i ps e =
    sound_step k w.0 ks d b i (λ j qs q. sound ks w.2 d b j qs q) ps (field-came k ks d i ps e)

none_left : (d : List ℕ) (i : ℕ) → drop i d ≡ [] → length d ≤ i
none_left d i e = let h : length d - i ≡ 0 = sym (length-drop i d) ∙ ap length e in omega arith

-- where other fields follow, or nothing, the field of a number of its own is absent
pub absent : (n : ℕ) (p : Bool) (ks : List Kind) → Fresh n ks → Lawful ks → (d : List ℕ) (i : ℕ) (fs : List Contents)
    → Formed ks fs → Agrees (layout_from i ks fs) (drop i d) → span_at d i n p ≡ Other
absent n p [] u w d i [] f a = span-short d i n p (let h = none_left d i a in omega arith)
absent n p [] u w d i (x ∷ fs) f a = absurd f
absent n p (k ∷ ks) u w d i [] f a = absurd f
absent n p (k ∷ ks) u w d i (none ∷ fs) f a = absent n p ks u.1 w.2 d i fs f.1 a
absent n p (k ∷ ks) u w d i (some v ∷ fs) f a =
    let s = agrees-stands k i v d (layout_from (ends i k (some v)) ks fs) a in
    let e = head-number d i k.number (length v + 4) w.0.small f.0.short s.head in
    span-other d i n p (let r = s.room in omega arith) (λ q. u.0 (sym e ∙ q))

-- reading is complete
abbrev Complete : List Kind → List ℕ → ℕ → List Contents → Type 0
Complete ks d i fs = (places_at ks d i ≡ some (parts_of i ks fs)) × (values_of ks d (parts_of i ks fs) ≡ fs)

complete_here : (k : Kind) → Law k → (ks : List Kind) (d : List ℕ) (i : ℕ) (v : List ℕ) (fs : List Contents) → Held k v
    → Stands k i v d (layout_from (ends i k (some v)) ks fs) → Complete ks d (ends i k (some v)) fs → Complete (k ∷ ks) d i (some v ∷ fs)
complete_here k w ks d i v fs h s r =
    let n = length v + 4 in
    let x = gap k.padded (i + n) in
    let m : i + n + x ≤ length d = s.room in
    let e = head-number d i k.number n w.small h.short s.head in
    let el = head_length d i k.number n w.small h.short s.head in
    let z : n - 4 ≡ length v = omega arith in
    let q = rw z at (span-whole d i k.number k.padded n x (sym el) refl (omega arith) e (omega arith) m) in
    let g : has_shape k.shape (part (i + 4) (length v) d) ≡ true =
    sym (w.same (part (i + 4) (length v) d)) ∙ ap (has_shape k.shape) s.body ∙ h.shaped in (
      field-whole k ks d i (record { start = i + 4; len = length v }) (record { at = i + n + x }) q g ∙ ap (before (here (i + 4) (length v))) r.0,
      rw (s.body, r.1),
    )

pub complete : (ks : List Kind) → Lawful ks → (d : List ℕ) (i : ℕ) → i ≤ length d → (fs : List Contents)
    → Formed ks fs → Agrees (layout_from i ks fs) (drop i d) → Complete ks d i fs
unfolding places_at
complete [] w d i h [] f a =
    let e : i ≡ length d = (let l = none_left d i a in omega arith) in
    (rw (eq-eqb i (length d) e), refl)
complete [] w d i h (x ∷ fs) f a = absurd f
complete (k ∷ ks) w d i h [] f a = absurd f
complete (k ∷ ks) w d i h (none ∷ fs) f a =
    let r = complete ks w.2 d i h fs f.1 a in (
      field-absent k ks d i f.0 (absent k.number k.padded ks w.1 w.2 d i fs f.1 a) ∙ ap (before None) r.0,
      rw r.1,
    )
complete (k ∷ ks) w d i h (some v ∷ fs) f a =
    let s = agrees-stands k i v d (layout_from (ends i k (some v)) ks fs) a in
    complete_here k w.0 ks d i v fs f.0 s (complete ks w.2 d (ends i k (some v)) s.room fs f.1 s.tail)

-- the places found are those of the fields found
places_here : (k : Kind) → Law k → (ks : List Kind) (d : List ℕ) (i : ℕ) (o : Place) (c : Cursor) (qs : List Part)
    → span_at d i k.number k.padded ≡ Whole o c → parts_of c.at ks (values_of ks d qs) ≡ qs
    → parts_of i (k ∷ ks) (values_of (k ∷ ks) d (Some o ∷ qs)) ≡ Some o ∷ qs
places_here k w ks d i o c qs q ih =
    let f = span_fits d i k.number k.padded o c q in
    let v = k.kept (part o.start o.len d) in
    let lv : length v ≡ o.len = w.long (part o.start o.len d) ∙ span-length d i k.number k.padded o c q in
    let tw : number_at (i + 2) 2 d ≡ length v + 4 = omega arith in
    let e : ends i k (some v) ≡ c.at = sym (f.goes ∙ ap (λ (n : ℕ). i + n + gap k.padded (i + n)) tw) in
    rw (e, lv, sym f.starts, ih)

places_step : (k : Kind) → Law k → (ks : List Kind) (d : List ℕ) (i : ℕ)
    → ((j : ℕ) (qs : List Part) → places_at ks d j ≡ some qs → parts_of j ks (values_of ks d qs) ≡ qs)
    → (ps : List Part) → Came k ks d i ps → parts_of i (k ∷ ks) (values_of (k ∷ ks) d ps) ≡ ps
places_step k w ks d i ih ps (left_out qs e o q) = rw (e, ih i qs q)
places_step k w ks d i ih ps (found o c qs e q g r) = rw e (places_here k w ks d i o c qs q (ih c.at qs r))

at_last : (ps : List Part) (t : Bool) → ◌≡◌ {A = Option (List Part)} (cond t (some []) none) (some ps) → ◌≡◌ {A = List Part} [] ps
at_last ps true e = cc
at_last ps false e = absurd (let z : ◌≡◌ {A = ℕ} 0 1 = cc in omega arith)

pub places : (ks : List Kind) → Lawful ks → (d : List ℕ) (i : ℕ) (ps : List Part) → places_at ks d i ≡ some ps → parts_of i ks (values_of ks d ps) ≡ ps
unfolding places_at
places [] w d i ps e = at_last ps (eqb i (length d)) e
places (k ∷ ks) w d i ps e = places_step k w.0 ks d i (λ j qs q. places ks w.2 d j qs q) ps (field-came k ks d i ps e)
