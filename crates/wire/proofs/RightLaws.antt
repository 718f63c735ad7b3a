-- Laws of what is written again being right: a place that was found is a piece of its row's shape, and so the pieces of an answer of each type
-- are right for its rows. Assumes nothing.
use Prim.Native.Nat.{ℕ, suc, ◌+◌, ◌≤◌}
use native.Mathlib.Omega.{arith}
use mathlib.Core.List.{List, [], ◌∷◌}
use mathlib.Core.Bool.{Bool, true, false, cond, ◌&&◌}
use mathlib.Core.Path.{◌≡◌, refl, sym, ap, ap₂, subst, ◌∙◌}
use lib.Dec.{leb}
use lib.ListN.{length, get_or, drop}
use borrow.Author.Tests.{le-leb}
use Rattle.octet.specs.Number.{digits_be}
use Rattle.octet.specs.Part.{part}
use Rattle.wire_shapes.specs.Field.{number_at}
use Rattle.wire_shapes.specs.Shapes.{Kind, has_shape, lookup_form, is_criteria}
use Rattle.wire_fields.specs.Kinds.{one_of, key_list, endpoints, codes, solicit_kinds, advertise_kinds, request_kinds, flood_kinds, inquire_kinds, buffer_kinds, authority_kinds, ack_kinds, lookup_kinds}
use Rattle.std.specs.Prelude.{Some, None}
use Rattle.wire_fields.specs.Places.{Part}
use Rattle.wire_shapes.specs.declared.Shape.{Shape}
use Rattle.wire_shapes.specs.declared.Shape.TheVariants.{Sized, Any, Entry, Lookup}
use Rattle.wire_shapes.proofs.ShapeLaws.{lookup-in}
use Rattle.wire_buffer.specs.Buffer.{flag_at, start_of}
use Rattle.wire_read.specs.Answers.{head_of, is_here, solicit_shown, advertise_shown, request_shown, flood_shown, inquire_shown, authority_shown, ack_shown, lookup_shown}
use Rattle.wire_write.specs.Writing.{Made}
use Rattle.wire_write.specs.Pieces.{Lent, lent_of, piece_ok, rows_ok, made_by}
use Rattle.wire_write.specs.Rows.{need_row, spelled_piece, first_piece, no_piece, spelled_bytes, flood_rows}
use Rattle.wire_read.specs.Meaning.{bit}
use Rattle.wire_write.specs.declared.Row.{Row}
use Rattle.wire_write.specs.declared.Piece.{Piece}
use Rattle.wire_copy.specs.Resent.{resent, piece_of}
use Rattle.wire.proofs.StandLaws.{Fact, after, Stand, sized-length}
use Rattle.wire.proofs.MeaningLaws.{lookup_length}

-- a place that is right for a kind; the places of a list, from the one of an index on, for a list of kinds
abbrev pub Right : Bool → Shape → List ℕ → Part → Type 0
Right o h d None = o ≡ true
Right o h d (Some p) = (has_shape h (part p.start p.len d) ≡ true) × (p.start + p.len ≤ length d)

abbrev pub Rights : List Kind → List ℕ → List Part → ℕ → Type 0
Rights [] d ps j = Unit {0}
Rights (k ∷ ks) d ps j = Right k.optional k.shape d (get_or ps j None) × Rights ks d ps (suc j)

shift : (ks : List Kind) (d : List ℕ) (p : Part) (ps : List Part) (j : ℕ) → Rights ks d ps j → Rights ks d (p ∷ ps) (suc j)
shift [] d p ps j r = tt
shift (k ∷ ks) d p ps j r = (r.0, shift ks d p ps (suc j) r.1)

fact_right : (k : Kind) (d : List ℕ) (i : ℕ) (p : Part) → Fact k d i p → Right k.optional k.shape d p
fact_right k d i None f = f
fact_right k d i (Some p) f = (f.0, f.1)

pub stand_rights : (ks : List Kind) (d : List ℕ) (i : ℕ) (ps : List Part) → Stand ks d i ps → Rights ks d ps 0
stand_rights [] d i ps w = tt
stand_rights (k ∷ ks) d i [] w = absurd w
stand_rights (k ∷ ks) d i (p ∷ ps) w = (fact_right k d i p w.0, shift ks d p ps 0 (stand_rights ks d (after k i p) ps w.1))

pub buffer_rights : (d : List ℕ) (i : ℕ) (ps : List Part) → Stand authority_kinds d i ps → Rights buffer_kinds d (drop 2 ps) 0
buffer_rights d i [] w = absurd w
buffer_rights d i (p ∷ []) w = absurd w.1
buffer_rights d i (p ∷ q ∷ ps) w = stand_rights buffer_kinds d _ ps w.1.1

-- each piece is right for its row
abbrev AllOk : Lent → List Row → List Piece → Type 0
AllOk l [] ps = Unit {0}
AllOk l (r ∷ rs) [] = Unit {0}
AllOk l (r ∷ rs) (p ∷ ps) = (piece_ok l r p ≡ true) × AllOk l rs ps

all_ok : (l : Lent) (rs : List Row) (ps : List Piece) → AllOk l rs ps → rows_ok l rs ps ≡ true
all_ok l [] ps h = refl
all_ok l (r ∷ rs) [] h = refl
all_ok l (r ∷ rs) (p ∷ ps) h = ap₂ ◌&&◌ h.0 (all_ok l rs ps h.1)

made_ok : (x : Made) (major minor type id : ℕ) (l : Lent) (rs : List Row) (ps : List Piece) → x ≡ made_by major minor type id l rs ps
    → AllOk l rs ps → x.ok ≡ true
unfolding made_by
made_ok x major minor type id l rs ps e h = ap (λ (y : Made). y.ok) e ∙ all_ok l rs ps h

-- a piece at a place; so many bytes of it where the field is there; a piece of the writer's own
module _ (d : List ℕ) where
  right-piece : (o : Bool) (h : Shape) (p : Part) → Right o h d p
      → piece_ok (lent_of d d d) (record { number = 0; optional = o; padded = false; shape = h }) (piece_of p) ≡ true
  right-piece o h None f = f
  right-piece o h (Some p) f = ap₂ ◌&&◌ (le-leb (p.start + p.len) (length d) f.1) f.0

  right-first : (n : ℕ) (p : Part) → Right false (Sized n) d p → piece_ok (lent_of d d d) (need_row 0 false (Sized n)) (first_piece (start_of p) n) ≡ true
  right-first n None f = absurd (let z : ◌≡◌ {A = ℕ} 0 1 = cc in omega arith)
  right-first n (Some p) f =
      subst (λ (x : ℕ). leb (p.start + x) (length d) && has_shape (Sized n) (part p.start x d) ≡ true) (sized-length n d p.start p.len f.0 f.1)
      (ap₂ ◌&&◌ (le-leb (p.start + p.len) (length d) f.1) f.0)

right_own : (b : Bool) → cond b true true ≡ true
right_own true = refl
right_own false = refl

right_lookup : (d : List ℕ) (p : Part) → Right false Lookup d p → leb (get_or d (start_of p + 5) 0) 3 && is_criteria (get_or d (start_of p + 4) 0) ≡ true
unfolding has_shape
right_lookup d None f = absurd (let z : ◌≡◌ {A = ℕ} 0 1 = cc in omega arith)
right_lookup d (Some p) f = sym (lookup-in d p.start p.len f.1 (lookup_length d p.start p.len f.0 f.1)) ∙ f.0

-- ---- the answers

module _ (major : ℕ) (d : List ℕ) (ps : List Part) where
  pub solicit-right : Rights solicit_kinds d ps 0 → (resent major d (solicit_shown d ps)).ok ≡ true
  unfolding resent has_shape digits_be
  solicit-right w = made_ok (resent major d (solicit_shown d ps)) _ _ _ _ _ _ _ refl (
    right-piece d true Entry (get_or ps 0 None) w.0,
    (
      right-first d 20 (get_or ps 1 None) w.1.0,
      (refl, (refl, (refl, (refl, (refl, (refl, (refl, tt))))))),
    ),
  )

  pub advertise-right : Rights advertise_kinds d ps 0 → (resent major d (advertise_shown d ps)).ok ≡ true
  unfolding resent has_shape digits_be
  advertise-right w = made_ok (resent major d (advertise_shown d ps)) _ _ _ _ _ _ _ refl (
    refl,
    (
      right-piece d false key_list (get_or ps 1 None) w.1.0,
      (
        right-first d 20 (get_or ps 2 None) w.1.1.0,
        (
          refl,
          (
            refl,
            (
              refl,
              (
                refl,
                (
                  refl,
                  (refl, tt),
                ),
              ),
            ),
          ),
        ),
      ),
    ),
  )

  pub request-right : Rights request_kinds d ps 0 → (resent major d (request_shown d ps)).ok ≡ true
  unfolding resent has_shape digits_be
  request-right w = made_ok (resent major d (request_shown d ps)) _ _ _ _ _ _ _ refl (
    right_own (is_here (get_or ps 0 None)),
    (
      right_own (is_here (get_or ps 1 None)),
      (
        right-first d 16 (get_or ps 2 None) w.1.1.0,
        (
          right-piece d false key_list (get_or ps 3 None) w.1.1.1.0,
          (
            right-piece d true Any (get_or ps 4 None) w.1.1.1.1.0,
            (
              right-piece d true Any (get_or ps 5 None) w.1.1.1.1.1.0,
              (right-piece d true Any (get_or ps 6 None) w.1.1.1.1.1.1.0, (refl, (refl, tt))),
            ),
          ),
        ),
      ),
    ),
  )

  pub inquire-right : Rights inquire_kinds d ps 0 → (resent major d (inquire_shown d ps)).ok ≡ true
  unfolding resent has_shape digits_be
  inquire-right w = made_ok (resent major d (inquire_shown d ps)) _ _ _ _ _ _ _ refl (
    refl,
    (
      right-first d 32 (get_or ps 1 None) w.1.0,
      (
        right-piece d true (Sized 16) (get_or ps 2 None) w.1.1.0,
        (
          right-piece d true Any
              (get_or ps 3 None) w.1.1.1.0,
          (
            right-piece d true Any (get_or ps 4 None) w.1.1.1.1.0,
            (right-piece d true Any (get_or ps 5 None) w.1.1.1.1.1.0, (refl, (refl, (refl, tt)))),
          ),
        ),
      ),
    ),
  )

  pub authority-right : Rights buffer_kinds d (drop 2 ps) 0 → (resent major d (authority_shown d ps)).ok ≡ true
  unfolding resent has_shape digits_be
  authority-right w = made_ok (resent major d (authority_shown d ps)) _ _ _ _ _ _ _ refl (
    refl,
    (
      refl,
      (
        refl,
        (
          right-piece d true Any (get_or (drop 2 ps) 1 None) w.1.0,
          (
            right-piece d true Any (get_or (drop 2 ps) 2 None) w.1.1.0,
            (
              right-piece d true codes (get_or (drop 2 ps) 3 None) w.1.1.1.0,
              (
                right-piece d true Any (get_or (drop 2 ps) 4 None) w.1.1.1.1.0,
                (
                  right-piece d true Entry (get_or (drop 2 ps) 5 None) w.1.1.1.1.1.0,
                  (right-piece d true Any (get_or (drop 2 ps) 6 None) w.1.1.1.1.1.1.0, tt),
                ),
              ),
            ),
          ),
        ),
      ),
    ),
  )

  pub ack-right : Rights ack_kinds d ps 0 → (resent major d (ack_shown d ps)).ok ≡ true
  unfolding resent has_shape digits_be
  ack-right w = made_ok (resent major d (ack_shown d ps)) _ _ _ _ _ _ _ refl
      (refl, (right_own (is_here (get_or ps 1 None)), (refl, (refl, (refl, (refl, (refl, (refl, (refl, tt)))))))))

  pub lookup-right : Rights lookup_kinds d ps 0 → (resent major d (lookup_shown d ps)).ok ≡ true
  unfolding resent has_shape digits_be lookup_form
  lookup-right w = made_ok (resent major d (lookup_shown d ps)) _ _ _ _ _ _ _ refl (
    right_lookup d (get_or ps 0 None) w.0,
    (
      right-first d 32 (get_or ps 1 None) w.1.0,
      (
        right-first d 32 (get_or ps 2 None) w.1.1.0,
        (
          right-piece d true Entry (get_or ps 3 None) w.1.1.1.0,
          (
            right-piece d false endpoints (get_or ps 4 None) w.1.1.1.1.0,
            (
              right-piece d true Any (get_or ps 5 None) w.1.1.1.1.1.0,
              (
                right-piece d true Any (get_or ps 6 None) w.1.1.1.1.1.1.0,
                (
                  right-piece d true Any (get_or ps 7 None) w.1.1.1.1.1.1.1.0,
                  (refl, tt),
                ),
              ),
            ),
          ),
        ),
      ),
    ),
  )

  pub flood-right : one_of (is_here (get_or ps 3 None)) (is_here (get_or ps 4 None)) ≡ true → Rights flood_kinds d ps 0
      → (resent major d (flood_shown d ps)).ok ≡ true
  unfolding resent has_shape digits_be head_of
  flood-right j w = made_ok (resent major d (flood_shown d ps)) major (get_or d 6 0) 4 (number_at 8 4 d)
      (lent_of (spelled_bytes 0 0 0 (bit (flag_at d (start_of (get_or ps 0 None)) 1 1))) d d) flood_rows
      (spelled_piece 8 3 ∷ first_piece (start_of (get_or ps 1 None)) 32 ∷ piece_of (get_or ps 2 None) ∷ piece_of (get_or ps 3 None)
      ∷ piece_of (get_or ps 4 None) ∷ piece_of (get_or ps 5 None) ∷ no_piece ∷ no_piece ∷ no_piece ∷ [])
      (rw j) (
        refl,
        (
          right-first d 32 (get_or ps 1 None) w.1.0,
          (
            right-piece d true Any (get_or ps 2 None) w.1.1.0,
            (
              right-piece d true Any
                  (get_or ps 3 None) w.1.1.1.0,
              (
                right-piece d true Entry (get_or ps 4 None) w.1.1.1.1.0,
                (right-piece d true endpoints (get_or ps 5 None) w.1.1.1.1.1.0, (refl, (refl, (refl, tt)))),
              ),
            ),
          ),
        ),
      )
