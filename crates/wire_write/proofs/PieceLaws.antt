-- Laws of the loops over rows and pieces: one step of the test, of the end and of the bytes put; pieces that are right stand within their
-- slices, and there a piece is as long as it says. Assumes nothing.
use Prim.Native.Nat.{ℕ, ◌+◌, ◌≤◌, ◌<◌, min}
use native.Mathlib.Decide.{dec_le}
use native.Mathlib.Omega.{arith}
use native.Mathlib.Numerals.{add-one}
use mathlib.Core.List.{List, [], ◌∷◌}
use mathlib.Core.Bool.{Bool, true, false, ◌&&◌}
use mathlib.Core.Path.{◌≡◌, refl, sym, ap, ◌∙◌}
use lib.Dec.{leb}
use lib.ListN.{length, get_or, drop}
use lib.Seq.{drop-cons}
use borrow.Author.Tests.{leb-true}
use Rattle.octet.specs.Part.{part, splice}
use Rattle.octet.proofs.PartLaws.{length_part}
use Rattle.octet.proofs.TestLaws.{both_true}
use Rattle.wire_shapes.specs.Shapes.{has_shape}
use Rattle.wire_shapes.specs.declared.Shape.TheVariants.{Sized}
use Rattle.wire_write.specs.Pieces.{Lent, source_of, PieceIn, AllIn, ok_from, piece_ok, rows_ok, piece_bytes, givens_of}
use Rattle.wire_write.specs.Pieces.{part_bytes, past_of, kinds_of_rows, end_rows}
use Rattle.wire_write.specs.declared.Row.{Row}
use Rattle.wire_write.specs.declared.Piece.{Piece}
use Rattle.wire_write.specs.declared.Source.TheVariants.{Spelled}
use Rattle.wire_write.proofs.PutLaws.{put-length}
use Rattle.wire_write.proofs.WriteLaws.{put_all, end_all, past_more, part_length}

-- what an array gives past its end
abbrev pub no_row : Row
no_row = record { number = 0; optional = false; padded = false; shape = Sized 0 }

abbrev pub no_piece_lem : Piece
no_piece_lem = record { there = false; source = Spelled; start = 0; len = 0 }

-- ---- one piece

-- one that is right stands within its slice
ok_in : (l : Lent) (r : Row) (p : Piece) → piece_ok l r p ≡ true → PieceIn l p
ok_in l r p e t =
    let s = source_of l p.source in
    let f : ok_from s r p ≡ true = rw t at e in
    leb-true (p.start + p.len) (length s) (both_true (leb (p.start + p.len) (length s)) (has_shape r.shape (part p.start p.len s)) f).0

pub rows_in : (l : Lent) (rows : List Row) (ps : List Piece) → length rows ≡ length ps → rows_ok l rows ps ≡ true → AllIn l ps
rows_in l rows [] n e = tt
rows_in l [] (p ∷ ps) n e = absurd (omega arith)
rows_in l (r ∷ rows) (p ∷ ps) n e =
    let w = both_true (piece_ok l r p) (rows_ok l rows ps) e in
    (ok_in l r p w.0, rows_in l rows ps (omega arith) w.1)

-- a field that is there ends past its contents; where one is not there its length does not count
past_room : (i : ℕ) (t p : Bool) (n : ℕ) → t ≡ true → i + n + 4 ≤ past_of i t p n
unfolding past_of
past_room i t p n e = rw e (omega arith)

past_none : (i : ℕ) (t p : Bool) (m n : ℕ) → t ≡ false → past_of i t p m ≡ past_of i t p n
unfolding past_of
past_none i t p m n e = rw e

-- it ends where its length says
past_in : (l : Lent) (i : ℕ) (padded : Bool) (p : Piece) → PieceIn l p
    → past_of i p.there padded (length (piece_bytes l p)) ≡ past_of i p.there padded p.len
past_in l i padded p q = by p.there refl
  where
    by : (b : Bool) → p.there ≡ b → past_of i p.there padded (length (piece_bytes l p)) ≡ past_of i p.there padded p.len
    by true e = ap (past_of i p.there padded) (length_part p.start p.len (source_of l p.source) (q e))
    by false e = past_none i p.there padded (length (piece_bytes l p)) p.len e

-- ---- where the fields end

pub end_rows_lem : (l : Lent) (rows : List Row) (i : ℕ) (ps : List Piece) → AllIn l ps → end_rows i rows ps ≡ end_all i (kinds_of_rows rows) (givens_of l ps)
end_rows_lem l [] i ps h = refl
end_rows_lem l (r ∷ rows) i [] h = refl
end_rows_lem l (r ∷ rows) i (p ∷ ps) h =
    end_rows_lem l rows (past_of i p.there r.padded p.len) ps h.1
    ∙ ap (λ (j : ℕ). end_all j (kinds_of_rows rows) (givens_of l ps)) (sym (past_in l i r.padded p h.0))

end_least : (rows : List Row) (i : ℕ) (ps : List Piece) → i ≤ end_rows i rows ps
end_least [] i ps = omega arith
end_least (r ∷ rows) i [] = omega arith
end_least (r ∷ rows) i (p ∷ ps) =
    omega (arith, past_more i p.there r.padded p.len, end_least rows (past_of i p.there r.padded p.len) ps)

-- from a place counted only up to 1233
cap_all : (rows : List Row) (ps : List Piece) (x y : ℕ) → x ≡ min 1233 y → min 1233 (end_rows x rows ps) ≡ min 1233 (end_rows y rows ps)
cap_all rows ps x y e = go (dec_le y 1233)
  where
    go : Dec (y ≤ 1233) → min 1233 (end_rows x rows ps) ≡ min 1233 (end_rows y rows ps)
    go (yes h) = let z : x ≡ y = omega arith in ap (λ (n : ℕ). min 1233 (end_rows n rows ps)) z
    go (no h) = let a = end_least rows x ps in let b = end_least rows y ps in omega arith

-- ---- the loops

row_cons : (rows : List Row) (i : ℕ) (r : Row) → i < length rows → drop i rows ≡ get_or rows i r ∷ drop (i + 1) rows
row_cons rows i r h = rw (add-one, drop-cons rows i r)

piece_cons : (ps : List Piece) (i : ℕ) (p : Piece) → i < length ps → drop i ps ≡ get_or ps i p ∷ drop (i + 1) ps
piece_cons ps i p h = rw (add-one, drop-cons ps i p)

-- where a row's piece ends
abbrev pub past_by : Row → Piece → ℕ → ℕ
past_by r p at = past_of at p.there r.padded p.len

module _ (rows : List Row) (ps : List Piece) (i : ℕ) (r₀ : Row) (p₀ : Piece) (hr : i < length rows) (hp : i < length ps) where
  pub step_end : (at : ℕ) → end_rows at (drop i rows) (drop i ps)
      ≡ end_rows (past_by (get_or rows i r₀) (get_or ps i p₀) at) (drop (i + 1) rows) (drop (i + 1) ps)
  step_end at = rw (row_cons rows i r₀ hr, piece_cons ps i p₀ hp)

  -- what one step asks
  pub step_room : (at n : ℕ) → end_rows at (drop i rows) (drop i ps) ≤ n → past_by (get_or rows i r₀) (get_or ps i p₀) at ≤ n
  step_room at n h = omega (arith, step_end at, end_least (drop (i + 1) rows) (past_by (get_or rows i r₀) (get_or ps i p₀) at) (drop (i + 1) ps))

  pub step-short : (at n : ℕ) → end_rows at (drop i rows) (drop i ps) ≤ n → n < 65536 → (get_or ps i p₀).there ≡ true → (get_or ps i p₀).len + 4 < 65536
  step-short at n h m t =
      let p = get_or ps i p₀ in
      omega (arith, step_room at n h, past_room at p.there (get_or rows i r₀).padded p.len t)

  -- the end counted only up to 1233
  pub step-cap : (at x : ℕ) → x ≡ min 1233 (past_by (get_or rows i r₀) (get_or ps i p₀) at)
      → min 1233 (end_rows x (drop (i + 1) rows) (drop (i + 1) ps)) ≡ min 1233 (end_rows at (drop i rows) (drop i ps))
  step-cap at x e =
      cap_all (drop (i + 1) rows) (drop (i + 1) ps) x (past_by (get_or rows i r₀) (get_or ps i p₀) at) e ∙ ap (min 1233) (sym (step_end at))

  module _ (l : Lent) where
    pub step_ok : rows_ok l (drop i rows) (drop i ps)
        ≡ piece_ok l (get_or rows i r₀) (get_or ps i p₀) && rows_ok l (drop (i + 1) rows) (drop (i + 1) ps)
    step_ok = rw (row_cons rows i r₀ hr, piece_cons ps i p₀ hp)

    pub step_in : AllIn l (drop i ps) → PieceIn l (get_or ps i p₀) × AllIn l (drop (i + 1) ps)
    step_in h = rw (piece_cons ps i p₀ hp) at h

    -- the bytes that one step puts
    abbrev pub step_bytes : ℕ → List ℕ
    step_bytes at =
        part_bytes at (get_or ps i p₀).there (get_or rows i r₀).number (get_or rows i r₀).padded (piece_bytes l (get_or ps i p₀))

    module _ (q : PieceIn l (get_or ps i p₀)) (o : List ℕ) (at : ℕ) where
      pub step-put : put_all o at (kinds_of_rows (drop i rows)) (givens_of l (drop i ps))
          ≡ put_all (splice at (step_bytes at) o) (past_by (get_or rows i r₀) (get_or ps i p₀) at)
          (kinds_of_rows (drop (i + 1) rows)) (givens_of l (drop (i + 1) ps))
      step-put =
          let p = get_or ps i p₀ in
          let ks = kinds_of_rows (drop (i + 1) rows) in
          let gs = givens_of l (drop (i + 1) ps) in
          let e : put_all o at (kinds_of_rows (drop i rows)) (givens_of l (drop i ps))
          ≡ put_all (splice at (step_bytes at) o) (past_of at p.there (get_or rows i r₀).padded (length (piece_bytes l p))) ks gs =
          rw (row_cons rows i r₀ hr, piece_cons ps i p₀ hp) in
          e ∙ ap (λ (j : ℕ). put_all (splice at (step_bytes at) o) j ks gs) (past_in l at (get_or rows i r₀).padded p q)

      pub step_same : end_rows at (drop i rows) (drop i ps) ≤ length o → length (splice at (step_bytes at) o) ≡ length o
      step_same h =
          let p = get_or ps i p₀ in
          let r = get_or rows i r₀ in
          let z = part_length at p.there r.number r.padded (piece_bytes l p) in
          put-length o at (step_bytes at) (omega (arith, z, past_in l at r.padded p q, step_room at (length o) h))
