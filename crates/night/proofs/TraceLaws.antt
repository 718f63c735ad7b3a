-- A trace's records. In this order: the next record; no byte is lost; a record written; a trace written. Assumes nothing.
use mathlib.Core.Path.{◌≡◌, refl, sym, ap, ap₂, ◌∙◌}
use mathlib.Core.List.{List, [], ◌∷◌, ◌++◌}
use Prim.Native.Nat.{ℕ, zero, suc, ◌+◌, ◌*◌, ◌/◌, ◌%◌, ◌≤◌, ◌<◌}
use native.Mathlib.Omega.{arith}
use lib.ListN.{length, take, drop, length-append, length-drop, take-append-drop}
use lib.Seq.{take_at, drop_at}
use Rattle.octet.specs.Number.{value_le, digits_le}
use Rattle.octet.specs.Part.{part}
use Rattle.octet.proofs.LittleLaws.{value_le-digits_le}
use Rattle.kept.specs.Keys.{Every}
use Rattle.table.specs.Rows.{joined}
use Rattle.trace.specs.Trace.{length_of, kind_of, body_of, cut_into, records_of, Piece, written, all_written, trace_of, piece_of}
use Rattle.night.specs.Statements.{Writable, TraceReadsBack, Whole}

-- ---- no byte is lost

cut_whole : (n : ℕ) (bytes : List ℕ) → length bytes ≤ n → joined (cut_into n bytes) ≡ bytes
unfolding cut_into joined
cut_whole zero [] h = refl
cut_whole zero (b ∷ bs) h = absurd (omega arith)
cut_whole (suc n) [] h = refl
cut_whole (suc n) (b ∷ bs) h =
    let k = 2 + length_of (b ∷ bs) in
    ap (λ (l : List ℕ). take k (b ∷ bs) ++ l) (cut_whole n (drop k (b ∷ bs)) (omega (arith, h, length-drop k (b ∷ bs)))) ∙ take-append-drop k (b ∷ bs)

pub whole : Whole
whole bytes = cut_whole (length bytes) bytes (omega arith)

-- ---- a record written

length-written : (p : Piece) → length (written p) ≡ 4 + length p.body
unfolding written digits_le
length-written p = omega arith

-- kind and body are read back
pub piece_back : (p : Piece) → Writable p → piece_of (written p) ≡ p
unfolding written digits_le
piece_back p fit =
    ap (λ (k : ℕ). record { kind = k; body = p.body }) (value_le-digits_le 256 2 p.kind (omega arith) (omega (arith, fit.0)))

module _ (p : Piece) (fit : Writable p) (rest : List ℕ) where
  told : length_of (written p ++ rest) ≡ 2 + length p.body
  unfolding written digits_le
  told = value_le-digits_le 256 2 (2 + length p.body) (omega arith) (omega (arith, fit.1))

  span : 2 + length_of (written p ++ rest) ≡ length (written p)
  span = omega (arith, told, length-written p)

  first-cut : take (2 + length_of (written p ++ rest)) (written p ++ rest) ≡ written p
  first-cut = take_at (written p) rest (2 + length_of (written p ++ rest)) (sym span)

  rest-cut : drop (2 + length_of (written p ++ rest)) (written p ++ rest) ≡ rest
  rest-cut = drop_at (written p) rest (2 + length_of (written p ++ rest)) (sym span)

-- ---- a trace written

pub cut_next : (n : ℕ) (bytes : List ℕ) → 0 < length bytes
    → cut_into (suc n) bytes ≡ take (2 + length_of bytes) bytes ∷ cut_into n (drop (2 + length_of bytes) bytes)
unfolding cut_into
cut_next n [] h = absurd (omega arith)
cut_next n (b ∷ bs) h = refl

cut_written : (n : ℕ) (ps : List Piece) → Every Writable ps → length (trace_of ps) ≤ n → cut_into n (trace_of ps) ≡ all_written ps
unfolding cut_into joined all_written
cut_written zero [] w h = refl
cut_written (suc n) [] w h = refl
cut_written zero (p ∷ ps) w h = absurd (omega (arith, h, length-append (written p) (trace_of ps), length-written p))
cut_written (suc n) (p ∷ ps) w h =
    let rest = trace_of ps in
    let long = length-append (written p) rest in
    cut_next n (written p ++ rest) (omega (arith, long, length-written p))
    ∙ ap₂ (λ (r : List ℕ) (l : List ℕ). r ∷ cut_into n l) (first-cut p w.0 rest) (rest-cut p w.0 rest)
    ∙ ap (λ (l : List (List ℕ)). written p ∷ l) (cut_written n ps w.1 (omega (arith, h, long, length-written p)))

pieces_back : (ps : List Piece) → Every Writable ps → Every (λ (p : Piece). piece_of (written p) ≡ p) ps
pieces_back [] w = tt
pieces_back (p ∷ ps) w = (piece_back p w.0, pieces_back ps w.1)

pub reads_back : TraceReadsBack
reads_back ps w = (cut_written (length (trace_of ps)) ps w (omega arith), pieces_back ps w)
