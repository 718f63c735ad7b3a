-- Segments: a datagram whose cleared bits give a layout's bytes, taken apart segment by segment.
use Prim.Native.Nat.{ℕ, ◌+◌, ◌≤◌}
use native.Mathlib.Omega.{arith}
use mathlib.Core.List.{List, [], ◌∷◌, ◌++◌}
use mathlib.Core.Path.{◌≡◌, refl, sym, ap, ◌∙◌}
use lib.ListN.{length, take, drop, length-append, length-take, length-drop}
use Rattle.wire_fields.specs.Message.{Segment, message_bytes, cleared}

-- two lists joined whose first parts are equally long
pub apart : (a x b y : List ℕ) → length a ≡ length x → a ++ b ≡ x ++ y → (a ≡ x) × (b ≡ y)
apart [] [] b y h e = (refl, e)
apart [] (c ∷ x) b y h e = absurd (omega arith)
apart (c ∷ a) [] b y h e = absurd (omega arith)
apart (c ∷ a) (z ∷ x) b y h e =
    let r = apart a x b y (omega arith) (cc) in
    (cc r.0, r.1)

-- each segment's clearing keeps the length
abbrev pub Lengths : List Segment → Type 0
Lengths [] = Unit {0}
Lengths (s ∷ ss) = ((x : List ℕ) → length (s.kept x) ≡ length x) × Lengths ss

-- the same as `cleared ss d ≡ bytes_of ss`, segment by segment
abbrev pub Agrees : List Segment → List ℕ → Type 0
Agrees [] d = d ≡ []
Agrees (s ∷ ss) d =
    (length s.bytes ≤ length d) × (s.kept (take (length s.bytes) d) ≡ s.bytes) × Agrees ss (drop (length s.bytes) d)

pub cleared-length : (ss : List Segment) → Lengths ss → (d : List ℕ) → length (cleared ss d) ≡ length d
cleared-length [] h d = refl
cleared-length (s ∷ ss) h d =
    let n = length s.bytes in
    let r = cleared-length ss h.1 (drop n d) in
    rw (length-append, h.0 (take n d), r, length-take, length-drop) (omega arith)

pub agrees_of : (ss : List Segment) → Lengths ss → (d : List ℕ) → cleared ss d ≡ message_bytes ss → Agrees ss d
agrees_of [] h d e = e
agrees_of (s ∷ ss) h d e =
    let n = length s.bytes in
    let l : length d ≡ length s.bytes + length (message_bytes ss) =
    sym (cleared-length (s ∷ ss) h d) ∙ ap length e ∙ length-append s.bytes (message_bytes ss) in
    let m : length (s.kept (take n d)) ≡ n = h.0 (take n d) ∙ length-take n d ∙ omega arith in
    let r = apart (s.kept (take n d)) s.bytes (cleared ss (drop n d)) (message_bytes ss) m e in
    (omega arith, r.0, agrees_of ss h.1 (drop n d) r.1)

pub of_agrees : (ss : List Segment) (d : List ℕ) → Agrees ss d → cleared ss d ≡ message_bytes ss
of_agrees [] d e = e
of_agrees (s ∷ ss) d h = rw (h.1, of_agrees ss (drop (length s.bytes) d) h.2)
