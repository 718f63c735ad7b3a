-- Laws of the ways from a datagram to what is told of it: an answer of a type's reader that is no message of the type is a refusal; what is read is
-- what the type's reader gives; and what is told is part of the brief. Assumes nothing.
use Prim.Native.Nat.{ℕ}
use mathlib.Core.Path.{◌≡◌, refl, ap, ◌∙◌}
use mathlib.Core.Bool.{Bool, true, false, cond}
use mathlib.Core.List.{List}
use mathlib.Core.Option.{Option, some, none}
use lib.ListN.{get_or}
use Rattle.wire_shapes.specs.Shapes.{Kind}
use Rattle.wire_fields.specs.Kinds.{kinds_of, authority_kinds}
use Rattle.wire_fields.specs.Reading.{fields_as}
use Rattle.wire_fields.specs.Refusals.{refused, found, found_of, found_in, in_part}
use Rattle.wire_fields.proofs.RefusalLaws.{gated, by_type}
use Rattle.wire_fields.specs.Places.{Part}
use Rattle.wire_read.specs.Answers.{read_in, incoming_of}
use Rattle.wire_read.specs.declared.Incoming.{Incoming}
use Rattle.wire_read.specs.declared.Incoming.TheVariants as M
use Rattle.look.specs.Seen.{look_of, briefed, brief_of, read_as, authority_read}
use Rattle.look.specs.declared.Look.{Look}

-- an answer that is no message of the type is a refusal
module _ (d : List ℕ) (t : ℕ) (a : Incoming) (other : (ps : List Part) → a ≡ incoming_of d (found t ps) → ⊥) where
  else-by : (o : Option (List Part)) → a ≡ incoming_of d (found_of t o) → a ≡ M.Refused 6
  unfolding incoming_of
  else-by none e = e
  else-by (some ps) e = absurd (other ps e)

  pub else-refused : (ks : List Kind) → a ≡ read_as t ks d → a ≡ M.Refused 6
  else-refused ks e = else-by (fields_as t ks d) e

-- an AUTHORITY's answer is a refusal or an AUTHORITY
module _ (d : List ℕ) (a : Incoming) (no-message : (ps : List Part) → a ≡ incoming_of d (found 8 ps) → ⊥) (no-refusal : (n : ℕ) → a ≡ M.Refused n → ⊥) where
  neither-by : (b : Bool) (o : Option (List Part)) → a ≡ incoming_of d (cond b (refused 7) (found_of 8 o)) → ⊥
  unfolding incoming_of
  neither-by true o e = no-refusal 7 e
  neither-by false none e = no-refusal 6 e
  neither-by false (some ps) e = no-message ps e

  pub neither : a ≡ authority_read d → ⊥
  neither e = neither-by (in_part 8 d) (fields_as 8 authority_kinds d) e

-- where the header is right, what is read is what the reader of the type gives
module _ (d : List ℕ) (major t : ℕ) (ks : List Kind) (e : found_in d major ≡ by_type (get_or d 7 0) d (kinds_of (get_or d 7 0))) (q : get_or d 7 0 ≡ t)
    (k : kinds_of t ≡ some ks) where
  typed : found_in d major ≡ gated t d (found_of t (fields_as t ks d))
  typed = e ∙ ap (λ (n : ℕ). by_type n d (kinds_of n)) q ∙ ap (by_type t d) k

  pub read_as_lem : in_part t d ≡ false → read_in d major ≡ read_as t ks d
  read_as_lem n = ap (incoming_of d) (typed ∙ ap (λ (b : Bool). cond b (refused 7) (found_of t (fields_as t ks d))) n)

pub read_authority : (d : List ℕ) (major : ℕ) → found_in d major ≡ by_type (get_or d 7 0) d (kinds_of (get_or d 7 0)) → get_or d 7 0 ≡ 8
    → read_in d major ≡ authority_read d
unfolding kinds_of
read_authority d major e q = ap (incoming_of d) (typed d major 8 authority_kinds e q refl)

-- a brief by what is told
pub brief_by : {s r : Look} {v : ℕ} {f : Bool} {p n : ℕ} → s ≡ r → briefed s v f p n ≡ briefed r v f p n
brief_by {v = v} {f = f} {p = p} {n = n} e = ap (λ (x : Look). briefed x v f p n) e

-- the brief has what is told
pub brief_seen : (a : Incoming) → (brief_of a).seen ≡ look_of a
unfolding brief_of
brief_seen (M.Refused n) = refl
brief_seen (M.Solicit m) = refl
brief_seen (M.Advertise m) = refl
brief_seen (M.Request m) = refl
brief_seen (M.Flood m) = refl
brief_seen (M.Inquire m) = refl
brief_seen (M.Authority m) = refl
brief_seen (M.Ack m) = refl
brief_seen (M.Lookup m) = refl
