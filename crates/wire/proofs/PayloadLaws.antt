-- Laws of an AUTHORITY written again with another payload: what is made is the message with that field changed. In this order: it is right; what
-- follows the split controls; the whole. Assumes nothing.
use Prim.Native.Nat.{ℕ, ◌+◌, ◌-◌, ◌*◌, ◌≤◌}
use native.Mathlib.Omega.{arith}
use mathlib.Core.List.{List, [], ◌∷◌, ◌++◌}
use mathlib.Core.Bool.{Bool, true, false, ◌&&◌}
use mathlib.Core.Option.{some}
use mathlib.Core.Path.{◌≡◌, refl, sym, ap, ap₂, subst, ◌∙◌}
use lib.Dec.{leb}
use lib.ListN.{length, drop}
use lib.Seq.{take-length}
use borrow.Author.Tests.{le-leb, leb-true}
use Rattle.octet.specs.Number.{digits_be}
use Rattle.octet.proofs.TestLaws.{and_true}
use Rattle.wire_shapes.specs.Shapes.{has_shape}
use Rattle.wire_fields.specs.Places.{Part, here}
use Rattle.wire_shapes.specs.declared.Shape.TheVariants.{Any, Entry}
use Rattle.wire_fields.specs.Kinds.{may, codes, buffer_kinds, authority_kinds, split_bytes}
use Rattle.wire_fields.specs.Message.{Contents, Message, Held, Formed, layout_from, layout_of, message_bytes, header_of}
use Rattle.wire_fields.specs.Reading.{contents_in}
use Rattle.wire_read.specs.Meaning.{bit, authority_fields}
use Rattle.wire_buffer.specs.declared.Inside.{Inside}
use Rattle.wire_read.specs.declared.Incoming.TheVariants as M
use Rattle.wire_read.specs.declared.messages.Authority.{Authority}
use Rattle.wire_write.specs.Pieces.{Lent, piece_ok, lent_of, kinds_of_rows, contents_of, givens_of, made_by}
use Rattle.wire_write.specs.Rows.{may_row, authority_rows}
use Rattle.wire_write.specs.declared.Row.{Row}
use Rattle.wire_copy.specs.Resent.{piece_of, authority_bytes, resent}
use Rattle.wire_payload.specs.Payload.{carrying_pieces, carrying, with_payload}
use Rattle.wire.specs.Statements.{changed}
use Rattle.wire.proofs.ChangedLaws.{formed_at_lem}
use Rattle.wire.proofs.AgainLaws.{Same, rows_bytes, authority_rows_lem, piece_is}

-- ---- it is right

right_by : (a b c p q e x : Bool) → a && (b && (c && (p && (e && x)))) ≡ true → q ≡ true → a && (b && (c && (q && (e && x)))) ≡ true
right_by true true true true q e x h k = rw k h
right_by true true true false q e x h k = absurd (let z : ◌≡◌ {A = Bool} false true = h in let y : ◌≡◌ {A = ℕ} 0 1 = cc in omega arith)
right_by true true false p q e x h k = h
right_by true false c p q e x h k = h
right_by false b c p q e x h k = h

module _ (major : ℕ) (d : List ℕ) (m : Authority) (v : List ℕ) where
  abbrev f : Inside
  f = m.fields

  -- a piece of the datagram is right for its row, whatever else is lent
  abbrev stands : Row → Part → Bool
  stands r p = piece_ok (lent_of [] d []) r (piece_of p)

  pub carrying-right : (size : ℕ) → (resent major d (M.Authority m)).ok ≡ true → (carrying major d m v size).ok ≡ true
  unfolding resent carrying made_by digits_be has_shape
  carrying-right size e =
      right_by (stands (may_row 0x80 true Any) f.chain) (stands (may_row 0x9F true Any) f.token) (stands (may_row 0x85 true codes) f.classifier)
      (stands (may_row 0x5A true Any) f.payload) (leb (0 + length v) (length v) && true) (stands (may_row 0x9A true Entry) f.entry)
      (stands (may_row 0x9B false Any) f.cpa && true) e (and_true (leb (0 + length v) (length v)) ∙ le-leb (0 + length v) (length v) (omega arith))

  -- a payload that was read stands within the datagram
  within_by : (a b c p x : Bool) → a && (b && (c && (p && x))) ≡ true → p ≡ true
  within_by true true true true x e = refl
  within_by true true true false x e = absurd (let z : ◌≡◌ {A = Bool} false true = e in let y : ◌≡◌ {A = ℕ} 0 1 = cc in omega arith)
  within_by true true false p x e = absurd (let z : ◌≡◌ {A = Bool} false true = e in let y : ◌≡◌ {A = ℕ} 0 1 = cc in omega arith)
  within_by true false c p x e = absurd (let z : ◌≡◌ {A = Bool} false true = e in let y : ◌≡◌ {A = ℕ} 0 1 = cc in omega arith)
  within_by false b c p x e = absurd (let z : ◌≡◌ {A = Bool} false true = e in let y : ◌≡◌ {A = ℕ} 0 1 = cc in omega arith)

  stands-within : (s l : ℕ) → stands (may_row 0x5A true Any) (here s l) ≡ true → s + l ≤ length d
  unfolding has_shape
  stands-within s l e = leb-true (s + l) (length d) (sym (and_true (leb (s + l) (length d))) ∙ e)

  pub payload-within : (s l : ℕ) → (resent major d (M.Authority m)).ok ≡ true → f.payload ≡ here s l → s + l ≤ length d
  unfolding resent made_by digits_be has_shape
  payload-within s l e q =
      stands-within s l (subst (λ (p : Part). stands (may_row 0x5A true Any) p ≡ true) q
      (within_by (stands (may_row 0x80 true Any) f.chain) (stands (may_row 0x9F true Any) f.token)
      (stands (may_row 0x85 true codes) f.classifier)
      (stands (may_row 0x5A true Any) f.payload)
      (stands (may_row 0x9A true Entry) f.entry && (stands (may_row 0x9B false Any) f.cpa && true)) e))

  -- ---- what follows the split controls

  -- the fields behind them, with the payload
  abbrev behind : List Contents
  behind =
      some ((2 * bit f.l) ∷ (8 * bit f.b + bit f.n) ∷ []) ∷ contents_in d f.chain ∷ contents_in d f.token ∷ contents_in d f.classifier
      ∷ some v ∷ contents_in d f.entry ∷ contents_in d f.cpa ∷ []

  abbrev lentWith : ℕ → Lent
  lentWith size = lent_of (authority_bytes m.acked size m.fields) d v

  given-behind : (size : ℕ) → Same behind (drop 2 (contents_of (givens_of (lentWith size) (carrying_pieces f v))))
  unfolding digits_be
  given-behind size = (
    refl,
    (
      piece_is d f.chain,
      (
        piece_is d f.token,
        (
          piece_is d f.classifier,
          (
            ap some (take-length v),
            (piece_is d f.entry, (piece_is d f.cpa, tt)),
          ),
        ),
      ),
    ),
  )

  followed : Formed buffer_kinds behind → length (carrying major d m v 0).bytes ≡ 28 + length (message_bytes (layout_from 28 buffer_kinds behind))
  unfolding carrying made_by digits_be
  followed g =
      let e = rows_bytes buffer_kinds (drop 2 authority_rows) 28 behind
      (drop 2 (contents_of (givens_of (lentWith 0) (carrying_pieces f v))))
      authority_rows_lem.2.2 g (given-behind 0) in
      omega (arith, ap length e)

  -- ---- the whole

  -- the message that was read
  abbrev pub seen : Message
  seen =
      record {
        major = major;
        minor = m.head.minor;
        type = 8;
        id = m.head.id;
        fields = authority_fields d m;
      }

  -- header, acked ID, split controls, and what follows them
  front : ℕ → List ℕ → List ℕ
  front size rest =
      header_of seen ++ digits_be 256 2 0x18 ++ digits_be 256 2 8 ++ digits_be 256 4 m.acked ++ digits_be 256 2 0x98 ++ digits_be 256 2 8
      ++ split_bytes size ++ rest

  abbrev restGiven : ℕ → List ℕ
  restGiven size =
      message_bytes (layout_from 28 (kinds_of_rows (drop 2 authority_rows))
      (drop 2 (contents_of (givens_of (lentWith size) (carrying_pieces f v)))))

  made-front : (size : ℕ) → (carrying major d m v size).bytes ≡ front size (restGiven size)
  unfolding carrying made_by digits_be front
  made-front size = refl

  changed-front : message_bytes (layout_of authority_kinds (changed authority_kinds seen 6 (some v)))
      ≡ front (length (message_bytes (layout_from 28 buffer_kinds behind))) (message_bytes (layout_from 28 buffer_kinds behind))
  unfolding digits_be front
  changed-front = refl

  payload-bytes : Formed buffer_kinds behind
      → (with_payload major d m v).bytes ≡ message_bytes (layout_of authority_kinds (changed authority_kinds seen 6 (some v)))
  unfolding with_payload
  payload-bytes g =
      let size = length (carrying major d m v 0).bytes - 28 in
      let told : size ≡ length (message_bytes (layout_from 28 buffer_kinds behind)) = omega (arith, followed g) in
      let same = rows_bytes buffer_kinds (drop 2 authority_rows) 28 behind
      (drop 2 (contents_of (givens_of (lentWith size) (carrying_pieces f v))))
      authority_rows_lem.2.2 g (given-behind size) in
      made-front size ∙ ap₂ (λ (n : ℕ) (rest : List ℕ). front n rest) told same ∙ sym changed-front

  pub payload-made : Formed authority_kinds seen.fields → Held (may 0x5A true Any []) v → (resent major d (M.Authority m)).ok ≡ true
      → with_payload major d m v ≡ record { ok = true; bytes = message_bytes (layout_of authority_kinds (changed authority_kinds seen 6 (some v))) }
  unfolding with_payload
  payload-made g p e =
      let changed-formed = formed_at_lem authority_kinds 6 (some v) seen.fields g p in
      ap₂ (λ (o : Bool) (b : List ℕ). record { ok = o; bytes = b }) (carrying-right _ e) (payload-bytes changed-formed.1.1)
