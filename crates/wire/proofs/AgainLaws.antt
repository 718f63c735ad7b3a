-- Laws of a message written again: for any table, rows that agree with the kinds and fields that are the message's make the message's bytes; and
-- so for an answer of each of the eight types, whatever made it. Assumes nothing.
use Prim.Native.Nat.{ℕ, ◌*◌}
use native.Mathlib.Omega.{arith}
use mathlib.Core.List.{List, [], ◌∷◌, ◌++◌}
use mathlib.Core.Bool.{Bool, true, false, cond}
use mathlib.Core.Option.{Option, some, none}
use mathlib.Core.Path.{◌≡◌, refl, sym, ap, ap₂, subst, ◌∙◌}
use lib.Dec.{eqb}
use lib.ListN.{get_or}
use Rattle.octet.specs.Number.{digits_be}
use Rattle.octet.specs.Part.{part}
use Rattle.wire_shapes.specs.Shapes.{Kind}
use Rattle.wire_fields.specs.Kinds.{kinds_of, joined_fields, present, one_of, solicit_kinds, advertise_kinds, request_kinds, flood_kinds, inquire_kinds, authority_kinds, ack_kinds, lookup_kinds}
use Rattle.wire_fields.specs.Message.{Contents, Message, Formed, ends, layout_from, layout_of, message_bytes, header_of}
use Rattle.wire_fields.specs.Reading.{contents_in}
use Rattle.std.specs.Prelude.{Some, None}
use Rattle.wire_fields.specs.Places.{Part}
use Rattle.wire_buffer.specs.Buffer.{start_of}
use Rattle.wire_read.specs.Answers.{is_here}
use Rattle.wire_read.specs.Meaning.{message_of, held, bit}
use Rattle.wire_read.specs.declared.Incoming.{Incoming}
use Rattle.wire_read.specs.declared.Incoming.TheVariants as M
use Rattle.wire_read.specs.declared.messages.Flood.{Flood}
use Rattle.wire_write.specs.Writing.{Made}
use Rattle.wire_write.specs.Pieces.{Lent, lent_of, kinds_of_rows, contents_of, givens_of, made_by}
use Rattle.wire_write.specs.Rows.{solicit_rows, advertise_rows, request_rows, flood_rows, inquire_rows, authority_rows, ack_rows, lookup_rows, spelled_bytes}
use Rattle.wire_write.specs.declared.Row.{Row}
use Rattle.wire_write.specs.declared.Piece.{Piece}
use Rattle.wire_copy.specs.Resent.{resent, len_of, flood_pieces}

-- rows that are those of a list of kinds, then any; fields that are those of a message, then none
abbrev pub RowsFor : List Kind → List Row → Type 0
RowsFor [] rs = Unit {0}
RowsFor (k ∷ ks) [] = ⊥
RowsFor (k ∷ ks) (r ∷ rs) = (r.number ≡ k.number) × (r.padded ≡ k.padded) × RowsFor ks rs

abbrev pub Same : List Contents → List Contents → Type 0
Same [] [] = Unit {0}
Same [] (c ∷ cs) = (c ≡ none) × Same [] cs
Same (f ∷ fs) [] = ⊥
Same (f ∷ fs) (c ∷ cs) = (c ≡ f) × Same fs cs

nothing : (rs : List Row) (i : ℕ) (cs : List Contents) → Same [] cs → message_bytes (layout_from i (kinds_of_rows rs) cs) ≡ []
nothing [] i cs h = refl
nothing (r ∷ rs) i [] h = refl
nothing (r ∷ rs) i (c ∷ cs) h = rw h.0 (nothing rs i cs h.1)

pub rows_bytes : (ks : List Kind) (rs : List Row) (i : ℕ) (fs cs : List Contents) → RowsFor ks rs → Formed ks fs → Same fs cs
    → message_bytes (layout_from i (kinds_of_rows rs) cs) ≡ message_bytes (layout_from i ks fs)
rows_bytes [] rs i [] cs w f h = nothing rs i cs h
rows_bytes [] rs i (x ∷ fs) cs w f h = absurd f
rows_bytes (k ∷ ks) [] i fs cs w f h = absurd w
rows_bytes (k ∷ ks) (r ∷ rs) i [] cs w f h = absurd f
rows_bytes (k ∷ ks) (r ∷ rs) i (x ∷ fs) [] w f h = absurd h
rows_bytes (k ∷ ks) (r ∷ rs) i (none ∷ fs) (c ∷ cs) w f h = rw h.0 (rows_bytes ks rs i fs cs w.2 f.1 h.1)
rows_bytes (k ∷ ks) (r ∷ rs) i (some v ∷ fs) (c ∷ cs) w f h =
    rw (h.0, w.0, w.1, rows_bytes ks rs (ends i k (some v)) fs cs w.2 f.1 h.1)

-- a piece of the datagram is the contents at its place
pub piece_is : (d : List ℕ) (p : Part) → held (is_here p) (part (start_of p) (len_of p) d) ≡ contents_in d p
piece_is d (Some p) = refl
piece_is d None = refl

-- a message of the rows of a table
pub table_bytes : (ks : List Kind) (rs : List Row) (m : Message) (l : Lent) (ps : List Piece) → RowsFor ks rs → Formed ks m.fields
    → Same m.fields (contents_of (givens_of l ps))
    → (made_by m.major m.minor m.type m.id l rs ps).bytes ≡ message_bytes (layout_of ks m)
unfolding made_by
table_bytes ks rs m l ps w f h =
    ap (λ (b : List ℕ). header_of m ++ b) (rows_bytes ks rs 12 m.fields (contents_of (givens_of l ps)) w f h)

solicit_rows_lem : RowsFor solicit_kinds solicit_rows
solicit_rows_lem = (refl, refl, (refl, refl, tt))

advertise_rows_lem : RowsFor advertise_kinds advertise_rows
advertise_rows_lem = (refl, refl, (refl, refl, (refl, refl, tt)))

request_rows_lem : RowsFor request_kinds request_rows
request_rows_lem = (refl, refl, (refl, refl, (refl, refl, (refl, refl, (refl, refl, (refl, refl, (refl, refl, tt)))))))

flood_rows_lem : RowsFor flood_kinds flood_rows
flood_rows_lem = (refl, refl, (refl, refl, (refl, refl, (refl, refl, (refl, refl, (refl, refl, tt))))))

inquire_rows_lem : RowsFor inquire_kinds inquire_rows
inquire_rows_lem = (refl, refl, (refl, refl, (refl, refl, (refl, refl, (refl, refl, (refl, refl, tt))))))

pub authority_rows_lem : RowsFor authority_kinds authority_rows
authority_rows_lem =
    (refl, refl, (refl, refl, (refl, refl, (refl, refl, (refl, refl, (refl, refl, (refl, refl, (refl, refl, (refl, refl, tt)))))))))

ack_rows_lem : RowsFor ack_kinds ack_rows
ack_rows_lem = (refl, refl, (refl, refl, tt))

lookup_rows_lem : RowsFor lookup_kinds lookup_rows
lookup_rows_lem = (refl, refl, (refl, refl, (refl, refl, (refl, refl, (refl, refl, (refl, refl, (refl, refl, (refl, refl, tt))))))))

-- FLOOD carries one of two fields by its places as by its contents; LOOKUP's precision is zero where it does not count
here_is : (d : List ℕ) (p : Part) → present (contents_in d p) ≡ is_here p
here_is d (Some p) = refl
here_is d None = refl

precise : (t : Bool) (p : ℕ) → cond t (get_or (digits_be 256 2 p) 0 0) 0 ≡ get_or (digits_be 256 2 p) 0 0
    → cond t (get_or (digits_be 256 2 p) 1 0) 0 ≡ get_or (digits_be 256 2 p) 1 0 → digits_be 256 2 (cond t p 0) ≡ digits_be 256 2 p
unfolding digits_be
precise true p a b = refl
precise false p a b = ap₂ (λ (x y : ℕ). x ∷ y ∷ []) a b

-- the bytes that are made of an answer are those of a message
abbrev Again : ℕ → List ℕ → Incoming → Message → Type 0
Again major d a m =
    (ks : List Kind) → kinds_of m.type ≡ some ks → Formed ks m.fields → joined_fields m.type m.fields ≡ true
    → (resent major d a).bytes ≡ message_bytes (layout_of ks m)

-- the message of an answer
abbrev told : Option Message → Message
told none = record { major = 0; minor = 0; type = 0; id = 0; fields = [] }
told (some m) = m

module _ (js : List Kind) (rs : List Row) (major : ℕ) (d : List ℕ) (a : Incoming) (m : Message) (e : message_of major d a ≡ some m)
    (w : RowsFor js rs) where
  by_table : kinds_of (told (message_of major d a)).type ≡ some js → (l : Lent) (ps : List Piece)
      → (joined_fields (told (message_of major d a)).type (told (message_of major d a)).fields ≡ true → resent major d a
      ≡ made_by (told (message_of major d a)).major (told (message_of major d a)).minor (told (message_of major d a)).type
      (told (message_of major d a)).id l rs ps)
      → (Formed js (told (message_of major d a)).fields → Same (told (message_of major d a)).fields
      (contents_of (givens_of l ps)))
      → Again major d a m
  by_table k l ps made given =
      let r = told (message_of major d a) in
      subst (Again major d a) (ap told e) (λ ks n f j.
      let o : js ≡ ks = (let z : some js ≡ some ks = sym k ∙ n in cc) in
      let g = subst (λ (x : List Kind). Formed x r.fields) (sym o) f in
      subst (λ (x : List Kind). (resent major d a).bytes ≡ message_bytes (layout_of x r)) o
      (ap (λ (x : Made). x.bytes) (made j) ∙ table_bytes js rs r l ps w g (given g)))

pub again_bytes : (major : ℕ) (d : List ℕ) (a : Incoming) (m : Message) → message_of major d a ≡ some m → Again major d a m
unfolding message_of resent kinds_of digits_be joined_fields
again_bytes major d (M.Refused n) m e = absurd (let z : ◌≡◌ {A = ℕ} 0 1 = cc in omega arith)
again_bytes major d (M.Solicit x) m e =
    by_table solicit_kinds solicit_rows major d (M.Solicit x) m e solicit_rows_lem refl _ _ (λ j. refl)
    (λ f. (piece_is d x.entry, (refl, (refl, (refl, (refl, (refl, (refl, (refl, (refl, tt))))))))))
again_bytes major d (M.Advertise x) m e =
    by_table advertise_kinds advertise_rows major d (M.Advertise x) m e advertise_rows_lem refl _ _ (λ j. refl)
    (λ f. (refl, (piece_is d x.keys, (refl, (refl, (refl, (refl, (refl, (refl, (refl, tt))))))))))
again_bytes major d (M.Request x) m e =
    by_table request_kinds request_rows major d (M.Request x) m e request_rows_lem refl _ _ (λ j. refl)
    (λ f. (
      refl,
      (refl, (refl, (piece_is d x.keys, (piece_is d x.credential, (piece_is d x.signature, (piece_is d x.key, (refl, (refl, tt)))))))),
    ))
again_bytes major d (M.Flood x) m e =
    by_table flood_kinds flood_rows major d (M.Flood x) m e flood_rows_lem refl (lent_of (spelled_bytes 0 0 0 (bit x.d)) d d) (flood_pieces x)
    (λ j. let q : one_of (is_here x.revoke) (is_here x.entry) ≡ true = rw (here_is d x.revoke, here_is d x.entry) at j in rw q)
    (λ f. (
      refl,
      (refl, (piece_is d x.token, (piece_is d x.revoke, (piece_is d x.entry, (piece_is d x.reached, (refl, (refl, (refl, tt)))))))),
    ))
again_bytes major d (M.Inquire x) m e =
    by_table inquire_kinds inquire_rows major d (M.Inquire x) m e inquire_rows_lem refl _ _ (λ j. refl)
    (λ f. (
      refl,
      (refl, (piece_is d x.nonce, (piece_is d x.credential, (piece_is d x.signature, (piece_is d x.key, (refl, (refl, (refl, tt)))))))),
    ))
again_bytes major d (M.Authority x) m e =
    let i = x.fields in
    by_table authority_kinds authority_rows major d (M.Authority x) m e authority_rows_lem refl _ _ (λ j. refl)
    (λ f. (
      refl,
      (
        refl,
        (
          refl,
          (
            piece_is d i.chain,
            (
              piece_is d i.token,
              (
                piece_is d i.classifier,
                (
                  piece_is d i.payload,
                  (piece_is d i.entry, (piece_is d i.cpa, tt)),
                ),
              ),
            ),
          ),
        ),
      ),
    ))
again_bytes major d (M.Ack x) m e =
    by_table ack_kinds ack_rows major d (M.Ack x) m e ack_rows_lem refl _ _ (λ j. refl)
    (λ f. (refl, (refl, (refl, (refl, (refl, (refl, (refl, (refl, (refl, tt))))))))))
again_bytes major d (M.Lookup x) m e =
    by_table lookup_kinds lookup_rows major d (M.Lookup x) m e lookup_rows_lem refl _ _ (λ j. refl)
    (λ f. (
      ap (λ (b : List ℕ). some (0 ∷ (2 * bit x.a) ∷ (b ++ (x.criteria ∷ x.reason ∷ 0 ∷ 0 ∷ []))))
          (precise (eqb x.criteria 8) x.precision (ap (λ (v : List ℕ). get_or v 2 0) f.0.clear)
          (ap (λ (v : List ℕ). get_or v 3 0) f.0.clear)),
      (
        refl,
        (
          refl,
          (
            piece_is d x.entry,
            (piece_is d x.path, (piece_is d x.credential, (piece_is d x.signature, (piece_is d x.key, (refl, tt))))),
          ),
        ),
      ),
    ))

-- FLOOD carries one of the two
pub flood_one : (major : ℕ) (d : List ℕ) (x : Flood) (m : Message) → message_of major d (M.Flood x) ≡ some m
    → joined_fields m.type m.fields ≡ true → one_of (is_here x.revoke) (is_here x.entry) ≡ true
unfolding message_of joined_fields
flood_one major d x m e j =
    let q : joined_fields (told (message_of major d (M.Flood x))).type (told (message_of major d (M.Flood x))).fields ≡ true =
    subst (λ (y : Message). joined_fields y.type y.fields ≡ true) (sym (ap told e)) j in
    rw (here_is d x.revoke, here_is d x.entry) at q
