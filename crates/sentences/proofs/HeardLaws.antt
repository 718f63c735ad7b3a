-- What a datagram says is what the code's reading shows: `Hears` holds of one thing at most, and of it exactly where reading gives 0.
-- Assumes nothing.
use mathlib.Core.Path.{◌≡◌, refl, sym, ap, ap₂, subst, ◌∙◌}
use mathlib.Core.Bool.{Bool, true, false, cond}
use mathlib.Core.List.{List, [], ◌∷◌}
use mathlib.Core.Option.{Option, some, none}
use Prim.Native.Nat.{ℕ, ◌+◌, ◌-◌, ◌^◌, ◌≤◌, ◌<◌}
use native.Mathlib.Omega.{arith}
use lib.Dec.{eqb}
use lib.ListN.{length, get_or, drop}
use Rattle.octet.specs.Number.{Bytes, value_be, digits_be}
use Rattle.octet.specs.Part.{part}
use Rattle.octet.proofs.BigLaws.{value_be-digits_be}
use Rattle.key.specs.Number.{key_at}
use Rattle.record.specs.Entry.{entry_form, record_of}
use Rattle.record.proofs.PlaceLaws.{drop-part}
use Rattle.wire_shapes.specs.Field.{number_at}
use Rattle.wire_fields.specs.Kinds.{must, ack_kinds, authority_kinds, present}
use Rattle.wire_fields.specs.Message.{Message}
use Rattle.wire_fields.specs.Reading.{contents_in}
use Rattle.std.specs.Prelude.{Some, None}
use Rattle.wire_fields.specs.Places.{Part}
use Rattle.wire_shapes.specs.declared.Shape.TheVariants.{Sized}
use Rattle.wire_fields.proofs.HeadLaws.{number_small}
use Rattle.wire_buffer.specs.Buffer.{start_of}
use Rattle.wire_read.specs.Answers as R
use Rattle.wire_read.specs.Meaning.{bit, number_of, message_of}
use Rattle.wire_read.specs.declared.Incoming as T
use Rattle.wire_read.specs.declared.Incoming.TheVariants as M
use Rattle.wire_read.specs.declared.messages.Flood as F
use Rattle.wire_read.specs.declared.messages.Ack as A
use Rattle.wire_read.specs.declared.messages.Lookup as K
use Rattle.look.specs.Seen.{size_of}
use Rattle.wire.proofs.StandLaws.{Stand, needed, sized-length}
use Rattle.wire.proofs.ShownLaws.{of-each, with_entry}
use Rattle.wire.proofs.Theorems.{at_most_one, read_gives, read_accepts}
use Rattle.plan_message.proofs.AnswerLaws.{EntryIn, PathIn, KnownAnswer, known_answer}
use Rattle.sentences.specs.Heard.{Heard, entry, revoke, inquire, authority, ack, lookup, other, contents, entry_in, heard, Hears}
use Rattle.sentences.proofs.OneLaws.{hears_one}

-- ---- what the code's reading says

abbrev pub said_by : List ℕ → ℕ → Bool → ℕ → Part → Heard
said_by d id s validate (Some p) = entry id s (key_at validate d) (record_of (part p.start p.len d))
said_by d id s validate None = revoke id s (key_at validate d)

abbrev pub heard_by : List ℕ → T.Incoming → Heard
heard_by d (M.Refused n) = other
heard_by d (M.Solicit x) = other
heard_by d (M.Advertise x) = other
heard_by d (M.Request x) = other
heard_by d (M.Flood x) = said_by d x.head.id x.d x.validate x.entry
heard_by d (M.Inquire x) = inquire x.head.id (key_at x.validate d)
heard_by d (M.Authority x) = authority x.acked (R.is_here x.fields.cpa)
heard_by d (M.Ack x) = ack x.acked x.n
heard_by d (M.Lookup x) =
    lookup x.head.id (key_at x.target d) (drop 8 (contents (contents_in d x.path))) (entry_in (contents_in d x.entry))

-- a LOOKUP's path, where its endpoints stand
path_stands : (d : List ℕ) (p : Part) → PathIn d p → drop 8 (contents (contents_in d p)) ≡ part (start_of p + 8) (size_of p - 8) d
path_stands d (Some p) w = drop-part p.start p.len 8 d w.0
path_stands d None w = absurd w

pub lookup_heard : (d : List ℕ) (x : K.Lookup) → KnownAnswer d (M.Lookup x)
    → heard_by d (M.Lookup x)
    ≡ lookup x.head.id (key_at x.target d) (part (start_of x.path + 8) (size_of x.path - 8) d) (entry_in (contents_in d x.entry))
lookup_heard d x w =
    ap (λ (q : List ℕ). lookup x.head.id (key_at x.target d) q (entry_in (contents_in d x.entry))) (path_stands d x.path w.2)

-- ---- an acked ID has 32 bits, and N is clear where the flags are absent

abbrev Acked : T.Incoming → Type 0
Acked (M.Refused n) = Unit {0}
Acked (M.Solicit x) = Unit {0}
Acked (M.Advertise x) = Unit {0}
Acked (M.Request x) = Unit {0}
Acked (M.Flood x) = Unit {0}
Acked (M.Inquire x) = Unit {0}
Acked (M.Authority x) = x.acked < 256 ^ 4
Acked (M.Ack x) = (x.acked < 256 ^ 4) × (x.flags ≡ false → x.n ≡ false)
Acked (M.Lookup x) = Unit {0}

flag_absent : (d : List ℕ) (p : Part) → R.is_here p ≡ false → R.part_flag d p 1 1 ≡ false
unfolding R.part_flag
flag_absent d (Some p) e = let z : ◌≡◌ {A = ℕ} 0 1 = cc in absurd (omega arith)
flag_absent d None e = refl

module _ (d : List ℕ) (b : Bytes d) where
  authority-acked : (ps : List Part) → Stand authority_kinds d 12 ps → Acked (R.authority_shown d ps)
  authority-acked ps w =
      let n = needed (must 0x18 false (Sized 4) []) (drop 1 authority_kinds) d 12 ps refl w in
      subst (λ (q : List Part). Acked (R.authority_shown d q)) (sym n.is)
      (number_small n.s 4 d b (let e = sized-length 4 d n.s n.l n.shaped n.within in omega (arith, n.within)))

  ack-acked : (ps : List Part) → Stand ack_kinds d 12 ps → Acked (R.ack_shown d ps)
  ack-acked ps w =
      let n = needed (must 0x18 false (Sized 4) []) (drop 1 ack_kinds) d 12 ps refl w in (
        subst (λ (q : List Part). number_at (start_of (get_or q 0 None)) 4 d < 256 ^ 4) (sym n.is)
            (number_small n.s 4 d b (let e = sized-length 4 d n.s n.l n.shaped n.within in omega (arith, n.within))),
        flag_absent d (get_or ps 1 None),
      )

  answer-acked : (major : ℕ) → Acked (R.read_in d major)
  answer-acked major =
      of-each Acked d (λ n. tt)
      (λ h. record {
        solicit = λ ps w. tt;
        advertise = λ ps w. tt;
        request = λ ps w. tt;
        flood = λ ps w. tt;
        inquire = λ ps w. tt;
        authority = authority-acked;
        ack = ack-acked;
        lookup = λ ps w. tt;
      })
      major

-- ---- the message read says it

inj : {A : Type 0} {x y : A} → some x ≡ some y → x ≡ y
inj e = cc

flag_of : (b : Bool) → eqb (bit b) 1 ≡ b
flag_of true = refl
flag_of false = refl

here_present : (d : List ℕ) (p : Part) → present (contents_in d p) ≡ R.is_here p
here_present d (Some p) = refl
here_present d None = refl

module _ (major : ℕ) (d : List ℕ) (msg : Message) where
  heard-flood : (x : F.Flood) (p : Part) → message_of major d (M.Flood (with_entry x p)) ≡ some msg → heard msg ≡ heard_by d (M.Flood (with_entry x p))
  unfolding message_of heard
  heard-flood x (Some p) e =
      sym (ap heard (inj e)) ∙ ap (λ (b : Bool). entry x.head.id b (key_at x.validate d) (record_of (part p.start p.len d))) (flag_of x.d)
  heard-flood x None e = sym (ap heard (inj e)) ∙ ap (λ (b : Bool). revoke x.head.id b (key_at x.validate d)) (flag_of x.d)

  abbrev with_flags : A.Ack → Bool → A.Ack
  with_flags x flags = record { head = x.head; acked = x.acked; flags = flags; n = x.n }

  heard-ack : (x : A.Ack) (flags : Bool) → Acked (M.Ack (with_flags x flags)) → message_of major d (M.Ack (with_flags x flags)) ≡ some msg
      → heard msg ≡ heard_by d (M.Ack x)
  unfolding message_of heard
  heard-ack x true k e = sym (ap heard (inj e)) ∙ ap₂ ack (value_be-digits_be 256 4 x.acked (omega arith) k.0) (flag_of x.n)
  heard-ack x false k e = sym (ap heard (inj e)) ∙ ap₂ ack (value_be-digits_be 256 4 x.acked (omega arith) k.0) (sym (k.1 refl))

  heard-is : (a : T.Incoming) → Acked a → message_of major d a ≡ some msg → heard msg ≡ heard_by d a
  unfolding message_of heard
  heard-is (M.Refused n) k e = let z : ◌≡◌ {A = ℕ} 0 1 = cc in absurd (omega arith)
  heard-is (M.Solicit x) k e = sym (ap heard (inj e))
  heard-is (M.Advertise x) k e = sym (ap heard (inj e))
  heard-is (M.Request x) k e = sym (ap heard (inj e))
  heard-is (M.Flood x) k e = heard-flood x x.entry e
  heard-is (M.Inquire x) k e = sym (ap heard (inj e))
  heard-is (M.Authority x) k e =
      sym (ap heard (inj e)) ∙ ap₂ authority (value_be-digits_be 256 4 x.acked (omega arith) k) (here_present d x.fields.cpa)
  heard-is (M.Ack x) k e = heard-ack x x.flags k e
  heard-is (M.Lookup x) k e = sym (ap heard (inj e))

-- ---- so reading and hearing agree

module _ (d : List ℕ) (b : Bytes d) (major : ℕ) where
  pub answer-hears : number_of (R.read_in d major) ≡ 0 → Hears d major (heard_by d (R.read_in d major))
  answer-hears z =
      let w = (read_accepts d b major).0 z in
      let r = (read_gives d b major w.0).0 w.1 in
      record {
        kinds = r.0;
        message = w.0;
        reads = r.1;
        version = r.2;
        says = heard-is major d w.0 (R.read_in d major) (answer-acked d b major) w.1;
      }

  pub hears-answer : (x : Heard) → Hears d major x → (number_of (R.read_in d major) ≡ 0) × (x ≡ heard_by d (R.read_in d major))
  hears-answer x h =
      let e = (read_gives d b major h.message).1 (h.kinds, h.reads, h.version) in
      let z = (read_accepts d b major).1 (h.message, e) in
      (z, hears_one d major x (heard_by d (R.read_in d major)) h (answer-hears z))

-- ---- the record of a FLOOD is that of a route entry in the datagram

pub record EntryHeard (d r : List ℕ) : Type 0 where
  pub start : ℕ
  pub len : ℕ
  pub is : r ≡ record_of (part start len d)
  pub formed : entry_form (part start len d) ≡ true

flood-entry : (d : List ℕ) (i : ℕ) (s : Bool) (v : ℕ) (r : List ℕ) (x : F.Flood) (p : Part) → KnownAnswer d (M.Flood (with_entry x p))
    → entry i s v r ≡ heard_by d (M.Flood (with_entry x p)) → EntryHeard d r
flood-entry d i s v r x (Some p) k e =
    let is : r ≡ record_of (part p.start p.len d) = cc in
    record { start = p.start; len = p.len; is = is; formed = k.1.1 }
flood-entry d i s v r x None k e = let z : ◌≡◌ {A = ℕ} 0 1 = cc in absurd (omega arith)

entry_of : (d : List ℕ) (i : ℕ) (s : Bool) (v : ℕ) (r : List ℕ) (a : T.Incoming) → KnownAnswer d a → entry i s v r ≡ heard_by d a → EntryHeard d r
entry_of d i s v r (M.Refused n) k e = let z : ◌≡◌ {A = ℕ} 0 1 = cc in absurd (omega arith)
entry_of d i s v r (M.Solicit x) k e = let z : ◌≡◌ {A = ℕ} 0 1 = cc in absurd (omega arith)
entry_of d i s v r (M.Advertise x) k e = let z : ◌≡◌ {A = ℕ} 0 1 = cc in absurd (omega arith)
entry_of d i s v r (M.Request x) k e = let z : ◌≡◌ {A = ℕ} 0 1 = cc in absurd (omega arith)
entry_of d i s v r (M.Flood x) k e = flood-entry d i s v r x x.entry k e
entry_of d i s v r (M.Inquire x) k e = let z : ◌≡◌ {A = ℕ} 0 1 = cc in absurd (omega arith)
entry_of d i s v r (M.Authority x) k e = let z : ◌≡◌ {A = ℕ} 0 1 = cc in absurd (omega arith)
entry_of d i s v r (M.Ack x) k e = let z : ◌≡◌ {A = ℕ} 0 1 = cc in absurd (omega arith)
entry_of d i s v r (M.Lookup x) k e = let z : ◌≡◌ {A = ℕ} 0 1 = cc in absurd (omega arith)

pub entry-heard : (d : List ℕ) → Bytes d → (major i : ℕ) (s : Bool) (v : ℕ) (r : List ℕ) → Hears d major (entry i s v r) → EntryHeard d r
entry-heard d b major i s v r h =
    entry_of d i s v r (R.read_in d major) (known_answer d major) (hears-answer d b major (entry i s v r) h).1

-- ---- and so is that of a LOOKUP

some-entry : (d r : List ℕ) (p : Part) → EntryIn d p → some r ≡ entry_in (contents_in d p) → EntryHeard d r
some-entry d r (Some p) k e = record { start = p.start; len = p.len; is = inj e; formed = k.1 }
some-entry d r None k e = let z : ◌≡◌ {A = ℕ} 0 1 = cc in absurd (omega arith)

lookup_of_lem : (d : List ℕ) (i t : ℕ) (q r : List ℕ) (a : T.Incoming) → KnownAnswer d a → lookup i t q (some r) ≡ heard_by d a → EntryHeard d r
lookup_of_lem d i t q r (M.Refused n) k e = let z : ◌≡◌ {A = ℕ} 0 1 = cc in absurd (omega arith)
lookup_of_lem d i t q r (M.Solicit x) k e = let z : ◌≡◌ {A = ℕ} 0 1 = cc in absurd (omega arith)
lookup_of_lem d i t q r (M.Advertise x) k e = let z : ◌≡◌ {A = ℕ} 0 1 = cc in absurd (omega arith)
lookup_of_lem d i t q r (M.Request x) k e = let z : ◌≡◌ {A = ℕ} 0 1 = cc in absurd (omega arith)
lookup_of_lem d i t q r (M.Flood x) k e = flood-not x.entry e
  where
    flood-not : (p : Part) → lookup i t q (some r) ≡ said_by d x.head.id x.d x.validate p → EntryHeard d r
    flood-not (Some p) e = let z : ◌≡◌ {A = ℕ} 0 1 = cc in absurd (omega arith)
    flood-not None e = let z : ◌≡◌ {A = ℕ} 0 1 = cc in absurd (omega arith)
lookup_of_lem d i t q r (M.Inquire x) k e = let z : ◌≡◌ {A = ℕ} 0 1 = cc in absurd (omega arith)
lookup_of_lem d i t q r (M.Authority x) k e = let z : ◌≡◌ {A = ℕ} 0 1 = cc in absurd (omega arith)
lookup_of_lem d i t q r (M.Ack x) k e = let z : ◌≡◌ {A = ℕ} 0 1 = cc in absurd (omega arith)
lookup_of_lem d i t q r (M.Lookup x) k e = let is : some r ≡ entry_in (contents_in d x.entry) = cc in some-entry d r x.entry k.1 is

pub lookup_entry-heard : (d : List ℕ) → Bytes d → (major i t : ℕ) (q r : List ℕ) → Hears d major (lookup i t q (some r)) → EntryHeard d r
lookup_entry-heard d b major i t q r h =
    lookup_of_lem d i t q r (R.read_in d major) (known_answer d major) (hears-answer d b major (lookup i t q (some r)) h).1
