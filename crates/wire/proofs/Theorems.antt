-- The theorems of the statements. Assumes nothing.
use Prim.Native.Nat.{ℕ, ◌≤◌, ◌<◌}
use native.Mathlib.Omega.{arith}
use mathlib.Core.List.{List, [], ◌++◌}
use mathlib.Core.Bool.{Bool, true, false, cond, ◌&&◌}
use mathlib.Core.Option.{Option, some, none}
use mathlib.Core.Path.{◌≡◌, refl, sym, ap, ap₂, subst, ◌∙◌}
use lib.Dec.{eqb, leb}
use lib.ListN.{length, get_or, take, drop}
use lib.Seq.{take_at}
use borrow.Author.Tests.{eqb-true, le-leb}
use Rattle.octet.specs.Number.{Bytes}
use Rattle.refusal.proofs.CallLaws.{call-exactly}
use Rattle.wire_shapes.specs.Shapes.{Kind, has_shape}
use Rattle.wire_shapes.specs.declared.Shape.TheVariants.{Any}
use Rattle.wire_fields.specs.Kinds.{kinds_of, may, solicit_kinds, advertise_kinds, request_kinds, flood_kinds, inquire_kinds, authority_kinds, ack_kinds, lookup_kinds, joined_fields, sized}
use Rattle.wire_fields.specs.Message.{Contents, Held, opening, Message, Formed, Reads, layout_of, message_bytes, parts_of, type_of}
use Rattle.wire_fields.specs.Reading.{message_at, values_of, places_at, fields_as}
use Rattle.octet.specs.Part.{same}
use Rattle.wire_fields.proofs.RefusalLaws.{by_type, in_steps, found_steps}
use Rattle.wire_fields.specs.Refusals.{Found, refused, found, found_of, in_part, spans_of, fields_in, refusals, found_in}
use Rattle.wire_fields.specs.Places.{Part}
use Rattle.wire_fields.proofs.WholeLaws.{way, lengths, found_reads, reads_found, reads_once, written_reads, read_written}
use Rattle.wire_read.specs.Answers.{read_in, incoming_of, solicit_shown, advertise_shown, request_shown, flood_shown, inquire_shown, authority_shown, ack_shown, lookup_shown}
use Rattle.wire_read.specs.Meaning.{number_of, message_of}
use Rattle.wire_read.specs.declared.Incoming.{Incoming}
use Rattle.wire_read.specs.declared.Incoming.TheVariants as M
use Rattle.wire_read.specs.declared.messages.Authority.{Authority}
use Rattle.wire_write.specs.Writing.{Made, fit, write_as, write_in, Wrote}
use Rattle.wire_write.specs.declared.Written.{Written}
use Rattle.wire.specs.Statements.{PayloadReads, changed_at, changed, AtMostOne, WrittenReads, ReadWritten, ChangedReads}
use Rattle.wire.specs.Code.{ReadGives, ReadAccepts, ReadRefuses, WrittenRead, OutputReads, WriteReads, ReadWrittenAgain, OutputAgain, ReadOne, WriteOne, PayloadWritten}
use Rattle.wire.proofs.StandLaws.{Stand, stands}
use Rattle.wire.proofs.MeaningLaws.{solicit_means, advertise_means, request_means, flood_means, inquire_means, authority_means, ack_means, lookup_means}
use Rattle.wire_copy.specs.Resent.{resent}
use Rattle.wire_fields.proofs.SegmentLaws.{cleared-length}
use Rattle.wire_fields.proofs.KindLaws.{lawful}
use Rattle.wire.proofs.AgainLaws.{again_bytes, flood_one}
use Rattle.wire.proofs.RightLaws.{stand_rights, buffer_rights, solicit-right, advertise-right, request-right, flood-right, inquire-right, authority-right, ack-right, lookup-right}
use Rattle.wire.proofs.PayloadLaws.{seen, payload-made}
use Rattle.wire.proofs.ChangedLaws.{changed_well}
use Rattle.wire.proofs.BytesLaws.{bytes_message}

-- 1
pub at_most_one : AtMostOne
at_most_one ks js d m n p q = reads_once ks js d m n p q

-- ---- the answer, by what is found

-- what holds of the answer of each type, of its kinds, holds of the answer shown
abbrev Holds : (ℕ → List Kind → Incoming → Type 0) → List ℕ → List Part → Type 0
Holds P d ps =
    P 1 solicit_kinds (solicit_shown d ps) × P 2 advertise_kinds (advertise_shown d ps) × P 3 request_kinds (request_shown d ps)
    × P 4 flood_kinds (flood_shown d ps) × P 7 inquire_kinds (inquire_shown d ps) × P 8 authority_kinds (authority_shown d ps)
    × P 9 ack_kinds (ack_shown d ps) × P 11 lookup_kinds (lookup_shown d ps)

module _ (P : ℕ → List Kind → Incoming → Type 0) (d : List ℕ) (ps : List Part) (h : Holds P d ps) (t : ℕ) (ks : List Kind) where
  of-kind : (n : ℕ) (js : List Kind) (a : Incoming) → P n js a → eqb t n ≡ true → some js ≡ some ks → P t ks a
  of-kind n js a p q e =
      let k : js ≡ ks = cc in
      subst (λ (x : List Kind). P t x a) k (subst (λ (u : ℕ). P u js a) (sym (eqb-true t n q)) p)

  by_kind : (a₁ : Bool) → eqb t 1 ≡ a₁ → (a₂ : Bool) → eqb t 2 ≡ a₂ → (a₃ : Bool) → eqb t 3 ≡ a₃ → (a₄ : Bool) → eqb t 4 ≡ a₄
      → (a₇ : Bool) → eqb t 7 ≡ a₇ → (a₈ : Bool) → eqb t 8 ≡ a₈ → (a₉ : Bool) → eqb t 9 ≡ a₉ → (b₁ : Bool) → eqb t 11 ≡ b₁
      → cond a₁ (some solicit_kinds) (cond a₂ (some advertise_kinds) (cond a₃ (some request_kinds) (cond a₄ (some flood_kinds)
      (cond a₇ (some inquire_kinds) (cond a₈ (some authority_kinds) (cond a₉ (some ack_kinds) (cond b₁ (some lookup_kinds) none))))))) ≡ some ks
      → P t ks (cond a₁ (solicit_shown d ps) (cond a₂ (advertise_shown d ps) (cond a₃ (request_shown d ps) (cond a₄ (flood_shown d ps)
      (cond a₇ (inquire_shown d ps) (cond a₈ (authority_shown d ps) (cond a₉ (ack_shown d ps) (lookup_shown d ps))))))))
  by_kind true q₁ a₂ q₂ a₃ q₃ a₄ q₄ a₇ q₇ a₈ q₈ a₉ q₉ b₁ r₁ e = of-kind 1 solicit_kinds (solicit_shown d ps) h.0 q₁ e
  by_kind false q₁ true q₂ a₃ q₃ a₄ q₄ a₇ q₇ a₈ q₈ a₉ q₉ b₁ r₁ e = of-kind 2 advertise_kinds (advertise_shown d ps) h.1 q₂ e
  by_kind false q₁ false q₂ true q₃ a₄ q₄ a₇ q₇ a₈ q₈ a₉ q₉ b₁ r₁ e = of-kind 3 request_kinds (request_shown d ps) h.2 q₃ e
  by_kind false q₁ false q₂ false q₃ true q₄ a₇ q₇ a₈ q₈ a₉ q₉ b₁ r₁ e = of-kind 4 flood_kinds (flood_shown d ps) h.3 q₄ e
  by_kind false q₁ false q₂ false q₃ false q₄ true q₇ a₈ q₈ a₉ q₉ b₁ r₁ e = of-kind 7 inquire_kinds (inquire_shown d ps) h.4 q₇ e
  by_kind false q₁ false q₂ false q₃ false q₄ false q₇ true q₈ a₉ q₉ b₁ r₁ e = of-kind 8 authority_kinds (authority_shown d ps) h.5 q₈ e
  by_kind false q₁ false q₂ false q₃ false q₄ false q₇ false q₈ true q₉ b₁ r₁ e = of-kind 9 ack_kinds (ack_shown d ps) h.6 q₉ e
  by_kind false q₁ false q₂ false q₃ false q₄ false q₇ false q₈ false q₉ true r₁ e = of-kind 11 lookup_kinds (lookup_shown d ps) h.7 r₁ e
  by_kind false q₁ false q₂ false q₃ false q₄ false q₇ false q₈ false q₉ false r₁ e = absurd (let o : ◌≡◌ {A = ℕ} 0 1 = cc in omega arith)

  by-shown : kinds_of t ≡ some ks → P t ks (incoming_of d (found t ps))
  unfolding incoming_of kinds_of
  by-shown e = by_kind _ refl _ refl _ refl _ refl _ refl _ refl _ refl _ refl e

-- the places found stand, and split controls follow from the rest
found_stand : (major : ℕ) (d : List ℕ) (t : ℕ) (ps : List Part) → found_in d major ≡ found t ps → (ks : List Kind) → kinds_of t ≡ some ks
    → Stand ks d 12 ps × (sized t (length d) ps (values_of ks d ps) ≡ true) × (major ≡ get_or d 5 0)
found_stand major d t ps e ks k =
    let (js, w) = way d major t ps e in
    let j : js ≡ ks = (let o : some js ≡ some ks = sym w.kinds ∙ k in cc) in (
      stands ks d 12 ps (subst (λ (x : List Kind). places_at x d 12 ≡ some ps) j w.places),
      subst (λ (x : List Kind). sized t (length d) ps (values_of x d ps) ≡ true) j w.sizes,
      sym w.version,
    )

-- what is found, `read` says
abbrev Means : ℕ → List ℕ → List Part → ℕ → List Kind → Incoming → Type 0
Means major d ps t ks a =
    Bytes d → major ≡ get_or d 5 0 → Stand ks d 12 ps → sized t (length d) ps (values_of ks d ps) ≡ true
    → message_of major d a ≡ some (message_at ks d t ps)

means : (major : ℕ) (d : List ℕ) (ps : List Part) → Holds (Means major d ps) d ps
means major d ps = (
  λ b m w z. solicit_means major d b m ps w,
  λ b m w z. advertise_means major d b m ps w,
  λ b m w z. request_means major d b m ps w z,
  λ b m w z. flood_means major d b m ps w,
  λ b m w z. inquire_means major d b m ps w,
  λ b m w z. authority_means major d b m ps w z,
  λ b m w z. ack_means major d b m ps w,
  λ b m w z. lookup_means major d b m ps w,
)

shown_means : (major : ℕ) (d : List ℕ) → Bytes d → (t : ℕ) (ps : List Part) → found_in d major ≡ found t ps
    → (ks : List Kind) → kinds_of t ≡ some ks → message_of major d (incoming_of d (found t ps)) ≡ some (message_at ks d t ps)
shown_means major d b t ps e ks k =
    let (w, z, m) = found_stand major d t ps e ks k in
    by-shown (Means major d ps) d ps (means major d ps) t ks k b m w z

-- and it is right to be written again
abbrev Right : ℕ → List ℕ → List Part → ℕ → List Kind → Incoming → Type 0
Right major d ps t ks a =
    Stand ks d 12 ps → (m : Message) → message_of major d a ≡ some m → joined_fields m.type m.fields ≡ true → (resent major d a).ok ≡ true

right : (major : ℕ) (d : List ℕ) (ps : List Part) → Holds (Right major d ps) d ps
right major d ps = (
  λ w m e j. solicit-right major d ps (stand_rights solicit_kinds d 12 ps w),
  λ w m e j. advertise-right major d ps (stand_rights advertise_kinds d 12 ps w),
  λ w m e j. request-right major d ps (stand_rights request_kinds d 12 ps w),
  λ w m e j. flood-right major d ps (flood_one major d _ m e j) (stand_rights flood_kinds d 12 ps w),
  λ w m e j. inquire-right major d ps (stand_rights inquire_kinds d 12 ps w),
  λ w m e j. authority-right major d ps (buffer_rights d 12 ps w),
  λ w m e j. ack-right major d ps (stand_rights ack_kinds d 12 ps w),
  λ w m e j. lookup-right major d ps (stand_rights lookup_kinds d 12 ps w),
)

by_found : (d : List ℕ) → Bytes d → (major : ℕ) (m : Message) (x : Found) → found_in d major ≡ x → message_of major d (incoming_of d x) ≡ some m
    → (ks : List Kind) × Reads ks d m × (m.major ≡ major)
unfolding incoming_of message_of
by_found d b major m (refused n) e q = absurd (let z : ◌≡◌ {A = ℕ} 0 1 = cc in omega arith)
by_found d b major m (found t ps) e q =
    let (ks, r, v) = found_reads d b major t ps e in
    let o : some (message_at ks d t ps) ≡ some m = sym (shown_means major d b t ps e ks r.well.known) ∙ q in
    let s : message_at ks d t ps ≡ m = cc in
    (ks, subst (Reads ks d) s r, sym (ap (λ (y : Message). y.major) s) ∙ v)

reads_give : (d : List ℕ) → Bytes d → (major : ℕ) (m : Message) (ks : List Kind) → Reads ks d m → m.major ≡ major
    → message_of major d (read_in d major) ≡ some m
reads_give d b major m ks r v =
    let f = reads_found ks d m r in
    let ps = parts_of 12 ks m.fields in
    let e : found_in d major ≡ found m.type ps = ap (found_in d) (sym v) ∙ f.0 in
    ap (λ (x : Found). message_of major d (incoming_of d x)) e ∙ shown_means major d b m.type ps e ks r.well.known ∙ ap some f.1

-- 2
pub read_gives : ReadGives
read_gives d b major m = (λ e. by_found d b major m (found_in d major) refl e, λ w. reads_give d b major m w.0 w.1 w.2)

zero-cond : (a : Bool) (x y : Incoming) → number_of x ≡ 0 → number_of y ≡ 0 → number_of (cond a x y) ≡ 0
zero-cond true x y p q = p
zero-cond false x y p q = q

accepted : (d : List ℕ) (t : ℕ) (ps : List Part) → number_of (incoming_of d (found t ps)) ≡ 0
unfolding incoming_of
accepted d t ps =
    zero-cond (eqb t 1) _ _ refl (zero-cond (eqb t 2) _ _ refl (zero-cond (eqb t 3) _ _ refl (zero-cond (eqb t 4) _ _ refl
    (zero-cond (eqb t 7) _ _ refl (zero-cond (eqb t 8) _ _ refl (zero-cond (eqb t 9) _ _ refl refl))))))

numbered : (d : List ℕ) (n : ℕ) → number_of (incoming_of d (refused n)) ≡ n
unfolding incoming_of
numbered d n = refl

pub read_refuses : ReadRefuses
unfolding found_in
read_refuses d major n p =
    call-exactly (λ (x : Found). number_of (incoming_of d x)) refused (numbered d) (found (type_of d) (spans_of (fields_in d)))
    (accepted d (type_of d) (spans_of (fields_in d))) (refusals d major) 2 (omega arith) n p

-- 0 is given only with a message
refuses : (d : List ℕ) (n : ℕ) → 0 < n → number_of (incoming_of d (refused n)) ≡ 0 → (t : ℕ) × (ps : List Part) × (refused n ≡ found t ps)
refuses d n p e = absurd (omega (arith, numbered d n))

either : (d : List ℕ) (b : Bool) (x y : Found)
    → (number_of (incoming_of d x) ≡ 0 → (t : ℕ) × (ps : List Part) × (x ≡ found t ps))
    → (number_of (incoming_of d y) ≡ 0 → (t : ℕ) × (ps : List Part) × (y ≡ found t ps))
    → number_of (incoming_of d (cond b x y)) ≡ 0 → (t : ℕ) × (ps : List Part) × (cond b x y ≡ found t ps)
either d true x y p q e = p e
either d false x y p q e = q e

of_type : (d : List ℕ) (t : ℕ) (o : Option (List Kind)) → number_of (incoming_of d (by_type t d o)) ≡ 0
    → (u : ℕ) × (ps : List Part) × (by_type t d o ≡ found u ps)
of_type d t none e = refuses d 5 (omega arith) e
of_type d t (some ks) e =
    either d (in_part t d) (refused 7) (found_of t (fields_as t ks d)) (refuses d 7 (omega arith)) (of_fields t (fields_as t ks d)) e
  where
    of_fields : (t : ℕ) (o : Option (List Part)) → number_of (incoming_of d (found_of t o)) ≡ 0 → (u : ℕ) × (ps : List Part) × (found_of t o ≡ found u ps)
    of_fields t none e = refuses d 6 (omega arith) e
    of_fields t (some ps) e = (t, ps, refl)

accepts : (d : List ℕ) (major : ℕ) → number_of (incoming_of d (in_steps d major)) ≡ 0 → (t : ℕ) × (ps : List Part) × (in_steps d major ≡ found t ps)
unfolding in_steps
accepts d major e =
    either d (leb 12 (length d) && leb (length d) 1232) _ (refused 2)
    (either d (same (take 5 d) opening) _ (refused 3)
    (either d (eqb (get_or d 5 0) major) _ (refused 4) (of_type d (get_or d 7 0) (kinds_of (get_or d 7 0))) (refuses d 4 (omega arith)))
    (refuses d 3 (omega arith)))
    (refuses d 2 (omega arith)) e

pub read_accepts : ReadAccepts
read_accepts d b major = (forth, back)
  where
    forth : number_of (read_in d major) ≡ 0 → (m : Message) × (message_of major d (read_in d major) ≡ some m)
    forth e =
        let s = found_steps d major in
        let (t, ps, q) = accepts d major (ap (λ (x : Found). number_of (incoming_of d x)) (sym s) ∙ e) in
        let f : found_in d major ≡ found t ps = s ∙ q in
        let (ks, r, v) = found_reads d b major t ps f in
        (message_at ks d t ps, ap (λ (x : Found). message_of major d (incoming_of d x)) f ∙ shown_means major d b t ps f ks r.well.known)

    back : (m : Message) × (message_of major d (read_in d major) ≡ some m) → number_of (read_in d major) ≡ 0
    back w =
        let (ks, r, v) = by_found d b major w.0 (found_in d major) refl w.1 in
        let f = reads_found ks d w.0 r in
        ap (λ (x : Found). number_of (incoming_of d x)) (ap (found_in d) (sym v) ∙ f.0) ∙ accepted d _ _

-- 3
pub written_back : WrittenReads
written_back ks m w = written_reads ks m w

pub written_read : WrittenRead
written_read ks m w = reads_give (message_bytes (layout_of ks m)) (bytes_message ks m w) m.major m ks (written_reads ks m w) refl

zero_as : (m : Made) (old : List ℕ) → m.ok ≡ true → fit m.bytes old ≡ true
    → (write_as m old ≡ record { number = 0; length = length m.bytes }) × (write_in m old ≡ m.bytes ++ drop (length m.bytes) old)
unfolding write_as write_in
zero_as m old k f = (rw (k, f), rw (k, f))

fifteen_as : (m : Made) (old : List ℕ) → m.ok ≡ true → fit m.bytes old ≡ false → write_as m old ≡ record { number = 15; length = 0 }
unfolding write_as
fifteen_as m old k f = rw (k, f)

six_as : (m : Made) (old : List ℕ) → m.ok ≡ false → write_as m old ≡ record { number = 6; length = 0 }
unfolding write_as
six_as m old k = rw k

-- where a writer gives 0, its bytes are the first of the output
output_bytes : (m : Made) (old : List ℕ) (r : Written) (out : List ℕ) → Wrote m old r out → r.number ≡ 0 → take r.length out ≡ m.bytes
output_bytes m old r out w z = by m.ok refl (fit m.bytes old) refl
  where
    by : (a : Bool) → m.ok ≡ a → (b : Bool) → fit m.bytes old ≡ b → take r.length out ≡ m.bytes
    by true k true f =
        let a = zero_as m old k f in
        let n : r.length ≡ length m.bytes = ap (λ (x : Written). x.length) (w.answer ∙ a.0) in
        rw (n, w.output, a.1) (take_at m.bytes (drop (length m.bytes) old) (length m.bytes) refl)
    by true k false f = absurd (let n : r.number ≡ 15 = ap (λ (x : Written). x.number) (w.answer ∙ fifteen_as m old k f) in omega arith)
    by false k b f = absurd (let n : r.number ≡ 6 = ap (λ (x : Written). x.number) (w.answer ∙ six_as m old k) in omega arith)

pub output_reads : OutputReads
output_reads ks m ok old r out w v z =
    let e = output_bytes (record { ok = ok; bytes = message_bytes (layout_of ks m) }) old r out v z in
    rw e (written_read ks m w)

pub write_reads : WriteReads
write_reads major d a ks m e w old r out o z =
    let b = output_bytes (resent major d a) old r out o z in
    rw (b ∙ again_bytes major d a m e ks w.known w.formed w.joins) (written_read ks m w)

-- 4
pub read_again : ReadWritten
read_again ks d m r = read_written ks d m r

reads_length : (ks : List Kind) (d : List ℕ) (m : Message) → Reads ks d m → length (message_bytes (layout_of ks m)) ≡ length d
reads_length ks d m r =
    sym (ap length r.same)
    ∙ cleared-length (layout_of ks m) (λ x. refl, lengths ks (lawful m.type ks r.well.known) 12 m.fields) d

-- what is written again of what `read` gave
made_again : (d : List ℕ) → Bytes d → (major : ℕ) (m : Message) (ks : List Kind) → Reads ks d m → m.major ≡ major
    → resent major d (read_in d major) ≡ record { ok = true; bytes = message_bytes (layout_of ks m) }
made_again d b major m ks r v =
    let g = reads_give d b major m ks r v in
    let f = reads_found ks d m r in
    let ps = parts_of 12 ks m.fields in
    let e : found_in d major ≡ found m.type ps = ap (found_in d) (sym v) ∙ f.0 in
    let w = found_stand major d m.type ps e ks r.well.known in
    let q : message_of major d (incoming_of d (found m.type ps)) ≡ some m = ap (λ (x : Found). message_of major d (incoming_of d x)) (sym e) ∙ g in
    let o : (resent major d (read_in d major)).ok ≡ true =
    ap (λ (x : Found). (resent major d (incoming_of d x)).ok) e
    ∙ by-shown (Right major d ps) d ps (right major d ps) m.type ks r.well.known w.0 m q r.well.joins in
    let y = again_bytes major d (read_in d major) m g ks r.well.known r.well.formed r.well.joins in
    ap₂ (λ (x : Bool) (z : List ℕ). record { ok = x; bytes = z }) o y

pub read_written-again : ReadWrittenAgain
read_written-again d b major m e =
    let (ks, r, v) = by_found d b major m (found_in d major) refl e in
    (ks, r, made_again d b major m ks r v ∙ ap (λ (z : List ℕ). record { ok = true; bytes = z }) (sym r.same))

room : (b old : List ℕ) → length b ≤ length old → length b ≤ 1232 → fit b old ≡ true
unfolding fit
room b old h l = ap₂ ◌&&◌ (le-leb (length b) (length old) h) (le-leb (length b) 1232 l)

pub output-again : OutputAgain
output-again d b major m e old r out h w =
    let (ks, x, v) = by_found d b major m (found_in d major) refl e in
    let y = message_bytes (layout_of ks m) in
    let n : length y ≡ length d = reads_length ks d m x in
    let o : Wrote (record { ok = true; bytes = y }) old r out = subst (λ (z : Made). Wrote z old r out) (made_again d b major m ks x v) w in
    let f = x.well.fits in
    let a = zero_as (record { ok = true; bytes = y }) old refl (room y old (omega arith) f) in
    let q : r ≡ record { number = 0; length = length d } = o.answer ∙ a.0 ∙ ap (λ (z : ℕ). record { number = 0; length = z }) n in
    let g = output_reads ks m true old r out x.well o (ap (λ (z : Written). z.number) q) in (
      q,
      subst (λ (k : ℕ). message_of major (take k out) (read_in (take k out) major) ≡ some m) (ap (λ (z : Written). z.length) q)
          (subst (λ (k : ℕ). message_of k (take r.length out) (read_in (take r.length out) k) ≡ some m) v g),
    )

-- 5
pub read_one : ReadOne
read_one d major r s p q = p ∙ sym q

pub write_one : WriteOne
write_one m old r s out other p q = (p.answer ∙ sym q.answer, p.output ∙ sym q.output)

-- 6
pub changed_reads : ChangedReads
changed_reads ks m n c w a j h = written_reads ks (changed ks m n c) (changed_well ks m n c w a j h)

pub authority_joins : (t : ℕ) (fs : List Contents) → kinds_of t ≡ some authority_kinds → joined_fields t fs ≡ true
unfolding joined_fields kinds_of
authority_joins t fs k = by (eqb t 4) refl
  where
    by : (b : Bool) → eqb t 4 ≡ b → joined_fields t fs ≡ true
    by true q =
        let o : some flood_kinds ≡ some authority_kinds = ap kinds_of (sym (eqb-true t 4 q)) ∙ k in
        let j : flood_kinds ≡ authority_kinds = cc in
        absurd (let z : ◌≡◌ {A = ℕ} 6 9 = ap length j in omega arith)
    by false q = rw q

pub payload_held : (v : List ℕ) → Bytes v → length v ≤ 1232 → Held (may 0x5A true Any []) v
unfolding has_shape
payload_held v b h = record { shaped = refl; clear = refl; whole = b; short = omega arith }

pub payload_reads : PayloadReads
payload_reads m v w b l h =
    changed_reads authority_kinds m 6 (some v) w (payload_held v b l) (authority_joins m.type (changed_at 6 (some v) m.fields) w.known) h

-- 7

-- an AUTHORITY that was read is a message, and right to be written again
module _ (d : List ℕ) (b : Bytes d) (major : ℕ) (x : Authority) (a : read_in d major ≡ M.Authority x) where
  pub authority-is : message_of major d (read_in d major) ≡ some (seen major d x [])
  unfolding message_of
  authority-is = ap (message_of major d) a

  pub authority-again : (resent major d (M.Authority x)).ok ≡ true
  authority-again =
      let (ks, r, again) = read_written-again d b major (seen major d x []) authority-is in
      ap (λ (y : Incoming). (resent major d y).ok) (sym a) ∙ ap (λ (y : Made). y.ok) again

pub payload_written : PayloadWritten
unfolding message_of kinds_of
payload_written d b major x m a e v c l =
    let s = seen major d x v in
    let told : some m ≡ some s = sym e ∙ ap (message_of major d) a in
    let same : m ≡ s = cc in
    let (ks, r, again) = read_written-again d b major m e in
    let kind : some ks ≡ some authority_kinds = sym r.well.known ∙ ap (λ (y : Message). kinds_of y.type) same in
    let kinds : ks ≡ authority_kinds = cc in
    let formed : Formed authority_kinds s.fields = subst (λ (y : Message). Formed authority_kinds y.fields) same
    (subst (λ (k : List Kind). Formed k m.fields) kinds r.well.formed) in
    payload-made major d x v formed (payload_held v c l) (authority-again d b major x a)
    ∙ ap (λ (y : Message). record { ok = true; bytes = message_bytes (layout_of authority_kinds (changed authority_kinds y 6 (some v))) }) (sym same)
