-- `brief_at` meets its contract: where the header is right, what is told is told of what the type's reader gives. Assumes nothing.
use borrow.Author.Tests.{ne_eqb}
use native.Mathlib.Omega.{arith}
use mathlib.Core.Path.{◌≡◌, refl, sym, ap, subst, ◌∙◌}
use mathlib.Core.List.{List}
use mathlib.Core.Bool.{false}
use mathlib.Core.Option.{some}
use Prim.Native.Nat.{ℕ, ◌≤◌}
use lib.ListN.{length, get_or}
use Rattle.wire_shapes.specs.Shapes.{Kind}
use Rattle.wire_fields.specs.Kinds.{kinds_of, solicit_kinds, advertise_kinds, request_kinds, flood_kinds, inquire_kinds, ack_kinds, lookup_kinds}
use Rattle.wire_fields.specs.Refusals.{refused, found_in, in_part}
use Rattle.wire_fields.proofs.RefusalLaws.{by_type}
use Rattle.wire_read.specs.Answers.{read_in, incoming_of}
use Rattle.wire_read.specs.declared.Incoming.{Incoming}
use Rattle.wire_read.specs.declared.Incoming.TheVariants.{Refused}
use Rattle.wire_read.proofs.ReaderLaws.{header-refuses, header-right}
use Rattle.look.specs.Seen.{look_of, brief_of, read_as, authority_read, Small}
use Rattle.look.proofs.SeenLaws.{look_small}
use Rattle.look.proofs.BriefLaws.{read_as_lem, read_authority}
use Rattle.look.proofs.brief_at.Goals.{Else-number-ne0}
use Rattle.look.proofs.brief_at.Goals as goal

abbrev datagram-at : Else-number-ne0 → List ℕ
datagram-at c = c.args.datagram.now

-- a header that is right is long enough, and what is found is by the type
right-at : (c : Else-number-ne0)
    → (12 ≤ length (datagram-at c)) × (found_in (datagram-at c) c.args.major
    ≡ by_type (get_or (datagram-at c) 7 0) (datagram-at c) (kinds_of (get_or (datagram-at c) 7 0)))
right-at c = header-right (datagram-at c) c.args.major (sym c.header-number.ensures ∙ c.if-number-ne0.false)

-- what is read is what the reader of its type gives, and the fields that are told stand within the datagram
read_at : (c : Else-number-ne0) (t : ℕ) (ks : List Kind) → get_or (datagram-at c) 7 0 ≡ t → kinds_of t ≡ some ks → in_part t (datagram-at c) ≡ false
    → read_in (datagram-at c) c.args.major ≡ read_as t ks (datagram-at c)
read_at c t ks q k n = read_as_lem (datagram-at c) c.args.major t ks (right-at c).1 q k n

small_at : (c : Else-number-ne0) (t : ℕ) (ks : List Kind) → get_or (datagram-at c) 7 0 ≡ t → kinds_of t ≡ some ks → in_part t (datagram-at c) ≡ false
    → (12 ≤ length (datagram-at c)) × Small (look_of (read_as t ks (datagram-at c)))
small_at c t ks q k n = ((right-at c).0, subst (λ (a : Incoming). Small (look_of a)) (read_at c t ks q k n) (look_small _ _))

authority_at : (c : Else-number-ne0) → get_or (datagram-at c) 7 0 ≡ 8
    → read_in (datagram-at c) c.args.major ≡ authority_read (datagram-at c)
authority_at c q = read_authority (datagram-at c) _ (right-at c).1 q

pub returns-then-number-ne0 : goal.returns-then-number-ne0
unfolding incoming_of
returns-then-number-ne0 c =
    let a = c.args in
    c.refused.ensures
    ∙ ap brief_of (ap Refused c.header-number.ensures
    ∙ sym (ap (incoming_of a.datagram.now)
    (header-refuses a.datagram.now a.major (λ e. c.if-number-ne0.true (c.header-number.ensures ∙ e)))))

pub bounds-datagram-7 : goal.bounds-datagram-7
bounds-datagram-7 c =
    omega (arith, (right-at (goal.at.bounds-datagram-7 c).Else-number-ne0).0)

pub brief_solicit-requires : goal.brief_solicit-requires
unfolding kinds_of in_part
brief_solicit-requires c =
    small_at (goal.at.brief_solicit-requires c).Else-number-ne0 1 solicit_kinds c.in-1.is refl refl

pub returns-in-1 : goal.returns-in-1
unfolding kinds_of in_part
returns-in-1 c =
    c.brief_solicit.ensures ∙ ap brief_of (sym (read_at (goal.at.returns-in-1 c).Else-number-ne0 1 solicit_kinds c.in-1.is refl refl))

pub brief_advertise-requires : goal.brief_advertise-requires
unfolding kinds_of in_part
brief_advertise-requires c =
    small_at (goal.at.brief_advertise-requires c).Else-number-ne0 2 advertise_kinds c.in-2.is refl refl

pub returns-in-2 : goal.returns-in-2
unfolding kinds_of in_part
returns-in-2 c =
    c.brief_advertise.ensures ∙ ap brief_of (sym (read_at (goal.at.returns-in-2 c).Else-number-ne0 2 advertise_kinds c.in-2.is refl refl))

pub brief_request-requires : goal.brief_request-requires
unfolding kinds_of in_part
brief_request-requires c =
    small_at (goal.at.brief_request-requires c).Else-number-ne0 3 request_kinds c.in-3.is refl refl

pub returns-in-3 : goal.returns-in-3
unfolding kinds_of in_part
returns-in-3 c =
    c.brief_request.ensures ∙ ap brief_of (sym (read_at (goal.at.returns-in-3 c).Else-number-ne0 3 request_kinds c.in-3.is refl refl))

pub brief_flood-requires : goal.brief_flood-requires
unfolding kinds_of in_part
brief_flood-requires c =
    small_at (goal.at.brief_flood-requires c).Else-number-ne0 4 flood_kinds c.in-4.is refl refl

pub returns-in-4 : goal.returns-in-4
unfolding kinds_of in_part
returns-in-4 c =
    c.brief_flood.ensures ∙ ap brief_of (sym (read_at (goal.at.returns-in-4 c).Else-number-ne0 4 flood_kinds c.in-4.is refl refl))

pub brief_inquire-requires : goal.brief_inquire-requires
unfolding kinds_of in_part
brief_inquire-requires c =
    small_at (goal.at.brief_inquire-requires c).Else-number-ne0 7 inquire_kinds c.in-7.is refl refl

pub returns-in-7 : goal.returns-in-7
unfolding kinds_of in_part
returns-in-7 c =
    c.brief_inquire.ensures ∙ ap brief_of (sym (read_at (goal.at.returns-in-7 c).Else-number-ne0 7 inquire_kinds c.in-7.is refl refl))

pub brief_authority-requires : goal.brief_authority-requires
brief_authority-requires c =
    let at = (goal.at.brief_authority-requires c).Else-number-ne0 in
    ((right-at at).0, subst (λ (a : Incoming). Small (look_of a)) (authority_at at c.in-8.is) (look_small _ _))

pub returns-in-8 : goal.returns-in-8
returns-in-8 c =
    c.brief_authority.ensures ∙ ap brief_of (sym (authority_at (goal.at.returns-in-8 c).Else-number-ne0 c.in-8.is))

pub brief_ack-requires : goal.brief_ack-requires
unfolding kinds_of in_part
brief_ack-requires c =
    small_at (goal.at.brief_ack-requires c).Else-number-ne0 9 ack_kinds c.in-9.is refl refl

pub returns-in-9 : goal.returns-in-9
unfolding kinds_of in_part
returns-in-9 c =
    c.brief_ack.ensures ∙ ap brief_of (sym (read_at (goal.at.returns-in-9 c).Else-number-ne0 9 ack_kinds c.in-9.is refl refl))

pub brief_lookup-requires : goal.brief_lookup-requires
unfolding kinds_of in_part
brief_lookup-requires c =
    small_at (goal.at.brief_lookup-requires c).Else-number-ne0 11 lookup_kinds c.in-11.is refl refl

pub returns-in-11 : goal.returns-in-11
unfolding kinds_of in_part
returns-in-11 c =
    c.brief_lookup.ensures ∙ ap brief_of (sym (read_at (goal.at.returns-in-11 c).Else-number-ne0 11 lookup_kinds c.in-11.is refl refl))

pub returns-in_default : goal.returns-in_default
unfolding incoming_of kinds_of
returns-in_default c =
    let d = datagram-at (goal.at.returns-in_default c).Else-number-ne0 in
    let k = get_or d 7 0 in
    let five : found_in d c.args.major ≡ refused 5 =
    rw (
      (right-at (goal.at.returns-in_default c).Else-number-ne0).1,
      ne_eqb k 1 (λ e. absurd (omega (arith, e))),
      ne_eqb k 2 (λ e. absurd (omega (arith, e))),
      ne_eqb k 3 (λ e. absurd (omega (arith, e))),
      ne_eqb k 4 (λ e. absurd (omega (arith, e))),
      ne_eqb k 7 (λ e. absurd (omega (arith, e))),
      ne_eqb k 8 (λ e. absurd (omega (arith, e))),
      ne_eqb k 9 (λ e. absurd (omega (arith, e))),
      ne_eqb k 11 (λ e. absurd (omega (arith, e))),
    ) in
    c.refused-in_default.ensures ∙ ap brief_of (sym (ap (incoming_of d) five))
