-- `other_number` meets its contract: where the header is right, each type's reader says what `read` would. Assumes nothing.
use borrow.Author.Tests.{eq-eqb, ne_eqb}
use native.Mathlib.Omega.{arith}
use mathlib.Core.Path.{◌≡◌, refl, sym, ap, ◌∙◌}
use Prim.Native.Nat.{◌≤◌}
use lib.ListN.{length, get_or}
use Rattle.std.specs.Prelude.{List, Option, Some, None, Result, Ok, Err, Bool, cond, is_some, ℕ}
use Rattle.wire_fields.specs.Kinds.{kinds_of}
use Rattle.wire_fields.specs.Refusals.{found_in, in_part}
use Rattle.wire_fields.proofs.RefusalLaws.{by_type}
use Rattle.wire_read.specs.Answers.{head_number, incoming_of, read_in}
use Rattle.wire_read.specs.Readers.{or_six, or_number}
use Rattle.wire_read.specs.declared.Incoming.{Incoming}
use Rattle.wire_read.specs.declared.Incoming.TheVariants as M
use Rattle.wire_read.specs.declared.messages.Authority.{Authority}
use Rattle.wire_read.proofs.ReaderLaws.{header-refuses, header-right}
use Rattle.carried.specs.Whole.{whole_of, other_in}
use Rattle.carried.proofs.whole.other_number.Goals.{Else-number-ne0}
use Rattle.carried.proofs.whole.other_number.Goals as goal

-- a header that is right is long enough, and what is found is by the type
right : (c : Else-number-ne0) → head_number c.args.d.now c.args.major ≡ 0
right c = sym c.header-number.ensures ∙ c.if-number-ne0.false

right-at : (c : Else-number-ne0)
    → (let a = c.args in (12 ≤ length a.d.now)
    × (found_in a.d.now a.major ≡ by_type (get_or a.d.now 7 0) a.d.now (kinds_of (get_or a.d.now 7 0))))
right-at c = header-right c.args.d.now c.args.major (right c)

-- what stands against another message is what is answered
stands : (c : Else-number-ne0) (n : ℕ) → (get_or c.args.d.now 7 0 ≡ 8 → ⊥) → whole_of (read_in c.args.d.now c.args.major) ≡ Err n
    → (whole_of (read_in c.args.d.now c.args.major) ≡ Err n) × (Some n ≡ other_in c.args.major c.args.d.now)
unfolding other_in
stands c n t e = (e, rw (eq-eqb (head_number c.args.d.now c.args.major) 0 (right c), ne_eqb (get_or c.args.d.now 7 0) 8 t, e))

-- and what stands in a header
stands_first : (d : List ℕ) (major n : ℕ) → (head_number d major ≡ 0 → ⊥) → whole_of (read_in d major) ≡ Err n
    → (whole_of (read_in d major) ≡ Err n) × (Some n ≡ other_in major d)
unfolding other_in
stands_first d major n w e = (e, rw (ne_eqb (head_number d major) 0 w, e))

-- another message is told by whether it is read
other-read : {A : Type 0} (message : A → Incoming) → ((x : A) → whole_of (message x) ≡ Err 5) → (r : Option A) (b : Bool) (a : Incoming) (n : ℕ)
    → b ≡ is_some r → n ≡ cond b 5 6 → or_six message r ≡ a → whole_of a ≡ Err n
other-read message other None b a n s i e = sym (ap whole_of e) ∙ ap Err (sym (i ∙ ap (λ (x : Bool). cond x 5 6) s))
other-read message other (Some x) b a n s i e = sym (ap whole_of e) ∙ other x ∙ ap Err (sym (i ∙ ap (λ (y : Bool). cond y 5 6) s))

pub returns-then-number-ne0 : goal.returns-then-number-ne0
unfolding incoming_of
returns-then-number-ne0 c =
    let a = c.args in
    let wrong : head_number a.d.now a.major ≡ 0 → ⊥ = λ e. c.if-number-ne0.true (c.header-number.ensures ∙ e) in
    let told = stands_first a.d.now a.major c.from.result wrong
    (rw (header-refuses a.d.now a.major wrong) (ap Err (sym (c.from.ensures ∙ c.header-number.ensures)))) in
    record { value = told.1; some = told.0; none = tt }

pub bounds-d-7 : goal.bounds-d-7
bounds-d-7 c = omega (arith, (right-at (goal.at.bounds-d-7 c).Else-number-ne0).0)

pub read_solicit-requires : goal.read_solicit-requires
read_solicit-requires c = (right-at (goal.at.read_solicit-requires c).Else-number-ne0).0

pub read_advertise-requires : goal.read_advertise-requires
read_advertise-requires c = (right-at (goal.at.read_advertise-requires c).Else-number-ne0).0

pub read_request-requires : goal.read_request-requires
read_request-requires c = (right-at (goal.at.read_request-requires c).Else-number-ne0).0

pub read_flood-requires : goal.read_flood-requires
read_flood-requires c = (right-at (goal.at.read_flood-requires c).Else-number-ne0).0

pub read_inquire-requires : goal.read_inquire-requires
read_inquire-requires c = (right-at (goal.at.read_inquire-requires c).Else-number-ne0).0

pub read_ack-requires : goal.read_ack-requires
read_ack-requires c = (right-at (goal.at.read_ack-requires c).Else-number-ne0).0

pub read_lookup-requires : goal.read_lookup-requires
read_lookup-requires c = (right-at (goal.at.read_lookup-requires c).Else-number-ne0).0

pub returns-in-1 : goal.returns-in-1
unfolding kinds_of in_part
returns-in-1 c =
    let right-one = (goal.at.returns-in-1 c).Else-number-ne0 in
    let told = stands right-one c.another.result (λ e. absurd (omega (arith, e, c.in-1.is)))
    (rw ((right-at right-one).1, c.in-1.is) (other-read M.Solicit (λ x. refl) _ _ _ _ c.is_some.ensures c.another.ensures c.read_solicit.ensures)) in
    record { value = told.1; some = told.0; none = tt }

pub returns-in-2 : goal.returns-in-2
unfolding kinds_of in_part
returns-in-2 c =
    let right-one = (goal.at.returns-in-2 c).Else-number-ne0 in
    let told = stands right-one c.another-in-2.result (λ e. absurd (omega (arith, e, c.in-2.is)))
    (rw ((right-at right-one).1, c.in-2.is) (other-read M.Advertise (λ x. refl) _ _ _ _ c.is_some-in-2.ensures c.another-in-2.ensures c.read_advertise.ensures)) in
    record { value = told.1; some = told.0; none = tt }

pub returns-in-3 : goal.returns-in-3
unfolding kinds_of in_part
returns-in-3 c =
    let right-one = (goal.at.returns-in-3 c).Else-number-ne0 in
    let told = stands right-one c.another-in-3.result (λ e. absurd (omega (arith, e, c.in-3.is)))
    (rw ((right-at right-one).1, c.in-3.is) (other-read M.Request (λ x. refl) _ _ _ _ c.is_some-in-3.ensures c.another-in-3.ensures c.read_request.ensures)) in
    record { value = told.1; some = told.0; none = tt }

pub returns-in-4 : goal.returns-in-4
unfolding kinds_of in_part
returns-in-4 c =
    let right-one = (goal.at.returns-in-4 c).Else-number-ne0 in
    let told = stands right-one c.another-in-4.result (λ e. absurd (omega (arith, e, c.in-4.is)))
    (rw ((right-at right-one).1, c.in-4.is) (other-read M.Flood (λ x. refl) _ _ _ _ c.is_some-in-4.ensures c.another-in-4.ensures c.read_flood.ensures)) in
    record { value = told.1; some = told.0; none = tt }

pub returns-in-7 : goal.returns-in-7
unfolding kinds_of in_part
returns-in-7 c =
    let right-one = (goal.at.returns-in-7 c).Else-number-ne0 in
    let told = stands right-one c.another-in-7.result (λ e. absurd (omega (arith, e, c.in-7.is)))
    (rw ((right-at right-one).1, c.in-7.is) (other-read M.Inquire (λ x. refl) _ _ _ _ c.is_some-in-7.ensures c.another-in-7.ensures c.read_inquire.ensures)) in
    record { value = told.1; some = told.0; none = tt }

pub returns-in-9 : goal.returns-in-9
unfolding kinds_of in_part
returns-in-9 c =
    let right-one = (goal.at.returns-in-9 c).Else-number-ne0 in
    let told = stands right-one c.another-in-9.result (λ e. absurd (omega (arith, e, c.in-9.is)))
    (rw ((right-at right-one).1, c.in-9.is) (other-read M.Ack (λ x. refl) _ _ _ _ c.is_some-in-9.ensures c.another-in-9.ensures c.read_ack.ensures)) in
    record { value = told.1; some = told.0; none = tt }

pub returns-in-11 : goal.returns-in-11
unfolding kinds_of in_part
returns-in-11 c =
    let right-one = (goal.at.returns-in-11 c).Else-number-ne0 in
    let told = stands right-one c.another-in-11.result (λ e. absurd (omega (arith, e, c.in-11.is)))
    (rw ((right-at right-one).1, c.in-11.is) (other-read M.Lookup (λ x. refl) _ _ _ _ c.is_some-in-11.ensures c.another-in-11.ensures c.read_lookup.ensures)) in
    record { value = told.1; some = told.0; none = tt }

pub returns-in_default : goal.returns-in_default
unfolding incoming_of kinds_of
returns-in_default c =
    let k = get_or c.args.d.now 7 0 in
    let right-one = (goal.at.returns-in_default c).Else-number-ne0 in
    let told = stands right-one 5 (λ e. absurd (omega (arith, e)))
    (rw (
      (right-at right-one).1,
      ne_eqb k 1 (λ e. absurd (omega (arith, e))),
      ne_eqb k 2 (λ e. absurd (omega (arith, e))),
      ne_eqb k 3 (λ e. absurd (omega (arith, e))),
      ne_eqb k 4 (λ e. absurd (omega (arith, e))),
      ne_eqb k 7 (λ e. absurd (omega (arith, e))),
      ne_eqb k 8 (λ e. absurd (omega (arith, e))),
      ne_eqb k 9 (λ e. absurd (omega (arith, e))),
      ne_eqb k 11 (λ e. absurd (omega (arith, e))),
    )) in
    record { value = told.1; some = told.0; none = tt }

pub returns-in-8 : goal.returns-in-8
unfolding kinds_of other_in
returns-in-8 c =
    let right-one = (goal.at.returns-in-8 c).Else-number-ne0 in
    let at = right-at right-one in
    record {
      value = rw (eq-eqb (head_number c.args.d.now c.args.major) 0 (right right-one), c.in-8.is) refl;
      some = tt;
      none = (at.0, rw (at.1, c.in-8.is) refl);
    }
