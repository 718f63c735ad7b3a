-- Laws of an AUTHORITY written with a payload: what its split controls say changes neither whether it is right nor how long it is. Assumes nothing.
use Prim.Native.Nat.{ℕ, ◌-◌, ◌≤◌}
use native.Mathlib.Omega.{arith}
use mathlib.Core.List.{List, ◌++◌}
use mathlib.Core.Bool.{Bool, true, false, cond, ◌&&◌}
use mathlib.Core.Path.{◌≡◌, refl, sym, ap, ap₂, ◌∙◌}
use lib.Dec.{leb}
use lib.ListN.{length, drop, length-append}
use borrow.Author.Tests.{leb-true}
use Rattle.octet.specs.Number.{digits_be}
use Rattle.octet.specs.Part.{splice}
use Rattle.octet.proofs.TestLaws.{both_true}
use Rattle.wire_shapes.specs.Shapes.{has_shape}
use Rattle.wire_read.specs.declared.messages.Authority.{Authority}
use Rattle.wire_write.specs.Writing.{Made, fit, write_as, write_in, Wrote}
use Rattle.wire_write.specs.Pieces.{made_by}
use Rattle.wire_write.specs.declared.Written.{Written}
use Rattle.wire_payload.specs.Payload.{carrying, with_payload}

module _ (major : ℕ) (d : List ℕ) (m : Authority) (v : List ℕ) (size : ℕ) where
  pub same_ok : (carrying major d m v size).ok ≡ (carrying major d m v 0).ok
  unfolding carrying made_by digits_be has_shape
  same_ok = refl

  pub same-long : length (carrying major d m v size).bytes ≡ length (carrying major d m v 0).bytes
  unfolding carrying made_by digits_be
  same-long = refl

  pub at_least : 28 ≤ length (carrying major d m v size).bytes
  unfolding carrying made_by digits_be
  at_least = omega arith

-- ---- written, and then told how long it is

-- the answer, by whether it is right and fits
abbrev told : Bool → Bool → ℕ → Written
told a b n = cond a (cond b (record { number = 0; length = n }) (record { number = 15; length = 0 })) (record { number = 6; length = 0 })

refused_by : (a b : Bool) (n : ℕ) (x y : List ℕ) → ((told a b n).number ≡ 0 → ⊥) → cond (a && b) x y ≡ y
refused_by true true n x y u = absurd (u refl)
refused_by true false n x y u = refl
refused_by false b n x y u = refl

right_by : (a b : Bool) (n : ℕ) → (told a b n).number ≡ 0 → (a ≡ true) × (b ≡ true)
right_by true true n e = (refl, refl)
right_by true false n e = absurd (omega (arith, e))
right_by false b n e = absurd (omega (arith, e))

refused_in : (m : Made) (old : List ℕ) → ((write_as m old).number ≡ 0 → ⊥) → write_in m old ≡ old
unfolding write_as write_in
refused_in m old u = refused_by m.ok (fit m.bytes old) (length m.bytes) (m.bytes ++ drop (length m.bytes) old) old u

-- accepted: right, and it fits
right_in : (m : Made) (old : List ℕ) → (write_as m old).number ≡ 0 → (m.ok ≡ true) × (fit m.bytes old ≡ true)
unfolding write_as
right_in m old e = right_by m.ok (fit m.bytes old) (length m.bytes) e

written_in : (m : Made) (old : List ℕ) → (m.ok ≡ true) × (fit m.bytes old ≡ true) → write_in m old ≡ m.bytes ++ drop (length m.bytes) old
unfolding write_in
written_in m old a = rw (a.0, a.1) refl

fits_within : (b old : List ℕ) → fit b old ≡ true → (length b ≤ length old) × (length b ≤ 1232)
unfolding fit
fits_within b old e =
    let w = both_true (leb (length b) (length old)) (leb (length b) 1232) e in
    (leb-true (length b) (length old) w.0, leb-true (length b) 1232 w.1)

-- the same answer for as many bytes, and the same right
same_as : (m m' : Made) (old : List ℕ) → m'.ok ≡ m.ok → length m'.bytes ≡ length m.bytes → write_as m' old ≡ write_as m old
unfolding write_as fit
same_as m m' old ok long = rw (ok, long) refl

module _ (major : ℕ) (d : List ℕ) (m : Authority) (v : List ℕ) where
  -- the size is bytes 24 and 25, whatever stands behind the message
  size-put : (size : ℕ) (t : List ℕ) → splice 24 (digits_be 256 2 size) ((carrying major d m v 0).bytes ++ t)
      ≡ (carrying major d m v size).bytes ++ t
  unfolding carrying made_by digits_be splice
  size-put size t = refl

  module _ (old : List ℕ) (r : Written) (out : List ℕ) (w : Wrote (carrying major d m v 0) old r out) where
    number-as : r.number ≡ (write_as (carrying major d m v 0) old).number
    number-as = ap (λ (x : Written). x.number) w.answer

    -- the split controls change neither the answer nor what is right
    same_answer : r ≡ write_as (with_payload major d m v) old
    unfolding with_payload
    same_answer =
        let size = length (carrying major d m v 0).bytes - 28 in
        w.answer ∙ sym (same_as (carrying major d m v 0) (carrying major d m v size) old (same_ok major d m v size)
        (same-long major d m v size))

    pub payload-refused : (r.number ≡ 0 → ⊥) → Wrote (with_payload major d m v) old r out
    payload-refused u =
        record {
          answer = same_answer;
          output =
              w.output ∙ refused_in (carrying major d m v 0) old (λ e. u (number-as ∙ e))
              ∙ sym (refused_in (with_payload major d m v) old (λ e. u (ap (λ (x : Written). x.number) same_answer ∙ e)));
        }

    module _ (z : r.number ≡ 0) where
      fits-first : ((carrying major d m v 0).ok ≡ true) × (fit (carrying major d m v 0).bytes old ≡ true)
      fits-first = right_in (carrying major d m v 0) old (sym number-as ∙ z)

      told-length : r.length ≡ length (carrying major d m v 0).bytes
      unfolding write_as
      told-length = ap (λ (x : Written). x.length) w.answer ∙ (rw (fits-first.0, fits-first.1) refl)

      -- it has split controls, and is a datagram within the output
      pub payload-long : (28 ≤ r.length) × (r.length ≤ 1232) × (r.length ≤ length out)
      payload-long =
          let within = fits_within (carrying major d m v 0).bytes old fits-first.1 in
          let b = (carrying major d m v 0).bytes in
          let long = ap length (w.output ∙ written_in (carrying major d m v 0) old fits-first) ∙ length-append b (drop (length b) old) in (
            omega (arith, told-length, at_least major d m v 0),
            omega (arith, told-length, within.1),
            omega (arith, told-length, long),
          )

      pub payload_written : {last : List ℕ} → last ≡ splice 24 (digits_be 256 2 (r.length - 28)) out
          → Wrote (with_payload major d m v) old r last
      unfolding with_payload
      payload_written e =
          let b = (carrying major d m v 0).bytes in
          let size = length b - 28 in
          let long = same-long major d m v size in
          let fits : ((carrying major d m v size).ok ≡ true) × (fit (carrying major d m v size).bytes old ≡ true) =
          right_in (carrying major d m v size) old (sym (ap (λ (x : Written). x.number) same_answer) ∙ z) in
          record {
            answer = same_answer;
            output =
                e ∙ ap₂ (λ (n : ℕ) (o : List ℕ). splice 24 (digits_be 256 2 (n - 28)) o) told-length
                (w.output ∙ written_in (carrying major d m v 0) old fits-first)
                ∙ size-put size (drop (length b) old)
                ∙ ap (λ (n : ℕ). (carrying major d m v size).bytes ++ drop n old) (sym long)
                ∙ sym (written_in (carrying major d m v size) old fits);
          }
