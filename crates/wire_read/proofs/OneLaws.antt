-- What a reader answers is fixed by what it is as an answer of `read`: two results that are the same there are the same. Assumes nothing.
use mathlib.Core.Path.{◌≡◌, refl, sym, ap}
use Prim.Native.Nat.{ℕ}
use native.Mathlib.Omega.{arith}
use Rattle.std.specs.Prelude.{Option, Some, None, Result, Ok, Err}
use Rattle.wire_read.specs.declared.Incoming.{Incoming}
use Rattle.wire_read.specs.declared.Incoming.TheVariants as M
use Rattle.wire_read.specs.declared.messages.Solicit.{Solicit}
use Rattle.wire_read.specs.declared.messages.Advertise.{Advertise}
use Rattle.wire_read.specs.declared.messages.Request.{Request}
use Rattle.wire_read.specs.declared.messages.Flood.{Flood}
use Rattle.wire_read.specs.declared.messages.Inquire.{Inquire}
use Rattle.wire_read.specs.declared.messages.Authority.{Authority}
use Rattle.wire_read.specs.declared.messages.Ack.{Ack}
use Rattle.wire_read.specs.declared.messages.Lookup.{Lookup}
use Rattle.wire_read.specs.Readers.{or_six, or_number}

-- of a type of message whose answers tell its messages apart, and are no refusal
module _ {A : Type 0} (message : A → Incoming) (apart : (x y : A) → message x ≡ message y → x ≡ y)
    (read : (x : A) (n : ℕ) → message x ≡ M.Refused n → ◌≡◌ {A = ℕ} 0 1) where
  pub six_one : (r s : Option A) → or_six message r ≡ or_six message s → r ≡ s
  six_one None None e = refl
  six_one None (Some y) e = absurd (omega (arith, read y 6 (sym e)))
  six_one (Some x) None e = absurd (omega (arith, read x 6 e))
  six_one (Some x) (Some y) e = ap Some (apart x y e)

  pub number_one : (r s : Result A ℕ) → or_number message r ≡ or_number message s → r ≡ s
  number_one (Err n) (Err k) e = let is : n ≡ k = cc in ap Err is
  number_one (Err n) (Ok y) e = absurd (omega (arith, read y n (sym e)))
  number_one (Ok x) (Err k) e = absurd (omega (arith, read x k e))
  number_one (Ok x) (Ok y) e = ap Ok (apart x y e)

-- the eight are such
pub solicit_one : (r s : Option Solicit) → or_six M.Solicit r ≡ or_six M.Solicit s → r ≡ s
solicit_one = six_one M.Solicit (λ x y e. cc) (λ x n e. cc)

pub advertise_one : (r s : Option Advertise) → or_six M.Advertise r ≡ or_six M.Advertise s → r ≡ s
advertise_one = six_one M.Advertise (λ x y e. cc) (λ x n e. cc)

pub request_one : (r s : Option Request) → or_six M.Request r ≡ or_six M.Request s → r ≡ s
request_one = six_one M.Request (λ x y e. cc) (λ x n e. cc)

pub flood_one : (r s : Option Flood) → or_six M.Flood r ≡ or_six M.Flood s → r ≡ s
flood_one = six_one M.Flood (λ x y e. cc) (λ x n e. cc)

pub inquire_one : (r s : Option Inquire) → or_six M.Inquire r ≡ or_six M.Inquire s → r ≡ s
inquire_one = six_one M.Inquire (λ x y e. cc) (λ x n e. cc)

pub authority_one : (r s : Result Authority ℕ) → or_number M.Authority r ≡ or_number M.Authority s → r ≡ s
authority_one = number_one M.Authority (λ x y e. cc) (λ x n e. cc)

pub ack_one : (r s : Option Ack) → or_six M.Ack r ≡ or_six M.Ack s → r ≡ s
ack_one = six_one M.Ack (λ x y e. cc) (λ x n e. cc)

pub lookup_one : (r s : Option Lookup) → or_six M.Lookup r ≡ or_six M.Lookup s → r ≡ s
lookup_one = six_one M.Lookup (λ x y e. cc) (λ x n e. cc)
