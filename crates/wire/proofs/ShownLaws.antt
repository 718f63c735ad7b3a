-- What holds of every answer of reading: of each refusal, and of each type of message, with its places as they stand in a datagram of at most
-- 1,232 bytes. Assumes nothing.
use Prim.Native.Nat.{ℕ, ◌≤◌}
use native.Mathlib.Omega.{arith}
use mathlib.Core.Path.{◌≡◌, refl, sym, ap, subst, ◌∙◌}
use mathlib.Core.Bool.{Bool, true, false, cond}
use mathlib.Core.List.{List}
use mathlib.Core.Option.{some, none}
use lib.Dec.{eqb}
use lib.ListN.{length}
use borrow.Author.Tests.{eqb-true}
use Rattle.wire_shapes.specs.Shapes.{Kind}
use Rattle.wire_fields.specs.Kinds as K
use Rattle.wire_fields.specs.Kinds.{kinds_of}
use Rattle.wire_fields.specs.Refusals.{Found, refused, found, found_in}
use Rattle.wire_fields.specs.Places.{Part}
use Rattle.wire_fields.proofs.WholeLaws.{way}
use Rattle.wire_read.specs.Answers as R
use Rattle.wire_read.specs.Answers.{read_in, incoming_of}
use Rattle.wire_read.specs.declared.Incoming.{Incoming}
use Rattle.wire_read.specs.declared.Incoming.TheVariants.{Refused}
use Rattle.wire_read.specs.declared.messages.Flood.{Flood}
use Rattle.wire.proofs.StandLaws.{Stand, stands}

-- a FLOOD with this route entry: with its own it is itself, and a law goes by whether it has one
abbrev pub with_entry : Flood → Part → Flood
with_entry m p =
    record { head = m.head; d = m.d; validate = m.validate; token = m.token; revoke = m.revoke; entry = p; reached = m.reached }

-- a property of the answer of each type
pub record Each (P : Incoming → Type 0) (d : List ℕ) : Type 0 where
  pub solicit : (ps : List Part) → Stand K.solicit_kinds d 12 ps → P (R.solicit_shown d ps)
  pub advertise : (ps : List Part) → Stand K.advertise_kinds d 12 ps → P (R.advertise_shown d ps)
  pub request : (ps : List Part) → Stand K.request_kinds d 12 ps → P (R.request_shown d ps)
  pub flood : (ps : List Part) → Stand K.flood_kinds d 12 ps → P (R.flood_shown d ps)
  pub inquire : (ps : List Part) → Stand K.inquire_kinds d 12 ps → P (R.inquire_shown d ps)
  pub authority : (ps : List Part) → Stand K.authority_kinds d 12 ps → P (R.authority_shown d ps)
  pub ack : (ps : List Part) → Stand K.ack_kinds d 12 ps → P (R.ack_shown d ps)
  pub lookup : (ps : List Part) → Stand K.lookup_kinds d 12 ps → P (R.lookup_shown d ps)

which : (P : Incoming → Type 0) (b : Bool) (x y : Incoming) → (b ≡ true → P x) → (b ≡ false → P y) → P (cond b x y)
which P true x y p q = p refl
which P false x y p q = q refl

-- the kinds of a type, where the type is known
one_kinds : (t n : ℕ) (ks js : List Kind) → kinds_of t ≡ some ks → eqb t n ≡ true → kinds_of n ≡ some js → ks ≡ js
one_kinds t n ks js k e j = let o : some ks ≡ some js = sym k ∙ ap kinds_of (eqb-true t n e) ∙ j in cc

last_kinds : (b : Bool) (ks : List Kind) → cond b (some K.lookup_kinds) none ≡ some ks → ks ≡ K.lookup_kinds
last_kinds true ks e = cc
last_kinds false ks e = absurd (let z : ◌≡◌ {A = ℕ} 0 1 = cc in omega arith)

-- a type that is none of the seven before is a LOOKUP's
lookup_kinds_lem : (t : ℕ) (ks : List Kind) → kinds_of t ≡ some ks → eqb t 1 ≡ false → eqb t 2 ≡ false → eqb t 3 ≡ false → eqb t 4 ≡ false
    → eqb t 7 ≡ false → eqb t 8 ≡ false → eqb t 9 ≡ false → ks ≡ K.lookup_kinds
unfolding kinds_of
lookup_kinds_lem t ks k e₁ e₂ e₃ e₄ e₇ e₈ e₉ = last_kinds (eqb t 11) ks (rw (e₁, e₂, e₃, e₄, e₇, e₈, e₉) at k)

module _ (P : Incoming → Type 0) (d : List ℕ) where
  of_type : Each P d → (t : ℕ) (ks : List Kind) (ps : List Part) → kinds_of t ≡ some ks → Stand ks d 12 ps → P (incoming_of d (found t ps))
  unfolding incoming_of kinds_of
  of_type each t ks ps k w =
      let S : List Kind → Type 0 = λ (js : List Kind). Stand js d 12 ps in
      which P (eqb t 1) _ _ (λ e. each.solicit ps (subst S (one_kinds t 1 ks K.solicit_kinds k e refl) w))
      (λ e₁. which P (eqb t 2) _ _ (λ e. each.advertise ps (subst S (one_kinds t 2 ks K.advertise_kinds k e refl) w))
      (λ e₂. which P (eqb t 3) _ _ (λ e. each.request ps (subst S (one_kinds t 3 ks K.request_kinds k e refl) w))
      (λ e₃. which P (eqb t 4) _ _ (λ e. each.flood ps (subst S (one_kinds t 4 ks K.flood_kinds k e refl) w))
      (λ e₄. which P (eqb t 7) _ _ (λ e. each.inquire ps (subst S (one_kinds t 7 ks K.inquire_kinds k e refl) w))
      (λ e₇. which P (eqb t 8) _ _ (λ e. each.authority ps (subst S (one_kinds t 8 ks K.authority_kinds k e refl) w))
      (λ e₈. which P (eqb t 9) _ _ (λ e. each.ack ps (subst S (one_kinds t 9 ks K.ack_kinds k e refl) w))
      (λ e₉. each.lookup ps (subst S (lookup_kinds_lem t ks k e₁ e₂ e₃ e₄ e₇ e₈ e₉) w))))))))

  module _ (refusal : (n : ℕ) → P (Refused n)) (each : length d ≤ 1232 → Each P d) (major : ℕ) where
    of-found : (x : Found) → found_in d major ≡ x → P (incoming_of d x)
    unfolding incoming_of
    of-found (refused n) e = refusal n
    of-found (found t ps) e =
        let (ks, w) = way d major t ps e in
        of_type (each w.most) t ks ps w.kinds (stands ks d 12 ps w.places)

    pub of-each : P (read_in d major)
    of-each = of-found (found_in d major) refl
