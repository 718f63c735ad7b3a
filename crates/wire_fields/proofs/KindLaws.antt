-- Each kind of field is lawful: the kept bits stay, and no number stands twice in a message.
use Prim.Native.Nat.{ℕ, zero, suc, ◌+◌, ◌*◌, ◌/◌, ◌%◌, ◌<◌}
use native.Mathlib.Omega.{arith}
use mathlib.Core.List.{List, [], ◌∷◌}
use mathlib.Core.Bool.{Bool, true, false}
use mathlib.Core.Option.{some, none}
use mathlib.Core.Path.{◌≡◌, refl, sym, ap, subst}
use lib.Dec.{eqb}
use lib.ListN.{length, get_or}
use borrow.Author.Tests.{eqb-true}
use Rattle.octet.specs.Number.{Bytes}
use mathlib.Core.Bool.{cond}
use Rattle.wire_shapes.specs.Field.{bits, keep}
use Rattle.wire_shapes.specs.Shapes.{Kind, has_shape, lookup_form}
use Rattle.wire_fields.specs.Kinds.{ack_kinds, flood_kinds, lookup_kinds, solicit_kinds, advertise_kinds, request_kinds, inquire_kinds, buffer_kinds, authority_kinds, keep_lookup, endpoints, key_list, codes, kinds_of, last_of_two, last_of_two_and_one, none_of_two, flags_axc, flags_lbn}
use Rattle.wire_shapes.specs.declared.Shape.{Shape}
use Rattle.wire_shapes.specs.declared.Shape.TheVariants.{Sized, Any, Entry, Lookup, Split}
use Rattle.wire_fields.proofs.TableLaws.{Law, Lawful}

-- a table of kept bits: clearing twice is clearing once, and what is left of a byte is a byte
abbrev Table : List (List ℕ) → Type 0
Table [] = Unit {0}
Table (m ∷ ms) = ((b : ℕ) → bits m (bits m b) ≡ bits m b) × ((b : ℕ) → b < 256 → bits m b < 256) × Table ms

keep_long : (t : List (List ℕ)) (v : List ℕ) → length (keep t v) ≡ length v
keep_long [] v = refl
keep_long (m ∷ ms) [] = refl
keep_long (m ∷ ms) (b ∷ v) = rw (keep_long ms v)

keep_once : (t : List (List ℕ)) → Table t → (v : List ℕ) → keep t (keep t v) ≡ keep t v
keep_once [] h v = refl
keep_once (m ∷ ms) h [] = refl
keep_once (m ∷ ms) h (b ∷ v) = rw (h.0 b, keep_once ms h.2 v)

keep_bytes : (t : List (List ℕ)) → Table t → (v : List ℕ) → Bytes v → Bytes (keep t v)
keep_bytes [] h v b i = b i
keep_bytes (m ∷ ms) h [] b i = b i
keep_bytes (m ∷ ms) h (x ∷ v) b zero = h.1 x (b 0)
keep_bytes (m ∷ ms) h (x ∷ v) b (suc i) = keep_bytes ms h.2 v (λ j. b (suc j)) i

-- a field all of whose bits count, and a field of a fixed size with a table
pub plain_law : (n : ℕ) (o p : Bool) (s : Shape) → n < 65536
    → Law (record { number = n; optional = o; padded = p; shape = s; kept = keep [] })
plain_law n o p s h = record { small = h; long = λ v. refl; once = λ v. refl; same = λ v. refl; bytes = λ v b. b }

pub table_law : (n : ℕ) (o p : Bool) (z : ℕ) (t : List (List ℕ)) → Table t → n < 65536
    → Law (record { number = n; optional = o; padded = p; shape = Sized z; kept = keep t })
unfolding has_shape
table_law n o p z t h l =
    record {
      small = l;
      long = keep_long t;
      once = keep_once t h;
      same = λ v. ap (λ (x : ℕ). eqb x z) (keep_long t v);
      bytes = keep_bytes t h;
    }

-- the last bit of the second byte: of three bytes in a FLOOD, of two in an ACK
last : Table last_of_two
last = omega arith

last_of_three : Table last_of_two_and_one
last_of_three = omega arith

pub ack_lawful : Lawful ack_kinds
ack_lawful = (
  plain_law 0x18 false false (Sized 4) (omega arith),
  omega arith,
  (table_law 0x40 true false 2 last_of_two last (omega arith), tt, tt),
)

pub flood_lawful : Lawful flood_kinds
flood_lawful = (
  table_law 0x43 false true 3 last_of_two_and_one last_of_three (omega arith),
  omega arith,
  (
    plain_law 0x39 false false (Sized 32) (omega arith),
    omega arith,
    (
      plain_law 0x9F true true Any (omega arith),
      omega arith,
      (
        plain_law 0x9C true true Any (omega arith),
        omega arith,
        (
          plain_law 0x9A true true Entry (omega arith),
          omega arith,
          (plain_law 0x9E true false endpoints (omega arith), tt, tt),
        ),
      ),
    ),
  ),
)

-- LOOKUP's controls: what is kept under a test
cond_twice : (b : Bool) (x : ℕ) → cond b (cond b x 0) 0 ≡ cond b x 0
cond_twice true x = refl
cond_twice false x = refl

cond_small : (b : Bool) (x : ℕ) → x < 256 → cond b x 0 < 256
cond_small true x h = h
cond_small false x h = omega arith

eight_bytes : (v : List ℕ) → Bytes v
    → Bytes (0 ∷ bits (2 ∷ []) (get_or v 1 0) ∷ cond (eqb (get_or v 4 0) 8) (get_or v 2 0) 0 ∷ cond (eqb (get_or v 4 0) 8) (get_or v 3 0) 0
    ∷ get_or v 4 0 ∷ get_or v 5 0 ∷ 0 ∷ 0 ∷ [])
eight_bytes v h zero = omega arith
eight_bytes v h (suc zero) = omega arith
eight_bytes v h (suc (suc zero)) = cond_small (eqb (get_or v 4 0) 8) _ (h 2)
eight_bytes v h (suc (suc (suc zero))) = cond_small (eqb (get_or v 4 0) 8) _ (h 3)
eight_bytes v h (suc (suc (suc (suc zero)))) = h 4
eight_bytes v h (suc (suc (suc (suc (suc zero))))) = h 5
eight_bytes v h (suc (suc (suc (suc (suc (suc zero)))))) = omega arith
eight_bytes v h (suc (suc (suc (suc (suc (suc (suc zero))))))) = omega arith
eight_bytes v h (suc (suc (suc (suc (suc (suc (suc (suc i)))))))) = omega arith

module _ (v : List ℕ) where
  of_eight : (t : Bool) → eqb (length v) 8 ≡ t → length (keep_lookup v) ≡ length v
  of_eight true q = rw q (sym (eqb-true _ _ q))
  of_eight false q = rw q

  kept-once : (t : Bool) → eqb (length v) 8 ≡ t → keep_lookup (keep_lookup v) ≡ keep_lookup v
  kept-once true q =
      let b = get_or v 1 0 in
      let e : bits (2 ∷ []) (bits (2 ∷ []) b) ≡ bits (2 ∷ []) b = omega arith in
      let t = eqb (get_or v 4 0) 8 in
      rw (q, e, cond_twice t (get_or v 2 0), cond_twice t (get_or v 3 0))
  kept-once false q = rw (q, q)

  kept-good : (t : Bool) → eqb (length v) 8 ≡ t → lookup_form (keep_lookup v) ≡ lookup_form v
  unfolding lookup_form
  kept-good true q = rw q
  kept-good false q = rw (q, q)

  kept-bytes : (t : Bool) → eqb (length v) 8 ≡ t → Bytes v → Bytes (keep_lookup v)
  kept-bytes true q h = rw q (eight_bytes v h)
  kept-bytes false q h = rw q h

pub lookup_law : Law (record { number = 0x45; optional = false; padded = false; shape = Lookup; kept = keep_lookup })
unfolding has_shape lookup_form
lookup_law =
    record {
      small = omega arith;
      long = λ v. of_eight v _ refl;
      once = λ v. kept-once v _ refl;
      same = λ v. kept-good v _ refl;
      bytes = λ v. kept-bytes v _ refl;
    }

pub lookup_lawful : Lawful lookup_kinds
lookup_lawful = (
  lookup_law,
  omega arith,
  (
    plain_law 0x38 false false (Sized 32) (omega arith),
    omega arith,
    (
      plain_law 0x39 false false (Sized 32) (omega arith),
      omega arith,
      (
        plain_law 0x9A true true Entry (omega arith),
        omega arith,
        (
          plain_law 0x9E false false endpoints (omega arith),
          omega arith,
          (
            plain_law 0x80 true false Any (omega arith),
            omega arith,
            (
              plain_law 0xA5 true false Any (omega arith),
              omega arith,
              (plain_law 0xA6 true false Any (omega arith), tt, tt),
            ),
          ),
        ),
      ),
    ),
  ),
)

none_of_two_lem : Table none_of_two
none_of_two_lem = omega arith

three_once : (p q s : ℕ) → p < 2 → q < 2 → s < 2 → bits (16 ∷ 8 ∷ 4 ∷ []) (p * 16 + (q * 8 + (s * 4 + 0))) ≡ p * 16 + (q * 8 + (s * 4 + 0))
three_once p q s a b c =
    let n = p * 16 + (q * 8 + (s * 4 + 0)) in
    let e₀ : n / 16 % 2 ≡ p = omega arith in
    let e₁ : n / 8 % 2 ≡ q = omega arith in
    let e₂ : n / 4 % 2 ≡ s = omega arith in
    rw (e₀, e₁, e₂)

table_axc : Table flags_axc
table_axc = (
  λ b. refl,
  λ b h. omega arith,
  (λ b. three_once (b / 16 % 2) (b / 8 % 2) (b / 4 % 2) (omega arith) (omega arith) (omega arith), λ b h. omega arith, tt),
)

table_lbn : Table flags_lbn
table_lbn = omega arith

pub solicit_lawful : Lawful solicit_kinds
solicit_lawful = (
  plain_law 0x9A true true Entry (omega arith),
  omega arith,
  (plain_law 0x92 false false (Sized 20) (omega arith), tt, tt),
)

pub advertise_lawful : Lawful advertise_kinds
advertise_lawful = (
  plain_law 0x18 false false (Sized 4) (omega arith),
  omega arith,
  (
    plain_law 0x60 false false key_list (omega arith),
    omega arith,
    (plain_law 0x92 false false (Sized 20) (omega arith), tt, tt),
  ),
)

pub request_lawful : Lawful request_kinds
request_lawful = (
  table_law 0x40 true true 2 none_of_two none_of_two_lem (omega arith),
  omega arith,
  (
    plain_law 0x98 true false (Sized 4) (omega arith),
    omega arith,
    (
      plain_law 0x93 false false (Sized 16) (omega arith),
      omega arith,
      (
        plain_law 0x60 false false key_list (omega arith),
        omega arith,
        (
          plain_law 0x80 true false Any (omega arith),
          omega arith,
          (
            plain_law 0xA5 true false Any (omega arith),
            omega arith,
            (plain_law 0xA6 true false Any (omega arith), tt, tt),
          ),
        ),
      ),
    ),
  ),
)

pub inquire_lawful : Lawful inquire_kinds
inquire_lawful = (
  table_law 0x40 false true 2 flags_axc table_axc (omega arith),
  omega arith,
  (
    plain_law 0x39 false false (Sized 32) (omega arith),
    omega arith,
    (
      plain_law 0x93 true false (Sized 16) (omega arith),
      omega arith,
      (
        plain_law 0x80 true false Any (omega arith),
        omega arith,
        (
          plain_law 0xA5 true false Any (omega arith),
          omega arith,
          (plain_law 0xA6 true false Any (omega arith), tt, tt),
        ),
      ),
    ),
  ),
)

pub buffer_lawful : Lawful buffer_kinds
buffer_lawful = (
  table_law 0x40 false true 2 flags_lbn table_lbn (omega arith),
  omega arith,
  (
    plain_law 0x80 true true Any (omega arith),
    omega arith,
    (
      plain_law 0x9F true true Any (omega arith),
      omega arith,
      (
        plain_law 0x85 true true codes (omega arith),
        omega arith,
        (
          plain_law 0x5A true true Any (omega arith),
          omega arith,
          (
            plain_law 0x9A true true Entry (omega arith),
            omega arith,
            (plain_law 0x9B true false Any (omega arith), tt, tt),
          ),
        ),
      ),
    ),
  ),
)

pub authority_lawful : Lawful authority_kinds
authority_lawful =
    (plain_law 0x18 false false (Sized 4) (omega arith), omega arith, (plain_law 0x98 false false Split (omega arith), omega arith, buffer_lawful))

-- so is every type's list
by_test : (a b c d e f g h : Bool) (ks : List Kind)
    → cond a (some solicit_kinds) (cond b (some advertise_kinds) (cond c (some request_kinds) (cond d (some flood_kinds) (cond e (some inquire_kinds)
    (cond f (some authority_kinds) (cond g (some ack_kinds) (cond h (some lookup_kinds) none))))))) ≡ some ks → Lawful ks
by_test true b c d e f g h ks z = let q : solicit_kinds ≡ ks = cc in subst Lawful q solicit_lawful
by_test false true c d e f g h ks z = let q : advertise_kinds ≡ ks = cc in subst Lawful q advertise_lawful
by_test false false true d e f g h ks z = let q : request_kinds ≡ ks = cc in subst Lawful q request_lawful
by_test false false false true e f g h ks z = let q : flood_kinds ≡ ks = cc in subst Lawful q flood_lawful
by_test false false false false true f g h ks z = let q : inquire_kinds ≡ ks = cc in subst Lawful q inquire_lawful
by_test false false false false false true g h ks z = let q : authority_kinds ≡ ks = cc in subst Lawful q authority_lawful
by_test false false false false false false true h ks z = let q : ack_kinds ≡ ks = cc in subst Lawful q ack_lawful
by_test false false false false false false false true ks z = let q : lookup_kinds ≡ ks = cc in subst Lawful q lookup_lawful
by_test false false false false false false false false ks z = absurd (let q : ◌≡◌ {A = ℕ} 0 1 = cc in omega arith)

pub lawful : (t : ℕ) (ks : List Kind) → kinds_of t ≡ some ks → Lawful ks
unfolding kinds_of
lawful t ks e = by_test (eqb t 1) (eqb t 2) (eqb t 3) (eqb t 4) (eqb t 7) (eqb t 8) (eqb t 9) (eqb t 11) ks e
