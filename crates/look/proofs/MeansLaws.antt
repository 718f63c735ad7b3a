-- What a look tells of a message is what the message has: from the places that the message's layout gives its fields. Assumes nothing.
use Prim.Native.Nat.{ℕ, zero, suc, ◌+◌}
use native.Mathlib.Omega.{arith}
use mathlib.Core.Bool.{Bool, true, false, cond}
use mathlib.Core.List.{List, [], ◌∷◌}
use mathlib.Core.Option.{Option, some, none}
use mathlib.Core.Path.{◌≡◌, refl, sym, ap, subst, ◌∙◌}
use lib.Dec.{eqb}
use lib.ListN.{length, get_or, drop}
use lib.Seq.{get_or-drop}
use borrow.Author.Tests.{eqb-true}
use Rattle.octet.specs.Number.{value_be}
use Rattle.octet.specs.Part.{part}
use Rattle.wire_shapes.specs.Field.{number_at}
use Rattle.wire_shapes.specs.Shapes.{Kind, has_shape}
use Rattle.wire_fields.specs.Kinds as K
use Rattle.wire_fields.specs.Kinds.{kinds_of}
use Rattle.wire_fields.specs.Message.{Contents, Message, Formed, ends, parts_of}
use Rattle.wire_fields.specs.Reading.{values_of}
use Rattle.wire_fields.specs.Refusals.{found}
use Rattle.std.specs.Prelude.{None}
use Rattle.wire_fields.specs.Places.{Part}
use Rattle.wire_shapes.specs.declared.Shape.{Shape}
use Rattle.wire_shapes.specs.declared.Shape.TheVariants.{Sized}
use Rattle.wire_fields.proofs.WholeLaws.{reads_found}
use Rattle.wire_buffer.specs.Buffer.{start_of}
use Rattle.wire_read.specs.Answers.{head_of, incoming_of, read_in}
use Rattle.wire_read.specs.Meaning.{number_of}
use Rattle.wire_read.specs.declared.Incoming.{Incoming}
use Rattle.wire_read.specs.declared.Incoming.TheVariants as M
use Rattle.wire.proofs.Theorems.{read_gives, read_accepts}
use Rattle.look.specs.Seen.{size_of, seen_as, look_of}
use Rattle.look.specs.Means.{told_of, number_shown, LookTells, LookSays, LookMeans}

-- ---- the fields of a message, each at its place

inj : {A : Type 0} {x y : A} → some x ≡ some y → x ≡ y
inj e = cc

first_same : {A : Type 0} {x y : A} {xs ys : List A} → x ∷ xs ≡ y ∷ ys → x ≡ y
first_same e = cc

rest_same : {A : Type 0} {x y : A} {xs ys : List A} → x ∷ xs ≡ y ∷ ys → xs ≡ ys
rest_same e = cc

-- all bits of kind number i count; it must be there, with n bytes
abbrev Plain : List Kind → ℕ → Type 0
Plain [] i = ⊥
Plain (k ∷ ks) zero = (v : List ℕ) → k.kept v ≡ v
Plain (k ∷ ks) (suc i) = Plain ks i

abbrev Fixed : List Kind → ℕ → ℕ → Type 0
Fixed [] i n = ⊥
Fixed (k ∷ ks) zero n = (k.optional ≡ false) × (k.shape ≡ Sized n)
Fixed (k ∷ ks) (suc i) n = Fixed ks i n

told_at : (d : List ℕ) (ks : List Kind) (j : ℕ) (fs : List Contents) → Formed ks fs → values_of ks d (parts_of j ks fs) ≡ fs → (i : ℕ) → Plain ks i
    → LookTells d (get_or fs i none) (get_or (parts_of j ks fs) i None) (start_of (get_or (parts_of j ks fs) i None))
    (size_of (get_or (parts_of j ks fs) i None))
told_at d [] j [] f e i p = absurd p
told_at d [] j (x ∷ fs) f e i p = absurd f
told_at d (k ∷ ks) j [] f e i p = absurd f
told_at d (k ∷ ks) j (none ∷ fs) f e zero p = (refl, refl)
told_at d (k ∷ ks) j (none ∷ fs) f e (suc i) p = told_at d ks j fs f.1 (rest_same e) i p
told_at d (k ∷ ks) j (some v ∷ fs) f e zero p = (omega arith, refl, sym (p (part (j + 4) (length v) d)) ∙ inj (first_same e), refl)
told_at d (k ∷ ks) j (some v ∷ fs) f e (suc i) p = told_at d ks (ends j k (some v)) fs f.1 (rest_same e) i p

fixed_size : (v : List ℕ) (s : Shape) (n : ℕ) → s ≡ Sized n → has_shape s v ≡ true → length v ≡ n
unfolding has_shape
fixed_size v s n e h = eqb-true (length v) n (sym (ap (λ (x : Shape). has_shape x v) e) ∙ h)

fixed_at : (ks : List Kind) (j : ℕ) (fs : List Contents) → Formed ks fs → (i n : ℕ) → Fixed ks i n → size_of (get_or (parts_of j ks fs) i None) ≡ n
fixed_at [] j fs f i n x = absurd x
fixed_at (k ∷ ks) j [] f i n x = absurd f
fixed_at (k ∷ ks) j (none ∷ fs) f zero n x = let y = f.0 in let w = x.0 in let z : ◌≡◌ {A = ℕ} 0 1 = cc in absurd (omega arith)
fixed_at (k ∷ ks) j (none ∷ fs) f (suc i) n x = fixed_at ks j fs f.1 i n x
fixed_at (k ∷ ks) j (some v ∷ fs) f zero n x = fixed_size v k.shape n x.1 f.0.shaped
fixed_at (k ∷ ks) j (some v ∷ fs) f (suc i) n x = fixed_at ks (ends j k (some v)) fs f.1 i n x

number_of_lem : (d : List ℕ) (c : Contents) (p : Part) (at : ℕ) → LookTells d c p at 4 → number_at at 4 d ≡ number_shown c
number_of_lem d none p at t = let z = t.1 in absurd (omega arith)
number_of_lem d (some v) p at t = ap (value_be 256) t.2

module _ (d : List ℕ) (ks : List Kind) (fs : List Contents) (formed : Formed ks fs) (values : values_of ks d (parts_of 12 ks fs) ≡ fs) where
  abbrev ps : List Part
  ps = parts_of 12 ks fs

  at_place : (i : ℕ) → Plain ks i → LookTells d (get_or fs i none) (get_or ps i None) (start_of (get_or ps i None)) (size_of (get_or ps i None))
  at_place i p = told_at d ks 12 fs formed values i p

  at-fixed : (i n : ℕ) → Plain ks i → Fixed ks i n → LookTells d (get_or fs i none) (get_or ps i None) (start_of (get_or ps i None)) n
  at-fixed i n p x =
      subst (λ (l : ℕ). LookTells d (get_or fs i none) (get_or ps i None) (start_of (get_or ps i None)) l) (fixed_at ks 12 fs formed i n x)
      (at_place i p)

  at-number : (i : ℕ) → Plain ks i → Fixed ks i 4 → number_at (start_of (get_or ps i None)) 4 d ≡ number_shown (get_or fs i none)
  at-number i p x = number_of_lem d (get_or fs i none) (get_or ps i None) (start_of (get_or ps i None)) (at-fixed i 4 p x)

  -- behind the first two
  at_behind : (i : ℕ) → Plain ks (2 + i)
      → LookTells d (get_or fs (2 + i) none) (get_or ps (2 + i) None) (start_of (get_or (drop 2 ps) i None)) (size_of (get_or (drop 2 ps) i None))
  at_behind i p =
      subst (λ (q : Part). LookTells d (get_or fs (2 + i) none) (get_or ps (2 + i) None) (start_of q) (size_of q)) (sym (get_or-drop 2 ps i None))
      (at_place (2 + i) p)

-- ---- type by type

abbrev message_with : ℕ → ℕ → ℕ → ℕ → List Contents → Message
message_with major minor t id fs = record { major = major; minor = minor; type = t; id = id; fields = fs }

module _ (d : List ℕ) where
  abbrev Right : ℕ → List Kind → Type 0
  Right t ks =
      (major minor : ℕ) (fs : List Contents) → Formed ks fs → values_of ks d (parts_of 12 ks fs) ≡ fs
      → LookSays d ks (message_with major minor t (number_at 8 4 d) fs) (look_of (incoming_of d (found t (parts_of 12 ks fs))))

  solicit : Right 1 K.solicit_kinds
  unfolding told_of look_of incoming_of head_of
  solicit major minor fs f e =
      record {
        type = refl;
        id = refl;
        acked = refl;
        cpa = (refl, refl);
        nonce = at-fixed d K.solicit_kinds fs f e 1 20 (λ v. refl) (refl, refl);
        entry = at_place d K.solicit_kinds fs f e 0 (λ v. refl);
        target = (refl, refl);
      }

  advertise : Right 2 K.advertise_kinds
  unfolding told_of look_of incoming_of head_of
  advertise major minor fs f e =
      record {
        type = refl;
        id = refl;
        acked = at-number d K.advertise_kinds fs f e 0 (λ v. refl) (refl, refl);
        cpa = (refl, refl);
        nonce = at-fixed d K.advertise_kinds fs f e 2 20 (λ v. refl) (refl, refl);
        entry = (refl, refl);
        target = (refl, refl);
      }

  request : Right 3 K.request_kinds
  unfolding told_of look_of incoming_of head_of
  request major minor fs f e =
      record {
        type = refl;
        id = refl;
        acked = refl;
        cpa = (refl, refl);
        nonce = at-fixed d K.request_kinds fs f e 2 16 (λ v. refl) (refl, refl);
        entry = (refl, refl);
        target = (refl, refl);
      }

  flood : Right 4 K.flood_kinds
  unfolding told_of look_of incoming_of head_of
  flood major minor fs f e =
      record {
        type = refl;
        id = refl;
        acked = refl;
        cpa = at_place d K.flood_kinds fs f e 3 (λ v. refl);
        nonce = (refl, refl);
        entry = at_place d K.flood_kinds fs f e 4 (λ v. refl);
        target = (refl, refl);
      }

  inquire : Right 7 K.inquire_kinds
  unfolding told_of look_of incoming_of head_of
  inquire major minor fs f e =
      record {
        type = refl;
        id = refl;
        acked = refl;
        cpa = (refl, refl);
        nonce = at_place d K.inquire_kinds fs f e 2 (λ v. refl);
        entry = (refl, refl);
        target = (refl, refl);
      }

  authority : Right 8 K.authority_kinds
  unfolding told_of look_of incoming_of head_of
  authority major minor fs f e =
      record {
        type = refl;
        id = refl;
        acked = at-number d K.authority_kinds fs f e 0 (λ v. refl) (refl, refl);
        cpa = at_behind d K.authority_kinds fs f e 6 (λ v. refl);
        nonce = (refl, refl);
        entry = at_behind d K.authority_kinds fs f e 5 (λ v. refl);
        target = (refl, refl);
      }

  acks : Right 9 K.ack_kinds
  unfolding told_of look_of incoming_of head_of
  acks major minor fs f e =
      record {
        type = refl;
        id = refl;
        acked = at-number d K.ack_kinds fs f e 0 (λ v. refl) (refl, refl);
        cpa = (refl, refl);
        nonce = (refl, refl);
        entry = (refl, refl);
        target = (refl, refl);
      }

  lookup : Right 11 K.lookup_kinds
  unfolding told_of look_of incoming_of head_of
  lookup major minor fs f e =
      record {
        type = refl;
        id = refl;
        acked = refl;
        cpa = (refl, refl);
        nonce = (refl, refl);
        entry = at_place d K.lookup_kinds fs f e 3 (λ v. refl);
        target = at-fixed d K.lookup_kinds fs f e 1 32 (λ v. refl) (refl, refl);
      }

  -- a type whose kinds are known is one of these
  if : (b : Bool) (t n : ℕ) (ks js : List Kind) (rest : Option (List Kind)) → eqb t n ≡ b → cond b (some js) rest ≡ some ks → Right n js
      → (rest ≡ some ks → Right t ks) → Right t ks
  if true t n ks js rest e k right more =
      subst (λ (x : ℕ). Right x ks) (sym (eqb-true t n e)) (subst (Right n) (inj k) right)
  if false t n ks js rest e k right more = more k

  by_type_lem : (t : ℕ) (ks : List Kind) → kinds_of t ≡ some ks → Right t ks
  unfolding kinds_of
  by_type_lem t ks k =
      if (eqb t 1) t 1 ks K.solicit_kinds _ refl k solicit
      (λ k. if (eqb t 2) t 2 ks K.advertise_kinds _ refl k advertise
      (λ k. if (eqb t 3) t 3 ks K.request_kinds _ refl k request
      (λ k. if (eqb t 4) t 4 ks K.flood_kinds _ refl k flood
      (λ k. if (eqb t 7) t 7 ks K.inquire_kinds _ refl k inquire
      (λ k. if (eqb t 8) t 8 ks K.authority_kinds _ refl k authority
      (λ k. if (eqb t 9) t 9 ks K.ack_kinds _ refl k acks
      (λ k. if (eqb t 11) t 11 ks K.lookup_kinds _ refl k lookup (λ k. let z : ◌≡◌ {A = ℕ} 0 1 = cc in absurd (omega arith)))))))))

-- ---- and the number

look_number : (a : Incoming) → (look_of a).number ≡ number_of a
unfolding look_of
look_number (M.Refused n) = refl
look_number (M.Solicit m) = refl
look_number (M.Advertise m) = refl
look_number (M.Request m) = refl
look_number (M.Flood m) = refl
look_number (M.Inquire m) = refl
look_number (M.Authority m) = refl
look_number (M.Ack m) = refl
look_number (M.Lookup m) = refl

look_refused : (a : Incoming) → ¬ ((look_of a).number ≡ 0) → look_of a ≡ seen_as (look_of a).number 0 0 0 None None None None
unfolding look_of
look_refused (M.Refused n) h = refl
look_refused (M.Solicit m) h = absurd (h refl)
look_refused (M.Advertise m) h = absurd (h refl)
look_refused (M.Request m) h = absurd (h refl)
look_refused (M.Flood m) h = absurd (h refl)
look_refused (M.Inquire m) h = absurd (h refl)
look_refused (M.Authority m) h = absurd (h refl)
look_refused (M.Ack m) h = absurd (h refl)
look_refused (M.Lookup m) h = absurd (h refl)

pub look_means : LookMeans
look_means d b major =
    record {
      reads = (
        λ z.
            let w = (read_accepts d b major).0 (sym (look_number (read_in d major)) ∙ z) in
            let r = (read_gives d b major w.0).0 w.1 in
            (r.0, w.0, r.1, r.2),
        λ w. look_number (read_in d major) ∙ (read_accepts d b major).1 (w.1, (read_gives d b major w.1).1 (w.0, w.2, w.3)),
      );
      says = λ ks msg r v.
          let f = reads_found ks d msg r in
          let fields : values_of ks d (parts_of 12 ks msg.fields) ≡ msg.fields = ap (λ (m : Message). m.fields) f.1 in
          let id : number_at 8 4 d ≡ msg.id = ap (λ (m : Message). m.id) f.1 in
          let is : read_in d major ≡ incoming_of d (found msg.type (parts_of 12 ks msg.fields)) =
          ap (λ (n : ℕ). read_in d n) (sym v) ∙ ap (incoming_of d) f.0 in
          subst (λ (a : Incoming). LookSays d ks msg (look_of a)) (sym is)
          (subst (λ (i : ℕ). LookSays d ks (message_with msg.major msg.minor msg.type i msg.fields)
          (look_of (incoming_of d (found msg.type (parts_of 12 ks msg.fields))))) id
          (by_type_lem d msg.type ks r.well.known msg.major msg.minor msg.fields r.well.formed fields));
      refused = look_refused (read_in d major);
    }
