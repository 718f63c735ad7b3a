-- Any place is gone by the third accepted tick, whatever calls are made: from the sentences alone, of any gauge. Assumes nothing.
use Prim.Native.Nat.{ℕ, zero, suc, ◌+◌, ◌^◌, ◌≤◌, ◌<◌}
use mathlib.Core.Bool.{Bool, true, false, cond, ◌&&◌}
use mathlib.Core.List.{List, [], ◌∷◌}
use mathlib.Core.Logic.{◌⊎◌, inl, inr}
use mathlib.Core.Path.{◌≡◌, refl, sym, ap, subst, ◌∙◌}
use native.Mathlib.Omega.{arith}
use lib.Dec.{eqb}
use lib.ListN.{length, take}
use borrow.Author.Tests.{ne_eqb}
use Rattle.octet.specs.Number.{digits_le}
use Rattle.octet.specs.Part.{part}
use Rattle.octet.proofs.LittleLaws.{value_le-digits_le}
use Rattle.refusal.proofs.TableLaws.{both}
use Rattle.own.specs.Own.{Own, own_keys}
use Rattle.kept.specs.Keys.{◌∈◌, Every}
use Rattle.kept.proofs.WithoutLaws.{eq_or}
use Rattle.waiting.specs.Place.{id_of, tries_of, new_place}
use Rattle.waiting.specs.Form.{places_of, waiting_form}
use Rattle.waiting.proofs.PlaceLaws.{form_tries, less-id, less-tries}
use Rattle.waiting.proofs.FormLaws.{form_of}
use Rattle.asking.specs.Ids.{id_after}
use Rattle.gauge_plan.specs.Lent.{Memory, Receive, Call, receives, sends, ticks, lists}
use Rattle.gauge_commit.specs.Sending.{Handed}
use Rattle.gauge.specs.Words.{Gauge, left, Typed}
use Rattle.sentences.specs.Heard.{Heard, entry, revoke, inquire, authority, ack, lookup, other, Hears}
use Rattle.sentences.specs.Sentences as S
use Rattle.sentences.specs.Numbers as Num
use Rattle.sentences.specs.Meets.{MeetsSentences}
use Rattle.sentences.specs.Listed as L
use Rattle.sentences.proofs.MembersLaws.{rise_one, places_rise, place_formed}
use Rattle.sentences.proofs.ListedLaws.{sized_in, true_by}

-- ---- the place with an ID, from call to call

waits_or : (id : ℕ) (ps : List (List ℕ)) → ((q : List ℕ) × (q ∈ ps) × (id_of q ≡ id)) ⊎ ((q : List ℕ) → q ∈ ps → ¬ (id_of q ≡ id))
waits_or id [] = inr (λ q i. absurd i)
waits_or id (p ∷ ps) = go (eq_or (id_of p) id) (waits_or id ps)
  where
    go : (id_of p ≡ id) ⊎ (¬ (id_of p ≡ id)) → ((q : List ℕ) × (q ∈ ps) × (id_of q ≡ id)) ⊎ ((q : List ℕ) → q ∈ ps → ¬ (id_of q ≡ id))
        → ((q : List ℕ) × (q ∈ (p ∷ ps)) × (id_of q ≡ id)) ⊎ ((q : List ℕ) → q ∈ (p ∷ ps) → ¬ (id_of q ≡ id))
    go (inl e) w = inl (p, inl refl, e)
    go (inr n) (inl w) = inl (w.0, inr w.1, w.2)
    go (inr n) (inr h) = inr (λ q i e. elim i [ inl d ↦ n (sym (ap id_of d) ∙ e) | inr j ↦ h q j e ])

new_is : (id kind tries : ℕ) (key held : List ℕ) → id < 2 ^ 32 → id_of (new_place id kind tries key held) ≡ id
unfolding new_place digits_le
new_is id kind tries key held small = value_le-digits_le 256 4 id (omega arith) small

few_left : (k : Own) (t : List ℕ) → waiting_form k t ≡ true → (q : List ℕ) → q ∈ places_of t → tries_of q ≤ 2
few_left k t f q i = form_tries k q (place_formed k t f q i)

-- what waits with the ID of p after an accepted call is p, and a tick takes a try from it
module _ (m : Memory) (k : Own) (form : waiting_form k m.waiting ≡ true) where
  only : (p : List ℕ) → S.Waits m p → (r : List ℕ) → S.Waits m r → id_of r ≡ id_of p → r ≡ p
  only p wait r w e = rise_one id_of 0 r p (places_of m.waiting) (places_rise k m.waiting form) w wait e

  leaves-came : (l : Receive) → ¬ Num.ReceiveApplies m l 13 → (x : Heard) (left : Memory) → Hears l.datagram l.major x
      → S.Leaves m l x left → (p q : List ℕ) → S.Waits m p → S.Waits left q → id_of q ≡ id_of p → q ≡ p
  leaves-came l low (entry i s v r) left h w p q wait y e =
      elim ((w.table.members q).0 y) [
        | inl was ↦ only p wait q was e
        | inr is ↦ absurd (low (Num.id-waits refl i s v r h is.0 p wait
            (sym e ∙ ap id_of is.1 ∙ new_is (id_after l.id) 2 2 (part 0 32 r) r (omega arith))))
      ]
  leaves-came l low (revoke i s v) left h w p q wait y e = only p wait q ((w.table.members q).0 y).0 e
  leaves-came l low (inquire i v) left h w p q wait y e = only p wait q (subst (λ (n : Memory). S.Waits n q) w y) e
  leaves-came l low (authority acked c) left h w p q wait y e = only p wait q ((w.table.members q).0 y).0 e
  leaves-came l low (ack acked n) left h w p q wait y e = only p wait q ((w.table.members q).0 y).0 e
  leaves-came l low (lookup i t path o) left h w p q wait y e =
      elim ((w.table.members q).0 y) [
        | inl was ↦ only p wait q was e
        | inr is ↦ absurd (low (Num.lookup-id-waits refl i t path o h is.0 p wait
            (sym e ∙ ap id_of is.1 ∙ new_is (id_after l.id) 2 2 (part 0 32 (S.entry_record o)) (S.entry_record o) (omega arith))))
      ]
  leaves-came l low other left h w p q wait y e = absurd w

  leaves-few : (l : Receive) (x : Heard) (left : Memory) → S.Leaves m l x left → (q : List ℕ) → S.Waits left q → tries_of q ≤ 2
  leaves-few l (entry i s v r) left w q y = few_left (own_keys l.own) left.waiting w.table.form q y
  leaves-few l (revoke i s v) left w q y = few_left (own_keys l.own) left.waiting w.table.form q y
  leaves-few l (inquire i v) left w q y = few_left k m.waiting form q (subst (λ (n : Memory). S.Waits n q) w y)
  leaves-few l (authority acked c) left w q y = few_left (own_keys l.own) left.waiting w.table.form q y
  leaves-few l (ack acked n) left w q y = few_left (own_keys l.own) left.waiting w.table.form q y
  leaves-few l (lookup i t path o) left w q y = few_left (own_keys l.own) left.waiting w.table.form q y
  leaves-few l other left w q y = absurd w

-- how many tries the call takes
abbrev took : Call → ℕ
took c = cond (L.is_tick c) 1 0

-- of an accepted call: memory is as it was, or what waits with p's ID is p with that many tries less, and no place has more than two
abbrev Came : Memory → Call → Memory → Type 0
Came m c left =
    ((p q : List ℕ) → S.Waits m p → S.Waits left q → id_of q ≡ id_of p → tries_of q + took c ≤ tries_of p)
    × ((q : List ℕ) → S.Waits left q → tries_of q + took c ≤ 2)

does_came : (m : Memory) (c : Call) (h : Handed) → Typed c → ((i : ℕ) → ¬ Num.Applies m c i) → S.Does m c h
    → ((h.memory ≡ m) × (took c ≡ 0)) ⊎ Came m c h.memory
does_came m (receives l) h ty low s =
    let form = true_by _ (λ e. low 1 (Num.out-of-form refl (λ w. both w.waiting e))) in
    inr (
      λ p q wait y e.
          let is = ap tries_of (leaves-came m (own_keys l.own) form l (low 13) s.x h.memory s.hears s.leaves p q wait y e) in
          omega arith,
      λ q y. let few = leaves-few m (own_keys l.own) form l s.x h.memory s.leaves q y in omega arith,
    )
does_came m (sends l) h ty low s =
    let form = true_by _ (λ e. low 1 (Num.send-out-of-form refl (λ w. both w.waiting e))) in
    inr (
      λ p q wait y e. elim ((s.table.members q).0 y) [
        | inl was ↦ let is = ap tries_of (only m (own_keys l.own) form p wait q was e) in omega arith
        | inr is ↦ absurd (low 13 (Num.send-id-waits refl p wait (sym e ∙ ap id_of is ∙ new_is l.id 1 2 l.neighbour _ ty)))
      ],
      λ q y. let few = few_left (own_keys l.own) h.memory.waiting s.table.form q y in omega arith,
    )
does_came m (ticks l) h ty low s =
    let form = true_by _ (λ e. low 1 (inl (refl, λ w. both w.waiting e))) in
    let sized = (form_of (own_keys l.own) m.waiting form).sized in
    inr (
      λ p q wait y e.
          let w = (s.table.members q).0 y in
          let is : w.0 ≡ p = only m (own_keys l.own) form p wait w.0 w.1 (sym (ap id_of w.3 ∙ less-id w.0) ∙ e) in
          let less = ap tries_of w.3 ∙ less-tries w.0 (sized_in 140 (places_of m.waiting) sized w.0 w.1) in
          omega (arith, less, w.2, ap tries_of is),
      λ q y.
          let w = (s.table.members q).0 y in
          let less = ap tries_of w.3 ∙ less-tries w.0 (sized_in 140 (places_of m.waiting) sized w.0 w.1) in
          omega (arith, less, w.2, few_left (own_keys l.own) m.waiting form w.0 w.1),
    )
does_came m (lists l) h ty low s = inl (s.same, refl)

count_done : (b : Bool) (n : ℕ) → n ≡ 0 → ◌≡◌ {A = ℕ} (cond (b && eqb n 0) 1 0) (cond b 1 0)
count_done true n e = rw e refl
count_done false n e = refl

count_refused : (b : Bool) (n : ℕ) → 0 < n → ◌≡◌ {A = ℕ} (cond (b && eqb n 0) 1 0) 0
count_refused true n h = rw (ne_eqb n 0 (omega arith)) refl
count_refused false n h = refl

module _ (g : Gauge) (meets : MeetsSentences g) (id : ℕ) where
  abbrev Ends : Memory → List Call → Type 0
  Ends m cs = (n : ℕ) × (0 < n) × (n ≤ length cs) × L.Gone id (left g m (take n cs))

  ends_now : (m : Memory) (c : Call) (cs : List Call) → L.Gone id (g m c).memory → Ends m (c ∷ cs)
  unfolding left
  ends_now m c cs gone = (1, omega arith, omega arith, gone)

  ends-later : (m : Memory) (c : Call) (cs : List Call) → Ends (g m c).memory cs → Ends m (c ∷ cs)
  unfolding left
  ends-later m c cs w = (suc w.0, omega arith, omega (arith, w.2), w.3)

  -- a place with fewer tries left than ticks to come
  abbrev Rest : Memory → List Call → Type 0
  Rest m cs = (q : List ℕ) → S.Waits m q → id_of q ≡ id → tries_of q < L.tick_count g m cs → Ends m cs

  module _ (m : Memory) (c : Call) (cs : List Call) (ty : Typed c) (more : Rest (g m c).memory cs) where
    -- a refused call changes nothing and counts for nothing
    kept_on : (n : ℕ) → (g m c).answer.number ≡ suc n → ((g m c).memory ≡ m) × (L.tick_count g m (c ∷ cs) ≡ L.tick_count g (g m c).memory cs)
    kept_on n e = (
      ap (λ (y : Handed). y.memory) (meets.table.keeps m c (omega arith)),
      omega (arith, count_refused (L.is_tick c) (g m c).answer.number (omega arith)),
    )

    counts-as : (g m c).answer.number ≡ 0 → L.tick_count g m (c ∷ cs) ≡ took c + L.tick_count g (g m c).memory cs
    counts-as e = ap (λ (i : ℕ). i + L.tick_count g (g m c).memory cs) (count_done (L.is_tick c) (g m c).answer.number e)

    -- after the call no place has the ID, or one does that has few enough tries left
    next-by : ((q : List ℕ) → S.Waits (g m c).memory q → id_of q ≡ id → tries_of q < L.tick_count g (g m c).memory cs) → Ends m (c ∷ cs)
    next-by few = elim (waits_or id (places_of (g m c).memory.waiting)) [
      | inl w ↦ ends-later m c cs (more w.0 w.1 w.2 (few w.0 w.1 w.2))
      | inr gone ↦ ends_now m c cs gone
    ]

    next : Rest m (c ∷ cs)
    next p wait is below = go (g m c).answer.number refl
      where
        same : (g m c).memory ≡ m → tries_of p < L.tick_count g (g m c).memory cs → Ends m (c ∷ cs)
        same e low = ends-later m c cs (more p (subst (λ (y : Memory). S.Waits y p) (sym e) wait) is low)

        done : (g m c).answer.number ≡ 0 → (((g m c).memory ≡ m) × (took c ≡ 0)) ⊎ Came m c (g m c).memory → Ends m (c ∷ cs)
        done e (inl w) = same w.0 (omega (arith, below, counts-as e, w.1))
        done e (inr came) = next-by (λ q y i. omega (arith, came.0 p q wait y (i ∙ sym is), below, counts-as e))

        go : (n : ℕ) → (g m c).answer.number ≡ n → Ends m (c ∷ cs)
        go zero e = done e (does_came m c (g m c) ty ((meets.table.accepted m c ty).0 e) (meets.does m c ty e))
        go (suc n) e = let w = kept_on n e in same w.0 (omega (arith, below, w.1))

    -- and whatever waits at first
    first : (3 ≤ L.tick_count g (g m c).memory cs → Ends (g m c).memory cs) → 3 ≤ L.tick_count g m (c ∷ cs) → Ends m (c ∷ cs)
    first later three = go (g m c).answer.number refl
      where
        done : (g m c).answer.number ≡ 0 → (((g m c).memory ≡ m) × (took c ≡ 0)) ⊎ Came m c (g m c).memory → Ends m (c ∷ cs)
        done e (inl w) = ends-later m c cs (later (omega (arith, three, counts-as e, w.1)))
        done e (inr came) = next-by (λ q y i. omega (arith, came.1 q y, three, counts-as e))

        go : (n : ℕ) → (g m c).answer.number ≡ n → Ends m (c ∷ cs)
        go zero e = done e (does_came m c (g m c) ty ((meets.table.accepted m c ty).0 e) (meets.does m c ty e))
        go (suc n) e = ends-later m c cs (later (omega (arith, three, (kept_on n e).1)))

  within : (m : Memory) (cs : List Call) → Every Typed cs → Rest m cs
  within m [] ty = λ p wait is low. absurd (omega arith)
  within m (c ∷ cs) ty = next m c cs ty.0 (within (g m c).memory cs ty.1)

  third : (m : Memory) (cs : List Call) → Every Typed cs → 3 ≤ L.tick_count g m cs → Ends m cs
  third m [] ty three = absurd (omega arith)
  third m (c ∷ cs) ty three = first m c cs ty.0 (within (g m c).memory cs ty.1) (third (g m c).memory cs ty.1) three

pub gone_by_third : L.GoneByThird
gone_by_third g meets id m cs ty h = third g meets id m cs ty h
