-- A place that nobody answers is listed twice and then gone: from the sentences alone, of any gauge. Assumes nothing.
use Prim.Native.Nat.{ℕ, zero, suc, ◌+◌, ◌*◌, ◌-◌, ◌^◌, ◌<◌}
use mathlib.Core.Bool.{Bool, true, false}
use mathlib.Core.List.{List, [], ◌∷◌, ◌++◌}
use mathlib.Core.Logic.{inl, inr}
use mathlib.Core.Path.{◌≡◌, refl, sym, ap, subst, ◌∙◌}
use native.Mathlib.Omega.{arith}
use lib.ListN.{length, take, drop}
use lib.Seq.{get_or-drop}
use Rattle.octet.specs.Number.{Bytes, value_le, digits_le}
use Rattle.octet.specs.Part.{part, splice}
use Rattle.octet.proofs.PartLaws.{part-digits}
use Rattle.octet.proofs.LittleLaws.{value_le-digits_le, digits_le-lt}
use Rattle.key.specs.Number.{key_at}
use Rattle.refusal.proofs.TableLaws.{both}
use Rattle.own.specs.Own.{own_keys}
use Rattle.table.specs.Rows.{rows, joined, Sized}
use Rattle.kept.specs.Keys.{◌∈◌}
use Rattle.waiting.specs.Place.{id_of, kind_of, tries_of, place_key, new_place}
use Rattle.waiting.specs.Form.{places_of, used_of, waiting_form}
use Rattle.waiting.specs.Tick.{one_less, id_bytes}
use Rattle.waiting.proofs.PlaceLaws.{less-id, less-kind, less-key, less-tries}
use Rattle.waiting.proofs.FormLaws.{form_of}
use Rattle.gauge_commit.specs.declared.Answer.{Answer}
use Rattle.gauge_commit.proofs.SentLaws.{joined_one}
use Rattle.gauge_plan.specs.Lent.{Memory, Receive, Tick, Call, receives, sends, ticks, lists}
use Rattle.gauge_commit.specs.Sending.{Handed}
use Rattle.gauge.specs.Words.{Gauge, left, Typed}
use Rattle.sentences.specs.Heard.{Heard, entry, revoke, inquire, authority, ack, lookup, other, Hears}
use Rattle.sentences.specs.Sentences as S
use Rattle.sentences.specs.Meets.{MeetsSentences}
use Rattle.sentences.specs.Listed as L
use Rattle.sentences.proofs.MembersLaws.{rise_one, places_rise}

-- ---- IDs of 32 bits

-- each ID that waits has 32 bits
abbrev Fit : Memory → Type 0
Fit m = (q : List ℕ) → S.Waits m q → id_of q < 2 ^ 32

four_fit : (l : List ℕ) → Bytes l → value_le 256 (take 4 l) < 2 ^ 32
unfolding value_le
four_fit [] b = omega arith
four_fit (x ∷ []) b = omega (arith, b 0)
four_fit (x ∷ y ∷ []) b = omega (arith, b 0, b 1)
four_fit (x ∷ y ∷ z ∷ []) b = omega (arith, b 0, b 1, b 2)
four_fit (x ∷ y ∷ z ∷ w ∷ l) b = omega (arith, b 0, b 1, b 2, b 3)

new_fit : (id kind tries : ℕ) (key held : List ℕ) → id_of (new_place id kind tries key held) < 2 ^ 32
unfolding new_place digits_le
new_fit id kind tries key held = four_fit (digits_le 256 4 id) (digits_le-lt 256 4 id (omega arith))

rows_fit : (n : ℕ) (s : List ℕ) → Bytes s → (q : List ℕ) → q ∈ rows 140 n s → id_of q < 2 ^ 32
unfolding rows
rows_fit zero s b q i = absurd i
rows_fit (suc n) s b q (inl e) = subst (λ (l : List ℕ). id_of l < 2 ^ 32) (sym e) (four_fit (take 140 s) (part-digits 256 0 140 s (omega arith) b))
rows_fit (suc n) s b q (inr i) = rows_fit n (drop 140 s) (λ j. rw (get_or-drop 140 s j 0) (b (140 + j))) q i

-- ---- the numbers of a list of IDs

module _ (z : List ℕ) where
  find : (ids : List ℕ) → ((i : ℕ) → i ∈ ids → i < 2 ^ 32) → (id : ℕ) → id ∈ ids
      → (n : ℕ) × (n < length ids) × (value_le 256 (part (4 * n) 4 (id_bytes ids ++ z)) ≡ id)
  unfolding id_bytes digits_le
  find [] small id i = absurd i
  find (x ∷ ids) small id (inl e) = (0, omega arith, value_le-digits_le 256 4 x (omega arith) (small x (inl refl)) ∙ sym e)
  find (x ∷ ids) small id (inr i) =
      let w = find ids (λ j m. small j (inr m)) id i in (
        suc w.0,
        omega (arith, w.1),
        ap (λ (a : ℕ). value_le 256 (part a 4 (id_bytes (x ∷ ids) ++ z))) (let e : 4 * suc w.0 ≡ suc (suc (suc (suc (4 * w.0)))) = omega arith in
            e) ∙ w.2,
      )

  found : (ids : List ℕ) → ((i : ℕ) → i ∈ ids → i < 2 ^ 32) → (n : ℕ) → n < length ids → value_le 256 (part (4 * n) 4 (id_bytes ids ++ z)) ∈ ids
  unfolding id_bytes digits_le
  found [] small n h = absurd (omega arith)
  found (x ∷ ids) small zero h = inl (value_le-digits_le 256 4 x (omega arith) (small x (inl refl)))
  found (x ∷ ids) small (suc n) h =
      inr (subst (λ (a : ℕ). value_le 256 (part a 4 (id_bytes (x ∷ ids) ++ z)) ∈ ids)
      (let e : suc (suc (suc (suc (4 * n)))) ≡ 4 * suc n = omega arith in e)
      (found ids (λ j m. small j (inr m)) n (omega arith)))

-- ---- a place that no call concerns waits on

-- q is the place p, with some tries left
pub record Same (p q : List ℕ) : Type 0 where
  pub id : id_of q ≡ id_of p
  pub kind : kind_of q ≡ kind_of p
  pub key : place_key q ≡ place_key p

module _ (p q : List ℕ) (same : Same p q) (m : Memory) (wait : S.Waits m q) where
  leaves-on : (l : Receive) (x : Heard) (left : Memory) → Hears l.datagram l.major x
      → ((cpa : Bool) → ¬ Hears l.datagram l.major (authority (id_of p) cpa))
      → ((n : Bool) → ¬ Hears l.datagram l.major (ack (id_of p) n))
      → ((i : ℕ) (s : Bool) (v : ℕ) → Hears l.datagram l.major (revoke i s v) → ¬ S.Inquiry (key_at 0 l.key) p)
      → S.Leaves m l x left → S.Waits left q
  leaves-on l (entry i s v r) left h a k f w = (w.table.members q).1 (inl wait)
  leaves-on l (revoke i s v) left h a k f w =
      (w.table.members q).1 (wait, λ y. f i s v h (sym same.kind ∙ y.0, sym same.key ∙ y.1))
  leaves-on l (inquire i v) left h a k f w = subst (λ (y : Memory). S.Waits y q) (sym w) wait
  leaves-on l (authority acked c) left h a k f w =
      (w.table.members q).1 (
        wait,
        λ e. a c (subst (λ (n : ℕ). Hears l.datagram l.major (authority n c))
            (sym w.answers.1 ∙ ap id_of (sym e) ∙ same.id) h),
      )
  leaves-on l (ack acked n) left h a k f w =
      (w.table.members q).1 (
        wait,
        λ e. k n (subst (λ (i : ℕ). Hears l.datagram l.major (ack i n))
            (sym w.answers.1 ∙ ap id_of (sym e) ∙ same.id) h),
      )
  leaves-on l (lookup i t path o) left h a k f w = (w.table.members q).1 (inl wait)
  leaves-on l other left h a k f w = absurd w

  does-on : (c : Call) (h : Handed) → ¬ L.Concerns p c → S.Does m c h → S.Waits h.memory q
  does-on (receives l) h none s =
      leaves-on l s.x h.memory s.hears
      (λ c y. none (inl (c, y))) (λ n y. none (inr (inl (n, y)))) (λ i t v y e. none (inr (inr (i, t, v, y, e)))) s.leaves
  does-on (sends l) h none s = (s.table.members q).1 (inl wait)
  does-on (ticks l) h none s = absurd (none tt)
  does-on (lists l) h none s = subst (λ (y : Memory). S.Waits y q) (sym s.same) wait

-- ---- IDs keep their 32 bits

module _ (m : Memory) (fit : Fit m) where
  leaves-fit : (l : Receive) (x : Heard) (left : Memory) → S.Leaves m l x left → Fit left
  leaves-fit l (entry i s v r) left w q y =
      elim ((w.table.members q).0 y) [
        | inl was ↦ fit q was
        | inr is ↦ subst (λ (x : List ℕ). id_of x < 2 ^ 32) (sym is.1) (new_fit _ 2 2 (part 0 32 r) r)
      ]
  leaves-fit l (revoke i s v) left w q y = fit q ((w.table.members q).0 y).0
  leaves-fit l (inquire i v) left w q y = fit q (subst (λ (n : Memory). S.Waits n q) w y)
  leaves-fit l (authority acked c) left w q y = fit q ((w.table.members q).0 y).0
  leaves-fit l (ack acked n) left w q y = fit q ((w.table.members q).0 y).0
  leaves-fit l (lookup i t path o) left w q y =
      elim ((w.table.members q).0 y) [
        | inl was ↦ fit q was
        | inr is ↦ subst (λ (x : List ℕ). id_of x < 2 ^ 32) (sym is.1) (new_fit _ 2 2 (part 0 32 (S.entry_record o)) (S.entry_record o))
      ]
  leaves-fit l other left w q y = absurd w

  does-fit : (c : Call) (h : Handed) → S.Does m c h → Fit h.memory
  does-fit (receives l) h s q y = leaves-fit l s.x h.memory s.leaves q y
  does-fit (sends l) h s q y =
      elim ((s.table.members q).0 y) [
        | inl was ↦ fit q was
        | inr is ↦ subst (λ (x : List ℕ). id_of x < 2 ^ 32) (sym is) (new_fit l.id 1 2 l.neighbour _)
      ]
  does-fit (ticks l) h s q y =
      let w = (s.table.members q).0 y in
      subst (λ (i : ℕ). i < 2 ^ 32) (sym (ap id_of w.3 ∙ less-id w.0)) (fit w.0 w.1)
  does-fit (lists l) h s q y = fit q (subst (λ (n : Memory). S.Waits n q) s.same y)

-- ---- a tick

pub sized_in : (w : ℕ) (ps : List (List ℕ)) → Sized w ps → (q : List ℕ) → q ∈ ps → length q ≡ w
sized_in w [] s q i = absurd i
sized_in w (p ∷ ps) s q (inl e) = ap length e ∙ s.0
sized_in w (p ∷ ps) s q (inr i) = sized_in w ps s.1 q i

pub true_by : (b : Bool) → ¬ (b ≡ false) → b ≡ true
true_by true h = refl
true_by false h = absurd (h refl)

module _ (g : Gauge) (meets : MeetsSentences g) (m : Memory) (fit : Fit m) (l : Tick)
    (ok : (g m (ticks l)).answer.number ≡ 0) where
  abbrev h : Handed
  h = g m (ticks l)

  done : S.Ticks (own_keys l.own) m l.output h
  done = meets.does m (ticks l) tt ok

  form : waiting_form (own_keys l.own) m.waiting ≡ true
  form = true_by _ (λ e. (meets.table.accepted m (ticks l) tt).0 ok 1 (inl (refl, λ w. both w.waiting e)))

  small : (i : ℕ) → i ∈ done.ids → i < 2 ^ 32
  small i y = let w = (done.listed i).0 y in subst (λ (n : ℕ). n < 2 ^ 32) w.3 (fit w.0 w.1)

  rest : List ℕ
  rest = drop (0 + length (joined (id_bytes done.ids ∷ []))) l.output

  starts : h.output ≡ id_bytes done.ids ++ rest
  unfolding splice rest
  starts = done.bytes ∙ ap (λ (l : List ℕ). l ++ rest) (joined_one (id_bytes done.ids))

  counted : h.answer.first ≡ length done.ids
  counted = ap (λ (a : Answer). a.first) done.counts

  module _ (q : List ℕ) (wait : S.Waits m q) where
    one : (r : List ℕ) → S.Waits m r → id_of r ≡ id_of q → r ≡ q
    one r w e = rise_one id_of 0 r q (places_of m.waiting) (places_rise (own_keys l.own) m.waiting form) w wait e

    long : length q ≡ 140
    long = sized_in 140 (places_of m.waiting) (form_of (own_keys l.own) m.waiting form).sized q wait

    tick-lists : 0 < tries_of q → L.Listed (id_of q) h
    tick-lists some =
        let w = find rest done.ids small (id_of q) ((done.listed (id_of q)).1 (q, wait, some, refl)) in
        (w.0, omega (arith, w.1, counted), ap (λ (o : List ℕ). value_le 256 (part (4 * w.0) 4 o)) starts ∙ w.2)

    tick-less : 0 < tries_of q → S.Waits h.memory (one_less q)
    tick-less some = (done.table.members (one_less q)).1 (q, wait, some, refl)

    -- with none left it is not listed, and no other place has its ID
    tick-silent : tries_of q ≡ 0 → ¬ L.Listed (id_of q) h
    tick-silent none w =
        let i = found rest done.ids small w.0 (omega (arith, w.1, counted)) in
        let e : value_le 256 (part (4 * w.0) 4 (id_bytes done.ids ++ rest)) ≡ id_of q =
        ap (λ (o : List ℕ). value_le 256 (part (4 * w.0) 4 o)) (sym starts) ∙ w.2 in
        let y = (done.listed _).0 i in
        let is = ap tries_of (one y.0 y.1 (y.3 ∙ e)) in
        omega (arith, y.2, is, none)

    tick-frees : tries_of q ≡ 0 → L.Gone (id_of q) h.memory
    tick-frees none r w e =
        let y = (done.table.members r).0 w in
        let is = ap tries_of (one y.0 y.1 (sym (ap id_of y.3 ∙ less-id y.0) ∙ e)) in
        omega (arith, y.2, is, none)

-- ---- calls one after the other

module _ (g : Gauge) (meets : MeetsSentences g) where
  step-fit : (m : Memory) (c : Call) → Typed c → Fit m → Fit (g m c).memory
  step-fit m c ty fit = go (g m c).answer.number refl
    where
      go : (n : ℕ) → (g m c).answer.number ≡ n → Fit (g m c).memory
      go zero e = does-fit m fit c (g m c) (meets.does m c ty e)
      go (suc n) e = subst (λ (h : Handed). Fit h.memory) (sym (meets.table.keeps m c (omega arith))) fit

  step-on : (p q : List ℕ) → Same p q → (m : Memory) (c : Call) → Typed c → ((g m c).answer.number ≡ 0 → ¬ L.Concerns p c) → S.Waits m q
      → S.Waits (g m c).memory q
  step-on p q same m c ty none wait = go (g m c).answer.number refl
    where
      go : (n : ℕ) → (g m c).answer.number ≡ n → S.Waits (g m c).memory q
      go zero e = does-on p q same m wait c (g m c) (none e) (meets.does m c ty e)
      go (suc n) e = subst (λ (h : Handed). S.Waits h.memory q) (sym (meets.table.keeps m c (omega arith))) wait

  left-on : (p q : List ℕ) → Same p q → (m : Memory) (cs : List Call) → L.NoneConcerns g p m cs → Fit m → S.Waits m q
      → Fit (left g m cs) × S.Waits (left g m cs) q
  unfolding left
  left-on p q same m [] none fit wait = (fit, wait)
  left-on p q same m (c ∷ cs) none fit wait =
      left-on p q same (g m c).memory cs none.2 (step-fit m c none.0 fit) (step-on p q same m c none.0 none.1 wait)

  listed-for : (p : List ℕ) (n : ℕ) (q : List ℕ) → Same p q → tries_of q ≡ n → (m : Memory) → Fit m → S.Waits m q → L.ListedFor g p n m
  listed-for p zero q same tries m fit wait = λ r passes.
      let w = left-on p q same m r.calls passes.0 fit wait in
      let now = left g m r.calls in (
        subst (λ (i : ℕ). ¬ L.Listed i (L.tick_of g m r)) same.id (tick-silent g meets now w.0 r.tick passes.1 q w.1 tries),
        subst (λ (i : ℕ). L.Gone i (L.tick_of g m r).memory) same.id
            (tick-frees g meets now w.0 r.tick passes.1 q w.1 tries),
      )
  listed-for p (suc n) q same tries m fit wait = λ r passes.
      let w = left-on p q same m r.calls passes.0 fit wait in
      let now = left g m r.calls in
      let less : tries_of (one_less q) ≡ n =
      less-tries q (long g meets now w.0 r.tick passes.1 q w.1) ∙ (let e : tries_of q - 1 ≡ n = omega arith in e) in (
        subst (λ (i : ℕ). L.Listed i (L.tick_of g m r)) same.id
            (tick-lists g meets now w.0 r.tick passes.1 q w.1 (omega arith)),
        listed-for p n (one_less q)
            (record { id = less-id q ∙ same.id; kind = less-kind q ∙ same.kind; key = less-key q ∙ same.key }) less (L.tick_of g m r).memory
            (step-fit now (ticks r.tick) tt w.0)
            (tick-less g meets now w.0 r.tick passes.1 q w.1 (omega arith)),
      )

pub listed_twice : L.ListedTwice
listed_twice g meets m b p wait two =
    listed-for g meets p 2 p (record { id = refl; kind = refl; key = refl }) two m (rows_fit (used_of m.waiting) m.waiting b) wait
