-- What a call does to the counts by first byte. In this order: one key more or less, counted; keys that came and went; a datagram received, by its plan; any
-- call that leaves cache and counts. Assumes nothing.
use mathlib.Core.Path.{◌≡◌, refl, sym, ap, subst, ◌∙◌}
use mathlib.Core.Logic.{◌⊎◌, ◌↔◌, inl, inr}
use mathlib.Core.Bool.{true, false}
use mathlib.Core.List.{List, [], ◌∷◌}
use Prim.Native.Nat.{ℕ, zero-le, ◌+◌, ◌≤◌, ◌<◌}
use native.Mathlib.Omega.{arith}
use lib.ListN.{length, get_or, length-map}
use Rattle.key.specs.Number.{key_at}
use Rattle.record.specs.Record.{key_of, record_form}
use Rattle.own.specs.Own.{Own, own_keys, IsOwn}
use Rattle.own.proofs.FormLaws.{own_some}
use Rattle.refusal.proofs.TableLaws.{both}
use Rattle.kept.specs.Keys.{◌∈◌, Rising, plain, put, without, has}
use Rattle.kept.specs.Plain.{NotOwn}
use Rattle.kept.proofs.ListLaws.{Test, pass, fail, test, has_in, in_has, every_of, mem-put, put_keeps, put_there, rising-put, rising-ext}
use Rattle.kept.proofs.PutLaws.{put-nil}
use Rattle.kept.proofs.WithoutLaws.{eq_or, without_this, without_other, without_absent, rising_without}
use Rattle.table.specs.Rows.{rows, bytes_of}
use Rattle.cache.specs.Form.{Form, keys_of, cache_form, held_of}
use Rattle.cache.specs.Bytes.{after_learn, after_remove}
use Rattle.cache.specs.Change.{Changes}
use Rattle.cache.proofs.FormLaws.{form-held, form-room, true_form}
use Rattle.cache.proofs.KeepLaws.{learnt_form, removed_form}
use Rattle.firsts.specs.Firsts.{first_byte, count, firsts_of}
use Rattle.firsts.specs.Places.{count_at}
use Rattle.firsts.proofs.CountLaws.{count-few, OneMore, more-put, less-without}
use Rattle.firsts.proofs.FirstsLaws.{count-there}
use Rattle.counted.proofs.ChangeLaws.{Learnt, stays, joins, trades, learnt, removed_keys}
use Rattle.waiting.specs.Place.{place_key, place_record}
use Rattle.gauge_plan.specs.declared.Plan.{Plan}
use Rattle.gauge_plan.specs.declared.Plan.TheVariants.{Refuse, Flood, Revoke, Learn, Free, Certify, Show}
use Rattle.gauge_plan.specs.Lent.{Memory, Counted, Receive}
use Rattle.gauge_commit.proofs.PlaceLaws.{record-place, record_key}
use Rattle.plan_message.specs.Planned.{receive_plan}
use Rattle.plan_message.proofs.PlannedLaws.{Known, known, learn-needs}
use Rattle.gauge.specs.Receive.{carried, receive_call}
use Rattle.gauge_laws.specs.Touched.{keys_held, Touched}
use Rattle.gauge_laws.proofs.MovedLaws.{receive-ready}
use Rattle.gauge_laws.proofs.FormLaws.{receive_form, receive-counted}

-- ---- one key more or less, counted

-- two lists that differ by a key of one byte differ by as much as two others that do
differ_same : (b : ℕ) (l m l' m' : List ℕ) → OneMore b l m → OneMore b l' m' → (i : ℕ) → count i m + count i l' ≡ count i l + count i m'
differ_same b l m l' m' v w i = go (eq_or i b)
  where
    here : count b m + count b l' ≡ count b l + count b m'
    here = omega (arith, v.here, w.here)

    go : (i ≡ b) ⊎ (¬ (i ≡ b)) → count i m + count i l' ≡ count i l + count i m'
    go (inl e) = subst (λ (j : ℕ). count j m + count j l' ≡ count j l + count j m') (sym e) here
    go (inr h) = omega (arith, v.elsewhere i h, w.elsewhere i h)

one_key_lem : (k : ℕ) → OneMore (first_byte k) [] (k ∷ [])
one_key_lem k = subst (OneMore (first_byte k) []) (put-nil plain k) (more-put k (first_byte k) refl [] (λ m. m))

joined_counts : (k : ℕ) (l : List ℕ) → ¬ (k ∈ l) → (i : ℕ) → count i (put plain k l) ≡ count i l + count i (k ∷ [])
joined_counts k l out i =
    omega (arith, differ_same (first_byte k) l (put plain k l) [] (k ∷ []) (more-put k (first_byte k) refl l out) (one_key_lem k) i, count-few i [])

left_counts : (d : ℕ) (l : List ℕ) → Rising plain 0 l → d ∈ l → (i : ℕ) → count i l ≡ count i (without d l) + count i (d ∷ [])
left_counts d l r m i =
    omega (arith, differ_same (first_byte d) (without d l) l [] (d ∷ []) (less-without d (first_byte d) refl 0 l r m) (one_key_lem d) i, count-few i [])

-- ---- keys that came and went

without_out : (d j : ℕ) (l : List ℕ) → j ∈ without d l → (j ∈ l) × (¬ (j ≡ d))
unfolding without
without_out d j [] m = absurd m
without_out d j (x ∷ l) m = go (eq_or d x) (without_out d j l)
  where
    past : ¬ (d ≡ x) → (j ∈ without d l → (j ∈ l) × (¬ (j ≡ d))) → j ∈ (x ∷ without d l) → (j ∈ (x ∷ l)) × (¬ (j ≡ d))
    past h ih (inl e) = (inl e, λ q. h (sym q ∙ e))
    past h ih (inr n) = (inr (ih n).0, (ih n).1)

    go : (d ≡ x) ⊎ (¬ (d ≡ x)) → (j ∈ without d l → (j ∈ l) × (¬ (j ≡ d))) → (j ∈ (x ∷ l)) × (¬ (j ≡ d))
    go (inl e) ih = let w = ih (subst (λ (t : List ℕ). j ∈ t) (without_this d x l e) m) in (inr w.0, w.1)
    go (inr h) ih = past h ih (subst (λ (t : List ℕ). j ∈ t) (without_other d x l h) m)

without_keeps : (d j : ℕ) (l : List ℕ) → j ∈ l → ¬ (j ≡ d) → j ∈ without d l
without_keeps d j [] m h = absurd m
without_keeps d j (x ∷ l) m h = go (eq_or d x) m (λ n. without_keeps d j l n h)
  where
    go : (d ≡ x) ⊎ (¬ (d ≡ x)) → j ∈ (x ∷ l) → (j ∈ l → j ∈ without d l) → j ∈ without d (x ∷ l)
    go (inl e) (inl p) ih = absurd (h (p ∙ sym e))
    go (inl e) (inr n) ih = subst (λ (t : List ℕ). j ∈ t) (sym (without_this d x l e)) (ih n)
    go (inr u) (inl p) ih = subst (λ (t : List ℕ). j ∈ t) (sym (without_other d x l u)) (inl p)
    go (inr u) (inr n) ih = subst (λ (t : List ℕ). j ∈ t) (sym (without_other d x l u)) (inr (ih n))

there : (k : ℕ) (l : List ℕ) → k ∈ put plain k l
there k l = put_there plain k l (every_of (λ (j : ℕ). k ≡ j → k ≡ j) l (λ j m e. e))

-- as `Touched`, of the keys alone
record Turned (keys left : List ℕ) : Type 0 where
  pub came : List ℕ
  pub went : List ℕ
  pub few : (length came ≤ 1) × (length went ≤ 1)
  pub are-new : (k : ℕ) → (k ∈ came) ↔ ((k ∈ left) × (¬ (k ∈ keys)))
  pub are-gone : (k : ℕ) → (k ∈ went) ↔ ((k ∈ keys) × (¬ (k ∈ left)))
  pub counts : (b : ℕ) → count b left + count b went ≡ count b keys + count b came

module _ (keys : List ℕ) where
  same_keys : Turned keys keys
  same_keys = record {
    came = [];
    went = [];
    few = (omega arith, omega arith);
    are-new = λ k. (λ i. absurd i, λ w. w.1 w.0);
    are-gone = λ k. (λ i. absurd i, λ w. w.1 w.0);
    counts = λ b. refl;
  }

  one-came : (k : ℕ) → ¬ (k ∈ keys) → Turned keys (put plain k keys)
  one-came k out = record {
    came = k ∷ [];
    went = [];
    few = (omega arith, omega arith);
    are-new = λ j. (λ i. new-to j i, λ w. new-from j (mem-put plain j k keys w.0) w.1);
    are-gone = λ j. (λ i. absurd i, λ w. w.1 (put_keeps plain j k keys w.0));
    counts = λ b. omega (arith, joined_counts k keys out b, count-few b []);
  }
    where
      new-to : (j : ℕ) → j ∈ (k ∷ []) → (j ∈ put plain k keys) × (¬ (j ∈ keys))
      new-to j (inl e) = (subst (λ (x : ℕ). x ∈ put plain k keys) (sym e) (there k keys), λ m. out (subst (λ (x : ℕ). x ∈ keys) e m))
      new-to j (inr n) = absurd n

      new-from : (j : ℕ) → (j ≡ k) ⊎ (j ∈ keys) → ¬ (j ∈ keys) → j ∈ (k ∷ [])
      new-from j (inl e) n = inl e
      new-from j (inr m) n = absurd (n m)

  module _ (rise : Rising plain 0 keys) where
    one-went : (d : ℕ) → d ∈ keys → Turned keys (without d keys)
    one-went d m = record {
      came = [];
      went = d ∷ [];
      few = (omega arith, omega arith);
      are-new = λ j. (λ i. absurd i, λ w. w.1 (without_out d j keys w.0).0);
      are-gone = λ j. (λ i. gone-to j i, λ w. gone-from j (eq_or j d) w.0 w.1);
      counts = λ b. omega (arith, left_counts d keys rise m b, count-few b []);
    }
      where
        gone-to : (j : ℕ) → j ∈ (d ∷ []) → (j ∈ keys) × (¬ (j ∈ without d keys))
        gone-to j (inl e) = (subst (λ (x : ℕ). x ∈ keys) (sym e) m, λ n. (without_out d j keys n).1 e)
        gone-to j (inr n) = absurd n

        gone-from : (j : ℕ) → (j ≡ d) ⊎ (¬ (j ≡ d)) → j ∈ keys → ¬ (j ∈ without d keys) → j ∈ (d ∷ [])
        gone-from j (inl e) i n = inl e
        gone-from j (inr h) i n = absurd (n (without_keeps d j keys i h))

    module _ (k : ℕ) (out : ¬ (k ∈ keys)) where
      rises : Rising plain 0 (put plain k keys)
      rises = rising-put plain 0 k keys zero-le rise

      -- the newcomer goes at once
      same-again : without k (put plain k keys) ≡ keys
      same-again =
          rising-ext plain 0 0 (without k (put plain k keys)) keys (rising_without plain 0 k (put plain k keys) rises) rise
          (λ j m. let w = without_out k j (put plain k keys) m in back j (mem-put plain j k keys w.0) w.1)
          (λ j m. without_keeps k j (put plain k keys) (put_keeps plain j k keys m) (λ e. out (subst (λ (x : ℕ). x ∈ keys) e m)))
        where
          back : (j : ℕ) → (j ≡ k) ⊎ (j ∈ keys) → ¬ (j ≡ k) → j ∈ keys
          back j (inl e) n = absurd (n e)
          back j (inr m) n = m

      -- another goes
      traded : (d : ℕ) → ¬ (d ≡ k) → d ∈ keys → Turned keys (without d (put plain k keys))
      traded d other m = record {
        came = k ∷ [];
        went = d ∷ [];
        few = (omega arith, omega arith);
        are-new = λ j. (λ i. new-to j i, λ w. new-from j (mem-put plain j k keys (without_out d j more w.0).0) w.1);
        are-gone = λ j. (λ i. gone-to j i, λ w. gone-from j (eq_or j d) w.0 w.1);
        counts = λ b. omega (arith, joined_counts k keys out b, left_counts d more rises (put_keeps plain d k keys m) b);
      }
        where
          more : List ℕ
          more = put plain k keys

          new-to : (j : ℕ) → j ∈ (k ∷ []) → (j ∈ without d (put plain k keys)) × (¬ (j ∈ keys))
          new-to j (inl e) = (
            without_keeps d j (put plain k keys) (subst (λ (x : ℕ). x ∈ put plain k keys) (sym e) (there k keys)) (λ q. other (sym q ∙ e)),
            λ i. out (subst (λ (x : ℕ). x ∈ keys) e i),
          )
          new-to j (inr n) = absurd n

          new-from : (j : ℕ) → (j ≡ k) ⊎ (j ∈ keys) → ¬ (j ∈ keys) → j ∈ (k ∷ [])
          new-from j (inl e) n = inl e
          new-from j (inr i) n = absurd (n i)

          gone-to : (j : ℕ) → j ∈ (d ∷ []) → (j ∈ keys) × (¬ (j ∈ without d (put plain k keys)))
          gone-to j (inl e) = (subst (λ (x : ℕ). x ∈ keys) (sym e) m, λ n. (without_out d j (put plain k keys) n).1 e)
          gone-to j (inr n) = absurd n

          gone-from : (j : ℕ) → (j ≡ d) ⊎ (¬ (j ≡ d)) → j ∈ keys → ¬ (j ∈ without d (put plain k keys)) → j ∈ (d ∷ [])
          gone-from j (inl e) i n = inl e
          gone-from j (inr h) i n = absurd (n (without_keeps d j (put plain k keys) (put_keeps plain j k keys i) h))

      any-went : (d : ℕ) → (d ≡ k) ⊎ (¬ (d ≡ k)) → (d ≡ k) ⊎ (d ∈ keys) → Turned keys (without d (put plain k keys))
      any-went d (inl e) i = subst (λ (x : ℕ). Turned keys (without x (put plain k keys))) (sym e) (subst (Turned keys) (sym same-again) same_keys)
      any-went d (inr h) (inl e) = absurd (h e)
      any-went d (inr h) (inr m) = traded d h m

    turned-learnt : (k : ℕ) (left : List ℕ) (c : Changes) → Learnt keys k left c → Turned keys left
    turned-learnt k left c (stays e) = subst (Turned keys) (sym e) same_keys
    turned-learnt k left c (joins out e) = subst (Turned keys) (sym e) (one-came k out)
    turned-learnt k left c (trades d out m e) = subst (Turned keys) (sym e) (any-went k out d (eq_or d k) (mem-put plain d k keys m))

    turned-without : (d : ℕ) → Turned keys (without d keys)
    turned-without d = go (test (has d keys))
      where
        go : Test (has d keys) → Turned keys (without d keys)
        go (pass e) = one-went d (in_has d keys e)
        go (fail e) =
            subst (Turned keys) (sym (without_absent d keys (λ m. both (has_in d keys m) e))) same_keys

-- ---- a datagram received, by its plan

module _ (own : Own) (cache : List ℕ) (recs : List (List ℕ)) (f : Form own cache recs) where
  -- a cache written of other records
  abbrev Written : List (List ℕ) → Type 0
  Written next = Turned (keys_of (held_of own cache)) (keys_of (held_of own (bytes_of (length cache) next)))

  written : (next : List (List ℕ)) → Form own (bytes_of (length cache) next) next → Turned (keys_of recs) (keys_of next) → Written next
  written next g t =
      subst (λ (rs : List (List ℕ)). Turned (keys_of rs) (keys_of (held_of own (bytes_of (length cache) next)))) (sym (form-held own cache recs f))
      (subst (λ (rs : List (List ℕ)). Turned (keys_of recs) (keys_of rs)) (sym (form-held own (bytes_of (length cache) next) next g)) t)

  turned-removed : (k : ℕ) → Written (after_remove k recs)
  turned-removed k =
      written (after_remove k recs) (removed_form own k cache recs f)
      (subst (Turned (keys_of recs)) (sym (removed_keys k recs)) (turned-without (keys_of recs) f.held.rising k))

  turned-learned : (r : List ℕ) → 0 < length own → record_form r ≡ true → NotOwn own (key_of r) → Written (after_learn own (length cache) recs r)
  turned-learned r some formed other =
      written (after_learn own (length cache) recs r) (learnt_form own cache recs r some f formed other)
      (turned-learnt (keys_of recs) f.held.rising (key_of r) _ _
      (learnt own some (length cache) f.places recs f.held (form-room own cache recs f) r other))

module _ (m : Memory) (l : Receive) where
  abbrev own : Own
  own = own_keys l.own

  plan-turned : (p : Plan) → receive_plan m l ≡ p → Known m l p → Turned (keys_held own m) (keys_held own (carried m l p).memory)
  unfolding carried
  plan-turned (Refuse n) e k = same_keys _
  plan-turned (Flood u s n a opens start len) e k = same_keys _
  plan-turned (Revoke h u s n a) e k = turned-removed own m.cache (rows 100 h m.cache) k.ready.form (key_at 0 l.key)
  plan-turned (Learn h u at) e k =
      let t = m.waiting in
      let needs = learn-needs m l e in
      let is = record-place u t at needs.5 in
      turned-learned own m.cache (rows 100 h m.cache) k.ready.form (place_record (get_or (rows 140 u t) at [])) (own_some l.own k.ready.owned)
      (sym (ap record_form is) ∙ needs.6) (λ o. needs.7 (subst (IsOwn own) (sym (sym (record_key u t at) ∙ ap key_of is)) o))
  plan-turned (Free h u at true) e k =
      turned-removed own m.cache (rows 100 h m.cache) k.ready.form (place_key (get_or (rows 140 u m.waiting) at []))
  plan-turned (Free h u at false) e k = same_keys _
  plan-turned (Certify a i) e k = same_keys _
  plan-turned (Show h u a t p z o at size) e k = same_keys _

-- the counts of the keys are the counts that stand there
few_keys : (k : Own) (cache : List ℕ) → cache_form k cache ≡ true → length (keys_of (held_of k cache)) ≤ 65535
few_keys k cache e =
    let f = true_form k cache e in
    omega (arith, length-map (held_of k cache) key_of, form-room k cache (held_of k cache) f, f.places.most)

counted_there : (k : Own) (m : Memory) → cache_form k m.cache ≡ true → Counted k m → (b : ℕ) → b < 256 → count_at b m.firsts ≡ count b (keys_held k m)
counted_there k m e c b byte = ap (count_at b) c ∙ count-there b byte (keys_held k m) (few_keys k m.cache e)

pub receive_touched : (m : Memory) (l : Receive) → Counted (own_keys l.own) m → (receive_call m l).answer.number ≡ 0
    → Touched (own_keys l.own) m (receive_call m l).memory
unfolding receive_call
receive_touched m l c z =
    let k = own_keys l.own in
    let t = plan-turned m l (receive_plan m l) refl (known m l) in
    let were = counted_there k m (receive-ready m l z).cached c in
    let are = counted_there k (receive_call m l).memory (receive_form m l z).0 (receive-counted m l z) in
    record {
      came = t.came;
      went = t.went;
      few = t.few;
      are-new = t.are-new;
      are-gone = t.are-gone;
      counts = λ b byte. omega (arith, t.counts b, were b byte, are b byte);
    }

-- ---- cache and counts as they were

pub same_touched : (k : Own) (m left : Memory) → left.cache ≡ m.cache → left.firsts ≡ m.firsts → Touched k m left
same_touched k m left e f =
    record {
      came = [];
      went = [];
      few = (omega arith, omega arith);
      are-new = λ j. (λ i. absurd i, λ w. w.1 (subst (λ (cache : List ℕ). j ∈ keys_of (held_of k cache)) e w.0));
      are-gone = λ j. (λ i. absurd i, λ w. w.1 (subst (λ (cache : List ℕ). j ∈ keys_of (held_of k cache)) (sym e) w.0));
      counts = λ b byte. ap (λ (s : List ℕ). count_at b s + count b []) f;
    }
