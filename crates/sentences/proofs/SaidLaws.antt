-- What refuses a datagram received: memory lent (1), what was heard (7 to 14) and the room that the answer needs (15), in the clauses' words.
-- Assumes nothing.
use mathlib.Core.Path.{◌≡◌, refl, ap, subst}
use mathlib.Core.Logic.{◌⊎◌, inl, inr}
use mathlib.Core.Bool.{Bool, true, false}
use mathlib.Core.List.{List, [], ◌∷◌}
use Prim.Native.Nat.{ℕ, ◌+◌, ◌*◌, ◌≤◌, ◌<◌}
use native.Mathlib.Omega.{arith}
use lib.Dec.{ltb}
use lib.ListN.{length, length-append}
use borrow.Author.Tests.{lt-ltb, ltb-true}
use Rattle.key.specs.Number.{key_at}
use Rattle.record.specs.Record.{key_of}
use Rattle.own.specs.Own.{own_keys, IsOwn}
use Rattle.refusal.specs.Table.{Refusal, Before}
use Rattle.refusal.proofs.TableLaws.{both}
use Rattle.table.specs.Rows.{joined}
use Rattle.kept.specs.Keys.{◌∈◌}
use Rattle.kept.proofs.ListLaws.{Test, pass, fail, test}
use Rattle.cache.specs.Form.{cache_form}
use Rattle.waiting.specs.Place.{id_of, place_key}
use Rattle.waiting.specs.Form.{places_of}
use Rattle.asking.specs.Ids.{id_after}
use Rattle.gauge_plan.specs.Memory.{tables_fit, hands_fit}
use Rattle.gauge_plan.proofs.MemoryLaws.{fit-lent, lent-tables, lent-hands}
use Rattle.gauge_plan.specs.Lent.{Memory, Receive, ReceiveLent}
use Rattle.sentences.specs.Heard.{Heard, entry, revoke, inquire, authority, ack, lookup, other}
use Rattle.sentences.specs.Sentences as S
use Rattle.sentences.specs.Numbers as Num
use Rattle.sentences.proofs.OneLaws.{reply-one}
use Rattle.sentences.proofs.FirstLaws.{Row}

-- 7 to 14, by what was heard
abbrev pub Refused : Memory → Receive → Heard → ℕ → Type 0
Refused m l (entry id silent validate r) n =
    ((n ≡ 11) × IsOwn (own_keys l.own) (key_of r))
    ⊎ ((n ≡ 13) × S.MustAsk (own_keys l.own) m r × (p : List ℕ) × S.Waits m p × (id_of p ≡ id_after l.id))
    ⊎ ((n ≡ 14) × S.MustAsk (own_keys l.own) m r × (length (places_of m.waiting) ≡ 16))
Refused m l (revoke id silent validate) n = ((n ≡ 9) × (¬ (l.verdict ≡ 1))) ⊎ ((n ≡ 11) × (l.verdict ≡ 1) × IsOwn (own_keys l.own) (key_at 0 l.key))
Refused m l (inquire id validate) n = (n ≡ 12) × (¬ IsOwn (own_keys l.own) validate)
Refused m l (authority acked cpa) n =
    ((n ≡ 8) × (¬ ((p : List ℕ) × S.WaitsAs m 2 acked p)))
    ⊎ ((n ≡ 9) × ((cpa ≡ false) ⊎ (¬ (l.verdict ≡ 1))))
    ⊎ ((n ≡ 10) × (cpa ≡ true) × (l.verdict ≡ 1) × (p : List ℕ) × S.WaitsAs m 2 acked p × (¬ (place_key p ≡ key_at 0 l.key)))
Refused m l (ack acked b) n = (n ≡ 8) × (¬ ((p : List ℕ) × S.WaitsAs m 1 acked p))
Refused m l (lookup id target path e) n =
    ((n ≡ 13) × S.EntryAsks (own_keys l.own) m e × (p : List ℕ) × S.Waits m p × (id_of p ≡ id_after l.id))
    ⊎ ((n ≡ 14) × S.EntryAsks (own_keys l.own) m e × (length (places_of m.waiting) ≡ 16))
Refused m l other n = n ≡ 7

module _ (m : Memory) (l : Receive) (n : ℕ) where
  pub refused-applies : (x : Heard) → Num.Says l x → Refused m l x n → Num.ReceiveApplies m l n
  refused-applies (entry id silent validate r) says (inl w) = Num.own-entry w.0 id silent validate r says w.1
  refused-applies (entry id silent validate r) says (inr (inl w)) = Num.id-waits w.0 id silent validate r says w.1 w.2 w.3 w.4
  refused-applies (entry id silent validate r) says (inr (inr w)) = Num.all-used w.0 id silent validate r says w.1 w.2
  refused-applies (revoke id silent validate) says (inl w) = Num.bad-revocation w.0 id silent validate says w.1
  refused-applies (revoke id silent validate) says (inr w) = Num.own-revocation w.0 id silent validate says w.1 w.2
  refused-applies (inquire id validate) says w = Num.not_ours w.0 id validate says w.1
  refused-applies (authority acked cpa) says (inl w) = Num.no-inquiry w.0 acked cpa says w.1
  refused-applies (authority acked cpa) says (inr (inl (e, inl c))) = Num.no_cpa e acked (subst (λ (b : Bool). Num.Says l (authority acked b)) c says)
  refused-applies (authority acked cpa) says (inr (inl (e, inr h))) = Num.bad-authority e acked cpa says h
  refused-applies (authority acked cpa) says (inr (inr w)) =
      Num.other_key w.0 acked (subst (λ (b : Bool). Num.Says l (authority acked b)) w.1 says) w.2 w.3 w.4 w.5
  refused-applies (ack acked b) says w = Num.no-flood w.0 acked b says w.1
  refused-applies (lookup id target path e) says (inl w) = Num.lookup-id-waits w.0 id target path e says w.1 w.2 w.3 w.4
  refused-applies (lookup id target path e) says (inr w) = Num.lookup-all-used w.0 id target path e says w.1 w.2
  refused-applies other says w = Num.not_taken w says

-- a datagram is no longer than all of them
joined_in : (d : List ℕ) (ds : List (List ℕ)) → d ∈ ds → length d ≤ length (joined ds)
unfolding joined
joined_in d [] i = absurd i
joined_in d (x ∷ ds) (inl e) = let z = ap length e in omega (arith, length-append x (joined ds))
joined_in d (x ∷ ds) (inr i) = let z = joined_in d ds i in omega (arith, length-append x (joined ds))

-- room that is wanted, where that is no more than a datagram may have
pub no_room_by : (output : List ℕ) (ds : List (List ℕ)) → length (joined ds) ≤ 1232 → Num.NoRoom output ds → length output < length (joined ds)
no_room_by output ds h (inl w) = w
no_room_by output ds h (inr w) = absurd (omega (arith, joined_in w.0 ds w.1, w.2))

module _ (m : Memory) (l : Receive) where
  -- the clauses of the call
  abbrev pub Clause : ℕ → Type 0
  Clause n = Num.ReceiveApplies m l n

  -- ---- 1

  pub is-lent : ¬ Clause 1 → ReceiveLent m l
  is-lent h = go (test (tables_fit l.own m)) (test (hands_fit m l))
    where
      go : Test (tables_fit l.own m) → Test (hands_fit m l) → ReceiveLent m l
      go (pass e) (pass d) = fit-lent m l e d
      go (fail e) d = absurd (h (Num.out-of-form refl (λ w. both (lent-tables m l w) e)))
      go (pass e) (fail d) = absurd (h (Num.out-of-form refl (λ w. both (lent-hands m l w) d)))

  -- ---- 15

  abbrev Short : Heard → ℕ → Type 0
  Short x n = (n ≡ 15) × (ds : List (List ℕ)) × S.Reply m l x ds × Num.NoRoom l.output ds

  abbrev pub Said : Heard → ℕ → Type 0
  Said x n = Refused m l x n ⊎ Short x n

  pub short-to : (x : Heard) (ds : List (List ℕ)) (n need : ℕ) → S.Reply m l x ds → length (joined ds) ≡ need
      → (n ≡ 15) × (ltb (length l.output) need ≡ true) → Short x n
  short-to x ds n need r e w = (w.0, ds, r, inl (let h = ltb-true (length l.output) need w.1 in omega arith))

  pub short-from : (x : Heard) (ds : List (List ℕ)) (n need : ℕ) → ReceiveLent m l → S.Reply m l x ds
      → length (joined ds) ≡ need → need ≤ 1232 → Short x n → (n ≡ 15) × (ltb (length l.output) need ≡ true)
  short-from x ds n need g r e few w =
      let h = no_room_by l.output ds (omega arith) (subst (Num.NoRoom l.output) (reply-one m l g.own g.cache x w.1 ds w.2 r) w.3) in
      (w.0, lt-ltb (length l.output) need (omega arith))

  -- nothing is sent: no room is needed
  pub none-short : (ds : List (List ℕ)) → ds ≡ [] → ¬ Num.NoRoom l.output ds
  unfolding joined
  none-short ds e h = absurd (go (subst (Num.NoRoom l.output) e h))
    where
      go : Num.NoRoom l.output [] → ⊥
      go (inl w) = absurd (omega arith)
      go (inr w) = w.1

  -- ---- the clauses by what was heard and the rows of a message's table, where no clause before them applies

  abbrev pub First : ℕ → Type 0
  First n = (i : ℕ) → Before i n → ¬ Clause i

  abbrev pub Both : ℕ → Heard → List Refusal → Type 0
  Both n x rs = (Said x n → Row n rs) × (Row n rs → Said x n)

  pub good : (n : ℕ) → First n → Before 1 n → ReceiveLent m l
  good n low h = is-lent (low 1 h)
