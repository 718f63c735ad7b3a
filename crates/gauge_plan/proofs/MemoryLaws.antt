-- Laws of lent memory: what the tests of own record, cache and waiting table make of it, and what is known of memory in form.
-- Assumes nothing.
use mathlib.Core.Path.{◌≡◌, refl, sym, ap, ◌∙◌}
use mathlib.Core.Bool.{Bool, true, false, ◌&&◌, cond}
use mathlib.Core.List.{List}
use Prim.Native.Nat.{ℕ, ◌*◌, ◌≤◌}
use lib.ListN.{length}
use borrow.Author.Tests.{eq-eqb, eqb-true}
use Rattle.octet.specs.Part.{same}
use Rattle.octet.proofs.TestLaws.{both_true, same_refl, same-eq}
use Rattle.own.specs.Own.{Own, own_form, own_keys, own_records}
use Rattle.table.specs.Rows.{rows, Laid}
use Rattle.cache.specs.Form.{Form, keys_of, cache_form, held_in, held_of}
use Rattle.cache.specs.Place as cached
use Rattle.std.specs.Prelude.{Option, Some, None}
use Rattle.cache.proofs.ShapeLaws as shape
use Rattle.cache.proofs.FormLaws.{true_form, form_laid}
use Rattle.firsts.specs.Firsts.{firsts_of}
use Rattle.waiting.specs.Form.{waiting_form, used_of}
use Rattle.cpas.specs.Cpas.{cpas_form}
use Rattle.waiting_form.specs.Formed as waited
use Rattle.waiting.proofs.FormLaws as waits
use Rattle.waiting_form.proofs.FormedLaws as tested
use Rattle.gauge_plan.specs.Lent.{Memory, with_firsts, with_tables, Counted, InForm, Receive, hearing, Tick, ReceiveLent, TickLent}
use Rattle.gauge_plan.specs.Memory.{tables_fit, fitness, memory_of, comes_fit, counts_fit, hands_fit, tick_fit}
use Rattle.gauge_plan.specs.declared.memory.Fit.{Fit}

-- ---- what the tests make of it

module _ (own : List ℕ) (m : Memory) where
  pub no_record : own_form own ≡ false → memory_of own m ≡ None
  unfolding memory_of tables_fit
  no_record e = rw e refl

  module _ (well : own_form own ≡ true) where
    pub no-cache : cached.cache_formed (own_keys own) m.cache ≡ None → memory_of own m ≡ None
    unfolding memory_of tables_fit
    no-cache e = rw (well, shape.bad-is (own_keys own) m.cache e) refl

    module _ {h : ℕ} (held : cached.cache_formed (own_keys own) m.cache ≡ Some h) where
      pub no_table : waited.waiting_formed (own_keys own) m.waiting ≡ None → memory_of own m ≡ None
      unfolding memory_of tables_fit
      no_table e = rw (well, (shape.good-is (own_keys own) m.cache held).0, tested.bad_form (own_keys own) m.waiting e) refl

      pub all_fit : {u : ℕ} → waited.waiting_formed (own_keys own) m.waiting ≡ Some u → memory_of own m ≡ fitness h u
      unfolding memory_of tables_fit
      all_fit e =
          let a = shape.good-is (own_keys own) m.cache held in
          let b = tested.good_form (own_keys own) m.waiting e in
          rw (well, a.0, b.0, a.1, sym b.1) refl

-- ---- what is known of it

-- memory in form, with so many records held and so many places used
pub record Ready (own : List ℕ) (m : Memory) (h u : ℕ) : Type 0 where
  pub owned : own_form own ≡ true
  pub held : h ≡ held_in (own_keys own) m.cache
  pub cached : cache_form (own_keys own) m.cache ≡ true
  pub form : Form (own_keys own) m.cache (rows 100 h m.cache)
  pub room : 100 * h ≤ length m.cache
  pub used : u ≡ used_of m.waiting
  pub few : u ≤ 16
  pub tabled : waiting_form (own_keys own) m.waiting ≡ true
  pub size : length m.waiting ≡ 2240
  pub laid : Laid 140 u m.waiting

abbrev pub KnownMemory : List ℕ → Memory → Option Fit → Type 0
KnownMemory own m None = tables_fit own m ≡ false
KnownMemory own m (Some f) = Ready own m f.held f.used

pub ready : (own : List ℕ) (m : Memory) → tables_fit own m ≡ true → Ready own m (held_in (own_keys own) m.cache) (used_of m.waiting)
unfolding tables_fit held_of
ready own m e =
    let front = both_true (own_form own && cache_form (own_keys own) m.cache) (waiting_form (own_keys own) m.waiting) e in
    let both = both_true (own_form own) (cache_form (own_keys own) m.cache) front.0 in
    let form = true_form (own_keys own) m.cache both.1 in
    record {
      owned = both.0;
      held = refl;
      cached = both.1;
      form = form;
      room = (form_laid (own_keys own) (held_in (own_keys own) m.cache) m.cache form).room;
      used = refl;
      few = waits.used_few m.waiting;
      tabled = front.1;
      size = waits.form-size (own_keys own) m.waiting front.1;
      laid = waits.form_laid (own_keys own) m.waiting front.1;
    }

known_by : (own : List ℕ) (m : Memory) (b : Bool) → tables_fit own m ≡ b
    → KnownMemory own m (cond b (fitness (held_in (own_keys own) m.cache) (used_of m.waiting)) None)
known_by own m true e = ready own m e
known_by own m false e = e

pub known_memory : (own : List ℕ) (m : Memory) → KnownMemory own m (memory_of own m)
unfolding memory_of
known_memory own m = known_by own m (tables_fit own m) refl

-- what is handed in besides
pub record Handed (own cpas nonce key : List ℕ) : Type 0 where
  pub certified : cpas_form (length (own_records own)) cpas ≡ true
  pub nonced : length nonce ≡ 16
  pub keyed : length key ≡ 32

pub known_comes : (l : Receive) → comes_fit l ≡ true → Handed l.own l.cpas l.nonce l.key
unfolding comes_fit
known_comes l e =
    let w = both_true _ _ e in
    let v = both_true _ _ w.0 in
    record {
      certified = v.0;
      nonced = eqb-true (length l.nonce) 16 v.1;
      keyed = eqb-true (length l.key) 32 w.1;
    }

pub known_hands : (m : Memory) (l : Receive) → hands_fit m l ≡ true → Handed l.own l.cpas l.nonce l.key
unfolding hands_fit
known_hands m l e = known_comes l (both_true (comes_fit l) (counts_fit l.own m) e).0

-- the counts by first byte: as they should be, and by how many records are held
pub known_counts : (m : Memory) (l : Receive) → hands_fit m l ≡ true → Counted (own_keys l.own) m
unfolding hands_fit counts_fit
known_counts m l e = same-eq m.firsts _ (both_true (comes_fit l) (counts_fit l.own m) e).1

pub counts_held : (own : List ℕ) (m : Memory) (h u : ℕ) → Ready own m h u → counts_fit own m ≡ same m.firsts (firsts_of (keys_of (rows 100 h m.cache)))
unfolding counts_fit held_of
counts_held own m h u r = ap (λ (n : ℕ). same m.firsts (firsts_of (keys_of (rows 100 n m.cache)))) (sym r.held)

pub counted_held : (own : List ℕ) (m : Memory) (h u : ℕ) → Ready own m h u → Counted (own_keys own) m → m.firsts ≡ firsts_of (keys_of (rows 100 h m.cache))
unfolding held_of
counted_held own m h u r c = c ∙ ap (λ (n : ℕ). firsts_of (keys_of (rows 100 n m.cache))) (sym r.held)

-- memory with another cache and another waiting table, both in form, and counts that are those of the cache
pub in_form_with : (own : Own) (m : Memory) (cache firsts waiting : List ℕ) → cache_form own cache ≡ true → waiting_form own waiting ≡ true
    → firsts ≡ firsts_of (keys_of (held_of own cache)) → InForm own (with_tables cache waiting (with_firsts firsts m))
in_form_with own m cache firsts waiting c w f = (c, w, f)

-- ---- the tests are what it says of memory lent as it should be

module _ (m : Memory) (l : Receive) where
  pub fit-lent : tables_fit l.own m ≡ true → hands_fit m l ≡ true → ReceiveLent m l
  fit-lent e h =
      let r = ready l.own m e in
      let w = known_hands m l h in
      record {
        own = r.owned;
        cache = r.cached;
        waiting = r.tabled;
        firsts = known_counts m l h;
        cpas = w.certified;
        nonce = w.nonced;
        key = w.keyed;
      }

  pub lent-tables : ReceiveLent m l → tables_fit l.own m ≡ true
  unfolding tables_fit
  lent-tables w = rw (w.own, w.cache, w.waiting) refl

  pub lent-comes : ReceiveLent m l → comes_fit l ≡ true
  unfolding comes_fit
  lent-comes w =
      rw (
        w.cpas,
        eq-eqb (length l.nonce) 16 w.nonce,
        eq-eqb (length l.key) 32 w.key,
      ) refl

  pub lent-counts : ReceiveLent m l → counts_fit l.own m ≡ true
  unfolding counts_fit
  lent-counts w = ap (λ (s : List ℕ). same s (firsts_of (keys_of (held_of (own_keys l.own) m.cache)))) w.firsts ∙ same_refl _

  pub lent-hands : ReceiveLent m l → hands_fit m l ≡ true
  unfolding hands_fit
  lent-hands w = rw (lent-comes w, lent-counts w) refl

-- none of it is the datagram
hands_hearing : (m : Memory) (l : Receive) (d : List ℕ) → hands_fit m (hearing d l) ≡ hands_fit m l
unfolding hands_fit comes_fit
hands_hearing m l d = refl

pub lent_hearing : (m : Memory) (l : Receive) (d : List ℕ) → ReceiveLent m l → ReceiveLent m (hearing d l)
lent_hearing m l d w = fit-lent m (hearing d l) (lent-tables m l w) (hands_hearing m l d ∙ lent-hands m l w)

pub tick_fit_lent : (m : Memory) (l : Tick) → tick_fit l.own m ≡ true → TickLent m l
unfolding tick_fit
tick_fit_lent m l e =
    let w = both_true (own_form l.own) (waiting_form (own_keys l.own) m.waiting) e in
    record { own = w.0; waiting = w.1 }

pub lent_tick_fit : (m : Memory) (l : Tick) → TickLent m l → tick_fit l.own m ≡ true
unfolding tick_fit
lent_tick_fit m l w = rw (w.own, w.waiting) refl
