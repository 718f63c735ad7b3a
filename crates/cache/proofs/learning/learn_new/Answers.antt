-- `cache::learning::learn_new` meets its contract: with room the record is inserted; else the place that goes is before it, after it, or its own.
-- Assumes nothing.
use mathlib.Core.Path.{◌≡◌, sym, ap, ◌∙◌, subst}
use mathlib.Core.Bool.{true, false}
use Prim.Native.Nat.{ℕ, ◌≤◌}
use lib.ListN.{length}
use Rattle.own.specs.Own.{own_keys, first_own}
use Rattle.own.proofs.FormLaws.{own_formed, keys_many}
use Rattle.own.proofs.PlaceLaws.{first_key}
use Rattle.table.specs.Rows.{rows, bytes_of, insert_at, Laid}
use Rattle.table.proofs.RowLaws.{laid-bytes}
use Rattle.record.proofs.EntryLaws.{form_length}
use Rattle.going.specs.Going.{Goes}
use Rattle.cache.specs.Form.{keys_of}
use Rattle.cache.specs.Change.{changes}
use Rattle.cache.proofs.FormLaws.{form_laid}
use Rattle.cache.proofs.LearnLaws.{
  place-most,
  more-rises,
  more-others,
  goes-most,
  new-room,
  new-before,
  new-after,
  new-goes,
  told-room,
  told-before,
  told-after,
  told-goes,
}
use native.Mathlib.Omega.{arith}
use Rattle.cache.proofs.learning.learn_new.Goals.{After-who_goes-goes, Start}
use Rattle.cache.proofs.learning.learn_new.Goals as goal

laid : (s : Start) → Laid 100 s.args.used s.args.cache.now
laid s = form_laid (own_keys s.args.own.now) s.args.used s.args.cache.now s.requires.form

long : (s : Start) → length s.args.«record».now ≡ 100
long s = form_length s.args.«record».now s.requires.own_value.1

-- the newcomer's place, and the one that goes
most : (s : Start) → s.args.at ≤ s.args.used
most s = let a = s.args in place-most (own_keys a.own.now) a.used a.at a.cache.now a.«record».now s.requires.form s.requires.cache_value

abbrev start : After-who_goes-goes → Start
start c = (goal.at.After-who_goes-goes c).Start

-- the place that goes, by the first of our keys
goes : (c : After-who_goes-goes) → (let a = (start c).args in Goes (first_own (own_keys a.own.now)) (own_keys a.own.now)
    (keys_of (insert_at a.at a.«record».now (rows 100 a.used a.cache.now))) c.who_goes-goes.result)
goes c =
    let s = start c in
    let a = s.args in
    subst (λ (k : ℕ). Goes k (own_keys a.own.now) (keys_of (insert_at a.at a.«record».now (rows 100 a.used a.cache.now))) c.who_goes-goes.result)
    (sym (first_key a.own.now (own_formed a.own.now s.requires.own_value.0).least)) c.who_goes-goes.ensures

gone-most : (c : After-who_goes-goes) → c.who_goes-goes.result ≤ (start c).args.used
gone-most c =
    let s = start c in
    let a = s.args in
    goes-most (own_keys a.own.now) a.used a.at a.cache.now a.«record».now s.requires.form s.requires.cache_value
    s.requires.not_own c.if-used-cache.false c.who_goes-goes.result (goes c)

pub overflow_mul-used : goal.overflow_mul-used
overflow_mul-used c = omega (arith, (laid (goal.at.overflow_mul-used c).Start).room)

pub insert_row-requires : goal.insert_row-requires
insert_row-requires c =
    let s = (goal.at.insert_row-requires c).Start in
    (most s, long s, omega (arith, c.if-used-cache.true, s.requires.form.places.whole), laid s)

pub returns-then-used-cache : goal.returns-then-used-cache
returns-then-used-cache c =
    let a = c.args in record {
      cache_after = c.insert_row.ensures
          ∙ ap (bytes_of (length a.cache.now))
          (new-room (own_keys a.own.now) a.used a.at a.cache.now a.«record».now c.requires.form c.requires.cache_value c.if-used-cache.true);
      result_value = ap (changes true false) c.no_key.ensures
          ∙ told-room (own_keys a.own.now) a.used a.at a.cache.now a.«record».now c.requires.form c.requires.cache_value c.if-used-cache.true;
    }

pub who_goes-goes-requires : goal.who_goes-goes-requires
who_goes-goes-requires c =
    let s = (goal.at.who_goes-goes-requires c).Start in
    let a = s.args in
    let f = own_formed a.own.now s.requires.own_value.0 in
    let keys = keys_many a.own.now in
    let full = c.if-used-cache.false in record {
      own_len = (omega (arith, f.many), omega (arith, f.many, f.least), omega (arith, f.many, f.most));
      used_in_bounds = (
        (laid s).room,
        omega (arith, (laid s).room, s.requires.form.places.most),
        omega (arith, full, keys, f.many, s.requires.form.places.enough),
        most s,
        omega (arith, long s),
      );
      rising = s.requires.form.held.rising;
      rising_2 = more-rises (own_keys a.own.now) a.used a.at a.cache.now a.«record».now s.requires.form s.requires.cache_value s.requires.not_own;
      every = more-others (own_keys a.own.now) a.used a.at a.cache.now a.«record».now s.requires.form s.requires.cache_value s.requires.not_own;
    }

pub overflow_mul-goes : goal.overflow_mul-goes
overflow_mul-goes c =
    let s = (goal.at.overflow_mul-goes c).Start in
    omega (arith, most s, (laid s).room, c.if-goes-at.true)

pub key_at-gone-requires : goal.key_at-gone-requires
key_at-gone-requires c =
    let s = (goal.at.key_at-gone-requires c).Start in
    omega (arith, most s, (laid s).room, c.if-goes-at.true)

pub exchange_up-requires : goal.exchange_up-requires
exchange_up-requires c =
    let w = (goal.at.exchange_up-requires c).After-who_goes-goes in
    let s = start w in
    let h = c.if-goes-at.true in
    let p = most s in
    (omega (arith, p, h), omega (arith, p, h), long s, omega (arith, (laid s).room, w.if-used-cache.false))

pub returns-then-goes-at : goal.returns-then-goes-at
returns-then-goes-at c =
    let w = (goal.at.returns-then-goes-at c).After-who_goes-goes in
    let s = start w in
    let a = s.args in record {
      cache_after = c.exchange_up.ensures
          ∙ ap (bytes_of (length a.cache.now))
          (new-before (own_keys a.own.now) a.used a.at a.cache.now a.«record».now s.requires.form s.requires.cache_value s.requires.not_own
          w.if-used-cache.false w.who_goes-goes.result (goes w) c.if-goes-at.true);
      result_value = ap (changes true true) c.key_at-gone.ensures
          ∙ told-before (own_keys a.own.now) a.used a.at a.cache.now a.«record».now s.requires.form s.requires.cache_value s.requires.not_own
          w.if-used-cache.false w.who_goes-goes.result (goes w) c.if-goes-at.true;
    }

pub overflow_mul-goes-then-at-goes : goal.overflow_mul-goes-then-at-goes
overflow_mul-goes-then-at-goes c =
    let w = (goal.at.overflow_mul-goes-then-at-goes c).After-who_goes-goes in
    let s = start w in
    omega (arith, gone-most w, (laid s).room, c.if-at-goes.true)

pub key_at-gone-requires-then-at-goes : goal.key_at-gone-requires-then-at-goes
key_at-gone-requires-then-at-goes c =
    let w = (goal.at.key_at-gone-requires-then-at-goes c).After-who_goes-goes in
    let s = start w in
    omega (arith, gone-most w, (laid s).room, c.if-at-goes.true)

pub exchange_down-requires : goal.exchange_down-requires
exchange_down-requires c =
    let w = (goal.at.exchange_down-requires c).After-who_goes-goes in
    let s = start w in
    let h = c.if-at-goes.true in
    let g = gone-most w in
    (omega (arith, g, h), omega (arith, g, h), long s, omega (arith, (laid s).room, w.if-used-cache.false))

pub returns-then-at-goes : goal.returns-then-at-goes
returns-then-at-goes c =
    let w = (goal.at.returns-then-at-goes c).After-who_goes-goes in
    let s = start w in
    let a = s.args in record {
      cache_after = c.exchange_down.ensures
          ∙ ap (bytes_of (length a.cache.now))
          (new-after (own_keys a.own.now) a.used a.at a.cache.now a.«record».now s.requires.form s.requires.cache_value s.requires.not_own
          w.if-used-cache.false w.who_goes-goes.result (goes w) c.if-at-goes.true);
      result_value = ap (changes true true) c.key_at-gone-then-at-goes.ensures
          ∙ told-after (own_keys a.own.now) a.used a.at a.cache.now a.«record».now s.requires.form s.requires.cache_value s.requires.not_own
          w.if-used-cache.false w.who_goes-goes.result (goes w) c.if-at-goes.true;
    }

pub returns : goal.returns
returns c =
    let w = (goal.at.returns c).After-who_goes-goes in
    let s = start w in
    let a = s.args in
    let e : a.at ≡ w.who_goes-goes.result = omega (arith, c.if-at-goes.false, c.if-goes-at.false) in record {
      cache_after = laid-bytes 100 a.used a.cache.now (laid s)
          ∙ ap (bytes_of (length a.cache.now))
          (new-goes (own_keys a.own.now) a.used a.at a.cache.now a.«record».now s.requires.form s.requires.cache_value s.requires.not_own
          w.if-used-cache.false w.who_goes-goes.result (goes w) e);
      result_value = c.unmoved.ensures
          ∙ told-goes (own_keys a.own.now) a.used a.at a.cache.now a.«record».now s.requires.form s.requires.cache_value s.requires.not_own
          w.if-used-cache.false w.who_goes-goes.result (goes w) e;
    }
