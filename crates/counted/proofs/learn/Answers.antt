-- `counted::learn` meets its contract: a key that joins is one more for its byte, then one that leaves is one less for its own. Assumes nothing.
use mathlib.Core.Path.{◌≡◌, sym, ap, subst, ◌∙◌}
use mathlib.Core.Bool.{true}
use mathlib.Core.List.{List}
use Prim.Native.Nat.{ℕ, ◌+◌, ◌-◌, ◌≤◌, ◌<◌, zero-le}
use native.Mathlib.Omega.{arith}
use lib.ListN.{length, get_or, length-map}
use borrow.Author.Tests.{not-true, not-false}
use Rattle.octet.specs.Number.{Digits}
use Rattle.key.specs.Number.{number}
use Rattle.record.specs.Record.{key_of}
use Rattle.record.proofs.EntryLaws.{form_length}
use Rattle.own.specs.Own.{own_keys}
use Rattle.own.proofs.FormLaws.{own_some}
use Rattle.table.specs.Rows.{rows}
use Rattle.table.proofs.RowLaws.{rows-length}
use Rattle.kept.specs.Keys.{plain, put, without}
use Rattle.kept.proofs.ListLaws.{length-put, rising-put}
use Rattle.cache.specs.Form.{keys_of}
use Rattle.cache.specs.Bytes.{after_learn}
use Rattle.cache.specs.Change.{changes_of}
use Rattle.cache.proofs.FormLaws.{form_laid}
use Rattle.firsts.specs.Firsts.{firsts_of}
use Rattle.firsts.specs.Places.{count_at, with_count}
use Rattle.firsts.proofs.ByteLaws.{key-begins}
use Rattle.firsts.proofs.CountLaws.{OneMore, more-put, less-without}
use Rattle.firsts.proofs.FirstsLaws.{firsts_length, row_room, counted-up, counted-down, some-there}
use Rattle.counted.proofs.ChangeLaws.{Learnt, learnt, told-stays, told-joins, told-alone, told-trades}
use Rattle.counted.proofs.learn.Goals.{After-count_up, After-first_byte, After-learn-change, Start}
use Rattle.counted.proofs.learn.Goals as goal

abbrev start : After-learn-change → Start
start c = (goal.at.After-learn-change c).Start

-- the keys held, with the newcomer, and after all
abbrev keys : Start → List ℕ
keys s = keys_of (rows 100 s.args.used s.args.cache.now)

abbrev newcomer : Start → ℕ
newcomer s = key_of s.args.«record».now

abbrev more : Start → List ℕ
more s = put plain (newcomer s) (keys s)

abbrev left : Start → List ℕ
left s =
    let a = s.args in
    keys_of (after_learn (own_keys a.own.now) (length a.cache.now) (rows 100 a.used a.cache.now) a.«record».now)

many : (s : Start) → (length (keys s) ≡ s.args.used) × (s.args.used ≤ 256)
many s =
    let a = s.args in (
      length-map (rows 100 a.used a.cache.now) key_of ∙ rows-length 100 a.used a.cache.now,
      omega (arith, (form_laid (own_keys a.own.now) a.used a.cache.now s.requires.form).room, s.requires.form.places.most),
    )

told : (c : After-learn-change) → Learnt (keys (start c)) (newcomer (start c)) (left (start c)) (changes_of c.learn-change.result)
told c =
    let s = start c in
    let a = s.args in
    let own = own_keys a.own.now in
    let recs = rows 100 a.used a.cache.now in
    let laid = form_laid own a.used a.cache.now s.requires.form in
    subst (Learnt (keys s) (newcomer s) (left s)) (sym c.learn-change.ensures.result_value)
    (learnt own (own_some a.own.now s.requires.own_value.0) (length a.cache.now) s.requires.form.places recs s.requires.form.held
    (omega (arith, laid.room, rows-length 100 a.used a.cache.now)) a.«record».now s.requires.not_own)

-- the byte that the newcomer begins with
bytes : (c : After-learn-change) → Digits 256 (start c).args.«record».now
bytes c i = omega (arith, c.type_inv.record i)

abbrev byte : After-learn-change → ℕ
byte c = get_or (start c).args.«record».now 0 0

-- it joins
joined : (c : After-learn-change) → c.learn-change.result.joined ≡ true → OneMore (byte c) (keys (start c)) (more (start c))
joined c j =
    let s = start c in
    let long = form_length s.args.«record».now s.requires.own_value.1 in
    more-put (newcomer s) (byte c) (key-begins 0 s.args.«record».now (bytes c) (omega (arith, long))) (keys s) (told-joins (told c) j)

abbrev learning : After-count_up → After-learn-change
learning c = (goal.at.After-count_up c).After-learn-change

does-join : (c : After-count_up) → (learning c).learn-change.result.joined ≡ true
does-join c = not-false (learning c).learn-change.result.joined c.if-not-change.false

upped : (c : After-count_up) → c.count_up.new.firsts ≡ firsts_of (more (start (learning c)))
upped c =
    let at = learning c in
    let s = start at in
    c.count_up.ensures ∙ ap (λ (f : List ℕ). with_count (byte at) (count_at (byte at) f + 1) f) s.requires.firsts_value
    ∙ counted-up (byte at) (bytes at 0) (keys s) (more s) (joined at (does-join c)) (omega (arith, many s))

-- another leaves
abbrev upping : After-first_byte → After-count_up
upping c = (goal.at.After-first_byte c).After-count_up

does-leave : (c : After-first_byte) → (learning (upping c)).learn-change.result.left ≡ true
does-leave c = not-false (learning (upping c)).learn-change.result.left c.if-not-change-2.false

abbrev gone : After-first_byte → ℕ
gone c = number (learning (upping c)).learn-change.result.gone

less : (c : After-first_byte) → OneMore c.first_byte.result (without (gone c) (more (start (learning (upping c))))) (more (start (learning (upping c))))
less c =
    let at = learning (upping c) in
    let s = start at in
    less-without (gone c) c.first_byte.result (sym c.first_byte.ensures) 0 (more s)
    (rising-put plain 0 (newcomer s) (keys s) zero-le s.requires.form.held.rising) (told-trades (told at) (does-join (upping c)) (does-leave c)).0

more-few : (s : Start) → length (more s) ≤ 65535
more-few s = omega (arith, length-put plain (newcomer s) (keys s), many s)

pub returns-then-not-change : goal.returns-then-not-change
returns-then-not-change c =
    let at = (goal.at.returns-then-not-change c).After-learn-change in
    record { cache_after = at.learn-change.ensures.cache_after; firsts_after = (start at).requires.firsts_value ∙ sym (ap firsts_of (told-stays (told at) (not-true _ c.if-not-change.true))) }

pub bounds-record-0 : goal.bounds-record-0
bounds-record-0 c =
    let s = (goal.at.bounds-record-0 c).Start in
    omega (arith, form_length s.args.«record».now s.requires.own_value.1)

pub count_up-requires : goal.count_up-requires
count_up-requires c =
    let at = (goal.at.count_up-requires c).After-learn-change in
    let s = start at in (
      ap length s.requires.firsts_value ∙ firsts_length (keys s),
      subst (λ (f : List ℕ). count_at (byte at) f < 65535) (sym s.requires.firsts_value)
          (row_room s.args.used s.args.cache.now (many s).1 (byte at) (bytes at 0)),
    )

pub returns-then-not-change-2 : goal.returns-then-not-change-2
returns-then-not-change-2 c =
    let up = (goal.at.returns-then-not-change-2 c).After-count_up in
    let at = learning up in
    record { cache_after = at.learn-change.ensures.cache_after; firsts_after = upped up ∙ sym (ap firsts_of (told-alone (told at) (does-join up) (not-true _ c.if-not-change-2.true))) }

pub count_down-requires : goal.count_down-requires
count_down-requires c =
    let up = upping c in
    let s = start (learning up) in (
      ap length (upped up) ∙ firsts_length (more s),
      subst (λ (f : List ℕ). 0 < count_at c.first_byte.result f) (sym (upped up))
          (some-there c.first_byte.result (omega arith) _ (more s) (less (goal.at.count_down-requires c).After-first_byte) (more-few s)),
    )

pub returns : goal.returns
returns c =
    let down = c in
    let first = (goal.at.returns c).After-first_byte in
    let b = first.first_byte.result in
    let up = upping first in
    let at = learning up in
    let s = start at in record {
      cache_after = at.learn-change.ensures.cache_after;
      firsts_after = down.count_down.ensures ∙ ap (λ (f : List ℕ). with_count b (count_at b f - 1) f) (upped up)
          ∙ counted-down b (omega arith) _ (more s) (less first) (more-few s)
          ∙ sym (ap firsts_of (told-trades (told at) (does-join up) (does-leave first)).1);
    }
