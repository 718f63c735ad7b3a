-- `counted::remove` meets its contract: a key that leaves is one less for its byte. Assumes nothing.
use mathlib.Core.Path.{◌≡◌, sym, ap, subst, ◌∙◌}
use mathlib.Core.Bool.{true}
use mathlib.Core.List.{List}
use Prim.Native.Nat.{ℕ, ◌-◌, ◌≤◌, ◌<◌}
use native.Mathlib.Omega.{arith}
use lib.ListN.{length, get_or, length-map}
use borrow.Author.Tests.{not-true, not-false}
use Rattle.octet.specs.Number.{Digits}
use Rattle.key.specs.Number.{key_at}
use Rattle.record.specs.Record.{key_of}
use Rattle.own.specs.Own.{own_keys}
use Rattle.table.specs.Rows.{rows}
use Rattle.table.proofs.RowLaws.{rows-length}
use Rattle.kept.specs.Keys.{without}
use Rattle.cache.specs.Form.{keys_of}
use Rattle.cache.specs.Change.{Changes}
use Rattle.cache.proofs.FormLaws.{form_laid}
use Rattle.firsts.specs.Firsts.{firsts_of}
use Rattle.firsts.specs.Places.{count_at, with_count}
use Rattle.firsts.proofs.ByteLaws.{key-begins}
use Rattle.firsts.proofs.CountLaws.{OneMore, less-without}
use Rattle.firsts.proofs.FirstsLaws.{firsts_length, counted-down, some-there}
use Rattle.counted.proofs.ChangeLaws.{removed_keys, told-left, told-kept}
use Rattle.counted.proofs.remove.Goals.{After-remove-change, Start}
use Rattle.counted.proofs.remove.Goals as goal

abbrev start : After-remove-change → Start
start c = (goal.at.After-remove-change c).Start

-- the keys held, the key to be removed, and the byte that it begins with
abbrev keys : Start → List ℕ
keys s = keys_of (rows 100 s.args.used s.args.cache.now)

abbrev gone : Start → ℕ
gone s = key_at 0 s.args.key.now

few : (s : Start) → length (keys s) ≤ 65535
few s =
    let a = s.args in
    omega (
      arith,
      length-map (rows 100 a.used a.cache.now) key_of,
      rows-length 100 a.used a.cache.now,
      (form_laid (own_keys a.own.now) a.used a.cache.now s.requires.form).room,
      s.requires.form.places.most,
    )

bytes : (c : After-remove-change) → Digits 256 (start c).args.key.now
bytes c i = omega (arith, c.type_inv.key i)

-- the byte that the key begins with
abbrev byte : After-remove-change → ℕ
byte c = get_or (start c).args.key.now 0 0

-- it left
less : (c : After-remove-change) → c.remove-change.result.left ≡ true → OneMore (byte c) (without (gone (start c)) (keys (start c))) (keys (start c))
less c left =
    let s = start c in
    let e = ap (λ (x : Changes). x.left) (sym c.remove-change.ensures.result_value) ∙ left in
    less-without (gone s) (byte c) (key-begins 0 s.args.key.now (bytes c) s.requires.in_bounds) 0 (keys s) s.requires.form.held.rising
    (told-left (gone s) (rows 100 s.args.used s.args.cache.now) e)

pub returns-then-not-change : goal.returns-then-not-change
returns-then-not-change c =
    let done = (goal.at.returns-then-not-change c).After-remove-change in
    let s = start done in
    let e = ap (λ (x : Changes). x.left) (sym done.remove-change.ensures.result_value) ∙ not-true _ c.if-not-change.true in record { cache_after = done.remove-change.ensures.cache_after; firsts_after = s.requires.firsts_value ∙ sym (ap firsts_of (told-kept (gone s) (rows 100 s.args.used s.args.cache.now) e)) }

pub count_down-requires : goal.count_down-requires
count_down-requires c =
    let done = (goal.at.count_down-requires c).After-remove-change in
    let s = start done in (
      ap length s.requires.firsts_value ∙ firsts_length (keys s),
      subst (λ (f : List ℕ). 0 < count_at (byte done) f) (sym s.requires.firsts_value)
          (some-there (byte done) (bytes done 0) _ (keys s) (less done (not-false _ c.if-not-change.false)) (few s)),
    )

pub returns : goal.returns
returns c =
    let done = (goal.at.returns c).After-remove-change in
    let s = start done in record {
      cache_after = done.remove-change.ensures.cache_after;
      firsts_after = c.count_down.ensures ∙ ap (λ (f : List ℕ). with_count (byte done) (count_at (byte done) f - 1) f) s.requires.firsts_value
          ∙ counted-down (byte done) (bytes done 0) _ (keys s) (less done (not-false _ c.if-not-change.false)) (few s)
          ∙ sym (ap firsts_of (removed_keys (gone s) (rows 100 s.args.used s.args.cache.now)));
    }
