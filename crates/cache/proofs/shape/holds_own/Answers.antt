use mathlib.Core.Path.{◌≡◌, refl, sym, ap, ◌∙◌}
use mathlib.Core.List.{List}
use Prim.Native.Nat.{ℕ, ◌*◌, ◌/◌}
use native.Mathlib.Omega.{arith}
use lib.ListN.{length, length-take, length-drop}
use Rattle.std.specs.Prelude.{is_ok}
use Rattle.key.specs.Number.{key_at}
use Rattle.table.specs.Rows.{rows}
use Rattle.table.proofs.PieceLaws.{part_lent}
use Rattle.kept.specs.Keys.{has}
use Rattle.kept.specs.Turned.{count_under}
use Rattle.search.specs.declared.Sought.{Sought}
use Rattle.search.proofs.SeekLaws.{is_ok-stands}
use Rattle.cache.specs.Form.{keys_of}
use Rattle.cache.proofs.FormLaws.{key_of-row}
use Rattle.cache.proofs.OrderedLaws.{any_here, any-on, any_end}
use Rattle.cache.proofs.shape.holds_own.Goals.{After-find_key-sought, At-loop-i}
use Rattle.cache.proofs.shape.holds_own.Goals as goal

pub loop-i-init : goal.loop-i-init
loop-i-init c = (omega arith, refl)

pub find_key-sought-requires : goal.find_key-sought-requires
find_key-sought-requires c =
    let s = c in
    record { used_in_bounds = s.requires.used_in_bounds; in_bounds = simp (length-take, length-drop) (omega arith); rising = s.requires.rising }

-- what the search for our key of place i told
module _ (c : After-find_key-sought) where
  abbrev loop : At-loop-i
  loop = (goal.at.After-find_key-sought c).At-loop-i

  abbrev own : List ℕ
  own = loop.args.own.now

  abbrev keys : List ℕ
  keys = let a = loop.args in keys_of (rows 100 a.used a.cache.now)

  told : has (key_at (100 * loop.loop-i.i) own) keys ≡ is_ok c.find_key-sought.result.found
  told =
      sym (ap (λ (q : Sought). is_ok q.found) c.find_key-sought.ensures ∙ is_ok-stands (has _ keys) (count_under _ keys)
      ∙ ap (λ (l : List ℕ). has (key_at 0 l) keys) (part_lent (100 * loop.loop-i.i) 100 own) ∙ ap (λ (k : ℕ). has k keys) (key_of-row (100 * loop.loop-i.i) own))

pub returns-then-is_ok : goal.returns-then-is_ok
returns-then-is_ok c =
    let f = (goal.at.returns-then-is_ok c).After-find_key-sought in
    let l = (loop f).loop-i in
    sym (l.invariant.1 ∙ any_here (length (own f) / 100) (own f) l.i (keys f) (omega arith) (told f ∙ sym c.is_ok.ensures.value ∙ c.if-is_ok.true))

pub loop-i-preserved : goal.loop-i-preserved
loop-i-preserved c =
    let f = (goal.at.loop-i-preserved c).After-find_key-sought in
    let l = (loop f).loop-i in
    (omega arith, l.invariant.1 ∙ any-on (length (own f) / 100) (own f) l.i (keys f) (omega arith) (told f ∙ sym c.is_ok.ensures.value ∙ c.if-is_ok.false))

pub returns : goal.returns
returns c =
    let l = c in
    let a = l.args in
    sym (l.loop-i.invariant.1
    ∙ any_end (length a.own.now / 100) a.own.now l.loop-i.i (keys_of (rows 100 a.used a.cache.now)) (omega arith))
