-- `commit_free` meets its contract: what is lent of the table is the place's key; the place is freed with N and without. Assumes nothing.
use Prim.Native.Nat.{ℕ}
use mathlib.Core.Path.{refl, ap, ◌∙◌}
use lib.ListN.{length}
use Rattle.table.specs.Rows.{rows, bytes_of}
use Rattle.cache.specs.Form.{keys_of}
use Rattle.cache.specs.Bytes.{after_remove}
use Rattle.firsts.specs.Firsts.{firsts_of}
use Rattle.gauge_commit.proofs.PlaceLaws.{key-lent}
use borrow.Author.Rules.{rules}
use Rattle.commit_answer.proofs.commit_free.Goals as goal

pub returns-then-n : goal.returns-then-n
returns-then-n c =
    let at-remove = c in
    let at-if1 = c in
    let s = c in
    let a = s.args in
    let m = a.cache.now in
    let n = at-if1.if-n.true in
    let e = key-lent a.used a.waiting.now a.at s.requires.5 in record { cache_after = rw n (at-remove.remove.ensures.cache_after ∙ ap (λ (k : ℕ). bytes_of (length m) (after_remove k (rows 100 a.held m))) e); firsts_after = rw n (at-remove.remove.ensures.firsts_after ∙ ap (λ (k : ℕ). firsts_of (keys_of (after_remove k (rows 100 a.held m)))) e); waiting_after = c.free.ensures }

pub returns : goal.returns
returns c = let n = c.if-n.false in record { cache_after = rw n refl; firsts_after = rw n refl; waiting_after = c.free-2.ensures }
