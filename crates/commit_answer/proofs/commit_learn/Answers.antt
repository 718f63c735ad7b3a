-- `commit_learn` meets its contract: what is lent of the table is the place's record; then the place is freed. Assumes nothing.
use native.Mathlib.Omega.{arith}
use mathlib.Core.Path.{ap, subst, ◌∙◌}
use mathlib.Core.List.{List}
use lib.ListN.{length}
use Prim.Native.Nat.{ℕ}
use Rattle.record.specs.Record.{key_of, record_form}
use Rattle.own.specs.Own.{own_keys, IsOwn}
use Rattle.table.specs.Rows.{rows, bytes_of}
use Rattle.cache.specs.Form.{keys_of}
use Rattle.cache.specs.Bytes.{after_learn}
use Rattle.firsts.specs.Firsts.{firsts_of}
use Rattle.gauge_commit.proofs.PlaceLaws.{record-lent, record-place, record_key}
use borrow.Author.Rules.{rules}
use Rattle.commit_answer.proofs.commit_learn.Goals as goal

pub learn-requires : goal.learn-requires
learn-requires c =
    let s = c in
    let a = s.args in
    let p = s.requires in
    let lent = record-lent a.used a.waiting.now a.at in record { own_value = (p.0, ap record_form lent ∙ p.6); form = p.1; not_own = λ o. p.7 (subst (IsOwn (own_keys a.own.now)) (ap key_of lent ∙ record_key a.used a.waiting.now a.at) o); firsts_value = p.8 }

pub returns : goal.returns
returns c =
    let at-learn = c in
    let s = c in
    let a = s.args in
    let m = a.cache.now in
    let e = record-lent a.used a.waiting.now a.at ∙ record-place a.used a.waiting.now a.at s.requires.5 in record {
      cache_after = at-learn.learn.ensures.cache_after
          ∙ ap (λ (r : List ℕ). bytes_of (length m) (after_learn (own_keys a.own.now) (length m) (rows 100 a.held m) r)) e;
      firsts_after = at-learn.learn.ensures.firsts_after
          ∙ ap (λ (r : List ℕ). firsts_of (keys_of (after_learn (own_keys a.own.now) (length m) (rows 100 a.held m) r))) e;
      waiting_after = c.free.ensures;
    }
