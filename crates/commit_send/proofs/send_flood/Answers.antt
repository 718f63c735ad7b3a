-- `send_flood` meets its contract: the FLOOD fits, and stands at the output's start. Assumes nothing.
use native.Mathlib.Omega.{arith}
use Prim.Native.Nat.{ℕ}
use mathlib.Core.Path.{ap, ◌∙◌}
use Rattle.gauge_commit.specs.Sending.{answer}
use Rattle.gauge_commit.proofs.SentLaws.{flood-told, flood-few, flood-sent}
use borrow.Author.Rules.{rules}
use Rattle.commit_send.proofs.send_flood.Goals as goal

pub answer_of-requires : goal.answer_of-requires
answer_of-requires c =
    let w = c in
    let s = c in
    let a = s.args in
    let p = s.requires in (
      flood-few a.head.major a.head.minor a.head.id a.key.now a.s.now a.at p.0 p.1 p.2 p.3 w.write_flood-wrote.ensures,
      omega arith,
    )

pub returns : goal.returns
returns c =
    let w = c in
    let s = c in
    let a = s.args in
    let p = s.requires in record {
      value = c.answer_of.ensures
          ∙ ap (λ (l : ℕ). answer 0 l 0) (flood-told a.head.major a.head.minor a.head.id a.key.now a.s.now a.at p.0 p.1 p.2 p.3
          w.write_flood-wrote.ensures);
      output_after = flood-sent a.head.major a.head.minor a.head.id a.key.now a.s.now a.at p.0 p.1 p.2 p.3 w.write_flood-wrote.ensures;
    }
