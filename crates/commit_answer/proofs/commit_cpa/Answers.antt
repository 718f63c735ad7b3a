-- `commit_cpa` meets its contract: the AUTHORITY fits, with the CPA of the place. Assumes nothing.
use native.Mathlib.Omega.{arith}
use Prim.Native.Nat.{ℕ, ◌+◌, ◌≤◌}
use mathlib.Core.Path.{◌≡◌, ap, ◌∙◌}
use mathlib.Core.List.{List, [], ◌∷◌}
use lib.ListN.{length}
use Rattle.cpas.specs.Cpas.{cpa_of}
use Rattle.cpas.proofs.CpaLaws.{cpa_length}
use Rattle.wire_write.specs.Making.{cpa_made}
use Rattle.gauge_commit.specs.Sending.{answer, lengths, sending}
use Rattle.gauge_commit.proofs.SentLaws.{cpa-told, cpa-few, cpa-sent}
use borrow.Author.Rules.{rules}
use Rattle.commit_answer.proofs.commit_cpa.Goals.{After-cpa_at-cpa, Start}
use Rattle.commit_answer.proofs.commit_cpa.Goals as goal

-- the CPA found, and that it fits
module _ (c : After-cpa_at-cpa) where
  abbrev s : Start
  s = (goal.at.After-cpa_at-cpa c).Start

  abbrev cpa : List ℕ
  cpa = c.cpa_at-cpa.result.now

  few : length cpa ≤ 1024
  few =
      let p = s.requires.by_index in
      omega (arith, ap length c.cpa_at-cpa.ensures, (cpa_length p.0 s.args.at s.args.cpas.now p.1 p.2).1)

  fits_in : 40 + length cpa ≤ length s.args.output.now
  fits_in = omega (arith, ap length c.cpa_at-cpa.ensures, s.requires.cpas_in_bounds)

pub cpa_at-cpa-requires : goal.cpa_at-cpa-requires
cpa_at-cpa-requires c = c.requires.by_index

pub write_cpa-wrote-requires : goal.write_cpa-wrote-requires
write_cpa-wrote-requires c = let k = (goal.at.write_cpa-wrote-requires c).After-cpa_at-cpa in let f = few k in let r = fits_in k in search rules

pub answer_of-requires : goal.answer_of-requires
answer_of-requires c =
    let w = c in
    let f = (goal.at.answer_of-requires c).After-cpa_at-cpa in
    let a = (s f).args in
    (cpa-few a.head.major a.head.minor a.head.id a.acked (cpa f) (few f) (fits_in f) w.write_cpa-wrote.ensures, omega arith)

pub returns : goal.returns
returns c =
    let w = c in
    let f = (goal.at.returns c).After-cpa_at-cpa in
    let a = (s f).args in
    let made : List ℕ → List (List ℕ) = λ (b : List ℕ). (cpa_made a.head.major a.head.minor a.head.id a.acked b).bytes ∷ [] in record {
      value = c.answer_of.ensures
          ∙ ap (λ (l : ℕ). answer 0 l 0) (cpa-told a.head.major a.head.minor a.head.id a.acked (cpa f) (few f) (fits_in f) w.write_cpa-wrote.ensures)
          ∙ ap (λ (b : List ℕ). lengths (made b)) f.cpa_at-cpa.ensures;
      output_after = cpa-sent a.head.major a.head.minor a.head.id a.acked (cpa f) (few f) (fits_in f) w.write_cpa-wrote.ensures
          ∙ ap (λ (b : List ℕ). sending (made b) a.output.now) f.cpa_at-cpa.ensures;
    }
