-- The statements of specs/Statements.antt, proved under the same names. Assumes nothing.
use Rattle.reason.specs.Reason.{reason_of}
use Rattle.reason.specs.Statements.{OneReason, OneOther}
use Rattle.reason.proofs.ReasonLaws.{reason-first, first_one, one_other}

pub one_reason : OneReason
one_reason t cands w = (reason-first t cands w, λ b f. first_one t cands w b (reason_of t cands) f (reason-first t cands w))

pub one_other_key : OneOther
one_other_key t cands w = one_other t cands w
