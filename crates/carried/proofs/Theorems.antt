-- What is proved of readings carried. Assumes nothing.
use Rattle.carried.specs.Statements.{TakenBack, CarryExactly, CarryKeeps, CarryWrites, CarryFirst, TakeExactly}
use Rattle.carried.proofs.BackLaws.{carried_back}
use Rattle.carried.proofs.ExactLaws as exact

pub taken_back : TakenBack
taken_back = carried_back

-- ---- which number is given when, and what is written

pub carry_exactly : CarryExactly
carry_exactly = exact.carry_exactly

pub carry_keeps : CarryKeeps
carry_keeps = exact.carry_keeps

pub carry_writes : CarryWrites
carry_writes = exact.carry_writes

pub carry_first : CarryFirst
carry_first = exact.carry_first

pub take_exactly : TakeExactly
take_exactly = exact.take_exactly
