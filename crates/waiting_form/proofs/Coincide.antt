-- Any two results that the contract of `waiting_form::call::tick` allows coincide. `Post` is what the function's own `ensures` says. Assumes nothing.
use mathlib.Core.Path.{◌≡◌, sym, ◌∙◌}
use contract.Lifetimes.{Lfts}
use borrow.Fn.World.{ArgsD, ResD}
use denote.Triple.Clauses.{AtExit}
use Rattle.waiting_form.specs.Call.{tick_handed}
use Rattle.waiting_form.specs.contracts.call.tick as call
use Rattle.waiting_form.proofs.call.tick.Reads as reads

pub tick_coincides : (κs : Lfts 3) (a : ArgsD call.signature κs) (r r' : ResD call.signature κs) (s s' : AtExit call.ended κs)
    → reads.Post κs a r s → reads.Post κs a r' s'
    → tick_handed r.number r.count s.1.0.now s.1.1.0.now ≡ tick_handed r'.number r'.count s'.1.0.now s'.1.1.0.now
tick_coincides κs a r r' s s' p q = p ∙ sym q
