-- `wire_copy::write` meets its contract, by the type of the message. Assumes nothing.
use mathlib.Core.Path.{refl}
use Rattle.wire_copy.specs.Resent.{resent}
use Rattle.wire_write.proofs.WriteLaws.{wrote-6}
use Rattle.wire_copy.proofs.write.Goals as goal

pub returns-in-Refused : goal.returns-in-Refused
unfolding resent
returns-in-Refused c = rw c.in-Refused.is (wrote-6 _ _ refl)

pub returns-in-Solicit : goal.returns-in-Solicit
returns-in-Solicit c = rw c.in-Solicit.is c.solicit.ensures

pub returns-in-Advertise : goal.returns-in-Advertise
returns-in-Advertise c = rw c.in-Advertise.is c.advertise.ensures

pub returns-in-Request : goal.returns-in-Request
returns-in-Request c = rw c.in-Request.is c.request.ensures

pub returns-in-Flood : goal.returns-in-Flood
returns-in-Flood c = rw c.in-Flood.is c.flood.ensures

pub returns-in-Inquire : goal.returns-in-Inquire
returns-in-Inquire c = rw c.in-Inquire.is c.inquire.ensures

pub returns-in-Authority : goal.returns-in-Authority
returns-in-Authority c = rw c.in-Authority.is c.authority.ensures

pub returns-in-Ack : goal.returns-in-Ack
returns-in-Ack c = rw c.in-Ack.is c.ack.ensures

pub returns-in-Lookup : goal.returns-in-Lookup
returns-in-Lookup c = rw c.in-Lookup.is c.lookup.ensures
