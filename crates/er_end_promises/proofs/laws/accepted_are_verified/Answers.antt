use Rattle.er_end_promises.proofs.Accepting.{accepts_verified_alone, accepts_one_at_most, accepted_were_brought}
use Rattle.er_end_promises.proofs.laws.accepted_are_verified.Goals as goal

pub returns-clause-verified : goal.returns-clause-verified
returns-clause-verified c = accepts_verified_alone c.accepts_verified.ensures.only c.accepts_verified.ensures.each c.keeping.ensures.bring c.keeping.ensures.tells_none

pub returns-clause-one : goal.returns-clause-one
returns-clause-one c = accepts_one_at_most c.accepts_verified.ensures.only c.accepts_verified.ensures.each c.keeping.ensures.bring c.keeping.ensures.tells_none

pub returns-clause-brought : goal.returns-clause-brought
returns-clause-brought c = accepted_were_brought c.standing.ensures.made c.standing.ensures.runs c.octets_are_heard.ensures.run
