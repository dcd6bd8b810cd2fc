-- What was appended to no octets is what the word spells.
use Rattle.er_base.proofs.SpelledOctets.{spelled_octets}
use Rattle.er_base.proofs.arguments.octets.Goals as goal

pub returns-in-Ok-clause-octets : goal.returns-in-Ok-clause-octets
returns-in-Ok-clause-octets c = λ k.
    rw (c.new.ensures, c.in-Ok.ensures.ok.appended, c.new-octets.ensures.items) (spelled_octets _ _ c.in-Ok.ensures.ok.spelled k)
