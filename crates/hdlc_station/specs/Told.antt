-- Contract: how a clause speaks of what a rule or a call of the code tells: as the deed of the model.
use Rattle.std.specs.Prelude.{ℕ, true, false, List, [], Option, Some, None, option_map}
use Rattle.er_base.specs.declared.release.Release.{Release}
use Rattle.hdlc_station_model.specs.Stations.{Deed, no_deed}
use Rattle.hdlc_station.specs.declared.deeds.LinkDeed.{LinkDeed}
use Rattle.hdlc_station.specs.declared.heard.Told.{Told}
use Rattle.hdlc_station.specs.declared.heard.Told.TheVariants.{Nothing, CameUp, Took, Released}
use Rattle.hdlc_station.specs.Places.{NumberPlace, lent}

-- what a rule tells of a frame with this information
abbrev pub told_as : List ℕ → Told → Deed
told_as information Nothing = no_deed
told_as information CameUp = record { up = true; payload = None; more = []; released = None }
told_as information Took = record { up = false; payload = Some information; more = []; released = None }
told_as information (Released release) = record { up = false; payload = None; more = []; released = Some release }

-- what a call tells that can tell a release alone
abbrev pub released_as : Option Release → Deed
released_as release = record { up = false; payload = None; more = []; released = release }

-- what a frame brought, whatever lends its payload, and these payloads behind it that were held
abbrev pub deed_with : List (List ℕ) → LinkDeed → Deed
deed_with held d = record { up = d.up; payload = option_map (λ p. p.now) d.payload; more = held; released = d.released }

-- at a station with go-back none is held
abbrev pub deed_of : LinkDeed → Deed
deed_of d = deed_with [] d

-- with selective reject the places lend them
abbrev pub deed_lending : List NumberPlace → LinkDeed → Deed
deed_lending places d = deed_with (lent d.more places) d
