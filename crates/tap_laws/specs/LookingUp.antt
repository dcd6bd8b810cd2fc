-- How an end that answers looks KMACs up, over its events (this profile).
use Rattle.std.specs.Prelude.{◌≡◌, List, [], ◌∷◌}
use Rattle.er_end_model.specs.Steps.{Finds}
use Rattle.er_end_model.specs.Ends.{Event, Start, Come, Send, Take, Leave, Tick, Ended, Fault, Stalled, Moment}

-- KMACs are looked up in this way alone
abbrev pub LooksUp : Finds → Event → Type 0
LooksUp finds Start = Unit {0}
LooksUp finds (Come own octets) = own ≡ finds
LooksUp finds (Send user) = Unit {0}
LooksUp finds Take = Unit {0}
LooksUp finds (Leave sub) = Unit {0}
LooksUp finds Tick = Unit {0}
LooksUp finds Ended = Unit {0}
LooksUp finds Fault = Unit {0}
LooksUp finds Stalled = Unit {0}

abbrev pub AllLookUp : Finds → List Moment → Type 0
AllLookUp finds [] = Unit {0}
AllLookUp finds (e ∷ events) = LooksUp finds e.event × AllLookUp finds events
