-- Contract: what a part of the loop does of the model.
use Rattle.std.specs.Prelude.{ℕ, ◌≡◌, ◌⊎◌, true, List, [], drop, Option, Some, None, Result, Ok, Err}
use Rattle.loop_model.specs.Sessions.{GivenToSession, Begins, Hears, Sends, Takes, Leaves, Ticks, Ends, Faults, Stalls}
use Rattle.application_serving.specs.Going.{ServiceRun, ToDo, and_then, Goes, ServesBy}
use Rattle.application_loop.specs.Standing.{Beside, Scene, Standing, Serving, AtRest, pouring}
use Rattle.application_loop.specs.declared.link.Link.{Link}

-- a part was done to its end, and this is left then; or it broke off
abbrev pub ServesOn : {T E : Type 0} → ServiceRun → Beside → ToDo → Scene → Result T E → Type 0
ServesOn run beside rest x result = Goes run x.told rest result (λ done deeds. Standing run deeds beside x)

-- it does this of the model, at this moment
abbrev pub DoesPart : {T E : Type 0} → ToDo → (moment : ℕ) → (old new : Scene) → Result T E → Type 0
DoesPart what moment old new result =
    (run : ServiceRun) (beside : Beside) (rest : ToDo) → beside.moment ≡ moment → Serving run beside (and_then what rest) old → ServesOn run beside rest new result

-- all that came was done, or a part broke off
abbrev pub RestsOr : {T E : Type 0} → ServiceRun → Beside → Scene → Result T E → Type 0
RestsOr run beside x (Ok done) = AtRest run beside x
RestsOr run beside x (Err fault) = ServesBy run x.told

-- it begins and ends where all that came is done
abbrev pub ServesWhole : {T E : Type 0} → (moment : ℕ) → (old new : Scene) → Result T E → Type 0
ServesWhole moment old new result = (run : ServiceRun) (beside : Beside) → beside.moment ≡ moment → AtRest run beside old → RestsOr run beside new result

-- an event that comes by the line or the clock, without octets
abbrev pub IsOfClock : GivenToSession → Type 0
IsOfClock (Begins engine rbc rb) = ⊥
IsOfClock (Hears octets) = ⊥
IsOfClock (Sends text) = ⊥
IsOfClock Takes = ⊥
IsOfClock (Leaves sub) = ⊥
IsOfClock Ticks = Unit {0}
IsOfClock Ends = Unit {0}
IsOfClock Faults = Unit {0}
IsOfClock Stalls = Unit {0}

-- an event of an end that is open, without octets
abbrev pub IsWithoutOctets : GivenToSession → Type 0
IsWithoutOctets (Begins engine rbc rb) = ⊥
IsWithoutOctets (Hears octets) = ⊥
IsWithoutOctets (Sends text) = Unit {0}
IsWithoutOctets Takes = Unit {0}
IsWithoutOctets (Leaves sub) = Unit {0}
IsWithoutOctets Ticks = Unit {0}
IsWithoutOctets Ends = Unit {0}
IsWithoutOctets Faults = Unit {0}
IsWithoutOctets Stalls = Unit {0}

-- what a part of the octets that are left came to: so many were heard, and the rest is left; or nothing is heard any more
abbrev pub HearsSome : {E : Type 0} → ServiceRun → Beside → Link → List ℕ → Scene → Result (Option ℕ) E → Type 0
HearsSome run beside link octets x (Ok (Some used)) = AtRest run (pouring beside link.number (drop used octets)) x
HearsSome run beside link octets x (Ok None) = AtRest run (pouring beside link.number octets) x × ((octets ≡ []) ⊎ (link.broken ≡ true))
HearsSome run beside link octets x (Err fault) = ServesBy run x.told
