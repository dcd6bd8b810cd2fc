-- The ranges of the numbers of an event (this profile).
use Rattle.std.specs.Prelude.{ℕ, ◌<◌, ◌≤◌, ◌^◌, List, length}
use Rattle.er_base.specs.Octets.{AreOctets}
use Rattle.er_trace.specs.declared.event.Event.{Event}
use Rattle.er_trace.specs.declared.event.Event.TheVariants.{Call, Answer, Octets, Send, Take, Release, Tick, Ended, Fault, Stalled, Full, Unserved}

-- a moment in milliseconds, at most 10 ^ 15
abbrev pub IsMoment : ℕ → Type 0
IsMoment n = n ≤ 1000000000000000

-- an ETCS number, below 2 ^ 24
abbrev pub IsEtcsNumber : ℕ → Type 0
IsEtcsNumber n = n < 16777216

-- a reason or a sub-reason
abbrev pub IsOctet : ℕ → Type 0
IsOctet n = n < 256

-- at most 4,096 octets
abbrev pub IsEventText : List ℕ → Type 0
IsEventText text = (length text ≤ 4096) × AreOctets text

-- an event whose numbers are in their ranges
abbrev pub IsInRange : Event → Type 0
IsInRange (Call engine rbc rb) = IsEtcsNumber engine × IsEtcsNumber rbc × (rb < 2 ^ 64)
IsInRange (Answer rbc ra) = IsEtcsNumber rbc × (ra < 2 ^ 64)
IsInRange (Octets octets) = IsEventText octets
IsInRange (Send text) = IsEventText text
IsInRange Take = Unit {0}
IsInRange (Release sub) = IsOctet sub
IsInRange Tick = Unit {0}
IsInRange Ended = Unit {0}
IsInRange Fault = Unit {0}
IsInRange Stalled = Unit {0}
IsInRange (Full count) = count < 2 ^ 64
IsInRange (Unserved count) = count < 2 ^ 64
