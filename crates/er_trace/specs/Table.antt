-- The table of the lines of a trace (this profile): the word of each event and of each outcome, and the kinds of the words behind it.
use Rattle.std.specs.Prelude.{ℕ, Bool, true, false, if◌then◌else◌, List, [], ◌∷◌, Option, Result, Ok, Err, codes}
use Rattle.std.specs.List.{find}
use Rattle.std.specs.Str.{bytes_eq}
use Rattle.er_base.specs.declared.why.Why.{Why}
use Rattle.er_base.specs.declared.why.Why.TheVariants.{Word}
use Rattle.er_base.specs.Arguments.{number_argument, text_argument, number16_argument}
use Rattle.er_base.specs.LineFaults.{Values}
use Rattle.er_trace.specs.declared.argument_kind.ArgumentKind.{ArgumentKind}
use Rattle.er_trace.specs.declared.argument_kind.ArgumentKind.TheVariants.{Decimal, Hex, Number16, Releaser}
use Rattle.er_trace.specs.declared.event.Event.{Event}
use Rattle.er_trace.specs.declared.event.Event.TheVariants as event
use Rattle.er_trace.specs.declared.event_name.EventName.{EventName}
use Rattle.er_trace.specs.declared.event_name.EventName.TheVariants.{Call, Answer, Octets, Send, Take, Release, Tick, Ended, Fault, Stalled, Full, Unserved}
use Rattle.er_trace.specs.declared.outcome_name.OutcomeName.{OutcomeName}
use Rattle.er_trace.specs.declared.outcome_name.OutcomeName.TheVariants as outcome
use Rattle.er_trace.specs.declared.refusal_name.RefusalName.{RefusalName}
use Rattle.er_trace.specs.declared.refusal_name.RefusalName.TheVariants as refusal

-- ---- arguments

-- MOMENT, at most 10 ^ 15 milliseconds; CONN and K, any number of 64 bits; E, R and PEER, ETCS numbers; a reason and X, octets
abbrev pub moment : ArgumentKind
moment = Decimal 1000000000000000

abbrev pub any_number : ArgumentKind
any_number = Decimal 18446744073709551615

abbrev pub etcs_number : ArgumentKind
etcs_number = Decimal 16777215

abbrev pub octet : ArgumentKind
octet = Decimal 255

-- what an argument of a kind means
abbrev pub Meaning : ArgumentKind → Type 0
Meaning (Decimal most) = ℕ
Meaning Hex = List ℕ
Meaning Number16 = ℕ
Meaning Releaser = Bool

-- who released
abbrev pub releaser_word : Bool → List ℕ
releaser_word true = codes "peer"
releaser_word false = codes "local"

abbrev pub releaser_argument : List ℕ → Result Bool Why
releaser_argument word =
    if bytes_eq word (releaser_word false) then Ok false else if bytes_eq word (releaser_word true) then Ok true else Err Word

-- a word, read as an argument of a kind
abbrev pub argument_of : (kind : ArgumentKind) → List ℕ → Result (Meaning kind) Why
argument_of (Decimal most) word = number_argument 0 most word
argument_of Hex word = text_argument 4096 word
argument_of Number16 word = number16_argument word
argument_of Releaser word = releaser_argument word

-- ---- events

abbrev pub event_word : EventName → List ℕ
event_word Call = codes "call"
event_word Answer = codes "answer"
event_word Octets = codes "octets"
event_word Send = codes "send"
event_word Take = codes "take"
event_word Release = codes "release"
event_word Tick = codes "tick"
event_word Ended = codes "ended"
event_word Fault = codes "fault"
event_word Stalled = codes "stalled"
event_word Full = codes "full"
event_word Unserved = codes "unserved"

-- the event that a word names, where it names one
abbrev pub event_named : List ℕ → Option EventName
event_named word =
    find (λ name. bytes_eq word (event_word name))
    (Call ∷ Answer ∷ Octets ∷ Send ∷ Take ∷ Release ∷ Tick ∷ Ended ∷ Fault ∷ Stalled ∷ Full ∷ Unserved ∷ [])

-- the words behind that of the event: call E R RB, answer R RA, octets HEX, send HEX, release X, full K, unserved K
abbrev pub event_kinds : EventName → List ArgumentKind
event_kinds Call = etcs_number ∷ etcs_number ∷ Number16 ∷ []
event_kinds Answer = etcs_number ∷ Number16 ∷ []
event_kinds Octets = Hex ∷ []
event_kinds Send = Hex ∷ []
event_kinds Take = []
event_kinds Release = octet ∷ []
event_kinds Tick = []
event_kinds Ended = []
event_kinds Fault = []
event_kinds Stalled = []
event_kinds Full = any_number ∷ []
event_kinds Unserved = any_number ∷ []

-- the event that arguments make
abbrev pub event_made : (name : EventName) → Values Meaning (event_kinds name) → Event
event_made Call (e, (r, (rb, end))) = event.Call e r rb
event_made Answer (r, (ra, end)) = event.Answer r ra
event_made Octets (hex, end) = event.Octets hex
event_made Send (hex, end) = event.Send hex
event_made Take end = event.Take
event_made Release (x, end) = event.Release x
event_made Tick end = event.Tick
event_made Ended end = event.Ended
event_made Fault end = event.Fault
event_made Stalled end = event.Stalled
event_made Full (k, end) = event.Full k
event_made Unserved (k, end) = event.Unserved k

-- ---- outcomes

abbrev pub outcome_word : OutcomeName → List ℕ
outcome_word outcome.Connected = codes "connected"
outcome_word outcome.Accepted = codes "accepted"
outcome_word outcome.Taken = codes "taken"
outcome_word outcome.Empty = codes "none"
outcome_word outcome.Released = codes "released"
outcome_word outcome.Octets = codes "octets"

-- the outcome that a word names, where it names one; `refused` has a second word
abbrev pub outcome_named : List ℕ → Option OutcomeName
outcome_named word =
    find (λ name. bytes_eq word (outcome_word name))
    (outcome.Connected ∷ outcome.Accepted ∷ outcome.Taken ∷ outcome.Empty ∷ outcome.Released ∷ outcome.Octets ∷ [])

-- the words behind it: connected PEER, accepted HEX, taken HEX, none, released R X local or released R X peer, octets HEX
abbrev pub outcome_kinds : OutcomeName → List ArgumentKind
outcome_kinds outcome.Connected = etcs_number ∷ []
outcome_kinds outcome.Accepted = Hex ∷ []
outcome_kinds outcome.Taken = Hex ∷ []
outcome_kinds outcome.Empty = []
outcome_kinds outcome.Released = octet ∷ octet ∷ Releaser ∷ []
outcome_kinds outcome.Octets = Hex ∷ []

-- the word behind `refused`
abbrev pub refusal_word : RefusalName → List ℕ
refusal_word refusal.Released = codes "released"
refusal_word refusal.NotConnected = codes "notconnected"
refusal_word refusal.Length = codes "length"
refusal_word refusal.Full = codes "full"

abbrev pub refusal_named : List ℕ → Option RefusalName
refusal_named word =
    find (λ name. bytes_eq word (refusal_word name))
    (refusal.Released ∷ refusal.NotConnected ∷ refusal.Length ∷ refusal.Full ∷ [])

-- the words behind it: refused released R X, refused notconnected, refused length K, refused full K
abbrev pub refusal_kinds : RefusalName → List ArgumentKind
refusal_kinds refusal.Released = octet ∷ octet ∷ []
refusal_kinds refusal.NotConnected = []
refusal_kinds refusal.Length = any_number ∷ []
refusal_kinds refusal.Full = any_number ∷ []
