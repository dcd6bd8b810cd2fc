-- More of what holds of the loop, whatever the outside answers: of what is read, of the events of a session, of ticks and of closings.
use Rattle.loop_model.specs.Ends.{ModelEnd, model_ends}
use Rattle.std.specs.Prelude.{ℕ, ◌≡◌, ◌==◌, Bool, true, false, ◌||◌, if◌then◌else◌, List, [], ◌∷◌, ◌++◌, Option, Some, None}
use Rattle.er_trace.specs.declared.event.Event.{Event}
use Rattle.er_trace.specs.declared.event.Event.TheVariants.{Call, Answer, Octets, Send, Take, Release, Tick, Ended, Fault, Stalled, Full, Unserved}
use Rattle.er_end_model.specs.Outcomes.{Outcome}
use Rattle.trace_model.specs.Checks.{is_opening_role, role_of}
use Rattle.er_users.specs.Users.{Mind, Heard, Said, said}
use Rattle.link_trait.specs.Wires.{taken_of}
use Rattle.loop_model.specs.Journals.{JournalEntry}
use Rattle.loop_model.specs.Outs.{Out}
use Rattle.loop_model.specs.Sessions.{heard_by_user, refused_in, refusal_heard, noted}
use Rattle.loop_model.specs.Loops.{Plan, next_user, other_users, Course, Caller, Turn, run, Dialled, dials}
use Rattle.loop_model.specs.Parts.{of}
use Rattle.loop_model.specs.Laws.{IsServing, IsDialling, IsBeginning, HoldsOfEachLoop}

-- ---- octets taken

-- the octets of an event `octets`
abbrev pub octets_heard_in_event : Event → List ℕ
octets_heard_in_event (Call engine rbc rb) = []
octets_heard_in_event (Answer rbc ra) = []
octets_heard_in_event (Octets octets) = octets
octets_heard_in_event (Send text) = []
octets_heard_in_event Take = []
octets_heard_in_event (Release sub) = []
octets_heard_in_event Tick = []
octets_heard_in_event Ended = []
octets_heard_in_event Fault = []
octets_heard_in_event Stalled = []
octets_heard_in_event (Full count) = []
octets_heard_in_event (Unserved count) = []

-- the octets of such events, joined
unfoldable pub octets_heard_in_entries : List JournalEntry → List ℕ
octets_heard_in_entries [] = []
octets_heard_in_entries (x ∷ xs) = octets_heard_in_event x.event ++ octets_heard_in_entries xs

abbrev pub is_stalled : Event → Bool
is_stalled (Call engine rbc rb) = false
is_stalled (Answer rbc ra) = false
is_stalled (Octets octets) = false
is_stalled (Send text) = false
is_stalled Take = false
is_stalled (Release sub) = false
is_stalled Tick = false
is_stalled Ended = false
is_stalled Fault = false
is_stalled Stalled = true
is_stalled (Full count) = false
is_stalled (Unserved count) = false

-- whether a session stalled
unfoldable pub has_stalled : List JournalEntry → Bool
has_stalled [] = false
has_stalled (x ∷ xs) = is_stalled x.event || has_stalled xs

-- the joined octets of a connection's events are a beginning of those taken from it, and all of them where it never stalled
pub record HasHeardTakenOctets (conn : ℕ) (o : Out (Course ModelEnd)) : Type 0 where
  pub beginning : IsBeginning (octets_heard_in_entries (of conn o.entries)) (taken_of conn o.calls)
  pub all : has_stalled (of conn o.entries) ≡ false → octets_heard_in_entries (of conn o.entries) ≡ taken_of conn o.calls

abbrev pub AreHeard : Out (Course ModelEnd) → Type 0
AreHeard o = (conn : ℕ) → HasHeardTakenOctets conn o

abbrev pub OctetsAreHeard : Type 0
OctetsAreHeard = HoldsOfEachLoop (λ plan o. AreHeard o)

-- ---- what users say

-- a user's mind, and those of its replies that are still due, as events
pub record Speech : Type 0 where
  pub mind : Mind
  pub due : List Event

-- nothing is due
abbrev pub speech_of : Mind → Speech
speech_of mind = record { mind = mind; due = [] }

-- the replies as events: the texts in their order, then the release by the user who leaves
abbrev pub texts_said : List (List ℕ) → List Event
texts_said [] = []
texts_said (text ∷ texts) = Send text ∷ texts_said texts

abbrev pub leave_said : Option ℕ → List Event
leave_said None = []
leave_said (Some sub) = Release sub ∷ []

abbrev pub speech_by : Said → Speech
speech_by a = record { mind = a.mind; due = texts_said a.texts ++ leave_said a.leave }

-- where the user hears something, it says by its kind what it says; a kind of a caller's own says anything
abbrev pub IsUserAnswer : Option Heard → Speech → Speech → Type 0
IsUserAnswer None a b = b ≡ a
IsUserAnswer (Some heard) a b = (free : Said) × (b ≡ speech_by (said a.mind.kind a.mind heard free))

-- what the user of a connection hears of an event: what stands among its outcomes; of a text of its own only that it was refused, where it was;
-- nothing of its own release, nor of a stall
abbrev pub hears_at : Event → List Outcome → Option Heard
hears_at (Call engine rbc rb) outcomes = heard_by_user outcomes
hears_at (Answer rbc ra) outcomes = heard_by_user outcomes
hears_at (Octets octets) outcomes = heard_by_user outcomes
hears_at (Send text) outcomes = refusal_heard text (refused_in outcomes)
hears_at Take outcomes = heard_by_user outcomes
hears_at (Release sub) outcomes = None
hears_at Tick outcomes = heard_by_user outcomes
hears_at Ended outcomes = heard_by_user outcomes
hears_at Fault outcomes = heard_by_user outcomes
hears_at Stalled outcomes = None
hears_at (Full count) outcomes = heard_by_user outcomes
hears_at (Unserved count) outcomes = heard_by_user outcomes

-- a reply is the next that is due. Where it is a text that was refused, the user has heard that before anything else comes
pub record IsReply (reply : Event) (heard : Option Heard) (a b : Speech) : Type 0 where
  pub due : a.due ≡ reply ∷ b.due
  pub mind : b.mind ≡ noted heard a.mind

-- from one event on: a send or a release is the next reply that is due; a stall may stand between them; at any other event nothing is
-- due any more, and what the user says to it is due then
abbrev pub Step : Event → Option Heard → Speech → Speech → Type 0
Step (Call engine rbc rb) heard a b = (a.due ≡ []) × IsUserAnswer heard a b
Step (Answer rbc ra) heard a b = (a.due ≡ []) × IsUserAnswer heard a b
Step (Octets octets) heard a b = (a.due ≡ []) × IsUserAnswer heard a b
Step (Send text) heard a b = IsReply (Send text) heard a b
Step Take heard a b = (a.due ≡ []) × IsUserAnswer heard a b
Step (Release sub) heard a b = IsReply (Release sub) heard a b
Step Tick heard a b = (a.due ≡ []) × IsUserAnswer heard a b
Step Ended heard a b = (a.due ≡ []) × IsUserAnswer heard a b
Step Fault heard a b = (a.due ≡ []) × IsUserAnswer heard a b
Step Stalled heard a b = b ≡ a
Step (Full count) heard a b = (a.due ≡ []) × IsUserAnswer heard a b
Step (Unserved count) heard a b = (a.due ≡ []) × IsUserAnswer heard a b

-- event by event
abbrev pub LeadsToSpeech : Speech → List JournalEntry → Speech → Type 0
LeadsToSpeech a [] b = b ≡ a
LeadsToSpeech a (x ∷ xs) c = (b : Speech) × Step x.event (hears_at x.event x.outcomes) a b × LeadsToSpeech b xs c

-- the user of a connection: each end that is opened takes the last of those that are left
unfoldable pub user_of : ℕ → List JournalEntry → List Mind → Option Mind
user_of conn [] users = None
user_of conn (x ∷ xs) users =
    if is_opening_role (role_of x.event) then if x.conn == conn then next_user users else user_of conn xs (other_users users)
    else user_of conn xs users

-- no end was opened
abbrev pub AreDeclined : List JournalEntry → Type 0
AreDeclined [] = Unit {0}
AreDeclined (x ∷ xs) = (is_opening_role (role_of x.event) ≡ false) × AreDeclined xs

-- the events of a connection, from the mind of its user on, in the end with nothing due; one that took no user has no end
abbrev pub IsSpoken : Option Mind → List JournalEntry → Type 0
IsSpoken None xs = AreDeclined xs
IsSpoken (Some mind) xs = (last : Mind) × LeadsToSpeech (speech_of mind) xs (speech_of last)

-- the sends and the release of each connection are the replies of its user, in order, each behind the event that it answers
pub record UsersReply : Type 0 where
  pub serving : (plan : Plan) (c : Course ModelEnd) (turns : List Turn) → IsServing plan c turns
      → (conn : ℕ) → IsSpoken (user_of conn (run model_ends plan c turns).entries c.loop.users) (of conn (run model_ends plan c turns).entries)
  pub dialling : (plan : Plan) (caller : Caller) (c : Course ModelEnd) (address : List ℕ) (a : Dialled) → IsDialling plan caller c address a
      → (conn : ℕ) → IsSpoken (user_of conn (dials model_ends plan caller c address a).entries c.loop.users)
      (of conn (dials model_ends plan caller c address a).entries)
