-- What the user of a connection hears, by the events of the connection in the journal (this profile), and what a user tells of that that tells
-- what it hears.
use Rattle.std.specs.Prelude.{ℕ, ◌≡◌, not, List, [], ◌∷◌, ◌++◌, Option, Some, None, is_some}
use Rattle.er_base.specs.declared.release.Release.{Release}
use Rattle.er_users.specs.Users.{Mind, Heard, Released}
use Rattle.loop_model.specs.Ends.{EndOps, ModelEnd, model_ends}
use Rattle.loop_model.specs.Journals.{JournalEntry}
use Rattle.loop_model.specs.Sessions.{Rules, Session, GivenToSession, Begins, Hears, Sends, Takes, Leaves, Ticks, Ends, Faults, Stalls, Says, handled}
use Rattle.loop_model.specs.Loops.{Plan, Course, Turn, run, Caller, Dialled, dials}
use Rattle.loop_model.specs.Parts.{session_of_connection, of}
use Rattle.loop_model.specs.Points.{hears_at, Speech, LeadsToSpeech, user_of}
use Rattle.loop_model.specs.Laws.{IsServing, IsDialling}

-- ---- what is heard

abbrev pub heard_if_any : Option Heard → List Heard
heard_if_any None = []
heard_if_any (Some heard) = heard ∷ []

-- event by event, in their order: that the connection was made, the messages that were taken, and of its texts that were refused each
-- right behind its send
unfoldable pub hearing : List JournalEntry → List Heard
hearing [] = []
hearing (x ∷ xs) = heard_if_any (hears_at x.event x.outcomes) ++ hearing xs

-- the release of its end, with the reason, the sub-reason and who released, where it is released: once and last
abbrev pub parting : Option Release → List Heard
parting None = []
parting (Some release) = Released release.reason release.sub release.by_peer ∷ []

-- ---- what is told

-- a user that tells what it heard tells these behind what it told before; one that doesn't tells nothing
abbrev pub tells_all : Option (List Heard) → List Heard → Option (List Heard)
tells_all None heards = None
tells_all (Some before) heards = Some (before ++ heards)

-- of a user that is there what it tells, of one that was let go what it told then
abbrev pub heard_told_by_user : Option Mind → Option (List Heard) → Option (List Heard)
heard_told_by_user None told = told
heard_told_by_user (Some mind) told = mind.told

-- the events that the loop gives an end by itself
abbrev pub IsLoops : GivenToSession → Type 0
IsLoops (Begins engine rbc rb) = Unit {0}
IsLoops (Hears octets) = Unit {0}
IsLoops (Sends text) = ⊥
IsLoops Takes = Unit {0}
IsLoops (Leaves sub) = ⊥
IsLoops Ticks = Unit {0}
IsLoops Ends = Unit {0}
IsLoops Faults = Unit {0}
IsLoops Stalls = ⊥

-- ---- over ends of a kind

module _ {E : Type 0} (o : EndOps E) where
  -- a user that had this mind told behind it what these events let it hear; and it is let go exactly where the end is released, and has heard that
  pub record HasTold (mind : Mind) (s : Session E) (xs : List JournalEntry) : Type 0 where
    pub told : heard_told_by_user s.mind s.told ≡ tells_all mind.told (hearing xs ++ parting (o.released s.end))
    pub gone : is_some s.mind ≡ not (is_some (o.released s.end))

  -- a user that is there hears of an event with all that follows it exactly what the events of the journal say
  abbrev pub EventsAreHeard : Type 0
  EventsAreHeard =
      (r : Rules) (m : ℕ) (s : Session E) (g : GivenToSession) (says : Says) (mind : Mind) → IsLoops g → s.mind ≡ Some mind
      → HasTold mind (handled o r m s g says).0 (handled o r m s g says).1

-- ---- the journal

-- what a user tells whose speech the events of its connection lead on
abbrev pub SpeechIsHeard : Type 0
SpeechIsHeard = (a b : Speech) (xs : List JournalEntry) → LeadsToSpeech a xs b → b.mind.told ≡ tells_all a.mind.told (hearing xs)

-- the user of a session that is live has heard exactly what the events of its connection say
abbrev pub HasUserHeard : Option (Session ModelEnd) → Option Mind → List JournalEntry → Type 0
HasUserHeard None user xs = Unit {0}
HasUserHeard (Some s) user xs = (mind : Mind) × (user ≡ Some mind) × HasTold model_ends mind s xs

pub record UsersHear : Type 0 where
  pub serving : (plan : Plan) (c : Course ModelEnd) (turns : List Turn) → IsServing plan c turns → (conn : ℕ)
      → HasUserHeard (session_of_connection conn (run model_ends plan c turns).state.loop.sessions)
      (user_of conn (run model_ends plan c turns).entries c.loop.users) (of conn (run model_ends plan c turns).entries)
  pub dialling : (plan : Plan) (caller : Caller) (c : Course ModelEnd) (address : List ℕ) (a : Dialled) → IsDialling plan caller c address a → (conn : ℕ)
      → HasUserHeard (session_of_connection conn (dials model_ends plan caller c address a).state.loop.sessions)
      (user_of conn (dials model_ends plan caller c address a).entries c.loop.users) (of conn (dials model_ends plan caller c address a).entries)
