-- Lemmas: each end of a link is an end that was opened, behind a list of events of its own; the one that calls is started first.
use Rattle.std.specs.Prelude.{◌≡◌, List, ◌∷◌}
use Rattle.er_end_model.specs.Ends.{Call, Answer, Start, End, Moment, end_run}
use Rattle.er_end_model.specs.Ends as end
use Rattle.pair_model.specs.Steps.{PairStep}
use Rattle.er_end_pair_laws.specs.Openings.{EndLinkOpening}
use Rattle.er_end_pair_laws.specs.Laws.{end_link_after}
use Rattle.tap_laws.specs.LookingUp.{AllLookUp}

-- how each end of a link is opened
abbrev pub calling_of : EndLinkOpening → end.Opening
calling_of s = Call s.settings s.engine s.rbc s.kmac s.rb s.moment

abbrev pub called_of : EndLinkOpening → end.Opening
called_of s = Answer s.settings s.rbc s.ra s.moment

abbrev pub started_at : EndLinkOpening → Moment
started_at s = record { now = s.moment; event = Start }

-- both look KMACs up in the link's way alone
pub record AreRuns (s : EndLinkOpening) (e r : End) : Type 0 where
  pub events_e : List Moment
  pub events_r : List Moment
  pub e_is : e ≡ end_run (started_at s ∷ events_e) (end.opened (calling_of s))
  pub r_is : r ≡ end_run events_r (end.opened (called_of s))
  pub e_looks : AllLookUp s.finder (started_at s ∷ events_e)
  pub r_looks : AllLookUp s.finder events_r

-- behind all steps
abbrev pub EndsAreRuns : Type 0
EndsAreRuns = (s : EndLinkOpening) (steps : List PairStep) → AreRuns s (end_link_after s steps).e (end_link_after s steps).r
