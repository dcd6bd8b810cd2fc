-- Messages are taken as long as one waits; and the end of a session is the one that its events lead to.
use Rattle.loop_model.specs.Ends.{ModelEnd, model_ends}
use Rattle.std.proofs.Common.{◌≡◌, Some, refl}
use Rattle.loop_model.specs.Sessions.{GivenToSession, Begins, Hears, Sends, Takes, Leaves, Ticks, Ends, Faults, Stalls, journal_event_of_given}
use Rattle.loop_model.specs.Walks.{SessionsAreLed}
use Rattle.loop_model.specs.Takings.{IsTaken, AllAreTaken}
use Rattle.loop_model.proofs.Walking.{IsFromOutside, Fitting, walked_serving, walked_dialling}

comes : (k : ModelEnd) (g : GivenToSession) → IsFromOutside g → model_ends.waiting k ≡ 0 → IsTaken (Some k) (journal_event_of_given model_ends k g)
comes k (Begins engine rbc rb) p none = absurd p
comes k (Hears octets) p none = none
comes k (Sends text) p none = absurd p
comes k Takes p none = absurd p
comes k (Leaves sub) p none = absurd p
comes k Ticks p none = none
comes k Ends p none = none
comes k Faults p none = none
comes k Stalls p none = absurd p

fitting : Fitting IsTaken
fitting = record {
  sends = λ m text. tt;
  leaves = λ m sub. tt;
  stalls = λ m. tt;
  takes = λ k one. one;
  comes = comes;
  call = λ engine rbc rb. refl;
  answer = λ rbc ra. refl;
  full = λ count. refl;
  unserved = λ count. refl;
}

pub all_are_taken : AllAreTaken
all_are_taken = record {
  serving = λ plan c turns h. let w = walked_serving IsTaken fitting plan c turns h in record { each = w.each; none = w.none };
  dialling = λ plan caller c address a h. let w = walked_dialling IsTaken fitting plan caller c address a h in record { each = w.each; none = w.none };
}

pub sessions_are_led : SessionsAreLed
sessions_are_led = record {
  serving = λ plan c turns h. (walked_serving IsTaken fitting plan c turns h).ends;
  dialling = λ plan caller c address a h. (walked_dialling IsTaken fitting plan caller c address a h).ends;
}
