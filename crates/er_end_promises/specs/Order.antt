-- Contract: in which order the user of an end gets what it accepted, over any calls one after the other.
use Rattle.std.specs.Prelude.{◌≡◌, List, ◌++◌}
use Rattle.er_end_model.specs.Ends.{Moment, Opening}
use Rattle.er_end.specs.KeptEnds.{KEnd, kept_opened, waiting_in}
use Rattle.er_end.specs.Keeping.{accepted_in}
use Rattle.er_end.specs.Standing.{kept_run, kept_outcomes}
use Rattle.er_end_promises.specs.Told.{messages_taken}

-- those that waited, and then those that were accepted, are those that the user took, and then those that wait: each take took the
-- oldest, none is lost, doubled or taken out of turn. (An end whose take tells the newest: it is false of that)
abbrev pub TakenInOrder : Type 0
TakenInOrder =
    (calls : List Moment) (k : KEnd)
    → waiting_in k ++ accepted_in (kept_outcomes calls k) ≡ messages_taken (kept_outcomes calls k) ++ waiting_in (kept_run calls k)

-- from its opening on: what the user took is at each moment a beginning of what the end accepted, and the rest waits
abbrev pub TakenBeginsAccepted : Type 0
TakenBeginsAccepted =
    (opening : Opening) (calls : List Moment)
    → accepted_in (kept_outcomes calls (kept_opened opening))
    ≡ messages_taken (kept_outcomes calls (kept_opened opening)) ++ waiting_in (kept_run calls (kept_opened opening))
