-- Known answers, worked out by hand: a short journal, and releases of which there are more than places.
use Rattle.std.specs.Prelude.{◌≡◌, ℕ, Bool, true, false, List, [], ◌∷◌, ◌++◌, map, refl}
use Rattle.std.specs.List.{range_with_len}
use Rattle.er_base.specs.declared.release.Release.{Release}
use Rattle.er_end_model.specs.Outcomes.{Outcome, ConnectedTo, Accepted, Taken, NothingToTake, Refused, RefusedFull, WasReleased}
use Rattle.er_end_model.specs.Outcomes as outcome
use Rattle.er_trace.specs.declared.event.Event.{Event}
use Rattle.er_trace.specs.declared.event.Event.TheVariants as event
use Rattle.loop_model.specs.Journals.{JournalEntry}
use Rattle.counted.specs.Counting.{ends_begun_in_journal, turned_away_in_journal, said_in_journal, connected_in_journal, accepted_in_journal}
use Rattle.counted.specs.Counting.{refused_in_journal, releases_in_journal, different_releases, counts_of_releases}

abbrev release : (reason sub : ℕ) → Bool → Release
release reason sub by_peer = record { reason = reason; sub = sub; by_peer = by_peer }

abbrev entry : (moment conn : ℕ) → Event → List Outcome → JournalEntry
entry moment conn event outcomes = record { moment = moment; conn = conn; event = event; outcomes = outcomes }

-- two ends answer, one stands connected, its user says two messages of which one is refused, and takes one that was accepted; both are released by
-- their peers with one reason, a third connection is released by this end with the same; two more are turned away
abbrev journal : List JournalEntry
journal =
    entry 1 1 (event.Answer 9 5) [] ∷ entry 2 2 (event.Answer 9 6) []
    ∷ entry 3 1 (event.Octets (7 ∷ [])) (ConnectedTo 4 ∷ outcome.Octets (8 ∷ []) ∷ [])
    ∷ entry 4 1 (event.Send (65 ∷ [])) (outcome.Octets (8 ∷ []) ∷ []) ∷ entry 5 1 (event.Send (65 ∷ [])) (Refused (RefusedFull 16) ∷ [])
    ∷ entry 6 1 (event.Octets (7 ∷ [])) (Accepted (66 ∷ []) ∷ outcome.Octets (8 ∷ []) ∷ []) ∷ entry 6 1 event.Take (Taken (66 ∷ []) ∷ [])
    ∷ entry 6 1 event.Take (NothingToTake ∷ []) ∷ entry 7 1 (event.Octets (7 ∷ [])) (WasReleased (release 0 3 true) ∷ [])
    ∷ entry 8 2 (event.Octets (7 ∷ [])) (WasReleased (release 0 3 true) ∷ []) ∷ entry 9 3 (event.Call 4 9 5) (outcome.Octets (8 ∷ []) ∷ [])
    ∷ entry 9 3 (event.Release 3) (WasReleased (release 0 3 false) ∷ []) ∷ entry 9 4 (event.Full 1) [] ∷ entry 9 5 (event.Unserved 1) [] ∷ []

counts_of_journal :
    (ends_begun_in_journal journal ≡ 3) × (turned_away_in_journal journal ≡ 2) × (said_in_journal journal ≡ 2) × (connected_in_journal journal ≡ 1)
    × (accepted_in_journal journal ≡ 1) × (refused_in_journal journal ≡ 1)
counts_of_journal = (refl, refl, refl, refl, refl, refl)

-- who released makes a difference
releases_of_journal :
    counts_of_releases (releases_in_journal journal)
    ≡ record { release = release 0 3 true; count = 2 } ∷ record { release = release 0 3 false; count = 1 } ∷ []
unfolding different_releases
releases_of_journal = refl

-- 65 that differ, and then the first and the last again: the first is counted twice, and the last has no place
abbrev many : List Release
many = map (λ n. release 4 n true) (range_with_len 0 65) ++ release 4 0 true ∷ release 4 64 true ∷ []

releases_beyond :
    counts_of_releases many
    ≡ record { release = release 4 0 true; count = 2 } ∷ map (λ n. record { release = release 4 n true; count = 1 }) (range_with_len 1 63)
unfolding different_releases
releases_beyond = refl
