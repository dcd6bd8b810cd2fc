-- Contract: by how much the counts over a journal rise with one entry more.
use Rattle.std.specs.Prelude.{◌≡◌, ◌+◌, List, [], ◌∷◌, ◌++◌, if◌then◌else◌}
use Rattle.loop_model.specs.Journals.{JournalEntry}
use Rattle.journal.specs.declared.event_tally.EventTally.{EventTally}
use Rattle.journal.specs.Tallies.{release_or_none}
use Rattle.counted.specs.Counting.{begins_an_end, turns_away, ends_begun_in_journal, turned_away_in_journal, said_in_journal}
use Rattle.counted.specs.Counting.{connected_in_journal, accepted_in_journal, refused_in_journal, releases_in_journal}

-- by this tally
pub record RiseByTally (xs : List JournalEntry) (x : JournalEntry) (t : EventTally) : Type 0 where
  pub opened : ends_begun_in_journal (xs ++ x ∷ []) ≡ ends_begun_in_journal xs + (if begins_an_end t.began then 1 else 0)
  pub turned_away : turned_away_in_journal (xs ++ x ∷ []) ≡ turned_away_in_journal xs + (if turns_away t.began then 1 else 0)
  pub said : said_in_journal (xs ++ x ∷ []) ≡ said_in_journal xs + t.said
  pub connected : connected_in_journal (xs ++ x ∷ []) ≡ connected_in_journal xs + t.connected
  pub accepted : accepted_in_journal (xs ++ x ∷ []) ≡ accepted_in_journal xs + t.accepted
  pub refused : refused_in_journal (xs ++ x ∷ []) ≡ refused_in_journal xs + t.refused
  pub releases : releases_in_journal (xs ++ x ∷ []) ≡ releases_in_journal xs ++ release_or_none t.released
