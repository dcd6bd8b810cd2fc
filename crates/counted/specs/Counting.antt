-- Contract: what is counted of the entries of a journal (this profile), over the list of all of them.
use Rattle.std.specs.Prelude.{◌≡◌, ℕ, ◌-◌, ◌^◌, ◌==◌, Bool, true, false, ◌&&◌, not, min, List, [], ◌∷◌, length, map, take, filter, filter_map, flat_map}
use Rattle.std.specs.Prelude.{count_by, sum_by, slice_get, ◌⊎◌}
use Rattle.er_base.specs.declared.release.Release.{Release}
use Rattle.er_end_model.specs.Outcomes.{Outcome}
use Rattle.loop_model.specs.Journals.{JournalEntry, entry_text}
use Rattle.outside.specs.Acts.{Act, Fetched, Wrote, Called, Asked, Drew}
use Rattle.journal.specs.declared.began.Began.{Began}
use Rattle.journal.specs.declared.began.Began.TheVariants.{Nothing, End, Full, Unserved}
use Rattle.journal.specs.Tallies.{what_event_begins, messages_said_by_event, tells_connection, tells_acceptance, tells_refusal, told_release}
use Rattle.journal.specs.Tallies.{IsTallyOfEntry}
use Rattle.journal.specs.Saying.{HasTallyRanges}
use Rattle.journal.specs.declared.event_tally.EventTally.{EventTally}
use Rattle.counted.specs.declared.counts.JournalCounts.{JournalCounts}
use Rattle.counted.specs.declared.release_count.ReleaseCount.{ReleaseCount}

-- ---- over all entries

abbrev pub begins_an_end : Began → Bool
begins_an_end Nothing = false
begins_an_end End = true
begins_an_end Full = false
begins_an_end Unserved = false

abbrev pub turns_away : Began → Bool
turns_away Nothing = false
turns_away End = false
turns_away Full = true
turns_away Unserved = true

-- how many entries begin an end, and how many turn a connection away
abbrev pub ends_begun_in_journal : List JournalEntry → ℕ
ends_begun_in_journal xs = count_by (λ x. begins_an_end (what_event_begins x.event)) xs

abbrev pub turned_away_in_journal : List JournalEntry → ℕ
turned_away_in_journal xs = count_by (λ x. turns_away (what_event_begins x.event)) xs

-- how many messages the users said
abbrev pub said_in_journal : List JournalEntry → ℕ
said_in_journal xs = sum_by (λ x. messages_said_by_event x.event) xs

-- the outcomes of all entries, in their order
abbrev pub outcomes_of_entries : List JournalEntry → List Outcome
outcomes_of_entries xs = flat_map (λ (x : JournalEntry). x.outcomes) xs

-- how often an end came to stand connected, how many messages were accepted, and how many that users said were refused
abbrev pub connected_in_journal : List JournalEntry → ℕ
connected_in_journal xs = count_by tells_connection (outcomes_of_entries xs)

abbrev pub accepted_in_journal : List JournalEntry → ℕ
accepted_in_journal xs = count_by tells_acceptance (outcomes_of_entries xs)

abbrev pub refused_in_journal : List JournalEntry → ℕ
refused_in_journal xs = count_by tells_refusal (outcomes_of_entries xs)

abbrev pub releases_in_journal : List JournalEntry → List Release
releases_in_journal xs = filter_map told_release (outcomes_of_entries xs)

-- ---- releases by their reasons

abbrev pub is_same_releaser : (by_peer other : Bool) → Bool
is_same_releaser true other = other
is_same_releaser false other = not other

-- the same reason, sub-reason and side
abbrev pub is_same_release : Release → Release → Bool
is_same_release a b = (a.reason == b.reason && a.sub == b.sub) && is_same_releaser a.by_peer b.by_peer

-- how often this one came
abbrev pub times_released : Release → List Release → ℕ
times_released release releases = count_by (λ r. is_same_release r release) releases

-- each of them once, in the order in which they came first
unfoldable pub different_releases : List Release → List Release
different_releases [] = []
different_releases (r ∷ rs) = r ∷ filter (λ q. not (is_same_release q r)) (different_releases rs)

-- a count stands still at the greatest that its 64 bits can tell
abbrev pub shown_count : ℕ → ℕ
shown_count n = min n (2 ^ 64 - 1)

abbrev pub count_of_release : List Release → Release → ReleaseCount
count_of_release releases release = record { release = release; count = shown_count (times_released release releases) }

-- the first 64 different ones, each with how often it came in all; of others nothing is told
abbrev pub counts_of_releases : List Release → List ReleaseCount
counts_of_releases releases = map (count_of_release releases) (take 64 (different_releases releases))

-- ---- all counts

pub record AreCounts (xs : List JournalEntry) (counts : JournalCounts) : Type 0 where
  pub opened : counts.opened ≡ shown_count (ends_begun_in_journal xs)
  pub turned_away : counts.turned_away ≡ shown_count (turned_away_in_journal xs)
  pub connected : counts.connected ≡ shown_count (connected_in_journal xs)
  pub accepted : counts.accepted ≡ shown_count (accepted_in_journal xs)
  pub said : counts.said ≡ shown_count (said_in_journal xs)
  pub refused : counts.refused ≡ shown_count (refused_in_journal xs)
  pub releases : counts.releases.items ≡ counts_of_releases (releases_in_journal xs)
  pub newest : counts.newest ≡ slice_get (releases_in_journal xs) (length (releases_in_journal xs) - 1)

-- ---- what was recorded

abbrev pub lines_recorded_by : Act → List (List ℕ)
lines_recorded_by (Fetched name answer) = []
lines_recorded_by (Wrote lines true) = lines ∷ []
lines_recorded_by (Wrote lines false) = []
lines_recorded_by (Called call) = []
lines_recorded_by (Asked moment) = []
lines_recorded_by (Drew word) = []

-- the lines that were recorded with success, call by call
abbrev pub lines_recorded_in : List Act → List (List ℕ)
lines_recorded_in acts = flat_map lines_recorded_by acts

-- each entry has its tally, whose numbers are within their types
unfoldable pub HaveTallies : List JournalEntry → List EventTally → Type 0
HaveTallies [] [] = Unit {0}
HaveTallies [] (t ∷ ts) = ⊥
HaveTallies (x ∷ xs) [] = ⊥
HaveTallies (x ∷ xs) (t ∷ ts) = IsTallyOfEntry x t × (HasTallyRanges t × HaveTallies xs ts)

-- by these acts the lines of these entries were recorded, in their order, and no other lines; and the counts are theirs
pub record IsCountOf (recorded : List Act) (counts : JournalCounts) : Type 0 where
  pub entries : List JournalEntry
  pub lines : lines_recorded_in recorded ≡ map entry_text entries
  pub tallies : List EventTally
  pub have : HaveTallies entries tallies
  pub are : AreCounts entries counts

-- both have the same counts, but for the frames that were ignored
pub record CountTheSame (c d : JournalCounts) : Type 0 where
  pub opened : c.opened ≡ d.opened
  pub turned_away : c.turned_away ≡ d.turned_away
  pub connected : c.connected ≡ d.connected
  pub accepted : c.accepted ≡ d.accepted
  pub said : c.said ≡ d.said
  pub refused : c.refused ≡ d.refused
  pub releases : c.releases.items ≡ d.releases.items
  pub newest : c.newest ≡ d.newest

-- acts that stand among others, in their order
unfoldable pub AreAmong : (some all : List Act) → Type 0
AreAmong [] all = Unit {0}
AreAmong (act ∷ some) [] = ⊥
AreAmong (act ∷ some) (first ∷ all) = ((act ≡ first) × AreAmong some all) ⊎ AreAmong (act ∷ some) all
