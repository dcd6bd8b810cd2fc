-- The outside objects that live in memory (this profile): what they hold, which of their calls fail, and
-- their numbers. Calls are counted from 1; a call fails where its number is listed.
use Rattle.std.specs.Prelude.{◌≡◌, ◌≢◌, ℕ, ◌+◌, ◌==◌, ◌||◌, Bool, List, [], ◌++◌, length, Option, None, Some, nat_lt, if◌then◌else◌}
use Rattle.std.specs.List.{list_any}
use Rattle.link_trait.specs.Outside.{counted, file_of}

-- whether the call after `calls` calls is listed to fail
abbrev pub is_listed : List ℕ → ℕ → Bool
is_listed failing calls = list_any (λ n. n == counted calls) failing

-- what a cabinet in memory holds: its files, name and octets; the names that it was asked for; the numbers of
-- the calls that fail; how many calls were done; how many failed
pub record KeptCabinet : Type 0 where
  pub files : List (List ℕ × List ℕ)
  pub asked : List (List ℕ)
  pub failing : List ℕ
  pub calls : ℕ
  pub faults : ℕ

-- a cabinet as it is made
abbrev pub empty_cabinet : KeptCabinet
empty_cabinet = record { files = []; asked = []; failing = []; calls = 0; faults = 0 }

-- a file was put: the name has these octets now, and each other name has what it had
pub record PutsFile (before now : List (List ℕ × List ℕ)) (name octets : List ℕ) : Type 0 where
  pub put : file_of now name ≡ Some octets
  pub others : (other : List ℕ) → other ≢ name → file_of now other ≡ file_of before other

-- what a fetch gives, want of memory aside: the file of that name, and nothing where its call is listed
abbrev pub fetch_answer : KeptCabinet → List ℕ → Option (List ℕ)
fetch_answer s name = if is_listed s.failing s.calls then None else file_of s.files name

-- what a sink in memory holds: the octets written; how many octets it can hold; the numbers of the calls that
-- fail; how many calls were done; how many failed
pub record KeptSink : Type 0 where
  pub held : List ℕ
  pub capacity : ℕ
  pub failing : List ℕ
  pub calls : ℕ
  pub faults : ℕ

-- a sink as it is made
abbrev pub empty_sink : ℕ → KeptSink
empty_sink capacity = record { held = []; capacity = capacity; failing = []; calls = 0; faults = 0 }

-- whether a write fails: its call is listed, or the capacity doesn't hold the piece behind what is held
abbrev pub is_write_refused : KeptSink → List ℕ → Bool
is_write_refused s piece = is_listed s.failing s.calls || nat_lt s.capacity (length s.held + length piece)

-- a write adds its piece; one that fails adds nothing and raises the count of faults
abbrev pub sink_after_write : KeptSink → List ℕ → KeptSink
sink_after_write s piece =
    if is_write_refused s piece
    then record s { calls = counted s.calls; faults = counted s.faults }
    else record s { held = s.held ++ piece; calls = counted s.calls }
