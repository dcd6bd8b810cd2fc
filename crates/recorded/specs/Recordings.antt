-- What goes to peers goes behind what was written (this profile). Of acts there are two lists: those that a program does, each with its
-- answer, and those that are done inside for it, where what it wrote may stand later and in larger pieces.
use Rattle.std.specs.Prelude.{◌≡◌, ℕ, Bool, true, false, ◌||◌, List, [], ◌∷◌, ◌++◌, IsFalse, if◌then◌else◌, flat_map}
use Rattle.std.specs.List.{list_any}
use Rattle.outside.specs.Acts.{SeenCall, Listened, Dialled, Turned, Read, Sent, Closed, Act, Fetched, Wrote, Called, Asked, Drew}
use Rattle.outside.specs.Acts.{is_write, is_sink_fault, failed_call}
use Rattle.outside.specs.Ties.{IsLeft, PutsInSink}

-- ---- acts

-- a call by which something goes to a peer, or in which peers are waited for: each call of the wires but a read
abbrev pub is_outward_call : SeenCall → Bool
is_outward_call (Listened address listens) = true
is_outward_call (Dialled address conn) = true
is_outward_call (Turned until what) = true
is_outward_call (Read conn size reading) = false
is_outward_call (Sent conn piece answer) = true
is_outward_call (Closed conn) = true

abbrev pub is_outward : Act → Bool
is_outward (Fetched name answer) = false
is_outward (Wrote piece done) = false
is_outward (Called call) = is_outward_call call
is_outward (Asked moment) = false
is_outward (Drew word) = false

abbrev pub is_close_call : SeenCall → Bool
is_close_call (Listened address listens) = false
is_close_call (Dialled address conn) = false
is_close_call (Turned until what) = false
is_close_call (Read conn size reading) = false
is_close_call (Sent conn piece answer) = false
is_close_call (Closed conn) = true

-- an act of which the program wasn't told that it was done: a call that failed, or a close, which has no answer
abbrev pub is_untold : Act → Bool
is_untold (Fetched name answer) = false
is_untold (Wrote piece done) = false
is_untold (Called call) = failed_call call || is_close_call call
is_untold (Asked moment) = false
is_untold (Drew word) = false

-- ---- octets

-- the octets of a piece that was written wholly
abbrev pub octets_written_by : Act → List ℕ
octets_written_by (Fetched name answer) = []
octets_written_by (Wrote piece true) = piece
octets_written_by (Wrote piece false) = []
octets_written_by (Called call) = []
octets_written_by (Asked moment) = []
octets_written_by (Drew word) = []

-- the octets that these acts wrote, in their order
unfoldable pub octets_written_in : List Act → List ℕ
octets_written_in acts = flat_map octets_written_by acts

-- the octets of a piece, whether its write failed or not
abbrev pub octets_offered_by : Act → List ℕ
octets_offered_by (Fetched name answer) = []
octets_offered_by (Wrote piece done) = piece
octets_offered_by (Called call) = []
octets_offered_by (Asked moment) = []
octets_offered_by (Drew word) = []

-- all octets that were to be written
unfoldable pub octets_offered_in : List Act → List ℕ
octets_offered_in acts = flat_map octets_offered_by acts

-- ---- acts of a kind

abbrev pub unless_write : Act → List Act
unless_write (Fetched name answer) = Fetched name answer ∷ []
unless_write (Wrote piece done) = []
unless_write (Called call) = Called call ∷ []
unless_write (Asked moment) = Asked moment ∷ []
unless_write (Drew word) = Drew word ∷ []

-- the acts but the writes
unfoldable pub acts_but_writes : List Act → List Act
acts_but_writes acts = flat_map unless_write acts

abbrev pub when_inward : Act → List Act
when_inward (Fetched name answer) = Fetched name answer ∷ []
when_inward (Wrote piece done) = []
when_inward (Called call) = if is_outward_call call then [] else Called call ∷ []
when_inward (Asked moment) = Asked moment ∷ []
when_inward (Drew word) = Drew word ∷ []

-- the fetches, reads, moments and random words: what comes in and lets nothing go
unfoldable pub inward_acts : List Act → List Act
inward_acts acts = flat_map when_inward acts

-- the acts behind the first write that failed
unfoldable pub acts_behind_fault : List Act → List Act
acts_behind_fault [] = []
acts_behind_fault (act ∷ acts) = if is_sink_fault act then acts else acts_behind_fault acts

-- ---- the rule

-- an act that stands behind these acts inside: the program did it too, behind the same acts; all that it had written before it was written before
-- it inside, no write had failed, and the sink inside was given just that
pub record IsBehindItsLines (done : List Act) (act : Act) (program : List Act) : Type 0 where
  pub before : List Act
  pub behind : List Act
  pub did : program ≡ before ++ act ∷ behind
  pub acts : acts_but_writes done ≡ acts_but_writes before
  pub written : octets_written_in done ≡ octets_written_in before
  pub whole : IsFalse (list_any is_sink_fault done)
  pub held : (octets : List ℕ) → IsLeft PutsInSink done octets → octets ≡ octets_written_in before

-- an act that the program did behind these: it was done inside too, behind the same acts and the same octets
pub record IsDoneInside (before : List Act) (act : Act) (inside : List Act) : Type 0 where
  pub done : List Act
  pub rest : List Act
  pub did : inside ≡ done ++ act ∷ rest
  pub acts : acts_but_writes done ≡ acts_but_writes before
  pub written : octets_written_in done ≡ octets_written_in before

-- octets with which others begin
pub record IsBeginningOf (octets all : List ℕ) : Type 0 where
  pub rest : List ℕ
  pub are : octets ++ rest ≡ all

-- nothing goes, and nothing is written
pub record IsStill (acts : List Act) : Type 0 where
  pub outward : IsFalse (list_any is_outward acts)
  pub writes : IsFalse (list_any is_write acts)
