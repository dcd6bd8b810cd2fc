-- What was done to the outside, act by act, each with its answer (this profile). An act is what whoever makes it sees: over real objects it
-- is the same as over objects in memory.
use Rattle.std.specs.Prelude.{ℕ, Bool, true, false, List, Option, Some, None, filter_map}
use Rattle.link_trait.specs.Wires.{Reading}
use Rattle.link_trait.specs.Wires as wires
use Rattle.link_trait.specs.declared.wires.Happening.{Happening}
use Rattle.link_trait.specs.declared.wires.Happening.TheVariants as happening
use Rattle.link_trait.specs.declared.wires.WriteAnswer.{WriteAnswer}
use Rattle.link_trait.specs.declared.wires.WriteAnswer.TheVariants as write_answer

-- what a fetch gave: the octets of the file; no file; or memory ran out
pub data Fetch : Type 0 where
  Gave : (octets : List ℕ) → Fetch
  Failed : Fetch
  Spent : Fetch

-- a call of the wires with its answer. How many octets waited at a read isn't seen by whoever reads
pub data SeenCall : Type 0 where
  Listened : (address : List ℕ) (listens : Bool) → SeenCall
  Dialled : (address : List ℕ) (conn : Option ℕ) → SeenCall
  Turned : (until : Option ℕ) (what : Happening) → SeenCall
  Read : (conn size : ℕ) (reading : Reading) → SeenCall
  Sent : (conn : ℕ) (piece : List ℕ) (answer : WriteAnswer) → SeenCall
  Closed : (conn : ℕ) → SeenCall

pub data Act : Type 0 where
  -- a file was asked for by its name
  Fetched : (name : List ℕ) (answer : Fetch) → Act
  -- a piece was written to the sink, wholly or not
  Wrote : (piece : List ℕ) (done : Bool) → Act
  -- a call of the wires
  Called : (call : SeenCall) → Act
  -- the clock was asked, and answered this moment
  Asked : (moment : ℕ) → Act
  -- a random word was drawn
  Drew : (word : ℕ) → Act

-- ---- acts of a kind, in their order

abbrev pub call_of_act : Act → Option SeenCall
call_of_act (Fetched name answer) = None
call_of_act (Wrote piece done) = None
call_of_act (Called call) = Some call
call_of_act (Asked moment) = None
call_of_act (Drew word) = None

abbrev pub moment_of_act : Act → Option ℕ
moment_of_act (Fetched name answer) = None
moment_of_act (Wrote piece done) = None
moment_of_act (Called call) = None
moment_of_act (Asked moment) = Some moment
moment_of_act (Drew word) = None

abbrev pub word_of_act : Act → Option ℕ
word_of_act (Fetched name answer) = None
word_of_act (Wrote piece done) = None
word_of_act (Called call) = None
word_of_act (Asked moment) = None
word_of_act (Drew word) = Some word

abbrev pub calls_in_acts : List Act → List SeenCall
calls_in_acts acts = filter_map call_of_act acts

abbrev pub moments_in_acts : List Act → List ℕ
moments_in_acts acts = filter_map moment_of_act acts

abbrev pub words_in_acts : List Act → List ℕ
words_in_acts acts = filter_map word_of_act acts

-- ---- which part of the outside an act is of

abbrev pub is_fetch : Act → Bool
is_fetch (Fetched name answer) = true
is_fetch (Wrote piece done) = false
is_fetch (Called call) = false
is_fetch (Asked moment) = false
is_fetch (Drew word) = false

abbrev pub is_write : Act → Bool
is_write (Fetched name answer) = false
is_write (Wrote piece done) = true
is_write (Called call) = false
is_write (Asked moment) = false
is_write (Drew word) = false

abbrev pub is_call : Act → Bool
is_call (Fetched name answer) = false
is_call (Wrote piece done) = false
is_call (Called call) = true
is_call (Asked moment) = false
is_call (Drew word) = false

abbrev pub is_question : Act → Bool
is_question (Fetched name answer) = false
is_question (Wrote piece done) = false
is_question (Called call) = false
is_question (Asked moment) = true
is_question (Drew word) = false

-- a listen, a dial or a turn: a call from which a connection may come
abbrev pub is_opening_call : SeenCall → Bool
is_opening_call (Listened address listens) = true
is_opening_call (Dialled address conn) = true
is_opening_call (Turned until what) = true
is_opening_call (Read conn size reading) = false
is_opening_call (Sent conn piece answer) = false
is_opening_call (Closed conn) = false

abbrev pub is_opening_act : Act → Bool
is_opening_act (Fetched name answer) = false
is_opening_act (Wrote piece done) = false
is_opening_act (Called call) = is_opening_call call
is_opening_act (Asked moment) = false
is_opening_act (Drew word) = false

-- ---- acts that failed. Want of memory is no fault

abbrev pub failed_fetch : Fetch → Bool
failed_fetch (Gave octets) = false
failed_fetch Failed = true
failed_fetch Spent = false

abbrev pub is_cabinet_fault : Act → Bool
is_cabinet_fault (Fetched name answer) = failed_fetch answer
is_cabinet_fault (Wrote piece done) = false
is_cabinet_fault (Called call) = false
is_cabinet_fault (Asked moment) = false
is_cabinet_fault (Drew word) = false

abbrev pub is_sink_fault : Act → Bool
is_sink_fault (Fetched name answer) = false
is_sink_fault (Wrote piece true) = false
is_sink_fault (Wrote piece false) = true
is_sink_fault (Called call) = false
is_sink_fault (Asked moment) = false
is_sink_fault (Drew word) = false

abbrev pub failed_turn : Happening → Bool
failed_turn (happening.Accepted conn) = false
failed_turn (happening.Readable conn) = false
failed_turn (happening.Writable conn) = false
failed_turn happening.Quiet = false
failed_turn happening.Ended = false
failed_turn happening.Failed = true

abbrev pub failed_reading : Reading → Bool
failed_reading (wires.Gave octets) = false
failed_reading wires.NotNow = false
failed_reading wires.End = false
failed_reading wires.Failed = true

abbrev pub failed_sending : WriteAnswer → Bool
failed_sending (write_answer.Some n) = false
failed_sending write_answer.NotNow = false
failed_sending write_answer.Failed = true

abbrev pub failed_call : SeenCall → Bool
failed_call (Listened address true) = false
failed_call (Listened address false) = true
failed_call (Dialled address (Some conn)) = false
failed_call (Dialled address None) = true
failed_call (Turned until what) = failed_turn what
failed_call (Read conn size reading) = failed_reading reading
failed_call (Sent conn piece answer) = failed_sending answer
failed_call (Closed conn) = false

-- a listen, a dial or a turn that failed
abbrev pub failed_opening_call : SeenCall → Bool
failed_opening_call (Listened address true) = false
failed_opening_call (Listened address false) = true
failed_opening_call (Dialled address (Some conn)) = false
failed_opening_call (Dialled address None) = true
failed_opening_call (Turned until what) = failed_turn what
failed_opening_call (Read conn size reading) = false
failed_opening_call (Sent conn piece answer) = false
failed_opening_call (Closed conn) = false

abbrev pub is_wires_fault : Act → Bool
is_wires_fault (Fetched name answer) = false
is_wires_fault (Wrote piece done) = false
is_wires_fault (Called call) = failed_call call
is_wires_fault (Asked moment) = false
is_wires_fault (Drew word) = false

abbrev pub is_opening_fault : Act → Bool
is_opening_fault (Fetched name answer) = false
is_opening_fault (Wrote piece done) = false
is_opening_fault (Called call) = failed_opening_call call
is_opening_fault (Asked moment) = false
is_opening_fault (Drew word) = false
