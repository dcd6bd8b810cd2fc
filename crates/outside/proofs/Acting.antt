-- One act at each part, from what the part's own call says of it.
use Rattle.std.proofs.Common.{◌≡◌, ◌≤◌, ◌⊎◌, ℕ, inl, inr, Bool, true, false, ◌||◌, List, [], ◌∷◌, ◌++◌, Option, None, Some, Result, Ok, Err, IsTrue, IsFalse, IfOk, IfSome, OnErr, OnOk, is_ok, refl, sym, ap, true≢false, suc, length, arith}
use Rattle.rand_core.specs.Stream.{Stream, next_u64}
use Rattle.link_trait.specs.Outside.{Grew, GrewPart, HasCause, HasFile, HasStayedAsTold, Notes, Rose}
use Rattle.link_trait.specs.States.{CabinetState, SinkState, WiresState, ClockState}
use Rattle.link_trait.specs.declared.cabinet.FetchFault.{FetchFault}
use Rattle.link_trait.specs.declared.cabinet.FetchFault.TheVariants as fault
use Rattle.link_trait.specs.declared.wires.Conn.{Conn}
use Rattle.link_trait.specs.declared.wires.Happening.{Happening}
use Rattle.link_trait.specs.declared.wires.Happening.TheVariants as happening
use Rattle.link_trait.specs.declared.wires.ReadAnswer.{ReadAnswer}
use Rattle.link_trait.specs.declared.wires.ReadAnswer.TheVariants as read_answer
use Rattle.link_trait.specs.declared.wires.WriteAnswer.{WriteAnswer}
use Rattle.link_trait.specs.declared.wires.WriteAnswer.TheVariants as write_answer
use Rattle.link_trait.specs.Wires.{Call, Listens, Dials, Turns, Reads, Writes, Closes, Lines, count_waiting_at_connection, opened_by_dial, opened_by_turn, dialled, reading_of}
use Rattle.outside.specs.Acts.{Gave, Failed, Spent, Listened, Dialled, Turned, Read, Sent, Closed, Act, Fetched, Wrote, Called, Asked, Drew}
use Rattle.outside.specs.Acts.{is_opening_call, is_cabinet_fault, is_sink_fault, is_wires_fault, is_opening_fault, failed_call, failed_opening_call}
use Rattle.outside.specs.Seen.{fetched_by, seen_of_call, opened_by_call, listening_by_call}
use Rattle.outside.specs.Ties.{AsksFor, AreFiled, PutsInSink, Counts, CabinetDid, SinkDid}
use Rattle.outside.specs.Doings.{Told, Did}
use Rattle.outside.specs.TieSteps.{grew_by_one, cabinet_rests, sink_rests, wires_rest, clock_rests, drawn_nothing, drawn_one}

-- ---- a count of faults at one act

counts_act : (is_fault : Act → Bool) (x y : ℕ) (act : Act) → x ≤ y → (IsTrue (is_fault act) → Rose x y) → Counts is_fault x y (act ∷ [])
counts_act is_fault x y act later rose = record { later = later; rose = λ h. rose (alone (is_fault act) h) }
  where
    alone : (b : Bool) → (b || false) ≡ true → IsTrue b
    alone true h = refl
    alone false h = h

-- ---- a fetch

too_long : (x y : List ℕ) (more : List (List ℕ)) (name : List ℕ) → x ∷ y ∷ more ≡ name ∷ [] → ⊥
too_long x y more name is = let p : suc (suc (length more)) ≡ 1 = ap length is in omega (arith, p)

cabinet_act : {V : Type 0} (octets_of : V → List ℕ) (result : Result V FetchFault) (a b : CabinetState) (name : List ℕ)
    → IfOk result (λ file. HasFile a.files name (octets_of file)) → HasStayedAsTold a.files b.files → Notes result a.asked b.asked name
    → a.faults ≤ b.faults → (result ≡ Err fault.Failed → Rose a.faults b.faults) → CabinetDid a b (Fetched name (fetched_by octets_of result) ∷ [])
unfolding AreFiled
cabinet_act octets_of (Ok file) a b name has kept notes later rose = record {
  rests = λ h. absurd (true≢false h);
  files = kept;
  filed = (file_there a.files b.files name (octets_of file) kept has, tt);
  asked = grew_by_one AsksFor a.asked b.asked (Fetched name (Gave (octets_of file))) (name ∷ []) refl notes;
  faults = counts_act is_cabinet_fault a.faults b.faults (Fetched name (Gave (octets_of file))) later (λ h. absurd (true≢false (sym h)));
}
  where
    file_there : (before now : Option (List (List ℕ × List ℕ))) (name file : List ℕ) → HasStayedAsTold before now → HasFile before name file → HasFile now name file
    file_there None None name file kept has = tt
    file_there None (Some files) name file kept has = absurd kept
    file_there (Some old) None name file kept has = tt
    file_there (Some old) (Some files) name file kept has = rw kept has
cabinet_act octets_of (Err fault.Failed) a b name has kept notes later rose = record {
  rests = λ h. absurd (true≢false h);
  files = kept;
  filed = tt;
  asked = grew_by_one AsksFor a.asked b.asked (Fetched name Failed) (name ∷ []) refl notes;
  faults = counts_act is_cabinet_fault a.faults b.faults (Fetched name Failed) later (λ h. rose refl);
}
cabinet_act octets_of (Err (fault.NoMemory want)) a b name has kept notes later rose = record {
  rests = λ h. absurd (true≢false h);
  files = kept;
  filed = tt;
  asked = grew_by_one AsksFor a.asked b.asked (Fetched name Spent) notes.part (noted notes.part notes.rest name notes.is) notes.grew;
  faults = counts_act is_cabinet_fault a.faults b.faults (Fetched name Spent) later (λ h. absurd (true≢false (sym h)));
}
  where
    -- a beginning of a list of one name is that list or none
    noted : (part rest : List (List ℕ)) (name : List ℕ) → part ++ rest ≡ name ∷ [] → (part ≡ name ∷ []) ⊎ (part ≡ [])
    noted [] rest name is = inr refl
    noted (x ∷ []) [] name is = inl is
    noted (x ∷ []) (y ∷ rest) name is = absurd (too_long x y rest name is)
    noted (x ∷ y ∷ part) rest name is = absurd (too_long x y (part ++ rest) name is)

-- the acts and the cabinet's state are new, and all else is as it was
pub did_fetch : {V : Type 0} (octets_of : V → List ℕ) (result : Result V FetchFault) (t : Told) (acts : List Act) (b : CabinetState) (name : List ℕ)
    → acts ≡ t.acts ++ Fetched name (fetched_by octets_of result) ∷ []
    → IfOk result (λ file. HasFile t.cabinet.files name (octets_of file)) → HasStayedAsTold t.cabinet.files b.files → Notes result t.cabinet.asked b.asked name
    → t.cabinet.faults ≤ b.faults → (result ≡ Err fault.Failed → Rose t.cabinet.faults b.faults)
    → Did t (record t { acts = acts; cabinet = b }) (Fetched name (fetched_by octets_of result) ∷ [])
did_fetch octets_of result t acts b name grew has kept notes later rose =
    let act : Act = Fetched name (fetched_by octets_of result) in
    record {
      grew = grew;
      cabinet = cabinet_act octets_of result t.cabinet b name has kept notes later rose;
      sink = sink_rests t.sink act refl;
      wires = wires_rest t.wires act refl;
      clock = clock_rests t.clock act refl;
      words = drawn_nothing t.words;
      names = refl;
    }

-- ---- a write

sink_act : {T E : Type 0} (result : Result T E) (a b : SinkState) (piece : List ℕ)
    → OnOk result (Grew a.held b.held piece) → OnErr result (GrewPart a.held b.held piece) → HasCause a.faults b.faults result
    → SinkDid a b (Wrote piece (is_ok result) ∷ [])
sink_act (Ok done) a b piece whole part cause = record {
  rests = λ h. absurd (true≢false h);
  held = grew_by_one PutsInSink a.held b.held (Wrote piece true) piece refl whole;
  faults = counts_act is_sink_fault a.faults b.faults (Wrote piece true) cause.later (λ h. absurd (true≢false (sym h)));
}
sink_act (Err failed) a b piece whole part cause = record {
  rests = λ h. absurd (true≢false h);
  held = grew_by_one PutsInSink a.held b.held (Wrote piece false) part.part (part.rest, part.is) part.grew;
  faults = counts_act is_sink_fault a.faults b.faults (Wrote piece false) cause.later (λ h. cause.failed);
}

pub did_write : {T E : Type 0} (result : Result T E) (t : Told) (acts : List Act) (b : SinkState) (piece : List ℕ)
    → acts ≡ t.acts ++ Wrote piece (is_ok result) ∷ []
    → OnOk result (Grew t.sink.held b.held piece) → OnErr result (GrewPart t.sink.held b.held piece) → HasCause t.sink.faults b.faults result
    → Did t (record t { acts = acts; sink = b }) (Wrote piece (is_ok result) ∷ [])
did_write result t acts b piece grew whole part cause =
    let act : Act = Wrote piece (is_ok result) in
    record {
      grew = grew;
      cabinet = cabinet_rests t.cabinet act refl;
      sink = sink_act result t.sink b piece whole part cause;
      wires = wires_rest t.wires act refl;
      clock = clock_rests t.clock act refl;
      words = drawn_nothing t.words;
      names = refl;
    }

-- ---- a call of the wires, by what is told of it

pub did_call : (call : Call) (t : Told) (acts : List Act) (b : WiresState)
    → acts ≡ t.acts ++ Called (seen_of_call call) ∷ [] → Grew t.wires.calls b.calls (call ∷ [])
    → b.opened ≡ opened_by_call t.wires.opened (seen_of_call call) → b.listening ≡ listening_by_call t.wires.listening (seen_of_call call)
    → t.wires.faults ≤ b.faults → (IsTrue (failed_call (seen_of_call call)) → Rose t.wires.faults b.faults)
    → t.wires.turn_faults ≤ b.turn_faults → (IsTrue (failed_opening_call (seen_of_call call)) → Rose t.wires.turn_faults b.turn_faults)
    → (IsFalse (is_opening_call (seen_of_call call)) → b.turn_faults ≡ t.wires.turn_faults)
    → Did t (record t { acts = acts; wires = b }) (Called (seen_of_call call) ∷ [])
did_call call t acts b grew told opened listening later rose turn_later turn_rose turn_rests =
    let act : Act = Called (seen_of_call call) in
    record {
      grew = grew;
      cabinet = cabinet_rests t.cabinet act refl;
      sink = sink_rests t.sink act refl;
      wires = record {
        rests = λ h. absurd (true≢false h);
        calls = record { more = call ∷ []; are = refl; grew = told };
        opened = opened;
        listening = listening;
        faults = counts_act is_wires_fault t.wires.faults b.faults act later rose;
        turn_faults = counts_act is_opening_fault t.wires.turn_faults b.turn_faults act turn_later turn_rose;
        turns_rest = λ h. turn_rests (alone (is_opening_call (seen_of_call call)) h);
      };
      clock = clock_rests t.clock act refl;
      words = drawn_nothing t.words;
      names = refl;
    }
  where
    alone : (b : Bool) → (b || false) ≡ false → IsFalse b
    alone true h = h
    alone false h = refl

pub did_listen : {T E : Type 0} (result : Result T E) (t : Told) (acts : List Act) (b : WiresState) (address : List ℕ)
    → acts ≡ t.acts ++ Called (Listened address (is_ok result)) ∷ [] → Grew t.wires.calls b.calls (Listens address (is_ok result) ∷ [])
    → b.opened ≡ t.wires.opened → b.listening ≡ (t.wires.listening || is_ok result)
    → t.wires.faults ≤ b.faults → OnErr result (Rose t.wires.faults b.faults) → t.wires.turn_faults ≤ b.turn_faults → OnErr result (Rose t.wires.turn_faults b.turn_faults)
    → Did t (record t { acts = acts; wires = b }) (Called (Listened address (is_ok result)) ∷ [])
did_listen (Ok done) t acts b address grew told opened listening later rose turn_later turn_rose =
    did_call (Listens address true) t acts b grew told opened listening later (λ h. absurd (true≢false (sym h))) turn_later (λ h. absurd (true≢false (sym h))) (λ h. absurd (true≢false h))
did_listen (Err failed) t acts b address grew told opened listening later rose turn_later turn_rose =
    did_call (Listens address false) t acts b grew told opened listening later (λ h. rose) turn_later (λ h. turn_rose) (λ h. absurd (true≢false h))

pub did_dial : {E : Type 0} (result : Result Conn E) (t : Told) (acts : List Act) (b : WiresState) (address : List ℕ)
    → acts ≡ t.acts ++ Called (Dialled address (dialled result)) ∷ [] → Grew t.wires.calls b.calls (Dials address (dialled result) ∷ [])
    → b.opened ≡ opened_by_dial result t.wires.opened → b.listening ≡ t.wires.listening
    → t.wires.faults ≤ b.faults → OnErr result (Rose t.wires.faults b.faults) → t.wires.turn_faults ≤ b.turn_faults → OnErr result (Rose t.wires.turn_faults b.turn_faults)
    → Did t (record t { acts = acts; wires = b }) (Called (Dialled address (dialled result)) ∷ [])
did_dial (Ok conn) t acts b address grew told opened listening later rose turn_later turn_rose =
    did_call (Dials address (Some conn.0)) t acts b grew told opened listening later (λ h. absurd (true≢false (sym h))) turn_later (λ h. absurd (true≢false (sym h))) (λ h. absurd (true≢false h))
did_dial (Err failed) t acts b address grew told opened listening later rose turn_later turn_rose =
    did_call (Dials address None) t acts b grew told opened listening later (λ h. rose) turn_later (λ h. turn_rose) (λ h. absurd (true≢false h))

unchanged : (x y : ℕ) → y ≡ x → x ≤ y
unchanged x y is = omega (arith, is)

-- a turn that failed
turn_failed : (what : Happening) (x y : ℕ) → (what ≡ happening.Failed → Rose x y) → IsTrue (failed_call (Turned None what)) → Rose x y
turn_failed (happening.Accepted conn) x y rose h = absurd (true≢false (sym h))
turn_failed (happening.Readable conn) x y rose h = absurd (true≢false (sym h))
turn_failed (happening.Writable conn) x y rose h = absurd (true≢false (sym h))
turn_failed happening.Quiet x y rose h = absurd (true≢false (sym h))
turn_failed happening.Ended x y rose h = absurd (true≢false (sym h))
turn_failed happening.Failed x y rose h = rose refl

pub did_turn : (until : Option ℕ) (what : Happening) (t : Told) (acts : List Act) (b : WiresState)
    → acts ≡ t.acts ++ Called (Turned until what) ∷ [] → Grew t.wires.calls b.calls (Turns until what ∷ [])
    → b.opened ≡ opened_by_turn what t.wires.opened → b.listening ≡ t.wires.listening
    → t.wires.faults ≤ b.faults → (what ≡ happening.Failed → Rose t.wires.faults b.faults)
    → t.wires.turn_faults ≤ b.turn_faults → (what ≡ happening.Failed → Rose t.wires.turn_faults b.turn_faults)
    → Did t (record t { acts = acts; wires = b }) (Called (Turned until what) ∷ [])
did_turn until what t acts b grew told opened listening later rose turn_later turn_rose =
    did_call (Turns until what) t acts b grew told opened listening later (turn_failed what t.wires.faults b.faults rose) turn_later
    (turn_failed what t.wires.turn_faults b.turn_faults turn_rose) (λ h. absurd (true≢false h))

-- a read that failed
read_failed : (answer : ReadAnswer) (into : List ℕ) (x y : ℕ) → (answer ≡ read_answer.Failed → Rose x y) → IsTrue (failed_call (Read 0 0 (reading_of answer into))) → Rose x y
read_failed (read_answer.Some n) into x y rose h = absurd (true≢false (sym h))
read_failed read_answer.NotNow into x y rose h = absurd (true≢false (sym h))
read_failed read_answer.End into x y rose h = absurd (true≢false (sym h))
read_failed read_answer.Failed into x y rose h = rose refl

-- no octet waits at a connection of which that is told, and 0 is said where it isn't
pub none_wait : (lines : Option Lines) (conn : ℕ) (shut : Bool) → IfSome lines (λ before. ((before conn).waits ≡ []) × ((before conn).shut ≡ shut)) → count_waiting_at_connection lines conn ≡ 0
none_wait None conn shut p = refl
none_wait (Some lines) conn shut p = ap (λ (z : List ℕ). length z) p.0

pub did_read : (conn size waits : ℕ) (answer : ReadAnswer) (into : List ℕ) (t : Told) (acts : List Act) (b : WiresState)
    → acts ≡ t.acts ++ Called (Read conn size (reading_of answer into)) ∷ [] → Grew t.wires.calls b.calls (Reads conn size waits (reading_of answer into) ∷ [])
    → b.opened ≡ t.wires.opened → b.listening ≡ t.wires.listening
    → t.wires.faults ≤ b.faults → (answer ≡ read_answer.Failed → Rose t.wires.faults b.faults) → b.turn_faults ≡ t.wires.turn_faults
    → Did t (record t { acts = acts; wires = b }) (Called (Read conn size (reading_of answer into)) ∷ [])
did_read conn size waits answer into t acts b grew told opened listening later rose turn_rests =
    did_call (Reads conn size waits (reading_of answer into)) t acts b grew told opened listening later (read_failed answer into t.wires.faults b.faults rose)
    (unchanged t.wires.turn_faults b.turn_faults turn_rests) (λ h. absurd (true≢false (sym h))) (λ h. turn_rests)

-- a write that failed
send_failed : (answer : WriteAnswer) (x y : ℕ) → (answer ≡ write_answer.Failed → Rose x y) → IsTrue (failed_call (Sent 0 [] answer)) → Rose x y
send_failed (write_answer.Some n) x y rose h = absurd (true≢false (sym h))
send_failed write_answer.NotNow x y rose h = absurd (true≢false (sym h))
send_failed write_answer.Failed x y rose h = rose refl

pub did_send : (conn : ℕ) (piece : List ℕ) (answer : WriteAnswer) (t : Told) (acts : List Act) (b : WiresState)
    → acts ≡ t.acts ++ Called (Sent conn piece answer) ∷ [] → Grew t.wires.calls b.calls (Writes conn piece answer ∷ [])
    → b.opened ≡ t.wires.opened → b.listening ≡ t.wires.listening
    → t.wires.faults ≤ b.faults → (answer ≡ write_answer.Failed → Rose t.wires.faults b.faults) → b.turn_faults ≡ t.wires.turn_faults
    → Did t (record t { acts = acts; wires = b }) (Called (Sent conn piece answer) ∷ [])
did_send conn piece answer t acts b grew told opened listening later rose turn_rests =
    did_call (Writes conn piece answer) t acts b grew told opened listening later (send_failed answer t.wires.faults b.faults rose)
    (unchanged t.wires.turn_faults b.turn_faults turn_rests) (λ h. absurd (true≢false (sym h))) (λ h. turn_rests)

pub did_close : (conn : ℕ) (t : Told) (acts : List Act) (b : WiresState)
    → acts ≡ t.acts ++ Called (Closed conn) ∷ [] → Grew t.wires.calls b.calls (Closes conn ∷ [])
    → b.opened ≡ t.wires.opened → b.listening ≡ t.wires.listening → t.wires.faults ≤ b.faults → b.turn_faults ≡ t.wires.turn_faults
    → Did t (record t { acts = acts; wires = b }) (Called (Closed conn) ∷ [])
did_close conn t acts b grew told opened listening later turn_rests =
    did_call (Closes conn) t acts b grew told opened listening later (λ h. absurd (true≢false (sym h)))
    (unchanged t.wires.turn_faults b.turn_faults turn_rests) (λ h. absurd (true≢false (sym h))) (λ h. turn_rests)

-- ---- a moment and a word

pub did_ask : (moment : ℕ) (t : Told) (acts : List Act) (b : ClockState) → acts ≡ t.acts ++ Asked moment ∷ [] → Grew t.clock.answers b.answers (moment ∷ [])
    → Did t (record t { acts = acts; clock = b }) (Asked moment ∷ [])
did_ask moment t acts b grew told = record {
  grew = grew;
  cabinet = cabinet_rests t.cabinet (Asked moment) refl;
  sink = sink_rests t.sink (Asked moment) refl;
  wires = wires_rest t.wires (Asked moment) refl;
  clock = record { rests = λ h. absurd (true≢false h); answers = told };
  words = drawn_nothing t.words;
  names = refl;
}

pub did_draw : (word : ℕ) (t : Told) (acts : List Act) (b : Stream) → acts ≡ t.acts ++ Drew word ∷ [] → (word, b) ≡ next_u64 t.words
    → Did t (record t { acts = acts; words = b }) (Drew word ∷ [])
did_draw word t acts b grew next = record {
  grew = grew;
  cabinet = cabinet_rests t.cabinet (Drew word) refl;
  sink = sink_rests t.sink (Drew word) refl;
  wires = wires_rest t.wires (Drew word) refl;
  clock = clock_rests t.clock (Drew word) refl;
  words = drawn_one t.words b word (ap (λ (p : ℕ × Stream). p.0) next) (ap (λ (p : ℕ × Stream). p.1) next);
  names = refl;
}
