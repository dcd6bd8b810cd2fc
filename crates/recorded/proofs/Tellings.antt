-- What is told outside, as the code says what it did: one act of the program, which was done inside too, or was not.
use Rattle.std.proofs.Common.{◌≡◌, ◌≤◌, ℕ, ◌+◌, Bool, true, false, ◌||◌, List, [], ◌∷◌, ◌++◌, map, Option, None, Some, IsFalse, count_by, cond, fold, refl, sym, ap, ap₂, subst, ◌∙◌, true≢false, arith}
use Rattle.std.proofs.lemmas.List.Sums.{sum_by_push}
use Rattle.link_trait.specs.Outside.{Rose}
use Rattle.link_trait.specs.States.{SinkState, WiresState}
use Rattle.link_trait.specs.Wires.{Call, Listens, Dials, Turns, Reads, Writes, Closes}
use Rattle.link_trait.specs.declared.wires.Happening.TheVariants as happening
use Rattle.link_trait.specs.declared.wires.WriteAnswer.TheVariants as write_answer
use Rattle.outside.specs.Acts.{SeenCall, Listened, Dialled, Turned, Read, Sent, Closed, Act, Fetched, Wrote, Called, Asked, Drew}
use Rattle.outside.specs.Acts.{is_fetch, is_write, is_call, is_question, is_opening_act, is_sink_fault, is_wires_fault, is_opening_fault, calls_in_acts, words_in_acts}
use Rattle.outside.specs.Seen.{seen_of_call, opened_by_call, listening_by_call}
use Rattle.outside.specs.Ties.{Counts, PutsInSink, CabinetDid, SinkDid, WiresDid, ClockDid, AreDrawn}
use Rattle.outside.specs.Doings.{Told, Did}
use Rattle.outside.specs.TieSteps.{grew_by_one, cabinet_rests, clock_rests, drawn_nothing}
use Rattle.recorded.specs.Recordings.{octets_written_by, octets_written_in}
use Rattle.recorded.specs.Telling.{told_through}
use Rattle.recorded.proofs.Growing.{written_more, written_same, no_fault}

-- ---- counts

count_more : (is : Act → Bool) (xs : List Act) (x : Act) → count_by is (xs ++ x ∷ []) ≡ count_by is xs + cond (is x) 1 0
count_more is xs x = sum_by_push (λ (y : Act). cond (is y) 1 0) xs x

count_same : (is : Act → Bool) (xs : List Act) (x : Act) → IsFalse (is x) → count_by is (xs ++ x ∷ []) ≡ count_by is xs
count_same is xs x h =
    let more : count_by is (xs ++ x ∷ []) ≡ count_by is xs + 0 = count_more is xs x ∙ ap (λ (b : Bool). count_by is xs + cond b 1 0) h in
    omega (arith, more)

not_below : (x y : ℕ) → y ≡ x + 0 → x ≤ y
not_below x y p = omega (arith, p)

one_more : (x y : ℕ) → y ≡ x + 1 → x ≤ y
one_more x y p = omega (arith, p)

risen : (x y : ℕ) → y ≡ x + 1 → Rose x y
risen x y p = omega (arith, p)

counts_more : (is : Act → Bool) (xs : List Act) (x : Act) → Counts is (count_by is xs) (count_by is (xs ++ x ∷ [])) (x ∷ [])
counts_more is xs x = by_test (is x) refl
  where
    by_test : (b : Bool) → is x ≡ b → Counts is (count_by is xs) (count_by is (xs ++ x ∷ [])) (x ∷ [])
    by_test true p =
        let more : count_by is (xs ++ x ∷ []) ≡ count_by is xs + 1 = count_more is xs x ∙ ap (λ (b : Bool). count_by is xs + cond b 1 0) p in
        record { later = one_more (count_by is xs) (count_by is (xs ++ x ∷ [])) more; rose = λ h. risen (count_by is xs) (count_by is (xs ++ x ∷ [])) more }
    by_test false p =
        let more : count_by is (xs ++ x ∷ []) ≡ count_by is xs + 0 = count_more is xs x ∙ ap (λ (b : Bool). count_by is xs + cond b 1 0) p in
        record { later = not_below (count_by is xs) (count_by is (xs ++ x ∷ [])) more; rose = λ h. absurd (true≢false (sym h ∙ ap (λ (b : Bool). b || false) p)) }

alone : (b : Bool) → (b || false) ≡ false → IsFalse b
alone true h = h
alone false h = refl

-- ---- the sink

puts : (x : Act) → PutsInSink x (octets_written_by x)
puts (Fetched name answer) = refl
puts (Wrote piece true) = refl
puts (Wrote piece false) = (piece, refl)
puts (Called call) = refl
puts (Asked moment) = refl
puts (Drew word) = refl

sink_by : List ℕ → ℕ → SinkState
sink_by octets faults = record { held = Some octets; faults = faults }

sink_did : (xs : List Act) (x : Act) → SinkDid (sink_by (octets_written_in xs) (count_by is_sink_fault xs)) (sink_by (octets_written_in (xs ++ x ∷ [])) (count_by is_sink_fault (xs ++ x ∷ []))) (x ∷ [])
unfolding sink_by
sink_did xs x = record {
  rests = λ h. let quiet : IsFalse (is_write x) = alone (is_write x) h in ap₂ sink_by (written_same xs x quiet) (count_same is_sink_fault xs x (no_fault x quiet));
  held = grew_by_one PutsInSink (Some (octets_written_in xs)) (Some (octets_written_in (xs ++ x ∷ []))) x (octets_written_by x) (puts x) (written_more xs x);
  faults = counts_more is_sink_fault xs x;
}

-- ---- the wires

call_of_seen : SeenCall → Call
call_of_seen (Listened address listens) = Listens address listens
call_of_seen (Dialled address conn) = Dials address conn
call_of_seen (Turned until what) = Turns until what
call_of_seen (Read conn size reading) = Reads conn size 0 reading
call_of_seen (Sent conn piece answer) = Writes conn piece answer
call_of_seen (Closed conn) = Closes conn

seen_again : (call : SeenCall) → seen_of_call (call_of_seen call) ≡ call
unfolding call_of_seen
seen_again (Listened address listens) = refl
seen_again (Dialled address conn) = refl
seen_again (Turned until what) = refl
seen_again (Read conn size reading) = refl
seen_again (Sent conn piece answer) = refl
seen_again (Closed conn) = refl

seen_all : (calls : List SeenCall) → map seen_of_call (map call_of_seen calls) ≡ calls
seen_all [] = refl
seen_all (call ∷ calls) = ap₂ (λ (x : SeenCall) (xs : List SeenCall). x ∷ xs) (seen_again call) (seen_all calls)

no_call_fault : (x : Act) → IsFalse (is_call x) → IsFalse (is_wires_fault x)
no_call_fault (Fetched name answer) h = refl
no_call_fault (Wrote piece done) h = refl
no_call_fault (Called call) h = absurd (true≢false h)
no_call_fault (Asked moment) h = refl
no_call_fault (Drew word) h = refl

no_opening_fault : (x : Act) → IsFalse (is_opening_act x) → IsFalse (is_opening_fault x)
no_opening_fault (Fetched name answer) h = refl
no_opening_fault (Wrote piece done) h = refl
no_opening_fault (Called (Listened address listens)) h = absurd (true≢false h)
no_opening_fault (Called (Dialled address conn)) h = absurd (true≢false h)
no_opening_fault (Called (Turned until what)) h = absurd (true≢false h)
no_opening_fault (Called (Read conn size reading)) h = refl
no_opening_fault (Called (Sent conn piece answer)) h = refl
no_opening_fault (Called (Closed conn)) h = refl
no_opening_fault (Asked moment) h = refl
no_opening_fault (Drew word) h = refl

no_opening : (x : Act) → IsFalse (is_call x) → IsFalse (is_opening_act x)
no_opening (Fetched name answer) h = refl
no_opening (Wrote piece done) h = refl
no_opening (Called call) h = absurd (true≢false h)
no_opening (Asked moment) h = refl
no_opening (Drew word) h = refl

no_calls : (x : Act) → IsFalse (is_call x) → calls_in_acts (x ∷ []) ≡ []
no_calls (Fetched name answer) h = refl
no_calls (Wrote piece done) h = refl
no_calls (Called call) h = absurd (true≢false h)
no_calls (Asked moment) h = refl
no_calls (Drew word) h = refl

wires_by : ℕ → Bool → ℕ → ℕ → WiresState
wires_by opened listening faults turn_faults = record { calls = None; lines = None; opened = opened; listening = listening; faults = faults; turn_faults = turn_faults }

wires_are : (a b : ℕ) (p q : Bool) (m n s t : ℕ) → b ≡ a → q ≡ p → n ≡ m → t ≡ s → wires_by b q n t ≡ wires_by a p m s
wires_are a b p q m n s t at listening faults turns =
    ap (λ (x : ℕ). wires_by x q n t) at ∙ ap (λ (x : Bool). wires_by a x n t) listening ∙ ap₂ (λ (x y : ℕ). wires_by a p x y) faults turns

wires_did : (xs : List Act) (x : Act) (a b : ℕ) (p q : Bool) → b ≡ fold opened_by_call a (calls_in_acts (x ∷ [])) → q ≡ fold listening_by_call p (calls_in_acts (x ∷ []))
    → WiresDid (wires_by a p (count_by is_wires_fault xs) (count_by is_opening_fault xs)) (wires_by b q (count_by is_wires_fault (xs ++ x ∷ [])) (count_by is_opening_fault (xs ++ x ∷ []))) (x ∷ [])
unfolding wires_by
wires_did xs x a b p q at listening = record {
  rests = λ h.
      let quiet : IsFalse (is_call x) = alone (is_call x) h in
      let none : calls_in_acts (x ∷ []) ≡ [] = no_calls x quiet in
      wires_are a b p q (count_by is_wires_fault xs) (count_by is_wires_fault (xs ++ x ∷ [])) (count_by is_opening_fault xs) (count_by is_opening_fault (xs ++ x ∷ []))
      (at ∙ ap (λ (calls : List SeenCall). fold opened_by_call a calls) none) (listening ∙ ap (λ (calls : List SeenCall). fold listening_by_call p calls) none)
      (count_same is_wires_fault xs x (no_call_fault x quiet)) (count_same is_opening_fault xs x (no_opening_fault x (no_opening x quiet)));
  calls = record { more = map call_of_seen (calls_in_acts (x ∷ [])); are = seen_all (calls_in_acts (x ∷ [])); grew = tt };
  opened = at;
  listening = listening;
  faults = counts_more is_wires_fault xs x;
  turn_faults = counts_more is_opening_fault xs x;
  turns_rest = λ h. count_same is_opening_fault xs x (no_opening_fault x (alone (is_opening_act x) h));
}

-- ---- an act

-- the program's act, by what it did inside
did_at : (xs : List Act) (x : Act) (t u : Told) → CabinetDid t.cabinet u.cabinet (x ∷ [])
    → u.wires.opened ≡ fold opened_by_call t.wires.opened (calls_in_acts (x ∷ [])) → u.wires.listening ≡ fold listening_by_call t.wires.listening (calls_in_acts (x ∷ []))
    → ClockDid t.clock u.clock (x ∷ []) → AreDrawn t.words (words_in_acts (x ∷ [])) u.words → u.names ≡ t.names
    → Did (told_through xs t) (told_through (xs ++ x ∷ []) u) (x ∷ [])
unfolding sink_by wires_by
did_at xs x t u cabinet opened listening clock words names = record {
  grew = refl;
  cabinet = cabinet;
  sink = sink_did xs x;
  wires = wires_did xs x t.wires.opened u.wires.opened t.wires.listening u.wires.listening opened listening;
  clock = clock;
  words = words;
  names = names;
}

-- it was done inside too
pub did_too : (x : Act) (xs ys : List Act) (t u : Told) → ys ≡ xs ++ x ∷ [] → Did t u (x ∷ []) → Did (told_through xs t) (told_through ys u) (x ∷ [])
did_too x xs ys t u is did =
    subst (λ (zs : List Act). Did (told_through xs t) (told_through zs u) (x ∷ [])) (sym is)
    (did_at xs x t u did.cabinet did.wires.opened did.wires.listening did.clock did.words did.names)

-- what waited was written out before
pub did_behind : (x : Act) (xs ys zs : List Act) (s t u : Told) → told_through ys t ≡ told_through xs s → zs ≡ ys ++ x ∷ [] → Did t u (x ∷ [])
    → Did (told_through xs s) (told_through zs u) (x ∷ [])
did_behind x xs ys zs s t u before is did = subst (λ (a : Told). Did a (told_through zs u) (x ∷ [])) before (did_too x ys zs t u is did)

-- it wasn't done inside
did_alone : (x : Act) (xs : List Act) (t : Told) → IsFalse (is_fetch x) → IsFalse (is_question x) → words_in_acts (x ∷ []) ≡ []
    → t.wires.opened ≡ fold opened_by_call t.wires.opened (calls_in_acts (x ∷ [])) → t.wires.listening ≡ fold listening_by_call t.wires.listening (calls_in_acts (x ∷ []))
    → Did (told_through xs t) (told_through (xs ++ x ∷ []) t) (x ∷ [])
did_alone x xs t no_fetch no_question no_word opened listening =
    did_at xs x t t (cabinet_rests t.cabinet x no_fetch) opened listening (clock_rests t.clock x no_question)
    (subst (λ (ws : List ℕ). AreDrawn t.words ws t.words) (sym no_word) (drawn_nothing t.words)) refl

pub did_take : (xs ys : List Act) (t : Told) (piece : List ℕ) → ys ≡ xs ++ Wrote piece true ∷ [] → Did (told_through xs t) (told_through ys t) (Wrote piece true ∷ [])
did_take xs ys t piece is =
    subst (λ (zs : List Act). Did (told_through xs t) (told_through zs t) (Wrote piece true ∷ [])) (sym is) (did_alone (Wrote piece true) xs t refl refl refl refl refl)

pub did_refuse : (xs ys : List Act) (t : Told) (piece : List ℕ) → ys ≡ xs ++ Wrote piece false ∷ [] → Did (told_through xs t) (told_through ys t) (Wrote piece false ∷ [])
did_refuse xs ys t piece is =
    subst (λ (zs : List Act). Did (told_through xs t) (told_through zs t) (Wrote piece false ∷ [])) (sym is) (did_alone (Wrote piece false) xs t refl refl refl refl refl)

-- a call that was refused, where what waited couldn't be written out
refused_call : (call : SeenCall) (xs ys zs : List Act) (s t : Told) → told_through ys t ≡ told_through xs s → zs ≡ ys ++ Called call ∷ []
    → t.wires.opened ≡ opened_by_call t.wires.opened call → t.wires.listening ≡ listening_by_call t.wires.listening call
    → Did (told_through xs s) (told_through zs t) (Called call ∷ [])
refused_call call xs ys zs s t before is opened listening =
    subst (λ (a : Told). Did a (told_through zs t) (Called call ∷ [])) before
    (subst (λ (ws : List Act). Did (told_through ys t) (told_through ws t) (Called call ∷ [])) (sym is) (did_alone (Called call) ys t refl refl refl opened listening))

pub did_not_listen : (xs ys zs : List Act) (s t : Told) (address : List ℕ) → told_through ys t ≡ told_through xs s → zs ≡ ys ++ Called (Listened address false) ∷ []
    → Did (told_through xs s) (told_through zs t) (Called (Listened address false) ∷ [])
did_not_listen xs ys zs s t address before is = refused_call (Listened address false) xs ys zs s t before is refl (or_none t.wires.listening)
  where
    or_none : (b : Bool) → b ≡ (b || false)
    or_none true = refl
    or_none false = refl

pub did_not_dial : (xs ys zs : List Act) (s t : Told) (address : List ℕ) → told_through ys t ≡ told_through xs s → zs ≡ ys ++ Called (Dialled address None) ∷ []
    → Did (told_through xs s) (told_through zs t) (Called (Dialled address None) ∷ [])
did_not_dial xs ys zs s t address before is = refused_call (Dialled address None) xs ys zs s t before is refl refl

pub did_not_turn : (xs ys zs : List Act) (s t : Told) (until : Option ℕ) → told_through ys t ≡ told_through xs s → zs ≡ ys ++ Called (Turned until happening.Failed) ∷ []
    → Did (told_through xs s) (told_through zs t) (Called (Turned until happening.Failed) ∷ [])
did_not_turn xs ys zs s t until before is = refused_call (Turned until happening.Failed) xs ys zs s t before is refl refl

pub did_not_send : (xs ys zs : List Act) (s t : Told) (conn : ℕ) (piece : List ℕ) → told_through ys t ≡ told_through xs s → zs ≡ ys ++ Called (Sent conn piece write_answer.Failed) ∷ []
    → Did (told_through xs s) (told_through zs t) (Called (Sent conn piece write_answer.Failed) ∷ [])
did_not_send xs ys zs s t conn piece before is = refused_call (Sent conn piece write_answer.Failed) xs ys zs s t before is refl refl

pub did_not_close : (xs ys zs : List Act) (s t : Told) (conn : ℕ) → told_through ys t ≡ told_through xs s → zs ≡ ys ++ Called (Closed conn) ∷ []
    → Did (told_through xs s) (told_through zs t) (Called (Closed conn) ∷ [])
did_not_close xs ys zs s t conn before is = refused_call (Closed conn) xs ys zs s t before is refl refl
