-- How the lines of events that were written are the text of what a part of the loop prints.
use Rattle.loop_session.specs.Keeping.{kept_ends}
use Rattle.std.proofs.Common.{if◌then◌else◌, ◌≡◌, ℕ, ◌≤◌, ◌<◌, Bool, true, false, true≢false, not, ◌||◌, List, [], ◌∷◌, ◌++◌, length, Option, option_map, is_some, Result, Ok, Err, OnOk, IfOk, refl, sym, ◌∙◌, ap, subst, append-nil, inl, inr, arith, eqb-true}
use Rattle.std.proofs.lemmas.Bool.{cases_Bool}
use Rattle.std.specs.Prelude.{◌==◌}
use Rattle.er_base.specs.LineTexts.{line_text}
use Rattle.er_base.specs.declared.no_memory.NoMemory.{NoMemory as Want}
use Rattle.er_trace.specs.declared.event.Event.{Event as Line}
use Rattle.er_trace.specs.Texts.{entry_words}
use Rattle.trace_model.specs.Printed.{outcomes_text}
use Rattle.er_end_model.specs.Ends.{Event}
use Rattle.er_end_model.specs.Outcomes.{Outcome}
use Rattle.er_end.specs.KeptEnds.{KEnd, after_break, kept_end_behind_event, tells}
use Rattle.er_end.specs.Shown.{refusal_view}
use Rattle.er_users.specs.Saying.{SpokenByUser}
use Rattle.er_users.specs.Users.{Mind}
use Rattle.loop_model.specs.Grammar.{IsInGrammar, AreInGrammar}
use Rattle.loop_model.specs.Journals.{JournalEntry, entry_text}
use Rattle.loop_model.specs.Sessions.{Rules, Session, GivenToSession, Sends, Stalls, event_of, journal_event_of_given, breaks, end_after, outcomes_of_given_event, octets_in, heard_by_user, refused_in, refusal_heard, notes, entry_of, stalled, joined, fed, replied}
use Rattle.journal.specs.Tallies.{IsTallyOf, IsTallyOfEntry}
use Rattle.outside.specs.Acts.{Act, Wrote}
use Rattle.outside.specs.Chains.{did_nothing, did_then}
use Rattle.outside.specs.Doings.{Told, Did}
use Rattle.outside.specs.Scripts.{printing}
use Rattle.outside.specs.Ties.{AreDrawn}
use Rattle.loop_session.specs.declared.gives.Came.{Came}
use Rattle.loop_session.specs.declared.loop_fault.LoopFault.{LoopFault}
use Rattle.loop_session.specs.declared.loop_fault.LoopFault.TheVariants.{Sink, NoMemory}
use Rattle.loop_session.specs.Giving.{journal_entry_of_event, Tells, too_many, joined_to, octets_of_given_event, session_behind_event, Gave, HeardSo}
use Rattle.loop_session.specs.Parts.{writes_of_entries, OnlyPrints, Breaks, Puts, Printed, Prints, Chooses, with_mind}
use Rattle.loop_session.specs.Writes.{writes_parts, begun_more, begun_behind}

pub nothing_put : (a : Told) (line : List ℕ) → (length line == 0) ≡ true → Did a a (printing line)
nothing_put a [] p = did_nothing a
nothing_put a (x ∷ xs) p = absurd (let q : ⊥ = omega (arith, eqb-true (length (x ∷ xs)) 0 p) in q)

-- lines that there are
pub some_lines : (line : List ℕ) → (length line == 0) ≡ false → 0 < length line
some_lines [] p = absurd (true≢false p)
some_lines (x ∷ xs) p = omega arith

pub all_put : (a b : Told) (line : List ℕ) → (length line == 0) ≡ false → Did a b (Wrote line true ∷ []) → Did a b (printing line)
all_put a b [] p q = absurd (true≢false p)
all_put a b (x ∷ xs) p q = q

-- nothing else is done by a write
pub only_write : (a b : Told) (line : List ℕ) (done : Bool) → Did a b (Wrote line done ∷ []) → OnlyPrints a b
unfolding AreDrawn
only_write a b line done p = record { wires = p.wires.rests refl; clock = p.clock.rests refl; words = p.words; later = p.sink.faults.later }

pub only_none : (a : Told) → OnlyPrints a a
only_none a = record { wires = refl; clock = refl; words = refl; later = omega arith }

pub only_then : (a b c : Told) → OnlyPrints a b → OnlyPrints b c → OnlyPrints a c
only_then a b c p q = record {
  wires = q.wires ∙ p.wires;
  clock = q.clock ∙ p.clock;
  words = q.words ∙ p.words;
  later = (let u : a.sink.faults ≤ b.sink.faults = p.later in let v : b.sink.faults ≤ c.sink.faults = q.later in omega (arith, u, v));
}

-- ---- a part that broke off at once

-- the sink failed
pub put_broke : (a b : Told) (line : List ℕ) → (length line == 0) ≡ false → Did a b (Wrote line false ∷ []) → Breaks a b (printing line) Sink
put_broke a b [] p q = absurd (true≢false p)
put_broke a b (x ∷ xs) p q = record {
  acts = Wrote (x ∷ xs) false ∷ [];
  did = q;
  begun = record { done = []; left = Wrote (x ∷ xs) true ∷ []; is = refl; breaks = record { piece = x ∷ xs; rest = []; next = refl; are = refl } };
}

-- memory ran out before anything was written
pub breaks_wanted : (a : Told) (all : List Act) (want : Want) → Breaks a a all (NoMemory want)
breaks_wanted a all want = record { acts = []; did = did_nothing a; begun = record { done = []; left = all; is = refl; breaks = refl } }

wanted_as : (a : Told) (all : List Act) (fault : LoopFault) (want : Want) → fault ≡ NoMemory want → Breaks a a all fault
wanted_as a all fault want p = subst (λ z. Breaks a a all z) (sym p) (breaks_wanted a all want)

pub puts_wanted : {T : Type 0} (a : Told) (all : List Act) (res : Result T LoopFault) (fault : LoopFault) (want : Want)
    → res ≡ Err fault → fault ≡ NoMemory want → Puts a a all res
puts_wanted a all (Ok done) fault want p q = absurd cc
puts_wanted a all (Err other) fault want p q = wanted_as a all other want cc

pub prints_wanted : {T S : Type 0} (a : Told) (new : S) (o : S × List JournalEntry) (res : Result T LoopFault) (fault : LoopFault) (want : Want)
    → res ≡ Err fault → fault ≡ NoMemory want → Prints a a new o res
prints_wanted a new o (Ok done) fault want p q = absurd cc
prints_wanted a new o (Err other) fault want p q = wanted_as a (writes_of_entries o.1) other want cc

pub wanted : {T S A : Type 0} (a : Told) (new : S) (plain : A) (model : A → S × List JournalEntry) (res : Result T LoopFault) (fault : LoopFault) (want : Want)
    → res ≡ Err fault → fault ≡ NoMemory want → Chooses a a new model res
wanted a new plain model (Ok done) fault want p q = absurd cc
wanted a new plain model (Err other) fault want p q = record { answers = plain; breaks = wanted_as a (writes_of_entries (model plain).1) other want cc }

-- ---- events

pub grammar_parts : (xs ys : List JournalEntry) → AreInGrammar xs → AreInGrammar ys → AreInGrammar (xs ++ ys)
grammar_parts [] ys p q = q
grammar_parts (x ∷ xs) ys p q = (p.0, grammar_parts xs ys p.1 q)

one_written : (x : JournalEntry) → printing (entry_text x) ≡ writes_of_entries (x ∷ [])
one_written x = sym (append-nil (printing (entry_text x)))

-- the lines of one event
pub line_written : (line : List ℕ) (x : JournalEntry) → line ≡ entry_text x → printing line ≡ writes_of_entries (x ∷ [])
line_written line x is = ap printing is ∙ one_written x

-- ---- one part behind another

pub breaks_as : (a b : Told) (xs ys : List Act) (fault : LoopFault) → xs ≡ ys → Breaks a b xs fault → Breaks a b ys fault
breaks_as a b xs ys fault p q = subst (λ z. Breaks a b z fault) p q

-- a part that broke off, with all that would have come behind it
pub breaks_more : (a b : Told) (xs ys : List Act) (fault : LoopFault) → Breaks a b xs fault → Breaks a b (xs ++ ys) fault
breaks_more a b xs ys fault p = record { acts = p.acts; did = p.did; begun = begun_more fault xs ys p.acts p.begun }

-- a part behind one that was done broke off
pub breaks_behind : (a b c : Told) (xs ys : List Act) (fault : LoopFault) → Did a b xs → Breaks b c ys fault → Breaks a c (xs ++ ys) fault
breaks_behind a b c xs ys fault p q = record { acts = xs ++ q.acts; did = did_then a b c xs q.acts p q.did; begun = begun_behind fault xs ys q.acts q.begun }

pub breaks_first : (a b : Told) (xs ys : List JournalEntry) (fault : LoopFault) → Breaks a b (writes_of_entries xs) fault → Breaks a b (writes_of_entries (xs ++ ys)) fault
breaks_first a b xs ys fault p =
    breaks_as a b (writes_of_entries xs ++ writes_of_entries ys) (writes_of_entries (xs ++ ys)) fault (sym (writes_parts xs ys)) (breaks_more a b (writes_of_entries xs) (writes_of_entries ys) fault p)

pub breaks_then : {S : Type 0} (a b c : Told) (mid : S) (x : S × List JournalEntry) (ys : List JournalEntry) (fault : LoopFault)
    → Printed a b mid x → Breaks b c (writes_of_entries ys) fault → Breaks a c (writes_of_entries (x.1 ++ ys)) fault
breaks_then a b c mid x ys fault p q =
    breaks_as a c (writes_of_entries x.1 ++ writes_of_entries ys) (writes_of_entries (x.1 ++ ys)) fault (sym (writes_parts x.1 ys))
    (breaks_behind a b c (writes_of_entries x.1) (writes_of_entries ys) fault p.did q)

pub printed_then : {S T : Type 0} (a b c : Told) (mid : S) (new : T) (x : S × List JournalEntry) (y : T × List JournalEntry)
    → Printed a b mid x → Printed b c new y → Printed a c new (y.0, x.1 ++ y.1)
printed_then a b c mid new x y p q = record {
  state = q.state;
  did = subst (λ (z : List Act). Did a c z) (sym (writes_parts x.1 y.1)) (did_then a b c (writes_of_entries x.1) (writes_of_entries y.1) p.did q.did);
  in_grammar = grammar_parts x.1 y.1 p.in_grammar q.in_grammar;
}

pub printed_nothing : {S : Type 0} (a : Told) (s : S) → Printed a a s (s, [])
printed_nothing a s = record { state = refl; did = did_nothing a; in_grammar = tt }

-- ---- an event given to an end

pub gave_of : (r : Rules) (m : ℕ) (s s0 : Session KEnd) (g : GivenToSession) (event : Event) (outcomes : List Outcome) (now : Session KEnd) (lines : List ℕ) (res : Result Came Want)
    → s ≡ s0 → event ≡ event_of r g
    → now ≡ record s0 { end = now.end; mind = now.mind; output = now.output; broken = now.broken } → now.broken ≡ (s0.broken || breaks g)
    → now.end ≡ kept_end_behind_event m event s0.end → outcomes ≡ tells m event s0.end
    → OnOk res (Tells (journal_entry_of_event m s0.number (journal_event_of_given kept_ends s0.end g) outcomes) lines)
    → IfOk res (λ came. (came.fits ≡ not (too_many s0.output (octets_in outcomes))) × (now.output ≡ joined_to s0.output (octets_in outcomes)))
    → IfOk res (λ came. option_map refusal_view came.refused ≡ refused_in outcomes)
    → IfOk res (λ came. Gave r m s g now lines came)
unfolding end_after outcomes_of_given_event
gave_of r m s s0 g event outcomes now lines (Err want) same e is broken p q t j f = tt
gave_of r m s s0 g event outcomes now lines (Ok came) same e is broken p q t j f =
    let told : outcomes ≡ tells m (event_of r g) s0.end = q ∙ ap (λ z. tells m z s0.end) e in
    let there : now.end ≡ kept_end_behind_event m (event_of r g) s0.end = p ∙ ap (λ z. kept_end_behind_event m z s0.end) e in
    let waits : now.output ≡ joined_to s0.output (octets_in (tells m (event_of r g) s0.end)) = j.1 ∙ ap (λ z. joined_to s0.output (octets_in z)) told in
    subst (λ (z : Session KEnd). Gave r m z g now lines came) (sym same)
    (record {
      tells = subst (λ z. Tells (journal_entry_of_event m s0.number (journal_event_of_given kept_ends s0.end g) z) lines) told t;
      state = is ∙ (rw (there, waits, broken) refl);
      fits = j.0 ∙ ap (λ z. not (too_many s0.output (octets_in z))) told;
      refused = f ∙ ap refused_in told;
    })

pub heard_as : (r : Rules) (m : ℕ) (s s0 : Session KEnd) (g : GivenToSession) (event : Event) (outcomes : List Outcome) (mind : Option Mind) (spoken : SpokenByUser)
    → s ≡ s0 → event ≡ event_of r g → outcomes ≡ tells m event s0.end → HeardSo s0.mind (heard_by_user outcomes) mind spoken
    → HeardSo s.mind (heard_by_user (outcomes_of_given_event kept_ends r m s.end g)) mind spoken
unfolding outcomes_of_given_event
heard_as r m s s0 g event outcomes mind spoken same e q heard =
    subst (λ (z : Session KEnd). HeardSo z.mind (heard_by_user (outcomes_of_given_event kept_ends r m z.end g)) mind spoken) (sym same)
    (subst (λ z. HeardSo s0.mind (heard_by_user z) mind spoken) (q ∙ ap (λ z. tells m z s0.end) e) heard)

-- an event whose octets fit
fits_is : (r : Rules) (m : ℕ) (s : Session KEnd) (g : GivenToSession) → too_many s.output (octets_of_given_event r m s g) ≡ false
    → fed kept_ends r m s g ≡ (record s { end = end_after kept_ends r m s.end g; output = s.output ++ octets_of_given_event r m s g; broken = s.broken || breaks g }, entry_of kept_ends r m s g ∷ [])
unfolding fed joined
fits_is r m s g p = rw p refl

-- an event whose octets are too many
stalls_is : (r : Rules) (m : ℕ) (s : Session KEnd) (g : GivenToSession) → too_many s.output (octets_of_given_event r m s g) ≡ true
    → fed kept_ends r m s g
    ≡ (let b = stalled kept_ends r m (record s { end = end_after kept_ends r m s.end g; broken = s.broken || breaks g }) in (b.0, entry_of kept_ends r m s g ∷ b.1))
unfolding fed joined
stalls_is r m s g p = rw p refl

-- its user isn't touched
pub same_mind : (r : Rules) (m : ℕ) (s : Session KEnd) (g : GivenToSession) → with_mind s.mind (fed kept_ends r m s g) ≡ fed kept_ends r m s g
unfolding fed joined
same_mind r m s g = elim (cases_Bool (too_many s.output (octets_of_given_event r m s g))) [ inl p ↦ rw p refl | inr p ↦ rw p refl ]

not_true : (b : Bool) → true ≡ not b → b ≡ false
not_true true p = p
not_true false p = refl

not_false : (b : Bool) → false ≡ not b → b ≡ true
not_false true p = refl
not_false false p = p

pub tell_breaks : (a b : Told) (r : Rules) (m : ℕ) (s now : Session KEnd) (e : GivenToSession) (line : List ℕ) (came : Came) (fault : LoopFault)
    → Gave r m s e now line came → Breaks a b (printing line) fault → Breaks a b (writes_of_entries (with_mind now.mind (fed kept_ends r m s e)).1) fault
unfolding fed
tell_breaks a b r m s now e line came fault gave broke =
    let o = joined kept_ends r m (record s { end = end_after kept_ends r m s.end e; broken = s.broken || breaks e }) (octets_in (outcomes_of_given_event kept_ends r m s.end e)) in
    breaks_more a b (printing (entry_text (entry_of kept_ends r m s e))) (writes_of_entries o.1) fault
    (breaks_as a b (printing line) (printing (entry_text (entry_of kept_ends r m s e))) fault (ap printing gave.tells.text) broke)

pub tell_fits : (a b : Told) (r : Rules) (m : ℕ) (s now : Session KEnd) (e : GivenToSession) (line : List ℕ) (came : Came)
    → Gave r m s e now line came → came.fits ≡ true → Did a b (printing line) → Printed a b now (with_mind now.mind (fed kept_ends r m s e))
tell_fits a b r m s now e line came gave all wrote =
    let few : too_many s.output (octets_of_given_event r m s e) ≡ false = not_true (too_many s.output (octets_of_given_event r m s e)) (sym all ∙ gave.fits) in
    subst (λ (z : Session KEnd × List JournalEntry). Printed a b now (with_mind now.mind z)) (sym (fits_is r m s e few))
    (record {
      state =
          gave.state
          ∙ ap (λ (z : Bool). let t : Session KEnd = record s { end = end_after kept_ends r m s.end e; mind = now.mind; output = (if z then s.output else s.output ++ octets_of_given_event r m s e); broken = s.broken || breaks e } in t) few;
      did = subst (λ (z : List Act). Did a b z) (line_written line (entry_of kept_ends r m s e) gave.tells.text) wrote;
      in_grammar = (gave.tells.in_grammar, tt);
    })

prints_behind : (a b c : Told) (x : JournalEntry) (new : Session KEnd) (o : Session KEnd × List JournalEntry) (res : Result (Unit {0}) LoopFault)
    → Did a b (printing (entry_text x)) → IsInGrammar x → Prints b c new o res → Prints a c new (o.0, x ∷ o.1) res
prints_behind a b c x new o (Ok done) p i r = record {
  state = r.state;
  did = did_then a b c (printing (entry_text x)) (writes_of_entries o.1) p r.did;
  in_grammar = (i, r.in_grammar);
}
prints_behind a b c x new o (Err fault) p i r = breaks_behind a b c (printing (entry_text x)) (writes_of_entries o.1) fault p r

pub tell_stalls : (a b c : Told) (r : Rules) (m : ℕ) (s now new : Session KEnd) (e : GivenToSession) (line : List ℕ) (came : Came) (res : Result (Unit {0}) LoopFault)
    → Gave r m s e now line came → came.fits ≡ false → Did a b (printing line) → Prints b c new (stalled kept_ends r m now) res
    → Prints a c new (with_mind now.mind (fed kept_ends r m s e)) res
tell_stalls a b c r m s now new e line came res gave not_all wrote rest =
    let many : too_many s.output (octets_of_given_event r m s e) ≡ true = not_false (too_many s.output (octets_of_given_event r m s e)) (sym not_all ∙ gave.fits) in
    let s2 : Session KEnd = record s { end = end_after kept_ends r m s.end e; mind = now.mind; broken = s.broken || breaks e } in
    let there : now ≡ s2 =
    gave.state
    ∙ ap (λ (z : Bool). let t : Session KEnd = record s { end = end_after kept_ends r m s.end e; mind = now.mind; output = (if z then s.output else s.output ++ octets_of_given_event r m s e); broken = s.broken || breaks e } in t) many in
    subst (λ (z : Session KEnd × List JournalEntry). Prints a c new (with_mind now.mind z) res) (sym (stalls_is r m s e many))
    (prints_behind a b c (entry_of kept_ends r m s e) new (stalled kept_ends r m s2) res
    (subst (λ (z : List ℕ). Did a b (printing z)) gave.tells.text wrote) gave.tells.in_grammar
    (subst (λ (z : Session KEnd). Prints b c new (stalled kept_ends r m z) res) there rest))

-- a line that stalls gives no octets
stall_is_quiet : (r : Rules) (m : ℕ) (s : Session KEnd) → octets_of_given_event r m s Stalls ≡ []
unfolding outcomes_of_given_event after_break
stall_is_quiet r m s = elim (cases_Bool (is_some s.end.core.released)) [ inl p ↦ rw p refl | inr p ↦ rw p refl ]

joined_nothing : (waits : List ℕ) → joined_to waits [] ≡ waits
joined_nothing waits = elim (cases_Bool (too_many waits [])) [ inl p ↦ rw p refl | inr p ↦ rw p (append-nil waits) ]

pub or_true : (b : Bool) → (b || true) ≡ true
or_true true = refl
or_true false = refl

pub stall_prints : (a b : Told) (r : Rules) (m : ℕ) (s new : Session KEnd) (line : List ℕ) (came : Came) (res : Result (Unit {0}) LoopFault)
    → new.mind ≡ s.mind → Gave r m s Stalls new line came → Puts a b (printing line) res → Prints a b new (stalled kept_ends r m s) res
stall_prints a b r m s new line came (Err fault) mind gave puts =
    breaks_as a b (printing line) (writes_of_entries (entry_of kept_ends r m s Stalls ∷ [])) fault (line_written line (entry_of kept_ends r m s Stalls) gave.tells.text) puts
stall_prints a b r m s new line came (Ok done) mind gave puts =
    let waits = ap (joined_to s.output) (stall_is_quiet r m s) ∙ joined_nothing s.output in
    record {
      state =
          gave.state
          ∙ ap (λ (z : Option Mind). session_behind_event r m s Stalls z) mind
          ∙ ap (λ (z : List ℕ). let t : Session KEnd = record s { end = end_after kept_ends r m s.end Stalls; output = z; broken = s.broken || true } in t) waits
          ∙ ap (λ (z : Bool). let t : Session KEnd = record s { end = end_after kept_ends r m s.end Stalls; broken = z } in t) (or_true s.broken);
      did = subst (λ (z : List Act). Did a b z) (line_written line (entry_of kept_ends r m s Stalls) gave.tells.text) puts;
      in_grammar = (gave.tells.in_grammar, tt);
    }

-- an event of which no user hears
pub given_prints : (a b : Told) (r : Rules) (m : ℕ) (s : Session KEnd) (mind : Option Mind) (new : Session KEnd) (e : GivenToSession) (res : Result (Unit {0}) LoopFault)
    → mind ≡ s.mind → Prints a b new (with_mind mind (fed kept_ends r m s e)) res → Prints a b new (fed kept_ends r m s e) res
given_prints a b r m s mind new e res same p =
    subst (λ (z : Session KEnd × List JournalEntry). Prints a b new z res) (ap (λ (z : Option Mind). with_mind z (fed kept_ends r m s e)) same ∙ same_mind r m s e) p

-- a text that the user sends, who hears where it is refused
pub sent_prints : (a b : Told) (r : Rules) (m : ℕ) (s now : Session KEnd) (mind : Option Mind) (new : Session KEnd) (said line : List ℕ) (came : Came) (res : Result (Unit {0}) LoopFault)
    → now.mind ≡ s.mind → mind ≡ notes (refusal_heard said (option_map refusal_view came.refused)) now.mind → Gave r m s (Sends said) now line came
    → Prints a b new (with_mind mind (fed kept_ends r m s (Sends said))) res → Prints a b new (replied kept_ends r m s (Sends said)) res
sent_prints a b r m s now mind new said line came res same heard gave p =
    subst (λ (z : Option Mind). Prints a b new (with_mind z (fed kept_ends r m s (Sends said))) res)
    (heard ∙ ap (λ z. notes (refusal_heard said z) now.mind) gave.refused
    ∙ ap (notes (refusal_heard said (refused_in (outcomes_of_given_event kept_ends r m s.end (Sends said))))) same) p

-- the same lines, by another name
pub gave_by : (r : Rules) (m : ℕ) (s : Session KEnd) (g : GivenToSession) (now : Session KEnd) (xs ys : List ℕ) (came : Came) → ys ≡ xs → Gave r m s g now xs came → Gave r m s g now ys came
gave_by r m s g now xs ys came p gave = subst (λ z. Gave r m s g now z came) (sym p) gave

-- the same, though the user has heard of it
pub gave_mind : (r : Rules) (m : ℕ) (s now now0 : Session KEnd) (g : GivenToSession) (mind : Option Mind) (lines : List ℕ) (came : Came) → now ≡ now0
    → Gave r m s g now lines came → Gave r m s g (record now0 { mind = mind }) lines came
gave_mind r m s now now0 g mind lines came same gave = record {
  tells = gave.tells;
  state = ap (λ (z : Session KEnd). let t : Session KEnd = record z { mind = mind } in t) (sym same ∙ gave.state);
  fits = gave.fits;
  refused = gave.refused;
}

-- the line of an event without outcomes
pub event_line : (m conn : ℕ) (event : Line) (line before : List ℕ) → before ≡ [] → line ≡ before ++ line_text (entry_words m conn event)
    → line ≡ entry_text (record { moment = m; conn = conn; event = event; outcomes = [] })
unfolding entry_text outcomes_text
event_line m conn event line before p q =
    q ∙ ap (λ z. z ++ line_text (entry_words m conn event)) p ∙ sym (append-nil (line_text (entry_words m conn event)))

-- the lines of an event that was given to the end count what they tell
pub counted_lines : (x : JournalEntry) (lines : List ℕ) (res : Result Came Want) → OnOk res (Tells x lines) → IfOk res (λ came. IsTallyOfEntry x came.counts)
    → IfOk res (λ came. IsTallyOf lines came.counts)
counted_lines x lines (Ok came) tells counts = record { entry = x; text = tells.text; counts = counts }
counted_lines x lines (Err want) tells counts = tt
