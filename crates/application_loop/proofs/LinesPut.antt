-- A text that is put, or that broke off: so lines are written in one, or what was done serves.
use Rattle.std.proofs.Common.{arith, ◌≡◌, ◌∙◌, ◌<◌, ℕ, true, false, List, [], ◌∷◌, ◌++◌, length, refl, sym, ap, subst, append-nil}
use Rattle.std.proofs.lemmas.List.{length-append}
use Rattle.er_base.specs.LineTexts.{line_text, line_end}
use Rattle.er_trace.specs.declared.event.Event.{Event}
use Rattle.er_trace.specs.Texts.{entry_words}
use Rattle.trace_model.specs.Printed.{outcomes_text}
use Rattle.loop_model.specs.Journals.{entry_text}
use Rattle.outside.specs.Acts.{Act, Wrote}
use Rattle.outside.specs.Scripts.{printing}
use Rattle.outside.specs.Doings.{Told, Did}
use Rattle.outside.specs.Chains.{did_then}
use Rattle.loop_session.specs.Parts.{writes_of_entries, BreaksFor, Breaks}
use Rattle.loop_session.specs.declared.loop_fault.LoopFault.{LoopFault}
use Rattle.loop_session.specs.declared.loop_fault.LoopFault.TheVariants.{Wires, Sink, NoMemory}
use Rattle.application_serving.specs.Serving.{ServiceDeed, acts_in_service}
use Rattle.application_serving.specs.Going.{ServiceRun, ToDo, Going, ServesBy}
use Rattle.application_serving.specs.GoingSteps.{serves_of_going, serves_behind_failed_write}

-- nothing was done
pub going_did_nothing : {run : ServiceRun} {deeds : List ServiceDeed} {rest : ToDo} (before now : Told) → Going run before deeds rest → Did before now []
    → Going run now deeds rest
going_did_nothing {run = run} {deeds = deeds} before now going did = record {
  did = subst (Did run.before now) (append-nil (acts_in_service deeds)) (did_then run.before before now (acts_in_service deeds) [] going.did did);
  happenings = going.happenings;
  history = going.history;
  always = going.always;
  timely = going.timely;
  fetched = going.fetched;
}

-- ---- a text of lines is written in one

ends_line : (words : List (List ℕ)) → 0 < length (line_end words)
unfolding line_end
ends_line [] = omega arith
ends_line (word ∷ words) =
    let rest = ends_line words in
    let parts = length-append word (line_end words) in
    omega (arith, rest, parts)

some_line : (words : List (List ℕ)) → 0 < length (line_text words)
unfolding line_text
some_line [] = omega arith
some_line (word ∷ words) =
    let rest = ends_line words in
    let parts = length-append word (line_end words) in
    omega (arith, rest, parts)

pub some_lines_before : (words : List (List ℕ)) (rest : List ℕ) → 0 < length (line_text words ++ rest)
some_lines_before words rest =
    let some = some_line words in
    let parts = length-append (line_text words) rest in
    omega (arith, some, parts)

pub printed_in_one : (text : List ℕ) → 0 < length text → printing text ++ [] ≡ Wrote text true ∷ []
printed_in_one [] some = absurd (omega (arith, some))
printed_in_one (octet ∷ octets) some = refl

printed_alone : (text : List ℕ) → 0 < length text → printing text ≡ Wrote text true ∷ []
printed_alone [] some = absurd (omega (arith, some))
printed_alone (octet ∷ octets) some = refl

-- a line is written in one
pub printing_line : (words : List (List ℕ)) → printing (line_text words) ≡ Wrote (line_text words) true ∷ []
printing_line words = printed_alone (line_text words) (some_line words)

-- an event without outcomes
abbrev pub text_of_event : (moment conn : ℕ) → Event → List ℕ
text_of_event moment conn what = line_text (entry_words moment conn what) ++ []

pub writes_event : (moment conn : ℕ) (what : Event)
    → writes_of_entries (record { moment = moment; conn = conn; event = what; outcomes = [] } ∷ []) ≡ Wrote (text_of_event moment conn what) true ∷ []
unfolding entry_text outcomes_text
writes_event moment conn what = printed_in_one (text_of_event moment conn what) (some_lines_before (entry_words moment conn what) [])

-- ---- a write of one text that broke off

-- nothing was done, or it was written and memory ran out then; or it failed
data IsBroken (piece : List ℕ) (acts : List Act) : Type 0 where
  NothingDone : acts ≡ [] → IsBroken piece acts
  AllWritten : acts ≡ Wrote piece true ∷ [] → IsBroken piece acts
  WriteFailed : acts ≡ Wrote piece false ∷ [] → IsBroken piece acts

none_behind : (done left : List Act) (act last : Act) → act ∷ (done ++ left) ≡ last ∷ [] → (act ≡ last) × (done ≡ []) × (left ≡ [])
none_behind [] [] act last is = (cc, refl, refl)
none_behind [] (next ∷ left) act last is = absurd (cc)
none_behind (next ∷ done) left act last is = absurd (cc)

none_left_over : (left : List Act) (piece : List ℕ) (rest : List Act) → left ≡ [] → left ≡ Wrote piece true ∷ rest → ⊥
none_left_over left piece rest none some = absurd (cc)

begun_of_one : (fault : LoopFault) (piece : List ℕ) (done left acts : List Act) → done ++ left ≡ Wrote piece true ∷ [] → BreaksFor fault done left acts
    → IsBroken piece acts
begun_of_one Wires piece done left acts is breaks = absurd breaks
begun_of_one (NoMemory want) piece [] left acts is breaks = NothingDone breaks
begun_of_one (NoMemory want) piece (act ∷ done) left acts is breaks =
    let n = none_behind done left act (Wrote piece true) is in
    AllWritten (breaks ∙ ap (λ (a : Act). a ∷ done) n.0 ∙ ap (λ (acts : List Act). Wrote piece true ∷ acts) n.1)
begun_of_one Sink piece [] left acts is breaks =
    let same : Wrote breaks.piece true ∷ breaks.rest ≡ Wrote piece true ∷ [] = sym breaks.next ∙ is in
    let text : breaks.piece ≡ piece = cc in
    WriteFailed (breaks.are ∙ ap (λ (p : List ℕ). Wrote p false ∷ []) text)
begun_of_one Sink piece (act ∷ done) left acts is breaks =
    let n = none_behind done left act (Wrote piece true) is in
    absurd (none_left_over left breaks.piece breaks.rest n.2 breaks.next)

serves_broken : {run : ServiceRun} {deeds : List ServiceDeed} {rest : ToDo} (before now : Told) (piece : List ℕ) (acts : List Act) → Going run before deeds rest
    → (Did before now (Wrote piece true ∷ []) → ServesBy run now) → Did before now acts → IsBroken piece acts → ServesBy run now
serves_broken before now piece acts going all did (NothingDone none) = serves_of_going (going_did_nothing before now going (subst (λ (a : List Act). Did before now a) none did))
serves_broken before now piece acts going all did (AllWritten one) = all (subst (λ (a : List Act). Did before now a) one did)
serves_broken before now piece acts going all did (WriteFailed one) =
    serves_behind_failed_write piece going (subst (λ (a : List Act). Did before now a) one did)

-- what was done serves, where it does if the text was written
pub breaks_serves : {run : ServiceRun} {deeds : List ServiceDeed} {rest : ToDo} (before now : Told) (piece : List ℕ) (fault : LoopFault)
    → Going run before deeds rest → (Did before now (Wrote piece true ∷ []) → ServesBy run now) → Breaks before now (Wrote piece true ∷ []) fault
    → ServesBy run now
breaks_serves before now piece fault going all breaks =
    serves_broken before now piece breaks.acts going all breaks.did
    (begun_of_one fault piece breaks.begun.done breaks.begun.left breaks.acts breaks.begun.is breaks.begun.breaks)
