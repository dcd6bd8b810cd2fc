-- What a text that was said last leaves: the sink got it or a beginning of it, and all else is as it was.
use Rattle.std.proofs.Common.{◌≡◌, ◌⊎◌, inl, inr, ℕ, List, [], ◌∷◌, ◌++◌, Option, Result, Ok, Err, IsFalse, refl, sym, ◌∙◌, ap, ap₂, subst, false}
use Rattle.std.specs.List.{list_any}
use Rattle.link_trait.specs.Outside.{Grew, GrewPart, Rose}
use Rattle.link_trait.specs.States.{WiresState, ClockState}
use Rattle.outside.specs.Acts.{Act, Wrote, is_fetch, is_call, is_question}
use Rattle.outside.specs.Doings.{Told, Did}
use Rattle.outside.specs.Scripts.{IsPrinted, IsUnprinted, With, Sunk, OutOfMemory, RunsScript, Does, printing, says_last}
use Rattle.outside.specs.SinkTexts.{nothing_left_by, text_printed_by, text_begun_by}
use Rattle.er_statuses.specs.Answers.{Answer}
use Rattle.er_statuses.specs.ScriptEnds.{end_of_run}
use Rattle.er_statuses.specs.declared.status.Status.{Status}
use Rattle.er_statuses.specs.declared.stop.Stop.{Stop}
use Rattle.er_statuses.specs.declared.stop.Stop.TheVariants as stop
use Rattle.er_serving.specs.LineCommands.{LineCommand, Serve, Call, AsksClock}
use Rattle.er_serving.specs.LineRuns.{with_sink}
use Rattle.er_serving.specs.RecordedLines.{HasCalledNone}
use Rattle.er_serving.specs.Outsides.{Traffic, traffic_at, IsLeftAlone}

-- nothing changed but the sink
pub record OnlyWrites (before now : Told) : Type 0 where
  pub done : HasCalledNone before now
  pub cabinet : now.cabinet ≡ before.cabinet
  pub wires : now.wires ≡ before.wires
  pub clock : now.clock ≡ before.clock

-- an answer was given: its text was written, or a beginning of it where the sink failed, or nothing where memory ran out
abbrev pub Gives : Answer → (before now : Told) → Result Status Stop → Type 0
Gives a before now (Ok s) = (s.0 ≡ a.status) × Grew before.sink.held now.sink.held a.text
Gives a before now (Err stop.Sink) = GrewPart before.sink.held now.sink.held a.text × Rose before.sink.faults now.sink.faults
Gives a before now (Err (stop.NoMemory want)) = Grew before.sink.held now.sink.held []

pub record Said (a : Answer) (before now : Told) (r : Result Status Stop) : Type 0 where
  pub gives : Gives a before now r
  pub only : OnlyWrites before now

-- ---- by the acts

no_fetch : (line : List ℕ) → IsFalse (list_any is_fetch (printing line ++ []))
no_fetch [] = refl
no_fetch (octet ∷ octets) = refl

no_call : (line : List ℕ) → IsFalse (list_any is_call (printing line ++ []))
no_call [] = refl
no_call (octet ∷ octets) = refl

no_question : (line : List ℕ) → IsFalse (list_any is_question (printing line ++ []))
no_question [] = refl
no_question (octet ∷ octets) = refl

pub only_printed : (line : List ℕ) (before now : Told) → Did before now (printing line ++ []) → OnlyWrites before now
only_printed line before now p = record {
  done = record { acts = printing line ++ []; did = p; none = no_call line };
  cabinet = p.cabinet.rests (no_fetch line);
  wires = p.wires.rests (no_call line);
  clock = p.clock.rests (no_question line);
}

pub only_failed : (line : List ℕ) (before now : Told) → Did before now (Wrote line false ∷ []) → OnlyWrites before now
only_failed line before now p = record { done = record { acts = Wrote line false ∷ []; did = p; none = refl }; cabinet = p.cabinet.rests refl; wires = p.wires.rests refl; clock = p.clock.rests refl }

pub only_none : (before now : Told) → Did before now [] → OnlyWrites before now
only_none before now p = record { done = record { acts = []; did = p; none = refl }; cabinet = p.cabinet.rests refl; wires = p.wires.rests refl; clock = p.clock.rests refl }

same_status : (x y : ℕ) → With x ≡ With y → x ≡ y
same_status x y p = cc

printed_so : (status : ℕ) (line : List ℕ) (before now : Told) (r : Result Status Stop) → Did before now (printing line ++ []) → end_of_run r ≡ With status → Said (record { status = status; text = line }) before now r
printed_so status line before now (Ok s) p is = record { gives = (same_status s.0 status is, text_printed_by before.sink.held now.sink.held line p.sink.held); only = only_printed line before now p }
printed_so status line before now (Err stop.Sink) p is = absurd (cc is)
printed_so status line before now (Err (stop.NoMemory want)) p is = absurd (cc is)

failed_so : (status : ℕ) (line : List ℕ) (before now : Told) (r : Result Status Stop) → Did before now (Wrote line false ∷ []) → end_of_run r ≡ Sunk → Said (record { status = status; text = line }) before now r
failed_so status line before now (Ok s) p is = absurd (cc is)
failed_so status line before now (Err stop.Sink) p is = record { gives = (text_begun_by before.sink.held now.sink.held line p.sink.held, p.sink.faults.rose refl); only = only_failed line before now p }
failed_so status line before now (Err (stop.NoMemory want)) p is = absurd (cc is)

spent_so : (status : ℕ) (line : List ℕ) (before now : Told) (r : Result Status Stop) → Did before now [] → end_of_run r ≡ OutOfMemory → Said (record { status = status; text = line }) before now r
spent_so status line before now (Ok s) p is = absurd (cc is)
spent_so status line before now (Err stop.Sink) p is = absurd (cc is)
spent_so status line before now (Err (stop.NoMemory want)) p is = record { gives = nothing_left_by before.sink.held now.sink.held p.sink.held; only = only_none before now p }

said_by : (status : ℕ) (line : List ℕ) (before now : Told) (r : Result Status Stop) (acts : List Act) → Did before now acts
    → IsPrinted (λ text. text ≡ line) (λ rest. (rest ≡ []) × (end_of_run r ≡ With status)) acts ⊎ IsUnprinted (λ text. text ≡ line) acts (end_of_run r) ⊎ ((acts ≡ []) × (end_of_run r ≡ OutOfMemory))
    → Said (record { status = status; text = line }) before now r
said_by status line before now r acts p (inl q) =
    printed_so status line before now r
    (subst (λ (z : List Act). Did before now z) (q.acts_are ∙ ap₂ (λ (x : List ℕ) (y : List Act). printing x ++ y) q.is q.follows.0) p) q.follows.1
said_by status line before now r acts p (inr (inl q)) =
    failed_so status line before now r (subst (λ (z : List Act). Did before now z) (q.acts_are ∙ ap (λ (x : List ℕ). Wrote x false ∷ []) q.is) p) q.sunk
said_by status line before now r acts p (inr (inr q)) = spent_so status line before now r (subst (λ (z : List Act). Did before now z) q.0 p) q.1

pub said : (status : ℕ) (line : List ℕ) (before now : Told) (r : Result Status Stop) → Does (says_last status line) before now (end_of_run r) → Said (record { status = status; text = line }) before now r
unfolding RunsScript
said status line before now r p = said_by status line before now r p.acts p.did p.runs

-- ---- what is left alone

pub unasked : (command : LineCommand) (clock : Option (List ℕ)) → AsksClock command clock clock
unasked (Serve keys address rbc turns) clock = refl
unasked (Call keys address engine rbc turns) clock = inl refl

pub alone_said : (command : LineCommand) (before now : Told) → OnlyWrites before now → IsLeftAlone (AsksClock command) (traffic_at before) (traffic_at now)
alone_said command before now p = record {
  calls = ap (λ (z : WiresState). z.calls) p.wires;
  failed = ap (λ (z : WiresState). z.faults) p.wires;
  turns_failed = ap (λ (z : WiresState). z.turn_faults) p.wires;
  listening = ap (λ (z : WiresState). z.listening) p.wires;
  clock = subst (λ (z : ClockState). AsksClock command before.clock.answers z.answers) (sym p.clock) (unasked command before.clock.answers);
}

-- what was told before it, but for the sink
pub traffic_before : (mid now : Told) → OnlyWrites mid now → traffic_at mid ≡ with_sink (traffic_at now) mid.sink.held mid.sink.faults
traffic_before mid now p =
    ap₂ (λ (w : WiresState) (c : ClockState). let o : Traffic = record { held = mid.sink.held; sunk = mid.sink.faults; calls = w.calls; failed = w.faults; turns_failed = w.turn_faults; listening = w.listening; clock = c.answers } in o)
    (sym p.wires) (sym p.clock)
