-- What the script of `bits` did: how the run ended, what the sink got, and which name was asked for.
use Rattle.std.proofs.Common.{◌≡◌, ◌≤◌, ℕ, inl, Bool, true, false, nat_lt, List, [], ◌∷◌, length, Option, Result, Ok, Err, IfOk, IsFalse, refl, sym, subst}
use Rattle.std.specs.Prelude.{codes}
use Rattle.std.specs.List.{list_any}
use Rattle.link_trait.specs.Outside.{Grew, GrewPart}
use Rattle.er_base.specs.declared.no_memory.NoMemory.{NoMemory}
use Rattle.hdlc_fcs.specs.FrameCheck.{sent_bits}
use Rattle.outside.specs.Acts.{Act, is_fetch}
use Rattle.outside.specs.Doings.{Told, Did}
use Rattle.outside.specs.Scripts.{End, OutOfMemory, Script, RunsScript}
use Rattle.outside.specs.SinkTexts.{fetches_none}
use Rattle.er_program.proofs.EachText.{GotTexts, got_texts, each_fetches_none}
use Rattle.er_statuses.specs.Answers.{Answer, Files}
use Rattle.er_statuses.specs.LastLines.{fault_line}
use Rattle.er_statuses.specs.ScriptEnds.{end_of_run}
use Rattle.er_statuses.specs.Writing.{GivesAnswer}
use Rattle.er_statuses.specs.declared.status.Status.{Status}
use Rattle.er_statuses.specs.declared.stop.Stop.{Stop}
use Rattle.er_statuses.specs.declared.stop.Stop.TheVariants as stop
use Rattle.er_program.specs.BitTexts.{most_line_octets, verdicts_in, verdict_lines, frame_count, counts_line, bits_text}
use Rattle.er_program.specs.BitWriting.{EndsBits}
use Rattle.er_program.specs.Commands.{Bits}
use Rattle.er_program.specs.FileScripts.{verdict_line, reads_bits, reads_line}
use Rattle.er_program.specs.Writing.{EndsCommand}
use Rattle.er_program.proofs.FileActs.{Sinks, is_spent, gives_answer, gives_said, file_ends, file_asks, file_asks_part}
use Rattle.er_program.proofs.BitRuns.{no_lines, ends_bits, ends_bits_unfetched}

-- what was printed of a file that isn't too long
bits_got : (file : List ℕ) (a b : Option (List ℕ)) (f g : ℕ) (acts : List Act) (r : Result Status Stop) → nat_lt most_line_octets (length file) ≡ false
    → (sinks : Sinks a b f g acts) → GotTexts verdict_line 0 (counts_line (length (sent_bits file)) (frame_count (verdicts_in file))) (verdicts_in file) (end_of_run r) acts sinks.0.more
    → EndsBits file a b f g r
unfolding bits_text verdict_lines
bits_got file a b f g acts (Ok s) short sinks got =
    rw short (got.0, subst (λ (octets : List ℕ). Grew a b octets) got.1 sinks.0.grew, sinks.1.later)
bits_got file a b f g acts (Err stop.Sink) short sinks got =
    rw short (record { part = sinks.0.more; rest = got.0; is = got.1; grew = sinks.0.grew }, sinks.1.rose got.2)
bits_got file a b f g acts (Err (stop.NoMemory want)) short sinks got =
    (record { count = got.0; grew = subst (λ (octets : List ℕ). Grew a b octets) got.1 sinks.0.grew }, sinks.1.later)

-- a file that is too long
bits_long : (file : List ℕ) (a b : Option (List ℕ)) (f g : ℕ) (r : Result Status Stop) → nat_lt most_line_octets (length file) ≡ true
    → GivesAnswer (record { status = 3; text = fault_line 0 (codes "long") }) a b f g r → EndsBits file a b f g r
bits_long file a b f g (Ok s) long gives = rw long gives
bits_long file a b f g (Err stop.Sink) long gives = rw long gives
bits_long file a b f g (Err (stop.NoMemory want)) long gives =
    (record { count = 0; grew = subst (λ (text : List ℕ). Grew a b text) (sym no_lines) gives.0 }, gives.1)

bits_gives : (file : List ℕ) (long : Bool) (a b : Option (List ℕ)) (f g : ℕ) (acts : List Act) (r : Result Status Stop) → nat_lt most_line_octets (length file) ≡ long
    → RunsScript (reads_bits long file) acts (end_of_run r) → Sinks a b f g acts → EndsBits file a b f g r
bits_gives file true a b f g acts r is runs sinks =
    let answer : Answer = record { status = 3; text = fault_line 0 (codes "long") } in
    bits_long file a b f g r is (gives_answer answer a b f g r (gives_said answer a b f g acts r runs sinks))
bits_gives file false a b f g acts r is runs sinks =
    bits_got file a b f g acts r is sinks
    (got_texts verdict_line 0 (counts_line (length (sent_bits file)) (frame_count (verdicts_in file))) (verdicts_in file) acts (end_of_run r) sinks.0.more runs sinks.0.left)

abbrev bits_of_file : List ℕ → Script
bits_of_file file = reads_bits (nat_lt most_line_octets (length file)) file

-- it asks for no file
quiet_bits : (long : Bool) (file : List ℕ) (acts : List Act) (end : End) → RunsScript (reads_bits long file) acts end → IsFalse (list_any is_fetch acts)
quiet_bits true file acts end runs = fetches_none (λ line. line ≡ fault_line 0 (codes "long")) 3 acts end runs
quiet_bits false file acts end runs =
    each_fetches_none verdict_line 0 (counts_line (length (sent_bits file)) (frame_count (verdicts_in file))) (verdicts_in file) acts end runs

quiet : (file : List ℕ) (acts : List Act) (end : End) → RunsScript (bits_of_file file) acts end → IsFalse (list_any is_fetch acts)
quiet file acts end runs = quiet_bits (nat_lt most_line_octets (length file)) file acts end runs

-- nothing was written where memory ran out
spent_reading : (name : List ℕ) (r : Result Status Stop) (files : Files) (c d : ℕ) (a b : Option (List ℕ)) (f g : ℕ) → end_of_run r ≡ OutOfMemory → Grew a b [] → f ≤ g
    → EndsCommand (Bits name) files c d a b f g r
spent_reading name r files c d a b f g is nothing later =
    let spent : (want : NoMemory) × (r ≡ Err (stop.NoMemory want)) = is_spent r is in
    subst (λ (x : Result Status Stop). EndsCommand (Bits name) files c d a b f g x) (sym spent.1) (record { text = []; first = inl refl; printed = nothing; later = later })

pub bits_ends : (name : List ℕ) (before now : Told) (r : Result Status Stop) (acts : List Act) → Did before now acts → RunsScript (reads_line name) acts (end_of_run r)
    → EndsCommand (Bits name) now.cabinet.files before.cabinet.faults now.cabinet.faults before.sink.held now.sink.held before.sink.faults now.sink.faults r
bits_ends name before now r acts did runs =
    file_ends name bits_of_file (EndsCommand (Bits name)) before now r
    (λ file files c d a b f g rest has run sinks. ends_bits name file files c d a b f g r has (bits_gives file (nat_lt most_line_octets (length file)) a b f g rest r refl run sinks))
    (λ files c d a b f g ends. ends_bits_unfetched name files c d a b f g r ends)
    (spent_reading name r) acts did runs

pub bits_asks : (name : List ℕ) (before now : Told) (r : Result Status Stop) (acts : List Act) → Did before now acts → RunsScript (reads_line name) acts (end_of_run r)
    → IfOk r (λ s. Grew before.cabinet.asked now.cabinet.asked (name ∷ []))
bits_asks name before now r acts did runs = file_asks name bits_of_file quiet before now r acts did runs

pub bits_asks_part : (name : List ℕ) (before now : Told) (end : End) (acts : List Act) → Did before now acts → RunsScript (reads_line name) acts end
    → GrewPart before.cabinet.asked now.cabinet.asked (name ∷ [])
bits_asks_part name before now end acts did runs = file_asks_part name bits_of_file quiet before now end acts did runs
