-- What a run means by its status, for the command that it was: the facts of its parts, put together.
use Rattle.std.proofs.Common.{◌≡◌, ◌≢◌, ◌⊎◌, inl, inr, ℕ, false, List, [], Option, refl, sym, ◌∙◌, true≢false, arith}
use Rattle.outside.specs.Doings.{Told}
use Rattle.er_statuses.specs.Answers.{Files}
use Rattle.er_serving.specs.LineCommands.{LineCommand}
use Rattle.er_serving.specs.LineCommands as line
use Rattle.er_serving.specs.LineRuns.{GivenToLoop, IsLineStatus}
use Rattle.er_serving.specs.LineStatuses.{IsLineRun}
use Rattle.er_serving.specs.Outsides.{Outside, Traffic, IsSteady}
use Rattle.er_serving.specs.RecordedLines.{IsLineRecorded}
use Rattle.er_program.specs.Commands.{Command, Misused, Drill, Bits, Migrate, Replay, Check, Audit, Bulk, Serve, Call, needs_wires}
use Rattle.er_program.specs.CommandViews.{command_of_work, command_of_line, file_view}
use Rattle.er_program.specs.declared.file_command.FileCommand.{FileCommand}
use Rattle.er_program.specs.declared.file_command.FileCommand.TheVariants as file
use Rattle.er_program.specs.declared.file_command.PlainCommand.TheVariants as plain
use Rattle.er_program.specs.declared.work.Work.{Work}
use Rattle.er_program.specs.declared.work.Work.TheVariants as work
use Rattle.er_program.specs.FileMeans.{FileMeans, AskedNames}
use Rattle.er_program.specs.RecordedRuns.{IsRunRecorded}
use Rattle.er_program.specs.Statuses.{IsFileStatus, AreAsked, IsRun}

-- ---- a command that needs no wires

-- the outside with this cabinet and sink, and the rest as it was
abbrev with_rest : Traffic → Files → AskedNames → (unfetched : ℕ) → Option (List ℕ) → (sunk : ℕ) → Outside
with_rest rest files asked unfetched held sunk = record {
  files = files;
  asked = asked;
  unfetched = unfetched;
  held = held;
  sunk = sunk;
  calls = rest.calls;
  failed = rest.failed;
  turns_failed = rest.turns_failed;
  listening = rest.listening;
  clock = rest.clock;
}

-- status 6 is none of these
no_six : (s : ℕ) → s ≡ 6 → IsFileStatus s → ⊥
no_six s is (inl x) = omega (arith)
no_six s is (inr (inl x)) = omega (arith)
no_six s is (inr (inr (inl x))) = omega (arith)
no_six s is (inr (inr (inr (inl x)))) = omega (arith)
no_six s is (inr (inr (inr (inr (inl x))))) = omega (arith)
no_six s is (inr (inr (inr (inr (inr (inl x)))))) = omega (arith)
no_six s is (inr (inr (inr (inr (inr (inr (inl x))))))) = omega (arith)
no_six s is (inr (inr (inr (inr (inr (inr (inr (inl x)))))))) = omega (arith)
no_six s is (inr (inr (inr (inr (inr (inr (inr (inr x)))))))) = omega (arith)

pub off_run : (command : Command) (g : GivenToLoop) (rest : Traffic) (files before_files : Files) (p q : AskedNames) (c d f h : ℕ) (before now : Option (List ℕ)) (status : ℕ)
    → needs_wires command ≡ false → FileMeans command files p q c d f h before now status
    → AreAsked command (with_rest rest before_files p c before f) (with_rest rest files q d now h) status
    → IsSteady (with_rest rest before_files p c before f) (with_rest rest files q d now h)
    → IsRun command g (with_rest rest before_files p c before f) (with_rest rest files q d now h) status
off_run Misused g rest files before_files p q c d f h before now status off m asked steady = record {
  known = m.known;
  means = record {
    done = m.done;
    misused = m.usage;
    unfetched = λ is.
        let u = m.fetch is in
        record { first = u.first; name = u.name; rest = u.rest; is = u.is; asked_for = u.asked_for; rose = u.rose; printed = u.printed };
    refused = m.refused;
    keyless = m.keys;
    sunk = λ is. record { rose = (m.sink is).rose; beginning = (m.sink is).beginning };
    wires = λ is. no_six status is m.known;
    memory = m.memory;
    overfull = m.overfull;
    unlike = m.unlike;
  };
  idle = record { calls = refl; failed = refl; turns_failed = refl; listening = refl; clock = refl };
  asked = asked;
  complete = m.complete;
  steady = steady;
}
off_run (Drill name) g rest files before_files p q c d f h before now status off m asked steady = record {
  known = m.known;
  means = record {
    done = m.done;
    misused = m.usage;
    unfetched = λ is.
        let u = m.fetch is in
        record { first = u.first; name = u.name; rest = u.rest; is = u.is; asked_for = u.asked_for; rose = u.rose; printed = u.printed };
    refused = m.refused;
    keyless = m.keys;
    sunk = λ is. record { rose = (m.sink is).rose; beginning = (m.sink is).beginning };
    wires = λ is. no_six status is m.known;
    memory = m.memory;
    overfull = m.overfull;
    unlike = m.unlike;
  };
  idle = record { calls = refl; failed = refl; turns_failed = refl; listening = refl; clock = refl };
  asked = asked;
  complete = m.complete;
  steady = steady;
}
off_run (Bits name) g rest files before_files p q c d f h before now status off m asked steady = record {
  known = m.known;
  means = record {
    done = m.done;
    misused = m.usage;
    unfetched = λ is.
        let u = m.fetch is in
        record { first = u.first; name = u.name; rest = u.rest; is = u.is; asked_for = u.asked_for; rose = u.rose; printed = u.printed };
    refused = m.refused;
    keyless = m.keys;
    sunk = λ is. record { rose = (m.sink is).rose; beginning = (m.sink is).beginning };
    wires = λ is. no_six status is m.known;
    memory = m.memory;
    overfull = m.overfull;
    unlike = m.unlike;
  };
  idle = record { calls = refl; failed = refl; turns_failed = refl; listening = refl; clock = refl };
  asked = asked;
  complete = m.complete;
  steady = steady;
}
off_run (Migrate keys) g rest files before_files p q c d f h before now status off m asked steady = record {
  known = m.known;
  means = record {
    done = m.done;
    misused = m.usage;
    unfetched = λ is.
        let u = m.fetch is in
        record { first = u.first; name = u.name; rest = u.rest; is = u.is; asked_for = u.asked_for; rose = u.rose; printed = u.printed };
    refused = m.refused;
    keyless = m.keys;
    sunk = λ is. record { rose = (m.sink is).rose; beginning = (m.sink is).beginning };
    wires = λ is. no_six status is m.known;
    memory = m.memory;
    overfull = m.overfull;
    unlike = m.unlike;
  };
  idle = record { calls = refl; failed = refl; turns_failed = refl; listening = refl; clock = refl };
  asked = asked;
  complete = m.complete;
  steady = steady;
}
off_run (Replay keys trace) g rest files before_files p q c d f h before now status off m asked steady = record {
  known = m.known;
  means = record {
    done = m.done;
    misused = m.usage;
    unfetched = λ is.
        let u = m.fetch is in
        record { first = u.first; name = u.name; rest = u.rest; is = u.is; asked_for = u.asked_for; rose = u.rose; printed = u.printed };
    refused = m.refused;
    keyless = m.keys;
    sunk = λ is. record { rose = (m.sink is).rose; beginning = (m.sink is).beginning };
    wires = λ is. no_six status is m.known;
    memory = m.memory;
    overfull = m.overfull;
    unlike = m.unlike;
  };
  idle = record { calls = refl; failed = refl; turns_failed = refl; listening = refl; clock = refl };
  asked = asked;
  complete = m.complete;
  steady = steady;
}
off_run (Check keys trace) g rest files before_files p q c d f h before now status off m asked steady = record {
  known = m.known;
  means = record {
    done = m.done;
    misused = m.usage;
    unfetched = λ is.
        let u = m.fetch is in
        record { first = u.first; name = u.name; rest = u.rest; is = u.is; asked_for = u.asked_for; rose = u.rose; printed = u.printed };
    refused = m.refused;
    keyless = m.keys;
    sunk = λ is. record { rose = (m.sink is).rose; beginning = (m.sink is).beginning };
    wires = λ is. no_six status is m.known;
    memory = m.memory;
    overfull = m.overfull;
    unlike = m.unlike;
  };
  idle = record { calls = refl; failed = refl; turns_failed = refl; listening = refl; clock = refl };
  asked = asked;
  complete = m.complete;
  steady = steady;
}
off_run (Audit keys tap ends) g rest files before_files p q c d f h before now status off m asked steady = record {
  known = m.known;
  means = record {
    done = m.done;
    misused = m.usage;
    unfetched = λ is.
        let u = m.fetch is in
        record { first = u.first; name = u.name; rest = u.rest; is = u.is; asked_for = u.asked_for; rose = u.rose; printed = u.printed };
    refused = m.refused;
    keyless = m.keys;
    sunk = λ is. record { rose = (m.sink is).rose; beginning = (m.sink is).beginning };
    wires = λ is. no_six status is m.known;
    memory = m.memory;
    overfull = m.overfull;
    unlike = m.unlike;
  };
  idle = record { calls = refl; failed = refl; turns_failed = refl; listening = refl; clock = refl };
  asked = asked;
  complete = m.complete;
  steady = steady;
}
off_run (Bulk seed count) g rest files before_files p q c d f h before now status off m asked steady = record {
  known = m.known;
  means = record {
    done = m.done;
    misused = m.usage;
    unfetched = λ is.
        let u = m.fetch is in
        record { first = u.first; name = u.name; rest = u.rest; is = u.is; asked_for = u.asked_for; rose = u.rose; printed = u.printed };
    refused = m.refused;
    keyless = m.keys;
    sunk = λ is. record { rose = (m.sink is).rose; beginning = (m.sink is).beginning };
    wires = λ is. no_six status is m.known;
    memory = m.memory;
    overfull = m.overfull;
    unlike = m.unlike;
  };
  idle = record { calls = refl; failed = refl; turns_failed = refl; listening = refl; clock = refl };
  asked = asked;
  complete = m.complete;
  steady = steady;
}
off_run (Serve keys address rbc turns) g rest files before_files p q c d f h before now status off m asked steady = absurd cc
off_run (Call keys address engine rbc turns) g rest files before_files p q c d f h before now status off m asked steady = absurd cc

-- ---- a command of the loop

-- none of these
no_line : (s : ℕ) → IsLineStatus s → s ≢ 0 → s ≢ 2 → s ≢ 4 → s ≢ 5 → s ≢ 6 → s ≢ 7 → ⊥
no_line s (inl x) a b c d e f = a x
no_line s (inr (inl x)) a b c d e f = b x
no_line s (inr (inr (inl x))) a b c d e f = c x
no_line s (inr (inr (inr (inl x)))) a b c d e f = d x
no_line s (inr (inr (inr (inr (inl x))))) a b c d e f = e x
no_line s (inr (inr (inr (inr (inr x))))) a b c d e f = f x

-- status 1, 3, 8 or 9 is none of these
apart_line : (s : ℕ) → (s ≡ 1) ⊎ (s ≡ 3) ⊎ (s ≡ 8) ⊎ (s ≡ 9) → IsLineStatus s → ⊥
apart_line s (inl x) known = no_line s known (omega (arith, x)) (omega (arith, x)) (omega (arith, x)) (omega (arith, x)) (omega (arith, x)) (omega (arith, x))
apart_line s (inr (inl x)) known = no_line s known (omega (arith, x)) (omega (arith, x)) (omega (arith, x)) (omega (arith, x)) (omega (arith, x)) (omega (arith, x))
apart_line s (inr (inr (inl x))) known = no_line s known (omega (arith, x)) (omega (arith, x)) (omega (arith, x)) (omega (arith, x)) (omega (arith, x)) (omega (arith, x))
apart_line s (inr (inr (inr x))) known = no_line s known (omega (arith, x)) (omega (arith, x)) (omega (arith, x)) (omega (arith, x)) (omega (arith, x)) (omega (arith, x))

serve_run : (keys address : List ℕ) (rbc turns : ℕ) (g : GivenToLoop) (before now : Outside) (status : ℕ)
    → IsLineRun (line.Serve keys address rbc turns) g before now status → IsRun (Serve keys address rbc turns) g before now status
serve_run keys address rbc turns g before now status m = record {
  known = m.known;
  means = record {
    done = m.served;
    misused = λ is. apart_line status (inl is) m.known;
    unfetched = λ is. record {
      first = [];
      name = keys;
      rest = [];
      is = refl;
      asked_for = (m.unfetched is).asked_for;
      rose = (m.unfetched is).rose;
      printed = (m.unfetched is).printed;
    };
    refused = λ is. apart_line status (inr (inl is)) m.known;
    keyless = λ is. elim (m.keyless is) [ inl refused ↦ refused | inr keyless ↦ absurd keyless.lacks ];
    sunk = λ is. record { rose = (m.sunk is).rose; beginning = (m.sunk is).beginning };
    wires = m.wires;
    memory = m.memory;
    overfull = λ is. apart_line status (inr (inr (inl is))) m.known;
    unlike = λ is. apart_line status (inr (inr (inr is))) m.known;
  };
  idle = m.idle;
  asked = record { part = m.part; all = λ two four five seven. m.asked five seven };
  complete = m.complete;
  steady = m.steady;
}

call_run : (keys address : List ℕ) (engine rbc turns : ℕ) (g : GivenToLoop) (before now : Outside) (status : ℕ)
    → IsLineRun (line.Call keys address engine rbc turns) g before now status → IsRun (Call keys address engine rbc turns) g before now status
call_run keys address engine rbc turns g before now status m = record {
  known = m.known;
  means = record {
    done = m.served;
    misused = λ is. apart_line status (inl is) m.known;
    unfetched = λ is. record {
      first = [];
      name = keys;
      rest = [];
      is = refl;
      asked_for = (m.unfetched is).asked_for;
      rose = (m.unfetched is).rose;
      printed = (m.unfetched is).printed;
    };
    refused = λ is. apart_line status (inr (inl is)) m.known;
    keyless = m.keyless;
    sunk = λ is. record { rose = (m.sunk is).rose; beginning = (m.sunk is).beginning };
    wires = m.wires;
    memory = m.memory;
    overfull = λ is. apart_line status (inr (inr (inl is))) m.known;
    unlike = λ is. apart_line status (inr (inr (inr is))) m.known;
  };
  idle = m.idle;
  asked = record { part = m.part; all = λ two four five seven. m.asked five seven };
  complete = m.complete;
  steady = m.steady;
}

pub line_run : (command : LineCommand) (g : GivenToLoop) (before now : Outside) (status : ℕ) → IsLineRun command g before now status → IsRun (command_of_line command) g before now status
line_run (line.Serve keys address rbc turns) g before now status m = serve_run keys address rbc turns g before now status m
line_run (line.Call keys address engine rbc turns) g before now status m = call_run keys address engine rbc turns g before now status m

-- ---- which command needs no wires

off_work : (w : Work) (keys name : List ℕ) → needs_wires (command_of_work w keys name) ≡ false
off_work work.Replay keys name = refl
off_work work.Check keys name = refl
off_work (work.Audit ends) keys name = refl

pub off_line : (command : FileCommand) → needs_wires (file_view command) ≡ false
off_line (file.Plain plain.Misused) = refl
off_line (file.Plain (plain.Drill name)) = refl
off_line (file.Plain (plain.Bits name)) = refl
off_line (file.Plain (plain.Migrate keys)) = refl
off_line (file.Plain (plain.Bulk seed count)) = refl
off_line (file.Keyed command) = off_work command.work command.keys.now command.name.now

-- ---- recorded before it goes

pub file_recorded : (command : FileCommand) (before now : Told) → IsRunRecorded (file_view command) before now
file_recorded command before now needs = absurd (true≢false (sym needs ∙ off_line command))

pub line_recorded : (command : LineCommand) (before now : Told) → IsLineRecorded before now → IsRunRecorded (command_of_line command) before now
line_recorded command before now recorded needs = recorded
