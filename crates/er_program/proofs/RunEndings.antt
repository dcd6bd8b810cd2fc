-- How a run ends, from how its parts end.
use Rattle.std.proofs.Common.{◌≡◌, inl, inr, ℕ, ◌≤◌, List, [], Option, Some, None, Result, Ok, Err, refl, sym, subst}
use Rattle.er_base.specs.declared.text_fault.TextFault.{TextFault}
use Rattle.er_scenario.specs.declared.scenario.Scenario.{Scenario}
use Rattle.er_base.specs.declared.text_fault.TextFault.TheVariants as text
use Rattle.er_base.specs.declared.why.Why.{Why}
use Rattle.er_scenario.specs.Files.{scenario_of}
use Rattle.er_scenario.specs.Texts.{CanBeRead}
use Rattle.link_trait.specs.Outside.{HasFile}
use Rattle.er_program.specs.Commands.{Misused, Drill}
use Rattle.er_statuses.specs.LastLines.{fetch_line, usage_line, fault_line, why_word}
use Rattle.er_statuses.specs.Answers.{Files}
use Rattle.er_program.specs.Answers.{lines_of_first}
use Rattle.er_statuses.specs.Writing.{GivesAnswer, EndsUnfetched}
use Rattle.er_program.specs.Writing.{Drills, SpellsScenarioInRange, WritesFirst, EndsFile, Exhausted, EndsCommand}
use Rattle.er_statuses.specs.declared.stop.Stop.{Stop}
use Rattle.er_statuses.specs.declared.stop.Stop.TheVariants as stop
use Rattle.er_statuses.specs.declared.status.Status.{Status}

-- memory ran out in the drill of a file
exhausted : (name file : List ℕ) (files : Files) (read : Result Scenario TextFault) (before now : Option (List ℕ)) (f g : ℕ)
    → HasFile files name file → scenario_of file ≡ read → SpellsScenarioInRange read → WritesFirst read before now → f ≤ g
    → Exhausted (Drill name) files before now f g
exhausted name file files (Err fault) before now f g stands is readable first later = absurd first
exhausted name file files (Ok s) before now f g stands is readable first later = record {
  text = lines_of_first s first.count;
  first = inr (record {
    scenario = s;
    spells = record { file = file; stands = stands; spelled = is };
    readable = readable;
    count = first.count;
    are_done = first.are_done;
    is = refl;
  });
  printed = first.grew;
  later = later;
}

-- the file of that name was drilled
pub ends_file : (name file : List ℕ) (files : Files) (c d : ℕ) (before now : Option (List ℕ)) (f g : ℕ) (r : Result Status Stop)
    → HasFile files name file → EndsFile (scenario_of file) before now f g r → EndsCommand (Drill name) files c d before now f g r
ends_file name file files c d before now f g (Ok status) stands ends = record {
  answer = ends.answer;
  is = record {
    answer = record { fetched = Some file; stands = stands; is = ends.is };
    readable = ends.readable;
  };
  stated = ends.stated;
  printed = ends.printed;
  later = ends.later;
}
ends_file name file files c d before now f g (Err stop.Sink) stands ends = record {
  answer = ends.answer;
  is = record {
    answer = record { fetched = Some file; stands = stands; is = ends.is };
    readable = ends.readable;
  };
  part = ends.part;
  rose = ends.rose;
}
ends_file name file files c d before now f g (Err (stop.NoMemory want)) stands ends =
    elim ends.first [
      | inl nothing ↦ record { text = []; first = inl refl; printed = nothing; later = ends.later }
      | inr first ↦ exhausted name file files (scenario_of file) before now f g stands refl first.0 first.1 ends.later
    ]

-- the fetch failed
pub ends_unfetched : (name : List ℕ) (files : Files) (c d : ℕ) (before now : Option (List ℕ)) (f g : ℕ) (r : Result Status Stop)
    → EndsUnfetched name c d before now f g r → EndsCommand (Drill name) files c d before now f g r
ends_unfetched name files c d before now f g (Ok status) ends = record {
  answer = record { status = 2; text = fetch_line name };
  is = record {
    answer = record { fetched = None; stands = ends.0; is = refl };
    readable = tt;
  };
  stated = ends.1;
  printed = ends.2;
  later = ends.3;
}
ends_unfetched name files c d before now f g (Err stop.Sink) ends = record {
  answer = record { status = 2; text = fetch_line name };
  is = record {
    answer = record { fetched = None; stands = ends.0; is = refl };
    readable = tt;
  };
  part = ends.1;
  rose = ends.2;
}
ends_unfetched name files c d before now f g (Err (stop.NoMemory want)) ends =
    record { text = []; first = inl refl; printed = ends.0; later = ends.1 }

-- the words fit no command
pub ends_unfit : (files : Files) (c d : ℕ) (before now : Option (List ℕ)) (f g : ℕ) (r : Result Status Stop)
    → GivesAnswer (record { status = 1; text = usage_line }) before now f g r → EndsCommand Misused files c d before now f g r
ends_unfit files c d before now f g (Ok status) ends = record {
  answer = record { status = 1; text = usage_line };
  is = refl;
  stated = ends.0;
  printed = ends.1;
  later = ends.2;
}
ends_unfit files c d before now f g (Err stop.Sink) ends = record {
  answer = record { status = 1; text = usage_line };
  is = refl;
  part = ends.0;
  rose = ends.1;
}
ends_unfit files c d before now f g (Err (stop.NoMemory want)) ends = record { text = []; first = refl; printed = ends.0; later = ends.1 }

-- a scenario that was read was drilled
drilled : (s : Scenario) (before now : Option (List ℕ)) (f g : ℕ) (r : Result Status Stop) → CanBeRead s → Drills s before now f g r
    → EndsFile (Ok s) before now f g r
drilled s before now f g (Ok status) readable drills = record {
  readable = readable;
  answer = drills.answer;
  is = drills.is;
  stated = drills.stated;
  printed = drills.printed;
  later = drills.later;
}
drilled s before now f g (Err stop.Sink) readable drills = record {
  readable = readable;
  answer = drills.answer;
  is = drills.is;
  part = drills.part;
  rose = drills.rose;
}
drilled s before now f g (Err (stop.NoMemory want)) readable drills = record { first = inr (readable, drills.0); later = drills.1 }

pub ends_drilled : (read : Result Scenario TextFault) (s : Scenario) (before now : Option (List ℕ)) (f g : ℕ) (r : Result Status Stop)
    → read ≡ Ok s → CanBeRead s → Drills s before now f g r → EndsFile read before now f g r
ends_drilled read s before now f g r is readable drills =
    subst (λ (x : Result Scenario TextFault). EndsFile x before now f g r) (sym is) (drilled s before now f g r readable drills)

-- a file that is out of its grammar had its line told
refused : (line : ℕ) (why : Why) (before now : Option (List ℕ)) (f g : ℕ) (r : Result Status Stop)
    → GivesAnswer (record { status = 3; text = fault_line line (why_word why) }) before now f g r → EndsFile (Err (text.At line why)) before now f g r
refused line why before now f g (Ok status) gives = record {
  readable = tt;
  answer = record { status = 3; text = fault_line line (why_word why) };
  is = refl;
  stated = gives.0;
  printed = gives.1;
  later = gives.2;
}
refused line why before now f g (Err stop.Sink) gives = record {
  readable = tt;
  answer = record { status = 3; text = fault_line line (why_word why) };
  is = refl;
  part = gives.0;
  rose = gives.1;
}
refused line why before now f g (Err (stop.NoMemory want)) gives = record { first = inl gives.0; later = gives.1 }

pub ends_refused : (read : Result Scenario TextFault) (line : ℕ) (why : Why) (before now : Option (List ℕ)) (f g : ℕ) (r : Result Status Stop)
    → read ≡ Err (text.At line why) → GivesAnswer (record { status = 3; text = fault_line line (why_word why) }) before now f g r → EndsFile read before now f g r
ends_refused read line why before now f g r is gives =
    subst (λ (x : Result Scenario TextFault). EndsFile x before now f g r) (sym is) (refused line why before now f g r gives)
