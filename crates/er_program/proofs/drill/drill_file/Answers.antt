-- What was read, drilled or refused; and want of memory.
use Rattle.std.proofs.Common.{◌≡◌, ℕ, [], Result, Ok, Err}
use Rattle.er_base.specs.declared.text_fault.TextFault.{TextFault}
use Rattle.er_base.specs.declared.text_fault.TextFault.TheVariants as text
use Rattle.er_base.specs.declared.why.Why.{Why}
use Rattle.er_scenario.specs.declared.scenario.Scenario.{Scenario}
use Rattle.er_scenario.specs.Files.{scenario_of}
use Rattle.er_scenario.specs.Texts.{CanBeRead}
use Rattle.drill_model.specs.Worlds.{plan_of}
use Rattle.outside.specs.Doings.{Told}
use Rattle.outside.specs.Scripts.{End, OutOfMemory, Does, says_last}
use Rattle.outside.specs.ScriptSteps.{does_spent, does_knowing, does_spent_unknowing}
use Rattle.er_statuses.specs.LastLines.{fault_line, why_word}
use Rattle.er_program.specs.StepScripts.{drills_steps, drills_read}
use Rattle.er_program.proofs.drill.drill_file.Goals as goal

spent : (read : Result Scenario TextFault) (t : Told) → Does (drills_read read) t t OutOfMemory
spent (Ok s) t = does_spent_unknowing (CanBeRead s) (drills_steps (plan_of s) [] s.steps) t
spent (Err (text.At line why)) t = does_spent _ _ t
spent (Err (text.NoMemory want)) t = does_spent_unknowing ⊥ _ t

drilled : (read : Result Scenario TextFault) (s : Scenario) (before now : Told) (end : End) → read ≡ Ok s → CanBeRead s → Does (drills_steps (plan_of s) [] s.steps) before now end
    → Does (drills_read read) before now end
drilled read s before now end is readable does = rw is (does_knowing (CanBeRead s) (drills_steps (plan_of s) [] s.steps) before now end readable does)

refused : (read : Result Scenario TextFault) (line : ℕ) (why : Why) (before now : Told) (end : End) → read ≡ Err (text.At line why)
    → Does (says_last 3 (fault_line line (why_word why))) before now end → Does (drills_read read) before now end
refused read line why before now end is does = rw is does

pub returns-in-Ok : goal.returns-in-Ok
returns-in-Ok g c = record { does = drilled (scenario_of c.args.octets.now) _ _ _ _ c.in-Ok.ensures.exact c.in-Ok.ensures.range c.drill_steps.ensures.does }

pub returns-in-Err-At : goal.returns-in-Err-At
returns-in-Err-At g c = record {
  does = refused (scenario_of c.args.octets.now) _ _ _ _ _ (rw c.in-Err-At.field-0-is at c.in-Err-At.ensures.exact) c.out_of_form.ensures.does;
}

pub returns-in-Err-NoMemory : goal.returns-in-Err-NoMemory
returns-in-Err-NoMemory g c = record { does = spent (scenario_of c.args.octets.now) _ }
