-- The recordings of `serve` and `call`: what the sink got is read as a trace, and a replay of this trace writes it again (this profile).
use Rattle.loop_model.specs.Ends.{model_ends}
use Rattle.std.specs.Prelude.{ℕ, ◌≡◌, ◌≤◌, true, false, List, length, Option, Some}
use Rattle.rand_core.specs.Stream.{Stream}
use Rattle.des_block.specs.declared.triple_key.TripleKey.{TripleKey}
use Rattle.er_users.specs.Users.{Mind}
use Rattle.er_settings.specs.Making.{usual_settings}
use Rattle.safety_automaton.specs.Keys.{key_at}
use Rattle.er_end_model.specs.Steps.{Finds}
use Rattle.loop_model.specs.Loops.{Plan, Halt, beginning, serves, dials}
use Rattle.loop_recordings.specs.Recordings.{IsItsOwnReplay, recording_of}
use Rattle.readiness_loop.specs.declared.line_plan.LinePlan.{LinePlan}
use Rattle.readiness_loop.specs.Claims.{LoopOutside, dialling, HasServed, HasDialled}

-- what a loop that serves printed, where its links have the usual settings and it is no longer than a file of a trace may be: with the same
-- keys
abbrev pub ServedReplays : Type 0
ServedReplays =
    (before now : LoopOutside) (plan : Plan) (address : List ℕ) (minds : List Mind) (words : Stream) (count : ℕ) (why : Option Halt)
    (served : HasServed before now plan address minds words count why) → plan.settings ≡ usual_settings
    → length (recording_of plan (serves model_ends plan (beginning minds words) address true served.answers)) ≤ 16777216
    → IsItsOwnReplay (key_at plan.keys) (recording_of plan (serves model_ends plan (beginning minds words) address true served.answers))

-- the same of a dial over wires that didn't listen: with any keys that have the pair's KMAC at the moment of the call, which is what the
-- clock answered first
abbrev pub DialledReplays : Type 0
DialledReplays =
    (before now : LoopOutside) (kmac : TripleKey) (plan : LinePlan) (engine rbc handed : ℕ) (address : List ℕ) (minds : List Mind) (words : Stream)
    (count : ℕ) (why : Option Halt) (finds : Finds)
    (dialled : HasDialled before now (dialling kmac plan engine rbc handed) (record { engine = engine; kmac = kmac }) address minds words count why)
    → plan.settings ≡ usual_settings → before.listening ≡ false → finds dialled.answers.first engine rbc ≡ Some kmac
    → length (recording_of (dialling kmac plan engine rbc handed)
    (dials model_ends (dialling kmac plan engine rbc handed) (record { engine = engine; kmac = kmac }) (beginning minds words) address dialled.answers))
    ≤ 16777216
    → IsItsOwnReplay finds (recording_of (dialling kmac plan engine rbc handed)
    (dials model_ends (dialling kmac plan engine rbc handed) (record { engine = engine; kmac = kmac }) (beginning minds words) address dialled.answers))
