use Rattle.std.proofs.Common.{true, subst}
use Rattle.loop_model.specs.Ends.{model_ends}
use Rattle.safety_automaton.specs.Keys.{key_at}
use Rattle.loop_model.specs.Loops.{beginning, serves}
use Rattle.loop_recordings.specs.Recordings.{FindsToo}
use Rattle.readiness_loop.specs.Claims.{dialling}
use Rattle.er_serving.proofs.Recordings.{finds_too, at_beginning}
use Rattle.er_serving.proofs.laws.recordings.Goals as goal

pub returns : goal.returns
returns c = record {
  served = λ before now plan address minds words count why served usual fits.
      c.recordings.ensures plan (serves model_ends plan (beginning minds words) address true served.answers)
      (record { settings = usual; grammar = served.done.in_grammar; fits = fits }) served.lawful.isolated served.lawful.replayed;
  dialled = λ before now kmac plan engine rbc handed address minds words count why finds dialled usual alone found fits.
      let own = dialling kmac plan engine rbc handed in
      c.dials.ensures.own own (record { engine = engine; kmac = kmac }) (beginning minds words) address dialled.answers dialled.conn finds
      (record { settings = usual; grammar = dialled.done.in_grammar; fits = fits }) dialled.lawful.isolated dialled.lawful.replayed (dialled.alone alone)
      (subst (λ n. FindsToo (key_at own.keys) finds n engine rbc) (at_beginning dialled.answers.first) (finds_too finds dialled.answers.first engine rbc kmac found));
}
