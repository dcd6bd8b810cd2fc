use Rattle.std.proofs.lemmas.Result.{on_ok_weaker}
use Rattle.drill_ends.specs.Events.{event_of}
use Rattle.safety_automaton.specs.Keys.{key_at}
use Rattle.er_world.proofs.port.Port.answer.Goals as goal

pub returns-clause-went : goal.returns-clause-went
returns-clause-went c =
    on_ok_weaker c.tell_all.result
    (λ all end facts st h.
    let w = c.in_ok-told.ensures end st in
    record {
      stands = w.stands;
      list = c.in_ok-told.told.items;
      told = w.told;
      all = all _ facts w.told h;
      counts_are = c.count_told.ensures;
      sent_are = c.sends.ensures (key_at c.args.keys.now c.args.now) c.args.now end (event_of c.args.event.now) c.in_ok-told.told.items w.told;
    })
    c.tell_all.ensures
