use Rattle.std.proofs.Common.{◌≡◌, rules, ap, ◌∙◌}
use Rattle.std.specs.Prelude.{Some}
use Rattle.er_end_c.specs.declared.held.Held.{Held}
use Rattle.er_end_c.specs.Handles.{held_with_end}
use Rattle.er_end_c.specs.Calls.{Stalled, handle_end_behind_call, deeds_at}
use Rattle.er_end_c.proofs.Noting.{noted_behind}
use Rattle.er_end_c.proofs.events.euroradio_stalled.Goals as goal

pub returns : goal.returns
returns c =
    let h : Held = c.in-Some.held.value in
    let is : c.stalled.new.self ≡ held_with_end h (handle_end_behind_call Stalled h) = c.stalled.ensures.held ∙ ap (λ (x : Held). held_with_end x (handle_end_behind_call Stalled x)) c.deref_mut.ensures.value in
    let deeds : c.stalled.result ≡ deeds_at Stalled h = search rules in
    record {
      does = record {
        held = c.put_held_behind.ensures ∙ rw c.in-Some.ensures.0 (ap Some (noted_behind Stalled h c.stalled.new.self c.stalled.result is deeds));
        answer = search rules;
        tells = search rules;
      };
    }
