use Rattle.std.proofs.Common.{◌≡◌, ℕ, sym, ap, ◌∙◌, subst, false}
use Rattle.std.proofs.lemmas.Bool.{le-ltb}
use Rattle.std.specs.Prelude.{Some, pos}
use Rattle.er_end.specs.KeptEnds.{after_take, waiting_in}
use Rattle.er_end_c.specs.declared.held.Held.{Held}
use Rattle.er_end_c.specs.Deeds.{status_told}
use Rattle.er_end_c.specs.Handles.{held_with_end}
use Rattle.er_end_c.specs.Calls.{Take, is_moment_too_late, handle_end_behind_call, told_at, deeds_at, deeds_with_back, is_back, held_behind_call}
use Rattle.er_end_c.specs.Shown.{taken_deeds}
use Rattle.er_end_c.proofs.Taking.{take_some}
use Rattle.er_end_c.proofs.Noting.{noted_behind, told_behind}
use Rattle.er_end_c.proofs.events.euroradio_take.Goals as goal

pub returns-in-Some-take : goal.returns-in-Some-take
returns-in-Some-take c =
    let h : Held = c.in-Some.held.value in
    let n : ℕ = c.in-Some-checked.now in
    let early : is_moment_too_late c.args.now ≡ false = le-ltb 1000000000000000 c.args.now c.in-Some-checked.ensures.1 in
    let told : Some c.in-Some-take.told ≡ taken_deeds (waiting_in h.end) (after_take n h.end) =
    subst (λ (x : Held). Some c.in-Some-take.told ≡ taken_deeds (waiting_in x.end) (after_take n x.end)) c.deref_mut.ensures.value (sym c.in-Some-take.is ∙ c.take.ensures.answer) in
    let t = take_some n h c.in-Some-take.told told in
    let is : c.take.new.self ≡ held_with_end h (handle_end_behind_call (Take n) h) = c.take.ensures.held ∙ ap (λ (x : Held). held_with_end x (handle_end_behind_call (Take n) x)) c.deref_mut.ensures.value in
    record {
      does = record {
        held = c.put_held_at.ensures.held
            ∙ rw (c.in-Some.ensures.0, early) (ap Some (noted_behind (Take n) h c.take.new.self c.in-Some-take.told is t.0 ∙ ap (λ x. held_behind_call (Take x) h) c.in-Some-checked.ensures.0));
        answer = rw (c.in-Some.ensures.0, early) (sym (subst (λ x. status_told (told_at (Take x) h) ≡ pos 0) c.in-Some-checked.ensures.0 t.1));
        tells = c.put_held_at.ensures.deeds
            ∙ rw (c.in-Some.ensures.0, early) (told_behind (Take n) h c.take.new.self c.in-Some-take.told is t.0 ∙ ap (λ x. deeds_with_back (is_back (Take x) h.last) (deeds_at (Take x) h)) c.in-Some-checked.ensures.0);
      };
    }
