use Rattle.std.proofs.Common.{◌≡◌, ℕ, rules, sym, ap, ◌∙◌, true, false}
use Rattle.std.proofs.lemmas.Bool.{le-ltb}
use Rattle.std.specs.Prelude.{Some}
use Rattle.er_end_c.specs.declared.held.Held.{Held}
use Rattle.er_end_c.specs.Calls.{Start, is_moment_too_late, held_behind_event, deeds_at, deeds_with_back, is_back, held_behind_call}
use Rattle.er_end_c.proofs.Noting.{noted_behind, told_behind}
use Rattle.er_end_c.proofs.events.euroradio_start.Goals as goal

pub returns : goal.returns
returns c =
    let h : Held = c.in-Some.held.value in
    let n : ℕ = c.in-Some-checked.now in
    let early : is_moment_too_late c.args.now ≡ false = le-ltb 1000000000000000 c.args.now c.in-Some-checked.ensures.1 in
    let awaits : h.awaits_start ≡ true = sym (ap (λ (x : Held). x.awaits_start) c.deref.ensures) ∙ c.if-not-deref.false in
    let is : c.start.new.self ≡ held_behind_event (Start n) h = c.start.ensures.held ∙ ap (held_behind_event (Start n)) c.deref_mut.ensures.value in
    let deeds : c.start.result ≡ deeds_at (Start n) h = search rules in
    record {
      does = record {
        held = c.put_held_at.ensures.held
            ∙ rw (c.in-Some.ensures.0, early, awaits) (ap Some (noted_behind (Start n) h c.start.new.self c.start.result is deeds ∙ ap (λ x. held_behind_call (Start x) h) c.in-Some-checked.ensures.0));
        answer = rw (c.in-Some.ensures.0, early, awaits) search rules;
        tells = c.put_held_at.ensures.deeds
            ∙ rw (c.in-Some.ensures.0, early, awaits) (told_behind (Start n) h c.start.new.self c.start.result is deeds ∙ ap (λ x. deeds_with_back (is_back (Start x) h.last) (deeds_at (Start x) h)) c.in-Some-checked.ensures.0);
      };
    }
