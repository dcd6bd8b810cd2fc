use Rattle.std.proofs.Common.{◌≡◌, ℕ, rules, ap, ◌∙◌, false}
use Rattle.std.proofs.lemmas.Bool.{le-ltb}
use Rattle.std.specs.Prelude.{Some}
use Rattle.er_end.specs.KeptEnds.{after_octets, used_of}
use Rattle.er_end_c.specs.declared.held.Held.{Held}
use Rattle.er_end_c.specs.Shown.{deeds_of}
use Rattle.er_end_c.specs.Handles.{held_with_end}
use Rattle.er_end_c.specs.Calls.{Octets, is_moment_too_late, finds_in, handle_end_behind_call, deeds_at, deeds_with_back, is_back, held_behind_call}
use Rattle.er_end_c.proofs.Noting.{noted_behind, told_behind, deeds_of_end}
use Rattle.er_end_c.proofs.events.euroradio_octets.Goals as goal

pub returns : goal.returns
returns c =
    let h : Held = c.in-Some.held.value in
    let n : ℕ = c.in-Some-checked.now in
    let early : is_moment_too_late c.args.now ≡ false = le-ltb 1000000000000000 c.args.now c.in-Some-checked.ensures.1 in
    let is : c.octets.new.self ≡ held_with_end h (handle_end_behind_call (Octets n c.args.piece.now) h) = c.octets.ensures.held ∙ ap (λ (x : Held). held_with_end x (handle_end_behind_call (Octets n c.args.piece.now) x)) c.deref_mut.ensures.value in
    let deeds : c.octets.result ≡ deeds_at (Octets n c.args.piece.now) h =
    c.octets.ensures.deeds ∙ ap (λ (x : Held). deeds_of (used_of x.end c.args.piece.now) (after_octets (finds_in x) n c.args.piece.now x.end)) c.deref_mut.ensures.value
    ∙ deeds_of_end (used_of h.end c.args.piece.now) (after_octets (finds_in h) n c.args.piece.now h.end) in
    record {
      does = record {
        held = c.put_held_at.ensures.held
            ∙ rw (c.in-Some.ensures.0, early) (ap Some (noted_behind (Octets n c.args.piece.now) h c.octets.new.self c.octets.result is deeds ∙ ap (λ x. held_behind_call (Octets x c.args.piece.now) h) c.in-Some-checked.ensures.0));
        answer = rw (c.in-Some.ensures.0, early) search rules;
        tells = c.put_held_at.ensures.deeds
            ∙ rw (c.in-Some.ensures.0, early) (told_behind (Octets n c.args.piece.now) h c.octets.new.self c.octets.result is deeds ∙ ap (λ x. deeds_with_back (is_back (Octets x c.args.piece.now) h.last) (deeds_at (Octets x c.args.piece.now) h)) c.in-Some-checked.ensures.0);
      };
    }
