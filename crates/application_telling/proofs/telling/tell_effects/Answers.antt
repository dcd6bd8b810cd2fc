-- One part behind the other.
use Rattle.std.proofs.Common.{option_map}
use Rattle.std.proofs.lemmas.Result.{on_ok_weaker}
use Rattle.application_telling.specs.Texts.{event_of_sent}
use Rattle.application_telling.proofs.Appending.{told_more, accepted_told, octets_told}
use Rattle.application_telling.proofs.telling.tell_effects.Goals as goal

pub returns : goal.returns
returns c =
    let conn = c.args.connection in
    let what = event_of_sent (option_map (λ m. m.now) c.args.sent.now) in
    let deeds = c.args.effects.now.deeds in
    let first = told_more conn what _ _ _ _ _ c.in_ok-tell_refused.ensures (c.in_ok-tell_taken.ensures what) in
    let made = told_more conn what _ _ _ _ _ (c.in_ok-tell_connected.ensures what) (accepted_told conn what (option_map (λ m. m.now) deeds.accepted) _) in
    on_ok_weaker c.tell_released.result
    (λ last. told_more conn what _ _ _ _ _ first (told_more conn what _ _ _ _ _ (told_more conn what _ _ _ _ _ made (last what)) (octets_told conn what deeds.out.now _)))
    c.tell_released.ensures
