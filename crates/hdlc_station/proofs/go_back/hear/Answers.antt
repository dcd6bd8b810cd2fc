use Rattle.std.proofs.Common.{[], ap, ◌∙◌}
use Rattle.hdlc_frames.specs.Framing.{BadFcs, TooShort, TooLong, Aborted}
use Rattle.hdlc_station_model.specs.Receiving.{hears}
use Rattle.hdlc_station.specs.Told.{told_as}
use Rattle.hdlc_station.specs.declared.heard.Heard.{Heard}
use Rattle.hdlc_station.proofs.Brings.{brings_nothing}
use Rattle.hdlc_station.proofs.go_back.hear.Goals as goal

pub returns-in-Frame-clause-tells : goal.returns-in-Frame-clause-tells
returns-in-Frame-clause-tells c = rw c.in-Frame.is c.hear_frame.ensures.tells

pub returns-in-BadFcs-clause-tells : goal.returns-in-BadFcs-clause-tells
returns-in-BadFcs-clause-tells c = rw c.in-BadFcs.is (brings_nothing _ _ (hears BadFcs) _ _ c.count_bad_fcs.ensures.follows
    (c.of.ensures.deed ∙ ap (λ (x : Heard). told_as [] x.told) c.nothing.ensures) (c.of.ensures.reply ∙ ap (λ (x : Heard). x.reply) c.nothing.ensures))

pub returns-in-TooShort-clause-tells : goal.returns-in-TooShort-clause-tells
returns-in-TooShort-clause-tells c = rw c.in-TooShort.is (brings_nothing _ _ (hears TooShort) _ _ c.count_short.ensures.follows
    (c.of-in-TooShort.ensures.deed ∙ ap (λ (x : Heard). told_as [] x.told) c.nothing-in-TooShort.ensures) (c.of-in-TooShort.ensures.reply ∙ ap (λ (x : Heard). x.reply) c.nothing-in-TooShort.ensures))

pub returns-in-TooLong-clause-tells : goal.returns-in-TooLong-clause-tells
returns-in-TooLong-clause-tells c = rw c.in-TooLong.is (brings_nothing _ _ (hears TooLong) _ _ c.count_long.ensures.follows
    (c.of-in-TooLong.ensures.deed ∙ ap (λ (x : Heard). told_as [] x.told) c.nothing-in-TooLong.ensures) (c.of-in-TooLong.ensures.reply ∙ ap (λ (x : Heard). x.reply) c.nothing-in-TooLong.ensures))

pub returns-in-Aborted-clause-tells : goal.returns-in-Aborted-clause-tells
returns-in-Aborted-clause-tells c = rw c.in-Aborted.is (brings_nothing _ _ (hears Aborted) _ _ c.count_aborted.ensures.follows
    (c.of-in-Aborted.ensures.deed ∙ ap (λ (x : Heard). told_as [] x.told) c.nothing-in-Aborted.ensures) (c.of-in-Aborted.ensures.reply ∙ ap (λ (x : Heard). x.reply) c.nothing-in-Aborted.ensures))
