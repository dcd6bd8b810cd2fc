use Rattle.std.proofs.Common.{rules as base, ap}
use Rattle.std.proofs.lemmas.Result.{err_from_is_err_and}
use Rattle.link_trait.specs.Wires.{reading_of}
use Rattle.loop_session.specs.Parts.{rules_of_session}
use Rattle.loop_io.specs.Seeing.{seen}
use Rattle.loop_io.proofs.Writings.{keep_then, keep_read, keep_prints}
use Rattle.loop_io.proofs.Rests.{reads_broke, reads_stays, reads_rests, read_made, some_read}
use Rattle.loop_io.proofs.reading.read.Goals as goal

pub returns-in_err-take_in-clause-does : goal.returns-in_err-take_in-clause-does
returns-in_err-take_in-clause-does g c =
    let p = err_from_is_err_and c.from_residual.result c.from_residual.ensures.1 in
    rw (p.1, p.2)
    (reads_broke (g.O.Outside.told c.args.outside.now) (g.O.Outside.told c.read-answer.new.self) (g.O.Outside.told c.take_in.new.outside) (rules_of_session (g.K.KeyFinder.entries c.args.keys.now) c.args.when.now.setup) c.args.when.now.moment
    c.args.session.now c.number.result _ (reading_of c.read-answer.result c.read-answer.new.into) c.in_err-take_in.field-0.0 c.number.ensures
    (read_made _ _ _ _ _ c.read-answer.result c.read-answer.new.into c.read-answer.ensures.does c.read-answer.ensures.reads c.read-answer.ensures.fits c.read-answer.ensures.not_now c.read-answer.ensures.end c.read-answer.ensures.length (search base))
    c.in_err-take_in.ensures.chooses)

pub returns-then-gave_nothing-clause-does : goal.returns-then-gave_nothing-clause-does
returns-then-gave_nothing-clause-does g c =
    reads_stays (g.O.Outside.told c.args.outside.now) (g.O.Outside.told c.read-answer.new.self) (g.O.Outside.told c.take_in.new.outside) (rules_of_session (g.K.KeyFinder.entries c.args.keys.now) c.args.when.now.setup) c.args.when.now.moment
    c.args.session.now c.take_in.new.session c.number.result _ (reading_of c.read-answer.result c.read-answer.new.into) c.number.ensures
    (ap (λ z. reading_of z c.read-answer.new.into) (c.gave_nothing.ensures.yes c.if-gave_nothing.true))
    (read_made _ _ _ _ _ c.read-answer.result c.read-answer.new.into c.read-answer.ensures.does c.read-answer.ensures.reads c.read-answer.ensures.fits c.read-answer.ensures.not_now c.read-answer.ensures.end c.read-answer.ensures.length (search base))
    c.in_ok-take_in.ensures.chooses

pub returns-clause-does : goal.returns-clause-does
returns-clause-does g c =
    reads_rests (g.O.Outside.told c.args.outside.now) (g.O.Outside.told c.read-answer.new.self) (g.O.Outside.told c.take_in.new.outside) (seen (g.O.Outside.told c.rest.new.outside)) (rules_of_session (g.K.KeyFinder.entries c.args.keys.now) c.args.when.now.setup)
    c.args.when.now.moment c.args.session.now c.take_in.new.session c.rest.new.session
    c.number.result _ (reading_of c.read-answer.result c.read-answer.new.into) c.rest.result c.number.ensures (some_read c.read-answer.result c.read-answer.new.into (c.gave_nothing.ensures.no c.if-gave_nothing.false))
    (read_made _ _ _ _ _ c.read-answer.result c.read-answer.new.into c.read-answer.ensures.does c.read-answer.ensures.reads c.read-answer.ensures.fits c.read-answer.ensures.not_now c.read-answer.ensures.end c.read-answer.ensures.length (search base))
    c.in_ok-take_in.ensures.chooses (c.rest.ensures.does (g.K.KeyFinder.entries c.args.keys.now))

pub returns-in_err-take_in-clause-keep : goal.returns-in_err-take_in-clause-keep
returns-in_err-take_in-clause-keep g c = keep_then _ _ _ (keep_read _ _ _ _ _ c.read-answer.ensures.does) (keep_prints _ _ c.in_err-take_in.ensures.only)

pub returns-then-gave_nothing-clause-keep : goal.returns-then-gave_nothing-clause-keep
returns-then-gave_nothing-clause-keep g c = keep_then _ _ _ (keep_read _ _ _ _ _ c.read-answer.ensures.does) (keep_prints _ _ c.in_ok-take_in.ensures.only)

pub returns-clause-keep : goal.returns-clause-keep
returns-clause-keep g c =
    keep_then _ _ _ (keep_then _ _ _ (keep_read _ _ _ _ _ c.read-answer.ensures.does) (keep_prints _ _ c.in_ok-take_in.ensures.only)) c.rest.ensures.keep
