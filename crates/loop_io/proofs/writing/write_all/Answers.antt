use Rattle.std.proofs.Common.{rules, ◌<◌, length, refl, ap, ◌∙◌}
use Rattle.er_end.specs.KeptEnds.{KEnd}
use Rattle.loop_model.specs.Sessions.{Session}
use Rattle.loop_io.proofs.Writings.{wrote_more, wrote_off, wrote_failing, keep_then, keep_send}
use Rattle.loop_io.proofs.writing.write_all.Goals as goal

pub returns-in-NotNow-clause-wrote : goal.returns-in-NotNow-clause-wrote
returns-in-NotNow-clause-wrote g c =
    let some : 0 < length c.loop-outside.session.output = search rules in
    wrote_off (g.O.Outside.told c.args.outside.now) (g.O.Outside.told c.loop-outside.outside) (g.O.Outside.told c.send.new.self)
    c.args.session.now c.loop-outside.session c.number.result c.output-in-loop-outside.result.now c.loop-outside.invariant.wrote c.number.ensures c.output-in-loop-outside.ensures some
    c.in-NotNow.ensures.does

pub returns-in-Failed-clause-wrote : goal.returns-in-Failed-clause-wrote
returns-in-Failed-clause-wrote g c =
    let some : 0 < length c.loop-outside.session.output = search rules in
    wrote_failing (g.O.Outside.told c.args.outside.now) (g.O.Outside.told c.loop-outside.outside) (g.O.Outside.told c.send.new.self)
    c.args.session.now c.loop-outside.session c.number.result c.output-in-loop-outside.result.now c.loop-outside.invariant.wrote c.number.ensures c.output-in-loop-outside.ensures some
    c.in-Failed.ensures.does

pub loop-outside-preserved : goal.loop-outside-preserved
loop-outside-preserved g c =
    let some : 0 < length c.loop-outside.session.output = search rules in
    record {
      wrote = wrote_more (g.O.Outside.told c.args.outside.now) (g.O.Outside.told c.loop-outside.outside) (g.O.Outside.told c.send.new.self)
          c.args.session.now c.loop-outside.session c.wrote.new.self c.number.result c.output-in-loop-outside.result.now c.in-Some.count c.loop-outside.invariant.wrote c.number.ensures
          c.output-in-loop-outside.ensures some c.in-Some.ensures.does (c.in-Some.ensures.fits c.in-Some.count refl) c.wrote.ensures;
      number = ap (λ (z : Session KEnd). z.number) c.wrote.ensures ∙ c.loop-outside.invariant.number;
      keep = keep_then _ _ _ c.loop-outside.invariant.keep (keep_send _ _ _ _ _ c.in-Some.ensures.does);
    }

pub returns-in-NotNow-clause-keep : goal.returns-in-NotNow-clause-keep
returns-in-NotNow-clause-keep g c = keep_then _ _ _ c.loop-outside.invariant.keep (keep_send _ _ _ _ _ c.in-NotNow.ensures.does)

pub returns-in-Failed-clause-keep : goal.returns-in-Failed-clause-keep
returns-in-Failed-clause-keep g c = keep_then _ _ _ c.loop-outside.invariant.keep (keep_send _ _ _ _ _ c.in-Failed.ensures.does)
