use Rattle.std.proofs.Common.{◌≡◌, [], sym, ◌∙◌}
use Rattle.std.proofs.lemmas.Bool.{eqb-true}
use Rattle.std.proofs.lemmas.List.{nil_from_length}
use Rattle.drill_ends.proofs.StationRows.{reading_goes_on, reading_ends}
use Rattle.drill_ends.proofs.station_end.StationEnd.receive.Goals as goal

pub loop-rest-preserved : goal.loop-rest-preserved
loop-rest-preserved c =
    λ selective s stream h.
    reading_goes_on c.kept_stands_for_stream.ensures selective c.args.now c.loop-rest.self c.receive_one.new.self s stream c.args.octets.now c.loop-rest.rest.now c.split_at.result.1.now
    c.in_ok-used.used c.args.told.now.items c.loop-rest.told.items c.receive_one.new.told.items
    c.split_at.ensures.back (c.loop-rest.invariant selective s stream h) c.in_ok-used.ensures.reads

pub returns : goal.returns
returns c =
    λ selective s stream h.
    let none : c.loop-rest.rest.now ≡ [] = nil_from_length c.loop-rest.rest.now (eqb-true _ 0 (sym c.is_empty.ensures ∙ c.loop-rest-test.false)) in
    reading_ends selective c.args.now c.loop-rest.self s stream c.args.octets.now c.loop-rest.rest.now c.args.told.now.items c.loop-rest.told.items none
    (c.loop-rest.invariant selective s stream h)
