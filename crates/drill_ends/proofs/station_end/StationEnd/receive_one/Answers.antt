use Rattle.std.proofs.Common.{◌++◌, take, ap, ◌∙◌}
use Rattle.std.specs.Option.{option_to_list, option_map}
use Rattle.hdlc_frames.specs.Framing.{frames_of}
use Rattle.hdlc_frames.specs.Shown.{verdict_of_octets_found}
use Rattle.drill_ends.proofs.Fitting.{found_fits}
use Rattle.drill_ends.proofs.StationRows.{reads_on, none_heard, one_heard}
use Rattle.drill_ends.proofs.station_end.StationEnd.receive_one.Goals as goal

pub hear-requires : goal.hear-requires
hear-requires c = found_fits c.args.self.now.deframer c.args.octets.now c.feed.result.1 c.in-Some.found c.feed.ensures.found c.in-Some.is

pub returns-in_default-clause-reads : goal.returns-in_default-clause-reads
returns-in_default-clause-reads c =
    λ selective s stream h.
    none_heard c.args.self.now c.feed.follows.lender-at-none c.args.now selective s stream (take c.feed.result.0 c.args.octets.now) c.args.told.now.items h
    (reads_on c.goes_on.ensures c.args.self.now.deframer c.feed.follows.lender-at-none c.args.octets.now c.feed.result.0 stream h.reads c.feed.ensures.used c.feed.follows.holds-at-none)
    (c.feed.ensures.frames stream h.reads ∙ ap (λ f. frames_of stream ++ option_to_list (option_map verdict_of_octets_found f)) c.in_default.is)

pub returns-clause-reads : goal.returns-clause-reads
returns-clause-reads c =
    λ selective s stream h.
    one_heard c.frames_give.ensures c.releases_are_told.ensures.finish c.args.self.now c.hear.new.self c.feed.follows.lender-at-none c.in_ok-released.released c.newer-self.result
    c.args.now (verdict_of_octets_found c.in-Some.found) selective s stream (take c.feed.result.0 c.args.octets.now) c.args.told.now.items c.hear.new.told.items h
    (reads_on c.goes_on.ensures c.args.self.now.deframer c.feed.follows.lender-at-none c.args.octets.now c.feed.result.0 stream h.reads c.feed.ensures.used c.feed.follows.holds-at-none)
    (c.feed.ensures.frames stream h.reads ∙ ap (λ f. frames_of stream ++ option_to_list (option_map verdict_of_octets_found f)) c.in-Some.is)
    (c.in_ok-released.ensures selective) c.newer-self.ensures
