use Rattle.std.proofs.Common.{◌<◌, ℕ, List, sym, subst, arith}
use Rattle.drill_ends.specs.StationEnds.{TellingFrames}
use Rattle.drill_ends.proofs.StationFrames.{closes_some, frames_begin, frames_pass, frames_end}
use Rattle.drill_ends.proofs.telling.tell_frames.Goals as goal

pub loop-length-init : goal.loop-length-init
loop-length-init c =
    λ calling extended frames is.
    subst (λ (xs : List ℕ). TellingFrames calling extended frames xs c.args.told.now.items c.args.told.now.items) (sym is)
    (frames_begin calling extended frames c.args.told.now.items)

pub loop-length-smaller : goal.loop-length-smaller
loop-length-smaller c =
    let some : 0 < c.in-Some.length = closes_some c.loop-length.rest.now c.in-Some.length c.in-Some.ensures in
    omega (arith, some, c.in-Some.ensures.0, c.split_at.ensures.back_len)

pub loop-length-preserved : goal.loop-length-preserved
loop-length-preserved c =
    λ calling extended frames is.
    frames_pass calling extended frames c.args.told.now.items c.written_is_first.ensures c.loop-length.rest.now c.in-Some.length
    c.loop-length.told.items c.push_back.new.self.items c.split_at.result.0.now c.split_at.result.1.now c.in_ok-frame.frame
    c.split_at.ensures.front c.split_at.ensures.back c.in_ok-frame.ensures c.in_ok-push_back.ensures.items
    (c.loop-length.invariant calling extended frames is) c.in-Some.ensures

pub returns : goal.returns
returns c =
    λ calling extended frames is.
    frames_end calling extended frames c.args.told.now.items c.kept_stands_for_stream.ensures c.written_is_first.ensures c.loop-length.rest.now c.loop-length.told.items
    (c.loop-length.invariant calling extended frames is) c.in_default.ensures
