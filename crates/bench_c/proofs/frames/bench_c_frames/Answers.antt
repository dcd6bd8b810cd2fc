use Rattle.std.proofs.Common.{ℕ, ◌-◌, ◌<◌, ◌≤◌, List, length, take, drop, Option, arith}
use Rattle.std.specs.Prelude.{option_map}
use Rattle.hdlc_frames.specs.Framing.{Verdict}
use Rattle.hdlc_frames.specs.Shown.{verdict_of_octets_found}
use Rattle.bench_c.proofs.FrameCountLaws.{kept_on, count_on, nothing_yet, part_size, few_on}
use Rattle.bench_c.proofs.frames.bench_c_frames.Goals as goal

pub loop-at-init : goal.loop-at-init
loop-at-init c = record { within = omega arith; few = omega arith; kept = c.new-deframer.ensures; count = nothing_yet }

pub loop-at-preserved : goal.loop-at-preserved
loop-at-preserved c =
    let stream : List ℕ = c.args.stream.now in
    let at : ℕ = c.loop-at.at in
    let end : ℕ = c.min-end.result in
    let used : ℕ = c.feed.result.0 in
    let found : Option Verdict = option_map verdict_of_octets_found c.feed.result.1 in
    let inv = c.loop-at.invariant in
    let call = c.feed.ensures in
    let fits : end ≤ length stream = omega (arith, c.min-end.ensures) in
    let size = part_size stream at end fits in
    let within : used ≤ length (take (end - at) (drop at stream)) = call.within in
    let some : 0 < length (take (end - at) (drop at stream)) = omega (arith, c.min-end.ensures, c.max-size.ensures) in
    let count = c.frames_in-count.ensures in
    let few = few_on found c.loop-at.count at used inv.few (call.moves some) in
    let kept = kept_on c.goes_on.ensures stream at end used c.loop-at.deframer c.feed.follows.lender-at-none inv.kept call.used within c.feed.follows.holds-at-none in
    let counted = count_on stream at end used c.loop-at.deframer found c.loop-at.count inv.kept call.frames within inv.count in
    record {
      within = omega arith;
      few = rw count few;
      kept = kept;
      count = rw count counted;
    }
