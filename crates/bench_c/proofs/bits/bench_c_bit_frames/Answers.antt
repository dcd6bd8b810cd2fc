use Rattle.std.proofs.Common.{ℕ, ◌+◌, ◌<◌, ◌∙◌, List, take, Option, arith}
use Rattle.std.specs.Prelude.{option_map}
use Rattle.hdlc_fcs.specs.FrameCheck.{sent_bits}
use Rattle.hdlc_bits.specs.Framing.{Verdict, frames_of_bits}
use Rattle.hdlc_bits.specs.Shown.{verdict_of_bits_found}
use Rattle.bench_c.proofs.BitFrameCountLaws.{count_on, nothing_yet, few_on, all_read}
use Rattle.bench_c.proofs.bits.bench_c_bit_frames.Goals as goal

pub loop-at-init : goal.loop-at-init
loop-at-init c = record { within = omega arith; few = omega arith; kept = c.new-deframer.ensures; count = nothing_yet c.nothing_is_read.ensures }

pub loop-at-preserved : goal.loop-at-preserved
loop-at-preserved c =
    let line : List ℕ = c.args.line.now in
    let at : ℕ = c.loop-at.at in
    let end : ℕ = c.min-end.result in
    let used : ℕ = c.feed.result.0 in
    let found : Option Verdict = option_map verdict_of_bits_found c.feed.result.1 in
    let inv = c.loop-at.invariant in
    let call = c.feed.ensures in
    let some : at < end = omega (arith, c.min-end.ensures, c.max-size.ensures) in
    let read = c.reading_goes_on.ensures line at end used c.loop-at.deframer c.feed.follows.lender-at-none found inv.kept call.most call.frames c.feed.follows.holds-at-none in
    let count = c.frames_in-count.ensures in
    let few = few_on found c.loop-at.count at used inv.few (call.moves some) in
    let counted = count_on (frames_of_bits (take at (sent_bits line))) (frames_of_bits (take (at + used) (sent_bits line))) found c.loop-at.count read.0 inv.count in
    record {
      within = omega (arith, call.most, c.min-end.ensures);
      few = rw count few;
      kept = read.1;
      count = rw count counted;
    }

pub returns : goal.returns
returns c = c.loop-at.invariant.count ∙ all_read c.args.line.now c.loop-at.at (omega arith)
