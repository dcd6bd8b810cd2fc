-- One call more, a call whose line wasn't written, and the end, by the lemmas on what is left of the script.
use Rattle.std.proofs.Common.{◌*◌, length, arith, refl}
use Rattle.std.specs.Prelude.{option_map}
use Rattle.hdlc_bits.specs.Shown.{verdict_of_bits_found}
use Rattle.er_program.proofs.BitReading.{reads_nothing, call_reads, reads_more, reads_off, reads_end, said_few}
use Rattle.er_program.proofs.bits.read_line.Goals as goal

pub loop-at-init : goal.loop-at-init
loop-at-init g c = reads_nothing c.nothing_is_read.ensures c.args.octets.now c.new-deframer.result _ c.new-deframer.ensures

pub overflow_add-frames : goal.overflow_add-frames
overflow_add-frames g c =
    let few = said_few (option_map verdict_of_bits_found c.feed.result.1) c.in-Ok.more _ _ c.in-Ok.ensures.says in
    omega (arith, c.loop-at.invariant.few, c.loop-at.invariant.within, c.requires.short, few)

pub returns-in-Err : goal.returns-in-Err
returns-in-Err g c = record {
  does = reads_off c.frames_grow.ensures c.args.octets.now c.loop-at.at c.feed.result.0 c.loop-at.frames c.loop-at.deframer c.feed.follows.lender-at-none (option_map verdict_of_bits_found c.feed.result.1) _ _ _ c.in-Err.stop
      c.loop-at.invariant
      (call_reads c.reading_goes_on.ensures c.args.octets.now c.loop-at.at c.feed.result.0 (8 * length c.args.octets.now) c.loop-at.frames c.loop-at.deframer c.feed.follows.lender-at-none (option_map verdict_of_bits_found c.feed.result.1) _ _
      c.loop-at.invariant refl c.feed.ensures.most (c.feed.ensures.moves c.loop-at-test.true) c.feed.ensures.frames c.feed.follows.holds-at-none)
      c.in-Err.ensures.says;
}

pub loop-at-preserved : goal.loop-at-preserved
loop-at-preserved g c =
    reads_more c.frames_grow.ensures c.args.octets.now c.loop-at.at c.feed.result.0 c.loop-at.frames c.in-Ok.more c.loop-at.deframer c.feed.follows.lender-at-none (option_map verdict_of_bits_found c.feed.result.1) _ _ _
    c.loop-at.invariant
    (call_reads c.reading_goes_on.ensures c.args.octets.now c.loop-at.at c.feed.result.0 (8 * length c.args.octets.now) c.loop-at.frames c.loop-at.deframer c.feed.follows.lender-at-none (option_map verdict_of_bits_found c.feed.result.1) _ _
    c.loop-at.invariant refl c.feed.ensures.most (c.feed.ensures.moves c.loop-at-test.true) c.feed.ensures.frames c.feed.follows.holds-at-none)
    c.in-Ok.ensures.says

pub returns : goal.returns
returns g c = record {
  does = reads_end c.args.octets.now c.loop-at.at c.loop-at.frames c.loop-at.deframer _ _ _ _ (omega arith) c.loop-at.invariant c.counted.ensures.does;
}
