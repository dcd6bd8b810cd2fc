use Rattle.std.proofs.Common.{refl, arith}
use Rattle.hdlc_frames.proofs.BlockLaws.{goes_block, goes_whole_block}
use Rattle.hdlc_frames.proofs.ScanningLaws.{goes_behind}
use Rattle.hdlc_frames.proofs.buffer.Buffer.take_block.Goals as goal

pub returns-then-count-lt-BLOCK : goal.returns-then-count-lt-BLOCK
returns-then-count-lt-BLOCK c = record {
  goes =
      goes_block c.args.self.now.begun c.args.self.now.escaping c.args.self.now.len c.plain_in_block-count.result c.args.self.now.octets c.keep_block.new.octets c.args.rest.now c.requires.begun c.requires.shut
      (omega arith) (omega arith) (omega arith) c.plain_in_block-count.ensures.within c.plain_in_block-count.ensures.none c.keep_block.ensures;
  begun = c.requires.begun;
  shut = c.requires.shut;
}

pub returns : goal.returns
returns c = record {
  goes =
      goes_behind _ _ _ c.args.rest.now _ 16 c.take_run.result refl
      (goes_whole_block c.args.self.now.begun c.args.self.now.escaping c.args.self.now.len c.plain_in_block-count.result c.args.self.now.octets c.keep_block.new.octets c.args.rest.now c.requires.begun c.requires.shut
      (omega arith) (omega arith) (omega arith) (omega (arith, c.plain_in_block-count.ensures.within)) c.plain_in_block-count.ensures.none c.keep_block.ensures)
      c.take_run.ensures.goes;
  begun = c.take_run.ensures.begun;
  shut = c.take_run.ensures.shut;
}
