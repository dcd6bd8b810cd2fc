use Rattle.std.proofs.Common.{take, arith}
use Rattle.std.proofs.lemmas.List.{length-take}
use Rattle.hdlc_frames.proofs.ScanningLaws.{goes_run_of}
use Rattle.hdlc_frames.proofs.buffer.Buffer.take_run.Goals as goal

pub returns : goal.returns
returns c = record {
  goes =
      goes_run_of c.args.self.now.begun c.args.self.now.escaping (take c.args.self.now.len c.args.self.now.octets) (take c.keep_all-self.result c.keep_all-self.new.octets) c.args.rest.now c.before_flag_or_escape-count.result
      c.requires.begun c.requires.shut c.before_flag_or_escape-count.ensures.within c.before_flag_or_escape-count.ensures.none
      (omega (arith, length-take c.args.self.now.len c.args.self.now.octets, c.args.self.now.fits)) c.keep_all-self.ensures.content;
  begun = c.requires.begun;
  shut = c.requires.shut;
}
