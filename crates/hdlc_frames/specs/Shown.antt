-- What a deframer found, as a verdict of the whole stream.
use Rattle.hdlc_frames.specs.Framing as framing
use Rattle.hdlc_frames.specs.declared.found.Found.{Found}
use Rattle.hdlc_frames.specs.declared.found.Found.TheVariants.{Frame, BadFcs, TooShort, TooLong, Aborted}

abbrev pub verdict_of_octets_found : Found → framing.Verdict
verdict_of_octets_found (Frame frame) = framing.Frame frame.address frame.body.now
verdict_of_octets_found BadFcs = framing.BadFcs
verdict_of_octets_found TooShort = framing.TooShort
verdict_of_octets_found TooLong = framing.TooLong
verdict_of_octets_found Aborted = framing.Aborted
