-- What a deframer found, as a verdict of the whole line.
use Rattle.hdlc_bits.specs.Framing as framing
use Rattle.hdlc_bits.specs.declared.found.BitFound.{BitFound}
use Rattle.hdlc_bits.specs.declared.found.BitFound.TheVariants.{Frame, Aborted, TooLong, Ragged, TooShort, BadFcs}

abbrev pub verdict_of_bits_found : BitFound → framing.Verdict
verdict_of_bits_found (Frame address body) = framing.Frame address body.now
verdict_of_bits_found Aborted = framing.Aborted
verdict_of_bits_found TooLong = framing.TooLong
verdict_of_bits_found (Ragged bits) = framing.Ragged bits
verdict_of_bits_found TooShort = framing.TooShort
verdict_of_bits_found BadFcs = framing.BadFcs
