-- Representation: why a send was refused, of the code's values; no claim rests on it.
use Rattle.er_end.specs.declared.deeds.SendRefused.{SendRefused}
use Rattle.er_end.specs.declared.deeds.SendRefused.TheVariants as code
use Rattle.application_lines.specs.Notices.{NoticeRefusal, EndReleased, Unconnected, OfLength, Overfull}

abbrev pub refusal_shown : SendRefused → NoticeRefusal
refusal_shown (code.Released release) = EndReleased release.reason release.sub
refusal_shown code.NotConnected = Unconnected
refusal_shown (code.Length found) = OfLength found
refusal_shown (code.Full waiting) = Overfull waiting
