-- Contract: what an application is told, of the code's values, which lend octets.
use Rattle.std.specs.Prelude.{map}
use Rattle.er_base.specs.Printing.{word_printed}
use Rattle.application_lines.specs.declared.notice.Notice.{Notice}
use Rattle.application_lines.specs.declared.notice.Notice.TheVariants as lent
use Rattle.application_lines.specs.declared.notice.Refusal.{Refusal}
use Rattle.application_lines.specs.declared.notice.Refusal.TheVariants as refusal
use Rattle.application_lines.specs.Notices.{NoticeRefusal, EndReleased, Unconnected, OfLength, Overfull, ApplicationNotice, Connected, Message, Refused}
use Rattle.application_lines.specs.Notices.{Released, Gone, Counts, Keys, KeysFault, Fault}

abbrev pub refusal_lent : Refusal → NoticeRefusal
refusal_lent (refusal.Released reason sub) = EndReleased reason sub
refusal_lent refusal.NotConnected = Unconnected
refusal_lent (refusal.Length octets) = OfLength octets
refusal_lent (refusal.Full waiting) = Overfull waiting

abbrev pub notice_lent : Notice → ApplicationNotice
notice_lent (lent.Connected c peer) = Connected c peer
notice_lent (lent.Message c text) = Message c text.now
notice_lent (lent.Refused c text why) = Refused c text.now (refusal_lent why)
notice_lent (lent.Released c release) = Released c release
notice_lent (lent.Gone c) = Gone c
notice_lent (lent.Counts live opened connected messages) = Counts live opened connected messages
notice_lent (lent.Keys entries) = Keys entries
notice_lent (lent.KeysFault words) = KeysFault (map word_printed words.now)
notice_lent (lent.Fault line why) = Fault line why
