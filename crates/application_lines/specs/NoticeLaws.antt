-- What is printed for a line reads back as what the line was printed of: both grammars tell all that their lines are made of.
use Rattle.std.specs.Prelude.{◌≡◌, ℕ, ◌<◌, ◌≤◌, ◌^◌, List, [], ◌∷◌, length, map, None, Result, Ok}
use Rattle.std.specs.Fmt.{decimal}
use Rattle.er_base.specs.declared.why.Why.{Why}
use Rattle.er_base.specs.Hexadecimal.{hex_of}
use Rattle.er_base.specs.LineTexts.{line_end, line_text, lines_text, AreWords}
use Rattle.er_base.specs.Numbers.{decimal_of}
use Rattle.application_lines.specs.declared.application_line.ApplicationLine.{ApplicationLine}
use Rattle.application_lines.specs.declared.application_line.ApplicationLine.TheVariants.{Asks}
use Rattle.application_lines.specs.declared.request.Request.{Request}
use Rattle.application_lines.specs.declared.request.Request.TheVariants as request
use Rattle.application_lines.specs.declared.request_name.RequestName.TheVariants as name
use Rattle.application_lines.specs.Requests.{request_word, IsRequestText, IsRequestInRange}
use Rattle.application_lines.specs.Streams.{stream_says}
use Rattle.application_lines.specs.Notices.{NoticeRefusal, EndReleased, Unconnected, OfLength, Overfull, ApplicationNotice, Connected, Message, Refused}
use Rattle.application_lines.specs.Notices.{Released, Gone, Counts, Keys, KeysFault, Fault, notice_words, notice_text}
use Rattle.application_lines.specs.NoticeReadings.{notices_in}

-- ---- to the application

abbrev pub IsRefusalInRange : NoticeRefusal → Type 0
IsRefusalInRange (EndReleased reason sub) = (reason < 256) × (sub < 256)
IsRefusalInRange Unconnected = Unit {0}
IsRefusalInRange (OfLength octets) = octets < 2 ^ 64
IsRefusalInRange (Overfull waiting) = waiting < 2 ^ 64

-- words of a fault of keys: the first is no number
abbrev pub AreFaultWords : List (List ℕ) → Type 0
AreFaultWords [] = ⊥
AreFaultWords (word ∷ words) = (decimal_of word ≡ None) × AreWords (word ∷ words)

-- a notice whose numbers are in their ranges
abbrev pub IsNoticeInRange : ApplicationNotice → Type 0
IsNoticeInRange (Connected c peer) = (c < 2 ^ 64) × (peer < 16777216)
IsNoticeInRange (Message c text) = (c < 2 ^ 64) × IsRequestText text
IsNoticeInRange (Refused c text refusal) = (c < 2 ^ 64) × IsRequestText text × IsRefusalInRange refusal
IsNoticeInRange (Released c r) = (c < 2 ^ 64) × (r.reason < 256) × (r.sub < 256)
IsNoticeInRange (Gone c) = c < 2 ^ 64
IsNoticeInRange (Counts live opened connected messages) =
    (live < 2 ^ 64) × (opened < 2 ^ 64) × (connected < 2 ^ 64) × (messages < 2 ^ 64)
IsNoticeInRange (Keys entries) = entries < 2 ^ 64
IsNoticeInRange (KeysFault words) = AreFaultWords words
IsNoticeInRange (Fault line fault) = line < 2 ^ 64

abbrev pub AreNoticesInRange : List ApplicationNotice → Type 0
AreNoticesInRange [] = Unit {0}
AreNoticesInRange (notice ∷ notices) = IsNoticeInRange notice × AreNoticesInRange notices

abbrev pub told_so : ApplicationNotice → Result ApplicationNotice Why
told_so notice = Ok notice

abbrev pub NoticesAreReadBack : Type 0
NoticesAreReadBack =
    (notices : List ApplicationNotice) → AreNoticesInRange notices → notices_in (lines_text (map notice_words notices)) ≡ map told_so notices

-- the message of a notice has at most 2,000 octets, as each has that an end takes or may send; and the words of a fault leave room for the first one
abbrev pub IsShortNotice : ApplicationNotice → Type 0
IsShortNotice (Connected c peer) = Unit {0}
IsShortNotice (Message c text) = length text ≤ 2000
IsShortNotice (Refused c text refusal) = length text ≤ 2000
IsShortNotice (Released c r) = Unit {0}
IsShortNotice (Gone c) = Unit {0}
IsShortNotice (Counts live opened connected messages) = Unit {0}
IsShortNotice (Keys entries) = Unit {0}
IsShortNotice (KeysFault words) = length (line_end words) ≤ 4000
IsShortNotice (Fault line fault) = Unit {0}

-- then its line has at most 4,096 octets, its LF not counted
abbrev pub NoticesAreShort : Type 0
NoticesAreShort = (notice : ApplicationNotice) → IsNoticeInRange notice → IsShortNotice notice → length (notice_text notice) ≤ 4097

-- ---- from the application

-- the words of a request
abbrev pub request_words : Request → List (List ℕ)
request_words (request.Send c text) = request_word name.Send ∷ decimal c ∷ hex_of text ∷ []
request_words (request.Release c sub) = request_word name.Release ∷ decimal c ∷ decimal sub ∷ []
request_words request.Drain = request_word name.Drain ∷ []
request_words request.Keys = request_word name.Keys ∷ []
request_words request.Counts = request_word name.Counts ∷ []

-- a request in its ranges whose line is short enough, its LF not counted
abbrev pub CanBeAsked : Request → Type 0
CanBeAsked request = IsRequestInRange request × (length (line_text (request_words request)) ≤ 4097)

abbrev pub CanAllBeAsked : List Request → Type 0
CanAllBeAsked [] = Unit {0}
CanAllBeAsked (request ∷ requests) = CanBeAsked request × CanAllBeAsked requests

abbrev pub asked_so : Request → ApplicationLine
asked_so request = Asks request

abbrev pub RequestsAreReadBack : Type 0
RequestsAreReadBack =
    (requests : List Request) → CanAllBeAsked requests → stream_says (lines_text (map request_words requests)) ≡ map asked_so requests
