-- How an application reads the lines to it (this profile): by their first word. So the lines tell all that they are made of; no program of this repository
-- reads them.
use Rattle.std.specs.Prelude.{ℕ, true, false, if◌then◌else◌, List, [], ◌∷◌, map, Option, Some, None, Result, Ok, Err, codes}
use Rattle.std.specs.List.{find}
use Rattle.std.specs.Str.{bytes_eq}
use Rattle.er_base.specs.declared.release.Release.{Release}
use Rattle.er_base.specs.declared.why.Why.{Why}
use Rattle.er_base.specs.declared.why.Why.TheVariants as why
use Rattle.er_base.specs.Arguments.{◌>>=◌, some_or, number_argument, text_argument}
use Rattle.er_base.specs.Lines.{Row, lines_of, rows_of}
use Rattle.er_base.specs.Numbers.{decimal_of}
use Rattle.application_lines.specs.Notices.{NoticeRefusal, EndReleased, Unconnected, OfLength, Overfull, ApplicationNotice, Connected, Message, Refused}
use Rattle.application_lines.specs.Notices.{Released, Gone, Counts, Keys, KeysFault, Fault, line_fault_word, releaser_name}

-- any number of 64 bits, an ETCS number, an octet, and HEX
abbrev any_number_in : List ℕ → Result ℕ Why
any_number_in word = number_argument 0 18446744073709551615 word

abbrev etcs_number_in : List ℕ → Result ℕ Why
etcs_number_in word = number_argument 0 16777215 word

abbrev octet_in : List ℕ → Result ℕ Why
octet_in word = number_argument 0 255 word

abbrev message_in : List ℕ → Result (List ℕ) Why
message_in word = text_argument 4096 word

-- C PEER
unfoldable pub connected_notice_in : List (List ℕ) → Result ApplicationNotice Why
connected_notice_in (c ∷ peer ∷ []) = any_number_in c >>= λ c. (etcs_number_in peer >>= λ peer. Ok (Connected c peer))
connected_notice_in words = Err why.Count

-- C HEX
unfoldable pub message_notice_in : List (List ℕ) → Result ApplicationNotice Why
message_notice_in (c ∷ text ∷ []) = any_number_in c >>= λ c. (message_in text >>= λ text. Ok (Message c text))
message_notice_in words = Err why.Count

-- WHY.. of a refusal
unfoldable pub refusal_in : List (List ℕ) → Result NoticeRefusal Why
refusal_in (name ∷ []) = if bytes_eq name (codes "notconnected") then Ok Unconnected else Err why.Word
refusal_in (name ∷ number ∷ []) =
    if bytes_eq name (codes "length") then (any_number_in number >>= λ n. Ok (OfLength n))
    else if bytes_eq name (codes "full") then (any_number_in number >>= λ n. Ok (Overfull n))
    else Err why.Word
refusal_in (name ∷ reason ∷ sub ∷ []) =
    if bytes_eq name (codes "released") then (octet_in reason >>= λ reason. (octet_in sub >>= λ sub. Ok (EndReleased reason sub)))
    else Err why.Word
refusal_in words = Err why.Count

-- C HEX WHY..
unfoldable pub refused_notice_in : List (List ℕ) → Result ApplicationNotice Why
refused_notice_in (c ∷ text ∷ words) =
    any_number_in c >>= λ c. (message_in text >>= λ text. (refusal_in words >>= λ refusal. Ok (Refused c text refusal)))
refused_notice_in words = Err why.Count

abbrev pub release_told : ℕ → ℕ → List ℕ → Result Release Why
release_told reason sub who =
    if bytes_eq who (releaser_name true) then Ok (record { reason = reason; sub = sub; by_peer = true })
    else if bytes_eq who (releaser_name false) then Ok (record { reason = reason; sub = sub; by_peer = false })
    else Err why.Word

-- C R X, and who released
unfoldable pub released_notice_in : List (List ℕ) → Result ApplicationNotice Why
released_notice_in (c ∷ reason ∷ sub ∷ who ∷ []) =
    any_number_in c
    >>= λ c. (octet_in reason >>= λ reason. (octet_in sub >>= λ sub. (release_told reason sub who >>= λ release. Ok (Released c release))))
released_notice_in words = Err why.Count

-- C
unfoldable pub gone_notice_in : List (List ℕ) → Result ApplicationNotice Why
gone_notice_in (c ∷ []) = any_number_in c >>= λ c. Ok (Gone c)
gone_notice_in words = Err why.Count

-- LIVE OPENED CONNECTED MESSAGES
unfoldable pub counts_notice_in : List (List ℕ) → Result ApplicationNotice Why
counts_notice_in (live ∷ opened ∷ connected ∷ messages ∷ []) =
    any_number_in live
    >>= λ live. (any_number_in opened
    >>= λ opened. (any_number_in connected >>= λ connected. (any_number_in messages >>= λ messages. Ok (Counts live opened connected messages))))
counts_notice_in words = Err why.Count

-- N, or the words of a fault, which don't begin with a number
abbrev pub keys_or_fault : Option ℕ → List (List ℕ) → ApplicationNotice
keys_or_fault (Some entries) words = Keys entries
keys_or_fault None words = KeysFault words

unfoldable pub keys_notice_in : List (List ℕ) → Result ApplicationNotice Why
keys_notice_in [] = Err why.Count
keys_notice_in (word ∷ words) = Ok (keys_or_fault (decimal_of word) (word ∷ words))

-- the fault that a word names
abbrev pub line_fault_named : List ℕ → Option Why
line_fault_named word =
    find (λ fault. bytes_eq word (line_fault_word fault))
    (why.Header ∷ why.Word ∷ why.Count ∷ why.Level ∷ why.Late ∷ why.Number ∷ why.Hex ∷ why.Value ∷ why.Long ∷ [])

-- LINE WHY
unfoldable pub fault_notice_in : List (List ℕ) → Result ApplicationNotice Why
fault_notice_in (line ∷ word ∷ []) = any_number_in line >>= λ line. (some_or why.Word (line_fault_named word) >>= λ fault. Ok (Fault line fault))
fault_notice_in words = Err why.Count

-- what a line tells
unfoldable pub notice_in : List (List ℕ) → Result ApplicationNotice Why
notice_in [] = Err why.Word
notice_in (name ∷ words) =
    if bytes_eq name (codes "connected") then connected_notice_in words
    else if bytes_eq name (codes "message") then message_notice_in words
    else if bytes_eq name (codes "refused") then refused_notice_in words
    else if bytes_eq name (codes "released") then released_notice_in words
    else if bytes_eq name (codes "gone") then gone_notice_in words
    else if bytes_eq name (codes "counts") then counts_notice_in words
    else if bytes_eq name (codes "keys") then keys_notice_in words
    else if bytes_eq name (codes "fault") then fault_notice_in words
    else Err why.Word

-- what all lines of a text tell
unfoldable pub notices_in : List ℕ → List (Result ApplicationNotice Why)
notices_in text = map (λ (row : Row). notice_in row.words) (rows_of 0 (lines_of text))
