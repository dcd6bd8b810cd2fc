-- Notices that are printed are read as the same.
use Rattle.std.proofs.Common.{arith, ◌≡◌, ℕ, ◌+◌, ◌<◌, ◌^◌, Bool, true, false, List, [], ◌∷◌, map, Some, Ok, refl, ap, ◌∙◌, codes}
use Rattle.std.specs.Fmt.{decimal}
use Rattle.er_base.specs.declared.why.Why.{Why}
use Rattle.er_base.specs.declared.why.Why.TheVariants as why
use Rattle.er_base.specs.Arguments.{number_argument, text_argument}
use Rattle.er_base.specs.Hexadecimal.{hex_of}
use Rattle.er_base.specs.Lines.{Row}
use Rattle.er_base.specs.LineTexts.{IsSolid, IsLine, AreLines, AreWords, LinesAreReadBack, WordsAreReadBack, rows_from}
use Rattle.er_base.specs.Numbers.{NamesWhatIsPrinted}
use Rattle.application_lines.specs.Requests.{IsRequestText}
use Rattle.application_lines.specs.Notices.{NoticeRefusal, EndReleased, Unconnected, OfLength, Overfull, ApplicationNotice, Connected, Message, Refused, Released, Gone, Counts, Keys, KeysFault, Fault, line_fault_word, releaser_name, send_refusal_words, notice_words}
use Rattle.application_lines.specs.NoticeReadings.{connected_notice_in, message_notice_in, refusal_in, refused_notice_in, released_notice_in, gone_notice_in, counts_notice_in, keys_notice_in, fault_notice_in, notice_in, notices_in, release_told, line_fault_named}
use Rattle.application_lines.specs.NoticeLaws.{IsRefusalInRange, AreFaultWords, IsNoticeInRange, AreNoticesInRange, told_so, NoticesAreReadBack}
use Rattle.application_lines.proofs.SolidCodes.{solid_codes}

-- the laws of lines, words and numbers
pub record Laws : Type 0 where
  pub lines : LinesAreReadBack
  pub words : WordsAreReadBack
  pub decimals : NamesWhatIsPrinted

-- ---- words

any_read : (laws : Laws) (n : ℕ) → n < 2 ^ 64 → number_argument 0 18446744073709551615 (decimal n) ≡ Ok n
any_read laws n h = laws.words.number 0 18446744073709551615 n (omega arith) (omega (arith, h)) h

octet_read : (laws : Laws) (n : ℕ) → n < 256 → number_argument 0 255 (decimal n) ≡ Ok n
octet_read laws n h = laws.words.number 0 255 n (omega arith) (omega (arith, h)) (omega (arith, h))

etcs_read : (laws : Laws) (n : ℕ) → n < 16777216 → number_argument 0 16777215 (decimal n) ≡ Ok n
etcs_read laws n h = laws.words.number 0 16777215 n (omega arith) (omega (arith, h)) (omega (arith, h))

text_read : (laws : Laws) (text : List ℕ) → IsRequestText text → text_argument 4096 (hex_of text) ≡ Ok text
text_read laws text h = laws.words.text 4096 text h.1 h.0

octet_word : (laws : Laws) (n : ℕ) → n < 256 → IsSolid (decimal n)
octet_word laws n h = laws.words.number_word n (omega (arith, h))

who_read : (reason sub : ℕ) (by_peer : Bool) → release_told reason sub (releaser_name by_peer) ≡ Ok (record { reason = reason; sub = sub; by_peer = by_peer })
who_read reason sub true = refl
who_read reason sub false = refl

who_word : (by_peer : Bool) → IsSolid (releaser_name by_peer)
who_word true = solid_codes (codes "peer") refl refl
who_word false = solid_codes (codes "local") refl refl

why_read : (fault : Why) → line_fault_named (line_fault_word fault) ≡ Some fault
why_read why.Header = refl
why_read why.Word = refl
why_read why.Count = refl
why_read why.Level = refl
why_read why.Late = refl
why_read why.Number = refl
why_read why.Hex = refl
why_read why.Value = refl
why_read why.Long = refl

why_word : (fault : Why) → IsSolid (line_fault_word fault)
why_word why.Header = solid_codes (codes "header") refl refl
why_word why.Word = solid_codes (codes "word") refl refl
why_word why.Count = solid_codes (codes "count") refl refl
why_word why.Level = solid_codes (codes "level") refl refl
why_word why.Late = solid_codes (codes "late") refl refl
why_word why.Number = solid_codes (codes "number") refl refl
why_word why.Hex = solid_codes (codes "hex") refl refl
why_word why.Value = solid_codes (codes "value") refl refl
why_word why.Long = solid_codes (codes "long") refl refl

refusal_read : (laws : Laws) (refusal : NoticeRefusal) → IsRefusalInRange refusal → refusal_in (send_refusal_words refusal) ≡ Ok refusal
unfolding refusal_in
refusal_read laws (EndReleased reason sub) h = rw (octet_read laws reason h.0, octet_read laws sub h.1) refl
refusal_read laws Unconnected h = refl
refusal_read laws (OfLength octets) h = rw (any_read laws octets h) refl
refusal_read laws (Overfull waiting) h = rw (any_read laws waiting h) refl

refusal_are_words : (laws : Laws) (refusal : NoticeRefusal) → IsRefusalInRange refusal → AreWords (send_refusal_words refusal)
refusal_are_words laws (EndReleased reason sub) h = (solid_codes (codes "released") refl refl, (octet_word laws reason h.0, (octet_word laws sub h.1, tt)))
refusal_are_words laws Unconnected h = (solid_codes (codes "notconnected") refl refl, tt)
refusal_are_words laws (OfLength octets) h = (solid_codes (codes "length") refl refl, (laws.words.number_word octets h, tt))
refusal_are_words laws (Overfull waiting) h = (solid_codes (codes "full") refl refl, (laws.words.number_word waiting h, tt))

-- ---- lines

fault_words_read : (words : List (List ℕ)) → AreFaultWords words → keys_notice_in words ≡ Ok (KeysFault words)
unfolding keys_notice_in
fault_words_read [] h = absurd h
fault_words_read (word ∷ words) h = rw h.0 refl

fault_are_words : (words : List (List ℕ)) → AreFaultWords words → AreWords words
fault_are_words [] h = absurd h
fault_are_words (word ∷ words) h = h.1

notice_read : (laws : Laws) (notice : ApplicationNotice) → IsNoticeInRange notice → notice_in (notice_words notice) ≡ Ok notice
unfolding notice_in connected_notice_in message_notice_in refused_notice_in released_notice_in gone_notice_in counts_notice_in keys_notice_in fault_notice_in
notice_read laws (Connected c peer) h = rw (any_read laws c h.0, etcs_read laws peer h.1) refl
notice_read laws (Message c text) h = rw (any_read laws c h.0, text_read laws text h.1) refl
notice_read laws (Refused c text refusal) h = rw (any_read laws c h.0, text_read laws text h.1, refusal_read laws refusal h.2) refl
notice_read laws (Released c r) h =
    rw (any_read laws c h.0, octet_read laws r.reason h.1, octet_read laws r.sub h.2, who_read r.reason r.sub r.by_peer) refl
notice_read laws (Gone c) h = rw (any_read laws c h) refl
notice_read laws (Counts live opened connected messages) h =
    rw (any_read laws live h.0, any_read laws opened h.1, any_read laws connected h.2, any_read laws messages h.3) refl
notice_read laws (Keys entries) h = rw ((laws.decimals (decimal entries) entries).1 (h, refl)) refl
notice_read laws (KeysFault words) h = fault_words_read words h
notice_read laws (Fault line fault) h = rw (any_read laws line h, why_read fault) refl

notice_is_line : (laws : Laws) (notice : ApplicationNotice) → IsNoticeInRange notice → IsLine (notice_words notice)
notice_is_line laws (Connected c peer) h =
    (solid_codes (codes "connected") refl refl, (laws.words.number_word c h.0, (laws.words.number_word peer (omega (arith, h.1)), tt)))
notice_is_line laws (Message c text) h =
    (solid_codes (codes "message") refl refl, (laws.words.number_word c h.0, (laws.words.octets_word text h.1.1, tt)))
notice_is_line laws (Refused c text refusal) h =
    (solid_codes (codes "refused") refl refl, (laws.words.number_word c h.0, (laws.words.octets_word text h.1.1, refusal_are_words laws refusal h.2)))
notice_is_line laws (Released c r) h =
    (solid_codes (codes "released") refl refl, (laws.words.number_word c h.0, (octet_word laws r.reason h.1, (octet_word laws r.sub h.2, (who_word r.by_peer, tt)))))
notice_is_line laws (Gone c) h = (solid_codes (codes "gone") refl refl, (laws.words.number_word c h, tt))
notice_is_line laws (Counts live opened connected messages) h =
    (solid_codes (codes "counts") refl refl, (laws.words.number_word live h.0, (laws.words.number_word opened h.1, (laws.words.number_word connected h.2, (laws.words.number_word messages h.3, tt)))))
notice_is_line laws (Keys entries) h = (solid_codes (codes "keys") refl refl, (laws.words.number_word entries h, tt))
notice_is_line laws (KeysFault words) h = (solid_codes (codes "keys") refl refl, fault_are_words words h)
notice_is_line laws (Fault line fault) h = (solid_codes (codes "fault") refl refl, (laws.words.number_word line h, (why_word fault, tt)))

-- ---- the text

are_lines : (laws : Laws) (notices : List ApplicationNotice) → AreNoticesInRange notices → AreLines (map notice_words notices)
are_lines laws [] h = tt
are_lines laws (notice ∷ notices) h = (notice_is_line laws notice h.0, are_lines laws notices h.1)

rows_read : (laws : Laws) (before : ℕ) (notices : List ApplicationNotice) → AreNoticesInRange notices
    → map (λ (row : Row). notice_in row.words) (rows_from before (map notice_words notices)) ≡ map told_so notices
rows_read laws before [] h = refl
rows_read laws before (notice ∷ notices) h = rw (notice_read laws notice h.0, rows_read laws (before + 1) notices h.1) refl

pub notices_are_read_back : Laws → NoticesAreReadBack
unfolding notices_in
notices_are_read_back laws notices h =
    ap (map (λ (row : Row). notice_in row.words)) (laws.lines 0 (map notice_words notices) (are_lines laws notices h)) ∙ rows_read laws 0 notices h
