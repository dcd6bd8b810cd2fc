-- The lines to an application (this profile): the words of each.
use Rattle.std.specs.Prelude.{ℕ, Bool, true, false, List, [], ◌∷◌, codes}
use Rattle.std.specs.Fmt.{decimal}
use Rattle.er_base.specs.declared.release.Release.{Release}
use Rattle.er_base.specs.declared.why.Why.{Why}
use Rattle.er_base.specs.declared.why.Why.TheVariants as why
use Rattle.er_base.specs.Hexadecimal.{hex_of}
use Rattle.er_base.specs.LineTexts.{line_text}

-- why a message of the application wasn't sent
pub data NoticeRefusal : Type 0 where
  EndReleased : (reason sub : ℕ) → NoticeRefusal
  Unconnected : NoticeRefusal
  OfLength : (octets : ℕ) → NoticeRefusal
  Overfull : (waiting : ℕ) → NoticeRefusal

-- what an application is told
pub data ApplicationNotice : Type 0 where
  -- the end of C told connected
  Connected : (connection peer : ℕ) → ApplicationNotice
  -- a message of C was taken
  Message : (connection : ℕ) → (text : List ℕ) → ApplicationNotice
  -- a send of the application was refused
  Refused : (connection : ℕ) → (text : List ℕ) → NoticeRefusal → ApplicationNotice
  -- the end of C was released
  Released : (connection : ℕ) → Release → ApplicationNotice
  -- a line named a connection that isn't live
  Gone : (connection : ℕ) → ApplicationNotice
  -- ends that live, and how many connections were opened, how many connected, and how many messages were taken since the start
  Counts : (live opened connected messages : ℕ) → ApplicationNotice
  -- so many entries hold at this moment
  Keys : (entries : ℕ) → ApplicationNotice
  -- the words for why the key file can't be had or is refused
  KeysFault : (words : List (List ℕ)) → ApplicationNotice
  -- the application's line of this number is out of the grammar
  Fault : (line : ℕ) → Why → ApplicationNotice

-- who released
abbrev pub releaser_name : Bool → List ℕ
releaser_name true = codes "peer"
releaser_name false = codes "local"

-- the word for a fault of a line
abbrev pub line_fault_word : Why → List ℕ
line_fault_word why.Header = codes "header"
line_fault_word why.Word = codes "word"
line_fault_word why.Count = codes "count"
line_fault_word why.Level = codes "level"
line_fault_word why.Late = codes "late"
line_fault_word why.Number = codes "number"
line_fault_word why.Hex = codes "hex"
line_fault_word why.Value = codes "value"
line_fault_word why.Long = codes "long"

-- WHY.. of a refusal
abbrev pub send_refusal_words : NoticeRefusal → List (List ℕ)
send_refusal_words (EndReleased reason sub) = codes "released" ∷ decimal reason ∷ decimal sub ∷ []
send_refusal_words Unconnected = codes "notconnected" ∷ []
send_refusal_words (OfLength octets) = codes "length" ∷ decimal octets ∷ []
send_refusal_words (Overfull waiting) = codes "full" ∷ decimal waiting ∷ []

-- the words of a line
abbrev pub notice_words : ApplicationNotice → List (List ℕ)
notice_words (Connected c peer) = codes "connected" ∷ decimal c ∷ decimal peer ∷ []
notice_words (Message c text) = codes "message" ∷ decimal c ∷ hex_of text ∷ []
notice_words (Refused c text refusal) = codes "refused" ∷ decimal c ∷ hex_of text ∷ send_refusal_words refusal
notice_words (Released c r) = codes "released" ∷ decimal c ∷ decimal r.reason ∷ decimal r.sub ∷ releaser_name r.by_peer ∷ []
notice_words (Gone c) = codes "gone" ∷ decimal c ∷ []
notice_words (Counts live opened connected messages) =
    codes "counts" ∷ decimal live ∷ decimal opened ∷ decimal connected ∷ decimal messages ∷ []
notice_words (Keys entries) = codes "keys" ∷ decimal entries ∷ []
notice_words (KeysFault words) = codes "keys" ∷ words
notice_words (Fault line why) = codes "fault" ∷ decimal line ∷ line_fault_word why ∷ []

-- the line
abbrev pub notice_text : ApplicationNotice → List ℕ
notice_text notice = line_text (notice_words notice)
