-- The lines from an application (this profile): the word of each, the kinds of the words behind it, and what it says.
use Rattle.std.specs.Prelude.{ℕ, ◌<◌, ◌≤◌, ◌^◌, true, false, List, [], ◌∷◌, length, Option, Result, Ok, Err, codes}
use Rattle.std.specs.List.{find}
use Rattle.std.specs.Str.{bytes_eq}
use Rattle.er_base.specs.declared.why.Why.{Why}
use Rattle.er_base.specs.declared.why.Why.TheVariants.{Word}
use Rattle.er_base.specs.Arguments.{◌>>=◌, number_argument, text_argument}
use Rattle.er_base.specs.LineFaults.{Table, Values, line_read}
use Rattle.er_base.specs.Octets.{AreOctets}
use Rattle.application_lines.specs.declared.request.Request.{Request}
use Rattle.application_lines.specs.declared.request.Request.TheVariants as request
use Rattle.application_lines.specs.declared.request_name.RequestName.{RequestName}
use Rattle.application_lines.specs.declared.request_name.RequestName.TheVariants.{Send, Release, Drain, Keys, Counts}

-- the kinds of arguments: C, any number of 64 bits; HEX of at most 4,096 octets; X, an octet
pub data RequestArgument : Type 0 where
  Connection : RequestArgument
  Message : RequestArgument
  SubReason : RequestArgument

-- what an argument of a kind means
abbrev pub RequestMeaning : RequestArgument → Type 0
RequestMeaning Connection = ℕ
RequestMeaning Message = List ℕ
RequestMeaning SubReason = ℕ

-- a word, read as an argument of a kind
abbrev pub request_argument_of : (kind : RequestArgument) → List ℕ → Result (RequestMeaning kind) Why
request_argument_of Connection word = number_argument 0 18446744073709551615 word
request_argument_of Message word = text_argument 4096 word
request_argument_of SubReason word = number_argument 0 255 word

-- the first word of a line
abbrev pub request_word : RequestName → List ℕ
request_word Send = codes "send"
request_word Release = codes "release"
request_word Drain = codes "drain"
request_word Keys = codes "keys"
request_word Counts = codes "counts"

-- the line that a first word begins, where it begins one
abbrev pub request_named : List ℕ → Option RequestName
request_named word = find (λ name. bytes_eq word (request_word name)) (Send ∷ Release ∷ Drain ∷ Keys ∷ Counts ∷ [])

-- the words behind it: send C HEX, release C X, and none behind the others
abbrev pub request_kinds : RequestName → List RequestArgument
request_kinds Send = Connection ∷ Message ∷ []
request_kinds Release = Connection ∷ SubReason ∷ []
request_kinds Drain = []
request_kinds Keys = []
request_kinds Counts = []

-- what arguments ask for
abbrev pub request_made : (name : RequestName) → Values RequestMeaning (request_kinds name) → Request
request_made Send (c, (hex, end)) = request.Send c hex
request_made Release (c, (x, end)) = request.Release c x
request_made Drain end = request.Drain
request_made Keys end = request.Keys
request_made Counts end = request.Counts

-- each line may stand anywhere
abbrev pub request_table : Table RequestName RequestArgument RequestMeaning
request_table =
    record {
      line_named = request_named;
      kinds_of = request_kinds;
      read = request_argument_of;
      is_of_level = λ name. true;
      is_late = λ name. false;
    }

-- what the words of a line ask for, or the line's first fault; a line without a word has none that begins a line
unfoldable pub request_said : List (List ℕ) → Result Request Why
request_said [] = Err Word
request_said (name ∷ words) = line_read request_table name words >>= λ read. Ok (request_made read.0 read.1)

-- ---- ranges

-- at most 4,096 octets
abbrev pub IsRequestText : List ℕ → Type 0
IsRequestText text = (length text ≤ 4096) × AreOctets text

-- a request whose numbers are in their ranges
abbrev pub IsRequestInRange : Request → Type 0
IsRequestInRange (request.Send c text) = (c < 2 ^ 64) × IsRequestText text
IsRequestInRange (request.Release c sub) = (c < 2 ^ 64) × (sub < 256)
IsRequestInRange request.Drain = Unit {0}
IsRequestInRange request.Keys = Unit {0}
IsRequestInRange request.Counts = Unit {0}
