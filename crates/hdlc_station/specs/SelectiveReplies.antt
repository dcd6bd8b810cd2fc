-- Representation: how what a station with selective reject answers a frame with is written; no claim rests on it.
use Rattle.std.specs.Prelude.{◌≡◌, ℕ, ◌<◌, ◌++◌, List}
use Rattle.er_base.specs.Stored.{Stored}
use Rattle.hdlc_station_model.specs.Stations.{Station, Deed}
use Rattle.hdlc_station.specs.Kept.{KeptStation}
use Rattle.hdlc_station.specs.Replies.{reply_text, info_text}
use Rattle.hdlc_station.specs.Places.{NumberPlace, lent}
use Rattle.hdlc_station.specs.Held.{Moves, TellsSelectiveDeed}
use Rattle.hdlc_station.specs.Told.{told_as, deed_lending}
use Rattle.hdlc_station.specs.Steps.{asks_below}
use Rattle.hdlc_station.specs.declared.deeds.LinkDeed.{LinkDeed}
use Rattle.hdlc_station.specs.declared.selective_heard.SelectiveHeard.{SelectiveHeard}
use Rattle.hdlc_station.specs.declared.selective_heard.SelectiveReply.{SelectiveReply}
use Rattle.hdlc_station.specs.declared.selective_heard.SelectiveReply.TheVariants.{Plain, Repeated, AskBelow}

-- a reply is written: its octets stand behind the others, and numbers that are asked for are so in their places
abbrev pub IsReplyWritten : KeptStation → List NumberPlace → Stored → SelectiveReply → List NumberPlace → Stored → Type 0
IsReplyWritten k places out (Plain r) places' out' = (places' ≡ places) × (out'.items ≡ out.items ++ reply_text k r)
IsReplyWritten k places out (Repeated up) places' out' = (places' ≡ places) × (out'.items ≡ out.items ++ info_text k up)
IsReplyWritten k places out (AskBelow up) places' out' = Moves k places out k places' out' (asks_below up)

-- a reply may be written: its frame was sent, and its numbers have places
abbrev pub IsSendable : KeptStation → SelectiveReply → Type 0
IsSendable k (Plain r) = Unit {0}
IsSendable k (Repeated up) = up < k.ahead
IsSendable k (AskBelow up) = up < k.window

-- what a rule tells of a frame with this information
abbrev pub heard_as : List ℕ → List NumberPlace → SelectiveHeard → Deed
heard_as information places heard = record (told_as information heard.told) { more = lent heard.more places }

-- a rule does what a step of the model does to a frame with this information, once its reply is written
abbrev pub HearsSo : List ℕ → KeptStation → List NumberPlace → KeptStation → List NumberPlace → SelectiveHeard → (Station → Station) → Type 0
HearsSo information old places new places' heard step =
    (out out' : Stored) (after : List NumberPlace) → IsReplyWritten new places' out heard.reply after out'
    → TellsSelectiveDeed old places out new after out' (heard_as information after heard) step

-- so does a frame that brought this
abbrev pub BringsSo : KeptStation → List NumberPlace → KeptStation → List NumberPlace → SelectiveReply → LinkDeed → (Station → Station) → Type 0
BringsSo old places new places' reply deed step =
    (out out' : Stored) (after : List NumberPlace) → IsReplyWritten new places' out reply after out'
    → TellsSelectiveDeed old places out new after out' (deed_lending after deed) step
