-- Contract: how a clause of the core speaks of what a station answers: by the octets that are written of a reply.
use Rattle.std.specs.Prelude.{◌≡◌, ℕ, zero, suc, ◌+◌, ◌%◌, Bool, true, false, not, List, [], ◌++◌, slice_index_or}
use Rattle.er_base.specs.Stored.{Stored}
use Rattle.hdlc_frames.specs.declared.controls.Control.{Control}
use Rattle.hdlc_frames.specs.declared.controls.Control.TheVariants as control
use Rattle.hdlc_frames.specs.Controls.{control_octets}
use Rattle.hdlc_frames.specs.Spelling.{spelling}
use Rattle.hdlc_station_model.specs.Frames.{modulo, set_up, address_of, table_octets}
use Rattle.hdlc_station_model.specs.Stations.{Station, Deed}
use Rattle.hdlc_station.specs.Kept.{KeptStation, Follows, Tells}
use Rattle.hdlc_station.specs.Told.{told_as, released_as}
use Rattle.hdlc_station.specs.declared.heard.Heard.{Heard}
use Rattle.hdlc_station.specs.declared.heard.Expired.{Expired}
use Rattle.hdlc_station.specs.declared.heard.Reply.{Reply}
use Rattle.hdlc_station.specs.declared.heard.Reply.TheVariants as reply

-- the octets of a frame on the line
abbrev pub frame_text : (extended : Bool) (address : ℕ) → Control → Bool → List ℕ → List ℕ
frame_text extended address c bit information = spelling address (table_octets (control_octets (modulo extended) c bit) ++ information)

-- ---- I frames

abbrev pub info_text_of : (calling extended : Bool) (va vr : ℕ) → List (List ℕ) → ℕ → List ℕ
info_text_of calling extended va vr ring i =
    frame_text extended (address_of (not calling)) (control.Info ((va + i) % modulo extended) vr) false (slice_index_or ring i [])

abbrev pub info_texts_of : (calling extended : Bool) (va vr : ℕ) → List (List ℕ) → (first count : ℕ) → List ℕ
info_texts_of calling extended va vr ring first zero = []
info_texts_of calling extended va vr ring first (suc n) =
    info_texts_of calling extended va vr ring first n ++ info_text_of calling extended va vr ring (n + first)

-- the I frame of the payload that is so many places behind V(A)
abbrev pub info_text : KeptStation → ℕ → List ℕ
info_text k i = info_text_of k.calling k.extended k.va k.vr k.ring i

-- those of so many payloads, from one on
abbrev pub info_texts : KeptStation → (first count : ℕ) → List ℕ
info_texts k first count = info_texts_of k.calling k.extended k.va k.vr k.ring first count

-- ---- replies

abbrev pub reply_text : KeptStation → Reply → List ℕ
reply_text k reply.Nothing = []
reply_text k reply.Ready = frame_text k.extended (address_of k.calling) (control.Rr k.vr) false []
reply_text k reply.Reject = frame_text k.extended (address_of k.calling) (control.Rej k.vr) false []
reply_text k (reply.SelectiveReject up) = frame_text k.extended (address_of k.calling) (control.Srej ((k.vr + up) % modulo k.extended)) false []
reply_text k reply.SetUp = frame_text k.extended (address_of (not k.calling)) (set_up k.extended) true []
reply_text k reply.Disconnect = frame_text k.extended (address_of (not k.calling)) (control.Disc true) true []
reply_text k reply.Disconnected = frame_text k.extended (address_of k.calling) control.Dm true []
reply_text k (reply.Agreed bit) = frame_text k.extended (address_of k.calling) control.Ua bit []
reply_text k reply.Again = info_texts k 0 k.ahead

-- how many frames it has
abbrev pub frame_count_of_reply : KeptStation → Reply → ℕ
frame_count_of_reply k reply.Nothing = 0
frame_count_of_reply k reply.Ready = 1
frame_count_of_reply k reply.Reject = 1
frame_count_of_reply k (reply.SelectiveReject up) = 1
frame_count_of_reply k reply.SetUp = 1
frame_count_of_reply k reply.Disconnect = 1
frame_count_of_reply k reply.Disconnected = 1
frame_count_of_reply k (reply.Agreed bit) = 1
frame_count_of_reply k reply.Again = k.ahead

-- ---- parts of a call that answer

-- a part of a call that does what a step of the model does, once its reply is written
abbrev pub FollowsWithReply : KeptStation → KeptStation → Reply → (Station → Station) → Type 0
FollowsWithReply old new r step = (out out' : Stored) → out'.items ≡ out.items ++ reply_text new r → Follows old out new out' step

-- one that tells something, where nothing was told before
abbrev pub TellsSo : KeptStation → KeptStation → Reply → Deed → (Station → Station) → Type 0
TellsSo old new r told step = (out out' : Stored) → out'.items ≡ out.items ++ reply_text new r → Tells old out new out' told step

-- what a rule does with a frame that has this information
abbrev pub FollowsWithInformation : KeptStation → KeptStation → Heard → (List ℕ → Station → Station) → Type 0
FollowsWithInformation old new heard step = (information : List ℕ) → TellsSo old new heard.reply (told_as information heard.told) (step information)

-- what the expiry of T1 does
abbrev pub FollowsTimerExpiry : KeptStation → KeptStation → Expired → (Station → Station) → Type 0
FollowsTimerExpiry old new expired step = TellsSo old new expired.reply (released_as expired.release) step
