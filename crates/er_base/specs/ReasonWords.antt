-- What the reason and sub-reason of a release mean in this profile, in words for people.
use Rattle.std.specs.Prelude.{ℕ, ◌==◌, ◌&&◌, List, codes, if◌then◌else◌}

-- the words of a reason and a sub-reason; the sub-reason of a user's release is the user's own
abbrev pub reason_words : ℕ → ℕ → List ℕ
reason_words reason sub =
    if reason == 0 then codes "released by the user" else
    if reason == 1 && sub == 1 then codes "the set-up of the link was not answered" else
    if reason == 1 && sub == 2 then codes "no progress on the link: T1 expired too often in a row" else
    if reason == 1 && sub == 3 then codes "a frame that the link may not get" else
    if reason == 1 && sub == 4 then codes "the link was disconnected: DISC, DM or FRMR" else
    if reason == 1 && sub == 5 then codes "the line ended" else
    if reason == 1 && sub == 6 then codes "the line failed" else
    if reason == 1 && sub == 7 then codes "the line stalled: too much waited to be sent" else
    if reason == 2 && sub == 1 then codes "a DR without the DI of its sender" else
    if reason == 2 && sub == 2 then codes "a TPDU that is faulty or may not come now" else
    if reason == 2 && sub == 3 then codes "a message above 1,032 octets" else
    if reason == 2 && sub == 4 then codes "a faulty network block" else
    if reason == 3 && sub == 1 then codes "no key of this engine holds at the radio block centre" else
    if reason == 3 && sub == 2 then codes "the MAC of AU2 is wrong: the keys of both ends differ" else
    if reason == 3 && sub == 3 then codes "the MAC of AU3 is wrong" else
    if reason == 3 && sub == 4 then codes "the MAC of AR is wrong" else
    if reason == 3 && sub == 5 then codes "another radio block centre answered than was called" else
    if reason == 3 && sub == 6 then codes "the safety feature is unknown" else
    if reason == 4 && sub == 1 then codes "the MAC of a DT is wrong" else
    if reason == 4 && sub == 2 then codes "a SaPDU with the direction flag of its receiver" else
    if reason == 5 && sub == 1 then codes "a SaPDU that is not expected now" else
    if reason == 5 && sub == 2 then codes "octets that are no SaPDU" else
    if reason == 6 && sub == 1 then codes "the time for the set-up was spent" else
    codes "a reason that this profile does not have"
