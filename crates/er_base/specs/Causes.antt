-- Why a connection is released: the causes of this profile, and the reason and sub-reason of each, as a DI of SUBSET-037
-- carries them.
use Rattle.std.specs.Prelude.{ℕ, true, false}
use Rattle.er_base.specs.declared.release.Release.{Release}
use Rattle.er_base.specs.declared.cause.Cause.{Cause}
use Rattle.er_base.specs.declared.cause.Cause.TheVariants as cause

-- a release by this end
abbrev pub by_this_end : ℕ → ℕ → Release
by_this_end reason sub = record { reason = reason; sub = sub; by_peer = false }

-- the release that a peer's DI makes
abbrev pub by_peer_di : ℕ → ℕ → Release
by_peer_di reason sub = record { reason = reason; sub = sub; by_peer = true }

-- the release that a cause makes: all by this end, those for what the peer did too
abbrev pub release_of : Cause → Release
-- 0: the own user; the sub-reason is the user's
release_of (cause.User sub) = by_this_end 0 sub
-- 1: the line and its data link
release_of cause.SetUpUnanswered = by_this_end 1 1
release_of cause.NoProgress = by_this_end 1 2
release_of cause.FrameError = by_this_end 1 3
release_of cause.PeerDisconnected = by_this_end 1 4
release_of cause.LineEnded = by_this_end 1 5
release_of cause.LineFailed = by_this_end 1 6
release_of cause.LineStalled = by_this_end 1 7
-- 2: transport and network blocks
release_of cause.DisconnectWithoutDi = by_this_end 2 1
release_of cause.TpduRefused = by_this_end 2 2
release_of cause.MessageTooLong = by_this_end 2 3
release_of cause.BlockRefused = by_this_end 2 4
-- 3: the set-up of the safe connection
release_of cause.NoKey = by_this_end 3 1
release_of cause.Au2MacWrong = by_this_end 3 2
release_of cause.Au3MacWrong = by_this_end 3 3
release_of cause.ArMacWrong = by_this_end 3 4
release_of cause.OtherResponder = by_this_end 3 5
release_of cause.OtherFeature = by_this_end 3 6
-- 4: what is received of the peer
release_of cause.DtMacWrong = by_this_end 4 1
release_of cause.WrongDirection = by_this_end 4 2
-- 5: SaPDUs
release_of cause.Unexpected = by_this_end 5 1
release_of cause.Malformed = by_this_end 5 2
-- 6: time
release_of cause.SetUpTimeSpent = by_this_end 6 1
