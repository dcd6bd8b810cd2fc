-- The last frames of a station (ISO/IEC 13239, asynchronous balanced mode; which is sent when is this profile's): DM behind a frame that may not
-- come, UA in answer to DISC, DISC where the station gives up or is closed. With them the call sends nothing else.
use Rattle.std.specs.Prelude.{◌≡◌, ℕ, List, [], ◌∷◌, ◌++◌}
use Rattle.er_base.specs.declared.cause.Cause.{Cause}
use Rattle.er_base.specs.Octets.{AreOctets}
use Rattle.hdlc_frames.specs.Framing.{Frame as Found}
use Rattle.hdlc_station_model.specs.Frames.{Frame, Ua, Dm, Disc}
use Rattle.hdlc_station_model.specs.Stations.{Station}
use Rattle.hdlc_station_model.specs.Calls.{receives, ticks, closes}
use Rattle.hdlc_station_model.specs.Causes.{IsBegun, IsFrameError, IsPeersEnd, Disconnects, IsDisconnected, RejectsFrame, TimeCause}

-- the peer's DISC is answered by UA, with its P bit as F bit; its DM and FRMR by nothing
abbrev pub answer_to : {s : Station} {address : ℕ} {body : List ℕ} → IsPeersEnd s address body → List Frame
answer_to (Disconnects poll begun comes) = Ua poll ∷ []
answer_to (IsDisconnected begun comes) = []
answer_to (RejectsFrame information begun comes) = []

abbrev pub LastFrames : Type 0
LastFrames =
    (now : ℕ) (s : Station)
    → ((address : ℕ) (body : List ℕ) → AreOctets body → IsFrameError s address body → (receives now (Found address body) s).said ≡ s.said ++ Dm ∷ [])
    × ((address : ℕ) (body : List ℕ) → AreOctets body → (end : IsPeersEnd s address body)
    → (receives now (Found address body) s).said ≡ s.said ++ answer_to end)
    × ((why : Cause) → TimeCause now s why → (ticks now s).said ≡ s.said ++ Disc ∷ [])
    × (IsBegun s → (closes s).said ≡ s.said ++ Disc ∷ [])
    × ((IsBegun s → ⊥) → (closes s).said ≡ s.said)
