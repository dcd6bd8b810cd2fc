-- The last frames of a station of either kind at a frame that comes (ISO/IEC 13239, asynchronous balanced mode; which is sent when is this
-- profile's): DM behind a frame that may not come, UA in answer to DISC. With them the call sends nothing else.
use Rattle.std.specs.Prelude.{◌≡◌, ℕ, Bool, List, [], ◌∷◌, ◌++◌}
use Rattle.er_base.specs.Octets.{AreOctets}
use Rattle.hdlc_frames.specs.Framing.{Frame as Found}
use Rattle.hdlc_station_model.specs.Frames.{Dm}
use Rattle.hdlc_station_model.specs.Stations.{Station}
use Rattle.hdlc_station_model.specs.Selective.{receives_as}
use Rattle.hdlc_station_model.specs.Causes.{IsPeersEnd}
use Rattle.hdlc_station_model.specs.LastFrames.{answer_to}
use Rattle.hdlc_station_laws.specs.FrameCauses.{IsErrorOfKind}

-- DM at 1.3; at 1.4 UA with the P bit of a DISC as its F bit, and nothing to DM and FRMR
abbrev pub LastSaidOfKind : Type 0
LastSaidOfKind =
    (selective : Bool) (now : ℕ) (s : Station) (address : ℕ) (body : List ℕ) → AreOctets body
    → (IsErrorOfKind selective s address body → (receives_as selective now (Found address body) s).said ≡ s.said ++ Dm ∷ [])
    × ((end : IsPeersEnd s address body) → (receives_as selective now (Found address body) s).said ≡ s.said ++ answer_to end)
