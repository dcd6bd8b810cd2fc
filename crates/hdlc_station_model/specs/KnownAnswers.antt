-- Known answers, worked out by hand: T1 of a station that is Up at moments that find it expired and at others, what a station tells when its
-- own user releases, and the words of lines.
use Rattle.std.specs.Prelude.{◌≡◌, true, false, [], ◌∷◌, Some, None, refl}
use Rattle.hdlc_frames.specs.Framing.{Frame as Found}
use Rattle.hdlc_frames.specs.ControlOctets.{control_of}
use Rattle.er_base.specs.declared.side.Side.TheVariants.{E, R}
use Rattle.hdlc_station_model.specs.declared.phase.Phase.TheVariants.{Up, Down}
use Rattle.hdlc_station_model.specs.Frames.{Info, Disc}
use Rattle.hdlc_station_model.specs.Stations.{Station, made, settled}
use Rattle.hdlc_station_model.specs.Calls.{starts, receives, hands, ticks, deadline}
use Rattle.hdlc_station_model.specs.Events.{quits, is_late}
use Rattle.hdlc_station_model.specs.Lines.{next_of, altered, station_bound}

-- ---- a calling station with the window 7, N2 5 and T1 1000 that is Up and sent one payload at the moment 0

abbrev calling : Station
calling = settled (starts 0 (made true false 7 5 1000))

abbrev awake : Station
awake = settled (receives 0 (Found 0x01 (0x73 ∷ [])) calling)

abbrev sent_one : Station
sent_one = settled (hands 0 (0x41 ∷ []) awake)

pub is_awake : (awake.phase ≡ Up) × (sent_one.phase ≡ Up) × (deadline awake ≡ None) × (deadline sent_one ≡ Some 1000)
unfolding control_of
is_awake = (refl, refl, refl, refl)

-- it is Up and sent nothing: no moment finds T1 expired
pub never_late : (is_late 0 awake ≡ false) × (is_late 1000 awake ≡ false) × (is_late 1000000 awake ≡ false)
unfolding control_of
never_late = (refl, refl, refl)

-- one below the moment at which T1 expires: nothing is sent, and nothing changes but the moment
pub too_early : (is_late 999 sent_one ≡ false) × (ticks 999 sent_one ≡ record sent_one { moment = 999 })
unfolding control_of
too_early = (refl, refl)

-- at it: the frame is sent again, the expiry is counted, and T1 starts anew
pub in_time : (is_late 1000 sent_one ≡ true) × ((ticks 1000 sent_one).said ≡ Info 0 0 (0x41 ∷ []) ∷ []) × (deadline (ticks 1000 sent_one) ≡ Some 2000)
    × ((ticks 1000 sent_one).expiries ≡ 1)
unfolding control_of
in_time = (refl, refl, refl, refl)

-- a moment below the last one counts as the last one
pub below_the_last : (is_late 999 (settled (ticks 1999 (settled (ticks 1000 sent_one)))) ≡ false) × (is_late 0 (record sent_one { moment = 1000 }) ≡ true)
unfolding control_of
below_the_last = (refl, refl)

-- the frame was acknowledged: T1 stopped, and no moment finds it expired
pub acknowledged : is_late 5000 (settled (receives 500 (Found 0x01 (0x21 ∷ [])) sent_one)) ≡ false
unfolding control_of
acknowledged = refl

-- five expiries, each at its moment
abbrev expired_five : Station
expired_five = settled (ticks 5000 (settled (ticks 4000 (settled (ticks 3000 (settled (ticks 2000 (settled (ticks 1000 sent_one)))))))))

-- the sixth is one too many: 1.2, DISC, and no timer runs; before it is due nothing is told
pub gives_up : ((ticks 5999 expired_five).deed.released ≡ None)
    × ((ticks 6000 expired_five).deed.released ≡ Some (record { reason = 1; sub = 2; by_peer = false })) × ((ticks 6000 expired_five).said ≡ Disc ∷ [])
    × (deadline (ticks 6000 expired_five) ≡ None)
unfolding control_of
gives_up = (refl, refl, refl, refl)

-- ---- the own user releases, with the sub-reason 7

pub quits_up : ((quits 7 sent_one).deed.released ≡ Some (record { reason = 0; sub = 7; by_peer = false })) × ((quits 7 sent_one).said ≡ Disc ∷ [])
    × ((quits 7 sent_one).phase ≡ Down) × (deadline (quits 7 sent_one) ≡ None)
unfolding control_of
quits_up = (refl, refl, refl, refl)

pub quits_called : ((quits 7 (made false false 7 5 1000)).deed.released ≡ Some (record { reason = 0; sub = 7; by_peer = false }))
    × ((quits 7 (made false false 7 5 1000)).said ≡ [])
quits_called = (refl, refl)

-- ---- lines

pub nexts : (next_of ((1 ∷ []) ∷ []) ((2 ∷ []) ∷ []) ≡ Some E) × (next_of [] ((2 ∷ []) ∷ []) ≡ Some R) × (next_of [] [] ≡ None)
nexts = (refl, refl, refl)

pub frame_changed_by_mask : altered (0x01 ∷ 0x3f ∷ 0xeb ∷ []) 1 0x0f ≡ 0x01 ∷ 0x30 ∷ 0xeb ∷ []
frame_changed_by_mask = refl

-- five payloads were handed down at e, two at r
pub most : station_bound 5 2 ≡ 16
most = refl
