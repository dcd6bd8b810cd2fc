-- Known answers, worked out by hand: stations with selective reject and the window 4, at modulo 8, where frames are lost. An I frame's payload
-- is the octet of its control, so that of N(S) 3 is 06.
use Rattle.std.specs.Prelude.{◌≡◌, ℕ, true, false, List, [], ◌∷◌, Some, None, refl}
use Rattle.hdlc_frames.specs.Framing.{Frame as Found}
use Rattle.hdlc_frames.specs.ControlOctets.{control_of}
use Rattle.hdlc_station_model.specs.declared.phase.Phase.TheVariants.{Down}
use Rattle.hdlc_station_model.specs.Frames.{Info, Rr, Srej, Dm}
use Rattle.hdlc_station_model.specs.Stations.{Station, made, settled}
use Rattle.hdlc_station_model.specs.Calls.{starts, hands, finishes, ticks, deadline}
use Rattle.hdlc_station_model.specs.Selective.{selective_receives}

-- ---- a called station

-- a frame of these octets comes, and the answer that is owed follows
abbrev hears_body : List ℕ → Station → Station
hears_body body s = finishes (selective_receives 0 (Found 0x01 body) (settled s))

-- an I frame with this control
abbrev hears_info : ℕ → Station → Station
hears_info control s = hears_body (control ∷ control ∷ []) s

-- it is up
abbrev called : Station
called = hears_body (0x3f ∷ []) (made false false 4 5 1000)

-- N(S) 1 comes and 0 didn't: it is held, and SREJ asks for 0
abbrev held_one : Station
held_one = hears_info 0x02 called

pub first_gap : (held_one.said ≡ Srej 0 ∷ []) × (held_one.held ≡ (1, 0x02 ∷ []) ∷ []) × (held_one.asked ≡ 0 ∷ []) × (held_one.taken ≡ [])
    × (held_one.deed.payload ≡ None)
unfolding control_of
first_gap = (refl, refl, refl, refl, refl)

-- it comes again: RR says which is the next, and nothing is asked for twice
pub held_again : ((hears_info 0x02 held_one).said ≡ Rr 0 ∷ []) × ((hears_info 0x02 held_one).held ≡ held_one.held) × ((hears_info 0x02 held_one).asked ≡ 0 ∷ [])
unfolding control_of
held_again = (refl, refl, refl)

-- N(S) 3 comes and 2 didn't: a second gap
abbrev two_gaps : Station
two_gaps = hears_info 0x06 held_one

pub second_gap : (two_gaps.said ≡ Srej 2 ∷ []) × (two_gaps.held ≡ (1, 0x02 ∷ []) ∷ (3, 0x06 ∷ []) ∷ []) × (two_gaps.asked ≡ 0 ∷ 2 ∷ []) × (two_gaps.taken ≡ [])
unfolding control_of
second_gap = (refl, refl, refl, refl)

-- the second gap is filled first: nothing goes up, since 0 is missing
abbrev second_filled : Station
second_filled = hears_info 0x04 two_gaps

pub filled_behind : (second_filled.said ≡ []) × (second_filled.taken ≡ []) × (second_filled.asked ≡ 0 ∷ 2 ∷ [])
unfolding control_of
filled_behind = (refl, refl, refl)

-- then the first one: all four go up in their order, and one RR answers
abbrev both_filled : Station
both_filled = hears_info 0x00 second_filled

pub filled : (both_filled.taken ≡ (0x00 ∷ []) ∷ (0x02 ∷ []) ∷ (0x04 ∷ []) ∷ (0x06 ∷ []) ∷ []) × (both_filled.held ≡ []) × (both_filled.asked ≡ [])
    × (both_filled.said ≡ Rr 4 ∷ []) × (both_filled.deed.payload ≡ Some (0x00 ∷ [])) × (both_filled.deed.more ≡ (0x02 ∷ []) ∷ (0x04 ∷ []) ∷ (0x06 ∷ []) ∷ [])
unfolding control_of
filled = (refl, refl, refl, refl, refl, refl)

-- the first gap is filled first: 0 and 1 go up, 3 stays, since 2 is missing
abbrev first_filled : Station
first_filled = hears_info 0x00 two_gaps

pub filled_before : (first_filled.taken ≡ (0x00 ∷ []) ∷ (0x02 ∷ []) ∷ []) × (first_filled.held ≡ (3, 0x06 ∷ []) ∷ []) × (first_filled.asked ≡ 2 ∷ [])
    × (first_filled.said ≡ Rr 2 ∷ [])
unfolding control_of
filled_before = (refl, refl, refl, refl)

-- ---- across the wrap of the numbers: six frames were taken, so 6, 7, 8 and 9 may come, which show 6, 7, 0 and 1

abbrev took_six : Station
took_six = hears_info 0x0a (hears_info 0x08 (hears_info 0x06 (hears_info 0x04 (hears_info 0x02 (hears_info 0x00 called)))))

-- 7, 8 and 9 come
abbrev wrapped : Station
wrapped = hears_info 0x02 (hears_info 0x00 (hears_info 0x0e took_six))

pub held_across : (wrapped.held ≡ (7, 0x0e ∷ []) ∷ (8, 0x00 ∷ []) ∷ (9, 0x02 ∷ []) ∷ []) × (wrapped.asked ≡ 6 ∷ []) × (wrapped.said ≡ [])
    × ((hears_info 0x0e took_six).said ≡ Srej 6 ∷ [])
unfolding control_of
held_across = (refl, refl, refl, refl)

-- the numbers 2 to 5 show frames that were taken before: each is old
pub old : ((hears_info 0x04 wrapped).said ≡ Rr 6 ∷ []) × ((hears_info 0x0a wrapped).said ≡ Rr 6 ∷ []) × ((hears_info 0x0a wrapped).held ≡ wrapped.held)
unfolding control_of
old = (refl, refl, refl)

-- 6 comes
pub across : ((hears_info 0x0c wrapped).deed.more ≡ (0x0e ∷ []) ∷ (0x00 ∷ []) ∷ (0x02 ∷ []) ∷ []) × ((hears_info 0x0c wrapped).said ≡ Rr 10 ∷ [])
unfolding control_of
across = (refl, refl)

-- ---- what it refuses: REJ, and SREJ with information

pub rejects_rej : ((hears_body (0x09 ∷ []) called).said ≡ Dm ∷ [])
    × ((hears_body (0x09 ∷ []) called).deed.released ≡ Some (record { reason = 1; sub = 3; by_peer = false }))
unfolding control_of
rejects_rej = (refl, refl)

pub rejects_information : ((hears_body (0x0d ∷ 0x00 ∷ []) called).deed.released ≡ Some (record { reason = 1; sub = 3; by_peer = false }))
    × ((hears_body (0x0d ∷ 0x00 ∷ []) called).phase ≡ Down)
unfolding control_of
rejects_information = (refl, refl)

-- ---- a calling station that sent three payloads at the moment 0

abbrev hears_at : ℕ → ℕ → Station → Station
hears_at now control s = finishes (selective_receives now (Found 0x01 (control ∷ [])) (settled s))

abbrev sent_three : Station
sent_three =
    settled (hands 0 (0x43 ∷ []) (hands 0 (0x42 ∷ [])
    (hands 0 (0x41 ∷ []) (settled (selective_receives 0 (Found 0x01 (0x73 ∷ [])) (settled (starts 0 (made true false 4 5 1000))))))))

-- SREJ asks for 1: this one frame is sent again and T1 starts anew, but nothing is acknowledged
pub one_again : ((hears_at 300 0x2d sent_three).said ≡ Info 1 0 (0x42 ∷ []) ∷ []) × ((hears_at 300 0x2d sent_three).acked ≡ 0)
    × (deadline sent_three ≡ Some 1000) × (deadline (hears_at 300 0x2d sent_three) ≡ Some 1300)
unfolding control_of
one_again = (refl, refl, refl, refl)

-- SREJ asks for 3, which wasn't sent: it is stray
pub none_again : ((hears_at 300 0x6d sent_three).said ≡ []) × ((hears_at 300 0x6d sent_three).counts.stray ≡ 1)
    × (deadline (hears_at 300 0x6d sent_three) ≡ Some 1000)
unfolding control_of
none_again = (refl, refl, refl)

-- where no SREJ comes, T1 alone repairs: at its expiry all three are sent again
pub t1_alone : ((ticks 1000 sent_three).said ≡ Info 0 0 (0x41 ∷ []) ∷ Info 1 0 (0x42 ∷ []) ∷ Info 2 0 (0x43 ∷ []) ∷ []) × ((ticks 1000 sent_three).expiries ≡ 1)
unfolding control_of
t1_alone = (refl, refl)
