-- What a station sends in an event: at most seven I frames, and a few others.
use Rattle.std.proofs.Common.{◌≡◌, inl, inr, ◌+◌, ◌-◌, ◌*◌, ◌<◌, ◌≤◌, ℕ, zero, suc, Bool, true, false, List, [], ◌∷◌, ◌++◌}
use Rattle.std.proofs.Common.{length, Option, Some, None, refl, ap, arith, length-append, ltb-true}
use Rattle.std.specs.Prelude.{nat_lt, not, ◌&&◌, ◌||◌}
use Rattle.std.specs.List.{flat_map}
use Rattle.std.proofs.lemmas.Bool.{cases_Bool}
use Rattle.std.proofs.lemmas.Grind.{flat_map-append}
use Rattle.hdlc_frames.specs.Controls.{control_octets}
use Rattle.hdlc_station_model.specs.Frames.{Frame, modulo, shown, poll_final, information, table_octets, sent_address, sent_body, sent_octets}
use Rattle.hdlc_station_model.specs.Stations.{Station, is_up, puts, settled}
use Rattle.hdlc_station_model.specs.Sending.{info_at, sends_next, can_send, waiting, sends_up_to, sends_waiting, frames_again, sends_again}
use Rattle.loop_recordings.proofs.Lists.{Each, each_at}
use Rattle.loop_recordings.proofs.Below.{Below}

-- a block of a TPDU of at most 128 octets
abbrev pub IsBlock : List ℕ → Type 0
IsBlock payload = length payload ≤ 130

-- an I frame has at most 272 octets, and no more of them were sent than aren't acknowledged, seven; another frame has at most 12
pub record Sends (calling extended : Bool) (window acked sent : ℕ) (handed : List (List ℕ)) (said : List Frame) (others : ℕ) : Type 0 where
  pub seven : window ≡ 7
  pub order : acked ≤ sent
  pub ahead : sent ≤ acked + 7
  pub blocks : Each IsBlock handed
  pub octets : length (flat_map (sent_octets calling extended) said) + 272 * acked ≤ 272 * sent + 12 * others

abbrev pub SendsOf : Station → ℕ → Type 0
SendsOf s others = Sends s.calling s.extended s.window s.acked s.sent s.handed s.said others

pub one_more : (s : Station) (others : ℕ) → SendsOf s others → SendsOf s (suc others)
one_more s others h = record { seven = h.seven; order = h.order; ahead = h.ahead; blocks = h.blocks; octets = omega (arith, h.octets) }

-- nothing was said yet
pub settled_sends : (s : Station) (others : ℕ) → SendsOf s others → SendsOf (settled s) 0
settled_sends s others h = record { seven = h.seven; order = h.order; ahead = h.ahead; blocks = h.blocks; octets = omega (arith, h.order) }

-- ---- frames

table_short : (octets : Option (List ℕ)) → ((some : List ℕ) → octets ≡ Some some → length some ≤ 2) → length (table_octets octets) ≤ 2
table_short None h = omega arith
table_short (Some octets) h = h octets refl

frame_short : Below → (calling extended : Bool) (f : Frame) → length (sent_octets calling extended f) ≤ 2 * length (information f) + 12
frame_short laws calling extended f =
    let control : Option (List ℕ) = control_octets (modulo extended) (shown extended f) (poll_final f) in
    let few = table_short control (λ some e. (laws.control (modulo extended) (shown extended f) (poll_final f) some e).1) in
    let all = length-append (table_octets control) (information f) in
    omega (arith, laws.frame (sent_address calling f) (sent_body extended f), few, all)

said_more : (g : Frame → List ℕ) (said : List Frame) (f : Frame) → length (flat_map g (said ++ f ∷ [])) ≡ length (flat_map g said) + length (g f)
said_more g said f =
    let a = ap length (flat_map-append g said (f ∷ [])) in
    let b = length-append (flat_map g said) (g f ++ []) in
    let c = length-append (g f) [] in
    omega (arith, a, b, c)

pub puts_other : Below → (f : Frame) (s : Station) (others : ℕ) → information f ≡ [] → SendsOf s others → SendsOf (puts f s) (suc others)
puts_other laws f s others e h =
    let none : length (information f) ≡ 0 = ap length e in
    record {
      seven = h.seven;
      order = h.order;
      ahead = h.ahead;
      blocks = h.blocks;
      octets = omega (arith, h.octets, said_more (sent_octets s.calling s.extended) s.said f, frame_short laws s.calling s.extended f, none);
    }

-- ---- I frames

pub left_part : (b c : Bool) → (b && c) ≡ true → b ≡ true
left_part true c e = refl
left_part false c e = absurd cc

pub right_part : (b c : Bool) → (b && c) ≡ true → c ≡ true
right_part true c e = e
right_part false c e = absurd cc

info_short : Below → (calling extended : Bool) (s : Station) (n : ℕ) → Each IsBlock s.handed → length (sent_octets calling extended (info_at s n)) ≤ 272
info_short laws calling extended s n h =
    omega (arith, frame_short laws calling extended (info_at s n), each_at IsBlock s.handed n [] h (omega arith))

next_sends : Below → (s : Station) (others : ℕ) → can_send s ≡ true → SendsOf s others → SendsOf (sends_next s) others
next_sends laws s others may h =
    let room : s.sent - s.acked < s.window =
    ltb-true (s.sent - s.acked) s.window (right_part (is_up s.phase && not s.busy) (nat_lt (s.sent - s.acked) s.window)
    (left_part (is_up s.phase && not s.busy && nat_lt (s.sent - s.acked) s.window) (s.calling || nat_lt 0 (length s.taken)) may)) in
    record {
      seven = h.seven;
      order = omega (arith, h.order);
      ahead = omega (arith, h.order, room, h.seven);
      blocks = h.blocks;
      octets = omega (arith, h.octets, said_more (sent_octets s.calling s.extended) s.said (info_at s s.sent), info_short laws s.calling s.extended s s.sent h.blocks);
    }

up_to_sends : Below → (n : ℕ) (s : Station) (others : ℕ) → SendsOf s others → SendsOf (sends_up_to n s) others
up_to_sends laws zero s others h = h
up_to_sends laws (suc n) s others h = elim (cases_Bool (can_send s)) [
  | inl y ↦ rw y (up_to_sends laws n (sends_next s) others (next_sends laws s others y h))
  | inr n ↦ rw n h
]

pub waiting_sends : Below → (s : Station) (others : ℕ) → SendsOf s others → SendsOf (sends_waiting s) others
waiting_sends laws s others h = up_to_sends laws (waiting s) s others h

again_short : Below → (calling extended : Bool) (n : ℕ) (s : Station) → Each IsBlock s.handed
    → length (flat_map (sent_octets calling extended) (frames_again n s)) ≤ 272 * n
again_short laws calling extended zero s h = omega arith
again_short laws calling extended (suc n) s h =
    omega (
      arith,
      said_more (sent_octets calling extended) (frames_again n s) (info_at s (s.acked + n)),
      again_short laws calling extended n s h,
      info_short laws calling extended s (s.acked + n) h,
    )

-- the frames that aren't acknowledged are sent again, where nothing was said before
pub again_sends : Below → (s : Station) → s.said ≡ [] → SendsOf s 0 → SendsOf (sends_again s) 0
again_sends laws s e h =
    let count : ℕ = s.sent - s.acked in
    let none : s.said ++ frames_again count s ≡ frames_again count s = ap (λ (said : List Frame). said ++ frames_again count s) e in
    let few = again_short laws s.calling s.extended count s h.blocks in
    let same = ap (λ (said : List Frame). length (flat_map (sent_octets s.calling s.extended) said)) none in
    record { seven = h.seven; order = h.order; ahead = h.ahead; blocks = h.blocks; octets = omega (arith, few, same, h.order) }
