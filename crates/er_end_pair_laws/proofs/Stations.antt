-- What an event does to the station of an end that lives on: payloads are handed down, and the owed answer is sent, and nothing else. And
-- what the end's user sent stays.
use Rattle.std.proofs.Common.{◌≡◌, ℕ, zero, suc, Bool, true, false, ◌&&◌, ◌||◌, List, Option, Some, None, Ok, Err, refl, sym, ◌∙◌, subst, true≢false}
use Rattle.hdlc_station_model.specs.Receiving.{is_some_octets}
use Rattle.std.specs.Prelude.{if◌then◌else◌, is_some, nat_lt}
use Rattle.std.proofs.lemmas.Bool.{cond_both}
use Rattle.er_base.specs.declared.release.Release.{Release}
use Rattle.hdlc_station_model.specs.Frames.{Frame}
use Rattle.hdlc_station_model.specs.Stations.{Station, is_down}
use Rattle.hdlc_station_model.specs.Calls as station
use Rattle.hdlc_station_model.specs.Reports.{is_release}
use Rattle.hdlc_pair_laws.specs.Flowing.{Midway, Ended}
use Rattle.hdlc_pair_laws.specs.LossFree.{FlowKeeps}
use Rattle.t70_header.specs.Blocks.{last_block}
use Rattle.t70_header.specs.Joining as joining
use Rattle.safety_automaton.specs.Safety.{no_keys, ConnectRequest, step, octets_sent_in_outcome}
use Rattle.safety_automaton.specs.Reports.{Report, ToldAnswered, ToldConnected, ToldAccepted, ToldReleased, ToldIgnored}
use Rattle.x224_class2.specs.Tpdus.{GivenTpdu, Dr, Dc}
use Rattle.x224_class2.specs.Transport.{ReceptionDeed, Nothing, Called, Confirmed, Message, Disconnected, is_new, is_open, waiting_count}
use Rattle.x224_class2.specs.Transport as transport
use Rattle.er_end_model.specs.Layers.{Core, model}
use Rattle.er_end_model.specs.Steps.{Finds, Carrier, InCr, InCc, InDt, hand_tpdu, hand_tpdu_if_may, end_after_di, send_dr, answer_dr, on_safety_release, hand_text, accept_text, skip_message, hand_answer, keep_message, on_safety_report, on_text, on_transport_deed, on_tpdu, on_joined_block, on_block, connect_with_text, on_link_up, is_ready, with_safety_step, on_link_told, hand_next_tpdu, has_next_tpdu, hand_waiting_tpdus, most_offers, send_owed_answer, conclude_event}

-- ---- what is heard

-- behind a step from x to z
pub record Stays (x z : Core) : Type 0 where
  pub line : z.released ≡ None → z.line ≡ x.line
  pub sent : z.upper.sent ≡ x.upper.sent

nothing : (x : Core) → Stays x x
nothing x = record { line = λ e. refl; sent = refl }

given_sent : (g : GivenTpdu) (x : Core) → (hand_tpdu_if_may model g x).upper.sent ≡ x.upper.sent
given_sent g x = cond_both (station.may_send x.line) (hand_tpdu model g x) x (λ z. z.upper.sent ≡ x.upper.sent) (λ e. refl) (λ e. refl)

departs_stays : (why : Release) (reason : ℕ) (user : List ℕ) (x : Core) → Stays x (send_dr model why reason user x)
departs_stays why reason user x = record { line = λ e. absurd cc; sent = given_sent (Dr reason user) x }

cut_stays : (why : Release) (x : Core) → Stays x (answer_dr model why x)
cut_stays why x = record { line = λ e. absurd cc; sent = given_sent Dc x }

parts_stays : (why : Release) (di : List ℕ) (x : Core) → Stays x (on_safety_release model why di x)
parts_stays why di x =
    cond_both why.by_peer (end_after_di model why x) (send_dr model why 128 di x) (Stays x) (λ e. record { line = λ e. absurd cc; sent = refl }) (λ e. departs_stays why 128 di x)

says_stays : (text : List ℕ) (x z : Core) → Stays x z → Stays x (hand_text model text z)
says_stays text x z h =
    cond_both (is_some_octets text && (is_open z.upper.transport.stage && nat_lt (waiting_count z.upper.transport) 16)) _ z (Stays x)
    (λ e. record { line = h.line; sent = h.sent }) (λ e. h)

accepts_stays : (text : List ℕ) (x z : Core) → Stays x z → Stays x (accept_text model text z)
accepts_stays text x z h = cond_both (is_some_octets text) _ z (Stays x) (λ e. record { line = h.line; sent = h.sent }) (λ e. h)

answers_stays : (carrier : Carrier) (text : List ℕ) (x z : Core) → Stays x z → Stays x (hand_answer model carrier text z)
answers_stays InCr text x z h = accepts_stays text x z h
answers_stays InCc text x z h = says_stays text x z h
answers_stays InDt text x z h = says_stays text x (skip_message model z) (record { line = h.line; sent = h.sent })

kept_stays : (carrier : Carrier) (user : List ℕ) (x z : Core) → Stays x z → Stays x (keep_message model carrier user z)
kept_stays InCr user x z h = h
kept_stays InCc user x z h = h
kept_stays InDt user x z h = record { line = h.line; sent = h.sent }

-- one step, and then one that stays
then_stays : (x y z : Core) → y.line ≡ x.line → y.upper.sent ≡ x.upper.sent → Stays y z → Stays x z
then_stays x y z e d h = record { line = λ live. h.line live ∙ e; sent = h.sent ∙ d }

acts_stays : (carrier : Carrier) (report : Report) (octets : List ℕ) (x : Core) → Stays x (on_safety_report model carrier report octets x)
acts_stays carrier ToldAnswered octets x = answers_stays carrier octets x x (nothing x)
acts_stays carrier (ToldConnected peer) octets x = let h = answers_stays carrier octets x x (nothing x) in record { line = h.line; sent = h.sent }
acts_stays carrier (ToldAccepted user) octets x = kept_stays carrier user x x (nothing x)
acts_stays carrier (ToldReleased why) octets x = parts_stays why octets x
acts_stays carrier ToldIgnored octets x = nothing x

text_stays : (finds : Finds) (carrier : Carrier) (text : List ℕ) (x : Core) → Stays x (on_text model finds carrier text x)
text_stays finds carrier text x = let h = acts_stays carrier _ _ _ in record { line = h.line; sent = h.sent }

does_stays : (finds : Finds) (deed : ReceptionDeed) (x : Core) → Stays x (on_transport_deed model finds deed x)
does_stays finds Nothing x = nothing x
does_stays finds (Called user) x = text_stays finds InCr user x
does_stays finds (Confirmed user) x = text_stays finds InCc user x
does_stays finds (Message message) x = text_stays finds InDt message x
does_stays finds (Disconnected user) x = cut_stays _ x
does_stays finds (transport.Refused sub reason) x = departs_stays _ reason _ x

tpdu_stays : (finds : Finds) (tpdu : List ℕ) (x : Core) → Stays x (on_tpdu model finds tpdu x)
tpdu_stays finds tpdu x =
    let y : Core = record x { upper = model.hears x.upper tpdu } in
    then_stays x y (on_tpdu model finds tpdu x) refl refl (does_stays finds (model.deed x.upper tpdu) y)

block_at_stays : (finds : Finds) (answer : joining.BlockJoiningResult) (x : Core) → Stays x (on_joined_block model finds answer x)
block_at_stays finds (Ok None) x = nothing x
block_at_stays finds (Ok (Some tpdu)) x = tpdu_stays finds tpdu x
block_at_stays finds (Err fault) x = departs_stays _ _ _ x

block_stays : (finds : Finds) (block : List ℕ) (x : Core) → Stays x (on_block model finds block x)
block_stays finds block x =
    let a : List ℕ × joining.BlockJoiningResult = joining.block_step x.joined block in
    let y : Core = record x { joined = a.0 } in
    then_stays x y (on_block model finds block x) refl refl (block_at_stays finds a.1 y)

up_stays : (x : Core) → Stays x (on_link_up model x)
up_stays x =
    let a = step no_keys x.safe.safety ConnectRequest in
    let y : Core = with_safety_step model ConnectRequest a x in
    cond_both (x.upper.transport.is_caller && is_new x.upper.transport.stage && is_ready x.safe.safety.phase) (connect_with_text model (octets_sent_in_outcome a.1) y) x (Stays x)
    (λ e. cond_both (is_some_octets (octets_sent_in_outcome a.1)) (record y { upper = model.connects y.upper (octets_sent_in_outcome a.1) }) y (Stays x)
    (λ e. record { line = λ live. refl; sent = refl }) (λ e. record { line = λ live. refl; sent = refl }))
    (λ e. nothing x)

pub link_stays : (finds : Finds) (payload : Option (List ℕ)) (up : Bool) (released : Option Release) (x : Core) → Stays x (on_link_told model finds payload up released x)
link_stays finds (Some payload) up released x = block_stays finds payload x
link_stays finds None true released x = up_stays x
link_stays finds None false (Some why) x = record { line = λ e. absurd cc; sent = refl }
link_stays finds None false None x = nothing x

-- ---- what goes down behind it

pub offered_released : (n : ℕ) (x : Core) → (hand_waiting_tpdus model n x).released ≡ x.released
unfolding hand_waiting_tpdus
offered_released zero x = refl
offered_released (suc n) x = cond_both (has_next_tpdu model x) (hand_waiting_tpdus model n (hand_next_tpdu model x)) x (λ z. z.released ≡ x.released) (λ e. offered_released n (hand_next_tpdu model x)) (λ e. refl)

offered_sent : (n : ℕ) (x : Core) → (hand_waiting_tpdus model n x).upper.sent ≡ x.upper.sent
unfolding hand_waiting_tpdus
offered_sent zero x = refl
offered_sent (suc n) x = cond_both (has_next_tpdu model x) (hand_waiting_tpdus model n (hand_next_tpdu model x)) x (λ z. z.upper.sent ≡ x.upper.sent) (λ e. offered_sent n (hand_next_tpdu model x)) (λ e. refl)

offered_midway : FlowKeeps → (m : ℕ) (c : Bool) (n : ℕ) (w : List Frame) (x : Core) (l : List Frame) (y : Station) → Midway c n w x.line l y → Midway c n w (hand_waiting_tpdus model m x).line l y
unfolding hand_waiting_tpdus
offered_midway keep zero c n w x l y h = h
offered_midway keep (suc m) c n w x l y h =
    cond_both (has_next_tpdu model x) (hand_waiting_tpdus model m (hand_next_tpdu model x)) x (λ z. Midway c n w z.line l y)
    (λ e. offered_midway keep m c n w (hand_next_tpdu model x) l y (keep.handed c n w x.moment (last_block (model.next x.upper)) x.line l y h))
    (λ e. h)

pub concluded_sent : (x : Core) → (conclude_event model x).upper.sent ≡ x.upper.sent
concluded_sent x = cond_both (is_some x.released) x (send_owed_answer model (hand_waiting_tpdus model most_offers x)) (λ z. z.upper.sent ≡ x.upper.sent) (λ e. refl) (λ e. offered_sent most_offers x)

-- an end that lives on behind an event
pub record Went (c : Bool) (n : ℕ) (w : List Frame) (x : Core) (l : List Frame) (y : Station) : Type 0 where
  pub live : x.released ≡ None
  pub ended : Ended c n w x.line l y

pub concluded : FlowKeeps → (c : Bool) (n : ℕ) (w : List Frame) (x : Core) (l : List Frame) (y : Station) → x.released ≡ None → Midway c n w x.line l y → Went c n w (conclude_event model x) l y
concluded keep c n w x l y live h =
    let z : Core = send_owed_answer model (hand_waiting_tpdus model most_offers x) in
    subst (λ (o : Option Release). Went c n w (if is_some o then x else z) l y) (sym live) (record {
      live = offered_released most_offers x ∙ live;
      ended = keep.finished c n w (hand_waiting_tpdus model most_offers x).line l y (offered_midway keep most_offers c n w x l y h);
    })

-- ---- a station that isn't down told no release

pub none_told : (s t : Station) (before : Bool) (o : Option Release) → is_down t.phase ≡ (before || is_release o) → is_down t.phase ≡ false → o ≡ None
none_told s t before None e d = refl
none_told s t true (Some why) e d = absurd (true≢false (sym e ∙ d))
none_told s t false (Some why) e d = absurd (true≢false (sym e ∙ d))
