-- What frames come to at an end, and what is heard of them.
use Rattle.std.proofs.Common.{◌≡◌, ◌∙◌, ◌≤◌, inl, inr, ℕ, ◌+◌, max, Bool, true, false, ◌&&◌, List, [], ◌∷◌, ◌++◌, length, Option, Some, None, refl, sym, ap, ap₂, subst, arith, append-nil, length-append}
use Rattle.hdlc_station_model.specs.Receiving.{is_some_octets}
use Rattle.std.specs.Prelude.{is_some, if◌then◌else◌}
use Rattle.std.specs.Option.{option_to_list}
use Rattle.er_base.specs.declared.release.Release.{Release}
use Rattle.er_base.specs.declared.side.Side.{Side}
use Rattle.hdlc_frames.specs.Framing.{Verdict}
use Rattle.hdlc_station_model.specs.declared.phase.Phase.TheVariants.{Up}
use Rattle.hdlc_station_model.specs.Stations.{settled}
use Rattle.hdlc_station_model.specs.Stations as station
use Rattle.t70_header.specs.Joining as joining
use Rattle.x224_class2.specs.Segments.{text_so_far}
use Rattle.safety_automaton.specs.Safety.{no_keys, Safety, SafetyOutcome, ConnectRequest, octets_sent_in_outcome, step}
use Rattle.er_end_model.specs.Steps.{Finds, new_event_at, with_safety_step, is_ready, connect_with_text, on_link_up, on_joined_block, on_link_deed, conclude_event, step_frame}
use Rattle.er_end_model.specs.Layers.{Core, model}
use Rattle.er_end_model.specs.Hearing.{station_behind}
use Rattle.tap_model.specs.Hearing.{ReadFrame, read_frame, is_link_opening, ends, is_next, Hearing}
use Rattle.tap_model.specs.Given.{received_by}
use Rattle.tap_model.specs.Ears.{Ear, open_ear, hearing_of_frames, TapFrameTurn, turn_at_block, behind_turn, HearingTurns}
use Rattle.tap_hearing.proofs.Noting.{Tuned, tuned, Noted, noted, noted_if, concludes_noted}
use Rattle.tap_hearing.proofs.Sorting.{Weight, Nothing, Opens, Counts, EndsIt, weight_in, turn_by, pieces_if, pieces, pieces_by, hears_by, pieces_with}
use Rattle.tap_hearing.proofs.Stations.{sender, phase_at, IsLeft, Does}
use Rattle.tap_hearing.proofs.Verdicts.{station_does, is_one}
use Rattle.tap_hearing.proofs.Following.{ear_at, Fresh, Listens, told, Follows, Live, Silent, Last, block_follows}

-- ---- what is claimed

-- these texts, and then what is heard besides
abbrev pub with_texts : List (List ℕ) → Hearing → Hearing
with_texts given h = record { texts = given ++ h.texts; parting = h.parting }

abbrev pub Begins : List (List ℕ) → List (List ℕ) → Type 0
Begins xs ys = (rest : List (List ℕ)) × (ys ≡ xs ++ rest)

-- over frames, whatever comes behind them: an end that lives was given what was heard, and took what counted; one that is released
-- was given a beginning of what is heard, and took a beginning of what counts. Each text came in a payload of its own
pub data Goes (opened calling : Bool) (m : Noted) (frames : List ReadFrame) (given : List (List ℕ)) (n : Noted) : Type 0 where
  Lives : (now : Bool) (took : List (List ℕ)) → Listens now calling n
      → ((rest : List ReadFrame) → hearing_of_frames (sender calling) (ear_at opened m) (frames ++ rest) ≡ with_texts given (hearing_of_frames (sender calling) (ear_at now n) rest))
      → ((rest : List ReadFrame) → pieces (sender calling) (ear_at opened m) (frames ++ rest) ≡ took ++ pieces (sender calling) (ear_at now n) rest)
      → n.line.taken ≡ m.line.taken ++ took → length given ≤ length took → Goes opened calling m frames given n
  Left : (why : Release) (took : List (List ℕ)) → n.released ≡ Some why
      → ((rest : List ReadFrame) → Begins given (hearing_of_frames (sender calling) (ear_at opened m) (frames ++ rest)).texts)
      → ((rest : List ReadFrame) → Begins took (pieces (sender calling) (ear_at opened m) (frames ++ rest)))
      → n.line.taken ≡ m.line.taken ++ took → length given ≤ length took → Goes opened calling m frames given n

-- ---- a frame

-- an end that isn't released, behind a frame for which its station tells this
came : (finds : Finds) (now : ℕ) (v : Verdict) (x : Core) (d : station.Deed) → x.released ≡ None → (station_behind x now v).deed ≡ d
    → noted (step_frame model finds now v x) ≡ noted (on_link_deed model finds d (record (new_event_at model now x) { line = station_behind x now v }))
came finds now v x d live told =
    let z : Core = record (new_event_at model now x) { line = station_behind x now v } in
    unless_released x.released (new_event_at model now x) (conclude_event model (on_link_deed model finds (station_behind x now v).deed z)) live
    ∙ ap (λ (e : station.Deed). noted (conclude_event model (on_link_deed model finds e z))) told
    ∙ concludes_noted (on_link_deed model finds d z)
  where
    unless_released : (r : Option Release) (a b : Core) → r ≡ None → noted (if is_some r then a else b) ≡ noted b
    unless_released None a b e = refl
    unless_released (Some why) a b e = absurd cc

-- an ear that waits finds what opens the link, an open one what counts
closed_by : (opened : Bool) (side : Side) (n : ℕ) (read : List ReadFrame) → weight_in opened side n read ≡ Opens → opened ≡ false
closed_by false side n read e = refl
closed_by true side n [] e = absurd cc
closed_by true side n (f ∷ fs) e = absurd (never (ends side f) (is_next side n f) f.information e)
  where
    never : (a b : Bool) (i : List ℕ) → (if a then EndsIt else if b then Counts i else Nothing) ≡ Opens → ⊥
    never true b i h = cc
    never false true i h = cc
    never false false i h = cc

open_by : (opened : Bool) (side : Side) (n : ℕ) (read : List ReadFrame) (piece : List ℕ) → weight_in opened side n read ≡ Counts piece → opened ≡ true
open_by true side n read piece e = refl
open_by false side n [] piece e = absurd cc
open_by false side n (f ∷ fs) piece e = absurd (never (is_link_opening side f) e)
  where
    never : (a : Bool) → (if a then Opens else Nothing) ≡ Counts piece → ⊥
    never true h = cc
    never false h = cc

-- which pieces count depends on these alone
pieces_at : (side : Side) (a b : Ear) (rest : List ReadFrame) → a.opened ≡ b.opened → a.count ≡ b.count → pieces side a rest ≡ pieces side b rest
unfolding pieces
pieces_at side a b rest o c = ap₂ (λ (p : Bool) (n : ℕ). pieces_if p side n rest) o c

told_behind : (text : Option (List ℕ)) (next : Ear) (rest : Ear → Hearing) → behind_turn (told text next) rest ≡ with_texts (option_to_list text) (rest next)
told_behind None next rest = refl
told_behind (Some text) next rest = refl

one_at_most : (text : Option (List ℕ)) → length (option_to_list text) ≤ 1
one_at_most None = omega arith
one_at_most (Some text) = omega arith

module _ (turns : HearingTurns) (calling : Bool) (finds : Finds) (now : ℕ) (v : Verdict) (x : Core) (opened : Bool) (l : Listens opened calling (noted x)) where
  abbrev side : Side
  side = sender calling

  abbrev read : List ReadFrame
  read = read_frame v

  -- the end behind its station
  abbrev z : Core
  z = record (new_event_at model now x) { line = station_behind x now v }

  abbrev k : Ear
  k = ear_at opened (noted x)

  abbrev Claim : Noted → Type 0
  Claim n = Goes opened calling (noted x) read n.received n

  weight_turn : (w : Weight) → weight_in opened side k.count read ≡ w → (rest : List ReadFrame)
      → hearing_of_frames side k (read ++ rest) ≡ behind_turn (turn_by k w) (λ next. hearing_of_frames side next rest)
  weight_turn w is rest =
      hears_by turns side k read rest (is_one v) ∙ ap (λ (u : Weight). behind_turn (turn_by k u) (λ next. hearing_of_frames side next rest)) is

  weight_pieces : (w : Weight) → weight_in opened side k.count read ≡ w → (rest : List ReadFrame) → pieces side k (read ++ rest) ≡ pieces_by side k w rest
  weight_pieces w is rest = pieces_with turns side k read rest (is_one v) ∙ ap (λ (u : Weight). pieces_by side k u rest) is

  -- it is released, and nothing was given or taken
  nothing_left : (n : Noted) (why : Release) → n.released ≡ Some why → n.received ≡ [] → n.line.taken ≡ x.line.taken → Claim n
  nothing_left n why r g t =
      subst (λ (given : List (List ℕ)). Goes opened calling (noted x) read given n) (sym g)
      (Left why [] r (λ rest. ((hearing_of_frames side k (read ++ rest)).texts, refl)) (λ rest. (pieces side k (read ++ rest), refl)) (t ∙ sym (append-nil x.line.taken)) (omega arith))

  left_goes : IsLeft x.line (station_behind x now v) → Claim (noted (step_frame model finds now v x))
  left_goes left =
      let d : station.Deed = record { up = false; payload = None; more = []; released = Some left.0 } in
      let e = came finds now v x d l.live (ap (λ (u : Tuned). u.deed) left.1) in
      nothing_left (noted (step_frame model finds now v x)) left.0 (ap (λ (n : Noted). n.released) e) (ap (λ (n : Noted). n.received) e)
      (ap (λ (n : Noted). n.line.taken) e ∙ ap (λ (u : Tuned). u.taken) left.1)

  -- nothing is heard, and nothing was given or taken
  same_goes : weight_in opened side k.count read ≡ Nothing → tuned (station_behind x now v) ≡ tuned (settled x.line) → Claim (noted (step_frame model finds now v x))
  same_goes is same =
      let n : Noted = record (noted x) { line = tuned (settled x.line); received = [] } in
      let e : noted (step_frame model finds now v x) ≡ n =
      came finds now v x station.no_deed l.live (ap (λ (u : Tuned). u.deed) same) ∙ ap (λ (u : Tuned). record (noted x) { line = u; received = [] }) same in
      subst Claim (sym e)
      (Lives opened [] (record { live = l.live; role = l.role; plain = l.plain; stands = l.stands; going = l.going; fresh = λ f. record { taken = (l.fresh f).taken; joined = (l.fresh f).joined; contents = (l.fresh f).contents } })
      (weight_turn Nothing is) (weight_pieces Nothing is) (sym (append-nil x.line.taken)) (omega arith))

  -- the link comes up
  abbrev up_line : Tuned
  up_line = record (tuned (settled x.line)) { phase = Up; deed = record { up = true; payload = None; more = []; released = None } }

  up_noted : noted (on_link_up model z) ≡ record (noted z) { received = [] }
  up_noted =
      let a : Safety × SafetyOutcome = step no_keys z.safe.safety ConnectRequest in
      let s : Core = with_safety_step model ConnectRequest a z in
      noted_if (model.may_connect z.upper && is_ready z.safe.safety.phase) (connect_with_text model (octets_sent_in_outcome a.1) s) z (record (noted z) { received = [] })
      (noted_if (is_some_octets (octets_sent_in_outcome a.1)) _ s (record (noted z) { received = [] }) (ap (λ (b : Bool). record (noted z) { over = b; received = [] }) (sym l.going)) refl)
      refl

  up_goes : opened ≡ false → weight_in opened side k.count read ≡ Opens → tuned (station_behind x now v) ≡ up_line → Claim (noted (step_frame model finds now v x))
  up_goes closed is up =
      let n : Noted = record (noted x) { line = up_line; received = [] } in
      let f : Fresh (noted x) = l.fresh closed in
      let e : noted (step_frame model finds now v x) ≡ n =
      came finds now v x (record { up = true; payload = None; more = []; released = None }) l.live (ap (λ (u : Tuned). u.deed) up)
      ∙ up_noted ∙ ap (λ (u : Tuned). record (noted x) { line = u; received = [] }) up in
      let anew : open_ear ≡ ear_at true n =
      ap (λ (t : List (List ℕ)). record open_ear { count = length t }) (sym f.taken)
      ∙ ap (λ (h : List ℕ). record (ear_at true n) { held = h; dts = 0; begun = [] }) (sym f.joined)
      ∙ ap (λ (c : List (Bool × List ℕ)). record (ear_at true n) { dts = length c; begun = text_so_far c }) (sym f.contents) in
      subst Claim (sym e)
      (Lives true [] (record { live = l.live; role = l.role; plain = l.plain; stands = refl; going = l.going; fresh = λ g. absurd cc })
      (λ rest. weight_turn Opens is rest ∙ ap (λ (next : Ear). hearing_of_frames side next rest) anew)
      (λ rest. weight_pieces Opens is rest ∙ ap (λ (next : Ear). pieces side next rest) anew)
      (sym (append-nil x.line.taken)) (omega arith))

  -- ---- a payload

  module _ (is_open : opened ≡ true) (piece : List ℕ) (is : weight_in opened side k.count read ≡ Counts piece)
      (took : tuned (station_behind x now v) ≡ record (tuned (settled x.line)) { taken = x.line.taken ++ piece ∷ []; deed = record { up = false; payload = Some piece; more = []; released = None } }) where
    abbrev joined : List ℕ × joining.BlockJoiningResult
    joined = joining.block_step x.joined piece

    -- the end behind the station and the blocks
    abbrev w : Core
    w = record z { joined = joined.0 }

    w_taken : w.line.taken ≡ x.line.taken ++ piece ∷ []
    w_taken = ap (λ (u : Tuned). u.taken) took

    w_listens : Listens true calling (noted w)
    w_listens = record {
      live = l.live;
      role = ap (λ (u : Tuned). u.calling) took ∙ l.role;
      plain = ap (λ (u : Tuned). u.extended) took ∙ l.plain;
      stands = ap (λ (u : Tuned). u.phase) took ∙ l.stands ∙ ap (λ (b : Bool). phase_at b calling) is_open;
      going = l.going;
      fresh = λ e. absurd cc;
    }

    -- the ear behind the piece
    w_ear : record k { count = k.count + 1; held = joined.0 } ≡ ear_at true (noted w)
    w_ear =
        ap (λ (b : Bool). record k { opened = b; count = k.count + 1; held = joined.0 }) is_open
        ∙ ap (λ (n : ℕ). record (ear_at true (noted w)) { count = n })
        (sym (length-append x.line.taken (piece ∷ [])) ∙ ap (λ (t : List (List ℕ)). length t) (sym w_taken))

    abbrev turn_then : TapFrameTurn
    turn_then = turn_at_block (ear_at true (noted w)) joined.1

    hears_then : (rest : List ReadFrame) → hearing_of_frames side k (read ++ rest) ≡ behind_turn turn_then (λ next. hearing_of_frames side next rest)
    hears_then rest =
        weight_turn (Counts piece) is rest ∙ ap (λ (e : Ear). behind_turn (turn_at_block e joined.1) (λ next. hearing_of_frames side next rest)) w_ear

    pieces_then : (rest : List ReadFrame) → pieces side k (read ++ rest) ≡ piece ∷ pieces side (ear_at true (noted w)) rest
    pieces_then rest =
        weight_pieces (Counts piece) is rest
        ∙ ap (λ (ps : List (List ℕ)). piece ∷ ps)
        (pieces_at side (record k { count = k.count + 1 }) (ear_at true (noted w)) rest is_open (ap (λ (e : Ear). e.count) w_ear))

    follows_goes : (n : Noted) → Follows calling w.line.taken turn_then n → Claim n
    follows_goes n (Live text g listens t taken) =
        subst (λ (given : List (List ℕ)). Goes opened calling (noted x) read given n) (sym g)
        (Lives true (piece ∷ []) listens
        (λ rest. hears_then rest ∙ ap (λ (u : TapFrameTurn). behind_turn u (λ next. hearing_of_frames side next rest)) t ∙ told_behind text (ear_at true n) (λ next. hearing_of_frames side next rest))
        (λ rest. pieces_then rest ∙ ap (λ (ps : List (List ℕ)). piece ∷ ps)
        (pieces_at side (ear_at true (noted w)) (ear_at true n) rest refl (ap (λ (ts : List (List ℕ)). length ts) (sym taken))))
        (taken ∙ w_taken) (one_at_most text))
    follows_goes n (Silent why r g taken) =
        subst (λ (given : List (List ℕ)). Goes opened calling (noted x) read given n) (sym g)
        (Left why (piece ∷ []) r (λ rest. ((hearing_of_frames side k (read ++ rest)).texts, refl)) (λ rest. (pieces side (ear_at true (noted w)) rest, pieces_then rest))
        (taken ∙ w_taken) (omega arith))
    follows_goes n (Last why text next r g t taken) =
        subst (λ (given : List (List ℕ)). Goes opened calling (noted x) read given n) (sym g)
        (Left why (piece ∷ []) r
        (λ rest. (
          (hearing_of_frames side next rest).texts,
          ap (λ (h : Hearing). h.texts) (hears_then rest ∙ ap (λ (u : TapFrameTurn). behind_turn u (λ e. hearing_of_frames side e rest)) t),
        ))
        (λ rest. (pieces side (ear_at true (noted w)) rest, pieces_then rest))
        (taken ∙ w_taken) (omega arith))

    payload_goes : Claim (noted (step_frame model finds now v x))
    payload_goes =
        let e = came finds now v x (record { up = false; payload = Some piece; more = []; released = None }) l.live (ap (λ (u : Tuned). u.deed) took) in
        subst Claim (sym e) (follows_goes (noted (on_joined_block model finds joined.1 w)) (block_follows calling finds w w_listens refl joined.1))

  -- ---- whatever the frame is

  weighs_goes : (u : Weight) → weight_in opened side k.count read ≡ u → Does u (settled x.line) (station_behind x now v) → Claim (noted (step_frame model finds now v x))
  weighs_goes Nothing is (inl same) = same_goes is same
  weighs_goes Nothing is (inr left) = left_goes left
  weighs_goes Opens is (inl up) = up_goes (closed_by opened side k.count read is) is up
  weighs_goes Opens is (inr left) = left_goes left
  weighs_goes (Counts piece) is (inl took) = payload_goes (open_by opened side k.count read piece is) piece is took
  weighs_goes (Counts piece) is (inr left) = left_goes left
  weighs_goes EndsIt is left = left_goes left

  pub frame_goes : Goes opened calling (noted x) read (received_by (step_frame model finds now v x)) (noted (step_frame model finds now v x))
  frame_goes =
      let u : Weight = weight_in opened side k.count read in
      weighs_goes u refl (station_does opened calling (settled x.line) (max x.moment now) v l.role l.plain l.stands)
