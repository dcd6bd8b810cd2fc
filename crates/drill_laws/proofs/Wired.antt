-- Each step of a link of the drill is one step of its pair, and so is a drain.
use Rattle.std.proofs.Common.{if◌then◌else◌, ◌≡◌, ℕ, zero, suc, ◌+◌, ◌==◌, nat_lt, max, Bool, true, false, not, ◌&&◌, ◌||◌, List, [], ◌∷◌, ◌++◌, length, map, refl, sym, ap, ap₂, subst, ◌∙◌, append-nil, append_assoc}
use Rattle.std.specs.Prelude.{Option, Some, None, is_some}
use Rattle.er_base.specs.declared.side.Side.{Side}
use Rattle.er_base.specs.declared.side.Side.TheVariants.{E, R}
use Rattle.er_base.specs.Sides.{other}
use Rattle.hdlc_station_model.specs.Lines.{altered, next_of}
use Rattle.pair_model.specs.Links.{PairLink, end_of_side, frames_from, with_frames_from, end_did, opened_pair_link}
use Rattle.pair_model.specs.Steps.{PairStep, is_overfull, pass_next, drained, pair_step, pair_run}
use Rattle.pair_model.specs.Steps as on_pair
use Rattle.pair_model.specs.Walks.{pair_run_append}
use Rattle.drill_model.specs.Outcomes.{DrillOutcome, UserReleased, Passed, Lost, Repeated, Altered, Inserted, NothingWaits, IsShort, Occurrence, at_end}
use Rattle.drill_model.specs.Ends as event
use Rattle.drill_model.specs.Waiting.{LineChange, Lose, Repeat, Alter, Put, change_first}
use Rattle.drill_model.specs.Links.{Link, waiting_of, with_waiting, give, link_of, LinkStep, Send, Pass, Change, Take, Release, Tick, pass, link_step}
use Rattle.drill_model.specs.Worlds.{next_side, overfull_side, Drain, drain, drain_on}
use Rattle.drill_laws.proofs.Tellings.{Says, says_nothing, says_more}
use Rattle.drill_laws.proofs.Wiring.{and_true, and_false, not_or, same_count, full_if, same_waiting, waits_nothing, Level, Does, Acts, Sees, SeesAt, told_at, freed, lined, stands_at, given_sees, lined_sees}

-- ---- steps of the pair

-- the step of the pair that a step of the link is
abbrev pub as_change : Side → LineChange → PairStep
as_change side Lose = on_pair.Lose side
as_change side Repeat = on_pair.Repeat side
as_change side (Alter place mask) = on_pair.Alter side place mask
as_change side (Put octets) = on_pair.Put side octets

abbrev pub as_step : LinkStep → PairStep
as_step (Send side octets) = on_pair.Send side octets
as_step (Pass side) = on_pair.Pass side
as_step (Change side change) = as_change side change
as_step (Take side) = on_pair.Take side
as_step (Release side sub) = on_pair.UserRelease side sub
as_step (Tick moment) = on_pair.Tick moment

module _ {A : Type 0} (v : Level A) where
  -- ---- small things

  line_at : (l : Link) (history : List Occurrence) (p : PairLink A) (side : Side) → Sees v l history p → frames_from p side ≡ waiting_of l side
  line_at l history p E s = sym s.from_e_is
  line_at l history p R s = sym s.from_r_is

  same_line : (p : PairLink A) (side : Side) (free : Bool) → lined side (frames_from p side) p.order_kept free p.passes p ≡ freed free p
  same_line p E free = refl
  same_line p R free = refl

  freed_same : (side : Side) (done : A × List (List ℕ)) (p : PairLink A) → freed p.loss_free (end_did side done p) ≡ end_did side done p
  freed_same E done p = refl
  freed_same R done p = refl

  -- occurrences at a side that change nothing that waits
  told_sees : (l : Link) (history : List Occurrence) (p : PairLink A) (side : Side) (os : List DrillOutcome) (disturbed free : Bool) → Sees v l history p
      → Says os [] [] [] false disturbed 0 → free ≡ (p.loss_free && not disturbed) → Sees v l (history ++ map (at_end side) os) (freed free p)
  told_sees l history p side os disturbed free s says is =
      let h : List Occurrence = history ++ map (at_end side) os in
      let q : PairLink A = lined side (waiting_of l side) p.order_kept free p.passes p in
      let there : Sees v (with_waiting l side (waiting_of l side)) h q =
      lined_sees v l history p side os (waiting_of l side) false disturbed p.order_kept free 0 p.passes s says (same_count p.passes) (and_true p.order_kept) is in
      let same : q ≡ freed free p =
      ap (λ (fs : List (List ℕ)). lined side fs p.order_kept free p.passes p) (sym (line_at l history p side s)) ∙ same_line p side free in
      subst (λ (t : PairLink A). Sees v l h t) same (subst (λ (m : Link). Sees v m h q) (same_waiting l side) there)

  -- an event that finds no timer expired
  gives_sees : (l : Link) (history : List Occurrence) (p : PairLink A) (side : Side) (given : event.EndEvent) (done : A × List (List ℕ)) → Sees v l history p
      → Does v (end_of_side p side) done (told_at v p.moment given (end_of_side p side)) false → SeesAt v history (end_did side done p) (give l side given)
  gives_sees l history p side given done s does =
      subst (λ (q : PairLink A). SeesAt v history q (give l side given)) (freed_same side done p)
      (given_sees v l history p side given done false p.loss_free s does (and_true p.loss_free))

  -- ---- what the line does

  -- what waits is as it was
  still_sees : (l : Link) (history : List Occurrence) (p : PairLink A) (side : Side) (os : List DrillOutcome) (frames : List (List ℕ)) → Sees v l history p
      → Says os [] [] [] false false 0 → frames_from p side ≡ frames → SeesAt v history p (with_waiting l side frames, map (at_end side) os)
  still_sees l history p side os frames s says line =
      let h : List Occurrence = history ++ map (at_end side) os in
      let there : Sees v (with_waiting l side frames) h (lined side frames p.order_kept p.loss_free p.passes p) =
      lined_sees v l history p side os frames false false p.order_kept p.loss_free 0 p.passes s says (same_count p.passes) (and_true p.order_kept) (and_true p.loss_free) in
      let same : lined side frames p.order_kept p.loss_free p.passes p ≡ p =
      ap (λ (fs : List (List ℕ)). lined side fs p.order_kept p.loss_free p.passes p) (sym line) ∙ same_line p side p.loss_free in
      subst (λ (t : PairLink A). Sees v (with_waiting l side frames) h t) same there

  -- a change of what waits, by a step of the pair that leaves all else
  change_sees : (l : Link) (history : List Occurrence) (p q : PairLink A) (side : Side) (os : List DrillOutcome) (frames : List (List ℕ))
      (disorder disturbed order free : Bool) → Sees v l history p → Says os [] [] [] disorder disturbed 0 → order ≡ (p.order_kept && not disorder)
      → free ≡ (p.loss_free && not disturbed) → q ≡ lined side frames order free p.passes p
      → SeesAt v history q (with_waiting l side frames, map (at_end side) os)
  change_sees l history p q side os frames disorder disturbed order free s says order_is free_is is =
      let h : List Occurrence = history ++ map (at_end side) os in
      let m : Link = with_waiting l side frames in
      subst (λ (t : PairLink A). Sees v m h t) (sym is) (lined_sees v l history p side os frames disorder disturbed order free 0 p.passes s says (same_count p.passes) order_is free_is)

  lost_is : (p : PairLink A) (side : Side) (frames : List (List ℕ)) → with_frames_from side frames (record p { loss_free = false }) ≡ lined side frames p.order_kept false p.passes p
  lost_is p E frames = refl
  lost_is p R frames = refl

  put_is : (p : PairLink A) (side : Side) (frames : List (List ℕ))
      → with_frames_from side frames (record p { order_kept = false; loss_free = false }) ≡ lined side frames false false p.passes p
  put_is p E frames = refl
  put_is p R frames = refl

  -- an octet of the first frame is changed: the place is in the frame or not, the mask is 0 or not
  alter_sees : (l : Link) (history : List Occurrence) (p : PairLink A) (side : Side) (place mask : ℕ) (frame : List ℕ) (frames : List (List ℕ)) → Sees v l history p
      → frames_from p side ≡ frame ∷ frames → (within none : Bool) → nat_lt place (length frame) ≡ within → (mask == 0) ≡ none
      → let a : List (List ℕ) × List DrillOutcome = if not within then (frame ∷ frames, IsShort (length frame) ∷ []) else if none then (frame ∷ frames, []) else (altered frame place mask ∷ frames, Altered ∷ [])
      in SeesAt v history (on_pair.alter side place mask (frame ∷ frames) p) (with_waiting l side a.0, map (at_end side) a.1)
  alter_sees l history p side place mask frame frames s line true true w n = rw (w, n) (still_sees l history p side [] (frame ∷ frames) s says_nothing line)
  alter_sees l history p side place mask frame frames s line true false w n =
      let is : on_pair.alter side place mask (frame ∷ frames) p ≡ lined side (altered frame place mask ∷ frames) false false p.passes p =
      rw (w, n) (put_is p side (altered frame place mask ∷ frames)) in
      change_sees l history p (on_pair.alter side place mask (frame ∷ frames) p) side (Altered ∷ []) (altered frame place mask ∷ frames) true true false false s
      (says_more Altered [] [] [] [] false false 0 (λ side. refl) says_nothing) (and_false p.order_kept) (and_false p.loss_free) is
  alter_sees l history p side place mask frame frames s line false none w n =
      rw w (still_sees l history p side (IsShort (length frame) ∷ []) (frame ∷ frames) s
      (says_more (IsShort (length frame)) [] [] [] [] false false 0 (λ side. refl) says_nothing) line)

  changes_sees : (l : Link) (history : List Occurrence) (p : PairLink A) (side : Side) (change : LineChange) (frames : List (List ℕ)) → Sees v l history p
      → frames_from p side ≡ frames → let a = change_first change frames in SeesAt v history (pair_step v.kind (as_change side change) p) (with_waiting l side a.0, map (at_end side) a.1)
  changes_sees l history p side Lose [] s line =
      subst (λ (fs : List (List ℕ)). SeesAt v history (on_pair.lose side fs p) (with_waiting l side [], at_end side NothingWaits ∷ [])) (sym line) (still_sees l history p side (NothingWaits ∷ []) [] s waits_nothing line)
  changes_sees l history p side Lose (frame ∷ frames) s line =
      change_sees l history p (on_pair.lose side (frames_from p side) p) side (Lost ∷ []) frames false true p.order_kept false s
      (says_more Lost [] [] [] [] false false 0 (λ side. refl) says_nothing) (and_true p.order_kept) (and_false p.loss_free)
      (ap (λ (fs : List (List ℕ)). on_pair.lose side fs p) line ∙ lost_is p side frames)
  changes_sees l history p side Repeat [] s line =
      subst (λ (fs : List (List ℕ)). SeesAt v history (on_pair.repeat side fs p) (with_waiting l side [], at_end side NothingWaits ∷ [])) (sym line) (still_sees l history p side (NothingWaits ∷ []) [] s waits_nothing line)
  changes_sees l history p side Repeat (frame ∷ frames) s line =
      change_sees l history p (on_pair.repeat side (frames_from p side) p) side (Repeated ∷ []) (frame ∷ frame ∷ frames) false true p.order_kept false s
      (says_more Repeated [] [] [] [] false false 0 (λ side. refl) says_nothing) (and_true p.order_kept) (and_false p.loss_free)
      (ap (λ (fs : List (List ℕ)). on_pair.repeat side fs p) line ∙ lost_is p side (frame ∷ frame ∷ frames))
  changes_sees l history p side (Alter place mask) [] s line =
      subst (λ (fs : List (List ℕ)). SeesAt v history (on_pair.alter side place mask fs p) (with_waiting l side [], at_end side NothingWaits ∷ [])) (sym line)
      (still_sees l history p side (NothingWaits ∷ []) [] s waits_nothing line)
  changes_sees l history p side (Alter place mask) (frame ∷ frames) s line =
      let a : List (List ℕ) × List DrillOutcome = change_first (Alter place mask) (frame ∷ frames) in
      subst (λ (fs : List (List ℕ)). SeesAt v history (on_pair.alter side place mask fs p) (with_waiting l side a.0, map (at_end side) a.1)) (sym line)
      (alter_sees l history p side place mask frame frames s line (nat_lt place (length frame)) (mask == 0) refl refl)
  changes_sees l history p side (Put octets) frames s line =
      change_sees l history p (on_pair.put side octets p) side (Inserted ∷ []) (octets ∷ frames) true true false false s
      (says_more Inserted [] [] [] [] false false 0 (λ side. refl) says_nothing) (and_false p.order_kept) (and_false p.loss_free)
      (ap (λ (fs : List (List ℕ)). with_frames_from side (octets ∷ fs) (record p { order_kept = false; loss_free = false })) line ∙ put_is p side (octets ∷ frames))

  -- ---- what is given to the ends

  module _ (acts : Acts v) where
    send_sees : (l : Link) (history : List Occurrence) (p : PairLink A) (side : Side) (user : List ℕ) → Sees v l history p
        → SeesAt v history (on_pair.send v.kind side user p) (link_step l (Send side user))
    send_sees l history p side user s =
        gives_sees l history p side (event.Send user) (v.kind.send p.moment user (end_of_side p side)) s (acts.send p.moment user (end_of_side p side) (stands_at v l history p side s))

    take_sees : (l : Link) (history : List Occurrence) (p : PairLink A) (side : Side) → Sees v l history p
        → SeesAt v history (on_pair.take v.kind side p) (link_step l (Take side))
    take_sees l history p side s =
        gives_sees l history p side event.Take (v.kind.take p.moment (end_of_side p side)) s (acts.take p.moment (end_of_side p side) (stands_at v l history p side s))

    release_is : (p : PairLink A) (side : Side) (sub : ℕ) → (let q = freed false p in end_did side (v.kind.release q.moment sub (end_of_side q side)) q) ≡ on_pair.release v.kind side sub p
    release_is p E sub = refl
    release_is p R sub = refl

    release_sees : (l : Link) (history : List Occurrence) (p : PairLink A) (side : Side) (sub : ℕ) → Sees v l history p
        → SeesAt v history (on_pair.release v.kind side sub p) (link_step l (Release side sub))
    release_sees l history p side sub s =
        let q : PairLink A = freed false p in
        let first : List Occurrence = at_end side (UserReleased sub) ∷ [] in
        let u : Sees v l (history ++ first) q =
        told_sees l history p side (UserReleased sub ∷ []) true false s
        (says_more (UserReleased sub) [] [] [] [] false false 0 (λ side. refl) says_nothing) (and_false p.loss_free) in
        let x : Link × List Occurrence = give l side (event.Release sub) in
        let done : A × List (List ℕ) = v.kind.release q.moment sub (end_of_side q side) in
        let there : SeesAt v (history ++ first) (end_did side done q) x =
        gives_sees l (history ++ first) q side (event.Release sub) done u (acts.release q.moment sub (end_of_side q side) (stands_at v l (history ++ first) q side u)) in
        subst (λ (t : PairLink A). Sees v x.0 (history ++ (first ++ x.1)) t) (release_is p side sub)
        (subst (λ (h : List Occurrence). Sees v x.0 h (end_did side done q)) (append_assoc history first x.1) there)

    -- ---- a pass

    pass_is : (p : PairLink A) (side : Side) (frame : List ℕ) (frames : List (List ℕ))
        → (let q = lined side frames p.order_kept p.loss_free (p.passes + 1) p in end_did (other side) (v.kind.receive q.moment frame (end_of_side q (other side))) q)
        ≡ on_pair.pass v.kind side (frame ∷ frames) p
    pass_is p E frame frames = refl
    pass_is p R frame frames = refl

    pub pass_sees : (l : Link) (history : List Occurrence) (p : PairLink A) (side : Side) (frames : List (List ℕ)) → Sees v l history p
        → SeesAt v history (on_pair.pass v.kind side frames p) (pass l side frames)
    pass_sees l history p side [] s = told_sees l history p side (NothingWaits ∷ []) false p.loss_free s waits_nothing (and_true p.loss_free)
    pass_sees l history p side (frame ∷ frames) s =
        let first : List Occurrence = at_end side (Passed frame) ∷ [] in
        let m : Link = with_waiting l side frames in
        let q : PairLink A = lined side frames p.order_kept p.loss_free (p.passes + 1) p in
        let u : Sees v m (history ++ first) q =
        lined_sees v l history p side (Passed frame ∷ []) frames false false p.order_kept p.loss_free 1 (p.passes + 1) s
        (says_more (Passed frame) [] [] [] [] false false 0 (λ side. refl) says_nothing) refl (and_true p.order_kept) (and_true p.loss_free) in
        let to : Side = other side in
        let x : Link × List Occurrence = give m to (event.Receive frame) in
        let done : A × List (List ℕ) = v.kind.receive q.moment frame (end_of_side q to) in
        let there : SeesAt v (history ++ first) (end_did to done q) x =
        gives_sees m (history ++ first) q to (event.Receive frame) done u (acts.receive q.moment frame (end_of_side q to) (stands_at v m (history ++ first) q to u)) in
        subst (λ (t : PairLink A). Sees v x.0 (history ++ (first ++ x.1)) t) (pass_is p side frame frames)
        (subst (λ (h : List Occurrence). Sees v x.0 h (end_did to done q)) (append_assoc history first x.1) there)

    one_pass_sees : (l : Link) (history : List Occurrence) (p : PairLink A) (side : Side) → Sees v l history p
        → SeesAt v history (pair_step v.kind (on_pair.Pass side) p) (link_step l (Pass side))
    one_pass_sees l history p side s =
        let x : Link × List Occurrence = link_step l (Pass side) in
        subst (λ (fs : List (List ℕ)). SeesAt v history (on_pair.pass v.kind side fs p) x) (sym (line_at l history p side s)) (pass_sees l history p side (waiting_of l side) s)

    -- ---- time

    at_moment : (l : Link) (history : List Occurrence) (p : PairLink A) (moment : ℕ) → Sees v l history p
        → Sees v (record l { moment = max l.moment moment }) history (record p { moment = max p.moment moment })
    at_moment l history p moment s =
        record {
          opening_is = s.opening_is;
          e_is = s.e_is;
          r_is = s.r_is;
          from_e_is = s.from_e_is;
          from_r_is = s.from_r_is;
          moment_is = ap (λ (m : ℕ). max m moment) s.moment_is;
          stands_e = s.stands_e;
          stands_r = s.stands_r;
          sent_e = s.sent_e;
          sent_r = s.sent_r;
          accepted_e = s.accepted_e;
          accepted_r = s.accepted_r;
          order = s.order;
          free = s.free;
          count = s.count;
          tells = s.tells;
          releases = s.releases;
        }

    tick_sees : (l : Link) (history : List Occurrence) (p : PairLink A) (moment : ℕ) → Sees v l history p
        → SeesAt v history (on_pair.tick v.kind moment p) (link_step l (Tick moment))
    tick_sees l history p moment s =
        let to : ℕ = max p.moment moment in
        let m : Link = record l { moment = max l.moment moment } in
        let q : PairLink A = record p { moment = to } in
        let u : Sees v m history q = at_moment l history p moment s in
        let late_e : Bool = v.kind.is_late to p.e in
        let late_r : Bool = v.kind.is_late to p.r in
        let e : A × List (List ℕ) = v.kind.tick to p.e in
        let r : A × List (List ℕ) = v.kind.tick to p.r in
        let x : Link × List Occurrence = give m E event.Tick in
        let q2 : PairLink A = freed (p.loss_free && not late_e) (end_did E e q) in
        let first : SeesAt v history q2 x = given_sees v m history q E event.Tick e late_e (p.loss_free && not late_e) u (acts.tick to p.e u.stands_e) refl in
        let y : Link × List Occurrence = give x.0 R event.Tick in
        let free : Bool = (p.loss_free && not late_e) && not late_r in
        let q3 : PairLink A = freed free (end_did R r q2) in
        let second : SeesAt v (history ++ x.1) q3 y = given_sees v x.0 (history ++ x.1) q2 R event.Tick r late_r free first (acts.tick to p.r u.stands_r) refl in
        let is : q3 ≡ on_pair.tick v.kind moment p = ap (λ (b : Bool). freed b (end_did R r (end_did E e q))) (not_or p.loss_free late_e late_r) in
        subst (λ (t : PairLink A). Sees v y.0 (history ++ (x.1 ++ y.1)) t) is
        (subst (λ (h : List Occurrence). Sees v y.0 h q3) (append_assoc history x.1 y.1) second)

    -- ---- any step

    pub step_sees : (l : Link) (history : List Occurrence) (p : PairLink A) (s : LinkStep) → Sees v l history p → SeesAt v history (pair_step v.kind (as_step s) p) (link_step l s)
    step_sees l history p (Send side octets) sees = send_sees l history p side octets sees
    step_sees l history p (Pass side) sees = one_pass_sees l history p side sees
    step_sees l history p (Change side change) sees = changes_sees l history p side change (waiting_of l side) sees (line_at l history p side sees)
    step_sees l history p (Take side) sees = take_sees l history p side sees
    step_sees l history p (Release side sub) sees = release_sees l history p side sub sees
    step_sees l history p (Tick moment) sees = tick_sees l history p moment sees

    -- ---- from its opening on

    -- behind steps of the pair, and one more
    pub one_more_sees : (l : Link) (history : List Occurrence) (p : PairLink A) (steps : List PairStep) (s : LinkStep) → Sees v l history (pair_run v.kind p steps)
        → SeesAt v history (pair_run v.kind p (steps ++ as_step s ∷ [])) (link_step l s)
    one_more_sees l history p steps s sees =
        subst (λ (q : PairLink A). SeesAt v history q (link_step l s)) (sym (pair_run_append v.kind steps (as_step s ∷ []) p)) (step_sees l history (pair_run v.kind p steps) s sees)

    -- two ends that were just made, of which the first begins
    pub opened_sees : (moment : ℕ) (e r : A) → v.Stands e → v.Stands r → v.sent e ≡ [] → v.sent r ≡ [] → v.accepted e ≡ [] → v.accepted r ≡ []
        → (let a = give (link_of v.opening moment (v.end e) (v.end r)) E event.Start in Sees v a.0 a.1 (opened_pair_link v.kind moment e r))
    opened_sees moment e r stands_e stands_r sent_e sent_r accepted_e accepted_r =
        let p : PairLink A = record {
          e = e;
          r = r;
          from_e = [];
          from_r = [];
          moment = moment;
          passes = 0;
          order_kept = true;
          loss_free = true;
        } in
        let l : Link = link_of v.opening moment (v.end e) (v.end r) in
        let s : Sees v l [] p = record {
          opening_is = refl;
          e_is = refl;
          r_is = refl;
          from_e_is = refl;
          from_r_is = refl;
          moment_is = refl;
          stands_e = stands_e;
          stands_r = stands_r;
          sent_e = sym sent_e;
          sent_r = sym sent_r;
          accepted_e = sym accepted_e;
          accepted_r = sym accepted_r;
          order = refl;
          free = refl;
          count = refl;
          tells = v.tells_none;
          releases = tt;
        } in
        given_sees v l [] p E event.Start (v.kind.start moment e) false true s (acts.start moment e stands_e) refl

    -- ---- drains

    -- where none is passed, none is passed later
    idle : (p : PairLink A) (next : Option Side) (full : Bool) → next_of p.from_e p.from_r ≡ next → is_overfull p ≡ full → pass_next v.kind next full p ≡ p
        → (n : ℕ) → drained v.kind n p ≡ p
    idle p next full next_is full_is same zero = refl
    idle p next full next_is full_is same (suc n) =
        ap (drained v.kind n) (ap₂ (λ (o : Option Side) (b : Bool). pass_next v.kind o b p) next_is full_is ∙ same) ∙ idle p next full next_is full_is same n

    pub full_at : (l : Link) (history : List Occurrence) (p : PairLink A) → Sees v l history p → is_overfull p ≡ is_some (overfull_side l)
    full_at l history p s =
        ap₂ (λ (xs ys : List (List ℕ)). nat_lt 4096 (length xs) || nat_lt 4096 (length ys)) (sym s.from_e_is) (sym s.from_r_is)
        ∙ full_if (nat_lt 4096 (length l.from_e)) (nat_lt 4096 (length l.from_r))

    abbrev SeesDrain : List Occurrence → PairLink A → Drain → Type 0
    SeesDrain history p d = Sees v d.link (history ++ d.came) p

    abbrev Drains : ℕ → (Link → Drain) → Type 0
    Drains most others = (l : Link) (history : List Occurrence) (p : PairLink A) → Sees v l history p → SeesDrain history (drained v.kind most p) (others l)

    stops : (most : ℕ) (l : Link) (history : List Occurrence) (p : PairLink A) (next : Option Side) (full : Bool) → Sees v l history p
        → next_of p.from_e p.from_r ≡ next → is_overfull p ≡ full → pass_next v.kind next full p ≡ p
        → Sees v l (history ++ []) (drained v.kind most (pass_next v.kind next full p))
    stops most l history p next full s next_is full_is same =
        let still : drained v.kind most (pass_next v.kind next full p) ≡ p =
        ap (drained v.kind most) same ∙ idle p next full next_is full_is same most in
        subst (λ (h : List Occurrence). Sees v l h (drained v.kind most (pass_next v.kind next full p))) (sym (append-nil history))
        (subst (λ (t : PairLink A). Sees v l history t) (sym still) s)

    drains_pass : (most : ℕ) (others : Link → Drain) → Drains most others → (l : Link) (history : List Occurrence) (p : PairLink A) (side : Side)
        (overfull : Option Side) → Sees v l history p → next_of p.from_e p.from_r ≡ Some side → is_overfull p ≡ is_some overfull
        → SeesDrain history (drained v.kind most (pass_next v.kind (Some side) (is_some overfull) p)) (drain_on others l (Some side) overfull)
    drains_pass most others each l history p side (Some full) s next_is full_is = stops most l history p (Some side) true s next_is full_is refl
    drains_pass most others each l history p side None s next_is full_is =
        let a : Link × List Occurrence = link_step l (Pass side) in
        let q : PairLink A = pair_step v.kind (on_pair.Pass side) p in
        subst (λ (h : List Occurrence). Sees v (others a.0).link h (drained v.kind most q)) (append_assoc history a.1 (others a.0).came)
        (each a.0 (history ++ a.1) q (one_pass_sees l history p side s))

    drains_next : (most : ℕ) (others : Link → Drain) → Drains most others → (l : Link) (history : List Occurrence) (p : PairLink A) (xs ys : List (List ℕ))
        → Sees v l history p → p.from_e ≡ xs → p.from_r ≡ ys
        → SeesDrain history (drained v.kind most (pass_next v.kind (next_of xs ys) (is_some (overfull_side l)) p)) (drain_on others l (next_of xs ys) (overfull_side l))
    drains_next most others each l history p [] [] s e r =
        stops most l history p None (is_some (overfull_side l)) s (ap₂ next_of e r) (full_at l history p s) refl
    drains_next most others each l history p [] (frame ∷ frames) s e r =
        drains_pass most others each l history p R (overfull_side l) s (ap₂ next_of e r) (full_at l history p s)
    drains_next most others each l history p (frame ∷ frames) ys s e r =
        drains_pass most others each l history p E (overfull_side l) s (ap₂ next_of e r) (full_at l history p s)

    pub drain_sees : (most : ℕ) → Drains most (drain most)
    unfolding drain
    drain_sees zero l history p s = subst (λ (h : List Occurrence). Sees v l h p) (sym (append-nil history)) s
    drain_sees (suc most) l history p s =
        let there = drains_next most (drain most) (drain_sees most) l history p p.from_e p.from_r s refl refl in
        let next : next_of p.from_e p.from_r ≡ next_side l = ap₂ next_of (sym s.from_e_is) (sym s.from_r_is) in
        let full : is_some (overfull_side l) ≡ is_overfull p = sym (full_at l history p s) in
        let q : PairLink A = drained v.kind (suc most) p in
        let Q : Bool → Type 0 = λ b. SeesDrain history (drained v.kind most (pass_next v.kind (next_of p.from_e p.from_r) b p)) (drain_on (drain most) l (next_of p.from_e p.from_r) (overfull_side l)) in
        subst (λ (o : Option Side). SeesDrain history q (drain_on (drain most) l o (overfull_side l))) next (subst Q full there)
