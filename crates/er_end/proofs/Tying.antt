-- Layers that do alike keep stacks tied: each step of an end, over both.
use Rattle.std.proofs.Common.{◌≡◌, ◌<◌, ◌≤◌, ◌∙◌, ℕ, zero, suc, Bool, true, false, ◌&&◌, List, [], ◌∷◌, ◌++◌, length, Option, Some, None, refl, sym, ap, ap₂, subst, arith}
use Rattle.hdlc_station_model.specs.Receiving.{is_some_octets}
use Rattle.std.specs.Prelude.{is_some, if◌then◌else◌, ◌==◌, Ok, Err}
use Rattle.er_base.specs.declared.release.Release.{Release}
use Rattle.er_base.specs.declared.cause.Cause.{Cause}
use Rattle.hdlc_frames.specs.Framing.{Verdict}
use Rattle.hdlc_station_model.specs.Stations.{Deed as LinkDeed}
use Rattle.t70_header.specs.Blocks.{last_block}
use Rattle.t70_header.specs.Joining as joining
use Rattle.x224_class2.specs.Tpdus.{GivenTpdu, Dr, Dc, octets_given}
use Rattle.x224_class2.specs.Transport.{ReceptionDeed, Nothing, Called, Confirmed, Message, Disconnected}
use Rattle.x224_class2.specs.Transport as transport
use Rattle.safety_automaton.specs.Safety.{no_keys, Safety, SafetyEvent, ConnectRequest, Received, DataRequest, DisconnectRequest, SafetyOutcome, octets_sent_in_outcome, step}
use Rattle.safety_automaton.specs.Laws.{SendsFew}
use Rattle.safety_automaton.specs.Reports.{Report, ToldAnswered, ToldConnected, ToldAccepted, ToldReleased, ToldIgnored, report_of}
use Rattle.er_end_model.specs.Outcomes.{SendRefusal}
use Rattle.er_end_model.specs.Stacks.{Ops, Stack}
use Rattle.er_end_model.specs.Steps.{Finds, new_event, new_event_at, with_release, hand_tpdu, hand_tpdu_if_may, close_link, send_owed_answer, send_dr, answer_dr, end_after_di, on_safety_release, normal_disconnect, with_safety_step, hand_text, accept_text, skip_message, Carrier, InCr, InCc, InDt, hand_answer, keep_message, on_safety_report, on_text, on_transport_deed, on_tpdu, on_joined_block, on_block, is_ready, connect_with_text, on_link_up, on_link_told, on_link_deed, hand_next_tpdu, has_next_tpdu, hand_waiting_tpdus, most_offers, conclude_event, step_start, step_frame, is_connected, refusal_at, refusal_of, on_send, step_send_unless, step_take, on_release, step_release, is_spent, on_expiry, step_tick, step_break, earlier_of_moments, deadline, if_connected, if_accepted, if_released, if_octets, outcomes_of}
use Rattle.er_end.specs.Standing.{over, Tied}

-- what a reception leaves, by its deed: a call that is to be accepted, a message that is to be kept or skipped, or neither
abbrev pub Behind : {U U' : Type 0} → (Q C M : U → U' → Type 0) → ReceptionDeed → U → U' → Type 0
Behind Q C M Nothing u v = Q u v
Behind Q C M (Called user) u v = C u v
Behind Q C M (Confirmed user) u v = Q u v
Behind Q C M (Message octets) u v = M u v
Behind Q C M (Disconnected user) u v = Q u v
Behind Q C M (transport.Refused sub reason) u v = Q u v

-- two stations and two transports do alike: R and Q hold of them, RB and B where an event begins, C where a call is to be accepted, and M
-- where a message came
pub record Alike {S U S' U' : Type 0} (o : Ops S U) (p : Ops S' U') (R RB : S → S' → Type 0) (Q B C M : U → U' → Type 0) : Type 0 where
  pub settled : (x : S) (y : S') → R x y → RB (o.settled x) (p.settled y)
  pub line : (x : S) (y : S') → RB x y → R x y
  pub starts : (now : ℕ) (x : S) (y : S') → RB x y → R (o.starts now x) (p.starts now y)
  pub receives : (now : ℕ) (v : Verdict) (x : S) (y : S') → RB x y → R (o.receives now v x) (p.receives now v y)
  pub told : (now : ℕ) (v : Verdict) (x : S) (y : S') → RB x y → p.told now v y ≡ o.told now v x
  pub hands : (now : ℕ) (m : List ℕ) (x : S) (y : S') → R x y → R (o.hands now m x) (p.hands now m y)
  pub finishes : (x : S) (y : S') → R x y → R (o.finishes x) (p.finishes y)
  pub ticks : (now : ℕ) (x : S) (y : S') → RB x y → R (o.ticks now x) (p.ticks now y)
  pub given_up : (now : ℕ) (x : S) (y : S') → RB x y → p.given_up now y ≡ o.given_up now x
  pub closes : (x : S) (y : S') → R x y → R (o.closes x) (p.closes y)
  pub is_free : (x : S) (y : S') → R x y → p.is_free y ≡ o.is_free x
  pub may_send : (x : S) (y : S') → R x y → p.may_send y ≡ o.may_send x
  pub expiry : (x : S) (y : S') → R x y → p.expiry y ≡ o.expiry x
  pub counts : (x : S) (y : S') → R x y → p.counts y ≡ o.counts x
  pub written : (x : S) (y : S') → R x y → p.written y ≡ o.written x
  pub opened : (u : U) (v : U') → Q u v → B (o.opened u) (p.opened v)
  pub upper : (u : U) (v : U') → B u v → Q u v
  pub called : (u : U) (v : U') → C u v → Q u v
  pub brought : (u : U) (v : U') → M u v → Q u v
  pub may_connect : (u : U) (v : U') → Q u v → p.may_connect v ≡ o.may_connect u
  pub connects : (text : List ℕ) (e : SafetyEvent) (n : SafetyOutcome) (u : U) (v : U') → Q u v → o.may_connect u ≡ true → length text ≤ 32
      → Q (o.connects (o.speaks u e n) text) (p.connects (p.speaks v e n) text)
  pub hears : (tpdu : List ℕ) (u : U) (v : U') → Q u v → Behind Q C M (o.deed u tpdu) (o.hears u tpdu) (p.hears v tpdu)
  pub deed : (tpdu : List ℕ) (u : U) (v : U') → Q u v → p.deed v tpdu ≡ o.deed u tpdu
  pub accepts : (text : List ℕ) (u : U) (v : U') → C u v → length text ≤ 32 → Q (o.accepts u text) (p.accepts v text)
  pub may_hand : (u : U) (v : U') → Q u v → p.may_hand v ≡ o.may_hand u
  pub hands_message : (text : List ℕ) (u : U) (v : U') → Q u v → o.may_hand u ≡ true → 0 < length text → Q (o.hands_message u text) (p.hands_message v text)
  pub waiting : (u : U) (v : U') → Q u v → p.waiting v ≡ o.waiting u
  pub has_next : (u : U) (v : U') → Q u v → p.has_next v ≡ o.has_next u
  pub next : (u : U) (v : U') → Q u v → p.next v ≡ o.next u
  pub after_next : (u : U) (v : U') → Q u v → Q (o.after_next u) (p.after_next v)
  pub gives : (t : GivenTpdu) (u : U) (v : U') → Q u v → Q (o.gives u t) (p.gives v t)
  pub speaks : (e : SafetyEvent) (a : SafetyOutcome) (u : U) (v : U') → Q u v → Q (o.speaks u e a) (p.speaks v e a)
  pub speaks_called : (e : SafetyEvent) (a : SafetyOutcome) (u : U) (v : U') → C u v → C (o.speaks u e a) (p.speaks v e a)
  pub speaks_brought : (e : SafetyEvent) (a : SafetyOutcome) (u : U) (v : U') → M u v → M (o.speaks u e a) (p.speaks v e a)
  pub sends : (m : List ℕ) (u : U) (v : U') → Q u v → Q (o.sends u m) (p.sends v m)
  pub keeps : (m : List ℕ) (u : U) (v : U') → M u v → Q (o.keeps u m) (p.keeps v m)
  pub skips : (u : U) (v : U') → M u v → Q (o.skips u) (p.skips v)
  pub uses : (u : U) (v : U') → B u v → (o.untaken u == 0) ≡ false → Q (o.uses u) (p.uses v)
  pub oldest : (u : U) (v : U') → Q u v → p.oldest v ≡ o.oldest u
  pub untaken : (u : U) (v : U') → Q u v → p.untaken v ≡ o.untaken u
  pub news : (u : U) (v : U') → Q u v → p.news v ≡ o.news u

and_left : (b c : Bool) → (b && c) ≡ true → b ≡ true
and_left true c e = refl
and_left false c e = absurd cc

and_right : (b c : Bool) → (b && c) ≡ true → c ≡ true
and_right true c e = e
and_right false c e = absurd cc

some_octets : (text : List ℕ) → is_some_octets text ≡ true → 0 < length text
some_octets [] e = absurd cc
some_octets (x ∷ xs) e = omega arith

-- one side's test is the other's
tied_if : {S U S' U' : Type 0} (R : S → S' → Type 0) (Q : U → U' → Type 0) (b c : Bool) (x x' : Stack S U) (y y' : Stack S' U') → c ≡ b
    → (b ≡ true → Tied R Q x y) → (b ≡ false → Tied R Q x' y') → Tied R Q (if b then x else x') (if c then y else y')
tied_if R Q true true x x' y y' e h g = h refl
tied_if R Q true false x x' y y' e h g = absurd cc
tied_if R Q false true x x' y y' e h g = absurd cc
tied_if R Q false false x x' y y' e h g = g refl

-- a step that does so to each stack with other layers does so to a tied one
keeps_tied : {S U S' U' : Type 0} (R R' : S → S' → Type 0) (Q Q' : U → U' → Type 0) (x z : Stack S U) (y : Stack S' U') (g : Stack S' U' → Stack S' U')
    → ((s : S') (u : U') → R x.line s → Q x.upper u → Tied R' Q' z (g (over x s u))) → Tied R Q x y → Tied R' Q' z (g y)
keeps_tied R R' Q Q' x z y g h t = subst (λ (w : Stack _ _). Tied R' Q' z (g w)) (sym t.same) (h y.line y.upper t.line t.upper)

module _ {S U S' U' : Type 0} (o : Ops S U) (p : Ops S' U') (R RB : S → S' → Type 0) (Q B C M : U → U' → Type 0) (a : Alike o p R RB Q B C M) (few : SendsFew) where
  abbrev T : Stack S U → Stack S' U' → Type 0
  T x y = Tied R Q x y

  -- where an event begins
  abbrev Begun : Stack S U → Stack S' U' → Type 0
  Begun x y = Tied RB B x y

  begun : (x : Stack S U) (y : Stack S' U') → Begun x y → T x y
  begun x y t = record { line = a.line x.line y.line t.line; upper = a.upper x.upper y.upper t.upper; same = t.same }

  pub tied_begins : (x : Stack S U) (y : Stack S' U') → T x y → Begun (new_event o x) (new_event p y)
  tied_begins x y t =
      keeps_tied R RB Q B x (new_event o x) y (new_event p) (λ s u r q. record { line = a.settled x.line s r; upper = a.opened x.upper u q; same = refl }) t

  pub tied_begins_at : (now : ℕ) (x : Stack S U) (y : Stack S' U') → T x y → Begun (new_event_at o now x) (new_event_at p now y)
  tied_begins_at now x y t =
      keeps_tied R RB Q B x (new_event_at o now x) y (new_event_at p now) (λ s u r q. record { line = a.settled x.line s r; upper = a.opened x.upper u q; same = refl }) t

  -- ---- releases

  tied_ends : (why : Release) (x : Stack S U) (y : Stack S' U') → T x y → T (with_release why x) (with_release why y)
  tied_ends why x y t = keeps_tied R R Q Q x (with_release why x) y (with_release why) (λ s u r q. record { line = r; upper = q; same = refl }) t

  tied_gives : (g : GivenTpdu) (x : Stack S U) (y : Stack S' U') → T x y → T (hand_tpdu o g x) (hand_tpdu p g y)
  tied_gives g x y t =
      keeps_tied R R Q Q x (hand_tpdu o g x) y (hand_tpdu p g)
      (λ s u r q. record { line = a.hands x.moment (last_block (octets_given g)) x.line s r; upper = a.gives g x.upper u q; same = refl }) t

  tied_gives_if : (g : GivenTpdu) (x : Stack S U) (y : Stack S' U') → T x y → T (hand_tpdu_if_may o g x) (hand_tpdu_if_may p g y)
  tied_gives_if g x y t =
      tied_if R Q (o.may_send x.line) (p.may_send y.line) (hand_tpdu o g x) x (hand_tpdu p g y) y (a.may_send x.line y.line t.line) (λ e. tied_gives g x y t) (λ e. t)

  tied_shuts : (x : Stack S U) (y : Stack S' U') → T x y → T (close_link o x) (close_link p y)
  tied_shuts x y t = keeps_tied R R Q Q x (close_link o x) y (close_link p) (λ s u r q. record { line = a.closes x.line s r; upper = q; same = refl }) t

  tied_finishes : (x : Stack S U) (y : Stack S' U') → T x y → T (send_owed_answer o x) (send_owed_answer p y)
  tied_finishes x y t = keeps_tied R R Q Q x (send_owed_answer o x) y (send_owed_answer p) (λ s u r q. record { line = a.finishes x.line s r; upper = q; same = refl }) t

  tied_departs : (why : Release) (reason : ℕ) (user : List ℕ) (x : Stack S U) (y : Stack S' U') → T x y → T (send_dr o why reason user x) (send_dr p why reason user y)
  tied_departs why reason user x y t =
      let g : GivenTpdu = Dr reason user in
      tied_ends why (close_link o (hand_tpdu_if_may o g x)) (close_link p (hand_tpdu_if_may p g y))
      (tied_shuts (hand_tpdu_if_may o g x) (hand_tpdu_if_may p g y) (tied_gives_if g x y t))

  tied_cut_off : (why : Release) (x : Stack S U) (y : Stack S' U') → T x y → T (answer_dr o why x) (answer_dr p why y)
  tied_cut_off why x y t =
      tied_ends why (send_owed_answer o (hand_tpdu_if_may o Dc x)) (send_owed_answer p (hand_tpdu_if_may p Dc y))
      (tied_finishes (hand_tpdu_if_may o Dc x) (hand_tpdu_if_may p Dc y) (tied_gives_if Dc x y t))

  tied_parts : (why : Release) (di : List ℕ) (x : Stack S U) (y : Stack S' U') → T x y → T (on_safety_release o why di x) (on_safety_release p why di y)
  tied_parts why di x y t =
      tied_if R Q why.by_peer why.by_peer (end_after_di o why x) (send_dr o why normal_disconnect di x) (end_after_di p why y) (send_dr p why normal_disconnect di y) refl
      (λ e. tied_ends why (close_link o x) (close_link p y) (tied_shuts x y t)) (λ e. tied_departs why normal_disconnect di x y t)

  -- ---- what the safety side says

  tied_says : (text : List ℕ) (x : Stack S U) (y : Stack S' U') → T x y → T (hand_text o text x) (hand_text p text y)
  tied_says text x y t =
      tied_if R Q (is_some_octets text && o.may_hand x.upper) (is_some_octets text && p.may_hand y.upper)
      (record x { upper = o.hands_message x.upper text }) x (record y { upper = p.hands_message y.upper text }) y
      (ap (λ (b : Bool). is_some_octets text && b) (a.may_hand x.upper y.upper t.upper))
      (λ e. keeps_tied R R Q Q x (record x { upper = o.hands_message x.upper text }) y (λ z. record z { upper = p.hands_message z.upper text })
      (λ s u r q. record { line = r; upper = a.hands_message text x.upper u q (and_right (is_some_octets text) (o.may_hand x.upper) e) (some_octets text (and_left (is_some_octets text) (o.may_hand x.upper) e)); same = refl }) t)
      (λ e. t)

  tied_accepts : (text : List ℕ) (x : Stack S U) (y : Stack S' U') → length text ≤ 32 → Tied R C x y → T (accept_text o text x) (accept_text p text y)
  tied_accepts text x y l t =
      tied_if R Q (is_some_octets text) (is_some_octets text) (record x { upper = o.accepts x.upper text }) x (record y { upper = p.accepts y.upper text }) y refl
      (λ e. keeps_tied R R C Q x (record x { upper = o.accepts x.upper text }) y (λ z. record z { upper = p.accepts z.upper text })
      (λ s u r c. record { line = r; upper = a.accepts text x.upper u c l; same = refl }) t)
      (λ e. record { line = t.line; upper = a.called x.upper y.upper t.upper; same = t.same })

  tied_skips : (x : Stack S U) (y : Stack S' U') → Tied R M x y → T (skip_message o x) (skip_message p y)
  tied_skips x y t = keeps_tied R R M Q x (skip_message o x) y (skip_message p) (λ s u r m. record { line = r; upper = a.skips x.upper u m; same = refl }) t

  -- what a text is brought by
  abbrev Brings : Carrier → U → U' → Type 0
  Brings InCr u v = C u v
  Brings InCc u v = Q u v
  Brings InDt u v = M u v

  brings : (by : Carrier) (u : U) (v : U') → Brings by u v → Q u v
  brings InCr u v b = a.called u v b
  brings InCc u v b = b
  brings InDt u v b = a.brought u v b

  brings_tied : (by : Carrier) (x : Stack S U) (y : Stack S' U') → Tied R (Brings by) x y → T x y
  brings_tied by x y t = record { line = t.line; upper = brings by x.upper y.upper t.upper; same = t.same }

  tied_answers : (by : Carrier) (text : List ℕ) (x : Stack S U) (y : Stack S' U') → length text ≤ 32 → Tied R (Brings by) x y → T (hand_answer o by text x) (hand_answer p by text y)
  tied_answers InCr text x y l t = tied_accepts text x y l (record { line = t.line; upper = t.upper; same = t.same })
  tied_answers InCc text x y l t = tied_says text x y (record { line = t.line; upper = t.upper; same = t.same })
  tied_answers InDt text x y l t = tied_says text (skip_message o x) (skip_message p y) (tied_skips x y (record { line = t.line; upper = t.upper; same = t.same }))

  tied_keeps : (by : Carrier) (user : List ℕ) (x : Stack S U) (y : Stack S' U') → Tied R (Brings by) x y → T (keep_message o by user x) (keep_message p by user y)
  tied_keeps InCr user x y t = brings_tied InCr x y t
  tied_keeps InCc user x y t = brings_tied InCc x y t
  tied_keeps InDt user x y t =
      keeps_tied R R (Brings InDt) Q x (keep_message o InDt user x) y (keep_message p InDt user) (λ s u r m. record { line = r; upper = a.keeps user x.upper u m; same = refl }) t

  tied_connected : (peer : ℕ) (x : Stack S U) (y : Stack S' U') → T x y → T (record x { connected = Some peer }) (record y { connected = Some peer })
  tied_connected peer x y t =
      keeps_tied R R Q Q x (record x { connected = Some peer }) y (λ z. record z { connected = Some peer }) (λ s u r q. record { line = r; upper = q; same = refl }) t

  tied_acts : (by : Carrier) (told : Report) (octets : List ℕ) (x : Stack S U) (y : Stack S' U') → length octets ≤ 32 → Tied R (Brings by) x y
      → T (on_safety_report o by told octets x) (on_safety_report p by told octets y)
  tied_acts by ToldAnswered octets x y l t = tied_answers by octets x y l t
  tied_acts by (ToldConnected peer) octets x y l t = tied_connected peer (hand_answer o by octets x) (hand_answer p by octets y) (tied_answers by octets x y l t)
  tied_acts by (ToldAccepted user) octets x y l t = tied_keeps by user x y t
  tied_acts by (ToldReleased why) octets x y l t = tied_parts why octets x y (brings_tied by x y t)
  tied_acts by ToldIgnored octets x y l t = brings_tied by x y t

  speaks_brings : (by : Carrier) (e : SafetyEvent) (n : SafetyOutcome) (u : U) (v : U') → Brings by u v → Brings by (o.speaks u e n) (p.speaks v e n)
  speaks_brings InCr e n u v b = a.speaks_called e n u v b
  speaks_brings InCc e n u v b = a.speaks e n u v b
  speaks_brings InDt e n u v b = a.speaks_brought e n u v b

  tied_text : (finds : Finds) (by : Carrier) (text : List ℕ) (x : Stack S U) (y : Stack S' U') → Tied R (Brings by) x y → T (on_text o finds by text x) (on_text p finds by text y)
  tied_text finds by text x y t =
      keeps_tied R R (Brings by) Q x (on_text o finds by text x) y (on_text p finds by text)
      (λ s u r b.
      let n : Safety × SafetyOutcome = step (finds x.moment) x.safe.safety (Received text) in
      let l : length (octets_sent_in_outcome n.1) ≤ 21 = few (finds x.moment) x.safe.safety (Received text) in
      tied_acts by (report_of n.1) (octets_sent_in_outcome n.1) (with_safety_step o (Received text) n x) (with_safety_step p (Received text) n (over x s u)) (omega arith)
      (record { line = r; upper = speaks_brings by (Received text) n.1 x.upper u b; same = refl })) t

  -- ---- the transport, the blocks

  tied_does : (finds : Finds) (d : ReceptionDeed) (x : Stack S U) (y : Stack S' U') → Tied R (Behind Q C M d) x y → T (on_transport_deed o finds d x) (on_transport_deed p finds d y)
  tied_does finds Nothing x y t = record { line = t.line; upper = t.upper; same = t.same }
  tied_does finds (Called user) x y t = tied_text finds InCr user x y (record { line = t.line; upper = t.upper; same = t.same })
  tied_does finds (Confirmed user) x y t = tied_text finds InCc user x y (record { line = t.line; upper = t.upper; same = t.same })
  tied_does finds (Message message) x y t = tied_text finds InDt message x y (record { line = t.line; upper = t.upper; same = t.same })
  tied_does finds (Disconnected user) x y t =
      keeps_tied R R (Behind Q C M (Disconnected user)) Q x (on_transport_deed o finds (Disconnected user) x) y (on_transport_deed p finds (Disconnected user))
      (λ s u r q. tied_cut_off _ x (over x s u) (record { line = r; upper = q; same = refl })) t
  tied_does finds (transport.Refused sub reason) x y t = tied_departs _ reason [] x y (record { line = t.line; upper = t.upper; same = t.same })

  tied_tpdu : (finds : Finds) (tpdu : List ℕ) (x : Stack S U) (y : Stack S' U') → T x y → T (on_tpdu o finds tpdu x) (on_tpdu p finds tpdu y)
  tied_tpdu finds tpdu x y t =
      keeps_tied R R Q Q x (on_tpdu o finds tpdu x) y (on_tpdu p finds tpdu)
      (λ s u r q.
      let x' : Stack S U = record x { upper = o.hears x.upper tpdu } in
      let y' : Stack S' U' = over x s (p.hears u tpdu) in
      subst (λ (d : ReceptionDeed). T (on_tpdu o finds tpdu x) (on_transport_deed p finds d y')) (sym (a.deed tpdu x.upper u q))
      (tied_does finds (o.deed x.upper tpdu) x' y' (record { line = r; upper = a.hears tpdu x.upper u q; same = refl }))) t

  tied_block_at : (finds : Finds) (answer : joining.BlockJoiningResult) (x : Stack S U) (y : Stack S' U') → T x y → T (on_joined_block o finds answer x) (on_joined_block p finds answer y)
  tied_block_at finds (Ok None) x y t = t
  tied_block_at finds (Ok (Some tpdu)) x y t = tied_tpdu finds tpdu x y t
  tied_block_at finds (Err fault) x y t = tied_departs _ _ [] x y t

  tied_block : (finds : Finds) (block : List ℕ) (x : Stack S U) (y : Stack S' U') → T x y → T (on_block o finds block x) (on_block p finds block y)
  tied_block finds block x y t =
      keeps_tied R R Q Q x (on_block o finds block x) y (on_block p finds block)
      (λ s u r q.
      let j = joining.block_step x.joined block in
      tied_block_at finds j.1 (record x { joined = j.0 }) (record (over x s u) { joined = j.0 }) (record { line = r; upper = q; same = refl })) t

  -- ---- the station

  tied_comes_up : (x : Stack S U) (y : Stack S' U') → T x y → T (on_link_up o x) (on_link_up p y)
  tied_comes_up x y t =
      keeps_tied R R Q Q x (on_link_up o x) y (on_link_up p)
      (λ s u r q.
      let n : Safety × SafetyOutcome = step no_keys x.safe.safety ConnectRequest in
      let l : length (octets_sent_in_outcome n.1) ≤ 13 = few no_keys x.safe.safety ConnectRequest in
      let z : Stack S U = with_safety_step o ConnectRequest n x in
      let w : Stack S' U' = with_safety_step p ConnectRequest n (over x s u) in
      tied_if R Q (o.may_connect x.upper && is_ready x.safe.safety.phase) (p.may_connect u && is_ready x.safe.safety.phase)
      (connect_with_text o (octets_sent_in_outcome n.1) z) x (connect_with_text p (octets_sent_in_outcome n.1) w) (over x s u)
      (ap (λ (b : Bool). b && is_ready x.safe.safety.phase) (a.may_connect x.upper u q))
      (λ e. tied_if R Q (is_some_octets (octets_sent_in_outcome n.1)) (is_some_octets (octets_sent_in_outcome n.1))
      (record z { upper = o.connects z.upper (octets_sent_in_outcome n.1) }) z (record w { upper = p.connects w.upper (octets_sent_in_outcome n.1) }) w refl
      (λ f. record { line = r; upper = a.connects (octets_sent_in_outcome n.1) ConnectRequest n.1 x.upper u q (and_left (o.may_connect x.upper) (is_ready x.safe.safety.phase) e) (omega arith); same = refl })
      (λ f. record { line = r; upper = a.speaks ConnectRequest n.1 x.upper u q; same = refl }))
      (λ e. record { line = r; upper = q; same = refl })) t

  tied_link_at : (finds : Finds) (payload : Option (List ℕ)) (up : Bool) (released : Option Release) (x : Stack S U) (y : Stack S' U') → T x y
      → T (on_link_told o finds payload up released x) (on_link_told p finds payload up released y)
  tied_link_at finds (Some payload) up released x y t = tied_block finds payload x y t
  tied_link_at finds None true released x y t = tied_comes_up x y t
  tied_link_at finds None false (Some why) x y t = tied_ends why x y t
  tied_link_at finds None false None x y t = t

  -- ---- what goes down

  tied_next : (x : Stack S U) (y : Stack S' U') → T x y → T (hand_next_tpdu o x) (hand_next_tpdu p y)
  tied_next x y t =
      keeps_tied R R Q Q x (hand_next_tpdu o x) y (hand_next_tpdu p)
      (λ s u r q.
      let e : last_block (p.next u) ≡ last_block (o.next x.upper) = ap last_block (a.next x.upper u q) in
      record {
        line = subst (λ (m : List ℕ). R (o.hands x.moment (last_block (o.next x.upper)) x.line) (p.hands x.moment m s)) (sym e) (a.hands x.moment (last_block (o.next x.upper)) x.line s r);
        upper = a.after_next x.upper u q;
        same = refl;
      }) t

  tied_goes_on : (x : Stack S U) (y : Stack S' U') → T x y → has_next_tpdu p y ≡ has_next_tpdu o x
  tied_goes_on x y t = ap₂ (λ (b c : Bool). b && c) (a.is_free x.line y.line t.line) (a.has_next x.upper y.upper t.upper)

  tied_offers : (n : ℕ) (x : Stack S U) (y : Stack S' U') → T x y → T (hand_waiting_tpdus o n x) (hand_waiting_tpdus p n y)
  unfolding hand_waiting_tpdus
  tied_offers zero x y t = t
  tied_offers (suc n) x y t =
      tied_if R Q (has_next_tpdu o x) (has_next_tpdu p y) (hand_waiting_tpdus o n (hand_next_tpdu o x)) x (hand_waiting_tpdus p n (hand_next_tpdu p y)) y (tied_goes_on x y t)
      (λ e. tied_offers n (hand_next_tpdu o x) (hand_next_tpdu p y) (tied_next x y t)) (λ e. t)

  released_same : (x : Stack S U) (y : Stack S' U') → T x y → is_some y.released ≡ is_some x.released
  released_same x y t = ap (λ (w : Stack S' U'). is_some w.released) t.same

  tied_concludes : (x : Stack S U) (y : Stack S' U') → T x y → T (conclude_event o x) (conclude_event p y)
  tied_concludes x y t =
      tied_if R Q (is_some x.released) (is_some y.released) x (send_owed_answer o (hand_waiting_tpdus o most_offers x)) y (send_owed_answer p (hand_waiting_tpdus p most_offers y)) (released_same x y t)
      (λ e. t) (λ e. tied_finishes (hand_waiting_tpdus o most_offers x) (hand_waiting_tpdus p most_offers y) (tied_offers most_offers x y t))

  -- ---- the events

  -- where the end is released nothing happens
  tied_unless : (x x' : Stack S U) (y y' : Stack S' U') → Begun x y → T x' y' → T (if is_some x.released then x else x') (if is_some y.released then y else y')
  tied_unless x x' y y' t t' =
      tied_if R Q (is_some x.released) (is_some y.released) x x' y y' (released_same x y (begun x y t)) (λ e. begun x y t) (λ e. t')

  pub tied_starts : (now : ℕ) (x : Stack S U) (y : Stack S' U') → T x y → T (step_start o now x) (step_start p now y)
  tied_starts now x y t =
      let x' : Stack S U = new_event_at o now x in
      let y' : Stack S' U' = new_event_at p now y in
      let b : Begun x' y' = tied_begins_at now x y t in
      tied_unless x' (conclude_event o (record x' { line = o.starts x'.moment x'.line })) y' (conclude_event p (record y' { line = p.starts y'.moment y'.line })) b
      (tied_concludes (record x' { line = o.starts x'.moment x'.line }) (record y' { line = p.starts y'.moment y'.line })
      (keeps_tied RB R B Q x' (record x' { line = o.starts x'.moment x'.line }) y' (λ w. record w { line = p.starts w.moment w.line })
      (λ s u r q. record { line = a.starts x'.moment x'.line s r; upper = a.upper x'.upper u q; same = refl }) b))

  tied_received : (finds : Finds) (verdict : Verdict) (x : Stack S U) (y : Stack S' U') → Begun x y
      → T (on_link_deed o finds (o.told x.moment verdict x.line) (record x { line = o.receives x.moment verdict x.line }))
      (on_link_deed p finds (p.told y.moment verdict y.line) (record y { line = p.receives y.moment verdict y.line }))
  tied_received finds verdict x y t =
      let x' : Stack S U = record x { line = o.receives x.moment verdict x.line } in
      keeps_tied RB R B Q x (on_link_deed o finds (o.told x.moment verdict x.line) x') y
      (λ w. on_link_deed p finds (p.told w.moment verdict w.line) (record w { line = p.receives w.moment verdict w.line }))
      (λ s u r q.
      let y' : Stack S' U' = record (over x s u) { line = p.receives x.moment verdict s } in
      let d : LinkDeed = o.told x.moment verdict x.line in
      subst (λ (d : LinkDeed). T (on_link_deed o finds (o.told x.moment verdict x.line) x') (on_link_deed p finds d y')) (sym (a.told x.moment verdict x.line s r))
      (tied_link_at finds d.payload d.up d.released x' y' (record { line = a.receives x.moment verdict x.line s r; upper = a.upper x.upper u q; same = refl }))) t

  pub tied_comes : (finds : Finds) (now : ℕ) (verdict : Verdict) (x : Stack S U) (y : Stack S' U') → T x y → T (step_frame o finds now verdict x) (step_frame p finds now verdict y)
  tied_comes finds now verdict x y t =
      let x' : Stack S U = new_event_at o now x in
      let y' : Stack S' U' = new_event_at p now y in
      let b : Begun x' y' = tied_begins_at now x y t in
      tied_unless x' _ y' _ b (tied_concludes _ _ (tied_received finds verdict x' y' b))

  refusal_same : (user : List ℕ) (x : Stack S U) (y : Stack S' U') → T x y → refusal_of p user y ≡ refusal_of o user x
  refusal_same user x y t =
      let at : (s : S') (u : U') → Q x.upper u → refusal_of p user (over x s u) ≡ refusal_of o user x =
      λ s u q. ap (λ (n : ℕ). refusal_at x.released (is_connected x.safe.safety.phase) user n) (a.waiting x.upper u q) in
      ap (λ (w : Stack S' U'). refusal_of p user w) t.same ∙ at y.line y.upper t.upper

  tied_sent : (user : List ℕ) (x : Stack S U) (y : Stack S' U') → Begun x y → T (on_send o user x) (on_send p user y)
  tied_sent user x y t =
      keeps_tied RB R B Q x (on_send o user x) y (on_send p user)
      (λ s u r q.
      let n : Safety × SafetyOutcome = step no_keys x.safe.safety (DataRequest user) in
      let x' : Stack S U = with_safety_step o (DataRequest user) n x in
      let y' : Stack S' U' = with_safety_step p (DataRequest user) n (over x s u) in
      let z : Stack S U = record x' { upper = o.sends x'.upper user } in
      let w : Stack S' U' = record y' { upper = p.sends y'.upper user } in
      let h : T z w = record { line = a.line x.line s r; upper = a.sends user x'.upper y'.upper (a.speaks (DataRequest user) n.1 x.upper u (a.upper x.upper u q)); same = refl } in
      tied_concludes (hand_text o (octets_sent_in_outcome n.1) z) (hand_text p (octets_sent_in_outcome n.1) w) (tied_says (octets_sent_in_outcome n.1) z w h)) t

  tied_unless_refused : (refusal : Option SendRefusal) (now : ℕ) (user : List ℕ) (x : Stack S U) (y : Stack S' U') → T x y → T (step_send_unless o refusal now user x) (step_send_unless p refusal now user y)
  tied_unless_refused (Some refusal) now user x y t = t
  tied_unless_refused None now user x y t = tied_sent user (new_event_at o now x) (new_event_at p now y) (tied_begins_at now x y t)

  pub tied_sends : (now : ℕ) (user : List ℕ) (x : Stack S U) (y : Stack S' U') → T x y
      → T (step_send_unless o (refusal_of o user x) now user x) (step_send_unless p (refusal_of p user y) now user y)
  tied_sends now user x y t =
      subst (λ (f : Option SendRefusal). T (step_send_unless o (refusal_of o user x) now user x) (step_send_unless p f now user y)) (sym (refusal_same user x y t))
      (tied_unless_refused (refusal_of o user x) now user x y t)

  pub tied_uses : (now : ℕ) (x : Stack S U) (y : Stack S' U') → T x y → T (step_take o now x) (step_take p now y)
  tied_uses now x y t =
      let x' : Stack S U = new_event_at o now x in
      let y' : Stack S' U' = new_event_at p now y in
      let b : Begun x' y' = tied_begins_at now x y t in
      tied_if R Q (o.untaken x'.upper == 0) (p.untaken y'.upper == 0) x' (conclude_event o (record x' { upper = o.uses x'.upper })) y' (conclude_event p (record y' { upper = p.uses y'.upper }))
      (ap (λ (n : ℕ). n == 0) (a.untaken x'.upper y'.upper (a.upper x'.upper y'.upper b.upper)))
      (λ e. begun x' y' b)
      (λ e. tied_concludes (record x' { upper = o.uses x'.upper }) (record y' { upper = p.uses y'.upper })
      (keeps_tied RB R B Q x' (record x' { upper = o.uses x'.upper }) y' (λ w. record w { upper = p.uses w.upper })
      (λ s u r q. record { line = a.line x'.line s r; upper = a.uses x'.upper u q e; same = refl }) b))

  tied_left : (sub : ℕ) (x : Stack S U) (y : Stack S' U') → Begun x y → T (on_release o sub x) (on_release p sub y)
  tied_left sub x y t =
      keeps_tied RB R B Q x (on_release o sub x) y (on_release p sub)
      (λ s u r q.
      let n : Safety × SafetyOutcome = step no_keys x.safe.safety (DisconnectRequest sub) in
      tied_if R Q (is_some x.released) (is_some x.released) x (send_dr o _ normal_disconnect (octets_sent_in_outcome n.1) (with_safety_step o (DisconnectRequest sub) n x)) (over x s u)
      (send_dr p _ normal_disconnect (octets_sent_in_outcome n.1) (with_safety_step p (DisconnectRequest sub) n (over x s u))) refl
      (λ e. record { line = a.line x.line s r; upper = a.upper x.upper u q; same = refl })
      (λ e. tied_departs _ normal_disconnect (octets_sent_in_outcome n.1) (with_safety_step o (DisconnectRequest sub) n x) (with_safety_step p (DisconnectRequest sub) n (over x s u))
      (record { line = a.line x.line s r; upper = a.speaks (DisconnectRequest sub) n.1 x.upper u (a.upper x.upper u q); same = refl }))) t

  pub tied_leaves : (now sub : ℕ) (x : Stack S U) (y : Stack S' U') → T x y → T (step_release o now sub x) (step_release p now sub y)
  tied_leaves now sub x y t = tied_left sub (new_event_at o now x) (new_event_at p now y) (tied_begins_at now x y t)

  tied_time : (given_up : Option Release) (x : Stack S U) (y : Stack S' U') → T x y → T (on_expiry o given_up x) (on_expiry p given_up y)
  tied_time (Some why) x y t = tied_ends why x y t
  tied_time None x y t =
      keeps_tied R R Q Q x (on_expiry o None x) y (on_expiry p None)
      (λ s u r q.
      let h : T x (over x s u) = record { line = r; upper = q; same = refl } in
      tied_if R Q (is_spent x) (is_spent x) _ x _ (over x s u) refl (λ e. tied_departs _ normal_disconnect _ x (over x s u) h) (λ e. h)) t

  tied_ticked : (x : Stack S U) (y : Stack S' U') → Begun x y
      → T (on_expiry o (o.given_up x.moment x.line) (record x { line = o.ticks x.moment x.line })) (on_expiry p (p.given_up y.moment y.line) (record y { line = p.ticks y.moment y.line }))
  tied_ticked x y t =
      let x' : Stack S U = record x { line = o.ticks x.moment x.line } in
      keeps_tied RB R B Q x (on_expiry o (o.given_up x.moment x.line) x') y (λ w. on_expiry p (p.given_up w.moment w.line) (record w { line = p.ticks w.moment w.line }))
      (λ s u r q.
      let y' : Stack S' U' = record (over x s u) { line = p.ticks x.moment s } in
      subst (λ (g : Option Release). T (on_expiry o (o.given_up x.moment x.line) x') (on_expiry p g y')) (sym (a.given_up x.moment x.line s r))
      (tied_time (o.given_up x.moment x.line) x' y' (record { line = a.ticks x.moment x.line s r; upper = a.upper x.upper u q; same = refl }))) t

  pub tied_ticks : (now : ℕ) (x : Stack S U) (y : Stack S' U') → T x y → T (step_tick o now x) (step_tick p now y)
  tied_ticks now x y t =
      let x' : Stack S U = new_event_at o now x in
      let y' : Stack S' U' = new_event_at p now y in
      let b : Begun x' y' = tied_begins_at now x y t in
      tied_unless x' _ y' _ b (tied_concludes _ _ (tied_ticked x' y' b))

  pub tied_breaks : (cause : Cause) (x : Stack S U) (y : Stack S' U') → T x y → T (step_break o cause x) (step_break p cause y)
  tied_breaks cause x y t =
      let x' : Stack S U = new_event o x in
      let y' : Stack S' U' = new_event p y in
      let b : Begun x' y' = tied_begins x y t in
      tied_unless x' _ y' _ b (tied_ends _ x' y' (begun x' y' b))

  -- ---- what shows

  pub same_outcomes : (x : Stack S U) (y : Stack S' U') → T x y → outcomes_of p y ≡ outcomes_of o x
  same_outcomes x y t =
      let at : (s : S') (u : U') → R x.line s → Q x.upper u → outcomes_of p (over x s u) ≡ outcomes_of o x =
      λ s u r q. ap₂ (λ (m : Option (List ℕ)) (w : List ℕ). if_connected x.connected ++ if_accepted m ++ if_released x.leaves ++ if_octets w) (a.news x.upper u q) (a.written x.line s r) in
      ap (λ (w : Stack S' U'). outcomes_of p w) t.same ∙ at y.line y.upper t.line t.upper

  pub same_refusal : (user : List ℕ) (x : Stack S U) (y : Stack S' U') → T x y → refusal_of p user y ≡ refusal_of o user x
  same_refusal user x y t = refusal_same user x y t

  pub same_deadline : (x : Stack S U) (y : Stack S' U') → T x y → deadline p y ≡ deadline o x
  same_deadline x y t =
      let at : (s : S') (u : U') → R x.line s → deadline p (over x s u) ≡ deadline o x =
      λ s u r. ap (λ (e : Option ℕ). if is_some x.released then None else earlier_of_moments e (if is_connected x.safe.safety.phase then None else Some x.limit)) (a.expiry x.line s r) in
      ap (λ (w : Stack S' U'). deadline p w) t.same ∙ at y.line y.upper t.line
