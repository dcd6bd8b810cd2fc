-- A TPDU stands behind those that an end heard: what it can be, and what the text of a message is.
use Rattle.std.proofs.Common.{◌≡◌, ℕ, zero, suc, ◌≤◌, inl, inr, Bool, true, false, not, List, [], ◌∷◌, ◌++◌, length, map, take, drop, None, refl, sym, ◌∙◌, ap, subst, arith}
use Rattle.std.specs.Prelude.{nat_lt}
use Rattle.std.specs.List.{flat_map}
use Rattle.hdlc_station_model.specs.Frames.{Frame}
use Rattle.hdlc_station_model.specs.Stations.{is_up}
use Rattle.safety_automaton.specs.Safety.{Phase, Ready, WaitAu1, WaitAu2, WaitAu3, WaitAr, Connected, Released}
use Rattle.x224_class2.specs.Segments.{Segment, segments_of, messages_in, text_so_far}
use Rattle.x224_class2.specs.Tpdus.{GivenTpdu, Dr, Dc}
use Rattle.er_end_model.specs.Layers.{Core}
use Rattle.er_end_pair_laws.specs.Openings.{EndLinkOpening, Agree}
use Rattle.er_end_pair_laws.specs.LawsBelow.{LawsBelow}
use Rattle.er_end_pair_laws.proofs.Lists.{Head, head_trans, head_take, head_length, head_flat, Each, each_next, flat_one}
use Rattle.er_end_pair_laws.proofs.Segments.{messages_head, messages_last}
use Rattle.er_end_pair_laws.proofs.Locals.{dr_of, dc_of, drs, dcs, First, Later, Opens, Cuts}
use Rattle.er_end_pair_laws.proofs.Constants.{connection_at, opening_text, sealed_text, said_all, Sendable}
use Rattle.er_end_pair_laws.proofs.Follows.{Awaits}
use Rattle.er_end_pair_laws.proofs.Own.{AlwaysOf, ToldOf, Said, AliveOf, PhaseIs, TrustingOf, heard, Beside}

-- x is live and at rest, and its station took the block of g, which is behind h
pub record Hears (s : EndLinkOpening) (c : Bool) (k : ℕ) (w : List Frame) (x : Core) (l : List Frame) (y : Core) (h : List GivenTpdu) (g : GivenTpdu) : Type 0 where
  pub beside : Beside s c k w x l y
  pub heard_is : heard x y ≡ h ++ g ∷ []
  pub always : AlwaysOf s c x h
  pub told : Agree s → ToldOf s c x
  pub alive : AliveOf s c x h
  pub trusting : TrustingOf s c x
  pub due : x.upper.transport.due ≡ None
  pub live : x.released ≡ None
  pub up : is_up x.line.phase ≡ true

pub next_of : (s : EndLinkOpening) (c : Bool) (k : ℕ) (w : List Frame) (x : Core) (l : List Frame) (y : Core) (h : List GivenTpdu) (g : GivenTpdu) → Hears s c k w x l y h g
    → Head (h ++ g ∷ []) y.upper.transport.gave
next_of s c k w x l y h g b =
    subst (λ (t : List GivenTpdu). Head t y.upper.transport.gave) b.heard_is (head_take (length x.line.taken) y.upper.transport.gave)

-- ---- which it can be

pub first_is : (c : Bool) (C S : ℕ) (h gave : List GivenTpdu) (g : GivenTpdu) → h ≡ [] → Head (h ++ g ∷ []) gave → Opens c C S gave → First c C S g
first_is c C S h gave g e next opens = at_first c C S gave g (subst (λ (t : List GivenTpdu). Head (t ++ g ∷ []) gave) e next) opens
  where
    at_first : (c : Bool) (C S : ℕ) (gave : List GivenTpdu) (g : GivenTpdu) → Head (g ∷ []) gave → Opens c C S gave → First c C S g
    at_first c C S [] g next opens = absurd next
    at_first c C S (x ∷ xs) g next opens = subst (First c C S) (sym next.0) opens.0

pub later_is : (c : Bool) (C S : ℕ) (h gave : List GivenTpdu) (g : GivenTpdu) → 1 ≤ length h → Head (h ++ g ∷ []) gave → Opens c C S gave → Later C g
later_is c C S [] gave g some next opens = absurd (let u : ⊥ = omega arith in u)
later_is c C S (z ∷ h) [] g some next opens = absurd next
later_is c C S (z ∷ h) (x ∷ xs) g some next opens = each_next (Later C) h g xs next.1 opens.1

-- a live peer gave no DR
pub no_dr_next : (h gave : List GivenTpdu) (reason : ℕ) (user : List ℕ) → length (drs gave) ≡ 0 → Head (h ++ Dr reason user ∷ []) gave → ⊥
no_dr_next h gave reason user none next =
    let f = head_flat dr_of (h ++ Dr reason user ∷ []) gave next in
    let le = head_length (drs (h ++ Dr reason user ∷ [])) (drs gave) f in
    let e = ap length (flat_one dr_of h (Dr reason user) 0 refl) in
    some_left (drs h) (drs gave) none (omega (arith, le, e))
  where
    some_left : (a b : List ℕ) → length b ≡ 0 → length (a ++ 0 ∷ []) ≤ length b → ⊥
    some_left [] b none le = omega arith
    some_left (x ∷ a) b none le = omega arith

-- no DC stands behind what a live end heard
pub no_dc_next : (h gave mine hers : List GivenTpdu) → length (dcs gave) ≤ length (drs hers) → Head hers mine → length (drs mine) ≡ 0 → Head (h ++ Dc ∷ []) gave → ⊥
no_dc_next h gave mine hers few behind none next =
    let f = head_flat dc_of (h ++ Dc ∷ []) gave next in
    let le = head_length (dcs (h ++ Dc ∷ [])) (dcs gave) f in
    let e = ap length (flat_one dc_of h Dc 0 refl) in
    let m = head_length (drs hers) (drs mine) (head_flat dr_of hers mine behind) in
    some_left (dcs h) (dcs gave) (omega (arith, few, m, none)) (omega (arith, le, e))
  where
    some_left : (a b : List ℕ) → length b ≡ 0 → length (a ++ 0 ∷ []) ≤ length b → ⊥
    some_left [] b none le = omega arith
    some_left (x ∷ a) b none le = omega arith

-- ---- the message that a DT ends

-- the messages that came, with this one, are a beginning of those of the peer
pub message_next : LawsBelow → (contents segs : List Segment) (given : ℕ) (user : List ℕ) → Head (contents ++ (true, user) ∷ []) (take given segs)
    → Head (messages_in contents ++ (text_so_far contents ++ user) ∷ []) (messages_in segs)
message_next below contents segs given user h =
    subst (λ (t : List (List ℕ)). Head t (messages_in segs)) (messages_last below.parts contents user)
    (messages_head [] (contents ++ (true, user) ∷ []) segs (head_trans (contents ++ (true, user) ∷ []) (take given segs) segs h (head_take given segs)))

nothing_behind : (xs : List (List ℕ)) (t : List ℕ) → Head (xs ++ t ∷ []) [] → ⊥
nothing_behind [] t h = h
nothing_behind (x ∷ xs) t h = h

-- the next sealed message is one of the peer's
sealed_next : (f : List ℕ → List ℕ) (came sent : List (List ℕ)) (t : List ℕ) → Head (map f came ++ t ∷ []) (map f sent) → Each Sendable sent
    → (user : List ℕ) × Sendable user × (t ≡ f user)
sealed_next f [] [] t h g = absurd h
sealed_next f [] (u ∷ us) t h g = (u, g.0, h.0)
sealed_next f (a ∷ rest) [] t h g = absurd h
sealed_next f (a ∷ rest) (u ∷ us) t h g = sealed_next f rest us t h.1 g.1

-- a phase in which messages come
abbrev pub IsMessagePhase : Bool → Phase → Type 0
IsMessagePhase c (WaitAu3 connection) = c ≡ false
IsMessagePhase c (WaitAr connection) = c ≡ true
IsMessagePhase c (Connected peer key) = Unit {0}
IsMessagePhase c _ = ⊥

-- where the keys agree, it is the text for which the safety side waits
pub text_awaited : (s : EndLinkOpening) (c : Bool) (p : Phase) (out sent came accepted : List (List ℕ)) (t : List ℕ) (messages theirs : List (List ℕ)) → Head (came ++ t ∷ []) messages
    → Said s (not c) messages theirs → Each Sendable theirs → PhaseIs s c p out sent came accepted → IsMessagePhase c p → Awaits s c p t
text_awaited s c p out sent came accepted t messages theirs next (inl none) sendable h m =
    absurd (nothing_behind came t (subst (Head (came ++ t ∷ [])) none.0 next))
text_awaited s c (Ready peer kmac rb) out sent came accepted t messages theirs next (inr all) sendable h m = absurd m
text_awaited s c (WaitAu1 ra) out sent came accepted t messages theirs next (inr all) sendable h m = absurd m
text_awaited s c (WaitAu2 peer kmac rb) out sent came accepted t messages theirs next (inr all) sendable h m = absurd m
text_awaited s c (WaitAu3 connection) out sent came accepted t messages theirs next (inr all) sendable h m =
    let n : Head (t ∷ []) (said_all s (not c) theirs) = subst (λ (q : List (List ℕ)). Head (q ++ t ∷ []) (said_all s (not c) theirs)) h.2 (subst (Head (came ++ t ∷ [])) all next) in
    (m, h.4 ∙ ap (λ (b : Bool). connection_at s b) m, n.0 ∙ ap (λ (b : Bool). opening_text s (not b)) m)
text_awaited s c (WaitAr connection) out sent came accepted t messages theirs next (inr all) sendable h m =
    let n : Head (t ∷ []) (said_all s (not c) theirs) = subst (λ (q : List (List ℕ)). Head (q ++ t ∷ []) (said_all s (not c) theirs)) h.2 (subst (Head (came ++ t ∷ [])) all next) in
    (m, h.4 ∙ ap (λ (b : Bool). connection_at s b) m, n.0 ∙ ap (λ (b : Bool). opening_text s (not b)) m)
text_awaited s c (Connected peer key) out sent came accepted t messages theirs next (inr all) sendable h m =
    let n : Head (said_all s (not c) accepted ++ t ∷ []) (said_all s (not c) theirs) =
    subst (λ (q : List (List ℕ)). Head (q ++ t ∷ []) (said_all s (not c) theirs)) h.1 (subst (Head (came ++ t ∷ [])) all next) in
    (h.2, h.3, sealed_next (sealed_text s (not c)) accepted theirs t n.1 sendable)
text_awaited s c (Released release known) out sent came accepted t messages theirs next (inr all) sendable h m = absurd m

-- ---- a message can be handed before any other was

pub no_segments : (size : ℕ) (segs : List Segment) → Cuts size segs → messages_in segs ≡ [] → segs ≡ []
no_segments size segs v none = v.cut_is ∙ ap (flat_map (segments_of size)) none

abbrev no_list : List Segment
no_list = []

drop_none : (n : ℕ) → drop n no_list ≡ no_list
drop_none zero = refl
drop_none (suc n) = refl

pub none_waiting : (size given : ℕ) (segs : List Segment) → Cuts size segs → messages_in segs ≡ [] → nat_lt (length (messages_in (drop given segs))) 16 ≡ true
none_waiting size given segs v none =
    ap (λ (t : List Segment). nat_lt (length (messages_in (drop given t))) 16) (no_segments size segs v none)
    ∙ ap (λ (t : List Segment). nat_lt (length (messages_in t)) 16) (drop_none given)
