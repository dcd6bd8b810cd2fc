-- A loss-free line: the bound of the deliveries, and a drain that empties it.
use Rattle.std.proofs.Common.{◌≡◌, ℕ, ◌+◌, ◌-◌, ◌/◌, ◌≤◌, ◌⊎◌, inl, inr, Bool, not, true, false, List, [], ◌∷◌, ◌++◌, length, map, refl, sym, ◌∙◌, ap, subst, arith, length-append}
use Rattle.std.specs.List.{flat_map}
use Rattle.std.proofs.lemmas.List.{length-map}
use Rattle.std.proofs.lemmas.List.Sums.{sum_by-cons}
use Rattle.er_base.specs.Octets.{eight}
use Rattle.cbc_mac.specs.Mac.{mac_of}
use Rattle.sapdu.specs.Spelling.{Au3}
use Rattle.sapdu.specs.SpellingLaws.{SpellsItsLength}
use Rattle.safety_automaton.specs.Safety.{au3_text, ar_text, message_text}
use Rattle.x224_class2.specs.Segments.{Segment, segments_of as cut, messages_in}
use Rattle.x224_class2.specs.Tpdus.{GivenTpdu}
use Rattle.x224_class2.specs.Transport.{Transport}
use Rattle.er_end_model.specs.Layers.{Core}
use Rattle.er_end_model.specs.Bounds.{count_of_message_segments, count_of_all_segments}
use Rattle.pair_model.specs.Steps.{drained}
use Rattle.er_end_pair_laws.specs.Openings.{EndLinkOpening, Agree}
use Rattle.er_end_pair_laws.specs.Links.{EndLink, end_kind}
use Rattle.er_end_pair_laws.specs.Laws.{end_link_after, bound, DeliveryBound, DrainEmpties}
use Rattle.er_end_pair_laws.specs.LawsBelow.{LossFreeLawsBelow}
use Rattle.er_end_pair_laws.proofs.Lists.{head_take}
use Rattle.er_end_pair_laws.proofs.Ports.{got_most}
use Rattle.er_end_pair_laws.proofs.Constants.{own_number, session, flag_at, opening_text, sealed_text}
use Rattle.er_end_pair_laws.proofs.Own.{Said, Own, heard, block}
use Rattle.er_end_pair_laws.proofs.Moves.{size_known}
use Rattle.er_end_pair_laws.proofs.Flowing.{Flows}
use Rattle.er_end_pair_laws.proofs.Drained.{after_flows, drained_empties}

-- ---- how many segments a user's messages make

-- a MAC has eight octets
mac_length : SpellsItsLength → (mac : ℕ) → length (eight mac) ≡ 8
mac_length law mac = let h = law (Au3 mac) true tt in omega (arith, h.0, h.1)

opening_length : SpellsItsLength → (s : EndLinkOpening) (c : Bool) → length (opening_text s c) ≡ 9
opening_length law s true = let h = mac_length law (mac_of (session s) (au3_text (flag_at true) s.rbc s.ra s.rb)) in omega (arith, h)
opening_length law s false = let h = mac_length law (mac_of (session s) (ar_text (flag_at false) s.engine)) in omega (arith, h)

sealed_length : SpellsItsLength → (s : EndLinkOpening) (c : Bool) (user : List ℕ) → length (sealed_text s c user) ≡ length user + 9
sealed_length law s c user =
    let mac : ℕ = mac_of (session s) (message_text (flag_at c) (own_number s (not c)) user) in
    let h = mac_length law mac in
    let joined : length (user ++ eight mac) ≡ length user + length (eight mac) = length-append user (eight mac) in omega (arith, h, joined)

one_segment : (n : ℕ) → (n ≡ 128) ⊎ (n ≡ 256) ⊎ (n ≡ 512) ⊎ (n ≡ 1024) → (9 + (n - 6)) / (n - 5) ≡ 1
one_segment n (inl e) = subst (λ (m : ℕ). (9 + (m - 6)) / (m - 5) ≡ 1) (sym e) refl
one_segment n (inr (inl e)) = subst (λ (m : ℕ). (9 + (m - 6)) / (m - 5) ≡ 1) (sym e) refl
one_segment n (inr (inr (inl e))) = subst (λ (m : ℕ). (9 + (m - 6)) / (m - 5) ≡ 1) (sym e) refl
one_segment n (inr (inr (inr e))) = subst (λ (m : ℕ). (9 + (m - 6)) / (m - 5) ≡ 1) (sym e) refl

opening_cut : LossFreeLawsBelow → (s : EndLinkOpening) (c : Bool) → length (cut s.settings.size (opening_text s c)) ≡ 1
opening_cut free s c =
    let n : ℕ = s.settings.size in
    let len = opening_length free.lengths s c in
    free.below.few n (opening_text s c) (size_known free.below s).2 (omega arith)
    ∙ ap (λ (m : ℕ). (m + (n - 6)) / (n - 5)) len ∙ one_segment n (free.below.bounded s.settings s.allowed).size

sealed_cut : LossFreeLawsBelow → (s : EndLinkOpening) (c : Bool) (user : List ℕ) → length (cut s.settings.size (sealed_text s c user)) ≡ count_of_message_segments s.settings (length user)
sealed_cut free s c user =
    let n : ℕ = s.settings.size in
    let len = sealed_length free.lengths s c user in
    free.below.few n (sealed_text s c user) (size_known free.below s).2 (omega arith) ∙ ap (λ (m : ℕ). (m + (n - 6)) / (n - 5)) len

sealed_cuts : LossFreeLawsBelow → (s : EndLinkOpening) (c : Bool) (sent : List (List ℕ)) → length (flat_map (cut s.settings.size) (map (sealed_text s c) sent)) ≡ count_of_all_segments s.settings sent
sealed_cuts free s c [] = refl
sealed_cuts free s c (user ∷ sent) =
    let these : List Segment = cut s.settings.size (sealed_text s c user) in
    let those : List Segment = flat_map (cut s.settings.size) (map (sealed_text s c) sent) in
    length-append these those ∙ ap (λ (n : ℕ). n + length those) (sealed_cut free s c user) ∙ ap (λ (n : ℕ). count_of_message_segments s.settings (length user) + n) (sealed_cuts free s c sent)
    ∙ sym (sum_by-cons (λ (message : List ℕ). count_of_message_segments s.settings (length message)) user sent)

said_cuts : LossFreeLawsBelow → (s : EndLinkOpening) (c : Bool) (messages sent : List (List ℕ)) → Said s c messages sent → length (flat_map (cut s.settings.size) messages) ≤ 1 + count_of_all_segments s.settings sent
said_cuts free s c messages sent (inl none) = subst (λ (ms : List (List ℕ)). length (flat_map (cut s.settings.size) ms) ≤ 1 + count_of_all_segments s.settings sent) (sym none.0) (omega arith)
said_cuts free s c messages sent (inr all) =
    subst (λ (ms : List (List ℕ)). length (flat_map (cut s.settings.size) ms) ≤ 1 + count_of_all_segments s.settings sent) (sym all)
    (omega (arith, length-append (cut s.settings.size (opening_text s c)) (flat_map (cut s.settings.size) (map (sealed_text s c) sent)), opening_cut free s c, sealed_cuts free s c sent))

segments_most : LossFreeLawsBelow → (s : EndLinkOpening) (c : Bool) (x : Core) (h : List GivenTpdu) → Agree s → Own s c x h → length x.upper.transport.segments ≤ 1 + count_of_all_segments s.settings x.upper.sent
segments_most free s c x h agree own =
    subst (λ (ss : List Segment). length ss ≤ 1 + count_of_all_segments s.settings x.upper.sent) (sym own.always.cuts.cut_is)
    (said_cuts free s c (messages_in x.upper.transport.segments) x.upper.sent (own.told agree).said)

-- ---- the bound

-- what came from y is at most what y gave, and that is at most what its user sent
came_most : (s : EndLinkOpening) (c d : Bool) (x y : Core) (h : List GivenTpdu) → Own s c x (heard x y) → Own s d y h
    → (x.upper.transport.newest ≤ length y.upper.transport.segments) × (y.upper.transport.given ≤ length y.upper.transport.segments)
came_most s c d x y h a b =
    let t : Transport = x.upper.transport in
    let u : Transport = y.upper.transport in
    let most = b.always.gives.most in
    let came = got_most (heard x y) u.gave t.contents u.segments u.given a.always.gets.all b.always.gives.all (head_take (length x.line.taken) u.gave) most in
    (omega (arith, a.always.gives.lag, came), most)

pub bound_flow : LossFreeLawsBelow → (s : EndLinkOpening) → Agree s → (l : EndLink) (g : Flows s l) → l.passes + (length g.holds.fe + length g.holds.fr) ≤ bound s.settings l
bound_flow free s agree l g =
    let h = g.holds in
    let e : Core = l.e.core in
    let r : Core = l.r.core in
    let b = free.bounds.deliveries false h.k l.passes h.fe e.line h.fr r.line h.two.lines g.shape in
    let he : length e.line.handed ≡ length e.upper.transport.gave = ap length h.two.spelled_e ∙ length-map e.upper.transport.gave block in
    let hr : length r.line.handed ≡ length r.upper.transport.gave = ap length h.two.spelled_r ∙ length-map r.upper.transport.gave block in
    let ce = (h.two.own_e.lives g.live_e).alive.count in
    let cr = (h.two.own_r.lives g.live_r).alive.count in
    let me = came_most s true false e r (heard r e) h.two.own_e h.two.own_r in
    let mr = came_most s false true r e (heard e r) h.two.own_r h.two.own_e in
    let se = segments_most free s true e (heard e r) agree h.two.own_e in
    let sr = segments_most free s false r (heard r e) agree h.two.own_r in
    omega (arith, b, ce, cr, me.0, me.1, mr.0, mr.1, se, sr)

pub delivery_bound : LossFreeLawsBelow → DeliveryBound
delivery_bound free s steps fits agree clean =
    let b = bound_flow free s agree (end_link_after s steps) (after_flows free s steps fits agree clean) in omega (arith, b)

-- ---- a drain

no_length : {A : Type 0} (l : List A) → length l ≡ 0 → l ≡ []
no_length [] h = refl
no_length (x ∷ xs) h = absurd (let u : ⊥ = omega arith in u)

pub drain_empties : LossFreeLawsBelow → DrainEmpties
drain_empties free s steps most fits agree clean enough =
    let l : EndLink = end_link_after s steps in
    let d : EndLink = drained (end_kind s.finder) most l in
    let h = drained_empties free s agree most l (after_flows free s steps fits agree clean) in
    let b = bound_flow free s agree d h.flows in
    let ce : count_of_all_segments s.settings d.e.core.upper.sent ≡ count_of_all_segments s.settings l.e.core.upper.sent = ap (count_of_all_segments s.settings) h.sent_e in
    let cr : count_of_all_segments s.settings d.r.core.upper.sent ≡ count_of_all_segments s.settings l.r.core.upper.sent = ap (count_of_all_segments s.settings) h.sent_r in
    elim h.ends [
      | inl none ↦ none
      | inr more ↦
          let ze : length h.flows.holds.fe ≡ 0 = omega (arith, b, enough) in
          let zr : length h.flows.holds.fr ≡ 0 = omega (arith, b, enough) in
          (h.flows.holds.lined_e ∙ ap (map _) (no_length h.flows.holds.fe ze), h.flows.holds.lined_r ∙ ap (map _) (no_length h.flows.holds.fr zr))
    ]
