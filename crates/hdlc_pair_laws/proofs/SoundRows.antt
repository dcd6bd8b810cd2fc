-- What a station does at a frame keeps what holds of it alone, and no frame of a live station releases it. Everywhere x acts and y doesn't,
-- w waited from x before the call.
use Rattle.std.proofs.Common.{if◌then◌else◌, ◌≡◌, ℕ, ◌+◌, ◌-◌, ◌%◌, ◌<◌, ◌⊎◌, inl, inr, Bool, true, false, List, [], ◌∷◌, ◌++◌, length, map, Option, Some, None, refl, sym, ◌∙◌, ap, subst, arith, append_assoc, append-nil, length-append, eq-eqb, eqb-true, ltb-true, true≢false}
use Rattle.std.specs.Prelude.{nat_lt, nat_le, ◌==◌}
use Rattle.std.specs.List.{filter}
use Rattle.std.proofs.lemmas.Bool.{cond_both}
use Rattle.er_base.specs.declared.cause.Cause.TheVariants.{PeerDisconnected}
use Rattle.hdlc_station_model.specs.declared.phase.Phase.{Phase}
use Rattle.hdlc_station_model.specs.declared.phase.Phase.TheVariants.{Idle, Setting, Up, Down}
use Rattle.hdlc_station_model.specs.Frames.{Frame, Info, Rr, Rej, Srej, SetUp, Disc, Dm, Ua, modulo, set_up, shown, information}
use Rattle.hdlc_station_model.specs.Stations.{Station, is_down, puts}
use Rattle.hdlc_station_model.specs.Sending.{info_at, refuses_frame, sends_again, starts_timer, station_down_for_cause}
use Rattle.hdlc_station_model.specs.Receiving.{strays, number_shown_as, acknowledges, acknowledging, by_number, accepts, rejects, takes, marks_busy, repeats_rejected, agrees, comes_up, row_idle, row_up, row_of_phase}
use Rattle.hdlc_station_model.specs.Selective.{held_for, is_found, without_gap, takes_run, missing_below, holds, says_next, files_at, files, repeats_at, repeats_one, sets_up_selective_again, selective_row_up, selective_row}
use Rattle.hdlc_pair_laws.specs.Invariant.{Half, IsSpan, Both, marks}
use Rattle.hdlc_pair_laws.specs.Mending.{AllPolite, IsPolite}
use Rattle.hdlc_pair_laws.proofs.Ways.{climbs_le, way_bounds}
use Rattle.hdlc_pair_laws.proofs.Rows.{no_foreign, set_up_at, named_is}
use Rattle.hdlc_pair_laws.proofs.SelectiveRows.{named_none_or}
use Rattle.hdlc_pair_laws.proofs.Gaps.{next_not_held, held_others}
use Rattle.hdlc_pair_laws.proofs.Sound.{OwnIn, polite_said, own_puts, own_ack, own_again, own_dead}

length_more : (ps qs : List (List ℕ)) (q : List ℕ) → length (ps ++ q ∷ qs) ≡ 0 → ⊥
length_more ps qs q e = let l = length-append ps (q ∷ qs) in omega (arith, e, l)

-- behind a frame that came at a station in this phase
abbrev pub Wakes : (calling : Bool) (window : ℕ) → List Frame → Phase → Frame → Station → Type 0
Wakes calling window w p f t =
    OwnIn calling window w t × (IsPolite f → is_down p ≡ false → is_down t.phase ≡ false) × (t.phase ≡ Idle → p ≡ Idle)

module _ (c : Bool) (wd : ℕ) (w : List Frame) where
  -- it stays up
  up_wakes : (f : Frame) (t : Station) → OwnIn c wd w (record t { phase = Up }) → Wakes c wd w Up f (record t { phase = Up })
  up_wakes f t h = (h, λ polite live. refl, λ e. e)

  -- it came up, before which it sent nothing
  comes_up_wakes : (p : Phase) (f : Frame) (x : Station) (timer : Option ℕ) (expiries : ℕ) → is_down p ≡ false → timer ≡ None → expiries ≡ 0 → x.acked ≡ x.sent → OwnIn c wd w (record x { phase = p })
      → Wakes c wd w p f (comes_up (record x { timer = timer; expiries = expiries }))
  comes_up_wakes p f x timer expiries live stopped zero none h = ((h.0, h.1, h.2, h.3, (λ e. (none, zero), λ e. stopped, omega (arith, none)), h.5, λ up. h.6 live, λ e. absurd cc), λ polite l. refl, λ e. absurd cc)

  dead_wakes : (p : Phase) (f : Frame) (x : Station) (said : List Frame) → (IsPolite f → ⊥) → OwnIn c wd w x → Wakes c wd w p f (station_down_for_cause PeerDisconnected (record x { said = said }))
  dead_wakes p f x said impolite h = (own_dead c wd w x said (w ++ x.said) PeerDisconnected h, λ polite l. absurd (impolite polite), λ e. absurd cc)

  -- ---- an I frame with go-back

  takes_wakes : (n r : ℕ) (q : List ℕ) (x : Station) → x.held ≡ [] → OwnIn c wd w (record x { phase = Up }) → Wakes c wd w Up (Info n r q) (takes (n % modulo x.extended) q (record x { phase = Up }))
  takes_wakes n r q x none h =
      cond_both (length x.taken % modulo x.extended == n % modulo x.extended) (accepts q (record x { phase = Up })) (rejects (record x { phase = Up })) (Wakes c wd w Up (Info n r q))
      (λ e. up_wakes (Info n r q) (accepts q x)
      (h.0, h.1, h.2, λ called t. absurd (length_more x.taken [] q t), h.4, ap (held_for (length (x.taken ++ q ∷ []))) none, h.6, λ e. absurd cc))
      (λ e. cond_both x.gap (puts (Rr (length x.taken)) (record x { phase = Up })) (puts (Rej (length x.taken)) (record x { phase = Up; gap = true })) (Wakes c wd w Up (Info n r q))
      (λ g. up_wakes (Info n r q) (puts (Rr (length x.taken)) x) (own_puts c wd w x (Rr (length x.taken)) tt h))
      (λ g. up_wakes (Info n r q) (puts (Rej (length x.taken)) (record x { gap = true })) (own_puts c wd w (record x { gap = true }) (Rej (length x.taken)) tt h)))

  -- ---- N(R)

  numbered_wakes : (selective : Bool) (k r : ℕ) (f : Frame) (i : List (ℕ × List ℕ)) (m ns : List ℕ) (x y : Station) (rest : Station → Station)
      → IsSpan selective x.extended k → Half selective k i m (r ∷ ns) (record x { phase = Up }) y → OwnIn c wd w (record x { phase = Up })
      → (OwnIn c wd w (acknowledges r (record x { phase = Up })) → Wakes c wd w Up f (rest (acknowledges r (record x { phase = Up }))))
      → Wakes c wd w Up f (by_number (r % modulo x.extended) rest (record x { phase = Up }))
  numbered_wakes selective k r f i m ns x y rest span h o wakes =
      let b = way_bounds k x.handed x.acked x.sent y.taken i (r ∷ ns) h.0 in
      let le = climbs_le r (length y.taken) ns h.0.climb.1 in
      subst (λ (n : Option ℕ). Wakes c wd w Up f (acknowledging n rest (record x { phase = Up }))) (sym (named_is selective k r i m ns (record x { phase = Up }) y span h))
      (wakes (own_ack c wd w x r h.0.climb.0 (omega (arith, le, b.1)) o))

  repeated_wakes : (r : ℕ) (x : Station) → OwnIn c wd w (record x { phase = Up }) → Wakes c wd w Up (Rej r) (repeats_rejected (record x { phase = Up }))
  repeated_wakes r x h =
      cond_both (nat_lt x.acked x.sent) (starts_timer (sends_again (record x { phase = Up }))) (record x { phase = Up }) (Wakes c wd w Up (Rej r))
      (λ some. (own_again c wd w x (λ same. let lt = ltb-true x.acked x.sent some in let u : ⊥ = omega (arith, lt, same) in u) h, λ polite live. refl, λ e. e))
      (λ none. up_wakes (Rej r) x h)

  set_up_wakes : (e : Bool) (x : Station) → length x.taken ≡ 0 → OwnIn c wd w (record x { phase = Up }) → Wakes c wd w Up SetUp (row_up (record x { phase = Up }) (set_up e) [])
  set_up_wakes true x none h =
      cond_both (length x.taken == 0) (agrees true (record x { phase = Up; gap = false })) (refuses_frame (record x { phase = Up })) (Wakes c wd w Up SetUp)
      (λ e. up_wakes SetUp (agrees true (record x { gap = false })) (own_puts c wd w (record x { gap = false }) (Ua true) tt h)) (λ e. absurd (true≢false (sym (eq-eqb _ _ none) ∙ e)))
  set_up_wakes false x none h =
      cond_both (length x.taken == 0) (agrees true (record x { phase = Up; gap = false })) (refuses_frame (record x { phase = Up })) (Wakes c wd w Up SetUp)
      (λ e. up_wakes SetUp (agrees true (record x { gap = false })) (own_puts c wd w (record x { gap = false }) (Ua true) tt h)) (λ e. absurd (true≢false (sym (eq-eqb _ _ none) ∙ e)))

  idle_wakes : (e : Bool) (x : Station) → x.acked ≡ x.sent → OwnIn c wd w (record x { phase = Idle }) → Wakes c wd w Idle SetUp (row_idle (record x { phase = Idle }) (set_up e) [])
  idle_wakes true x none h =
      let g = comes_up_wakes Idle SetUp x x.timer x.expiries refl h.4.0 h.4.1 none h in
      (own_puts c wd w (comes_up x) (Ua true) tt g.0, λ polite l. refl, λ e. absurd cc)
  idle_wakes false x none h =
      let g = comes_up_wakes Idle SetUp x x.timer x.expiries refl h.4.0 h.4.1 none h in
      (own_puts c wd w (comes_up x) (Ua true) tt g.0, λ polite l. refl, λ e. absurd cc)

-- before it is up a station sent no I frame
none_sent : (selective : Bool) (k : ℕ) (i : List (ℕ × List ℕ)) (m ns : List ℕ) (x y : Station) → x.sent ≡ 0 → Half selective k i m ns x y → x.acked ≡ x.sent
none_sent selective k i m ns x y none h =
    let b = way_bounds k x.handed x.acked x.sent y.taken i ns h.0 in
    omega (arith, b.0, b.1)

pub go_back_wakes : (k : ℕ) (c : Bool) (wd : ℕ) (w : List Frame) (p : Phase) (x : Station) (f : Frame) (fs : List Frame) (y : Station)
    → Both false k w (record x { phase = p }) (f ∷ fs) y → OwnIn c wd w (record x { phase = p })
    → Wakes c wd w p f (row_of_phase p (record x { phase = p }) (shown x.extended f) (information f))
go_back_wakes k c wd w Idle x (Info n r q) fs y b h = (h, λ polite live. refl, λ e. e)
go_back_wakes k c wd w Idle x (Rr r) fs y b h = (h, λ polite live. refl, λ e. e)
go_back_wakes k c wd w Idle x (Rej r) fs y b h = (h, λ polite live. refl, λ e. e)
go_back_wakes k c wd w Idle x (Srej r) fs y b h = (h, λ polite live. refl, λ e. e)
go_back_wakes k c wd w Idle x SetUp fs y b h = idle_wakes c wd w x.extended x (none_sent false k _ _ _ (record x { phase = Idle }) y b.0.2 b.0) h
go_back_wakes k c wd w Idle x Disc fs y b h = (h, λ polite live. refl, λ e. e)
go_back_wakes k c wd w Idle x Dm fs y b h = (h, λ polite live. refl, λ e. e)
go_back_wakes k c wd w Idle x (Ua final) fs y b h = (h, λ polite live. refl, λ e. e)
go_back_wakes k c wd w Setting x (Info n r q) fs y b h = (h, λ polite live. refl, λ e. e)
go_back_wakes k c wd w Setting x (Rr r) fs y b h = (h, λ polite live. refl, λ e. e)
go_back_wakes k c wd w Setting x (Rej r) fs y b h = (h, λ polite live. refl, λ e. e)
go_back_wakes k c wd w Setting x (Srej r) fs y b h = absurd (no_foreign y.calling x.taken y.sent (marks false fs) b.1.1)
go_back_wakes k c wd w Setting x SetUp fs y b h =
    absurd (true≢false (sym b.0.2.1 ∙ (set_up_at false k (w ++ x.said) (record x { phase = Setting }) fs y b).0))
go_back_wakes k c wd w Setting x Disc fs y b h = dead_wakes c wd w Setting Disc (record x { phase = Setting }) (x.said ++ Ua true ∷ []) (λ e. e) h
go_back_wakes k c wd w Setting x Dm fs y b h = dead_wakes c wd w Setting Dm (record x { phase = Setting }) x.said (λ e. e) h
go_back_wakes k c wd w Setting x (Ua final) fs y b h =
    comes_up_wakes c wd w Setting (Ua final) x None 0 refl refl refl (none_sent false k _ _ _ (record x { phase = Setting }) y b.0.2.0 b.0) h
go_back_wakes k c wd w Up x (Info n r q) fs y b h =
    numbered_wakes c wd w false k r (Info n r q) _ _ _ x y (takes (n % modulo x.extended) q) b.4 b.0 h
    (λ a. takes_wakes c wd w n r q (acknowledges r x) b.1.6 a)
go_back_wakes k c wd w Up x (Rr r) fs y b h =
    numbered_wakes c wd w false k r (Rr r) _ _ _ x y (marks_busy false) b.4 b.0 h
    (λ a. up_wakes c wd w (Rr r) (marks_busy false (acknowledges r x)) (a.0, a.1, refl, a.3, a.4, a.5, a.6, a.7))
go_back_wakes k c wd w Up x (Rej r) fs y b h =
    numbered_wakes c wd w false k r (Rej r) _ _ _ x y (λ t. repeats_rejected (marks_busy false t)) b.4 b.0 h
    (λ a. repeated_wakes c wd w r (marks_busy false (acknowledges r x)) (a.0, a.1, refl, a.3, a.4, a.5, a.6, a.7))
go_back_wakes k c wd w Up x (Srej r) fs y b h = absurd (no_foreign y.calling x.taken y.sent (marks false fs) b.1.1)
go_back_wakes k c wd w Up x SetUp fs y b h = set_up_wakes c wd w x.extended x (set_up_at false k (w ++ x.said) (record x { phase = Up }) fs y b).1 h
go_back_wakes k c wd w Up x Disc fs y b h = dead_wakes c wd w Up Disc (record x { phase = Up }) (x.said ++ Ua true ∷ []) (λ e. e) h
go_back_wakes k c wd w Up x Dm fs y b h = dead_wakes c wd w Up Dm (record x { phase = Up }) x.said (λ e. e) h
go_back_wakes k c wd w Up x (Ua final) fs y b h = (h, λ polite live. refl, λ e. e)
go_back_wakes k c wd w Down x f fs y b h = (h, λ polite live. live, λ e. e)

-- ---- with selective reject

module _ (c : Bool) (wd : ℕ) (w : List Frame) where
  -- the next frame comes
  run_wakes : (n r : ℕ) (q : List ℕ) (x : Station) → n ≡ length x.taken → OwnIn c wd w (record x { phase = Up })
      → Wakes c wd w Up (Info n r q) (takes_run q (without_gap (length x.held) (n + 1) x.held) (record x { phase = Up }))
  run_wakes n r q x same h =
      let run : List (List ℕ) = without_gap (length x.held) (n + 1) x.held in
      let now : ℕ = length x.taken + 1 + length run in
      let l = length-append x.taken (q ∷ run) in
      let all : length (x.taken ++ q ∷ run) ≡ now = omega (arith, l) in
      up_wakes c wd w (Info n r q) (takes_run q run x) (
        h.0,
        h.1,
        h.2,
        λ called t. absurd (length_more x.taken run q t),
        h.4,
        ap (λ (m : ℕ). held_for m (filter (λ g. nat_le now g.0) x.held)) all ∙ next_not_held (n + 1) now x.held (omega (arith, same)),
        h.6,
        λ e. absurd cc,
      )

  polite_asked : (said : List Frame) (ms : List ℕ) → AllPolite (w ++ said) → AllPolite (w ++ (said ++ map Srej ms))
  polite_asked said [] h = subst (λ t. AllPolite (w ++ t)) (sym (append-nil said)) h
  polite_asked said (m ∷ ms) h =
      subst (λ t. AllPolite (w ++ t)) (append_assoc said (Srej m ∷ []) (map Srej ms)) (polite_asked (said ++ Srej m ∷ []) ms (polite_said w said (Srej m) h tt))

  -- a frame behind a gap comes
  hold_wakes : (n r : ℕ) (q : List ℕ) (x : Station) → (n ≡ length x.taken → ⊥) → OwnIn c wd w (record x { phase = Up })
      → Wakes c wd w Up (Info n r q) (holds n q (record x { phase = Up }))
  hold_wakes n r q x behind h = (
    (h.0, h.1, h.2, h.3, h.4, held_others (length x.taken) (n, q) x.held behind ∙ h.5, λ live. polite_asked x.said (missing_below n (record x { phase = Up })) (h.6 live), λ e. absurd cc),
    λ polite live. refl,
    λ e. e,
  )

  next_wakes : (f : Frame) (x : Station) → OwnIn c wd w (record x { phase = Up }) → Wakes c wd w Up f (says_next (record x { phase = Up }))
  next_wakes f x h = up_wakes c wd w f (says_next x) (own_puts c wd w x (Rr (length x.taken)) tt h)

  filed_wakes : (n r : ℕ) (q : List ℕ) (x : Station) (o : Option ℕ) → (o ≡ None) ⊎ (o ≡ Some n) → OwnIn c wd w (record x { phase = Up })
      → Wakes c wd w Up (Info n r q) (files_at o q (record x { phase = Up }))
  filed_wakes n r q x o (inl e) h = subst (λ (o : Option ℕ). Wakes c wd w Up (Info n r q) (files_at o q (record x { phase = Up }))) (sym e) (next_wakes (Info n r q) x h)
  filed_wakes n r q x o (inr e) h =
      let u : Station = record x { phase = Up } in
      subst (λ (o : Option ℕ). Wakes c wd w Up (Info n r q) (files_at o q u)) (sym e)
      (cond_both (n == length x.taken) (takes_run q (without_gap (length x.held) (n + 1) x.held) u) (if is_found (held_for n x.held) then says_next u else holds n q u) (Wakes c wd w Up (Info n r q))
      (λ same. run_wakes n r q x (eqb-true n (length x.taken) same) h)
      (λ other. cond_both (is_found (held_for n x.held)) (says_next u) (holds n q u) (Wakes c wd w Up (Info n r q)) (λ held. next_wakes (Info n r q) x h)
      (λ free. hold_wakes n r q x (λ e. absurd (true≢false (sym (eq-eqb n (length x.taken) e) ∙ other))) h)))

  one_wakes : (r : ℕ) (x : Station) → OwnIn c wd w (record x { phase = Up }) → Wakes c wd w Up (Srej r) (repeats_one (r % modulo x.extended) (record x { phase = Up }))
  one_wakes r x h =
      let u : Station = record x { phase = Up } in
      let o : Option ℕ = number_shown_as x.extended x.acked (x.sent - x.acked - 1) (r % modulo x.extended) in
      cond_both (nat_lt x.acked x.sent) (repeats_at o u) (strays u) (Wakes c wd w Up (Srej r)) (λ some. at o (ltb-true x.acked x.sent some)) (λ none. (h, λ polite live. refl, λ e. e))
    where
      at : (o : Option ℕ) → x.acked < x.sent → Wakes c wd w Up (Srej r) (repeats_at o (record x { phase = Up }))
      at None some = (h, λ polite live. refl, λ e. e)
      at (Some n) some =
          let g = own_puts c wd w x (info_at (record x { phase = Up }) n) tt h in
          let unacked : x.acked ≡ x.sent → ⊥ = λ same. let u : ⊥ = omega (arith, some, same) in u in
          ((g.0, g.1, g.2, g.3, (λ none. absurd cc, λ same. absurd (unacked same), h.4.2), g.5, g.6, λ e. absurd cc), λ polite live. refl, λ e. e)

  agreed_wakes : (x : Station) → length x.taken ≡ 0 → OwnIn c wd w (record x { phase = Up }) → Wakes c wd w Up SetUp (sets_up_selective_again true (record x { phase = Up }))
  agreed_wakes x none h =
      cond_both (length x.taken == 0) (agrees true (record x { phase = Up; held = []; asked = [] })) (refuses_frame (record x { phase = Up })) (Wakes c wd w Up SetUp)
      (λ e. up_wakes c wd w SetUp (agrees true (record x { held = []; asked = [] }))
      (own_puts c wd w (record x { held = []; asked = [] }) (Ua true) tt (h.0, h.1, h.2, h.3, h.4, refl, h.6, h.7)))
      (λ e. absurd (true≢false (sym (eq-eqb _ _ none) ∙ e)))

  set_up_again_wakes : (e : Bool) (x : Station) → length x.taken ≡ 0 → OwnIn c wd w (record x { phase = Up }) → Wakes c wd w Up SetUp (selective_row_up (record x { phase = Up }) (set_up e) [])
  set_up_again_wakes true x none h = agreed_wakes x none h
  set_up_again_wakes false x none h = agreed_wakes x none h

pub selective_wakes : (k : ℕ) (c : Bool) (wd : ℕ) (w : List Frame) (p : Phase) (x : Station) (f : Frame) (fs : List Frame) (y : Station)
    → Both true k w (record x { phase = p }) (f ∷ fs) y → OwnIn c wd w (record x { phase = p })
    → Wakes c wd w p f (selective_row p (record x { phase = p }) (shown x.extended f) (information f))
selective_wakes k c wd w Idle x (Info n r q) fs y b h = (h, λ polite live. refl, λ e. e)
selective_wakes k c wd w Idle x (Rr r) fs y b h = (h, λ polite live. refl, λ e. e)
selective_wakes k c wd w Idle x (Rej r) fs y b h = (h, λ polite live. refl, λ e. e)
selective_wakes k c wd w Idle x (Srej r) fs y b h = (h, λ polite live. refl, λ e. e)
selective_wakes k c wd w Idle x SetUp fs y b h = idle_wakes c wd w x.extended x (none_sent true k _ _ _ (record x { phase = Idle }) y b.0.2 b.0) h
selective_wakes k c wd w Idle x Disc fs y b h = (h, λ polite live. refl, λ e. e)
selective_wakes k c wd w Idle x Dm fs y b h = (h, λ polite live. refl, λ e. e)
selective_wakes k c wd w Idle x (Ua final) fs y b h = (h, λ polite live. refl, λ e. e)
selective_wakes k c wd w Setting x (Info n r q) fs y b h = (h, λ polite live. refl, λ e. e)
selective_wakes k c wd w Setting x (Rr r) fs y b h = (h, λ polite live. refl, λ e. e)
selective_wakes k c wd w Setting x (Rej r) fs y b h = absurd (no_foreign y.calling x.taken y.sent (marks true fs) b.1.1)
selective_wakes k c wd w Setting x (Srej r) fs y b h = (h, λ polite live. refl, λ e. e)
selective_wakes k c wd w Setting x SetUp fs y b h =
    absurd (true≢false (sym b.0.2.1 ∙ (set_up_at true k (w ++ x.said) (record x { phase = Setting }) fs y b).0))
selective_wakes k c wd w Setting x Disc fs y b h = dead_wakes c wd w Setting Disc (record x { phase = Setting }) (x.said ++ Ua true ∷ []) (λ e. e) h
selective_wakes k c wd w Setting x Dm fs y b h = dead_wakes c wd w Setting Dm (record x { phase = Setting }) x.said (λ e. e) h
selective_wakes k c wd w Setting x (Ua final) fs y b h =
    comes_up_wakes c wd w Setting (Ua final) x None 0 refl refl refl (none_sent true k _ _ _ (record x { phase = Setting }) y b.0.2.0 b.0) h
selective_wakes k c wd w Up x (Info n r q) fs y b h =
    numbered_wakes c wd w true k r (Info n r q) _ _ _ x y (files (n % modulo x.extended) q) b.4 b.0 h
    (λ a. filed_wakes c wd w n r q (acknowledges r x) (number_shown_as x.extended (length x.taken) (x.window - 1) (n % modulo x.extended))
    (named_none_or k (w ++ x.said) (record x { phase = Up }) n r q fs y b (number_shown_as x.extended (length x.taken) (x.window - 1) (n % modulo x.extended)) refl) a)
selective_wakes k c wd w Up x (Rr r) fs y b h =
    numbered_wakes c wd w true k r (Rr r) _ _ _ x y (marks_busy false) b.4 b.0 h
    (λ a. up_wakes c wd w (Rr r) (marks_busy false (acknowledges r x)) (a.0, a.1, refl, a.3, a.4, a.5, a.6, a.7))
selective_wakes k c wd w Up x (Rej r) fs y b h = absurd (no_foreign y.calling x.taken y.sent (marks true fs) b.1.1)
selective_wakes k c wd w Up x (Srej r) fs y b h = one_wakes c wd w r x h
selective_wakes k c wd w Up x SetUp fs y b h = set_up_again_wakes c wd w x.extended x (set_up_at true k (w ++ x.said) (record x { phase = Up }) fs y b).1 h
selective_wakes k c wd w Up x Disc fs y b h = dead_wakes c wd w Up Disc (record x { phase = Up }) (x.said ++ Ua true ∷ []) (λ e. e) h
selective_wakes k c wd w Up x Dm fs y b h = dead_wakes c wd w Up Dm (record x { phase = Up }) x.said (λ e. e) h
selective_wakes k c wd w Up x (Ua final) fs y b h = (h, λ polite live. refl, λ e. e)
selective_wakes k c wd w Down x f fs y b h = (h, λ polite live. live, λ e. e)
