-- What a station with selective reject spends at a frame that comes.
use Rattle.std.proofs.Common.{if◌then◌else◌, ◌≡◌, ◌⊎◌, inl, inr, ℕ, ◌+◌, ◌-◌, ◌%◌, ◌≤◌, max, Bool, true, false, List, [], ◌∷◌, ◌++◌, length, map, Option, Some, None, refl, sym, ◌∙◌, ap, subst, arith, length-append}
use Rattle.std.specs.Prelude.{nat_lt, nat_le, ◌==◌}
use Rattle.std.specs.List.{filter}
use Rattle.std.proofs.lemmas.Bool.{cond_both}
use Rattle.hdlc_station_model.specs.declared.phase.Phase.{Phase}
use Rattle.hdlc_station_model.specs.declared.phase.Phase.TheVariants.{Idle, Setting, Up, Down}
use Rattle.hdlc_station_model.specs.Frames.{Frame, Info, Rr, Rej, Srej, SetUp, Disc, Dm, Ua, modulo, set_up, shown, information}
use Rattle.hdlc_station_model.specs.Stations.{Station}
use Rattle.hdlc_station_model.specs.Sending.{info_at, refuses_frame}
use Rattle.hdlc_station_model.specs.Receiving.{strays, number_shown_as, acknowledges, marks_busy, agrees}
use Rattle.hdlc_station_model.specs.Selective.{held_for, is_found, without_gap, takes_run, missing_below, holds, says_next, files_at, files, repeats_at, repeats_one, sets_up_selective_again, selective_row_up, selective_row}
use Rattle.hdlc_pair_laws.specs.Invariant.{Both, infos, receive_numbers_in_frames, marks, greatest_mark}
use Rattle.hdlc_pair_laws.proofs.Ways.{forward_le}
use Rattle.hdlc_pair_laws.proofs.Rows.{half_ack, no_foreign}
use Rattle.hdlc_pair_laws.proofs.SelectiveRows.{named_at, named_none_or}
use Rattle.hdlc_pair_laws.proofs.Potential.{weight, weights_join, weights_push, weights_asked, sets_up, none_sets_up, passing}
use Rattle.hdlc_pair_laws.proofs.Repairs.{is_open, repairs_le, holds_passing, kept_passing}
use Rattle.hdlc_pair_laws.proofs.Spending.{Spends, numbered, idle_spends, refuses_spends, down_spends}

module _ (set_up_cost window : ℕ) where
  -- ---- an I frame

  takes_spends : (high : ℕ) (p : List ℕ) (run : List (List ℕ)) (x : Station) → Spends true set_up_cost window high false false 2 x (takes_run p run x)
  takes_spends high p run x =
      let l = length-append x.taken (p ∷ run) in
      let now : ℕ = length x.taken + 1 + length run in
      let all : length (x.taken ++ p ∷ run) ≡ now = omega (arith, l) in
      let kept : ℕ → ℕ = λ n. passing (is_open (filter (λ h. nat_le now h.0) x.held) (filter (λ m. nat_le now m) x.asked)) n (high - n) in
      let same : kept (length (x.taken ++ p ∷ run)) ≡ kept now = ap kept all in
      omega (arith, same, kept_passing now high (length x.taken) x.held x.asked (omega arith))

  holds_spends : (high n : ℕ) (p : List ℕ) (x : Station) → length x.taken ≤ n → n ≤ high → Spends true set_up_cost window high false false 2 x (holds n p x)
  holds_spends high n p x low below =
      omega (
        arith,
        weights_join set_up_cost window x.said (map Srej (missing_below n x)),
        weights_asked set_up_cost window (missing_below n x),
        holds_passing n high (length x.taken) (n, p) x.held x.asked low below,
      )

  next_spends : (high : ℕ) (x : Station) → Spends true set_up_cost window high false false 2 x (says_next x)
  next_spends high x = omega (arith, weights_push set_up_cost window x.said (Rr (length x.taken)))

  number_spends : (high n : ℕ) (p : List ℕ) (x : Station) → length x.taken ≤ n → n ≤ high → Spends true set_up_cost window high false false 2 x (files_at (Some n) p x)
  number_spends high n p x low below =
      cond_both (n == length x.taken) (takes_run p (without_gap (length x.held) (n + 1) x.held) x)
      (if is_found (held_for n x.held) then says_next x else holds n p x) (λ t. Spends true set_up_cost window high false false 2 x t)
      (λ e. takes_spends high p (without_gap (length x.held) (n + 1) x.held) x)
      (λ e. cond_both (is_found (held_for n x.held)) (says_next x) (holds n p x) (λ t. Spends true set_up_cost window high false false 2 x t)
      (λ held. next_spends high x) (λ free. holds_spends high n p x low below))

  found_spends : (k : ℕ) (lw : List Frame) (x : Station) (n r : ℕ) (p : List ℕ) (fs : List Frame) (y : Station)
      → (o : Option ℕ) → number_shown_as x.extended (length x.taken) (x.window - 1) (n % modulo x.extended) ≡ o → (o ≡ None) ⊎ (o ≡ Some n)
      → Both true k lw x (Info n r p ∷ fs) y → Spends true set_up_cost window (length y.handed) false false 2 x (files_at o p x)
  found_spends k lw x n r p fs y o is (inl e) b =
      subst (λ (o : Option ℕ). Spends true set_up_cost window (length y.handed) false false 2 x (files_at o p x)) (sym e) (next_spends (length y.handed) x)
  found_spends k lw x n r p fs y o is (inr e) b =
      let v = b.1.0 in
      let at = named_at x.extended (length x.taken) (x.window - 1) (n % modulo x.extended) n (is ∙ e) in
      let le = forward_le k (max (length x.taken) (n + 1)) y.sent y.handed (infos fs) v.chain.2 in
      subst (λ (o : Option ℕ). Spends true set_up_cost window (length y.handed) false false 2 x (files_at o p x)) (sym e)
      (number_spends (length y.handed) n p x at.low (omega (arith, le, v.given)))

  -- ---- SREJ

  again_spends : (high : ℕ) (fresh : Bool) (o : Option ℕ) (x : Station) → Spends true set_up_cost window high fresh fresh 3 x (repeats_at o x)
  again_spends high fresh None x = omega arith
  again_spends high fresh (Some n) x = omega (arith, weights_push set_up_cost window x.said (info_at x n))

  one_spends : (high r : ℕ) (fresh : Bool) (x : Station) → Spends true set_up_cost window high fresh fresh 3 x (repeats_one r x)
  one_spends high r fresh x =
      cond_both (nat_lt x.acked x.sent) (repeats_at (number_shown_as x.extended x.acked (x.sent - x.acked - 1) r) x) (strays x) (λ t. Spends true set_up_cost window high fresh fresh 3 x t)
      (λ e. again_spends high fresh (number_shown_as x.extended x.acked (x.sent - x.acked - 1) r) x) (λ e. omega arith)

  -- ---- the rows

  agrees_spends : (high : ℕ) (fresh : Bool) (x : Station) → Spends true set_up_cost window high true fresh 2 x (sets_up_selective_again true x)
  agrees_spends high fresh x =
      cond_both (length x.taken == 0) (agrees true (record x { held = []; asked = [] })) (refuses_frame x) (λ t. Spends true set_up_cost window high true fresh 2 x t)
      (λ e. omega (arith, weights_push set_up_cost window x.said (Ua true), repairs_le true window high fresh (length x.taken) x.gap x.gap [] x.held [] x.asked))
      (λ e. refuses_spends set_up_cost window true high true fresh x)

  set_up_spends : (high : ℕ) (fresh e : Bool) (x : Station) → Spends true set_up_cost window high true fresh 2 x (selective_row_up x (set_up e) [])
  set_up_spends high fresh true x = agrees_spends high fresh x
  set_up_spends high fresh false x = agrees_spends high fresh x

  pub selective_spends : (k : ℕ) (lw : List Frame) (p : Phase) (x : Station) (f : Frame) (fs : List Frame) (y : Station)
      → Both true k lw (record x { phase = p }) (f ∷ fs) y
      → Spends true set_up_cost window (length y.handed) (sets_up (f ∷ fs)) (sets_up fs) (weight 2 window f) x
      (selective_row p (record x { phase = p }) (shown x.extended f) (information f))
  selective_spends k lw Idle x (Info n r q) fs y b = omega arith
  selective_spends k lw Idle x (Rr r) fs y b = omega arith
  selective_spends k lw Idle x (Rej r) fs y b = omega arith
  selective_spends k lw Idle x (Srej r) fs y b = omega arith
  selective_spends k lw Idle x SetUp fs y b = idle_spends set_up_cost window true (length y.handed) (sets_up fs) x.extended (record x { phase = Idle })
  selective_spends k lw Idle x Disc fs y b = omega arith
  selective_spends k lw Idle x Dm fs y b = omega arith
  selective_spends k lw Idle x (Ua final) fs y b = omega arith
  selective_spends k lw Setting x (Info n r q) fs y b = omega arith
  selective_spends k lw Setting x (Rr r) fs y b = omega arith
  selective_spends k lw Setting x (Rej r) fs y b = absurd (no_foreign y.calling x.taken y.sent (marks true fs) b.1.1)
  selective_spends k lw Setting x (Srej r) fs y b = omega arith
  selective_spends k lw Setting x SetUp fs y b = setting_spends (length y.handed) (sets_up fs) x.extended (record x { phase = Setting })
    where
      setting_spends : (high : ℕ) (fresh e : Bool) (z : Station) → Spends true set_up_cost window high true fresh 2 z (selective_row Setting z (set_up e) [])
      setting_spends high fresh true z = refuses_spends set_up_cost window true high true fresh z
      setting_spends high fresh false z = refuses_spends set_up_cost window true high true fresh z
  selective_spends k lw Setting x Disc fs y b = omega (arith, weights_push set_up_cost window x.said (Ua true))
  selective_spends k lw Setting x Dm fs y b = omega arith
  selective_spends k lw Setting x (Ua final) fs y b = omega arith
  selective_spends k lw Up x (Info n r q) fs y b =
      let u : Station = record x { phase = Up } in
      let high : ℕ = length y.handed in
      let none = none_sets_up true 1 fs (greatest_mark y.calling y.sent) (omega arith) b.1.1.1 in
      let a : Both true k lw (acknowledges r u) (Info n r q ∷ fs) y = (half_ack true k r (infos (lw ++ x.said)) (marks true (lw ++ x.said)) (receive_numbers_in_frames fs) u y b.0, b.1, b.2, b.3, b.4) in
      let o : Option ℕ = number_shown_as x.extended (length x.taken) (x.window - 1) (n % modulo x.extended) in
      numbered true k (infos (lw ++ x.said)) (marks true (lw ++ x.said)) (receive_numbers_in_frames fs) u r y (files (n % modulo x.extended) q)
      (λ t. Spends true set_up_cost window high (sets_up fs) (sets_up fs) 2 x t) b.4 b.0
      (subst (λ (c : Bool). Spends true set_up_cost window high c c 2 x (files (n % modulo x.extended) q (acknowledges r u))) (sym none)
      (found_spends k lw (acknowledges r u) n r q fs y o refl (named_none_or k (lw ++ x.said) (acknowledges r u) n r q fs y a o refl) a))
  selective_spends k lw Up x (Rr r) fs y b =
      let u : Station = record x { phase = Up } in
      numbered true k (infos (lw ++ x.said)) (marks true (lw ++ x.said)) (receive_numbers_in_frames fs) u r y (marks_busy false)
      (λ t. Spends true set_up_cost window (length y.handed) (sets_up fs) (sets_up fs) 1 x t) b.4 b.0 (omega arith)
  selective_spends k lw Up x (Rej r) fs y b = absurd (no_foreign y.calling x.taken y.sent (marks true fs) b.1.1)
  selective_spends k lw Up x (Srej r) fs y b = one_spends (length y.handed) (r % modulo x.extended) (sets_up fs) (record x { phase = Up })
  selective_spends k lw Up x SetUp fs y b = set_up_spends (length y.handed) (sets_up fs) x.extended (record x { phase = Up })
  selective_spends k lw Up x Disc fs y b = omega (arith, weights_push set_up_cost window x.said (Ua true))
  selective_spends k lw Up x Dm fs y b = omega arith
  selective_spends k lw Up x (Ua final) fs y b = omega arith
  selective_spends k lw Down x f fs y b = down_spends set_up_cost window true (length y.handed) f (sets_up fs) x
