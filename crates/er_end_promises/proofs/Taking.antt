-- What the user takes is the oldest message.
use Rattle.std.proofs.Common.{◌≡◌, ◌∙◌, ℕ, List, [], ◌∷◌, ◌++◌, refl, sym, ap, append-nil, append_assoc}
use Rattle.er_end_model.specs.Ends.{Event, Start, Come, Send, Take, Leave, Tick, Ended, Fault, Stalled, Opening, Call, Answer}
use Rattle.er_end.specs.KeptEnds.{KEnd, kept_opened, kept_end_behind_event, tells, waiting_in}
use Rattle.er_end.specs.Keeping.{accepted_in, messages_left_by_event, WaitsMove, OctetsBring}
use Rattle.er_end.specs.Standing.{kept_run, kept_outcomes}
use Rattle.er_end_promises.specs.Told.{messages_taken}
use Rattle.er_end_promises.specs.Calls.{taken_at_event}
use Rattle.er_end_promises.specs.Order.{TakenInOrder, TakenBeginsAccepted}
use Rattle.er_end_promises.proofs.Telling.{accepted-append, taken-append, taken_told}

module _ (moves : WaitsMove) (bring : OctetsBring) where
  -- what an event left is behind what it took
  left_behind : (event : Event) (waits accepted : List (List ℕ)) → (event ≡ Take → accepted ≡ [])
      → waits ++ accepted ≡ taken_at_event event waits ++ messages_left_by_event event waits ++ accepted
  left_behind Start waits accepted none = refl
  left_behind (Come finds octets) waits accepted none = refl
  left_behind (Send user) waits accepted none = refl
  left_behind Take [] accepted none = refl
  left_behind Take (m ∷ ms) accepted none = refl
  left_behind (Leave sub) waits accepted none = refl
  left_behind Tick waits accepted none = refl
  left_behind Ended waits accepted none = refl
  left_behind Fault waits accepted none = refl
  left_behind Stalled waits accepted none = refl

  one_event : (now : ℕ) (event : Event) (k : KEnd)
      → waiting_in k ++ accepted_in (tells now event k) ≡ messages_taken (tells now event k) ++ waiting_in (kept_end_behind_event now event k)
  one_event now event k =
      left_behind event (waiting_in k) (accepted_in (tells now event k)) (λ e. ap (λ (x : Event). accepted_in (tells now x k)) e ∙ bring now Take k refl)
      ∙ append_assoc (taken_at_event event (waiting_in k)) (messages_left_by_event event (waiting_in k)) (accepted_in (tells now event k))
      ∙ ap (λ z. taken_at_event event (waiting_in k) ++ z) (sym (moves now event k))
      ∙ ap (λ z. z ++ waiting_in (kept_end_behind_event now event k)) (sym (taken_told now event k))

  pub taken_in_order : TakenInOrder
  taken_in_order [] k = append-nil (waiting_in k)
  taken_in_order (e ∷ calls) k =
      let k' : KEnd = kept_end_behind_event e.now e.event k in
      let told = tells e.now e.event k in
      let later = kept_outcomes calls k' in
      ap (λ z. waiting_in k ++ z) (accepted-append told later)
      ∙ sym (append_assoc (waiting_in k) (accepted_in told) (accepted_in later))
      ∙ ap (λ z. z ++ accepted_in later) (one_event e.now e.event k)
      ∙ append_assoc (messages_taken told) (waiting_in k') (accepted_in later)
      ∙ ap (λ z. messages_taken told ++ z) (taken_in_order calls k')
      ∙ sym (append_assoc (messages_taken told) (messages_taken later) (waiting_in (kept_run calls k')))
      ∙ ap (λ z. z ++ waiting_in (kept_run calls k')) (sym (taken-append told later))

  none_waits : (opening : Opening) → waiting_in (kept_opened opening) ≡ []
  unfolding kept_opened
  none_waits (Call settings me peer kmac rb now) = refl
  none_waits (Answer settings me ra now) = refl

  pub taken_begins_accepted : TakenBeginsAccepted
  taken_begins_accepted opening calls =
      ap (λ z. z ++ accepted_in (kept_outcomes calls (kept_opened opening))) (sym (none_waits opening)) ∙ taken_in_order calls (kept_opened opening)
