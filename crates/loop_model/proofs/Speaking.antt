-- What the users of the connections say.
use Rattle.loop_model.specs.Ends.{ModelEnd, model_ends}
use Rattle.std.proofs.Common.{◌≡◌, ℕ, ◌+◌, inl, inr, true, false, ◌||◌, List, [], ◌++◌, length, length-drop, drop, Option, Some, None, refl, sym, ◌∙◌, ap, subst, append-nil, true≢false}
use Rattle.std.specs.Prelude.{nat_lt, ◌==◌, is_some}
use Rattle.std.proofs.lemmas.Bool.{cases_Bool}
use Rattle.er_base.specs.declared.release.Release.{Release}
use Rattle.loop_model.proofs.EndKeepings.{waiting_in}
use Rattle.loop_model.proofs.EndKeepings.{accepted_in, WaitsMove, OctetsBring, ReleaseStays, BreaksRelease, ReleasedWantNone, ReleasedTellNone}
use Rattle.er_users.specs.Users.{Mind, Said}
use Rattle.safety_automaton.specs.Keys.{key_at}
use Rattle.link_trait.specs.Wires.{Call, Reading, Gave, NotNow, End, Failed}
use Rattle.loop_model.specs.Journals.{JournalEntry}
use Rattle.loop_model.specs.Outs.{part_for_each_answer, exactly, first_answer_of}
use Rattle.loop_model.specs.Sessions.{Rules, Session, made, GivenToSession, Begins, Hears, Takes, Ticks, Ends, Faults, Stalls, event_of, is_released, end_after, outcomes_of_given_event, most_output, octets_in, joined, fed, replied, heard_by_user, user_after_hearing, silent_answer, dealt, count_waiting_in_session, takes_all, parts, parted, Says, nothing_said, handled, poured, pours}
use Rattle.loop_model.specs.Visits.{is_due, came}
use Rattle.loop_model.specs.Points.{speech_of, IsUserAnswer, LeadsToSpeech}
use Rattle.loop_model.specs.Told.{IsLoops as IsOwn, HasTold}
use Rattle.loop_model.specs.Speeches.{leads-append, leads_fed, told_fed, says_dealt, says_takes, IsParted, IsOr, or_same, Spoke, spoke_handled, there_parts, has_told}
use Rattle.loop_model.proofs.Steadies.{Calls, Steady, Usual, steady_handled, runs_lift}
use Rattle.loop_model.proofs.Resting.{ended_waits, handled_none, StaysGone, stays_gone}

any_usual : Usual (λ g. Unit {0})
any_usual = record { sends = λ text. tt; leaves = λ sub. tt; takes = tt }

-- a release stays as it is
unfoldable pub StaysFor : Session ModelEnd → Session ModelEnd → List JournalEntry → List Call → Type 0
StaysFor s t xs cs = (why : Release) → s.end.core.released ≡ Some why → t.end.core.released ≡ Some why

stays_for : ReleaseStays → (r : Rules) → Steady r (λ g. Unit {0}) StaysFor
unfolding StaysFor end_after
stays_for stays r = record {
  none = λ s why p. p;
  then_ = λ s t u xs ys cs ds p q why e. q why (p why e);
  given = λ m s g allowed fits why p. stays m (event_of r g) s.end why p;
  stalls = λ m s g allowed fits why p. stays m (event_of r Stalls) (end_after model_ends r m s.end g) why (stays m (event_of r g) s.end why p);
  heard = λ s mind why p. p;
  parts = λ s told at gone why p. p;
}

-- no message waits, and a session is released exactly where its user was let go
pub record Ready (s : Session ModelEnd) : Type 0 where
  pub waits : waiting_in s.end ≡ []
  pub gone : s.mind ≡ None → is_released model_ends s ≡ true
  pub there : (mind : Mind) → s.mind ≡ Some mind → s.end.core.released ≡ None

-- what the loop does at a session, as its user speaks
pub record SpeaksTo (r : Rules) (s t : Session ModelEnd) (xs : List JournalEntry) : Type 0 where
  pub ready : Ready t
  pub spoke : (mind : Mind) → IsOr model_ends r s.mind s mind → Spoke model_ends r mind t xs

unfoldable pub Speaks : Rules → Session ModelEnd → Session ModelEnd → List JournalEntry → List Call → Type 0
Speaks r s t xs cs = Ready s → SpeaksTo r s t xs

module _ (waits : WaitsMove) (bring : OctetsBring) (stays : ReleaseStays) (breaks_release : BreaksRelease) (wants_none : ReleasedWantNone) (tells_none : ReleasedTellNone) (r : Rules) where
  silent_to : (s t : Session ModelEnd) → Ready t → t.mind ≡ s.mind → t.end ≡ s.end → t.told ≡ s.told → SpeaksTo r s t []
  silent_to s t ready e f g =
      record { ready = ready; spoke = λ mind is. record { last = mind; is = subst (λ z. IsOr model_ends r z t mind) (sym e) (or_same model_ends r s.mind s t mind f g is); leads = refl } }

  speaks_then : (s t u : Session ModelEnd) (xs ys : List JournalEntry) → SpeaksTo r s t xs → SpeaksTo r t u ys → SpeaksTo r s u (xs ++ ys)
  speaks_then s t u xs ys a b = record {
    ready = b.ready;
    spoke = λ mind is.
        let p = a.spoke mind is in
        let q = b.spoke p.last p.is in
        record { last = q.last; is = q.is; leads = leads-append (speech_of mind) (speech_of p.last) (speech_of q.last) xs ys p.leads q.leads };
  }

  -- a user that is let go was so by a release
  gone_parts : (release : Option Release) (now : Option Mind) (at : ℕ) (s : Session ModelEnd) → s.end.core.released ≡ release → s.mind ≡ now
      → (now ≡ None → is_released model_ends s ≡ true) → (parts release now at s).mind ≡ None → is_released model_ends (parts release now at s) ≡ true
  gone_parts None now at s is e h p = h (sym e ∙ p)
  gone_parts (Some release) None at s is e h p = h refl
  gone_parts (Some release) (Some mind) at s is e h p = ap is_some is

  some_of : (mind : Mind) → Some mind ≡ None → ⊥
  some_of mind e = cc

  ready_handled : (m : ℕ) (s : Session ModelEnd) (g : GivenToSession) (says : Says) (mind : Mind) → IsOwn g → s.mind ≡ Some mind → Ready (handled model_ends r m s g says).0
  unfolding handled takes_all
  ready_handled m s g says mind own e =
      let a = dealt model_ends r m s g says.first in
      let b = takes_all model_ends r m a.0 says.rest in
      let p = says_dealt model_ends r m s g says.first mind own e in
      let q = says_takes model_ends r m (exactly (count_waiting_in_session model_ends a.0) silent_answer says.rest) a.0 p.last p.is in
      record {
        waits = handled_none waits bring r m s g says;
        gone = gone_parts b.0.end.core.released b.0.mind (m + r.setup) b.0 refl refl (λ f. absurd (some_of q.last (sym q.is ∙ f)));
        there = λ k. there_parts model_ends r b.0.end.core.released b.0.mind (m + r.setup) b.0 k q.last refl refl q.is;
      }

  -- an event of a session whose user is there
  own_speaks : (m : ℕ) (s : Session ModelEnd) (g : GivenToSession) (says : Says) (now : Option Mind) → IsOwn g → s.mind ≡ now → (now ≡ None → ⊥)
      → SpeaksTo r s (handled model_ends r m s g says).0 (handled model_ends r m s g says).1
  own_speaks m s g says None own e some = absurd (some refl)
  own_speaks m s g says (Some k) own e some = record {
    ready = ready_handled m s g says k own e;
    spoke = λ mind is. spoke_handled model_ends r m s g says mind own (e ∙ ap (λ z. Some z) (subst (λ z. IsOr model_ends r z s mind) e is));
  }

  live_speaks : (m : ℕ) (s : Session ModelEnd) (g : GivenToSession) (says : Says) → IsOwn g → is_released model_ends s ≡ false → Ready s → SpeaksTo r s (handled model_ends r m s g says).0 (handled model_ends r m s g says).1
  live_speaks m s g says own live ready = own_speaks m s g says s.mind own refl (λ e. true≢false (sym (ready.gone e) ∙ live))

  -- octets that are left for a released end
  tell_nothing : (m : ℕ) (s : Session ModelEnd) (octets : List ℕ) (o : Option Release) → s.end.core.released ≡ o → is_some o ≡ true → outcomes_of_given_event model_ends r m s.end (Hears octets) ≡ []
  unfolding outcomes_of_given_event
  tell_nothing m s octets None e p = absurd (true≢false (sym p))
  tell_nothing m s octets (Some why) e p = tells_none m (key_at r.keys) octets s.end why e

  hears_waits : (m : ℕ) (s : Session ModelEnd) (octets : List ℕ) → waiting_in s.end ≡ [] → outcomes_of_given_event model_ends r m s.end (Hears octets) ≡ [] → waiting_in (end_after model_ends r m s.end (Hears octets)) ≡ []
  unfolding end_after outcomes_of_given_event
  hears_waits m s octets none told = waits m (event_of r (Hears octets)) s.end (ap accepted_in told) ∙ none

  fed_none : (m : ℕ) (s : Session ModelEnd) (octets : List ℕ) → waiting_in s.end ≡ [] → outcomes_of_given_event model_ends r m s.end (Hears octets) ≡ [] → waiting_in (fed model_ends r m s (Hears octets)).0.end ≡ []
  unfolding fed joined
  fed_none m s octets none told =
      let w = hears_waits m s octets none told in
      elim (cases_Bool (nat_lt most_output (length s.output + length (octets_in (outcomes_of_given_event model_ends r m s.end (Hears octets)))))) [
        | inl q ↦ rw q (ended_waits waits bring r m (end_after model_ends r m s.end (Hears octets)) Stalls refl ∙ w)
        | inr q ↦ rw q w
      ]

  record Left (s : Session ModelEnd) (octets : List ℕ) (h : Session ModelEnd × List JournalEntry) : Type 0 where
    mind : h.0.mind ≡ None
    told : h.0.told ≡ s.told
    leads : (mind : Mind) → LeadsToSpeech (speech_of mind) h.1 (speech_of mind)

  dealt_left : (m : ℕ) (s : Session ModelEnd) (octets : List ℕ) (free : Said) → s.mind ≡ None → outcomes_of_given_event model_ends r m s.end (Hears octets) ≡ [] → Left s octets (dealt model_ends r m s (Hears octets) free)
  unfolding dealt part_for_each_answer
  dealt_left m s octets free e told =
      let a = fed model_ends r m s (Hears octets) in
      let heard = heard_by_user (outcomes_of_given_event model_ends r m s.end (Hears octets)) in
      subst (λ z. Left s octets ((part_for_each_answer (replied model_ends r m) (record a.0 { mind = (user_after_hearing z heard free).0 }) (user_after_hearing z heard free).1).0, a.1 ++ (part_for_each_answer (replied model_ends r m) (record a.0 { mind = (user_after_hearing z heard free).0 }) (user_after_hearing z heard free).1).1)) (sym e)
      (record {
        mind = refl;
        told = told_fed model_ends r m s (Hears octets);
        leads = λ mind. subst (λ z. LeadsToSpeech (speech_of mind) z (speech_of mind)) (sym (append-nil a.1))
            (leads_fed model_ends r m s (Hears octets) (speech_of mind) (speech_of mind) (refl, subst (λ z. IsUserAnswer (heard_by_user z) (speech_of mind) (speech_of mind)) (sym told) refl));
      })

  dealt_end : (m : ℕ) (s : Session ModelEnd) (g : GivenToSession) (free : Said) → s.mind ≡ None → (dealt model_ends r m s g free).0.end ≡ (fed model_ends r m s g).0.end
  unfolding dealt part_for_each_answer
  dealt_end m s g free e =
      let a = fed model_ends r m s g in
      let heard = heard_by_user (outcomes_of_given_event model_ends r m s.end g) in
      subst (λ z. (part_for_each_answer (replied model_ends r m) (record a.0 { mind = (user_after_hearing z heard free).0 }) (user_after_hearing z heard free).1).0.end ≡ a.0.end) (sym e) refl

  no_takes : (m : ℕ) (s : Session ModelEnd) (frees : List Said) → waiting_in s.end ≡ [] → takes_all model_ends r m s frees ≡ (s, [])
  unfolding takes_all part_for_each_answer exactly
  no_takes m s frees none =
      ap (λ n. part_for_each_answer (λ t free. dealt model_ends r m t Takes free) s (exactly n silent_answer frees))
      (sym (length-drop s.end.core.upper.used s.end.core.upper.accepted) ∙ ap length none)

  parts_none : (release : Option Release) (now : Option Mind) (at : ℕ) (s : Session ModelEnd) → now ≡ None → (parts release now at s).mind ≡ s.mind
  parts_none None now at s e = refl
  parts_none (Some release) None at s e = refl
  parts_none (Some release) (Some mind) at s e = absurd (some_of mind e)

  parts_told : (release : Option Release) (now : Option Mind) (at : ℕ) (s : Session ModelEnd) → now ≡ None → (parts release now at s).told ≡ s.told
  parts_told None now at s e = refl
  parts_told (Some release) None at s e = refl
  parts_told (Some release) (Some mind) at s e = absurd (some_of mind e)

  handled_left : (m : ℕ) (s : Session ModelEnd) (octets : List ℕ) (says : Says) → Ready s → s.mind ≡ None → Left s octets (handled model_ends r m s (Hears octets) says)
  unfolding handled
  handled_left m s octets says ready e =
      let told = tell_nothing m s octets s.end.core.released refl (ready.gone e) in
      let a = dealt model_ends r m s (Hears octets) says.first in
      let d = dealt_left m s octets says.first e told in
      let w : waiting_in a.0.end ≡ [] = ap waiting_in (dealt_end m s (Hears octets) says.first e) ∙ fed_none m s octets ready.waits told in
      subst (λ z. Left s octets (parted model_ends r m z.0, a.1 ++ z.1)) (sym (no_takes m a.0 says.rest w))
      (record {
        mind = parts_none a.0.end.core.released a.0.mind (m + r.setup) a.0 d.mind ∙ d.mind;
        told = parts_told a.0.end.core.released a.0.mind (m + r.setup) a.0 d.mind ∙ d.told;
        leads = λ mind. subst (λ z. LeadsToSpeech (speech_of mind) z (speech_of mind)) (sym (append-nil a.1)) (d.leads mind);
      })

  hears_speaks : (m : ℕ) (s : Session ModelEnd) (octets : List ℕ) (says : Says) (now : Option Mind) → s.mind ≡ now → Ready s
      → SpeaksTo r s (handled model_ends r m s (Hears octets) says).0 (handled model_ends r m s (Hears octets) says).1
  unfolding StaysGone StaysFor
  hears_speaks m s octets says (Some mind) e ready = own_speaks m s (Hears octets) says (Some mind) tt e (some_of mind)
  hears_speaks m s octets says None e ready =
      let h = handled_left m s octets says ready e in
      record {
        ready = record {
          waits = handled_none waits bring r m s (Hears octets) says;
          gone = λ f. steady_handled r (λ g. Unit {0}) StaysGone (stays_gone stays breaks_release r) any_usual m s (Hears octets) says tt (ready.gone e);
          there = λ mind f. absurd (some_of mind (sym f ∙ h.mind));
        };
        spoke = λ mind is.
            let p : IsParted model_ends r s mind = subst (λ z. IsOr model_ends r z s mind) e is in
            let t = (handled model_ends r m s (Hears octets) says).0 in
            record {
              last = mind;
              is =
                  subst (λ z. IsOr model_ends r z t mind) (sym h.mind)
                  (record {
                    why = p.why;
                    is = steady_handled r (λ g. Unit {0}) StaysFor (stays_for stays r) any_usual m s (Hears octets) says tt p.why p.is;
                    told = h.told ∙ p.told;
                  });
              leads = h.leads mind;
            };
      }

  pours_speaks : (m : ℕ) (s : Session ModelEnd) (octets : List ℕ) (says : List Says) → Speaks r s (pours model_ends r m s octets says).0 (pours model_ends r m s octets says).1 []
  unfolding Speaks pours poured
  pours_speaks m s octets says =
      runs_lift (λ (x y : Session ModelEnd × List ℕ) xs. Ready x.0 → SpeaksTo r x.0 y.0 xs) (poured model_ends r m) (λ x ready. silent_to x.0 x.0 ready refl refl refl)
      (λ x y z xs ys p q ready. let a = p ready in speaks_then x.0 y.0 z.0 xs ys a (q a.ready))
      (λ x a. elim (cases_Bool ((length x.1 == 0) || x.0.broken)) [
        | inl p ↦ rw p (λ ready. silent_to x.0 x.0 ready refl refl refl)
        | inr p ↦ rw p (λ ready. hears_speaks m x.0 x.1 a x.0.mind refl ready)
      ])
      (s, octets) (exactly (length octets) nothing_said says)

  came_speaks : (m : ℕ) (s : Session ModelEnd) (reading : Reading) (says : List Says) → is_released model_ends s ≡ false → Speaks r s (came model_ends reading r m s says).0 (came model_ends reading r m s says).1 []
  unfolding Speaks
  came_speaks m s (Gave octets) says live = pours_speaks m s octets says
  came_speaks m s NotNow says live = λ ready. silent_to s s ready refl refl refl
  came_speaks m s End says live = live_speaks m s Ends (first_answer_of nothing_said says) tt live
  came_speaks m s Failed says live = live_speaks m s Faults (first_answer_of nothing_said says) tt live

  due_live : (m : ℕ) (s : Session ModelEnd) → is_due m (model_ends.deadline s.end) ≡ true → is_released model_ends s ≡ false
  due_live m s due = elim (cases_Bool (is_released model_ends s)) [
    | inl p ↦ absurd (true≢false (sym due ∙ ap (is_due m) (wants_none s.end p)))
    | inr p ↦ p
  ]

  pub speaks_calls : Calls r (Speaks r)
  unfolding Speaks
  speaks_calls = record {
    quiet = record {
      none = λ s ready. silent_to s s ready refl refl refl;
      then_ = λ s t u xs ys cs ds p q ready. let a = p ready in speaks_then s t u xs ys a (q a.ready);
      wrote = λ s n whole ready. silent_to s (record s { output = drop n s.output }) (record { waits = ready.waits; gone = ready.gone; there = ready.there }) refl refl refl;
      put_off = λ s ready. silent_to s s ready refl refl refl;
      noted = λ s ready. silent_to s (made s) (record { waits = ready.waits; gone = ready.gone; there = ready.there }) refl refl refl;
      failed = λ m s says live. live_speaks m s Faults says tt live;
      failed_released = λ s over ready. silent_to s (record s { broken = true }) (record { waits = ready.waits; gone = ready.gone; there = ready.there }) refl refl refl;
      ticked = λ m s says due. live_speaks m s Ticks says tt (due_live m s due);
    };
    read = λ m s a live. came_speaks m s a.reading a.says live;
  }

  pub called_speaks : (m : ℕ) (s : Session ModelEnd) (engine rbc rb : ℕ) (says : Says) (mind : Mind) → s.mind ≡ Some mind
      → SpeaksTo r s (handled model_ends r m s (Begins engine rbc rb) says).0 (handled model_ends r m s (Begins engine rbc rb) says).1
  called_speaks m s engine rbc rb says mind e = own_speaks m s (Begins engine rbc rb) says (Some mind) tt e (some_of mind)

-- what a user tells in a session, by its speech
pub ready_told : (r : Rules) (mind : Mind) (t : Session ModelEnd) (xs : List JournalEntry) → Ready t → Spoke model_ends r mind t xs → HasTold model_ends mind t xs
ready_told r mind t xs ready p = has_told model_ends r mind xs t.mind t refl p ready.there
