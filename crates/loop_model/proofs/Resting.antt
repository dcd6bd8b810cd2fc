-- Between visits no message waits at an end; and a session that broke off, or that has a moment at which it is closed, is released.
use Rattle.loop_model.specs.Ends.{ModelEnd, model_ends}
use Rattle.std.proofs.Common.{◌≡◌, ℕ, zero, suc, ◌+◌, inl, inr, Bool, true, false, ◌||◌, List, [], ◌∷◌, ◌++◌, length, length-drop, drop, Option, Some, None, refl, sym, ◌∙◌, ap, arith, true≢false}
use Rattle.std.specs.Prelude.{nat_lt, ◌==◌, is_some}
use Rattle.std.proofs.lemmas.Bool.{cases_Bool}
use Rattle.er_base.specs.declared.release.Release.{Release}
use Rattle.loop_model.proofs.EndKeepings.{waiting_in}
use Rattle.loop_model.proofs.EndKeepings.{left_by, is_octets, WaitsMove, OctetsBring, ReleaseStays, BreaksRelease}
use Rattle.er_end_model.specs.Ends as end
use Rattle.er_users.specs.Users.{Mind, Heard, Said, said}
use Rattle.link_trait.specs.Wires.{Call, Reading, Gave, NotNow, End, Failed, Reads}
use Rattle.loop_model.specs.Journals.{JournalEntry}
use Rattle.loop_model.specs.Outs.{part_for_each_answer, exactly, first_answer_of}
use Rattle.loop_model.specs.Sessions.{Rules, Session, GivenToSession, Begins, Hears, Sends, Takes, Leaves, Ticks, Ends, Faults, Stalls, event_of, most_output, is_released, end_after, outcomes_of_given_event, octets_in, breaks, joined, fed, replied, heard_by_user, leave_of, sends_of, user_after_hearing, silent_answer, dealt, count_waiting_in_session, takes_all, parts, Says, nothing_said, handled, poured, pours}
use Rattle.loop_model.specs.Visits.{most_read, came}
use Rattle.loop_model.proofs.Steadies.{Steady, Quiet, Calls, runs_lift}
use Rattle.loop_model.proofs.Owns.{Bare, AllGiven, usual_calls}

none_left : (ms : List (List ℕ)) → length ms ≡ 0 → ms ≡ []
none_left [] e = refl
none_left (m ∷ ms) e = absurd (omega arith)

one_less : (ms : List (List ℕ)) (n : ℕ) → length ms ≡ suc n → length (drop 1 ms) ≡ n
one_less [] n e = absurd (omega arith)
one_less (m ∷ ms) n e = omega arith

-- a released session stays released
unfoldable pub StaysGone : Session ModelEnd → Session ModelEnd → List JournalEntry → List Call → Type 0
StaysGone s t xs cs = is_released model_ends s ≡ true → is_released model_ends t ≡ true

pub record Sound (s : Session ModelEnd) : Type 0 where
  pub broken : s.broken ≡ true → is_released model_ends s ≡ true
  pub closing : is_some s.closing ≡ true → is_released model_ends s ≡ true

unfoldable pub Sounds : Session ModelEnd → Session ModelEnd → List JournalEntry → List Call → Type 0
Sounds s t xs cs = Sound s → Sound t

unfoldable pub Rests : Session ModelEnd → Session ModelEnd → List JournalEntry → List Call → Type 0
Rests s t xs cs = waiting_in s.end ≡ [] → waiting_in t.end ≡ []

pub parts_end : (release : Option Release) (mind : Option Mind) (at : ℕ) (s : Session ModelEnd) → (parts release mind at s).end ≡ s.end
parts_end None mind at s = refl
parts_end (Some release) None at s = refl
parts_end (Some release) (Some mind) at s = refl

module _ (waits : WaitsMove) (bring : OctetsBring) (r : Rules) where
  pub ended_waits : (m : ℕ) (k : ModelEnd) (g : GivenToSession) → is_octets (event_of r g) ≡ false → waiting_in (end_after model_ends r m k g) ≡ left_by (event_of r g) (waiting_in k)
  unfolding end_after
  ended_waits m k g p =
      waits m (event_of r g) k (bring m (event_of r g) k p)

  pub fed_waits : (m : ℕ) (s : Session ModelEnd) (g : GivenToSession) → is_octets (event_of r g) ≡ false → waiting_in (fed model_ends r m s g).0.end ≡ left_by (event_of r g) (waiting_in s.end)
  unfolding fed joined
  fed_waits m s g p =
      elim (cases_Bool (nat_lt most_output (length s.output + length (octets_in (outcomes_of_given_event model_ends r m s.end g))))) [
        | inl q ↦ rw q (ended_waits m (end_after model_ends r m s.end g) Stalls refl ∙ ended_waits m s.end g p)
        | inr q ↦ rw q (ended_waits m s.end g p)
      ]

  sends_waits : (m : ℕ) (s : Session ModelEnd) (texts : List (List ℕ)) (leave : Option ℕ)
      → waiting_in (part_for_each_answer (replied model_ends r m) s (sends_of texts ++ leave_of leave)).0.end ≡ waiting_in s.end
  unfolding part_for_each_answer
  sends_waits m s [] None = refl
  sends_waits m s [] (Some sub) = fed_waits m s (Leaves sub) refl
  sends_waits m s (text ∷ texts) leave = sends_waits m (replied model_ends r m s (Sends text)).0 texts leave ∙ fed_waits m s (Sends text) refl

  replies_waits : (m : ℕ) (s : Session ModelEnd) (mind : Option Mind) (heard : Option Heard) (free : Said)
      → waiting_in (part_for_each_answer (replied model_ends r m) s (user_after_hearing mind heard free).1).0.end ≡ waiting_in s.end
  unfolding part_for_each_answer
  replies_waits m s None heard free = refl
  replies_waits m s (Some mind) None free = refl
  replies_waits m s (Some mind) (Some heard) free = let a = said mind.kind mind heard free in sends_waits m s a.texts a.leave

  pub dealt_take : (m : ℕ) (s : Session ModelEnd) (free : Said) → waiting_in (dealt model_ends r m s Takes free).0.end ≡ drop 1 (waiting_in s.end)
  unfolding dealt
  dealt_take m s free =
      let a = fed model_ends r m s Takes in
      let heard = heard_by_user (outcomes_of_given_event model_ends r m s.end Takes) in
      replies_waits m (record a.0 { mind = (user_after_hearing s.mind heard free).0 }) s.mind heard free ∙ fed_waits m s Takes refl

  all_taken : (m n : ℕ) (frees : List Said) (s : Session ModelEnd) → length (waiting_in s.end) ≡ n
      → waiting_in (part_for_each_answer (λ t free. dealt model_ends r m t Takes free) s (exactly n silent_answer frees)).0.end ≡ []
  unfolding part_for_each_answer exactly
  all_taken m zero frees s e = none_left (waiting_in s.end) e
  all_taken m (suc n) [] s e =
      all_taken m n [] (dealt model_ends r m s Takes silent_answer).0 (ap length (dealt_take m s silent_answer) ∙ one_less (waiting_in s.end) n e)
  all_taken m (suc n) (free ∷ frees) s e =
      all_taken m n frees (dealt model_ends r m s Takes free).0 (ap length (dealt_take m s free) ∙ one_less (waiting_in s.end) n e)

  pub handled_none : (m : ℕ) (s : Session ModelEnd) (g : GivenToSession) (says : Says) → waiting_in (handled model_ends r m s g says).0.end ≡ []
  unfolding handled takes_all
  handled_none m s g says =
      let a = dealt model_ends r m s g says.first in
      let b = takes_all model_ends r m a.0 says.rest in
      ap waiting_in (parts_end b.0.end.core.released b.0.mind (m + r.setup) b.0) ∙ all_taken m (count_waiting_in_session model_ends a.0) says.rest a.0 (length-drop a.0.end.core.upper.used a.0.end.core.upper.accepted)

  rests_pours : (m : ℕ) (s : Session ModelEnd) (octets : List ℕ) (says : List Says) → Rests s (pours model_ends r m s octets says).0 [] []
  unfolding Rests pours poured
  rests_pours m s octets says =
      runs_lift (λ (x y : Session ModelEnd × List ℕ) xs. Rests x.0 y.0 [] []) (poured model_ends r m) (λ x p. p) (λ x y z xs ys p q e. q (p e))
      (λ x a. elim (cases_Bool ((length x.1 == 0) || x.0.broken)) [ inl p ↦ rw p (λ e. e) | inr p ↦ rw p (λ e. handled_none m x.0 (Hears x.1) a) ])
      (s, octets) (exactly (length octets) nothing_said says)

  rests_came : (m : ℕ) (s : Session ModelEnd) (reading : Reading) (says : List Says) → Rests s (came model_ends reading r m s says).0 [] []
  unfolding Rests
  rests_came m s (Gave octets) says = rests_pours m s octets says
  rests_came m s NotNow says = λ e. e
  rests_came m s End says = λ e. handled_none m s Ends (first_answer_of nothing_said says)
  rests_came m s Failed says = λ e. handled_none m s Faults (first_answer_of nothing_said says)

  rests_quiet : Quiet r Rests
  unfolding Rests
  rests_quiet = record {
    none = λ s e. e;
    then_ = λ s t u xs ys cs ds p q e. q (p e);
    wrote = λ s n whole e. e;
    put_off = λ s e. e;
    noted = λ s e. e;
    failed = λ m s says live e. handled_none m s Faults says;
    failed_released = λ s gone e. e;
    ticked = λ m s says due e. handled_none m s Ticks says;
  }

  pub rests_calls : Calls r Rests
  unfolding Rests
  rests_calls = record { quiet = rests_quiet; read = λ m s a live. rests_came m s a.reading a.says }

module _ (stays : ReleaseStays) (breaks_release : BreaksRelease) (r : Rules) where
  stays_on : (m : ℕ) (event : end.Event) (k : ModelEnd) (o : Option Release) → k.core.released ≡ o → is_some o ≡ true → is_some (model_ends.happens m event k).core.released ≡ true
  stays_on m event k None e p = absurd (true≢false (sym p))
  stays_on m event k (Some why) e p = ap is_some (stays m event k why e)

  pub stays_released : (m : ℕ) (k : ModelEnd) (g : GivenToSession) → is_some k.core.released ≡ true → is_some (end_after model_ends r m k g).core.released ≡ true
  unfolding end_after
  stays_released m k g p = stays_on m (event_of r g) k k.core.released refl p

  pub breaks_released : (m : ℕ) (k : ModelEnd) (g : GivenToSession) → breaks g ≡ true → is_some (end_after model_ends r m k g).core.released ≡ true
  unfolding end_after
  breaks_released m k (Begins engine rbc rb) p = absurd (true≢false (sym p))
  breaks_released m k (Hears octets) p = absurd (true≢false (sym p))
  breaks_released m k (Sends text) p = absurd (true≢false (sym p))
  breaks_released m k Takes p = absurd (true≢false (sym p))
  breaks_released m k (Leaves sub) p = absurd (true≢false (sym p))
  breaks_released m k Ticks p = absurd (true≢false (sym p))
  breaks_released m k Ends p = breaks_release.ended m k
  breaks_released m k Faults p = breaks_release.fault m k
  breaks_released m k Stalls p = breaks_release.stalled m k

  given_released : (m : ℕ) (s : Session ModelEnd) (g : GivenToSession) → Sound s → (b : Bool) → s.broken ≡ b → (b || breaks g) ≡ true → is_some (end_after model_ends r m s.end g).core.released ≡ true
  given_released m s g h true e p = stays_released m s.end g (h.broken e)
  given_released m s g h false e p = breaks_released m s.end g p

  sounds_steady : Steady r (λ g. Unit {0}) Sounds
  unfolding Sounds
  sounds_steady = record {
    none = λ s h. h;
    then_ = λ s t u xs ys cs ds p q h. q (p h);
    given = λ m s g allowed fits h. record {
      broken = λ p. given_released m s g h s.broken refl p;
      closing = λ p. stays_released m s.end g (h.closing p);
    };
    stalls = λ m s g allowed fits h. record {
      broken = λ p. breaks_released m (end_after model_ends r m s.end g) Stalls refl;
      closing = λ p. breaks_released m (end_after model_ends r m s.end g) Stalls refl;
    };
    heard = λ s mind h. record { broken = h.broken; closing = h.closing };
    parts = λ s told at gone h. record { broken = h.broken; closing = λ p. gone };
  }

  sounds_bare : Bare Sounds
  unfolding Sounds
  sounds_bare = record {
    wrote = λ s n whole h. record { broken = h.broken; closing = h.closing };
    put_off = λ s h. h;
    noted = λ s h. record { broken = h.broken; closing = h.closing };
    failed = λ s h. h;
    breaks = λ s gone h. record { broken = λ p. gone; closing = h.closing };
  }

  sounds_reads : (s : Session ModelEnd) (waits : ℕ) (reading : Reading) → Sounds s s [] (Reads s.number most_read waits reading ∷ [])
  unfolding Sounds
  sounds_reads s waits reading h = h

  any_given : AllGiven (λ g. Unit {0})
  any_given = record { usual = record { sends = λ text. tt; leaves = λ sub. tt; takes = tt }; hears = λ octets. tt; ticks = tt; ends = tt; faults = tt }

  pub sounds_calls : Calls r Sounds
  sounds_calls = usual_calls r (λ g. Unit {0}) Sounds sounds_steady any_given sounds_bare sounds_reads

  pub sounds_steadily : Steady r (λ g. Unit {0}) Sounds
  sounds_steadily = sounds_steady

  pub stays_gone : Steady r (λ g. Unit {0}) StaysGone
  unfolding StaysGone
  stays_gone = record {
    none = λ s p. p;
    then_ = λ s t u xs ys cs ds p q e. q (p e);
    given = λ m s g allowed fits p. stays_released m s.end g p;
    stalls = λ m s g allowed fits p. breaks_released m (end_after model_ends r m s.end g) Stalls refl;
    heard = λ s mind p. p;
    parts = λ s told at gone p. gone;
  }
