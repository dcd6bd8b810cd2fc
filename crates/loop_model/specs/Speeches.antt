-- Lemmas: what a user says and tells of an event with all that follows it, over ends of any kind; for the proofs of this crate and of those above.
use Rattle.std.proofs.Common.{◌≡◌, ℕ, ◌+◌, inl, inr, List, [], ◌∷◌, ◌++◌, length, Option, Some, None, refl, sym, ◌∙◌, ap, subst, append-nil, append_assoc}
use Rattle.std.specs.Prelude.{nat_lt, is_some, not}
use Rattle.std.proofs.lemmas.Bool.{cases_Bool}
use Rattle.er_base.specs.declared.release.Release.{Release}
use Rattle.er_end_model.specs.Outcomes.{Outcome}
use Rattle.er_trace.specs.declared.event.Event.{Event}
use Rattle.er_trace.specs.declared.event.Event.TheVariants as event
use Rattle.er_users.specs.Users.{UserKind, Echo, Tally, Lister, Silent, Callers, Mind, Heard, Released, Said, said, tells_more}
use Rattle.loop_model.specs.Ends.{EndOps}
use Rattle.loop_model.specs.Journals.{JournalEntry}
use Rattle.loop_model.specs.Outs.{part_for_each_answer, exactly}
use Rattle.loop_model.specs.Sessions.{Rules, Session, GivenToSession, Begins, Hears, Sends, Takes, Leaves, Ticks, Ends, Faults, Stalls, journal_event_of_given}
use Rattle.loop_model.specs.Sessions.{outcomes_of_given_event, most_output, octets_in, joined, fed, replied, refused_in, refusal_heard, noted, notes}
use Rattle.loop_model.specs.Sessions.{heard_by_user, leave_of, sends_of, replies, user_after_hearing, silent_answer, dealt, count_waiting_in_session, takes_all}
use Rattle.loop_model.specs.Sessions.{parts, Says, handled}
use Rattle.loop_model.specs.Points.{Speech, speech_of, texts_said, leave_said, speech_by, IsUserAnswer, hears_at, Step, LeadsToSpeech}
use Rattle.loop_model.specs.Told.{IsLoops as IsOwn, heard_if_any, hearing, parting, tells_all, heard_told_by_user, HasTold, SpeechIsHeard}

pub leads-append : (a b c : Speech) (xs ys : List JournalEntry) → LeadsToSpeech a xs b → LeadsToSpeech b ys c → LeadsToSpeech a (xs ++ ys) c
leads-append a b c [] ys p q = subst (λ z. LeadsToSpeech z ys c) p q
leads-append a b c (x ∷ xs) ys p q = (p.0, p.1, leads-append p.0 b c xs ys p.2 q)

-- what the user hears of such an event stands among its outcomes
heard_own : {E : Type 0} (o : EndOps E) (k : E) (g : GivenToSession) (outcomes : List Outcome) → IsOwn g
    → hears_at (journal_event_of_given o k g) outcomes ≡ heard_by_user outcomes
heard_own o k (Begins engine rbc rb) outcomes p = refl
heard_own o k (Hears octets) outcomes p = refl
heard_own o k (Sends text) outcomes p = absurd p
heard_own o k Takes outcomes p = refl
heard_own o k (Leaves sub) outcomes p = absurd p
heard_own o k Ticks outcomes p = refl
heard_own o k Ends outcomes p = refl
heard_own o k Faults outcomes p = refl
heard_own o k Stalls outcomes p = absurd p

step_own : {E : Type 0} (o : EndOps E) (k : E) (g : GivenToSession) (heard : Option Heard) (a b : Speech) → IsOwn g → a.due ≡ [] → IsUserAnswer heard a b
    → Step (journal_event_of_given o k g) heard a b
step_own o k (Begins engine rbc rb) heard a b p q h = (q, h)
step_own o k (Hears octets) heard a b p q h = (q, h)
step_own o k (Sends text) heard a b p q h = absurd p
step_own o k Takes heard a b p q h = (q, h)
step_own o k (Leaves sub) heard a b p q h = absurd p
step_own o k Ticks heard a b p q h = (q, h)
step_own o k Ends heard a b p q h = (q, h)
step_own o k Faults heard a b p q h = (q, h)
step_own o k Stalls heard a b p q h = absurd p

-- ---- what a user tells

tells_on : (told : Option (List Heard)) (heards : List Heard) (heard : Heard) → tells_more (tells_all told heards) heard ≡ tells_all told (heards ++ heard ∷ [])
tells_on None heards heard = refl
tells_on (Some before) heards heard = ap (λ z. Some z) (append_assoc before heards (heard ∷ []))

tells_none : (told : Option (List Heard)) → tells_all told [] ≡ told
tells_none None = refl
tells_none (Some before) = ap (λ z. Some z) (append-nil before)

tells_first : (told : Option (List Heard)) (heard : Heard) (heards : List Heard) → tells_all (tells_more told heard) heards ≡ tells_all told (heard ∷ heards)
tells_first None heard heards = refl
tells_first (Some before) heard heards = ap (λ z. Some z) (append_assoc before (heard ∷ []) heards)

said_told : (kind : UserKind) (mind : Mind) (heard : Heard) (free : Said) → (said kind mind heard free).mind.told ≡ tells_more mind.told heard
unfolding said
said_told Echo mind heard free = refl
said_told Tally mind heard free = refl
said_told Lister mind heard free = refl
said_told Silent mind heard free = refl
said_told Callers mind heard free = refl

answer_told : (heard : Option Heard) (a b : Speech) → IsUserAnswer heard a b → b.mind.told ≡ tells_all a.mind.told (heard_if_any heard)
answer_told None a b p = ap (λ (z : Speech). z.mind.told) p ∙ sym (tells_none a.mind.told)
answer_told (Some heard) a b (free, p) =
    ap (λ (z : Speech). z.mind.told) p ∙ said_told a.mind.kind a.mind heard free ∙ sym (tells_none (tells_more a.mind.told heard)) ∙ tells_first a.mind.told
    heard []

noted_told : (heard : Option Heard) (mind : Mind) → (noted heard mind).told ≡ tells_all mind.told (heard_if_any heard)
noted_told None mind = sym (tells_none mind.told)
noted_told (Some heard) mind = sym (tells_none (tells_more mind.told heard)) ∙ tells_first mind.told heard []

step_told : (what : Event) (outcomes : List Outcome) (a b : Speech) → Step what (hears_at what outcomes) a b
    → b.mind.told ≡ tells_all a.mind.told (heard_if_any (hears_at what outcomes))
step_told (event.Call engine rbc rb) outcomes a b p = answer_told (heard_by_user outcomes) a b p.1
step_told (event.Answer rbc ra) outcomes a b p = answer_told (heard_by_user outcomes) a b p.1
step_told (event.Octets octets) outcomes a b p = answer_told (heard_by_user outcomes) a b p.1
step_told (event.Send text) outcomes a b p =
    let heard = refusal_heard text (refused_in outcomes) in
    ap (λ (z : Mind). z.told) p.mind ∙ noted_told heard a.mind
step_told event.Take outcomes a b p = answer_told (heard_by_user outcomes) a b p.1
step_told (event.Release sub) outcomes a b p = ap (λ (z : Mind). z.told) p.mind ∙ noted_told None a.mind
step_told event.Tick outcomes a b p = answer_told (heard_by_user outcomes) a b p.1
step_told event.Ended outcomes a b p = answer_told (heard_by_user outcomes) a b p.1
step_told event.Fault outcomes a b p = answer_told (heard_by_user outcomes) a b p.1
step_told event.Stalled outcomes a b p = answer_told None a b p
step_told (event.Full count) outcomes a b p = answer_told (heard_by_user outcomes) a b p.1
step_told (event.Unserved count) outcomes a b p = answer_told (heard_by_user outcomes) a b p.1

tells_then : (told : Option (List Heard)) (first rest : List Heard) → tells_all (tells_all told first) rest ≡ tells_all told (first ++ rest)
tells_then None first rest = refl
tells_then (Some before) first rest = ap (λ z. Some z) (append_assoc before first rest)

pub speech_heard : SpeechIsHeard
unfolding hearing
speech_heard a b [] p = ap (λ (z : Speech). z.mind.told) p ∙ sym (tells_none a.mind.told)
speech_heard a c (x ∷ xs) (b, p, q) =
    speech_heard b c xs q ∙ ap (λ z. tells_all z (hearing xs)) (step_told x.event x.outcomes a b p)
    ∙ tells_then a.mind.told (heard_if_any (hears_at x.event x.outcomes)) (hearing xs)

-- ---- an event with all that follows it

module _ {E : Type 0} (o : EndOps E) (r : Rules) where
  -- an event, and a stall where one follows
  pub leads_fed : (m : ℕ) (s : Session E) (g : GivenToSession) (a b : Speech)
      → Step (journal_event_of_given o s.end g) (hears_at (journal_event_of_given o s.end g) (outcomes_of_given_event o r m s.end g)) a b
      → LeadsToSpeech a (fed o r m s g).1 b
  unfolding fed joined
  leads_fed m s g a b p =
      elim (cases_Bool (nat_lt most_output (length s.output + length (octets_in (outcomes_of_given_event o r m s.end g))))) [
        | inl q ↦ rw q (b, p, (b, refl, refl))
        | inr q ↦ rw q (b, p, refl)
      ]

  pub mind_fed : (m : ℕ) (s : Session E) (g : GivenToSession) → (fed o r m s g).0.mind ≡ s.mind
  unfolding fed joined
  mind_fed m s g =
      elim (cases_Bool (nat_lt most_output (length s.output + length (octets_in (outcomes_of_given_event o r m s.end g)))))
      [ inl q ↦ rw q refl | inr q ↦ rw q refl ]

  pub told_fed : (m : ℕ) (s : Session E) (g : GivenToSession) → (fed o r m s g).0.told ≡ s.told
  unfolding fed joined
  told_fed m s g =
      elim (cases_Bool (nat_lt most_output (length s.output + length (octets_in (outcomes_of_given_event o r m s.end g)))))
      [ inl q ↦ rw q refl | inr q ↦ rw q refl ]

  -- from what is due to nothing due
  record Replies_so (from : Speech) (now : Option Mind) (xs : List JournalEntry) : Type 0 where
    last : Mind
    is : now ≡ Some last
    leads : LeadsToSpeech from xs (speech_of last)

  says_sends : (m : ℕ) (s : Session E) (mind : Mind) (texts : List (List ℕ)) (leave : Option ℕ) → s.mind ≡ Some mind
      → Replies_so (record { mind = mind; due = texts_said texts ++ leave_said leave })
      (part_for_each_answer (replied o r m) s (sends_of texts ++ leave_of leave)).0.mind
      (part_for_each_answer (replied o r m) s (sends_of texts ++ leave_of leave)).1
  unfolding part_for_each_answer
  says_sends m s mind [] None e = record { last = mind; is = e; leads = refl }
  says_sends m s mind [] (Some sub) e = record {
    last = mind;
    is = mind_fed m s (Leaves sub) ∙ e;
    leads =
        leads-append _ (speech_of mind) (speech_of mind) (fed o r m s (Leaves sub)).1 []
        (leads_fed m s (Leaves sub) (record { mind = mind; due = event.Release sub ∷ [] }) (speech_of mind) (record { due = refl; mind = refl })) refl;
  }
  says_sends m s mind (text ∷ texts) leave e =
      let heard = refusal_heard text (refused_in (outcomes_of_given_event o r m s.end (Sends text))) in
      let t = (replied o r m s (Sends text)).0 in
      let rest : Speech = record { mind = noted heard mind; due = texts_said texts ++ leave_said leave } in
      let more = says_sends m t (noted heard mind) texts leave (ap (notes heard) e) in
      record {
        last = more.last;
        is = more.is;
        leads =
            leads-append _ rest (speech_of more.last) (fed o r m s (Sends text)).1 (part_for_each_answer (replied o r m) t (sends_of texts ++ leave_of leave)).1
            (leads_fed m s (Sends text) (record { mind = mind; due = event.Send text ∷ rest.due }) rest (record { due = refl; mind = refl }))
            more.leads;
      }

  -- from a mind to a mind, with nothing due
  pub record Says_so (mind : Mind) (now : Option Mind) (xs : List JournalEntry) : Type 0 where
    pub last : Mind
    pub is : now ≡ Some last
    pub leads : LeadsToSpeech (speech_of mind) xs (speech_of last)

  says_then : (mind : Mind) (now : Option Mind) (xs ys : List JournalEntry) (a : Says_so mind now xs) (later : Option Mind) → Says_so a.last later ys
      → Says_so mind later (xs ++ ys)
  says_then mind now xs ys a later b = record {
    last = b.last;
    is = b.is;
    leads = leads-append (speech_of mind) (speech_of a.last) (speech_of b.last) xs ys a.leads b.leads;
  }

  -- what the user hears of an event, and its replies
  says_heard : (m : ℕ) (s t : Session E) (g : GivenToSession) (mind : Mind) (heard : Option Heard) (free : Said) → IsOwn g
      → heard_by_user (outcomes_of_given_event o r m s.end g) ≡ heard
      → t.mind ≡ (user_after_hearing (Some mind) heard free).0
      → Says_so mind (part_for_each_answer (replied o r m) t (user_after_hearing (Some mind) heard free).1).0.mind
      ((fed o r m s g).1 ++ (part_for_each_answer (replied o r m) t (user_after_hearing (Some mind) heard free).1).1)
  unfolding part_for_each_answer
  says_heard m s t g mind None free own is e = record {
    last = mind;
    is = e;
    leads = subst (λ z. LeadsToSpeech (speech_of mind) z (speech_of mind)) (sym (append-nil (fed o r m s g).1))
        (leads_fed m s g (speech_of mind) (speech_of mind)
        (subst (λ z. Step (journal_event_of_given o s.end g) z (speech_of mind) (speech_of mind))
        (sym (heard_own o s.end g (outcomes_of_given_event o r m s.end g) own ∙ is))
        (step_own o s.end g None (speech_of mind) (speech_of mind) own refl refl)));
  }
  says_heard m s t g mind (Some heard) free own is e =
      let c = said mind.kind mind heard free in
      let more = says_sends m t c.mind c.texts c.leave e in
      record {
        last = more.last;
        is = more.is;
        leads =
            leads-append (speech_of mind) (speech_by c) (speech_of more.last) (fed o r m s g).1 (part_for_each_answer (replied o r m) t (replies c)).1
            (leads_fed m s g (speech_of mind) (speech_by c)
            (subst (λ z. Step (journal_event_of_given o s.end g) z (speech_of mind) (speech_by c))
            (sym (heard_own o s.end g (outcomes_of_given_event o r m s.end g) own ∙ is))
            (step_own o s.end g (Some heard) (speech_of mind) (speech_by c) own refl (free, refl))))
            more.leads;
      }

  pub says_dealt : (m : ℕ) (s : Session E) (g : GivenToSession) (free : Said) (mind : Mind) → IsOwn g → s.mind ≡ Some mind
      → Says_so mind (dealt o r m s g free).0.mind (dealt o r m s g free).1
  unfolding dealt
  says_dealt m s g free mind own e =
      let a = fed o r m s g in
      let heard = heard_by_user (outcomes_of_given_event o r m s.end g) in
      let t : Option Mind → Session E = λ now. record a.0 { mind = (user_after_hearing now heard free).0 } in
      subst (λ z. Says_so mind (part_for_each_answer (replied o r m) (t z) (user_after_hearing z heard free).1).0.mind
      (a.1 ++ (part_for_each_answer (replied o r m) (t z) (user_after_hearing z heard free).1).1)) (sym e)
      (says_heard m s (t (Some mind)) g mind heard free own refl refl)

  pub says_takes : (m : ℕ) (frees : List Said) (s : Session E) (mind : Mind) → s.mind ≡ Some mind
      → Says_so mind (part_for_each_answer (λ t free. dealt o r m t Takes free) s frees).0.mind
      (part_for_each_answer (λ t free. dealt o r m t Takes free) s frees).1
  unfolding part_for_each_answer
  says_takes m [] s mind e = record { last = mind; is = e; leads = refl }
  says_takes m (free ∷ frees) s mind e =
      let d = dealt o r m s Takes free in
      let a = says_dealt m s Takes free mind tt e in
      says_then mind d.0.mind d.1 _ a _ (says_takes m frees d.0 a.last a.is)

  -- of no user nothing is told
  abbrev tells_by : Option Mind → Heard → Option (List Heard)
  tells_by None heard = None
  tells_by (Some mind) heard = tells_more mind.told heard

  -- a user that was let go told behind this mind that it was released
  pub record IsParted (t : Session E) (mind : Mind) : Type 0 where
    pub why : Release
    pub is : o.released t.end ≡ Some why
    pub told : t.told ≡ tells_more mind.told (Released why.reason why.sub why.by_peer)

  -- a mind that is kept, or one that was let go
  abbrev pub IsOr : Option Mind → Session E → Mind → Type 0
  IsOr None t mind = IsParted t mind
  IsOr (Some now) t mind = now ≡ mind

  or_some : (now : Option Mind) (t : Session E) (mind : Mind) → now ≡ Some mind → IsOr now t mind
  or_some now t mind e = subst (λ z. IsOr z t mind) (sym e) refl

  or_parts : (release : Option Release) (now : Option Mind) (at : ℕ) (s : Session E) (mind : Mind) → o.released s.end ≡ release → s.mind ≡ now → now ≡ Some mind
      → IsOr (parts release now at s).mind (parts release now at s) mind
  or_parts None now at s mind d e f = or_some s.mind s mind (e ∙ f)
  or_parts (Some release) None at s mind d e f = or_some s.mind s mind (e ∙ f)
  or_parts (Some release) (Some k) at s mind d e f =
      record { why = release; is = d; told = ap (λ z. tells_by z (Released release.reason release.sub release.by_peer)) f }

  -- a session with the same end, and what its user told
  pub or_same : (now : Option Mind) (s t : Session E) (mind : Mind) → t.end ≡ s.end → t.told ≡ s.told → IsOr now s mind → IsOr now t mind
  or_same None s t mind e f p = record { why = p.why; is = ap o.released e ∙ p.is; told = f ∙ p.told }
  or_same (Some now) s t mind e f p = p

  pub record Spoke (mind : Mind) (t : Session E) (xs : List JournalEntry) : Type 0 where
    pub last : Mind
    pub is : IsOr t.mind t last
    pub leads : LeadsToSpeech (speech_of mind) xs (speech_of last)

  pub spoke_handled : (m : ℕ) (s : Session E) (g : GivenToSession) (says : Says) (mind : Mind) → IsOwn g → s.mind ≡ Some mind
      → Spoke mind (handled o r m s g says).0 (handled o r m s g says).1
  unfolding handled takes_all
  spoke_handled m s g says mind own e =
      let a = dealt o r m s g says.first in
      let b = takes_all o r m a.0 says.rest in
      let p = says_dealt m s g says.first mind own e in
      let q = says_takes m (exactly (count_waiting_in_session o a.0) silent_answer says.rest) a.0 p.last p.is in
      record {
        last = q.last;
        is = or_parts (o.released b.0.end) b.0.mind (m + r.setup) b.0 q.last refl refl q.is;
        leads = leads-append (speech_of mind) (speech_of p.last) (speech_of q.last) a.1 b.1 p.leads q.leads;
      }

  some_no_more : (mind : Mind) → Some mind ≡ None → ⊥
  some_no_more mind e = cc

  -- a user is there as long as the end isn't released
  pub there_parts : (release : Option Release) (now : Option Mind) (at : ℕ) (s : Session E) (mind last : Mind) → o.released s.end ≡ release → s.mind ≡ now
      → now ≡ Some last
      → (parts release now at s).mind ≡ Some mind → o.released (parts release now at s).end ≡ None
  there_parts None now at s mind last is e f p = is
  there_parts (Some release) None at s mind last is e f p = absurd (some_no_more last (sym f))
  there_parts (Some release) (Some k) at s mind last is e f p = absurd (some_no_more mind (sym p))

  pub there_handled : (m : ℕ) (s : Session E) (g : GivenToSession) (says : Says) (mind : Mind) → IsOwn g → s.mind ≡ Some mind
      → (last : Mind) → (handled o r m s g says).0.mind ≡ Some last → o.released (handled o r m s g says).0.end ≡ None
  unfolding handled takes_all
  there_handled m s g says mind own e last =
      let a = dealt o r m s g says.first in
      let b = takes_all o r m a.0 says.rest in
      let p = says_dealt m s g says.first mind own e in
      let q = says_takes m (exactly (count_waiting_in_session o a.0) silent_answer says.rest) a.0 p.last p.is in
      there_parts (o.released b.0.end) b.0.mind (m + r.setup) b.0 last q.last refl refl q.is

  -- what a user tells in a session, by its speech
  pub has_told : (mind : Mind) (xs : List JournalEntry) (now : Option Mind) (t : Session E) → t.mind ≡ now → (p : Spoke mind t xs)
      → ((last : Mind) → t.mind ≡ Some last → o.released t.end ≡ None) → HasTold o mind t xs
  has_told mind xs (Some now) t e p there =
      let none = there now e in
      let same : now ≡ p.last = subst (λ z. IsOr z t p.last) e p.is in
      record {
        told = subst (λ z. heard_told_by_user z t.told ≡ tells_all mind.told (hearing xs ++ parting (o.released t.end))) (sym e)
            (ap (λ (z : Mind). z.told) same ∙ speech_heard (speech_of mind) (speech_of p.last) xs p.leads
            ∙ ap (λ z. tells_all mind.told z) (sym (append-nil (hearing xs)) ∙ ap (λ z. hearing xs ++ parting z) (sym none)));
        gone = ap is_some e ∙ ap (λ (z : Option Release). not (is_some z)) (sym none);
      }
  has_told mind xs None t e p there =
      let q : IsParted t p.last = subst (λ z. IsOr z t p.last) e p.is in
      let heard = Released q.why.reason q.why.sub q.why.by_peer in
      record {
        told = subst (λ z. heard_told_by_user z t.told ≡ tells_all mind.told (hearing xs ++ parting (o.released t.end))) (sym e)
            (q.told ∙ ap (λ z. tells_more z heard) (speech_heard (speech_of mind) (speech_of p.last) xs p.leads) ∙ tells_on mind.told (hearing xs) heard
            ∙ ap (λ z. tells_all mind.told (hearing xs ++ parting z)) (sym q.is));
        gone = ap is_some e ∙ ap (λ (z : Option Release). not (is_some z)) (sym q.is);
      }

  pub events_heard : (m : ℕ) (s : Session E) (g : GivenToSession) (says : Says) (mind : Mind) → IsOwn g → s.mind ≡ Some mind
      → HasTold o mind (handled o r m s g says).0 (handled o r m s g says).1
  events_heard m s g says mind own e =
      let t = (handled o r m s g says).0 in
      has_told mind (handled o r m s g says).1 t.mind t refl (spoke_handled m s g says mind own e) (there_handled m s g says mind own e)
