-- What a loop does at a session without calls, carried to ends of another kind.
use Rattle.std.proofs.Common.{◌≡◌, ◌∙◌, ℕ, ◌+◌, true, ◌||◌, List, [], ◌∷◌, ◌++◌, length, take, drop, Option, Some, None, refl, ap, ap₂}
use Rattle.std.specs.Prelude.{◌==◌, nat_lt}
use Rattle.er_base.specs.declared.release.Release.{Release}
use Rattle.er_settings.specs.Values.{Settings}
use Rattle.er_end_model.specs.Outcomes.{Outcome}
use Rattle.er_trace.specs.declared.event.Event.{Event}
use Rattle.er_trace.specs.declared.event.Event.TheVariants as event
use Rattle.er_users.specs.Users.{Mind, Said}
use Rattle.loop_model.specs.Ends.{EndOps}
use Rattle.loop_model.specs.Journals.{JournalEntry}
use Rattle.loop_model.specs.Outs.{part_for_each_answer, exactly}
use Rattle.loop_model.specs.Sessions.{Rules, Session, most_output, GivenToSession, Begins, Hears, Sends, Takes, Leaves, Ticks, Ends, Faults, Stalls, event_of, breaks, octets_in, heard_by_user, user_after_hearing, silent_answer, parts, Says, nothing_said, journal_event_of_given, end_after, outcomes_of_given_event, entry_of, stalled, joined, fed, replied, refused_in, refusal_heard, notes, dealt, count_waiting_in_session, takes_all, parted, handled, poured, pours}
use Rattle.loop_session.specs.Giving.{journal_entry_of_event}
use Rattle.loop_session.proofs.Carrying.{Carries, carried, read_carried, first_carried, if_carried, runs_carried}

module _ {E F : Type 0} (settings : Settings) (o : EndOps E) (p : EndOps F) (h : E → F) (c : Carries settings o p h) where
  -- ---- one event

  end_same : (r : Rules) (m : ℕ) (k : E) (g : GivenToSession) → end_after p r m (h k) g ≡ h (end_after o r m k g)
  unfolding end_after
  end_same r m k g = c.happens m (event_of r g) k

  told_same : (r : Rules) (m : ℕ) (k : E) (g : GivenToSession) → outcomes_of_given_event p r m (h k) g ≡ outcomes_of_given_event o r m k g
  unfolding outcomes_of_given_event
  told_same r m k g = c.tells m (event_of r g) k

  line_same : (k : E) (g : GivenToSession) → journal_event_of_given p (h k) g ≡ journal_event_of_given o k g
  line_same k (Begins engine rbc rb) = refl
  line_same k (Hears octets) = ap (λ (n : ℕ). event.Octets (take n octets)) (c.used k octets)
  line_same k (Sends text) = refl
  line_same k Takes = refl
  line_same k (Leaves sub) = refl
  line_same k Ticks = refl
  line_same k Ends = refl
  line_same k Faults = refl
  line_same k Stalls = refl

  entry_same : (r : Rules) (m : ℕ) (s : Session E) (g : GivenToSession) → entry_of p r m (carried h s) g ≡ entry_of o r m s g
  entry_same r m s g = ap₂ (λ (e : Event) (os : List Outcome). journal_entry_of_event m s.number e os) (line_same s.end g) (told_same r m s.end g)

  stalled_same : (r : Rules) (m : ℕ) (s : Session E) → stalled p r m (carried h s) ≡ first_carried (carried h) (stalled o r m s)
  stalled_same r m s = ap₂ (λ (k : F) (x : JournalEntry). (record (carried h s) { end = k; broken = true }, x ∷ [])) (end_same r m s.end Stalls) (entry_same r m s Stalls)

  joined_same : (r : Rules) (m : ℕ) (s : Session E) (octets : List ℕ) → joined p r m (carried h s) octets ≡ first_carried (carried h) (joined o r m s octets)
  unfolding joined
  joined_same r m s octets =
      let b = nat_lt most_output (length s.output + length octets) in
      if_carried (first_carried (carried h)) b b (stalled o r m s) (record s { output = s.output ++ octets }, [])
      (stalled p r m (carried h s)) (record (carried h s) { output = s.output ++ octets }, []) refl (stalled_same r m s) refl

  fed_same : (r : Rules) (m : ℕ) (s : Session E) (g : GivenToSession) → fed p r m (carried h s) g ≡ first_carried (carried h) (fed o r m s g)
  unfolding fed
  fed_same r m s g =
      let t : Session E = record s { end = end_after o r m s.end g; broken = s.broken || breaks g } in
      let feeds : F → List Outcome → JournalEntry → Session F × List JournalEntry = λ k os x.
      let b = joined p r m (record (carried h s) { end = k; broken = s.broken || breaks g }) (octets_in os) in (b.0, x ∷ b.1) in
      ap (λ (k : F). feeds k (outcomes_of_given_event p r m (h s.end) g) (entry_of p r m (carried h s) g)) (end_same r m s.end g)
      ∙ ap (λ (os : List Outcome). feeds (h t.end) os (entry_of p r m (carried h s) g)) (told_same r m s.end g)
      ∙ ap (λ (x : JournalEntry). feeds (h t.end) (outcomes_of_given_event o r m s.end g) x) (entry_same r m s g)
      ∙ ap (λ (b : Session F × List JournalEntry). (b.0, entry_of o r m s g ∷ b.1)) (joined_same r m t (octets_in (outcomes_of_given_event o r m s.end g)))

  replied_same : (r : Rules) (m : ℕ) (s : Session E) (g : GivenToSession) → replied p r m (carried h s) g ≡ first_carried (carried h) (replied o r m s g)
  replied_same r m s (Begins engine rbc rb) = fed_same r m s (Begins engine rbc rb)
  replied_same r m s (Hears octets) = fed_same r m s (Hears octets)
  replied_same r m s (Sends text) =
      let hears_of : Session F × List JournalEntry → List Outcome → Session F × List JournalEntry = λ a os.
      (record a.0 { mind = notes (refusal_heard text (refused_in os)) s.mind }, a.1) in
      ap₂ hears_of (fed_same r m s (Sends text)) (told_same r m s.end (Sends text))
  replied_same r m s Takes = fed_same r m s Takes
  replied_same r m s (Leaves sub) = fed_same r m s (Leaves sub)
  replied_same r m s Ticks = fed_same r m s Ticks
  replied_same r m s Ends = fed_same r m s Ends
  replied_same r m s Faults = fed_same r m s Faults
  replied_same r m s Stalls = fed_same r m s Stalls

  -- ---- events with what follows them

  dealt_same : (r : Rules) (m : ℕ) (s : Session E) (g : GivenToSession) (free : Said) → dealt p r m (carried h s) g free ≡ first_carried (carried h) (dealt o r m s g free)
  unfolding dealt
  dealt_same r m s g free =
      let deals : Session F × List JournalEntry → List Outcome → Session F × List JournalEntry = λ a os.
      let b = user_after_hearing s.mind (heard_by_user os) free in let q = part_for_each_answer (replied p r m) (record a.0 { mind = b.0 }) b.1 in (q.0, a.1 ++ q.1) in
      let a = fed o r m s g in
      let b = user_after_hearing s.mind (heard_by_user (outcomes_of_given_event o r m s.end g)) free in
      ap₂ deals (fed_same r m s g) (told_same r m s.end g)
      ∙ ap (λ (q : Session F × List JournalEntry). (q.0, a.1 ++ q.1)) (runs_carried (carried h) (replied o r m) (replied p r m) (replied_same r m) (record a.0 { mind = b.0 }) b.1)

  takes_all_same : (r : Rules) (m : ℕ) (s : Session E) (frees : List Said) → takes_all p r m (carried h s) frees ≡ first_carried (carried h) (takes_all o r m s frees)
  unfolding takes_all
  takes_all_same r m s frees =
      ap (λ (n : ℕ). part_for_each_answer (λ (t : Session F) (free : Said). dealt p r m t Takes free) (carried h s) (exactly n silent_answer frees)) (c.waiting s.end)
      ∙ runs_carried (carried h) (λ (t : Session E) (free : Said). dealt o r m t Takes free) (λ (t : Session F) (free : Said). dealt p r m t Takes free)
      (λ t free. dealt_same r m t Takes free) s (exactly (count_waiting_in_session o s) silent_answer frees)

  parts_same : (why : Option Release) (mind : Option Mind) (at : ℕ) (s : Session E) → parts why mind at (carried h s) ≡ carried h (parts why mind at s)
  parts_same None mind at s = refl
  parts_same (Some release) None at s = refl
  parts_same (Some release) (Some mind) at s = refl

  parted_same : (r : Rules) (m : ℕ) (s : Session E) → parted p r m (carried h s) ≡ carried h (parted o r m s)
  parted_same r m s =
      ap (λ (why : Option Release). parts why s.mind (m + r.setup) (carried h s)) (c.released s.end) ∙ parts_same (o.released s.end) s.mind (m + r.setup) s

  pub handled_same : (r : Rules) (m : ℕ) (s : Session E) (g : GivenToSession) (says : Says) → handled p r m (carried h s) g says ≡ first_carried (carried h) (handled o r m s g says)
  unfolding handled
  handled_same r m s g says =
      let a = dealt o r m s g says.first in
      let b = takes_all o r m a.0 says.rest in
      ap (λ (z : Session F × List JournalEntry). let d = takes_all p r m z.0 says.rest in (parted p r m d.0, z.1 ++ d.1)) (dealt_same r m s g says.first)
      ∙ ap (λ (d : Session F × List JournalEntry). (parted p r m d.0, a.1 ++ d.1)) (takes_all_same r m a.0 says.rest)
      ∙ ap (λ (t : Session F). (t, a.1 ++ b.1)) (parted_same r m b.0)

  -- ---- octets of a read

  poured_same : (r : Rules) (m : ℕ) (x : Session E × List ℕ) (says : Says) → poured p r m (read_carried h x) says ≡ first_carried (read_carried h) (poured o r m x says)
  unfolding poured
  poured_same r m x says =
      let b = (length x.1 == 0) || x.0.broken in
      if_carried (first_carried (read_carried h)) b b (x, []) (let a = handled o r m x.0 (Hears x.1) says in ((a.0, drop (o.used x.0.end x.1) x.1), a.1))
      (read_carried h x, []) (let a = handled p r m (carried h x.0) (Hears x.1) says in ((a.0, drop (p.used (h x.0.end) x.1) x.1), a.1)) refl refl
      (ap₂ (λ (a : Session F × List JournalEntry) (n : ℕ). ((a.0, drop n x.1), a.1)) (handled_same r m x.0 (Hears x.1) says) (c.used x.0.end x.1))

  pub pours_same : (r : Rules) (m : ℕ) (s : Session E) (octets : List ℕ) (says : List Says) → pours p r m (carried h s) octets says ≡ first_carried (carried h) (pours o r m s octets says)
  unfolding pours
  pours_same r m s octets says =
      ap (λ (a : (Session F × List ℕ) × List JournalEntry). (a.0.0, a.1))
      (runs_carried (read_carried h) (poured o r m) (poured p r m) (poured_same r m) (s, octets) (exactly (length octets) nothing_said says))
