-- The joined octets of a connection's events are those taken from it, or a beginning of them where it stalled.
use Rattle.loop_model.specs.Ends.{ModelEnd, model_ends, octet_count_used_by_end}
use Rattle.std.proofs.Common.{◌≡◌, ℕ, zero, suc, ◌+◌, ◌-◌, ◌≤◌, max, inl, inr, Bool, true, false, ◌||◌, List, [], ◌∷◌, ◌++◌, length, take, drop, Option, Some, None, refl, sym, ◌∙◌, ap, subst, append-nil, append_assoc, arith, true≢false, take-append-drop, length-drop, eq-eqb, ne_eqb}
use Rattle.std.specs.Prelude.{nat_lt, ◌==◌, is_some}
use Rattle.std.proofs.lemmas.Bool.{cases_Bool}
use Rattle.loop_model.proofs.EndKeepings.{ReleaseStays, BreaksRelease, Uses}
use Rattle.er_users.specs.Users.{Mind}
use Rattle.rand_core.specs.Stream.{next_u64}
use Rattle.link_trait.specs.Wires.{Call, Listens, Dials, Turns, Reads, Writes, Closes, Reading, Gave, NotNow, End, Failed, taken_of}
use Rattle.link_trait.specs.declared.wires.WriteAnswer.TheVariants as write
use Rattle.loop_model.specs.Journals.{JournalEntry}
use Rattle.loop_model.specs.Outs.{Out, part_for_each_answer, exactly, first_answer_of}
use Rattle.loop_model.specs.Sessions.{Rules, Session, made, GivenToSession, Begins, Hears, Sends, Takes, Leaves, Ticks, Ends, Faults, Stalls, journal_event_of_given, is_released, end_after, outcomes_of_given_event, most_output, octets_in, breaks, joined, fed, Says, nothing_said, handled, poured, pours}
use Rattle.loop_model.specs.Visits.{most_read, came}
use Rattle.loop_model.specs.Loops.{Plan, rules_of, Loop, begun, answering, Caller, calling, Course, run, dials, begun_dial}
use Rattle.loop_model.specs.Parts.{session_of_connection, of, calls_at}
use Rattle.loop_model.specs.Points.{octets_heard_in_event, octets_heard_in_entries, is_stalled, has_stalled, AreHeard, OctetsAreHeard}
use Rattle.loop_model.proofs.Steadies.{Steady, Usual, Quiet, Calls, AllLeft, all_left_of, steady_handled, steady_pours, follows_handled, runs_lift}
use Rattle.loop_model.proofs.Lives.{Own, Keeps, Fits, Knows, knows_run}
use Rattle.loop_model.proofs.Dialling.{knows_dial_of}
use Rattle.loop_model.proofs.Owns.{Both, calls_both, AllGiven, own_steady, own_bare, own_reads, usual_calls}
use Rattle.loop_model.proofs.Resting.{Sound, Sounds, stays_released, breaks_released, sounds_steadily}

-- ---- joined

heard_of-append : (xs ys : List JournalEntry) → octets_heard_in_entries (xs ++ ys) ≡ octets_heard_in_entries xs ++ octets_heard_in_entries ys
unfolding octets_heard_in_entries
heard_of-append [] ys = refl
heard_of-append (x ∷ xs) ys = ap (λ z. octets_heard_in_event x.event ++ z) (heard_of-append xs ys) ∙ sym (append_assoc (octets_heard_in_event x.event) (octets_heard_in_entries xs) (octets_heard_in_entries ys))

or_assoc : (a b c : Bool) → (a || (b || c)) ≡ ((a || b) || c)
or_assoc true b c = refl
or_assoc false b c = refl

has_stalled-append : (xs ys : List JournalEntry) → has_stalled (xs ++ ys) ≡ (has_stalled xs || has_stalled ys)
unfolding has_stalled
has_stalled-append [] ys = refl
has_stalled-append (x ∷ xs) ys = ap (λ z. is_stalled x.event || z) (has_stalled-append xs ys) ∙ or_assoc (is_stalled x.event) (has_stalled xs) (has_stalled ys)

or_first : (a b : Bool) → (a || b) ≡ false → a ≡ false
or_first true b p = p
or_first false b p = refl

or_second : (a b : Bool) → (a || b) ≡ false → b ≡ false
or_second true b p = absurd (true≢false p)
or_second false b p = p

or_none : (a b : Bool) → a ≡ false → b ≡ false → (a || b) ≡ false
or_none true b p q = absurd (true≢false p)
or_none false b p q = q

first_calm : (xs ys : List JournalEntry) → has_stalled (xs ++ ys) ≡ false → has_stalled xs ≡ false
first_calm xs ys p = or_first (has_stalled xs) (has_stalled ys) (sym (has_stalled-append xs ys) ∙ p)

rest_calm : (xs ys : List JournalEntry) → has_stalled (xs ++ ys) ≡ false → has_stalled ys ≡ false
rest_calm xs ys p = or_second (has_stalled xs) (has_stalled ys) (sym (has_stalled-append xs ys) ∙ p)

both_calm : (xs ys : List JournalEntry) → has_stalled xs ≡ false → has_stalled ys ≡ false → has_stalled (xs ++ ys) ≡ false
both_calm xs ys p q = has_stalled-append xs ys ∙ or_none (has_stalled xs) (has_stalled ys) p q

-- the octets that calls took, whichever connection they are at
abbrev takes : Call → List ℕ
takes (Listens address listens) = []
takes (Dials address conn) = []
takes (Turns until happening) = []
takes (Reads conn size waits (Gave octets)) = octets
takes (Reads conn size waits NotNow) = []
takes (Reads conn size waits End) = []
takes (Reads conn size waits Failed) = []
takes (Writes conn piece answer) = []
takes (Closes conn) = []

unfoldable taken_in : List Call → List ℕ
taken_in [] = []
taken_in (call ∷ calls) = takes call ++ taken_in calls

taken_in-append : (cs ds : List Call) → taken_in (cs ++ ds) ≡ taken_in cs ++ taken_in ds
unfolding taken_in
taken_in-append [] ds = refl
taken_in-append (call ∷ cs) ds = ap (λ z. takes call ++ z) (taken_in-append cs ds) ∙ sym (append_assoc (takes call) (taken_in cs) (taken_in ds))

taken_step : (conn : ℕ) (call : Call) (cs : List Call) → taken_of conn cs ≡ taken_in (calls_at conn cs)
    → taken_of conn (call ∷ cs) ≡ taken_in (calls_at conn (call ∷ cs))
unfolding taken_of taken_in calls_at
taken_step conn (Listens address listens) cs p = p
taken_step conn (Dials address other) cs p = p
taken_step conn (Turns until happening) cs p = p
taken_step conn (Reads other size waits (Gave octets)) cs p = elim (cases_Bool (other == conn)) [ inl e ↦ rw e (ap (λ z. octets ++ z) p) | inr e ↦ rw e p ]
taken_step conn (Reads other size waits NotNow) cs p = elim (cases_Bool (other == conn)) [ inl e ↦ rw e p | inr e ↦ rw e p ]
taken_step conn (Reads other size waits End) cs p = elim (cases_Bool (other == conn)) [ inl e ↦ rw e p | inr e ↦ rw e p ]
taken_step conn (Reads other size waits Failed) cs p = elim (cases_Bool (other == conn)) [ inl e ↦ rw e p | inr e ↦ rw e p ]
taken_step conn (Writes other piece answer) cs p = elim (cases_Bool (other == conn)) [ inl e ↦ rw e p | inr e ↦ rw e p ]
taken_step conn (Closes other) cs p = elim (cases_Bool (other == conn)) [ inl e ↦ rw e p | inr e ↦ rw e p ]

taken_at : (conn : ℕ) (cs : List Call) → taken_of conn cs ≡ taken_in (calls_at conn cs)
unfolding taken_of taken_in calls_at
taken_at conn [] = refl
taken_at conn (call ∷ cs) = taken_step conn call cs (taken_at conn cs)

-- ---- events

abbrev IsUnheard : GivenToSession → Type 0
IsUnheard (Begins engine rbc rb) = Unit {0}
IsUnheard (Hears octets) = ⊥
IsUnheard (Sends text) = Unit {0}
IsUnheard Takes = Unit {0}
IsUnheard (Leaves sub) = Unit {0}
IsUnheard Ticks = Unit {0}
IsUnheard Ends = Unit {0}
IsUnheard Faults = Unit {0}
IsUnheard Stalls = Unit {0}

none_heard : (k : ModelEnd) (g : GivenToSession) → IsUnheard g → octets_heard_in_event (journal_event_of_given model_ends k g) ≡ []
none_heard k (Begins engine rbc rb) p = refl
none_heard k (Hears octets) p = absurd p
none_heard k (Sends text) p = refl
none_heard k Takes p = refl
none_heard k (Leaves sub) p = refl
none_heard k Ticks p = refl
none_heard k Ends p = refl
none_heard k Faults p = refl
none_heard k Stalls p = refl

Unheard : Session ModelEnd → Session ModelEnd → List JournalEntry → List Call → Type 0
Unheard s t xs cs = octets_heard_in_entries xs ≡ []

unheard : (r : Rules) → Steady r IsUnheard Unheard
unfolding Unheard octets_heard_in_entries
unheard r = record {
  none = λ s. refl;
  then_ = λ s t u xs ys cs ds p q. heard_of-append xs ys ∙ ap (λ z. z ++ octets_heard_in_entries ys) p ∙ q;
  given = λ m s g allowed fits. ap (λ z. z ++ []) (none_heard s.end g allowed);
  stalls = λ m s g allowed fits. ap (λ z. z ++ []) (none_heard s.end g allowed);
  heard = λ s mind. refl;
  parts = λ s told at gone. refl;
}

usual_unheard : Usual IsUnheard
usual_unheard = record { sends = λ text. tt; leaves = λ sub. tt; takes = tt }

calm : (k : ModelEnd) (g : GivenToSession) → breaks g ≡ false → is_stalled (journal_event_of_given model_ends k g) ≡ false
calm k (Begins engine rbc rb) p = refl
calm k (Hears octets) p = refl
calm k (Sends text) p = refl
calm k Takes p = refl
calm k (Leaves sub) p = refl
calm k Ticks p = refl
calm k Ends p = absurd (true≢false p)
calm k Faults p = absurd (true≢false p)
calm k Stalls p = absurd (true≢false p)

-- it breaks off only where it stalls
Breaks : Session ModelEnd → Session ModelEnd → List JournalEntry → List Call → Type 0
Breaks s t xs cs = has_stalled xs ≡ false → s.broken ≡ false → t.broken ≡ false

abbrev IsWhole : GivenToSession → Type 0
IsWhole g = breaks g ≡ false

breaking : (r : Rules) → Steady r IsWhole Breaks
unfolding Breaks has_stalled
breaking r = record {
  none = λ s calm whole. whole;
  then_ = λ s t u xs ys cs ds p q calm whole. q (rest_calm xs ys calm) (p (first_calm xs ys calm) whole);
  given = λ m s g allowed fits calm whole. or_none s.broken (breaks g) whole allowed;
  stalls = λ m s g allowed fits calm whole. absurd (true≢false (or_second (is_stalled (journal_event_of_given model_ends s.end g)) true calm));
  heard = λ s mind calm whole. whole;
  parts = λ s told at gone calm whole. whole;
}

usual_whole : Usual IsWhole
usual_whole = record { sends = λ text. refl; leaves = λ sub. refl; takes = refl }

module _ (stays : ReleaseStays) (breaks_release : BreaksRelease) (uses : Uses) (r : Rules) where
  -- a session that isn't released wasn't before, and didn't stall
  Gone : Session ModelEnd → Session ModelEnd → List JournalEntry → List Call → Type 0
  Gone s t xs cs = is_released model_ends t ≡ false → (is_released model_ends s ≡ false) × (has_stalled xs ≡ false)

  not_released : (m : ℕ) (k : ModelEnd) (g : GivenToSession) → is_some (end_after model_ends r m k g).core.released ≡ false → is_some k.core.released ≡ false
  not_released m k g p =
      elim (cases_Bool (is_some k.core.released)) [ inl q ↦ absurd (true≢false (sym (stays_released stays breaks_release r m k g q) ∙ p)) | inr q ↦ q ]

  not_breaking : (m : ℕ) (k : ModelEnd) (g : GivenToSession) → is_some (end_after model_ends r m k g).core.released ≡ false → breaks g ≡ false
  not_breaking m k g p =
      elim (cases_Bool (breaks g)) [ inl q ↦ absurd (true≢false (sym (breaks_released stays breaks_release r m k g q) ∙ p)) | inr q ↦ q ]

  gone : Steady r (λ g. Unit {0}) Gone
  unfolding Gone has_stalled
  gone = record {
    none = λ s p. (p, refl);
    then_ = λ s t u xs ys cs ds p q e. let b = q e in let a = p b.0 in (a.0, both_calm xs ys a.1 b.1);
    given = λ m s g allowed fits p. (not_released m s.end g p, or_none (is_stalled (journal_event_of_given model_ends s.end g)) false (calm s.end g (not_breaking m s.end g p)) refl);
    stalls = λ m s g allowed fits p. absurd (true≢false (sym (breaks_released stays breaks_release r m (end_after model_ends r m s.end g) Stalls refl) ∙ p));
    heard = λ s mind p. (p, refl);
    parts = λ s told at gone p. absurd (true≢false (sym gone ∙ p));
  }

  any_usual : Usual (λ g. Unit {0})
  any_usual = record { sends = λ text. tt; leaves = λ sub. tt; takes = tt }

  -- ---- a read

  joined_heard : (m : ℕ) (s : Session ModelEnd) (octets : List ℕ) → octets_heard_in_entries (joined model_ends r m s octets).1 ≡ []
  unfolding joined octets_heard_in_entries
  joined_heard m s octets =
      elim (cases_Bool (nat_lt most_output (length s.output + length octets))) [ inl p ↦ rw p refl | inr p ↦ rw p refl ]

  fed_heard : (m : ℕ) (s : Session ModelEnd) (octets : List ℕ) → octets_heard_in_entries (fed model_ends r m s (Hears octets)).1 ≡ take (octet_count_used_by_end s.end octets) octets
  unfolding fed octets_heard_in_entries
  fed_heard m s octets =
      let g = Hears octets in
      let t : Session ModelEnd = record s { end = end_after model_ends r m s.end g; broken = s.broken || breaks g } in
      ap (λ z. take (octet_count_used_by_end s.end octets) octets ++ z) (joined_heard m t (octets_in (outcomes_of_given_event model_ends r m s.end g))) ∙ append-nil (take (octet_count_used_by_end s.end octets) octets)

  handled_heard : (m : ℕ) (s : Session ModelEnd) (octets : List ℕ) (says : Says) → octets_heard_in_entries (handled model_ends r m s (Hears octets) says).1 ≡ take (octet_count_used_by_end s.end octets) octets
  unfolding Unheard
  handled_heard m s octets says =
      let f = follows_handled r IsUnheard Unheard (unheard r) usual_unheard m s (Hears octets) says in
      ap octets_heard_in_entries f.is
      ∙ heard_of-append (fed model_ends r m s (Hears octets)).1 f.rest
      ∙ ap (λ z. octets_heard_in_entries (fed model_ends r m s (Hears octets)).1 ++ z) f.holds
      ∙ append-nil (octets_heard_in_entries (fed model_ends r m s (Hears octets)).1)
      ∙ fed_heard m s octets

  abbrev Done : Session ModelEnd × List ℕ → Type 0
  Done x = ((length x.1 == 0) || x.0.broken) ≡ true

  pours_heard : (m : ℕ) (x : Session ModelEnd × List ℕ) (says : List Says) → octets_heard_in_entries (part_for_each_answer (poured model_ends r m) x says).1 ++ (part_for_each_answer (poured model_ends r m) x says).0.1 ≡ x.1
  unfolding poured octets_heard_in_entries
  pours_heard m x says =
      runs_lift (λ (x y : Session ModelEnd × List ℕ) xs. octets_heard_in_entries xs ++ y.1 ≡ x.1) (poured model_ends r m) (λ x. refl)
      (λ x y z xs ys p q. ap (λ w. w ++ z.1) (heard_of-append xs ys) ∙ append_assoc (octets_heard_in_entries xs) (octets_heard_in_entries ys) z.1 ∙ ap (λ w. octets_heard_in_entries xs ++ w) q ∙ p)
      (λ x a. elim (cases_Bool ((length x.1 == 0) || x.0.broken)) [
        | inl p ↦ rw p refl
        | inr p ↦ rw p (ap (λ w. w ++ drop (octet_count_used_by_end x.0.end x.1) x.1) (handled_heard m x.0 x.1 a) ∙ take-append-drop (octet_count_used_by_end x.0.end x.1) x.1)
      ])
      x says

  runs_done : (m : ℕ) (x : Session ModelEnd × List ℕ) → Done x → (says : List Says) → (part_for_each_answer (poured model_ends r m) x says).0 ≡ x
  unfolding part_for_each_answer poured
  runs_done m x p [] = refl
  runs_done m x p (a ∷ says) = rw p (runs_done m x p says)

  dropped : (k : ModelEnd) (xs : List ℕ) (n : ℕ) (b : Bool) → ((length xs == 0) || b) ≡ false → length xs ≤ suc n → length (drop (octet_count_used_by_end k xs) xs) ≤ n
  dropped k [] n b p q = absurd (true≢false p)
  dropped k (x ∷ xs) n b p q =
      let one : 1 ≤ octet_count_used_by_end k (x ∷ xs) = uses.one k x xs in
      let l : length (drop (octet_count_used_by_end k (x ∷ xs)) (x ∷ xs)) ≡ length (x ∷ xs) - octet_count_used_by_end k (x ∷ xs) = length-drop (octet_count_used_by_end k (x ∷ xs)) (x ∷ xs) in
      omega arith

  poured_on : (m n : ℕ) (says : List Says) (a : Says) (x : Session ModelEnd × List ℕ) → length x.1 ≤ suc n
      → ((y : Session ModelEnd × List ℕ) → length y.1 ≤ n → Done (part_for_each_answer (poured model_ends r m) y (exactly n nothing_said says)).0)
      → Done (part_for_each_answer (poured model_ends r m) (poured model_ends r m x a).0 (exactly n nothing_said says)).0
  unfolding poured
  poured_on m n says a x q on =
      elim (cases_Bool ((length x.1 == 0) || x.0.broken)) [
        | inl p ↦ rw p (subst Done (sym (runs_done m x p (exactly n nothing_said says))) p)
        | inr p ↦ rw p (on ((handled model_ends r m x.0 (Hears x.1) a).0, drop (octet_count_used_by_end x.0.end x.1) x.1) (dropped x.0.end x.1 n x.0.broken p q))
      ]

  all_poured : (m n : ℕ) (says : List Says) (x : Session ModelEnd × List ℕ) → length x.1 ≤ n → Done (part_for_each_answer (poured model_ends r m) x (exactly n nothing_said says)).0
  unfolding part_for_each_answer exactly
  all_poured m zero says x q =
      ap (λ z. z || x.0.broken) (eq-eqb (length x.1) 0 (omega arith))
  all_poured m (suc n) [] x q = poured_on m n [] nothing_said x q (λ y l. all_poured m n [] y l)
  all_poured m (suc n) (a ∷ says) x q = poured_on m n says a x q (λ y l. all_poured m n says y l)

  record Heard (s t : Session ModelEnd) (xs : List JournalEntry) (cs : List Call) : Type 0 where
    sound : Sound t
    rest : List ℕ
    is : octets_heard_in_entries xs ++ rest ≡ taken_in cs
    whole : has_stalled xs ≡ false → rest ≡ []
    gone : is_released model_ends t ≡ false → (is_released model_ends s ≡ false) × (has_stalled xs ≡ false)
    silent : is_released model_ends s ≡ true → (octets_heard_in_entries xs ≡ []) × (taken_in cs ≡ [])

  Hearing : Session ModelEnd → Session ModelEnd → List JournalEntry → List Call → Type 0
  Hearing s t xs cs = Sound s → Heard s t xs cs

  silently : (s t : Session ModelEnd) (xs : List JournalEntry) (cs : List Call) → Sound t → octets_heard_in_entries xs ≡ [] → taken_in cs ≡ [] → Gone s t xs [] → Heard s t xs cs
  unfolding Gone
  silently s t xs cs sound p q g = record {
    sound = sound;
    rest = [];
    is = append-nil (octets_heard_in_entries xs) ∙ p ∙ sym q;
    whole = λ e. refl;
    gone = g;
    silent = λ e. (p, q);
  }

  two_nil : (xs ys : List ℕ) → xs ≡ [] → ys ≡ [] → xs ++ ys ≡ []
  two_nil xs ys p q = ap (λ z. z ++ ys) p ∙ q

  heard_then : (s t u : Session ModelEnd) (xs ys : List JournalEntry) (cs ds : List Call) → Heard s t xs cs → Heard t u ys ds → Heard s u (xs ++ ys) (cs ++ ds)
  heard_then s t u xs ys cs ds a b =
      elim (cases_Bool (is_released model_ends t)) [
        | inl p ↦ record {
          sound = b.sound;
          rest = a.rest;
          is =
              ap (λ z. z ++ a.rest) (heard_of-append xs ys ∙ ap (λ z. octets_heard_in_entries xs ++ z) (b.silent p).0 ∙ append-nil (octets_heard_in_entries xs))
              ∙ a.is
              ∙ sym (taken_in-append cs ds ∙ ap (λ z. taken_in cs ++ z) (b.silent p).1 ∙ append-nil (taken_in cs));
          whole = λ q. a.whole (first_calm xs ys q);
          gone = λ e. let d = b.gone e in let c = a.gone d.0 in (c.0, both_calm xs ys c.1 d.1);
          silent = λ q. (
            heard_of-append xs ys ∙ two_nil (octets_heard_in_entries xs) (octets_heard_in_entries ys) (a.silent q).0 (b.silent p).0,
            taken_in-append cs ds ∙ two_nil (taken_in cs) (taken_in ds) (a.silent q).1 (b.silent p).1,
          );
        }
        | inr p ↦
            let c = a.gone p in
            record {
              sound = b.sound;
              rest = b.rest;
              is =
                  ap (λ z. z ++ b.rest) (heard_of-append xs ys)
                  ∙ append_assoc (octets_heard_in_entries xs) (octets_heard_in_entries ys) b.rest
                  ∙ ap (λ z. octets_heard_in_entries xs ++ z) b.is
                  ∙ ap (λ z. z ++ taken_in ds) (sym (append-nil (octets_heard_in_entries xs)) ∙ ap (λ z. octets_heard_in_entries xs ++ z) (sym (a.whole c.1)) ∙ a.is)
                  ∙ sym (taken_in-append cs ds);
              whole = λ q. b.whole (rest_calm xs ys q);
              gone = λ e. let d = b.gone e in (c.0, both_calm xs ys c.1 d.1);
              silent = λ q. absurd (true≢false (sym q ∙ c.0));
            }
      ]

  -- events, none of which is octets, and a call that takes nothing
  handled_silent : (m : ℕ) (s : Session ModelEnd) (g : GivenToSession) (says : Says) (call : Call) → IsUnheard g → takes call ≡ []
      → Hearing s (handled model_ends r m s g says).0 (handled model_ends r m s g says).1 (call ∷ [])
  unfolding Hearing Sounds Unheard taken_in
  handled_silent m s g says call p q sound =
      silently s (handled model_ends r m s g says).0 (handled model_ends r m s g says).1 (call ∷ [])
      (steady_handled r (λ g. Unit {0}) Sounds (sounds_steadily stays breaks_release r) any_usual m s g says tt sound)
      (steady_handled r IsUnheard Unheard (unheard r) usual_unheard m s g says p)
      (ap (λ z. z ++ []) q)
      (steady_handled r (λ g. Unit {0}) Gone gone any_usual m s g says tt)

  still_sound : (s : Session ModelEnd) (output : List ℕ) → Sound s → Sound (record s { output = output })
  still_sound s output h = record { broken = h.broken; closing = h.closing }

  length_none : (xs : List ℕ) (b : Bool) → ((length xs == 0) || b) ≡ true → b ≡ false → xs ≡ []
  length_none [] b p q = refl
  length_none (x ∷ xs) b p q =
      absurd (true≢false (sym p ∙ or_none (length (x ∷ xs) == 0) b (ne_eqb (length (x ∷ xs)) 0 (λ e. let y : ⊥ = omega arith in y)) q))

  whole_of : (s : Session ModelEnd) → Sound s → is_released model_ends s ≡ false → s.broken ≡ false
  whole_of s sound live = elim (cases_Bool s.broken) [ inl p ↦ absurd (true≢false (sym (sound.broken p) ∙ live)) | inr p ↦ p ]

  read_heard : (m : ℕ) (s : Session ModelEnd) (waits : ℕ) (reading : Reading) (says : List Says) → is_released model_ends s ≡ false
      → Hearing s (came model_ends reading r m s says).0 (came model_ends reading r m s says).1 (Reads s.number most_read waits reading ∷ [])
  unfolding Hearing Sounds Breaks Gone taken_in pours octets_heard_in_entries has_stalled
  read_heard m s waits (Gave octets) says live sound =
      let rounds = exactly (length octets) nothing_said says in
      let y = part_for_each_answer (poured model_ends r m) (s, octets) rounds in
      record {
        sound = steady_pours r (λ g. Unit {0}) Sounds (sounds_steadily stays breaks_release r) any_usual (λ octets. tt) m s octets says sound;
        rest = y.0.1;
        is = pours_heard m (s, octets) rounds ∙ sym (append-nil octets);
        whole = λ q. length_none y.0.1 y.0.0.broken (all_poured m (length octets) says (s, octets) (omega arith))
            (steady_pours r IsWhole Breaks (breaking r) usual_whole (λ octets. refl) m s octets says q (whole_of s sound live));
        gone = steady_pours r (λ g. Unit {0}) Gone gone any_usual (λ octets. tt) m s octets says;
        silent = λ q. absurd (true≢false (sym q ∙ live));
      }
  read_heard m s waits NotNow says live sound = silently s s [] (Reads s.number most_read waits NotNow ∷ []) sound refl refl (λ p. (p, refl))
  read_heard m s waits End says live sound = handled_silent m s Ends (first_answer_of nothing_said says) (Reads s.number most_read waits End) tt refl sound
  read_heard m s waits Failed says live sound = handled_silent m s Faults (first_answer_of nothing_said says) (Reads s.number most_read waits Failed) tt refl sound

  quiet : Quiet r Hearing
  unfolding Hearing Gone taken_in octets_heard_in_entries has_stalled Sounds Unheard
  quiet = record {
    none = λ s sound. silently s s [] [] sound refl refl (λ p. (p, refl));
    then_ = λ s t u xs ys cs ds p q sound. let a = p sound in heard_then s t u xs ys cs ds a (q a.sound);
    wrote = λ s n whole sound.
        silently s (record s { output = drop n s.output }) [] (Writes s.number s.output (write.Some n) ∷ []) (still_sound s (drop n s.output) sound) refl refl (λ p. (p, refl));
    put_off = λ s sound. silently s s [] (Writes s.number s.output write.NotNow ∷ []) sound refl refl (λ p. (p, refl));
    noted = λ s sound. silently s (made s) [] [] (record { broken = sound.broken; closing = sound.closing }) refl refl (λ p. (p, refl));
    failed = λ m s says live sound. handled_silent m s Faults says (Writes s.number s.output write.Failed) tt refl sound;
    failed_released = λ s over sound.
        silently s (record s { broken = true }) [] (Writes s.number s.output write.Failed ∷ []) (record { broken = λ p. over; closing = sound.closing }) refl refl (λ p. (p, refl));
    ticked = λ m s says due sound.
        silently s (handled model_ends r m s Ticks says).0 (handled model_ends r m s Ticks says).1 []
        (steady_handled r (λ g. Unit {0}) Sounds (sounds_steadily stays breaks_release r) any_usual m s Ticks says tt sound)
        (steady_handled r IsUnheard Unheard (unheard r) usual_unheard m s Ticks says tt) refl
        (steady_handled r (λ g. Unit {0}) Gone gone any_usual m s Ticks says tt);
  }

  calls : Calls r Hearing
  calls = record { quiet = quiet; read = λ m s a live. read_heard m s a.waits a.reading a.says live }

  -- ---- a session and all that came at it

  record HeardTo (s : Session ModelEnd) (xs : List JournalEntry) (cs : List Call) : Type 0 where
    sound : Sound s
    rest : List ℕ
    is : octets_heard_in_entries xs ++ rest ≡ taken_in cs
    whole : has_stalled xs ≡ false → rest ≡ []
    gone : is_released model_ends s ≡ false → has_stalled xs ≡ false

  record HeardAll (xs : List JournalEntry) (cs : List Call) : Type 0 where
    rest : List ℕ
    is : octets_heard_in_entries xs ++ rest ≡ taken_in cs
    whole : has_stalled xs ≡ false → rest ≡ []

  heard_to : (s t : Session ModelEnd) (xs ys : List JournalEntry) (cs ds : List Call) → HeardTo s xs cs → Hearing s t ys ds → HeardTo t (xs ++ ys) (cs ++ ds)
  unfolding Hearing
  heard_to s t xs ys cs ds h q =
      let b = q h.sound in
      elim (cases_Bool (is_released model_ends s)) [
        | inl p ↦ record {
          sound = b.sound;
          rest = h.rest;
          is =
              ap (λ z. z ++ h.rest) (heard_of-append xs ys ∙ ap (λ z. octets_heard_in_entries xs ++ z) (b.silent p).0 ∙ append-nil (octets_heard_in_entries xs))
              ∙ h.is
              ∙ sym (taken_in-append cs ds ∙ ap (λ z. taken_in cs ++ z) (b.silent p).1 ∙ append-nil (taken_in cs));
          whole = λ q. h.whole (first_calm xs ys q);
          gone = λ e. absurd (true≢false (sym p ∙ (b.gone e).0));
        }
        | inr p ↦
            let c = h.gone p in
            record {
              sound = b.sound;
              rest = b.rest;
              is =
                  ap (λ z. z ++ b.rest) (heard_of-append xs ys)
                  ∙ append_assoc (octets_heard_in_entries xs) (octets_heard_in_entries ys) b.rest
                  ∙ ap (λ z. octets_heard_in_entries xs ++ z) b.is
                  ∙ ap (λ z. z ++ taken_in ds) (sym (append-nil (octets_heard_in_entries xs)) ∙ ap (λ z. octets_heard_in_entries xs ++ z) (sym (h.whole c)) ∙ h.is)
                  ∙ sym (taken_in-append cs ds);
              whole = λ q. b.whole (rest_calm xs ys q);
              gone = λ e. let d = b.gone e in both_calm xs ys c d.1;
            }
      ]

  abbrev Q : Session ModelEnd → Session ModelEnd → List JournalEntry → List Call → Type 0
  Q = Both Own Hearing

  any_given : AllGiven (λ g. Unit {0})
  any_given = record { usual = any_usual; hears = λ octets. tt; ticks = tt; ends = tt; faults = tt }

  q_calls : Calls r Q
  q_calls = calls_both r Own Hearing (usual_calls r (λ g. Unit {0}) Own (own_steady r) any_given own_bare own_reads) calls

  closed_taken : (cs ds : List Call) (n : ℕ) → taken_in (cs ++ (ds ++ Closes n ∷ [])) ≡ taken_in (cs ++ ds)
  unfolding taken_in
  closed_taken cs ds n = ap taken_in (sym (append_assoc cs ds (Closes n ∷ []))) ∙ taken_in-append (cs ++ ds) (Closes n ∷ []) ∙ append-nil (taken_in (cs ++ ds))

new_sound : (conn : ℕ) (k : ModelEnd) (mind : Mind) → Sound (begun conn k mind)
new_sound conn k mind = record { broken = λ p. absurd (true≢false (sym p)); closing = λ p. absurd (true≢false (sym p)) }

new_sound_dial : (conn : ℕ) (k : ModelEnd) (mind : Mind) → Sound (begun_dial conn k mind)
new_sound_dial conn k mind = record { broken = λ p. absurd (true≢false (sym p)); closing = λ p. absurd (true≢false (sym p)) }

module _ (stays : ReleaseStays) (breaks_release : BreaksRelease) (uses : Uses) (plan : Plan) where
  abbrev P : Session ModelEnd → Session ModelEnd → List JournalEntry → List Call → Type 0
  P = Q stays breaks_release uses (rules_of plan)

  p_calls : AllLeft (rules_of plan) P
  p_calls = all_left_of (rules_of plan) P (q_calls stays breaks_release uses (rules_of plan))

  abbrev To : Session ModelEnd → List JournalEntry → List Call → Type 0
  To = HeardTo stays breaks_release uses (rules_of plan)

  abbrev All : List JournalEntry → List Call → Type 0
  All = HeardAll stays breaks_release uses (rules_of plan)

  abbrev own : (s t : Session ModelEnd) (xs : List JournalEntry) (cs : List Call) → P s t xs cs → Own s t xs cs
  own s t xs cs p = p.0

  keeps : Keeps plan P To All
  unfolding taken_in octets_heard_in_entries has_stalled
  keeps = record {
    visit = λ s t xs ys cs ds h q. heard_to stays breaks_release uses (rules_of plan) s t xs ys cs ds h q.1;
    close = λ s t xs ys cs ds over h q.
        let m = heard_to stays breaks_release uses (rules_of plan) s t xs ys cs ds h q.1 in
        record { rest = m.rest; is = m.is ∙ sym (closed_taken stays breaks_release uses (rules_of plan) cs ds t.number); whole = m.whole };
    open_ = λ l conn mind. record {
      sound = new_sound conn (answering model_ends plan l) mind;
      rest = [];
      is = refl;
      whole = λ p. refl;
      gone = λ p. refl;
    };
    never = record { rest = []; is = refl; whole = λ p. refl };
    full = λ m conn live most. record { rest = []; is = refl; whole = λ p. refl };
    unserved = λ m conn handed. record { rest = []; is = refl; whole = λ p. refl };
  }

  abbrev begins : Caller → Loop ModelEnd → GivenToSession
  begins caller l = Begins caller.engine plan.rbc (next_u64 l.words).0

  first : (caller : Caller) (l : Loop ModelEnd) (conn : ℕ) (mind : Mind) (says : Says)
      → To (handled model_ends (rules_of plan) l.moment (begun_dial conn (calling model_ends plan caller l) mind) (begins caller l) says).0
      (handled model_ends (rules_of plan) l.moment (begun_dial conn (calling model_ends plan caller l) mind) (begins caller l) says).1 []
  unfolding taken_in Unheard Gone Sounds
  first caller l conn mind says =
      let r = rules_of plan in
      let m = l.moment in
      let s = begun_dial conn (calling model_ends plan caller l) mind in
      let g = begins caller l in
      record {
        sound = steady_handled r (λ g. Unit {0}) Sounds (sounds_steadily stays breaks_release r) (any_usual stays breaks_release uses r) m s g says tt (new_sound_dial conn (calling model_ends plan caller l) mind);
        rest = [];
        is = append-nil (octets_heard_in_entries (handled model_ends r m s g says).1) ∙ steady_handled r IsUnheard Unheard (unheard r) usual_unheard m s g says tt;
        whole = λ p. refl;
        gone = λ p. (steady_handled r (λ g. Unit {0}) (Gone stays breaks_release uses r) (gone stays breaks_release uses r) (any_usual stays breaks_release uses r) m s g says tt p).1;
      }

  heard_so : (o : Option (Session ModelEnd)) (conn : ℕ) (xs : List JournalEntry) (cs : List Call) → Fits plan P p_calls own To All keeps o conn xs cs → All xs cs
  unfolding Fits
  heard_so None conn xs cs h = h
  heard_so (Some s) conn xs cs h = record { rest = h.1.rest; is = h.1.is; whole = h.1.whole }

  all_so : (o : Out (Course ModelEnd)) → Knows plan P p_calls own To All keeps o.entries o.calls o.state.loop.sessions → AreHeard o
  all_so o k conn =
      let xs = of conn o.entries in
      let h = heard_so (session_of_connection conn o.state.loop.sessions) conn xs (calls_at conn o.calls) (k.fits conn) in
      record {
        beginning = record { rest = h.rest; is = h.is ∙ sym (taken_at conn o.calls) };
        all = λ p. sym (append-nil (octets_heard_in_entries xs)) ∙ ap (λ z. octets_heard_in_entries xs ++ z) (sym (h.whole p)) ∙ h.is ∙ sym (taken_at conn o.calls);
      }

pub octets_are_heard : ReleaseStays → BreaksRelease → Uses → OctetsAreHeard
octets_are_heard stays breaks_release uses = record {
  serving = λ plan c turns h.
      all_so stays breaks_release uses plan (run model_ends plan c turns)
      (knows_run plan (P stays breaks_release uses plan) (p_calls stays breaks_release uses plan) (own stays breaks_release uses plan) (To stays breaks_release uses plan)
      (All stays breaks_release uses plan) (keeps stays breaks_release uses plan) c turns h.none h.rises);
  dialling = λ plan caller c address a h.
      all_so stays breaks_release uses plan (dials model_ends plan caller c address a)
      (knows_dial_of plan caller (P stays breaks_release uses plan) (p_calls stays breaks_release uses plan) (own stays breaks_release uses plan) (To stays breaks_release uses plan)
      (All stays breaks_release uses plan) (keeps stays breaks_release uses plan) (max c.loop.moment a.first)
      (λ l conn mind says now. first stays breaks_release uses plan caller l conn mind says) c address a h.none refl h.rises);
}
