-- Ends of both kinds side by side, as a kind of end: the loop over them is carried to the loop over each.
use Rattle.std.proofs.Common.{◌≡◌, ◌∙◌, ℕ, ◌+◌, Bool, true, false, if◌then◌else◌, List, [], ◌∷◌, ◌++◌, length, take, drop, Option, Some, None, refl, sym, ap, ap₂, subst, subst₂, arith, append-nil, append_assoc}
use Rattle.std.specs.Prelude.{is_some}
use Rattle.std.proofs.Math.Seq.{drop-append_seam}
use Rattle.er_base.specs.declared.release.Release.{Release}
use Rattle.er_settings.specs.Values.{Settings}
use Rattle.er_settings.specs.Ranges.{AllAllowed}
use Rattle.hdlc_frames.specs.Framing.{Verdict, frames_of}
use Rattle.hdlc_frames.specs.Deframing as deframing
use Rattle.hdlc_frames.specs.Deframing.{has_verdicts}
use Rattle.hdlc_frames.specs.Laws.{KeptStandsForStream}
use Rattle.hdlc_station_model.specs.Events.{news}
use Rattle.er_end_model.specs.Ends.{Opening, Call, Answer, Event, Start, Come, Send, Take, Leave, Tick, Ended, Fault, Stalled, End, opened, step_event}
use Rattle.er_end.specs.KeptEnds as kept
use Rattle.er_end.specs.KeptEnds.{KEnd, kept_opened, kept_end_behind_event, tells}
use Rattle.er_end.specs.Standing.{EndStands, MadeStands, event_of, StepsAlike, ShowsAlike}
use Rattle.loop_model.specs.Ends.{EndOps, ModelEnd, model_ends, used_behind, octet_count_used_by_end, used_part}
use Rattle.loop_model.specs.Outs.{Out, changed}
use Rattle.loop_model.specs.Sessions.{Session}
use Rattle.loop_model.specs.Loops.{Course, beginning, run, serves, dials}
use Rattle.loop_session.specs.Keeping.{kept_ends}
use Rattle.loop_session.specs.Standing.{AreTwins, AreAlike, RunsAlike, ServesAlike, DialsAlike}
use Rattle.loop_session.proofs.Carrying.{Carries, all_carried, course_carried}
use Rattle.loop_session.proofs.CarriedLoops.{run_same, serves_same, dials_same}

-- what the lower crates say
pub record Lower : Type 0 where
  pub made : MadeStands
  pub steps : StepsAlike
  pub shows : ShowsAlike
  pub stands : KeptStandsForStream

-- an end that is kept, and an end of the model for which it stands
record Both : Type 0 where
  kept : KEnd
  model : ModelEnd
  stands : EndStands kept model

abbrev kept_in : Both → KEnd
kept_in b = b.kept

abbrev model_in : Both → ModelEnd
model_in b = b.model

-- ---- the octets that are one event

-- what comes behind one stream closes what it closes behind the other
abbrev ReadsOn : List ℕ → List ℕ → Type 0
ReadsOn came short = (octets : List ℕ) → frames_of (came ++ octets) ≡ frames_of came ++ frames_of (short ++ octets)

none_of : (vs : List Verdict) → has_verdicts vs ≡ false → vs ≡ []
none_of [] e = refl
none_of (v ∷ vs) e = absurd cc

news_is : (came short octets : List ℕ) → ReadsOn came short → news came octets ≡ frames_of (short ++ octets)
news_is came short octets on =
    ap (λ (vs : List Verdict). drop (length (frames_of came)) vs) (on octets) ∙ drop-append_seam (frames_of came) (frames_of (short ++ octets))

-- and so it does where an octet more came behind both that closes nothing
reads_more : (came short : List ℕ) (octet : ℕ) → ReadsOn came short → has_verdicts (frames_of (short ++ octet ∷ [])) ≡ false → ReadsOn (came ++ octet ∷ []) (short ++ octet ∷ [])
reads_more came short octet on none = λ octets.
    let closes_none : frames_of (came ++ octet ∷ []) ≡ frames_of came =
    on (octet ∷ []) ∙ ap (λ (vs : List Verdict). frames_of came ++ vs) (none_of (frames_of (short ++ octet ∷ [])) none) ∙ append-nil (frames_of came) in
    ap (λ (os : List ℕ). frames_of os) (append_assoc came (octet ∷ []) octets) ∙ on (octet ∷ octets)
    ∙ ap₂ (λ (vs ws : List Verdict). vs ++ ws) (sym closes_none) (ap (λ (os : List ℕ). frames_of os) (sym (append_assoc short (octet ∷ []) octets)))

count_same : (b c : Bool) (m n : ℕ) → c ≡ b → (b ≡ false → m ≡ n) → (if b then 1 else m + 1) ≡ (if c then 1 else 1 + n)
count_same true c m n e f = rw e refl
count_same false c m n e f = rw e (let q : m ≡ n = f refl in let z : m + 1 ≡ 1 + n = omega (arith, q) in z)

behind_same : (came short octets : List ℕ) → ReadsOn came short → deframing.used_behind short octets ≡ used_behind came octets
unfolding deframing.used_behind used_behind
behind_same came short [] on = refl
behind_same came short (x ∷ octets) on =
    count_same (has_verdicts (frames_of (short ++ x ∷ []))) (has_verdicts (news came (x ∷ []))) (deframing.used_behind (short ++ x ∷ []) octets) (used_behind (came ++ x ∷ []) octets)
    (ap (λ (vs : List Verdict). has_verdicts vs) (news_is came short (x ∷ []) on))
    (λ none. behind_same (came ++ x ∷ []) (short ++ x ∷ []) octets (reads_more came short x on none))

used_at : (r q : Option Release) (all m n : ℕ) → q ≡ r → (q ≡ None → m ≡ n) → (if is_some r then all else m) ≡ (if is_some q then all else n)
used_at None q all m n e f = rw e (f e)
used_at (Some why) q all m n e f = rw e refl

module _ (w : Lower) where
  -- what is kept of a stream stands for it
  reads_kept : (stream : List ℕ) → ReadsOn stream (deframing.stream_behind_kept (deframing.kept_of stream))
  reads_kept stream = λ octets. (w.stands stream octets).1.0

  used_same : (k : KEnd) (m : End) → EndStands k m → (octets : List ℕ) → kept.used_of k octets ≡ octet_count_used_by_end m octets
  unfolding kept.used_of deframing.feeding_of
  used_same k m s octets =
      used_at k.core.released m.core.released (length octets) (deframing.used_behind (deframing.stream_behind_kept k.deframer) octets) (used_behind m.stream octets)
      (sym (w.shows k m s).1)
      (λ none. ap (λ (d : deframing.KeptDeframer). deframing.used_behind (deframing.stream_behind_kept d) octets) (s.fed none)
      ∙ behind_same m.stream (deframing.stream_behind_kept (deframing.kept_of m.stream)) octets (reads_kept m.stream))

  event_same : (k : KEnd) (m : End) → EndStands k m → (event : Event) → event_of k event ≡ used_part m event
  event_same k m s Start = refl
  event_same k m s (Come finds octets) = ap (λ (n : ℕ). Come finds (take n octets)) (used_same k m s octets)
  event_same k m s (Send user) = refl
  event_same k m s Take = refl
  event_same k m s (Leave sub) = refl
  event_same k m s Tick = refl
  event_same k m s Ended = refl
  event_same k m s Fault = refl
  event_same k m s Stalled = refl

  -- ---- ends of both kinds

  abbrev both_opened : (settings : Settings) → AllAllowed settings → Opening → Both
  both_opened settings allowed (Call other me peer kmac rb now) = record {
    kept = kept_opened (Call settings me peer kmac rb now);
    model = opened (Call settings me peer kmac rb now);
    stands = w.made (Call settings me peer kmac rb now) allowed;
  }
  both_opened settings allowed (Answer other me ra now) = record {
    kept = kept_opened (Answer settings me ra now);
    model = opened (Answer settings me ra now);
    stands = w.made (Answer settings me ra now) allowed;
  }

  abbrev both_happen : ℕ → Event → Both → Both
  both_happen now event b = record {
    kept = kept_end_behind_event now event b.kept;
    model = (step_event now (used_part b.model event) b.model).0;
    stands =
        subst (λ (e : Event). EndStands (kept_end_behind_event now event b.kept) (step_event now e b.model).0) (event_same b.kept b.model b.stands event)
        (w.steps now event b.kept b.model b.stands).0;
  }

  -- openings have these settings, as those of a loop have its plan's
  abbrev both_ends : (settings : Settings) → AllAllowed settings → EndOps Both
  both_ends settings allowed = record {
    opens = both_opened settings allowed;
    happens = both_happen;
    tells = λ now event b. tells now event b.kept;
    used = λ b octets. kept.used_of b.kept octets;
    waiting = λ b. length (kept.waiting_in b.kept);
    deadline = λ b. kept.deadline_of b.kept;
    released = λ b. b.kept.core.released;
  }

  kept_carried : (settings : Settings) (allowed : AllAllowed settings) → Carries settings (both_ends settings allowed) kept_ends kept_in
  kept_carried settings allowed = record {
    calls = λ me peer kmac rb now. refl;
    answers = λ me ra now. refl;
    happens = λ m event k. refl;
    tells = λ m event k. refl;
    used = λ k octets. refl;
    waiting = λ k. refl;
    deadline = λ k. refl;
    released = λ k. refl;
  }

  model_carried : (settings : Settings) (allowed : AllAllowed settings) → Carries settings (both_ends settings allowed) model_ends model_in
  model_carried settings allowed = record {
    calls = λ me peer kmac rb now. refl;
    answers = λ me ra now. refl;
    happens = λ m event k. refl;
    tells = λ m event k.
        ap (λ (e : Event). (step_event m e k.model).1) (sym (event_same k.kept k.model k.stands event)) ∙ sym (w.steps m event k.kept k.model k.stands).1;
    used = λ k octets. sym (used_same k.kept k.model k.stands octets);
    waiting = λ k. sym (w.shows k.kept k.model k.stands).2;
    deadline = λ k. sym (w.shows k.kept k.model k.stands).0;
    released = λ k. sym (w.shows k.kept k.model k.stands).1;
  }

-- ---- loops over both

twins : (ss : List (Session Both)) → AreTwins (all_carried kept_in ss) (all_carried model_in ss)
twins [] = tt
twins (s ∷ ss) = (record { end = s.end.stands; number = refl; mind = refl; told = refl; output = refl; broken = refl; closing = refl; unmade = refl }, twins ss)

both_alike : (x : Out (Course Both)) → AreAlike (changed (course_carried kept_in) x) (changed (course_carried model_in) x)
both_alike x = record {
  entries = refl;
  calls = refl;
  order = refl;
  turns = refl;
  halt = refl;
  asked = refl;
  moment = refl;
  users = refl;
  words = refl;
  sessions = twins x.state.loop.sessions;
}

alike : (a : Out (Course KEnd)) (b : Out (Course ModelEnd)) (x : Out (Course Both)) → a ≡ changed (course_carried kept_in) x → b ≡ changed (course_carried model_in) x → AreAlike a b
alike a b x e f = subst₂ (λ (y : Out (Course KEnd)) (z : Out (Course ModelEnd)). AreAlike y z) (sym e) (sym f) (both_alike x)

pub runs_alike : Lower → RunsAlike
runs_alike w = λ plan users words turns allowed.
    let o = both_ends w plan.settings allowed in
    alike (run kept_ends plan (beginning users words) turns) (run model_ends plan (beginning users words) turns) (run o plan (beginning users words) turns)
    (run_same plan o kept_ends kept_in (kept_carried w plan.settings allowed) (beginning users words) turns)
    (run_same plan o model_ends model_in (model_carried w plan.settings allowed) (beginning users words) turns)

pub serves_alike : Lower → ServesAlike
serves_alike w = λ plan users words address listens turns allowed.
    let o = both_ends w plan.settings allowed in
    alike (serves kept_ends plan (beginning users words) address listens turns) (serves model_ends plan (beginning users words) address listens turns)
    (serves o plan (beginning users words) address listens turns)
    (serves_same plan o kept_ends kept_in (kept_carried w plan.settings allowed) (beginning users words) address listens turns)
    (serves_same plan o model_ends model_in (model_carried w plan.settings allowed) (beginning users words) address listens turns)

pub dials_alike : Lower → DialsAlike
dials_alike w = λ plan caller users words address a allowed.
    let o = both_ends w plan.settings allowed in
    alike (dials kept_ends plan caller (beginning users words) address a) (dials model_ends plan caller (beginning users words) address a)
    (dials o plan caller (beginning users words) address a)
    (dials_same plan o kept_ends kept_in (kept_carried w plan.settings allowed) caller (beginning users words) address a)
    (dials_same plan o model_ends model_in (model_carried w plan.settings allowed) caller (beginning users words) address a)
