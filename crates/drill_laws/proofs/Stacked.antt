-- A link of two stacks of the drill is a pair of ends of the whole stack: an event at a stack is that event at the pair's end.
use Rattle.std.proofs.Common.{◌≡◌, ℕ, Bool, List, [], ◌∷◌, ◌++◌, refl}
use Rattle.std.specs.Prelude.{Option}
use Rattle.er_base.specs.Octets.{AreOctets}
use Rattle.er_settings.specs.Values.{Settings}
use Rattle.des_block.specs.declared.triple_key.TripleKey.{TripleKey}
use Rattle.safety_automaton.specs.Rules.{StepsOnly}
use Rattle.safety_pair_laws.specs.Openings.{OfKeys, key_for}
use Rattle.safety_pair_laws.specs.Deliveries.{FitsOpening}
use Rattle.er_end_model.specs.Steps.{Finds}
use Rattle.er_end_model.specs.Ends.{End as Stack, Event, Call, Answer, opened, step_event}
use Rattle.pair_model.specs.Links.{opened_pair_link}
use Rattle.pair_model.specs.Steps.{PairStep, SendsOnly, pair_run}
use Rattle.pair_model.specs.Walks.{all_send_append}
use Rattle.er_end_pair_laws.specs.Links.{EndLink, end_behind_event, end_kind}
use Rattle.er_end_pair_laws.specs.Steps.{AllFit}
use Rattle.drill_model.specs.Outcomes.{DrillOutcome, Occurrence}
use Rattle.drill_model.specs.StackReports.{IsOrderly, OpensOrderly, CallsReport}
use Rattle.drill_model.specs.Ends.{OfStack}
use Rattle.drill_model.specs.Ends as event
use Rattle.drill_model.specs.Waiting.{Lose, Repeat, Alter, Put}
use Rattle.drill_model.specs.Links.{Link, LinkOpening, OfStacks, opened_stacks, LinkStep, Send, Pass, Change, Take, Release, Tick, link_step}
use Rattle.drill_laws.proofs.StackGoing.{StackDoes, stack_does}
use Rattle.drill_laws.proofs.Wiring.{Level, Does, Acts, Sees}
use Rattle.drill_laws.proofs.Wired.{as_step, one_more_sees, opened_sees}

-- ---- two stacks as they are opened

-- the numbers of the engine and of the radio block centre, the KMAC of each, and their random numbers
pub record Numbers : Type 0 where
  pub engine : ℕ
  pub rbc : ℕ
  pub ke : TripleKey
  pub kr : Option TripleKey
  pub ra : ℕ
  pub rb : ℕ

abbrev pub opening_of : Numbers → LinkOpening
opening_of k = OfStacks k.engine k.rbc k.ke k.kr k.ra k.rb

abbrev pub key_of : Numbers → (engine rbc : ℕ) → Option TripleKey
key_of k = key_for (OfKeys k.engine k.rbc k.ke k.kr k.ra k.rb)

abbrev pub finds_of : Numbers → Finds
finds_of k = λ now. key_of k

abbrev pub stack_level : Numbers → Level Stack
stack_level k = record {
  opening = opening_of k;
  end = OfStack;
  kind = end_kind (finds_of k);
  sent = λ m. m.core.upper.sent;
  accepted = λ m. m.core.upper.accepted;
  released = λ m. m.core.released;
  Stands = λ m. IsOrderly m.core;
  Tells = λ facts. Unit {0};
  tells_none = tt;
  tells_more = λ xs ys x y. tt;
}

-- ---- an event at a stack

does_so : (k : Numbers) (now : ℕ) (m : Stack) (e : Event) (os : List DrillOutcome) (late : Bool) → StackDoes now e m os late
    → Does (stack_level k) m (end_behind_event now e m) (OfStack (step_event now e m).0, os) late
does_so k now m e os late d = record {
  end_is = refl;
  frames_are = d.frames;
  stands = d.orderly;
  sent_is = d.says.sent_is;
  accepted_is = d.says.accepted_is;
  releases_are = d.says.releases;
  stays = d.says.stays;
  in_order = d.says.disorder_is;
  disturbs = d.says.disturbed_is;
  none_passed = d.says.passes_are;
  tells = λ side. tt;
}

module _ (only : StepsOnly) (reports : CallsReport) where
  pub stack_acts : (k : Numbers) → Acts (stack_level k)
  stack_acts k = record {
    start = λ now m orderly. does_so k now m _ _ _ (stack_does only reports (key_of k) now m event.Start orderly);
    receive = λ now octets m orderly. does_so k now m _ _ _ (stack_does only reports (key_of k) now m (event.Receive octets) orderly);
    send = λ now user m orderly. does_so k now m _ _ _ (stack_does only reports (key_of k) now m (event.Send user) orderly);
    take = λ now m orderly. does_so k now m _ _ _ (stack_does only reports (key_of k) now m event.Take orderly);
    release = λ now sub m orderly. does_so k now m _ _ _ (stack_does only reports (key_of k) now m (event.Release sub) orderly);
    tick = λ now m orderly. does_so k now m _ _ _ (stack_does only reports (key_of k) now m event.Tick orderly);
  }

-- ---- a link from its opening on

-- the octets of a user's text are octets
abbrev pub FitsStackStep : LinkStep → Type 0
FitsStackStep (Send side octets) = AreOctets octets
FitsStackStep _ = Unit {0}

fits_as_step : (s : LinkStep) → FitsStackStep s → SendsOnly AreOctets (as_step s)
fits_as_step (Send side octets) fit = fit
fits_as_step (Pass side) fit = tt
fits_as_step (Change side Lose) fit = tt
fits_as_step (Change side Repeat) fit = tt
fits_as_step (Change side (Alter place mask)) fit = tt
fits_as_step (Change side (Put octets)) fit = tt
fits_as_step (Take side) fit = tt
fits_as_step (Release side sub) fit = tt
fits_as_step (Tick moment) fit = tt

-- the pair that was opened with these settings
abbrev pub paired : Settings → Numbers → (moment : ℕ) → EndLink
paired settings k moment = opened_pair_link (end_kind (finds_of k)) moment (opened (Call settings k.engine k.rbc k.ke k.rb moment)) (opened (Answer settings k.rbc k.ra moment))

pub record IsStacked (settings : Settings) (l : Link) (history : List Occurrence) : Type 0 where
  pub k : Numbers
  pub moment : ℕ
  pub steps : List PairStep
  pub numbers_fit : FitsOpening (OfKeys k.engine k.rbc k.ke k.kr k.ra k.rb)
  pub fit : AllFit steps
  pub sees : Sees (stack_level k) l history (pair_run (end_kind (finds_of k)) (paired settings k moment) steps)

module _ (only : StepsOnly) (reports : CallsReport) where
  pub stacked_steps : (settings : Settings) (l : Link) (history : List Occurrence) (s : LinkStep) → FitsStackStep s → IsStacked settings l history
      → IsStacked settings (link_step l s).0 (history ++ (link_step l s).1)
  stacked_steps settings l history s fit t =
      record {
        k = t.k;
        moment = t.moment;
        steps = t.steps ++ as_step s ∷ [];
        numbers_fit = t.numbers_fit;
        fit = all_send_append AreOctets t.steps (as_step s ∷ []) t.fit (fits_as_step s fit, tt);
        sees = one_more_sees (stack_level t.k) (stack_acts only reports t.k) l history (paired settings t.k t.moment) t.steps s t.sees;
      }

  -- its numbers stay
  pub stacked_numbers : (settings : Settings) (l : Link) (history : List Occurrence) (s : LinkStep) (fit : FitsStackStep s) (t : IsStacked settings l history)
      → (stacked_steps settings l history s fit t).k ≡ t.k
  unfolding stacked_steps
  stacked_numbers settings l history s fit t = refl

  pub stacked_opens : OpensOrderly → (settings : Settings) (moment : ℕ) (k : Numbers) → FitsOpening (OfKeys k.engine k.rbc k.ke k.kr k.ra k.rb)
      → let a = opened_stacks settings moment k.engine k.rbc k.ke k.kr k.ra k.rb in IsStacked settings a.0 a.1
  stacked_opens orderly settings moment k fit =
      record {
        k = k;
        moment = moment;
        steps = [];
        numbers_fit = fit;
        fit = tt;
        sees = opened_sees (stack_level k) (stack_acts only reports k) moment (opened (Call settings k.engine k.rbc k.ke k.rb moment)) (opened (Answer settings k.rbc k.ra moment))
            (orderly (Call settings k.engine k.rbc k.ke k.rb moment)) (orderly (Answer settings k.rbc k.ra moment)) refl refl refl refl;
      }

  pub opened_numbers : (orderly : OpensOrderly) (settings : Settings) (moment : ℕ) (k : Numbers) (fit : FitsOpening (OfKeys k.engine k.rbc k.ke k.kr k.ra k.rb))
      → (stacked_opens orderly settings moment k fit).k ≡ k
  unfolding stacked_opens
  opened_numbers orderly settings moment k fit = refl
