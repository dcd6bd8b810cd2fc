-- A link of two stacks recovers, as its pair of ends does.
use Rattle.std.proofs.Common.{◌≡◌, ℕ, max, List, ◌∷◌, ◌++◌, sym, ap, subst, ◌∙◌}
use Rattle.er_settings.specs.Values.{Settings}
use Rattle.er_settings.specs.Ranges.{AllAllowed}
use Rattle.er_end_model.specs.Ends.{End as Stack}
use Rattle.pair_model.specs.Links.{EndKind}
use Rattle.pair_model.specs.Steps.{NoFrameWaits, pair_step, pair_run}
use Rattle.pair_model.specs.Steps as on_pair
use Rattle.pair_model.specs.Walks.{pair_run_append}
use Rattle.er_end_pair_laws.specs.Openings.{EndLinkOpening, Agree}
use Rattle.er_end_pair_laws.specs.Links.{EndLink as Pair, end_kind}
use Rattle.er_end_pair_laws.specs.Laws as of_pair
use Rattle.er_end_pair_laws.specs.Recovery as of_recovery
use Rattle.drill_model.specs.Outcomes.{Occurrence}
use Rattle.drill_model.specs.Links.{Link, LinkOpening}
use Rattle.drill_model.specs.Kinds.{EndsAgree}
use Rattle.drill_model.specs.Recovery.{IsLive, GoesOnAt, GoOn, NoneWaits, IsRepairable}
use Rattle.drill_model.specs.Claims.{HasAll}
use Rattle.drill_laws.proofs.Emptied.{IsUsedUp}
use Rattle.drill_laws.proofs.Wiring.{Sees}
use Rattle.drill_laws.proofs.Stacked.{Numbers, opening_of, finds_of, stack_level, paired, IsStacked}
use Rattle.drill_laws.proofs.Given.{Given, run_through, none_waits}
use Rattle.drill_laws.proofs.StackLaws.{pair_opening, pair_of, agrees, kept, connected_end, taken_of}

live_pair : (k : Numbers) (l : Link) (history : List Occurrence) (p : Pair) → Sees (stack_level k) l history p → IsRepairable history l → of_recovery.AreLive p
live_pair k l history p v repairable = (subst IsLive v.e_is repairable.e_live, subst IsLive v.r_is repairable.r_live)

go_on_pair : (k : Numbers) (l : Link) (history : List Occurrence) (p : Pair) (moment : ℕ) → Sees (stack_level k) l history p → GoOn moment l → of_recovery.GoOn moment p
go_on_pair k l history p moment v go_on =
    let same : max l.moment moment ≡ max p.moment moment = ap (λ (n : ℕ). max n moment) v.moment_is in (
      subst (λ (n : ℕ). of_recovery.GoesOnAt n p.e) same (subst (GoesOnAt (max l.moment moment)) v.e_is go_on.0),
      subst (λ (n : ℕ). of_recovery.GoesOnAt n p.r) same (subst (GoesOnAt (max l.moment moment)) v.r_is go_on.1),
    )

module _ (settings : Settings) (l : Link) (history : List Occurrence) (t : IsStacked settings l history) (allowed : AllAllowed settings)
    (repairable : IsRepairable history l) where
  abbrev before : Pair
  before = pair_of settings l history t

  empty_pair : (k : Link) (all : List Occurrence) (p : Pair) → Sees (stack_level t.k) k all p → IsUsedUp k.opening k → of_pair.IsEmpty p
  empty_pair k all p v empty =
      let parts : IsUsedUp (opening_of t.k) k = subst (λ (o : LinkOpening). IsUsedUp o k) v.opening_is empty in (
        sym v.from_e_is ∙ parts.0,
        sym v.from_r_is ∙ parts.1,
        taken_of settings l history t allowed k.e p.e v.e_is parts.2,
        taken_of settings l history t allowed k.r p.r v.r_is parts.3,
      )

  recovered : (k : Link) (all : List Occurrence) (p : Pair) → Sees (stack_level t.k) k all p → of_recovery.IsRecovered p → HasAll all k
  recovered k all p v is =
      record {
        e_connected = connected_end settings l history t allowed k.e p.e v.e_is is.all.e_connected;
        r_connected = connected_end settings l history t allowed k.r p.r v.r_is is.all.r_connected;
        at_r = v.accepted_r ∙ is.all.at_r ∙ sym v.sent_e;
        at_e = v.accepted_e ∙ is.all.at_e ∙ sym v.sent_r;
      }

  -- behind passes and takes, a tick, and passes and takes
  pub stacks_repair : of_recovery.Recovery → (m k : Link) (begun all : List Occurrence) (a : Given (stack_level t.k) before m begun) → NoneWaits m → (moment : ℕ) → GoOn moment m
      → Given (stack_level t.k) (pair_step (end_kind (finds_of t.k)) (on_pair.Tick moment) (pair_run (end_kind (finds_of t.k)) before a.steps)) k all → IsUsedUp k.opening k → HasAll all k
  stacks_repair law m k begun all a none moment go_on c empty =
      let s : EndLinkOpening = pair_opening settings l history t allowed in
      let kind : EndKind Stack = end_kind (finds_of t.k) in
      let opened : Pair = paired settings t.k t.moment in
      let q : Pair = pair_run kind before a.steps in
      let z : Pair = pair_run kind (pair_step kind (on_pair.Tick moment) q) c.steps in
      let agree : Agree s = agrees t.k (subst EndsAgree t.sees.opening_is repairable.agree) in
      let one : of_pair.end_link_after s (t.steps ++ a.steps) ≡ q = pair_run_append kind t.steps a.steps opened in
      let whole : of_pair.end_link_after s (t.steps ++ a.steps ++ on_pair.Tick moment ∷ c.steps) ≡ z = run_through kind opened t.steps a.steps c.steps (on_pair.Tick moment) in
      recovered k all z c.sees
      (subst of_recovery.IsRecovered whole
      (law s t.steps t.fit agree (kept settings l history t allowed repairable.ordered) (live_pair t.k l history before t.sees repairable) a.steps a.are
      (subst NoFrameWaits (sym one) (none_waits (stack_level t.k) m begun q a.sees none)) moment
      (subst (of_recovery.GoOn moment) (sym one) (go_on_pair t.k m begun q moment a.sees go_on)) c.steps c.are
      (subst of_pair.IsEmpty (sym whole) (empty_pair k all z c.sees empty))))
