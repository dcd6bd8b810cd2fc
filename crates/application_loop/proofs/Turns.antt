-- What a loop's own acts leave of it: a question to the clock, a drawn word, a turn, a read, and the close of a connection that gets no end.
use Rattle.std.proofs.Common.{arith, inl, inr, ◌≡◌, ◌∙◌, ◌⊎◌, ◌<◌, ◌+◌, ◌==◌, ◌||◌, ℕ, Bool, true, false, if◌then◌else◌, max, List, [], ◌∷◌, ◌++◌, map, take, refl, sym, ap, subst, append-nil, Option, Some, Result, Ok, Err, true≢false}
use Rattle.std.specs.List.{All, slice_get}
use Rattle.std.proofs.lemmas.List.Elements.{All-nil, All-cons, All-head, All-tail, All-weaker}
use Rattle.std.proofs.lemmas.Option.{slice_get_within, get_or_from_slice_get}
use Rattle.std.proofs.lemmas.Bool.{cases_Bool, eq-eqb, eqb-true, ne_eqb}
use Rattle.std.specs.Result.{IsErrAnd}
use Rattle.safety_automaton.specs.Keys.{key_at}
use Rattle.link_trait.specs.Wires.{Reading, reading_of}
use Rattle.link_trait.specs.declared.wires.Conn.{Conn}
use Rattle.link_trait.specs.declared.wires.Happening.{Happening}
use Rattle.link_trait.specs.declared.wires.Happening.TheVariants as happening
use Rattle.link_trait.specs.declared.wires.ReadAnswer.{ReadAnswer}
use Rattle.link_trait.specs.declared.wires.ReadAnswer.TheVariants as read_answer
use Rattle.outside.specs.Acts.{Act, Called, Asked, Drew, Turned, Read, Closed}
use Rattle.outside.specs.Doings.{Told, Did}
use Rattle.application_model.specs.Ends.{is_known}
use Rattle.application_model.specs.Claims.{RiseTo, events_at}
use Rattle.application_model.specs.Services.{Service}
use Rattle.application_port.specs.Ports.{PortState, NobodyThere, Talking, attendance_of}
use Rattle.application_serving.specs.SeenOctets.{SeenApplication, NobodySeen, octets_given_to, octets_read_of, is_brought_in, is_closed_in, seen_behind_act, application_in_acts, octets_of_reading, seen_to_come, seen_to_say}
use Rattle.application_serving.specs.Serving.{ServesSoFar, ServiceDeed, acts_in_service, items_in_service, octets_told_at, octets_heard_at}
use Rattle.application_serving.specs.Going.{ServiceRun, ToDo, ServesBy}
use Rattle.application_serving.specs.OneMore.{given_to_quiet, read_of_quiet, brought_in_quiet, closed_in_quiet, moment_asked, moment_quiet, brought_by_accepted}
use Rattle.application_serving.specs.ActDeeds.{does_asked, does_drew, does_turned, does_read, does_closed_unknown}
use Rattle.application_serving.specs.GoingSteps.{deed_of, acts_one_more, items_without_items, service_without_items, serves_of_going}
use Rattle.application_loop.specs.Standing.{Beside, scene, Serving, Rested, Standing, IsFresh, LinkIs, IsAtPort, left_at, known_of_link, number_of_link}
use Rattle.application_loop.specs.Living.{entries_for_service, scene_of_live, accepts_more, Living, Resting, RestingOr}
use Rattle.application_loop.specs.Turning.{IsAlike, Pouring, HasRead, IsNewcomer, Coming, SeesMoment, comes_now, IsSeen, IsBrought}
use Rattle.application_loop.specs.declared.link.Link.{Link}
use Rattle.application_loop.specs.declared.desk.Desk.{Desk}
use Rattle.application_loop.specs.declared.live_service.LiveService.{LiveService}
use Rattle.application_loop.specs.declared.live_service.Brought.{Brought}
use Rattle.application_loop.specs.declared.live_service.Brought.TheVariants.{Application, Wires}
use Rattle.application_loop.proofs.Newcomers.{no_ends, none_told, none_heard}
use Rattle.application_loop.proofs.StandingActs.{GoesByAct, beside_act, serves_by_act}

-- ---- two loops that are alike

pub serving_alike : {run : ServiceRun} {beside : Beside} {rest : ToDo} (told : Told) (live other : LiveService) → IsAlike live other
    → Serving run beside rest (scene_of_live told live) → Serving run beside rest (scene_of_live told other)
serving_alike {run = run} {beside = beside} {rest = rest} told live other alike serving =
    subst (λ (d : Desk). Serving run beside rest (scene told other.links.list.items d)) (sym alike.desk)
    (subst (λ (l : List Link). Serving run beside rest (scene told l live.desk)) (sym alike.links) serving)

pub standing_alike : {run : ServiceRun} {deeds : List ServiceDeed} {beside : Beside} (told : Told) (live other : LiveService) → IsAlike live other
    → Standing run deeds beside (scene_of_live told live) → Standing run deeds beside (scene_of_live told other)
standing_alike {run = run} {deeds = deeds} {beside = beside} told live other alike stands =
    subst (λ (d : Desk). Standing run deeds beside (scene told other.links.list.items d)) (sym alike.desk)
    (subst (λ (l : List Link). Standing run deeds beside (scene told l live.desk)) (sym alike.links) stands)

pub rested_alike : (told : Told) (live other : LiveService) → IsAlike live other → Rested (scene_of_live told live) → Rested (scene_of_live told other)
rested_alike told live other alike rested =
    subst (λ (d : Desk). Rested (scene told other.links.list.items d)) (sym alike.desk)
    (subst (λ (l : List Link). Rested (scene told l live.desk)) (sym alike.links) rested)

pub living_alike : {run : ServiceRun} {rest : ToDo} (told : Told) (live other : LiveService) → IsAlike live other → Living run told rest live
    → Living run told rest other
living_alike told live other alike living = record {
  beside = living.beside;
  serving = serving_alike told live other alike living.serving;
  moment = living.moment ∙ sym alike.moment;
  finds = living.finds ∙ ap (λ k. key_at (entries_for_service k)) (sym alike.keys);
  held = living.held ∙ sym alike.held;
  draining = living.draining ∙ sym alike.draining;
  accepts =
      living.accepts
      ∙ ap (λ (d : Bool). accepts_more d live.calls) (sym alike.draining)
      ∙ ap (λ (c : Bool). accepts_more other.draining c) (sym alike.calls);
  left = living.left;
}

pub resting_alike : {run : ServiceRun} (told : Told) (live other : LiveService) → IsAlike live other → Resting run told live → Resting run told other
resting_alike told live other alike resting = record {
  living = living_alike told live other alike resting.living;
  rested = rested_alike told live other alike resting.rested;
}

pub accepts_alike : (live other : LiveService) → IsAlike live other → accepts_more live.draining live.calls ≡ true
    → accepts_more other.draining other.calls ≡ true
accepts_alike live other alike accepts =
    ap (λ (d : Bool). accepts_more d other.calls) alike.draining ∙ ap (λ (c : Bool). accepts_more live.draining c) alike.calls ∙ accepts

pub accepts_none : (draining calls : Bool) → (draining ≡ true) ⊎ (calls ≡ true) → accepts_more draining calls ≡ false
accepts_none true calls either = refl
accepts_none false true either = refl
accepts_none false false (inl is) = absurd cc
accepts_none false false (inr is) = absurd cc

pub accepts_some : (draining calls : Bool) → draining ≡ false → calls ≡ false → accepts_more draining calls ≡ true
accepts_some draining calls d c = ap (λ (b : Bool). accepts_more b calls) d ∙ ap (λ (b : Bool). accepts_more false b) c

abbrev pub coming_alike : {run : ServiceRun} (told : Told) (live other : LiveService) (conn : ℕ) → IsAlike live other → Coming run told live conn
    → Coming run told other conn
coming_alike told live other conn alike coming = record {
  resting = record {
    living = record {
      beside = coming.resting.living.beside;
      serving = record {
        deeds = coming.resting.living.serving.deeds;
        going = coming.resting.living.serving.going;
        stands = standing_alike told live other alike coming.resting.living.serving.stands;
      };
      moment = coming.resting.living.moment ∙ sym alike.moment;
      finds = coming.resting.living.finds ∙ ap (λ k. key_at (entries_for_service k)) (sym alike.keys);
      held = coming.resting.living.held ∙ sym alike.held;
      draining = coming.resting.living.draining ∙ sym alike.draining;
      accepts = coming.resting.living.accepts ∙ ap (λ (d : Bool). accepts_more d true) (sym alike.draining);
      left = coming.resting.living.left;
    };
    rested = rested_alike told live other alike coming.resting.rested;
  };
  some = coming.some;
  number = coming.number;
  next = λ accepts.
      coming.next
      (ap (λ (d : Bool). accepts_more d live.calls) (sym alike.draining)
      ∙ ap (λ (c : Bool). accepts_more other.draining c) (sym alike.calls)
      ∙ accepts);
  newcomer = coming.newcomer;
}

-- ---- an end of a part

pub resting_serves : {run : ServiceRun} {told : Told} {live : LiveService} → Resting run told live → ServesBy run told
resting_serves resting = serves_of_going resting.living.serving.going

pub living_serves : {run : ServiceRun} {told : Told} {rest : ToDo} {live : LiveService} → Living run told rest live → ServesBy run told
living_serves living = serves_of_going living.serving.going

-- it broke off
pub broke_resting : {T F : Type 0} (P : F → Type 0) (run : ServiceRun) (told : Told) (live : LiveService) (result : Result T F) → IsErrAnd result P
    → ServesBy run told → RestingOr run told live result
broke_resting P run told live (Ok done) broke serves = absurd broke
broke_resting P run told live (Err fault) broke serves = serves

-- whatever it says
pub rests_or : {T F : Type 0} (run : ServiceRun) (told : Told) (live : LiveService) (result : Result T F) → Resting run told live → RestingOr run told live result
rests_or run told live (Ok done) resting = resting
rests_or run told live (Err fault) resting = resting_serves resting

-- ---- an act that is nothing in the history

pub so_by : {run : ServiceRun} {told : Told} {rest : ToDo} {live : LiveService} (living : Living run told rest live)
    → ServesSoFar run.settings (acts_in_service living.serving.deeds) (items_in_service living.serving.deeds)
so_by living = living.serving.going.always living.serving.deeds [] (sym (append-nil living.serving.deeds))

-- of a loop, the moment alone changes
abbrev pub acted : {run : ServiceRun} {told : Told} {rest : ToDo} {live : LiveService} (living : Living run told rest live) (act : Act) (now : Told) (at : ℕ)
    → Did told now (act ∷ [])
    → GoesByAct (acts_in_service living.serving.deeds) act living.beside now at living.beside.numbered living.beside.accepts living.beside.left
    → ServesSoFar run.settings (acts_in_service living.serving.deeds ++ act ∷ []) (items_in_service living.serving.deeds)
    → Living run now rest (record live { moment = at })
acted {run = run} {told = told} {rest = rest} {live = live} living act now at did goes so = record {
  beside = beside_act living.beside at living.beside.numbered living.beside.accepts living.beside.left;
  serving =
      serves_by_act run act living.beside now at living.beside.numbered living.beside.accepts living.beside.left rest (scene_of_live told live) living.serving did
      goes so;
  moment = refl;
  finds = living.finds;
  held = living.held;
  draining = living.draining;
  accepts = living.accepts;
  left = living.left;
}

fresh_above : (conn : ℕ) (act : Act) → octets_read_of conn (act ∷ []) ≡ [] → octets_given_to conn (act ∷ []) ≡ [] → is_brought_in conn (act ∷ []) ≡ false
    → is_closed_in conn (act ∷ []) ≡ false → IsFresh conn (act ∷ [])
fresh_above conn act read given brought closed = record { read = read; given = given; brought = brought; closed = closed }

pub goes_asked : {run : ServiceRun} {told : Told} {rest : ToDo} {live : LiveService} (living : Living run told rest live) (now : Told) (m : ℕ)
    → Did told now (Asked m ∷ [])
    → GoesByAct (acts_in_service living.serving.deeds) (Asked m) living.beside now (max live.moment m) living.beside.numbered living.beside.accepts
    living.beside.left
goes_asked living now m did = record {
  files = refl;
  text = refl;
  given = λ conn. refl;
  left = λ conn. sym (append-nil (living.beside.left conn));
  seen = refl;
  fresh = λ conn above. (above, fresh_above conn (Asked m) refl refl refl refl);
  moment = moment_asked (acts_in_service living.serving.deeds) m ∙ ap (λ (n : ℕ). max n m) (living.serving.stands.moment ∙ living.moment);
  below = living.serving.stands.below;
  numbered = did.wires.opened ∙ living.serving.stands.numbered;
}

pub living_asked : {run : ServiceRun} {rest : ToDo} (told now : Told) (live : LiveService) (m : ℕ) → Did told now (Asked m ∷ []) → Living run told rest live
    → Living run now rest (record live { moment = max live.moment m })
living_asked {run = run} told now live m did living =
    acted living (Asked m) now (max live.moment m) did (goes_asked living now m did) (does_asked (so_by living) m)

pub resting_asked : {run : ServiceRun} (told now : Told) (live : LiveService) (m : ℕ) → Did told now (Asked m ∷ []) → Resting run told live
    → Resting run now (record live { moment = max live.moment m })
resting_asked told now live m did resting = record { living = living_asked told now live m did resting.living; rested = resting.rested }

-- the newcomer stays one
pub newcomer_on : (conn : ℕ) (deeds : List ServiceDeed) (act : Act) → IsNewcomer conn deeds → octets_read_of conn (act ∷ []) ≡ []
    → octets_given_to conn (act ∷ []) ≡ [] → is_brought_in conn (act ∷ []) ≡ false → is_closed_in conn (act ∷ []) ≡ false
    → IsNewcomer conn (deeds ++ deed_of act [] ∷ [])
newcomer_on conn deeds act is read given brought closed =
    let acts : acts_in_service (deeds ++ deed_of act [] ∷ []) ≡ acts_in_service deeds ++ act ∷ [] = acts_one_more deeds (deed_of act []) in
    let items : items_in_service (deeds ++ deed_of act [] ∷ []) ≡ items_in_service deeds = items_without_items deeds act in
    record {
      read = ap (octets_read_of conn) acts ∙ read_of_quiet conn (acts_in_service deeds) act read ∙ is.read;
      given = ap (octets_given_to conn) acts ∙ given_to_quiet conn (acts_in_service deeds) act given ∙ is.given;
      brought = ap (is_brought_in conn) acts ∙ brought_in_quiet conn (acts_in_service deeds) act brought ∙ is.brought;
      closed = ap (is_closed_in conn) acts ∙ closed_in_quiet conn (acts_in_service deeds) act closed ∙ is.closed;
      ends = ap (λ (s : Service). s.ends conn) (service_without_items deeds act) ∙ is.ends;
      told = ap (octets_told_at conn) items ∙ is.told;
      heard = ap (octets_heard_at conn) items ∙ is.heard;
      unknown = ap (λ (s : Service). is_known conn s.known) (service_without_items deeds act) ∙ is.unknown;
    }

abbrev pub coming_asked : {run : ServiceRun} (told now : Told) (live : LiveService) (conn m : ℕ) → Did told now (Asked m ∷ []) → Coming run told live conn
    → Coming run now (record live { moment = max live.moment m }) conn
coming_asked told now live conn m did coming =
    let living = coming.resting.living in
    record {
      resting = record {
        living = acted living (Asked m) now (max live.moment m) did (goes_asked living now m did) (does_asked (so_by living) m);
        rested = coming.resting.rested;
      };
      some = coming.some;
      number = coming.number;
      next = coming.next;
      newcomer = newcomer_on conn living.serving.deeds (Asked m) coming.newcomer refl refl refl refl;
    }

pub goes_drew : {run : ServiceRun} {told : Told} {rest : ToDo} {live : LiveService} (living : Living run told rest live) (now : Told) (w : ℕ)
    → Did told now (Drew w ∷ [])
    → GoesByAct (acts_in_service living.serving.deeds) (Drew w) living.beside now live.moment living.beside.numbered living.beside.accepts living.beside.left
goes_drew living now w did = record {
  files = refl;
  text = refl;
  given = λ conn. refl;
  left = λ conn. sym (append-nil (living.beside.left conn));
  seen = refl;
  fresh = λ conn above. (above, fresh_above conn (Drew w) refl refl refl refl);
  moment = moment_quiet (acts_in_service living.serving.deeds) (Drew w) refl ∙ living.serving.stands.moment ∙ living.moment;
  below = living.serving.stands.below;
  numbered = did.wires.opened ∙ living.serving.stands.numbered;
}

abbrev pub coming_drew : {run : ServiceRun} (told now : Told) (live : LiveService) (conn w : ℕ) → Did told now (Drew w ∷ []) → Coming run told live conn
    → Coming run now live conn
coming_drew told now live conn w did coming =
    let living = coming.resting.living in
    record {
      resting = record {
        living = acted living (Drew w) now live.moment did (goes_drew living now w did) (does_drew (so_by living) w);
        rested = coming.resting.rested;
      };
      some = coming.some;
      number = coming.number;
      next = coming.next;
      newcomer = newcomer_on conn living.serving.deeds (Drew w) coming.newcomer refl refl refl refl;
    }

-- ---- a turn

-- a turn changes what is seen of the application only where one comes
writable_seen : (seen told : SeenApplication) (held : List ℕ) (port : PortState) (c : Conn) → IsAtPort seen told held port
    → comes_now (happening.Writable c) (attendance_of port) ≡ false → (if c.0 == 0 then seen_to_come seen else seen) ≡ seen
writable_seen seen told held NobodyThere c is comes = ap (λ (b : Bool). if b then seen_to_come seen else seen) comes
writable_seen seen told held (Talking standing output) c is comes =
    elim (cases_Bool (c.0 == 0)) [
      | inl mine ↦ ap (λ (b : Bool). if b then seen_to_come seen else seen) mine ∙ ap seen_to_come is.acts ∙ sym is.acts
      | inr other ↦ ap (λ (b : Bool). if b then seen_to_come seen else seen) other
    ]

quiet_turn : {run : ServiceRun} (told now : Told) (live : LiveService) (until : Option ℕ) (what : Happening) (resting : Resting run told live)
    → Did told now (Called (Turned until what) ∷ []) → ((conn : ℕ) → is_brought_in conn (Called (Turned until what) ∷ []) ≡ false)
    → seen_behind_act (application_in_acts (acts_in_service resting.living.serving.deeds)) (Called (Turned until what))
    ≡ application_in_acts (acts_in_service resting.living.serving.deeds)
    → now.wires.opened ≡ told.wires.opened → Resting run now live
quiet_turn told now live until what resting did brought seen opened =
    let living = resting.living in
    record {
      living =
          acted living (Called (Turned until what)) now live.moment did
          record {
            files = refl;
            text = refl;
            given = λ conn. refl;
            left = λ conn. sym (append-nil (living.beside.left conn));
            seen = seen;
            fresh = λ conn above. (above, fresh_above conn (Called (Turned until what)) refl refl (brought conn) refl);
            moment = moment_quiet (acts_in_service living.serving.deeds) (Called (Turned until what)) refl ∙ living.serving.stands.moment ∙ living.moment;
            below = living.serving.stands.below;
            numbered = opened ∙ living.serving.stands.numbered;
          }
          (does_turned (so_by living) until what seen);
      rested = resting.rested;
    }

-- whoever is known was brought
unknown_yet : (run : ServiceRun) (deeds : List ServiceDeed) (left : ℕ → List ℕ) (conn : ℕ) (links : List Link) → is_brought_in conn (acts_in_service deeds) ≡ false
    → All (LinkIs run deeds left) links → is_known conn (map known_of_link links) ≡ false
unknown_yet run deeds left conn [] never each = refl
unknown_yet run deeds left conn (link ∷ links) never each =
    let rest = unknown_yet run deeds left conn links never (All-tail (LinkIs run deeds left) link links each) in
    let first = All-head (LinkIs run deeds left) link links each in
    elim (cases_Bool (link.number == conn)) [
      | inl same ↦ absurd (true≢false (sym first.brought ∙ ap (λ (n : ℕ). is_brought_in n (acts_in_service deeds)) (eqb-true link.number conn same) ∙ never))
      | inr other ↦ ap (λ (b : Bool). b || is_known conn (map known_of_link links)) other ∙ rest
    ]

pub never_accepts : (draining : Bool) → accepts_more draining true ≡ false
never_accepts true = refl
never_accepts false = refl

accepted : {run : ServiceRun} (told now : Told) (live : LiveService) (until : Option ℕ) (c : Conn) → Did told now (Called (Turned until (happening.Accepted c)) ∷ [])
    → c.0 ≡ told.wires.opened + 1 → Resting run told live → Coming run now live c.0
accepted {run = run} told now live until c did next resting =
    let act = Called (Turned until (happening.Accepted c)) in
    let living = resting.living in
    let deeds = living.serving.deeds in
    let stands = living.serving.stands in
    let count : c.0 ≡ living.beside.numbered + 1 = next ∙ ap (λ (n : ℕ). n + 1) stands.numbered in
    let above : living.beside.numbered < c.0 = omega (arith, count) in
    let so = so_by living in
    let fresh = stands.fresh c.0 above in
    let none : events_at c.0 (items_in_service deeds) ≡ [] = so.brought c.0 fresh.brought in
    let acts : acts_in_service (deeds ++ deed_of act [] ∷ []) ≡ acts_in_service deeds ++ act ∷ [] = acts_one_more deeds (deed_of act []) in
    let items : items_in_service (deeds ++ deed_of act [] ∷ []) ≡ items_in_service deeds = items_without_items deeds act in
    let goes : GoesByAct (acts_in_service deeds) act living.beside now live.moment (living.beside.numbered + 1) false living.beside.left = record {
      files = refl;
      text = refl;
      given = λ conn. refl;
      left = λ conn. sym (append-nil (living.beside.left conn));
      seen = refl;
      fresh = λ conn beyond.
          let less : living.beside.numbered < conn = omega (arith, beyond) in
          let other : (c.0 == conn) ≡ false = ne_eqb c.0 conn (λ same. let e : c.0 ≡ conn = same in omega (arith, beyond, count, e)) in
          (less, fresh_above conn act refl refl (ap (λ (b : Bool). b || false) other) refl);
      moment = moment_quiet (acts_in_service deeds) act refl ∙ stands.moment ∙ living.moment;
      below = λ accepts. absurd cc;
      numbered = did.wires.opened ∙ ap (λ (n : ℕ). n + 1) stands.numbered;
    } in
    record {
      resting = record {
        living = record {
          beside = beside_act living.beside live.moment (living.beside.numbered + 1) false living.beside.left;
          serving =
              serves_by_act run act living.beside now live.moment (living.beside.numbered + 1) false living.beside.left (λ kind s. []) (scene_of_live told live)
              living.serving did goes (does_turned so until (happening.Accepted c) refl);
          moment = refl;
          finds = living.finds;
          held = living.held;
          draining = living.draining;
          accepts = sym (never_accepts live.draining);
          left = living.left;
        };
        rested = resting.rested;
      };
      some = omega (arith, above);
      number = count;
      next = λ accepts. count ∙ ap (λ (n : ℕ). n + 1) (sym (stands.below (living.accepts ∙ accepts)));
      newcomer = record {
        read = ap (octets_read_of c.0) acts ∙ read_of_quiet c.0 (acts_in_service deeds) act refl ∙ fresh.read;
        given = ap (octets_given_to c.0) acts ∙ given_to_quiet c.0 (acts_in_service deeds) act refl ∙ fresh.given;
        brought = ap (is_brought_in c.0) acts ∙ brought_by_accepted c until (acts_in_service deeds);
        closed = ap (is_closed_in c.0) acts ∙ closed_in_quiet c.0 (acts_in_service deeds) act refl ∙ fresh.closed;
        ends = ap (λ (s : Service). s.ends c.0) (service_without_items deeds act) ∙ no_ends (items_in_service deeds) c.0 none;
        told = ap (octets_told_at c.0) items ∙ none_told (items_in_service deeds) c.0 none;
        heard = ap (octets_heard_at c.0) items ∙ none_heard (items_in_service deeds) c.0 none;
        unknown =
            ap (λ (s : Service). is_known c.0 s.known) (service_without_items deeds act)
            ∙ ap (is_known c.0) stands.known
            ∙ unknown_yet run deeds living.beside.left c.0 live.links.list.items fresh.brought stands.each;
      };
    }

pub turned : {run : ServiceRun} (told now : Told) (live : LiveService) (until : Option ℕ) (what : Happening) → Did told now (Called (Turned until what) ∷ [])
    → ((c : Conn) → what ≡ happening.Accepted c → c.0 ≡ told.wires.opened + 1) → comes_now what (attendance_of live.desk.port) ≡ false → Resting run told live
    → IsSeen run now live what
turned told now live until (happening.Accepted c) did next comes resting = accepted told now live until c did (next c refl) resting
turned told now live until (happening.Readable c) did next comes resting =
    quiet_turn told now live until (happening.Readable c) resting did (λ conn. refl) refl did.wires.opened
turned told now live until (happening.Writable c) did next comes resting =
    quiet_turn told now live until (happening.Writable c) resting did (λ conn. refl)
    (writable_seen _ _ resting.living.beside.held live.desk.port c resting.living.serving.stands.desk.port comes) did.wires.opened
turned told now live until happening.Quiet did next comes resting =
    quiet_turn told now live until happening.Quiet resting did (λ conn. refl) refl did.wires.opened
turned told now live until happening.Ended did next comes resting =
    quiet_turn told now live until happening.Ended resting did (λ conn. refl) refl did.wires.opened
turned told now live until happening.Failed did next comes resting =
    quiet_turn told now live until happening.Failed resting did (λ conn. refl) refl did.wires.opened

-- ---- a connection that gets no end

pub closed_unknown : {run : ServiceRun} (told now : Told) (live : LiveService) (conn : ℕ) → Did told now (Called (Closed conn) ∷ [])
    → accepts_more live.draining live.calls ≡ false → Coming run told live conn → Resting run now live
closed_unknown told now live conn did none coming =
    let act = Called (Closed conn) in
    let living = coming.resting.living in
    let deeds = living.serving.deeds in
    let some = coming.some in
    let number = coming.number in
    let other : (conn == 0) ≡ false = ne_eqb conn 0 (λ same. let e : conn ≡ 0 = same in omega (arith, some, e)) in
    let goes : GoesByAct (acts_in_service deeds) act living.beside now live.moment living.beside.numbered living.beside.accepts living.beside.left = record {
      files = refl;
      text = refl;
      given = λ c. refl;
      left = λ c. sym (append-nil (living.beside.left c));
      seen = ap (λ (b : Bool). if b then NobodySeen else application_in_acts (acts_in_service deeds)) other;
      fresh = λ c beyond.
          let apart : (conn == c) ≡ false = ne_eqb conn c (λ same. let e : conn ≡ c = same in omega (arith, number, beyond, e)) in
          (beyond, fresh_above c act refl refl refl (ap (λ (b : Bool). b || false) apart));
      moment = moment_quiet (acts_in_service deeds) act refl ∙ living.serving.stands.moment ∙ living.moment;
      below = living.serving.stands.below;
      numbered = did.wires.opened ∙ living.serving.stands.numbered;
    } in
    let on = acted living act now live.moment did goes (does_closed_unknown (so_by living) conn some coming.newcomer.unknown) in
    record {
      living = record {
        beside = on.beside;
        serving = on.serving;
        moment = on.moment;
        finds = on.finds;
        held = on.held;
        draining = on.draining;
        accepts = on.accepts ∙ never_accepts live.draining ∙ sym none;
        left = on.left;
      };
      rested = coming.resting.rested;
    }

-- ---- a read

same_either_way : (a b : ℕ) → (a == b) ≡ (b == a)
same_either_way a b =
    elim (cases_Bool (b == a)) [
      | inl same ↦ eq-eqb a b (sym (eqb-true b a same)) ∙ sym same
      | inr other ↦ ne_eqb a b (λ same. true≢false (sym (eq-eqb b a (sym same)) ∙ other)) ∙ sym other
    ]

above_from : (low top : ℕ) (links : List Link) → RiseTo low (map number_of_link links) top → All (λ (l : Link). low < l.number) links
above_from low top [] rise = All-nil _
above_from low top (link ∷ links) rise =
    All-cons (λ (l : Link). low < l.number) link links rise.0
    (All-weaker (λ (l : Link). link.number < l.number) (λ (l : Link). low < l.number)
    (λ l less. let first = rise.0 in omega (arith, first, less)) links (above_from link.number top links rise.1))

-- what is so of each link is so of the one at a place
at_place : (P : Link → Type 0) (links : List Link) (place : ℕ) (link : Link) → slice_get links place ≡ Some link → All P links → P link
at_place P links place link is each =
    subst P (get_or_from_slice_get links place link link is) (each place link (slice_get_within links place link is))

if_nothing : (b : Bool) (octets : List ℕ) → octets ≡ [] → (if b then octets else []) ≡ []
if_nothing true octets none = none
if_nothing false octets none = refl

module _ {run : ServiceRun} (told now : Told) (live : LiveService) (place : ℕ) (link : Link) (at : slice_get live.links.list.items place ≡ Some link)
    (resting : Resting run told live) (size : ℕ) (reading : Reading) (did : Did told now (Called (Read link.number size reading) ∷ [])) where
  abbrev living : Living run told (λ kind s. []) live
  living = resting.living

  abbrev deeds : List ServiceDeed
  deeds = resting.living.serving.deeds

  abbrev act : Act
  act = Called (Read link.number size reading)

  not_application : (link.number == 0) ≡ false
  not_application =
      let some = at_place (λ (l : Link). 0 < l.number) live.links.list.items place link at
      (above_from 0 resting.living.beside.opened live.links.list.items resting.living.serving.stands.rise) in
      ne_eqb link.number 0 (λ same. let e : link.number ≡ 0 = same in omega (arith, some, e))

  not_fresh : (c : ℕ) → resting.living.beside.numbered < c → (link.number == c) ≡ false
  not_fresh c beyond =
      let is = at_place (LinkIs run deeds resting.living.beside.left) live.links.list.items place link at resting.living.serving.stands.each in
      let never = (resting.living.serving.stands.fresh c beyond).brought in
      ne_eqb link.number c (λ same. true≢false (sym is.brought ∙ ap (λ (n : ℕ). is_brought_in n (acts_in_service deeds)) same ∙ never))

  goes_read : (octets : ℕ → List ℕ)
      → ((c : ℕ) → octets c ≡ resting.living.beside.left c ++ octets_read_of c (act ∷ []))
      → GoesByAct (acts_in_service deeds) act resting.living.beside now live.moment resting.living.beside.numbered resting.living.beside.accepts octets
  goes_read octets left = record {
    files = refl;
    text = refl;
    given = λ c. refl;
    left = left;
    seen =
        ap
        (λ (b : Bool). if b then seen_to_say (octets_of_reading reading) (application_in_acts (acts_in_service deeds)) else application_in_acts (acts_in_service deeds))
        not_application;
    fresh = λ c beyond. (
      beyond,
      fresh_above c act (ap (λ (b : Bool). (if b then octets_of_reading reading else []) ++ []) (not_fresh c beyond)) refl refl refl,
    );
    moment = moment_quiet (acts_in_service deeds) act refl ∙ resting.living.serving.stands.moment ∙ resting.living.moment;
    below = resting.living.serving.stands.below;
    numbered = did.wires.opened ∙ resting.living.serving.stands.numbered;
  }

  -- nothing was read
  pub read_nothing : octets_of_reading reading ≡ [] → Resting run now live
  read_nothing none = record {
    living =
        acted resting.living act now live.moment did
        (goes_read resting.living.beside.left
        (λ c.
        sym (ap (λ (o : List ℕ). resting.living.beside.left c ++ (o ++ [])) (if_nothing (link.number == c) (octets_of_reading reading) none)
        ∙ append-nil (resting.living.beside.left c))))
        (does_read (so_by resting.living) link.number size reading);
    rested = resting.rested;
  }

  -- octets were read, and are left
  pub read_pours : (octets : List ℕ) → octets_of_reading reading ≡ octets → Pouring run now live link.number octets
  read_pours octets gave =
      let goes =
      goes_read (left_at link.number octets)
      (λ c.
      ap (λ (b : Bool). if b then octets else []) (same_either_way c link.number)
      ∙ ap (λ (o : List ℕ). if link.number == c then o else []) (sym gave)
      ∙ sym (ap (λ (o : List ℕ). o ++ ((if link.number == c then octets_of_reading reading else []) ++ [])) (ap (λ (f : ℕ → List ℕ). f c) resting.living.left)
      ∙ append-nil (if link.number == c then octets_of_reading reading else []))) in
      record {
        beside = record resting.living.beside { moment = live.moment };
        rests = record {
          serving =
              serves_by_act run act resting.living.beside now live.moment resting.living.beside.numbered resting.living.beside.accepts
              (left_at link.number octets) (λ kind s. []) (scene_of_live told live) resting.living.serving did goes
              (does_read (so_by resting.living) link.number size reading);
          rested = resting.rested;
        };
        is = record {
          moment = refl;
          finds = resting.living.finds;
          held = resting.living.held;
          draining = resting.living.draining;
          accepts = resting.living.accepts;
          left = resting.living.left;
        };
      }

pouring_alike : {run : ServiceRun} {number : ℕ} {octets : List ℕ} (told : Told) (live other : LiveService) → IsAlike live other
    → Pouring run told live number octets → Pouring run told other number octets
pouring_alike told live other alike pours = record {
  beside = pours.beside;
  rests = record {
    serving = serving_alike told live other alike pours.rests.serving;
    rested = rested_alike told live other alike pours.rests.rested;
  };
  is = record {
    moment = pours.is.moment ∙ sym alike.moment;
    finds = pours.is.finds ∙ ap (λ k. key_at (entries_for_service k)) (sym alike.keys);
    held = pours.is.held ∙ sym alike.held;
    draining = pours.is.draining ∙ sym alike.draining;
    accepts =
        pours.is.accepts
        ∙ ap (λ (d : Bool). accepts_more d live.calls) (sym alike.draining)
        ∙ ap (λ (c : Bool). accepts_more other.draining c) (sym alike.calls);
    left = pours.is.left;
  };
}

-- behind a read, into a slice that is the loop's then
pub has_read : {run : ServiceRun} (told now : Told) (live other : LiveService) (place : ℕ) (link : Link) (size : ℕ) (answer : ReadAnswer)
    → slice_get live.links.list.items place ≡ Some link → IsAlike live other → Did told now (Called (Read link.number size (reading_of answer other.read)) ∷ [])
    → Resting run told live → HasRead run now other link.number answer
has_read told now live other place link size (read_answer.Some count) at alike did resting =
    pouring_alike now live other alike
    (read_pours told now live place link at resting size (reading_of (read_answer.Some count) other.read) did (take count other.read) refl)
has_read told now live other place link size read_answer.NotNow at alike did resting =
    resting_alike now live other alike (read_nothing told now live place link at resting size (reading_of read_answer.NotNow other.read) did refl)
has_read told now live other place link size read_answer.End at alike did resting =
    resting_alike now live other alike (read_nothing told now live place link at resting size (reading_of read_answer.End other.read) did refl)
has_read told now live other place link size read_answer.Failed at alike did resting =
    resting_alike now live other alike (read_nothing told now live place link at resting size (reading_of read_answer.Failed other.read) did refl)

-- ---- the clock is asked

pub resting_seen : {run : ServiceRun} (told now : Told) (live after : LiveService) → SeesMoment told live now after → Resting run told live → Resting run now after
resting_seen {run = run} told now live after sees resting =
    subst (λ (l : LiveService). Resting run now l) (sym sees.is) (resting_asked told now live sees.moment sees.did resting)

brought_asked : (run : ServiceRun) (told now : Told) (live : LiveService) (brought : Brought) (m : ℕ) → Did told now (Asked m ∷ [])
    → ((moment : ℕ) → IsBrought run told moment live brought)
    → IsBrought run now (max live.moment m) (record live { moment = max live.moment m }) brought
brought_asked run told now live Application m did is = living_asked told now live m did (is (max live.moment m))
brought_asked run told now live (Wires (happening.Accepted c)) m did is = coming_asked told now live c.0 m did (is 0)
brought_asked run told now live (Wires (happening.Readable c)) m did is = resting_asked told now live m did (is 0)
brought_asked run told now live (Wires (happening.Writable c)) m did is = resting_asked told now live m did (is 0)
brought_asked run told now live (Wires happening.Quiet) m did is = resting_asked told now live m did (is 0)
brought_asked run told now live (Wires happening.Ended) m did is = resting_asked told now live m did (is 0)
brought_asked run told now live (Wires happening.Failed) m did is = resting_asked told now live m did (is 0)

pub brought_seen : (run : ServiceRun) (told now : Told) (live after : LiveService) (brought : Brought) → SeesMoment told live now after
    → ((moment : ℕ) → IsBrought run told moment live brought) → IsBrought run now after.moment after brought
brought_seen run told now live after brought sees is =
    subst (λ (l : LiveService). IsBrought run now l.moment l brought) (sym sees.is) (brought_asked run told now live brought sees.moment sees.did is)

pub coming_seen : (run : ServiceRun) (told now : Told) (live after : LiveService) (conn : ℕ) → SeesMoment told live now after → Coming run told live conn
    → Coming run now after conn
coming_seen run told now live after conn sees coming =
    subst (λ (l : LiveService). Coming run now l conn) (sym sees.is) (coming_asked told now live conn sees.moment sees.did coming)
