-- Parts of a loop that work on its connections, as parts of the loop.
use Rattle.std.proofs.Common.{◌≡◌, ◌∙◌, ◌<◌, ℕ, Bool, true, false, List, [], ◌∷◌, map, refl, sym, ap, subst, Option, Some, Result, Ok, Err, true≢false, ◌==◌}
use Rattle.std.specs.List.{slice_get}
use Rattle.std.proofs.lemmas.List.{get_or-map, length-map}
use Rattle.std.proofs.lemmas.Bool.{eqb-true}
use Rattle.std.proofs.lemmas.Option.{slice_get_within, get_or_from_slice_get}
use Rattle.safety_automaton.specs.Keys.{key_at}
use Rattle.link_trait.specs.declared.wires.Conn.{Conn}
use Rattle.link_trait.specs.declared.wires.Happening.{Happening}
use Rattle.link_trait.specs.declared.wires.Happening.TheVariants as happening
use Rattle.outside.specs.Acts.{Called, Turned}
use Rattle.outside.specs.Doings.{Told, Did}
use Rattle.application_lines.specs.Standings.{at_first_line}
use Rattle.application_port.specs.Ports.{PortState, NobodyThere, Talking, attendance_of}
use Rattle.application_serving.specs.Going.{ServiceRun, ToDo}
use Rattle.application_loop.specs.Standing.{Beside, scene, Serving, AtRest, number_of_link}
use Rattle.application_loop.specs.ServingParts.{RestsOr}
use Rattle.application_loop.specs.Living.{entries_for_service, scene_of_live, accepts_more, Living, Resting, RestingOr}
use Rattle.application_loop.specs.Turning.{IsBesideLive, is_to_application, comes_now, meets_application}
use Rattle.application_loop.specs.Staying.{LinksStay}
use Rattle.application_loop.specs.declared.link.Link.{Link}
use Rattle.application_loop.specs.declared.links.Links.{Links}
use Rattle.application_loop.specs.declared.live_service.LiveService.{LiveService}
use Rattle.application_loop.proofs.Staying.{link_at, rest_stays}
use Rattle.application_loop.proofs.Attaches.{serves_comes}

-- ---- from parts to the loop, and back

pub beside_live : {run : ServiceRun} {told : Told} {rest : ToDo} {live : LiveService} (living : Living run told rest live) → IsBesideLive living.beside live
beside_live living = record {
  moment = living.moment;
  finds = living.finds;
  held = living.held;
  draining = living.draining;
  accepts = living.accepts;
  left = living.left;
}

pub at_rest : {run : ServiceRun} {told : Told} {live : LiveService} (resting : Resting run told live) → AtRest run resting.living.beside (scene_of_live told live)
at_rest resting = record { serving = resting.living.serving; rested = resting.rested }

pub living_of : {run : ServiceRun} (told : Told) (rest : ToDo) (live : LiveService) (beside : Beside) → IsBesideLive beside live
    → Serving run beside rest (scene_of_live told live) → Living run told rest live
living_of told rest live beside is serving = record {
  beside = beside;
  serving = serving;
  moment = is.moment;
  finds = is.finds;
  held = is.held;
  draining = is.draining;
  accepts = is.accepts;
  left = is.left;
}

pub resting_of : {T E : Type 0} (run : ServiceRun) (told : Told) (live : LiveService) (beside : Beside) (result : Result T E) → IsBesideLive beside live
    → RestsOr run beside (scene_of_live told live) result → RestingOr run told live result
resting_of run told live beside (Ok done) is rests = record { living = living_of told (λ kind s. []) live beside is rests.serving; rested = rests.rested }
resting_of run told live beside (Err fault) is rests = rests

-- the loop is the same but for its links and the desk
pub besides_same : (beside : Beside) (live other : LiveService) → IsBesideLive beside live → other.speaker.held.items ≡ live.speaker.held.items
    → other.keys ≡ live.keys → other.moment ≡ live.moment → other.draining ≡ live.draining → other.calls ≡ live.calls → IsBesideLive beside other
besides_same beside live other is held keys moment draining calls = record {
  moment = is.moment ∙ sym moment;
  finds = is.finds ∙ ap (λ k. key_at (entries_for_service k)) (sym keys);
  held = is.held ∙ sym held;
  draining = is.draining ∙ sym draining;
  accepts =
      is.accepts ∙ ap (λ (d : Bool). accepts_more d live.calls) (sym draining) ∙ ap (λ (b : Bool). accepts_more other.draining b) (sym calls);
  left = is.left;
}

-- ---- the link of a number

pub record IsFound (links : List Link) (place conn : ℕ) : Type 0 where
  pub link : Link
  pub at : slice_get links place ≡ Some link
  pub number : link.number ≡ conn

pub found : (links : List Link) (place number : ℕ) → slice_get (map number_of_link links) place ≡ Some number → IsFound links place number
found links place number is =
    let within = subst (λ (n : ℕ). place < n) (length-map links number_of_link) (slice_get_within (map number_of_link links) place number is) in
    let there = link_at links place within in
    record {
      link = there.link;
      at = there.at;
      number =
          ap number_of_link (sym (get_or_from_slice_get links place there.link there.link there.at))
          ∙ sym (get_or-map number_of_link links place there.link number within)
          ∙ get_or_from_slice_get (map number_of_link links) place number number is;
    }

-- ---- room at a connection

pub room_rests : {run : ServiceRun} (told : Told) (live : LiveService) (links : Links) → LinksStay live.links.list.items links.list.items
    → Resting run told live → Resting run told (record live { links = links })
room_rests {run = run} told live links stay resting =
    let living = resting.living in
    let rests = rest_stays run living.beside told live.links.list.items links.list.items live.desk stay (at_rest resting) in
    record {
      living = living_of told (λ kind s. []) (record live { links = links }) living.beside (record {
        moment = living.moment;
        finds = living.finds;
        held = living.held;
        draining = living.draining;
        accepts = living.accepts;
        left = living.left;
      }) rests.serving;
      rested = rests.rested;
    }

-- ---- an application comes

nobody_there : (what : Happening) (port : PortState) → comes_now what (attendance_of port) ≡ true → port ≡ NobodyThere
nobody_there what NobodyThere comes = refl
nobody_there what (Talking standing output) comes = absurd cc

pub never_comes : (what : Happening) (port : PortState) → comes_now what (attendance_of port) ≡ true → is_to_application what ≡ false → ⊥
never_comes what NobodyThere comes never = true≢false (sym comes ∙ never)
never_comes what (Talking standing output) comes never = absurd cc

pub record IsBehindArrival (live other : LiveService) : Type 0 where
  pub links : other.links.list.items ≡ live.links.list.items
  pub desk : other.desk ≡ record live.desk { port = Talking at_first_line [] }
  pub held : other.speaker.held.items ≡ []
  pub keys : other.keys ≡ live.keys
  pub moment : other.moment ≡ live.moment
  pub draining : other.draining ≡ live.draining
  pub calls : other.calls ≡ live.calls

arrives_by : {run : ServiceRun} (told now : Told) (live other : LiveService) (until : Option ℕ) (c : Conn)
    → Did told now (Called (Turned until (happening.Writable c)) ∷ []) → c.0 ≡ 0 → live.desk.port ≡ NobodyThere → IsBehindArrival live other
    → Resting run told live → (moment : ℕ) → Living run now (meets_application moment) other
arrives_by {run = run} told now live other until c did here nobody behind resting moment =
    let living = resting.living in
    let serving = serves_comes run living.beside (scene_of_live told live) living.serving until c here nobody now did other.desk behind.desk moment in
    living_of now (meets_application moment) other (record living.beside { held = [] })
    (record {
      moment = living.moment ∙ sym behind.moment;
      finds = living.finds ∙ ap (λ k. key_at (entries_for_service k)) (sym behind.keys);
      held = sym behind.held;
      draining = living.draining ∙ sym behind.draining;
      accepts =
          living.accepts
          ∙ ap (λ (d : Bool). accepts_more d live.calls) (sym behind.draining)
          ∙ ap (λ (b : Bool). accepts_more other.draining b) (sym behind.calls);
      left = living.left;
    })
    (subst (λ (l : List Link). Serving run (record living.beside { held = [] }) (meets_application moment) (scene now l other.desk)) (sym behind.links) serving)

pub arrives : {run : ServiceRun} (told now : Told) (live other : LiveService) (until : Option ℕ) (what : Happening) → Did told now (Called (Turned until what) ∷ [])
    → comes_now what (attendance_of live.desk.port) ≡ true → IsBehindArrival live other → Resting run told live → (moment : ℕ)
    → Living run now (meets_application moment) other
arrives told now live other until (happening.Writable c) did comes behind resting moment =
    let nobody = nobody_there (happening.Writable c) live.desk.port comes in
    let mine : (c.0 == 0) ≡ true = sym (ap (λ (p : PortState). comes_now (happening.Writable c) (attendance_of p)) nobody) ∙ comes in
    arrives_by told now live other until c did (eqb-true c.0 0 mine) nobody behind resting moment
arrives told now live other until (happening.Accepted c) did comes behind resting moment =
    absurd (never_comes (happening.Accepted c) live.desk.port comes refl)
arrives told now live other until (happening.Readable c) did comes behind resting moment =
    absurd (never_comes (happening.Readable c) live.desk.port comes refl)
arrives told now live other until happening.Quiet did comes behind resting moment = absurd (never_comes happening.Quiet live.desk.port comes refl)
arrives told now live other until happening.Ended did comes behind resting moment = absurd (never_comes happening.Ended live.desk.port comes refl)
arrives told now live other until happening.Failed did comes behind resting moment = absurd (never_comes happening.Failed live.desk.port comes refl)
