-- How a loop with an application begins: it listens or dials, the header is written, and nothing came yet.
use Rattle.std.proofs.Common.{arith, ◌≡◌, ◌∙◌, ◌+◌, ◌==◌, ◌||◌, ℕ, Bool, true, false, List, [], ◌∷◌, ◌++◌, refl, sym, ap, subst, Option, Some, Result, Ok, Err}
use Rattle.std.specs.List.{All}
use Rattle.std.proofs.lemmas.Bool.{eq-eqb, ne_eqb}
use Rattle.std.proofs.lemmas.List.Elements.{All-nil}
use Rattle.er_base.specs.LineTexts.{line_text}
use Rattle.safety_automaton.specs.Keys.{KmacEntry, key_at}
use Rattle.er_settings.specs.Values.{Settings}
use Rattle.er_trace.specs.Texts.{header_words}
use Rattle.er_end.specs.KeptEnds.{waiting_in}
use Rattle.outside.specs.Acts.{Wrote, Called, Listened, Dialled}
use Rattle.outside.specs.Doings.{Told, Did}
use Rattle.loop_session.specs.Parts.{Breaks}
use Rattle.loop_session.specs.declared.loop_fault.LoopFault.{LoopFault}
use Rattle.application_model.specs.Services.{behind_items}
use Rattle.application_port.specs.Ports.{attendance_of}
use Rattle.application_serving.specs.SeenOctets.{NobodySeen}
use Rattle.application_serving.specs.Serving.{ServesSoFar, ServiceDeed}
use Rattle.application_serving.specs.Going.{ServiceRun, Going, ServesBy}
use Rattle.application_serving.specs.ActDeeds.{so_far_nothing, does_listened, does_dialled, does_header}
use Rattle.application_serving.specs.GoingSteps.{deed_of, going_start, going_quietly, serves_of_going}
use Rattle.application_loop.specs.Standing.{Beside, scene, Standing, Serving, IsAtPort, DeskIs, none_left}
use Rattle.application_loop.specs.Living.{accepts_more, Resting, RestingOr}
use Rattle.application_loop.specs.Turning.{IsUnusedWith, IsDialled}
use Rattle.application_loop.specs.declared.link.Link.{Link}
use Rattle.application_loop.specs.declared.live_service.LiveService.{LiveService}
use Rattle.application_loop.proofs.Turns.{resting_serves, never_accepts}
use Rattle.application_loop.proofs.LinesPut.{breaks_serves}

-- the end of all: what was done serves, whatever it says
pub serves_or : {T E : Type 0} (run : ServiceRun) (told : Told) (live : LiveService) (result : Result T E) → RestingOr run told live result → ServesBy run told
serves_or run told live (Ok done) resting = resting_serves resting
serves_or run told live (Err fault) serves = serves

abbrev pub header_of : Settings → List ℕ
header_of settings = line_text (header_words settings)

module _ (run : ServiceRun) (first : Told) (address : List ℕ) (listens : Bool) (did : Did run.before first (Called (Listened address listens) ∷ [])) where
  abbrev one : ServiceDeed
  one = deed_of (Called (Listened address listens)) []

  so_one : ServesSoFar run.settings (Called (Listened address listens) ∷ []) []
  so_one = does_listened (so_far_nothing run.settings) address listens

  going_one : Going run first (one ∷ []) (λ kind s. [])
  going_one = going_quietly (Called (Listened address listens)) (going_start run) did refl so_one

  -- it broke off behind one call
  pub one_serves : ServesBy run first
  one_serves = serves_of_going going_one

  -- ---- it listens for peers

  module _ (second : Told) (at : List ℕ) (hears : Bool) (did_next : Did first second (Called (Listened at hears) ∷ [])) where
    abbrev both : List ServiceDeed
    both = one ∷ deed_of (Called (Listened at hears)) [] ∷ []

    so_both : ServesSoFar run.settings (Called (Listened address listens) ∷ Called (Listened at hears) ∷ []) []
    so_both = does_listened so_one at hears

    going_both : Going run second both (λ kind s. [])
    going_both = going_quietly (Called (Listened at hears)) going_one did_next refl so_both

    pub both_serve : ServesBy run second
    both_serve = serves_of_going going_both

    going_header : (third : Told) → Did second third (Wrote (header_of run.settings) true ∷ [])
        → Going run third (both ++ deed_of (Wrote (header_of run.settings) true) [] ∷ []) (λ kind s. [])
    going_header third wrote = going_quietly (Wrote (header_of run.settings) true) going_both wrote refl (does_header so_both refl)

    pub header_broke : (third : Told) (fault : LoopFault) → Breaks second third (Wrote (header_of run.settings) true ∷ []) fault → ServesBy run third
    header_broke third fault breaks =
        breaks_serves second third (header_of run.settings) fault going_both (λ wrote. serves_of_going (going_header third wrote)) breaks

    -- behind the header nothing came yet
    pub begins_resting : (third : Told) (live : LiveService) (keys : List KmacEntry) → Did second third (Wrote (header_of run.settings) true ∷ [])
        → IsUnusedWith live keys → live.calls ≡ false → run.before.wires.opened ≡ 0 → run.start ≡ key_at keys → Resting run third live
    unfolding behind_items
    begins_resting third live keys wrote unused calls none start =
        let beside : Beside = record {
          moment = 0;
          finds = run.start;
          keys = 0;
          draining = false;
          accepts = true;
          opened = 0;
          numbered = 0;
          held = [];
          left = none_left;
        } in
        let deeds = both ++ deed_of (Wrote (header_of run.settings) true) [] ∷ [] in
        let desk : DeskIs deeds [] live.desk = record {
          application = ap attendance_of (sym unused.port);
          port = subst (IsAtPort NobodySeen NobodySeen []) (sym unused.port) (refl, refl);
          opened = unused.opened;
          connected = unused.connected;
          messages = unused.messages;
        } in
        let stands : Standing run deeds beside (scene third [] live.desk) = record {
          each = All-nil _;
          known = refl;
          rise = omega arith;
          below = λ accepts. refl;
          fresh = λ conn above. record { read = refl; given = refl; brought = refl; closed = refl };
          desk = desk;
          written = refl;
          moment = refl;
          finds = λ later. refl;
          keys = refl;
          draining = refl;
          opened = refl;
          numbered = wrote.wires.opened ∙ did_next.wires.opened ∙ did.wires.opened ∙ none;
        } in
        record {
          living = record {
            beside = beside;
            serving =
                subst (λ (l : List Link). Serving run beside (λ kind s. []) (scene third l live.desk)) (sym unused.links)
                (record { deeds = deeds; going = going_header third wrote; stands = stands });
            moment = sym unused.moment;
            finds = start ∙ ap key_at (sym unused.keys);
            held = sym unused.held;
            draining = sym unused.draining;
            accepts =
                sym (ap (λ (d : Bool). accepts_more d live.calls) unused.draining ∙ ap (λ (c : Bool). accepts_more false c) calls);
            left = refl;
          };
          rested = λ room. subst (λ (l : List Link). All (λ (k : Link). waiting_in k.end.value ≡ []) l) (sym unused.links) (All-nil _);
        }

  -- ---- it dials

  module _ (second : Told) (at : List ℕ) (to : Option ℕ) (did_next : Did first second (Called (Dialled at to) ∷ [])) where
    abbrev called : List ServiceDeed
    called = one ∷ deed_of (Called (Dialled at to)) [] ∷ []

    so_called : ServesSoFar run.settings (Called (Listened address listens) ∷ Called (Dialled at to) ∷ []) []
    so_called = does_dialled so_one at to

    going_called : Going run second called (λ kind s. [])
    going_called = going_quietly (Called (Dialled at to)) going_one did_next refl so_called

    pub called_serves : ServesBy run second
    called_serves = serves_of_going going_called

    going_call_header : (third : Told) → Did second third (Wrote (header_of run.settings) true ∷ [])
        → Going run third (called ++ deed_of (Wrote (header_of run.settings) true) [] ∷ []) (λ kind s. [])
    going_call_header third wrote = going_quietly (Wrote (header_of run.settings) true) going_called wrote refl (does_header so_called refl)

    pub call_header_broke : (third : Told) (fault : LoopFault) → Breaks second third (Wrote (header_of run.settings) true ∷ []) fault → ServesBy run third
    call_header_broke third fault breaks =
        breaks_serves second third (header_of run.settings) fault going_called (λ wrote. serves_of_going (going_call_header third wrote)) breaks

-- behind the header the one connection came, and nothing more
pub begins_dialled : (run : ServiceRun) (first : Told) (address : List ℕ) (listens : Bool) → Did run.before first (Called (Listened address listens) ∷ [])
    → (second : Told) (at : List ℕ) (conn : ℕ) → Did first second (Called (Dialled at (Some conn)) ∷ []) → (third : Told)
    → Did second third (Wrote (header_of run.settings) true ∷ []) → (live : LiveService) (keys : List KmacEntry) → IsUnusedWith live keys → live.calls ≡ true
    → run.before.wires.opened ≡ 0 → conn ≡ first.wires.opened + 1 → run.start ≡ key_at keys → IsDialled run third live conn
unfolding behind_items
begins_dialled run first address listens did second at conn did_next third wrote live keys unused calls none number start =
    let beside : Beside = record {
      moment = 0;
      finds = run.start;
      keys = 0;
      draining = false;
      accepts = false;
      opened = 0;
      numbered = 1;
      held = [];
      left = none_left;
    } in
    let zero_yet : first.wires.opened ≡ 0 = did.wires.opened ∙ none in
    let one_now : conn ≡ 1 = number ∙ ap (λ (n : ℕ). n + 1) zero_yet in
    let deeds : List ServiceDeed =
    deed_of (Called (Listened address listens)) []
    ∷ deed_of (Called (Dialled at (Some conn))) []
    ∷ deed_of (Wrote (header_of run.settings) true) []
    ∷ [] in
    let desk : DeskIs deeds [] live.desk = record {
      application = ap attendance_of (sym unused.port);
      port = subst (IsAtPort NobodySeen NobodySeen []) (sym unused.port) (refl, refl);
      opened = unused.opened;
      connected = unused.connected;
      messages = unused.messages;
    } in
    let stands : Standing run deeds beside (scene third [] live.desk) = record {
      each = All-nil _;
      known = refl;
      rise = omega arith;
      below = λ accepts. absurd cc;
      fresh = λ c above.
          let other : (conn == c) ≡ false = ne_eqb conn c (λ same. let e : conn ≡ c = same in omega (arith, one_now, above, e)) in
          record { read = refl; given = refl; brought = ap (λ (b : Bool). b || false) other; closed = refl };
      desk = desk;
      written = refl;
      moment = refl;
      finds = λ later. refl;
      keys = refl;
      draining = refl;
      opened = refl;
      numbered = wrote.wires.opened ∙ did_next.wires.opened ∙ ap (λ (n : ℕ). n + 1) zero_yet;
    } in
    record {
      coming = record {
        resting = record {
          living = record {
            beside = beside;
            serving = record {
              deeds = deeds;
              going = going_call_header run first address listens did second at (Some conn) did_next third wrote;
              stands = subst (λ (l : List Link). Standing run deeds beside (scene third l live.desk)) (sym unused.links) stands;
            };
            moment = sym unused.moment;
            finds = start ∙ ap key_at (sym unused.keys);
            held = sym unused.held;
            draining = sym unused.draining;
            accepts = sym (never_accepts live.draining);
            left = refl;
          };
          rested = λ room. subst (λ (l : List Link). All (λ (k : Link). waiting_in k.end.value ≡ []) l) (sym unused.links) (All-nil _);
        };
        some = omega (arith, one_now);
        number = one_now;
        next = λ accepts. one_now;
        newcomer = record {
          read = refl;
          given = refl;
          brought = ap (λ (b : Bool). b || false) (eq-eqb conn conn refl);
          closed = refl;
          ends = refl;
          told = refl;
          heard = refl;
          unknown = refl;
        };
      };
      next = one_now;
      calls = calls;
      draining = unused.draining;
      port = unused.port;
      links = unused.links;
    }
