-- Behind deeds that are no events the connections and the desk stand as before, but for the octets that were given and read, and for who is known.
use Rattle.std.proofs.Common.{arith, fold, ◌≡◌, ◌∙◌, ◌<◌, ℕ, false, List, [], ◌∷◌, ◌++◌, map, max, refl, sym, ap, subst, append-nil}
use Rattle.std.specs.List.{All}
use Rattle.std.proofs.Math.Bool.{or-false}
use Rattle.std.proofs.lemmas.List.Elements.{All-nil, All-cons}
use Rattle.er_base.specs.LineTexts.{line_text}
use Rattle.safety_automaton.specs.Keys.{KmacEntry}
use Rattle.er_trace.specs.Texts.{header_words}
use Rattle.outside.specs.Acts.{Act, Asked, Drew, calls_in_acts}
use Rattle.outside.specs.Seen.{opened_by_call}
use Rattle.outside.specs.Doings.{Told, Did}
use Rattle.application_model.specs.Ends.{EventAt}
use Rattle.application_model.specs.Claims.{RiseTo}
use Rattle.application_model.specs.Histories.{ServiceItem}
use Rattle.application_model.specs.Services.{Service, behind_items}
use Rattle.application_port.specs.Ports.{attendance_of}
use Rattle.application_ends.specs.StackEnds.{HeldKeys}
use Rattle.application_ends.specs.Laws.{recording_of_service}
use Rattle.application_serving.specs.SeenOctets.{SeenApplication, octets_given_to, octets_read_of, is_brought_in, is_closed_in, application_in_acts, seen_behind_act}
use Rattle.application_serving.specs.Serving.{ServiceDeed, acts_in_service, items_in_service, greatest_moment, text_written_by_acts, key_files_in_acts, held_by_files}
use Rattle.application_serving.specs.Serving.{application_in_items, octets_told_at, octets_heard_at}
use Rattle.application_serving.specs.Going.{ServiceRun, ToDo, service_behind, held_behind}
use Rattle.application_serving.specs.OneMore.{text_written_more, key_files_more, told_more_at, heard_more_at, recording_more, given_to_quiet, read_of_quiet, brought_in_more, closed_in_quiet, application_quiet, behind_none, moment_asked, moment_quiet}
use Rattle.application_serving.specs.ActDeeds.{does_asked, does_drew}
use Rattle.application_serving.specs.GoingSteps.{deed_of, deed_without_act, acts_without_act, acts_of_deed, acts_one_more, items_one_more, items_without_items, service_one_more, service_without_items, going_quietly}
use Rattle.application_loop.specs.StackSteps.{StandsBehind}
use Rattle.application_loop.specs.Standing.{Beside, Scene, scene, IsFresh, LinkIs, IsAtPort, DeskIs, Standing, Serving, number_of_link, known_of_link}
use Rattle.application_loop.specs.declared.link.Link.{Link}
use Rattle.application_loop.specs.declared.desk.Desk.{Desk}

-- the model as before, but for who is known and for the application
abbrev pub KeepsService : (before now : Service) → Type 0
KeepsService before now = now ≡ record before { known = now.known; application = now.application }

-- deeds of which the others are a beginning; those behind them are no events, and by them no connection was brought and nothing was written or fetched
pub record Adds (deeds more : List ServiceDeed) : Type 0 where
  pub told : (conn : ℕ) → octets_told_at conn (items_in_service more) ≡ octets_told_at conn (items_in_service deeds)
  pub heard : (conn : ℕ) → octets_heard_at conn (items_in_service more) ≡ octets_heard_at conn (items_in_service deeds)
  pub recorded : recording_of_service (items_in_service more) ≡ recording_of_service (items_in_service deeds)
  pub service : KeepsService (service_behind deeds) (service_behind more)
  pub files : key_files_in_acts (acts_in_service more) ≡ key_files_in_acts (acts_in_service deeds)
  pub written : text_written_by_acts (acts_in_service more) ≡ text_written_by_acts (acts_in_service deeds)
  pub brought : (conn : ℕ) → is_brought_in conn (acts_in_service more) ≡ is_brought_in conn (acts_in_service deeds)

-- nothing more
pub adds_nothing : (deeds : List ServiceDeed) → Adds deeds deeds
adds_nothing deeds = record {
  told = λ conn. refl;
  heard = λ conn. refl;
  recorded = refl;
  service = refl;
  files = refl;
  written = refl;
  brought = λ conn. refl;
}

keeps_then : (a b c : Service) → KeepsService a b → KeepsService b c → KeepsService a c
keeps_then a b c p q = q ∙ ap (λ (s : Service). record s { known = c.known; application = c.application }) p

-- some and then some more
pub adds_then : {a b c : List ServiceDeed} → Adds a b → Adds b c → Adds a c
adds_then {a} {b} {c} p q = record {
  told = λ conn. q.told conn ∙ p.told conn;
  heard = λ conn. q.heard conn ∙ p.heard conn;
  recorded = q.recorded ∙ p.recorded;
  service = keeps_then (service_behind a) (service_behind b) (service_behind c) p.service q.service;
  files = q.files ∙ p.files;
  written = q.written ∙ p.written;
  brought = λ conn. q.brought conn ∙ p.brought conn;
}

-- ---- one more

pub record IsSilent (s : Service) (deed : ServiceDeed) : Type 0 where
  pub told : (conn : ℕ) → octets_told_at conn deed.items ≡ []
  pub heard : (conn : ℕ) → octets_heard_at conn deed.items ≡ []
  pub records : recording_of_service deed.items ≡ []
  pub keeps : KeepsService s (behind_items s deed.items)
  pub files : key_files_in_acts (acts_of_deed deed) ≡ []
  pub text : text_written_by_acts (acts_of_deed deed) ≡ []
  pub brings : (conn : ℕ) → is_brought_in conn (acts_of_deed deed) ≡ false

and_nothing : (f : List ServiceItem → List ℕ) (deeds : List ServiceDeed) (deed : ServiceDeed)
    → f (items_in_service deeds ++ deed.items) ≡ f (items_in_service deeds) ++ f deed.items → f deed.items ≡ []
    → f (items_in_service (deeds ++ deed ∷ [])) ≡ f (items_in_service deeds)
and_nothing f deeds deed splits none =
    ap f (items_one_more deeds deed) ∙ splits ∙ ap (λ (x : List ℕ). f (items_in_service deeds) ++ x) none ∙ append-nil (f (items_in_service deeds))

brings_nothing : (conn : ℕ) (acts more : List Act) → is_brought_in conn more ≡ false → is_brought_in conn (acts ++ more) ≡ is_brought_in conn acts
brings_nothing conn acts more none = brought_in_more conn acts more ∙ rw none (or-false (is_brought_in conn acts))

pub adds_one : (deeds : List ServiceDeed) (deed : ServiceDeed) → IsSilent (service_behind deeds) deed → Adds deeds (deeds ++ deed ∷ [])
adds_one deeds deed silent = let acts = acts_in_service deeds in let more = acts_of_deed deed in record {
  told = λ conn. and_nothing (octets_told_at conn) deeds deed (told_more_at conn (items_in_service deeds) deed.items) (silent.told conn);
  heard = λ conn. and_nothing (octets_heard_at conn) deeds deed (heard_more_at conn (items_in_service deeds) deed.items) (silent.heard conn);
  recorded = and_nothing recording_of_service deeds deed (recording_more (items_in_service deeds) deed.items) silent.records;
  service = subst (KeepsService (service_behind deeds)) (sym (service_one_more deeds deed)) silent.keeps;
  files =
      ap key_files_in_acts (acts_one_more deeds deed)
      ∙ key_files_more acts more
      ∙ ap (λ (fs : List (List KmacEntry)). key_files_in_acts acts ++ fs) silent.files
      ∙ append-nil (key_files_in_acts acts);
  written =
      ap text_written_by_acts (acts_one_more deeds deed)
      ∙ text_written_more acts more
      ∙ ap (λ (t : List ℕ). text_written_by_acts acts ++ t) silent.text
      ∙ append-nil (text_written_by_acts acts);
  brought = λ conn. ap (is_brought_in conn) (acts_one_more deeds deed) ∙ brings_nothing conn acts more (silent.brings conn);
}

-- an act that is nothing in the history
pub act_is_silent : (s : Service) (act : Act) → key_files_in_acts (act ∷ []) ≡ [] → text_written_by_acts (act ∷ []) ≡ []
    → ((conn : ℕ) → is_brought_in conn (act ∷ []) ≡ false) → IsSilent s (deed_of act [])
act_is_silent s act files text brings = record {
  told = λ conn. refl;
  heard = λ conn. refl;
  records = refl;
  keeps = subst (KeepsService s) (sym (behind_none s)) refl;
  files = files;
  text = text;
  brings = brings;
}

-- ---- what stands behind them

module _ {deeds more : List ServiceDeed} (adds : Adds deeds more) where
  pub same_of_service : {A : Type 0} (f : Service → A)
      → f (record (service_behind deeds) { known = (service_behind more).known; application = (service_behind more).application }) ≡ f (service_behind deeds)
      → f (service_behind more) ≡ f (service_behind deeds)
  same_of_service f same = ap f adds.service ∙ same

  pub same_held : (run : ServiceRun) (later : List (List KmacEntry)) → held_behind run more later ≡ held_behind run deeds later
  same_held run later = ap (λ (files : List (List KmacEntry)). held_by_files run.start (files ++ later)) adds.files

  -- a link whose end had no event
  pub link_on : (run : ServiceRun) (left left' : ℕ → List ℕ) (link now : Link) → LinkIs run deeds left link → now.number ≡ link.number
      → now.end.value ≡ link.end.value
      → (now.broken ≡ false → octets_told_at link.number (items_in_service deeds) ≡ octets_given_to link.number (acts_in_service more) ++ now.output.items)
      → (now.broken ≡ false → octets_heard_at link.number (items_in_service deeds) ++ left' link.number ≡ octets_read_of link.number (acts_in_service more))
      → LinkIs run more left' now
  link_on run left left' link now is number end waits heard = record {
    end = λ later.
        subst (λ (h : HeldKeys). StandsBehind run.settings h ((service_behind more).ends now.number) now.end.value) (sym (same_held run later))
        (subst (λ (e : List EventAt). StandsBehind run.settings (held_behind run deeds later) e now.end.value)
        (sym (same_of_service (λ (s : Service). s.ends now.number) refl ∙ ap (service_behind deeds).ends number))
        (rw end (is.end later)));
    waits = λ whole.
        adds.told now.number
        ∙ subst (λ (n : ℕ). octets_told_at n (items_in_service deeds) ≡ octets_given_to n (acts_in_service more) ++ now.output.items) (sym number) (waits whole);
    heard = λ whole.
        ap (λ (o : List ℕ). o ++ left' now.number) (adds.heard now.number)
        ∙ subst (λ (n : ℕ). octets_heard_at n (items_in_service deeds) ++ left' n ≡ octets_read_of n (acts_in_service more)) (sym number) (heard whole);
    brought = adds.brought now.number ∙ ap (λ (n : ℕ). is_brought_in n (acts_in_service deeds)) number ∙ is.brought;
  }

  -- a link to which nothing was given and of which nothing was read
  pub link_same : (run : ServiceRun) (left left' : ℕ → List ℕ) (link : Link) → LinkIs run deeds left link
      → octets_given_to link.number (acts_in_service more) ≡ octets_given_to link.number (acts_in_service deeds)
      → octets_read_of link.number (acts_in_service more) ≡ octets_read_of link.number (acts_in_service deeds) → left' link.number ≡ left link.number
      → LinkIs run more left' link
  link_same run left left' link is given read same =
      link_on run left left' link link is refl refl
      (λ whole. is.waits whole ∙ ap (λ (o : List ℕ). o ++ link.output.items) (sym given))
      (λ whole. ap (λ (o : List ℕ). octets_heard_at link.number (items_in_service deeds) ++ o) same ∙ is.heard whole ∙ sym read)

  pub desk_on : (held held' : List ℕ) (old now : Desk) → DeskIs deeds held old → (service_behind more).application ≡ attendance_of now.port
      → IsAtPort (application_in_acts (acts_in_service more)) (application_in_items (items_in_service more)) held' now.port → now.opened ≡ old.opened
      → now.connected ≡ old.connected → now.messages ≡ old.messages → DeskIs more held' now
  desk_on held held' old now is application port opened connected messages = record {
    application = application;
    port = port;
    opened = opened ∙ is.opened ∙ sym (same_of_service (λ (s : Service). s.opened) refl);
    connected = connected ∙ is.connected ∙ sym (same_of_service (λ (s : Service). s.connected) refl);
    messages = messages ∙ is.messages ∙ sym (same_of_service (λ (s : Service). s.messages) refl);
  }

  pub standing_on : {run : ServiceRun} {beside : Beside} {x : Scene} → Standing run deeds beside x → (moment : ℕ) (held : List ℕ) (left : ℕ → List ℕ) (now : Scene)
      → All (LinkIs run more left) now.links → (service_behind more).known ≡ map known_of_link now.links
      → RiseTo 0 (map number_of_link now.links) beside.opened
      → ((conn : ℕ) → beside.numbered < conn → IsFresh conn (acts_in_service deeds) → IsFresh conn (acts_in_service more))
      → DeskIs more held now.desk → greatest_moment (acts_in_service more) ≡ moment → now.told.wires.opened ≡ x.told.wires.opened
      → Standing run more (record beside { moment = moment; held = held; left = left }) now
  standing_on {run} {beside} {x} is moment held left now each known rise fresh desk at wires = record {
    each = each;
    known = known;
    rise = rise;
    below = is.below;
    fresh = λ conn above. fresh conn above (is.fresh conn above);
    desk = desk;
    written = adds.written ∙ is.written ∙ ap (λ (t : List ℕ). line_text (header_words run.settings) ++ t) (sym adds.recorded);
    moment = at;
    finds = λ later. ap (λ (h : HeldKeys). h beside.keys) (same_held run later) ∙ is.finds later;
    keys = same_of_service (λ (s : Service). s.keys) refl ∙ is.keys;
    draining = same_of_service (λ (s : Service). s.draining) refl ∙ is.draining;
    opened = same_of_service (λ (s : Service). s.opened) refl ∙ is.opened;
    numbered = wires ∙ is.numbered;
  }

-- ---- an act that is nothing in the history, and at no connection

-- it is at no connection of which the number is above 0
pub record IsAside (act : Act) : Type 0 where
  pub files : key_files_in_acts (act ∷ []) ≡ []
  pub text : text_written_by_acts (act ∷ []) ≡ []
  pub brings : (conn : ℕ) → is_brought_in conn (act ∷ []) ≡ false
  pub given : (conn : ℕ) → 0 < conn → octets_given_to conn (act ∷ []) ≡ []
  pub read : (conn : ℕ) → 0 < conn → octets_read_of conn (act ∷ []) ≡ []
  pub closes : (conn : ℕ) → 0 < conn → is_closed_in conn (act ∷ []) ≡ false

-- what stands at connections above a number
abbrev pub AllAbove : ℕ → (ℕ → Type 0) → Type 0
AllAbove low P = (conn : ℕ) → low < conn → P conn

links_above : (P : ℕ → Type 0) (links : List Link) (low top : ℕ) → RiseTo low (map number_of_link links) top → AllAbove low P → All (λ (l : Link). P l.number) links
links_above P [] low top rise above = All-nil (λ (l : Link). P l.number)
links_above P (link ∷ links) low top rise above =
    All-cons (λ (l : Link). P l.number) link links (above link.number rise.0)
    (links_above P links link.number top rise.1 (λ conn higher. above conn (omega (arith, rise.0, higher))))

-- at each link
pub at_links : (P : ℕ → Type 0) (links : List Link) (top : ℕ) → RiseTo 0 (map number_of_link links) top → AllAbove 0 P → All (λ (l : Link). P l.number) links
at_links P links top rise above = links_above P links 0 top rise above

-- deeds behind these, which are no events, and at no connection of which the number is above 0
pub record GoesAside (deeds more : List ServiceDeed) : Type 0 where
  pub adds : Adds deeds more
  pub given : AllAbove 0 (λ conn. octets_given_to conn (acts_in_service more) ≡ octets_given_to conn (acts_in_service deeds))
  pub read : AllAbove 0 (λ conn. octets_read_of conn (acts_in_service more) ≡ octets_read_of conn (acts_in_service deeds))
  pub closed : AllAbove 0 (λ conn. is_closed_in conn (acts_in_service more) ≡ is_closed_in conn (acts_in_service deeds))

pub aside_then : {a b c : List ServiceDeed} → GoesAside a b → GoesAside b c → GoesAside a c
aside_then p q = record {
  adds = adds_then p.adds q.adds;
  given = λ conn above. q.given conn above ∙ p.given conn above;
  read = λ conn above. q.read conn above ∙ p.read conn above;
  closed = λ conn above. q.closed conn above ∙ p.closed conn above;
}

-- an act aside, which may be items
pub aside_act : (deeds : List ServiceDeed) (act : Act) (items : List ServiceItem) → IsAside act → IsSilent (service_behind deeds) (deed_of act items)
    → GoesAside deeds (deeds ++ deed_of act items ∷ [])
aside_act deeds act items aside silent =
    let acts = acts_in_service deeds in
    let with_it = acts_one_more deeds (deed_of act items) in
    record {
      adds = adds_one deeds (deed_of act items) silent;
      given = λ conn above. ap (octets_given_to conn) with_it ∙ given_to_quiet conn acts act (aside.given conn above);
      read = λ conn above. ap (octets_read_of conn) with_it ∙ read_of_quiet conn acts act (aside.read conn above);
      closed = λ conn above. ap (is_closed_in conn) with_it ∙ closed_in_quiet conn acts act (aside.closes conn above);
    }

-- items without an act
pub aside_items : (deeds : List ServiceDeed) (items : List ServiceItem) → IsSilent (service_behind deeds) (deed_without_act items)
    → GoesAside deeds (deeds ++ deed_without_act items ∷ [])
aside_items deeds items silent = let same = acts_without_act deeds items in record {
  adds = adds_one deeds (deed_without_act items) silent;
  given = λ conn above. ap (octets_given_to conn) same;
  read = λ conn above. ap (octets_read_of conn) same;
  closed = λ conn above. ap (is_closed_in conn) same;
}

-- it stands, where the desk does
pub standing_aside : {run : ServiceRun} {deeds more : List ServiceDeed} {beside : Beside} {x : Scene} → GoesAside deeds more → Standing run deeds beside x
    → (moment : ℕ) (held : List ℕ) (told : Told) (desk : Desk) → (service_behind more).known ≡ (service_behind deeds).known → DeskIs more held desk
    → greatest_moment (acts_in_service more) ≡ moment → told.wires.opened ≡ x.told.wires.opened
    → Standing run more (record beside { moment = moment; held = held }) (scene told x.links desk)
standing_aside {run} {deeds} {more} {beside} {x} aside is moment held told desk known desk_is at wires =
    let Given : ℕ → Type 0 = λ conn. octets_given_to conn (acts_in_service more) ≡ octets_given_to conn (acts_in_service deeds) in
    let Same : ℕ → Type 0 = λ conn. octets_read_of conn (acts_in_service more) ≡ octets_read_of conn (acts_in_service deeds) in
    let given = at_links Given x.links beside.opened is.rise aside.given in
    let read = at_links Same x.links beside.opened is.rise aside.read in
    standing_on aside.adds is moment held beside.left (scene told x.links desk)
    (λ place d within. link_same aside.adds run beside.left beside.left _ (is.each place d within) (given place d within) (read place d within) refl)
    (known ∙ is.known)
    is.rise
    (λ conn higher fresh. let above : 0 < conn = omega (arith, higher) in record {
      read = aside.read conn above ∙ fresh.read;
      given = aside.given conn above ∙ fresh.given;
      brought = aside.adds.brought conn ∙ fresh.brought;
      closed = aside.closed conn above ∙ fresh.closed;
    })
    desk_is
    at
    wires

-- the same behind an act that is nothing in the history
pub standing_by_act : {run : ServiceRun} {deeds : List ServiceDeed} {beside : Beside} {x : Scene} (act : Act) → IsAside act → Standing run deeds beside x
    → (moment : ℕ) (held : List ℕ) (told : Told) (desk : Desk) → DeskIs (deeds ++ deed_of act [] ∷ []) held desk
    → greatest_moment (acts_in_service deeds ++ act ∷ []) ≡ moment → told.wires.opened ≡ x.told.wires.opened
    → Standing run (deeds ++ deed_of act [] ∷ []) (record beside { moment = moment; held = held }) (scene told x.links desk)
standing_by_act {run} {deeds} {beside} {x} act aside is moment held told desk desk_is at wires =
    standing_aside (aside_act deeds act [] aside (act_is_silent (service_behind deeds) act aside.files aside.text aside.brings)) is moment held told desk
    (ap (λ (s : Service). s.known) (service_without_items deeds act))
    desk_is
    (ap greatest_moment (acts_one_more deeds (deed_of act [])) ∙ at)
    wires

-- the desk stands as before, where the act isn't the application's
pub desk_aside : (deeds : List ServiceDeed) (held : List ℕ) (desk : Desk) (act : Act) → IsAside act
    → seen_behind_act (application_in_acts (acts_in_service deeds)) act ≡ application_in_acts (acts_in_service deeds) → DeskIs deeds held desk
    → DeskIs (deeds ++ deed_of act [] ∷ []) held desk
desk_aside deeds held desk act aside seen is =
    let adds = adds_one deeds (deed_of act []) (act_is_silent (service_behind deeds) act aside.files aside.text aside.brings) in
    let same = ap application_in_acts (acts_one_more deeds (deed_of act [])) ∙ application_quiet (acts_in_service deeds) act seen in
    desk_on adds held held desk desk is (ap (λ (s : Service). s.application) (service_without_items deeds act) ∙ is.application)
    (subst (λ (a : SeenApplication). IsAtPort a (application_in_items (items_in_service (deeds ++ deed_of act [] ∷ []))) held desk.port) (sym same)
    (subst (λ (i : List ServiceItem). IsAtPort (application_in_acts (acts_in_service deeds)) (application_in_items i) held desk.port)
    (sym (items_without_items deeds act)) is.port))
    refl refl refl

abbrev pub asked_beside : Beside → ℕ → Beside
asked_beside beside moment = record beside { moment = max beside.moment moment }

asked_is_aside : (moment : ℕ) → IsAside (Asked moment)
asked_is_aside moment = record {
  files = refl;
  text = refl;
  brings = λ conn. refl;
  given = λ conn above. refl;
  read = λ conn above. refl;
  closes = λ conn above. refl;
}

drew_is_aside : (word : ℕ) → IsAside (Drew word)
drew_is_aside word = record {
  files = refl;
  text = refl;
  brings = λ conn. refl;
  given = λ conn above. refl;
  read = λ conn above. refl;
  closes = λ conn above. refl;
}

-- an act at no wires opens no connection
pub wires_rest : (before now : Told) (act : Act) → Did before now (act ∷ []) → calls_in_acts (act ∷ []) ≡ [] → now.wires.opened ≡ before.wires.opened
wires_rest before now act did none = did.wires.opened ∙ ap (fold opened_by_call before.wires.opened) none

-- the clock was asked: the greatest moment may rise
pub serving_asked : {run : ServiceRun} {beside : Beside} {rest : ToDo} (told now : Told) (links : List Link) (desk : Desk) (moment : ℕ)
    → Did told now (Asked moment ∷ []) → Serving run beside rest (scene told links desk)
    → Serving run (asked_beside beside moment) rest (scene now links desk)
serving_asked {run} {beside} {rest} told now links desk moment did serving =
    let deeds = serving.deeds in
    let so = does_asked (serving.going.always deeds [] (sym (append-nil deeds))) moment in
    record {
      deeds = deeds ++ deed_of (Asked moment) [] ∷ [];
      going = going_quietly (Asked moment) serving.going did refl so;
      stands = standing_by_act (Asked moment) (asked_is_aside moment) serving.stands (max beside.moment moment) beside.held now desk
          (desk_aside deeds beside.held desk (Asked moment) (asked_is_aside moment) refl serving.stands.desk)
          (moment_asked (acts_in_service deeds) moment ∙ ap (λ (m : ℕ). max m moment) serving.stands.moment)
          (wires_rest told now (Asked moment) did refl);
    }

-- a word was drawn
pub serving_drew : {run : ServiceRun} {beside : Beside} {rest : ToDo} (told now : Told) (links : List Link) (desk : Desk) (word : ℕ)
    → Did told now (Drew word ∷ []) → Serving run beside rest (scene told links desk) → Serving run beside rest (scene now links desk)
serving_drew {run} {beside} {rest} told now links desk word did serving =
    let deeds = serving.deeds in
    let so = does_drew (serving.going.always deeds [] (sym (append-nil deeds))) word in
    record {
      deeds = deeds ++ deed_of (Drew word) [] ∷ [];
      going = going_quietly (Drew word) serving.going did refl so;
      stands = standing_by_act (Drew word) (drew_is_aside word) serving.stands beside.moment beside.held now desk
          (desk_aside deeds beside.held desk (Drew word) (drew_is_aside word) refl serving.stands.desk)
          (moment_quiet (acts_in_service deeds) (Drew word) refl ∙ serving.stands.moment)
          (wires_rest told now (Drew word) did refl);
    }
