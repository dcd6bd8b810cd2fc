-- The key file is fetched and read again, by a loop that stands where what was done leads.
use Rattle.std.proofs.Common.{arith, ◌≡◌, ◌∙◌, ℕ, suc, ◌+◌, Bool, List, [], ◌∷◌, ◌++◌, length, refl, sym, ap, subst, append-nil, append_assoc, Result, Ok, Err, inl, inr}
use Rattle.std.specs.Prelude.{OnOk}
use Rattle.std.proofs.lemmas.List.Elements.{All-nil}
use Rattle.safety_automaton.specs.Keys.{KmacEntry, key_at}
use Rattle.er_end_model.specs.Steps.{Finds}
use Rattle.outside.specs.Acts.{Fetch, Gave, Fetched}
use Rattle.outside.specs.Doings.{Told, Did}
use Rattle.outside.specs.Seen.{fetched_by}
use Rattle.link_trait.specs.declared.cabinet.FetchFault.{FetchFault}
use Rattle.application_lines.specs.declared.application_line.ApplicationLine.{ApplicationLine}
use Rattle.application_lines.specs.declared.application_line.ApplicationLine.TheVariants.{Asks, Faulty}
use Rattle.application_lines.specs.declared.request.Request.TheVariants as request
use Rattle.application_lines.specs.Notices.{Keys, KeysFault}
use Rattle.application_model.specs.Ends.{EndKind}
use Rattle.application_model.specs.Histories.{KeysAnswer, Hold, AreFaulty, ServiceHappening, Attaches, Departs, Brings, Takes, Opens, Befalls, Closes, KeysRead}
use Rattle.application_model.specs.Histories.{ServiceItem, Came, LineRead, Occurred, Informed, KeysFetched}
use Rattle.application_model.specs.Services.{Service, at_start, behind_item, behind_items, behind_line, service_behind_happening, readings_in_answer}
use Rattle.application_model.specs.Services.{came_alone, informs, keys_notice, meets, one_then, serves_all, serves_one, service_history, takes_waiting}
use Rattle.application_model.specs.Laws.{readings_in, readings_in_item}
use Rattle.application_serving.specs.SeenOctets.{SeenApplication, application_in_acts}
use Rattle.application_serving.specs.Serving.{ServiceDeed, acts_in_service, items_in_service, greatest_moment, IsAtMoment}
use Rattle.application_serving.specs.Serving.{key_files_in_acts, held_by_files, found_in_entries}
use Rattle.application_serving.specs.Going.{ServiceRun, ToDo, and_then, service_behind, held_behind, kind_behind, Going, ServesBy}
use Rattle.application_serving.specs.OneMore.{application_items_more, behind_one, behind_first}
use Rattle.application_serving.specs.ActDeeds.{does_keys_fetched, does_keys_read}
use Rattle.application_serving.specs.ModelSteps.{one_then_is, one_then_assoc, nothing_then, one_then_same_first, one_then_same_rest, serves_one_is, meets_keys, takes_waiting_rests}
use Rattle.application_serving.specs.GoingSteps.{deed_of, held_one_more, held_without_file, so_far_of_going, serves_of_going, going_on, going_by_act, timely_behind, serves_behind_unread}
use Rattle.application_loop.specs.Standing.{Beside, Scene, scene, IsAtPort, DeskIs, Serving, Rested}
use Rattle.application_loop.specs.Living.{fetch_then, scene_of_live, accepts_more, Living, LivingOr}
use Rattle.application_loop.specs.KeysFetching.{UsesFile, RefusesKeys, ReadsFile}
use Rattle.application_loop.specs.declared.live_service.LiveService.{LiveService}
use Rattle.application_loop.specs.declared.link.Link.{Link}
use Rattle.application_loop.proofs.Asides.{fetch_aside, AreSilent, stands_aside, desk_aside}
use Rattle.application_loop.proofs.ActServing.{wires_rest}
use Rattle.application_loop.proofs.Happenings.{takes_then, none_known_waits}
use Rattle.application_loop.proofs.Telling.{tells_notice}
use Rattle.application_loop.proofs.RequestParts.{living_beside}

-- ---- which keys hold

came_read : (s : Service) (happening : ServiceHappening) → (service_behind_happening s happening).keys ≡ s.keys + readings_in_item (Came happening)
came_read s Attaches = omega arith
came_read s Departs = omega arith
came_read s (Brings octets) = omega arith
came_read s (Takes count) = omega arith
came_read s (Opens what) = omega arith
came_read s (Befalls c what) = omega arith
came_read s (Closes c) = omega arith
came_read s (KeysRead answer) = refl

line_keys : (s : Service) (line : ApplicationLine) → (behind_line s line).keys ≡ s.keys + 0
line_keys s (Asks (request.Send conn text)) = omega arith
line_keys s (Asks (request.Release conn sub)) = omega arith
line_keys s (Asks request.Drain) = omega arith
line_keys s (Asks request.Keys) = omega arith
line_keys s (Asks request.Counts) = omega arith
line_keys s (Faulty line why) = omega arith

item_read : (s : Service) (item : ServiceItem) → (behind_item s item).keys ≡ s.keys + readings_in_item item
item_read s (Came happening) = came_read s happening
item_read s (LineRead line) = line_keys s line
item_read s (Occurred time c what outcomes) = omega arith
item_read s (Informed notice) = omega arith
item_read s KeysFetched = omega arith

all_read : (s : Service) (items : List ServiceItem) → (behind_items s items).keys ≡ s.keys + readings_in items
unfolding behind_items
all_read s [] = omega arith
all_read s (item ∷ items) =
    let first = item_read s item in let rest = all_read (behind_item s item) items in omega (arith, first, rest)

-- the newest file
newest : (start : Finds) (files later : List (List KmacEntry)) (entries : List KmacEntry)
    → held_by_files start (files ++ entries ∷ later) (suc (length files)) ≡ found_in_entries entries
newest start [] later entries = refl
newest start (file ∷ files) later entries = newest (found_in_entries file) files later entries

-- ---- the model

serves_first : (kind : EndKind) (next : ℕ × ServiceHappening) (more : List (ℕ × ServiceHappening)) (s : Service)
    → serves_all kind (next ∷ more) s ≡ one_then (serves_one kind next.0 next.1) (serves_all kind more) s
unfolding serves_all
serves_first kind next more s = refl

-- a happening begins behind what is left
begins_behind : {run : ServiceRun} {now : Told} {deeds : List ServiceDeed} (moment : ℕ) (what : ServiceHappening) (rest : ToDo) → Going run now deeds rest
    → Going run now deeds (and_then rest (λ kind s. serves_one kind moment what s))
begins_behind {run = run} {deeds = deeds} moment what rest going =
    let s = service_behind deeds in
    record {
      did = going.did;
      happenings = going.happenings ++ (moment, what) ∷ [];
      history = λ later more.
          let kind = kind_behind run deeds later in
          ap (service_history kind) (append_assoc going.happenings ((moment, what) ∷ []) more)
          ∙ going.history later ((moment, what) ∷ more)
          ∙ ap (λ (items : List ServiceItem). items_in_service deeds ++ items)
          (one_then_same_rest (rest kind) (serves_all kind ((moment, what) ∷ more)) (one_then (serves_one kind moment what) (serves_all kind more)) s
          (serves_first kind (moment, what) more (behind_items s (rest kind s)))
          ∙ sym (one_then_assoc (rest kind) (serves_one kind moment what) (serves_all kind more) s));
      always = going.always;
      timely = going.timely;
      fetched = going.fetched;
    }

abbrev pub read_items : KeysAnswer → List ServiceItem
read_items came = KeysFetched ∷ Came (KeysRead came) ∷ []

abbrev fetches : ToDo
fetches kind s = KeysFetched ∷ []

abbrev pub tells_then : KeysAnswer → ℕ → ToDo
tells_then came moment = and_then (λ kind s. informs (keys_notice came ∷ []) s) (takes_then moment)

module _ (kind : EndKind) (moment : ℕ) (came : KeysAnswer) (s : Service) (rests : takes_waiting kind moment s ≡ []) where
  begun : serves_one kind moment (KeysRead came) s
      ≡ Came (KeysRead came) ∷ one_then (λ (x : Service). informs (keys_notice came ∷ []) x) (takes_waiting kind moment) (behind_items s (Came (KeysRead came) ∷ []))
  begun =
      serves_one_is kind moment (KeysRead came) s
      ∙ one_then_same_first (meets kind moment (KeysRead came)) (one_then (came_alone (KeysRead came)) (informs (keys_notice came ∷ []))) (takes_waiting kind moment) s
      (meets_keys kind moment came s)
      ∙ one_then_assoc (came_alone (KeysRead came)) (informs (keys_notice came ∷ [])) (takes_waiting kind moment) s
      ∙ one_then_is (came_alone (KeysRead came)) (one_then (informs (keys_notice came ∷ [])) (takes_waiting kind moment)) s

  read_leaves : and_then (and_then fetches (takes_then moment)) (λ k x. serves_one k moment (KeysRead came) x) kind s
      ≡ read_items came ++ tells_then came moment kind (behind_items s (read_items came))
  read_leaves =
      one_then_assoc (fetches kind) (takes_waiting kind moment) (serves_one kind moment (KeysRead came)) s
      ∙ one_then_is (fetches kind) (one_then (takes_waiting kind moment) (serves_one kind moment (KeysRead came))) s
      ∙ ap (λ (x : Service). KeysFetched ∷ one_then (takes_waiting kind moment) (serves_one kind moment (KeysRead came)) x) (behind_one s KeysFetched)
      ∙ ap (λ (is : List ServiceItem). KeysFetched ∷ is)
      (nothing_then (takes_waiting kind moment) (serves_one kind moment (KeysRead came)) s rests ∙ begun)
      ∙ ap (λ (x : Service). KeysFetched ∷ Came (KeysRead came) ∷ tells_then came moment kind x) (sym (behind_first s KeysFetched (Came (KeysRead came) ∷ [])))

-- ---- the deed

read_silent : (s : Service) (came : KeysAnswer) → AreSilent s (read_items came)
unfolding behind_items
read_silent s came = record { records = refl; told = λ c. refl; heard = λ c. refl; ends = refl; known = refl; opened = refl; connected = refl; messages = refl }

read_application : (s : Service) (came : KeysAnswer) → (behind_items s (read_items came)).application ≡ s.application
unfolding behind_items
read_application s came = refl

read_draining : (s : Service) (came : KeysAnswer) → (behind_items s (read_items came)).draining ≡ s.draining
unfolding behind_items
read_draining s came = refl

read_count : (s : Service) (came : KeysAnswer) → (behind_items s (read_items came)).keys ≡ s.keys + readings_in_answer came
unfolding behind_items
read_count s came = refl

abbrev pub fetch_deed : List ℕ → Fetch → KeysAnswer → ServiceDeed
fetch_deed name answer came = deed_of (Fetched name answer) (read_items came)

abbrev pub with_keys : Beside → ℕ → Finds → Beside
with_keys beside keys finds = record beside { keys = keys; finds = finds }

pub keys_read : {run : ServiceRun} {beside : Beside} {x : Scene} (moment : ℕ) (name : List ℕ) (answer : Fetch) (came : KeysAnswer) (keys : ℕ) (finds : Finds)
    (told : Told) (serving : Serving run beside (fetch_then moment) x) → Rested x → Did x.told told (Fetched name answer ∷ [])
    → readings_in (read_items came) ≡ length (key_files_in_acts (Fetched name answer ∷ []))
    → (service_behind serving.deeds).keys + readings_in_answer came ≡ keys
    → ((later : List (List KmacEntry)) → held_behind run (serving.deeds ++ fetch_deed name answer came ∷ []) later keys ≡ finds)
    → Serving run (with_keys beside keys finds) (tells_then came moment) (scene told x.links x.desk)
keys_read {run = run} {beside = beside} {x = x} moment name answer came keys finds told serving rested did read count holds =
    let deeds = serving.deeds in
    let stands = serving.stands in
    let s = service_behind deeds in
    let items = read_items came in
    let deed = fetch_deed name answer came in
    let now = greatest_moment (acts_in_service deeds) in
    let aside = fetch_aside name answer in
    let silent = read_silent s came in
    let begins = begins_behind moment (KeysRead came) (fetch_then moment) serving.going in
    let on : DeskIs (deeds ++ deed ∷ []) beside.held x.desk =
    desk_aside deeds deed aside silent beside.held beside.held x.desk x.desk stands.desk refl refl refl
    (read_application s came ∙ stands.desk.application)
    (subst (λ (t : SeenApplication). IsAtPort (application_in_acts (acts_in_service deeds)) t beside.held x.desk.port)
    (sym (application_items_more (items_in_service deeds) items)) stands.desk.port) in
    record {
      deeds = deeds ++ deed ∷ [];
      going = going_on deed begins did
          (λ later. read_leaves (kind_behind run deeds later) moment came s
          (takes_waiting_rests (kind_behind run deeds later) moment s (none_known_waits run beside x deeds later stands rested)))
          (does_keys_read (so_far_of_going serving.going) stands.written name answer came)
          (timely_behind now KeysFetched (Came (KeysRead came) ∷ []) tt (timely_behind now (Came (KeysRead came)) [] tt (All-nil (IsAtMoment now)))) read;
      stands = stands_aside deeds deed aside silent (with_keys beside keys finds) told x.desk stands (wires_rest x.told told (Fetched name answer) did refl)
          record {
            stands = on;
            moment = refl;
            left = refl;
            opened = refl;
            numbered = refl;
            drains = λ going. going;
            draining = read_draining s came ∙ stands.draining;
            keys = read_count s came ∙ count;
            finds = holds;
          };
    }

-- ---- the loop

same_links : {run : ServiceRun} {beside : Beside} {rest : ToDo} {told : Told} (old now : LiveService) → now.links.list.items ≡ old.links.list.items
    → Serving run beside rest (scene told old.links.list.items now.desk) → Serving run beside rest (scene_of_live told now)
same_links {run = run} {beside = beside} {rest = rest} {told = told} old now links serving =
    subst (λ (l : List Link). Serving run beside rest (scene told l now.desk)) (sym links) serving

pub lives_with_keys : {run : ServiceRun} {told told' : Told} {old now : LiveService} (moment : ℕ) (name octets : List ℕ) → UsesFile octets old now
    → Did told told' (Fetched name (Gave octets) ∷ []) → Rested (scene_of_live told old) → Living run told (fetch_then moment) old
    → Living run told' (takes_then moment) now
lives_with_keys {run = run} {told = told} {told' = told'} {old = old} {now = now} moment name octets file did rested living =
    let beside = living.beside in
    let serving = living.serving in
    let deeds = serving.deeds in
    let uses = file.uses in
    let came = Hold uses.count in
    let entries = file.entries in
    let deed = fetch_deed name (Gave octets) came in
    let finds = found_in_entries entries in
    let acts = Fetched name (Gave octets) ∷ [] in
    let files = key_files_in_acts (acts_in_service deeds) in
    let read : key_files_in_acts acts ≡ entries ∷ [] = ap (λ (l : List (List KmacEntry)). l ++ []) file.are in
    let before : beside.keys ≡ length files =
    (let is = serving.stands.keys in
    let all = all_read at_start (items_in_service deeds) in
    let so = serving.going.fetched deeds [] (sym (append-nil deeds)) in
    omega (arith, is, all, so)) in
    let holds : (later : List (List KmacEntry)) → held_behind run (deeds ++ deed ∷ []) later (suc beside.keys) ≡ finds = λ later.
    ap (λ (h : ℕ → Finds). h (suc beside.keys)) (held_one_more run deeds deed later)
    ∙ ap (λ (l : List (List KmacEntry)). held_behind run deeds (l ++ later) (suc beside.keys)) read
    ∙ ap (λ (n : ℕ). held_by_files run.start (files ++ entries ∷ later) (suc n)) before
    ∙ newest run.start files later entries in
    let counted : (service_behind deeds).keys + 1 ≡ suc beside.keys = let is = serving.stands.keys in omega (arith, is) in
    let done = keys_read moment name (Gave octets) came (suc beside.keys) finds told' serving rested did (ap (λ (l : List (List KmacEntry)). length l) (sym read)) counted
    holds in
    record {
      beside = with_keys beside (suc beside.keys) finds;
      serving = same_links old now uses.keeps.links
          (tells_notice (takes_then moment) (Keys uses.count) now.desk uses.tells.port uses.tells.opened uses.tells.connected uses.tells.messages done);
      moment = living.moment ∙ sym uses.keeps.moment;
      finds = ap (λ (e : List KmacEntry). key_at e) (sym uses.keys);
      held = living.held ∙ sym uses.keeps.held;
      draining = living.draining ∙ sym uses.keeps.draining;
      accepts =
          living.accepts
          ∙ ap (λ (d : Bool). accepts_more d old.calls) (sym uses.keeps.draining)
          ∙ ap (λ (c : Bool). accepts_more now.draining c) (sym uses.keeps.calls);
      left = living.left;
    }

pub lives_without_keys : {run : ServiceRun} {told told' : Told} {old now : LiveService} (moment : ℕ) (name : List ℕ) (answer : Fetch)
    → key_files_in_acts (Fetched name answer ∷ []) ≡ [] → RefusesKeys old now
    → Did told told' (Fetched name answer ∷ []) → Rested (scene_of_live told old) → Living run told (fetch_then moment) old
    → Living run told' (takes_then moment) now
lives_without_keys {run = run} {told = told} {told' = told'} {old = old} {now = now} moment name answer none refuses did rested living =
    let beside = living.beside in
    let serving = living.serving in
    let deeds = serving.deeds in
    let came = AreFaulty refuses.words in
    let keeps = refuses.keeps in
    let holds : (later : List (List KmacEntry)) → held_behind run (deeds ++ fetch_deed name answer came ∷ []) later beside.keys ≡ beside.finds = λ later.
    ap (λ (h : ℕ → Finds). h beside.keys) (held_without_file run deeds (fetch_deed name answer came) later none) ∙ serving.stands.finds later in
    let counted : (service_behind deeds).keys + 0 ≡ beside.keys = let is = serving.stands.keys in omega (arith, is) in
    let done = keys_read moment name answer came beside.keys beside.finds told' serving rested did (ap (λ (l : List (List KmacEntry)). length l) (sym none)) counted holds in
    living_beside living
    (record { keys = refuses.keys; held = keeps.held; moment = keeps.moment; draining = keeps.draining; calls = keeps.calls })
    (same_links old now keeps.links
    (tells_notice (takes_then moment) (KeysFault refuses.words) now.desk refuses.tells.port refuses.tells.opened refuses.tells.connected refuses.tells.messages done))

-- ---- memory ran out

pub unread_serves : {run : ServiceRun} {told told' : Told} {old : LiveService} (moment : ℕ) (name octets : List ℕ) → Did told told' (Fetched name (Gave octets) ∷ [])
    → Living run told (fetch_then moment) old → ServesBy run told'
unread_serves moment name octets did living =
    serves_behind_unread fetches (takes_then moment) name octets living.serving.going did (λ later. refl)
    (does_keys_fetched (so_far_of_going living.serving.going) living.serving.stands.written name (Gave octets))

pub unfetched_serves : {run : ServiceRun} {told told' : Told} {old : LiveService} (moment : ℕ) (name : List ℕ) (answer : Fetch)
    → key_files_in_acts (Fetched name answer ∷ []) ≡ [] → Did told told' (Fetched name answer ∷ []) → Living run told (fetch_then moment) old → ServesBy run told'
unfetched_serves moment name answer none did living =
    let going = living.serving.going in
    let now = greatest_moment (acts_in_service living.serving.deeds) in
    serves_of_going
    (going_by_act fetches (takes_then moment) (Fetched name answer) (KeysFetched ∷ []) going did none (λ later. refl)
    (does_keys_fetched (so_far_of_going going) living.serving.stands.written name answer) (timely_behind now KeysFetched [] tt (All-nil (IsAtMoment now))) refl)

-- ---- a file that was fetched is read

pub file_read : {T E : Type 0} {run : ServiceRun} {told told' : Told} {old : LiveService} (now : LiveService) (moment : ℕ) (name octets : List ℕ) (result : Result T E)
    → OnOk result (ReadsFile octets old now) → Did told told' (Fetched name (Gave octets) ∷ []) → Rested (scene_of_live told old)
    → Living run told (fetch_then moment) old → LivingOr run told' (takes_then moment) now result
file_read now moment name octets (Ok done) (inl uses) did rested living = lives_with_keys moment name octets uses did rested living
file_read now moment name octets (Ok done) (inr refuses) did rested living =
    lives_without_keys moment name (Gave octets) (ap (λ (l : List (List KmacEntry)). l ++ []) refuses.none) refuses.refuses did rested living
file_read now moment name octets (Err fault) reads did rested living = unread_serves moment name octets did living

-- what was answered where a file couldn't be had
abbrev pub without_file : FetchFault → Fetch
without_file why = fetched_by {V = List ℕ} (λ octets. octets) (Err why)

pub did_without : (told told' : Told) (name : List ℕ) (why what : FetchFault) → why ≡ what → Did told told' (Fetched name (without_file why) ∷ [])
    → Did told told' (Fetched name (without_file what) ∷ [])
did_without told told' name why what is did = subst (λ (w : FetchFault). Did told told' (Fetched name (without_file w) ∷ [])) is did
