-- Parts of a call over the core and the places.
use Rattle.std.proofs.Common.{◌≡◌, ℕ, ◌+◌, ◌-◌, ◌<◌, ◌≤◌, Bool, true, false, ◌||◌, if◌then◌else◌, List, [], ◌∷◌, ◌++◌, length, get_or, set, drop, take, map, Option, Some, None, ap, ap₂, ◌∙◌, arith, refl, sym, subst, eq-eqb, ne_eqb, append_assoc, length-append, ltb-true, ltb-false}
use Rattle.std.specs.Prelude.{◌==◌, nat_le, nat_lt}
use Rattle.std.specs.List.{filter}
use Rattle.er_base.specs.Stored.{Stored}
use Rattle.hdlc_station_model.specs.declared.phase.Phase.{Phase}
use Rattle.hdlc_station_model.specs.Frames.{Srej, Rr}
use Rattle.hdlc_station_model.specs.Stations.{Station, Deed, no_deed, puts}
use Rattle.hdlc_station_model.specs.Sending.{refuses_frame}
use Rattle.hdlc_station_model.specs.Receiving.{number_shown_as, acknowledges, acknowledging, by_number, accepts, agrees}
use Rattle.hdlc_station_model.specs.Selective.{held_for, is_found, is_one_of, takes_run, holds, says_next, files_at, files}
use Rattle.hdlc_station.specs.declared.heard.Told.{Told}
use Rattle.hdlc_station.specs.declared.heard.Told.TheVariants.{Nothing, CameUp, Took, Released}
use Rattle.hdlc_station.specs.declared.heard.Heard.{Heard}
use Rattle.hdlc_station.specs.declared.heard.Reply.{Reply}
use Rattle.hdlc_station.specs.declared.heard.Reply.TheVariants as reply
use Rattle.hdlc_station.specs.Replies.{reply_text, FollowsWithInformation}
use Rattle.hdlc_station.proofs.Saying.{silent, saying}
use Rattle.hdlc_station.specs.declared.selective_heard.SelectiveHeard.{SelectiveHeard}
use Rattle.hdlc_station.specs.declared.selective_heard.SelectiveReply.{SelectiveReply}
use Rattle.hdlc_station.specs.declared.selective_heard.SelectiveReply.TheVariants.{Plain}
use Rattle.hdlc_station.specs.SelectiveReplies.{IsReplyWritten, heard_as, HearsSo, BringsSo}
use Rattle.hdlc_station.specs.Places.{NumberPlace, no_place, cleared, run_of, lent}
use Rattle.hdlc_station.specs.Kept.{KeptStation, kept_of, Stands, Follows, Tells, WritesFramesAtMost}
use Rattle.hdlc_station.specs.Held.{IsBehind, SelectiveStands, Moves, TellsSelectiveDeed}
use Rattle.hdlc_station.specs.declared.deeds.LinkDeed.{LinkDeed}
use Rattle.hdlc_station.specs.Told.{told_as, deed_with, deed_of, deed_lending}
use Rattle.hdlc_station.specs.Steps.{asks_one, asks_below, takes_first}
use Rattle.hdlc_station.proofs.Runs.{lent_run, run_ends_at}
use Rattle.hdlc_station.proofs.Behind.{run_is, behind_asked, behind_held, behind_taken, behind_forgotten}
use Rattle.hdlc_station.proofs.Asking.{asked_behind}
use Rattle.hdlc_station.proofs.Keeping.{Keeps}

-- ---- steps of the core, which leave the places alone

pub lifts : (core core' : KeptStation) (places : List NumberPlace) (before : List ℕ) (out out' : Stored) (d d' : Deed) (s t : Station)
    → SelectiveStands core places before out d s → Stands core' before out' d' t → Keeps s t → SelectiveStands core' places before out' d' t
lifts core core' places before out out' d d' s t h g k = record {
  stands = g;
  behind = rw (k.taken, k.held, k.asked) h.behind;
  no_gap = k.gap ∙ h.no_gap;
}

pub follows_moves : (old new : KeptStation) (places : List NumberPlace) (out out' : Stored) (step : Station → Station)
    → Follows old out new out' step → ((s : Station) → Keeps s (step s)) → Moves old places out new places out' step
follows_moves old new places out out' step f k = λ s before d h. lifts old new places before out out' d d s (step s) h (f s before d h.stands) (k s)

told_alone : (information : List ℕ) (told : Told) → record (told_as information told) { more = [] } ≡ told_as information told
told_alone information Nothing = refl
told_alone information CameUp = refl
told_alone information Took = refl
told_alone information (Released release) = refl

-- a rule of a station of either kind
pub row_hears : (information : List ℕ) (old new : KeptStation) (places : List NumberPlace) (heard : Heard) (x : SelectiveHeard) (step : Station → Station)
    → x ≡ record { told = heard.told; more = 0; reply = Plain heard.reply } → FollowsWithInformation old new heard (λ information. step)
    → ((s : Station) → Keeps s (step s)) → HearsSo information old places new places x step
row_hears information old new places heard x step is hears keeps =
    subst (λ (y : SelectiveHeard). HearsSo information old places new places y step) (sym is) (λ out out' after w s before h.
    subst (λ (ps : List NumberPlace). SelectiveStands new ps before out' (record (told_as information heard.told) { more = [] }) (step s)) (sym w.0)
    (subst (λ (d : Deed). SelectiveStands new places before out' d (step s)) (sym (told_alone information heard.told))
    (lifts old new places before out out' no_deed (told_as information heard.told) s (step s) h (hears information out out' w.1 s before h.stands) (keeps s))))

-- what it tells, as what the frame brought
pub brought : (information : List ℕ) (old new : KeptStation) (places places' : List NumberPlace) (heard : SelectiveHeard) (r : SelectiveReply) (d : LinkDeed) (step : Station → Station)
    → ((ps : List NumberPlace) → deed_lending ps d ≡ heard_as information ps heard) → r ≡ heard.reply → HearsSo information old places new places' heard step
    → BringsSo old places new places' r d step
brought information old new places places' heard r d step deed reply hears = λ out out' after w s before h.
    subst (λ (e : Deed). SelectiveStands new after before out' e (step s)) (sym (deed after))
    (hears out out' after (subst (λ (q : SelectiveReply). IsReplyWritten new places' out q after out') reply w) s before h)

-- nothing is told
pub tells_nothing : (core : KeptStation) (places : List NumberPlace) (before : List ℕ) (out : Stored) (d : LinkDeed) (t : Station)
    → deed_of d ≡ no_deed → d.more ≡ 0 → SelectiveStands core places before out no_deed t → SelectiveStands core places before out (deed_lending places d) t
tells_nothing core places before out d t deed none h =
    subst (λ (e : Deed). SelectiveStands core places before out e t)
    (sym (ap (λ (n : ℕ). deed_with (lent n places) d) none ∙ deed)) h

-- one that tells nothing and answers nothing
pub quiet : (old new : KeptStation) (heard : Heard) (step : Station → Station) → heard ≡ record { told = Nothing; reply = reply.Nothing }
    → ((out : Stored) → Follows old out new out step) → FollowsWithInformation old new heard (λ information. step)
quiet old new heard step is follows = subst (λ (x : Heard). FollowsWithInformation old new x (λ information. step)) (sym is)
    (λ information out out' e s before h. silent new before out out' no_deed (step s) (follows out s before no_deed h) e)

-- a rule that tells nothing
pub answers_so : (information : List ℕ) (old new : KeptStation) (places places' : List NumberPlace) (x : SelectiveHeard) (r : Reply) (step : Station → Station)
    → x ≡ record { told = Nothing; more = 0; reply = Plain r }
    → ((out out' : Stored) → out'.items ≡ out.items ++ reply_text new r → (s : Station) (before : List ℕ) → SelectiveStands old places before out no_deed s → SelectiveStands new places' before out' no_deed (step s))
    → HearsSo information old places new places' x step
answers_so information old new places places' x r step is moves =
    subst (λ (y : SelectiveHeard). HearsSo information old places new places' y step) (sym is) (λ out out' after w s before h.
    subst (λ (ps : List NumberPlace). SelectiveStands new ps before out' no_deed (step s)) (sym w.0) (moves out out' w.1 s before h))

-- RR says again which is the next one
pub says_ready : (k : KeptStation) (places : List NumberPlace) (before : List ℕ) (out out' : Stored) (s : Station) → SelectiveStands k places before out no_deed s
    → out'.items ≡ out.items ++ reply_text k reply.Ready → SelectiveStands k places before out' no_deed (says_next s)
says_ready k places before out out' s h e =
    lifts k k places before out out' no_deed no_deed s (says_next s) h (saying k before out out' no_deed s (Rr (length s.taken)) reply.Ready refl h.stands e)
    (record { held = refl; asked = refl; taken = refl; gap = refl })

-- nothing is written
pub unwritten : (core : KeptStation) (places : List NumberPlace) (before : List ℕ) (out out' : Stored) (d : Deed) (s : Station) → SelectiveStands core places before out d s
    → out'.items ≡ out.items ++ [] → SelectiveStands core places before out' d s
unwritten core places before out out' d s h e = record { stands = silent core before out out' d s h.stands e; behind = h.behind; no_gap = h.no_gap }

-- ---- tests of the model

pub when_so : (core : KeptStation) (places : List NumberPlace) (before : List ℕ) (out : Stored) (d : Deed) (b : Bool) (x y : Station)
    → b ≡ true → SelectiveStands core places before out d x → SelectiveStands core places before out d (if b then x else y)
when_so core places before out d b x y e h = subst (λ (c : Bool). SelectiveStands core places before out d (if c then x else y)) (sym e) h

pub when_not : (core : KeptStation) (places : List NumberPlace) (before : List ℕ) (out : Stored) (d : Deed) (b : Bool) (x y : Station)
    → b ≡ false → SelectiveStands core places before out d y → SelectiveStands core places before out d (if b then x else y)
when_not core places before out d b x y e h = subst (λ (c : Bool). SelectiveStands core places before out d (if c then x else y)) (sym e) h

pub phased : (step : Phase → Station → Station) (core : KeptStation) (places : List NumberPlace) (before : List ℕ) (out : Stored) (d : Deed) (s : Station) (p : Phase)
    → p ≡ s.phase → SelectiveStands core places before out d (step p s) → SelectiveStands core places before out d (step s.phase s)
phased step core places before out d s p e h = subst (λ (q : Phase). SelectiveStands core places before out d (step q s)) e h

pub numbered : (core : KeptStation) (places : List NumberPlace) (before : List ℕ) (out : Stored) (d : Deed) (s : Station) (r n : ℕ) (rest : Station → Station)
    → number_shown_as s.extended s.acked (s.sent - s.acked) r ≡ Some n → SelectiveStands core places before out d (rest (acknowledges n s))
    → SelectiveStands core places before out d (by_number r rest s)
numbered core places before out d s r n rest e h = subst (λ (o : Option ℕ). SelectiveStands core places before out d (acknowledging o rest s)) (sym e) h

pub absent : (core : KeptStation) (places : List NumberPlace) (before : List ℕ) (out : Stored) (d : Deed) (s : Station) (r : ℕ) (rest : Station → Station)
    → number_shown_as s.extended s.acked (s.sent - s.acked) r ≡ None → SelectiveStands core places before out d (refuses_frame s)
    → SelectiveStands core places before out d (by_number r rest s)
absent core places before out d s r rest e h = subst (λ (o : Option ℕ). SelectiveStands core places before out d (acknowledging o rest s)) (sym e) h

-- N(S)
pub filed : (core : KeptStation) (places : List NumberPlace) (before : List ℕ) (out : Stored) (d : Deed) (s : Station) (ns : ℕ) (payload : List ℕ) (o : Option ℕ)
    → number_shown_as s.extended (length s.taken) (s.window - 1) ns ≡ o → SelectiveStands core places before out d (files_at o payload s)
    → SelectiveStands core places before out d (files ns payload s)
filed core places before out d s ns payload o e h = subst (λ (q : Option ℕ). SelectiveStands core places before out d (files_at q payload s)) (sym e) h

-- ---- places

pub held_is : (places : List NumberPlace) (r up : ℕ) (held : List (ℕ × List ℕ)) (asked : List ℕ) → IsBehind places r held asked
    → (get_or places up no_place).held ≡ true → is_found (held_for (r + up) held) ≡ true
held_is places r up held asked h e = ap is_found (h.is_held up ∙ ap (λ (b : Bool). if b then Some (get_or places up no_place).payload else None) e)

pub free_is : (places : List NumberPlace) (r up : ℕ) (held : List (ℕ × List ℕ)) (asked : List ℕ) → IsBehind places r held asked
    → (get_or places up no_place).held ≡ false → held_for (r + up) held ≡ None
free_is places r up held asked h e = h.is_held up ∙ ap (λ (b : Bool). if b then Some (get_or places up no_place).payload else None) e

or_true : (b : Bool) → (b || true) ≡ true
or_true true = refl
or_true false = refl

-- a number that is held or was asked for isn't asked for
pub known_stays : (core : KeptStation) (places : List NumberPlace) (before : List ℕ) (out : Stored) (d : Deed) (s : Station) (up : ℕ)
    → SelectiveStands core places before out d s → (get_or places up no_place).held ≡ true → SelectiveStands core places before out d (asks_one (length s.taken + up) s)
known_stays core places before out d s up h e =
    let n = length s.taken + up in
    when_so core places before out d (is_found (held_for n s.held) || is_one_of n s.asked) s (record (puts (Srej n) s) { asked = s.asked ++ n ∷ [] })
    (ap (λ (b : Bool). b || is_one_of n s.asked) (held_is places (length s.taken) up s.held s.asked h.behind e)) h

pub asked_stays : (core : KeptStation) (places : List NumberPlace) (before : List ℕ) (out : Stored) (d : Deed) (s : Station) (up : ℕ)
    → SelectiveStands core places before out d s → (get_or places up no_place).asked ≡ true → SelectiveStands core places before out d (asks_one (length s.taken + up) s)
asked_stays core places before out d s up h e =
    let n = length s.taken + up in
    when_so core places before out d (is_found (held_for n s.held) || is_one_of n s.asked) s (record (puts (Srej n) s) { asked = s.asked ++ n ∷ [] })
    (ap (λ (b : Bool). is_found (held_for n s.held) || b) (h.behind.is_asked up ∙ e) ∙ or_true (is_found (held_for n s.held))) h

-- another is
pub asked_moves : (core : KeptStation) (places : List NumberPlace) (before : List ℕ) (out out' : Stored) (d : Deed) (s : Station) (up : ℕ)
    → SelectiveStands core places before out d s → Stands core before out' d (puts (Srej (length s.taken + up)) s) → up < length places
    → (get_or places up no_place).held ≡ false → (get_or places up no_place).asked ≡ false
    → SelectiveStands core (set places up (record (get_or places up no_place) { asked = true })) before out' d (asks_one (length s.taken + up) s)
asked_moves core places before out out' d s up h g low free new =
    let n = length s.taken + up in
    when_not core (set places up (record (get_or places up no_place) { asked = true })) before out' d (is_found (held_for n s.held) || is_one_of n s.asked) s (record (puts (Srej n) s) { asked = s.asked ++ n ∷ [] })
    (ap₂ (λ (a b : Bool). a || b) (ap is_found (free_is places (length s.taken) up s.held s.asked h.behind free)) (h.behind.is_asked up ∙ new))
    (record {
      stands = record { is = g.is; order = g.order; given = g.given; deed = g.deed; text = g.text };
      behind = behind_asked places (length s.taken) s.held s.asked h.behind up low;
      no_gap = h.no_gap;
    })

-- a frame is held, and then the numbers before it are asked for
pub held_moves : (core : KeptStation) (places after : List NumberPlace) (before : List ℕ) (out out' : Stored) (d : Deed) (s : Station) (up : ℕ) (payload : List ℕ)
    → SelectiveStands core places before out d s → up < length places → 1 ≤ up → (get_or places up no_place).held ≡ false
    → Moves core (set places up (record (get_or places up no_place) { payload = payload; held = true })) out core after out' (asks_below up)
    → SelectiveStands core after before out' d (holds (length s.taken + up) payload s)
held_moves core places after before out out' d s up payload h low above free asks =
    let places' = set places up (record (get_or places up no_place) { payload = payload; held = true }) in
    let t : Station = record s { held = s.held ++ (length s.taken + up, payload) ∷ [] } in
    let none = free_is places (length s.taken) up s.held s.asked h.behind free in
    let held : SelectiveStands core places' before out d t = record {
      stands = record { is = h.stands.is; order = h.stands.order; given = h.stands.given; deed = h.stands.deed; text = h.stands.text };
      behind = behind_held places (length s.taken) s.held s.asked h.behind up payload low above none;
      no_gap = h.no_gap;
    } in
    subst (λ (x : Station). SelectiveStands core after before out' d x) (asked_behind up payload s) (asks t before d held)

-- the next payload is taken, and those that are held behind it
module _ (core core' : KeptStation) (places : List NumberPlace) (payload : List ℕ) (out : Stored) (before : List ℕ) (s : Station) (h : SelectiveStands core places before out no_deed s) where
  abbrev run : List (List ℕ)
  run = run_of (drop 1 places)

  abbrev told : Deed
  told = record { up = false; payload = Some payload; more = run; released = None }

  -- of the core
  core_takes : (d : Deed) → Stands core' before out d (record (accepts payload s) { taken = (s.taken ++ payload ∷ []) ++ run }) → Stands core' before out told (takes_run payload run s)
  core_takes d g = record {
    is = g.is ∙ ap₂ (λ (ts : List (List ℕ)) (b : Bool). kept_of (record (accepts payload s) { taken = ts; gap = b })) (append_assoc s.taken (payload ∷ []) run) (sym h.no_gap);
    order = g.order;
    given = g.given;
    deed = refl;
    text = g.text;
  }

  pub took : (n : ℕ) (d : Deed) → n ≡ length run → 1 ≤ length places
      → ((payloads : List (List ℕ)) → length payloads ≡ n → Stands core' before out d (record (accepts payload s) { taken = (s.taken ++ payload ∷ []) ++ payloads }))
      → SelectiveStands core' (drop (n + 1) places ++ map cleared (take (n + 1) places)) before out
      (record { up = false; payload = Some payload; more = lent n (drop (n + 1) places ++ map cleared (take (n + 1) places)); released = None }) (takes_first payload s)
  took n d count some more =
      let places' = drop (n + 1) places ++ map cleared (take (n + 1) places) in
      let lends : lent n places' ≡ run = ap (λ (m : ℕ). lent m (drop (m + 1) places ++ map cleared (take (m + 1) places))) count ∙ lent_run places some in
      let deed : record { up = false; payload = Some payload; more = lent n places'; released = None } ≡ told =
      ap (λ (ps : List (List ℕ)). record { up = false; payload = Some payload; more = ps; released = None }) lends in
      let next : length s.taken + (n + 1) ≡ length s.taken + 1 + length run = omega (arith, count) in
      let all : length s.taken + (n + 1) ≡ length (s.taken ++ payload ∷ run) = omega (arith, count, length-append s.taken (payload ∷ run)) in
      let taken : SelectiveStands core' places' before out told (takes_run payload run s) = record {
        stands = core_takes d (more run (sym count));
        behind =
            subst (λ (m : ℕ). IsBehind places' (length (s.taken ++ payload ∷ run)) (filter (λ g. nat_le m g.0) s.held) (filter (λ k. nat_le m k) s.asked)) next
            (subst (λ (m : ℕ). IsBehind places' m (filter (λ g. nat_le (length s.taken + (n + 1)) g.0) s.held) (filter (λ k. nat_le (length s.taken + (n + 1)) k) s.asked)) all
            (behind_taken places (length s.taken) s.held s.asked h.behind (n + 1) (omega arith) (run_ends_at places n count)));
        no_gap = h.no_gap;
      } in
      subst (λ (e : Deed). SelectiveStands core' places' before out e (takes_first payload s)) (sym deed)
      (subst (λ (w : List (List ℕ)). SelectiveStands core' places' before out told (takes_run payload w s)) (sym (run_is places (length s.taken) s.held s.asked h.behind)) taken)

-- the repeated set-up frame: nothing is held or asked for any more
pub forgotten : (core : KeptStation) (places : List NumberPlace) (n : ℕ) (before : List ℕ) (out out' : Stored) (d : Deed) (poll : Bool) (s : Station)
    → SelectiveStands core places before out d s → n ≡ length places
    → ((t : Station) → Stands core before out d t → Stands core before out' d (agrees poll t))
    → SelectiveStands core (drop n places ++ map cleared (take n places)) before out' d (agrees poll (record s { held = []; asked = [] }))
forgotten core places n before out out' d poll s h all says = record {
  stands = says (record s { held = []; asked = [] }) (record { is = h.stands.is; order = h.stands.order; given = h.stands.given; deed = h.stands.deed; text = h.stands.text });
  behind = behind_forgotten places n (length s.taken) all;
  no_gap = h.no_gap;
}

-- ---- whether an I frame was taken

pub none_taken : (s : Station) → nat_lt 0 (length s.taken) ≡ false → (length s.taken == 0) ≡ true
none_taken s h = eq-eqb (length s.taken) 0 (let z : length s.taken ≤ 0 = ltb-false 0 (length s.taken) h in omega arith)

pub some_taken : (s : Station) → nat_lt 0 (length s.taken) ≡ true → (length s.taken == 0) ≡ false
some_taken s h = ne_eqb (length s.taken) 0 (λ e. let z : 0 < length s.taken = ltb-true 0 (length s.taken) h in omega arith)

-- ---- how much was written

pub within_more : (k k' k'' : KeptStation) (out out' out'' : Stored) (n m : ℕ) → WritesFramesAtMost k out k' out' n → WritesFramesAtMost k' out' k'' out'' m → WritesFramesAtMost k out k'' out'' (n + m)
within_more k k' k'' out out' out'' n m h g = record {
  window = g.window ∙ h.window;
  near = g.near;
  capacity = g.capacity ∙ h.capacity;
  items = omega (arith, h.items, g.items);
}
