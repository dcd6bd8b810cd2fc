-- What follows at each moment.
use Rattle.std.proofs.Common.{◌≡◌, ◌∙◌, ℕ, inl, inr, List, [], ◌∷◌, ◌++◌, refl, sym, ap, subst, append-nil, append_assoc, fold}
use Rattle.std.specs.List.{flat_map, filter_map}
use Rattle.std.proofs.lemmas.Grind.{flat_map-append}
use Rattle.std.proofs.lemmas.List.Sums.{fold-append}
use Rattle.er_settings.specs.Values.{Settings}
use Rattle.er_end_model.specs.Steps.{Finds}
use Rattle.outside.specs.Doings.{Told}
use Rattle.application_lines.specs.declared.application_line.ApplicationLine.{ApplicationLine}
use Rattle.application_lines.specs.Streams.{stream_says}
use Rattle.application_lines.specs.Standings.{at_first_line, says_from, line_standing_from}
use Rattle.application_lines.specs.StreamLaws.{LinesGoOn, IsWholeFromTheFirst}
use Rattle.application_lines.specs.Notices.{notice_text}
use Rattle.application_model.specs.Histories.{Attaches, Departs, Brings, Takes, Opens, Befalls, Closes, KeysRead, ServiceItem, Came, LineRead, Occurred}
use Rattle.application_model.specs.Histories.{Informed, KeysFetched}
use Rattle.application_model.specs.Services.{at_start, service_history}
use Rattle.application_model.specs.Turns.{IsDoneInTurn}
use Rattle.application_model.specs.Claims.{IsBeginning, lines_due, deeds_due}
use Rattle.application_model.specs.Laws.{EachBeginningIsAsClaimed, AreNoChanges, told_in_item, lines_due_to_read, line_read_by, octets_brought_by}
use Rattle.application_model.specs.Laws.{ToldBeginsTheJournal, ReadBeginsTheSaid}
use Rattle.application_model.specs.Laws.{DoneBeginsTheAsked}
use Rattle.application_ends.specs.Laws.{ReplaysPrintRecordings, StackKeepsMessages}
use Rattle.application_serving.specs.SeenOctets.{octets_given_to, SeenApplication, NobodySeen, SeenThere, application_in_acts}
use Rattle.application_serving.specs.Serving.{application_behind_item, application_in_items, IsServedAs, octets_told_at, kind_by_acts}
use Rattle.application_serving.specs.Serving.{held_by_files, key_files_in_acts, ServiceDeed, acts_in_service, items_of_deed, items_in_service, Serves}
use Rattle.application_serving.specs.Laws.{ServesByTheModel, LosesNoneSoFar, RecordsFirst, WritesWhatReplays, GivesInOrder, ReadsInOrder, DoesInOrder}

-- the history by a moment, and what is left of it
record IsCut (all front : List ServiceItem) : Type 0 where
  back : List ServiceItem
  is : all ≡ front ++ back

cut_at : (settings : Settings) (start : Finds) (before now : Told) (serves : Serves settings start before now) (front rest : List ServiceDeed)
    → serves.deeds ≡ front ++ rest
    → IsCut (service_history (kind_by_acts settings start (acts_in_service serves.deeds)) serves.happenings) (items_in_service front)
cut_at settings start before now serves front rest is =
    record {
      back = items_in_service rest ++ serves.history.rest;
      is = serves.history.is
          ∙ ap (λ (deeds : List ServiceDeed). items_in_service deeds ++ serves.history.rest) is
          ∙ ap (λ (items : List ServiceItem). items ++ serves.history.rest) (flat_map-append items_of_deed front rest)
          ∙ append_assoc (items_in_service front) (items_in_service rest) serves.history.rest;
    }

pub by_the_model : EachBeginningIsAsClaimed → ServesByTheModel
by_the_model each settings start before now serves front rest is =
    let cut = cut_at settings start before now serves front rest is in
    each (kind_by_acts settings start (acts_in_service serves.deeds)) serves.happenings (items_in_service front) cut.back cut.is

pub loses_none : EachBeginningIsAsClaimed → StackKeepsMessages → LosesNoneSoFar
loses_none each keeps settings start before now serves front rest is =
    (by_the_model each settings start before now serves front rest is).kept
    (keeps settings (held_by_files start (key_files_in_acts (acts_in_service serves.deeds))))

-- ---- recorded before

begins_nothing : (given told : List ℕ) → IsBeginning given told → told ≡ [] → given ≡ []
begins_nothing [] told p none = refl
begins_nothing (octet ∷ given) told p none = let e = sym none ∙ p.is in absurd (cc)

pub recorded_first : RecordsFirst
recorded_first settings start before now serves front rest is conn above some =
    let here = serves.always front rest is in
    let given = here.given conn above in
    elim here.written [
      | inl none ↦
          let nothing = ap (octets_told_at conn) none.1 in
          absurd (some (begins_nothing (octets_given_to conn (acts_in_service front)) (octets_told_at conn (items_in_service front)) given nothing))
      | inr recorded ↦ record { recorded = recorded; told = given }
    ]

-- ---- replayed

pub written_replays : ReplaysPrintRecordings → WritesWhatReplays
written_replays replays settings start before now serves front rest finds is looks taken some =
    let cut = cut_at settings start before now serves front rest is in
    elim (serves.always front rest is).written [
      | inl none ↦ absurd (some none.0)
      | inr recorded ↦
          recorded
          ∙ sym
          (replays settings (held_by_files start (key_files_in_acts (acts_in_service serves.deeds))) finds serves.happenings (items_in_service front) cut.back cut.is looks
          taken)
    ]

-- ---- told

-- what an application is told while it is there
told_on : (brought told : List ℕ) (during : List ServiceItem) → AreNoChanges during
    → fold application_behind_item (SeenThere brought told) during
    ≡ SeenThere (brought ++ flat_map octets_brought_by during) (told ++ flat_map notice_text (flat_map told_in_item during))
told_on brought told [] none = ap (λ (b : List ℕ). SeenThere b told) (sym (append-nil brought)) ∙ ap (SeenThere (brought ++ [])) (sym (append-nil told))
told_on brought told (Came Attaches ∷ during) none = absurd none.0
told_on brought told (Came Departs ∷ during) none = absurd none.0
told_on brought told (Came (Brings octets) ∷ during) none =
    told_on (brought ++ octets) told during none.1
    ∙ ap (λ (b : List ℕ). SeenThere b (told ++ flat_map notice_text (flat_map told_in_item during)))
    (append_assoc brought octets (flat_map octets_brought_by during))
told_on brought told (Came (Takes count) ∷ during) none = told_on brought told during none.1
told_on brought told (Came (Opens what) ∷ during) none = told_on brought told during none.1
told_on brought told (Came (Befalls c what) ∷ during) none = told_on brought told during none.1
told_on brought told (Came (Closes c) ∷ during) none = told_on brought told during none.1
told_on brought told (Came (KeysRead answer) ∷ during) none = told_on brought told during none.1
told_on brought told (LineRead line ∷ during) none = told_on brought told during none.1
told_on brought told (Occurred time c what outcomes ∷ during) none = told_on brought told during none.1
told_on brought told (Informed notice ∷ during) none =
    told_on brought (told ++ notice_text notice) during none.1
    ∙ ap (SeenThere (brought ++ flat_map octets_brought_by during)) (append_assoc told (notice_text notice) (flat_map notice_text (flat_map told_in_item during)))
told_on brought told (KeysFetched ∷ during) none = told_on brought told during none.1

there_as : (seen told : SeenApplication) (read given brought texts : List ℕ) → seen ≡ SeenThere read given → told ≡ SeenThere brought texts → IsServedAs seen told
    → IsBeginning given texts × IsBeginning brought read
there_as NobodySeen told read given brought texts s t served = absurd (cc)
there_as (SeenThere read' given') NobodySeen read given brought texts s t served = absurd (cc)
there_as (SeenThere read' given') (SeenThere brought' texts') read given brought texts s t served =
    let e : given' ≡ given = cc in
    let f : texts' ≡ texts = cc in
    let r : read' ≡ read = cc in
    let b : brought' ≡ brought = cc in (
      subst (λ (g : List ℕ). IsBeginning g texts) e (subst (IsBeginning given') f served.0),
      subst (λ (g : List ℕ). IsBeginning g read) b (subst (IsBeginning brought') r served.1),
    )

-- of an application that is there
application_there : (front : List ServiceDeed) (earlier during : List ServiceItem) (read given : List ℕ)
    → items_in_service front ≡ earlier ++ Came Attaches ∷ during → AreNoChanges during → application_in_acts (acts_in_service front) ≡ SeenThere read given
    → IsServedAs (application_in_acts (acts_in_service front)) (application_in_items (items_in_service front))
    → IsBeginning given (flat_map notice_text (flat_map told_in_item during)) × IsBeginning (flat_map octets_brought_by during) read
application_there front earlier during read given items none seen served =
    let there : application_in_items (items_in_service front) ≡ SeenThere (flat_map octets_brought_by during) (flat_map notice_text (flat_map told_in_item during)) =
    ap application_in_items items ∙ fold-append application_behind_item NobodySeen earlier (Came Attaches ∷ during) ∙ told_on [] [] during none in
    there_as (application_in_acts (acts_in_service front)) (application_in_items (items_in_service front)) read given _ _ seen there served

pub given_in_order : EachBeginningIsAsClaimed → ToldBeginsTheJournal → GivesInOrder
given_in_order each begins settings start before now serves front rest is earlier during read given items none seen =
    let far = by_the_model each settings start before now serves front rest is in
    record {
      told = (application_there front earlier during read given items none seen (serves.always front rest is).served).0;
      journal = λ conn.
          let turn = far.told conn in
          begins conn earlier during [] turn.0
          (subst (λ (x : List ServiceItem). IsDoneInTurn (lines_due conn) at_start [] x turn.0)
          (items ∙ ap (λ (x : List ServiceItem). earlier ++ Came Attaches ∷ x) (sym (append-nil during))) turn.1) none;
    }

-- ---- said

-- what begins an octet stream says a beginning of what the stream says
says_begins : LinesGoOn → IsWholeFromTheFirst → (lines : List ApplicationLine) (brought read : List ℕ) → IsBeginning lines (stream_says brought)
    → IsBeginning brought read → IsBeginning lines (stream_says read)
says_begins on whole lines brought read said came =
    let more = on at_first_line brought came.rest in
    let later = says_from (line_standing_from at_first_line brought) came.rest in
    record {
      rest = said.rest ++ later;
      is = ap stream_says came.is
          ∙ whole (brought ++ came.rest)
          ∙ more.says
          ∙ ap (λ (l : List ApplicationLine). l ++ later) (sym (whole brought) ∙ said.is)
          ∙ append_assoc lines said.rest later;
    }

pub read_in_order : LinesGoOn → IsWholeFromTheFirst → EachBeginningIsAsClaimed → ReadBeginsTheSaid → ReadsInOrder
read_in_order on whole each begins settings start before now serves front rest is earlier during read given items none seen =
    let turn = (by_the_model each settings start before now serves front rest is).read in
    says_begins on whole (filter_map line_read_by during) (flat_map octets_brought_by during) read
    (begins earlier during [] turn.0
    (subst (λ (x : List ServiceItem). IsDoneInTurn lines_due_to_read at_start [] x turn.0)
    (items ∙ ap (λ (x : List ServiceItem). earlier ++ Came Attaches ∷ x) (sym (append-nil during))) turn.1) none)
    (application_there front earlier during read given items none seen (serves.always front rest is).served).1

pub done_in_order : EachBeginningIsAsClaimed → DoneBeginsTheAsked → DoesInOrder
done_in_order each begins settings start before now serves front rest is =
    let said = (by_the_model each settings start before now serves front rest is).said in
    begins (items_in_service front) [] said.0
    (subst (λ (x : List ServiceItem). IsDoneInTurn deeds_due at_start [] x said.0) (sym (append-nil (items_in_service front))) said.1)
