-- An application that comes is told first of each connected end, and numbers rise.
use Rattle.std.proofs.Common.{arith, ◌≡◌, ℕ, ◌+◌, ◌==◌, ◌≤◌, inl, inr, List, [], ◌∷◌, ◌++◌, map, refl, ap, sym, ◌∙◌, subst, append_assoc, append-nil}
use Rattle.std.proofs.lemmas.Bool.{cases_Bool}
use Rattle.er_trace.specs.declared.event.Event.{Event}
use Rattle.er_trace.specs.Outcomes.{TraceOutcome}
use Rattle.application_lines.specs.declared.application_line.ApplicationLine.{ApplicationLine}
use Rattle.application_lines.specs.declared.application_line.ApplicationLine.TheVariants.{Asks, Faulty}
use Rattle.application_lines.specs.declared.request.Request.TheVariants as request
use Rattle.application_lines.specs.Notices.{ApplicationNotice}
use Rattle.application_model.specs.Ends.{SettingUp, KnownEnd, learning, known_behind, without_end, numbers_known, EndKind}
use Rattle.application_model.specs.Lines.{notices_of_event, connected_lines}
use Rattle.application_model.specs.Histories.{ServiceHappening, Attaches, Departs, Brings, Takes, Opens, Befalls, Closes, KeysRead, ServiceItem, Came}
use Rattle.application_model.specs.Histories.{LineRead, Occurred, Informed, KeysFetched}
use Rattle.application_model.specs.Services.{Attendance, Absent, Attached, Service, at_start, behind_line, service_behind_happening, behind_item}
use Rattle.application_model.specs.Services.{behind_items, inform, informed, keys_notice, time_at, occurs}
use Rattle.application_model.specs.Claims.{RiseTo, IsBeginning, TellsFirst, NumbersRise}
use Rattle.application_model.proofs.Steadies.{Family, IsPlain, IsSteady, KeepsAnswers, line_keeps}

-- ---- what is told first

abbrev BeginsWithEnds : Service → ServiceHappening → List ServiceItem → Type 0
BeginsWithEnds s Attaches items = IsBeginning (map inform (connected_lines s.known)) items
BeginsWithEnds s happening items = Unit {0}

abbrev FirstAt : Service → ServiceItem → List ServiceItem → Type 0
FirstAt s (Came happening) items = BeginsWithEnds s happening items
FirstAt s (LineRead line) items = Unit {0}
FirstAt s (Occurred time conn what outcomes) items = Unit {0}
FirstAt s (Informed notice) items = Unit {0}
FirstAt s KeysFetched items = Unit {0}

abbrev pub FirstToldOf : Family
FirstToldOf s [] = Unit {0}
FirstToldOf s (item ∷ items) = FirstAt s item items × FirstToldOf (behind_item s item) items

begins_more : (s : Service) (happening : ServiceHappening) (items more : List ServiceItem) → BeginsWithEnds s happening items → BeginsWithEnds s happening (items ++ more)
begins_more s Attaches items more p =
    let first = map inform (connected_lines s.known) in
    record { rest = p.rest ++ more; is = ap (λ (l : List ServiceItem). l ++ more) p.is ∙ append_assoc first p.rest more }
begins_more s Departs items more p = tt
begins_more s (Brings octets) items more p = tt
begins_more s (Takes count) items more p = tt
begins_more s (Opens what) items more p = tt
begins_more s (Befalls c what) items more p = tt
begins_more s (Closes c) items more p = tt
begins_more s (KeysRead answer) items more p = tt

first_more : (s : Service) (item : ServiceItem) (items more : List ServiceItem) → FirstAt s item items → FirstAt s item (items ++ more)
first_more s (Came happening) items more p = begins_more s happening items more p
first_more s (LineRead line) items more p = tt
first_more s (Occurred time conn what outcomes) items more p = tt
first_more s (Informed notice) items more p = tt
first_more s KeysFetched items more p = tt

follow_first : (s : Service) (a b : List ServiceItem) → FirstToldOf s a → FirstToldOf (behind_items s a) b → FirstToldOf s (a ++ b)
unfolding behind_items
follow_first s [] b p q = q
follow_first s (item ∷ a) b p q = (first_more s item a b p.0, follow_first (behind_item s item) a b p.1 q)

all_informed : (s : Service) (notices : List ApplicationNotice) → FirstToldOf s (map inform notices)
all_informed s [] = tt
all_informed s (notice ∷ notices) = (tt, all_informed (behind_item s (Informed notice)) notices)

informed_first : (s : Service) (application : Attendance) (notices : List ApplicationNotice) → FirstToldOf s (informed application notices)
informed_first s Absent notices = tt
informed_first s (Attached standing waiting) notices = all_informed s notices

came_first : (s : Service) (happening : ServiceHappening) → IsPlain happening → BeginsWithEnds s happening []
came_first s Attaches plain = absurd plain
came_first s Departs plain = tt
came_first s (Brings octets) plain = tt
came_first s (Takes count) plain = tt
came_first s (Opens what) plain = tt
came_first s (Befalls c what) plain = tt
came_first s (Closes c) plain = tt
came_first s (KeysRead answer) plain = tt

module _ (kind : EndKind) where
  event_first : (moment conn : ℕ) (what : Event) (s : Service) → FirstToldOf s (occurs kind moment conn what s)
  event_first moment conn what s =
      let outcomes = kind.tells (s.ends conn) (time_at moment s) what in
      (tt, informed_first (behind_item s (Occurred (time_at moment s) conn what outcomes)) s.application (notices_of_event conn what outcomes))

  answers_first : KeepsAnswers kind FirstToldOf
  answers_first =
      record {
        none = λ s. tt;
        follows = follow_first;
        line_read = λ line s. (tt, tt);
        send = λ moment conn text s. event_first moment conn _ s;
        release = λ moment conn sub s. event_first moment conn _ s;
        answer = λ notice s other. informed_first s s.application (notice ∷ []);
        fetched = λ s. (tt, tt);
      }

  pub first_steadily : IsSteady kind FirstToldOf
  first_steadily =
      record {
        none = λ s. tt;
        follows = follow_first;
        came = λ happening s plain. (came_first s happening plain, tt);
        opened = λ what s still. (tt, tt);
        attached = λ s.
            let first = map inform (connected_lines s.known) in
            (record { rest = []; is = sym (append-nil first) }, all_informed (behind_item s (Came Attaches)) (connected_lines s.known));
        outside = λ moment conn what s own. event_first moment conn what s;
        take = λ moment conn s room. event_first moment conn _ s;
        line = λ moment line s there. line_keeps kind FirstToldOf answers_first moment line s;
        keys = λ answer s. informed_first s s.application (keys_notice answer ∷ []);
      }

first_at : (s : Service) (before after : List ServiceItem) → FirstToldOf s (before ++ Came Attaches ∷ after)
    → IsBeginning (map inform (connected_lines (behind_items s before).known)) after
unfolding behind_items
first_at s [] after p = p.0
first_at s (item ∷ before) after p = first_at (behind_item s item) before after p.1

pub tells_first : (items : List ServiceItem) → FirstToldOf at_start items → TellsFirst items
tells_first items p before after e = first_at at_start before after (subst (FirstToldOf at_start) e p)

-- ---- numbers

abbrev Rise : Service → Type 0
Rise s = RiseTo 0 (numbers_known s.known) s.opened

rise_below : (low lower : ℕ) (ns : List ℕ) (top : ℕ) → lower ≤ low → RiseTo low ns top → RiseTo lower ns top
rise_below low lower [] top below p = omega (arith, below, p)
rise_below low lower (n ∷ ns) top below p = (omega (arith, below, p.0), p.1)

rise_more : (low : ℕ) (known : List KnownEnd) (top : ℕ) → RiseTo low (numbers_known known) top
    → RiseTo low (numbers_known (known ++ record { number = top + 1; stage = SettingUp } ∷ [])) (top + 1)
rise_more low [] top p = (omega (arith, p), omega arith)
rise_more low (k ∷ known) top p = (p.0, rise_more k.number known top p.1)

rise_without : (conn low : ℕ) (known : List KnownEnd) (top : ℕ) → RiseTo low (numbers_known known) top
    → RiseTo low (numbers_known (without_end conn known)) top
rise_without conn low [] top p = p
rise_without conn low (k ∷ known) top p =
    elim (cases_Bool (k.number == conn)) [
      | inl gone ↦ rw gone (rise_without conn low known top (rise_below k.number low (numbers_known known) top (omega (arith, p.0)) p.1))
      | inr kept ↦ rw kept (p.0, rise_without conn k.number known top p.1)
    ]

same_number : (conn : ℕ) (outcomes : List TraceOutcome) (k : KnownEnd) → (learning conn outcomes k).number ≡ k.number
same_number conn outcomes k = elim (cases_Bool (k.number == conn)) [ inl mine ↦ rw mine refl | inr other ↦ rw other refl ]

pub same_numbers : (conn : ℕ) (outcomes : List TraceOutcome) (known : List KnownEnd) → numbers_known (known_behind conn outcomes known) ≡ numbers_known known
same_numbers conn outcomes [] = refl
same_numbers conn outcomes (k ∷ known) = rw (same_number conn outcomes k, same_numbers conn outcomes known) refl

came_rise : (s : Service) (happening : ServiceHappening) → Rise s → Rise (service_behind_happening s happening)
came_rise s Attaches p = p
came_rise s Departs p = p
came_rise s (Brings octets) p = p
came_rise s (Takes count) p = p
came_rise s (Opens what) p = rise_more 0 s.known s.opened p
came_rise s (Befalls c what) p = p
came_rise s (Closes c) p = rise_without c 0 s.known s.opened p
came_rise s (KeysRead answer) p = p

line_rise : (s : Service) (line : ApplicationLine) → Rise s → Rise (behind_line s line)
line_rise s (Asks (request.Send conn text)) p = p
line_rise s (Asks (request.Release conn sub)) p = p
line_rise s (Asks request.Drain) p = p
line_rise s (Asks request.Keys) p = p
line_rise s (Asks request.Counts) p = p
line_rise s (Faulty line why) p = p

item_rise : (s : Service) (item : ServiceItem) → Rise s → Rise (behind_item s item)
item_rise s (Came happening) p = came_rise s happening p
item_rise s (LineRead line) p = line_rise s line p
item_rise s (Occurred time c what outcomes) p = rw (same_numbers c outcomes s.known) p
item_rise s (Informed notice) p = p
item_rise s KeysFetched p = p

all_rise : (s : Service) (items : List ServiceItem) → Rise s → Rise (behind_items s items)
unfolding behind_items
all_rise s [] p = p
all_rise s (item ∷ items) p = all_rise (behind_item s item) items (item_rise s item p)

pub numbers_rise : (items : List ServiceItem) → NumbersRise items
numbers_rise items = all_rise at_start items (omega arith)
