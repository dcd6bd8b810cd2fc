-- An application is told the lines of a connection's journal in turn.
use Rattle.std.proofs.Common.{◌≡◌, ℕ, false, inl, inr, List, [], ◌∷◌, ◌++◌, map, refl}
use Rattle.std.proofs.lemmas.Bool.{cases_Bool}
use Rattle.er_trace.specs.declared.event.Event.{Event}
use Rattle.application_lines.specs.Notices.{ApplicationNotice}
use Rattle.application_model.specs.Ends.{EndKind}
use Rattle.application_model.specs.Lines.{notices_of_event, connected_lines, is_line_of, lines_of_connection}
use Rattle.application_model.specs.Histories.{KeysAnswer, Hold, AreFaulty, ServiceHappening, Attaches, Departs, Brings, Takes, Opens, Befalls, Closes}
use Rattle.application_model.specs.Histories.{KeysRead, ServiceItem, Came, Occurred, Informed}
use Rattle.application_model.specs.Services.{Attendance, Absent, Attached, Service, behind_item, behind_items, inform, informed, keys_notice, time_at, occurs}
use Rattle.application_model.specs.Turns.{IsDoneInTurn}
use Rattle.application_model.specs.Claims.{lines_if_there, lines_due}
use Rattle.application_model.proofs.Steadies.{Family, IsPlain, IsSteady, KeepsAnswers, line_keeps}
use Rattle.application_model.proofs.Turning.{turn_append}

module _ (conn : ℕ) where
  abbrev pub ToldOf : Family
  ToldOf s items = IsDoneInTurn (lines_due conn) s [] items []

  all_told : (s : Service) (notices : List ApplicationNotice) → IsDoneInTurn (lines_due conn) s (lines_of_connection conn notices) (map inform notices) []
  all_told s [] = refl
  all_told s (notice ∷ notices) =
      let rest = all_told (behind_item s (Informed notice)) notices in
      elim (cases_Bool (is_line_of conn notice)) [
        | inl mine ↦ rw mine (lines_of_connection conn notices, refl, rest)
        | inr other ↦ rw other rest
      ]

  told_if_there : (s : Service) (application : Attendance) (notices : List ApplicationNotice)
      → IsDoneInTurn (lines_due conn) s (lines_if_there conn application notices) (informed application notices) []
  told_if_there s Absent notices = refl
  told_if_there s (Attached standing waiting) notices = all_told s notices

  answer_told : (s : Service) (application : Attendance) (notice : ApplicationNotice) → is_line_of conn notice ≡ false
      → IsDoneInTurn (lines_due conn) s [] (informed application (notice ∷ [])) []
  answer_told s Absent notice other = refl
  answer_told s (Attached standing waiting) notice other = rw other refl

  event_told : (kind : EndKind) (moment c : ℕ) (what : Event) (s : Service) → ToldOf s (occurs kind moment c what s)
  event_told kind moment c what s =
      let outcomes = kind.tells (s.ends c) (time_at moment s) what in
      told_if_there (behind_item s (Occurred (time_at moment s) c what outcomes)) s.application (notices_of_event c what outcomes)

  came_told : (happening : ServiceHappening) (s : Service) → IsPlain happening → ToldOf s (Came happening ∷ [])
  came_told Attaches s plain = absurd plain
  came_told Departs s plain = refl
  came_told (Brings octets) s plain = refl
  came_told (Takes count) s plain = refl
  came_told (Opens what) s plain = absurd plain
  came_told (Befalls c what) s plain = refl
  came_told (Closes c) s plain = refl
  came_told (KeysRead answer) s plain = refl

  no_line_of_keys : (answer : KeysAnswer) (c : ℕ) → is_line_of c (keys_notice answer) ≡ false
  no_line_of_keys (Hold entries) c = refl
  no_line_of_keys (AreFaulty words) c = refl

  follow_told : (s : Service) (a b : List ServiceItem) → ToldOf s a → ToldOf (behind_items s a) b → ToldOf s (a ++ b)
  follow_told s a b p q = turn_append (lines_due conn) s [] a b [] [] p q

  answers_told : (kind : EndKind) → KeepsAnswers kind ToldOf
  answers_told kind =
      record {
        none = λ s. refl;
        follows = follow_told;
        line_read = λ line s. refl;
        send = λ moment c text s. event_told kind moment c _ s;
        release = λ moment c sub s. event_told kind moment c _ s;
        answer = λ notice s other. answer_told s s.application notice (other conn);
        fetched = λ s. refl;
      }

  pub told_steadily : (kind : EndKind) → IsSteady kind ToldOf
  told_steadily kind =
      record {
        none = λ s. refl;
        follows = follow_told;
        came = came_told;
        opened = λ what s still. refl;
        attached = λ s. all_told (behind_item s (Came Attaches)) (connected_lines s.known);
        outside = λ moment c what s own. event_told kind moment c what s;
        take = λ moment c s room. event_told kind moment c _ s;
        line = λ moment line s there. line_keeps kind ToldOf (answers_told kind) moment line s;
        keys = λ answer s. answer_told s s.application (keys_notice answer) (no_line_of_keys answer conn);
      }
