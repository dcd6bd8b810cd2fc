-- What each thing that a loop does keeps, all that it does keeps.
use Rattle.std.proofs.Common.{◌≡◌, ℕ, zero, suc, ◌+◌, nat_lt, Bool, true, false, not, ◌&&◌, inl, inr, List, [], ◌∷◌, ◌++◌, length, refl}
use Rattle.std.proofs.lemmas.Bool.{cases_Bool}
use Rattle.er_trace.specs.declared.event.Event.{Event}
use Rattle.er_trace.specs.declared.event.Event.TheVariants as event
use Rattle.application_lines.specs.declared.application_line.ApplicationLine.{ApplicationLine}
use Rattle.application_lines.specs.declared.application_line.ApplicationLine.TheVariants.{Asks, Faulty}
use Rattle.application_lines.specs.declared.request.Request.TheVariants as request
use Rattle.application_lines.specs.Notices.{ApplicationNotice, Gone, Counts, Fault}
use Rattle.application_model.specs.Ends.{EndKind, is_known, numbers_known, numbers_unparted}
use Rattle.application_model.specs.Lines.{is_line_of}
use Rattle.application_model.specs.Histories.{KeysAnswer, ServiceHappening, Attaches, Departs, Brings, Takes, Opens, Befalls, Closes, KeysRead, ServiceItem, Came, LineRead, KeysFetched}
use Rattle.application_model.specs.Services.{Service, behind_items, is_attached, has_room, one_then, informs, came_alone, reads, attaches, keys_notice, lines_brought, is_of_outside, occurs, takes_most, takes_at, takes_waiting, releases_all, at_live, answers_line, reads_line, reads_lines, meets, serves_one, serves_all}

-- a claim on what happens from where the loop goes by this
abbrev pub Family : Type 1
Family = Service → List ServiceItem → Type 0

abbrev pub IsPlain : ServiceHappening → Type 0
IsPlain Attaches = ⊥
IsPlain (Opens what) = ⊥
IsPlain happening = Unit {0}

-- it holds of each thing that a loop does, and of one behind the other
pub record IsSteady (kind : EndKind) (G : Family) : Type 0 where
  pub none : (s : Service) → G s []
  pub follows : (s : Service) (a b : List ServiceItem) → G s a → G (behind_items s a) b → G s (a ++ b)
  pub came : (happening : ServiceHappening) (s : Service) → IsPlain happening → G s (Came happening ∷ [])
  pub attached : (s : Service) → G s (attaches s)
  pub opened : (what : Event) (s : Service) → s.draining ≡ false → G s (Came (Opens what) ∷ [])
  pub outside : (moment conn : ℕ) (what : Event) (s : Service) → is_of_outside what ≡ true → G s (occurs kind moment conn what s)
  pub take : (moment conn : ℕ) (s : Service) → has_room s.application ≡ true → G s (occurs kind moment conn event.Take s)
  pub line : (moment : ℕ) (line : ApplicationLine) (s : Service) → is_attached s.application ≡ true → G s (one_then (reads line) (answers_line kind moment line) s)
  pub keys : (answer : KeysAnswer) (s : Service) → G s (informs (keys_notice answer ∷ []) s)

and_first : (a b : Bool) → (a && b) ≡ true → a ≡ true
and_first true b e = refl
and_first false b e = absurd (cc)

not_second : (a b : Bool) → (a && not b) ≡ true → b ≡ false
not_second true true e = absurd (cc)
not_second true false e = refl
not_second false b e = absurd (cc)

module _ (kind : EndKind) (G : Family) (steady : IsSteady kind G) where
  abbrev pub Holds : (Service → List ServiceItem) → Type 0
  Holds p = (s : Service) → G s (p s)

  then_holds : (p q : Service → List ServiceItem) (s : Service) → G s (p s) → Holds q → G s (one_then p q s)
  unfolding one_then
  then_holds p q s first rest = steady.follows s (p s) (q (behind_items s (p s))) first (rest (behind_items s (p s)))

  most_holds : (moment conn most : ℕ) → Holds (takes_most kind moment conn most)
  unfolding takes_most
  most_holds moment conn zero s = steady.none s
  most_holds moment conn (suc most) s =
      elim (cases_Bool (has_room s.application && nat_lt 0 (length (kind.waiting (s.ends conn))))) [
        | inl may ↦
            rw may
            (then_holds (occurs kind moment conn event.Take) (takes_most kind moment conn most) s
            (steady.take moment conn s (and_first (has_room s.application) (nat_lt 0 (length (kind.waiting (s.ends conn)))) may))
            (most_holds moment conn most))
        | inr no_more ↦ rw no_more (steady.none s)
      ]

  takes_hold : (moment : ℕ) (conns : List ℕ) → Holds (takes_at kind moment conns)
  unfolding takes_at
  takes_hold moment [] s = steady.none s
  takes_hold moment (conn ∷ conns) s =
      then_holds (takes_most kind moment conn (length (kind.waiting (s.ends conn)))) (takes_at kind moment conns) s
      (most_holds moment conn (length (kind.waiting (s.ends conn))) s) (takes_hold moment conns)

  waiting_hold : (moment : ℕ) → Holds (takes_waiting kind moment)
  unfolding takes_waiting
  waiting_hold moment s = takes_hold moment (numbers_known s.known) s

  line_holds : (moment : ℕ) (line : ApplicationLine) → Holds (reads_line kind moment line)
  unfolding reads_line
  line_holds moment line s =
      elim (cases_Bool (is_attached s.application)) [ inl there ↦ rw there (steady.line moment line s there) | inr away ↦ rw away (steady.none s) ]

  lines_hold : (moment : ℕ) (lines : List ApplicationLine) → Holds (reads_lines kind moment lines)
  unfolding reads_lines
  lines_hold moment [] s = steady.none s
  lines_hold moment (line ∷ lines) s = then_holds (reads_line kind moment line) (reads_lines kind moment lines) s (line_holds moment line s) (lines_hold moment lines)

  meets_hold : (moment : ℕ) (happening : ServiceHappening) → Holds (meets kind moment happening)
  unfolding meets
  meets_hold moment Attaches s =
      elim (cases_Bool (is_attached s.application)) [ inl there ↦ rw there (steady.none s) | inr away ↦ rw away (steady.attached s) ]
  meets_hold moment Departs s = steady.came Departs s tt
  meets_hold moment (Brings octets) s =
      elim (cases_Bool (has_room s.application)) [
        | inl room ↦
            rw room
            (then_holds (came_alone (Brings octets)) (reads_lines kind moment (lines_brought octets s.application)) s (steady.came (Brings octets) s tt)
            (lines_hold moment (lines_brought octets s.application)))
        | inr full ↦ rw full (steady.none s)
      ]
  meets_hold moment (Takes count) s = steady.came (Takes count) s tt
  meets_hold moment (Opens what) s =
      elim (cases_Bool (is_of_outside what && not s.draining)) [
        | inl may ↦
            rw may
            (then_holds (came_alone (Opens what)) (occurs kind moment (s.opened + 1) what) s (steady.opened what s (not_second (is_of_outside what) s.draining may))
            (λ t. steady.outside moment (s.opened + 1) what t (and_first (is_of_outside what) (not s.draining) may)))
        | inr no_more ↦ rw no_more (steady.none s)
      ]
  meets_hold moment (Befalls conn what) s =
      elim (cases_Bool (is_of_outside what && is_known conn s.known)) [
        | inl may ↦
            rw may
            (then_holds (came_alone (Befalls conn what)) (occurs kind moment conn what) s (steady.came (Befalls conn what) s tt)
            (λ t. steady.outside moment conn what t (and_first (is_of_outside what) (is_known conn s.known) may)))
        | inr no_more ↦ rw no_more (steady.none s)
      ]
  meets_hold moment (Closes conn) s = steady.came (Closes conn) s tt
  meets_hold moment (KeysRead answer) s =
      then_holds (came_alone (KeysRead answer)) (informs (keys_notice answer ∷ [])) s (steady.came (KeysRead answer) s tt) (steady.keys answer)

  one_holds : (moment : ℕ) (happening : ServiceHappening) → Holds (serves_one kind moment happening)
  unfolding serves_one
  one_holds moment happening s = then_holds (meets kind moment happening) (takes_waiting kind moment) s (meets_hold moment happening s) (waiting_hold moment)

  pub all_hold : (happenings : List (ℕ × ServiceHappening)) → Holds (serves_all kind happenings)
  unfolding serves_all
  all_hold [] s = steady.none s
  all_hold (next ∷ happenings) s =
      then_holds (serves_one kind next.0 next.1) (serves_all kind happenings) s (one_holds next.0 next.1 s) (all_hold happenings)

-- ---- where it holds of each part of a line's answer

pub record KeepsAnswers (kind : EndKind) (G : Family) : Type 0 where
  pub none : (s : Service) → G s []
  pub follows : (s : Service) (a b : List ServiceItem) → G s a → G (behind_items s a) b → G s (a ++ b)
  pub line_read : (line : ApplicationLine) (s : Service) → G s (LineRead line ∷ [])
  pub send : (moment conn : ℕ) (text : List ℕ) (s : Service) → G s (occurs kind moment conn (event.Send text) s)
  pub release : (moment conn sub : ℕ) (s : Service) → G s (occurs kind moment conn (event.Release sub) s)
  pub answer : (notice : ApplicationNotice) (s : Service) → ((conn : ℕ) → is_line_of conn notice ≡ false) → G s (informs (notice ∷ []) s)
  pub fetched : (s : Service) → G s (KeysFetched ∷ [])

module _ (kind : EndKind) (G : Family) (keeps : KeepsAnswers kind G) where
  releases_keep : (moment : ℕ) (conns : List ℕ) (s : Service) → G s (releases_all kind moment conns s)
  unfolding releases_all one_then
  releases_keep moment [] s = keeps.none s
  releases_keep moment (conn ∷ conns) s =
      let first = occurs kind moment conn (event.Release 0) s in
      keeps.follows s first (releases_all kind moment conns (behind_items s first)) (keeps.release moment conn 0 s) (releases_keep moment conns (behind_items s first))

  live_keeps : (moment conn : ℕ) (what : Event) (s : Service) → ((t : Service) → G t (occurs kind moment conn what t)) → G s (at_live kind moment conn what s)
  live_keeps moment conn what s each =
      elim (cases_Bool (is_known conn s.known)) [
        | inl live ↦ rw live (each s)
        | inr other ↦ rw other (keeps.answer (Gone conn) s (λ c. refl))
      ]

  answers_keep : (moment : ℕ) (line : ApplicationLine) (s : Service) → G s (answers_line kind moment line s)
  answers_keep moment (Asks (request.Send conn text)) s = live_keeps moment conn (event.Send text) s (keeps.send moment conn text)
  answers_keep moment (Asks (request.Release conn sub)) s = live_keeps moment conn (event.Release sub) s (keeps.release moment conn sub)
  answers_keep moment (Asks request.Drain) s = releases_keep moment (numbers_unparted s.known) s
  answers_keep moment (Asks request.Keys) s = keeps.fetched s
  answers_keep moment (Asks request.Counts) s = keeps.answer (Counts (length s.known) s.opened s.connected s.messages) s (λ c. refl)
  answers_keep moment (Faulty line why) s = keeps.answer (Fault line why) s (λ c. refl)

  pub line_keeps : (moment : ℕ) (line : ApplicationLine) (s : Service) → G s (one_then (reads line) (answers_line kind moment line) s)
  unfolding one_then
  line_keeps moment line s =
      keeps.follows s (LineRead line ∷ []) (answers_line kind moment line (behind_items s (LineRead line ∷ []))) (keeps.line_read line s)
      (answers_keep moment line (behind_items s (LineRead line ∷ [])))
