-- Lemmas: what the model does, one thing at a time; for the proofs of the loop.
use Rattle.std.proofs.Common.{arith, inl, inr, append-nil, append_assoc, ◌≡◌, ◌∙◌, ◌<◌, ◌+◌, ◌&&◌, ℕ, zero, suc, nat_lt, Bool, true, false, if◌then◌else◌}
use Rattle.std.proofs.Common.{List, [], ◌∷◌, ◌++◌, length, refl, sym, ap}
use Rattle.std.specs.List.{All}
use Rattle.std.proofs.lemmas.Bool.{cases_Bool, lt-ltb}
use Rattle.std.proofs.lemmas.List.Elements.{All-head, All-tail}
use Rattle.er_trace.specs.declared.event.Event.{Event}
use Rattle.er_trace.specs.declared.event.Event.TheVariants as event
use Rattle.er_trace.specs.Outcomes.{TraceOutcome}
use Rattle.application_lines.specs.declared.application_line.ApplicationLine.{ApplicationLine}
use Rattle.application_model.specs.Ends.{is_known, numbers_known, EndKind}
use Rattle.application_model.specs.Lines.{notices_of_event}
use Rattle.application_model.specs.Histories.{KeysAnswer, ServiceHappening, Attaches, Departs, Brings, Takes, Opens, Befalls, Closes, KeysRead, ServiceItem}
use Rattle.application_model.specs.Histories.{Came, Occurred}
use Rattle.application_model.specs.Services.{is_attached, has_room, Service, behind_items, one_then, came_alone, reads, attaches, informs, keys_notice}
use Rattle.application_model.specs.Services.{time_at, informed, lines_brought, is_of_outside, occurs, takes_most, takes_at, takes_waiting, releases_all}
use Rattle.application_model.specs.Services.{answers_line, reads_line}
use Rattle.application_model.specs.Services.{reads_lines, meets, serves_one}
use Rattle.application_serving.specs.OneMore.{behind_more, behind_none}

both_false : {A : Type 0} (b : Bool) (x : A) (y : A) → (if b && false then x else y) ≡ y
both_false true x y = refl
both_false false x y = refl

-- ---- one thing and then another

pub one_then_is : (first rest : Service → List ServiceItem) (s : Service) → one_then first rest s ≡ first s ++ rest (behind_items s (first s))
unfolding one_then
one_then_is first rest s = refl

pub one_then_assoc : (a b c : Service → List ServiceItem) (s : Service) → one_then (one_then a b) c s ≡ one_then a (one_then b c) s
unfolding one_then
one_then_assoc a b c s =
    append_assoc (a s) (b (behind_items s (a s))) (c (behind_items s (a s ++ b (behind_items s (a s)))))
    ∙ ap (λ (at : Service). a s ++ (b (behind_items s (a s)) ++ c at)) (behind_more s (a s) (b (behind_items s (a s))))

pub then_nothing : (first rest : Service → List ServiceItem) (s : Service) → ((at : Service) → rest at ≡ []) → one_then first rest s ≡ first s
unfolding one_then
then_nothing first rest s none = ap (λ (items : List ServiceItem). first s ++ items) (none (behind_items s (first s))) ∙ append-nil (first s)

pub nothing_then : (first rest : Service → List ServiceItem) (s : Service) → first s ≡ [] → one_then first rest s ≡ rest s
unfolding one_then
nothing_then first rest s none = ap (λ (items : List ServiceItem). items ++ rest (behind_items s items)) none ∙ ap rest (behind_none s)

-- the first part does the same, or the rest does
pub one_then_same_first : (first first' rest : Service → List ServiceItem) (s : Service) → first s ≡ first' s → one_then first rest s ≡ one_then first' rest s
unfolding one_then
one_then_same_first first first' rest s same = ap (λ (items : List ServiceItem). items ++ rest (behind_items s items)) same

pub one_then_same_rest : (first rest rest' : Service → List ServiceItem) (s : Service) → rest (behind_items s (first s)) ≡ rest' (behind_items s (first s))
    → one_then first rest s ≡ one_then first rest' s
unfolding one_then
one_then_same_rest first rest rest' s same = ap (λ (items : List ServiceItem). first s ++ items) same

-- ---- over ends of a kind

module _ (kind : EndKind) (moment : ℕ) where
  -- an event, by what its end tells
  pub occurs_is : (conn : ℕ) (what : Event) (s : Service) (outcomes : List TraceOutcome) → kind.tells (s.ends conn) (time_at moment s) what ≡ outcomes
      → occurs kind moment conn what s ≡ Occurred (time_at moment s) conn what outcomes ∷ informed s.application (notices_of_event conn what outcomes)
  occurs_is conn what s outcomes tells =
      ap (λ (os : List TraceOutcome). Occurred (time_at moment s) conn what os ∷ informed s.application (notices_of_event conn what os)) tells

  pub takes_most_none : (conn : ℕ) (s : Service) → takes_most kind moment conn 0 s ≡ []
  unfolding takes_most
  takes_most_none conn s = refl

  pub takes_most_one : (conn most : ℕ) (s : Service) → has_room s.application ≡ true → 0 < length (kind.waiting (s.ends conn))
      → takes_most kind moment conn (most + 1) s ≡ one_then (occurs kind moment conn event.Take) (takes_most kind moment conn most) s
  unfolding takes_most
  takes_most_one conn most s room some =
      let plus : most + 1 ≡ suc most = omega arith in
      let any : nat_lt 0 (length (kind.waiting (s.ends conn))) ≡ true = lt-ltb 0 (length (kind.waiting (s.ends conn))) some in
      rw plus (rw (room, any) refl)

  pub takes_most_no_room : (conn most : ℕ) (s : Service) → has_room s.application ≡ false → takes_most kind moment conn most s ≡ []
  unfolding takes_most
  takes_most_no_room conn zero s none = refl
  takes_most_no_room conn (suc most) s none = rw none refl

  pub takes_most_empty : (conn most : ℕ) (s : Service) → kind.waiting (s.ends conn) ≡ [] → takes_most kind moment conn most s ≡ []
  unfolding takes_most
  takes_most_empty conn zero s none = refl
  takes_most_empty conn (suc most) s none =
      rw none
      (both_false (has_room s.application) (one_then (occurs kind moment conn event.Take) (takes_most kind moment conn most) s) [])

  pub takes_at_none : (s : Service) → takes_at kind moment [] s ≡ []
  unfolding takes_at
  takes_at_none s = refl

  pub takes_at_one : (conn : ℕ) (conns : List ℕ) (s : Service)
      → takes_at kind moment (conn ∷ conns) s ≡ one_then (takes_most kind moment conn (length (kind.waiting (s.ends conn)))) (takes_at kind moment conns) s
  unfolding takes_at
  takes_at_one conn conns s = refl

  pub takes_at_no_room : (conns : List ℕ) (s : Service) → has_room s.application ≡ false → takes_at kind moment conns s ≡ []
  takes_at_no_room [] s none = takes_at_none s
  takes_at_no_room (conn ∷ conns) s none =
      takes_at_one conn conns s
      ∙ nothing_then (takes_most kind moment conn (length (kind.waiting (s.ends conn)))) (takes_at kind moment conns) s
      (takes_most_no_room conn (length (kind.waiting (s.ends conn))) s none)
      ∙ takes_at_no_room conns s none

  pub takes_at_empty : (conns : List ℕ) (s : Service) → All (λ (conn : ℕ). kind.waiting (s.ends conn) ≡ []) conns → takes_at kind moment conns s ≡ []
  takes_at_empty [] s none = takes_at_none s
  takes_at_empty (conn ∷ conns) s none =
      takes_at_one conn conns s
      ∙ nothing_then (takes_most kind moment conn (length (kind.waiting (s.ends conn)))) (takes_at kind moment conns) s
      (takes_most_empty conn (length (kind.waiting (s.ends conn))) s (All-head (λ (c : ℕ). kind.waiting (s.ends c) ≡ []) conn conns none))
      ∙ takes_at_empty conns s (All-tail (λ (c : ℕ). kind.waiting (s.ends c) ≡ []) conn conns none)

  pub takes_waiting_is : (s : Service) → takes_waiting kind moment s ≡ takes_at kind moment (numbers_known s.known) s
  unfolding takes_waiting
  takes_waiting_is s = refl

  -- where there is no room, or no message waits
  pub takes_waiting_rests : (s : Service) → (has_room s.application ≡ true → All (λ (conn : ℕ). kind.waiting (s.ends conn) ≡ []) (numbers_known s.known))
      → takes_waiting kind moment s ≡ []
  takes_waiting_rests s rests =
      takes_waiting_is s
      ∙ elim (cases_Bool (has_room s.application)) [
        | inl room ↦ takes_at_empty (numbers_known s.known) s (rests room)
        | inr none ↦ takes_at_no_room (numbers_known s.known) s none
      ]

  pub releases_none : (s : Service) → releases_all kind moment [] s ≡ []
  unfolding releases_all
  releases_none s = refl

  pub releases_one : (conn : ℕ) (conns : List ℕ) (s : Service)
      → releases_all kind moment (conn ∷ conns) s ≡ one_then (occurs kind moment conn (event.Release 0)) (releases_all kind moment conns) s
  unfolding releases_all
  releases_one conn conns s = refl

  pub reads_line_there : (line : ApplicationLine) (s : Service) → is_attached s.application ≡ true
      → reads_line kind moment line s ≡ one_then (reads line) (answers_line kind moment line) s
  unfolding reads_line
  reads_line_there line s there = rw there refl

  pub reads_line_nobody : (line : ApplicationLine) (s : Service) → is_attached s.application ≡ false → reads_line kind moment line s ≡ []
  unfolding reads_line
  reads_line_nobody line s nobody = rw nobody refl

  pub reads_lines_none : (s : Service) → reads_lines kind moment [] s ≡ []
  unfolding reads_lines
  reads_lines_none s = refl

  pub reads_lines_one : (line : ApplicationLine) (lines : List ApplicationLine) (s : Service)
      → reads_lines kind moment (line ∷ lines) s ≡ one_then (reads_line kind moment line) (reads_lines kind moment lines) s
  unfolding reads_lines
  reads_lines_one line lines s = refl

  -- lines and then more
  pub reads_lines_more : (lines more : List ApplicationLine) (s : Service)
      → reads_lines kind moment (lines ++ more) s ≡ one_then (reads_lines kind moment lines) (reads_lines kind moment more) s
  reads_lines_more [] more s =
      sym (nothing_then (reads_lines kind moment []) (reads_lines kind moment more) s (reads_lines_none s))
  reads_lines_more (line ∷ lines) more s =
      reads_lines_one line (lines ++ more) s
      ∙ one_then_same_rest (reads_line kind moment line) (reads_lines kind moment (lines ++ more))
      (one_then (reads_lines kind moment lines) (reads_lines kind moment more)) s
      (reads_lines_more lines more (behind_items s (reads_line kind moment line s)))
      ∙ sym (one_then_assoc (reads_line kind moment line) (reads_lines kind moment lines) (reads_lines kind moment more) s)
      ∙ one_then_same_first (one_then (reads_line kind moment line) (reads_lines kind moment lines)) (reads_lines kind moment (line ∷ lines))
      (reads_lines kind moment more) s (sym (reads_lines_one line lines s))

  -- nobody is there any more: no line is read
  pub reads_lines_nobody : (lines : List ApplicationLine) (s : Service) → is_attached s.application ≡ false → reads_lines kind moment lines s ≡ []
  reads_lines_nobody [] s nobody = reads_lines_none s
  reads_lines_nobody (line ∷ lines) s nobody =
      reads_lines_one line lines s
      ∙ nothing_then (reads_line kind moment line) (reads_lines kind moment lines) s (reads_line_nobody line s nobody)
      ∙ reads_lines_nobody lines s nobody

  pub serves_one_is : (what : ServiceHappening) (s : Service) → serves_one kind moment what s ≡ one_then (meets kind moment what) (takes_waiting kind moment) s
  unfolding serves_one
  serves_one_is what s = refl

  pub meets_attaches : (s : Service) → is_attached s.application ≡ false → meets kind moment Attaches s ≡ attaches s
  unfolding meets
  meets_attaches s nobody = rw nobody refl

  pub meets_departs : (s : Service) → meets kind moment Departs s ≡ Came Departs ∷ []
  unfolding meets
  meets_departs s = refl

  pub meets_brings : (octets : List ℕ) (s : Service) → has_room s.application ≡ true
      → meets kind moment (Brings octets) s ≡ one_then (came_alone (Brings octets)) (reads_lines kind moment (lines_brought octets s.application)) s
  unfolding meets
  meets_brings octets s room = rw room refl

  pub meets_takes : (count : ℕ) (s : Service) → meets kind moment (Takes count) s ≡ Came (Takes count) ∷ []
  unfolding meets
  meets_takes count s = refl

  pub meets_opens : (what : Event) (s : Service) → is_of_outside what ≡ true → s.draining ≡ false
      → meets kind moment (Opens what) s ≡ one_then (came_alone (Opens what)) (occurs kind moment (s.opened + 1) what) s
  unfolding meets
  meets_opens what s of_outside open_yet = rw (of_outside, open_yet) refl

  pub meets_befalls : (conn : ℕ) (what : Event) (s : Service) → is_of_outside what ≡ true → is_known conn s.known ≡ true
      → meets kind moment (Befalls conn what) s ≡ one_then (came_alone (Befalls conn what)) (occurs kind moment conn what) s
  unfolding meets
  meets_befalls conn what s of_outside live = rw (of_outside, live) refl

  pub meets_closes : (conn : ℕ) (s : Service) → meets kind moment (Closes conn) s ≡ Came (Closes conn) ∷ []
  unfolding meets
  meets_closes conn s = refl

  pub meets_keys : (answer : KeysAnswer) (s : Service)
      → meets kind moment (KeysRead answer) s ≡ one_then (came_alone (KeysRead answer)) (informs (keys_notice answer ∷ [])) s
  unfolding meets
  meets_keys answer s = refl
