-- What waits at live connections is taken behind each happening, as long as there is room.
use Rattle.std.proofs.Common.{arith, ◌≡◌, ℕ, zero, suc, ◌+◌, ◌==◌, ◌≤◌, ◌||◌, ◌&&◌, not, nat_lt, Bool, true, false, inl, inr, List, [], ◌∷◌, ◌++◌, length}
use Rattle.std.proofs.Common.{drop, map, refl, ap, sym, ◌∙◌, subst, append-nil, if◌then◌else◌, eq-eqb}
use Rattle.std.specs.List.{list_any}
use Rattle.std.proofs.lemmas.Bool.{cases_Bool, eqb-true, ltb-false, le-ltb}
use Rattle.er_trace.specs.declared.event.Event.TheVariants as event
use Rattle.application_lines.specs.Notices.{ApplicationNotice, notice_text}
use Rattle.application_model.specs.Ends.{KnownEnd, is_known, numbers_known, EventAt, EndKind}
use Rattle.application_model.specs.Lines.{notices_of_event}
use Rattle.application_model.specs.Histories.{ServiceHappening, ServiceItem, Occurred, Informed}
use Rattle.application_model.specs.Services.{Attendance, Absent, Attached, has_room, waiting_more, Service, at_start, behind_item, behind_items, one_then}
use Rattle.application_model.specs.Services.{inform, informed, time_at, occurs, takes_most, takes_at, takes_waiting, meets, serves_one, serves_all}
use Rattle.application_model.specs.Laws.{TakesTheOldest, WaitsForRoomAlone}
use Rattle.application_model.proofs.Turning.{behind_append}
use Rattle.application_model.proofs.Alone.{all_came, none_of_informed}
use Rattle.application_model.proofs.Firsts.{same_numbers}

-- ---- what a take leaves

less_room : (n w : ℕ) → not (nat_lt 262144 (w + n)) ≡ true → not (nat_lt 262144 w) ≡ true
less_room n w p =
    elim (cases_Bool (nat_lt 262144 (w + n))) [
      | inl more ↦ let e : false ≡ true = rw more at p in absurd (cc)
      | inr fits ↦ let f = ltb-false 262144 (w + n) fits in rw (le-ltb 262144 w (omega (arith, f))) refl
    ]

more_waits : (text : List ℕ) (application : Attendance) → has_room (waiting_more text application) ≡ true → has_room application ≡ true
more_waits text Absent p = absurd (cc)
more_waits text (Attached standing waiting) p = less_room (length text) waiting p

-- lines that are told
pub record Heeds (s : Service) (items : List ServiceItem) : Type 0 where
  pub numbers : numbers_known (behind_items s items).known ≡ numbers_known s.known
  pub room : has_room (behind_items s items).application ≡ true → has_room s.application ≡ true

told_heeds : (s : Service) (notices : List ApplicationNotice) → Heeds s (map inform notices)
unfolding behind_items
told_heeds s [] = record { numbers = refl; room = λ p. p }
told_heeds s (notice ∷ notices) =
    let rest = told_heeds (behind_item s (Informed notice)) notices in
    record { numbers = rest.numbers; room = λ p. more_waits (notice_text notice) s.application (rest.room p) }

informed_heeds : (s : Service) (application : Attendance) (notices : List ApplicationNotice) → Heeds s (informed application notices)
unfolding behind_items
informed_heeds s Absent notices = record { numbers = refl; room = λ p. p }
informed_heeds s (Attached standing waiting) notices = told_heeds s notices

module _ (kind : EndKind) (oldest : TakesTheOldest kind) where
  -- takes leave numbers as they are, make no room, and where nothing waits nothing does
  record Took (s : Service) (items : List ServiceItem) : Type 0 where
    numbers : numbers_known (behind_items s items).known ≡ numbers_known s.known
    room : has_room (behind_items s items).application ≡ true → has_room s.application ≡ true
    silent : (conn : ℕ) → kind.waiting (s.ends conn) ≡ [] → kind.waiting ((behind_items s items).ends conn) ≡ []

  took_none : (s : Service) → Took s []
  unfolding behind_items
  took_none s = record { numbers = refl; room = λ p. p; silent = λ conn p. p }

  took_then : (s : Service) (a b : List ServiceItem) → Took s a → Took (behind_items s a) b → Took s (a ++ b)
  took_then s a b p q =
      let all = behind_append s a b in
      record {
        numbers = ap (λ (t : Service). numbers_known t.known) all ∙ q.numbers ∙ p.numbers;
        room = λ r. p.room (q.room (subst (λ (t : Service). has_room t.application ≡ true) all r));
        silent = λ conn none. ap (λ (t : Service). kind.waiting (t.ends conn)) all ∙ q.silent conn (p.silent conn none);
      }

  -- what came at a connection with a take
  take_came : (moment c : ℕ) (s : Service) (conn : ℕ)
      → (behind_items s (occurs kind moment c event.Take s)).ends conn
      ≡ s.ends conn ++ (if conn == c then record { time = time_at moment s; event = event.Take } ∷ [] else [])
  take_came moment c s conn =
      let outcomes = kind.tells (s.ends c) (time_at moment s) event.Take in
      let mine = if conn == c then record { time = time_at moment s; event = event.Take } ∷ [] else [] in
      all_came s (occurs kind moment c event.Take s) conn
      ∙ ap (λ (x : List EventAt). s.ends conn ++ (mine ++ x)) (none_of_informed conn s.application (notices_of_event c event.Take outcomes)).0
      ∙ ap (λ (x : List EventAt). s.ends conn ++ x) (append-nil mine)

  take_silent : (moment c : ℕ) (s : Service) (conn : ℕ) → kind.waiting (s.ends conn) ≡ []
      → kind.waiting ((behind_items s (occurs kind moment c event.Take s)).ends conn) ≡ []
  take_silent moment c s conn none =
      ap kind.waiting (take_came moment c s conn)
      ∙ elim (cases_Bool (conn == c)) [
        | inl mine ↦ rw mine (oldest (s.ends conn) (time_at moment s) ∙ ap (drop 1) none)
        | inr other ↦ rw other (ap kind.waiting (append-nil (s.ends conn)) ∙ none)
      ]

  took_one : (moment c : ℕ) (s : Service) → Took s (occurs kind moment c event.Take s)
  unfolding behind_items
  took_one moment c s =
      let outcomes = kind.tells (s.ends c) (time_at moment s) event.Take in
      let told = informed_heeds (behind_item s (Occurred (time_at moment s) c event.Take outcomes)) s.application (notices_of_event c event.Take outcomes) in
      record {
        numbers = told.numbers ∙ same_numbers c outcomes s.known;
        room = told.room;
        silent = take_silent moment c s;
      }

  took_most : (moment c most : ℕ) (s : Service) → Took s (takes_most kind moment c most s)
  unfolding takes_most one_then
  took_most moment c zero s = took_none s
  took_most moment c (suc most) s =
      elim (cases_Bool (has_room s.application && nat_lt 0 (length (kind.waiting (s.ends c))))) [
        | inl may ↦
            let first = occurs kind moment c event.Take s in
            rw may (took_then s first (takes_most kind moment c most (behind_items s first)) (took_one moment c s) (took_most moment c most (behind_items s first)))
        | inr no_more ↦ rw no_more (took_none s)
      ]

  took_all : (moment : ℕ) (conns : List ℕ) (s : Service) → Took s (takes_at kind moment conns s)
  unfolding takes_at one_then
  took_all moment [] s = took_none s
  took_all moment (c ∷ conns) s =
      let first = takes_most kind moment c (length (kind.waiting (s.ends c))) s in
      took_then s first (takes_at kind moment conns (behind_items s first)) (took_most moment c (length (kind.waiting (s.ends c))) s)
      (took_all moment conns (behind_items s first))

  -- ---- nothing waits any more

  empty_by_length : (texts : List (List ℕ)) → length texts ≤ 0 → texts ≡ []
  empty_by_length [] p = refl
  empty_by_length (text ∷ texts) p = absurd (omega (arith, p))

  fewer : (texts : List (List ℕ)) (most : ℕ) → length texts ≤ suc most → length (drop 1 texts) ≤ most
  fewer [] most p = omega arith
  fewer (text ∷ texts) most p = omega (arith, p)

  no_more_waits : (a : Bool) (texts : List (List ℕ)) → a ≡ true → (a && nat_lt 0 (length texts)) ≡ false → texts ≡ []
  no_more_waits true texts e p = empty_by_length texts (ltb-false 0 (length texts) p)
  no_more_waits false texts e p = absurd (cc)

  itself : (c : ℕ) → (c == c) ≡ true
  itself c = eq-eqb c c refl

  -- the end behind one take has one message less
  take_leaves : (moment c : ℕ) (s : Service)
      → kind.waiting ((behind_items s (occurs kind moment c event.Take s)).ends c) ≡ drop 1 (kind.waiting (s.ends c))
  take_leaves moment c s = ap kind.waiting (take_came moment c s c) ∙ (rw (itself c) (oldest (s.ends c) (time_at moment s)))

  most_at : (may : Bool) (moment c most : ℕ) (s : Service) → length (kind.waiting (s.ends c)) ≤ suc most
      → (has_room s.application && nat_lt 0 (length (kind.waiting (s.ends c)))) ≡ may
      → ((t : Service) → length (kind.waiting (t.ends c)) ≤ most → has_room (behind_items t (takes_most kind moment c most t)).application ≡ true
      → kind.waiting ((behind_items t (takes_most kind moment c most t)).ends c) ≡ [])
      → has_room (behind_items s (if may then one_then (occurs kind moment c event.Take) (takes_most kind moment c most) s else [])).application ≡ true
      → kind.waiting ((behind_items s (if may then one_then (occurs kind moment c event.Take) (takes_most kind moment c most) s else [])).ends c) ≡ []
  unfolding one_then behind_items
  most_at true moment c most s few e each room =
      let first = occurs kind moment c event.Take s in
      let t = behind_items s first in
      let all = behind_append s first (takes_most kind moment c most t) in
      let left = fewer (kind.waiting (s.ends c)) most few in
      ap (λ (u : Service). kind.waiting (u.ends c)) all
      ∙ each t (rw (take_leaves moment c s) left) (subst (λ (u : Service). has_room u.application ≡ true) all room)
  most_at false moment c most s few e each room = no_more_waits (has_room s.application) (kind.waiting (s.ends c)) room e

  most_empties : (moment c most : ℕ) (s : Service) → length (kind.waiting (s.ends c)) ≤ most
      → has_room (behind_items s (takes_most kind moment c most s)).application ≡ true
      → kind.waiting ((behind_items s (takes_most kind moment c most s)).ends c) ≡ []
  unfolding takes_most behind_items
  most_empties moment c zero s few room = empty_by_length (kind.waiting (s.ends c)) few
  most_empties moment c (suc most) s few room =
      most_at (has_room s.application && nat_lt 0 (length (kind.waiting (s.ends c)))) moment c most s few refl (most_empties moment c most) room

  all_empties : (moment : ℕ) (conns : List ℕ) (s : Service) (conn : ℕ) → list_any (λ (n : ℕ). n == conn) conns ≡ true
      → has_room (behind_items s (takes_at kind moment conns s)).application ≡ true
      → kind.waiting ((behind_items s (takes_at kind moment conns s)).ends conn) ≡ []
  unfolding takes_at one_then
  all_empties moment [] s conn among room = absurd (cc)
  all_empties moment (c ∷ conns) s conn among room =
      let first = takes_most kind moment c (length (kind.waiting (s.ends c))) s in
      let t = behind_items s first in
      let all = behind_append s first (takes_at kind moment conns t) in
      let rest = took_all moment conns t in
      let later = subst (λ (u : Service). has_room u.application ≡ true) all room in
      ap (λ (u : Service). kind.waiting (u.ends conn)) all
      ∙ elim (cases_Bool (c == conn)) [
        | inl mine ↦
            let same = eqb-true c conn mine in
            rest.silent conn
            (subst (λ (n : ℕ). kind.waiting (t.ends n) ≡ []) same (most_empties moment c (length (kind.waiting (s.ends c))) s (omega arith) (rest.room later)))
        | inr other ↦ all_empties moment conns t conn (rw other at among) later
      ]

  -- ---- live connections

  abbrev Empties : Service → Type 0
  Empties s = (conn : ℕ) → has_room s.application ≡ true → is_known conn s.known ≡ true → kind.waiting (s.ends conn) ≡ []

  known_number : (conn : ℕ) (known : List KnownEnd) → is_known conn known ≡ list_any (λ (n : ℕ). n == conn) (numbers_known known)
  known_number conn [] = refl
  known_number conn (k ∷ known) = ap (λ (b : Bool). (k.number == conn) || b) (known_number conn known)

  one_empties : (moment : ℕ) (happening : ServiceHappening) (s : Service) → Empties (behind_items s (serves_one kind moment happening s))
  unfolding serves_one one_then takes_waiting
  one_empties moment happening s conn room known =
      let first = meets kind moment happening s in
      let t = behind_items s first in
      let conns = numbers_known t.known in
      let all = behind_append s first (takes_at kind moment conns t) in
      let there = subst (λ (u : Service). has_room u.application ≡ true) all room in
      let live = subst (λ (u : Service). is_known conn u.known ≡ true) all known in
      let took = took_all moment conns t in
      let among = ap (list_any (λ (n : ℕ). n == conn)) (sym took.numbers) ∙ sym (known_number conn (behind_items t (takes_at kind moment conns t)).known) ∙ live in
      ap (λ (u : Service). kind.waiting (u.ends conn)) all ∙ all_empties moment conns t conn among there

  all_served : (happenings : List (ℕ × ServiceHappening)) (s : Service) → Empties s → Empties (behind_items s (serves_all kind happenings s))
  unfolding serves_all one_then behind_items
  all_served [] s empties = empties
  all_served (next ∷ happenings) s empties =
      let first = serves_one kind next.0 next.1 s in
      let t = behind_items s first in
      subst Empties (sym (behind_append s first (serves_all kind happenings t))) (all_served happenings t (one_empties next.0 next.1 s))

pub waits_for_room : WaitsForRoomAlone
waits_for_room kind happenings conn oldest room known =
    all_served kind oldest happenings at_start (λ c there live. absurd (cc)) conn room known
