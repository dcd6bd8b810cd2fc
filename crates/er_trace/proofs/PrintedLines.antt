-- Lines of a trace that are printed are read as the same events, and outcomes are dropped.
use Rattle.std.proofs.Common.{arith, ◌≡◌, ◌⊎◌, ℕ, ◌+◌, ◌<◌, ◌^◌, nat_lt, Bool, true, false, List, [], ◌∷◌, map, length, Some, Ok, inl, inr, refl, ap, sym, subst, ◌∙◌, codes}
use Rattle.std.specs.List.{list_all}
use Rattle.std.specs.Fmt.{decimal}
use Rattle.std.proofs.lemmas.Bool.{cases_Bool, ltb-true, le-ltb}
use Rattle.er_base.specs.LineTexts.{AreSolid, IsSolid, IsLine, AreLines, LinesAreReadBack, WordsAreReadBack, rows_from}
use Rattle.er_base.specs.Numbers.{decimal_of, NamesWhatIsPrinted}
use Rattle.er_settings.specs.Values.{Settings}
use Rattle.er_settings.specs.Laws.{AllowedAreBounded}
use Rattle.er_settings.specs.Ranges.{AllAllowed}
use Rattle.er_settings.specs.Making.{settings_of}
use Rattle.er_trace.specs.declared.event.Event.{Event}
use Rattle.er_trace.specs.declared.event.Event.TheVariants.{Call, Answer, Octets, Send, Take, Release, Tick, Ended, Fault, Stalled, Full, Unserved}
use Rattle.er_trace.specs.declared.said.Said.TheVariants.{Happens, Tells}
use Rattle.er_trace.specs.Files.{event_line, refusal_line, outcome_line_check, line_says, entries_of, trace_of}
use Rattle.er_trace.specs.Headers.{settings_allowed, settings_of_six, settings_spelled, header_settings}
use Rattle.er_trace.specs.Laws as laws_of
use Rattle.er_trace.specs.Laws.{PrintedLine, Told, printed_words, AllCanBePrinted, text_printed, entries_printed, PrintedIsRead}
use Rattle.er_trace.specs.Outcomes.{TraceOutcome}
use Rattle.er_trace.specs.Outcomes as of
use Rattle.er_trace.specs.Ranges.{IsMoment, IsInRange}
use Rattle.er_trace.specs.Table.{releaser_word, releaser_argument}
use Rattle.er_trace.specs.Texts.{header_words, entry_words, outcome_words, IsTellable}
use Rattle.er_trace.proofs.HeaderRanges.{allowed_some}

-- the laws of lines, words and numbers
pub record Laws : Type 0 where
  pub lines : LinesAreReadBack
  pub words : WordsAreReadBack
  pub decimals : NamesWhatIsPrinted

-- ---- words that are written out

solid_from : (word : List ℕ) → list_all (λ x. nat_lt 35 x) word ≡ true → AreSolid word
solid_from [] h = tt
solid_from (x ∷ word) h =
    elim (cases_Bool (nat_lt 35 x)) [
      | inl t ↦ (ltb-true 35 x t, solid_from word (rw t at h))
      | inr f ↦ let e : false ≡ true = rw f at h in absurd (cc)
    ]

solid_codes : (word : List ℕ) → nat_lt 0 (length word) ≡ true → list_all (λ x. nat_lt 35 x) word ≡ true → IsSolid word
solid_codes word some all = record { some = ltb-true 0 (length word) some; octets = solid_from word all }

solid_releaser : (by_peer : Bool) → IsSolid (releaser_word by_peer)
solid_releaser true = solid_codes (codes "peer") refl refl
solid_releaser false = solid_codes (codes "local") refl refl

-- ---- events

event_read : (laws : Laws) (at conn : ℕ) (event : Event) → IsMoment at → conn < 2 ^ 64 → IsInRange event
    → line_says (entry_words at conn event) ≡ Ok (Happens at conn event)
unfolding line_says event_line
event_read laws at conn (Call e r rb) h k g =
    rw (laws.words.number 0 1000000000000000 at (omega arith) h (omega (arith, h)), laws.words.number 0 18446744073709551615 conn (omega arith) (omega (arith, k)) k, laws.words.number 0 16777215 e (omega arith) (omega (arith, g.0)) (omega (arith, g.0)), laws.words.number 0 16777215 r (omega arith) (omega (arith, g.1)) (omega (arith, g.1)), laws.words.number16 rb g.2) refl
event_read laws at conn (Answer r ra) h k g =
    rw (laws.words.number 0 1000000000000000 at (omega arith) h (omega (arith, h)), laws.words.number 0 18446744073709551615 conn (omega arith) (omega (arith, k)) k, laws.words.number 0 16777215 r (omega arith) (omega (arith, g.0)) (omega (arith, g.0)), laws.words.number16 ra g.1) refl
event_read laws at conn (Octets octets) h k g =
    rw (laws.words.number 0 1000000000000000 at (omega arith) h (omega (arith, h)), laws.words.number 0 18446744073709551615 conn (omega arith) (omega (arith, k)) k, laws.words.text 4096 octets g.1 g.0) refl
event_read laws at conn (Send octets) h k g =
    rw (laws.words.number 0 1000000000000000 at (omega arith) h (omega (arith, h)), laws.words.number 0 18446744073709551615 conn (omega arith) (omega (arith, k)) k, laws.words.text 4096 octets g.1 g.0) refl
event_read laws at conn Take h k g =
    rw (laws.words.number 0 1000000000000000 at (omega arith) h (omega (arith, h)), laws.words.number 0 18446744073709551615 conn (omega arith) (omega (arith, k)) k) refl
event_read laws at conn (Release sub) h k g =
    rw (laws.words.number 0 1000000000000000 at (omega arith) h (omega (arith, h)), laws.words.number 0 18446744073709551615 conn (omega arith) (omega (arith, k)) k, laws.words.number 0 255 sub (omega arith) (omega (arith, g)) (omega (arith, g))) refl
event_read laws at conn Tick h k g =
    rw (laws.words.number 0 1000000000000000 at (omega arith) h (omega (arith, h)), laws.words.number 0 18446744073709551615 conn (omega arith) (omega (arith, k)) k) refl
event_read laws at conn Ended h k g =
    rw (laws.words.number 0 1000000000000000 at (omega arith) h (omega (arith, h)), laws.words.number 0 18446744073709551615 conn (omega arith) (omega (arith, k)) k) refl
event_read laws at conn Fault h k g =
    rw (laws.words.number 0 1000000000000000 at (omega arith) h (omega (arith, h)), laws.words.number 0 18446744073709551615 conn (omega arith) (omega (arith, k)) k) refl
event_read laws at conn Stalled h k g =
    rw (laws.words.number 0 1000000000000000 at (omega arith) h (omega (arith, h)), laws.words.number 0 18446744073709551615 conn (omega arith) (omega (arith, k)) k) refl
event_read laws at conn (Full count) h k g =
    rw (laws.words.number 0 1000000000000000 at (omega arith) h (omega (arith, h)), laws.words.number 0 18446744073709551615 conn (omega arith) (omega (arith, k)) k, laws.words.number 0 18446744073709551615 count (omega arith) (omega (arith, g)) g) refl
event_read laws at conn (Unserved count) h k g =
    rw (laws.words.number 0 1000000000000000 at (omega arith) h (omega (arith, h)), laws.words.number 0 18446744073709551615 conn (omega arith) (omega (arith, k)) k, laws.words.number 0 18446744073709551615 count (omega arith) (omega (arith, g)) g) refl

event_is_line : (laws : Laws) (at conn : ℕ) (event : Event) → IsMoment at → conn < 2 ^ 64 → IsInRange event → IsLine (entry_words at conn event)
event_is_line laws at conn (Call e r rb) h k g =
    (solid_codes (codes ">") refl refl, (laws.words.number_word at (omega (arith, h)), (laws.words.number_word conn k, (solid_codes (codes "call") refl refl, (laws.words.number_word e (omega (arith, g.0)), (laws.words.number_word r (omega (arith, g.1)), (laws.words.number16_word rb g.2, tt)))))))
event_is_line laws at conn (Answer r ra) h k g =
    (solid_codes (codes ">") refl refl, (laws.words.number_word at (omega (arith, h)), (laws.words.number_word conn k, (solid_codes (codes "answer") refl refl, (laws.words.number_word r (omega (arith, g.0)), (laws.words.number16_word ra g.1, tt))))))
event_is_line laws at conn (Octets octets) h k g =
    (solid_codes (codes ">") refl refl, (laws.words.number_word at (omega (arith, h)), (laws.words.number_word conn k, (solid_codes (codes "octets") refl refl, (laws.words.octets_word octets g.1, tt)))))
event_is_line laws at conn (Send octets) h k g =
    (solid_codes (codes ">") refl refl, (laws.words.number_word at (omega (arith, h)), (laws.words.number_word conn k, (solid_codes (codes "send") refl refl, (laws.words.octets_word octets g.1, tt)))))
event_is_line laws at conn Take h k g =
    (solid_codes (codes ">") refl refl, (laws.words.number_word at (omega (arith, h)), (laws.words.number_word conn k, (solid_codes (codes "take") refl refl, tt))))
event_is_line laws at conn (Release sub) h k g =
    (solid_codes (codes ">") refl refl, (laws.words.number_word at (omega (arith, h)), (laws.words.number_word conn k, (solid_codes (codes "release") refl refl, (laws.words.number_word sub (omega (arith, g)), tt)))))
event_is_line laws at conn Tick h k g =
    (solid_codes (codes ">") refl refl, (laws.words.number_word at (omega (arith, h)), (laws.words.number_word conn k, (solid_codes (codes "tick") refl refl, tt))))
event_is_line laws at conn Ended h k g =
    (solid_codes (codes ">") refl refl, (laws.words.number_word at (omega (arith, h)), (laws.words.number_word conn k, (solid_codes (codes "ended") refl refl, tt))))
event_is_line laws at conn Fault h k g =
    (solid_codes (codes ">") refl refl, (laws.words.number_word at (omega (arith, h)), (laws.words.number_word conn k, (solid_codes (codes "fault") refl refl, tt))))
event_is_line laws at conn Stalled h k g =
    (solid_codes (codes ">") refl refl, (laws.words.number_word at (omega (arith, h)), (laws.words.number_word conn k, (solid_codes (codes "stalled") refl refl, tt))))
event_is_line laws at conn (Full count) h k g =
    (solid_codes (codes ">") refl refl, (laws.words.number_word at (omega (arith, h)), (laws.words.number_word conn k, (solid_codes (codes "full") refl refl, (laws.words.number_word count g, tt)))))
event_is_line laws at conn (Unserved count) h k g =
    (solid_codes (codes ">") refl refl, (laws.words.number_word at (omega (arith, h)), (laws.words.number_word conn k, (solid_codes (codes "unserved") refl refl, (laws.words.number_word count g, tt)))))

-- ---- outcomes

releaser_read : (by_peer : Bool) → releaser_argument (releaser_word by_peer) ≡ Ok by_peer
releaser_read true = refl
releaser_read false = refl

outcome_read : (laws : Laws) (conn : ℕ) (outcome : TraceOutcome) → conn < 2 ^ 64 → IsTellable outcome → line_says (outcome_words conn outcome) ≡ Ok Tells
unfolding line_says outcome_line_check refusal_line
outcome_read laws conn (of.Connected peer) k g =
    rw (laws.words.number 0 18446744073709551615 conn (omega arith) (omega (arith, k)) k, laws.words.number 0 16777215 peer (omega arith) (omega (arith, g)) (omega (arith, g))) refl
outcome_read laws conn (of.Accepted octets) k g =
    rw (laws.words.number 0 18446744073709551615 conn (omega arith) (omega (arith, k)) k, laws.words.text 4096 octets g.1 g.0) refl
outcome_read laws conn (of.Taken octets) k g =
    rw (laws.words.number 0 18446744073709551615 conn (omega arith) (omega (arith, k)) k, laws.words.text 4096 octets g.1 g.0) refl
outcome_read laws conn of.Empty k g =
    rw (laws.words.number 0 18446744073709551615 conn (omega arith) (omega (arith, k)) k) refl
outcome_read laws conn (of.RefusedReleased r) k g =
    rw (laws.words.number 0 18446744073709551615 conn (omega arith) (omega (arith, k)) k, laws.words.number 0 255 r.reason (omega arith) (omega (arith, g.0)) (omega (arith, g.0)), laws.words.number 0 255 r.sub (omega arith) (omega (arith, g.1)) (omega (arith, g.1))) refl
outcome_read laws conn of.RefusedNotConnected k g =
    rw (laws.words.number 0 18446744073709551615 conn (omega arith) (omega (arith, k)) k) refl
outcome_read laws conn (of.RefusedLength n) k g =
    rw (laws.words.number 0 18446744073709551615 conn (omega arith) (omega (arith, k)) k, laws.words.number 0 18446744073709551615 n (omega arith) (omega (arith, g)) g) refl
outcome_read laws conn (of.RefusedFull n) k g =
    rw (laws.words.number 0 18446744073709551615 conn (omega arith) (omega (arith, k)) k, laws.words.number 0 18446744073709551615 n (omega arith) (omega (arith, g)) g) refl
outcome_read laws conn (of.Released r) k g =
    rw (laws.words.number 0 18446744073709551615 conn (omega arith) (omega (arith, k)) k, laws.words.number 0 255 r.reason (omega arith) (omega (arith, g.0)) (omega (arith, g.0)), laws.words.number 0 255 r.sub (omega arith) (omega (arith, g.1)) (omega (arith, g.1)), releaser_read r.by_peer) refl
outcome_read laws conn (of.Octets octets) k g =
    rw (laws.words.number 0 18446744073709551615 conn (omega arith) (omega (arith, k)) k, laws.words.text 4096 octets g.1 g.0) refl

outcome_is_line : (laws : Laws) (conn : ℕ) (outcome : TraceOutcome) → conn < 2 ^ 64 → IsTellable outcome → IsLine (outcome_words conn outcome)
outcome_is_line laws conn (of.Connected peer) k g =
    (solid_codes (codes "<") refl refl, (laws.words.number_word conn k, (solid_codes (codes "connected") refl refl, (laws.words.number_word peer (omega (arith, g)), tt))))
outcome_is_line laws conn (of.Accepted octets) k g =
    (solid_codes (codes "<") refl refl, (laws.words.number_word conn k, (solid_codes (codes "accepted") refl refl, (laws.words.octets_word octets g.1, tt))))
outcome_is_line laws conn (of.Taken octets) k g =
    (solid_codes (codes "<") refl refl, (laws.words.number_word conn k, (solid_codes (codes "taken") refl refl, (laws.words.octets_word octets g.1, tt))))
outcome_is_line laws conn of.Empty k g =
    (solid_codes (codes "<") refl refl, (laws.words.number_word conn k, (solid_codes (codes "none") refl refl, tt)))
outcome_is_line laws conn (of.RefusedReleased r) k g =
    (solid_codes (codes "<") refl refl, (laws.words.number_word conn k, (solid_codes (codes "refused") refl refl, (solid_codes (codes "released") refl refl, (laws.words.number_word r.reason (omega (arith, g.0)), (laws.words.number_word r.sub (omega (arith, g.1)), tt))))))
outcome_is_line laws conn of.RefusedNotConnected k g =
    (solid_codes (codes "<") refl refl, (laws.words.number_word conn k, (solid_codes (codes "refused") refl refl, (solid_codes (codes "notconnected") refl refl, tt))))
outcome_is_line laws conn (of.RefusedLength n) k g =
    (solid_codes (codes "<") refl refl, (laws.words.number_word conn k, (solid_codes (codes "refused") refl refl, (solid_codes (codes "length") refl refl, (laws.words.number_word n g, tt)))))
outcome_is_line laws conn (of.RefusedFull n) k g =
    (solid_codes (codes "<") refl refl, (laws.words.number_word conn k, (solid_codes (codes "refused") refl refl, (solid_codes (codes "full") refl refl, (laws.words.number_word n g, tt)))))
outcome_is_line laws conn (of.Released r) k g =
    (solid_codes (codes "<") refl refl, (laws.words.number_word conn k, (solid_codes (codes "released") refl refl, (laws.words.number_word r.reason (omega (arith, g.0)), (laws.words.number_word r.sub (omega (arith, g.1)), (solid_releaser r.by_peer, tt))))))
outcome_is_line laws conn (of.Octets octets) k g =
    (solid_codes (codes "<") refl refl, (laws.words.number_word conn k, (solid_codes (codes "octets") refl refl, (laws.words.octets_word octets g.1, tt))))

-- ---- the lines behind the header

lines_read : (laws : Laws) (before : ℕ) (lines : List PrintedLine) → AllCanBePrinted lines
    → entries_of (rows_from before (map printed_words lines)) ≡ Ok (entries_printed before lines)
unfolding entries_of
lines_read laws before [] h = refl
lines_read laws before (laws_of.Event entry ∷ lines) h =
    rw (event_read laws entry.moment entry.conn entry.event h.0.moment h.0.conn h.0.event, lines_read laws (before + 1) lines h.1) refl
lines_read laws before (Told conn outcome ∷ lines) h =
    rw (outcome_read laws conn outcome h.0.0 h.0.1, lines_read laws (before + 1) lines h.1) refl

all_lines : (laws : Laws) (lines : List PrintedLine) → AllCanBePrinted lines → AreLines (map printed_words lines)
all_lines laws [] h = tt
all_lines laws (laws_of.Event entry ∷ lines) h =
    (event_is_line laws entry.moment entry.conn entry.event h.0.moment h.0.conn h.0.event, all_lines laws lines h.1)
all_lines laws (Told conn outcome ∷ lines) h = (outcome_is_line laws conn outcome h.0.0 h.0.1, all_lines laws lines h.1)

-- ---- the header

written : (laws : Laws) (n : ℕ) → n < 2 ^ 64 → decimal_of (decimal n) ≡ Some n
written laws n h = (laws.decimals (decimal n) n).1 (h, refl)

size_small : (n : ℕ) → (n ≡ 128) ⊎ (n ≡ 256) ⊎ (n ≡ 512) ⊎ (n ≡ 1024) → n < 2 ^ 64
size_small n (inl a) = omega (arith, a)
size_small n (inr (inl b)) = omega (arith, b)
size_small n (inr (inr (inl c))) = omega (arith, c)
size_small n (inr (inr (inr d))) = omega (arith, d)

record AreSmall (s : Settings) : Type 0 where
  window : s.window < 2 ^ 64
  credit : s.credit < 2 ^ 64
  size : s.size < 2 ^ 64
  t1 : s.t1 < 2 ^ 64
  n2 : s.n2 < 2 ^ 64
  setup : s.setup < 2 ^ 64

small : (bounded : AllowedAreBounded) (s : Settings) → AllAllowed s → s.modulo ≡ 8 → AreSmall s
small bounded s h modulo =
    let b = bounded s h in
    record {
      window = omega (arith, b.window_below_modulo, modulo);
      credit = omega (arith, b.credit.1);
      size = size_small s.size b.size;
      t1 = omega (arith, b.t1.1);
      n2 = omega (arith, b.n2.1);
      setup = omega (arith, b.setup.1);
    }

settings_read : (s : Settings) → AllAllowed s → s.modulo ≡ 8 → settings_allowed s.window s.credit s.size s.t1 s.n2 s.setup ≡ Some s
settings_read s h modulo =
    allowed_some s.window s.credit s.size s.t1 s.n2 s.setup
    (subst (λ (m : ℕ). AllAllowed (settings_of m s.window s.credit s.size s.t1 s.n2 s.setup)) modulo h)
    ∙ ap (λ (m : ℕ). Some (settings_of m s.window s.credit s.size s.t1 s.n2 s.setup)) (sym modulo)

header_read : (laws : Laws) (s : Settings) → AllAllowed s → s.modulo ≡ 8 → AreSmall s → header_settings (header_words s) ≡ Some s
unfolding header_settings settings_spelled settings_of_six
header_read laws s h modulo b =
    rw (written laws s.window b.window, written laws s.credit b.credit, written laws s.size b.size, written laws s.t1 b.t1, written laws s.n2 b.n2, written laws s.setup b.setup)
    (settings_read s h modulo)

header_is_line : (laws : Laws) (s : Settings) → AreSmall s → IsLine (header_words s)
header_is_line laws s b =
    (solid_codes (codes "trace") refl refl, (solid_codes (codes "1") refl refl, (laws.words.number_word s.window b.window, (laws.words.number_word s.credit b.credit, (laws.words.number_word s.size b.size, (laws.words.number_word s.t1 b.t1, (laws.words.number_word s.n2 b.n2, (laws.words.number_word s.setup b.setup, tt))))))))

-- ---- the text

pub printed_is_read : Laws → AllowedAreBounded → PrintedIsRead
unfolding trace_of
printed_is_read laws bounded settings lines h modulo readable short =
    let b = small bounded settings h modulo in
    rw (le-ltb 16777216 (length (text_printed settings lines)) short, laws.lines 0 (header_words settings ∷ map printed_words lines) (header_is_line laws settings b, all_lines laws lines readable), header_read laws settings h modulo b, lines_read laws 1 lines readable)
    refl
