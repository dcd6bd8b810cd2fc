-- The lines of items, sides and links, one part more.
use Rattle.std.proofs.Common.{arith, ◌≡◌, ◌≤◌, ◌<◌, ◌+◌, ◌-◌, ℕ, zero, suc, Bool, true, false, List, [], ◌∷◌, ◌++◌, length, drop, slice_get, Option, Some, None, Ok, Err, refl, sym, ◌∙◌, ap, subst, append-nil, append_assoc}
use Rattle.std.proofs.lemmas.List.{length-append}
use Rattle.er_base.specs.declared.side.Side.{Side}
use Rattle.er_base.specs.declared.side.Side.TheVariants.{E, R}
use Rattle.er_base.specs.LineTexts.{line_end, line_text}
use Rattle.er_tap.specs.declared.tap_line.TapLine.{TapLine}
use Rattle.er_end_model.specs.Steps.{Finds}
use Rattle.tap_model.specs.Verdicts.{Known, Judged, judged, judged_from}
use Rattle.tap_model.specs.declared.audit_fault.AuditFault.{AuditFault}
use Rattle.tap_model.specs.declared.audit_fault.AuditFault.TheVariants.{NoLink, LinkTwice, Sink, NoMemory}
use Rattle.outside.specs.Doings.{Told as ToldOutside, Did}
use Rattle.tap_model.specs.Lines.{TapOpening, fault_of_tap_lines, tap_opening_of_link, stream_of}
use Rattle.tap_model.specs.Ends.{stream_end}
use Rattle.tap_model.specs.EndTexts.{words_of_stream, end_text, ends_of_link, ends_of_links}
use Rattle.tap_model.specs.Hearing.{heard, items}
use Rattle.tap_model.specs.Texts.{item_words}
use Rattle.link_audit.specs.declared.openings.Openings.{Openings}
use Rattle.link_audit.specs.Openings.{opening_at, links_opened, ends_opened}
use Rattle.hdlc_frames.specs.Framing.{frames_of}
use Rattle.link_audit.specs.declared.told.Told.{Told}
use Rattle.link_audit.specs.Counts.{told_of_stream, told_words}
use Rattle.link_audit.specs.Streams.{KItems}
use Rattle.link_audit.specs.AuditLines.{lines_of_side, lines_of_end, lines_of_link, lines_of_links, lines_of_audit}
use Rattle.link_audit.specs.Audits.{DoesAudit}
use Rattle.link_audit.specs.Writes.{writing, SankAmong, SpentAmong, WritesLines, lines_of_told, side_with_end}
use Rattle.link_audit.proofs.Written.{wrote_none, spent_before}
use Rattle.link_audit.proofs.Places.{judged_late}

-- ---- a line

end_some : (words : List (List ℕ)) → 0 < length (line_end words)
unfolding line_end
end_some [] = omega arith
end_some (word ∷ words) = omega arith

-- no line is empty
pub line_some : (word : List ℕ) (words : List (List ℕ)) → 0 < length (line_text (word ∷ words))
unfolding line_text
line_some word words = let e = end_some words in let l = length-append word (line_end words) in omega (arith, e, l)

-- ---- a side

same_some : (a b : List ℕ) → Some a ≡ Some b → a ≡ b
same_some a b e = ap text_in e
  where
    text_in : Option (List ℕ) → List ℕ
    text_in None = []
    text_in (Some x) = x

-- how the place goes on: it stays at the third
pub data GoesOn (place : ℕ) : ℕ → Type 0 where
  More : place < 2 → GoesOn place (place + 1)
  Stays : 2 ≤ place → GoesOn place place

module _ (n : ℕ) (known : Known) (side : Side) where
  next_of : (place next : ℕ) (items : List (List ℕ)) → GoesOn place next → judged_from known side (place + 1) items ≡ judged_from known side next items
  next_of place next items (More few) = refl
  next_of place next items (Stays late) = judged_late known side (place + 1) place items (omega (arith, late)) late

  pub side_next : (place : ℕ) (items : List (List ℕ)) (item : List ℕ) → slice_get items 0 ≡ Some item
      → lines_of_side n side (judged_from known side place items)
      ≡ line_text (item_words n side (judged known side place item)) ∷ lines_of_side n side (judged_from known side (place + 1) (drop 1 items))
  unfolding judged_from
  side_next place [] item is = absurd cc
  side_next place (first ∷ items) item is = rw (same_some first item is) refl

  pub side_more : (place next : ℕ) (items : List (List ℕ)) (item : List ℕ) → slice_get items 0 ≡ Some item → GoesOn place next
      → lines_of_side n side (judged_from known side place items)
      ≡ line_text (item_words n side (judged known side place item)) ∷ lines_of_side n side (judged_from known side next (drop 1 items))
  side_more place next items item is goes =
      side_next place items item is
      ∙ ap (λ (all : List Judged). line_text (item_words n side (judged known side place item)) ∷ lines_of_side n side all) (next_of place next (drop 1 items) goes)

  pub side_none : (place : ℕ) (items : List (List ℕ)) → slice_get items 0 ≡ None → lines_of_side n side (judged_from known side place items) ≡ []
  unfolding judged_from
  side_none place [] is = refl
  side_none place (first ∷ items) is = absurd cc

-- ---- the end of a side

-- the words of what is told
words_told : (n : ℕ) (side : Side) (stream : List ℕ) → told_words n side (told_of_stream side stream) ≡ words_of_stream n side stream
words_told n side stream =
    let none : 0 + (stream_end side (frames_of stream)).heard ≡ (stream_end side (frames_of stream)).heard = omega arith in
    rw none refl

module _ (lines : List TapLine) (n : ℕ) (side : Side) (told : Told) (is : told ≡ told_of_stream side (stream_of n side lines)) where
  told_line : line_text (told_words n side told) ≡ end_text true lines n side
  told_line = ap (λ (t : Told). line_text (told_words n side t)) is ∙ ap (λ (words : List (List ℕ)). line_text words) (words_told n side (stream_of n side lines))

  told_asked : (ends : Bool) → lines_of_told ends n side told ≡ lines_of_end ends lines n side
  told_asked false = refl
  told_asked true = ap (λ (line : List ℕ). line ∷ []) told_line

-- a side by what is known and heard of it
pub side_told : (ends : Bool) (lines : List TapLine) (n : ℕ) (side : Side) (known k : Known) (all : KItems) → known ≡ k
    → all.left ≡ items (heard side (stream_of n side lines)) → all.told ≡ told_of_stream side (stream_of n side lines)
    → side_with_end ends n side known all
    ≡ lines_of_side n side (judged_from k side 0 (items (heard side (stream_of n side lines)))) ++ lines_of_end ends lines n side
side_told ends lines n side known k all same left told =
    rw (same, left) (ap (λ (t : List (List ℕ)). lines_of_side n side (judged_from k side 0 (items (heard side (stream_of n side lines)))) ++ t) (told_asked lines n side all.told told ends))

-- the ends of both sides, one behind the other
pub link_told : (lines : List TapLine) (n : ℕ) (of_e of_r : Told) (old mid new : List ℕ)
    → of_e ≡ told_of_stream E (stream_of n E lines) → of_r ≡ told_of_stream R (stream_of n R lines)
    → mid ≡ old ++ line_text (told_words n E of_e) → new ≡ mid ++ line_text (told_words n R of_r)
    → new ≡ old ++ (end_text true lines n E ++ end_text true lines n R)
link_told lines n of_e of_r old mid new e r first second =
    second
    ∙ ap (λ (t : List ℕ). mid ++ t) (told_line lines n R of_r r)
    ∙ ap (λ (t : List ℕ). t ++ end_text true lines n R) (first ∙ ap (λ (t : List ℕ). old ++ t) (told_line lines n E of_e e))
    ∙ append_assoc old (end_text true lines n E) (end_text true lines n R)

-- ---- all links

pub links_more : (ends : Bool) (finds : Finds) (lines : List TapLine) (o : Openings) (n : ℕ) → n ≤ 64
    → links_opened ends finds lines o n (65 - n) ≡ lines_of_link ends finds lines n (opening_at o n) ++ links_opened ends finds lines o (n + 1) (65 - (n + 1))
unfolding links_opened
links_more ends finds lines o n most =
    let here : 65 - n ≡ suc (64 - n) = omega (arith, most) in
    let next : 65 - (n + 1) ≡ 64 - n = omega arith in
    rw (here, next) refl

pub links_none : (ends : Bool) (finds : Finds) (lines : List TapLine) (o : Openings) (n : ℕ) → 64 < n → links_opened ends finds lines o n (65 - n) ≡ []
unfolding links_opened
links_none ends finds lines o n past =
    let none : 65 - n ≡ zero = omega (arith, past) in
    rw none refl

-- by the lines, where the links were opened as those say
pub opened_by_lines : (ends : Bool) (finds : Finds) (lines : List TapLine) (o : Openings) → ((n : ℕ) → 1 ≤ n → n ≤ 64 → opening_at o n ≡ tap_opening_of_link n lines)
    → (n count : ℕ) → 1 ≤ n → n + count ≤ 65 → links_opened ends finds lines o n count ≡ lines_of_links ends finds lines n count
unfolding links_opened lines_of_links
opened_by_lines ends finds lines o same n zero least most = refl
opened_by_lines ends finds lines o same n (suc count) least most =
    rw (same n least (omega arith))
    (ap (λ (t : List (List ℕ)). lines_of_link ends finds lines n (tap_opening_of_link n lines) ++ t) (opened_by_lines ends finds lines o same (n + 1) count (omega arith) (omega arith)))

-- the ends alone
ends_more : (lines : List TapLine) (o : Openings) (n : ℕ) → n ≤ 64
    → ends_opened lines o n (65 - n) ≡ ends_of_link lines n (opening_at o n) ++ ends_opened lines o (n + 1) (65 - (n + 1))
unfolding ends_opened
ends_more lines o n most =
    let here : 65 - n ≡ suc (64 - n) = omega (arith, most) in
    let next : 65 - (n + 1) ≡ 64 - n = omega arith in
    rw (here, next) refl

ends_none : (lines : List TapLine) (o : Openings) (n : ℕ) → 64 < n → ends_opened lines o n (65 - n) ≡ []
unfolding ends_opened
ends_none lines o n past =
    let none : 65 - n ≡ zero = omega (arith, past) in
    rw none refl

-- what was told so far, and what is told yet
pub ends_told : (lines : List TapLine) (o : Openings) (n : ℕ) (old new all : List ℕ) → n ≤ 64 → new ≡ old ++ ends_of_link lines n (opening_at o n)
    → old ++ ends_opened lines o n (65 - n) ≡ all → new ++ ends_opened lines o (n + 1) (65 - (n + 1)) ≡ all
ends_told lines o n old new all most more was =
    ap (λ (t : List ℕ). t ++ ends_opened lines o (n + 1) (65 - (n + 1))) more
    ∙ append_assoc old (ends_of_link lines n (opening_at o n)) (ends_opened lines o (n + 1) (65 - (n + 1)))
    ∙ ap (λ (t : List ℕ). old ++ t) (sym (ends_more lines o n most))
    ∙ was

pub all_told : (lines : List TapLine) (o : Openings) (n : ℕ) (old all : List ℕ) → 64 < n → old ++ ends_opened lines o n (65 - n) ≡ all → old ≡ all
all_told lines o n old all past was = sym (append-nil old) ∙ ap (λ (t : List ℕ). old ++ t) (sym (ends_none lines o n past)) ∙ was

pub ends_by_lines : (lines : List TapLine) (o : Openings) → ((n : ℕ) → 1 ≤ n → n ≤ 64 → opening_at o n ≡ tap_opening_of_link n lines)
    → (n count : ℕ) → 1 ≤ n → n + count ≤ 65 → ends_opened lines o n count ≡ ends_of_links lines n count
unfolding ends_opened ends_of_links
ends_by_lines lines o same n zero least most = refl
ends_by_lines lines o same n (suc count) least most =
    rw (same n least (omega arith))
    (ap (λ (t : List ℕ). ends_of_link lines n (tap_opening_of_link n lines) ++ t) (ends_by_lines lines o same (n + 1) count (omega arith) (omega arith)))

-- ---- all lines

module _ (ends : Bool) (finds : Finds) (lines : List TapLine) (before now : ToldOutside) where
  -- all links were written
  pub audited : (all : List (List ℕ)) → all ≡ lines_of_audit ends finds lines → fault_of_tap_lines lines ≡ None → Did before now (writing all)
      → DoesAudit ends finds lines before now (Ok tt)
  audited all is none w = (none, subst (λ (t : List (List ℕ)). Did before now (writing t)) is w)

  -- the first of them
  pub audited_part : (all : List (List ℕ)) (fault : AuditFault) → all ≡ lines_of_audit ends finds lines → fault_of_tap_lines lines ≡ None → WritesLines before now all (Err fault)
      → DoesAudit ends finds lines before now (Err fault)
  audited_part all (NoLink line n) is none w = absurd w
  audited_part all (LinkTwice line n) is none w = absurd w
  audited_part all Sink is none w = (none, subst (λ (t : List (List ℕ)). SankAmong t before now) is w)
  audited_part all (NoMemory want) is none w = (none, subst (λ (t : List (List ℕ)). SpentAmong t before now) is w)

  -- all of them, and then memory ran out
  pub audited_spent : (all : List (List ℕ)) → all ≡ lines_of_audit ends finds lines → fault_of_tap_lines lines ≡ None → Did before now (writing all)
      → (fault_of_tap_lines lines ≡ None) × SpentAmong (lines_of_audit ends finds lines) before now
  audited_spent all is none did = (
    none,
    record {
      first = lines_of_audit ends finds lines;
      rest = [];
      are = sym (append-nil (lines_of_audit ends finds lines));
      did = subst (λ (t : List (List ℕ)). Did before now (writing t)) is did;
    },
  )

-- before the first line
pub audited_none : (ends : Bool) (finds : Finds) (lines : List TapLine) (t : ToldOutside) → fault_of_tap_lines lines ≡ None
    → (fault_of_tap_lines lines ≡ None) × SpentAmong (lines_of_audit ends finds lines) t t
audited_none ends finds lines t none = (none, spent_before (lines_of_audit ends finds lines) t)

-- the lines of the ends were given back
pub ends_made : (old new made start more all : List ℕ) → new ≡ old ++ made → made ≡ start ++ more → start ≡ [] → more ≡ all → new ≡ old ++ all
ends_made old new made start more all given is none same =
    given ∙ ap (λ (t : List ℕ). old ++ t) (is ∙ ap (λ (t : List ℕ). t ++ more) none ∙ same)

-- a link that wasn't opened has none
pub none_written : (ends : Bool) (finds : Finds) (lines : List TapLine) (n : ℕ) (o : Option TapOpening) (t : ToldOutside) → None ≡ o
    → Did t t (writing (lines_of_link ends finds lines n o))
none_written ends finds lines n None t is = wrote_none t
none_written ends finds lines n (Some o) t is = absurd (cc)
