-- The laws of what a relay did.
use Rattle.er_base.specs.declared.side.Side.{Side}
use Rattle.relay_loop.proofs.LiveWays.{closed_carried}
use Rattle.relay_script.specs.declared.script_line.ScriptLine.{ScriptLine}
use Rattle.relay_carrier.specs.Prompt.{NoneDelays}
use Rattle.relay_model.specs.Units.{standing_behind, held_in_standing}
use Rattle.relay_loop.specs.Settled.{told_in_acts, given_so_far}
use Rattle.std.proofs.Common.{◌≡◌, ℕ, ◌==◌, true, List, [], ◌∷◌, ◌++◌, take, refl, sym, ap, ◌∙◌, subst, append_assoc, append-nil, replicate, fold, zero, suc, Bool, false, true≢false, inl}
use Rattle.std.proofs.lemmas.Bool.{eq-eqb}
use Rattle.std.proofs.lemmas.List.Concat.{flat_map-append}
use Rattle.std.proofs.lemmas.List.Sums.{fold-append}
use Rattle.er_base.specs.declared.side.Side.TheVariants.{E, R}
use Rattle.er_base.specs.Printing.{Begins}
use Rattle.hdlc_frames.specs.Framing.{Verdict, frames_of}
use Rattle.hdlc_frames.specs.Laws.{CutGoesOn}
use Rattle.link_trait.specs.declared.wires.WriteAnswer.TheVariants as write_answer
use Rattle.outside.specs.Acts.{Act, Called, Sent}
use Rattle.relay_script.specs.declared.script.Script.{Script}
use Rattle.relay_model.specs.Carried.{carried, given_of_sent, is_closed_by}
use Rattle.relay_model.specs.Losing.{LosesAndRepeats, NoneFor}
use Rattle.relay_model.specs.Laws.{PassedIsSent, LosingLine, ClosedStays}
use Rattle.relay_loop.specs.RelayLines.{RelayLine, told_in_lines}
use Rattle.relay_loop.specs.Octets.{given_by_act, given_in_acts, read_in_acts}
use Rattle.relay_loop.specs.Connections.{Far, Nobody, Unreached, Reached, RelayedConnection, behind_act, connections_in_acts, IsOwnAct, AreOwnActs}
use Rattle.relay_loop.specs.Relays.{text_by_act, text_in_acts, IsRelayed, AreRelayed, RelaysSoFar}
use Rattle.relay_loop.specs.Laws.{IsToldBefore, AreToldBefore, GivesTold, ToldFirst, GivenIsRead, FoundAreSent, GivesAll, AllIsGiven}
use Rattle.relay_loop.proofs.Deeds.{begins_then}

-- ---- told first

sent_gives : (conn count : ℕ) (piece : List ℕ) (before : List Act)
    → given_in_acts conn (before ++ Called (Sent conn piece (write_answer.Some count)) ∷ []) ≡ given_in_acts conn before ++ take count piece
sent_gives conn count piece before =
    let same : (conn == conn) ≡ true = eq-eqb conn conn refl in
    flat_map-append (given_by_act conn) before (Called (Sent conn piece (write_answer.Some count)) ∷ [])
    ∙ ap (λ (o : List ℕ). given_in_acts conn before ++ o) (rw same (append-nil (take count piece)))

to_socket : (conn at count : ℕ) (piece whole : List ℕ) (before : List Act) → conn ≡ at
    → Begins (given_in_acts at (before ++ Called (Sent conn piece (write_answer.Some count)) ∷ [])) whole → Begins (given_in_acts at before ++ take count piece) whole
to_socket conn at count piece whole before is h =
    subst (λ (o : List ℕ). Begins o whole) (sent_gives at count piece before)
    (subst (λ (c : ℕ). Begins (given_in_acts at (before ++ Called (Sent c piece (write_answer.Some count)) ∷ [])) whole) is h)

second_none : (xs ys : List ℕ) → xs ++ ys ≡ [] → ys ≡ []
second_none [] ys is = is
second_none (x ∷ xs) ys is = absurd cc is

-- where nothing was given
to_nobody : (conn at count : ℕ) (piece : List ℕ) (before : List Act) → conn ≡ at
    → given_in_acts at (before ++ Called (Sent conn piece (write_answer.Some count)) ∷ []) ≡ [] → take count piece ≡ []
to_nobody conn at count piece before is none =
    second_none (given_in_acts at before) (take count piece)
    (sym (sent_gives at count piece before)
    ∙ subst (λ (c : ℕ). given_in_acts at (before ++ Called (Sent c piece (write_answer.Some count)) ∷ []) ≡ []) is none)

one_told : (script : Script) (dial : List ℕ) (conn count : ℕ) (piece : List ℕ) (before : List Act) (lines : List RelayLine) (number e : ℕ) (far : Far)
    → IsRelayed script dial (before ++ Called (Sent conn piece (write_answer.Some count)) ∷ []) lines number e far
    → IsToldBefore before lines conn (take count piece) number e far
one_told script dial conn count piece before lines number e Nobody h = λ is. to_nobody conn e count piece before is h.ungiven
one_told script dial conn count piece before lines number e (Unreached address) h = λ is. to_nobody conn e count piece before is h.1.alone.ungiven
one_told script dial conn count piece before lines number e (Reached address r) h = (
  λ is. to_socket conn r count piece (told_in_lines number E lines) before is h.1.told_to_r,
  λ is. to_socket conn e count piece (told_in_lines number R lines) before is h.1.told_to_e,
)

all_told : (script : Script) (dial : List ℕ) (conn count : ℕ) (piece : List ℕ) (before : List Act) (lines : List RelayLine) (connections : List RelayedConnection)
    → AreRelayed script dial (before ++ Called (Sent conn piece (write_answer.Some count)) ∷ []) lines connections
    → AreToldBefore before lines conn (take count piece) connections
all_told script dial conn count piece before lines [] h = tt
all_told script dial conn count piece before lines (one ∷ others) h =
    (one_told script dial conn count piece before lines one.number one.e one.r h.0, all_told script dial conn count piece before lines others h.1)

-- the last of acts, by the connections before it
own_last : (dial : List ℕ) (acts : List Act) (act : Act) (before : List RelayedConnection) → AreOwnActs dial before (acts ++ act ∷ [])
    → IsOwnAct dial (fold behind_act before acts) act
own_last dial [] act before own = own.0
own_last dial (first ∷ acts) act before own = own_last dial acts act (behind_act before first) own.1

gives_told : (script : Script) (dial : List ℕ) (conn count : ℕ) (piece : List ℕ) (before : List Act)
    → RelaysSoFar script dial (before ++ Called (Sent conn piece (write_answer.Some count)) ∷ []) → GivesTold before conn (take count piece)
gives_told script dial conn count piece before h =
    let act : Act = Called (Sent conn piece (write_answer.Some count)) in
    let text : text_in_acts (before ++ act ∷ []) ≡ text_in_acts before = flat_map-append text_by_act before (act ∷ []) ∙ append-nil (text_in_acts before) in
    let same : connections_in_acts (before ++ act ∷ []) ≡ connections_in_acts before = fold-append behind_act [] before (act ∷ []) in
    record {
      side = own_last dial before act [] h.own;
      lines = h.lines;
      written = sym text ∙ h.written;
      told = subst (λ (c : List RelayedConnection). AreToldBefore before h.lines conn (take count piece) c) same
          (all_told script dial conn count piece before h.lines (connections_in_acts (before ++ act ∷ [])) h.relayed);
    }

pub told_first : ToldFirst
told_first script dial acts always before after conn count piece is =
    let act : Act = Called (Sent conn piece (write_answer.Some count)) in
    gives_told script dial conn count piece before (always (before ++ act ∷ []) after (is ∙ sym (append_assoc before (act ∷ []) after)))

-- ---- what a script leaves

pub given_is_read : PassedIsSent → GivenIsRead
given_is_read passed script acts lines number e r p = (
  λ none. subst (λ (o : List ℕ). Begins (given_in_acts r acts) o) (passed script E (read_in_acts e acts) none) (begins_then _ _ _ p.told_to_r p.carried_of_e),
  λ none. subst (λ (o : List ℕ). Begins (given_in_acts e acts) o) (passed script R (read_in_acts r acts) none) (begins_then _ _ _ p.told_to_e p.carried_of_r),
)

-- the frames of a beginning are a beginning of the frames
frames_begin : CutGoesOn → (front whole : List ℕ) → Begins front whole → (rest : List Verdict) × (frames_of whole ≡ frames_of front ++ rest)
frames_begin cut front whole b =
    let goes = (cut front (b.rest ∷ [])).0 in
    (_, ap (λ (o : List ℕ). frames_of o) (b.is ∙ ap (λ (o : List ℕ). front ++ o) (sym (append-nil b.rest))) ∙ goes)

nothing_found : {A : Type 0} (sent : List A) → LosesAndRepeats sent []
nothing_found [] = refl
nothing_found (x ∷ sent) = (0, ([], (refl, nothing_found sent)))

found_again : {A : Type 0} (x y : A) (sent front : List A) → y ≡ x → LosesAndRepeats (x ∷ sent) front → LosesAndRepeats (x ∷ sent) (y ∷ front)
found_again {A = A} x y sent front same h =
    subst (λ (z : A). LosesAndRepeats (x ∷ sent) (z ∷ front)) (sym same) (suc h.0, (h.1.0, (ap (λ (o : List A). x ∷ o) h.1.1.0, h.1.1.1)))

-- what is found is cut among those of one that was sent, or behind them
front_times : {A : Type 0} (times : ℕ) (x : A) (sent rest front more : List A) → front ++ more ≡ replicate times x ++ rest → LosesAndRepeats sent rest
    → ((found behind : List A) → LosesAndRepeats sent (found ++ behind) → LosesAndRepeats sent found) → LosesAndRepeats (x ∷ sent) front
front_times times x sent rest [] more is l cut = nothing_found (x ∷ sent)
front_times {A = A} zero x sent rest (y ∷ front) more is l cut =
    (0, (y ∷ front, (refl, cut (y ∷ front) more (subst (λ (o : List A). LosesAndRepeats sent o) (sym is) l))))
front_times {A = A} (suc n) x sent rest (y ∷ front) more is l cut =
    let same : y ≡ x = cc is in
    let tail : front ++ more ≡ replicate n x ++ rest = cc is in
    found_again x y sent front same (front_times n x sent rest front more tail l cut)

-- a beginning of what is found of what was sent is found of it too
loses_front : {A : Type 0} (sent front more : List A) → LosesAndRepeats sent (front ++ more) → LosesAndRepeats sent front
loses_front [] [] more h = refl
loses_front [] (y ∷ front) more h = absurd cc h
loses_front (x ∷ sent) front more h = front_times h.0 x sent h.1.0 front more h.1.1.0 h.1.1.1 (λ found behind. loses_front sent found behind)

found_are : CutGoesOn → (sent : List Verdict) (front whole : List ℕ) → Begins front whole → LosesAndRepeats sent (frames_of whole) → LosesAndRepeats sent (frames_of front)
found_are cut sent front whole b h =
    let f = frames_begin cut front whole b in
    loses_front sent (frames_of front) f.0 (subst (λ (o : List Verdict). LosesAndRepeats sent o) f.1 h)

pub found_are_sent : LosingLine → CutGoesOn → FoundAreSent
found_are_sent losing cut script acts lines number e r p = (
  λ only. found_are cut (frames_of (read_in_acts e acts)) (given_in_acts r acts) (carried script E (read_in_acts e acts))
      (begins_then _ _ _ p.told_to_r p.carried_of_e) (losing script E (read_in_acts e acts) only),
  λ only. found_are cut (frames_of (read_in_acts r acts)) (given_in_acts e acts) (carried script R (read_in_acts r acts))
      (begins_then _ _ _ p.told_to_e p.carried_of_r) (losing script R (read_in_acts r acts) only),
)

-- ---- all of it

none_delays : (side : Side) (lines : List ScriptLine) → NoneFor side lines → NoneDelays side lines
none_delays side [] none = tt
none_delays side (line ∷ lines) none = (λ own. absurd (none.0 own), none_delays side lines none.1)

one_more_not : (xs : List ℕ) (x : ℕ) → xs ++ x ∷ [] ≡ xs → ⊥
one_more_not [] x is = let q : ⊥ = cc is in q
one_more_not (y ∷ xs) x is = let same : xs ++ x ∷ [] ≡ xs = cc is in one_more_not xs x same

-- behind a close nothing would be given
line_not : ClosedStays → PassedIsSent → (script : Script) (side : Side) (came : List ℕ) → NoneFor side script.lines → is_closed_by script side came ≡ true → ⊥
line_not stays passed script side came none closed =
    one_more_not came 0
    (sym (passed script side (came ++ 0 ∷ []) none)
    ∙ ((stays script side came (0 ∷ []) closed).1 ∙ (sym (closed_carried script side came closed) ∙ passed script side came none)))

never_true : (b : Bool) → (b ≡ true → ⊥) → b ≡ false
never_true false not = refl
never_true true not = absurd (not refl)

none_closes : ClosedStays → PassedIsSent → (script : Script) (side : Side) (came : List ℕ) → NoneFor side script.lines → is_closed_by script side came ≡ false
none_closes stays passed script side came none = never_true (is_closed_by script side came) (line_not stays passed script side came none)

open_carried : (script : Script) (side : Side) (came : List ℕ) → is_closed_by script side came ≡ false
    → carried script side came ≡ given_of_sent script side came ++ held_in_standing (standing_behind came)
unfolding carried
open_carried script side came going = rw going refl

so_far_all : ClosedStays → PassedIsSent → (script : Script) (side : Side) (ended : Bool) (read gave : List ℕ) → NoneFor side script.lines
    → gave ≡ given_so_far script side ended read → GivesAll ended read gave
so_far_all stays passed script side true read gave none is =
    record { whole = λ _. is ∙ passed script side read none; held = λ f. absurd (true≢false f) }
so_far_all stays passed script side false read gave none is = record {
  whole = λ f. absurd (true≢false (sym f));
  held = λ _.
      ap (λ (o : List ℕ). o ++ held_in_standing (standing_behind read)) is
      ∙ (sym (open_carried script side read (none_closes stays passed script side read none)) ∙ passed script side read none);
}

pub all_is_given : ClosedStays → PassedIsSent → AllIsGiven
all_is_given stays passed script until acts e r address none_e none_r settled = (
  λ unfailed room.
      so_far_all stays passed script E (told_in_acts e acts).ended (read_in_acts e acts) (given_in_acts r acts) none_e
      (settled.0 unfailed room (none_closes stays passed script R (read_in_acts r acts) none_r) (inl (none_delays E script.lines none_e))),
  λ unfailed room.
      so_far_all stays passed script R (told_in_acts r acts).ended (read_in_acts r acts) (given_in_acts e acts) none_r
      (settled.1 unfailed room (none_closes stays passed script E (read_in_acts e acts) none_e) (inl (none_delays R script.lines none_r))),
)
