-- The reading of a recorded line in its script: at the beginning, one call more, a call whose line wasn't written, and the end.
use Rattle.std.proofs.Common.{◌≡◌, ℕ, ◌+◌, ◌*◌, ◌<◌, ◌≤◌, false, List, [], ◌∷◌, ◌++◌, length, take, drop, Option, None, Some, Ok, Err, refl, sym, subst, ◌∙◌, ap, arith, append_assoc, drop_at}
use Rattle.std.specs.Option.{option_to_list}
use Rattle.std.proofs.lemmas.List.{take_all, drop_all}
use Rattle.hdlc_fcs.specs.FrameCheck.{sent_bits}
use Rattle.hdlc_bits.specs.Framing.{Verdict, frames_of_bits}
use Rattle.hdlc_bits.specs.Keeping.{KeptBitDeframer, kept_of, kept_after}
use Rattle.hdlc_bits.specs.Pieces.{bits_between, AddsToFrames}
use Rattle.hdlc_bits.specs.Laws.{NothingIsRead, FramesGrow, ReadingGoesOn}
use Rattle.outside.specs.Doings.{Told}
use Rattle.outside.specs.Scripts.{End, Sunk, OutOfMemory, Does, LeadsOn, says_last}
use Rattle.outside.specs.ScriptSteps.{does_printed, does_sank, does_spent}
use Rattle.er_statuses.specs.ScriptEnds.{end_of_run}
use Rattle.er_statuses.specs.declared.stop.Stop.{Stop}
use Rattle.er_statuses.specs.declared.stop.Stop.TheVariants as stop
use Rattle.er_program.specs.BitTexts.{verdicts_in, frame_count, counts_line}
use Rattle.er_program.specs.BitWriting.{found_count}
use Rattle.er_program.specs.BitScripts.{SaysFound, verdicts_behind, ReadAt}
use Rattle.er_program.specs.FileScripts.{prints_each, verdict_line, counts_bits, reads_bits}
use Rattle.er_program.proofs.BitRuns.{no_count, count_append, count_listed, found_one, length-sent_bits, Parts, parts, More}

-- ---- the verdicts that are left

behind_start : NothingIsRead → (file : List ℕ) → verdicts_behind file 0 ≡ verdicts_in file
behind_start none file = ap (λ (us : List Verdict). drop (length us) (verdicts_in file)) none

behind_more : FramesGrow → (file : List ℕ) (at used : ℕ) (next : KeptBitDeframer) (v : Option Verdict) → More file at used next v
    → verdicts_behind file at ≡ option_to_list v ++ verdicts_behind file (at + used)
behind_more grow file at used next v more =
    let us : List Verdict = frames_of_bits (take at (sent_bits file)) in
    let ws : List Verdict = frames_of_bits (take (at + used) (sent_bits file)) in
    let found : List Verdict = option_to_list v in
    let p : Parts file (at + used) = parts grow file (at + used) in
    ap (λ (vs : List Verdict). drop (length us) vs) (p.is ∙ ap (λ (vs : List Verdict). vs ++ p.rest) more.frames ∙ append_assoc us found p.rest)
    ∙ drop_at us (found ++ p.rest) (length us) refl
    ∙ ap (λ (vs : List Verdict). found ++ vs) (sym (ap (λ (vs : List Verdict). drop (length ws) vs) p.is ∙ drop_at ws p.rest (length ws) refl))

behind_end : (file : List ℕ) (at : ℕ) → 8 * length file ≤ at → verdicts_behind file at ≡ []
behind_end file at end =
    let all : take at (sent_bits file) ≡ sent_bits file = take_all at (sent_bits file) (omega (arith, length-sent_bits file)) in
    ap (λ (bits : List ℕ). drop (length (frames_of_bits bits)) (verdicts_in file)) all ∙ drop_all (length (verdicts_in file)) (verdicts_in file) (omega arith)

-- ---- the loop

-- what one call more adds
pub call_reads : ReadingGoesOn → (file : List ℕ) (at used end frames : ℕ) (kept next : KeptBitDeframer) (v : Option Verdict) (before mid : Told)
    → ReadAt file at frames kept before mid → end ≡ 8 * length file → at + used ≤ end → 0 < used
    → AddsToFrames kept (bits_between file at end) used v → next ≡ kept_after kept (take used (bits_between file at end)) → More file at used next v
call_reads goes file at used end frames kept next v before mid r all most moves adds is =
    let read = goes file at end used kept next v r.kept_is most adds is in
    record { within = omega arith; moves = moves; frames = read.0; kept_is = read.1 }

pub reads_nothing : NothingIsRead → (file : List ℕ) (kept : KeptBitDeframer) (t : Told) → kept ≡ kept_of [] → ReadAt file 0 0 kept t t
reads_nothing none file kept t is = record {
  within = omega arith;
  few = omega arith;
  kept_is = is;
  count = sym (ap frame_count none ∙ no_count);
  leads = λ behind end does. subst (λ (vs : List Verdict). Does (prints_each verdict_line vs (counts_bits file)) t behind end) (behind_start none file) does;
}

-- what a call found was told: so much less is left
leads_more : (file : List ℕ) (v : Option Verdict) (rest : List Verdict) (n : ℕ) (before mid now : Told)
    → LeadsOn (reads_bits false file) (prints_each verdict_line (option_to_list v ++ rest) (counts_bits file)) before mid → SaysFound v mid now (Ok n)
    → LeadsOn (reads_bits false file) (prints_each verdict_line rest (counts_bits file)) before now
unfolding prints_each
leads_more file None rest n before mid now leads said =
    λ behind end does. leads behind end (subst (λ (t : Told). Does (prints_each verdict_line rest (counts_bits file)) t behind end) said.1 does)
leads_more file (Some v) rest n before mid now leads said =
    λ behind end does.
    leads behind end (does_printed (λ line. line ≡ verdict_line v) (prints_each verdict_line rest (counts_bits file)) (verdict_line v) mid now behind end refl said.1 does)

found_said : (v : Option Verdict) (n : ℕ) (before now : Told) → SaysFound v before now (Ok n) → n ≡ found_count v
found_said None n before now said = said.0
found_said (Some v) n before now said = said.0

pub said_few : (v : Option Verdict) (n : ℕ) (before now : Told) → SaysFound v before now (Ok n) → n ≤ 1
said_few v n before now said =
    let one = found_one v in
    let is = found_said v n before now said in
    omega (arith, one, is)

pub reads_more : FramesGrow → (file : List ℕ) (at used frames n : ℕ) (kept next : KeptBitDeframer) (v : Option Verdict) (before mid now : Told)
    → ReadAt file at frames kept before mid → More file at used next v → SaysFound v mid now (Ok n) → ReadAt file (at + used) (frames + n) next before now
reads_more grow file at used frames n kept next v before mid now r more said =
    let us : List Verdict = frames_of_bits (take at (sent_bits file)) in
    let rest : List Verdict = verdicts_behind file (at + used) in
    let one = found_one v in
    let is : n ≡ found_count v = found_said v n mid now said in
    record {
      within = more.within;
      few = omega (arith, r.few, more.moves);
      kept_is = more.kept_is;
      count = ap (λ m. frames + m) is ∙ ap (λ m. m + found_count v) r.count ∙ ap (λ m. frame_count us + m) (sym (count_listed v)) ∙ sym (count_append us (option_to_list v)) ∙ ap frame_count (sym more.frames);
      leads = leads_more file v rest n before mid now
          (subst (λ (vs : List Verdict). LeadsOn (reads_bits false file) (prints_each verdict_line vs (counts_bits file)) before mid) (behind_more grow file at used next v more) r.leads) said;
    }

-- what a call found wasn't told: its write failed, or memory ran out
leads_off : (file : List ℕ) (v : Option Verdict) (rest : List Verdict) (stop : Stop) (before mid now : Told)
    → LeadsOn (reads_bits false file) (prints_each verdict_line (option_to_list v ++ rest) (counts_bits file)) before mid → SaysFound v mid now (Err stop)
    → Does (reads_bits false file) before now (end_of_run (Err stop))
unfolding prints_each
leads_off file None rest stop before mid now leads said = absurd said
leads_off file (Some v) rest stop.Sink before mid now leads said =
    leads now Sunk (does_sank (λ line. line ≡ verdict_line v) (prints_each verdict_line rest (counts_bits file)) (verdict_line v) mid now refl said)
leads_off file (Some v) rest (stop.NoMemory want) before mid now leads said =
    leads now OutOfMemory (subst (λ (t : Told). Does (prints_each verdict_line (v ∷ rest) (counts_bits file)) mid t OutOfMemory) (sym said)
    (does_spent (λ line. line ≡ verdict_line v) (prints_each verdict_line rest (counts_bits file)) mid))

pub reads_off : FramesGrow → (file : List ℕ) (at used frames : ℕ) (kept next : KeptBitDeframer) (v : Option Verdict) (before mid now : Told) (stop : Stop)
    → ReadAt file at frames kept before mid → More file at used next v → SaysFound v mid now (Err stop) → Does (reads_bits false file) before now (end_of_run (Err stop))
reads_off grow file at used frames kept next v before mid now stop r more said =
    leads_off file v (verdicts_behind file (at + used)) stop before mid now
    (subst (λ (vs : List Verdict). LeadsOn (reads_bits false file) (prints_each verdict_line vs (counts_bits file)) before mid) (behind_more grow file at used next v more) r.leads) said

-- all was read, and the last line was said
pub reads_end : (file : List ℕ) (at frames : ℕ) (kept : KeptBitDeframer) (before mid now : Told) (end : End) → 8 * length file ≤ at → ReadAt file at frames kept before mid
    → Does (says_last 0 (counts_line (8 * length file) frames)) mid now end → Does (reads_bits false file) before now end
unfolding prints_each
reads_end file at frames kept before mid now end all r does =
    let bits : take at (sent_bits file) ≡ sent_bits file = take_all at (sent_bits file) (omega (arith, length-sent_bits file)) in
    let text : counts_line (8 * length file) frames ≡ counts_line (length (sent_bits file)) (frame_count (verdicts_in file)) =
    ap (λ n. counts_line n frames) (sym (length-sent_bits file)) ∙ ap (λ n. counts_line (length (sent_bits file)) n) (r.count ∙ ap (λ (xs : List ℕ). frame_count (frames_of_bits xs)) bits) in
    r.leads now end (subst (λ (vs : List Verdict). Does (prints_each verdict_line vs (counts_bits file)) mid now end) (sym (behind_end file at all))
    (subst (λ (line : List ℕ). Does (says_last 0 line) mid now end) text does))
