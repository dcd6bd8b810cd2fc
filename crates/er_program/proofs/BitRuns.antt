-- The verdicts on a recorded line: their lines and counts, those up to a place and the rest; and how the command ends.
use Rattle.std.proofs.Common.{◌≡◌, ℕ, ◌+◌, ◌*◌, ◌<◌, ◌≤◌, cond, true, false, List, [], ◌∷◌, ◌++◌, length, take, drop, inl, inr, Option, None, Some, Result, Ok, Err, refl, sym, ◌∙◌, ap, arith}
use Rattle.std.specs.Prelude.{flat_map}
use Rattle.std.specs.Option.{option_to_list}
use Rattle.std.proofs.lemmas.List.{take-append-drop, length-append}
use Rattle.std.proofs.lemmas.List.Sums.{sum_by-append}
use Rattle.bit_lists.specs.LowestFirst.{low_bits}
use Rattle.bit_lists.proofs.LowestFirstLaws.{length-low_bits}
use Rattle.hdlc_fcs.specs.FrameCheck.{sent_bits}
use Rattle.hdlc_bits.specs.Framing.{Verdict, frames_of_bits}
use Rattle.hdlc_bits.specs.Keeping.{KeptBitDeframer, kept_of}
use Rattle.hdlc_bits.specs.Laws.{FramesGrow}
use Rattle.link_trait.specs.Outside.{HasFile}
use Rattle.er_program.specs.Commands.{Bits}
use Rattle.er_statuses.specs.LastLines.{fetch_line}
use Rattle.er_statuses.specs.Answers.{Files}
use Rattle.er_program.specs.Answers.{bits_answer}
use Rattle.er_program.specs.BitTexts.{verdict_lines, is_frame, frame_count, verdicts_in}
use Rattle.er_program.specs.BitWriting.{found_count, EndsBits}
use Rattle.er_statuses.specs.Writing.{EndsUnfetched}
use Rattle.er_program.specs.Writing.{EndsCommand}
use Rattle.er_statuses.specs.declared.stop.Stop.{Stop}
use Rattle.er_statuses.specs.declared.stop.Stop.TheVariants as stop
use Rattle.er_statuses.specs.declared.status.Status.{Status}

-- ---- lines and counts of verdicts

pub no_lines : verdict_lines [] ≡ []
unfolding verdict_lines
no_lines = refl

pub count_append : (us vs : List Verdict) → frame_count (us ++ vs) ≡ frame_count us + frame_count vs
unfolding frame_count
count_append us vs = sum_by-append (λ v. cond (is_frame v) 1 0) us vs

pub count_listed : (v : Option Verdict) → frame_count (option_to_list v) ≡ found_count v
unfolding frame_count
count_listed None = refl
count_listed (Some v) = omega arith

pub no_count : frame_count [] ≡ 0
unfolding frame_count
no_count = refl

pub found_one : (v : Option Verdict) → found_count v ≤ 1
found_one None = omega arith
found_one (Some v) =
    elim (is_frame v) as (λ b. cond b 1 0 ≤ 1) [
      | true ↦ omega arith
      | false ↦ omega arith
    ]

pub length-sent_bits : (os : List ℕ) → length (sent_bits os) ≡ 8 * length os
unfolding sent_bits
length-sent_bits [] = omega arith
length-sent_bits (o ∷ os) = length-append (low_bits 8 o) (flat_map (low_bits 8) os) ∙ omega (arith, length-low_bits 8 o, length-sent_bits os)

-- ---- verdicts up to a place

-- what one call more adds
pub record More (file : List ℕ) (at used : ℕ) (next : KeptBitDeframer) (v : Option Verdict) : Type 0 where
  pub within : at + used ≤ 8 * length file
  pub moves : 0 < used
  pub frames : frames_of_bits (take (at + used) (sent_bits file)) ≡ frames_of_bits (take at (sent_bits file)) ++ option_to_list v
  pub kept_is : next ≡ kept_of (take (at + used) (sent_bits file))

-- the verdicts up to a place, and the rest
pub record Parts (file : List ℕ) (at : ℕ) : Type 0 where
  pub rest : List Verdict
  pub is : verdicts_in file ≡ frames_of_bits (take at (sent_bits file)) ++ rest

pub parts : FramesGrow → (file : List ℕ) (at : ℕ) → Parts file at
parts grow file at =
    let begins = grow (take at (sent_bits file)) (drop at (sent_bits file)) in
    record { rest = begins.rest; is = ap frames_of_bits (sym (take-append-drop at (sent_bits file))) ∙ begins.is }

-- ---- the file word

pub ends_bits : (name file : List ℕ) (files : Files) (c d : ℕ) (before now : Option (List ℕ)) (f g : ℕ) (r : Result Status Stop)
    → HasFile files name file → EndsBits file before now f g r → EndsCommand (Bits name) files c d before now f g r
ends_bits name file files c d before now f g (Ok s) stands ends = record {
  answer = bits_answer file;
  is = record { fetched = Some file; stands = stands; is = refl };
  stated = ends.0;
  printed = ends.1;
  later = ends.2;
}
ends_bits name file files c d before now f g (Err stop.Sink) stands ends = record {
  answer = bits_answer file;
  is = record { fetched = Some file; stands = stands; is = refl };
  part = ends.0;
  rose = ends.1;
}
ends_bits name file files c d before now f g (Err (stop.NoMemory want)) stands ends = record {
  text = verdict_lines (take ends.0.count (verdicts_in file));
  first = inr (record { file = file; stands = stands; count = ends.0.count; is = refl });
  printed = ends.0.grew;
  later = ends.1;
}

pub ends_bits_unfetched : (name : List ℕ) (files : Files) (c d : ℕ) (before now : Option (List ℕ)) (f g : ℕ) (r : Result Status Stop)
    → EndsUnfetched name c d before now f g r → EndsCommand (Bits name) files c d before now f g r
ends_bits_unfetched name files c d before now f g (Ok status) ends = record {
  answer = record { status = 2; text = fetch_line name };
  is = record { fetched = None; stands = ends.0; is = refl };
  stated = ends.1;
  printed = ends.2;
  later = ends.3;
}
ends_bits_unfetched name files c d before now f g (Err stop.Sink) ends = record {
  answer = record { status = 2; text = fetch_line name };
  is = record { fetched = None; stands = ends.0; is = refl };
  part = ends.1;
  rose = ends.2;
}
ends_bits_unfetched name files c d before now f g (Err (stop.NoMemory want)) ends =
    record { text = []; first = inl refl; printed = ends.0; later = ends.1 }
