-- What a station wrote is told frame by frame.
use Rattle.std.proofs.Common.{◌≡◌, ℕ, ◌<◌, Bool, List, [], ◌∷◌, ◌++◌, length, take, drop, inl, inr, refl, sym, ap, ◌∙◌, subst, arith, append-nil, append_assoc}
use Rattle.std.proofs.lemmas.Bool.{cases_order}
use Rattle.std.proofs.lemmas.List.{take_at, drop_at, take-append-drop}
use Rattle.std.proofs.Math.Seq.{take-nil}
use Rattle.hdlc_frames.specs.Framing.{Verdict, frames_of, between_flags, all_but_last, cut}
use Rattle.hdlc_frames.specs.Deframing.{kept_of, stream_behind_kept}
use Rattle.hdlc_frames.specs.FirstClose.{ClosesFirst}
use Rattle.hdlc_frames.specs.Laws.{KeptStandsForStream, WrittenIsFirst}
use Rattle.hdlc_station_model.specs.Frames.{Frame, sent_octets, sent_address, sent_body}
use Rattle.hdlc_station.specs.Kept.{octets_of_sent_frames}
use Rattle.drill_ends.specs.declared.told.Told.{Told}
use Rattle.drill_ends.specs.declared.told.Told.TheVariants as told
use Rattle.drill_ends.specs.StationEnds.{told_frames, TellingFrames}

pub nothing_framed : frames_of [] ≡ []
unfolding frames_of between_flags all_but_last cut
nothing_framed = refl

-- the first frame ends at one place alone
one_close : (octets : List ℕ) (n m : ℕ) → ClosesFirst octets n → ClosesFirst octets m → n ≡ m
one_close octets n m a b =
    elim (cases_order n m) [
      | inl same ↦ same
      | inr (inl less) ↦ absurd (a.1 (b.2 n less))
      | inr (inr more) ↦ absurd (b.1 (a.2 m more))
    ]

-- a place that closes a frame is behind an octet at least
pub closes_some : (octets : List ℕ) (n : ℕ) → ClosesFirst octets n → 0 < n
closes_some octets n a =
    elim (cases_order 0 n) [
      | inl none ↦ absurd (a.1 (ap (λ (k : ℕ). frames_of (take k octets)) (sym none) ∙ nothing_framed))
      | inr (inl some) ↦ some
      | inr (inr less) ↦ omega (arith, less)
    ]

no_parts : (xs ys : List Verdict) → xs ++ ys ≡ [] → xs ≡ []
no_parts [] ys e = refl
no_parts (x ∷ xs) ys e = absurd cc

-- octets in which no frame closes don't begin with one that does
nothing_closes : KeptStandsForStream → (octets : List ℕ) (n : ℕ) → frames_of octets ≡ [] → ClosesFirst octets n → ⊥
nothing_closes law octets n none a =
    let first : List ℕ = take n octets in
    let more : List Verdict = frames_of (stream_behind_kept (kept_of first) ++ drop n octets) in
    let whole : frames_of first ++ more ≡ [] = sym (law first (drop n octets)).1.0 ∙ ap frames_of (take-append-drop n octets) ∙ none in
    a.1 (no_parts (frames_of first) more whole)

none_taken : (n : ℕ) (octets : List ℕ) → octets ≡ [] → frames_of (take n octets) ≡ []
none_taken n octets none = ap (λ (xs : List ℕ). frames_of (take n xs)) none ∙ ap frames_of (take-nil n) ∙ nothing_framed

module _ (calling extended : Bool) (frames : List Frame) (before : List Told) where
  pub frames_begin : TellingFrames calling extended frames (octets_of_sent_frames calling extended frames) before before
  frames_begin = record { left = frames; is = refl; leads = refl }

  goes_on : WrittenIsFirst → (left : List Frame) (rest : List ℕ) (n : ℕ) (now : List Told) → rest ≡ octets_of_sent_frames calling extended left → ClosesFirst rest n
      → now ++ told_frames calling extended left ≡ before ++ told_frames calling extended frames
      → TellingFrames calling extended frames (drop n rest) before (now ++ told.Frame (take n rest) ∷ [])
  goes_on law [] rest n now is a leads = absurd (a.1 (none_taken n rest is))
  goes_on law (f ∷ left) rest n now is a leads =
      let one : List ℕ = sent_octets calling extended f in
      let others : List ℕ = octets_of_sent_frames calling extended left in
      let at : n ≡ length one =
      one_close rest n (length one) a (subst (λ (xs : List ℕ). ClosesFirst xs (length one)) (sym is) (law (sent_address calling f) (sent_body extended f) others)) in
      let first : take n rest ≡ one = ap (take n) is ∙ take_at one others n (sym at) in
      let then' : drop n rest ≡ others = ap (drop n) is ∙ drop_at one others n (sym at) in
      record {
        left = left;
        is = then';
        leads = append_assoc now (told.Frame (take n rest) ∷ []) (told_frames calling extended left)
            ∙ ap (λ (xs : List ℕ). now ++ told.Frame xs ∷ told_frames calling extended left) first
            ∙ leads;
      }

  pub frames_go_on : WrittenIsFirst → (rest : List ℕ) (n : ℕ) (now : List Told) → TellingFrames calling extended frames rest before now → ClosesFirst rest n
      → TellingFrames calling extended frames (drop n rest) before (now ++ told.Frame (take n rest) ∷ [])
  frames_go_on law rest n now t a = goes_on law t.left rest n now t.is a t.leads

  pub frames_pass : WrittenIsFirst → (rest : List ℕ) (n : ℕ) (now new : List Told) (front back frame : List ℕ)
      → front ≡ take n rest → back ≡ drop n rest → frame ≡ front → new ≡ now ++ told.Frame frame ∷ []
      → TellingFrames calling extended frames rest before now → ClosesFirst rest n
      → TellingFrames calling extended frames back before new
  frames_pass law rest n now new front back frame front_is back_is frame_is new_is t a =
      rw (new_is, frame_is, front_is, back_is) (frames_go_on law rest n now t a)

  ends : KeptStandsForStream → WrittenIsFirst → (left : List Frame) (rest : List ℕ) (now : List Told) → rest ≡ octets_of_sent_frames calling extended left → frames_of rest ≡ []
      → now ++ told_frames calling extended left ≡ before ++ told_frames calling extended frames
      → now ≡ before ++ told_frames calling extended frames
  ends kept law [] rest now is none leads = sym (append-nil now) ∙ leads
  ends kept law (f ∷ left) rest now is none leads =
      absurd (nothing_closes kept rest (length (sent_octets calling extended f)) none
      (subst (λ (xs : List ℕ). ClosesFirst xs (length (sent_octets calling extended f))) (sym is)
      (law (sent_address calling f) (sent_body extended f) (octets_of_sent_frames calling extended left))))

  pub frames_end : KeptStandsForStream → WrittenIsFirst → (rest : List ℕ) (now : List Told) → TellingFrames calling extended frames rest before now
      → frames_of rest ≡ [] → now ≡ before ++ told_frames calling extended frames
  frames_end kept law rest now t none = ends kept law t.left rest now t.is none t.leads
