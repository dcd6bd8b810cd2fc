-- Lemmas, proved here and not as laws, since they speak of every kind of end, which no clause of a call can (a clause is of Type 0): what each
-- event at a link keeps holds behind every list of steps. No claim rests on them.
use Rattle.std.proofs.Common.{if◌then◌else◌, ◌≡◌, ℕ, zero, suc, max, Bool, true, false, not, ◌&&◌, ◌||◌, List, [], ◌∷◌, ◌++◌, length, Option, Some, None, refl}
use Rattle.std.proofs.Common.{sym, ◌∙◌, true≢false}
use Rattle.std.specs.Prelude.{nat_lt, ◌==◌}
use Rattle.std.proofs.lemmas.Bool.{cond_both}
use Rattle.er_base.specs.declared.side.Side.{Side}
use Rattle.er_base.specs.declared.side.Side.TheVariants.{E, R}
use Rattle.hdlc_station_model.specs.Lines.{altered, next_of}
use Rattle.pair_model.specs.Links.{EndKind, PairLink, frames_from, with_frames_from, end_did}
use Rattle.pair_model.specs.Steps.{PairStep, Send, Pass, Lose, Repeat, Alter, Put, Take, UserRelease, Drain, Tick, send, take, release, pass, lose, repeat}
use Rattle.pair_model.specs.Steps.{alter, tick, is_overfull, pass_next, drained, pair_step, pair_run, ArePassesAndTakes, SendsOnly, AllSend}

-- ---- any claim

pub record KeepsEach {A : Type 0} (kind : EndKind A) (Fits : List ℕ → Type 0) (P : PairLink A → Type 0) : Type 0 where
  pub sent : (side : Side) (user : List ℕ) (l : PairLink A) → Fits user → P l → P (send kind side user l)
  pub passed : (side : Side) (l : PairLink A) → P l → P (pass kind side (frames_from l side) l)
  pub lost : (side : Side) (l : PairLink A) → P l → P (lose side (frames_from l side) l)
  pub repeated : (side : Side) (l : PairLink A) → P l → P (repeat side (frames_from l side) l)
  -- altered, or put in
  pub changed : (side : Side) (frames : List (List ℕ)) (l : PairLink A) → P l
      → P (with_frames_from side frames (record l { order_kept = false; loss_free = false }))
  pub took : (side : Side) (l : PairLink A) → P l → P (take kind side l)
  pub released : (side : Side) (sub : ℕ) (l : PairLink A) → P l → P (release kind side sub l)
  pub ticked : (now : ℕ) (l : PairLink A) → P l → P (tick kind now l)

module _ {A : Type 0} (kind : EndKind A) (Fits : List ℕ → Type 0) (P : PairLink A → Type 0) (keeps : KeepsEach kind Fits P) where
  alters : (side : Side) (place mask : ℕ) (line : List (List ℕ)) (l : PairLink A) → P l → P (alter side place mask line l)
  alters side place mask [] l h = h
  alters side place mask (frame ∷ frames) l h =
      let changed : PairLink A = with_frames_from side (altered frame place mask ∷ frames) (record l { order_kept = false; loss_free = false }) in
      cond_both (nat_lt place (length frame)) (if mask == 0 then l else changed) l P
      (λ in_frame. cond_both (mask == 0) l changed P (λ none. h) (λ some. keeps.changed side (altered frame place mask ∷ frames) l h)) (λ short. h)

  passes_next : (side : Option Side) (overfull : Bool) (l : PairLink A) → P l → P (pass_next kind side overfull l)
  passes_next None overfull l h = h
  passes_next (Some side) true l h = h
  passes_next (Some side) false l h = keeps.passed side l h

  drains : (most : ℕ) (l : PairLink A) → P l → P (drained kind most l)
  drains zero l h = h
  drains (suc most) l h =
      let next : Option Side = next_of l.from_e l.from_r in
      drains most (pass_next kind next (is_overfull l) l) (passes_next next (is_overfull l) l h)

  steps : (s : PairStep) (l : PairLink A) → SendsOnly Fits s → P l → P (pair_step kind s l)
  steps (Send side user) l fits h = keeps.sent side user l fits h
  steps (Pass side) l fits h = keeps.passed side l h
  steps (Lose side) l fits h = keeps.lost side l h
  steps (Repeat side) l fits h = keeps.repeated side l h
  steps (Alter side place mask) l fits h = alters side place mask (frames_from l side) l h
  steps (Put side octets) l fits h = keeps.changed side (octets ∷ frames_from l side) l h
  steps (Take side) l fits h = keeps.took side l h
  steps (UserRelease side sub) l fits h = keeps.released side sub l h
  steps (Drain most) l fits h = drains most l h
  steps (Tick moment) l fits h = keeps.ticked moment l h

  pub runs_keep : (list : List PairStep) (l : PairLink A) → AllSend Fits list → P l → P (pair_run kind l list)
  runs_keep [] l fits h = h
  runs_keep (s ∷ rest) l fits h = runs_keep rest (pair_step kind s l) fits.1 (steps s l fits.0 h)

-- users may send anything
sends_any : (s : PairStep) → SendsOnly (λ user. Unit {0}) s
sends_any (Send side user) = tt
sends_any (Pass side) = tt
sends_any (Lose side) = tt
sends_any (Repeat side) = tt
sends_any (Alter side place mask) = tt
sends_any (Put side octets) = tt
sends_any (Take side) = tt
sends_any (UserRelease side sub) = tt
sends_any (Drain most) = tt
sends_any (Tick moment) = tt

pub all_send_any : (list : List PairStep) → AllSend (λ user. Unit {0}) list
all_send_any [] = tt
all_send_any (s ∷ rest) = (sends_any s, all_send_any rest)

-- ---- frames are given, and users take, alone

module _ {A : Type 0} (kind : EndKind A) (P : PairLink A → Type 0) (passed : (side : Side) (l : PairLink A) → P l → P (pass kind side (frames_from l side) l))
    (took : (side : Side) (l : PairLink A) → P l → P (take kind side l)) where
  pub passes_run : (passes : List PairStep) (l : PairLink A) → ArePassesAndTakes passes → P l → P (pair_run kind l passes)
  passes_run [] l are h = h
  passes_run (Pass side ∷ rest) l are h = passes_run rest (pair_step kind (Pass side) l) are.1 (passed side l h)
  passes_run (Take side ∷ rest) l are h = passes_run rest (pair_step kind (Take side) l) are.1 (took side l h)
  passes_run (Send side user ∷ rest) l are h = absurd are.0
  passes_run (Lose side ∷ rest) l are h = absurd are.0
  passes_run (Repeat side ∷ rest) l are h = absurd are.0
  passes_run (Alter side place mask ∷ rest) l are h = absurd are.0
  passes_run (Put side octets ∷ rest) l are h = absurd are.0
  passes_run (UserRelease side sub ∷ rest) l are h = absurd are.0
  passes_run (Drain most ∷ rest) l are h = absurd are.0
  passes_run (Tick moment ∷ rest) l are h = absurd are.0

-- ---- no frame was altered or put in, before a step where it is so behind it

end_kept : {A : Type 0} (side : Side) (a : A × List (List ℕ)) (l : PairLink A) → (end_did side a l).order_kept ≡ l.order_kept
end_kept E a l = refl
end_kept R a l = refl

passed_kept : {A : Type 0} (kind : EndKind A) (side : Side) (line : List (List ℕ)) (l : PairLink A) → (pass kind side line l).order_kept ≡ l.order_kept
passed_kept kind side [] l = refl
passed_kept kind E (frame ∷ frames) l = refl
passed_kept kind R (frame ∷ frames) l = refl

lost_kept : {A : Type 0} (side : Side) (line : List (List ℕ)) (l : PairLink A) → (lose side line l).order_kept ≡ l.order_kept
lost_kept side [] l = refl
lost_kept E (frame ∷ frames) l = refl
lost_kept R (frame ∷ frames) l = refl

repeated_kept : {A : Type 0} (side : Side) (line : List (List ℕ)) (l : PairLink A) → (repeat side line l).order_kept ≡ l.order_kept
repeated_kept side [] l = refl
repeated_kept E (frame ∷ frames) l = refl
repeated_kept R (frame ∷ frames) l = refl

changed_broken : {A : Type 0} (side : Side) (frames : List (List ℕ)) (l : PairLink A)
    → (with_frames_from side frames (record l { order_kept = false; loss_free = false })).order_kept ≡ true → ⊥
changed_broken E frames l e = absurd cc
changed_broken R frames l e = absurd cc

-- what each event keeps on an order-keeping line
pub record KeepsEachInOrder {A : Type 0} (kind : EndKind A) (Fits : List ℕ → Type 0) (Q : PairLink A → Type 0) : Type 0 where
  pub sent : (side : Side) (user : List ℕ) (l : PairLink A) → Fits user → Q l → Q (send kind side user l)
  pub passed : (side : Side) (l : PairLink A) → Q l → Q (pass kind side (frames_from l side) l)
  pub lost : (side : Side) (l : PairLink A) → Q l → Q (lose side (frames_from l side) l)
  pub repeated : (side : Side) (l : PairLink A) → Q l → Q (repeat side (frames_from l side) l)
  pub took : (side : Side) (l : PairLink A) → Q l → Q (take kind side l)
  pub released : (side : Side) (sub : ℕ) (l : PairLink A) → Q l → Q (release kind side sub l)
  pub ticked : (now : ℕ) (l : PairLink A) → Q l → Q (tick kind now l)

pub runs_keep_in_order : {A : Type 0} (kind : EndKind A) (Fits : List ℕ → Type 0) (Q : PairLink A → Type 0) → KeepsEachInOrder kind Fits Q
    → (list : List PairStep) (l : PairLink A)
    → AllSend Fits list → Q l → (pair_run kind l list).order_kept ≡ true → Q (pair_run kind l list)
runs_keep_in_order {A} kind Fits Q keeps list l fits h =
    runs_keep kind Fits (λ (l : PairLink A). l.order_kept ≡ true → Q l) (record {
      sent = λ side user l fits h e. keeps.sent side user l fits (h (sym (end_kept side _ l) ∙ e));
      passed = λ side l h e. keeps.passed side l (h (sym (passed_kept kind side (frames_from l side) l) ∙ e));
      lost = λ side l h e. keeps.lost side l (h (sym (lost_kept side (frames_from l side) l) ∙ e));
      repeated = λ side l h e. keeps.repeated side l (h (sym (repeated_kept side (frames_from l side) l) ∙ e));
      changed = λ side frames l h e. absurd (changed_broken side frames l e);
      took = λ side l h e. keeps.took side l (h (sym (end_kept side _ l) ∙ e));
      released = λ side sub l h e. keeps.released side sub l (h (sym (end_kept side _ (record l { loss_free = false })) ∙ e));
      ticked = λ now l h e. keeps.ticked now l (h e);
    }) list l fits (λ e. h)

-- ---- a line is loss-free before a step where it is so behind it

end_free : {A : Type 0} (side : Side) (a : A × List (List ℕ)) (l : PairLink A) → (end_did side a l).loss_free ≡ l.loss_free
end_free E a l = refl
end_free R a l = refl

passed_free : {A : Type 0} (kind : EndKind A) (side : Side) (line : List (List ℕ)) (l : PairLink A) → (pass kind side line l).loss_free ≡ l.loss_free
passed_free kind side [] l = refl
passed_free kind E (frame ∷ frames) l = refl
passed_free kind R (frame ∷ frames) l = refl

both_false : (a b c : Bool) → (a && not (b || c)) ≡ true → (a ≡ true) × (b ≡ false) × (c ≡ false)
both_false true false false h = (refl, refl, refl)
both_false true false true h = absurd cc
both_false true true c h = absurd cc
both_false false b c h = absurd cc

-- what each event keeps on a loss-free line, where a tick finds no expired timer
pub record KeepsEachFree {A : Type 0} (kind : EndKind A) (Fits : List ℕ → Type 0) (Q : PairLink A → Type 0) : Type 0 where
  pub sent : (side : Side) (user : List ℕ) (l : PairLink A) → Fits user → Q l → Q (send kind side user l)
  pub passed : (side : Side) (l : PairLink A) → Q l → Q (pass kind side (frames_from l side) l)
  pub took : (side : Side) (l : PairLink A) → Q l → Q (take kind side l)
  pub ticked : (now : ℕ) (l : PairLink A) → kind.is_late (max l.moment now) l.e ≡ false → kind.is_late (max l.moment now) l.r ≡ false → Q l
      → Q (tick kind now l)

-- the claim on a loss-free line
abbrev IfFree : {A : Type 0} (Q : PairLink A → Type 0) → PairLink A → Type 0
IfFree Q l = l.loss_free ≡ true → Q l

lost_free : {A : Type 0} (Q : PairLink A → Type 0) (side : Side) (line : List (List ℕ)) (l : PairLink A) → IfFree Q l → IfFree Q (lose side line l)
lost_free Q side [] l h = h
lost_free Q E (frame ∷ frames) l h = λ e. absurd cc
lost_free Q R (frame ∷ frames) l h = λ e. absurd cc

repeated_free : {A : Type 0} (Q : PairLink A → Type 0) (side : Side) (line : List (List ℕ)) (l : PairLink A) → IfFree Q l → IfFree Q (repeat side line l)
repeated_free Q side [] l h = h
repeated_free Q E (frame ∷ frames) l h = λ e. absurd cc
repeated_free Q R (frame ∷ frames) l h = λ e. absurd cc

changed_free : {A : Type 0} (side : Side) (frames : List (List ℕ)) (l : PairLink A)
    → (with_frames_from side frames (record l { order_kept = false; loss_free = false })).loss_free ≡ true → ⊥
changed_free E frames l e = absurd cc
changed_free R frames l e = absurd cc

pub runs_keep_free : {A : Type 0} (kind : EndKind A) (Fits : List ℕ → Type 0) (Q : PairLink A → Type 0) → KeepsEachFree kind Fits Q
    → (list : List PairStep) (l : PairLink A)
    → AllSend Fits list → Q l → (pair_run kind l list).loss_free ≡ true → Q (pair_run kind l list)
runs_keep_free kind Fits Q keeps list l fits h =
    runs_keep kind Fits (IfFree Q) (record {
      sent = λ side user l fits h e. keeps.sent side user l fits (h (sym (end_free side _ l) ∙ e));
      passed = λ side l h e. keeps.passed side l (h (sym (passed_free kind side (frames_from l side) l) ∙ e));
      lost = λ side l. lost_free Q side (frames_from l side) l;
      repeated = λ side l. repeated_free Q side (frames_from l side) l;
      changed = λ side frames l h e. absurd (changed_free side frames l e);
      took = λ side l h e. keeps.took side l (h (sym (end_free side _ l) ∙ e));
      released = λ side sub l h e. absurd (true≢false (sym e ∙ end_free side _ (record l { loss_free = false })));
      ticked = λ now l h e.
          let f = both_false l.loss_free (kind.is_late (max l.moment now) l.e) (kind.is_late (max l.moment now) l.r) e in
          keeps.ticked now l f.1 f.2 (h f.0);
    }) list l fits (λ e. h)

-- ---- one list of steps behind another

pub pair_run_append : {A : Type 0} (kind : EndKind A) (xs ys : List PairStep) (l : PairLink A)
    → pair_run kind l (xs ++ ys) ≡ pair_run kind (pair_run kind l xs) ys
pair_run_append kind [] ys l = refl
pair_run_append kind (s ∷ xs) ys l = pair_run_append kind xs ys (pair_step kind s l)

pub all_send_append : (Fits : List ℕ → Type 0) (xs ys : List PairStep) → AllSend Fits xs → AllSend Fits ys → AllSend Fits (xs ++ ys)
all_send_append Fits [] ys h g = g
all_send_append Fits (s ∷ xs) ys h g = (h.0, all_send_append Fits xs ys h.1 g)
