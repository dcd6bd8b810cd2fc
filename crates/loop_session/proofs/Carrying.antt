-- A loop over ends of one kind, carried to ends of another kind: what is carried, and parts one behind another.
use Rattle.std.proofs.Common.{◌≡◌, ◌∙◌, ℕ, Bool, true, false, if◌then◌else◌, List, [], ◌∷◌, ◌++◌, refl, ap}
use Rattle.des_block.specs.declared.triple_key.TripleKey.{TripleKey}
use Rattle.er_settings.specs.Values.{Settings}
use Rattle.er_end_model.specs.Ends.{Call as CallsWith, Answer as AnswersWith, Event}
use Rattle.link_trait.specs.Wires.{Call}
use Rattle.loop_model.specs.Ends.{EndOps}
use Rattle.loop_model.specs.Journals.{JournalEntry}
use Rattle.loop_model.specs.Deeds.{LoopDeed}
use Rattle.loop_model.specs.Outs.{Out, next, changed, part_for_each_answer, acts}
use Rattle.loop_model.specs.Sessions.{Session}
use Rattle.loop_model.specs.Visits.{WritingState}
use Rattle.loop_model.specs.Loops.{Loop, Course}

-- what ends of one kind do and show is, carried by `h`, what ends of the other do and show
pub record Carries {E F : Type 0} (settings : Settings) (o : EndOps E) (p : EndOps F) (h : E → F) : Type 0 where
  pub calls : (me peer : ℕ) (kmac : TripleKey) (rb now : ℕ) → p.opens (CallsWith settings me peer kmac rb now) ≡ h (o.opens (CallsWith settings me peer kmac rb now))
  pub answers : (me ra now : ℕ) → p.opens (AnswersWith settings me ra now) ≡ h (o.opens (AnswersWith settings me ra now))
  pub happens : (m : ℕ) (event : Event) (k : E) → p.happens m event (h k) ≡ h (o.happens m event k)
  pub tells : (m : ℕ) (event : Event) (k : E) → p.tells m event (h k) ≡ o.tells m event k
  pub used : (k : E) (octets : List ℕ) → p.used (h k) octets ≡ o.used k octets
  pub waiting : (k : E) → p.waiting (h k) ≡ o.waiting k
  pub deadline : (k : E) → p.deadline (h k) ≡ o.deadline k
  pub released : (k : E) → p.released (h k) ≡ o.released k

-- ---- what is carried

abbrev pub carried : {E F : Type 0} → (E → F) → Session E → Session F
carried h s = record { number = s.number; end = h s.end; mind = s.mind; told = s.told; output = s.output; broken = s.broken; closing = s.closing; unmade = s.unmade }

abbrev pub all_carried : {E F : Type 0} → (E → F) → List (Session E) → List (Session F)
all_carried h [] = []
all_carried h (s ∷ ss) = carried h s ∷ all_carried h ss

abbrev pub flow_carried : {E F : Type 0} → (E → F) → Session E × WritingState → Session F × WritingState
flow_carried h x = (carried h x.0, x.1)

abbrev pub read_carried : {E F : Type 0} → (E → F) → Session E × List ℕ → Session F × List ℕ
read_carried h x = (carried h x.0, x.1)

abbrev pub loop_carried : {E F : Type 0} → (E → F) → Loop E → Loop F
loop_carried h l = record { sessions = all_carried h l.sessions; users = l.users; moment = l.moment; words = l.words }

abbrev pub course_carried : {E F : Type 0} → (E → F) → Course E → Course F
course_carried h c = record { loop = loop_carried h c.loop; turns = c.turns; halt = c.halt; asked = c.asked }

-- of what a part without calls gives, the state
abbrev pub first_carried : {S T : Type 0} → (S → T) → S × List JournalEntry → T × List JournalEntry
first_carried j x = (j x.0, x.1)

abbrev pub out_of : {S : Type 0} → S → List JournalEntry → List Call → List LoopDeed → Out S
out_of s entries calls order = record { state = s; entries = entries; calls = calls; order = order }

-- ---- parts

pub if_carried : {X Y : Type 0} (j : X → Y) (b c : Bool) (x y : X) (z w : Y) → c ≡ b → z ≡ j x → w ≡ j y → (if c then z else w) ≡ j (if b then x else y)
if_carried j true c x y z w e p q = rw e p
if_carried j false c x y z w e p q = rw e q

pub runs_carried : {S T A : Type 0} (j : S → T) (f : S → A → S × List JournalEntry) (g : T → A → T × List JournalEntry)
    → ((s : S) (a : A) → g (j s) a ≡ first_carried j (f s a)) → (s : S) (answers : List A) → part_for_each_answer g (j s) answers ≡ first_carried j (part_for_each_answer f s answers)
unfolding part_for_each_answer
runs_carried j f g same s [] = refl
runs_carried j f g same s (a ∷ answers) =
    let b = f s a in
    ap (λ z. let d = part_for_each_answer g z.0 answers in (d.0, z.1 ++ d.1)) (same s a)
    ∙ ap (λ z. (z.0, b.1 ++ z.1)) (runs_carried j f g same b.0 answers)

pub next_carried : {S T S' T' : Type 0} (i : S → T) (j : S' → T') (a : Out S) (b : Out T) (f : S → Out S') (g : T → Out T')
    → b ≡ changed i a → ((s : S) → g (i s) ≡ changed j (f s)) → next b g ≡ changed j (next a f)
next_carried i j a b f g is same =
    ap (λ z. next z g) is ∙ ap (λ z. out_of z.state (a.entries ++ z.entries) (a.calls ++ z.calls) (a.order ++ z.order)) (same a.state)

pub changed_carried : {S T S' T' : Type 0} (i : S → T) (j : S' → T') (a : Out S) (b : Out T) (u : S → S') (v : T → T')
    → b ≡ changed i a → v (i a.state) ≡ j (u a.state) → changed v b ≡ changed j (changed u a)
changed_carried i j a b u v is same = ap (λ z. changed v z) is ∙ ap (λ z. out_of z a.entries a.calls a.order) same

pub acts_carried : {S T A : Type 0} (j : S → T) (f : S → A → Out S) (g : T → A → Out T)
    → ((s : S) (a : A) → g (j s) a ≡ changed j (f s a)) → (s : S) (answers : List A) → acts g (j s) answers ≡ changed j (acts f s answers)
unfolding acts
acts_carried j f g same s [] = refl
acts_carried j f g same s (a ∷ answers) =
    next_carried j j (f s a) (g (j s) a) (λ t. acts f t answers) (λ t. acts g t answers) (same s a) (λ t. acts_carried j f g same t answers)
