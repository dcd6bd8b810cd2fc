-- What comes of a visit is the session's own; two relations at once; and the calls of a visit, where each bare call and each event is so.
use Rattle.loop_model.specs.Ends.{ModelEnd, model_ends}
use Rattle.std.proofs.Common.{if◌then◌else◌, ◌≡◌, ℕ, Bool, true, false, ◌||◌, List, [], ◌∷◌, ◌++◌, drop, Some, None, refl, sym, ◌∙◌, subst}
use Rattle.std.specs.Prelude.{◌==◌}
use Rattle.link_trait.specs.Wires.{Call, Reading, Gave, NotNow, End, Failed, Reads, Writes}
use Rattle.link_trait.specs.declared.wires.WriteAnswer.TheVariants as write
use Rattle.loop_model.specs.Journals.{JournalEntry}
use Rattle.loop_model.specs.Outs.{first_answer_of}
use Rattle.loop_model.specs.Sessions.{Rules, Session, is_released, GivenToSession, Hears, Ticks, Ends, Faults, Stalls, end_after, outcomes_of_given_event, entry_of, octets_in, breaks, Says, nothing_said, made}
use Rattle.loop_model.specs.Visits.{most_read, came}
use Rattle.loop_model.specs.Parts.{of, calls_at, opened_in}
use Rattle.loop_model.proofs.Projections.{of-append, calls_at-append, opened_in-append, split_if}
use Rattle.loop_model.proofs.Steadies.{SteadyAt, Steady, steady_at, Usual, QuietAt, Quiet, CallsAt, Calls, handled_at, pours_at}
use Rattle.loop_model.proofs.Lives.{Own}

-- each bare call
pub record Bare (Q : Session ModelEnd → Session ModelEnd → List JournalEntry → List Call → Type 0) : Type 0 where
  pub wrote : (s : Session ModelEnd) (n : ℕ) → s.broken ≡ false → Q s (record s { output = drop n s.output }) [] (Writes s.number s.output (write.Some n) ∷ [])
  pub put_off : (s : Session ModelEnd) → Q s s [] (Writes s.number s.output write.NotNow ∷ [])
  pub noted : (s : Session ModelEnd) → Q s (made s) [] []
  pub failed : (s : Session ModelEnd) → Q s s [] (Writes s.number s.output write.Failed ∷ [])
  pub breaks : (s : Session ModelEnd) → is_released model_ends s ≡ true → Q s (record s { broken = true }) [] []

-- all that the loop gives an end by itself is allowed
pub record AllGiven (Allowed : GivenToSession → Type 0) : Type 0 where
  pub usual : Usual Allowed
  pub hears : (octets : List ℕ) → Allowed (Hears octets)
  pub ticks : Allowed Ticks
  pub ends : Allowed Ends
  pub faults : Allowed Faults

module _ (r : Rules) (m : ℕ) (Allowed : GivenToSession → Type 0) (Q : Session ModelEnd → Session ModelEnd → List JournalEntry → List Call → Type 0) (q : SteadyAt r m Allowed Q) (all : AllGiven Allowed) (b : Bare Q) where
  came_at : (s : Session ModelEnd) (reading : Reading) (says : List Says) → Q s (came model_ends reading r m s says).0 (came model_ends reading r m s says).1 []
  came_at s (Gave octets) says = pours_at r m Allowed Q q all.usual all.hears s octets says
  came_at s NotNow says = q.none s
  came_at s End says = handled_at r m Allowed Q q all.usual s Ends (first_answer_of nothing_said says) all.ends
  came_at s Failed says = handled_at r m Allowed Q q all.usual s Faults (first_answer_of nothing_said says) all.faults

  pub usual_quiet_at : QuietAt r m Q
  usual_quiet_at = record {
    none = q.none;
    then_ = q.then_;
    wrote = b.wrote;
    put_off = b.put_off;
    noted = b.noted;
    failed = λ s says live. q.then_ s s _ [] _ (Writes s.number s.output write.Failed ∷ []) [] (b.failed s) (handled_at r m Allowed Q q all.usual s Faults says all.faults);
    failed_released = λ s gone. q.then_ s s (record s { broken = true }) [] [] (Writes s.number s.output write.Failed ∷ []) [] (b.failed s) (b.breaks s gone);
    ticked = λ s says due. handled_at r m Allowed Q q all.usual s Ticks says all.ticks;
  }

  pub usual_calls_at : ((s : Session ModelEnd) (waits : ℕ) (reading : Reading) → Q s s [] (Reads s.number most_read waits reading ∷ [])) → CallsAt r m Q
  usual_calls_at reads = record {
    quiet = usual_quiet_at;
    read = λ s a live. q.then_ s s _ [] _ (Reads s.number most_read a.waits a.reading ∷ []) [] (reads s a.waits a.reading) (came_at s a.reading a.says);
  }

-- at every moment
module _ (r : Rules) (Allowed : GivenToSession → Type 0) (Q : Session ModelEnd → Session ModelEnd → List JournalEntry → List Call → Type 0) (q : Steady r Allowed Q) (all : AllGiven Allowed) (b : Bare Q) where
  pub usual_quiet : Quiet r Q
  usual_quiet = record {
    none = q.none;
    then_ = q.then_;
    wrote = b.wrote;
    put_off = b.put_off;
    noted = b.noted;
    failed = λ m. (usual_quiet_at r m Allowed Q (steady_at r Allowed Q q m) all b).failed;
    failed_released = λ s gone. q.then_ s s (record s { broken = true }) [] [] (Writes s.number s.output write.Failed ∷ []) [] (b.failed s) (b.breaks s gone);
    ticked = λ m. (usual_quiet_at r m Allowed Q (steady_at r Allowed Q q m) all b).ticked;
  }

  pub usual_calls : ((s : Session ModelEnd) (waits : ℕ) (reading : Reading) → Q s s [] (Reads s.number most_read waits reading ∷ [])) → Calls r Q
  usual_calls reads = record { quiet = usual_quiet; read = λ m. (usual_calls_at r m Allowed Q (steady_at r Allowed Q q m) all b reads).read }

-- ---- two at once

abbrev pub Both : (P Q : Session ModelEnd → Session ModelEnd → List JournalEntry → List Call → Type 0) → Session ModelEnd → Session ModelEnd → List JournalEntry → List Call → Type 0
Both P Q s t xs cs = P s t xs cs × Q s t xs cs

pub steady_both : (r : Rules) (Allowed : GivenToSession → Type 0) (P Q : Session ModelEnd → Session ModelEnd → List JournalEntry → List Call → Type 0)
    → Steady r Allowed P → Steady r Allowed Q → Steady r Allowed (Both P Q)
steady_both r Allowed P Q p q = record {
  none = λ s. (p.none s, q.none s);
  then_ = λ s t u xs ys cs ds a b. (p.then_ s t u xs ys cs ds a.0 b.0, q.then_ s t u xs ys cs ds a.1 b.1);
  given = λ m s g allowed fits. (p.given m s g allowed fits, q.given m s g allowed fits);
  stalls = λ m s g allowed fits. (p.stalls m s g allowed fits, q.stalls m s g allowed fits);
  heard = λ s mind. (p.heard s mind, q.heard s mind);
  parts = λ s told at gone. (p.parts s told at gone, q.parts s told at gone);
}

pub calls_both : (r : Rules) (P Q : Session ModelEnd → Session ModelEnd → List JournalEntry → List Call → Type 0) → Calls r P → Calls r Q → Calls r (Both P Q)
calls_both r P Q p q = record {
  quiet = record {
    none = λ s. (p.none s, q.none s);
    then_ = λ s t u xs ys cs ds a b. (p.then_ s t u xs ys cs ds a.0 b.0, q.then_ s t u xs ys cs ds a.1 b.1);
    wrote = λ s n whole. (p.wrote s n whole, q.wrote s n whole);
    put_off = λ s. (p.put_off s, q.put_off s);
    noted = λ s. (p.noted s, q.noted s);
    failed = λ m s says live. (p.failed m s says live, q.failed m s says live);
    failed_released = λ s gone. (p.failed_released s gone, q.failed_released s gone);
    ticked = λ m s says due. (p.ticked m s says due, q.ticked m s says due);
  };
  read = λ m s a live. (p.read m s a live, q.read m s a live);
}

pub bare_both : (P Q : Session ModelEnd → Session ModelEnd → List JournalEntry → List Call → Type 0) → Bare P → Bare Q → Bare (Both P Q)
bare_both P Q p q = record {
  wrote = λ s n whole. (p.wrote s n whole, q.wrote s n whole);
  put_off = λ s. (p.put_off s, q.put_off s);
  noted = λ s. (p.noted s, q.noted s);
  failed = λ s. (p.failed s, q.failed s);
  breaks = λ s gone. (p.breaks s gone, q.breaks s gone);
}

-- ---- its own

abbrev none_of : (A : Type 0) → List A
none_of A = []

if_nil : {A : Type 0} (b : Bool) → none_of A ≡ (if b then [] else [])
if_nil true = refl
if_nil false = refl

if_two : {A : Type 0} (b : Bool) (x y : A) → (if b then x ∷ (if b then y ∷ [] else []) else (if b then y ∷ [] else [])) ≡ (if b then x ∷ y ∷ [] else [])
if_two true x y = refl
if_two false x y = refl

own_same : (s t : Session ModelEnd) → t.number ≡ s.number → Own s t [] []
unfolding of calls_at opened_in
own_same s t e = record { number = e; entries = λ conn. if_nil (s.number == conn); calls = λ conn. if_nil (s.number == conn); opens = refl }

own_one : (s t : Session ModelEnd) (x : JournalEntry) → t.number ≡ s.number → x.conn ≡ s.number → Own s t (x ∷ []) []
unfolding of calls_at opened_in
own_one s t x e f = record {
  number = e;
  entries = λ conn. subst (λ z. (if z == conn then x ∷ [] else []) ≡ (if s.number == conn then x ∷ [] else [])) (sym f) refl;
  calls = λ conn. if_nil (s.number == conn);
  opens = refl;
}

own_two : (s t : Session ModelEnd) (x y : JournalEntry) → t.number ≡ s.number → x.conn ≡ s.number → y.conn ≡ s.number → Own s t (x ∷ y ∷ []) []
unfolding of calls_at opened_in
own_two s t x y e f g = record {
  number = e;
  entries = λ conn.
      subst (λ z. (if z == conn then x ∷ (if y.conn == conn then y ∷ [] else []) else (if y.conn == conn then y ∷ [] else [])) ≡ (if s.number == conn then x ∷ y ∷ [] else [])) (sym f)
      (subst (λ z. (if s.number == conn then x ∷ (if z == conn then y ∷ [] else []) else (if z == conn then y ∷ [] else [])) ≡ (if s.number == conn then x ∷ y ∷ [] else [])) (sym g)
      (if_two (s.number == conn) x y));
  calls = λ conn. if_nil (s.number == conn);
  opens = refl;
}

own_then : (s t u : Session ModelEnd) (xs ys : List JournalEntry) (cs ds : List Call) → Own s t xs cs → Own t u ys ds → Own s u (xs ++ ys) (cs ++ ds)
own_then s t u xs ys cs ds a b = record {
  number = b.number ∙ a.number;
  entries = λ conn.
      rw (of-append conn xs ys, a.entries conn, b.entries conn)
      (subst (λ z. (if s.number == conn then xs else []) ++ (if z == conn then ys else []) ≡ (if s.number == conn then xs ++ ys else [])) (sym a.number)
      (split_if (s.number == conn) xs ys));
  calls = λ conn.
      rw (calls_at-append conn cs ds, a.calls conn, b.calls conn)
      (subst (λ z. (if s.number == conn then cs else []) ++ (if z == conn then ds else []) ≡ (if s.number == conn then cs ++ ds else [])) (sym a.number)
      (split_if (s.number == conn) cs ds));
  opens = rw (opened_in-append cs ds, a.opens, b.opens) refl;
}

pub own_steady : (r : Rules) → Steady r (λ g. Unit {0}) Own
own_steady r = record {
  none = λ s. own_same s s refl;
  then_ = own_then;
  given = λ m s g allowed fits.
      own_one s (record s { end = end_after model_ends r m s.end g; output = s.output ++ octets_in (outcomes_of_given_event model_ends r m s.end g); broken = s.broken || breaks g }) (entry_of model_ends r m s g) refl refl;
  stalls = λ m s g allowed fits.
      own_two s (record s { end = end_after model_ends r m (end_after model_ends r m s.end g) Stalls; broken = true }) (entry_of model_ends r m s g)
      (entry_of model_ends r m (record s { end = end_after model_ends r m s.end g }) Stalls) refl refl refl;
  heard = λ s mind. own_same s (record s { mind = mind }) refl;
  parts = λ s told at gone. own_same s (record s { mind = None; told = told; closing = Some at }) refl;
}

pub own_bare : Bare Own
unfolding of calls_at opened_in
own_bare = record {
  wrote = λ s n whole. record { number = refl; entries = λ conn. if_nil (s.number == conn); calls = λ conn. refl; opens = refl };
  put_off = λ s. record { number = refl; entries = λ conn. if_nil (s.number == conn); calls = λ conn. refl; opens = refl };
  noted = λ s. own_same s _ refl;
  failed = λ s. record { number = refl; entries = λ conn. if_nil (s.number == conn); calls = λ conn. refl; opens = refl };
  breaks = λ s gone. own_same s (record s { broken = true }) refl;
}

pub own_reads : (s : Session ModelEnd) (waits : ℕ) (reading : Reading) → Own s s [] (Reads s.number most_read waits reading ∷ [])
unfolding of calls_at opened_in
own_reads s waits reading = record { number = refl; entries = λ conn. if_nil (s.number == conn); calls = λ conn. refl; opens = refl }

-- a steady relation that allows less
pub steady_less : (r : Rules) (A B : GivenToSession → Type 0) (Q : Session ModelEnd → Session ModelEnd → List JournalEntry → List Call → Type 0)
    → ((g : GivenToSession) → B g → A g) → Steady r A Q → Steady r B Q
steady_less r A B Q less q = record {
  none = q.none;
  then_ = q.then_;
  given = λ m s g allowed fits. q.given m s g (less g allowed) fits;
  stalls = λ m s g allowed fits. q.stalls m s g (less g allowed) fits;
  heard = q.heard;
  parts = q.parts;
}
