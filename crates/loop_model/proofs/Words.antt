-- Each end that is opened has the next random word.
use Rattle.loop_model.specs.Ends.{ModelEnd, model_ends}
use Rattle.std.proofs.Common.{if◌then◌else◌, ◌≡◌, ℕ, Bool, true, length, List, [], ◌∷◌, ◌++◌, Option, Some, None, refl, sym, ◌∙◌, ap, subst, append_assoc}
use Rattle.er_trace.specs.declared.event.Event.{Event}
use Rattle.er_trace.specs.declared.event.Event.TheVariants as event
use Rattle.er_users.specs.Users.{Mind}
use Rattle.rand_core.specs.Stream.{Stream, next_u64}
use Rattle.std.specs.Prelude.{nat_lt}
use Rattle.trace_model.specs.Checks.{Belongs, role_of, most_live}
use Rattle.link_trait.specs.Wires.{Call}
use Rattle.loop_model.specs.Journals.{JournalEntry}
use Rattle.loop_model.specs.Visits.{Met, visited, served}
use Rattle.loop_model.specs.Loops.{Plan, rules_of, Loop, visit_at, next_user, Caller, calling, called_by, called, Course, asks, run, Dialled, opens, dials_to, dials, begun_dial}
use Rattle.loop_model.specs.Turnings.{word_of, random_words_of_entries, AreNext, words_behind, WordsAreNext}
use Rattle.loop_model.proofs.Momentwise.{Momentwise, moment_run}
use Rattle.loop_model.proofs.Replaying.{ArePlain, plain_visit, begins, served_so}

words_of-append : (xs ys : List JournalEntry) → random_words_of_entries (xs ++ ys) ≡ random_words_of_entries xs ++ random_words_of_entries ys
unfolding random_words_of_entries
words_of-append [] ys = refl
words_of-append (x ∷ xs) ys = ap (λ z. word_of x.event ++ z) (words_of-append xs ys) ∙ sym (append_assoc (word_of x.event) (random_words_of_entries xs) (random_words_of_entries ys))

no_word : (e : Event) → role_of e ≡ Belongs → word_of e ≡ []
no_word (event.Call engine rbc rb) p = absurd (let x : ⊥ = cc in x)
no_word (event.Answer rbc ra) p = absurd (let x : ⊥ = cc in x)
no_word (event.Octets octets) p = refl
no_word (event.Send text) p = refl
no_word event.Take p = refl
no_word (event.Release sub) p = refl
no_word event.Tick p = refl
no_word event.Ended p = refl
no_word event.Fault p = refl
no_word event.Stalled p = refl
no_word (event.Full count) p = absurd (let x : ⊥ = cc in x)
no_word (event.Unserved count) p = refl

no_words : (m n : ℕ) (xs : List JournalEntry) → ArePlain m n xs → random_words_of_entries xs ≡ []
unfolding random_words_of_entries
no_words m n [] p = refl
no_words m n (x ∷ xs) p = ap (λ z. z ++ random_words_of_entries xs) (no_word x.event p.0.role) ∙ no_words m n xs p.1

next-append : (ws vs : List (Option ℕ)) (stream : Stream) → AreNext ws stream → AreNext vs (words_behind ws stream) → AreNext (ws ++ vs) stream
unfolding words_behind
next-append [] vs stream p q = q
next-append (w ∷ ws) vs stream p q = (p.0, next-append ws vs (next_u64 stream).1 p.1 q)

after-append : (ws vs : List (Option ℕ)) (stream : Stream) → words_behind (ws ++ vs) stream ≡ words_behind vs (words_behind ws stream)
unfolding words_behind
after-append [] vs stream = refl
after-append (w ∷ ws) vs stream = after-append ws vs (next_u64 stream).1

record Draws (from to : Stream) (xs : List JournalEntry) : Type 0 where
  next : AreNext (random_words_of_entries xs) from
  left : to ≡ words_behind (random_words_of_entries xs) from

draws_none : (stream : Stream) (xs : List JournalEntry) → random_words_of_entries xs ≡ [] → Draws stream stream xs
unfolding words_behind
draws_none stream xs e = record {
  next = subst (λ z. AreNext z stream) (sym e) tt;
  left = ap (λ z. words_behind z stream) (sym e);
}

draws_then : (a b c : Stream) (xs ys : List JournalEntry) → Draws a b xs → Draws b c ys → Draws a c (xs ++ ys)
draws_then a b c xs ys p q = record {
  next = subst (λ z. AreNext z a) (sym (words_of-append xs ys)) (next-append (random_words_of_entries xs) (random_words_of_entries ys) a p.next (subst (λ z. AreNext (random_words_of_entries ys) z) p.left q.next));
  left = q.left ∙ ap (λ z. words_behind (random_words_of_entries ys) z) p.left ∙ sym (after-append (random_words_of_entries xs) (random_words_of_entries ys) a) ∙ ap (λ z. words_behind z a) (sym (words_of-append xs ys));
}

Goes : Loop ModelEnd → Loop ModelEnd → List JournalEntry → List Call → Type 0
Goes l k xs cs = Draws l.words k.words xs

-- a connection that finds no memory uses one up
wanted_draws : (l : Loop ModelEnd) (conn : ℕ) → nat_lt (length l.sessions) most_live ≡ true
    → Draws l.words (next_u64 l.words).1 (record { moment = l.moment; conn = conn; event = event.Full (length l.sessions); outcomes = [] } ∷ [])
unfolding random_words_of_entries words_behind
wanted_draws l conn fits =
    let x : JournalEntry = record { moment = l.moment; conn = conn; event = event.Full (length l.sessions); outcomes = [] } in
    let f : Bool → List (Option ℕ) = λ b. if b then None ∷ [] else [] in
    let drawn : random_words_of_entries (x ∷ []) ≡ None ∷ [] = ap (λ b. f b ++ []) fits in
    record { next = subst (λ z. AreNext z l.words) (sym drawn) (tt, tt); left = ap (λ z. words_behind z l.words) (sym drawn) }

wise : (plan : Plan) → Momentwise plan Goes
unfolding Goes random_words_of_entries words_behind
wise plan = record {
  none = λ l. draws_none l.words [] refl;
  then_ = λ l k n xs ys cs ds p q. draws_then l.words k.words n.words xs ys p q;
  asked = λ l at. draws_none l.words [] refl;
  visit = λ l visit n a.
      let o = visit_at (visited model_ends (rules_of plan) l.moment visit) n l.sessions a in
      draws_none l.words o.entries (no_words l.moment n o.entries (plain_visit (rules_of plan) l.moment visit n l.sessions a));
  turned = λ l until happening none. draws_none l.words [] refl;
  opened = λ l until conn mind fits is. record { next = (refl, tt); left = refl };
  full = λ l until conn fits. record { next = tt; left = refl };
  wanted = λ l until conn mind fits is. wanted_draws l conn.0 fits;
  unserved = λ l until conn fits is. record { next = tt; left = refl };
}

called_draws : (user : Option Mind) (plan : Plan) (caller : Caller) (l : Loop ModelEnd) (conn : ℕ) (a : Met)
    → Draws l.words (called_by model_ends user plan caller l conn a).state.words (called_by model_ends user plan caller l conn a).entries
unfolding random_words_of_entries words_behind
called_draws None plan caller l conn a = record { next = tt; left = refl }
called_draws (Some mind) plan caller l conn a =
    let o = served model_ends (rules_of plan) l.moment (begun_dial conn (calling model_ends plan caller l) mind) (begins plan caller l) a in
    let c = served_so plan caller l conn mind a in
    let e : random_words_of_entries o.entries ≡ Some (next_u64 l.words).0 ∷ [] =
    ap random_words_of_entries c.is ∙ ap (λ z. Some (next_u64 l.words).0 ∷ z) (no_words l.moment conn c.rest c.plain) in
    record {
      next = subst (λ z. AreNext z l.words) (sym e) (refl, tt);
      left = ap (λ z. words_behind z l.words) (sym e);
    }

dial_draws : (conn : Option ℕ) (plan : Plan) (caller : Caller) (c : Course ModelEnd) (address : List ℕ) (a : Dialled)
    → Draws c.loop.words (dials_to model_ends conn plan caller c address a).state.loop.words (dials_to model_ends conn plan caller c address a).entries
unfolding called random_words_of_entries Goes
dial_draws None plan caller c address a = draws_none c.loop.words [] refl
dial_draws (Some conn) plan caller c address a =
    let d = asks a.first c in
    let o = opens model_ends plan caller d conn a.met in
    let e = run model_ends plan o.state a.turns in
    draws_then d.loop.words o.state.loop.words e.state.loop.words o.entries e.entries
    (called_draws (next_user d.loop.users) plan caller d.loop conn a.met) (moment_run plan Goes (wise plan) o.state a.turns)

pub words_are_next : WordsAreNext
unfolding Goes dials
words_are_next = record {
  serving = λ plan c turns. (moment_run plan Goes (wise plan) c turns).next;
  dialling = λ plan caller c address a. (dial_draws a.conn plan caller c address a).next;
  left_of_serving = λ plan c turns. (moment_run plan Goes (wise plan) c turns).left;
  left_of_dialling = λ plan caller c address a. (dial_draws a.conn plan caller c address a).left;
}
