-- A station of either kind uses its window as far as it may.
use Rattle.std.proofs.Common.{◌≡◌, ◌⊎◌, inl, inr, ℕ, zero, suc, ◌-◌, ◌<◌, ◌≤◌, Bool, true, false, not, ◌&&◌, ◌||◌, [], ◌∷◌, ◌++◌, length, refl, sym, ap, subst, ◌∙◌, arith, true≢false, ltb-true}
use Rattle.std.specs.Prelude.{nat_lt, max, None}
use Rattle.std.proofs.lemmas.Bool.{cond_both, ltb-false, lt-ltb, and_parts, or_cases}
use Rattle.hdlc_station_model.specs.declared.phase.Phase.{Phase}
use Rattle.hdlc_station_model.specs.declared.phase.Phase.TheVariants.{Idle, Setting, Up, Down}
use Rattle.hdlc_station_model.specs.Frames.{Rr, SetUp}
use Rattle.hdlc_station_model.specs.Stations.{Station, is_up, is_down, sees, puts}
use Rattle.hdlc_station_model.specs.Sending.{can_send, waiting, sends_next, sends_up_to, sends_waiting, starts_timer, settles, expires, expires_if_due, is_due}
use Rattle.hdlc_station_model.specs.Calls.{starts_at, closes_at}
use Rattle.hdlc_station_laws.specs.Windows.{UsesWindow, WindowsAreUsed}
use Rattle.hdlc_station_laws.proofs.Hearing.{hears_as, received}
use Rattle.hdlc_station_laws.proofs.Walking.{heard}
use Rattle.hdlc_station_laws.proofs.Counting.{expired}

-- ---- what is sent

-- x may send no more, or all was sent
abbrev IsDone : Station → Type 0
IsDone t = (can_send t ≡ false) ⊎ (length t.handed ≤ t.sent)

done : (n : ℕ) (x : Station) → length x.handed - x.sent ≤ n → IsDone (sends_up_to n x)
done zero x most = inr (omega (arith, most))
done (suc n) x most =
    cond_both (can_send x) (sends_up_to n (sends_next x)) x IsDone (λ can. done n (sends_next x) (omega (arith, most))) (λ cannot. inl cannot)

-- none was sent, or some were, within the window and by a station that may begin
record IsWithin (x t : Station) : Type 0 where
  within : (t.sent ≡ x.sent) ⊎ (t.sent - t.acked ≤ t.window)
  begun : (t.sent ≡ x.sent) ⊎ (t.calling ≡ true) ⊎ (1 ≤ length t.taken)

may_begin : (x : Station) → can_send x ≡ true → (x.calling ≡ true) ⊎ (1 ≤ length x.taken)
may_begin x can =
    let may = (and_parts (is_up x.phase && not x.busy && nat_lt (x.sent - x.acked) x.window) (x.calling || nat_lt 0 (length x.taken)) can).1 in
    elim (or_cases x.calling (nat_lt 0 (length x.taken)) may) [ inl calls ↦ inl calls | inr took ↦ inr (let some = ltb-true 0 (length x.taken) took in omega (arith, some)) ]

has_room : (x : Station) → can_send x ≡ true → x.sent - x.acked < x.window
has_room x can =
    let three = (and_parts (is_up x.phase && not x.busy && nat_lt (x.sent - x.acked) x.window) (x.calling || nat_lt 0 (length x.taken)) can).0 in
    ltb-true (x.sent - x.acked) x.window (and_parts (is_up x.phase && not x.busy) (nat_lt (x.sent - x.acked) x.window) three).1

within_next : (x t : Station) → can_send x ≡ true → t.calling ≡ x.calling → t.taken ≡ x.taken → t.acked ≡ x.acked → t.window ≡ x.window → IsWithin (sends_next x) t → IsWithin x t
within_next x t can c k a w h =
    let room = has_room x can in
    record {
      within = elim h.within [ inl none ↦ inr (omega (arith, none, room, a, w)) | inr some ↦ inr some ];
      begun = elim (may_begin x can) [ inl calls ↦ inr (inl (c ∙ calls)) | inr took ↦ inr (inr (let same = ap length k in omega (arith, took, same))) ];
    }

-- what stays
record IsKept (x t : Station) : Type 0 where
  calling : t.calling ≡ x.calling
  taken : t.taken ≡ x.taken
  acked : t.acked ≡ x.acked
  window : t.window ≡ x.window

kept : (n : ℕ) (x : Station) → IsKept x (sends_up_to n x)
kept zero x = record { calling = refl; taken = refl; acked = refl; window = refl }
kept (suc n) x =
    cond_both (can_send x) (sends_up_to n (sends_next x)) x (IsKept x)
    (λ can. let h = kept n (sends_next x) in record { calling = h.calling; taken = h.taken; acked = h.acked; window = h.window })
    (λ cannot. record { calling = refl; taken = refl; acked = refl; window = refl })

within : (n : ℕ) (x : Station) → IsWithin x (sends_up_to n x)
within zero x = record { within = inl refl; begun = inl refl }
within (suc n) x =
    cond_both (can_send x) (sends_up_to n (sends_next x)) x (IsWithin x)
    (λ can. let h = kept n (sends_next x) in within_next x (sends_up_to n (sends_next x)) can h.calling h.taken h.acked h.window (within n (sends_next x)))
    (λ cannot. record { within = inl refl; begun = inl refl })

-- a station that may not send has no room
is_full : (up ready room may : Bool) → (up && ready && room && may) ≡ false → up ≡ true → ready ≡ true → may ≡ true → room ≡ false
is_full true true true true none u r m = none
is_full true true false true none u r m = refl
is_full true true room false none u r m = absurd (true≢false (sym m))
is_full true false room may none u r m = absurd (true≢false (sym r))
is_full false ready room may none u r m = absurd (true≢false (sym u))

may_is : (t : Station) → (t.calling ≡ true) ⊎ (1 ≤ length t.taken) → (t.calling || nat_lt 0 (length t.taken)) ≡ true
may_is t (inl calls) = ap (λ (b : Bool). b || nat_lt 0 (length t.taken)) calls
may_is t (inr took) = right t.calling (nat_lt 0 (length t.taken)) (lt-ltb 0 (length t.taken) (omega (arith, took)))
  where
    right : (b c : Bool) → c ≡ true → (b || c) ≡ true
    right true c h = refl
    right false c h = h

used : (s y : Station) → y.sent ≡ s.sent → UsesWindow s (sends_waiting y)
used s y same =
    let t : Station = sends_waiting y in
    let h = within (waiting y) y in
    record {
      full = λ up ready may. elim (done (waiting y) y (omega arith)) [
        | inl cannot ↦ inr (ltb-false (t.sent - t.acked) t.window
            (is_full (is_up t.phase) (not t.busy) (nat_lt (t.sent - t.acked) t.window) (t.calling || nat_lt 0 (length t.taken)) cannot (ap is_up up) (ap not ready) (may_is t may)))
        | inr all ↦ inl all
      ];
      within = elim h.within [ inl none ↦ inl (none ∙ same) | inr some ↦ inr some ];
      begun = elim h.begun [ inl none ↦ inl (none ∙ same) | inr some ↦ inr some ];
    }

none_used : (s : Station) → is_down s.phase ≡ true → UsesWindow s s
none_used s down = record { full = λ up ready may. absurd (true≢false (sym down ∙ ap is_down up)); within = inl refl; begun = inl refl }

-- ---- the calls

started : (p : Phase) (x : Station) → (starts_at p x).sent ≡ x.sent
started Idle x = cond_both x.calling (starts_timer (puts SetUp (record x { phase = Setting }))) x (λ t. t.sent ≡ x.sent) (λ e. refl) (λ e. refl)
started Setting x = refl
started Up x = refl
started Down x = refl

closed : (p : Phase) (x : Station) → (closes_at p x).sent ≡ x.sent
closed Idle x = refl
closed Setting x = refl
closed Up x = refl
closed Down x = refl

due : (now : ℕ) (s : Station) → (expires_if_due (sees now s)).sent ≡ s.sent
due now s =
    cond_both (is_due s.timer (max s.moment now)) (expires (sees now s)) (sees now s) (λ t. t.sent ≡ s.sent) (λ e. (expired s.phase (sees now s) refl).went.sent) (λ e. refl)

pub windows_are_used : WindowsAreUsed
windows_are_used = record {
  receives = λ selective now v s.
      subst (UsesWindow s) (sym (received selective now v s))
      (cond_both (is_down s.phase) s (sends_waiting (hears_as selective v (sees now s))) (UsesWindow s) (none_used s)
      (λ live. used s (hears_as selective v (sees now s)) (heard selective v (sees now s)).went.sent));
  hands = λ now payload s.
      let y : Station = record (sees now s) { handed = s.handed ++ payload ∷ [] } in
      cond_both (is_down s.phase) s (sends_waiting y) (UsesWindow s) (none_used s) (λ live. used s y refl);
  ticks = λ now s.
      cond_both (is_down s.phase) s (sends_waiting (expires_if_due (sees now s))) (UsesWindow s) (none_used s) (λ live. used s (expires_if_due (sees now s)) (due now s));
  starts = λ now s. cond_both (is_down s.phase) s (starts_at s.phase (sees now s)) (λ t. t.sent ≡ s.sent) (λ e. refl) (λ e. started s.phase (sees now s));
  finishes = λ s.
      cond_both (is_down s.phase) s (settles s) (λ t. t.sent ≡ s.sent) (λ e. refl)
      (λ e. cond_both s.owed (record (puts (Rr (length s.taken)) s) { owed = false }) s (λ t. t.sent ≡ s.sent) (λ o. refl) (λ o. refl));
  closes = λ s.
      cond_both (is_down s.phase) s (record (closes_at s.phase s) { phase = Down; timer = None }) (λ t. t.sent ≡ s.sent) (λ e. refl) (λ e. closed s.phase s);
}
