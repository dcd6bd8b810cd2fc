-- The calls of a station of either kind: its settings, what it counts, how its phase goes on, and that it waits for a busy peer.
use Rattle.std.proofs.Common.{if◌then◌else◌, ◌≡◌, ◌⊎◌, inl, inr, ℕ, ◌+◌, ◌-◌, Bool, true, false, List, [], ◌∷◌, ◌++◌, length, None, refl, sym, ap, subst, ◌∙◌, arith, true≢false}
use Rattle.std.specs.Prelude.{nat_lt, max}
use Rattle.std.specs.List.{list_any}
use Rattle.std.proofs.lemmas.Bool.{cond_both}
use Rattle.er_base.specs.declared.cause.Cause.TheVariants.{SetUpUnanswered, NoProgress}
use Rattle.hdlc_frames.specs.Framing.{Verdict}
use Rattle.hdlc_station_model.specs.declared.phase.Phase.{Phase}
use Rattle.hdlc_station_model.specs.declared.phase.Phase.TheVariants.{Idle, Setting, Up, Down}
use Rattle.hdlc_station_model.specs.Frames.{Rr, SetUp, Disc}
use Rattle.hdlc_station_model.specs.Stations.{Station, is_down, sees, puts}
use Rattle.hdlc_station_model.specs.Sending.{frames_again, sends_waiting, sends_again, starts_timer, settles, gives_up, counts_expiry, expires_at, expires, expires_if_due, is_due}
use Rattle.hdlc_station_model.specs.Calls.{starts_at, starts, hands, finishes, ticks, closes_at, closes}
use Rattle.hdlc_station_model.specs.Selective.{receives_as}
use Rattle.hdlc_station_model.specs.Events.{quits}
use Rattle.hdlc_station_model.specs.Timing.{IsExpired, LateExactly}
use Rattle.hdlc_station_model.specs.Causes.{IsBegun}
use Rattle.hdlc_station_laws.specs.Settings.{station_settings, SettingsStay}
use Rattle.hdlc_station_laws.specs.Expiries.{CountsBack, CountsExpiry, ExpiriesCount}
use Rattle.hdlc_station_laws.specs.Busy.{is_first, WaitsForReady, BusyWaits}
use Rattle.hdlc_station_laws.specs.Received.{ReleasedHearNothing, FramesStopTimer}
use Rattle.hdlc_station_laws.proofs.Hearing.{hears_as, received}
use Rattle.hdlc_station_laws.proofs.Sending.{more_said, none_unless_up, none_to_busy}
use Rattle.hdlc_station_laws.proofs.Walking.{first_none, first_behind, first_again, Went, Counted, Walked, counts_none, rest, gone, heard}

-- ---- the events that aren't frames

started : (p : Phase) (x : Station) → x.phase ≡ p → Walked p x (starts_at p x)
started Idle x e =
    let y : Station = starts_timer (puts SetUp (record x { phase = Setting })) in
    cond_both x.calling y x (Walked Idle x)
    (λ calls. record {
      went = record { settings = refl; sent = refl; moves = inr (inr (inr (refl, refl))); idle = λ i. absurd cc; first = first_behind x.sent x.said (SetUp ∷ []) refl };
      counted = counts_none Idle x y refl refl (λ setting up. absurd cc);
    })
    (λ called. rest Idle x x refl refl refl refl e refl (first_none x.sent x.said))
started Setting x e = rest Setting x x refl refl refl refl e refl (first_none x.sent x.said)
started Up x e = rest Up x x refl refl refl refl e refl (first_none x.sent x.said)
started Down x e = rest Down x x refl refl refl refl e refl (first_none x.sent x.said)

closed : (p : Phase) (x : Station) → x.phase ≡ p → Walked p x (record (closes_at p x) { phase = Down; timer = None })
closed Idle x e = gone Idle x (record x { phase = Down; timer = None }) refl refl refl refl refl refl (first_none x.sent x.said)
closed Setting x e = gone Setting x (record (puts Disc x) { phase = Down; timer = None }) refl refl refl refl refl refl (first_behind x.sent x.said (Disc ∷ []) refl)
closed Up x e = gone Up x (record (puts Disc x) { phase = Down; timer = None }) refl refl refl refl refl refl (first_behind x.sent x.said (Disc ∷ []) refl)
closed Down x e = gone Down x (record x { phase = Down; timer = None }) refl refl refl refl refl refl (first_none x.sent x.said)

settled_answer : (x : Station) → Walked x.phase x (settles x)
settled_answer x =
    let y : Station = record (puts (Rr (length x.taken)) x) { owed = false } in
    cond_both x.owed y x (Walked x.phase x)
    (λ owed. rest x.phase x y refl refl refl refl refl refl (first_behind x.sent x.said (Rr (length x.taken) ∷ []) refl))
    (λ none. rest x.phase x x refl refl refl refl refl refl (first_none x.sent x.said))

-- an expiry of T1: one is counted where the station goes on
pub record Expired (p : Phase) (x y : Station) : Type 0 where
  pub went : Went p x y
  stays : (y.phase ≡ p) ⊎ (y.phase ≡ Down)
  acked : y.acked ≡ x.acked
  counted : (p ≡ Setting) ⊎ (p ≡ Up) → (y.phase ≡ Down → ⊥) → y.expiries ≡ x.expiries + 1
  given_up : y.phase ≡ Down → y.expiries ≡ x.expiries

pub expired : (p : Phase) (x : Station) → x.phase ≡ p → Expired p x (expires_at p x)
expired Idle x e = record {
  went = (rest Idle x x refl refl refl refl e refl (first_none x.sent x.said)).went;
  stays = inl e;
  acked = refl;
  counted = λ begun live. elim begun [ inl is ↦ absurd cc | inr is ↦ absurd cc ];
  given_up = λ down. refl;
}
expired Setting x e =
    let y : Station = starts_timer (puts SetUp (counts_expiry x)) in
    cond_both (nat_lt x.n2 (x.expiries + 1)) (gives_up SetUpUnanswered x) y (Expired Setting x)
    (λ many. record {
      went = (gone Setting x (gives_up SetUpUnanswered x) refl refl refl refl refl refl (first_behind x.sent x.said (Disc ∷ []) refl)).went;
      stays = inr refl;
      acked = refl;
      counted = λ begun live. absurd (live refl);
      given_up = λ down. refl;
    })
    (λ few. record {
      went = record {
        settings = refl;
        sent = refl;
        moves = inl e;
        idle = λ i. let g : Setting ≡ Idle = sym e ∙ i in absurd cc;
        first = first_behind x.sent x.said (SetUp ∷ []) refl;
      };
      stays = inl e;
      acked = refl;
      counted = λ begun live. refl;
      given_up = λ down. let g : Setting ≡ Down = sym e ∙ down in absurd cc;
    })
expired Up x e =
    let y : Station = starts_timer (sends_again (counts_expiry x)) in
    cond_both (nat_lt x.n2 (x.expiries + 1)) (gives_up NoProgress x) y (Expired Up x)
    (λ many. record {
      went = (gone Up x (gives_up NoProgress x) refl refl refl refl refl refl (first_behind x.sent x.said (Disc ∷ []) refl)).went;
      stays = inr refl;
      acked = refl;
      counted = λ begun live. absurd (live refl);
      given_up = λ down. refl;
    })
    (λ few. record {
      went = record {
        settings = refl;
        sent = refl;
        moves = inl e;
        idle = λ i. let g : Up ≡ Idle = sym e ∙ i in absurd cc;
        first = first_behind x.sent x.said (frames_again (x.sent - x.acked) (counts_expiry x)) (first_again x.sent (x.sent - x.acked) (counts_expiry x) (omega arith));
      };
      stays = inl e;
      acked = refl;
      counted = λ begun live. refl;
      given_up = λ down. let g : Up ≡ Down = sym e ∙ down in absurd cc;
    })
expired Down x e = record {
  went = (rest Down x x refl refl refl refl e refl (first_none x.sent x.said)).went;
  stays = inl e;
  acked = refl;
  counted = λ begun live. elim begun [ inl is ↦ absurd cc | inr is ↦ absurd cc ];
  given_up = λ down. refl;
}

-- ---- the whole call: what it leaves alone, and where it leads

pub record Called (s t : Station) : Type 0 where
  pub settings : station_settings t ≡ station_settings s
  pub moves : (t.phase ≡ s.phase) ⊎ (t.phase ≡ Down) ⊎ ((t.phase ≡ Up) × ((s.phase ≡ Idle) ⊎ (s.phase ≡ Setting))) ⊎ ((t.phase ≡ Setting) × (s.phase ≡ Idle))
  pub idle : t.phase ≡ Idle → t.timer ≡ s.timer
  pub stops : (s.phase ≡ Down → ⊥) → t.phase ≡ Down → t.timer ≡ None
  pub waits : s.said ≡ [] → WaitsForReady s t

stays_down : (s : Station) → is_down s.phase ≡ true → s.phase ≡ Down
stays_down s down = is s.phase down
  where
    is : (p : Phase) → is_down p ≡ true → p ≡ Down
    is Idle h = absurd (true≢false (sym h))
    is Setting h = absurd (true≢false (sym h))
    is Up h = absurd (true≢false (sym h))
    is Down h = refl

untouched : (s : Station) → is_down s.phase ≡ true → Called s s
untouched s down = record {
  settings = refl;
  moves = inl refl;
  idle = λ i. refl;
  stops = λ live d. absurd (live d);
  waits = λ c. record { sent = λ busy. refl; said = λ busy. first_none s.sent s.said c };
}

-- nothing is sent for the first time behind the event
called_by : (s y : Station) → Went s.phase s y → Called s y
called_by s y h = record {
  settings = h.settings;
  moves = elim h.moves [
    | inl same ↦ inl same
    | inr (inl down) ↦ inr (inl down.0)
    | inr (inr (inl up)) ↦ inr (inr (inl up))
    | inr (inr (inr setting)) ↦ inr (inr (inr setting))
  ];
  idle = h.idle;
  stops = λ live down. elim h.moves [
    | inl same ↦ absurd (live (sym same ∙ down))
    | inr (inl stops) ↦ stops.1
    | inr (inr (inl up)) ↦ let g : Up ≡ Down = sym up.0 ∙ down in absurd cc
    | inr (inr (inr setting)) ↦ let g : Setting ≡ Down = sym setting.0 ∙ down in absurd cc
  ];
  waits = λ c. record { sent = λ busy. h.sent; said = λ busy. h.first c };
}

-- and where some may be
called_then : (s y : Station) → Went s.phase s y → Called s (sends_waiting y)
called_then s y h =
    let is = more_said y in
    let c = called_by s y h in
    let phase = ap (λ (t : Station). t.phase) is in
    record {
      settings = ap station_settings is ∙ c.settings;
      moves = elim c.moves [
        | inl same ↦ inl (phase ∙ same)
        | inr (inl down) ↦ inr (inl (phase ∙ down))
        | inr (inr (inl up)) ↦ inr (inr (inl (phase ∙ up.0, up.1)))
        | inr (inr (inr setting)) ↦ inr (inr (inr (phase ∙ setting.0, setting.1)))
      ];
      idle = λ i.
          let at : y.phase ≡ Idle = sym phase ∙ i in
          ap (λ (t : Station). t.timer) (none_unless_up y (λ up. let g : Idle ≡ Up = sym at ∙ up in absurd cc)) ∙ c.idle at;
      stops = λ live d.
          let at : y.phase ≡ Down = sym phase ∙ d in
          ap (λ (t : Station). t.timer) (none_unless_up y (λ up. let g : Down ≡ Up = sym at ∙ up in absurd cc)) ∙ c.stops live at;
      waits = λ none. record {
        sent = λ busy. ap (λ (t : Station). t.sent) (none_to_busy y (sym (ap (λ (t : Station). t.busy) is) ∙ busy)) ∙ h.sent;
        said = λ busy.
            ap (λ (t : Station). list_any (is_first s.sent) t.said) (none_to_busy y (sym (ap (λ (t : Station). t.busy) is) ∙ busy)) ∙ h.first none;
      };
    }

counts_same : (s : Station) → CountsBack s s
counts_same s = record {
  acked = omega arith;
  progress = λ rise. absurd (let u : ⊥ = omega (arith, rise) in u);
  answered = λ setting up. let g : Setting ≡ Up = sym setting ∙ up in absurd cc;
  others = λ same never. refl;
}

counts_by : (s y t : Station) → Counted s.phase s y → t.acked ≡ y.acked → t.expiries ≡ y.expiries → t.phase ≡ y.phase → CountsBack s t
counts_by s y t h a n e =
    let least = h.acked in
    record {
      acked = omega (arith, least, a);
      progress = λ rise. n ∙ h.progress (omega (arith, rise, a));
      answered = λ setting up. n ∙ h.answered setting (sym e ∙ up);
      others = λ same never. n ∙ h.others (sym a ∙ same) (λ setting up. never setting (e ∙ up));
    }

counts_then : (s y : Station) → Counted s.phase s y → CountsBack s (sends_waiting y)
counts_then s y h =
    let is = more_said y in
    counts_by s y (sends_waiting y) h (ap (λ (t : Station). t.acked) is) (ap (λ (t : Station). t.expiries) is) (ap (λ (t : Station). t.phase) is)

-- a moment is seen before
seen : (now : ℕ) (s y : Station) → Walked s.phase (sees now s) y → Walked s.phase s y
seen now s y h = record {
  went = record { settings = h.went.settings; sent = h.went.sent; moves = h.went.moves; idle = h.went.idle; first = h.went.first };
  counted = record { acked = h.counted.acked; progress = h.counted.progress; answered = h.counted.answered; others = h.counted.others };
}

-- ---- the calls

pub record Both (s t : Station) : Type 0 where
  pub called : Called s t
  pub counts : CountsBack s t

both_same : (s : Station) → is_down s.phase ≡ true → Both s s
both_same s down = record { called = untouched s down; counts = counts_same s }

both_by : (s y : Station) → Walked s.phase s y → Both s y
both_by s y h = record { called = called_by s y h.went; counts = counts_by s y y h.counted refl refl refl }

both_then : (s y : Station) → Walked s.phase s y → Both s (sends_waiting y)
both_then s y h = record { called = called_then s y h.went; counts = counts_then s y h.counted }

pub starts_both : (now : ℕ) (s : Station) → Both s (starts now s)
starts_both now s =
    cond_both (is_down s.phase) s (starts_at s.phase (sees now s)) (Both s) (both_same s)
    (λ live. both_by s (starts_at s.phase (sees now s)) (seen now s (starts_at s.phase (sees now s)) (started s.phase (sees now s) refl)))

pub receives_both : (selective : Bool) (now : ℕ) (v : Verdict) (s : Station) → Both s (receives_as selective now v s)
receives_both selective now v s =
    subst (Both s) (sym (received selective now v s))
    (cond_both (is_down s.phase) s (sends_waiting (hears_as selective v (sees now s))) (Both s) (both_same s)
    (λ live. both_then s (hears_as selective v (sees now s)) (seen now s (hears_as selective v (sees now s)) (heard selective v (sees now s)))))

pub hands_both : (now : ℕ) (payload : List ℕ) (s : Station) → Both s (hands now payload s)
hands_both now payload s =
    let y : Station = record (sees now s) { handed = s.handed ++ payload ∷ [] } in
    cond_both (is_down s.phase) s (sends_waiting y) (Both s) (both_same s)
    (λ live. both_then s y (rest s.phase s y refl refl refl refl refl refl (first_none s.sent s.said)))

pub finishes_both : (s : Station) → Both s (finishes s)
finishes_both s = cond_both (is_down s.phase) s (settles s) (Both s) (both_same s) (λ live. both_by s (settles s) (settled_answer s))

pub closes_both : (s : Station) → Both s (closes s)
closes_both s =
    let y : Station = record (closes_at s.phase s) { phase = Down; timer = None } in
    cond_both (is_down s.phase) s y (Both s) (both_same s) (λ live. both_by s y (closed s.phase s refl))

-- ---- a tick

pub record Ticked (now : ℕ) (s t : Station) : Type 0 where
  pub called : Called s t
  pub stays : (t.phase ≡ s.phase) ⊎ (t.phase ≡ Down)
  pub counts : CountsExpiry now s t

live_begun : (s t : Station) → IsBegun t → t.phase ≡ Down → ⊥
live_begun s t (inl e) down = let g : Setting ≡ Down = sym e ∙ down in absurd cc
live_begun s t (inr e) down = let g : Up ≡ Down = sym e ∙ down in absurd cc

ticked_by : (now : ℕ) (s y : Station) → Expired s.phase s y → IsExpired now s → Ticked now s (sends_waiting y)
ticked_by now s y h due =
    let is = more_said y in
    let phase = ap (λ (t : Station). t.phase) is in
    let count = ap (λ (t : Station). t.expiries) is in
    record {
      called = called_then s y h.went;
      stays = elim h.stays [ inl same ↦ inl (phase ∙ same) | inr down ↦ inr (phase ∙ down) ];
      counts = record {
        acked = ap (λ (t : Station). t.acked) is ∙ h.acked;
        counted = λ due begun goes_on. count ∙ h.counted begun (λ down. live_begun s (sends_waiting y) goes_on (phase ∙ down));
        early = λ never. absurd (never due);
        given_up = λ down. count ∙ h.given_up (sym phase ∙ down);
      };
    }

ticked_early : (now : ℕ) (s : Station) → (IsExpired now s → ⊥) → Ticked now s (sends_waiting (sees now s))
ticked_early now s never =
    let y : Station = sees now s in
    let is = more_said y in
    record {
      called = called_then s y (rest s.phase s y refl refl refl refl refl refl (first_none s.sent s.said)).went;
      stays = inl (ap (λ (t : Station). t.phase) is);
      counts = record {
        acked = ap (λ (t : Station). t.acked) is;
        counted = λ due begun goes_on. absurd (never due);
        early = λ no. ap (λ (t : Station). t.expiries) is;
        given_up = λ down. ap (λ (t : Station). t.expiries) is;
      };
    }

seen_expired : (now : ℕ) (s y : Station) → Expired s.phase (sees now s) y → Expired s.phase s y
seen_expired now s y h = record {
  went = record { settings = h.went.settings; sent = h.went.sent; moves = h.went.moves; idle = h.went.idle; first = h.went.first };
  stays = h.stays;
  acked = h.acked;
  counted = h.counted;
  given_up = h.given_up;
}

pub ticks_count : LateExactly → (now : ℕ) (s : Station) → Ticked now s (ticks now s)
ticks_count law now s =
    cond_both (is_down s.phase) s (sends_waiting (expires_if_due (sees now s))) (Ticked now s)
    (λ down. record {
      called = untouched s down;
      stays = inl refl;
      counts = record { acked = refl; counted = λ due begun goes_on. absurd (live_begun s s begun (stays_down s down)); early = λ no. refl; given_up = λ d. refl };
    })
    (λ live. cond_both (is_due s.timer (max s.moment now)) (expires (sees now s)) (sees now s) (λ y. Ticked now s (sends_waiting y))
    (λ due. ticked_by now s (expires (sees now s)) (seen_expired now s (expires (sees now s)) (expired s.phase (sees now s) refl)) ((law now s).0 due))
    (λ early. ticked_early now s (λ due. true≢false (sym ((law now s).1 due) ∙ early))))

-- ---- the laws

quits_same : (sub : ℕ) (s : Station) → station_settings (quits sub s) ≡ station_settings s
quits_same sub s = (closes_both s).called.settings

pub settings_stay : LateExactly → SettingsStay
settings_stay law = record {
  made_station = λ k. refl;
  starts = λ now s. (starts_both now s).called.settings;
  receives = λ selective now v s. (receives_both selective now v s).called.settings;
  hands = λ now payload s. (hands_both now payload s).called.settings;
  finishes = λ s. (finishes_both s).called.settings;
  ticks = λ now s. (ticks_count law now s).called.settings;
  closes = λ s. (closes_both s).called.settings;
  quits = quits_same;
}

pub expiries_count : LateExactly → ExpiriesCount
expiries_count law = record {
  starts = λ now s. (starts_both now s).counts;
  receives = λ selective now v s. (receives_both selective now v s).counts;
  hands = λ now payload s. (hands_both now payload s).counts;
  finishes = λ s. (finishes_both s).counts;
  ticks = λ now s. (ticks_count law now s).counts;
  closes = λ s. (closes_both s).counts;
}

pub busy_waits : LateExactly → BusyWaits
busy_waits law = record {
  starts = λ now s. (starts_both now s).called.waits;
  receives = λ selective now v s. (receives_both selective now v s).called.waits;
  hands = λ now payload s. (hands_both now payload s).called.waits;
  finishes = λ s. (finishes_both s).called.waits;
  ticks = λ now s. (ticks_count law now s).called.waits;
  closes = λ s. (closes_both s).called.waits;
}

pub released_hear_nothing : ReleasedHearNothing
released_hear_nothing selective now v s down =
    received selective now v s ∙ ap (λ (b : Bool). if b then s else sends_waiting (hears_as selective v (sees now s))) down

down_or_live : (p : Phase) → (p ≡ Down) ⊎ (p ≡ Down → ⊥)
down_or_live Idle = inr (λ e. absurd cc)
down_or_live Setting = inr (λ e. absurd cc)
down_or_live Up = inr (λ e. absurd cc)
down_or_live Down = inl refl

pub frames_stop_timer : FramesStopTimer
frames_stop_timer selective now v s h down = elim (down_or_live s.phase) [
  | inl was ↦ ap (λ (t : Station). t.timer) (released_hear_nothing selective now v s (ap is_down was)) ∙ h (ap is_down was)
  | inr live ↦ (receives_both selective now v s).called.stops live (stays_down (receives_as selective now v s) down)
]
