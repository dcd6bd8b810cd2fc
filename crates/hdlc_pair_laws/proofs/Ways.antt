-- One direction of a losing line: how the numbers that wait change with each move.
use Rattle.std.proofs.Common.{◌≡◌, ℕ, zero, suc, ◌+◌, ◌%◌, ◌<◌, ◌≤◌, max, Bool, true, false, List, [], ◌∷◌, ◌++◌, length, take, refl, sym, ◌∙◌, ap, subst, arith, append_assoc, length-append}
use Rattle.std.specs.Prelude.{slice_index_or}
use Rattle.std.proofs.lemmas.List.{take-append-le, take_more, get_or_append_left}
use Rattle.hdlc_station_model.specs.Frames.{modulo}
use Rattle.hdlc_pair_laws.specs.Invariant.{Climbs, Forward, Way, AllShort}

-- ---- numbers that don't fall

pub climbs_le : (low high : ℕ) (xs : List ℕ) → Climbs low xs high → low ≤ high
climbs_le low high [] h = h
climbs_le low high (x ∷ xs) h = omega (arith, h.0, climbs_le x high xs h.1)

pub climbs_low : (below low high : ℕ) (xs : List ℕ) → below ≤ low → Climbs low xs high → Climbs below xs high
climbs_low below low high [] b h = omega arith
climbs_low below low high (x ∷ xs) b h = (omega (arith, h.0), h.1)

pub climbs_high : (low high above : ℕ) (xs : List ℕ) → high ≤ above → Climbs low xs high → Climbs low xs above
climbs_high low high above [] b h = omega arith
climbs_high low high above (x ∷ xs) b h = (h.0, climbs_high x high above xs b h.1)

pub climbs_push : (low high : ℕ) (xs : List ℕ) → Climbs low xs high → Climbs low (xs ++ high ∷ []) high
climbs_push low high [] h = (h, omega arith)
climbs_push low high (x ∷ xs) h = (h.0, climbs_push x high xs h.1)

-- ---- I frames that wait

pub forward_le : (k low high : ℕ) (handed : List (List ℕ)) (fs : List (ℕ × List ℕ)) → Forward k handed low fs high → low ≤ high
forward_le k low high handed [] h = h
forward_le k low high handed (f ∷ fs) h = omega (arith, forward_le k (max low (f.0 + 1)) high handed fs h.2)

pub forward_low : (k below low high : ℕ) (handed : List (List ℕ)) (fs : List (ℕ × List ℕ)) → below ≤ low → Forward k handed low fs high → Forward k handed below fs high
forward_low k below low high handed [] b h = omega arith
forward_low k below low high handed (f ∷ fs) b h =
    (omega (arith, h.0), h.1, forward_low k (max below (f.0 + 1)) (max low (f.0 + 1)) high handed fs (omega arith) h.2)

pub forward_push : (k low high above n : ℕ) (handed : List (List ℕ)) (fs : List (ℕ × List ℕ)) → high ≤ n + k → n < above → high ≤ above
    → Forward k handed low fs high → Forward k handed low (fs ++ (n, slice_index_or handed n []) ∷ []) above
forward_push k low high above n handed [] near below more h = (omega arith, refl, omega arith)
forward_push k low high above n handed (f ∷ fs) near below more h =
    (h.0, h.1, forward_push k (max low (f.0 + 1)) high above n handed fs near below more h.2)

-- one payload more is handed down
pub forward_hand : (k low high : ℕ) (handed more : List (List ℕ)) (fs : List (ℕ × List ℕ)) → high ≤ length handed
    → Forward k handed low fs high → Forward k (handed ++ more) low fs high
forward_hand k low high handed more [] given h = h
forward_hand k low high handed more (f ∷ fs) given h =
    let le : f.0 + 1 ≤ high = omega (arith, forward_le k (max low (f.0 + 1)) high handed fs h.2) in
    let e = get_or_append_left handed more [] f.0 (omega arith) in
    (h.0, h.1 ∙ sym e, forward_hand k (max low (f.0 + 1)) high handed more fs given h.2)

-- ---- moves

module _ (k : ℕ) (handed : List (List ℕ)) (a s : ℕ) (taken : List (List ℕ)) (waits : List (ℕ × List ℕ)) (shows : List ℕ) where
  pub way_bounds : Way k handed a s taken waits shows → (a ≤ length taken) × (length taken ≤ s)
  way_bounds w = (climbs_le a (length taken) shows w.climb, forward_le k (length taken) s handed waits w.chain)

  pub way_again : (n : ℕ) → a ≤ n → n < s → Way k handed a s taken waits shows
      → Way k handed a s taken (waits ++ (n, slice_index_or handed n []) ∷ []) shows
  way_again n low high w = record {
    prefix = w.prefix;
    window = w.window;
    given = w.given;
    chain = forward_push k (length taken) s s n handed waits (omega (arith, w.window)) high (omega arith) w.chain;
    climb = w.climb;
  }

  pub way_send : s < a + k → s < length handed → Way k handed a s taken waits shows
      → Way k handed a (s + 1) taken (waits ++ (s, slice_index_or handed s []) ∷ []) shows
  way_send room some w = record {
    prefix = w.prefix;
    window = omega arith;
    given = omega arith;
    chain = forward_push k (length taken) s (s + 1) s handed waits (omega arith) (omega arith) (omega arith) w.chain;
    climb = w.climb;
  }

  pub way_shows : Way k handed a s taken waits shows → Way k handed a s taken waits (shows ++ length taken ∷ [])
  way_shows w = record { prefix = w.prefix; window = w.window; given = w.given; chain = w.chain; climb = climbs_push a (length taken) shows w.climb }

  pub way_hand : (p : List ℕ) → Way k handed a s taken waits shows → Way k (handed ++ p ∷ []) a s taken waits shows
  way_hand p w =
      let b = way_bounds w in
      let l = length-append handed (p ∷ []) in
      record {
        prefix = w.prefix ∙ sym (take-append-le (length taken) handed (p ∷ []) (omega (arith, w.given, b.1)));
        window = w.window;
        given = omega (arith, w.given, l);
        chain = forward_hand k (length taken) s handed (p ∷ []) waits w.given w.chain;
        climb = w.climb;
      }

  pub way_ack : (r : ℕ) → a ≤ r → Way k handed a s taken waits (r ∷ shows) → Way k handed r s taken waits (r ∷ shows)
  way_ack r low w = record { prefix = w.prefix; window = omega (arith, w.window); given = w.given; chain = w.chain; climb = (omega arith, w.climb.1) }

  pub way_number_gone : (r : ℕ) → Way k handed a s taken waits (r ∷ shows) → Way k handed a s taken waits shows
  way_number_gone r w = record {
    prefix = w.prefix;
    window = w.window;
    given = w.given;
    chain = w.chain;
    climb = climbs_low a r (length taken) shows w.climb.0 w.climb.1;
  }

  pub way_number_twice : (r : ℕ) → Way k handed a s taken waits (r ∷ shows) → Way k handed a s taken waits (r ∷ r ∷ shows)
  way_number_twice r w = record {
    prefix = w.prefix;
    window = w.window;
    given = w.given;
    chain = w.chain;
    climb = (w.climb.0, (omega arith, w.climb.1));
  }

  pub way_frame_gone : (f : ℕ × List ℕ) → Way k handed a s taken (f ∷ waits) shows → Way k handed a s taken waits shows
  way_frame_gone f w = record {
    prefix = w.prefix;
    window = w.window;
    given = w.given;
    chain = forward_low k (length taken) (max (length taken) (f.0 + 1)) s handed waits (omega arith) w.chain.2;
    climb = w.climb;
  }

  -- a frame waits only where the window has room for one
  pub way_some : (f : ℕ × List ℕ) → Way k handed a s taken (f ∷ waits) shows → 1 ≤ k
  way_some f w =
      let le = forward_le k (max (length taken) (f.0 + 1)) s handed waits w.chain.2 in
      omega (arith, w.window, w.chain.0, le, climbs_le a (length taken) shows w.climb)

  pub way_frame_twice : (f : ℕ × List ℕ) → Way k handed a s taken (f ∷ waits) shows → Way k handed a s taken (f ∷ f ∷ waits) shows
  way_frame_twice f w = record {
    prefix = w.prefix;
    window = w.window;
    given = w.given;
    chain = (
      w.chain.0,
      w.chain.1,
      (
        omega (arith, w.chain.0, way_some f w),
        w.chain.1,
        forward_low k (max (max (length taken) (f.0 + 1)) (f.0 + 1)) (max (length taken) (f.0 + 1)) s handed waits (omega arith) w.chain.2,
      ),
    );
    climb = w.climb;
  }

  pub way_take : (p : List ℕ) → Way k handed a s taken ((length taken, p) ∷ waits) shows → Way k handed a s (taken ++ p ∷ []) waits shows
  way_take p w =
      let l = length-append taken (p ∷ []) in
      let len : length (taken ++ p ∷ []) ≡ length taken + 1 = omega (arith, l) in
      let le : length taken + 1 ≤ s = omega (arith, forward_le k (max (length taken) (length taken + 1)) s handed waits w.chain.2) in
      record {
        prefix = subst (λ n. taken ++ p ∷ [] ≡ take n handed) (sym len)
            (ap (λ t. t ++ p ∷ []) w.prefix ∙ ap (λ q. take (length taken) handed ++ q ∷ []) w.chain.1
            ∙ sym (take_more handed (length taken) [] (omega (arith, w.given))));
        window = w.window;
        given = w.given;
        chain = subst (λ n. Forward k handed n waits s) (sym len)
            (forward_low k (length taken + 1) (max (length taken) (length taken + 1)) s handed waits (omega arith) w.chain.2);
        climb = subst (λ n. Climbs a shows n) (sym len) (climbs_high a (length taken) (length taken + 1) shows (omega arith) w.climb);
      }

  -- and a run behind it
  pub way_run : (p : List ℕ) (run : List (List ℕ)) → take (length taken + 1 + length run) handed ≡ take (length taken + 1) handed ++ run
      → Forward k handed (length taken + 1 + length run) waits s
      → Way k handed a s taken ((length taken, p) ∷ waits) shows → Way k handed a s (taken ++ p ∷ run) waits shows
  way_run p run is chain w =
      let one = way_take p w in
      let l = length-append taken (p ∷ []) in
      let len : length (taken ++ p ∷ []) ≡ length taken + 1 = omega (arith, l) in
      let m = length-append taken (p ∷ run) in
      let all : length (taken ++ p ∷ run) ≡ length taken + 1 + length run = omega (arith, m) in
      record {
        prefix = sym (append_assoc taken (p ∷ []) run) ∙ ap (λ t. t ++ run) (one.prefix ∙ ap (λ (n : ℕ). take n handed) len) ∙ sym is ∙ ap (λ (n : ℕ). take n handed) (sym all);
        window = w.window;
        given = w.given;
        chain = subst (λ n. Forward k handed n waits s) (sym all) chain;
        climb = climbs_high a (length taken) (length (taken ++ p ∷ run)) shows (omega (arith, all)) w.climb;
      }

-- ---- equality modulo the modulo is equality

-- an I frame in front that shows V(R) has the number V(R)
pub way_tells : (extended : Bool) (k : ℕ) (handed : List (List ℕ)) (a s : ℕ) (taken : List (List ℕ)) (f : ℕ × List ℕ) (waits : List (ℕ × List ℕ)) (shows : List ℕ)
    → k < modulo extended → length taken % modulo extended ≡ f.0 % modulo extended
    → Way k handed a s taken (f ∷ waits) shows → length taken ≡ f.0
way_tells true k handed a s taken f waits shows below same w =
    let b = way_bounds k handed a s taken (f ∷ waits) shows w in
    let le = forward_le k (max (length taken) (f.0 + 1)) s handed waits w.chain.2 in
    omega (arith, w.window, w.chain.0, b.0, b.1, le, same)
way_tells false k handed a s taken f waits shows below same w =
    let b = way_bounds k handed a s taken (f ∷ waits) shows w in
    let le = forward_le k (max (length taken) (f.0 + 1)) s handed waits w.chain.2 in
    omega (arith, w.window, w.chain.0, b.0, b.1, le, same)

-- ---- payloads

pub short_at : (ps : List (List ℕ)) (n : ℕ) → AllShort ps → length (slice_index_or ps n []) ≤ 1026
short_at [] n h = omega arith
short_at (p ∷ ps) zero h = h.0
short_at (p ∷ ps) (suc n) h = short_at ps n h.1

pub short_push : (ps : List (List ℕ)) (p : List ℕ) → AllShort ps → length p ≤ 1026 → AllShort (ps ++ p ∷ [])
short_push [] p h short = (short, tt)
short_push (q ∷ ps) p h short = (h.0, short_push ps p h.1 short)
