use Rattle.std.proofs.Common.{rules, arith, ◌≡◌, ◌≤◌, ◌<◌, ℕ, ◌==◌, ◌||◌, IsTrue, ◌⊎◌, inl, inr}
use Rattle.er_settings.specs.Ranges.{IsModulo, is_between, greatest_window}
use Rattle.er_settings.specs.Laws.{AllowedAreBounded}
use Rattle.er_settings.proofs.laws.allowed_are_bounded.Goals as goal

between : (least most n : ℕ) → IsTrue (is_between least most n) → (least ≤ n) × (n ≤ most)
between least most n h = search rules

sizes : (n : ℕ) → IsTrue (n == 128 || n == 256 || n == 512 || n == 1024) → (n ≡ 128) ⊎ (n ≡ 256) ⊎ (n ≡ 512) ⊎ (n ≡ 1024)
sizes n h = search rules

below : (modulo n : ℕ) → IsModulo modulo → n ≤ greatest_window modulo → n < modulo
below modulo n (inl e) h = omega (arith, e, rw e at h)
below modulo n (inr e) h = omega (arith, e, rw e at h)

bounded : AllowedAreBounded
bounded s allowed =
    record {
      window = between 1 (greatest_window s.modulo) s.window allowed.window;
      window_below_modulo =
          below s.modulo s.window allowed.modulo (between 1 (greatest_window s.modulo) s.window allowed.window).1;
      credit = between 1 15 s.credit allowed.credit;
      size = sizes s.size allowed.size;
      t1 = between 100 60000 s.t1 allowed.t1;
      n2 = between 1 10 s.n2 allowed.n2;
      setup = between 1000 600000 s.setup allowed.setup;
    }

-- src/laws.rt:6:1
pub returns : goal.returns
returns c = bounded
