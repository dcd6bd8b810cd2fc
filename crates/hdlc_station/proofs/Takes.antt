-- Whether an I frame was taken.
use Rattle.std.proofs.Common.{◌≡◌, ◌<◌, ◌≤◌, true, false, length, arith, eq-eqb, ne_eqb, ltb-true, ltb-false}
use Rattle.std.specs.Prelude.{◌==◌, nat_lt}
use Rattle.hdlc_station_model.specs.Stations.{Station}

pub none_taken : (s : Station) → nat_lt 0 (length s.taken) ≡ false → (length s.taken == 0) ≡ true
none_taken s h = eq-eqb (length s.taken) 0 (let z : length s.taken ≤ 0 = ltb-false 0 (length s.taken) h in omega arith)

pub some_taken : (s : Station) → nat_lt 0 (length s.taken) ≡ true → (length s.taken == 0) ≡ false
some_taken s h = ne_eqb (length s.taken) 0 (λ e. let z : 0 < length s.taken = ltb-true 0 (length s.taken) h in omega arith)
