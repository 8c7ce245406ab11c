-- A table of readings in terms of single ones.
-- Assumes nothing.
use Rattle.std.specs.Prelude.{ℕ, ◌≤◌, ◌<◌, ◌≡◌, List, [], ◌∷◌, length, get_or, take}
use Rattle.outstation.specs.declared.Reading.{Reading}
use Rattle.outstation.specs.OutstationView.{OutstationView}
use Rattle.outstation.specs.Step.{took, reading_step}

-- the state after these readings, one by one
abbrev pub after_readings : OutstationView → List Reading → OutstationView
after_readings w [] = w
after_readings w (r ∷ rs) = after_readings (reading_step r w).state rs

-- none of them is refused
abbrev pub each_taken : OutstationView → List Reading → Type 0
each_taken w [] = Unit {0}
each_taken w (r ∷ rs) = ((reading_step r w).answer ≡ took 1 0) × each_taken (reading_step r w).state rs

-- of the readings rs from w the first k are taken, each singly, and leave w₁; the next is refused with n, or there is none
pub record Singly (w : OutstationView) (rs : List Reading) (k n : ℕ) (w₁ : OutstationView) : Type 0 where
  pub within : k ≤ length rs
  pub state : w₁ ≡ after_readings w (take k rs)
  pub each : each_taken w (take k rs)
  pub ends : n ≡ 0 → k ≡ length rs
  pub whole : k ≡ length rs → n ≡ 0
  pub refuses : k < length rs → (d : Reading) → reading_step (get_or rs k d) w₁ ≡ record { state = w₁; answer = took 0 n }
