-- Times of accepted calls never fall: of a reading, and of the accepted requests.
-- Assumes nothing.
use Prim.Native.Nat.{ℕ, ◌≤◌}
use native.Mathlib.Omega.{arith}
use mathlib.Core.Path.{◌≡◌}
use mathlib.Core.Bool.{Bool, true, false, ◌||◌}
use mathlib.Core.List.{List, [], ◌∷◌}
use borrow.Author.Tests.{ltb-false}
use lib.Dec.{leb, ltb}
use Rattle.laws.specs.Limits.{time_end}
use Rattle.laws.specs.Outcome.{Outcome, accepted, refused}
use Rattle.laws.proofs.Choices.{by}
use Rattle.points.specs.PointsView.{PointsView}
use Rattle.last_request.specs.Requests.{Request, InOrder}
use Rattle.outstation.specs.declared.Reading.{Reading}
use Rattle.outstation.specs.Readings.{bad_time, ReadingEffect, apply_reading}

or_right : (a b : Bool) → (a || b) ≡ false → b ≡ false
or_right true b h = cc
or_right false b h = h

pub time-ok : (clock time : ℕ) → bad_time clock time ≡ false → clock ≤ time
unfolding bad_time
time-ok clock time e = ltb-false time clock (or_right (leb time_end time) (ltb time clock) e)

pub effect-time : (clock : ℕ) (i : PointsView) (r : Reading) (a : ReadingEffect) → apply_reading clock i r ≡ accepted a → clock ≤ r.time
unfolding apply_reading
effect-time clock i r a e =
    by (bad_time clock r.time)
    (λ t. let k : ◌≡◌ {A = Outcome ReadingEffect} (refused 1) (accepted a) = rw t at e in let z : ◌≡◌ {A = ℕ} 0 1 = cc in absurd (omega arith))
    (λ t. time-ok clock r.time t)

-- requests in order, the latest no later than this time
abbrev pub Since : ℕ → List Request → Type 0
Since t [] = Unit {0}
Since t (r ∷ h) = (r.time ≤ t) × InOrder (r ∷ h)

pub since-start : (t : ℕ) → Since t []
since-start t = tt

pub since-later : (h : List Request) (t u : ℕ) → t ≤ u → Since t h → Since u h
since-later [] t u l k = k
since-later (r ∷ h) t u l k = let x = k.0 in (omega arith, k.1)

-- a further request
pub since-next : (h : List Request) (t : ℕ) (r : Request) → t ≤ r.time → Since t h → InOrder (r ∷ h)
since-next [] t r l k = k
since-next (s ∷ h) t r l k = let x = k.0 in (omega arith, k.1)

pub since-request : (h : List Request) (t : ℕ) (r : Request) → t ≤ r.time → Since t h → Since r.time (r ∷ h)
since-request h t r l k = (omega arith, since-next h t r l k)
