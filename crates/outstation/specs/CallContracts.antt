-- What the public functions' contracts cite: the step of their own call, and the answer that a result stands for.
-- Assumes nothing.
use Rattle.std.specs.Prelude.{◌≡◌, ℕ, cond, [], ◌∷◌, eqb}
use Rattle.std.specs.Float.{binary32}
use Rattle.std.specs.Float.Ieee.{of_bits}
use Rattle.std.specs.Int.{w32}
use Rattle.std.proofs.Common.{to_z}
use Rattle.laws.specs.First.{first, ◌⇒◌}
use Rattle.words.specs.Numbers.{holds}
use Rattle.outstation.specs.declared.Head.{Head}
use Rattle.outstation.specs.declared.Reading.{Reading}
use Rattle.outstation.specs.declared.ReadingWords.{ReadingWords}
use Rattle.outstation.specs.declared.Measured.{Measured}
use Rattle.outstation.specs.declared.Measured.TheVariants as Ms
use Rattle.outstation.specs.Step.{Call, Answer, took, reading, Result, step}
use Rattle.outstation.specs.Lent.{Lent, Words, Outstation, outstation_view, CountsWithin, on}

-- the call c of an outstation o was answered a and left o₁
pub record StepHolds (o : Outstation) (c : Call) (a : Answer) (o₁ : Outstation) : Type 0 where
  -- that is the step of the call
  pub result : ◌≡◌ {A = Result} (record { state = outstation_view o₁; answer = a }) (step c (outstation_view o))
  -- no count passes its array, where none did before
  pub counted : CountsWithin o → CountsWithin o₁

-- one reading with this refusal: it was taken where that is 0
abbrev pub took_by : ℕ → Answer
took_by n = took (cond (eqb n 0) 1 0) n

-- the reading r on the head h and the words w was answered n, 0 where it was taken, and left h₁ and w₁: whatever else is lent
abbrev pub ReadingHolds : Head → Words → Reading → (n : ℕ) → Head → Words → Type 0
ReadingHolds h w r n h₁ w₁ = (m : Lent) → StepHolds (on h w m) (reading r) (took_by n) (on h₁ w₁ m)

-- ---- a reading as numbers; kind 0: a binary's state; 1: a whole reading; any other: a float's

abbrev pub measured_of : (kind bits : ℕ) → Measured
measured_of kind bits = first (eqb kind 0 ⇒ Ms.State (holds bits) ∷ eqb kind 1 ⇒ Ms.Whole (to_z w32 bits) ∷ []) (Ms.Float (of_bits binary32 bits))

abbrev pub reading_of : ReadingWords → Reading
reading_of w = record { time = w.time; point = w.point; measured = measured_of w.kind w.bits; flags = w.flags }
