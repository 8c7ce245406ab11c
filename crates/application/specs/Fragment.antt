-- What a fragment is: refused, a CONFIRM, or a request.
-- Assumes nothing.
use Rattle.std.specs.Prelude.{ℕ, ◌+◌, ◌/◌, ◌%◌, Bool, not, Option, Some, None, List, [], ◌∷◌, length, get_or, drop, ltb, eqb}
use Rattle.laws.specs.First.{first, ◌⇒◌}
use Rattle.laws.specs.Limits.{fragment_max}
use Rattle.laws.specs.Outcome.{Outcome, accepted, refused}
use Rattle.laws.specs.Lists.{any, all}
use Rattle.application.specs.declared.Fragment.{Fragment}
use Rattle.application.specs.declared.Fragment.TheVariants.{Confirm, Request}

-- ---- the control byte: FIR 80, FIN 40, CON 20, UNS 10, sequence in the low four bits

abbrev pub fir_of : ℕ → ℕ
fir_of control = control / 128

abbrev pub fin_of : ℕ → ℕ
fin_of control = control / 64 % 2

abbrev pub con_of : ℕ → ℕ
con_of control = control / 32 % 2

abbrev pub uns_of : ℕ → ℕ
uns_of control = control / 16 % 2

abbrev pub sequence_of : ℕ → ℕ
sequence_of control = control % 16

-- "the next modulo 16"
abbrev pub next_of : ℕ → ℕ
next_of s = (s % 16 + 1) % 16

-- ---- the parts of a fragment

abbrev pub control_of : List ℕ → ℕ
control_of s = get_or s 0 0

abbrev pub function_of : List ℕ → ℕ
function_of s = get_or s 1 0

-- the bytes after the function
abbrev pub objects_of : List ℕ → List ℕ
objects_of s = drop 2 s

abbrev pub is_confirm : List ℕ → Bool
is_confirm s = eqb (function_of s) 0

-- ---- 31: "under 2 or over 2,048 bytes; FIR, FIN or CON wrong; UNS outside CONFIRM; function 128 or more; CONFIRM not 2 bytes"
abbrev pub malformed : List ℕ → Bool
malformed s =
    any
    (ltb (length s) 2
    ∷ ltb fragment_max (length s)
    ∷ not (all (eqb (fir_of (control_of s)) 1 ∷ eqb (fin_of (control_of s)) 1 ∷ eqb (con_of (control_of s)) 0 ∷ []))
    ∷ all (not (is_confirm s) ∷ eqb (uns_of (control_of s)) 1 ∷ [])
    ∷ ltb 127 (function_of s)
    ∷ all (is_confirm s ∷ not (eqb (length s) 2) ∷ [])
    ∷ [])

-- a CONFIRM has a sequence and UNS, a request a sequence and a function
pub data Kind : Type 0 where
  confirm : ℕ → Bool → Kind
  request : ℕ → ℕ → Kind

abbrev pub classified : List ℕ → Outcome Kind
classified s =
    first
    (malformed s ⇒ refused 31
    ∷ is_confirm s ⇒ accepted (confirm (sequence_of (control_of s)) (eqb (uns_of (control_of s)) 1))
    ∷ [])
    (accepted (request (sequence_of (control_of s)) (function_of s)))

-- the number of the refusal, and the values of each case of the code's answer
abbrev pub fragment_of : Option Fragment → Outcome Kind
fragment_of None = refused 31
fragment_of (Some (Confirm sequence uns)) = accepted (confirm sequence.0 uns)
fragment_of (Some (Request sequence function)) = accepted (request sequence.0 function)
