-- The response header with its indications, and WRITE.
-- Assumes nothing.
use Rattle.std.specs.Prelude.{ℕ, ◌+◌, ◌%◌, Bool, true, false, not, Option, Some, None, List, [], ◌∷◌, length, get_or, ltb, eqb}
use Rattle.laws.specs.First.{first, ◌⇒◌}
use Rattle.laws.specs.Lists.{all, same}
use Rattle.application.specs.declared.Fault.{Fault}
use Rattle.application.specs.declared.Fault.TheVariants.{FunctionUnknown, ObjectUnknown, BadParameter}
use Rattle.application.specs.declared.Indications.{Indications}

-- ---- "The answer has its sequence, function 129 and two indication bytes"

-- a bit of this weight, where the fact holds
abbrev pub weight : Bool → ℕ → ℕ
weight true w = w
weight false w = 0

abbrev pub is_faultless : Option Fault → Bool
is_faultless None = true
is_faultless (Some f) = false

-- "IIN2.0, function unknown; 2.1, object unknown; 2.2, bad parameter"
abbrev pub fault_bits : Option Fault → ℕ
fault_bits None = 0
fault_bits (Some FunctionUnknown) = 1
fault_bits (Some ObjectUnknown) = 2
fault_bits (Some BadParameter) = 4

-- "IIN1 bits 1 to 3, events of that class held and not in this response; IIN1.7, restarted"
abbrev pub iin1_of : Indications → ℕ
iin1_of i = weight i.class_1 2 + weight i.class_2 4 + weight i.class_3 8 + weight i.restart 128

-- the fault, and "2.3, events dropped"
abbrev pub iin2_of : Indications → Option Fault → ℕ
iin2_of i f = fault_bits f + weight i.dropped 8

-- FIR and FIN 1, CON by its rule, UNS 0, the request's sequence
abbrev pub response_control : ℕ → Bool → ℕ
response_control sequence con = 192 + weight con 32 + sequence % 16

unfoldable pub response_of : ℕ → Bool → Indications → Option Fault → List ℕ
response_of sequence con i f = response_control sequence con ∷ 129 ∷ iin1_of i ∷ iin2_of i f ∷ []

-- ---- "WRITE: only 80 var 1, qualifier 00, 7 to 7, byte 00: clears restart before answering.
-- Under 3 object bytes 2.2, here and for controls. Another object 2.1, else 2.2"

-- the first object header is of this group and variation
abbrev pub is_object : ℕ → ℕ → List ℕ → Bool
is_object group variation o = all (eqb (get_or o 0 0) group ∷ eqb (get_or o 1 0) variation ∷ [])

abbrev pub clear_restart : List ℕ
clear_restart = 80 ∷ 1 ∷ 0 ∷ 7 ∷ 7 ∷ 0 ∷ []

abbrev pub write_fault : List ℕ → Option Fault
write_fault o =
    first
    (ltb (length o) 3 ⇒ Some BadParameter
    ∷ not (is_object 80 1 o) ⇒ Some ObjectUnknown
    ∷ same o clear_restart ⇒ None
    ∷ [])
    (Some BadParameter)
