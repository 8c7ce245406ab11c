-- Rows a and b of document 01's acceptance table, and both sides of the limits of 31, by computation.
-- Assumes nothing.
use mathlib.Core.Path.{◌≡◌, refl}
use mathlib.Core.Bool.{Bool, true, false}
use mathlib.Core.List.{[], ◌∷◌}
use Rattle.std.specs.Prelude.{Some, None}
use Rattle.laws.specs.Lists.{same}
use Rattle.laws.specs.Outcome.{accepted, refused}
use Rattle.application.specs.Fragment.{confirm, request, classified}
use Rattle.application.specs.Response.{response_of, write_fault}
use Rattle.application.specs.declared.Fault.TheVariants.{FunctionUnknown, ObjectUnknown, BadParameter}
use Rattle.application.specs.declared.Indications.{Indications}

told : Bool → Indications
told restart = record { class_1 = false; class_2 = false; class_3 = false; restart = restart; dropped = false }

-- a. C1 17 is a request; fresh, its answer is C1 81 80 01
row-a : classified (0xC1 ∷ 0x17 ∷ []) ≡ accepted (request 1 23)
row-a = refl

answer-a : response_of 1 false (told true) (Some FunctionUnknown) ≡ 0xC1 ∷ 0x81 ∷ 0x80 ∷ 0x01 ∷ []
unfolding response_of told
answer-a = refl

-- b. C0 02 50 01 00 07 07 00 gives C0 81 00 00
row-b : classified (0xC0 ∷ 0x02 ∷ 0x50 ∷ 0x01 ∷ 0x00 ∷ 0x07 ∷ 0x07 ∷ 0x00 ∷ []) ≡ accepted (request 0 2)
row-b = refl

write-b : write_fault (0x50 ∷ 0x01 ∷ 0x00 ∷ 0x07 ∷ 0x07 ∷ 0x00 ∷ []) ≡ None
unfolding same
write-b = refl

answer-b : response_of 0 false (told false) None ≡ 0xC0 ∷ 0x81 ∷ 0x00 ∷ 0x00 ∷ []
unfolding response_of told
answer-b = refl

-- WRITE's faults: under 3 bytes; another object; another byte; a byte after
write-short : write_fault (0xFF ∷ 0xFF ∷ []) ≡ Some BadParameter
unfolding same
write-short = refl

write-object : write_fault (0x50 ∷ 0x02 ∷ 0x00 ∷ []) ≡ Some ObjectUnknown
unfolding same
write-object = refl

write-value : write_fault (0x50 ∷ 0x01 ∷ 0x00 ∷ 0x07 ∷ 0x07 ∷ 0x80 ∷ []) ≡ Some BadParameter
unfolding same
write-value = refl

write-after : write_fault (0x50 ∷ 0x01 ∷ 0x00 ∷ 0x07 ∷ 0x07 ∷ 0x00 ∷ 0x00 ∷ []) ≡ Some BadParameter
unfolding same
write-after = refl

-- CONFIRM with and without UNS; of three bytes; a request with UNS, with CON, of one byte; functions 127 and 128
confirm-plain : classified (0xC3 ∷ 0x00 ∷ []) ≡ accepted (confirm 3 false)
confirm-plain = refl

confirm-uns : classified (0xD3 ∷ 0x00 ∷ []) ≡ accepted (confirm 3 true)
confirm-uns = refl

confirm-long : classified (0xC3 ∷ 0x00 ∷ 0x00 ∷ []) ≡ refused 31
confirm-long = refl

request-uns : classified (0xD1 ∷ 0x17 ∷ []) ≡ refused 31
request-uns = refl

request-con : classified (0xE1 ∷ 0x17 ∷ []) ≡ refused 31
request-con = refl

request-short : classified (0xC1 ∷ []) ≡ refused 31
request-short = refl

function-most : classified (0xC1 ∷ 0x7F ∷ []) ≡ accepted (request 1 127)
function-most = refl

function-above : classified (0xC1 ∷ 0x80 ∷ []) ≡ refused 31
function-above = refl
