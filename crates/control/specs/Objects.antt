-- The object bytes of a control request: "one header 12 var 1, qualifier 17 or 28, 1 to 8 objects, nothing after"; since document 02, 109,
-- "group 41 variations 1, 2 and 3" too.
-- Assumes nothing.
use Rattle.std.specs.Prelude.{◌≡◌, ℕ, zero, suc, ◌+◌, Bool, true, false, not, cond, Result, Ok, Err, List, [], ◌∷◌, length, get_or, take, drop, ltb, leb, eqb}
use Rattle.std.specs.Float.{binary32}
use Rattle.std.specs.Float.Ieee.{of_bits}
use Rattle.std.specs.Int.{w16, w32}
use Rattle.std.proofs.Common.{to_z}
use Rattle.octets.specs.Bytes.{value_at}
use Rattle.laws.specs.First.{first, ◌⇒◌}
use Rattle.laws.specs.Lists.{all}
use Rattle.points.specs.declared.Value.TheVariants as Vs
use Rattle.application.specs.Response.{is_object}
use Rattle.application.specs.declared.Fault.{Fault}
use Rattle.application.specs.declared.Fault.TheVariants.{ObjectUnknown, BadParameter}
use Rattle.control.specs.declared.ObjectKind.{ObjectKind}
use Rattle.control.specs.declared.ObjectKind.TheVariants as K
use Rattle.control.specs.declared.Command.{Command}
use Rattle.control.specs.declared.Command.TheVariants as C
use Rattle.control.specs.declared.ControlObject.{ControlObject}
use Rattle.control.specs.declared.ControlObjects.{ControlObjects}
use Rattle.control.specs.declared.Form.{Form}

abbrev pub objects_max : ℕ
objects_max = 8

-- header and objects have at most 3 + 2 + 8 × 13 bytes, and an answer 4 more
abbrev pub echo_max : ℕ
echo_max = 109

abbrev pub answer_max : ℕ
answer_max = 113

-- ---- the kinds of object

-- the bytes before an object's status: of a CROB code, count, on-time, off-time; of an analog output its value
abbrev pub value_size : ObjectKind → ℕ
value_size K.Crob = 10
value_size K.Int32 = 4
value_size K.Int16 = 2
value_size K.Float32 = 4

-- ---- the header

-- qualifier 17: count and index of one byte; 28: of two; 0 for any other
abbrev pub width_of : ℕ → ℕ
width_of qualifier = first (eqb qualifier 0x17 ⇒ 1 ∷ eqb qualifier 0x28 ⇒ 2 ∷ []) 0

-- the bytes of n objects, each an index of w bytes, z bytes, and its status
unfoldable pub span : ℕ → ℕ → ℕ → ℕ
span w z zero = 0
span w z (suc n) = w + z + 1 + span w z n

-- the count after the qualifier
abbrev pub count_of : ℕ → List ℕ → ℕ
count_of w o = value_at w 3 o

-- one of the two qualifiers, exactly the objects that the count says, 1 to 8
abbrev pub exact : ℕ → ℕ → List ℕ → Bool
exact z w o =
    all
    (not (eqb w 0)
    ∷ eqb (length o) (3 + w + span w z (count_of w o))
    ∷ leb 1 (count_of w o)
    ∷ leb (count_of w o) objects_max
    ∷ [])

-- objects of this kind; "else 2.2"
abbrev pub formed_as : ObjectKind → List ℕ → Result Form Fault
formed_as k o =
    cond (exact (value_size k) (width_of (get_or o 2 0)) o)
    (Ok (record { kind = k; width = width_of (get_or o 2 0); count = count_of (width_of (get_or o 2 0)) o }))
    (Err BadParameter)

-- "Under 3 object bytes 2.2, here and for controls"; "Another object 2.1, else 2.2"; 109: "group 41 variations 1, 2 and 3"
abbrev pub formed : List ℕ → Result Form Fault
formed o =
    first
    (ltb (length o) 3 ⇒ Err BadParameter
    ∷ is_object 12 1 o ⇒ formed_as K.Crob o
    ∷ is_object 41 1 o ⇒ formed_as K.Int32 o
    ∷ is_object 41 2 o ⇒ formed_as K.Int16 o
    ∷ is_object 41 3 o ⇒ formed_as K.Float32 o
    ∷ [])
    (Err ObjectUnknown)

-- the header says this of the objects
abbrev pub HasObjects : Form → List ℕ → Type 0
HasObjects x o = formed o ≡ Ok x

-- ---- the objects

-- what is asked of an output, at an offset: control code, count, on-time (4), off-time (4); or a 32-bit, a 16-bit or a float value
abbrev pub command_at : ObjectKind → ℕ → List ℕ → Command
command_at K.Crob at b =
    C.Crob
    (record { code = get_or b at 0; count = get_or b (at + 1) 0; on_time = value_at 4 (at + 2) b; off_time = value_at 4 (at + 6) b })
command_at K.Int32 at b = C.AnalogOutput (Vs.Int32 (to_z w32 (value_at 4 at b)))
command_at K.Int16 at b = C.AnalogOutput (Vs.Int16 (to_z w16 (value_at 2 at b)))
command_at K.Float32 at b = C.AnalogOutput (Vs.Float32 (of_bits binary32 (value_at 4 at b)))

-- it is asked of a relay
abbrev pub for_crob : Command → Bool
for_crob (C.Crob c) = true
for_crob (C.AnalogOutput v) = false

-- index, what is asked, status
abbrev pub object_at : ObjectKind → ℕ → List ℕ → ControlObject
object_at k w b = record { index = value_at w 0 b; status = get_or b (w + value_size k) 0; command = command_at k w b }

-- n objects, in the order asked
unfoldable pub objects : ObjectKind → ℕ → ℕ → List ℕ → List ControlObject
objects k w zero b = []
objects k w (suc n) b = object_at k w b ∷ objects k w n (drop (w + value_size k + 1) b)

-- those of a request, by its form: of a wrong one none
abbrev pub objects_by : Result Form Fault → List ℕ → List ControlObject
objects_by (Err f) o = []
objects_by (Ok x) o = objects x.kind x.width x.count (drop (3 + x.width) o)

-- the objects that a struct holds
unfoldable pub list_of : ControlObjects → List ControlObject
list_of c = take c.count c.items

-- a struct that holds exactly these objects: so many, and no more
pub record Holding (c : ControlObjects) (xs : List ControlObject) : Type 0 where
  pub objects : list_of c ≡ xs
  pub count : c.count ≡ length xs

-- for a relay, or for an analog output
abbrev pub is_crob : ControlObject → Bool
is_crob c = for_crob c.command

abbrev pub is_analog_output : ControlObject → Bool
is_analog_output c = not (for_crob c.command)

abbrev pub no_object : ControlObject
no_object = record { index = 0; status = 0; command = C.Crob (record { code = 0; count = 0; on_time = 0; off_time = 0 }) }

-- the indices of the first n objects, the last first
unfoldable pub earlier_of : List ControlObject → ℕ → List ℕ
earlier_of cs zero = []
earlier_of cs (suc n) = (get_or cs n no_object).index ∷ earlier_of cs n
