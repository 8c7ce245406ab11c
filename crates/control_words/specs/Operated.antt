-- The objects to be carried out as plain numbers: what numbers stand for which object, and which objects are handed over so.
-- Assumes nothing.
use Rattle.std.specs.Prelude.{ℕ, ◌≡◌, Bool, true, false, List, [], ◌∷◌, map, eqb, length, take}
use Rattle.std.specs.Prelude as P
use Rattle.std.proofs.Math.Option.{Option, none, some}
use Rattle.std.specs.Float.{binary32}
use Rattle.std.specs.Float.Ieee.{of_bits}
use Rattle.std.specs.Int.{w32}
use Rattle.std.proofs.Common.{to_z}
use Rattle.laws.specs.Lists.{filter}
use Rattle.laws.specs.First.{first, ◌⇒◌}
use Rattle.points.specs.declared.Value.{Value}
use Rattle.points.specs.declared.Value.TheVariants as Vs
use Rattle.control.specs.declared.Command.TheVariants as C
use Rattle.control.specs.declared.ControlObject.{ControlObject}
use Rattle.control.specs.Objects.{is_crob, is_analog_output}
use Rattle.control_words.specs.declared.CrobWords.{CrobWords}
use Rattle.control_words.specs.declared.CrobsWords.{CrobsWords}
use Rattle.control_words.specs.declared.AnalogCommandWords.{AnalogCommandWords}
use Rattle.control_words.specs.declared.AnalogCommandsWords.{AnalogCommandsWords}
use Rattle.control_words.specs.declared.OperatedWords.{OperatedWords}

abbrev pub crob_object : CrobWords → ControlObject
crob_object w =
    record {
      index = w.index;
      status = w.status;
      command = C.Crob (record { code = w.code; count = w.count; on_time = w.on_time; off_time = w.off_time });
    }

abbrev pub asked : (index status : ℕ) → Value → ControlObject
asked index status v = record { index = index; status = status; command = C.AnalogOutput v }

-- kind 0: a 32-bit number; 1: a 16-bit number, both the bits of an i32; 2: a float's bits. No other kind stands for an object
abbrev pub analog_object : AnalogCommandWords → Option ControlObject
analog_object w =
    first
    (eqb w.kind 0 ⇒ some (asked w.index w.status (Vs.Int32 (to_z w32 w.bits)))
    ∷ eqb w.kind 1 ⇒ some (asked w.index w.status (Vs.Int16 (to_z w32 w.bits)))
    ∷ eqb w.kind 2 ⇒ some (asked w.index w.status (Vs.Float32 (of_bits binary32 w.bits)))
    ∷ [])
    none

-- the numbers that an object has among those of one kind: none where it is of another kind
abbrev pub StandsFor : {W : Type 0} → (W → Option ControlObject) → (ControlObject → Bool) → ControlObject → P.Option W → Type 0
StandsFor object_of is_kind c P.None = is_kind c ≡ false
StandsFor object_of is_kind c (P.Some w) = (is_kind c ≡ true) × (object_of w ≡ some c)

-- a struct that holds exactly these objects: so many, and no more
pub record CrobsAs (c : CrobsWords) (xs : List ControlObject) : Type 0 where
  pub objects : map crob_object (take c.count c.items) ≡ xs
  pub count : c.count ≡ length xs

pub record AnalogCommandsAs (c : AnalogCommandsWords) (xs : List ControlObject) : Type 0 where
  pub objects : map analog_object (take c.count c.items) ≡ map some xs
  pub count : c.count ≡ length xs

-- "for a set point its index and its value with its kind, in the order asked": the relays' objects and the analog outputs' apart
pub record OperatedAs (o : OperatedWords) (xs : List ControlObject) : Type 0 where
  pub crobs : CrobsAs o.crobs (filter is_crob xs)
  pub analog_commands : AnalogCommandsAs o.analog_commands (filter is_analog_output xs)
