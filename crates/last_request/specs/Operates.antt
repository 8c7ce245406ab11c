-- What is promised of controls over every list of accepted requests; proved in proofs/Controls.antt.
-- Assumes nothing.
use Rattle.std.specs.Prelude.{◌≡◌, ℕ, ◌+◌, ◌-◌, ◌≤◌, true, false, Ok, List, [], ◌∷◌, drop}
use Rattle.application.specs.Fragment.{next_of}
use Rattle.control.specs.declared.ObjectKind.{ObjectKind}
use Rattle.control.specs.Objects.{formed, objects}
use Rattle.control.specs.Status.{Outputs, statuses, all_zero}
use Rattle.last_request.specs.Repeat.{kept_answer}
use Rattle.last_request.specs.Requests.{Request, sequence_in, function_in, objects_in, InOrder, remembered_after, repeated, hands_over, answered, outcome, new_requests}

-- the request is a SELECT with all statuses 0
pub record Selects (outputs : Outputs) (s : Request) : Type 0 where
  pub function : function_in s ≡ 3
  -- of relays or of analog outputs (document 02, 109)
  pub kind : ObjectKind
  pub width : ℕ
  pub count : ℕ
  pub form : formed (objects_in s) ≡ Ok (record { kind = kind; width = width; count = count })
  pub zeros : all_zero (statuses outputs [] (objects kind width count (drop (3 + width) (objects_in s)))) ≡ true

-- the request before r, repeats aside, is a SELECT with all statuses 0, equal objects and the preceding sequence, in time
pub record Allowed (outputs : Outputs) (arm : ℕ) (h : List Request) (r : Request) : Type 0 where
  pub select : Request
  pub earlier : List Request
  pub before : new_requests outputs arm h ≡ select ∷ earlier
  pub selects : Selects outputs select
  pub objects : objects_in r ≡ objects_in select
  pub sequence : sequence_in r ≡ next_of (sequence_in select)
  -- the SELECT came no later than the OPERATE, and the OPERATE no later than the arm time after it
  pub ordered : select.time ≤ r.time
  pub timely : r.time - select.time ≤ arm

-- an OPERATE that hands anything to the host is allowed, where times never fall
abbrev pub OperatesOnlySelected : Outputs → ℕ → Type 0
OperatesOnlySelected outputs arm =
    (h : List Request) (r : Request) → InOrder (r ∷ h) → function_in r ≡ 4 → (hands_over outputs arm h r ≡ [] → ⊥) → Allowed outputs arm h r

-- an OPERATE that is allowed, and no repeat, hands over all its objects in the order asked
abbrev pub OperatesWhole : Outputs → ℕ → Type 0
OperatesWhole outputs arm =
    (h : List Request) (r : Request) → function_in r ≡ 4 → repeated outputs arm h r ≡ false → (a : Allowed outputs arm h r)
    → hands_over outputs arm h r ≡ objects a.selects.kind a.selects.width a.selects.count (drop (3 + a.selects.width) (objects_in r))

-- a repeat hands over nothing, is given the same answer again, and changes nothing
abbrev pub RepeatsDoNothing : Outputs → ℕ → Type 0
RepeatsDoNothing outputs arm =
    (h : List Request) (r : Request) → repeated outputs arm h r ≡ true
    → (hands_over outputs arm h r ≡ []) × (answered outputs arm h r ≡ kept_answer (remembered_after outputs arm h).last) × (remembered_after outputs arm (r ∷ h) ≡ remembered_after outputs arm h)

-- without its repeats a list leaves and hands over the same: nothing is carried out twice
abbrev pub NothingTwice : Outputs → ℕ → Type 0
NothingTwice outputs arm =
    (h : List Request) → (remembered_after outputs arm (new_requests outputs arm h) ≡ remembered_after outputs arm h) × (outcome outputs arm (new_requests outputs arm h) ≡ outcome outputs arm h)

-- a request of any other function than 4 to 6 hands over nothing
abbrev pub OthersHandNothing : Outputs → ℕ → Type 0
OthersHandNothing outputs arm =
    (h : List Request) (r : Request) → (function_in r ≡ 4 → ⊥) → (function_in r ≡ 5 → ⊥) → (function_in r ≡ 6 → ⊥) → hands_over outputs arm h r ≡ []

-- all of it, with any outputs and every arm time
pub record ControlsSafe (outputs : Outputs) (arm : ℕ) : Type 0 where
  pub selected : OperatesOnlySelected outputs arm
  pub whole : OperatesWhole outputs arm
  pub repeats : RepeatsDoNothing outputs arm
  pub once : NothingTwice outputs arm
  pub others : OthersHandNothing outputs arm
