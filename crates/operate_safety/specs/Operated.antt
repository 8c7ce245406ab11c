-- What is handed to the host over every list of calls, relays' objects and analog outputs': on OPERATE only what was selected, on a repeat or
-- by any other call nothing.
-- Assumes nothing.
use Rattle.std.specs.Prelude.{ℕ, ◌+◌, ◌≡◌, ◌⊎◌, Bool, true, false, cond, List, [], ◌∷◌, ◌++◌, eqb, ltb, length, drop}
use Rattle.laws.specs.First.{first, ◌⇒◌}
use Rattle.laws.specs.Lists.{filter}
use Rattle.laws.specs.Limits.{fragment_max}
use Rattle.application.specs.Fragment.{objects_of}
use Rattle.control.specs.declared.ControlObject.{ControlObject}
use Rattle.control.specs.Objects.{objects, is_crob, is_analog_output, list_of}
use Rattle.control.specs.Status.{Outputs}
use Rattle.last_request.specs.Requests as Q
use Rattle.last_request.specs.Requests.{Request, function_in, objects_in, InOrder, repeated, outcome, new_requests}
use Rattle.last_request.specs.Operates.{Allowed}
use Rattle.outstation.specs.declared.Reading.{Reading}
use Rattle.outstation.specs.Setup.{Setup, setup_ok, outputs_set_up}
use Rattle.outstation.specs.OutstationView.{OutstationView, restarted}
use Rattle.outstation.specs.Lent.{Outstation, outstation_view}
use Rattle.outstation.specs.Readings.{bad_time}
use Rattle.outstation.specs.Requests.{Ask, malformed, confirms, reads, misreads, asks, ask}
use Rattle.outstation.specs.Step.{Call, reading, table, fragment, Answer, took, answers, silent, accepts, refuses, response_bytes, effect_by, step}
use Rattle.outstation.specs.CallContracts.{StepHolds}
use Rattle.fragments.specs.FragmentMeets.{Answered, fragment_answer, FragmentMeets}
use Rattle.book.specs.Demand3.{Ran, none, more}

-- ---- the accepted request that a call is, if it is one

-- its bytes, its time, and the answer that is built and kept for it where it is no repeat
abbrev pub one_request : List ℕ → ℕ → List ℕ → List Request
one_request bytes time answer = record { bytes = bytes; time = time; answer = answer } ∷ []

-- "CONFIRM is not a request"; a READ's answer is not kept, and "Function 6 is never answered"
abbrev pub request_asked : Ask → OutstationView → ℕ → List ℕ → List Request
request_asked malformed w time f = []
request_asked (confirms q uns) w time f = []
request_asked (reads q hs) w time f = one_request f time []
request_asked (misreads q n) w time f = one_request f time []
request_asked (asks q function) w time f =
    one_request f time (cond (eqb function 6) [] (response_bytes q (effect_by w q function time (objects_of f))))

-- none or one; a fragment refused with 1 or 33 is none
unfoldable pub request_of : Call → OutstationView → List Request
request_of (reading r) w = []
request_of (table rs) w = []
request_of (fragment time f room) w =
    first
    (bad_time w.shared.clock time ⇒ []
    ∷ ltb room fragment_max ⇒ []
    ∷ [])
    (request_asked (ask w.shared.inputs f) w time f)

-- the accepted requests of a list of calls, the latest first, those of h before them
abbrev pub requests_after : List Call → OutstationView → List Request → List Request
requests_after [] w h = h
requests_after (c ∷ cs) w h = requests_after cs (step c w).state (request_of c w ++ h)

-- from a setup's restart on
abbrev pub requests_of : Setup → List Call → List Request
requests_of u cs = requests_after cs (restarted u) []

-- ---- what a call's contract gives, and what of it is handed to the host

-- of a reading or a table, whose results hold no objects; of a fragment, its result r with the lent bytes before and after
pub data Gives : Outstation → Call → Answer → Outstation → Type 0 where
  gave_reading : {o o₁ : Outstation} {r : Reading} {a : Answer} → StepHolds o (reading r) a o₁ → Gives o (reading r) a o₁
  gave_table : {o o₁ : Outstation} {rs : List Reading} {a : Answer} → StepHolds o (table rs) a o₁ → Gives o (table rs) a o₁
  gave_fragment : {o : Outstation} {time : ℕ} {f : List ℕ} (r : Answered) (lent after : List ℕ)
      → FragmentMeets o r lent after (step (fragment time f (length lent)) (outstation_view o))
      → Gives o (fragment time f (length lent)) (fragment_answer r after) r.state

-- "To carry out is to hand the objects to the host in the call's result, in the order asked"
abbrev pub handed_over : {o o₁ : Outstation} {c : Call} {a : Answer} → Gives o c a o₁ → List ControlObject
handed_over (gave_reading d) = []
handed_over (gave_table d) = []
handed_over (gave_fragment r lent after g) = list_of r.operated

-- how many objects the result says that it holds
abbrev pub handed_count : {o o₁ : Outstation} {c : Call} {a : Answer} → Gives o c a o₁ → ℕ
handed_count (gave_reading d) = 0
handed_count (gave_table d) = 0
handed_count (gave_fragment r lent after g) = r.operated.count

-- all that a list of calls handed over
abbrev pub all_handed : {o o₂ : Outstation} {cs : List Call} {ans : List Answer} → Ran Outstation Gives o cs ans o₂ → List ControlObject
all_handed none = []
all_handed (more g rest) = handed_over g ++ all_handed rest

-- ---- what a call may hand over, h the accepted requests before it

-- a fragment taken as a request is answered, or is silent
abbrev pub is_reply : Answer → Bool
is_reply (took taken refusal) = false
is_reply (answers bytes operated) = true
is_reply (silent operated) = true
is_reply accepts = false
is_reply (refuses n) = false

-- a call that is no accepted request (a reading, a table, a CONFIRM, every refused fragment), answered a: "no other call hands it any"
pub record HandsNone (a : Answer) (over : List ControlObject) : Type 0 where
  pub reply : is_reply a ≡ false
  pub none : over ≡ []

-- a call that is the accepted request r, answered a
pub record Hands (outputs : Outputs) (arm : ℕ) (h : List Request) (r : Request) (a : Answer) (over : List ControlObject) : Type 0 where
  pub reply : is_reply a ≡ true
  -- no request came earlier than the one before it
  pub ordered : InOrder (r ∷ h)
  -- what the list of requests says
  pub hands : over ≡ Q.hands_over outputs arm h r
  -- an OPERATE that hands over anything: the request before it, repeats aside, was a SELECT with all statuses 0, equal objects
  -- and the preceding sequence, in time
  pub selected : function_in r ≡ 4 → (over ≡ [] → ⊥) → Allowed outputs arm h r
  -- and then, where it is no repeat, it hands over all its objects in the order asked
  pub whole : function_in r ≡ 4 → repeated outputs arm h r ≡ false → (s : Allowed outputs arm h r)
      → over ≡ objects s.selects.kind s.selects.width s.selects.count (drop (3 + s.selects.width) (objects_in r))
  -- a request equal in every byte to the one before it, not a READ, hands over nothing
  pub again : (p : Request) (earlier : List Request) → h ≡ p ∷ earlier → r.bytes ≡ p.bytes → (function_in r ≡ 1 → ⊥) → over ≡ []
  pub repeats : repeated outputs arm h r ≡ true → over ≡ []
  -- nor does any function but 4 to 6
  pub others : (function_in r ≡ 4 → ⊥) → (function_in r ≡ 5 → ⊥) → (function_in r ≡ 6 → ⊥) → over ≡ []

-- by the requests that the call is: none or one
abbrev pub Handing : (outputs : Outputs) (arm : ℕ) → List Request → List Request → Answer → List ControlObject → Type 0
Handing outputs arm h [] a over = HandsNone a over
Handing outputs arm h (r ∷ []) a over = Hands outputs arm h r a over
Handing outputs arm h (r ∷ s ∷ rs) a over = ⊥

-- all objects are relays', or all are analog outputs' (document 02, 109)
abbrev pub Apart : List ControlObject → Type 0
Apart over = (filter is_crob over ≡ []) ⊎ (filter is_analog_output over ≡ [])

-- what is said after a list of calls that left o₂
pub record Operated (u : Setup) (o o₂ : Outstation) (cs : List Call) (ans : List Answer) (run : Ran Outstation Gives o cs ans o₂) : Type 0 where
  -- of any further call c
  pub next : (c : Call) (a : Answer) (o₃ : Outstation) (g : Gives o₂ c a o₃)
      → Handing (outputs_set_up u) u.arm_time (requests_of u cs) (request_of c (outstation_view o₂)) a (handed_over g)
  -- and its result says how many it hands over
  pub counted : (c : Call) (a : Answer) (o₃ : Outstation) (g : Gives o₂ c a o₃) → handed_count g ≡ length (handed_over g)
  -- relays' objects or analog outputs', never both
  pub apart : (c : Call) (a : Answer) (o₃ : Outstation) (g : Gives o₂ c a o₃) → Apart (handed_over g)
  -- all that was handed over is what the requests without their repeats hand over: nothing is carried out twice
  pub once : all_handed run ≡ outcome (outputs_set_up u) u.arm_time (new_requests (outputs_set_up u) u.arm_time (requests_of u cs))

-- demand 2: from any accepted setup's restart, over every list of calls of the outstation's functions
abbrev pub OperatedOnlySelected : Type 0
OperatedOnlySelected =
    (u : Setup) (o o₂ : Outstation) (cs : List Call) (ans : List Answer) → setup_ok u ≡ true → outstation_view o ≡ restarted u
    → (run : Ran Outstation Gives o cs ans o₂) → Operated u o o₂ cs ans run
