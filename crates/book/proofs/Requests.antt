-- What both sides say of a request: when it is a repeat, what it does to the held events and the wait, and the bits of its response.
-- Assumes nothing.
use Prim.Native.Nat.{ℕ, ◌+◌, ◌/◌, ◌%◌, ◌<◌}
use mathlib.Core.Path.{◌≡◌, refl, ◌∙◌}
use mathlib.Core.Bool.{Bool, true, false, ◌||◌, and-true}
use mathlib.Core.List.{List, [], ◌∷◌, ◌++◌}
use native.Mathlib.Nat.{le_of_eq}
use native.Mathlib.Omega.{arith}
use lib.ListN.{length, drop}
use lib.Seq.{take_all}
use lib.Dec.{eqb, ltb}
use borrow.Author.Tests.{ltb-false, eqb-true}
use Rattle.laws.specs.Lists.{same}
use Rattle.points.specs.PointsView.{PointsView}
use Rattle.application.specs.declared.Fault.{Fault}
use Rattle.application.specs.declared.Fault.TheVariants.{FunctionUnknown, ObjectUnknown, BadParameter}
use Rattle.std.specs.Prelude.{Option, Some, None, Result, Ok, Err}
use Rattle.application.specs.declared.Indications.{Indications}
use Rattle.application.specs.Fragment as F
use Rattle.application.specs.Fragment.{function_of, sequence_of, control_of, is_confirm, objects_of}
use Rattle.application.specs.Response.{response_of, fault_bits, weight}
use Rattle.read_headers.specs.declared.Header.{Header}
use Rattle.read_headers.specs.Parse.{Parsed, headers, fault}
use Rattle.control.specs.declared.ControlObject.{ControlObject}
use Rattle.control.specs.declared.Form.{Form}
use Rattle.control.proofs.ObjectLaws.{objects-length}
use Rattle.control.specs.Objects.{formed, objects, objects_by}
use Rattle.control.specs.Status.{Outputs, echo_with}
use Rattle.select_latch.specs.declared.ControlFunction.{ControlFunction}
use Rattle.select_latch.specs.declared.ControlFunction.TheVariants.{Select, Operate, DirectOperate}
use Rattle.select_latch.specs.Select.{group_of, LatchView, is_unanswered, statuses_by, operate_status, by_form, control_effect}
use Rattle.last_request.specs.Repeat.{LastRequestView, nothing, kept, is_repeat, kept_answer}
use Rattle.last_request.proofs.ReplyLaws.{length-by}
use Rattle.events.specs.BufferView.{BufferView, cleared}
use Rattle.static_objects.specs.Static.{asked_of}
use Rattle.std.proofs.Common.{None}
use Rattle.outstation.specs.OutstationView.{OutstationView}
use Rattle.outstation.specs.Requests.{Ask, malformed, confirms, reads, misreads, asks, ask, read_ask}
use Rattle.outstation.specs.Step.{RequestEffect, effect_by}
use Rattle.book.specs.Book as B
use Rattle.book.specs.Book.{BookAnswer, book_answer_of}
use Rattle.book.specs.Demand3.{overflow_bit}
use Rattle.laws.proofs.Choices.{by, split}
use Rattle.laws.proofs.SameLaws.{same-eq}

-- ---- a repeat

-- the bytes of the request that is kept
abbrev pub last_bytes : LastRequestView → List ℕ
last_bytes nothing = []
last_bytes (kept bytes answer) = bytes

-- a fragment that is neither a READ nor empty repeats the one that is kept where the bytes are the same
pub repeat-same : (m : LastRequestView) (f : List ℕ) → eqb (function_of f) 1 ≡ false → 0 < length f → is_repeat m f ≡ same f (last_bytes m)
unfolding is_repeat same
repeat-same nothing [] e l = let z : ⊥ = omega arith in absurd z
repeat-same nothing (x ∷ f) e l = refl
repeat-same (kept bytes answer) f e l = rw (e, and-true)

-- a request that is no READ has at least two bytes
pub record Asks (f : List ℕ) (function : ℕ) : Type 0 where
  pub is : function_of f ≡ function
  pub other : eqb function 1 ≡ false
  pub long : 0 < length f

asks_read : (q q' function : ℕ) (p : Parsed) → read_ask q p ≡ asks q' function → ⊥
asks_read q q' function (headers hs) e = let z : ◌≡◌ {A = ℕ} 0 1 = cc in omega arith
asks_read q q' function (fault n) e = let z : ◌≡◌ {A = ℕ} 0 1 = cc in omega arith

or_left : (a b : Bool) → (a || b) ≡ false → a ≡ false
or_left true b h = h
or_left false b h = refl

-- fewer than two bytes are malformed
well-long : (f : List ℕ) → F.malformed f ≡ false → 0 < length f
well-long f h = let l = ltb-false (length f) 2 (or_left (ltb (length f) 2) _ h) in omega arith

pub asks-inverse : (i : PointsView) (f : List ℕ) (q function : ℕ) → ask i f ≡ asks q function → Asks f function
unfolding ask
asks-inverse i f q function =
    by (F.malformed f)
    (λ t. rw t (λ e. absurd (let z : ◌≡◌ {A = ℕ} 0 1 = cc in omega arith)))
    (λ t. rw t (by (is_confirm f)
    (λ c. rw c (λ e. absurd (let z : ◌≡◌ {A = ℕ} 0 1 = cc in omega arith)))
    (λ c. rw c (by (eqb (function_of f) 1)
    (λ r. rw r (λ e. absurd (asks_read (sequence_of (control_of f)) q function (asked_of i (objects_of f)) e)))
    (λ r. rw r (λ e. let s : function_of f ≡ function = cc in record { is = s; other = rw s at r; long = well-long f t }))))))

-- no READ, faultless or not
abbrev NoRead : Ask → Type 0
NoRead malformed = Unit {0}
NoRead (confirms q uns) = Unit {0}
NoRead (reads q hs) = ⊥
NoRead (misreads q n) = ⊥
NoRead (asks q function) = Unit {0}

-- the function of a READ
read-function : (i : PointsView) (f : List ℕ) → (NoRead (ask i f) → ⊥) → eqb (function_of f) 1 ≡ true
unfolding ask
read-function i f =
    by (F.malformed f)
    (λ t. rw t (λ n. absurd (n tt)))
    (λ t. rw t (by (is_confirm f) (λ c. rw c (λ n. absurd (n tt))) (λ c. rw c (by (eqb (function_of f) 1) (λ r. λ n. r) (λ r. rw r (λ n. absurd (n tt)))))))

pub reads-function : (i : PointsView) (f : List ℕ) (q : ℕ) (hs : List Header) → ask i f ≡ reads q hs → eqb (function_of f) 1 ≡ true
reads-function i f q hs e = read-function i f (rw e (λ z. z))

pub misreads-function : (i : PointsView) (f : List ℕ) (q : ℕ) (n : Fault) → ask i f ≡ misreads q n → eqb (function_of f) 1 ≡ true
misreads-function i f q n e = read-function i f (rw e (λ z. z))

-- a repeat is of a request that was kept
pub repeated : (m : LastRequestView) (f : List ℕ) → 0 < length f → same f (last_bytes m) ≡ true → m ≡ kept f (kept_answer m)
unfolding same
repeated nothing [] l e = let z : ⊥ = omega arith in absurd z
repeated nothing (x ∷ f) l e = cc
repeated (kept bytes answer) f l e = rw (same-eq f bytes e)

-- ---- its effects

-- a request that is no READ ends the wait and takes the marks away
pub record Ends (k : BufferView) (d : RequestEffect) : Type 0 where
  pub buffer : d.buffer ≡ cleared k
  pub wait : d.wait ≡ None

pub effect-ends : (w : OutstationView) (q function time : ℕ) (o : List ℕ) → Ends w.master.buffer (effect_by w q function time o)
effect-ends w q function time o =
    let P : RequestEffect → Type 0 = Ends w.master.buffer in
    split P (eqb function 2) (λ _. record { buffer = refl; wait = refl })
    (λ _. split P (eqb function 3) (λ _. record { buffer = refl; wait = refl })
    (λ _. split P (eqb function 4) (λ _. record { buffer = refl; wait = refl })
    (λ _. split P (eqb function 5) (λ _. record { buffer = refl; wait = refl })
    (λ _. split P (eqb function 6) (λ _. record { buffer = refl; wait = refl })
    (λ _. record { buffer = refl; wait = refl })))))

-- ---- its objects

-- the echo by a form, with some status for each object
pub record Echo (x : Result Form Fault) (o echo : List ℕ) : Type 0 where
  pub statuses : List ℕ
  pub each : length statuses ≡ length (objects_by x o)
  pub is : echo ≡ echo_with x statuses o

module _ (outputs : Outputs) (arm : ℕ) (l : LatchView) (g : ControlFunction) (u : is_unanswered g ≡ false) (q time : ℕ) (o : List ℕ) where
  echo-form : (x : Result Form Fault) → Echo x o (by_form x outputs arm l g q time o).echo
  echo-form (Err y) = record { statuses = []; each = refl; is = refl }
  echo-form (Ok x) =
      let cs : List ControlObject = objects x.kind x.width x.count (drop (3 + x.width) o) in
      let ss : List ℕ = statuses_by g outputs (operate_status arm l (group_of x.kind) q time o) cs in
      let k : length ss ≡ length cs = length-by g outputs (operate_status arm l (group_of x.kind) q time o) cs in
      record { statuses = ss; each = k; is = rw (u, take_all x.count ss (le_of_eq (k ∙ objects-length x.kind x.width x.count (drop (3 + x.width) o)))) }

  echo_of : Echo (formed o) o (control_effect outputs arm l g q time o).echo
  unfolding control_effect
  echo_of = echo-form (formed o)

-- the objects of a response newly built, by what the book says of it
abbrev pub Bears : BookAnswer → List ℕ → Type 0
Bears (B.takes taken refusal) objects = ⊥
Bears (B.refuses n) objects = ⊥
Bears B.accepts objects = ⊥
Bears (B.carries ws static) objects = ⊥
Bears B.plain objects = objects ≡ []
Bears (B.echoes o) objects = Echo (formed o) o objects
Bears B.unanswered objects = ⊥
Bears B.repeats objects = ⊥

pub effect-bears : (w : OutstationView) (q function time : ℕ) (o : List ℕ) → eqb function 6 ≡ false
    → Bears (book_answer_of function o) (effect_by w q function time o).objects
unfolding book_answer_of
effect-bears w q function time o t₆ =
    let echoed : (g : ControlFunction) → is_unanswered g ≡ false → Echo (formed o) o (control_effect w.shared.outputs w.shared.arm_time w.master.session.latch g q time o).echo
    = λ g u. echo_of w.shared.outputs w.shared.arm_time w.master.session.latch g u q time o in
    by (eqb function 2)
    (λ t. rw (eqb-true function 2 t) refl)
    (λ t₂. by (eqb function 3)
    (λ t. rw (eqb-true function 3 t) (echoed Select refl))
    (λ t₃. by (eqb function 4)
    (λ t. rw (eqb-true function 4 t) (echoed Operate refl))
    (λ t₄. by (eqb function 5)
    (λ t. rw (eqb-true function 5 t) (echoed DirectOperate refl))
    (λ t₅. rw (t₂, t₃, t₄, t₅, t₆) refl))))

-- ---- its response

-- four bytes, then the objects
pub response-long : (q : ℕ) (con : Bool) (i : Indications) (f : Option Fault) (o : List ℕ) → length (response_of q con i f ++ o) ≡ 4 + length o
unfolding response_of
response-long q con i f o = omega arith

pub response-objects : (q : ℕ) (con : Bool) (i : Indications) (f : Option Fault) (o : List ℕ) → drop 4 (response_of q con i f ++ o) ≡ o
unfolding response_of
response-objects q con i f o = refl

-- the bit IIN2.3 beside a fault's
bit-beside : (f : Option Fault) (t : Bool) → eqb ((fault_bits f + weight t 8) / 8 % 2) 1 ≡ t
bit-beside None true = refl
bit-beside None false = refl
bit-beside (Some FunctionUnknown) true = refl
bit-beside (Some FunctionUnknown) false = refl
bit-beside (Some ObjectUnknown) true = refl
bit-beside (Some ObjectUnknown) false = refl
bit-beside (Some BadParameter) true = refl
bit-beside (Some BadParameter) false = refl

pub response-bit : (q : ℕ) (con : Bool) (i : Indications) (f : Option Fault) (o : List ℕ) → overflow_bit (response_of q con i f ++ o) ≡ i.dropped
unfolding response_of
response-bit q con i f o = bit-beside f i.dropped
