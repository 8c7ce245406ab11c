-- Laws of an answer: the longest echo, the function that is never answered, the answer as the first lent bytes.
-- Assumes nothing.
use mathlib.Core.Path.{◌≡◌, refl, ap, ◌∙◌}
use mathlib.Core.Bool.{Bool, true, false, cond}
use mathlib.Core.List.{List, [], ◌∷◌}
use Prim.Native.Nat.{ℕ, suc, ◌+◌, ◌≤◌}
use native.Mathlib.Omega.{arith}
use lib.ListN.{length, take, drop, replicate, length-replicate}
use Rattle.octets.specs.Bytes.{splice}
use Rattle.octets.proofs.Splice.{stored-splice}
use Rattle.control.specs.declared.ControlObject.{ControlObject}
use Rattle.control.specs.declared.Form.{Form}
use Rattle.std.specs.Prelude.{Result, Ok, Err}
use Rattle.application.specs.declared.Fault.{Fault}
use Rattle.control.specs.Objects.{echo_max, value_size, formed, objects}
use Rattle.control.proofs.ObjectLaws.{objects-length}
use Rattle.control.specs.Status.{Outputs, statuses, echo_of}
use Rattle.select_latch.specs.declared.ControlFunction.{ControlFunction}
use Rattle.select_latch.specs.Select.{group_of, LatchView, is_unanswered, is_operate, statuses_by, operate_status, by_form, control_effect}
use Rattle.control.proofs.FormLaws.{formed-fits, echo-length}

length-statuses : (outputs : Outputs) (e : List ℕ) (cs : List ControlObject) → length (statuses outputs e cs) ≡ length cs
unfolding statuses
length-statuses outputs e [] = refl
length-statuses outputs e (c ∷ cs) = ap suc (length-statuses outputs (c.index ∷ e) cs)

pub length-by : (f : ControlFunction) (outputs : Outputs) (s : ℕ) (cs : List ControlObject) → length (statuses_by f outputs s cs) ≡ length cs
length-by f outputs s cs = go (is_operate f) where
  go : (b : Bool) → length (cond b (replicate (length cs) s) (statuses outputs [] cs)) ≡ length cs
  go true = length-replicate (length cs) s
  go false = length-statuses outputs [] cs

module _ (outputs : Outputs) (arm : ℕ) (l : LatchView) (f : ControlFunction) (sequence time : ℕ) (o : List ℕ) where
  pub echo-most : length (control_effect outputs arm l f sequence time o).echo ≤ echo_max
  unfolding control_effect
  echo-most = over_form (formed o) refl where
    two : (b : Bool) (e : List ℕ) → length e ≤ echo_max → length (cond b [] e) ≤ echo_max
    two true e h = omega arith
    two false e h = h

    over_form : (x : Result Form Fault) → formed o ≡ x → length (by_form x outputs arm l f sequence time o).echo ≤ echo_max
    over_form (Err y) e = omega arith
    over_form (Ok x) e =
        let fit = formed-fits o x e in
        let s = operate_status arm l (group_of x.kind) sequence time o in
        let cs = objects x.kind x.width x.count (drop (3 + x.width) o) in
        let ss : List ℕ = statuses_by f outputs s cs in
        let k = length-by f outputs s cs ∙ objects-length x.kind x.width x.count (drop (3 + x.width) o) in
        let m : length (echo_of x.width (value_size x.kind) ss o) ≡ length o = echo-length x.width (value_size x.kind) x.count ss o k fit.size in
        two (is_unanswered f) (echo_of x.width (value_size x.kind) ss o) (omega arith)

  pub unanswered-echo : is_unanswered f ≡ true → (control_effect outputs arm l f sequence time o).echo ≡ []
  unfolding control_effect
  unanswered-echo u = over_form (formed o) where
    over_form : (x : Result Form Fault) → (by_form x outputs arm l f sequence time o).echo ≡ []
    over_form (Err y) = refl
    over_form (Ok x) = rw u

-- the answer is the first bytes
pub answer-taken : (d d₂ a : List ℕ) (m : ℕ) → d₂ ≡ splice d 0 a → m ≡ length a → m ≤ length d → take m d₂ ≡ a
answer-taken d d₂ a m e k h = ap (λ (y : List ℕ). take m y) e ∙ ap (λ (j : ℕ). take j (splice d 0 a)) k ∙ stored-splice d 0 a (omega arith)
