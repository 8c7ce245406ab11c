-- What one call hands over is of one group: a request's objects are those of its one header.
-- Assumes nothing.
use mathlib.Core.Path.{◌≡◌, refl, sym, subst}
use mathlib.Core.Logic.{inl, inr}
use mathlib.Core.Bool.{Bool, true, false, cond}
use mathlib.Core.List.{List, [], ◌∷◌}
use Prim.Native.Nat.{ℕ, zero, suc, ◌+◌}
use native.Mathlib.Omega.{arith}
use lib.Dec.{eqb}
use lib.ListN.{drop}
use Rattle.laws.specs.Lists.{filter}
use Rattle.laws.proofs.Choices.{split}
use Rattle.control.specs.declared.ObjectKind.{ObjectKind}
use Rattle.control.specs.declared.ObjectKind.TheVariants as K
use Rattle.control.specs.declared.ControlObject.{ControlObject}
use Rattle.control.specs.declared.Form.{Form}
use Rattle.std.specs.Prelude.{Result, Ok, Err}
use Rattle.application.specs.declared.Fault.{Fault}
use Rattle.control.specs.Objects.{objects, is_crob, is_analog_output, formed}
use Rattle.control.specs.Status.{Outputs, chosen}
use Rattle.select_latch.specs.declared.ControlFunction.{ControlFunction}
use Rattle.select_latch.specs.declared.ControlFunction.TheVariants.{Select, Operate, DirectOperate, DirectOperateNoResponse}
use Rattle.select_latch.specs.Select.{LatchView, is_select, by_form, control_effect}
use Rattle.last_request.specs.Requests.{Request, Acted, sequence_in, function_in, objects_in, acted, remembered_after, repeated, hands_over}
use Rattle.outstation.specs.Step.{Answer}
use Rattle.operate_safety.specs.Operated.{Apart, Handing}

-- ---- the objects of a kind

module _ (w : ℕ) where
  crobs-alone : (n : ℕ) (b : List ℕ) → filter is_analog_output (objects K.Crob w n b) ≡ []
  unfolding objects filter
  crobs-alone zero b = refl
  crobs-alone (suc n) b = crobs-alone n (drop (w + 10 + 1) b)

  ints-alone : (n : ℕ) (b : List ℕ) → filter is_crob (objects K.Int32 w n b) ≡ []
  unfolding objects filter
  ints-alone zero b = refl
  ints-alone (suc n) b = ints-alone n (drop (w + 4 + 1) b)

  shorts-alone : (n : ℕ) (b : List ℕ) → filter is_crob (objects K.Int16 w n b) ≡ []
  unfolding objects filter
  shorts-alone zero b = refl
  shorts-alone (suc n) b = shorts-alone n (drop (w + 2 + 1) b)

  floats-alone : (n : ℕ) (b : List ℕ) → filter is_crob (objects K.Float32 w n b) ≡ []
  unfolding objects filter
  floats-alone zero b = refl
  floats-alone (suc n) b = floats-alone n (drop (w + 4 + 1) b)

objects-apart : (k : ObjectKind) (w n : ℕ) (b : List ℕ) → Apart (objects k w n b)
objects-apart K.Crob w n b = inr (crobs-alone w n b)
objects-apart K.Int32 w n b = inl (ints-alone w n b)
objects-apart K.Int16 w n b = inl (shorts-alone w n b)
objects-apart K.Float32 w n b = inl (floats-alone w n b)

-- ---- those of them that are carried out

none_left : (p : ControlObject → Bool) (xs : List ControlObject) (ss : List ℕ) → filter p xs ≡ [] → filter p (chosen xs ss) ≡ []
unfolding filter chosen
none_left p [] ss e = refl
none_left p (x ∷ xs) [] e = refl
none_left p (x ∷ xs) (s ∷ ss) e = go (p x) refl (eqb s 0) (none_left p xs ss) e where
  go : (t : Bool) → p x ≡ t → (u : Bool) → (filter p xs ≡ [] → filter p (chosen xs ss) ≡ []) → cond t (x ∷ filter p xs) (filter p xs) ≡ []
      → filter p (cond u (x ∷ chosen xs ss) (chosen xs ss)) ≡ []
  go true h u rest z = let y : ◌≡◌ {A = ℕ} 0 1 = cc in absurd (omega arith)
  go false h true rest z = rw h (rest z)
  go false h false rest z = rest z

chosen-apart : (xs : List ControlObject) (ss : List ℕ) → Apart xs → Apart (chosen xs ss)
chosen-apart xs ss (inl e) = inl (none_left is_crob xs ss e)
chosen-apart xs ss (inr e) = inr (none_left is_analog_output xs ss e)

nothing-apart : Apart []
unfolding filter
nothing-apart = inl refl

-- ---- a request, and a call

module _ (outputs : Outputs) (arm : ℕ) where
  form-apart : (l : LatchView) (r : Request) (f : ControlFunction) (x : Result Form Fault)
      → Apart (by_form x outputs arm l f (sequence_in r) r.time (objects_in r)).carried
  form-apart l r f (Err y) = nothing-apart
  form-apart l r f (Ok x) =
      split Apart (is_select f) (λ _. nothing-apart)
      (λ _. chosen-apart (objects x.kind x.width x.count (drop (3 + x.width) (objects_in r))) _ (objects-apart x.kind x.width x.count (drop (3 + x.width) (objects_in r))))

  abbrev P : Acted → Type 0
  P a = Apart a.carried

  acts-apart : (l : LatchView) (r : Request) → Apart (acted outputs arm l r).carried
  unfolding acted control_effect
  acts-apart l r =
      split P (eqb (function_in r) 3) (λ _. form-apart l r Select (formed (objects_in r)))
      (λ _. split P (eqb (function_in r) 4) (λ _. form-apart l r Operate (formed (objects_in r)))
      (λ _. split P (eqb (function_in r) 5) (λ _. form-apart l r DirectOperate (formed (objects_in r)))
      (λ _. split P (eqb (function_in r) 6) (λ _. form-apart l r DirectOperateNoResponse (formed (objects_in r)))
      (λ _. nothing-apart))))

  hands-apart : (h : List Request) (r : Request) → Apart (hands_over outputs arm h r)
  hands-apart h r = split Apart (repeated outputs arm h r) (λ _. nothing-apart) (λ _. acts-apart (remembered_after outputs arm h).latch r)

  pub handing-apart : (h rs : List Request) (a : Answer) (over : List ControlObject) → Handing outputs arm h rs a over → Apart over
  handing-apart h [] a over x = subst Apart (sym x.none) nothing-apart
  handing-apart h (r ∷ []) a over x = subst Apart (sym x.hands) (hands-apart h r)
  handing-apart h (r ∷ s ∷ rs) a over x = absurd x
