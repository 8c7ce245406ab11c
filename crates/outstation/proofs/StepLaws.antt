-- Laws of a single reading and of a table: a refused reading changes nothing; a table is its readings taken singly, up to the first
-- that is refused.
-- Assumes nothing.
use mathlib.Core.Path.{◌≡◌, refl, sym, ap, ◌∙◌, subst}
use mathlib.Core.Bool.{Bool, true, false, not, cond}
use mathlib.Core.List.{List, [], ◌∷◌}
use Prim.Native.Nat.{ℕ, suc, ◌+◌, ◌<◌, zero-le, suc-le-suc}
use native.Mathlib.Nat.{suc-add, add-suc, add-zero, le_of_suc-le-suc}
use native.Mathlib.Omega.{arith}
use lib.IntN.{ℤ}
use lib.Ieee.{Float}
use lib.Ieee.Scale.{finite}
use lib.Dec.{ltb}
use lib.ListN.{length, take}
use Rattle.laws.specs.Outcome.{Outcome, accepted, refused}
use Rattle.points.specs.declared.BinaryPoint.{BinaryPoint}
use Rattle.points.specs.declared.AnalogPoint.{AnalogPoint}
use Rattle.points.specs.declared.AnalogState.{AnalogState}
use Rattle.points.specs.declared.AnalogState.TheVariants as Ks
use Rattle.points.specs.declared.Taken.{Taken}
use Rattle.points.specs.PointsView.{PointsView}
use Rattle.points.specs.Reading.{flags_above, read_binary, whole_by, read_whole, float_by, read_float}
use Rattle.outstation.specs.declared.Reading.{Reading}
use Rattle.outstation.specs.declared.Measured.{Measured}
use Rattle.outstation.specs.declared.Measured.TheVariants as Ms
use Rattle.outstation.specs.OutstationView.{OutstationView}
use Rattle.outstation.specs.Readings.{bad_time, ReadingEffect, on_binary, on_analog, apply_by, apply_reading}
use Rattle.outstation.specs.Step.{took, Result, taken, reading_step, table_from}
use Rattle.outstation.specs.Singly.{after_readings, each_taken, Singly}

-- ---- one reading

pub refused-same : (r : Reading) (w : OutstationView) (n : ℕ) → apply_reading w.shared.clock w.shared.inputs r ≡ refused n → reading_step r w ≡ record { state = w; answer = took 0 n }
unfolding reading_step
refused-same r w n h = rw h

pub accepted-taken : (r : Reading) (w : OutstationView) (h : ReadingEffect) → apply_reading w.shared.clock w.shared.inputs r ≡ accepted h → reading_step r w ≡ record { state = taken w r h; answer = took 1 0 }
unfolding reading_step
accepted-taken r w h e = rw e

-- no refusal has the number 0
unfoldable Numbered : {A : Type 0} → Outcome A → Type 0
Numbered (accepted a) = Unit {0}
Numbered (refused n) = 0 < n

either : {A : Type 0} (t : Bool) (x y : Outcome A) → Numbered x → Numbered y → Numbered (cond t x y)
either true x y f g = f
either false x y f g = g

ok : {A : Type 0} (a : A) → Numbered (accepted a)
unfolding Numbered
ok a = tt

no : (A : Type 0) (n : ℕ) → 0 < n → Numbered {A = A} (refused n)
unfolding Numbered
no A n h = h

number_in : (A : Type 0) (n : ℕ) → Numbered {A = A} (refused n) → 0 < n
unfolding Numbered
number_in A n h = h

-- the flags' test, which each reading of a point ends with
by_flags : {A : Type 0} (t : Bool) (a : A) → Numbered (cond t (refused 4) (accepted a))
by_flags t a = either t _ _ (no _ 4 (omega arith)) (ok a)

numbered-binary : (i : PointsView) (r : Reading) (x : Outcome (Taken BinaryPoint)) → Numbered x → Numbered (on_binary i r x)
numbered-binary i r (accepted a) h = ok _
numbered-binary i r (refused n) h = no _ n (number_in _ n h)

numbered-analog : (i : PointsView) (r : Reading) (x : Outcome (Taken AnalogPoint)) → Numbered x → Numbered (on_analog i r x)
numbered-analog i r (accepted a) h = ok _
numbered-analog i r (refused n) h = no _ n (number_in _ n h)

binary-numbered : (p : BinaryPoint) (s : Bool) (flags : ℕ) → Numbered (read_binary p s flags)
unfolding read_binary
binary-numbered p s flags = by_flags (flags_above flags) _

over_whole : (m : AnalogState) (p : AnalogPoint) (z : ℤ) (flags : ℕ) → Numbered (whole_by m p z flags)
over_whole (Ks.Int32 t) p z flags = by_flags (flags_above flags) _
over_whole (Ks.Int16 t) p z flags = by_flags (flags_above flags) _
over_whole (Ks.Float32 t s) p z flags = no _ 2 (omega arith)

float-by : (m : AnalogState) (p : AnalogPoint) (x : Float) (flags : ℕ) → Numbered (float_by m p x flags)
float-by (Ks.Int32 t) p x flags = no _ 2 (omega arith)
float-by (Ks.Int16 t) p x flags = no _ 2 (omega arith)
float-by (Ks.Float32 t s) p x flags = either (not (finite x)) _ _ (no _ 3 (omega arith)) (by_flags (flags_above flags) _)

whole-numbered : (p : AnalogPoint) (z : ℤ) (flags : ℕ) → Numbered (read_whole p z flags)
unfolding read_whole
whole-numbered p z flags = over_whole p.gate_state p z flags

float-numbered : (p : AnalogPoint) (x : Float) (flags : ℕ) → Numbered (read_float p x flags)
unfolding read_float
float-numbered p x flags = float-by p.gate_state p x flags

by-numbered : (m : Measured) (i : PointsView) (r : Reading) → Numbered (apply_by m i r)
by-numbered (Ms.State s) i r = either (ltb r.point (length i.binaries)) _ _ (numbered-binary i r _ (binary-numbered _ s r.flags)) (no _ 2 (omega arith))
by-numbered (Ms.Whole z) i r = either (ltb r.point (length i.analogs)) _ _ (numbered-analog i r _ (whole-numbered _ z r.flags)) (no _ 2 (omega arith))
by-numbered (Ms.Float x) i r = either (ltb r.point (length i.analogs)) _ _ (numbered-analog i r _ (float-numbered _ x r.flags)) (no _ 2 (omega arith))

apply-numbered : (clock : ℕ) (i : PointsView) (r : Reading) → Numbered (apply_reading clock i r)
unfolding apply_reading
apply-numbered clock i r = either (bad_time clock r.time) _ _ (no _ 1 (omega arith)) (by-numbered r.measured i r)

pub refused-some : (r : Reading) (w : OutstationView) (n : ℕ) → apply_reading w.shared.clock w.shared.inputs r ≡ refused n → 0 < n
refused-some r w n h = number_in ReadingEffect n (subst (λ (x : Outcome ReadingEffect). Numbered x) h (apply-numbered w.shared.clock w.shared.inputs r))

-- ---- a table

-- what a table from the j-th reading on answers and leaves
pub record CountsWithin (rs : List Reading) (j : ℕ) (w : OutstationView) : Type 0 where
  pub count : ℕ
  pub number : ℕ
  pub left : OutstationView
  pub answers : table_from rs j w ≡ record { state = left; answer = took (j + count) number }
  pub singly : Singly w rs count number left

counted_none : (j : ℕ) (w : OutstationView) → CountsWithin [] j w
unfolding table_from
counted_none j w =
    record {
      count = 0;
      number = 0;
      left = w;
      answers = ap (λ (k : ℕ). record { state = w; answer = took k 0 }) (sym (add-zero j));
      singly = record { within = zero-le; state = refl; each = tt; ends = λ e. refl; whole = λ e. refl; refuses = λ h. absurd (omega arith) };
    }

module _ (r : Reading) (rs : List Reading) (j : ℕ) (w : OutstationView) where
  counted-more : (h : ReadingEffect) → apply_reading w.shared.clock w.shared.inputs r ≡ accepted h → CountsWithin rs (suc j) (taken w r h) → CountsWithin (r ∷ rs) j w
  unfolding table_from
  counted-more h e t =
      let s = accepted-taken r w h e in
      let m = t.singly in
      record {
        count = suc t.count;
        number = t.number;
        left = t.left;
        answers = rw e (t.answers ∙ ap (λ (k : ℕ). record { state = t.left; answer = took k t.number }) (suc-add j t.count ∙ sym (add-suc j t.count)));
        singly =
            record {
              within = suc-le-suc m.within;
              state = m.state ∙ ap (λ (x : Result). after_readings x.state (take t.count rs)) (sym s);
              each = (ap (λ (x : Result). x.answer) s, subst (λ (x : Result). each_taken x.state (take t.count rs)) (sym s) m.each);
              ends = λ z. ap suc (m.ends z);
              whole = λ z. m.whole (omega arith);
              refuses = λ z. m.refuses (le_of_suc-le-suc z);
            };
      }

  counted_stop : (n : ℕ) → apply_reading w.shared.clock w.shared.inputs r ≡ refused n → CountsWithin (r ∷ rs) j w
  unfolding table_from
  counted_stop n e =
      let some : 0 < n = refused-some r w n e in
      record {
        count = 0;
        number = n;
        left = w;
        answers = rw e (ap (λ (k : ℕ). record { state = w; answer = took k n }) (sym (add-zero j)));
        singly =
            record {
              within = zero-le;
              state = refl;
              each = tt;
              ends = λ z. absurd (omega arith);
              whole = λ z. absurd (omega arith);
              refuses = λ z d. refused-same r w n e;
            };
      }

by-outcome : {P : Type 0} (x : Outcome ReadingEffect) → ((h : ReadingEffect) → x ≡ accepted h → P) → ((n : ℕ) → x ≡ refused n → P) → P
by-outcome (accepted h) f g = f h refl
by-outcome (refused n) f g = g n refl

-- every table is answered so
pub counted : (rs : List Reading) (j : ℕ) (w : OutstationView) → CountsWithin rs j w
counted [] j w = counted_none j w
counted (r ∷ rs) j w =
    by-outcome (apply_reading w.shared.clock w.shared.inputs r)
    (λ h e. counted-more r rs j w h e (counted rs (suc j) (taken w r h)))
    (λ n e. counted_stop r rs j w n e)

-- "is taken as if each came singly; at the first refused one it stops, and the answer says how many were taken and which refusal
-- stopped it"
pub table-singly : (rs : List Reading) (w w₁ : OutstationView) (k n : ℕ) → table_from rs 0 w ≡ record { state = w₁; answer = took k n } → Singly w rs k n w₁
table-singly rs w w₁ k n e =
    let t = counted rs 0 w in
    let same : ◌≡◌ {A = Result} (record { state = t.left; answer = took (0 + t.count) t.number }) (record { state = w₁; answer = took k n }) = sym t.answers ∙ e in
    let a : took (0 + t.count) t.number ≡ took k n = ap (λ (x : Result). x.answer) same in
    let s : t.left ≡ w₁ = ap (λ (x : Result). x.state) same in
    let k₀ : 0 + t.count ≡ k = cc in
    let k₁ : t.count ≡ k = omega arith in
    let n₁ : t.number ≡ n = cc in
    rw (← k₁, ← n₁, ← s) t.singly
