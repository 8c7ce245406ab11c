-- A run of analogs that is written, by the code's `Option<Run>`: none yet, or its header's place and what it has.
-- Assumes nothing.
use Rattle.std.proofs.Common.{◌≡◌, refl, ap, ◌∙◌, subst, ℕ, ◌+◌, ◌≤◌, ◌<◌, List, ◌∷◌, Option, Some, None, length, arith}
use borrow.Author.Tests.{ne_eqb}
use Rattle.octets.specs.Bytes.{splice}
use Rattle.objects.specs.Runs.{Object}
use Rattle.static_objects.specs.Static.{static_heading}
use Rattle.static_objects.specs.Running.{run_place, run_heading, RunFits}
use Rattle.read_headers.specs.declared.PointKind.TheVariants as K
use Rattle.static_objects.specs.declared.Run.{Run}
use Rattle.static_objects.proofs.RunWriting.{Running, top, top-fits, joined-fits, joined, begun-fits, begun}
use Rattle.static_objects.proofs.StaticLaws.{heading-length}

abbrev pub run_variation : Option Run → ℕ
run_variation None = 0
run_variation (Some r) = r.variation

abbrev pub run_first : Option Run → ℕ
run_first None = 0
run_first (Some r) = r.first

abbrev pub run_more : Option Run → ℕ
run_more None = 0
run_more (Some r) = r.more

-- a run has a variation, and its points are before the i-th
abbrev pub RunBefore : Option Run → ℕ → Type 0
RunBefore None i = Unit {0}
RunBefore (Some r) i = (r.variation ≡ 0 → ⊥) × (r.first + r.more < i)

pub record Going (out₀ : List ℕ) (at : ℕ) (whole : List Object) (out : List ℕ) (to : ℕ) (run : Option Run) (i : ℕ) (ys : List Object) : Type 0 where
  pub running : Running (static_heading K.Analog) 7 out₀ at whole out to (run_place run) (run_variation run) (run_first run) (run_more run) ys
  pub before : RunBefore run i

-- the header that `end_run` puts
pub heading-is : (run : Option Run) (i : ℕ) → RunBefore run i → run_heading run ≡ top (static_heading K.Analog) (run_variation run) (run_first run) (run_more run + 1)
heading-is None i h = refl
heading-is (Some r) i h = rw (ne_eqb r.variation 0 h.0)

module _ {out₀ : List ℕ} {at : ℕ} {whole : List Object} {out : List ℕ} {to i : ℕ} {ys : List Object} where
  pub run-fits : (run : Option Run) → i ≤ 200000 → Going out₀ at whole out to run i ys → RunFits run (length out)
  run-fits None h g = tt
  run-fits (Some r) h g =
      let t = top-fits (static_heading K.Analog) 7 (heading-length K.Analog) g.running in
      let e = ap length (heading-is (Some r) i g.before) in
      (omega (arith, t, e, heading-length K.Analog r.variation r.first (r.more + 1)), omega (arith, g.before.1))

  -- the turn writes x, whose variation the code has as k and whose bytes as b
  module _ (run : Option Run) (g : Going out₀ at whole out to run i ys) (x : Object) (xs : List Object) (e : ys ≡ x ∷ xs) (k : ℕ) (hk : k ≡ x.kind) (b : List ℕ) (hb : b ≡ x.bytes) where
    -- in the run
    module _ (r : Run) (is : run ≡ Some r) (same : k ≡ r.variation) where
      now : Going out₀ at whole out to (Some r) i ys
      now = subst (λ (q : Option Run). Going out₀ at whole out to q i ys) is g

      pub run-joined-fits : to + length b ≤ length out
      run-joined-fits = joined-fits (static_heading K.Analog) 7 (heading-length K.Analog) now.running x xs e k hk b hb same

      pub run-joined : (out' : List ℕ) (to' : ℕ) → to' ≡ to + length b → out' ≡ splice out to b
          → Going out₀ at whole out' to' (Some (record { at = r.at; variation = r.variation; first = r.first; more = r.more + 1 })) (i + 1) xs
      run-joined out' to' ht ho =
          record {
            running = joined (static_heading K.Analog) 7 (heading-length K.Analog) now.running x xs e k hk b hb same out' to' ht ho;
            before = (now.before.0, omega (arith, now.before.1));
          }

    -- in a run of its own
    module _ (new : k ≡ run_variation run → ⊥) where
      pub run-begun-fits : to + 7 + length b ≤ length out
      run-begun-fits = begun-fits (static_heading K.Analog) 7 (heading-length K.Analog) g.running x xs e k hk b hb new

      pub run-begun : (k ≡ 0 → ⊥) → x.index ≡ i → (to2 : ℕ) (out1 out2 : List ℕ) → out1 ≡ splice out (run_place run) (run_heading run)
          → to2 ≡ to + 7 + length b → out2 ≡ splice out1 (to + 7) b
          → Going out₀ at whole out2 to2 (Some (record { at = to; variation = k; first = x.index; more = 0 })) (i + 1) xs
      run-begun some at to2 out1 out2 h1 ht h2 =
          record {
            running =
                begun (static_heading K.Analog) 7 (heading-length K.Analog) g.running x xs e k hk b hb new some to2 out1 out2
                (h1 ∙ ap (splice out (run_place run)) (heading-is run i g.before)) ht h2;
            before = (some, omega arith);
          }
