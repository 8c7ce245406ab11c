-- Laws of three tests in turn, and of the analog outputs' words: how many, the one at a place, and one stored.
-- Assumes nothing.
use mathlib.Core.Path.{◌≡◌, refl, sym, ap, ◌∙◌}
use mathlib.Core.Bool.{Bool, true, false, ◌&&◌}
use mathlib.Core.List.{List, [], ◌∷◌}
use Prim.Native.Nat.{ℕ, ◌+◌, ◌*◌, ◌<◌}
use native.Mathlib.Nat.{add-zero, add_assoc}
use native.Mathlib.Omega.{arith}
use lib.Dec.{lit<}
use lib.ListN.{length, get_or, set}
use Rattle.laws.specs.Lists.{all}
use Rattle.octets.specs.Bytes.{splice}
use Rattle.words.specs.Records.{chunk}
use Rattle.words.proofs.RecordLaws.{chunk_word, records-length, records-at, records-put}
use Rattle.analog_outputs.specs.Output.{analog_outputs_max}
use Rattle.analog_outputs.specs.OutputWords.{output_of, output_in, outputs_in, no_output}

-- three tests in turn: where the first two pass the third decides, and else they do
pub all_pass : (a b c : Bool) {t : Bool} → t ≡ (a && b) → t ≡ true → c ≡ all (a ∷ b ∷ c ∷ [])
all_pass true true true p q = refl
all_pass true true false p q = refl
all_pass true false c p q = cc
all_pass false b c p q = cc

pub one-fails : (a b c : Bool) {t : Bool} → t ≡ (a && b) → t ≡ false → t ≡ all (a ∷ b ∷ c ∷ [])
one-fails true true c p q = cc
one-fails true false c p q = q
one-fails false b c p q = q

pub outputs-length : (ws : List ℕ) → length (outputs_in ws) ≡ analog_outputs_max
unfolding outputs_in
outputs-length ws = records-length 3 output_in analog_outputs_max ws

module _ (ws : List ℕ) (i : ℕ) (below : i < analog_outputs_max) where
  pub output-at : output_of (get_or ws (3 * i) 0) (get_or ws (3 * i + 1) 0) (get_or ws (3 * i + 2) 0) ≡ get_or (outputs_in ws) i no_output
  unfolding outputs_in
  output-at =
      let at : (m : ℕ) → m < 3 → get_or ws (3 * i + m) 0 ≡ get_or (chunk 3 i ws) m 0 = λ m h. sym (chunk_word 3 i ws m h) in
      let front : get_or ws (3 * i) 0 ≡ get_or (chunk 3 i ws) 0 0 = ap (λ (k : ℕ). get_or ws k 0) (sym (add-zero (3 * i))) ∙ at 0 (lit< tt) in
      (λ k. output_of (front k) (at 1 (lit< tt) k) (at 2 (lit< tt) k)) ∙ sym (records-at 3 output_in analog_outputs_max ws i no_output below)

  pub output-put : (kind low high : ℕ) → length ws ≡ 3 * analog_outputs_max
      → outputs_in (set (set (set ws (3 * i) kind) (3 * i + 1) low) (3 * i + 2) high) ≡ set (outputs_in ws) i (output_of kind low high)
  unfolding outputs_in splice
  output-put kind low high long =
      let put = records-put 3 output_in analog_outputs_max ws i (kind ∷ low ∷ high ∷ []) (omega arith) refl below in
      simp add_assoc at put
