-- Records in lent words: the words of a place, and the list of the records that they stand for. Any words stand for some records.
-- Assumes nothing.
use Rattle.std.specs.Prelude.{ℕ, zero, suc, ◌*◌, List, [], ◌∷◌, take, drop}

-- the n values f 0, f 1, …
unfoldable pub tab : {A : Type 0} → (ℕ → A) → ℕ → List A
tab f zero = []
tab f (suc n) = f zero ∷ tab (λ i. f (suc i)) n

-- the words of the i-th record, of k words each
unfoldable pub chunk : ℕ → ℕ → List ℕ → List ℕ
chunk k i ws = take k (drop (k * i) ws)

-- the n records of k words each, f of its words being a record
unfoldable pub records : {A : Type 0} → ℕ → (List ℕ → A) → ℕ → List ℕ → List A
records k f n ws = tab (λ i. f (chunk k i ws)) n
