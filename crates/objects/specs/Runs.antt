-- The objects of a response: "neighbours of one kind under one header". Said once for event and static objects.
-- Assumes nothing.
use Rattle.std.specs.Prelude.{ℕ, suc, ◌+◌, Bool, false, cond, List, [], ◌∷◌, ◌++◌, eqb, length}

-- an object: its kind (a group and variation), its index, and its bytes after the header
pub record Object : Type 0 where
  pub kind : ℕ
  pub index : ℕ
  pub bytes : List ℕ

-- ---- "neighbours of one kind": runs, each as long as can be

-- the run begins with an object of the same kind
abbrev pub alike : Object → List Object → Bool
alike x [] = false
alike x (y ∷ r) = eqb y.kind x.kind

-- an object in front of runs: it joins the first run if it is of its kind, else it is a run of its own
abbrev pub join : Object → List (List Object) → List (List Object)
join x [] = (x ∷ []) ∷ []
join x (r ∷ rs) = cond (alike x r) ((x ∷ r) ∷ rs) ((x ∷ []) ∷ r ∷ rs)

unfoldable pub runs : List Object → List (List Object)
runs [] = []
runs (x ∷ xs) = join x (runs xs)

-- ---- "under one header": it is made of the kind, the first index and the number of objects of its run

abbrev pub Heading : Type 0
Heading = ℕ → ℕ → ℕ → List ℕ

unfoldable pub object_bytes : List Object → List ℕ
object_bytes [] = []
object_bytes (x ∷ xs) = x.bytes ++ object_bytes xs

abbrev pub run_bytes : Heading → List Object → List ℕ
run_bytes head [] = []
run_bytes head (x ∷ xs) = head x.kind x.index (length (x ∷ xs)) ++ object_bytes (x ∷ xs)

unfoldable pub all_bytes : Heading → List (List Object) → List ℕ
all_bytes head [] = []
all_bytes head (r ∷ rs) = run_bytes head r ++ all_bytes head rs

unfoldable pub encoded : Heading → List Object → List ℕ
encoded head xs = all_bytes head (runs xs)

-- ---- the same, an object at a time, after one of the kind `last` (0: after none)

-- how many objects of the kind stand in front
unfoldable pub lead : ℕ → List Object → ℕ
lead k [] = 0
lead k (x ∷ xs) = cond (eqb x.kind k) (suc (lead k xs)) 0

unfoldable pub following : Heading → ℕ → List Object → List ℕ
following head last [] = []
following head last (x ∷ xs) =
    (cond (eqb x.kind last) [] (head x.kind x.index (suc (lead x.kind xs))) ++ x.bytes) ++ following head x.kind xs

-- the bytes that they take, with headers of h bytes
unfoldable pub size_after : ℕ → ℕ → List Object → ℕ
size_after h last [] = 0
size_after h last (x ∷ xs) = cond (eqb x.kind last) 0 h + length x.bytes + size_after h x.kind xs
