-- A whole line at once, and the theorems that its pieces come to the same (document 02, request 101).
-- Assumes nothing.
use Rattle.std.specs.Prelude.{ℕ, zero, suc, ◌+◌, ◌-◌, ◌≤◌, ◌≡◌, cond, List, [], ◌∷◌, ◌++◌, length, take, drop, Result, Ok, Err, Some, None}
use Rattle.laws.specs.Limits.{user_max}
use Rattle.octets.specs.Bytes.{AreBytes}
use Rattle.frame.specs.FrameOutcome.{FrameOutcome, accepted, refused}
use Rattle.frame.specs.Frame.{Parts, parts, refusal_of}
use Rattle.frame.specs.declared.Frame.{Frame}
use Rattle.frame.specs.declared.FrameRefusal.{FrameRefusal}
use Rattle.frame.specs.declared.FrameRefusal.TheVariants.{OutputTooSmall}
use Rattle.receiver.specs.declared.Reception.{Reception}
use Rattle.receiver.specs.Receiver.{rule, waits, moves_on, decided_by, kept_in, PieceReceived}

-- ---- the single-frame rule at each place of the line

-- a frame or a refusal, and how many bytes of the line had come up to the one that decided, that one counted
pub record LineEvent : Type 0 where
  pub outcome : FrameOutcome Parts
  pub at : ℕ

-- what a line comes to: its frames and refusals in their order, and the bytes at its end that wait for more
pub record LineEvents : Type 0 where
  pub events : List LineEvent
  pub rest : List ℕ

abbrev pub first_then : LineEvent → LineEvents → LineEvents
first_then e x = record { events = e ∷ x.events; rest = x.rest }

-- the line from its place p on, so many bytes to be passed over before the rule is asked: the rule of all the bytes from there on, and then
-- past as many as it moves on
unfoldable pub events_from : ℕ → ℕ → List ℕ → LineEvents
events_from p pass [] = record { events = []; rest = [] }
events_from p (suc pass) (b ∷ line) = events_from (suc p) pass line
events_from p zero (b ∷ line) =
    cond (waits (b ∷ line))
    (record { events = []; rest = b ∷ line })
    (first_then (record { outcome = rule (b ∷ line); at = p + decided_by (rule (b ∷ line)) (b ∷ line) }) (events_from (suc p) (moves_on (rule (b ∷ line)) (b ∷ line) - 1) line))

abbrev pub events_of : List ℕ → LineEvents
events_of line = events_from 0 0 line

-- ---- calls

-- what a call decided, with a frame's user data out of the lent bytes
abbrev pub outcome_in : Result Frame FrameRefusal → List ℕ → FrameOutcome Parts
outcome_in (Ok f) out = accepted (parts f.control f.destination f.source (take f.len out))
outcome_in (Err why) out = refused (refusal_of why)

-- Calls of `receive` with these pieces, each on what the one before left, "the rest is given again" until it is used up; so many bytes had been
-- taken before. Their frames and refusals, 33 aside, which is of the lent output and not of the line. Each call may lend another output
pub data Receives : (n : ℕ) (memory : List ℕ) (before : ℕ) (pieces : List (List ℕ)) (events : List LineEvent) (n₁ : ℕ) (memory₁ : List ℕ) → Type 0 where
  done : {n : ℕ} {m : List ℕ} {t : ℕ} → Receives n m t [] [] n m
  uses_up : {n n₁ t : ℕ} {m m₁ m₂ out out₁ p : List ℕ} {ps : List (List ℕ)} {es : List LineEvent} {r : Reception} → PieceReceived r n m m₁ p out out₁ → r.answer ≡ None
      → Receives r.kept m₁ (t + r.taken) ps es n₁ m₂ → Receives n m t (p ∷ ps) es n₁ m₂
  answers : {n n₁ t : ℕ} {m m₁ m₂ out out₁ p : List ℕ} {ps : List (List ℕ)} {es : List LineEvent} {r : Reception} {x : Result Frame FrameRefusal} → PieceReceived r n m m₁ p out out₁ → r.answer ≡ Some x
      → (x ≡ Err OutputTooSmall → ⊥) → Receives r.kept m₁ (t + r.taken) (drop r.taken p ∷ ps) es n₁ m₂
      → Receives n m t (p ∷ ps) (record { outcome = outcome_in x out₁; at = t + r.taken } ∷ es) n₁ m₂
  refuses33 : {n n₁ t : ℕ} {m m₁ m₂ out out₁ p : List ℕ} {ps : List (List ℕ)} {es : List LineEvent} {r : Reception} → PieceReceived r n m m₁ p out out₁
      → r.answer ≡ Some (Err OutputTooSmall) → Receives r.kept m₁ (t + r.taken) (drop r.taken p ∷ ps) es n₁ m₂ → Receives n m t (p ∷ ps) es n₁ m₂

-- the bytes of the pieces, one behind the other
abbrev pub joined : List (List ℕ) → List ℕ
joined [] = []
joined (p ∷ ps) = p ++ joined ps

-- The calls give what the rule says at each place of the whole line, which is what was kept before them and the pieces' bytes; and what is kept
-- after them is the end of that line
unfoldable pub ReceivesTheLine : Type 0
ReceivesTheLine =
    (n n₁ : ℕ) (m m₁ : List ℕ) (ps : List (List ℕ)) (es : List LineEvent) → AreBytes (kept_in n m ++ joined ps) → Receives n m (length (kept_in n m)) ps es n₁ m₁
    → (es ≡ (events_of (kept_in n m ++ joined ps)).events) × (kept_in n₁ m₁ ≡ (events_of (kept_in n m ++ joined ps)).rest)

-- "However the line is cut into pieces, the frames, refusals (33 aside) and end state are the same": from receivers that keep the same bytes
unfoldable pub CutAlike : Type 0
CutAlike =
    (n n₁ k k₁ : ℕ) (m m₁ l l₁ : List ℕ) (ps qs : List (List ℕ)) (es fs : List LineEvent) → kept_in n m ≡ kept_in k l → joined ps ≡ joined qs
    → AreBytes (kept_in n m ++ joined ps) → Receives n m (length (kept_in n m)) ps es n₁ m₁ → Receives k l (length (kept_in k l)) qs fs k₁ l₁
    → (es ≡ fs) × (kept_in n₁ m₁ ≡ kept_in k₁ l₁)

-- ---- the calls come to an end

-- With 250 bytes lent, a call takes no more bytes than there are; where it waits it has taken all of them, and where it decides at least one:
-- so a piece takes at most one call for each of its bytes, and one more
unfoldable pub Progresses : Type 0
Progresses =
    (r : Reception) (n : ℕ) (m m₁ p out out₁ : List ℕ) → PieceReceived r n m m₁ p out out₁ → user_max ≤ length out
    → (r.taken ≤ length p) × (r.answer ≡ None → r.taken ≡ length p) × ((x : Result Frame FrameRefusal) → r.answer ≡ Some x → 1 ≤ r.taken)

-- pieces that are received to the end
pub record ReceivedWhole (n : ℕ) (m : List ℕ) (t : ℕ) (ps : List (List ℕ)) : Type 0 where
  pub events : List LineEvent
  pub kept : ℕ
  pub memory : List ℕ
  pub calls : Receives n m t ps events kept memory

-- Any pieces are, from any memory, where each call is lent 250 bytes or more
unfoldable pub ReceivesEnd : Type 0
ReceivesEnd =
    (call : ℕ → List ℕ → List ℕ → Reception) (after lent written : ℕ → List ℕ → List ℕ → List ℕ)
    → ((n : ℕ) (m p : List ℕ) → user_max ≤ length (lent n m p))
    → ((n : ℕ) (m p : List ℕ) → PieceReceived (call n m p) n m (after n m p) p (lent n m p) (written n m p))
    → (n t : ℕ) (m : List ℕ) (ps : List (List ℕ)) → ReceivedWhole n m t ps
