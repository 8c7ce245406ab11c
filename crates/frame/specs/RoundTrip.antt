-- The round trips of frames, about the calls: what is written is read again, and what is read is written back to the same bytes.
-- Assumes nothing.
use Rattle.std.specs.Prelude.{ℕ, ◌≤◌, ◌<◌, ◌≡◌, List, length, take, Result, Ok}
use Rattle.laws.specs.Limits.{user_max, frame_max}
use Rattle.octets.specs.Bytes.{splice, AreBytes}
use Rattle.frame.specs.declared.Frame.{Frame}
use Rattle.frame.specs.declared.FrameRefusal.{FrameRefusal}
use Rattle.frame.specs.declared.WriteRefusal.{WriteRefusal}
use Rattle.frame.specs.Frame.{Parts, parts, frame_size, FrameWritten, FrameRead}

-- What `write_frame` left in the lent bytes is accepted by `read_frame` with the very fields, and the user data is in the bytes lent to
-- it. Addresses have two bytes; 250 bytes are lent to the reader
unfoldable pub WrittenIsRead : Type 0
WrittenIsRead =
    (w : Result ℕ WriteRefusal) (r : Result Frame FrameRefusal) (f : Parts) (lent written out user : List ℕ) (n : ℕ)
    → f.destination < 65536 → f.source < 65536
    → FrameWritten w f lent written → w ≡ Ok n
    → user_max ≤ length out → FrameRead r written out user
    → (r ≡ Ok (record { control = f.control; destination = f.destination; source = f.source; len = length f.user })) × (user ≡ splice out 0 f.user)

-- What `read_frame` accepts has at most 250 user bytes, and `write_frame` accepts it and writes the very bytes that were read.
-- 292 bytes are lent to the writer
unfoldable pub ReadIsWritten : Type 0
ReadIsWritten =
    (r : Result Frame FrameRefusal) (w : Result ℕ WriteRefusal) (s out user lent written : List ℕ) (control destination source n : ℕ)
    → AreBytes s → FrameRead r s out user → r ≡ Ok (record { control = control; destination = destination; source = source; len = n })
    → frame_max ≤ length lent → FrameWritten w (parts control destination source (take n user)) lent written
    → (n ≤ user_max) × (w ≡ Ok (frame_size n)) × (take (frame_size n) written ≡ take (frame_size n) s)
