-- Worked examples, by computation: noise before a frame, a frame in two pieces, a wrong block and what follows it.
-- Assumes nothing.
use mathlib.Core.Path.{◌≡◌, refl}
use mathlib.Core.List.{List, [], ◌∷◌, ◌++◌}
use Prim.Native.Nat.{ℕ}
use lib.ListN.{take, drop}
use Rattle.octets.specs.Bytes.{value}
use Rattle.crc.specs.Check.{shift_of, shifts, byte_in, remainder, check_of}
use Rattle.frame.specs.FrameOutcome.{wrong_block, accepted, refused, refused_by}
use Rattle.frame.specs.Frame.{Parts, parts, without_crc, crc_ok, first_wrong, users, decode_body, decode}
use Rattle.receiver.specs.Receiver.{waits, decided, used_up, goes_over}
use Rattle.receiver.specs.Line.{events_from, events_of}

-- the standard's header with its check, as in `frame`
reset-link : List ℕ
reset-link = 0x05 ∷ 0x64 ∷ 0x05 ∷ 0xC0 ∷ 0x01 ∷ 0x00 ∷ 0x00 ∷ 0x04 ∷ 0xE9 ∷ 0x21 ∷ []

reset : Parts
reset = parts 0xC0 1 1024 []

-- a published READ with one bit of its only block turned
damaged-read : List ℕ
damaged-read = 0x05 ∷ 0x64 ∷ 0x14 ∷ 0xF3 ∷ 0x01 ∷ 0x00 ∷ 0x00 ∷ 0x04 ∷ 0x0A ∷ 0x3B ∷ 0xC1 ∷ 0xC3 ∷ 0x01 ∷ 0x3C ∷ 0x02 ∷ 0x06 ∷ 0x3C ∷ 0x03 ∷ 0x06 ∷ 0x3C ∷ 0x04 ∷ 0x06 ∷ 0x3C ∷ 0x01 ∷ 0x06 ∷ 0x9A ∷ 0x12 ∷ []

-- a frame in two pieces: the first five bytes are kept
first_piece : goes_over [] (take 5 reset-link) ≡ used_up 5 (take 5 reset-link)
unfolding reset-link goes_over waits decode decode_body without_crc crc_ok first_wrong users value check_of remainder byte_in shifts shift_of
first_piece = refl

second-piece : goes_over (take 5 reset-link) (drop 5 reset-link) ≡ record { outcome = decided (accepted reset); taken = 5; kept = [] }
unfolding reset-link reset goes_over waits decode decode_body without_crc crc_ok first_wrong users value check_of remainder byte_in shifts shift_of
second-piece = refl

-- nine bytes wait whatever they are; the tenth gives 12, and nine stay
noise : goes_over (0xFF ∷ take 8 reset-link) (drop 8 reset-link) ≡ record { outcome = decided (refused_by 12); taken = 1; kept = take 9 reset-link }
unfolding reset-link goes_over waits decode decode_body without_crc crc_ok first_wrong users value check_of remainder byte_in shifts shift_of
noise = refl

-- noise and then a frame: 12 by the tenth byte, the frame by the eleventh
after_noise : events_of (0xFF ∷ reset-link) ≡ record { events = record { outcome = refused_by 12; at = 10 } ∷ record { outcome = accepted reset; at = 11 } ∷ []; rest = [] }
unfolding reset-link reset events_from waits decode decode_body without_crc crc_ok first_wrong users value check_of remainder byte_in shifts shift_of
after_noise = refl

-- a wrong block: 15 with block 0 by the frame's last byte, and the next frame is behind its stated size
after-15 : events_of (damaged-read ++ reset-link) ≡ record { events = record { outcome = refused (wrong_block 0); at = 27 } ∷ record { outcome = accepted reset; at = 37 } ∷ []; rest = [] }
unfolding reset-link reset damaged-read events_from waits decode decode_body without_crc crc_ok first_wrong users value check_of remainder byte_in shifts shift_of
after-15 = refl
