-- Worked examples, by computation: the five sizes of document 01, the standard's header with its check, written and read, and wrong blocks.
-- Assumes nothing.
use mathlib.Core.Path.{◌≡◌, refl}
use mathlib.Core.List.{List, [], ◌∷◌}
use Prim.Native.Nat.{ℕ}
use Rattle.octets.specs.Bytes.{le, value}
use Rattle.crc.specs.Check.{shift_of, shifts, byte_in, remainder, check_of}
use Rattle.laws.specs.Limits.{user_max}
use Rattle.frame.specs.FrameOutcome.{wrong_block, accepted, refused}
use Rattle.frame.specs.Frame.{parts, frame_size, with_crc, blocks, link_header, encode, without_crc, crc_ok, first_wrong, users, decode_body, decode}

sizes : (frame_size 0 ≡ 10) × (frame_size 1 ≡ 13) × (frame_size 16 ≡ 28) × (frame_size 17 ≡ 31) × (frame_size 250 ≡ 292)
sizes = (refl, refl, refl, refl, refl)

reset-link : List ℕ
reset-link = 0x05 ∷ 0x64 ∷ 0x05 ∷ 0xC0 ∷ 0x01 ∷ 0x00 ∷ 0x00 ∷ 0x04 ∷ 0xE9 ∷ 0x21 ∷ []

written : encode (parts 0xC0 1 1024 []) ≡ reset-link
unfolding reset-link encode with_crc link_header blocks le check_of remainder byte_in shifts shift_of
written = refl

read : decode user_max reset-link ≡ accepted (parts 0xC0 1 1024 [])
unfolding reset-link decode decode_body without_crc crc_ok first_wrong users value check_of remainder byte_in shifts shift_of
read = refl

-- a published READ with one bit of its only block turned, and 17 user bytes with one bit of the second block turned
damaged-read : List ℕ
damaged-read = 0x05 ∷ 0x64 ∷ 0x14 ∷ 0xF3 ∷ 0x01 ∷ 0x00 ∷ 0x00 ∷ 0x04 ∷ 0x0A ∷ 0x3B ∷ 0xC1 ∷ 0xC3 ∷ 0x01 ∷ 0x3C ∷ 0x02 ∷ 0x06 ∷ 0x3C ∷ 0x03 ∷ 0x06 ∷ 0x3C ∷ 0x04 ∷ 0x06 ∷ 0x3C ∷ 0x01 ∷ 0x06 ∷ 0x9A ∷ 0x12 ∷ []

damaged-second : List ℕ
damaged-second = 0x05 ∷ 0x64 ∷ 0x16 ∷ 0xC4 ∷ 0x03 ∷ 0x00 ∷ 0x00 ∷ 0x04 ∷ 0xC9 ∷ 0x8E ∷ 0x05 ∷ 0x0C ∷ 0x13 ∷ 0x1A ∷ 0x21 ∷ 0x28 ∷ 0x2F ∷ 0x36 ∷ 0x3D ∷ 0x44 ∷ 0x4B ∷ 0x52 ∷ 0x59 ∷ 0x60 ∷ 0x67 ∷ 0x6E ∷ 0xB4 ∷ 0x2F ∷ 0x74 ∷ 0x43 ∷ 0xD8 ∷ []

refused-0 : decode user_max damaged-read ≡ refused (wrong_block 0)
unfolding damaged-read decode decode_body without_crc crc_ok first_wrong users value check_of remainder byte_in shifts shift_of
refused-0 = refl

refused-1 : decode user_max damaged-second ≡ refused (wrong_block 1)
unfolding damaged-second decode decode_body without_crc crc_ok first_wrong users value check_of remainder byte_in shifts shift_of
refused-1 = refl
