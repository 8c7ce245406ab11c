-- Requests of an outstation with nb binaries and na analogs, worked by the definitions.
-- Assumes nothing.
use mathlib.Core.Path.{◌≡◌, refl}
use mathlib.Core.List.{List, [], ◌∷◌, ◌++◌}
use Prim.Native.Nat.{ℕ, zero, suc}
use Rattle.octets.specs.Bytes.{value}
use Rattle.application.specs.declared.Fault.TheVariants.{ObjectUnknown, BadParameter}
use Rattle.read_headers.specs.Headers.{events_of, every_point, binaries_from, analogs_from}
use Rattle.read_headers.specs.Parse.{headers, fault, headers_of, parse}

-- the same header so many times, then more bytes
times : ℕ → List ℕ → List ℕ → List ℕ
times zero h t = t
times (suc n) h t = h ++ times n h t

-- ---- faultless

-- no headers
no-headers : parse 4 3 [] ≡ headers []
unfolding headers_of
no-headers = refl

-- 3C 02 06, 3C 01 06
classes : parse 4 3 (60 ∷ 2 ∷ 6 ∷ 60 ∷ 1 ∷ 6 ∷ []) ≡ headers (events_of 1 ∷ every_point 4 3 ∷ [])
unfolding headers_of
classes = refl

-- 01 00 06, 01 02 00 01 03, 1E 00 01 0000 0002
ranges : parse 4 3 (1 ∷ 0 ∷ 6 ∷ 1 ∷ 2 ∷ 0 ∷ 1 ∷ 3 ∷ 30 ∷ 0 ∷ 1 ∷ 0 ∷ 0 ∷ 2 ∷ 0 ∷ []) ≡ headers (binaries_from 0 4 ∷ binaries_from 1 3 ∷ analogs_from 0 3 ∷ [])
unfolding headers_of value
ranges = refl

-- no such points: 3C 01 06, 01 00 06 and 1E 00 06 ask for none; every range is a bad parameter
no-points : parse 0 0 (60 ∷ 1 ∷ 6 ∷ 1 ∷ 0 ∷ 6 ∷ 30 ∷ 0 ∷ 6 ∷ []) ≡ headers (every_point 0 0 ∷ binaries_from 0 0 ∷ analogs_from 0 0 ∷ [])
unfolding headers_of
no-points = refl

no-range : parse 0 0 (1 ∷ 0 ∷ 0 ∷ 0 ∷ 0 ∷ []) ≡ fault BadParameter
unfolding headers_of
no-range = refl

-- ---- the first fault decides

-- 3C 02 06 sixteen times, then FF FF FF: a byte after 16 headers
sixteen : parse 4 3 (times 16 (60 ∷ 2 ∷ 6 ∷ []) (255 ∷ 255 ∷ 255 ∷ [])) ≡ fault BadParameter
unfolding times headers_of
sixteen = refl

-- 3C 02 06 fifteen times, then FF FF FF: an object unknown
fifteen : parse 4 3 (times 15 (60 ∷ 2 ∷ 6 ∷ []) (255 ∷ 255 ∷ 255 ∷ [])) ≡ fault ObjectUnknown
unfolding times headers_of
fifteen = refl

-- FF FF: under 3 bytes
short : parse 4 3 (255 ∷ 255 ∷ []) ≡ fault BadParameter
unfolding headers_of
short = refl

-- 3C 01 00 00 00: qualifier
qualifier : parse 4 3 (60 ∷ 1 ∷ 0 ∷ 0 ∷ 0 ∷ []) ≡ fault BadParameter
unfolding headers_of
qualifier = refl

-- 01 02 00 00 03 FF FF FF with 3 binaries: stop no such point, and what follows is not looked at; with 4 an object unknown follows
stop : parse 3 3 (1 ∷ 2 ∷ 0 ∷ 0 ∷ 3 ∷ 255 ∷ 255 ∷ 255 ∷ []) ≡ fault BadParameter
unfolding headers_of
stop = refl

stop-below : parse 4 3 (1 ∷ 2 ∷ 0 ∷ 0 ∷ 3 ∷ 255 ∷ 255 ∷ 255 ∷ []) ≡ fault ObjectUnknown
unfolding headers_of
stop-below = refl

-- start above stop; a range cut short
start-above : parse 4 3 (1 ∷ 2 ∷ 0 ∷ 3 ∷ 2 ∷ []) ≡ fault BadParameter
unfolding headers_of
start-above = refl

cut_short : parse 4 3 (30 ∷ 0 ∷ 1 ∷ 0 ∷ 0 ∷ 2 ∷ []) ≡ fault BadParameter
unfolding headers_of
cut_short = refl

-- ---- "object" is group and variation: 1 var 1; 30 var 1, 2, 5; 60 var 0 and 5; 2 var 0; 32 var 0

unknown-object : ℕ → ℕ → Type 0
unknown-object g v = parse 4 3 (g ∷ v ∷ 6 ∷ []) ≡ fault ObjectUnknown

objects : unknown-object 1 1 × unknown-object 30 1 × unknown-object 30 2 × unknown-object 30 5
    × unknown-object 60 0 × unknown-object 60 5 × unknown-object 2 0 × unknown-object 32 0
unfolding unknown-object headers_of
objects = (refl, refl, refl, refl, refl, refl, refl, refl)
