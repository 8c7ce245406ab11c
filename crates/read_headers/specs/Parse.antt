-- All object headers of a READ, "0 to 16 headers", or the first fault.
-- Assumes nothing.
use Rattle.std.specs.Prelude.{ℕ, zero, suc, Bool, false, Option, Some, None, Result, Ok, Err, List, [], ◌∷◌, eqb, drop}
use Rattle.laws.specs.Lists.{some}
use Rattle.application.specs.declared.Fault.{Fault}
use Rattle.application.specs.declared.Fault.TheVariants.{BadParameter}
use Rattle.read_headers.specs.Headers.{front_header}
use Rattle.read_headers.specs.declared.Header.{Header}
use Rattle.read_headers.specs.declared.Front.{Front}

abbrev pub headers_max : ℕ
headers_max = 16

-- what is asked for, or the fault; "A fault returns no objects"
pub data Parsed : Type 0 where
  headers : List Header → Parsed
  fault : Fault → Parsed

abbrev pub fault_in : Parsed → Option Fault
fault_in (headers hs) = None
fault_in (fault f) = Some f

abbrev pub headers_in : Parsed → List Header
headers_in (headers hs) = hs
headers_in (fault f) = []

-- one header more, in front
abbrev pub also : Header → Parsed → Parsed
also h (headers hs) = headers (h ∷ hs)
also h (fault f) = fault f

-- by what the header at the front is
abbrev pub by_front : Result Front Fault → (Header → ℕ → Parsed) → Parsed
by_front (Ok x) more = more x.header x.size
by_front (Err f) more = fault f

-- "Left to right, the first fault decides", with k headers still allowed; "any byte after 16 headers 2.2"
unfoldable pub headers_of : ℕ → ℕ → ℕ → List ℕ → Parsed
headers_of nb na zero [] = headers []
headers_of nb na zero (b ∷ bs) = fault BadParameter
headers_of nb na (suc k) [] = headers []
headers_of nb na (suc k) (b ∷ bs) =
    by_front (front_header nb na (b ∷ bs)) (λ h n. also h (headers_of nb na k (drop n (b ∷ bs))))

-- of the bytes after control and function, where there are nb binaries and na analogs
abbrev pub parse : ℕ → ℕ → List ℕ → Parsed
parse nb na s = headers_of nb na headers_max s

-- it is this class
abbrev pub is_class : ℕ → Option ℕ → Bool
is_class c None = false
is_class c (Some x) = eqb x c

-- events of the class are asked for by one of the headers
unfoldable pub asks_for : ℕ → List Header → Bool
asks_for c hs = some (λ (h : Header). is_class c h.class) hs
