-- The derived `==` on kinds of events compares as the kinds' numbers do.
-- Assumes nothing.
use Rattle.std.proofs.Common.{◌≡◌, refl, eqb, Option, Some, None}
use Rattle.std.specs.Option.{option_eq}
use Rattle.events.specs.Placing.{kind_number, last_number}
use Rattle.events.specs.declared.EventKind.{EventKind}
use Rattle.events.specs.declared.EventKind.TheVariants.{Binary, Int32, Int16, Float32}
use Rattle.events.specs.contracts.EventKindPartialEq.TheImpl as derived

pub same-kind : (a b : EventKind) → (derived.eq-value).it a b ≡ eqb (kind_number b) (kind_number a)
same-kind Binary Binary = refl
same-kind Binary Int32 = refl
same-kind Binary Int16 = refl
same-kind Binary Float32 = refl
same-kind Int32 Binary = refl
same-kind Int32 Int32 = refl
same-kind Int32 Int16 = refl
same-kind Int32 Float32 = refl
same-kind Int16 Binary = refl
same-kind Int16 Int32 = refl
same-kind Int16 Int16 = refl
same-kind Int16 Float32 = refl
same-kind Float32 Binary = refl
same-kind Float32 Int32 = refl
same-kind Float32 Int16 = refl
same-kind Float32 Float32 = refl

pub last-is : (o : Option EventKind) (k : EventKind) → option_eq (derived.eq-value).it o (Some k) ≡ eqb (kind_number k) (last_number o)
last-is None Binary = refl
last-is None Int32 = refl
last-is None Int16 = refl
last-is None Float32 = refl
last-is (Some a) k = same-kind a k
