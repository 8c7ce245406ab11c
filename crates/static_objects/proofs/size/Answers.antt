-- `static_objects::size` meets its contract.
-- Assumes nothing.
use mathlib.Core.Path.{sym, ap, ◌∙◌}
use Prim.Native.Nat.{◌+◌}
use Rattle.points.specs.declared.Value.{Value}
use Rattle.objects.specs.Values.{value_size}
use Rattle.static_objects.proofs.StaticLaws.{length-binary, length-analog}
use borrow.Author.Rules.{rules}
use Rattle.static_objects.proofs.size.Goals as goal

pub returns-in-Binary : goal.returns-in-Binary
returns-in-Binary c = (sym (length-binary _ _ c.in-Binary.is), search rules)

pub returns-in-Int32 : goal.returns-in-Int32
returns-in-Int32 c = (sym (length-analog _ _ _ c.in-Analog.is ∙ ap (λ (v : Value). 1 + value_size v) c.in-Int32.is), search rules)

pub returns-in-Int16 : goal.returns-in-Int16
returns-in-Int16 c = (sym (length-analog _ _ _ c.in-Analog.is ∙ ap (λ (v : Value). 1 + value_size v) c.in-Int16.is), search rules)

pub returns-in-Float32 : goal.returns-in-Float32
returns-in-Float32 c = (sym (length-analog _ _ _ c.in-Analog.is ∙ ap (λ (v : Value). 1 + value_size v) c.in-Float32.is), search rules)
