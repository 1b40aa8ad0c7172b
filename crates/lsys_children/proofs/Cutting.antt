-- How many branches are open in what is being cut off.
use Rattle.std.proofs.Common.{◌+◌, ◌<◌, ◌≤◌, ℕ, zero, suc, Option, Some, None, arith}
use Rattle.std.specs.Prelude.{IfSome}
use Rattle.lsys_spec.specs.Draws.{number_base}
use Rattle.lsys_module.specs.Views.{symbol_of}
use Rattle.lsys_module.specs.declared.symbol.Symbol.{Symbol}
use Rattle.lsys_module.specs.declared.symbol.Symbol.TheVariants as symbols
use Rattle.lsys_rewrite.specs.Cutting.{next_cutting}

-- no more than symbols came
pub depth_after : (o : Option ℕ) (s : Symbol) (n : ℕ) → IfSome o (λ b. b ≤ n) → IfSome (next_cutting o (symbol_of s)) (λ b. b ≤ n + 1)
depth_after None symbols.Push n h = tt
depth_after None symbols.Pop n h = tt
depth_after None symbols.Cut n h = omega arith
depth_after None (symbols.Module v) n h = tt
depth_after (Some zero) symbols.Push n h = omega (arith, h)
depth_after (Some zero) symbols.Pop n h = tt
depth_after (Some zero) symbols.Cut n h = omega (arith, h)
depth_after (Some zero) (symbols.Module v) n h = omega (arith, h)
depth_after (Some (suc b)) symbols.Push n h = omega (arith, h)
depth_after (Some (suc b)) symbols.Pop n h = omega (arith, h)
depth_after (Some (suc b)) symbols.Cut n h = omega (arith, h)
depth_after (Some (suc b)) (symbols.Module v) n h = omega (arith, h)

pub depth_fits : (o : Option ℕ) (n : ℕ) → IfSome o (λ b. b ≤ n) → n ≤ number_base → IfSome o (λ b. b < 18446744073709551615)
depth_fits None n h l = tt
depth_fits (Some b) n h l = omega (arith, h, l)
