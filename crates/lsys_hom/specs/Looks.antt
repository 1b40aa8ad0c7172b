-- A symbol of an image, as far as it is looked at: of a module the name and the first parameter.
use Rattle.std.specs.Prelude.{◌≡◌, ℤ, Option, Some, None, [], ◌∷◌, Result, Ok, Err}
use Rattle.lsys_syntax.specs.Strings as S
use Rattle.lsys_spec.specs.Pictures.{first_or_one}
use Rattle.lsys_module.specs.Views.{module_name}
use Rattle.lsys_hom.specs.Coming.{Coming, nothing_coming}
use Rattle.lsys_hom.specs.Refusals.{refusal_of}
use Rattle.lsys_hom.specs.declared.look.Glance.{Glance}
use Rattle.lsys_hom.specs.declared.look.Glance.TheVariants.{Push, Pop, Cut, Module}
use Rattle.lsys_hom.specs.declared.refusal.ImageRefusal.{ImageRefusal}

-- a module's first parameter alone, or 1 for it
abbrev pub in_short : S.Symbol ℤ → S.Symbol ℤ
in_short (S.Module m ps) = S.Module m (first_or_one ps ∷ [])
in_short x = x

-- the symbol that is seen so
abbrev pub looked_at : Glance → S.Symbol ℤ
looked_at Push = S.Push
looked_at Pop = S.Pop
looked_at Cut = S.Cut
looked_at (Module name first) = S.Module (module_name name) (first ∷ [])

-- The first symbol that is to come is taken, or none, and nothing is known of it.
abbrev pub IsKeptLook : Coming → Coming → Option Glance → Type 0
IsKeptLook old new (Some look) = (x : S.Symbol ℤ) × (looked_at look ≡ in_short x) × (old ≡ record { symbols = x ∷ new.symbols; refusal = new.refusal })
IsKeptLook old new None = new ≡ old

-- The first symbol that is to come is taken. At the end nothing is to come, and with a refusal nothing but it: the image stays.
abbrev pub IsNextLook : Coming → Coming → Result (Option Glance) ImageRefusal → Type 0
IsNextLook old new (Ok (Some look)) = IsKeptLook old new (Some look)
IsNextLook old new (Ok None) = (old ≡ nothing_coming) × (new ≡ old)
IsNextLook old new (Err r) = (old ≡ record { symbols = []; refusal = Some (refusal_of r) }) × (new ≡ old)
