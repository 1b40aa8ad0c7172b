-- A symbol is looked at where nothing is left of an image of one symbol.
use Rattle.std.proofs.Common.{◌≡◌, Option, Some, None, [], ◌∷◌, ◌++◌, ap, sym, ◌∙◌}
use Rattle.lsys_hom.specs.Coming.{Coming}
use Rattle.lsys_hom.specs.Looks.{IsKeptLook}
use Rattle.lsys_hom.specs.Parts.{symbols_of}
use Rattle.lsys_hom.specs.Ways.{with_part}
use Rattle.lsys_hom.specs.declared.look.Glance.{Glance}
use Rattle.lsys_hom.specs.declared.part.Part.{Part}

module _ (part : Part) (over : symbols_of part ≡ []) where
  alone : (c : Coming) → with_part part c ≡ c
  alone c = ap (λ xs. record { symbols = xs ++ c.symbols; refusal = c.refusal }) over

  pub kept_after : (old new : Coming) (r : Option Glance) → IsKeptLook old new r → IsKeptLook (with_part part old) (with_part part new) r
  kept_after old new (Some look) h = (h.0, h.1, alone old ∙ h.2 ∙ ap (λ d. record { symbols = h.0 ∷ d.symbols; refusal = d.refusal }) (sym (alone new)))
  kept_after old new None h = ap (with_part part) h
