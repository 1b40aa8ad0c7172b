-- What a call answers of an image, and what it leaves.
use Rattle.std.specs.Prelude.{◌≡◌, Option, Some, None, List, [], ◌∷◌, Result, Ok, Err}
use Rattle.lsys_module.specs.Views.{symbol_of}
use Rattle.lsys_module.specs.declared.symbol.Symbol.{Symbol}
use Rattle.lsys_hom.specs.Coming.{Coming, nothing_coming}
use Rattle.lsys_hom.specs.Refusals.{refusal_of}
use Rattle.lsys_hom.specs.declared.refusal.ImageRefusal.{ImageRefusal}

-- The first symbol that is to come is taken. At the end nothing is to come, and with a refusal nothing but it: the image stays.
abbrev pub IsNext : Coming → Coming → Result (Option Symbol) ImageRefusal → Type 0
IsNext old new (Ok (Some s)) = old ≡ record { symbols = symbol_of s ∷ new.symbols; refusal = new.refusal }
IsNext old new (Ok None) = (old ≡ nothing_coming) × (new ≡ old)
IsNext old new (Err r) = (old ≡ record { symbols = []; refusal = Some (refusal_of r) }) × (new ≡ old)

-- calls one after another
abbrev pub AreNext : Coming → List (Result (Option Symbol) ImageRefusal) → Coming → Type 0
AreNext old [] new = new ≡ old
AreNext old (answer ∷ answers) new = (c : Coming) × IsNext old c answer × AreNext c answers new

-- an end, or a refusal
abbrev pub IsEndOrRefusal : Result (Option Symbol) ImageRefusal → Type 0
IsEndOrRefusal (Ok (Some s)) = ⊥
IsEndOrRefusal (Ok None) = Unit {0}
IsEndOrRefusal (Err r) = Unit {0}
