-- The lines of counts, from their front on.
use Rattle.std.proofs.Common.{◌≡◌, ◌<◌, ◌+◌, ℕ, List, [], ◌∷◌, ◌++◌, length, map, take, drop, get_or, ap, ◌∙◌, sym, append-nil}
use Rattle.std.specs.Prelude.{flat_map}
use Rattle.std.proofs.lemmas.List.{take-append-drop, map-append}
use Rattle.std.proofs.lemmas.List.Concat.{flat_map-append}
use Rattle.lsys_growth.specs.Growth.{letter_line}
use Rattle.lsys_growth.specs.Views.{count_of}
use Rattle.lsys_growth.specs.declared.answer.Count.{Count}
use Rattle.lsys_module.proofs.PrintedTexts.{map-more}

-- those up to a place and the one there
pub counts-step : (counts : List Count) (i : ℕ) (d : Count) → i < length counts → d ≡ get_or counts i d
    → flat_map letter_line (map count_of (take (i + 1) counts)) ≡ flat_map letter_line (map count_of (take i counts)) ++ letter_line (count_of d)
counts-step counts i d h e =
    ap (flat_map letter_line) (map-more count_of counts i d h e)
    ∙ flat_map-append letter_line (map count_of (take i counts)) (count_of d ∷ [])
    ∙ ap (λ t. flat_map letter_line (map count_of (take i counts)) ++ t) (append-nil (letter_line (count_of d)))

-- those up to a place, and those after it
pub counts-rest : (counts : List Count) (i : ℕ)
    → flat_map letter_line (map count_of counts) ≡ flat_map letter_line (map count_of (take i counts)) ++ flat_map letter_line (map count_of (drop i counts))
counts-rest counts i =
    ap (λ xs. flat_map letter_line (map count_of xs)) (sym (take-append-drop i counts))
    ∙ ap (flat_map letter_line) (map-append count_of (take i counts) (drop i counts))
    ∙ flat_map-append letter_line (map count_of (take i counts)) (map count_of (drop i counts))
