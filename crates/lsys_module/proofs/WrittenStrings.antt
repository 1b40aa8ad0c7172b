-- A printed string is the spelling of what it would be written as, and is read as that.
use Rattle.std.proofs.Common.{◌≡◌, ℕ, ℤ, true, Some, List, [], ◌∷◌, ◌++◌, map, refl, ap, ◌∙◌, sym, arith}
use Rattle.lsys_syntax.specs.Tokens.{long, LeftBracket, RightBracket, Percent, RightParen, LeftParen, Comma}
use Rattle.lsys_syntax.specs.Pieces.{token, note, a_symbol, a_param, kinds_of}
use Rattle.lsys_syntax.specs.Strings.{Symbol, Module, Push, Pop, Cut, ModuleName, named, Signed, signed_of, signed_pieces, value_pieces, more_pieces, params_pieces, ends_in_name, begins_with_letter, string_pieces, balanced, AreSymbols, string_text}
use Rattle.lsys_syntax.specs.Commands.{set_axiom, command_pieces, IsCommand}
use Rattle.lsys_syntax.specs.LineMachine.{InAxiom, Symbols, verdict, verdict_from, sentence}
use Rattle.lsys_syntax.proofs.LineReads.{kinds-placed}
use Rattle.lsys_syntax.proofs.StringsRead.{string_law}
use Rattle.lsys_syntax.proofs.LineComplete.{command-sentence}
use Rattle.lsys_spec.specs.Systems.{written}
use Rattle.lsys_spec.proofs.ShownBack.{written-symbols, written-balanced}
use Rattle.lsys_module.specs.ReadBack.{tokens_verdict, text_verdict}
use Rattle.lsys_module.proofs.Spelled.{after-string, sentence-anywhere}

more-written : (zs : List ℤ) → more_pieces value_pieces zs ≡ more_pieces signed_pieces (map signed_of zs)
more-written [] = refl
more-written (z ∷ zs) = ap (λ ps. token Comma ∷ note a_param ∷ (value_pieces z ++ ps)) (more-written zs)

params-written : (zs : List ℤ) → params_pieces value_pieces zs ≡ params_pieces signed_pieces (map signed_of zs)
params-written [] = refl
params-written (z ∷ zs) = ap (λ ps. token LeftParen ∷ note a_param ∷ (value_pieces z ++ (ps ++ token RightParen ∷ []))) (more-written zs)

begins-written : (xs : List (Symbol ℤ)) → begins_with_letter xs ≡ begins_with_letter (written xs)
begins-written [] = refl
begins-written (Module n zs ∷ xs) = refl
begins-written (Push ∷ xs) = refl
begins-written (Pop ∷ xs) = refl
begins-written (Cut ∷ xs) = refl

ends-written : (n : ModuleName) (zs : List ℤ) → ends_in_name {P = ℤ} (Module n zs) ≡ ends_in_name {P = Signed} (Module n (map signed_of zs))
ends-written (named (long c more)) [] = refl
ends-written (named (long c more)) (z ∷ zs) = refl
ends-written n zs = refl

-- the values are printed as they would be written
string-written : (xs : List (Symbol ℤ)) → string_pieces value_pieces xs ≡ string_pieces signed_pieces (written xs)
string-written [] = refl
string-written (Module n zs ∷ xs) = rw (params-written zs, ends-written n zs, begins-written xs, string-written xs) refl
string-written (Push ∷ xs) = ap (λ ps. note a_symbol ∷ token LeftBracket ∷ ps) (string-written xs)
string-written (Pop ∷ xs) = ap (λ ps. note a_symbol ∷ token RightBracket ∷ ps) (string-written xs)
string-written (Cut ∷ xs) = ap (λ ps. note a_symbol ∷ token Percent ∷ ps) (string-written xs)

-- the spelling of a string is the sentence of it
spelled-string : (place : ℕ) (xs : List (Symbol Signed)) → IsCommand (set_axiom xs) → verdict_from place (InAxiom (Symbols [])) (kinds_of (string_pieces signed_pieces xs)) ≡ sentence (set_axiom xs)
spelled-string place xs g =
    let line : verdict (kinds_of (command_pieces (set_axiom xs))) ≡ sentence (set_axiom xs) = command-sentence (set_axiom xs) g (omega arith) in
    let after : verdict_from 1 (InAxiom (Symbols [])) (kinds_of (string_pieces signed_pieces xs)) ≡ sentence (set_axiom xs) =
    ap (verdict_from 1 (InAxiom (Symbols []))) (sym (after-string xs)) ∙ line in
    sentence-anywhere (kinds_of (string_pieces signed_pieces xs)) 1 place (InAxiom (Symbols [])) (set_axiom xs) after

-- A printed string is read as what it would be written as.
pub string-read : (xs : List (Symbol ℤ)) (start place : ℕ) → AreSymbols xs → balanced 0 xs ≡ true → text_verdict start place (string_text xs) ≡ Some (sentence (set_axiom (written xs)))
string-read xs start place g b =
    ap (tokens_verdict place) (string_law xs start g)
    ∙ ap (λ ks. Some (verdict_from place (InAxiom (Symbols [])) ks)) (kinds-placed (string_pieces value_pieces xs) start ∙ ap kinds_of (string-written xs))
    ∙ ap Some (spelled-string place (written xs) (written-symbols xs g, written-balanced 0 xs b))
