-- Printed strings, read again.
use Rattle.std.specs.Prelude.{◌≡◌, ℕ, ℤ, zero, true, List, [], map, Option, Some, None, Result, Ok, Err}
use Rattle.lsys_syntax.specs.Tokens.{Token, Modules, tokens_from}
use Rattle.lsys_syntax.specs.Strings.{AreSymbols, Symbol, balanced, string_text}
use Rattle.lsys_syntax.specs.Commands.{set_axiom}
use Rattle.lsys_syntax.specs.LineMachine.{InAxiom, Symbols, Verdict, sentence, verdict_from}
use Rattle.lsys_spec.specs.Systems.{written}

-- the verdict on tokens, of which the first one has this number in its line, read as a string
abbrev pub tokens_verdict : ℕ → Result (List Token) ℕ → Option Verdict
tokens_verdict place (Ok tokens) = Some (verdict_from place (InAxiom (Symbols [])) (map (λ t. t.kind) tokens))
tokens_verdict place (Err column) = None

-- a text after so many bytes and tokens of a line, read as names and then as a string
abbrev pub text_verdict : ℕ → ℕ → List ℕ → Option Verdict
text_verdict start place text = tokens_verdict place (tokens_from Modules zero start text)

-- The text of a string whose brackets are balanced is read as that string, wherever it stands in a line of names.
abbrev pub PrintedStringsAreRead : Type 0
PrintedStringsAreRead =
    (symbols : List (Symbol ℤ)) (start place : ℕ)
    → AreSymbols symbols
    → balanced 0 symbols ≡ true
    → text_verdict start place (string_text symbols) ≡ Some (sentence (set_axiom (written symbols)))
