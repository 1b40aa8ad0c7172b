-- The tokens of a line have their forms in one way at most.
use Rattle.std.specs.Prelude.{ℕ, Bool, List, [], ◌∷◌}
use Rattle.std.specs.Coded.{×_prop, Unit-prop, le_prop}
use Rattle.std.proofs.Props.{props}
use Rattle.lsys_syntax.specs.Tokens.{Kind, NameText, Word, Name, Number, short, long}
use Rattle.lsys_syntax.specs.Pieces.{Every, IsNameText, IsWordText}
use Rattle.lsys_syntax.specs.Strings.{EachOf}
use Rattle.lsys_syntax.specs.Sentences.{IsToken, AreTokens}

each-prop : {P : Type 0} (G : P → Type 0) → ((x : P) → IsProp (G x)) → (xs : List P) → IsProp (EachOf G xs)
each-prop G f [] = Unit-prop
each-prop G f (x ∷ xs) = ×_prop (f x) (each-prop G f xs)

every-prop : (p : ℕ → Bool) (cs : List ℕ) → IsProp (Every p cs)
every-prop p [] = Unit-prop
every-prop p (c ∷ cs) = ×_prop (Prim.hlevel props) (every-prop p cs)

word-prop : (cs : List ℕ) → IsProp (IsWordText cs)
word-prop [] = Prim.hlevel
word-prop (c ∷ cs) = Prim.hlevel (every-prop, props)

name-prop : (n : NameText) → IsProp (IsNameText n)
name-prop (short c) = Prim.hlevel props
name-prop (long c more) = Prim.hlevel (every-prop, props)

token-prop : (k : Kind) → IsProp (IsToken k)
token-prop (Word w) = word-prop w
token-prop (Name n) = name-prop n
token-prop (Number n) = le_prop
token-prop k = Unit-prop

pub tokens-prop : (ks : List Kind) → IsProp (AreTokens ks)
tokens-prop ks = each-prop IsToken token-prop ks
