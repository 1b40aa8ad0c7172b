-- A line by its parts: what the functions that read a command answer.
use Rattle.std.specs.Prelude.{◌≡◌, ℕ, Option, Some, None, Result, Ok, Err, List, [], ◌∷◌, drop, map, Vec}
use Rattle.std.specs.declared.alloc.Global.{Global}
use Rattle.lsys_syntax.specs.Tokens.{Kind, Word, Number}
use Rattle.lsys_syntax.specs.Strings.{ModuleName}
use Rattle.lsys_syntax.specs.Commands.{Command}
use Rattle.lsys_syntax.specs.RuleMachine as rules
use Rattle.lsys_syntax.specs.LineMachine.{State, Listed, InNames, listing, Whole, Verdict, sentence, stops, too_deep, verdict_from, finish, line_step, word_step, number_step}
use Rattle.lsys_module.specs.Views.{module_name}
use Rattle.lsys_syntax.specs.RulePoints.{Here}
use Rattle.lsys_reading.specs.declared.refusal.PartRefusal.{PartRefusal}
use Rattle.lsys_reading.specs.declared.refusal.PartRefusal.TheVariants.{Token, Deep, Memory}

-- the verdict on the tokens of a line from number at on, read from a state on
abbrev pub line_at : List Kind → ℕ → State → Verdict
line_at ks at s = verdict_from at s (drop at ks)

-- the line is refused there; lack of memory says nothing
abbrev pub IsRefused : List Kind → ℕ → State → PartRefusal → Type 0
IsRefused ks at s (Token place) = line_at ks at s ≡ stops place
IsRefused ks at s (Deep place) = line_at ks at s ≡ too_deep place
IsRefused ks at s Memory = Unit {0}

-- A part of a line, read from place at and the state s on: where it ends, and the state after it.
abbrev pub IsPart : {A : Type 0} → List Kind → ℕ → State → (A → ℕ) → (A → State) → Result A PartRefusal → Type 0
IsPart ks at s end q (Ok a) = line_at ks at s ≡ line_at ks (end a) (q a)
IsPart ks at s end q (Err e) = IsRefused ks at s e

-- The rest of a line, read from place at and the state s on: its command.
abbrev pub IsRest : {A : Type 0} → List Kind → ℕ → State → (A → Command) → Result A PartRefusal → Type 0
IsRest ks at s f (Ok a) = line_at ks at s ≡ sentence (f a)
IsRest ks at s f (Err e) = IsRefused ks at s e

-- 1. one token

abbrev pub word_in : Kind → Option (List ℕ)
word_in (Word w) = Some w
word_in k = None

abbrev pub numeral_in : Kind → Option ℕ
numeral_in (Number n) = Some n
numeral_in k = None

abbrev pub name_of_sign : rules.Sign → Option ModuleName
name_of_sign (rules.a_name n) = Some n
name_of_sign s = None

abbrev pub name_in : Kind → Option ModuleName
name_in k = name_of_sign (rules.sign_of k)

-- what the first token is
abbrev pub at_front : {A : Type 0} → (Kind → Option A) → List Kind → Option A
at_front f [] = None
at_front f (k ∷ ks) = f k

-- the token there is this word; or there is none
abbrev pub IsWord : List Kind → ℕ → Result (List ℕ) PartRefusal → Type 0
IsWord ks at (Ok w) = Here ks at (Word w)
IsWord ks at (Err (Token place)) = (place ≡ at) × (at_front word_in (drop at ks) ≡ None)
IsWord ks at (Err e) = ⊥

abbrev pub IsNumber : List Kind → ℕ → Result ℕ PartRefusal → Type 0
IsNumber ks at (Ok n) = Here ks at (Number n)
IsNumber ks at (Err (Token place)) = (place ≡ at) × (at_front numeral_in (drop at ks) ≡ None)
IsNumber ks at (Err e) = ⊥

-- the token there is the name of a module
abbrev pub IsName : List Kind → ℕ → Result (List ℕ) PartRefusal → Type 0
IsName ks at (Ok x) = (k : Kind) × Here ks at k × (name_in k ≡ Some (module_name x))
IsName ks at (Err (Token place)) = (place ≡ at) × (at_front name_in (drop at ks) ≡ None)
IsName ks at (Err e) = ⊥

-- the line ends there; or another token stands there
abbrev pub IsEnd : List Kind → ℕ → Result (Unit {0}) PartRefusal → Type 0
IsEnd ks at (Ok done) = drop at ks ≡ []
IsEnd ks at (Err (Token place)) = (place ≡ at) × ((k : Kind) × Here ks at k)
IsEnd ks at (Err e) = ⊥

-- 2. states in which a word or a number is due, alone or before others

-- a word is due, which leads to another state
pub record WordDue (s : State) (f : List ℕ → State) : Type 0 where
  pub step : (k : Kind) → line_step s k ≡ word_step f k
  pub none : finish s ≡ None

-- the last token of a command is due
pub record LastWordDue (s : State) (f : List ℕ → Command) : Type 0 where
  pub step : (k : Kind) → line_step s k ≡ word_step (λ w. Whole (f w)) k
  pub none : finish s ≡ None

pub record LastNumberDue (ks : List Kind) (s : State) (f : ℕ → Command) : Type 0 where
  pub step : (k : Kind) → line_step s k ≡ number_step (λ n. Whole (f n)) k
  pub none : drop 1 ks ≡ [] → finish s ≡ None

abbrev pub IsLastWord : List Kind → Result (List ℕ) PartRefusal → Type 0
IsLastWord ks result = (s : State) (f : List ℕ → Command) → LastWordDue s f → IsRest ks 1 s f result

abbrev pub IsLastNumber : List Kind → Result ℕ PartRefusal → Type 0
IsLastNumber ks result = (s : State) (f : ℕ → Command) → LastNumberDue ks s f → IsRest ks 1 s f result

-- 3. names, up to the line's end, whichever they are

abbrev pub AreNames : List Kind → ℕ → Result (Vec (List ℕ) Global) PartRefusal → Type 0
AreNames ks at result = (g : Listed) → IsRest ks at (InNames g []) (λ xs. listing g (map module_name xs.items)) result
