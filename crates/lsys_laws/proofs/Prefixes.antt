-- Which texts begin with a word and a blank.
use Rattle.std.proofs.Common.{◌≡◌, ℕ, Bool, true, false, ◌&&◌, ◌==◌, List, [], ◌∷◌, ◌++◌, refl, ap, ◌∙◌, arith, ℤ, true≢false, sym}
use Rattle.std.proofs.lemmas.Bool.Decides.{nat_tests}
use Rattle.lsys_syntax.specs.Tokens.{short, long, is_letter}
use Rattle.lsys_syntax.specs.Pieces.{Every}
use Rattle.lsys_syntax.specs.Strings.{ModuleName, named, plus, minus, ampersand, caret, backslash, slash, bar, bang, IsModuleName}
use Rattle.lsys_syntax.proofs.Bytes.{differs}
use Rattle.lsys_spec.specs.Systems.{Each}
use Rattle.lsys_spec.specs.Levels.{LevelSymbol, Push, Pop, Module}
use Rattle.lsys_spec.specs.Output.{IsFront}
use Rattle.lsys_spec.specs.Shown.{level_text}
use Rattle.lsys_spec.proofs.Names.{NamedSymbol}

-- the second text begins with the first
abbrev pub begins : List ℕ → List ℕ → Bool
begins [] ys = true
begins (x ∷ xs) [] = false
begins (x ∷ xs) (y ∷ ys) = (x == y) && begins xs ys

same_byte : (x : ℕ) (b : Bool) → b ≡ true → ((x == x) && b) ≡ true
same_byte x b h = grind (arith, nat_tests)

begins_itself : (xs more : List ℕ) → begins xs (xs ++ more) ≡ true
begins_itself [] more = refl
begins_itself (x ∷ xs) more = same_byte x (begins xs (xs ++ more)) (begins_itself xs more)

pub no_front : (xs ys : List ℕ) → begins xs ys ≡ false → IsFront xs ys → ⊥
no_front xs ys h f = true≢false (sym (begins_itself xs f.0) ∙ ap (begins xs) (sym f.1) ∙ h)

first_false : (a b : Bool) → a ≡ false → (a && b) ≡ false
first_false true b h = cc
first_false false b h = refl

second_false : (a b : Bool) → b ≡ false → (a && b) ≡ false
second_false true b h = h
second_false false b h = refl

no_blank : (c : ℕ) → is_letter c ≡ true → (32 == c) ≡ false
no_blank c h = grind (arith, nat_tests)

-- letters and a blank aren't the front of a text whose first byte is neither
other_byte : (ls : List ℕ) → Every is_letter ls → (b : ℕ) (more : List ℕ) → is_letter b ≡ false → (32 == b) ≡ false → begins (ls ++ 32 ∷ []) (b ∷ more) ≡ false
other_byte [] h b more n e = first_false (32 == b) (begins [] more) e
other_byte (c ∷ ls) h b more n e = first_false (c == b) (begins (ls ++ 32 ∷ []) more) (differs is_letter c b h.0 n)

-- nor of one whose first byte is a letter and whose second is neither
second_byte : (ls : List ℕ) → Every is_letter ls → (c b : ℕ) (more : List ℕ) → is_letter c ≡ true → is_letter b ≡ false → (32 == b) ≡ false → begins (ls ++ 32 ∷ []) (c ∷ b ∷ more) ≡ false
second_byte [] h c b more k n e = first_false (32 == c) (begins [] (b ∷ more)) (no_blank c k)
second_byte (d ∷ ls) h c b more k n e = second_false (d == c) (begins (ls ++ 32 ∷ []) (b ∷ more)) (other_byte ls h.1 b more n e)

-- a letter alone, and what follows
one_letter : (ls : List ℕ) → Every is_letter ls → (c : ℕ) (more : List ℕ) → is_letter c ≡ true
    → ((ls : List ℕ) → Every is_letter ls → begins (ls ++ 32 ∷ []) more ≡ false) → begins (ls ++ 32 ∷ []) (c ∷ more) ≡ false
one_letter [] h c more k f = first_false (32 == c) (begins [] more) (no_blank c k)
one_letter (d ∷ ls) h c more k f = second_false (d == c) (begins (ls ++ 32 ∷ []) more) (f ls h.1)

abbrev line_of : List LevelSymbol → List ℕ → List ℕ
line_of x rest = level_text x ++ 10 ∷ rest

module_first : (n : ModuleName) (ps : List ℤ) (l : List ℕ) (x : List LevelSymbol) (rest : List ℕ) → IsModuleName n
    → ((ls : List ℕ) → Every is_letter ls → begins (ls ++ 32 ∷ []) (line_of x rest) ≡ false)
    → (ls : List ℕ) → Every is_letter ls → begins (ls ++ 32 ∷ []) (line_of (Module l (record { name = n; params = ps }) ∷ x) rest) ≡ false
module_first (named (short c)) [] l x rest g f ls h = one_letter ls h c (line_of x rest) g f
module_first (named (short c)) (p ∷ ps) l x rest g f ls h = second_byte ls h c 40 _ g refl refl
module_first (named (long c more)) ps l x rest g f ls h = second_byte ls h c 95 _ g.0 refl refl
module_first plus ps l x rest g f ls h = other_byte ls h 43 _ refl refl
module_first minus ps l x rest g f ls h = other_byte ls h 45 _ refl refl
module_first ampersand ps l x rest g f ls h = other_byte ls h 38 _ refl refl
module_first caret ps l x rest g f ls h = other_byte ls h 94 _ refl refl
module_first backslash ps l x rest g f ls h = other_byte ls h 92 _ refl refl
module_first slash ps l x rest g f ls h = other_byte ls h 47 _ refl refl
module_first bar ps l x rest g f ls h = other_byte ls h 124 _ refl refl
module_first bang ps l x rest g f ls h = other_byte ls h 33 _ refl refl

-- a printed level never begins with letters and a blank
pub no_word : (x : List LevelSymbol) → Each NamedSymbol x → (rest : List ℕ) (ls : List ℕ) → Every is_letter ls → begins (ls ++ 32 ∷ []) (level_text x ++ 10 ∷ rest) ≡ false
no_word [] g rest ls h = other_byte ls h 10 rest refl refl
no_word (Push l ∷ x) g rest ls h = other_byte ls h 91 _ refl refl
no_word (Pop l ∷ x) g rest ls h = other_byte ls h 93 _ refl refl
no_word (Module l m ∷ x) g rest ls h = module_first m.name m.params l x rest g.0 (no_word x g.1 rest) ls h
