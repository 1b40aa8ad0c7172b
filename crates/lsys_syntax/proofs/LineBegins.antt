-- What a line's state has taken is the beginning of a sentence: what is due is put, and what is open is closed.
use Rattle.std.proofs.Common.{◌≡◌, ℕ, zero, suc, false, Option, Some, None, List, [], ◌∷◌, ◌++◌, codes, refl, ap, ◌∙◌, sym, subst, append_assoc, append-nil, arith}
use Rattle.lsys_syntax.specs.Tokens.{Kind, Number, Colon, RightParen, RightBracket}
use Rattle.lsys_syntax.specs.Pieces.{IsWordText}
use Rattle.lsys_syntax.specs.Strings.{ModuleName, Symbol, Module, Pop, Signed, unsigned, minus_sign}
use Rattle.lsys_syntax.specs.RuleMachine as R
use Rattle.lsys_syntax.specs.RuleMachine.{production, homomorphism, reversed, open_in}
use Rattle.lsys_syntax.specs.Commands.{square, ListKind, by_name, Command, set_axiom, put_production, drop_rule, set_schedule, set_seed, set_depth, set_lattice, put_homomorphism, print_string, print_system, set_version, drop_own, set_numbering}
use Rattle.lsys_syntax.specs.LineMachine.{AxiomState, Symbols, NumberDue, MinusRead, NumberRead, State, Fresh, InAxiom, ProductionDue, OneWord, TwoWords, InProduction, LabelDue, LabelRead, InHomomorphism, DropDue, Listed, of_own, listing, InNames, ScheduleDue, InSchedule, SeedDue, DepthDue, LatticeDue, StringRead, VersionDue, TableDue, TableRead, CommonDue, NumberingDue, Whole, Stop, is_stop}
use Rattle.lsys_syntax.specs.Sentences.{IsSpelled, Begins}
use Rattle.lsys_syntax.proofs.RuleBegins.{Begun, begun}
use Rattle.lsys_syntax.proofs.LineHolds.{word, AxiomHolds, production_front, homomorphism_front, Holds, after, symbol-read, number_due-holds, minus-holds, number_read-holds, rule-start}
use Rattle.lsys_syntax.proofs.LineSound.{axiom-spelled, production-command, homomorphism-command, finish-spelled}

-- a word of one letter
abbrev a_word : List ℕ
a_word = codes "a"

a_word-text : IsWordText a_word
a_word-text = (refl, tt, omega arith)

module _ (b : ℕ) where
  begins-before : (ts ks : List Kind) → Begins b (ts ++ ks) → Begins b ts
  begins-before ts ks g = (g.0, ks ++ g.1, subst (λ us. IsSpelled b us g.0) (append_assoc ts ks g.1) g.2)

  begins-whole : (c : Command) (ts : List Kind) → IsSpelled b ts c → Begins b ts
  begins-whole c ts h = (c, [], subst (λ us. IsSpelled b us c) (sym (append-nil ts)) h)

  begins-symbols : (n : ℕ) (r : List (Symbol Signed)) (ts : List Kind) → open_in r ≡ n → AxiomHolds (Symbols r) ts → Begins b ts
  begins-symbols zero r ts e h = begins-whole (set_axiom (reversed r)) ts (axiom-spelled b r ts h e)
  begins-symbols (suc n) r ts e h = begins-before ts (RightBracket ∷ []) (begins-symbols n (Pop ∷ r) (ts ++ RightBracket ∷ []) (omega (arith, e)) (symbol-read b r ts h Pop tt (omega (arith, e))))

  begins-read : (r : List (Symbol Signed)) (n : ModuleName) (zs : List Signed) (ts : List Kind) → AxiomHolds (NumberRead r n zs) ts → Begins b ts
  begins-read r n [] ts h = elim h [ ]
  begins-read r n (z ∷ zs) ts h =
      begins-before ts (RightParen ∷ []) (begins-symbols (open_in r) (Module n (reversed (z ∷ zs)) ∷ r) (ts ++ RightParen ∷ []) refl (number_read-holds b r n (z ∷ zs) ts RightParen h))

  begins-axiom : (a : AxiomState) (ts : List Kind) → AxiomHolds a ts → Begins b ts
  begins-axiom (Symbols r) ts h = begins-symbols (open_in r) r ts refl h
  begins-axiom (NumberDue r n zs) ts h = begins-before ts (Number 0 ∷ []) (begins-read r n (unsigned 0 ∷ zs) (ts ++ Number 0 ∷ []) (number_due-holds b r n zs ts (Number 0) h))
  begins-axiom (MinusRead r n zs) ts h = begins-before ts (Number 0 ∷ []) (begins-read r n (minus_sign 0 ∷ zs) (ts ++ Number 0 ∷ []) (minus-holds b r n zs ts (Number 0) h))
  begins-axiom (NumberRead r n zs) ts h = begins-read r n zs ts h

  begins-production : (t : Option (List ℕ)) (l : List ℕ) (s : R.RuleState) (ts : List Kind) → Holds b (InProduction t l s) ts → Begins b ts
  begins-production t l s ts h =
      let g : Begun production b h.0 = begun production b s h.0 h.5 h.2 in (
        put_production t l g.0,
        g.1,
        production-command b t l (h.0 ++ g.1) (ts ++ g.1) (Some g.0) g.2 (sym (append_assoc (production_front t l) h.0 g.1) ∙ ap (λ ks. ks ++ g.1) h.1) h.3 h.4,
      )

  begins-homomorphism : (l : List ℕ) (s : R.RuleState) (ts : List Kind) → Holds b (InHomomorphism l s) ts → Begins b ts
  begins-homomorphism l s ts h =
      let g : Begun homomorphism b h.0 = begun homomorphism b s h.0 h.4 h.2 in (
        put_homomorphism l g.0,
        g.1,
        homomorphism-command b l (h.0 ++ g.1) (ts ++ g.1) (Some g.0) g.2 (sym (append_assoc (homomorphism_front l) h.0 g.1) ∙ ap (λ ks. ks ++ g.1) h.1) h.3,
      )

  begins-table : (t l : List ℕ) (ts : List Kind) → Holds b (TwoWords t l) ts → Begins b ts
  begins-table t l ts h = begins-before ts (Colon ∷ []) (begins-production (Some t) l R.start (ts ++ Colon ∷ []) ([], after _ ts Colon h.0, rule-start production b, h.1, h.2, tt))

  begins-label : (l : List ℕ) (ts : List Kind) → Holds b (OneWord l) ts → Begins b ts
  begins-label l ts h = begins-before ts (Colon ∷ []) (begins-production None l R.start (ts ++ Colon ∷ []) ([], after _ ts Colon h.0, rule-start production b, tt, h.1, tt))

  begins-image : (l : List ℕ) (ts : List Kind) → Holds b (LabelRead l) ts → Begins b ts
  begins-image l ts h = begins-before ts (Colon ∷ []) (begins-homomorphism l R.start (ts ++ Colon ∷ []) ([], after _ ts Colon h.0, rule-start homomorphism b, h.1, tt))

  begins-names : (f : Listed) (r : List ModuleName) (ts : List Kind) → Holds b (InNames f r) ts → Begins b ts
  begins-names f r ts h = begins-whole (listing f (reversed r)) ts (finish-spelled b (InNames f r) ts h)

  begins-own : (f : ListKind) (t : List ℕ) (ts : List Kind) → Holds b (TableRead f t) ts → Begins b ts
  begins-own f t ts h = begins-before ts (Colon ∷ []) (begins-names (of_own f t) [] (ts ++ Colon ∷ []) (after _ ts Colon h.0, h.1, tt))

  -- one token is due, and ends the line
  begins-one : (c : Command) (ts : List Kind) (k : Kind) → IsSpelled b (ts ++ k ∷ []) c → Begins b ts
  begins-one c ts k h = begins-before ts (k ∷ []) (begins-whole c (ts ++ k ∷ []) h)

  -- Some sentence begins with what a state has taken.
  pub line-begins : (s : State) (ts : List Kind) → (is_stop s ≡ false) → Holds b s ts → Begins b ts
  line-begins Fresh ts g h = begins-one print_system ts (word (codes "show")) (after [] ts (word (codes "show")) h, tt, omega arith)
  line-begins (InAxiom a) ts g h = begins-axiom a ts h
  line-begins ProductionDue ts g h = begins-before ts (word a_word ∷ []) (begins-label a_word (ts ++ word a_word ∷ []) (after _ ts (word a_word) h, a_word-text))
  line-begins (OneWord w) ts g h = begins-label w ts h
  line-begins (TwoWords t l) ts g h = begins-table t l ts h
  line-begins (InProduction t l s) ts g h = begins-production t l s ts h
  line-begins LabelDue ts g h = begins-before ts (word a_word ∷ []) (begins-image a_word (ts ++ word a_word ∷ []) (after _ ts (word a_word) h, a_word-text))
  line-begins (LabelRead l) ts g h = begins-image l ts h
  line-begins (InHomomorphism l s) ts g h = begins-homomorphism l s ts h
  line-begins DropDue ts g h = begins-one (drop_rule a_word) ts (word a_word) (after _ ts (word a_word) h, a_word-text, omega arith)
  line-begins (InNames f r) ts g h = begins-names f r ts h
  line-begins ScheduleDue ts g h = begins-one (set_schedule (a_word ∷ [])) ts (word a_word) (after _ ts (word a_word) h, (a_word-text, tt), omega arith)
  line-begins (InSchedule r) ts g h = begins-whole (set_schedule (reversed r)) ts (finish-spelled b (InSchedule r) ts h)
  line-begins SeedDue ts g h = begins-one (set_seed 0) ts (Number 0) (after _ ts (Number 0) h, omega arith, omega arith)
  line-begins DepthDue ts g h = begins-one (set_depth 0) ts (Number 0) (after _ ts (Number 0) h, omega arith, omega arith)
  line-begins LatticeDue ts g h = begins-one (set_lattice square) ts (word (codes "square")) (after _ ts (word (codes "square")) h, tt, omega arith)
  line-begins StringRead ts g h = begins-whole (print_string None) ts (finish-spelled b StringRead ts h)
  line-begins VersionDue ts g h = begins-one (set_version 0) ts (Number 0) (after _ ts (Number 0) h, omega arith, omega arith)
  line-begins (TableDue f) ts g h = begins-before ts (word a_word ∷ []) (begins-own f a_word (ts ++ word a_word ∷ []) (after _ ts (word a_word) h, a_word-text))
  line-begins (TableRead f t) ts g h = begins-own f t ts h
  line-begins CommonDue ts g h = begins-one (drop_own a_word) ts (word a_word) (after _ ts (word a_word) h, a_word-text, omega arith)
  line-begins NumberingDue ts g h = begins-one (set_numbering by_name) ts (word (codes "names")) (after _ ts (word (codes "names")) h, tt, omega arith)
  line-begins (Whole c) ts g h = begins-whole c ts h
  line-begins Stop ts g h = cc
