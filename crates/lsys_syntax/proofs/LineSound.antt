-- A sentence is the spelling of its command.
use Rattle.std.proofs.Common.{◌≡◌, ℕ, zero, suc, Bool, true, false, ◌≤◌, ◌+◌, Option, Some, None, List, [], ◌∷◌, ◌++◌, map, nat_lt, option_map, refl, ap, ◌∙◌, sym, subst, append_assoc, append-nil, codes, arith}
use Rattle.std.proofs.lemmas.Bool.Decides.{nat_tests}
use Rattle.lsys_syntax.specs.Tokens.{NameText, Kind, Colon}
use Rattle.lsys_syntax.specs.Pieces.{Piece, kinds_of, IsWordText}
use Rattle.lsys_syntax.specs.Strings.{ModuleName, Symbol, Module, Push, Pop, Cut, Signed, name_kind, string_pieces, signed_pieces, gap, ends_in_name, begins_with_letter, EachOf, IsModuleName, IsSymbol, IsSigned}
use Rattle.lsys_syntax.specs.Expressions.{Expr}
use Rattle.lsys_syntax.specs.Rules.{Rule}
use Rattle.lsys_syntax.specs.RuleMachine as R
use Rattle.lsys_syntax.specs.RuleMachine.{Form, production, homomorphism, reversed, open_in, where_closed}
use Rattle.lsys_syntax.specs.Commands.{list_word, Command, set_axiom, put_production, set_schedule, put_homomorphism, as_symbol, string_after, words_pieces, HasNoCut, IsHomomorphism, IsTable}
use Rattle.lsys_syntax.specs.LineMachine.{AxiomState, Symbols, NumberDue, MinusRead, NumberRead, State, Fresh, InAxiom, ProductionDue, OneWord, TwoWords, InProduction, LabelDue, LabelRead, InHomomorphism, DropDue, of_ignored, of_own, InNames, ScheduleDue, InSchedule, SeedDue, DepthDue, LatticeDue, StringRead, VersionDue, TableDue, TableRead, CommonDue, NumberingDue, Whole, Stop, line_step, finish, line_depth, Verdict, sentence, stops, too_deep, sentence_or_stop, is_stop, nesting_bound, verdict_from, verdict}
use Rattle.lsys_syntax.specs.Sentences.{IsToken, AreTokens, IsSpelled}
use Rattle.lsys_syntax.proofs.ExprLeads.{Shallow}
use Rattle.lsys_syntax.proofs.RuleComplete.{Absent, NoWeight, MayCut, OfForm}
use Rattle.lsys_syntax.proofs.LineComplete.{Calm}
use Rattle.lsys_syntax.proofs.StringKinds.{spelled_string, each-reversed, nests-closed}
use Rattle.lsys_syntax.proofs.RuleSteps.{OnRule, whole-spelled}
use Rattle.lsys_syntax.proofs.LineHolds.{word, axiom_front, AxiomHolds, production_front, homomorphism_front, Holds, step-holds}

abbrev pub OnCommand : ℕ → List Kind → Option Command → Type 0
OnCommand b ts None = Unit {0}
OnCommand b ts (Some c) = IsSpelled b ts c

after-string : (xs : List (Symbol Signed)) → kinds_of (string_after xs) ≡ spelled_string signed_pieces xs
after-string [] = refl
after-string (x ∷ xs) = refl

kinds-gap : (a b : Bool) (ps : List Piece) → kinds_of (gap a b ++ ps) ≡ kinds_of ps
kinds-gap true true ps = refl
kinds-gap true false ps = refl
kinds-gap false b ps = refl

names-kinds : (ns : List ModuleName) → kinds_of (string_pieces signed_pieces (map as_symbol ns)) ≡ map name_kind ns
names-kinds [] = refl
names-kinds (n ∷ ns) = ap (λ ks. name_kind n ∷ ks) (kinds-gap (ends_in_name (as_symbol n)) (begins_with_letter (map as_symbol ns)) (string_pieces signed_pieces (map as_symbol ns)) ∙ names-kinds ns)

after-names : (ns : List ModuleName) → kinds_of (string_after (map as_symbol ns)) ≡ map name_kind ns
after-names [] = refl
after-names (n ∷ ns) = names-kinds (n ∷ ns)

words-kinds : (ws : List (List ℕ)) → kinds_of (words_pieces ws) ≡ map word ws
words-kinds [] = refl
words-kinds (w ∷ ws) = ap (λ ks. word w ∷ ks) (words-kinds ws)

closed-axiom : (b : ℕ) (ts : List Kind) (n : ℕ) (c : Command) → (n ≡ 0 → IsSpelled b ts c) → OnCommand b ts (where_closed n (Some c))
closed-axiom b ts zero c f = f refl
closed-axiom b ts (suc n) c f = tt

pub axiom-spelled : (b : ℕ) (r : List (Symbol Signed)) (ts : List Kind) → AxiomHolds (Symbols r) ts → open_in r ≡ 0 → IsSpelled b ts (set_axiom (reversed r))
axiom-spelled b r ts h e =
    (ap (λ ks. axiom_front ++ ks) (after-string (reversed r)) ∙ h.0, (each-reversed (IsSymbol IsSigned) r h.1.0, nests-closed r h.1.1 e), omega arith)

axiom-finish : (b : ℕ) (a : AxiomState) (ts : List Kind) → AxiomHolds a ts → OnCommand b ts (finish (InAxiom a))
axiom-finish b (Symbols r) ts h = closed-axiom b ts (open_in r) (set_axiom (reversed r)) (axiom-spelled b r ts h)
axiom-finish b (NumberDue r n zs) ts h = tt
axiom-finish b (MinusRead r n zs) ts h = tt
axiom-finish b (NumberRead r n zs) ts h = tt

pub production-command : (b : ℕ) (t : Option (List ℕ)) (l : List ℕ) (us ts : List Kind) (o : Option Rule) → OnRule production b us o → production_front t l ++ us ≡ ts → IsTable t → IsWordText l → OnCommand b ts (option_map (put_production t l) o)
production-command b t l us ts None h e g i = tt
production-command b None l us ts (Some r) h e g i = (ap (λ ks. production_front None l ++ ks) h.0 ∙ e, (g, i, h.1), h.3)
production-command b (Some t) l us ts (Some r) h e g i = (ap (λ ks. production_front (Some t) l ++ ks) h.0 ∙ e, (g, i, h.1), h.3)

-- what a homomorphism rule doesn't have
absent-empty : (xs : List (Symbol NameText)) → Absent homomorphism xs → xs ≡ []
absent-empty [] h = refl
absent-empty (x ∷ xs) h = elim h [ ]

weight-none : (w : Option Expr) → NoWeight homomorphism w → w ≡ None
weight-none None h = refl
weight-none (Some e) h = elim h [ ]

cuts-none : (xs : List (Symbol Expr)) → EachOf (MayCut homomorphism) xs → HasNoCut xs
cuts-none [] h = tt
cuts-none (Module n es ∷ xs) h = cuts-none xs h.1
cuts-none (Push ∷ xs) h = cuts-none xs h.1
cuts-none (Pop ∷ xs) h = cuts-none xs h.1
cuts-none (Cut ∷ xs) h = elim h.0 [ ]

is_homomorphism : (r : Rule) → OfForm homomorphism r → IsHomomorphism r
is_homomorphism r h = (absent-empty r.left h.left, absent-empty r.right h.right, weight-none r.weight h.weight, cuts-none r.successor h.cuts)

pub homomorphism-command : (b : ℕ) (l : List ℕ) (us ts : List Kind) (o : Option Rule) → OnRule homomorphism b us o → homomorphism_front l ++ us ≡ ts → IsWordText l → OnCommand b ts (option_map (put_homomorphism l) o)
homomorphism-command b l us ts None h e i = tt
homomorphism-command b l us ts (Some r) h e i = (ap (λ ks. homomorphism_front l ++ ks) h.0 ∙ e, (i, h.1, is_homomorphism r h.2), h.3)

reversed-some : (xs : List (List ℕ)) (x : List ℕ) (ys : List (List ℕ)) → R.reversed_onto xs (x ∷ ys) ≡ [] → ⊥
reversed-some [] x ys q = cc
reversed-some (y ∷ xs) x ys q = reversed-some xs y (x ∷ ys) q

-- the words of a schedule that is not empty
schedule-spelled : (b : ℕ) (ws : List (List ℕ)) (w : List ℕ) (r : List (List ℕ)) (ts : List Kind) → reversed (w ∷ r) ≡ ws → word (codes "schedule") ∷ map word (reversed (w ∷ r)) ≡ ts → EachOf IsWordText (w ∷ r) → IsSpelled b ts (set_schedule ws)
schedule-spelled b [] w r ts e q g = absurd (reversed-some r w [] e)
schedule-spelled b (v ∷ ws) w r ts e q g =
    (ap (λ ks. word (codes "schedule") ∷ ks) (words-kinds (v ∷ ws) ∙ ap (map word) (sym e)) ∙ q, subst (EachOf IsWordText) e (each-reversed IsWordText (w ∷ r) g), omega arith)

-- Where a line may end, its command is spelled by the tokens that were taken.
pub finish-spelled : (b : ℕ) (s : State) (ts : List Kind) → Holds b s ts → OnCommand b ts (finish s)
finish-spelled b Fresh ts h = tt
finish-spelled b (InAxiom a) ts h = axiom-finish b a ts h
finish-spelled b ProductionDue ts h = tt
finish-spelled b (OneWord w) ts h = tt
finish-spelled b (TwoWords t l) ts h = tt
finish-spelled b (InProduction t l s) ts h = production-command b t l h.0 ts (R.whole s) (whole-spelled production b s h.0 h.2) h.1 h.3 h.4
finish-spelled b LabelDue ts h = tt
finish-spelled b (LabelRead l) ts h = tt
finish-spelled b (InHomomorphism l s) ts h = homomorphism-command b l h.0 ts (R.whole s) (whole-spelled homomorphism b s h.0 h.2) h.1 h.3
finish-spelled b DropDue ts h = tt
finish-spelled b (InNames of_ignored r) ts h = (ap (λ ks. word (codes "ignore") ∷ ks) (after-names (reversed r)) ∙ h.0, each-reversed IsModuleName r h.2, omega arith)
finish-spelled b (InNames (of_own k t) r) ts h =
    (ap (λ ks. word (list_word k) ∷ word t ∷ Colon ∷ ks) (after-names (reversed r)) ∙ h.0, (h.1, each-reversed IsModuleName r h.2), omega arith)
finish-spelled b ScheduleDue ts h = tt
finish-spelled b (InSchedule []) ts h = elim h [ ]
finish-spelled b (InSchedule (w ∷ r)) ts h = schedule-spelled b (reversed (w ∷ r)) w r ts refl h.0 h.1
finish-spelled b SeedDue ts h = tt
finish-spelled b DepthDue ts h = tt
finish-spelled b LatticeDue ts h = tt
finish-spelled b StringRead ts h = (h, tt, omega arith)
finish-spelled b VersionDue ts h = tt
finish-spelled b (TableDue g) ts h = tt
finish-spelled b (TableRead g t) ts h = tt
finish-spelled b CommonDue ts h = tt
finish-spelled b NumberingDue ts h = tt
finish-spelled b (Whole c) ts h = h
finish-spelled b Stop ts h = tt

-- The verdict, by its two tests.
abbrev pub after_tests : Bool → Bool → ℕ → Verdict → Verdict
after_tests true d n v = stops n
after_tests false true n v = too_deep n
after_tests false false n v = v

pub verdict-tests : (n : ℕ) (s : State) (k : Kind) (ks : List Kind) → verdict_from n s (k ∷ ks) ≡ after_tests (is_stop (line_step s k)) (nat_lt nesting_bound (line_depth (line_step s k))) n (verdict_from (n + 1) (line_step s k) ks)
verdict-tests n s k ks = tested (is_stop (line_step s k)) (nat_lt nesting_bound (line_depth (line_step s k)))
  where
    tested : (a d : Bool) → elim a [ true ↦ stops n | false ↦ elim d [ true ↦ too_deep n | false ↦ verdict_from (n + 1) (line_step s k) ks ] ] ≡ after_tests a d n (verdict_from (n + 1) (line_step s k) ks)
    tested true d = refl
    tested false true = refl
    tested false false = refl

tests-sentence : (a d : Bool) (n : ℕ) (v : Verdict) (c : Command) → after_tests a d n v ≡ sentence c → (d ≡ false) × (v ≡ sentence c)
tests-sentence true d n v c e = cc
tests-sentence false true n v c e = cc
tests-sentence false false n v c e = (refl, e)

pub not_deep : (m n : ℕ) → nat_lt m n ≡ false → n ≤ m
not_deep m n h = grind (arith, nat_tests, h)

rule-shallow : (b : ℕ) (s : R.RuleState) → R.rule_depth s ≤ b → Shallow b s
rule-shallow b (R.Formals p r) h = tt
rule-shallow b (R.FormalDue p r n fs) h = tt
rule-shallow b (R.FormalRead p r n fs) h = tt
rule-shallow b (R.InExpr spot s) h = h
rule-shallow b (R.Successor d r) h = tt
rule-shallow b R.Stop h = tt

pub depth-calm : (b : ℕ) (s : State) → line_depth s ≤ b → Calm b s
depth-calm b (InProduction t l s) h = rule-shallow b s h
depth-calm b (InHomomorphism l s) h = rule-shallow b s h
depth-calm b s h = tt

ended-spelled : (n : ℕ) (o : Option Command) (ts : List Kind) (c : Command) → OnCommand nesting_bound ts o → sentence_or_stop n o ≡ sentence c → IsSpelled nesting_bound ts c
ended-spelled n None ts c h e = cc
ended-spelled n (Some d) ts c h e = let same : d ≡ c = cc in subst (IsSpelled nesting_bound ts) same h

-- the step takes its token where it isn't too deep
pub step-taken : (s : State) (k : Kind) (ts : List Kind) → IsToken k → Holds nesting_bound s ts → nat_lt nesting_bound (line_depth (line_step s k)) ≡ false → Holds nesting_bound (line_step s k) (ts ++ k ∷ [])
step-taken s k ts o h d = step-holds nesting_bound s ts k o h (depth-calm nesting_bound (line_step s k) (not_deep nesting_bound (line_depth (line_step s k)) d))

sentence-from : (ks : List Kind) (n : ℕ) (s : State) (ts : List Kind) (c : Command) → AreTokens ks → Holds nesting_bound s ts → verdict_from n s ks ≡ sentence c → IsSpelled nesting_bound (ts ++ ks) c
sentence-from [] n s ts c g h e = subst (λ us. IsSpelled nesting_bound us c) (sym (append-nil ts)) (ended-spelled n (finish s) ts c (finish-spelled nesting_bound s ts h) e)
sentence-from (k ∷ ks) n s ts c g h e =
    let t : (nat_lt nesting_bound (line_depth (line_step s k)) ≡ false) × (verdict_from (n + 1) (line_step s k) ks ≡ sentence c) =
    tests-sentence (is_stop (line_step s k)) (nat_lt nesting_bound (line_depth (line_step s k))) n (verdict_from (n + 1) (line_step s k) ks) c (sym (verdict-tests n s k ks) ∙ e) in
    subst (λ us. IsSpelled nesting_bound us c) (append_assoc ts (k ∷ []) ks)
    (sentence-from ks (n + 1) (line_step s k) (ts ++ k ∷ []) c g.1 (step-taken s k ts g.0 h t.0) t.1)

-- Each sentence spells its command.
pub sentence-spelled : (ks : List Kind) (c : Command) → AreTokens ks → verdict ks ≡ sentence c → IsSpelled 32 ks c
sentence-spelled ks c g e = sentence-from ks 0 Fresh [] c g refl e
