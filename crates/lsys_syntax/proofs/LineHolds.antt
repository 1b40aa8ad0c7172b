-- What holds of a line's state after the tokens that it has taken.
use Rattle.std.proofs.Common.{◌≡◌, ℕ, zero, suc, Bool, true, false, ◌≤◌, ◌<◌, ◌^◌, Option, Some, None, List, [], ◌∷◌, ◌++◌, map, bytes_eq, codes, nat_lt, nat_le, refl, ap, ◌∙◌, sym, subst, append_assoc, arith, if◌then◌else◌}
use Rattle.std.proofs.lemmas.Bool.Decides.{nat_tests}
use Rattle.std.proofs.lemmas.Slice.Eq.{bytes_eq-Decides}
use Rattle.lsys_syntax.specs.Tokens.{Kind, Word, Name, Number, LeftParen, RightParen, RightBracket, Comma, Colon, Minus}
use Rattle.lsys_syntax.specs.Pieces.{kinds_of, IsWordText}
use Rattle.lsys_syntax.specs.Strings.{ModuleName, Symbol, Module, Push, Pop, Cut, Signed, unsigned, minus_sign, name_kind, signed_pieces, EachOf, IsModuleName, IsSymbol, IsSigned}
use Rattle.lsys_syntax.specs.RuleMachine as R
use Rattle.lsys_syntax.specs.RuleMachine.{production, homomorphism, reversed, open_in, Sign, a_name, a_push, a_pop, a_cut, no_sign, sign_of}
use Rattle.lsys_syntax.specs.Commands.{list_word, drop_rule, set_seed, set_depth, print_string, set_version, drop_own, IsTable}
use Rattle.lsys_syntax.specs.LineMachine.{AxiomState, Symbols, NumberDue, MinusRead, NumberRead, State, Fresh, InAxiom, ProductionDue, OneWord, TwoWords, InProduction, LabelDue, LabelRead, InHomomorphism, DropDue, Listed, of_ignored, of_own, InNames, ScheduleDue, InSchedule, SeedDue, DepthDue, LatticeDue, StringRead, VersionDue, TableDue, TableRead, CommonDue, NumberingDue, Whole, Stop, axiom_popped, axiom_sign, axiom_open, axiom_symbols_step, if_small, number_due_step, minus_step, number_read_step, axiom_step, first_word, lattice_named, numbering_named, unless_stop, with_name, word_step, number_step, one_word_step, colon_step, line_step}
use Rattle.lsys_syntax.specs.Sentences.{IsToken, IsSpelled}
use Rattle.lsys_syntax.proofs.Leads.{Closes}
use Rattle.lsys_syntax.proofs.ExprLeads.{Shallow}
use Rattle.lsys_syntax.proofs.ExprSound as G
use Rattle.lsys_syntax.proofs.LineComplete.{Calm, GoesOn}
use Rattle.lsys_syntax.proofs.StringKinds.{reversed-more, spelled_symbol, taken, params_before, each-reversed, Nests}
use Rattle.lsys_syntax.proofs.RuleHolds as H
use Rattle.lsys_syntax.proofs.RuleHolds.{IsSignOf, sign-is}
use Rattle.lsys_syntax.proofs.RuleSound.{symbol-more, paren-opens, paren-closes, comma-goes}
use Rattle.lsys_syntax.proofs.RuleSteps as S

abbrev pub word : List ℕ → Kind
word w = Word w

abbrev pub AreSigned : List (Symbol Signed) → Type 0
AreSigned r = EachOf (IsSymbol IsSigned) r × Nests r

abbrev pub axiom_front : List Kind
axiom_front = word (codes "axiom") ∷ []

abbrev pub AxiomHolds : AxiomState → List Kind → Type 0
AxiomHolds (Symbols r) ts = (axiom_front ++ taken signed_pieces r ≡ ts) × AreSigned r
AxiomHolds (NumberDue r n zs) ts = (axiom_front ++ (taken signed_pieces r ++ name_kind n ∷ params_before signed_pieces zs) ≡ ts) × AreSigned (Module n [] ∷ r) × EachOf IsSigned zs
AxiomHolds (MinusRead r n zs) ts = (axiom_front ++ (taken signed_pieces r ++ name_kind n ∷ (params_before signed_pieces zs ++ Minus ∷ [])) ≡ ts) × AreSigned (Module n [] ∷ r) × EachOf IsSigned zs
AxiomHolds (NumberRead r n []) ts = ⊥
AxiomHolds (NumberRead r n (z ∷ zs)) ts =
    (axiom_front ++ (taken signed_pieces r ++ name_kind n ∷ (params_before signed_pieces zs ++ kinds_of (signed_pieces z))) ≡ ts) × AreSigned (Module n [] ∷ r) × EachOf IsSigned (z ∷ zs)

-- a rule's line up to its rule
abbrev pub production_front : Option (List ℕ) → List ℕ → List Kind
production_front None l = word (codes "production") ∷ word l ∷ Colon ∷ []
production_front (Some t) l = word (codes "production") ∷ word t ∷ word l ∷ Colon ∷ []

abbrev pub homomorphism_front : List ℕ → List Kind
homomorphism_front l = word (codes "hom") ∷ word l ∷ Colon ∷ []

-- a line of names up to its names
abbrev pub listed_front : Listed → List Kind
listed_front of_ignored = word (codes "ignore") ∷ []
listed_front (of_own k t) = word (list_word k) ∷ word t ∷ Colon ∷ []

abbrev pub IsListed : Listed → Type 0
IsListed of_ignored = Unit {0}
IsListed (of_own k t) = IsWordText t

-- The tokens ts are those of the state, and what it holds are parts of commands whose expressions are nested at most b deep.
abbrev pub Holds : ℕ → State → List Kind → Type 0
Holds b Fresh ts = [] ≡ ts
Holds b (InAxiom a) ts = AxiomHolds a ts
Holds b ProductionDue ts = word (codes "production") ∷ [] ≡ ts
Holds b (OneWord w) ts = (word (codes "production") ∷ word w ∷ [] ≡ ts) × IsWordText w
Holds b (TwoWords t l) ts = (word (codes "production") ∷ word t ∷ word l ∷ [] ≡ ts) × IsWordText t × IsWordText l
Holds b (InProduction t l s) ts = (us : List Kind) × (production_front t l ++ us ≡ ts) × H.Holds production b s us × IsTable t × IsWordText l × GoesOn s
Holds b LabelDue ts = word (codes "hom") ∷ [] ≡ ts
Holds b (LabelRead l) ts = (word (codes "hom") ∷ word l ∷ [] ≡ ts) × IsWordText l
Holds b (InHomomorphism l s) ts = (us : List Kind) × (homomorphism_front l ++ us ≡ ts) × H.Holds homomorphism b s us × IsWordText l × GoesOn s
Holds b DropDue ts = word (codes "drop") ∷ [] ≡ ts
Holds b (InNames g r) ts = (listed_front g ++ map name_kind (reversed r) ≡ ts) × IsListed g × EachOf IsModuleName r
Holds b ScheduleDue ts = word (codes "schedule") ∷ [] ≡ ts
Holds b (InSchedule []) ts = ⊥
Holds b (InSchedule (w ∷ r)) ts = (word (codes "schedule") ∷ map word (reversed (w ∷ r)) ≡ ts) × EachOf IsWordText (w ∷ r)
Holds b SeedDue ts = word (codes "seed") ∷ [] ≡ ts
Holds b DepthDue ts = word (codes "depth") ∷ [] ≡ ts
Holds b LatticeDue ts = word (codes "lattice") ∷ [] ≡ ts
Holds b StringRead ts = word (codes "string") ∷ [] ≡ ts
Holds b VersionDue ts = word (codes "version") ∷ [] ≡ ts
Holds b (TableDue g) ts = word (list_word g) ∷ [] ≡ ts
Holds b (TableRead g t) ts = (word (list_word g) ∷ word t ∷ [] ≡ ts) × IsWordText t
Holds b CommonDue ts = word (codes "common") ∷ [] ≡ ts
Holds b NumberingDue ts = word (codes "lineage") ∷ [] ≡ ts
Holds b (Whole c) ts = IsSpelled b ts c
Holds b Stop ts = Unit {0}

named-token : (k : Kind) → IsToken k → G.IsNamed k
named-token (Name n) h = h
named-token k h = tt

-- words that are written out
chosen : (P : State → Type 0) (c : Bool) (s t : State) → (c ≡ true → P s) → P t → P (if c then s else t)
chosen P true s t f h = f refl
chosen P false s t f h = h

if-word : (P : State → Type 0) (w x : List ℕ) (s t : State) → (w ≡ x → P s) → P t → P (if bytes_eq w x then s else t)
if-word P w x s t f h = chosen P (bytes_eq w x) s t (λ e. f ((bytes_eq-Decides w x).0 e)) h

first-holds : (b : ℕ) (w : List ℕ) → Holds b (first_word w) (word w ∷ [])
first-holds b w =
    let P : State → Type 0 = λ s. Holds b s (word w ∷ []) in
    let same : (x : List ℕ) → w ≡ x → word x ∷ [] ≡ word w ∷ [] = λ x e. ap (λ v. word v ∷ []) (sym e) in
    if-word P w (codes "axiom") _ _ (λ e. (same (codes "axiom") e, (tt, tt)))
    (if-word P w (codes "production") _ _ (same (codes "production"))
    (if-word P w (codes "drop") _ _ (same (codes "drop"))
    (if-word P w (codes "ignore") _ _ (λ e. (same (codes "ignore") e, tt, tt))
    (if-word P w (codes "schedule") _ _ (same (codes "schedule"))
    (if-word P w (codes "seed") _ _ (same (codes "seed"))
    (if-word P w (codes "depth") _ _ (same (codes "depth"))
    (if-word P w (codes "lattice") _ _ (same (codes "lattice"))
    (if-word P w (codes "hom") _ _ (same (codes "hom"))
    (if-word P w (codes "string") _ _ (same (codes "string"))
    (if-word P w (codes "segments") _ _ (λ e. (same (codes "segments") e, tt, omega arith))
    (if-word P w (codes "svg") _ _ (λ e. (same (codes "svg") e, tt, omega arith))
    (if-word P w (codes "show") _ _ (λ e. (same (codes "show") e, tt, omega arith))
    (if-word P w (codes "quit") _ _ (λ e. (same (codes "quit") e, tt, omega arith))
    (if-word P w (codes "version") _ _ (same (codes "version"))
    (if-word P w (codes "ignoring") _ _ (same (codes "ignoring"))
    (if-word P w (codes "consider") _ _ (same (codes "consider"))
    (if-word P w (codes "common") _ _ (same (codes "common"))
    (if-word P w (codes "lineage") _ _ (same (codes "lineage")) tt))))))))))))))))))

lattice-holds : (b : ℕ) (w : List ℕ) → Holds b (lattice_named w) (word (codes "lattice") ∷ word w ∷ [])
lattice-holds b w =
    let P : State → Type 0 = λ s. Holds b s (word (codes "lattice") ∷ word w ∷ []) in
    let same : (x : List ℕ) → w ≡ x → word (codes "lattice") ∷ word x ∷ [] ≡ word (codes "lattice") ∷ word w ∷ [] = λ x e. ap (λ v. word (codes "lattice") ∷ word v ∷ []) (sym e) in
    if-word P w (codes "square") _ _ (λ e. (same (codes "square") e, tt, omega arith))
    (if-word P w (codes "hexagonal") _ _ (λ e. (same (codes "hexagonal") e, tt, omega arith))
    (if-word P w (codes "cubic") _ _ (λ e. (same (codes "cubic") e, tt, omega arith)) tt))

numbering-holds : (b : ℕ) (w : List ℕ) → Holds b (numbering_named w) (word (codes "lineage") ∷ word w ∷ [])
numbering-holds b w =
    let P : State → Type 0 = λ s. Holds b s (word (codes "lineage") ∷ word w ∷ []) in
    let same : (x : List ℕ) → w ≡ x → word (codes "lineage") ∷ word x ∷ [] ≡ word (codes "lineage") ∷ word w ∷ [] = λ x e. ap (λ v. word (codes "lineage") ∷ word v ∷ []) (sym e) in
    if-word P w (codes "places") _ _ (λ e. (same (codes "places") e, tt, omega arith))
    (if-word P w (codes "names") _ _ (λ e. (same (codes "names") e, tt, omega arith)) tt)

-- a token after those that are known
pub after : (ks ts : List Kind) (k : Kind) → ks ≡ ts → ks ++ k ∷ [] ≡ ts ++ k ∷ []
after ks ts k e = ap (λ x. x ++ k ∷ []) e

-- the string of an axiom
module _ (b : ℕ) (r : List (Symbol Signed)) (ts : List Kind) (h : AxiomHolds (Symbols r) ts) where
  pub symbol-read : (x : Symbol Signed) → IsSymbol IsSigned x → Closes x (open_in r) → AxiomHolds (Symbols (x ∷ r)) (ts ++ spelled_symbol signed_pieces x)
  symbol-read x g c = (symbol-more signed_pieces axiom_front ts x r h.0, ((g, h.1.0), (c, h.1.1)))

popped-holds : (b n : ℕ) (s : State) (ts : List Kind) → (0 < n → Holds b s ts) → Holds b (axiom_popped n s) ts
popped-holds b zero s ts h = tt
popped-holds b (suc n) s ts h = h (omega arith)

sign-holds : (b : ℕ) (r : List (Symbol Signed)) (ts : List Kind) (k : Kind) (g : Sign) → IsSignOf k g → G.IsNamed k → AxiomHolds (Symbols r) ts → Holds b (axiom_sign g r) (ts ++ k ∷ [])
sign-holds b r ts k (a_name n) i o h = subst (λ j. Holds b (InAxiom (Symbols (Module n [] ∷ r))) (ts ++ j ∷ [])) (sym i.0) (symbol-read b r ts h (Module n []) (i.1 o, tt) tt)
sign-holds b r ts k a_push i o h = subst (λ j. Holds b (InAxiom (Symbols (Push ∷ r))) (ts ++ j ∷ [])) (sym i) (symbol-read b r ts h Push tt tt)
sign-holds b r ts k a_pop i o h =
    subst (λ j. Holds b (axiom_popped (open_in r) (InAxiom (Symbols (Pop ∷ r)))) (ts ++ j ∷ [])) (sym i)
    (popped-holds b (open_in r) (InAxiom (Symbols (Pop ∷ r))) (ts ++ RightBracket ∷ []) (λ c. symbol-read b r ts h Pop tt c))
sign-holds b r ts k a_cut i o h = subst (λ j. Holds b (InAxiom (Symbols (Cut ∷ r))) (ts ++ j ∷ [])) (sym i) (symbol-read b r ts h Cut tt tt)
sign-holds b r ts k no_sign i o h = tt

open-holds : (b : ℕ) (r : List (Symbol Signed)) (ts : List Kind) → AxiomHolds (Symbols r) ts → Holds b (axiom_open r) (ts ++ LeftParen ∷ [])
open-holds b [] ts h = tt
open-holds b (Module n [] ∷ r) ts h = (paren-opens signed_pieces axiom_front ts n r h.0, h.1, tt)
open-holds b (Module n (z ∷ zs) ∷ r) ts h = tt
open-holds b (Push ∷ r) ts h = tt
open-holds b (Pop ∷ r) ts h = tt
open-holds b (Cut ∷ r) ts h = tt

symbols-holds : (b : ℕ) (r : List (Symbol Signed)) (ts : List Kind) (k : Kind) → G.IsNamed k → AxiomHolds (Symbols r) ts → Holds b (axiom_symbols_step k r) (ts ++ k ∷ [])
symbols-holds b r ts LeftParen o h = open-holds b r ts h
symbols-holds b r ts k o h = sign-holds b r ts k (sign_of k) (sign-is k) o h

if_small-holds : (b : ℕ) (c : Bool) (s : State) (ts : List Kind) → (c ≡ true → Holds b s ts) → Holds b (if_small c s) ts
if_small-holds b true s ts f = f refl
if_small-holds b false s ts f = tt

below : (m n : ℕ) → nat_lt m n ≡ true → m < n
below m n e = grind (arith, nat_tests, e)

at_most : (m n : ℕ) → nat_le m n ≡ true → m ≤ n
at_most m n e = grind (arith, nat_tests, e)

one-after : (a t ps : List Kind) (n k : Kind) → a ++ (t ++ n ∷ (ps ++ k ∷ [])) ≡ (a ++ (t ++ n ∷ ps)) ++ k ∷ []
one-after a t ps n k = simp append_assoc refl

two-after : (a t ps : List Kind) (n j k : Kind) → a ++ (t ++ n ∷ (ps ++ j ∷ k ∷ [])) ≡ (a ++ (t ++ n ∷ (ps ++ j ∷ []))) ++ k ∷ []
two-after a t ps n j k = simp append_assoc refl

pub number_due-holds : (b : ℕ) (r : List (Symbol Signed)) (n : ModuleName) (zs : List Signed) (ts : List Kind) (k : Kind) → AxiomHolds (NumberDue r n zs) ts → Holds b (number_due_step k r n zs) (ts ++ k ∷ [])
number_due-holds b r n zs ts (Number i) h =
    if_small-holds b (nat_lt i (2 ^ 63)) (InAxiom (NumberRead r n (unsigned i ∷ zs))) (ts ++ Number i ∷ [])
    (λ e. (one-after axiom_front (taken signed_pieces r) (params_before signed_pieces zs) (name_kind n) (Number i) ∙ after _ ts (Number i) h.0, h.1, (below i (2 ^ 63) e, h.2)))
number_due-holds b r n zs ts Minus h = (one-after axiom_front (taken signed_pieces r) (params_before signed_pieces zs) (name_kind n) Minus ∙ after _ ts Minus h.0, h.1, h.2)
number_due-holds b r n zs ts k h = tt

pub minus-holds : (b : ℕ) (r : List (Symbol Signed)) (n : ModuleName) (zs : List Signed) (ts : List Kind) (k : Kind) → AxiomHolds (MinusRead r n zs) ts → Holds b (minus_step k r n zs) (ts ++ k ∷ [])
minus-holds b r n zs ts (Number i) h =
    if_small-holds b (nat_le i (2 ^ 63)) (InAxiom (NumberRead r n (minus_sign i ∷ zs))) (ts ++ Number i ∷ [])
    (λ e. (two-after axiom_front (taken signed_pieces r) (params_before signed_pieces zs) (name_kind n) Minus (Number i) ∙ after _ ts (Number i) h.0, h.1, (at_most i (2 ^ 63) e, h.2)))
minus-holds b r n zs ts k h = tt

pub number_read-holds : (b : ℕ) (r : List (Symbol Signed)) (n : ModuleName) (zs : List Signed) (ts : List Kind) (k : Kind) → AxiomHolds (NumberRead r n zs) ts → Holds b (number_read_step k r n zs) (ts ++ k ∷ [])
number_read-holds b r n [] ts k h = elim h [ ]
number_read-holds b r n (z ∷ zs) ts Comma h = (comma-goes signed_pieces axiom_front ts n r z zs h.0, h.1, h.2)
number_read-holds b r n (z ∷ zs) ts RightParen h =
    (paren-closes signed_pieces axiom_front ts n r z zs h.0, (((h.1.0.0.0, each-reversed IsSigned (z ∷ zs) h.2), h.1.0.1), (tt, h.1.1.1)))
number_read-holds b r n (z ∷ zs) ts k h = tt

axiom-holds : (b : ℕ) (a : AxiomState) (ts : List Kind) (k : Kind) → G.IsNamed k → AxiomHolds a ts → Holds b (axiom_step a k) (ts ++ k ∷ [])
axiom-holds b (Symbols r) ts k o h = symbols-holds b r ts k o h
axiom-holds b (NumberDue r n zs) ts k o h = number_due-holds b r n zs ts k h
axiom-holds b (MinusRead r n zs) ts k o h = minus-holds b r n zs ts k h
axiom-holds b (NumberRead r n zs) ts k o h = number_read-holds b r n zs ts k h

-- rules
more-after : (front us ts : List Kind) (k : Kind) → front ++ us ≡ ts → front ++ (us ++ k ∷ []) ≡ ts ++ k ∷ []
more-after front us ts k e = sym (append_assoc front us (k ∷ [])) ∙ after (front ++ us) ts k e

production-goes : (b : ℕ) (t : Option (List ℕ)) (l : List ℕ) (s : R.RuleState) (us ts : List Kind) → (Shallow b s → H.Holds production b s us) → production_front t l ++ us ≡ ts → IsTable t → IsWordText l → Calm b (unless_stop (InProduction t l) s)
    → Holds b (unless_stop (InProduction t l) s) ts
production-goes b t l (R.Formals p r) us ts h e g i c = (us, e, h c, g, i, tt)
production-goes b t l (R.FormalDue p r n fs) us ts h e g i c = (us, e, h c, g, i, tt)
production-goes b t l (R.FormalRead p r n fs) us ts h e g i c = (us, e, h c, g, i, tt)
production-goes b t l (R.InExpr spot s) us ts h e g i c = (us, e, h c, g, i, tt)
production-goes b t l (R.Successor d r) us ts h e g i c = (us, e, h c, g, i, tt)
production-goes b t l R.Stop us ts h e g i c = tt

homomorphism-goes : (b : ℕ) (l : List ℕ) (s : R.RuleState) (us ts : List Kind) → (Shallow b s → H.Holds homomorphism b s us) → homomorphism_front l ++ us ≡ ts → IsWordText l → Calm b (unless_stop (InHomomorphism l) s)
    → Holds b (unless_stop (InHomomorphism l) s) ts
homomorphism-goes b l (R.Formals p r) us ts h e i c = (us, e, h c, i, tt)
homomorphism-goes b l (R.FormalDue p r n fs) us ts h e i c = (us, e, h c, i, tt)
homomorphism-goes b l (R.FormalRead p r n fs) us ts h e i c = (us, e, h c, i, tt)
homomorphism-goes b l (R.InExpr spot s) us ts h e i c = (us, e, h c, i, tt)
homomorphism-goes b l (R.Successor d r) us ts h e i c = (us, e, h c, i, tt)
homomorphism-goes b l R.Stop us ts h e i c = tt

-- before a rule nothing of it is taken
pub rule-start : (m : R.Form) (b : ℕ) → H.Holds m b R.start []
rule-start m b = (refl, tt, (tt, tt, tt, tt))

-- names and words
map-more : {A : Type 0} (f : A → Kind) (front : Kind) (x : A) (r : List A) (ts : List Kind) → front ∷ map f (reversed r) ≡ ts → front ∷ map f (reversed (x ∷ r)) ≡ ts ++ f x ∷ []
map-more {A = A} f front x r ts e = ap (λ ys. front ∷ map f ys) (reversed-more x r) ∙ ap (λ ks. front ∷ ks) (spread (reversed r)) ∙ after (front ∷ map f (reversed r)) ts (f x) e
  where
    spread : (ys : List A) → map f (ys ++ x ∷ []) ≡ map f ys ++ f x ∷ []
    spread [] = refl
    spread (y ∷ ys) = ap (λ ks. f y ∷ ks) (spread ys)

names-more : (front : List Kind) (n : ModuleName) (r : List ModuleName) (ts : List Kind) → front ++ map name_kind (reversed r) ≡ ts → front ++ map name_kind (reversed (n ∷ r)) ≡ ts ++ name_kind n ∷ []
names-more front n r ts e =
    ap (λ ys. front ++ map name_kind ys) (reversed-more n r) ∙ ap (λ ks. front ++ ks) (spread (reversed r)) ∙ sym (append_assoc front (map name_kind (reversed r)) (name_kind n ∷ []))
    ∙ after (front ++ map name_kind (reversed r)) ts (name_kind n) e
  where
    spread : (ys : List ModuleName) → map name_kind (ys ++ n ∷ []) ≡ map name_kind ys ++ name_kind n ∷ []
    spread [] = refl
    spread (y ∷ ys) = ap (λ ks. name_kind y ∷ ks) (spread ys)

names-holds : (b : ℕ) (f : Listed) (r : List ModuleName) (ts : List Kind) (k : Kind) (g : Sign) → IsSignOf k g → G.IsNamed k → Holds b (InNames f r) ts → Holds b (with_name (λ n. InNames f (n ∷ r)) g) (ts ++ k ∷ [])
names-holds b f r ts k (a_name n) i o h = subst (λ j. Holds b (InNames f (n ∷ r)) (ts ++ j ∷ [])) (sym i.0) (names-more (listed_front f) n r ts h.0, h.1, (i.1 o, h.2))
names-holds b f r ts k a_push i o h = tt
names-holds b f r ts k a_pop i o h = tt
names-holds b f r ts k a_cut i o h = tt
names-holds b f r ts k no_sign i o h = tt

word-holds : (b : ℕ) (f : List ℕ → State) (ts : List Kind) (k : Kind) → IsToken k → ((w : List ℕ) → IsWordText w → Holds b (f w) (ts ++ word w ∷ [])) → Holds b (word_step f k) (ts ++ k ∷ [])
word-holds b f ts (Word w) o h = h w o
word-holds b f ts k o h = tt

number-holds : (b : ℕ) (f : ℕ → State) (ts : List Kind) (k : Kind) → IsToken k → ((n : ℕ) → n < 2 ^ 64 → Holds b (f n) (ts ++ Number n ∷ [])) → Holds b (number_step f k) (ts ++ k ∷ [])
number-holds b f ts (Number n) o h = h n o
number-holds b f ts k o h = tt

colon-holds : (b : ℕ) (s : State) (ts : List Kind) (k : Kind) → Holds b s (ts ++ Colon ∷ []) → Holds b (colon_step s k) (ts ++ k ∷ [])
colon-holds b s ts Colon h = h
colon-holds b s ts k h = tt

one_word-holds : (b : ℕ) (w : List ℕ) (ts : List Kind) (k : Kind) → IsToken k → Holds b (OneWord w) ts → Holds b (one_word_step w k) (ts ++ k ∷ [])
one_word-holds b w ts (Word l) o h = (after (word (codes "production") ∷ word w ∷ []) ts (word l) h.0, h.1, o)
one_word-holds b w ts Colon o h = ([], after (word (codes "production") ∷ word w ∷ []) ts Colon h.0, rule-start production b, tt, h.1, tt)
one_word-holds b w ts k o h = tt

schedule-holds : (b : ℕ) (r : List (List ℕ)) (ts : List Kind) (k : Kind) → IsToken k → Holds b (InSchedule r) ts → Holds b (word_step (λ w. InSchedule (w ∷ r)) k) (ts ++ k ∷ [])
schedule-holds b [] ts k o h = elim h [ ]
schedule-holds b (v ∷ r) ts k o h = word-holds b (λ w. InSchedule (w ∷ v ∷ r)) ts k o (λ w g. (map-more word (word (codes "schedule")) w (v ∷ r) ts h.0, (g, h.1)))

-- Each step takes its token.
pub step-holds : (b : ℕ) (s : State) (ts : List Kind) (k : Kind) → IsToken k → Holds b s ts → Calm b (line_step s k) → Holds b (line_step s k) (ts ++ k ∷ [])
step-holds b Fresh ts k o h c = word-holds b first_word ts k o (λ w g. subst (λ us. Holds b (first_word w) (us ++ word w ∷ [])) h (first-holds b w))
step-holds b (InAxiom a) ts k o h c = axiom-holds b a ts k (named-token k o) h
step-holds b ProductionDue ts k o h c = word-holds b OneWord ts k o (λ w g. (after (word (codes "production") ∷ []) ts (word w) h, g))
step-holds b (OneWord w) ts k o h c = one_word-holds b w ts k o h
step-holds b (TwoWords t l) ts k o h c =
    colon-holds b (InProduction (Some t) l R.start) ts k ([], after (word (codes "production") ∷ word t ∷ word l ∷ []) ts Colon h.0, rule-start production b, h.1, h.2, tt)
step-holds b (InProduction t l s) ts k o h c =
    production-goes b t l (R.rule_step production s k) (h.0 ++ k ∷ []) (ts ++ k ∷ []) (S.step-holds production b s h.0 k (named-token k o) h.2) (more-after (production_front t l) h.0 ts k h.1) h.3 h.4 c
step-holds b LabelDue ts k o h c = word-holds b LabelRead ts k o (λ w g. (after (word (codes "hom") ∷ []) ts (word w) h, g))
step-holds b (LabelRead l) ts k o h c = colon-holds b (InHomomorphism l R.start) ts k ([], after (word (codes "hom") ∷ word l ∷ []) ts Colon h.0, rule-start homomorphism b, h.1, tt)
step-holds b (InHomomorphism l s) ts k o h c =
    homomorphism-goes b l (R.rule_step homomorphism s k) (h.0 ++ k ∷ []) (ts ++ k ∷ []) (S.step-holds homomorphism b s h.0 k (named-token k o) h.2) (more-after (homomorphism_front l) h.0 ts k h.1) h.3 c
step-holds b DropDue ts k o h c = word-holds b (λ l. Whole (drop_rule l)) ts k o (λ w g. (after (word (codes "drop") ∷ []) ts (word w) h, g, omega arith))
step-holds b (InNames g r) ts k o h c = names-holds b g r ts k (sign_of k) (sign-is k) (named-token k o) h
step-holds b ScheduleDue ts k o h c = word-holds b (λ w. InSchedule (w ∷ [])) ts k o (λ w g. (after (word (codes "schedule") ∷ []) ts (word w) h, (g, tt)))
step-holds b (InSchedule r) ts k o h c = schedule-holds b r ts k o h
step-holds b SeedDue ts k o h c = number-holds b (λ n. Whole (set_seed n)) ts k o (λ n g. (after (word (codes "seed") ∷ []) ts (Number n) h, g, omega arith))
step-holds b DepthDue ts k o h c = number-holds b (λ n. Whole (set_depth n)) ts k o (λ n g. (after (word (codes "depth") ∷ []) ts (Number n) h, g, omega arith))
step-holds b LatticeDue ts k o h c = word-holds b lattice_named ts k o (λ w g. subst (λ us. Holds b (lattice_named w) (us ++ word w ∷ [])) h (lattice-holds b w))
step-holds b StringRead ts k o h c = number-holds b (λ n. Whole (print_string (Some n))) ts k o (λ n g. (after (word (codes "string") ∷ []) ts (Number n) h, g, omega arith))
step-holds b VersionDue ts k o h c = number-holds b (λ n. Whole (set_version n)) ts k o (λ n g. (after (word (codes "version") ∷ []) ts (Number n) h, g, omega arith))
step-holds b (TableDue f) ts k o h c = word-holds b (TableRead f) ts k o (λ w g. (after (word (list_word f) ∷ []) ts (word w) h, g))
step-holds b (TableRead f t) ts k o h c =
    colon-holds b (InNames (of_own f t) []) ts k (after (word (list_word f) ∷ word t ∷ []) ts Colon h.0, h.1, tt)
step-holds b CommonDue ts k o h c = word-holds b (λ t. Whole (drop_own t)) ts k o (λ w g. (after (word (codes "common") ∷ []) ts (word w) h, g, omega arith))
step-holds b NumberingDue ts k o h c = word-holds b numbering_named ts k o (λ w g. subst (λ us. Holds b (numbering_named w) (us ++ word w ∷ [])) h (numbering-holds b w))
step-holds b (Whole d) ts k o h c = tt
step-holds b Stop ts k o h c = tt
