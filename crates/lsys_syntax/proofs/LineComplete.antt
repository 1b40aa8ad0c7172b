-- A command's spelling is a sentence of that command.
use Rattle.std.proofs.Common.{◌≡◌, ℕ, zero, suc, Bool, true, false, Option, Some, None, List, [], ◌∷◌, ◌++◌, ◌+◌, ◌<◌, ◌≤◌, ◌^◌, map, nat_lt, refl, ap, ◌∙◌, sym, subst, append_assoc, option_map, arith, lt-ltb, le-leb}
use Rattle.std.proofs.lemmas.Bool.Decides.{nat_tests}
use Rattle.lsys_syntax.specs.Tokens.{Kind, Number, RightParen, RightBracket}
use Rattle.lsys_syntax.specs.Pieces.{Piece, blank, token, note, kinds_of}
use Rattle.lsys_syntax.specs.Strings.{ModuleName, named, plus, minus, ampersand, caret, backslash, slash, bar, bang, Symbol, Module, Push, Pop, Cut, Signed, unsigned, minus_sign, name_kind, more_pieces, params_pieces, string_pieces, signed_pieces, gap, ends_in_name, begins_with_letter, EachOf, IsSymbol, IsSigned, balanced}
use Rattle.lsys_syntax.specs.Expressions.{Expr}
use Rattle.lsys_syntax.specs.Rules.{Rule, rule_pieces, IsRule, rule_nesting}
use Rattle.lsys_syntax.specs.RuleMachine as R
use Rattle.lsys_syntax.specs.RuleMachine.{Form, production, homomorphism, reversed_onto, reversed, open_in, where_closed, sign_of, a_name}
use Rattle.lsys_syntax.specs.Commands.{square, hexagonal, cubic, Command, set_axiom, put_production, drop_rule, set_ignored, set_schedule, set_seed, set_depth, set_lattice, put_homomorphism, print_string, print_segments, print_svg, print_system, quit, set_version, set_own, drop_own, set_numbering, to_ignore, to_consider, by_place, by_name, as_symbol, string_after, words_pieces, command_pieces, HasNoCut, IsHomomorphism, IsCommand, nesting}
use Rattle.lsys_syntax.specs.LineMachine.{Symbols, NumberDue, MinusRead, NumberRead, State, Fresh, InAxiom, InProduction, InHomomorphism, Listed, of_ignored, of_own, InNames, InSchedule, StringRead, Whole, Stop, axiom_popped, if_small, unless_stop, line_step, finish, line_depth, sentence_or_stop, is_stop, nesting_bound, verdict_from, verdict, sentence}
use Rattle.lsys_syntax.proofs.Leads.{Leads, leads-append, leads-token, leads-to, leads-gap, Puts, string-leads, none_open, reversed-one, twice}
use Rattle.lsys_syntax.proofs.ExprLeads.{Shallow}
use Rattle.lsys_syntax.proofs.RuleComplete.{Lead, Absent, NoWeight, MayCut, OfForm, read_rule, rule-leads, read_rule-whole}

-- no deeper than b
abbrev pub Calm : ℕ → State → Type 0
Calm b (InProduction t l s) = Shallow b s
Calm b (InHomomorphism l s) = Shallow b s
Calm b s = Unit {0}

-- a rule's machine within a line's
abbrev pub GoesOn : R.RuleState → Type 0
GoesOn R.Stop = ⊥
GoesOn s = Unit {0}

went-on : (m : Form) (s : R.RuleState) (k : Kind) → GoesOn (R.rule_step m s k) → GoesOn s
went-on m (R.Formals p r) k h = tt
went-on m (R.FormalDue p r n fs) k h = tt
went-on m (R.FormalRead p r n fs) k h = tt
went-on m (R.InExpr spot s) k h = tt
went-on m (R.Successor d r) k h = tt
went-on m R.Stop k h = h

goes-before : (m : Form) (b : ℕ) (ps : List Piece) (s t : R.RuleState) → GoesOn t → Lead m b s ps t → GoesOn s
goes-before m b [] s t g e = subst GoesOn (sym e) g
goes-before m b (blank ∷ ps) s t g h = goes-before m b ps s t g h
goes-before m b (note n ∷ ps) s t g h = goes-before m b ps s t g h
goes-before m b (token k ∷ ps) s t g h = went-on m s k (goes-before m b ps (R.rule_step m s k) t g h.1)

stays : (wrap : R.RuleState → State) (s : R.RuleState) → GoesOn s → unless_stop wrap s ≡ wrap s
stays wrap (R.Formals p r) g = refl
stays wrap (R.FormalDue p r n fs) g = refl
stays wrap (R.FormalRead p r n fs) g = refl
stays wrap (R.InExpr spot s) g = refl
stays wrap (R.Successor d r) g = refl
stays wrap R.Stop g = elim g [ ]

module _ (m : Form) (b : ℕ) (wrap : R.RuleState → State) (steps : (s : R.RuleState) (k : Kind) → line_step (wrap s) k ≡ unless_stop wrap (R.rule_step m s k)) (calm : (s : R.RuleState) → Shallow b s → Calm b (wrap s)) where
  wrapped : (ps : List Piece) (s t : R.RuleState) → GoesOn t → Lead m b s ps t → Leads line_step (Calm b) (wrap s) ps (wrap t)
  wrapped [] s t g e = ap wrap e
  wrapped (blank ∷ ps) s t g h = wrapped ps s t g h
  wrapped (note n ∷ ps) s t g h = wrapped ps s t g h
  wrapped (token k ∷ ps) s t g h =
      let next : R.RuleState = R.rule_step m s k in
      leads-token line_step (Calm b) k ps (wrap s) (wrap next) (wrap t) (steps s k ∙ stays wrap next (goes-before m b ps next t g h.1)) (calm next h.0) (wrapped ps next t g h.1)

no_cuts : (xs : List (Symbol Expr)) → HasNoCut xs → EachOf (MayCut homomorphism) xs
no_cuts [] h = tt
no_cuts (Module n es ∷ xs) h = (tt, no_cuts xs h)
no_cuts (Push ∷ xs) h = (tt, no_cuts xs h)
no_cuts (Pop ∷ xs) h = (tt, no_cuts xs h)
no_cuts (Cut ∷ xs) h = elim h [ ]

all_cuts : (xs : List (Symbol Expr)) → EachOf (MayCut production) xs
all_cuts [] = tt
all_cuts (x ∷ xs) = (tt, all_cuts xs)

pub of_production : (r : Rule) → OfForm production r
of_production r = record { left = tt; right = tt; weight = tt; cuts = all_cuts r.successor }

pub of_homomorphism : (r : Rule) → IsHomomorphism r → OfForm homomorphism r
of_homomorphism r h = record {
  left = subst (Absent homomorphism) (sym h.0) tt;
  right = subst (Absent homomorphism) (sym h.1) tt;
  weight = subst (NoWeight homomorphism) (sym h.2) tt;
  cuts = no_cuts r.successor h.3;
}

-- the string of an axiom
abbrev in_symbols : List (Symbol Signed) → State
in_symbols r = InAxiom (Symbols r)

popped-open : (n : ℕ) (s : State) → 0 < n → axiom_popped n s ≡ s
popped-open zero s h = absurd (omega arith)
popped-open (suc n) s h = refl

module _ (b : ℕ) where
  signed-leads : (z : Signed) (r : List (Symbol Signed)) (n : ModuleName) (zs : List Signed) → IsSigned z → Leads line_step (Calm b) (InAxiom (NumberDue r n zs)) (signed_pieces z) (InAxiom (NumberRead r n (z ∷ zs)))
  signed-leads (unsigned k) r n zs g =
      let t : State = InAxiom (NumberRead r n (unsigned k ∷ zs)) in
      leads-token line_step (Calm b) (Number k) [] (InAxiom (NumberDue r n zs)) t t (ap (λ c. if_small c t) (lt-ltb k (2 ^ 63) g)) tt refl
  signed-leads (minus_sign k) r n zs g =
      let t : State = InAxiom (NumberRead r n (minus_sign k ∷ zs)) in
      (tt, leads-token line_step (Calm b) (Number k) [] (InAxiom (MinusRead r n zs)) t t (ap (λ c. if_small c t) (le-leb k (2 ^ 63) g)) tt refl)

  more-leads : (zs acc : List Signed) (r : List (Symbol Signed)) (n : ModuleName) → EachOf IsSigned zs → Leads line_step (Calm b) (InAxiom (NumberRead r n acc)) (more_pieces signed_pieces zs ++ token RightParen ∷ []) (in_symbols (Module n (reversed (reversed_onto zs acc)) ∷ r))
  more-leads [] acc r n g = (tt, refl)
  more-leads (z ∷ zs) acc r n g =
      let more : List Piece = more_pieces signed_pieces zs ++ token RightParen ∷ [] in
      let last : State = in_symbols (Module n (reversed (reversed_onto zs (z ∷ acc))) ∷ r) in (
        tt,
        subst (λ ps. Leads line_step (Calm b) (InAxiom (NumberDue r n acc)) ps last) (sym (append_assoc (signed_pieces z) (more_pieces signed_pieces zs) (token RightParen ∷ [])))
            (leads-append line_step (Calm b) (signed_pieces z) more (InAxiom (NumberDue r n acc)) (InAxiom (NumberRead r n (z ∷ acc))) last (signed-leads z r n acc g.0) (more-leads zs (z ∷ acc) r n g.1)),
      )

  params-lead : (zs : List Signed) (r : List (Symbol Signed)) (n : ModuleName) → EachOf IsSigned zs → Leads line_step (Calm b) (in_symbols (Module n [] ∷ r)) (params_pieces signed_pieces zs) (in_symbols (Module n zs ∷ r))
  params-lead [] r n g = refl
  params-lead (z ∷ zs) r n g =
      let more : List Piece = more_pieces signed_pieces zs ++ token RightParen ∷ [] in
      let read : State = in_symbols (Module n (reversed (reversed_onto zs (z ∷ []))) ∷ r) in (
        tt,
        leads-to line_step (Calm b) (signed_pieces z ++ more) (InAxiom (NumberDue r n [])) read (in_symbols (Module n (z ∷ zs) ∷ r)) (ap (λ ys. in_symbols (Module n ys ∷ r)) (reversed-one z zs))
            (leads-append line_step (Calm b) (signed_pieces z) more (InAxiom (NumberDue r n [])) (InAxiom (NumberRead r n (z ∷ []))) read (signed-leads z r n [] g.0) (more-leads zs (z ∷ []) r n g.1)),
      )

  name-step : (n : ModuleName) (r : List (Symbol Signed)) → line_step (in_symbols r) (name_kind n) ≡ in_symbols (Module n [] ∷ r)
  name-step (named n) r = refl
  name-step plus r = refl
  name-step minus r = refl
  name-step ampersand r = refl
  name-step caret r = refl
  name-step backslash r = refl
  name-step slash r = refl
  name-step bar r = refl
  name-step bang r = refl

  symbol-leads : (x : Symbol Signed) → IsSymbol IsSigned x → Puts line_step (Calm b) in_symbols signed_pieces x
  symbol-leads (Module n zs) g = λ r c. leads-token line_step (Calm b) (name_kind n) (params_pieces signed_pieces zs) (in_symbols r) (in_symbols (Module n [] ∷ r)) (in_symbols (Module n zs ∷ r)) (name-step n r) tt (params-lead zs r n g.1)
  symbol-leads Push g = λ r c. (tt, refl)
  symbol-leads Pop g = λ r c. leads-token line_step (Calm b) RightBracket [] (in_symbols r) (in_symbols (Pop ∷ r)) (in_symbols (Pop ∷ r)) (popped-open (open_in r) (in_symbols (Pop ∷ r)) c) tt refl
  symbol-leads Cut g = λ r c. (tt, refl)

  each-symbol : (xs : List (Symbol Signed)) → EachOf (IsSymbol IsSigned) xs → EachOf (Puts line_step (Calm b) in_symbols signed_pieces) xs
  each-symbol [] g = tt
  each-symbol (x ∷ xs) g = (symbol-leads x g.0, each-symbol xs g.1)

  axiom-leads : (xs : List (Symbol Signed)) → EachOf (IsSymbol IsSigned) xs → balanced 0 xs ≡ true → Leads line_step (Calm b) (in_symbols []) (string_after xs) (in_symbols (reversed_onto xs []))
  axiom-leads [] g e = refl
  axiom-leads (x ∷ xs) g e = string-leads line_step (Calm b) in_symbols signed_pieces (x ∷ xs) [] (each-symbol (x ∷ xs) g) e

  -- names and words
  names-step : (g : Listed) (n : ModuleName) (r : List ModuleName) → line_step (InNames g r) (name_kind n) ≡ InNames g (n ∷ r)
  names-step g (named n) r = refl
  names-step g plus r = refl
  names-step g minus r = refl
  names-step g ampersand r = refl
  names-step g caret r = refl
  names-step g backslash r = refl
  names-step g slash r = refl
  names-step g bar r = refl
  names-step g bang r = refl

  names-lead : (g : Listed) (ns r : List ModuleName) → Leads line_step (Calm b) (InNames g r) (string_pieces signed_pieces (map as_symbol ns)) (InNames g (reversed_onto ns r))
  names-lead g [] r = refl
  names-lead g (n ∷ ns) r =
      let rest : List Piece = string_pieces signed_pieces (map as_symbol ns) in
      let a : Bool = ends_in_name (as_symbol n) in
      let l : Bool = begins_with_letter (map as_symbol ns) in
      leads-token line_step (Calm b) (name_kind n) (gap a l ++ rest) (InNames g r) (InNames g (n ∷ r)) (InNames g (reversed_onto ns (n ∷ r))) (names-step g n r) tt
      (leads-gap line_step (Calm b) a l rest (InNames g (n ∷ r)) (InNames g (reversed_onto ns (n ∷ r))) (names-lead g ns (n ∷ r)))

  listed-lead : (g : Listed) (ns : List ModuleName) → Leads line_step (Calm b) (InNames g []) (string_after (map as_symbol ns)) (InNames g (reversed_onto ns []))
  listed-lead g [] = refl
  listed-lead g (n ∷ ns) = names-lead g (n ∷ ns) []

  words-lead : (ws r : List (List ℕ)) → Leads line_step (Calm b) (InSchedule r) (words_pieces ws) (InSchedule (reversed_onto ws r))
  words-lead [] r = refl
  words-lead (w ∷ ws) r = (tt, words-lead ws (w ∷ r))

  -- From the beginning of a line the pieces lead to a state whose command is c.
  abbrev pub Spells : Command → Type 0
  Spells c = (t : State) × Leads line_step (Calm b) Fresh (command_pieces c) t × (finish t ≡ Some c)

  production-leads : (t : Option (List ℕ)) (l : List ℕ) (r : Rule) → IsRule r → rule_nesting r ≤ b → Leads line_step (Calm b) (InProduction t l R.start) (rule_pieces r) (InProduction t l (read_rule r))
  production-leads t l r g h = wrapped production b (InProduction t l) (λ s k. refl) (λ s c. c) (rule_pieces r) R.start (read_rule r) tt (rule-leads production b r g (of_production r) h)

  pub command-leads : (c : Command) → IsCommand c → nesting c ≤ b → Spells c
  command-leads (set_axiom xs) g h = (
    in_symbols (reversed_onto xs []),
    (tt, axiom-leads xs g.0 g.1),
    ap (λ n. where_closed n (Some (set_axiom (reversed (reversed_onto xs []))))) (none_open xs [] g.1) ∙ ap (λ ys. Some (set_axiom ys)) (twice xs),
  )
  command-leads (put_production None l r) g h =
      (InProduction None l (read_rule r), (tt, (tt, (tt, production-leads None l r g.2 h))), ap (option_map (put_production None l)) (read_rule-whole r g.2))
  command-leads (put_production (Some t) l r) g h =
      (InProduction (Some t) l (read_rule r), (tt, (tt, (tt, (tt, production-leads (Some t) l r g.2 h)))), ap (option_map (put_production (Some t) l)) (read_rule-whole r g.2))
  command-leads (drop_rule l) g h = (Whole (drop_rule l), (tt, (tt, refl)), refl)
  command-leads (set_ignored ns) g h = (InNames of_ignored (reversed_onto ns []), (tt, listed-lead of_ignored ns), ap (λ ms. Some (set_ignored ms)) (twice ns))
  command-leads (set_schedule []) g h = elim g [ ]
  command-leads (set_schedule (w ∷ ws)) g h = (InSchedule (reversed_onto ws (w ∷ [])), (tt, (tt, words-lead ws (w ∷ []))), ap (λ vs. Some (set_schedule vs)) (reversed-one w ws))
  command-leads (set_seed n) g h = (Whole (set_seed n), (tt, (tt, refl)), refl)
  command-leads (set_depth n) g h = (Whole (set_depth n), (tt, (tt, refl)), refl)
  command-leads (set_lattice square) g h = (Whole (set_lattice square), (tt, (tt, refl)), refl)
  command-leads (set_lattice hexagonal) g h = (Whole (set_lattice hexagonal), (tt, (tt, refl)), refl)
  command-leads (set_lattice cubic) g h = (Whole (set_lattice cubic), (tt, (tt, refl)), refl)
  command-leads (put_homomorphism l r) g h = (
    InHomomorphism l (read_rule r),
    (tt, (tt, (tt, wrapped homomorphism b (InHomomorphism l) (λ s k. refl) (λ s c. c) (rule_pieces r) R.start (read_rule r) tt (rule-leads homomorphism b r g.1 (of_homomorphism r g.2) h)))),
    ap (option_map (put_homomorphism l)) (read_rule-whole r g.1),
  )
  command-leads (print_string None) g h = (StringRead, (tt, refl), refl)
  command-leads (print_string (Some n)) g h = (Whole (print_string (Some n)), (tt, (tt, refl)), refl)
  command-leads print_segments g h = (Whole print_segments, (tt, refl), refl)
  command-leads print_svg g h = (Whole print_svg, (tt, refl), refl)
  command-leads print_system g h = (Whole print_system, (tt, refl), refl)
  command-leads quit g h = (Whole quit, (tt, refl), refl)
  command-leads (set_version n) g h = (Whole (set_version n), (tt, (tt, refl)), refl)
  command-leads (set_own to_ignore t ns) g h =
      (InNames (of_own to_ignore t) (reversed_onto ns []), (tt, (tt, (tt, listed-lead (of_own to_ignore t) ns))), ap (λ ms. Some (set_own to_ignore t ms)) (twice ns))
  command-leads (set_own to_consider t ns) g h =
      (InNames (of_own to_consider t) (reversed_onto ns []), (tt, (tt, (tt, listed-lead (of_own to_consider t) ns))), ap (λ ms. Some (set_own to_consider t ms)) (twice ns))
  command-leads (drop_own t) g h = (Whole (drop_own t), (tt, (tt, refl)), refl)
  command-leads (set_numbering by_place) g h = (Whole (set_numbering by_place), (tt, (tt, refl)), refl)
  command-leads (set_numbering by_name) g h = (Whole (set_numbering by_name), (tt, (tt, refl)), refl)

-- the state after some tokens
abbrev pub run : State → List Kind → State
run s [] = s
run s (k ∷ ks) = run (line_step s k) ks

leads-run : (b : ℕ) (ps : List Piece) (s t : State) → Leads line_step (Calm b) s ps t → run s (kinds_of ps) ≡ t
leads-run b [] s t h = h
leads-run b (blank ∷ ps) s t h = leads-run b ps s t h
leads-run b (note n ∷ ps) s t h = leads-run b ps s t h
leads-run b (token k ∷ ps) s t h = leads-run b ps (line_step s k) t h.1

-- The tokens of a command, all read, give that command.
pub command-read : (c : Command) → IsCommand c → finish (run Fresh (kinds_of (command_pieces c))) ≡ Some c
command-read c g =
    let l : Spells (nesting c) c = command-leads (nesting c) c g (omega arith) in
    ap finish (leads-run (nesting c) (command_pieces c) Fresh l.0 l.1) ∙ l.2

rule-calm : (b : ℕ) (s : R.RuleState) → Shallow b s → R.rule_depth s ≤ b
rule-calm b (R.Formals p r) h = omega arith
rule-calm b (R.FormalDue p r n fs) h = omega arith
rule-calm b (R.FormalRead p r n fs) h = omega arith
rule-calm b (R.InExpr spot s) h = h
rule-calm b (R.Successor d r) h = omega arith
rule-calm b R.Stop h = omega arith

pub calm-depth : (b : ℕ) (s : State) → Calm b s → line_depth s ≤ b
calm-depth b (InProduction t l s) h = rule-calm b s h
calm-depth b (InHomomorphism l s) h = rule-calm b s h
calm-depth b s h = omega arith

stopped : (b : ℕ) (ps : List Piece) (t : State) → Leads line_step (Calm b) Stop ps t → Stop ≡ t
stopped b [] t h = h
stopped b (blank ∷ ps) t h = stopped b ps t h
stopped b (note n ∷ ps) t h = stopped b ps t h
stopped b (token k ∷ ps) t h = stopped b ps t h.1

-- what may end in the end didn't stop before
no_stop : (b : ℕ) (ps : List Piece) (s t : State) (c : Command) → Leads line_step (Calm b) s ps t → finish t ≡ Some c → is_stop s ≡ false
no_stop b ps Stop t c h e = let none : None ≡ Some c = ap finish (stopped b ps t h) ∙ e in cc
no_stop b ps s t c h e = refl

not_over : (m n : ℕ) → n ≤ m → nat_lt m n ≡ false
not_over m n h = grind (arith, nat_tests)

leads-verdict : (ps : List Piece) (n : ℕ) (s t : State) (c : Command) → Leads line_step (Calm nesting_bound) s ps t → finish t ≡ Some c → verdict_from n s (kinds_of ps) ≡ sentence c
leads-verdict [] n s t c h e = ap (λ x. sentence_or_stop n (finish x)) h ∙ ap (sentence_or_stop n) e
leads-verdict (blank ∷ ps) n s t c h e = leads-verdict ps n s t c h e
leads-verdict (note m ∷ ps) n s t c h e = leads-verdict ps n s t c h e
leads-verdict (token k ∷ ps) n s t c h e =
    let d : nat_lt nesting_bound (line_depth (line_step s k)) ≡ false = not_over nesting_bound (line_depth (line_step s k)) (calm-depth nesting_bound (line_step s k) h.0) in
    rw (no_stop nesting_bound ps (line_step s k) t c h.1 e, verdict_from) (rw (d, verdict_from) (leads-verdict ps (n + 1) (line_step s k) t c h.1 e))

-- Each command's spelling is a sentence of it.
pub command-sentence : (c : Command) → IsCommand c → nesting c ≤ 32 → verdict (kinds_of (command_pieces c)) ≡ sentence c
command-sentence c g h =
    let l : Spells nesting_bound c = command-leads nesting_bound c g h in
    leads-verdict (command_pieces c) 0 Fresh l.0 c l.1 l.2

command_or : Command → Option Command → Command
command_or d None = d
command_or d (Some c) = c

-- Two commands that are spelled alike are one.
pub one-command : (c d : Command) → IsCommand c → IsCommand d → kinds_of (command_pieces c) ≡ kinds_of (command_pieces d) → c ≡ d
unfolding command_or
one-command c d g h e = ap (command_or c) (sym (command-read c g) ∙ ap (λ ks. finish (run Fresh ks)) e ∙ command-read d h)
