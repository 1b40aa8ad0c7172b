-- Reading the tokens of a line: a state holds what was read of the command, and each token is one step.
use Rattle.std.specs.Prelude.{ℕ, zero, suc, Bool, true, false, Option, Some, None, List, [], ◌∷◌, ◌+◌, nat_lt, nat_le, codes, bytes_eq, option_map, if◌then◌else◌}
use Rattle.lsys_syntax.specs.Limits.{value_bound}
pub use Rattle.lsys_syntax.specs.Limits.{nesting_bound}
use Rattle.lsys_syntax.specs.Tokens.{Kind, Word, Number, LeftParen, RightParen, Comma, Colon, Minus}
use Rattle.lsys_syntax.specs.Strings.{ModuleName, Symbol, Module, Push, Pop, Cut, Signed, unsigned, minus_sign}
use Rattle.lsys_syntax.specs.RuleMachine as R
use Rattle.lsys_syntax.specs.RuleMachine.{reversed, Sign, a_name, a_push, a_pop, a_cut, no_sign, sign_of, Form, production, homomorphism, open_in, where_closed}
use Rattle.lsys_syntax.specs.Commands.{square, hexagonal, cubic, ListKind, to_ignore, to_consider, by_place, by_name, Command, set_axiom, put_production, drop_rule, set_ignored, set_schedule, set_seed, set_depth, set_lattice, put_homomorphism, print_string, print_segments, print_svg, print_system, quit, set_version, set_own, drop_own, set_numbering}

-- The string of an axiom, the last symbol first; the parameters of its last module, the last one first.
pub data AxiomState : Type 0 where
  Symbols : List (Symbol Signed) → AxiomState
  NumberDue : List (Symbol Signed) → ModuleName → List Signed → AxiomState
  MinusRead : List (Symbol Signed) → ModuleName → List Signed → AxiomState
  NumberRead : List (Symbol Signed) → ModuleName → List Signed → AxiomState

-- which names a line lists: the ignored ones, or those of a table's own list
pub data Listed : Type 0 where
  of_ignored : Listed
  of_own : ListKind → List ℕ → Listed

pub data State : Type 0 where
  Fresh : State
  InAxiom : AxiomState → State
  ProductionDue : State
  OneWord : List ℕ → State
  TwoWords : List ℕ → List ℕ → State
  InProduction : Option (List ℕ) → List ℕ → R.RuleState → State
  LabelDue : State
  LabelRead : List ℕ → State
  InHomomorphism : List ℕ → R.RuleState → State
  DropDue : State
  InNames : Listed → List ModuleName → State
  ScheduleDue : State
  InSchedule : List (List ℕ) → State
  SeedDue : State
  DepthDue : State
  LatticeDue : State
  StringRead : State
  VersionDue : State
  TableDue : ListKind → State
  TableRead : ListKind → List ℕ → State
  CommonDue : State
  NumberingDue : State
  Whole : Command → State  -- nothing may follow
  Stop : State

-- a `]` where a branch is open
abbrev pub axiom_popped : ℕ → State → State
axiom_popped zero s = Stop
axiom_popped (suc n) s = s

abbrev pub axiom_sign : Sign → List (Symbol Signed) → State
axiom_sign (a_name n) r = InAxiom (Symbols (Module n [] ∷ r))
axiom_sign a_push r = InAxiom (Symbols (Push ∷ r))
axiom_sign a_pop r = axiom_popped (open_in r) (InAxiom (Symbols (Pop ∷ r)))
axiom_sign a_cut r = InAxiom (Symbols (Cut ∷ r))
axiom_sign no_sign r = Stop

abbrev pub axiom_open : List (Symbol Signed) → State
axiom_open (Module n [] ∷ r) = InAxiom (NumberDue r n [])
axiom_open r = Stop

abbrev pub axiom_symbols_step : Kind → List (Symbol Signed) → State
axiom_symbols_step LeftParen r = axiom_open r
axiom_symbols_step k r = axiom_sign (sign_of k) r

abbrev pub if_small : Bool → State → State
if_small true s = s
if_small false s = Stop

abbrev pub number_due_step : Kind → List (Symbol Signed) → ModuleName → List Signed → State
number_due_step (Number k) r n zs = if_small (nat_lt k value_bound) (InAxiom (NumberRead r n (unsigned k ∷ zs)))
number_due_step Minus r n zs = InAxiom (MinusRead r n zs)
number_due_step k r n zs = Stop

abbrev pub minus_step : Kind → List (Symbol Signed) → ModuleName → List Signed → State
minus_step (Number k) r n zs = if_small (nat_le k value_bound) (InAxiom (NumberRead r n (minus_sign k ∷ zs)))
minus_step k r n zs = Stop

abbrev pub number_read_step : Kind → List (Symbol Signed) → ModuleName → List Signed → State
number_read_step Comma r n zs = InAxiom (NumberDue r n zs)
number_read_step RightParen r n zs = InAxiom (Symbols (Module n (reversed zs) ∷ r))
number_read_step k r n zs = Stop

abbrev pub axiom_step : AxiomState → Kind → State
axiom_step (Symbols r) t = axiom_symbols_step t r
axiom_step (NumberDue r n zs) t = number_due_step t r n zs
axiom_step (MinusRead r n zs) t = minus_step t r n zs
axiom_step (NumberRead r n zs) t = number_read_step t r n zs

-- what the first word of a line begins
abbrev pub first_word : List ℕ → State
first_word w =
    if bytes_eq w (codes "axiom") then InAxiom (Symbols [])
    else if bytes_eq w (codes "production") then ProductionDue
    else if bytes_eq w (codes "drop") then DropDue
    else if bytes_eq w (codes "ignore") then InNames of_ignored []
    else if bytes_eq w (codes "schedule") then ScheduleDue
    else if bytes_eq w (codes "seed") then SeedDue
    else if bytes_eq w (codes "depth") then DepthDue
    else if bytes_eq w (codes "lattice") then LatticeDue
    else if bytes_eq w (codes "hom") then LabelDue
    else if bytes_eq w (codes "string") then StringRead
    else if bytes_eq w (codes "segments") then Whole print_segments
    else if bytes_eq w (codes "svg") then Whole print_svg
    else if bytes_eq w (codes "show") then Whole print_system
    else if bytes_eq w (codes "quit") then Whole quit
    else if bytes_eq w (codes "version") then VersionDue
    else if bytes_eq w (codes "ignoring") then TableDue to_ignore
    else if bytes_eq w (codes "consider") then TableDue to_consider
    else if bytes_eq w (codes "common") then CommonDue
    else if bytes_eq w (codes "lineage") then NumberingDue
    else Stop

abbrev pub lattice_named : List ℕ → State
lattice_named w =
    if bytes_eq w (codes "square") then Whole (set_lattice square)
    else if bytes_eq w (codes "hexagonal") then Whole (set_lattice hexagonal)
    else if bytes_eq w (codes "cubic") then Whole (set_lattice cubic)
    else Stop

abbrev pub numbering_named : List ℕ → State
numbering_named w =
    if bytes_eq w (codes "places") then Whole (set_numbering by_place)
    else if bytes_eq w (codes "names") then Whole (set_numbering by_name)
    else Stop

abbrev pub listing : Listed → List ModuleName → Command
listing of_ignored ns = set_ignored ns
listing (of_own k t) ns = set_own k t ns

abbrev pub unless_stop : (R.RuleState → State) → R.RuleState → State
unless_stop f R.Stop = Stop
unless_stop f s = f s

abbrev pub with_name : (ModuleName → State) → Sign → State
with_name f (a_name n) = f n
with_name f s = Stop

abbrev pub word_step : (List ℕ → State) → Kind → State
word_step f (Word w) = f w
word_step f k = Stop

abbrev pub number_step : (ℕ → State) → Kind → State
number_step f (Number n) = f n
number_step f k = Stop

abbrev pub one_word_step : List ℕ → Kind → State
one_word_step w (Word l) = TwoWords w l
one_word_step w Colon = InProduction None w R.start
one_word_step w k = Stop

abbrev pub colon_step : State → Kind → State
colon_step s Colon = s
colon_step s k = Stop

abbrev pub line_step : State → Kind → State
line_step Fresh k = word_step first_word k
line_step (InAxiom a) k = axiom_step a k
line_step ProductionDue k = word_step OneWord k
line_step (OneWord w) k = one_word_step w k
line_step (TwoWords t l) k = colon_step (InProduction (Some t) l R.start) k
line_step (InProduction t l s) k = unless_stop (InProduction t l) (R.rule_step production s k)
line_step LabelDue k = word_step LabelRead k
line_step (LabelRead l) k = colon_step (InHomomorphism l R.start) k
line_step (InHomomorphism l s) k = unless_stop (InHomomorphism l) (R.rule_step homomorphism s k)
line_step DropDue k = word_step (λ l. Whole (drop_rule l)) k
line_step (InNames g r) k = with_name (λ n. InNames g (n ∷ r)) (sign_of k)
line_step ScheduleDue k = word_step (λ w. InSchedule (w ∷ [])) k
line_step (InSchedule r) k = word_step (λ w. InSchedule (w ∷ r)) k
line_step SeedDue k = number_step (λ n. Whole (set_seed n)) k
line_step DepthDue k = number_step (λ n. Whole (set_depth n)) k
line_step LatticeDue k = word_step lattice_named k
line_step StringRead k = number_step (λ n. Whole (print_string (Some n))) k
line_step VersionDue k = number_step (λ n. Whole (set_version n)) k
line_step (TableDue g) k = word_step (TableRead g) k
line_step (TableRead g t) k = colon_step (InNames (of_own g t) []) k
line_step CommonDue k = word_step (λ t. Whole (drop_own t)) k
line_step NumberingDue k = word_step numbering_named k
line_step (Whole c) k = Stop
line_step Stop k = Stop

-- the command, where the line may end here
abbrev pub finish : State → Option Command
finish (InAxiom (Symbols r)) = where_closed (open_in r) (Some (set_axiom (reversed r)))
finish (InProduction t l s) = option_map (put_production t l) (R.whole s)
finish (InHomomorphism l s) = option_map (put_homomorphism l) (R.whole s)
finish (InNames g r) = Some (listing g (reversed r))
finish (InSchedule r) = Some (set_schedule (reversed r))
finish StringRead = Some (print_string None)
finish (Whole c) = Some c
finish s = None

-- the nesting at the last token that was taken
abbrev pub line_depth : State → ℕ
line_depth (InProduction t l s) = R.rule_depth s
line_depth (InHomomorphism l s) = R.rule_depth s
line_depth s = 0

-- A line's tokens are a sentence, or there is a first token with which no sentence begins: at all (stops), or but for the bound on nesting (too_deep).
pub data Verdict : Type 0 where
  sentence : Command → Verdict
  stops : ℕ → Verdict
  too_deep : ℕ → Verdict

abbrev pub sentence_or_stop : ℕ → Option Command → Verdict
sentence_or_stop n None = stops n
sentence_or_stop n (Some c) = sentence c

abbrev pub is_stop : State → Bool
is_stop Stop = true
is_stop s = false

-- the tokens from number n on
abbrev pub verdict_from : ℕ → State → List Kind → Verdict
verdict_from n s [] = sentence_or_stop n (finish s)
verdict_from n s (k ∷ ks) = elim (is_stop (line_step s k)) [
  | true ↦ stops n
  | false ↦ elim (nat_lt nesting_bound (line_depth (line_step s k))) [ true ↦ too_deep n | false ↦ verdict_from (n + 1) (line_step s k) ks ]
]

abbrev pub verdict : List Kind → Verdict
verdict ks = verdict_from 0 Fresh ks

abbrev pub command_in : Verdict → Option Command
command_in (sentence c) = Some c
command_in v = None

-- the command that a line's tokens spell
abbrev pub parse_command : List Kind → Option Command
parse_command ks = command_in (verdict ks)
