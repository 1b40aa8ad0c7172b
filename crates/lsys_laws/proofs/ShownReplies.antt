-- The replies to the printed script: none is a refusal, and the last system is the one that was printed.
use Rattle.std.proofs.Common.{◌≡◌, ℕ, zero, suc, ◌==◌, if◌then◌else◌, Bool, true, false, Result, Ok, Err, List, [], ◌∷◌, ◌++◌, ◌+◌, ◌≤◌, nat_lt, length, map, refl, ap, ◌∙◌, sym, subst, arith, append_assoc, true≢false}
use Rattle.std.specs.Prelude.{ℤ, Option, Some, None, codes, sum_by}
use Rattle.std.proofs.lemmas.Bool.Decides.{nat_tests}
use Rattle.std.proofs.lemmas.List.Sums.{sum_by-cons}
use Rattle.lsys_syntax.specs.Lines.{lines_of, without_cr}
use Rattle.lsys_syntax.specs.Tokens.{tokens}
use Rattle.lsys_syntax.specs.Pieces.{placed}
use Rattle.lsys_syntax.specs.Commands.{Numbering, by_place, by_name, Command, set_axiom, put_production, drop_rule, set_ignored, set_schedule, set_seed, set_depth, set_lattice, put_homomorphism, print_string, print_segments, print_svg, print_system, quit, set_version, set_own, drop_own, set_numbering, command_pieces}
use Rattle.lsys_syntax.specs.LineMachine.{verdict}
use Rattle.lsys_syntax.proofs.LineReads.{line-reads, kinds-placed}
use Rattle.lsys_syntax.proofs.LineComplete.{command-sentence}
use Rattle.lsys_syntax.specs.Rules.{Production}
use Rattle.lsys_spec.specs.Systems.{System, Own, Homomorphism, opening, written, Each, WellFormed, WellSpelled}
use Rattle.lsys_spec.specs.Edits.{Refusal, refusal, changed, apply}
use Rattle.lsys_spec.specs.Levels as L
use Rattle.lsys_spec.specs.Meaning.{numbered, children, LevelRefusal, first_level, next_level, last_level, within_limit, meaning_to, meaning}
use Rattle.lsys_spec.specs.Values.{◌and_then◌}
use Rattle.lsys_spec.specs.Refusals.{Reply, said, refused, is_long, column_at}
use Rattle.lsys_spec.specs.ReadBack.{IsPlainLine}
use Rattle.lsys_spec.specs.Replies.{accepted, edited, levels_of, command_reply, verdict_reply, tokens_reply, bare_reply, reply, is_query, count_line, questions_of}
use Rattle.lsys_spec.specs.Questions.{questions}
use Rattle.lsys_spec.specs.Shown.{as_put, as_put_homomorphism, as_set_own, numbering_commands, version_commands, show_commands, show_text}
use Rattle.lsys_syntax.specs.Strings.{Symbol, Module, Push, Pop, Cut}
use Rattle.lsys_spec.specs.Numbers.{code_of}
use Rattle.lsys_spec.specs.Cuts.{cut_on, cut}
use Rattle.lsys_spec.specs.Output.{out, replies_from, reply_followed, any_refusal, last_system, none}
use Rattle.lsys_spec.proofs.Applied.{apply_all, commands-applied, written-back}
use Rattle.lsys_spec.proofs.ShownBack.{shown-plain}
use Rattle.lsys_spec.proofs.Eachs.{each_append}
use Rattle.lsys_laws.specs.Sessions.{IsWell, HasLevels, HasShortLines, IsTakenBack}
use Rattle.lsys_laws.proofs.Unrefused as edit
use Rattle.lsys_laws.proofs.KeptWhole.{out_kept}
use Rattle.lsys_laws.proofs.KeptLevels.{out_levels}
use Rattle.lsys_laws.proofs.ShownLines.{IsLine, line_text, lines_script, shown_lines}

-- 1. the reply to a printed line

abbrev chosen : Bool → Reply → Reply → Reply
chosen b r q = elim b [ true ↦ r | false ↦ q ]

-- a printed line that is short enough
abbrev pub IsShortLine : List ℕ → Type 0
IsShortLine line = is_long line ≡ false

line_reply : (limit : ℕ) (s : System) (c : Command) → IsLine c → IsPlainLine (line_text c) → IsShortLine (line_text c)
    → reply limit s (line_text c) ≡ command_reply limit s (λ n. column_at (length (line_text c)) n (placed 0 (command_pieces c))) c (refusal s c)
line_reply limit s c g p h =
    let line = line_text c in
    let column : ℕ → ℕ = λ n. column_at (length line) n (placed 0 (command_pieces c)) in
    ap (λ b. chosen b (refused s (codes "syntax long")) (bare_reply limit s (without_cr line))) h
    ∙ ap (bare_reply limit s) p.0
    ∙ ap (λ b. chosen b (said s []) (tokens_reply limit s (length line) (tokens line))) p.1
    ∙ ap (tokens_reply limit s (length line)) (line-reads c g.0)
    ∙ ap (λ ks. verdict_reply limit s column (verdict ks)) (kinds-placed (command_pieces c) 0)
    ∙ ap (verdict_reply limit s column) (command-sentence c g.0 g.1)

query_no_edit : (limit : ℕ) (s : System) (c : Command) → is_query c ≡ false → accepted limit s c ≡ edited limit s (changed s c) (levels_of limit (changed s c))
query_no_edit limit s (set_axiom xs) h = refl
query_no_edit limit s (put_production t l r) h = refl
query_no_edit limit s (drop_rule l) h = refl
query_no_edit limit s (set_ignored ns) h = refl
query_no_edit limit s (set_schedule ws) h = refl
query_no_edit limit s (set_seed n) h = refl
query_no_edit limit s (set_depth n) h = refl
query_no_edit limit s (set_lattice l) h = refl
query_no_edit limit s (put_homomorphism l r) h = refl
query_no_edit limit s (set_version n) h = refl
query_no_edit limit s (set_own k t ns) h = refl
query_no_edit limit s (drop_own t) h = refl
query_no_edit limit s (set_numbering g) h = refl
query_no_edit limit s (print_string t) h = absurd (true≢false h)
query_no_edit limit s print_segments h = absurd (true≢false h)
query_no_edit limit s print_svg h = absurd (true≢false h)
query_no_edit limit s print_system h = absurd (true≢false h)
query_no_edit limit s quit h = absurd (true≢false h)

-- the system has its levels under the limit
abbrev IsLeveled : ℕ → System → Type 0
IsLeveled limit s = (levels : List (List L.LevelSymbol)) × (levels_of limit s ≡ Ok levels)

-- it is an edit that leaves t
abbrev Leads : ℕ → System → System → List ℕ → Type 0
Leads limit s t line = (text : List ℕ) × (reply limit s line ≡ said t text)

edit_reply : (limit : ℕ) (s t : System) (c : Command) → IsLine c → IsPlainLine (line_text c) → IsShortLine (line_text c)
    → is_query c ≡ false → apply s c ≡ Ok t → IsLeveled limit t → Leads limit s t (line_text c)
edit_reply limit s t c g p h q e k =
    let a = edit.accepted s c t e in
    let column : ℕ → ℕ = λ n. column_at (length (line_text c)) n (placed 0 (command_pieces c)) in (
      count_line (questions_of s (levels_of limit s)) (questions t k.0),
      line_reply limit s c g p h ∙ ap (command_reply limit s column c) a.0 ∙ query_no_edit limit s c q
          ∙ ap (λ u. edited limit s u (levels_of limit u)) a.1 ∙ ap (edited limit s t) k.1,
    )

-- 2. systems on the way

-- of depth 0, and its first level within the limit
record IsLight (limit : ℕ) (s : System) : Type 0 where
  depth : s.depth ≡ 0
  small : length (first_level s) ≤ limit

not_over : (m n : ℕ) → n ≤ m → nat_lt m n ≡ false
not_over m n h = grind (arith, nat_tests)

under : (m n : ℕ) → nat_lt m n ≡ false → n ≤ m
under m n h = grind (arith, nat_tests)

one_length : (x : List L.LevelSymbol) → sum_by length (x ∷ []) ≡ length x
one_length x = sum_by-cons length x [] ∙ omega arith

one_level : (limit t : ℕ) (x : List L.LevelSymbol) → length x ≤ limit → within_limit limit t (x ∷ []) ≡ Ok (x ∷ [])
one_level limit t x h = rw (one_length x) (rw (not_over limit (length x) h))

light_levels : (limit : ℕ) (s : System) → IsLight limit s → IsLeveled limit s
light_levels limit s h = (first_level s ∷ [], rw h.depth (rw (one_level limit 0 (first_level s) h.small) refl))

-- a level is there only where the first one is
first_under : (limit t : ℕ) (s : System) (levels : List (List L.LevelSymbol)) → meaning_to s limit t ≡ Ok levels → length (first_level s) ≤ limit
first_under limit zero s levels h = subst (λ n. n ≤ limit) (one_length (first_level s)) (by_test (nat_lt limit (sum_by length (first_level s ∷ []))) refl h)
  where
    by_test : (b : Bool) → nat_lt limit (sum_by length (first_level s ∷ [])) ≡ b → within_limit limit 0 (first_level s ∷ []) ≡ Ok levels → sum_by length (first_level s ∷ []) ≤ limit
    by_test false e k = under limit (sum_by length (first_level s ∷ [])) e
    by_test true e k = cc
first_under limit (suc t) s levels h = by_meaning (meaning_to s limit t) refl (λ ls e. first_under limit t s ls e) h
  where
    by_meaning : (r : Result (List (List L.LevelSymbol)) LevelRefusal) → meaning_to s limit t ≡ r
        → ((ls : List (List L.LevelSymbol)) → meaning_to s limit t ≡ Ok ls → length (first_level s) ≤ limit)
        → (r and_then λ ls. next_level s t (last_level ls) and_then λ x. within_limit limit (suc t) (ls ++ x ∷ [])) ≡ Ok levels → length (first_level s) ≤ limit
    by_meaning (Ok ls) e f k = f ls e
    by_meaning (Err r) e f k = cc

-- an edit after which a light system is light
record Keeps (limit : ℕ) (c : Command) : Type 0 where
  edits : is_query c ≡ false
  keeps : (s : System) → IsLight limit s → IsLight limit (changed s c)

keeps_rules : (limit : ℕ) (ps : List Production) → Each (Keeps limit) (map as_put ps)
keeps_rules limit [] = tt
keeps_rules limit (p ∷ ps) = (record { edits = refl; keeps = λ s h. record { depth = h.depth; small = h.small } }, keeps_rules limit ps)

keeps_images : (limit : ℕ) (hs : List Homomorphism) → Each (Keeps limit) (map as_put_homomorphism hs)
keeps_images limit [] = tt
keeps_images limit (h ∷ hs) = (record { edits = refl; keeps = λ s k. record { depth = k.depth; small = k.small } }, keeps_images limit hs)

-- how the symbols are numbered doesn't matter to how many are left
born_length : (g h : Numbering) (n m : ℕ) (b c k l : List ℕ) (xs : List (Symbol ℤ)) (o : Option ℕ) → length (cut_on o (numbered g n b k xs)) ≡ length (cut_on o (numbered h m c l xs))
born_length g h n m b c k l [] None = refl
born_length g h n m b c k l [] (Some i) = refl
born_length g h n m b c k l (Module a ps ∷ xs) None = ap suc (born_length g h (n + 1) (m + 1) (code_of (Module a ps) ∷ b) (code_of (Module a ps) ∷ c) k l xs None)
born_length g h n m b c k l (Module a ps ∷ xs) (Some i) = born_length g h (n + 1) (m + 1) (code_of (Module a ps) ∷ b) (code_of (Module a ps) ∷ c) k l xs (Some i)
born_length g h n m b c k l (Push ∷ xs) None = ap suc (born_length g h (n + 1) (m + 1) (91 ∷ b) (91 ∷ c) k l xs None)
born_length g h n m b c k l (Push ∷ xs) (Some i) = born_length g h (n + 1) (m + 1) (91 ∷ b) (91 ∷ c) k l xs (Some (suc i))
born_length g h n m b c k l (Pop ∷ xs) None = ap suc (born_length g h (n + 1) (m + 1) (93 ∷ b) (93 ∷ c) k l xs None)
born_length g h n m b c k l (Pop ∷ xs) (Some zero) = ap suc (born_length g h (n + 1) (m + 1) (93 ∷ b) (93 ∷ c) k l xs None)
born_length g h n m b c k l (Pop ∷ xs) (Some (suc i)) = born_length g h (n + 1) (m + 1) (93 ∷ b) (93 ∷ c) k l xs (Some i)
born_length g h n m b c k l (Cut ∷ xs) None = born_length g h (n + 1) (m + 1) (37 ∷ b) (37 ∷ c) k l xs (Some 0)
born_length g h n m b c k l (Cut ∷ xs) (Some i) = born_length g h (n + 1) (m + 1) (37 ∷ b) (37 ∷ c) k l xs (Some i)

first_length : (g h : Numbering) (xs : List (Symbol ℤ)) → length (cut (children g [] xs)) ≡ length (cut (children h [] xs))
first_length g h xs = born_length g h 0 0 [] [] [] [] xs None

keeps_axiom : (limit : ℕ) (s : System) → length (first_level s) ≤ limit → Keeps limit (set_axiom (written s.axiom_string))
keeps_axiom limit s h = record {
  edits = refl;
  keeps = λ r k. record {
    depth = k.depth;
    small = subst (λ xs. length (first_level (record r { axiom_string = xs })) ≤ limit) (sym (written-back s.axiom_string)) (subst (λ n. n ≤ limit) (first_length s.numbering r.numbering s.axiom_string) h);
  };
}

keeps_own : (limit : ℕ) (os : List Own) → Each (Keeps limit) (map as_set_own os)
keeps_own limit [] = tt
keeps_own limit (o ∷ os) = (record { edits = refl; keeps = λ s k. record { depth = k.depth; small = k.small } }, keeps_own limit os)

keeps_numbering : (limit : ℕ) (g : Numbering) → Each (Keeps limit) (numbering_commands g)
keeps_numbering limit by_place = tt
keeps_numbering limit by_name =
    (record { edits = refl; keeps = λ s k. record { depth = k.depth; small = subst (λ n. n ≤ limit) (first_length s.numbering by_name s.axiom_string) k.small } }, tt)

keeps_version : (limit : ℕ) (s : System) → Each (Keeps limit) (version_commands s)
keeps_version limit s = by (s.version == 1)
  where
    by : (b : Bool) → Each (Keeps limit) (if b then [] else set_version s.version ∷ numbering_commands s.numbering)
    by true = tt
    by false = (record { edits = refl; keeps = λ r k. record { depth = k.depth; small = k.small } }, keeps_numbering limit s.numbering)

-- all commands but the last, which sets the depth, after those of the version
abbrev rest_commands : System → List Command
rest_commands s =
    set_lattice s.lattice ∷ set_seed s.seed ∷ set_axiom (written s.axiom_string) ∷ set_ignored s.ignored
    ∷ (map as_put s.rules ++ (map as_put_homomorphism s.homomorphisms ++ (map as_set_own s.own ++ set_schedule s.schedule ∷ [])))

abbrev front_commands : System → List Command
front_commands s = version_commands s ++ rest_commands s

commands_split : (s : System) → show_commands s ≡ front_commands s ++ set_depth s.depth ∷ []
commands_split s =
    let rules = map as_put s.rules in
    let images = map as_put_homomorphism s.homomorphisms in
    let own = map as_set_own s.own in
    let last = set_depth s.depth ∷ [] in
    ap (λ cs. version_commands s ++ (set_lattice s.lattice ∷ set_seed s.seed ∷ set_axiom (written s.axiom_string) ∷ set_ignored s.ignored ∷ cs))
    (sym (append_assoc rules (images ++ (own ++ set_schedule s.schedule ∷ [])) last
    ∙ ap (λ cs. rules ++ cs) (append_assoc images (own ++ set_schedule s.schedule ∷ []) last ∙ ap (λ cs. images ++ cs) (append_assoc own (set_schedule s.schedule ∷ []) last))))
    ∙ sym (append_assoc (version_commands s) (rest_commands s) last)

front_keeps : (limit : ℕ) (s : System) → length (first_level s) ≤ limit → Each (Keeps limit) (front_commands s)
front_keeps limit s h =
    let last : Each (Keeps limit) (set_schedule s.schedule ∷ []) = (record { edits = refl; keeps = λ r k. record { depth = k.depth; small = k.small } }, tt) in
    each_append (Keeps limit) (version_commands s) (rest_commands s) (keeps_version limit s) (
      record { edits = refl; keeps = λ r k. record { depth = k.depth; small = k.small } },
      (
        record { edits = refl; keeps = λ r k. record { depth = k.depth; small = k.small } },
        (
          keeps_axiom limit s h,
          (
            record { edits = refl; keeps = λ r k. record { depth = k.depth; small = k.small } },
            each_append (Keeps limit) (map as_put s.rules) (map as_put_homomorphism s.homomorphisms ++ (map as_set_own s.own ++ set_schedule s.schedule ∷ [])) (keeps_rules limit s.rules)
                (each_append (Keeps limit) (map as_put_homomorphism s.homomorphisms) (map as_set_own s.own ++ set_schedule s.schedule ∷ []) (keeps_images limit s.homomorphisms)
                (each_append (Keeps limit) (map as_set_own s.own) (set_schedule s.schedule ∷ []) (keeps_own limit s.own) last)),
          ),
        ),
      ),
    )

-- 3. all replies

-- one reply at least, none a refusal, and the last leaves s
pub record Ends (rs : List Reply) (s : System) : Type 0 where
  pub first : Reply
  pub more : List Reply
  pub is : rs ≡ first ∷ more
  pub calm : any_refusal (first ∷ more) ≡ false
  pub last : last_system (first ∷ more) ≡ s

ends_later : (r : Reply) (rs : List Reply) (s : System) → r.is_refusal ≡ false → Ends rs s → Ends (r ∷ rs) s
ends_later r rs s h e = record {
  first = r;
  more = e.first ∷ e.more;
  is = ap (λ qs. r ∷ qs) e.is;
  calm = rw h e.calm;
  last = e.last;
}

-- what the printed lines of the commands are
abbrev Lines : List Command → Type 0
Lines cs = Each (λ c. IsLine c × IsPlainLine (line_text c) × IsShortLine (line_text c)) cs

step_on : (limit n : ℕ) (s t u : System) (c : Command) (cs : List Command) → Leads limit s t (line_text c)
    → Ends (replies_from (reply limit) none (n + 1) t (map line_text cs)) u → Ends (replies_from (reply limit) none n s (map line_text (c ∷ cs))) u
step_on limit n s t u c cs k e =
    let rest : System → List Reply = λ next. replies_from (reply limit) none (n + 1) next (map line_text cs) in
    subst (λ rs. Ends rs u) (sym (ap (λ r. reply_followed r rest) k.1)) (ends_later (said t k.0) (rest t) u refl e)

last_on : (limit n : ℕ) (s t : System) (c : Command) → Leads limit s t (line_text c) → Ends (replies_from (reply limit) none n s (map line_text (c ∷ []))) t
last_on limit n s t c k =
    let rest : System → List Reply = λ next. replies_from (reply limit) none (n + 1) next [] in
    subst (λ rs. Ends rs t) (sym (ap (λ r. reply_followed r rest) k.1)) (record { first = said t k.0; more = []; is = refl; calm = refl; last = refl })

-- what accepts all of them accepts the first
goes_on : (r : Result System Refusal) (s : System) (cs : List Command) (d : Command) → apply_all r (cs ++ d ∷ []) ≡ Ok s → (t : System) × (r ≡ Ok t)
goes_on (Ok t) s cs d h = (t, refl)
goes_on (Err e) s [] d h = cc
goes_on (Err e) s (c ∷ cs) d h = cc

replies_end : (limit n : ℕ) (r s : System) (cs : List Command) (d : Command) → Lines (cs ++ d ∷ []) → Each (Keeps limit) cs → is_query d ≡ false
    → IsLight limit r → apply_all (Ok r) (cs ++ d ∷ []) ≡ Ok s → IsLeveled limit s → Ends (replies_from (reply limit) none n r (map line_text (cs ++ d ∷ []))) s
replies_end limit n r s [] d g k q light h levels =
    last_on limit n r s d (edit_reply limit r s d g.0.0 g.0.1 g.0.2 q h levels)
replies_end limit n r s (c ∷ cs) d g k q light h levels =
    let there = goes_on (apply r c) s cs d h in
    let t = there.0 in
    let light_there : IsLight limit t = subst (IsLight limit) (edit.accepted r c t there.1).1 (k.0.keeps r light) in
    step_on limit n r t s c (cs ++ d ∷ []) (edit_reply limit r t c g.0.0 g.0.1 g.0.2 k.0.edits there.1 (light_levels limit t light_there))
    (replies_end limit (n + 1) t s cs d g.1 k.1 q light_there (subst (λ (o : Result System Refusal). apply_all o (cs ++ d ∷ []) ≡ Ok s) there.1 h) levels)

lines_are : (cs : List Command) → Each IsLine cs → Each IsPlainLine (map line_text cs) → Each IsShortLine (map line_text cs) → Lines cs
lines_are [] a b c = tt
lines_are (x ∷ xs) a b c = ((a.0, b.0, c.0), lines_are xs a.1 b.1 c.1)

opening_light : (limit : ℕ) → IsLight limit opening
opening_light limit = record { depth = refl; small = omega arith }

levels_text : (limit : ℕ) (s : System) (levels : List (List L.LevelSymbol)) → meaning s limit ≡ Ok levels → levels_of limit s ≡ Ok levels
levels_text limit s levels h = rw h refl

pub shown_replies : (limit : ℕ) (s : System) (levels : List (List L.LevelSymbol)) → WellFormed s → WellSpelled s → meaning s limit ≡ Ok levels
    → Each IsShortLine (lines_of (show_text s)) → Ends (out (reply limit) (show_text s) none) s
shown_replies limit s levels w v m h =
    let cut : lines_of (show_text s) ≡ map line_text (show_commands s) = lines_script (show_commands s) (shown_lines s w v) in
    let lines : Lines (show_commands s) = lines_are (show_commands s) (shown_lines s w v) (subst (Each IsPlainLine) cut (shown-plain s w v)) (subst (Each IsShortLine) cut h) in
    let small : length (first_level s) ≤ limit = first_under limit s.depth s levels m in
    let split = commands_split s in
    let ended : Ends (replies_from (reply limit) none 1 opening (map line_text (front_commands s ++ set_depth s.depth ∷ []))) s =
    replies_end limit 1 opening s (front_commands s) (set_depth s.depth) (subst Lines split lines) (front_keeps limit s small) refl (opening_light limit)
    (ap (apply_all (Ok opening)) (sym split) ∙ commands-applied s w v) (levels, levels_text limit s levels m) in
    subst (λ ls. Ends (replies_from (reply limit) none 1 opening ls) s) (sym (cut ∙ ap (map line_text) split)) ended

pub taken_back : (limit : ℕ) (s : System) → IsWell s → HasLevels limit s → HasShortLines s → IsTakenBack limit s
taken_back limit s w k h =
    let e = shown_replies limit s k.0 w.0 w.1 k.1 h in record { accepted = ap any_refusal e.is ∙ e.calm; same = ap last_system e.is ∙ e.last }

both_hold : (P Q R : Reply → Type 0) (rs : List Reply) → ((r : Reply) → P r → Q r → R r) → Each P rs → Each Q rs → Each R rs
both_hold P Q R [] f h k = tt
both_hold P Q R (r ∷ rs) f h k = (f r h.0 k.0, both_hold P Q R rs f h.1 k.1)

pub all_taken_back : (limit : ℕ) (script : List ℕ) (lacks : ℕ → Bool) → Each (λ r. HasShortLines r.next → IsTakenBack limit r.next) (out (reply limit) script lacks)
all_taken_back limit script lacks =
    both_hold (λ r. IsWell r.next) (λ r. HasLevels limit r.next) (λ r. HasShortLines r.next → IsTakenBack limit r.next) (out (reply limit) script lacks) (λ r w k h. taken_back limit r.next w k h)
    (out_kept limit script lacks) (out_levels limit script lacks)
