-- After a first token that is no word of version 2 alone, the language is that of version 1.
use Rattle.std.proofs.Common.{◌≡◌, ℕ, zero, suc, Bool, true, false, ◌+◌, ◌||◌, Option, Some, None, Result, Err, List, [], ◌∷◌, ◌++◌, bytes_eq, codes, refl, ap, ◌∙◌, if◌then◌else◌, arith}
use Rattle.lsys_syntax.specs.Tokens.{Kind, Word, Colon, Token, Mode, First, Words, UntilColon, Modules, is_blank, token_at, after_word, next_mode, before_rest, tokens_from, tokens}
use Rattle.lsys_syntax.specs.Pieces.{kinds_of}
use Rattle.lsys_syntax.specs.Commands.{to_ignore, to_consider, Command, set_axiom, put_production, drop_rule, set_ignored, set_schedule, set_seed, set_depth, set_lattice, put_homomorphism, print_string, print_segments, print_svg, print_system, quit, set_version, set_own, drop_own, set_numbering, command_pieces}
use Rattle.lsys_syntax.specs.Sentences.{IsSpelled, Begins}
use Rattle.lsys_syntax.specs.Former.{is_later_word, is_later_kind, begins_later, IsFormer, BeginsFormer, former_after_word, former_next_mode, former_tokens_from, former_tokens, is_later_token, is_later_line}

-- the commands of version 2 alone begin with its words
former_spelling : (c : Command) → begins_later (kinds_of (command_pieces c)) ≡ false → IsFormer c
former_spelling (set_version n) e = cc
former_spelling (set_own to_ignore t ns) e = cc
former_spelling (set_own to_consider t ns) e = cc
former_spelling (drop_own t) e = cc
former_spelling (set_numbering g) e = cc
former_spelling (set_axiom xs) e = tt
former_spelling (put_production t l r) e = tt
former_spelling (drop_rule l) e = tt
former_spelling (set_ignored ns) e = tt
former_spelling (set_schedule ws) e = tt
former_spelling (set_seed n) e = tt
former_spelling (set_depth n) e = tt
former_spelling (set_lattice l) e = tt
former_spelling (put_homomorphism l r) e = tt
former_spelling (print_string n) e = tt
former_spelling print_segments e = tt
former_spelling print_svg e = tt
former_spelling print_system e = tt
former_spelling quit e = tt

pub former_spelled : (b : ℕ) (ks : List Kind) (c : Command) → begins_later ks ≡ false → IsSpelled b ks c → IsFormer c
former_spelled b ks c e h = former_spelling c (ap begins_later h.0 ∙ e)

pub former_begins : (b : ℕ) (ks : List Kind) → begins_later ks ≡ false → Begins b ks → BeginsFormer b ks
former_begins b [] e g = (print_system, Word (codes "show") ∷ [], tt, (refl, tt, omega arith))
former_begins b (k ∷ ks) e g = (g.0, g.1, former_spelled b (k ∷ ks ++ g.1) g.0 e g.2, g.2)

-- lines
both_false : (a b : Bool) → (a || b) ≡ false → (a ≡ false) × (b ≡ false)
both_false false b e = (refl, e)
both_false true b e = cc

last_test : (a : Bool) → a ≡ false → (if a then UntilColon else Words) ≡ Words
last_test a e = ap (λ c. if c then UntilColon else Words) e

same_mode : (w : List ℕ) → is_later_word w ≡ false → after_word w ≡ former_after_word w
same_mode w e =
    let t = both_false (bytes_eq w (codes "version")) _ e in
    let u = both_false (bytes_eq w (codes "ignoring")) _ t.1 in
    let v = both_false (bytes_eq w (codes "consider")) _ u.1 in
    let last : (if bytes_eq w (codes "ignoring") || bytes_eq w (codes "consider") then UntilColon else Words) ≡ Words =
    last_test _ (ap (λ a. a || bytes_eq w (codes "consider")) u.0 ∙ v.0) in
    ap (λ m. if bytes_eq w (codes "axiom") || bytes_eq w (codes "ignore") then Modules else if bytes_eq w (codes "production") || bytes_eq w (codes "hom") then UntilColon else m) last

same_next : (m : Mode) (k : Kind) → (m ≡ First → is_later_kind k ≡ false) → next_mode m k ≡ former_next_mode m k
same_next First (Word w) h = same_mode w (h refl)
same_next First k h = refl
same_next UntilColon Colon h = refl
same_next UntilColon k h = refl
same_next Words k h = refl
same_next Modules k h = refl

abbrev After : Mode → Type 0
After First = ⊥
After m = Unit {0}

chosen_after : (c : Bool) (m n : Mode) → After m → After n → After (if c then m else n)
chosen_after true m n g h = g
chosen_after false m n g h = h

former_after : (m : Mode) (k : Kind) → After (former_next_mode m k)
former_after First (Word w) =
    chosen_after (bytes_eq w (codes "axiom") || bytes_eq w (codes "ignore")) Modules _ tt
    (chosen_after (bytes_eq w (codes "production") || bytes_eq w (codes "hom")) UntilColon Words tt tt)
former_after First k = tt
former_after UntilColon Colon = tt
former_after UntilColon k = tt
former_after Words k = tt
former_after Modules k = tt

-- what the first token of the rest of a line is asked
abbrev later_here : Bool → Option (Kind × ℕ) → Bool → Bool
later_here blank o rest = if blank then rest else is_later_token o

-- one token or blank, and what is read after it
abbrev read_step : Bool → Option (Kind × ℕ) → ℕ → Result (List Token) ℕ → (Kind × ℕ → Result (List Token) ℕ) → Result (List Token) ℕ
read_step b o p skip rest = elim b [
  | true ↦ skip
  | false ↦ elim o [
    | None ↦ Err (p + 1)
    | Some t ↦ before_rest (record { kind = t.0; start = p; stop = p + 1 + t.1 }) (rest t)
  ]
]

one_step : (m : Mode) (p : ℕ) (bytes : List ℕ) (b : Bool) (o : Option (Kind × ℕ)) → (m ≡ First → later_here b o (is_later_line bytes) ≡ false)
    → ((m ≡ First → is_later_line bytes ≡ false) → tokens_from m zero (p + 1) bytes ≡ former_tokens_from m zero (p + 1) bytes)
    → ((j : Mode) (n : ℕ) → After j → tokens_from j n (p + 1) bytes ≡ former_tokens_from j n (p + 1) bytes)
    → read_step b o p (tokens_from m zero (p + 1) bytes) (λ t. tokens_from (next_mode m t.0) t.1 (p + 1) bytes)
    ≡ read_step b o p (former_tokens_from m zero (p + 1) bytes) (λ t. former_tokens_from (former_next_mode m t.0) t.1 (p + 1) bytes)
one_step m p bytes true o k skip rest = skip k
one_step m p bytes false None k skip rest = refl
one_step m p bytes false (Some t) k skip rest =
    let next : next_mode m t.0 ≡ former_next_mode m t.0 = same_next m t.0 k in
    ap (λ j. before_rest (record { kind = t.0; start = p; stop = p + 1 + t.1 }) (tokens_from j t.1 (p + 1) bytes)) next
    ∙ ap (before_rest (record { kind = t.0; start = p; stop = p + 1 + t.1 })) (rest (former_next_mode m t.0) t.1 (former_after m t.0))

-- from a mode after the first token, or before a first token that is no word of version 2 alone
first_after : {A : Type 0} (m : Mode) → After m → m ≡ First → A
first_after First h e = elim h [ ]
first_after UntilColon h e = cc
first_after Words h e = cc
first_after Modules h e = cc

same_tokens_from : (bytes : List ℕ) (m : Mode) (n p : ℕ) → (m ≡ First → (n ≡ 0) × (is_later_line bytes ≡ false)) → tokens_from m n p bytes ≡ former_tokens_from m n p bytes
same_tokens_from [] m n p h = refl
same_tokens_from (c ∷ bytes) m (suc n) p h = same_tokens_from bytes m n (p + 1) (λ e. absurd (omega (arith, (h e).0)))
same_tokens_from (c ∷ bytes) m zero p h =
    one_step m p bytes (is_blank c) (token_at m c bytes) (λ e. asked e) (λ k. same_tokens_from bytes m zero (p + 1) (λ e. (refl, k e))) (λ j n b. same_tokens_from bytes j n (p + 1) (λ e. first_after j b e))
  where
    asked : m ≡ First → later_here (is_blank c) (token_at m c bytes) (is_later_line bytes) ≡ false
    asked e = ap (λ j. later_here (is_blank c) (token_at j c bytes) (is_later_line bytes)) e ∙ (h e).1

pub same_tokens : (line : List ℕ) → is_later_line line ≡ false → tokens line ≡ former_tokens line
same_tokens line e = same_tokens_from line First 0 0 (λ z. (refl, e))
