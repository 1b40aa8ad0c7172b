-- What the text of a reply tells.
use Rattle.std.proofs.Common.{◌≡◌, ℕ, suc, ◌==◌, if◌then◌else◌, Bool, true, false, ◌&&◌, not, Option, Some, None, Result, Ok, Err, List, [], ◌∷◌, ◌++◌, length, map, refl, append_assoc}
use Rattle.std.specs.Prelude.{codes, slice_get}
use Rattle.lsys_syntax.specs.Lines.{without_cr}
use Rattle.lsys_syntax.specs.Tokens.{Token, tokens}
use Rattle.lsys_syntax.specs.Commands.{Command, set_axiom, put_production, drop_rule, set_ignored, set_schedule, set_seed, set_depth, set_lattice, put_homomorphism, print_string, print_segments, print_svg, print_system, quit, set_version, set_own, drop_own, set_numbering}
use Rattle.lsys_syntax.specs.LineMachine.{Verdict, sentence, stops, too_deep, verdict}
use Rattle.lsys_spec.specs.Systems.{System, written, WellSpelled}
use Rattle.lsys_spec.specs.Shown.{as_put, as_put_homomorphism, as_set_own, numbering_commands, script_of, show_text}
use Rattle.lsys_spec.specs.Edits.{Why, wrong_version, unknown_name, duplicate, mixed, wrong_label, wrong_table, wrong_level, many, Refusal, refusal, changed}
use Rattle.lsys_spec.specs.Levels as L
use Rattle.lsys_spec.specs.Meaning as M
use Rattle.lsys_spec.specs.Images.{ImageFault, ImageLimit}
use Rattle.lsys_spec.specs.Pictures.{Segment, PictureRefusal, NoImage, Far, picture}
use Rattle.lsys_spec.specs.Refusals.{Reply, said, refused, line_feed, is_long, is_passed_over, why_word, with_number, derivation_text}
use Rattle.lsys_spec.specs.Replies.{shown, or_text, levels_of, or_empty, level_at, string_line, picture_refusal_text, picture_of, edited, accepted, command_reply, verdict_reply, tokens_reply, reply}
use Rattle.lsys_spec.specs.Output.{may_lack_memory}
use Rattle.lsys_spec.proofs.WellNamed.{NamedLevel, level_named}
use Rattle.lsys_laws.proofs.Prefixes.{begins, no_word}

-- what is said after `refused` is another word than that for lack of memory
abbrev pub OtherWord : List ℕ → Type 0
OtherWord why = (rest : List ℕ) → begins (codes "memory") (why ++ 10 ∷ rest) ≡ false

-- how a reply may look: a refusal for another cause; a text that doesn't begin with the word, whatever follows it; an end without a text
pub data Telling (r : Reply) : Type 0 where
  refuses : (why : List ℕ) → r.is_refusal ≡ true → r.text ≡ codes "refused " ++ why ++ line_feed → OtherWord why → Telling r
  answers : r.is_refusal ≡ false → ((rest : List ℕ) → begins (codes "refused ") (r.text ++ rest) ≡ false) → Telling r
  finishes : r.is_refusal ≡ false → r.text ≡ [] → r.ends ≡ true → Telling r

refused_tells : (s : System) (why : List ℕ) → OtherWord why → Telling (refused s why)
refused_tells s why h = refuses why refl refl h

abbrev Why_of : {A : Type 0} → Result A (List ℕ) → Type 0
Why_of (Ok a) = Unit {0}
Why_of (Err why) = OtherWord why

why_tells : (w : Why) (n : ℕ) → OtherWord (with_number (why_word w) n)
why_tells wrong_version n rest = refl
why_tells unknown_name n rest = refl
why_tells duplicate n rest = refl
why_tells mixed n rest = refl
why_tells wrong_label n rest = refl
why_tells wrong_table n rest = refl
why_tells wrong_level n rest = refl
why_tells many n rest = refl

derivation_tells : (r : M.LevelRefusal) → OtherWord (derivation_text r)
derivation_tells (M.OverLimit t) rest = refl
derivation_tells (M.FaultAt k t n) rest = refl

picture_tells : (r : PictureRefusal) → OtherWord (picture_refusal_text r)
picture_tells (NoImage (ImageFault e n)) rest = refl
picture_tells (NoImage ImageLimit) rest = refl
picture_tells (Far n) rest = refl

levels_why : (r : Result (List (List L.LevelSymbol)) M.LevelRefusal) → Why_of (or_text derivation_text r)
levels_why (Ok xs) = tt
levels_why (Err r) = derivation_tells r

drawn_why : (r : Result (List Segment) PictureRefusal) → Why_of (or_text picture_refusal_text r)
drawn_why (Ok gs) = tt
drawn_why (Err r) = picture_tells r

picture_why : (s : System) (r : Result (List (List L.LevelSymbol)) (List ℕ)) → Why_of r → Why_of (picture_of s r)
picture_why s (Ok xs) h = drawn_why (picture s (M.last_level xs))
picture_why s (Err why) h = h

shown_tells : {A : Type 0} (s : System) (text : A → List ℕ) (a : Result A (List ℕ)) → Why_of a → ((x : A) → a ≡ Ok x → (rest : List ℕ) → begins (codes "refused ") (text x ++ rest) ≡ false) → Telling (shown s text a)
shown_tells s text (Ok a) h f = answers refl (f a refl)
shown_tells s text (Err why) h f = refused_tells s why h

edited_tells : (limit : ℕ) (s next : System) (a : Result (List (List L.LevelSymbol)) (List ℕ)) → Why_of a → Telling (edited limit s next a)
edited_tells limit s next (Ok levels) h = answers refl (λ rest. refl)
edited_tells limit s next (Err why) h = refused_tells s why h

-- the printed level

last_named : (levels : List (List L.LevelSymbol)) → ((t : ℕ) (x : List L.LevelSymbol) → slice_get levels t ≡ Some x → NamedLevel x) → NamedLevel (M.last_level levels)
last_named [] f = tt
last_named (x ∷ []) f = f 0 x refl
last_named (x ∷ y ∷ xs) f = last_named (y ∷ xs) (λ t z e. f (suc t) z e)

or_empty_named : (o : Option (List L.LevelSymbol)) → ((x : List L.LevelSymbol) → o ≡ Some x → NamedLevel x) → NamedLevel (or_empty o)
or_empty_named None f = tt
or_empty_named (Some x) f = f x refl

at_named : (t : Option ℕ) (levels : List (List L.LevelSymbol)) → ((t : ℕ) (x : List L.LevelSymbol) → slice_get levels t ≡ Some x → NamedLevel x) → NamedLevel (level_at t levels)
at_named None levels f = last_named levels f
at_named (Some t) levels f = or_empty_named (slice_get levels t) (f t)

string_tells : (t : Option ℕ) (levels : List (List L.LevelSymbol)) → ((t : ℕ) (x : List L.LevelSymbol) → slice_get levels t ≡ Some x → NamedLevel x) → (rest : List ℕ) → begins (codes "refused ") (string_line t levels ++ rest) ≡ false
string_tells t levels f rest =
    let x = level_at t levels in
    rw append_assoc (no_word x (at_named t levels f) rest (codes "refused") (refl, (refl, (refl, (refl, (refl, (refl, (refl, tt))))))))

ok_levels : (r : Result (List (List L.LevelSymbol)) M.LevelRefusal) (levels : List (List L.LevelSymbol)) → or_text derivation_text r ≡ Ok levels → r ≡ Ok levels
ok_levels (Ok xs) levels h = cc
ok_levels (Err r) levels h = cc

edit_tells : (limit : ℕ) (s : System) (c : Command) → Telling (edited limit s (changed s c) (levels_of limit (changed s c)))
edit_tells limit s c = edited_tells limit s (changed s c) (levels_of limit (changed s c)) (levels_why (M.meaning (changed s c) limit))

shown_no_word : (s : System) (rest : List ℕ) → begins (codes "refused ") (show_text s ++ rest) ≡ false
shown_no_word s rest = by (s.version == 1)
  where
    by : (b : Bool) → begins (codes "refused ") (script_of ((if b then [] else set_version s.version ∷ numbering_commands s.numbering)
        ++ (set_lattice s.lattice ∷ set_seed s.seed ∷ set_axiom (written s.axiom_string) ∷ set_ignored s.ignored
        ∷ (map as_put s.rules ++ (map as_put_homomorphism s.homomorphisms ++ (map as_set_own s.own ++ set_schedule s.schedule ∷ set_depth s.depth ∷ [])))))
        ++ rest) ≡ false
    by true = refl
    by false = refl

accepted_tells : (limit : ℕ) (s : System) (c : Command) → WellSpelled s → Telling (accepted limit s c)
accepted_tells limit s (print_string t) w =
    shown_tells s (string_line t) (levels_of limit s) (levels_why (M.meaning s limit))
    (λ levels e. string_tells t levels (level_named s w limit levels (ok_levels (M.meaning s limit) levels e)))
accepted_tells limit s print_segments w = shown_tells s _ (picture_of s (levels_of limit s)) (picture_why s (levels_of limit s) (levels_why (M.meaning s limit))) (λ gs e rest. refl)
accepted_tells limit s print_svg w = shown_tells s _ (picture_of s (levels_of limit s)) (picture_why s (levels_of limit s) (levels_why (M.meaning s limit))) (λ gs e rest. refl)
accepted_tells limit s print_system w = answers refl (λ rest. shown_no_word s rest)
accepted_tells limit s quit w = finishes refl refl refl
accepted_tells limit s (set_axiom xs) w = edit_tells limit s (set_axiom xs)
accepted_tells limit s (put_production t l r) w = edit_tells limit s (put_production t l r)
accepted_tells limit s (drop_rule l) w = edit_tells limit s (drop_rule l)
accepted_tells limit s (set_ignored ns) w = edit_tells limit s (set_ignored ns)
accepted_tells limit s (set_schedule ws) w = edit_tells limit s (set_schedule ws)
accepted_tells limit s (set_seed n) w = edit_tells limit s (set_seed n)
accepted_tells limit s (set_depth n) w = edit_tells limit s (set_depth n)
accepted_tells limit s (set_lattice l) w = edit_tells limit s (set_lattice l)
accepted_tells limit s (put_homomorphism l r) w = edit_tells limit s (put_homomorphism l r)
accepted_tells limit s (set_version n) w = edit_tells limit s (set_version n)
accepted_tells limit s (set_own k t ns) w = edit_tells limit s (set_own k t ns)
accepted_tells limit s (drop_own t) w = edit_tells limit s (drop_own t)
accepted_tells limit s (set_numbering g) w = edit_tells limit s (set_numbering g)

command_tells : (limit : ℕ) (s : System) (column : ℕ → ℕ) (c : Command) (o : Option Refusal) → WellSpelled s → Telling (command_reply limit s column c o)
command_tells limit s column c None w = accepted_tells limit s c w
command_tells limit s column c (Some r) w = refused_tells s _ (why_tells r.why (column r.place))

verdict_tells : (limit : ℕ) (s : System) (column : ℕ → ℕ) (v : Verdict) → WellSpelled s → Telling (verdict_reply limit s column v)
verdict_tells limit s column (stops n) w = refused_tells s (with_number (codes "syntax token") (column n)) (λ rest. refl)
verdict_tells limit s column (too_deep n) w = refused_tells s (with_number (codes "syntax deep") (column n)) (λ rest. refl)
verdict_tells limit s column (sentence c) w = command_tells limit s column c (refusal s c) w

tokens_tells : (limit : ℕ) (s : System) (end : ℕ) (r : Result (List Token) ℕ) → WellSpelled s → Telling (tokens_reply limit s end r)
tokens_tells limit s end (Err column) w = refused_tells s (with_number (codes "syntax byte") column) (λ rest. refl)
tokens_tells limit s end (Ok ts) w = verdict_tells limit s _ (verdict (map (λ t. t.kind) ts)) w

-- a line that has no reply, or a telling one
pub data Told (lacks : Bool) (r : Reply) : Type 0 where
  silent : lacks ≡ false → r.is_refusal ≡ false → r.text ≡ [] → Told lacks r
  tells : Telling r → Told lacks r

abbrev chosen : Bool → Reply → Reply → Reply
chosen b r q = elim b [ true ↦ r | false ↦ q ]

by_tests : (long passed : Bool) (s : System) (r : Reply) → Telling r
    → Told (not long && not passed) (chosen long (refused s (codes "syntax long")) (chosen passed (said s []) r))
by_tests true passed s r h = tells (refused_tells s (codes "syntax long") (λ rest. refl))
by_tests false true s r h = silent refl refl refl
by_tests false false s r h = tells h

pub reply_tells : (limit : ℕ) (s : System) (line : List ℕ) → WellSpelled s → Told (may_lack_memory line) (reply limit s line)
reply_tells limit s line w =
    let bare = without_cr line in by_tests (is_long line) (is_passed_over bare) s _ (tokens_tells limit s (length bare) (tokens bare) w)
