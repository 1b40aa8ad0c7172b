-- The reply to each line: the language's commands, and every refusal in its order.
use Rattle.std.specs.Prelude.{ℕ, Bool, true, false, Option, Some, None, Result, Ok, Err, List, [], ◌∷◌, ◌++◌, length, map, codes, decimal, slice_get}
use Rattle.lsys_syntax.specs.Lines.{without_cr}
use Rattle.lsys_syntax.specs.Tokens.{Token, tokens}
use Rattle.lsys_syntax.specs.Commands.{Command, print_string, print_segments, print_svg, print_system, quit}
use Rattle.lsys_syntax.specs.LineMachine.{Verdict, sentence, stops, too_deep, verdict}
use Rattle.lsys_spec.specs.Systems.{System}
use Rattle.lsys_spec.specs.Edits.{Refusal, refusal, changed}
pub use Rattle.lsys_spec.specs.ReadBack.{spelled_by}
use Rattle.lsys_spec.specs.Levels as L
use Rattle.lsys_spec.specs.Meaning as M
use Rattle.lsys_spec.specs.Questions.{Question, questions, need}
use Rattle.lsys_spec.specs.Pictures.{Segment, PictureRefusal, NoImage, Far, picture}
use Rattle.lsys_spec.specs.PictureTexts.{segments_text, svg_text}
use Rattle.lsys_spec.specs.Shown.{level_text, show_text}
use Rattle.lsys_spec.specs.Refusals.{Reply, said, refused, session_end, line_feed, is_long, is_passed_over, column_at, why_word, with_number, derivation_text, image_text}

-- what a query prints, or why it is refused; the system stays
abbrev pub shown : {A : Type 0} → System → (A → List ℕ) → Result A (List ℕ) → Reply
shown s text (Ok a) = said s (text a)
shown s text (Err why) = refused s why

-- a refusal by its text
abbrev pub or_text : {A E : Type 0} → (E → List ℕ) → Result A E → Result A (List ℕ)
or_text text (Ok a) = Ok a
or_text text (Err e) = Err (text e)

-- the levels of a system, or the text of the refusal
abbrev pub levels_of : ℕ → System → Result (List (List L.LevelSymbol)) (List ℕ)
levels_of limit s = or_text derivation_text (M.meaning s limit)

-- A level that isn't there doesn't come: a number past the depth is refused, and there is one more level than the depth.
abbrev pub or_empty : Option (List L.LevelSymbol) → List L.LevelSymbol
or_empty (Some x) = x
or_empty None = []

-- the level of this number; without one, the last
abbrev pub level_at : Option ℕ → List (List L.LevelSymbol) → List L.LevelSymbol
level_at None levels = M.last_level levels
level_at (Some t) levels = or_empty (slice_get levels t)

abbrev pub string_line : Option ℕ → List (List L.LevelSymbol) → List ℕ
string_line t levels = level_text (level_at t levels) ++ line_feed

abbrev pub picture_refusal_text : PictureRefusal → List ℕ
picture_refusal_text (NoImage r) = image_text r
picture_refusal_text (Far n) = with_number (codes "far") n

-- the picture of the last level, or the text of the refusal
abbrev pub picture_of : System → Result (List (List L.LevelSymbol)) (List ℕ) → Result (List Segment) (List ℕ)
picture_of s (Err why) = Err why
picture_of s (Ok levels) = or_text picture_refusal_text (picture s (M.last_level levels))

-- The questions of a system; where it has no levels, none. That doesn't come in a session: the opening system has its
-- level, and an edit whose system has none is refused.
abbrev pub questions_of : System → Result (List (List L.LevelSymbol)) (List ℕ) → List Question
questions_of s (Ok levels) = questions s levels
questions_of s (Err why) = []

-- how many questions of the new system the old one didn't answer, and how many there are
abbrev pub count_line : List Question → List Question → List ℕ
count_line old new = codes "ok " ++ (decimal (need old new) ++ 47 ∷ (decimal (length new) ++ line_feed))

-- an edit from which the system `next` comes, whose levels these are
abbrev pub edited : ℕ → System → System → Result (List (List L.LevelSymbol)) (List ℕ) → Reply
edited limit s next (Ok levels) = said next (count_line (questions_of s (levels_of limit s)) (questions next levels))
edited limit s next (Err why) = refused s why

-- a command that changes nothing
abbrev pub is_query : Command → Bool
is_query (print_string t) = true
is_query print_segments = true
is_query print_svg = true
is_query print_system = true
is_query quit = true
is_query c = false

-- the reply to a command that isn't refused by itself
abbrev pub accepted : ℕ → System → Command → Reply
accepted limit s (print_string t) = shown s (string_line t) (levels_of limit s)
accepted limit s print_segments = shown s segments_text (picture_of s (levels_of limit s))
accepted limit s print_svg = shown s (svg_text s.lattice) (picture_of s (levels_of limit s))
accepted limit s print_system = said s (show_text s)
accepted limit s quit = session_end s
accepted limit s c = edited limit s (changed s c) (levels_of limit (changed s c))

-- a refusal at the token of this number
abbrev pub refused_token : List ℕ → (ℕ → ℕ) → System → ℕ → Reply
refused_token why column s place = refused s (with_number why (column place))

-- the reply to a command that is refused by itself for this, or for nothing
abbrev pub command_reply : ℕ → System → (ℕ → ℕ) → Command → Option Refusal → Reply
command_reply limit s column c None = accepted limit s c
command_reply limit s column c (Some r) = refused_token (why_word r.why) column s r.place

-- what the tokens of a line are answered, where `column` gives the column of a token's number
abbrev pub verdict_reply : ℕ → System → (ℕ → ℕ) → Verdict → Reply
verdict_reply limit s column (stops n) = refused_token (codes "syntax token") column s n
verdict_reply limit s column (too_deep n) = refused_token (codes "syntax deep") column s n
verdict_reply limit s column (sentence c) = command_reply limit s column c (refusal s c)

abbrev pub tokens_reply : ℕ → System → ℕ → Result (List Token) ℕ → Reply
tokens_reply limit s end (Err column) = refused s (with_number (codes "syntax byte") column)
tokens_reply limit s end (Ok ts) = verdict_reply limit s (λ n. column_at end n ts) (verdict (map (λ t. t.kind) ts))

-- the reply to a line without its CR that isn't too long
abbrev pub bare_reply : ℕ → System → List ℕ → Reply
bare_reply limit s bare = elim (is_passed_over bare) [ true ↦ said s [] | false ↦ tokens_reply limit s (length bare) (tokens bare) ]

-- the reply to a line, its CR still there
abbrev pub reply : ℕ → System → List ℕ → Reply
reply limit s line = elim (is_long line) [ true ↦ refused s (codes "syntax long") | false ↦ bare_reply limit s (without_cr line) ]

abbrev pub bare_spelled : List ℕ → Option Command
bare_spelled bare = elim (is_passed_over bare) [ true ↦ None | false ↦ spelled_by (tokens bare) ]

-- the command that a line spells; one that is too long or passed over spells none
abbrev pub spelled_command : List ℕ → Option Command
spelled_command line = elim (is_long line) [ true ↦ None | false ↦ bare_spelled (without_cr line) ]
