-- What a line asks of a system, and what it is answered.
use Rattle.std.specs.Prelude.{◌≡◌, ◌≢◌, ◌≤◌, ◌++◌, ◌∷◌, decimal, ℕ, Option, Some, None, Result, Ok, Err, List, [], codes, length, map, true, false, IsOk}
use Rattle.lsys_syntax.specs.Tokens as syntax
use Rattle.lsys_syntax.specs.Tokens.{tokens}
use Rattle.lsys_syntax.specs.LineMachine.{sentence, stops, verdict}
use Rattle.lsys_spec.specs.Systems as spec
use Rattle.lsys_spec.specs.Edits as edits
use Rattle.lsys_spec.specs.Refusals.{Reply, said, refused, session_end, is_passed_over, line_feed, derivation_text, fault_word, with_number}
use Rattle.lsys_spec.specs.Meaning.{FaultAt, OverLimit}
use Rattle.lsys_rewrite.specs.Faults.{fault_of}
use Rattle.lsys_rewrite.specs.declared.refusal.FaultKind.{FaultKind}
use Rattle.lsys_rewrite.specs.declared.count.EditCount.{EditCount}
use Rattle.lsys_rewrite.specs.declared.refusal.DeriveRefusal.{DeriveRefusal}
use Rattle.lsys_rewrite.specs.declared.refusal.DeriveRefusal.TheVariants as derive
use Rattle.lsys_spec.specs.PictureTexts.{segments_text, svg_text}
use Rattle.lsys_spec.specs.Shown.{show_text}
use Rattle.lsys_syntax.specs.Commands.{Command}
use Rattle.lsys_spec.specs.Replies.{shown, string_line, levels_of, picture_of, edited, accepted, tokens_reply, bare_reply, bare_spelled, is_query}
use Rattle.lsys_text.specs.Tokens.{kind_row, token_of}
use Rattle.lsys_reading.specs.Parted.{command_of}
use Rattle.lsys_reading.specs.declared.command.CommandKind.{CommandKind}
use Rattle.lsys_reading.specs.declared.command.CommandKind.TheVariants as kinds
use Rattle.lsys_rules.specs.Lines.{CommandLine}
use Rattle.lsys_rules.specs.Applying.{IsEditRefusal}
use Rattle.lsys_rules.specs.declared.refusal.Refusal.{Refusal}
use Rattle.lsys_rules.specs.declared.refusal.Refusal.TheVariants as refusals
use Rattle.lsys_session.specs.declared.request.Request.{Request}
use Rattle.lsys_session.specs.declared.request.Request.TheVariants.{Nothing, Edit, String, Segments, Svg, Show, Quit}

-- 1. refusals

-- why a command is refused by itself, but for the column
abbrev pub refusal_words : Refusal → List ℕ
refusal_words (refusals.Byte n) = codes "syntax byte"
refusal_words refusals.LongLine = codes "syntax long"
refusal_words (refusals.Token n) = codes "syntax token"
refusal_words (refusals.Deep n) = codes "syntax deep"
refusal_words (refusals.Version n) = codes "version"
refusal_words (refusals.Name n) = codes "name"
refusal_words (refusals.Duplicate n) = codes "duplicate"
refusal_words (refusals.Mixed n) = codes "mixed"
refusal_words (refusals.Label n) = codes "label"
refusal_words (refusals.Table n) = codes "table"
refusal_words (refusals.Level n) = codes "level"
refusal_words (refusals.TooMany n) = codes "many"
refusal_words refusals.Memory = codes "memory"

abbrev pub refusal_column : Refusal → Option ℕ
refusal_column (refusals.Byte n) = Some n
refusal_column (refusals.Token n) = Some n
refusal_column (refusals.Deep n) = Some n
refusal_column (refusals.Version n) = Some n
refusal_column (refusals.Name n) = Some n
refusal_column (refusals.Duplicate n) = Some n
refusal_column (refusals.Mixed n) = Some n
refusal_column (refusals.Label n) = Some n
refusal_column (refusals.Table n) = Some n
refusal_column (refusals.Level n) = Some n
refusal_column (refusals.TooMany n) = Some n
refusal_column r = None

abbrev pub column_text : Option ℕ → List ℕ
column_text (Some n) = 32 ∷ decimal n
column_text None = []

abbrev pub refusal_text : Refusal → List ℕ
refusal_text r = refusal_words r ++ column_text (refusal_column r)

abbrev pub refusal_line : Refusal → List ℕ
refusal_line r = codes "refused " ++ refusal_text r ++ line_feed

-- why a system has no levels
abbrev pub cause_text : DeriveRefusal → List ℕ
cause_text (derive.Fault kind t n) = derivation_text (FaultAt (fault_of kind) t n)
cause_text (derive.Limit t) = derivation_text (OverLimit t)
cause_text derive.Memory = codes "memory"

abbrev pub derivation_line : DeriveRefusal → List ℕ
derivation_line r = codes "refused " ++ cause_text r ++ line_feed

-- a module's fault, and one at its image
abbrev pub fault_text : FaultKind → ℕ → ℕ → List ℕ
fault_text kind level place = derivation_text (FaultAt (fault_of kind) level place)

abbrev pub image_fault_text : FaultKind → ℕ → List ℕ
image_fault_text kind place = codes "fault " ++ fault_word (fault_of kind) ++ with_number (codes " image") place

-- of an accepted edit: how many questions were asked, and how many there are
abbrev pub count_text : EditCount → List ℕ
count_text c = codes "ok " ++ (decimal c.asked ++ 47 ∷ (decimal c.questions ++ line_feed))

-- 2. requests

-- what a command of this kind asks that changes nothing
abbrev pub query_by : CommandKind → Option Request
query_by kinds.Edit = None
query_by (kinds.String t) = Some (String t)
query_by kinds.Segments = Some Segments
query_by kinds.Svg = Some Svg
query_by kinds.Show = Some Show
query_by kinds.Quit = Some Quit

-- the reply to what a line asks, where it isn't refused for lack of memory
abbrev pub reply_to : ℕ → spec.System → Request → Reply
reply_to limit s Nothing = said s []
reply_to limit s (Edit next) = edited limit s next (levels_of limit next)
reply_to limit s (String t) = shown s (string_line t) (levels_of limit s)
reply_to limit s Segments = shown s segments_text (picture_of s (levels_of limit s))
reply_to limit s Svg = shown s (svg_text s.lattice) (picture_of s (levels_of limit s))
reply_to limit s Show = said s (show_text s)
reply_to limit s Quit = session_end s

-- what the line that asks this spells, if anything; an edit's system is what its command makes of the old one
abbrev pub IsAskedBy : spec.System → Option Command → Request → Type 0
IsAskedBy s spelled Nothing = spelled ≡ None
IsAskedBy s spelled (Edit next) = (c : Command) × (spelled ≡ Some c) × (is_query c ≡ false) × (edits.refusal s c ≡ None) × (next ≡ edits.changed s c)
IsAskedBy s spelled r = (c : Command) × (spelled ≡ Some c) × (is_query c ≡ true)

-- a level that is asked for by its number is there
abbrev pub HasLevel : spec.System → Request → Type 0
HasLevel s (String (Some t)) = t ≤ s.depth
HasLevel s r = Unit {0}

-- for any limit of the session, this is the reply to the line; lack of memory is no answer to a line that is passed over, or that
-- has a byte in no token
abbrev pub IsRequest : spec.System → List ℕ → Result Request Refusal → Type 0
IsRequest s bare (Ok r) = ((limit : ℕ) → bare_reply limit s bare ≡ reply_to limit s r) × HasLevel s r × IsAskedBy s (bare_spelled bare) r
IsRequest s bare (Err refusals.Memory) = (is_passed_over bare ≡ false) × IsOk (tokens bare)
IsRequest s bare (Err e) = (limit : ℕ) → bare_reply limit s bare ≡ refused s (refusal_text e)

-- 3. its steps

-- the line isn't refused at its first token: it begins with the word of a command
abbrev pub HasCommandWord : List ℕ → Type 0
HasCommandWord bare = (ts : List syntax.Token) → tokens bare ≡ Ok ts → verdict (map (λ (t : syntax.Token). t.kind) ts) ≢ stops 0

-- the command that the line's tokens spell, or why they spell none
abbrev pub IsCommandIn : List ℕ → Result CommandLine Refusal → Type 0
IsCommandIn bare (Ok c) = (tokens bare ≡ Ok (map token_of c.tokens)) × (verdict (kind_row c.tokens) ≡ sentence (command_of c.tokens)) × (c.bytes ≡ length bare)
IsCommandIn bare (Err refusals.Memory) = HasCommandWord bare
IsCommandIn bare (Err e) = (limit : ℕ) (s : spec.System) → tokens_reply limit s (length bare) (tokens bare) ≡ refused s (refusal_text e)

-- what a command asks that nothing refuses, or the first refusal
abbrev pub IsRequested : spec.System → CommandLine → Result Request Refusal → Type 0
IsRequested s c (Ok r) = (edits.refusal s (command_of c.tokens) ≡ None) × ((limit : ℕ) → accepted limit s (command_of c.tokens) ≡ reply_to limit s r) × HasLevel s r
    × IsAskedBy s (Some (command_of c.tokens)) r
IsRequested s c (Err e) = IsEditRefusal c (edits.refusal s (command_of c.tokens)) e
