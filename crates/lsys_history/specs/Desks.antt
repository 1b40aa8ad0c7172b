-- A desk: a system with those that edits led away from and those that were undone. What it answers a line, and a script.
use Rattle.std.specs.Prelude.{◌≡◌, ℕ, ◌+◌, Bool, true, false, not, ◌&&◌, nat_lt, length, Option, Some, None, Result, Ok, Err, All, List, [], ◌∷◌, codes, bytes_eq, option_map, if◌then◌else◌}
use Rattle.lsys_syntax.specs.Lines.{lines_of, without_cr}
use Rattle.lsys_syntax.specs.Tokens.{Token, Kind, Word, Number, tokens}
use Rattle.lsys_syntax.specs.Commands.{Command}
use Rattle.lsys_spec.specs.Systems.{System, opening}
use Rattle.lsys_spec.specs.Levels.{LevelSymbol}
use Rattle.lsys_spec.specs.Meaning.{last_level}
use Rattle.lsys_spec.specs.Pictures.{Pose, PictureRefusal, Turtle}
use Rattle.lsys_spec.specs.Refusals.{Reply, said, refused, refused_memory, is_long, is_passed_over, with_number}
use Rattle.lsys_spec.specs.Replies.{reply, edited, levels_of, is_query, or_text, picture_refusal_text, shown, spelled_command}
use Rattle.lsys_spec.specs.Output.{may_lack_memory, whole_lines}
use Rattle.lsys_lattice.specs.Bounds.{bounds_text, pose_text, turtle_or_refusal}
use Rattle.lsys_lattice.specs.Bounds as pictures
use Rattle.lsys_growth.specs.Growth.{Census, GrowthFault, growth_at, growth_text, growth_fault_text}
use Rattle.lsys_history.specs.Timelines as timelines

-- 1. desk lines

-- what a line asks of the desk
pub data DeskLine : Type 0 where
  undo : DeskLine
  redo : DeskLine
  growth : ℕ → DeskLine
  bounds : DeskLine
  at : ℕ → ℕ → DeskLine  -- how many symbols, and the column of this number

abbrev pub word_asks : List ℕ → Option DeskLine
word_asks text =
    if bytes_eq text (codes "undo") then Some undo else if bytes_eq text (codes "redo") then Some redo
    else if bytes_eq text (codes "bounds") then Some bounds else None

abbrev pub kind_asks : Kind → Option DeskLine
kind_asks (Word text) = word_asks text
kind_asks k = None

-- a word, and a number at a column
abbrev pub number_asks : List ℕ → ℕ → ℕ → Option DeskLine
number_asks text n column =
    if bytes_eq text (codes "growth") then Some (growth n) else if bytes_eq text (codes "at") then Some (at n column) else None

-- two kinds, of which the second stands at a column
abbrev pub two_kinds_ask : Kind → Kind → ℕ → Option DeskLine
two_kinds_ask (Word text) (Number n) column = number_asks text n column
two_kinds_ask k l column = None

-- Desk lines are told by their tokens: one that has more of them than it should is none, and goes to the session.
abbrev pub tokens_ask : List Token → Option DeskLine
tokens_ask [] = None
tokens_ask (t ∷ []) = kind_asks t.kind
tokens_ask (t ∷ u ∷ []) = two_kinds_ask t.kind u.kind (u.start + 1)
tokens_ask (t ∷ u ∷ v ∷ ts) = None

abbrev pub read_asks : Result (List Token) ℕ → Option DeskLine
read_asks (Ok ts) = tokens_ask ts
read_asks (Err column) = None

-- what a line without its CR asks of the desk that isn't too long; one that is passed over asks nothing
abbrev pub bare_asks : List ℕ → Option DeskLine
bare_asks bare = elim (is_passed_over bare) [ true ↦ None | false ↦ read_asks (tokens bare) ]

-- what a line asks of the desk, its CR still there; one that is too long or passed over asks nothing
abbrev pub desk_line : List ℕ → Option DeskLine
desk_line line = elim (is_long line) [ true ↦ None | false ↦ bare_asks (without_cr line) ]

-- 2. the reply to a line

pub record Desk : Type 0 where
  pub system : System
  pub steps : timelines.Timeline System

abbrev pub desk : System → timelines.Timeline System → Desk
desk s steps = record { system = s; steps = steps }

abbrev pub opening_desk : Desk
opening_desk = desk opening timelines.nothing_kept

-- a reply, and the desk after it
pub record DeskReply : Type 0 where
  pub reply : Reply
  pub next : Desk

abbrev pub answered : Reply → Desk → DeskReply
answered r d = record { reply = r; next = d }

-- The reply to the edit that leads to a system. Where it is accepted, these are the steps after it. (A kept system has its
-- levels, so it is.)
abbrev pub led : Desk → Reply → timelines.Timeline System → DeskReply
led d r steps = elim r.is_refusal [ true ↦ answered r d | false ↦ answered r (desk r.next steps) ]

-- A step to this system. Where there is none, the step is refused by its word, and the desk stays.
abbrev pub stepped_to : ℕ → Desk → List ℕ → timelines.Timeline System → Option System → DeskReply
stepped_to limit d word steps None = answered (refused d.system word) d
stepped_to limit d word steps (Some s) = led d (edited limit d.system s (levels_of limit s)) steps

-- how the letters of a level of a system are told, or why they aren't
abbrev pub growth_reply : System → Result Census GrowthFault → Reply
growth_reply s (Ok c) = said s (growth_text c)
growth_reply s (Err f) = refused s (growth_fault_text f)

-- what is asked of the picture of the last level, or the text of the refusal
abbrev pub asked_of : {A : Type 0} → (List LevelSymbol → Result A PictureRefusal) → Result (List (List LevelSymbol)) (List ℕ) → Result A (List ℕ)
asked_of ask (Ok levels) = or_text picture_refusal_text (ask (last_level levels))
asked_of ask (Err why) = Err why

-- how far the picture reaches
abbrev pub bounds_reply : System → Result (List (List LevelSymbol)) (List ℕ) → Reply
bounds_reply s levels = shown s bounds_text (asked_of (pictures.bounds s) levels)

-- where a turtle stands; a number that is past the image's symbols is refused by its column
abbrev pub pose_reply : System → ℕ → Option Pose → Reply
pose_reply s column (Some p) = said s (pose_text p)
pose_reply s column None = refused s (with_number (codes "place") column)

abbrev pub turtle_reply : System → ℕ → Result (Option Turtle) (List ℕ) → Reply
turtle_reply s column (Ok o) = pose_reply s column (option_map (λ t. t.pose) o)
turtle_reply s column (Err why) = refused s why

-- where the picture's turtle stands after the first n symbols of the image
abbrev pub place_reply : System → ℕ → ℕ → Result (List (List LevelSymbol)) (List ℕ) → Reply
place_reply s n column levels = turtle_reply s column (asked_of (λ x. turtle_or_refusal s x n) levels)

-- the desk's own reply: an undo steps to the nearest of the past, a redo to the nearest of those that were undone, growth
-- counts the letters of a level, and the others ask of the picture of the last level
abbrev pub own_reply : ℕ → Desk → DeskLine → DeskReply
own_reply limit d undo = stepped_to limit d (codes "undo") (timelines.after_undo d.steps d.system) (timelines.nearest d.steps.past)
own_reply limit d redo = stepped_to limit d (codes "redo") (timelines.redone d.steps d.system) (timelines.nearest d.steps.future)
own_reply limit d (growth level) = answered (growth_reply d.system (growth_at d.system level)) d
own_reply limit d bounds = answered (bounds_reply d.system (levels_of limit d.system)) d
own_reply limit d (at n column) = answered (place_reply d.system n column (levels_of limit d.system)) d

abbrev pub spells_edit : Option Command → Bool
spells_edit None = false
spells_edit (Some c) = not (is_query c)

-- the steps after the session's reply to a line that spells this: an accepted edit leads away from the system
abbrev pub steps_by_reply : Desk → Reply → Option Command → timelines.Timeline System
steps_by_reply d r spelled = elim (not r.is_refusal && spells_edit spelled) [ true ↦ timelines.after_edit d.steps d.system | false ↦ d.steps ]

abbrev pub session_reply : Desk → Reply → Option Command → DeskReply
session_reply d r spelled = answered r (desk r.next (steps_by_reply d r spelled))

-- the reply to a line that asks this of the desk, where the session would reply so
abbrev pub reply_by : ℕ → Desk → Option DeskLine → Reply → Option Command → DeskReply
reply_by limit d None r spelled = session_reply d r spelled
reply_by limit d (Some asked) r spelled = own_reply limit d asked

-- the reply to a line, its CR still there
abbrev pub desk_reply : ℕ → Desk → List ℕ → DeskReply
desk_reply limit d line = reply_by limit d (desk_line line) (reply limit d.system line) (spelled_command line)

-- 3. the replies to a script

abbrev pub desk_memory_or : Bool → Desk → DeskReply → DeskReply
desk_memory_or true d r = answered (refused_memory d.system) d
desk_memory_or false d r = r

-- the reply to a line that may be refused as out of memory
abbrev pub desk_reply_or_memory : ℕ → Bool → Desk → List ℕ → DeskReply
desk_reply_or_memory limit lacks d line = desk_memory_or (lacks && may_lack_memory line) d (desk_reply limit d line)

-- a reply, and after it what follows from its desk, unless it ends the session
abbrev pub desk_followed : DeskReply → (Desk → List Reply) → List Reply
desk_followed r rest = r.reply ∷ elim r.reply.ends [ true ↦ [] | false ↦ rest r.next ]

-- the replies to lines that are numbered from n on; those whose numbers are in M are refused as out of memory
abbrev pub desk_replies_from : ℕ → (ℕ → Bool) → ℕ → Desk → List (List ℕ) → List Reply
desk_replies_from limit M n d [] = []
desk_replies_from limit M n d (line ∷ lines) =
    desk_followed (desk_reply_or_memory limit (M n) d line) (λ next. desk_replies_from limit M (n + 1) next lines)

abbrev pub desk_out : ℕ → List ℕ → (ℕ → Bool) → List Reply
desk_out limit script M = desk_replies_from limit M 1 opening_desk (lines_of script)

-- 4. what is said of lines and of what is kept

-- those of some numbers that are at most n
abbrev pub up_to : ℕ → (ℕ → Bool) → ℕ → Bool
up_to n M i = M i && not (nat_lt n i)

-- those of some lines' numbers that belong to the whole lines of these bytes
abbrev pub numbers_of_whole : List ℕ → (ℕ → Bool) → ℕ → Bool
numbers_of_whole bytes M = up_to (length (lines_of (whole_lines bytes))) M

-- no line asks anything of the desk
abbrev pub HasNoDeskLine : List (List ℕ) → Type 0
HasNoDeskLine [] = Unit {0}
HasNoDeskLine (line ∷ lines) = (desk_line line ≡ None) × HasNoDeskLine lines

-- of every system that an undo or a redo may lead back to
pub record EachKept (P : System → Type 0) (steps : timelines.Timeline System) : Type 0 where
  pub past : All P steps.past
  pub future : All P steps.future
