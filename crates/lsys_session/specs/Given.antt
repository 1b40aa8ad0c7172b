-- What a request is answered, where memory may be wanting.
use Rattle.std.specs.Prelude.{◌≡◌, ◌≤◌, ℕ, Some, None, Bool, true, false, ◌&&◌, ◌++◌, Option, Result, Ok, IfOk, IsOk, List, [], map, codes, ℤ}
use Rattle.lsys_syntax.specs.Limits.{greatest_module_limit}
use Rattle.lsys_io.specs.declared.Failed.{Failed}
use Rattle.lsys_laws.specs.Sessions.{IsWell, HasLevels}
use Rattle.lsys_syntax.specs.Strings.{string_text}
use Rattle.lsys_syntax.specs.Strings as strings
use Rattle.lsys_spec.specs.Systems.{System}
use Rattle.lsys_spec.specs.Levels.{LevelSymbol, plain}
use Rattle.lsys_spec.specs.Meaning.{last_level, meaning}
use Rattle.lsys_spec.specs.Images.{image}
use Rattle.lsys_spec.specs.Lattices.{Lattice}
use Rattle.lsys_spec.specs.Pictures.{Segment, PictureRefusal, NoImage}
use Rattle.lsys_spec.specs.PictureTexts.{segments_text, svg_text}
use Rattle.lsys_spec.specs.Refusals.{Reply, line_feed}
use Rattle.lsys_spec.specs.Replies.{shown, or_text, picture_refusal_text, edited, levels_of}
use Rattle.lsys_spec.specs.Output.{memory_or}
use Rattle.lsys_level.specs.Spots.{Spotted, level_by, with_lineage}
use Rattle.lsys_level.specs.Views.{seen_of}
use Rattle.lsys_level.specs.declared.sight.Sight.{Sight}
use Rattle.lsys_hom.specs.Refusals.{refusal_of}
use Rattle.lsys_hom.specs.declared.refusal.ImageRefusal.{ImageRefusal}
use Rattle.lsys_session.specs.Requests.{reply_to}
use Rattle.lsys_session.specs.Sessions.{WasSaid}
use Rattle.lsys_session.specs.declared.outcome.Outcome.{Outcome}
use Rattle.lsys_session.specs.declared.outcome.Outcome.TheVariants as outcomes
use Rattle.lsys_session.specs.declared.pictures.Picture.{Picture}
use Rattle.lsys_session.specs.declared.pictures.Picture.TheVariants as pictures
use Rattle.lsys_session.specs.declared.request.Request.{Request}
use Rattle.lsys_session.specs.declared.request.Request.TheVariants.{Nothing, Edit, String, Segments, Svg, Show, Quit}

-- 1. what a session keeps

-- a well-formed and well-spelled system that has its levels under a limit of at most 1,000,000 symbols
pub record IsWellUnder (limit : ℕ) (s : System) : Type 0 where
  pub limited : limit ≤ greatest_module_limit
  pub well : IsWell s
  pub levels : HasLevels limit s

-- 2. replies to requests

abbrev pub is_something : Request → Bool
is_something Nothing = false
is_something r = true

abbrev pub is_edit : Request → Bool
is_edit (Edit next) = true
is_edit r = false

-- the reply to a request; lack of memory may stand in its place, but not where nothing is asked
abbrev pub given_reply : ℕ → System → Request → Bool → Reply
given_reply limit s r lacks = memory_or (lacks && is_something r) s (reply_to limit s r)

-- the levels' last one has an image
abbrev pub HasImage : ℕ → System → Type 0
HasImage limit s = (levels : List (List LevelSymbol)) → meaning s limit ≡ Ok levels → IsOk (image s (last_level levels))

-- Memory may be wanting for what is asked: for nothing that takes none, and for no picture whose image is refused.
abbrev pub MayLack : ℕ → System → Request → Type 0
MayLack limit s Nothing = ⊥
MayLack limit s Segments = HasImage limit s
MayLack limit s Svg = HasImage limit s
MayLack limit s (String level) = ⊥
MayLack limit s Show = ⊥
MayLack limit s Quit = ⊥
MayLack limit s r = Unit {0}

-- what becomes of a request that isn't refused
abbrev pub request_outcome : Request → Outcome
request_outcome Nothing = outcomes.Skipped
request_outcome (Edit next) = outcomes.Accepted
request_outcome Quit = outcomes.Quit
request_outcome r = outcomes.Printed

-- what becomes of one that is answered so
abbrev pub outcome_by_reply : Outcome → Reply → Outcome
outcome_by_reply o r = elim r.is_memory [ true ↦ outcomes.Memory | false ↦ elim r.is_refusal [ true ↦ outcomes.Refused | false ↦ o ] ]

-- the reply to the request, or `refused memory`, was put whole, and the new system is the reply's
pub record WasGiven {K : Type 0} (written : K → Option (List ℕ)) (faults : K → ℕ) (sink_old sink_new : K) (held : List ℕ) (limit : ℕ) (old new : System) (request : Request) (result : Result Outcome Failed)
    : Type 0 where
  pub lacks : Bool
  pub says : WasSaid written faults sink_old sink_new held (given_reply limit old request lacks).text (outcome_by_reply (request_outcome request) (given_reply limit old request lacks)) result
  pub next : IfOk result (λ o. new ≡ (given_reply limit old request lacks).next)

-- The reply of the edit that leads to this system, or `refused memory`, was put whole, and the session goes on from the reply's system; or the sink failed, and a front of the reply was written.
pub record WasLed {K : Type 0} (written : K → Option (List ℕ)) (faults : K → ℕ) (sink_old sink_new : K) (held : List ℕ) (limit : ℕ) (old to new : System) (result : Result Outcome Failed) : Type 0 where
  pub lacks : Bool
  pub reply : Reply
  pub is : reply ≡ memory_or lacks old (edited limit old to (levels_of limit to))
  pub says : WasSaid written faults sink_old sink_new held reply.text (outcome_by_reply outcomes.Accepted reply) result
  pub next : IfOk result (λ o. new ≡ reply.next)

-- 3. queries

-- this reply, or `refused memory`, was put whole
pub record WasPrinted {K : Type 0} (written : K → Option (List ℕ)) (faults : K → ℕ) (sink_old sink_new : K) (held : List ℕ) (s : System) (reply : Reply) (result : Result Outcome Failed) : Type 0 where
  pub lacks : Bool
  pub says : WasSaid written faults sink_old sink_new held (memory_or lacks s reply).text (outcome_by_reply outcomes.Printed (memory_or lacks s reply)) result

-- what asks for a picture
abbrev pub picture_request : Picture → Request
picture_request pictures.Segments = Segments
picture_request pictures.Svg = Svg

-- the number of the level that is asked for, the last without one; one that is past the last isn't
abbrev pub level_number : ℕ → Option ℕ → ℕ
level_number depth None = depth
level_number depth (Some t) = t

abbrev pub IsLevelWithin : ℕ → Option ℕ → Type 0
IsLevelWithin depth None = Unit {0}
IsLevelWithin depth (Some t) = t ≤ depth

-- the text of a picture's segments on a lattice
abbrev pub picture_text : Picture → Lattice → List Segment → List ℕ
picture_text pictures.Segments l = segments_text
picture_text pictures.Svg l = svg_text l

-- the reply that tells this picture of a system
abbrev pub picture_reply : Picture → System → Result (List Segment) PictureRefusal → Reply
picture_reply kind s p = shown s (picture_text kind s.lattice) (or_text picture_refusal_text p)

-- a picture's refusal
abbrev pub picture_line : PictureRefusal → List ℕ
picture_line r = codes "refused " ++ picture_refusal_text r ++ line_feed

-- of a level that has no image
abbrev pub no_image_line : ImageRefusal → List ℕ
no_image_line r = picture_line (NoImage (refusal_of r))

-- the symbol that is seen
abbrev pub symbol_seen : Sight → strings.Symbol ℤ
symbol_seen sight = plain (with_lineage [] (seen_of sight))

-- a level as it is printed: what lineages its symbols have isn't told
abbrev pub text_of_level : List Spotted → List ℕ
text_of_level spots = string_text (map plain (level_by (λ tag. []) spots))

-- and on a line of its own
abbrev pub level_line : List Spotted → List ℕ
level_line spots = text_of_level spots ++ line_feed
