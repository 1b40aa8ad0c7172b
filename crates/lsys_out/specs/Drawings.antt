-- What is still to come of a picture: its segments one by one, and the refusal after them, if one comes.
use Rattle.std.specs.Prelude.{◌≡◌, ℕ, ℤ, Option, Some, None, Result, Ok, Err, List, [], ◌∷◌, option_map}
use Rattle.lsys_syntax.specs.Strings as S
use Rattle.lsys_spec.specs.Systems.{System}
use Rattle.lsys_spec.specs.Lattices.{Lattice}
use Rattle.lsys_spec.specs.Images as I
use Rattle.lsys_spec.specs.Levels as L
use Rattle.lsys_spec.specs.Pictures.{Turtle, Stepped, Segment, PictureRefusal, NoImage, Far, at_start, modules_to, turtle_step}
use Rattle.lsys_syntax.specs.Calls.{Lent}
use Rattle.lsys_level.specs.Spots.{Spotted, spots_at, level_by}
use Rattle.lsys_hom.specs.Coming.{Coming, coming, nothing_coming}
use Rattle.lsys_hom.specs.Looks.{in_short, looked_at}
use Rattle.lsys_hom.specs.declared.look.Glance.{Glance}
use Rattle.lsys_hom.specs.Refusals.{refusal_of}
use Rattle.lsys_turtle.specs.Ways.{IsReached, RoomyTurtle, segment_of}
use Rattle.lsys_turtle.specs.declared.segment.Segment.{Segment as CodeSegment}
use Rattle.lsys_out.specs.declared.refusal.PictureRefusal.{PictureRefusal as Refusal}
use Rattle.lsys_out.specs.declared.refusal.PictureRefusal.TheVariants as refusals
use Rattle.lsys_out.specs.declared.way.ImageStep.{ImageStep}
use Rattle.lsys_out.specs.declared.way.ImageStep.TheVariants as steps

pub record Drawing : Type 0 where
  pub segments : List Segment
  pub refusal : Option PictureRefusal

-- Nothing is to come.
abbrev pub empty_drawing : Drawing
empty_drawing = record { segments = []; refusal = None }

-- nothing but a refusal comes
abbrev pub stopped : PictureRefusal → Drawing
stopped r = record { segments = []; refusal = Some r }

-- a segment comes first
abbrev pub with_first : Segment → Drawing → Drawing
with_first g d = record { segments = g ∷ d.segments; refusal = d.refusal }

abbrev pub with_drawn : Option Segment → Drawing → Drawing
with_drawn None d = d
with_drawn (Some g) d = with_first g d

-- The image's refusal comes before that of module n, which is too far.
abbrev pub far_or : Option I.ImageRefusal → ℕ → PictureRefusal
far_or None n = Far n
far_or (Some r) n = NoImage r

-- a step at module n, and what follows from the turtle after it
abbrev pub drawn_on : Option I.ImageRefusal → ℕ → Option Stepped → (Turtle → Drawing) → Drawing
drawn_on r n None rest = stopped (far_or r n)
drawn_on r n (Some s) rest = with_drawn s.segment (rest s.turtle)

-- the segments of a turtle's way over symbols, before which n modules stand, and after which the image may be refused
abbrev pub drawing_from : Lattice → ℕ → Turtle → List (S.Symbol ℤ) → Option I.ImageRefusal → Drawing
drawing_from l n t [] r = record { segments = []; refusal = option_map NoImage r }
drawing_from l n t (x ∷ xs) r = drawn_on r (modules_to n x) (turtle_step l x t) (λ u. drawing_from l (modules_to n x) u xs r)

-- a way over what is still to come of an image, before which so many modules stand
pub record Way : Type 0 where
  pub image : Coming
  pub modules : ℕ

abbrev pub drawing : Lattice → Way → Turtle → Drawing
drawing l w t = drawing_from l w.modules t w.image.symbols w.image.refusal

-- the last level's symbols, where a naming tells the lineage of each tag
abbrev pub last_symbols : (ℕ → List ℕ) → System → List (List Spotted) → List L.LevelSymbol
last_symbols naming s levels = level_by naming (spots_at levels s.depth)

-- what comes of the image of the last level
abbrev pub last_image : System → List (List Spotted) → Coming
last_image s levels = coming s (last_symbols (λ tag. []) s levels)

-- what comes of its picture on a lattice
abbrev pub last_drawing : Lattice → System → List (List Spotted) → Drawing
last_drawing l s levels = drawing l (record { image = last_image s levels; modules = 0 }) (at_start l)

-- all of the last level's picture on a lattice is still to come of the way and the turtle
abbrev pub BeginsDrawing : Lattice → Way → Turtle → System → List (List Spotted) → Type 0
BeginsDrawing l w t s levels = drawing l w t ≡ last_drawing l s levels

-- the refusal that the code answers
abbrev pub IsRefusal : PictureRefusal → Refusal → Type 0
IsRefusal r (refusals.Image e) = r ≡ NoImage (refusal_of e)
IsRefusal r (refusals.Far n) = r ≡ Far n
IsRefusal r refusals.Failed = ⊥

-- nothing comes but the refusal that the code answers
abbrev pub IsStopped : Drawing → Refusal → Type 0
IsStopped d e = (r : PictureRefusal) × IsRefusal r e × (d ≡ stopped r)

-- one symbol of the image was looked at and passed, or its end is reached, or its refusal
abbrev pub IsLookedAt : Way → Way → Result (Option Glance) Refusal → Type 0
IsLookedAt old new (Ok (Some look)) =
    (x : S.Symbol ℤ) × (looked_at look ≡ in_short x) × (old.image ≡ record { symbols = x ∷ new.image.symbols; refusal = new.image.refusal })
    × (new.modules ≡ modules_to old.modules x)
IsLookedAt old new (Ok None) = old.image ≡ nothing_coming
IsLookedAt old new (Err e) = (r : I.ImageRefusal) × IsRefusal (NoImage r) e × (old.image ≡ record { symbols = []; refusal = Some r })

-- one symbol of the image is passed, or its end is reached, or its refusal
abbrev pub IsStepped : Drawing → Drawing → Result ImageStep Refusal → Type 0
IsStepped old new (Ok steps.Quiet) = old ≡ new
IsStepped old new (Ok (steps.Drawn g)) = old ≡ with_first (segment_of g) new
IsStepped old new (Ok steps.End) = old ≡ empty_drawing
IsStepped old new (Err e) = IsStopped old e

-- the same of a call that is lent the way and the turtle
abbrev pub Steps : Lattice → Lent Way → Lent RoomyTurtle → Result ImageStep Refusal → Type 0
Steps l way turtle result =
    IsStepped (drawing l way.entry.now turtle.entry.now.turtle) (drawing l way.exit.now turtle.exit.now.turtle) result

-- the turtle of a call that is lent both takes the symbol that the way passed last
abbrev pub TakesSeen : Lattice → Lent Way → Lent RoomyTurtle → S.Symbol ℤ → Result ImageStep Refusal → Type 0
TakesSeen l way turtle x result =
    let w = way.entry.now in
    IsStepped (drawn_on w.image.refusal w.modules (turtle_step l x turtle.entry.now.turtle) (λ u. drawing l w u)) (drawing l way.exit.now turtle.exit.now.turtle) result

-- symbols are passed up to one that gives a segment
abbrev pub IsNextSegment : Drawing → Drawing → Result (Option CodeSegment) Refusal → Type 0
IsNextSegment old new (Ok (Some g)) = old ≡ with_first (segment_of g) new
IsNextSegment old new (Ok None) = old ≡ empty_drawing
IsNextSegment old new (Err e) = IsStopped old e

-- the same of a call that is lent the way and the turtle
abbrev pub GoesToNext : Lattice → Lent Way → Lent RoomyTurtle → Result (Option CodeSegment) Refusal → Type 0
GoesToNext l way turtle result =
    IsNextSegment (drawing l way.entry.now turtle.entry.now.turtle) (drawing l way.exit.now turtle.exit.now.turtle) result

-- what holds where the way goes on
abbrev pub OnStep : Result ImageStep Refusal → Type 0 → Type 0
OnStep (Ok steps.Quiet) P = P
OnStep (Ok (steps.Drawn g)) P = P × IsReached g
OnStep r P = Unit {0}

abbrev pub OnNext : Result (Option CodeSegment) Refusal → Type 0 → Type 0
OnNext (Ok (Some g)) P = P × IsReached g
OnNext r P = Unit {0}
