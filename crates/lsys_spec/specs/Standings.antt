-- How a symbol stands in its level, which symbols an edit disturbs, and which questions may be other ones then.
use Rattle.std.specs.Prelude.{◌≡◌, ℕ, zero, suc, Bool, true, false, not, Option, Some, None, List, [], ◌∷◌, ◌+◌, ◌&&◌, ◌||◌, option_map, slice_get}
use Rattle.lsys_syntax.specs.Strings.{ModuleName}
use Rattle.lsys_spec.specs.Systems.{System}
use Rattle.lsys_spec.specs.Bodies.{Body, Pattern, Patterns, Done, OneOf, BranchOf, Filter, filter}
use Rattle.lsys_syntax.specs.Commands.{ListKind, to_ignore, to_consider}
use Rattle.lsys_spec.specs.Levels.{LevelSymbol, Push, Pop, Module, lineage, Step, Passed, Around, OutOf, Items, Nothing, One, Branch, way, items_from}
use Rattle.lsys_spec.specs.Walks.{Entry, lineages_named, any_holds}
use Rattle.lsys_spec.specs.Meaning.{ignores}
use Rattle.lsys_spec.specs.Equalities.{same_option, same_symbol, same_lineage, same_all, same_body, same_number}
use Rattle.lsys_spec.specs.Questions.{Question, question_at}

pub record Standing : Type 0 where
  pub symbol : Option LevelSymbol
  pub before : Option LevelSymbol
  pub after : Option LevelSymbol
  pub mate : Option (List ℕ)

abbrev pub before_place : List LevelSymbol → ℕ → Option LevelSymbol
before_place x zero = None
before_place x (suc p) = slice_get x p

-- the mate of an open bracket, by the items from it on; that of a bracket that ends a branch, by the way after it (A level is balanced, so each has one.)
abbrev pub mate_ahead : Items → Option (List ℕ)
mate_ahead Nothing = None
mate_ahead (One s r) = None
mate_ahead (Branch o c inner r) = Some (lineage c)

abbrev pub mate_after : List Step → Option (List ℕ)
mate_after [] = None
mate_after (Passed s ∷ w) = None
mate_after (OutOf o ∷ w) = None
mate_after (Around o c ∷ w) = Some (lineage o)

abbrev pub mate_at : List LevelSymbol → ℕ → Option LevelSymbol → Option (List ℕ)
mate_at x p None = None
mate_at x p (Some (Module l m)) = None
mate_at x p (Some (Push l)) = mate_ahead (items_from x p)
mate_at x p (Some (Pop l)) = mate_after (way x (p + 1))

abbrev pub standing : List LevelSymbol → ℕ → Standing
standing x p = record { symbol = slice_get x p; before = before_place x p; after = slice_get x (p + 1); mate = mate_at x p (slice_get x p) }

abbrev pub first_or : Bool → Option ℕ → Option ℕ
first_or true later = Some 0
first_or false later = option_map (λ p. p + 1) later

-- the place at which a lineage stands
abbrev pub place_of : List ℕ → List LevelSymbol → Option ℕ
place_of l [] = None
place_of l (s ∷ x) = first_or (same_lineage l (lineage s)) (place_of l x)

abbrev pub standing_of : List LevelSymbol → List ℕ → Option Standing
standing_of x l = option_map (standing x) (place_of l x)

-- the symbol of this lineage stands in the new level as in the old: it isn't disturbed
abbrev pub Settled : List LevelSymbol → List LevelSymbol → List ℕ → Type 0
Settled old new l = standing_of new l ≡ standing_of old l

abbrev pub same_standing : Standing → Standing → Bool
same_standing s t = same_option same_symbol s.symbol t.symbol && (same_option same_symbol s.before t.before && (same_option same_symbol s.after t.after && same_option same_lineage s.mate t.mate))

-- a symbol of the old level stands otherwise in the new one, or not at all
abbrev pub is_disturbed : List LevelSymbol → List LevelSymbol → List ℕ → Bool
is_disturbed x y l = not (same_option same_standing (standing_of y l) (standing_of x l))

-- a symbol that an entry names is disturbed
abbrev pub reads_disturbed : List LevelSymbol → List LevelSymbol → Entry → Bool
reads_disturbed x y e = any_holds (is_disturbed x y) (lineages_named e)

abbrev pub any_disturbed : List LevelSymbol → List LevelSymbol → List Entry → Bool
any_disturbed x y es = any_holds (reads_disturbed x y) es

abbrev pub no_patterns : Patterns → Bool
no_patterns Done = true
no_patterns (OneOf q p) = false
no_patterns (BranchOf q p) = false

abbrev pub no_left : List Pattern → Bool
no_left [] = true
no_left (q ∷ qs) = false

-- no rule has a context
abbrev pub free : List Body → Bool
free [] = true
free (b ∷ bs) = (no_left b.left && no_patterns b.right) && free bs

-- the same names, in whatever order
abbrev pub all_ignored : List ModuleName → List ModuleName → Bool
all_ignored [] names = true
all_ignored (n ∷ ns) names = ignores names n && all_ignored ns names

abbrev pub same_ignored : List ModuleName → List ModuleName → Bool
same_ignored a b = all_ignored a b && all_ignored b a

abbrev pub same_kind : ListKind → ListKind → Bool
same_kind to_ignore to_ignore = true
same_kind to_consider to_consider = true
same_kind a b = false

-- names to ignore, or to consider, in both, and the same ones
abbrev pub same_filter : Filter → Filter → Bool
same_filter f g = same_kind f.kind g.kind && same_ignored f.names g.names

abbrev pub is_touched : System → System → List LevelSymbol → List LevelSymbol → Question → Question → Bool
is_touched old new x y was q =
    not (same_symbol was.own q.own && (same_all same_body was.bodies q.bodies && same_option same_number was.key q.key))
    || (is_disturbed x y (lineage q.own) || (any_disturbed x y was.trace || not (free q.bodies || same_filter (filter old q.level) (filter new q.level))))

abbrev pub touched_there : System → System → List LevelSymbol → List LevelSymbol → Question → Option Question → Bool
touched_there old new x y q None = true
touched_there old new x y q (Some was) = is_touched old new x y was q

-- a question of the new level y may be another one than at the old level x, of which these are the questions
abbrev pub is_candidate : System → System → List LevelSymbol → List LevelSymbol → List Question → Question → Bool
is_candidate old new x y asked q = touched_there old new x y q (question_at q.level (lineage q.own) asked)
