-- What is asked of the module at a place of a level.
use Rattle.std.specs.Prelude.{◌≡◌, ℕ, Bool, not, is_some, ◌&&◌, List, [], Option, Some, None, length, slice_get, if◌then◌else◌}
use Rattle.lsys_spec.specs.Systems.{System}
use Rattle.lsys_spec.specs.Bodies.{Body, group, filter}
use Rattle.lsys_spec.specs.Levels.{ModuleValue}
use Rattle.lsys_spec.specs.Walks.{Told}
use Rattle.lsys_spec.specs.Choice.{Choice}
use Rattle.lsys_spec.specs.Equalities.{same_all, same_body}
use Rattle.lsys_module.specs.Views.{module_name}
use Rattle.lsys_level.specs.Spots.{Spotted, Module}
use Rattle.lsys_walks.specs.Views.{module_named}
use Rattle.lsys_match.specs.declared.posed.Posed.{Posed as CodePosed}
use Rattle.lsys_match.specs.Groups.{asks_nothing, rules_of}
use Rattle.lsys_match.specs.Sites.{Site, choice_told}
use Rattle.lsys_match.specs.TagQuestions.{Posed, posed_of}

-- a level of a system that is asked about
pub record AskedLevel : Type 0 where
  pub system : System
  pub level : ℕ

abbrev pub asked_level : System → ℕ → AskedLevel
asked_level s t = record { system = s; level = t }

-- the bodies for modules with this name and so many parameters
abbrev pub group_at : AskedLevel → List ℕ → ℕ → List Body
group_at q name arity = group q.system q.level (module_name name) arity

-- the other one has the same bodies for them, in order
abbrev pub same_group : AskedLevel → AskedLevel → List ℕ → ℕ → Bool
same_group other q name arity =
    same_all same_body (group_at other name arity) (group_at q name arity)

-- a module stands at place p
pub record HasModuleAt (row : List Spotted) (p : ℕ) : Type 0 where
  pub tag : ℕ
  pub key : ℕ
  pub own : ModuleValue
  pub here : slice_get row p ≡ Some (record { seen = Module own; tag = tag; key = key })

-- a module stands there, and level t has rules for it
pub record HasQuestion (s : System) (t : ℕ) (row : List Spotted) (p : ℕ) : Type 0 where
  pub here : HasModuleAt row p
  pub rules : group s t here.own.name (length here.own.params) ≡ [] → ⊥

-- this is posed of the module at place p of level t
pub record IsPosedAt (s : System) (t : ℕ) (row : List Spotted) (p : ℕ) (d : Posed) : Type 0 where
  pub key : ℕ
  pub here : slice_get row p ≡ Some (record { seen = Module d.own; tag = d.tag; key = key })
  pub posed : d ≡ posed_of s t d.tag key d.own

-- the key, where the group has weights
abbrev pub key_if : Bool → Option ℕ → Option ℕ
key_if weighted key = if weighted then key else None

abbrev pub posed_by : CodePosed → Posed
posed_by q = record { tag = q.tag; own = module_named q.name q.params.now; bodies = rules_of q.group; key = q.key }

-- of the module m at place p of level t
abbrev pub site_at : System → ℕ → List Spotted → ℕ → ModuleValue → Site
site_at s t row p m = record { row = row; place = p; own = m; filter = filter s t }

-- there are no weights, and the first rule has neither contexts nor a condition
abbrev pub is_plain : Posed → Bool
is_plain d = not (is_some d.key) && asks_nothing d.bodies

-- where a naming tells the lineages: what is read for it, and which rule is chosen
abbrev pub told_for : (ℕ → List ℕ) → Site → Posed → Told Choice
told_for naming s d = choice_told naming s d.key d.bodies
