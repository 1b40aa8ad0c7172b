-- What cuts left of the children of a level, and which of its nodes have any.
use Rattle.std.specs.Prelude.{◌≡◌, ℕ, Bool, true, false, List, [], ◌∷◌, ◌++◌, Option, None, if◌then◌else◌}
use Rattle.lsys_spec.specs.Rows.{AreApart, flat}
use Rattle.lsys_laws.specs.Kinds.{BracketKind, stays, reached}
use Rattle.lsys_laws.specs.Mates.{AreBalanced, AreOwn, Generation}

-- the children of a node where they stay, and where they are cut off
abbrev pub IsLeft : (ℕ → BracketKind) → Bool → BracketKind → List ℕ → Type 0
IsLeft kind true k ks = AreOwn kind k ks
IsLeft kind false k ks = ks ≡ []

-- Nodes with the children that cuts left them: of some a cut reaches what stands after them, and where a branch is being cut off
-- there are no children.
abbrev pub AreLeft : (ℕ → BracketKind) → (ℕ → List ℕ) → Option ℕ → List ℕ → Type 0
AreLeft kind own o [] = Unit {0}
AreLeft kind own o (p ∷ ps) =
    IsLeft kind (stays o (kind p)) (kind p) (own p)
    × (cut : Bool) × AreLeft kind own (reached o (kind p) cut) ps

abbrev pub is_parent : List ℕ → Bool
is_parent [] = false
is_parent (k ∷ ks) = true

-- those of these nodes that have children
abbrev pub parents : (ℕ → List ℕ) → List ℕ → List ℕ
parents own [] = []
parents own (p ∷ ps) = (if is_parent (own p) then p ∷ [] else []) ++ parents own ps

-- A balanced level, and what cuts left of the children of its nodes. On neither level a node stands twice.
pub record IsLeftLevel (kind : ℕ → BracketKind) (own : ℕ → List ℕ) (xs : List ℕ) : Type 0 where
  pub balanced : AreBalanced kind 0 xs
  pub left : AreLeft kind own None xs
  pub apart : AreApart xs
  pub kids_apart : AreApart (flat own xs)

-- the generation of the nodes that have children, in which nothing more is cut off
abbrev pub left_generation : (ℕ → BracketKind) → (ℕ → List ℕ) → List ℕ → Generation
left_generation kind own xs = record {
  nodes = parents own xs;
  kind = kind;
  own = own;
  cuts = λ k. false;
}
