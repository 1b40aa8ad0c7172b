-- What the steps for some parents take together, by what is wanted of them.
use Rattle.std.specs.Prelude.{ℕ, ℤ, ◌+◌, ◌*◌, ◌^◌, ◌≤◌, ◌/◌, ◌%◌, List, [], ◌∷◌, length, map, sum_by, Option, None, cond}
use Rattle.lsys_syntax.specs.Commands.{Numbering}
use Rattle.lsys_syntax.specs.Strings as S
use Rattle.lsys_spec.specs.Draws.{number_base}
use Rattle.lsys_spec.specs.Levels as L
use Rattle.lsys_spec.specs.Cuts.{cut}
use Rattle.lsys_spec.specs.Meaning.{children}
use Rattle.lsys_rewrite.specs.Cutting.{symbol_stays, next_cutting}
use Rattle.lsys_region.specs.Rooms.{room_of, list_room}
use Rattle.lsys_forest.specs.Nodes.{Nodes}
use Rattle.lsys_forest.specs.Rows.{kids_in}
use Rattle.lsys_children.specs.declared.number.Number.{Number}
use Rattle.lsys_children.specs.declared.need.Need.{Need}
use Rattle.lsys_children.specs.Matches.{node_numbered}
use Rattle.lsys_children.specs.Children.{births, notes_for}
use Rattle.lsys_match.specs.Kept.{Kept}
use Rattle.lsys_children.specs.Nexts.{wanted_count}
use Rattle.lsys_children.specs.declared.parent.Parent.{Parent}
use Rattle.lsys_children.specs.declared.count.ChildCount.{ChildCount}
use Rattle.lsys_children.specs.Parents.{wants}

-- 1. one parent

-- the number of a child, by the one number of its lineage under a parent that has the empty one
abbrev pub number_from : List ℕ → Number
number_from [] = record { code = 0; count = 0 }
number_from (n ∷ l) = record { code = n / number_base; count = n % number_base }

abbrev pub number_told : L.LevelSymbol → Number
number_told s = number_from (L.lineage s)

-- a symbol's parameters, and the room that they take
abbrev pub params_told : L.LevelSymbol → List ℤ
params_told (L.Push l) = []
params_told (L.Pop l) = []
params_told (L.Module l v) = v.params

abbrev pub room_told : L.LevelSymbol → ℕ
room_told s = list_room (params_told s)

-- the children that a successor wants, under a parent with the empty lineage
abbrev pub wanted_symbols : Numbering → List (S.Symbol ℤ) → List L.LevelSymbol
wanted_symbols g zs = cut (children g [] zs)

module _ {A : Type 0} where
  -- what the step for a parent takes that has these children, of which a successor wants its own
  abbrev pub need_for : Numbering → Nodes A → List ℕ → List (S.Symbol ℤ) → Need
  need_for g m kids zs = record {
    nodes = births (map (node_numbered m kids) (map number_told (wanted_symbols g zs)));
    params = sum_by room_told (wanted_symbols g zs);
    kids = room_of (wanted_count g zs);
    notes = notes_for (map (node_numbered m kids) (map number_told (wanted_symbols g zs))) + 1;
    told = wanted_count g zs + length kids + 1;
  }

-- 2. some parents

abbrev pub need_at_parent : Numbering → Nodes Kept → Parent → Need
need_at_parent g m p = need_for g m (kids_in (m p.node)) (wants m p)

-- what the steps for these take
abbrev pub needs : Numbering → Nodes Kept → List Parent → Need
needs g m ps = record {
  nodes = sum_by (λ p. (need_at_parent g m p).nodes) ps;
  params = sum_by (λ p. (need_at_parent g m p).params) ps;
  kids = sum_by (λ p. (need_at_parent g m p).kids) ps;
  notes = sum_by (λ p. (need_at_parent g m p).notes) ps;
  told = sum_by (λ p. (need_at_parent g m p).told) ps;
}

-- both together
abbrev pub with_need : Need → Need → Need
with_need a b = record {
  nodes = a.nodes + b.nodes;
  params = a.params + b.params;
  kids = a.kids + b.kids;
  notes = a.notes + b.notes;
  told = a.told + b.told;
}

-- how many children are wanted of a parent, and how many it has
abbrev pub wanted_of : Numbering → Nodes Kept → Parent → ℕ
wanted_of g m p = wanted_count g (wants m p)

abbrev pub had_by : Nodes Kept → Parent → ℕ
had_by m p = length (kids_in (m p.node))

-- and of all
abbrev pub wanted_of_all : Numbering → Nodes Kept → List Parent → ℕ
wanted_of_all g m ps = sum_by (wanted_of g m) ps

abbrev pub had_by_all : Nodes Kept → List Parent → ℕ
had_by_all m ps = sum_by (had_by m) ps

abbrev pub count_of_all : Numbering → Nodes Kept → List Parent → ChildCount
count_of_all g m ps = record { need = needs g m ps; wanted = wanted_of_all g m ps; had = had_by_all m ps }

-- Of the symbols of a successor, where so much is being cut off: how many the cuts leave, and the room that the parameters of
-- those take.
abbrev pub staying_count : Option ℕ → List (S.Symbol ℤ) → ℕ
staying_count o [] = 0
staying_count o (z ∷ zs) = cond (symbol_stays o z) 1 0 + staying_count (next_cutting o z) zs

abbrev pub plain_room : S.Symbol ℤ → ℕ
plain_room (S.Module v ps) = list_room ps
plain_room z = 0

abbrev pub staying_room : Option ℕ → List (S.Symbol ℤ) → ℕ
staying_room o [] = 0
staying_room o (z ∷ zs) = cond (symbol_stays o z) (plain_room z) 0 + staying_room (next_cutting o z) zs

-- what the step takes for so many new children, whose parameters take so much room, of a parent that has none; and for those
-- that a successor wants, by whatever numbering
abbrev pub count_of_new : ℕ → ℕ → ChildCount
count_of_new n room = record {
  need = record { nodes = n; params = room; kids = room_of n; notes = n + 1; told = n + 1 };
  wanted = n;
  had = 0;
}

abbrev pub count_anew : List (S.Symbol ℤ) → ChildCount
count_anew zs = count_of_new (staying_count None zs) (staying_room None zs)

-- so it is with the root, of which the axiom wants its own
abbrev pub count_below : {A : Type 0} → Numbering → Nodes A → ℕ → List (S.Symbol ℤ) → ChildCount
count_below g m root zs = record {
  need = need_for g m (kids_in (m root)) zs;
  wanted = wanted_count g zs;
  had = length (kids_in (m root));
}

-- and with one parent
abbrev pub count_at_parent : Numbering → Nodes Kept → Parent → ChildCount
count_at_parent g m p = record { need = need_at_parent g m p; wanted = wanted_of g m p; had = had_by m p }

abbrev pub with_count : ChildCount → ChildCount → ChildCount
with_count a b = record { need = with_need a.need b.need; wanted = a.wanted + b.wanted; had = a.had + b.had }

-- a count is no more than n parents with h children can have
pub record IsBoundedCount (n h : ℕ) (c : ChildCount) : Type 0 where
  pub nodes : c.need.nodes ≤ n * 2 ^ 12
  pub params : c.need.params ≤ n * 2 ^ 16
  pub kids : c.need.kids ≤ n * 2 ^ 16
  pub notes : c.need.notes ≤ n * 2 ^ 14
  pub told : c.need.told ≤ n * 2 ^ 13 + h
  pub wanted : c.wanted ≤ n * 2 ^ 12
  pub had : c.had ≤ h
