-- What a change of a node does: what the node became, and the note of what it was.
use Rattle.std.specs.Prelude.{◌≡◌, ℕ, List, Option, Some}
use Rattle.lsys_module.specs.declared.symbol.Symbol.{Symbol}
use Rattle.lsys_level.specs.Places.{seen_in, params_in}
use Rattle.lsys_region.specs.Rooms.{list_room}
use Rattle.lsys_forest.specs.Nodes.{Node, new_node, with_seen, with_key, with_kids, with_answer}
use Rattle.lsys_forest.specs.Changes.{Previous, Missing, OldSeen, OldKey, OldKids, OldAnswer}
use Rattle.lsys_forest.specs.Stocks.{Stock, nodes_of, Journals}

module _ {A : Type 0} where
  -- The node that lives at a number became what this makes of it, and a note tells what it was.
  -- The rooms for lists fell by no more than this.
  abbrev pub JournalsChange : Stock A → Stock A → ℕ → (Node A → Node A) → (Node A → Previous A)
      → ℕ → ℕ → Type 0
  JournalsChange old new k become before params kids =
      (n : Node A) → nodes_of old k ≡ Some n
      → Journals old new k (Some (become n)) (before n) 0 params kids

  -- the node came to have this symbol
  abbrev pub JournalsSymbol : Stock A → Stock A → ℕ → Symbol → Type 0
  JournalsSymbol old new k symbol =
      JournalsChange old new k (with_seen (seen_in symbol)) (λ n. OldSeen n.seen)
      (list_room (params_in symbol)) 0

  -- the node came to have this key
  abbrev pub JournalsKey : Stock A → Stock A → ℕ → ℕ → Type 0
  JournalsKey old new k key = JournalsChange old new k (with_key key) (λ n. OldKey n.key) 0 0

  -- the node came to keep this answer, or none
  abbrev pub JournalsAnswer : Stock A → Stock A → ℕ → Option A → Type 0
  JournalsAnswer old new k answer =
      JournalsChange old new k (with_answer answer) (λ n. OldAnswer n.answer) 0 0

  -- the node came to have these children
  abbrev pub JournalsKids : Stock A → Stock A → ℕ → List ℕ → Type 0
  JournalsKids old new k kids =
      JournalsChange old new k (with_kids kids) (λ n. OldKids n.kids) 0 (list_room kids)

  -- a node of this parent, with these names and this symbol, came to a number where none was
  abbrev pub JournalsBirth : Stock A → Stock A → ℕ → ℕ → ℕ → ℕ → ℕ → Symbol → ℕ → Type 0
  JournalsBirth old new k parent code count depth symbol key =
      Journals old new k (Some (new_node parent code count depth (seen_in symbol) key))
      Missing 1 (list_room (params_in symbol)) 0
