-- The loop in which the children that a successor wants come to live.
use Rattle.std.proofs.Common.{◌≡◌, ℕ, ◌+◌, ◌≤◌, Bool, true, false, Some, None, Option, List, [], ◌∷◌, ◌++◌, length, sym, ap, ◌∙◌, refl, subst, append_assoc, append-nil, drop}
use Rattle.std.specs.Prelude.{slice_get}
use Rattle.std.proofs.lemmas.List.{drop_all}
use Rattle.lsys_syntax.specs.Commands.{by_place}
use Rattle.lsys_spec.specs.Numbers.{code_of}
use Rattle.lsys_rewrite.specs.Cutting.{symbol_stays, next_cutting}
use Rattle.lsys_module.specs.Views.{symbol_of}
use Rattle.lsys_module.specs.declared.symbol.Symbol.{Symbol}
use Rattle.lsys_forest.specs.Groves.{Grove, IsLive, now_of}
use Rattle.lsys_children.specs.declared.child.Child.{Child}
use Rattle.lsys_children.specs.Children.{ToldNodes}
use Rattle.lsys_children.specs.Steps.{AreBorn, CanPlace, CanPlaceAll, IsPlaced, TellsNodes, none_found}
use Rattle.lsys_children.proofs.Bearing.{born_start, born_next, can_bear}
use Rattle.lsys_children.specs.NumbersOf.{child_of, child_if, wanted_from}
use Rattle.lsys_children.proofs.StepLemmas.{drop_at}

-- the child that the symbol at a place is
abbrev pub child_there : ℕ → ℕ → Symbol → Child
child_there key i s = child_of key (record { code = 0; count = i }) s

module _ {A : Type 0} where
  -- those of the symbols before place i that stay came to live; and what is left to do
  pub record IsBearing (f now : Grove A) (parent key : ℕ) (ss : List Symbol) (i : ℕ) (o : Option ℕ) (t t' : ToldNodes) : Type 0 where
    pub before : List ℕ
    pub children : List Child
    pub all : children ++ wanted_from by_place key i before o (drop i ss) ≡ wanted_from by_place key 0 [] None ss
    pub born : AreBorn f now parent children t t'

  pub bearing_start : (f : Grove A) (parent key : ℕ) (ss : List Symbol) (t : ToldNodes) → IsBearing f f parent key ss 0 None t t
  bearing_start f parent key ss t = record { before = []; children = []; all = refl; born = born_start f parent t }

  module _ (f now : Grove A) (parent key : ℕ) (ss : List Symbol) (i : ℕ) (o : Option ℕ) (t t' : ToldNodes) (s : Symbol) (there : slice_get ss i ≡ Some s) (is : IsBearing f now parent key ss i o t t') where
    abbrev rest : List Child
    rest = wanted_from by_place key (i + 1) (code_of (symbol_of s) ∷ is.before) (next_cutting o (symbol_of s)) (drop (i + 1) ss)

    split : (b : Bool) → symbol_stays o (symbol_of s) ≡ b → is.children ++ (child_if b (child_there key i s) ++ rest) ≡ wanted_from by_place key 0 [] None ss
    split b e =
        ap (λ b. is.children ++ (child_if b (child_there key i s) ++ rest)) (sym e) ∙ ap (λ rest. is.children ++ wanted_from by_place key i is.before o rest) (sym (drop_at ss i s there)) ∙ is.all

    pub bearing_skip : symbol_stays o (symbol_of s) ≡ false → IsBearing f now parent key ss (i + 1) (next_cutting o (symbol_of s)) t t'
    bearing_skip e = record { before = code_of (symbol_of s) ∷ is.before; children = is.children; all = split false e; born = is.born }

    pub bearing_can : CanPlaceAll f parent (wanted_from by_place key 0 [] None ss) (none_found (wanted_from by_place key 0 [] None ss)) t → symbol_stays o (symbol_of s) ≡ true → CanPlace now parent (child_there key i s) None t'
    bearing_can can e = can_bear f now parent (wanted_from by_place key 0 [] None ss) is.children (child_there key i s) rest t t' can (sym (split true e)) is.born

    pub bearing_next : (new : Grove A) (k : ℕ) (t'' : ToldNodes) → IsLive f parent → symbol_stays o (symbol_of s) ≡ true → IsPlaced now new parent (child_there key i s) None k → TellsNodes (now_of now) (now_of new) (k ∷ []) t' t''
        → t''.added ≡ t'.added ++ k ∷ [] → IsBearing f new parent key ss (i + 1) (next_cutting o (symbol_of s)) t t''
    bearing_next new k t'' lives e one told added = record {
      before = code_of (symbol_of s) ∷ is.before;
      children = is.children ++ child_there key i s ∷ [];
      all = append_assoc is.children (child_there key i s ∷ []) rest ∙ split true e;
      born = born_next f now new parent is.children (child_there key i s) k t t' t'' lives is.born one told added;
    }

  pub bearing_end : (f now : Grove A) (parent key : ℕ) (ss : List Symbol) (i : ℕ) (o : Option ℕ) (t t' : ToldNodes) → length ss ≤ i → IsBearing f now parent key ss i o t t' → AreBorn f now parent (wanted_from by_place key 0 [] None ss) t t'
  bearing_end f now parent key ss i o t t' l is =
      subst (λ (ws : List Child). AreBorn f now parent ws t t') (sym (append-nil is.children) ∙ ap (λ rest. is.children ++ wanted_from by_place key i is.before o rest) (sym (drop_all i ss l)) ∙ is.all) is.born
