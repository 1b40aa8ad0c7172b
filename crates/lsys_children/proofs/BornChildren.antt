-- The children of one parent that has none, where they are numbered by their places.
use Rattle.std.proofs.Common.{◌≡◌, List, sym, subst}
use Rattle.std.specs.Prelude.{ℤ}
use Rattle.lsys_syntax.specs.Commands.{by_place}
use Rattle.lsys_syntax.specs.Strings as S
use Rattle.lsys_reading.specs.declared.parts.Lineage.TheVariants.{Places}
use Rattle.lsys_match.specs.Kept.{Kept}
use Rattle.lsys_forest.specs.Groves.{Grove, now_of}
use Rattle.lsys_children.specs.declared.need.Need.{Need}
use Rattle.lsys_children.specs.Children.{HasRoomFor, SpendsNeed, ToldNodes}
use Rattle.lsys_children.specs.Births.{BearsAll, HasRoomForWanted}
use Rattle.lsys_children.specs.Wishes.{AreWanted}
use Rattle.lsys_children.specs.declared.parent.Parent.{Parent}
use Rattle.lsys_children.specs.MadeChildren.{need_of_one, Renews}
use Rattle.lsys_children.specs.Parents.{wants}
use Rattle.lsys_children.proofs.Needs.{need_there}

pub room_to_bear : (f : Grove Kept) (p : Parent) (zs : List (S.Symbol ℤ)) (t : ToldNodes) → wants (now_of f) p ≡ zs → HasRoomFor f t (need_of_one Places f p) → HasRoomForWanted f p.node zs t
room_to_bear f p zs t is room = λ n ws there wanted.
    subst (λ (need : Need). HasRoomFor f t need) (sym (need_there by_place (now_of f) p n n.key ws there (subst (λ (zs : List (S.Symbol ℤ)). AreWanted by_place n.key zs ws) (sym is) wanted))) room

pub born_renewed : (f new : Grove Kept) (p : Parent) (zs : List (S.Symbol ℤ)) (before after : ToldNodes) → wants (now_of f) p ≡ zs → BearsAll f new p.node zs before after → Renews Places f new p before after
born_renewed f new p zs before after is bears = λ n there.
    let b = bears n there in
    let wanted = subst (λ (zs : List (S.Symbol ℤ)). AreWanted by_place n.key zs b.children) (sym is) b.wanted in
    record {
      children = b.children;
      wanted = wanted;
      renewed = b.renewed;
      told = b.told;
      spends = subst (λ (need : Need). SpendsNeed f new need) (need_there by_place (now_of f) p n n.key b.children there wanted) b.spends;
    }
