use Rattle.std.proofs.Common.{◌≡◌, List, ℕ, Option, map, length, ap, ◌∙◌, arith}
use Rattle.lsys_forest.specs.Groves.{now_of}
use Rattle.lsys_children.specs.Matches.{Matched, node_numbered}
use Rattle.lsys_children.specs.Children.{numbers_of, need_of}
use Rattle.lsys_forest.proofs.SoundLemmas.{some_of}
use Rattle.lsys_children.proofs.AllLemmas.{found_long}
use Rattle.lsys_children.proofs.brood.Brood.count.Goals as goal

pub need_of-requires-clause-old : goal.need_of-requires-clause-old
need_of-requires-clause-old g c = omega (arith, c.children.type_inv)

pub need_of-requires-clause-found : goal.need_of-requires-clause-found
need_of-requires-clause-found g c =
    let m = now_of c.args.forest.now in
    let ws = c.args.wanted.now in
    let n = some_of (m c.args.parent) c.requires.lives in
    let found : c.deref.result.now ≡ map (node_numbered m n.0.kids) (numbers_of ws) = c.deref.ensures.value ∙ ap (λ (x : Matched). x.found) (c.self.view_is ∙ c.in_ok-find.ensures.matched n.0 n.1) in
    found_long (node_numbered m n.0.kids) ws c.deref.result.now found

pub returns-clause-need : goal.returns-clause-need
returns-clause-need g c = λ n is.
    let m = now_of c.args.forest.now in
    let ws = c.args.wanted.now in
    let found : c.deref.result.now ≡ map (node_numbered m n.kids) (numbers_of ws) = c.deref.ensures.value ∙ ap (λ (x : Matched). x.found) (c.self.view_is ∙ c.in_ok-find.ensures.matched n is) in
    c.need_of.ensures.need ∙ ap (λ (l : List ℕ). need_of ws (length l) c.deref.result.now) (c.children.ensures.kids n is) ∙ ap (λ (os : List (Option ℕ)). need_of ws (length n.kids) os) found
