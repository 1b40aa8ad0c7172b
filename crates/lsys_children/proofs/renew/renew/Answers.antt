use Rattle.std.proofs.Common.{refl, sym, ap, ◌∙◌, subst}
use Rattle.std.specs.Prelude.{IsSome, option_map}
use Rattle.lsys_level.specs.Places.{seen_in}
use Rattle.lsys_forest.specs.Nodes.{Node, with_seen, with_key}
use Rattle.lsys_forest.specs.Groves.{now_of}
use Rattle.lsys_forest.proofs.SoundLemmas.{some_of}
use Rattle.lsys_children.proofs.PlacedLemmas.{set_is, renewed_placed, key_told, kind_tells}
use Rattle.lsys_children.proofs.renew.renew.Goals as goal

pub renew_symbol-requires-clause-other : goal.renew_symbol-requires-clause-other
renew_symbol-requires-clause-other g c = (c.requires.found c.args.node refl).below

pub renew_key-requires-clause-lives : goal.renew_key-requires-clause-lives
renew_key-requires-clause-lives g c =
    let f = c.args.forest.now in
    let n = some_of (now_of f c.args.node) (c.requires.found c.args.node refl).lives in
    subst IsSome (sym (set_is f c.renew_symbol.new.forest c.args.node (with_seen (seen_in c.args.child.now.symbol) n.0) (c.renew_symbol.ensures.set n.0 n.1))) refl

pub returns-clause-placed : goal.returns-clause-placed
returns-clause-placed g c =
    let f = c.args.forest.now in
    let k = c.args.node in
    let w = c.args.child.now in
    let n = some_of (now_of f k) (c.requires.found k refl).lives in
    let set = c.renew_symbol.ensures.set n.0 n.1 in
    let there = set_is f c.renew_symbol.new.forest k (with_seen (seen_in w.symbol) n.0) set in
    renewed_placed f c.renew_symbol.new.forest c.renew_key.new.forest c.args.parent k w n.0 n.1 set (c.renew_key.ensures.set (with_seen (seen_in w.symbol) n.0) there) c.renew_symbol.ensures.spends c.renew_key.ensures.spends

pub returns-clause-told : goal.returns-clause-told
returns-clause-told g c =
    let f = c.args.forest.now in
    let h = c.renew_symbol.new.forest in
    let k = c.args.node in
    let w = c.args.child.now in
    let n = some_of (now_of f k) (c.requires.found k refl).lives in
    let seen = with_seen (seen_in w.symbol) n.0 in
    let there = set_is f h k seen (c.renew_symbol.ensures.set n.0 n.1) in
    let last = set_is h c.renew_key.new.forest k (with_key w.key seen) (c.renew_key.ensures.set seen there) in
    key_told (now_of f) (now_of h) (now_of c.renew_key.new.forest) k c.args.changes.now c.renew_symbol.new.changes
    (ap (option_map (λ (x : Node g.row.A.Denot). x.seen)) last ∙ sym (ap (option_map (λ (x : Node g.row.A.Denot). x.seen)) there)) c.renew_symbol.ensures.told

pub returns-clause-kind : goal.returns-clause-kind
returns-clause-kind g c =
    let f = c.args.forest.now in
    let h = c.renew_symbol.new.forest in
    let k = c.args.node in
    let w = c.args.child.now in
    let n = some_of (now_of f k) (c.requires.found k refl).lives in
    let seen = with_seen (seen_in w.symbol) n.0 in
    let there = set_is f h k seen (c.renew_symbol.ensures.set n.0 n.1) in
    let last = set_is h c.renew_key.new.forest k (with_key w.key seen) (c.renew_key.ensures.set seen there) in
    kind_tells (now_of f) (now_of c.renew_key.new.forest) k n.0 (seen_in w.symbol) c.has_kind-keeps_kind.result n.1 (ap (option_map (λ (x : Node g.row.A.Denot). x.seen)) last) (c.has_kind-keeps_kind.ensures n.0 n.1)

pub returns-clause-kept : goal.returns-clause-kept
returns-clause-kept g c = c.renew_key.ensures.kept ∙ c.renew_symbol.ensures.kept
