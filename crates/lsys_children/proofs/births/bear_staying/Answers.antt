use Rattle.std.proofs.Common.{◌≡◌, ◌+◌, ◌≤◌, ℕ, false, true, Some, None, Option, length, refl, sym, ap, ◌∙◌, subst}
use Rattle.std.specs.Prelude.{slice_get, IfSome}
use Rattle.std.proofs.lemmas.Option.{slice_get_read}
use Rattle.lsys_module.specs.Views.{symbol_of}
use Rattle.lsys_rewrite.specs.Cutting.{next_cutting, symbol_stays}
use Rattle.lsys_forest.specs.Groves.{Grove, kept_in}
use Rattle.lsys_children.specs.Children.{ToldNodes}
use Rattle.lsys_children.specs.Steps.{CanPlace, IsPlaced, new_kid}
use Rattle.lsys_children.proofs.Cutting.{depth_after}
use Rattle.lsys_children.proofs.BearingByPlace.{IsBearing, child_there, bearing_start, bearing_skip, bearing_can, bearing_next, bearing_end}
use Rattle.lsys_children.proofs.births.bear_staying.Goals.{then-is_left, else-is_left}
use Rattle.lsys_children.proofs.births.bear_staying.Goals as goal

pub loop-symbol-init : goal.loop-symbol-init
loop-symbol-init g c = record { bearing = bearing_start c.args.forest.now c.args.parent c.args.key c.args.successor.now c.args.told.now; place = refl; depth = tt; kept = refl }

pub bear-requires : goal.bear-requires
bear-requires g c =
    let ss = c.args.successor.now in
    let i = c.loop-symbol.symbol-index in
    let s = c.symbol-item.result in
    let is = c.loop-symbol.invariant in
    let now = c.loop-symbol.forest in
    let t' = c.loop-symbol.told in
    let there : slice_get ss i ≡ Some s = slice_get_read ss (length ss) i s refl c.loop-symbol-test.true c.symbol-item.is in
    let stays : symbol_stays c.loop-symbol.cutting (symbol_of s) ≡ true = sym c.stays-is_left.ensures ∙ c.if-is_left.true in
    let can = bearing_can c.args.forest.now now c.args.parent c.args.key ss i c.loop-symbol.cutting c.args.told.now t' s there is.bearing c.requires.room stays in
    let key = c.child_key-child.ensures in
    subst (λ k. CanPlace now c.args.parent (new_kid (record { code = 0; count = c.loop-symbol.count }) s k) None t') (sym key)
    (subst (λ n. CanPlace now c.args.parent (child_there c.args.key n s) None t') (sym is.place) can)

pub loop-symbol-preserved : goal.loop-symbol-preserved
loop-symbol-preserved g c =
    let f = c.args.forest.now in
    let ss = c.args.successor.now in
    let i = c.loop-symbol.symbol-index in
    let o = c.loop-symbol.cutting in
    let s = c.symbol-item.result in
    let is = c.loop-symbol.invariant in
    let now = c.loop-symbol.forest in
    let t = c.args.told.now in
    let t' = c.loop-symbol.told in
    let parent = c.args.parent in
    let key = c.args.key in
    let there : slice_get ss i ≡ Some s = slice_get_read ss (length ss) i s refl c.loop-symbol-test.true c.symbol-item.is in
    let after = c.next_cutting-cutting.ensures in
    record {
      bearing = subst (λ (o : Option ℕ). IsBearing f c.if-is_left.forest parent key ss (i + 1) o t c.if-is_left.told) (sym after) (elim c.if-is_left.branch [
        | then-is_left w ↦
            let stays : symbol_stays o (symbol_of s) ≡ true = sym c.stays-is_left.ensures ∙ w.if-is_left.true in
            let placed = subst (λ n. IsPlaced now w.bear.new.forest parent (child_there key n s) None w.bear.result) is.place
            (subst (λ k. IsPlaced now w.bear.new.forest parent (new_kid (record { code = 0; count = c.loop-symbol.count }) s k) None w.bear.result) w.child_key-child.ensures w.bear.ensures.placed) in
            subst (λ (x : Grove g.row.A.Denot). IsBearing f x parent key ss (i + 1) (next_cutting o (symbol_of s)) t c.if-is_left.told) (sym w.forest-is)
            (subst (λ (x : ToldNodes). IsBearing f w.bear.new.forest parent key ss (i + 1) (next_cutting o (symbol_of s)) t x) (sym w.told-is)
            (bearing_next f now parent key ss i o t t' s there is.bearing w.bear.new.forest w.bear.result w.bear.new.changes c.requires.room.parent_lives stays placed w.bear.ensures.told w.bear.ensures.added))
        | else-is_left w ↦
            let stays : symbol_stays o (symbol_of s) ≡ false = sym c.stays-is_left.ensures ∙ w.if-is_left.false in
            subst (λ (x : Grove g.row.A.Denot). IsBearing f x parent key ss (i + 1) (next_cutting o (symbol_of s)) t c.if-is_left.told) (sym w.forest-is)
            (subst (λ (x : ToldNodes). IsBearing f now parent key ss (i + 1) (next_cutting o (symbol_of s)) t x) (sym w.told-is)
            (bearing_skip f now parent key ss i o t t' s there is.bearing stays))
      ]);
      place = ap (λ n. n + 1) is.place;
      depth = subst (λ (o : Option ℕ). IfSome o (λ n. n ≤ i + 1)) (sym after) (depth_after o s i is.depth);
      kept = elim c.if-is_left.branch [
        | then-is_left w ↦ ap (λ (x : Grove g.row.A.Denot). kept_in x) w.forest-is ∙ w.bear.ensures.kept ∙ is.kept
        | else-is_left w ↦ ap (λ (x : Grove g.row.A.Denot). kept_in x) w.forest-is ∙ is.kept
      ];
    }

pub returns-clause-born : goal.returns-clause-born
returns-clause-born g c =
    bearing_end c.args.forest.now c.loop-symbol.forest c.args.parent c.args.key c.args.successor.now c.loop-symbol.symbol-index c.loop-symbol.cutting c.args.told.now c.loop-symbol.told c.loop-symbol-test.false c.loop-symbol.invariant.bearing
