use Rattle.std.proofs.Common.{◌≡◌, ◌++◌, refl, sym, ap, ◌∙◌, subst}
use Rattle.lsys_reads.specs.Looks.{LooksAround, LooksBeyond, LooksAtMate, LooksInto}
use Rattle.lsys_front.specs.Fronts.{StandOn}
use Rattle.lsys_front.proofs.Standing.{stand_left, stand_right, stand_spots, stand_lives}
use Rattle.lsys_front.proofs.Looking.{Called, called, calls_look, calls_add, calls_keep}
use Rattle.lsys_front.proofs.front.Front.look_below.Goals as goal

pub look_around-requires-clause-spots : goal.look_around-requires-clause-spots
look_around-requires-clause-spots g c =
    let f = c.args.forest.now in
    let touched = c.args.touched.now in
    let came = c.args.self.now.changes.came in
    let turned = c.args.self.now.turned in
    let t = c.requires.level.0 in
    let s = c.requires.level.1 in
    stand_spots f t touched (stand_left f t touched (came ++ turned) s)

pub look_around-requires-clause-lives : goal.look_around-requires-clause-lives
look_around-requires-clause-lives g c =
    let f = c.args.forest.now in
    let touched = c.args.touched.now in
    let came = c.args.self.now.changes.came in
    let turned = c.args.self.now.turned in
    let t = c.requires.level.0 in
    let s = c.requires.level.1 in
    stand_lives f t touched (stand_left f t touched (came ++ turned) s)

pub look_around-requires-2-clause-spots : goal.look_around-requires-2-clause-spots
look_around-requires-2-clause-spots g c =
    let f = c.args.forest.now in
    let touched = c.args.touched.now in
    let came = c.args.self.now.changes.came in
    let turned = c.args.self.now.turned in
    let t = c.requires.level.0 in
    let s = c.requires.level.1 in
    let e : c.deref.result.now ≡ came = c.deref.ensures.value ∙ ap (λ x. x.changes.came) c.self-inside.view_is ∙ ap (λ x. x.changes.came) c.self.view_is in
    stand_spots f t c.deref.result.now (subst (StandOn f t) (sym e) (stand_left f t came turned (stand_right f t touched (came ++ turned) s)))

pub look_around-requires-2-clause-lives : goal.look_around-requires-2-clause-lives
look_around-requires-2-clause-lives g c =
    let f = c.args.forest.now in
    let touched = c.args.touched.now in
    let came = c.args.self.now.changes.came in
    let turned = c.args.self.now.turned in
    let t = c.requires.level.0 in
    let s = c.requires.level.1 in
    let e : c.deref.result.now ≡ came = c.deref.ensures.value ∙ ap (λ x. x.changes.came) c.self-inside.view_is ∙ ap (λ x. x.changes.came) c.self.view_is in
    stand_lives f t c.deref.result.now (subst (StandOn f t) (sym e) (stand_left f t came turned (stand_right f t touched (came ++ turned) s)))

pub look_at_mates-requires-clause-levels : goal.look_at_mates-requires-clause-levels
look_at_mates-requires-clause-levels g c =
    let f = c.args.forest.now in
    let touched = c.args.touched.now in
    let came = c.args.self.now.changes.came in
    let turned = c.args.self.now.turned in
    let t = c.requires.level.0 in
    let s = c.requires.level.1 in
    stand_spots f t touched (stand_left f t touched (came ++ turned) s)

pub look_at_mates-requires-2-clause-levels : goal.look_at_mates-requires-2-clause-levels
look_at_mates-requires-2-clause-levels g c =
    let f = c.args.forest.now in
    let touched = c.args.touched.now in
    let came = c.args.self.now.changes.came in
    let turned = c.args.self.now.turned in
    let t = c.requires.level.0 in
    let s = c.requires.level.1 in
    let e : c.deref-2.result.now ≡ came = c.deref-2.ensures.value ∙ ap (λ x. x.changes.came) c.self-inside.view_is ∙ ap (λ x. x.changes.came) c.self.view_is in
    stand_spots f t c.deref-2.result.now (subst (StandOn f t) (sym e) (stand_left f t came turned (stand_right f t touched (came ++ turned) s)))

pub look_beyond-requires : goal.look_beyond-requires
look_beyond-requires g c =
    let f = c.args.forest.now in
    let touched = c.args.touched.now in
    let came = c.args.self.now.changes.came in
    let turned = c.args.self.now.turned in
    let t = c.requires.level.0 in
    let s = c.requires.level.1 in
    let e : c.deref-3.result.now ≡ came = c.deref-3.ensures.value ∙ ap (λ x. x.changes.came) c.self-inside.view_is ∙ ap (λ x. x.changes.came) c.self.view_is in
    stand_spots f t c.deref-3.result.now (subst (StandOn f t) (sym e) (stand_left f t came turned (stand_right f t touched (came ++ turned) s)))

pub look_beyond-requires-2 : goal.look_beyond-requires-2
look_beyond-requires-2 g c =
    let f = c.args.forest.now in
    let touched = c.args.touched.now in
    let came = c.args.self.now.changes.came in
    let turned = c.args.self.now.turned in
    let t = c.requires.level.0 in
    let s = c.requires.level.1 in
    let e : c.deref-4.result.now ≡ turned = c.deref-4.ensures.value ∙ ap (λ x. x.turned.items) c.self-inside.view_is ∙ ap (λ x. x.turned) c.self.view_is in
    stand_spots f t c.deref-4.result.now (subst (StandOn f t) (sym e) (stand_right f t came turned (stand_right f t touched (came ++ turned) s)))

pub look_into_branches-requires : goal.look_into_branches-requires
look_into_branches-requires g c =
    let f = c.args.forest.now in
    let touched = c.args.touched.now in
    let came = c.args.self.now.changes.came in
    let turned = c.args.self.now.turned in
    let t = c.requires.level.0 in
    let s = c.requires.level.1 in
    let e : c.deref-5.result.now ≡ came = c.deref-5.ensures.value ∙ ap (λ x. x.changes.came) c.self-inside.view_is ∙ ap (λ x. x.changes.came) c.self.view_is in
    stand_lives f t c.deref-5.result.now (subst (StandOn f t) (sym e) (stand_left f t came turned (stand_right f t touched (came ++ turned) s)))

pub look_into_branches-requires-2 : goal.look_into_branches-requires-2
look_into_branches-requires-2 g c =
    let f = c.args.forest.now in
    let touched = c.args.touched.now in
    let came = c.args.self.now.changes.came in
    let turned = c.args.self.now.turned in
    let t = c.requires.level.0 in
    let s = c.requires.level.1 in
    let e : c.deref-6.result.now ≡ turned = c.deref-6.ensures.value ∙ ap (λ x. x.turned.items) c.self-inside.view_is ∙ ap (λ x. x.turned) c.self.view_is in
    stand_lives f t c.deref-6.result.now (subst (StandOn f t) (sym e) (stand_right f t came turned (stand_right f t touched (came ++ turned) s)))

pub returns : goal.returns
returns g c =
    let f = c.args.forest.now in
    let touched = c.args.touched.now in
    let came = c.args.self.now.changes.came in
    let turned = c.args.self.now.turned in
    let x0 = c.args.looked.now.items in
    let x1 = c.look_around.new.looked.items in
    let x2 = c.look_around-2.new.looked.items in
    let x3 = c.look_at_mates.new.looked.items in
    let x4 = c.look_at_mates-2.new.looked.items in
    let x5 = c.look_beyond.new.looked.items in
    let x6 = c.look_beyond-2.new.looked.items in
    let x7 = c.look_into_branches.new.looked.items in
    let x8 = c.look_into_branches-2.new.looked.items in
    let c1 : Called f (LooksAround f) touched x0 x1 = called f (LooksAround f) touched touched x0 x1 refl c.in_ok-look_around.ensures.looks c.in_ok-look_around.ensures.keeps c.in_ok-look_around.ensures.below in
    let c2 : Called f (LooksAround f) came x1 x2 = called f (LooksAround f) c.deref.result.now came x1 x2 (c.deref.ensures.value ∙ ap (λ x. x.changes.came) c.self-inside.view_is ∙ ap (λ x. x.changes.came) c.self.view_is) c.in_ok-look_around-2.ensures.looks c.in_ok-look_around-2.ensures.keeps c.in_ok-look_around-2.ensures.below in
    let c3 : Called f (LooksAtMate f) touched x2 x3 = called f (LooksAtMate f) touched touched x2 x3 refl c.in_ok-look_at_mates.ensures.looks c.in_ok-look_at_mates.ensures.keeps c.in_ok-look_at_mates.ensures.below in
    let c4 : Called f (LooksAtMate f) came x3 x4 = called f (LooksAtMate f) c.deref-2.result.now came x3 x4 (c.deref-2.ensures.value ∙ ap (λ x. x.changes.came) c.self-inside.view_is ∙ ap (λ x. x.changes.came) c.self.view_is) c.in_ok-look_at_mates-2.ensures.looks c.in_ok-look_at_mates-2.ensures.keeps c.in_ok-look_at_mates-2.ensures.below in
    let c5 : Called f (LooksBeyond f) came x4 x5 = called f (LooksBeyond f) c.deref-3.result.now came x4 x5 (c.deref-3.ensures.value ∙ ap (λ x. x.changes.came) c.self-inside.view_is ∙ ap (λ x. x.changes.came) c.self.view_is) c.in_ok-look_beyond.ensures.looks c.in_ok-look_beyond.ensures.keeps c.in_ok-look_beyond.ensures.below in
    let c6 : Called f (LooksBeyond f) turned x5 x6 = called f (LooksBeyond f) c.deref-4.result.now turned x5 x6 (c.deref-4.ensures.value ∙ ap (λ x. x.turned.items) c.self-inside.view_is ∙ ap (λ x. x.turned) c.self.view_is) c.in_ok-look_beyond-2.ensures.looks c.in_ok-look_beyond-2.ensures.keeps c.in_ok-look_beyond-2.ensures.below in
    let c7 : Called f (LooksInto f) came x6 x7 = called f (LooksInto f) c.deref-5.result.now came x6 x7 (c.deref-5.ensures.value ∙ ap (λ x. x.changes.came) c.self-inside.view_is ∙ ap (λ x. x.changes.came) c.self.view_is) c.in_ok-look_into_branches.ensures.looks c.in_ok-look_into_branches.ensures.keeps c.in_ok-look_into_branches.ensures.below in
    let c8 : Called f (LooksInto f) turned x7 x8 = called f (LooksInto f) c.deref-6.result.now turned x7 x8 (c.deref-6.ensures.value ∙ ap (λ x. x.turned.items) c.self-inside.view_is ∙ ap (λ x. x.turned) c.self.view_is) c.in_ok-look_into_branches-2.ensures.looks c.in_ok-look_into_branches-2.ensures.keeps c.in_ok-look_into_branches-2.ensures.below in
    record { looks = calls_look f touched came turned x0 x1 x2 x3 x4 x5 x6 x7 x8 c1 c2 c3 c4 c5 c6 c7 c8; below = calls_add f touched came turned x0 x1 x2 x3 x4 x5 x6 x7 x8 c1 c2 c3 c4 c5 c6 c7 c8; keeps = calls_keep f touched came turned x0 x1 x2 x3 x4 x5 x6 x7 x8 c1 c2 c3 c4 c5 c6 c7 c8 }
