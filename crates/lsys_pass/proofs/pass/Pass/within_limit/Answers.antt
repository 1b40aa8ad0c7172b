use Rattle.std.proofs.Common.{◌≡◌, ◌-◌, ◌+◌, ◌<◌, Err, sym, subst, ap, arith}
use Rattle.lsys_spec.specs.Meaning.{OverLimit, meaning_to}
use Rattle.lsys_pass.specs.Sizes.{total_of}
use Rattle.lsys_pass.specs.Passes.{PassView}
use Rattle.lsys_pass.specs.Fresh.{WasAsked}
use Rattle.lsys_pass.proofs.Limits.{total_asked, over_asked}
use Rattle.lsys_pass.proofs.pass.Pass.within_limit.Goals as goal

pub room_under-requires : goal.room_under-requires
room_under-requires g c =
    let few = total_asked _ (c.args.level - 1) (subst (λ (v : PassView). WasAsked v (c.args.level - 1)) (sym c.self.view_is) c.requires.asked) in
    let same = ap total_of c.deref.ensures.value in
    omega (arith, few, same)

pub returns-then-symbols-room_under : goal.returns-then-symbols-room_under
returns-then-symbols-room_under g c =
    let same = ap total_of c.deref.ensures.value in
    let room = c.room_under.ensures in
    let more = c.if-symbols-room_under.true in
    let after = c.requires.after in
    let over = subst (λ (v : PassView). v.limit < total_of v.made + c.args.symbols) c.self.view_is (omega (arith, same, room, more)) in
    record {
      within = tt;
      refusal = (let same : c.args.level - 1 + 1 ≡ c.args.level = omega (arith, after) in subst (λ t. meaning_to c.args.self.now.next c.args.self.now.limit t ≡ Err (OverLimit t)) same (over_asked c.args.self.now (c.args.level - 1) c.requires.asked c.args.symbols c.requires.symbols over));
    }
