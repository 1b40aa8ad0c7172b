use Rattle.std.proofs.Common.{◌≡◌, ◌<◌, ◌-◌, ◌+◌, ◌∷◌, [], length, ap, ◌∙◌, arith, refl, length-append}
use Rattle.std.specs.Prelude.{◌%◌}
use Rattle.lsys_text.specs.Packed.{unpacked}
use Rattle.lsys_text.proofs.Kept.{room_left, unpacked_to-rest, unpacked-next}
use Rattle.lsys_text.proofs.names.unpacked.Goals as goal

pub loop-rest-init : goal.loop-rest-init
unfolding unpacked
loop-rest-init c = record {
  within = rw c.new-text.ensures (omega arith);
  bound = rw c.new-text.ensures (omega arith);
  bytes = rw c.new-text.ensures refl;
}

pub loop-rest-preserved : goal.loop-rest-preserved
loop-rest-preserved c =
    let some : 0 < c.loop-rest.rest = omega arith in
    let longer : length c.push.new.self ≡ length c.loop-rest.text + 1 = ap length c.push.ensures ∙ length-append c.loop-rest.text (c.loop-rest.rest % 256 ∷ []) in
    let room : 16 - length c.push.new.self ≡ 16 - length c.loop-rest.text - 1 = omega arith in
    record {
      within = omega (arith, room_left (16 - length c.loop-rest.text) c.loop-rest.rest some c.loop-rest.invariant.bound);
      bound = rw room (unpacked_to-rest (16 - length c.loop-rest.text) c.loop-rest.rest some c.loop-rest.invariant.bound);
      bytes = unpacked-next c.loop-rest.text c.push.new.self (16 - length c.loop-rest.text) _ c.loop-rest.rest _ some c.loop-rest.invariant.bound c.loop-rest.invariant.bytes c.push.ensures room;
    }
