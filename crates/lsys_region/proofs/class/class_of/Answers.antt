use Rattle.std.proofs.Common.{◌∙◌, arith}
use Rattle.lsys_region.specs.Rooms.{room_of}
use Rattle.lsys_region.proofs.RoomLemmas.{IsFirstPower, least_from_first, room_of_least, same_least}
use Rattle.lsys_region.proofs.class.class_of.Goals as goal

pub returns : goal.returns
returns c =
    let kept = c.loop-room.invariant in
    let first : IsFirstPower 0 c.args.length c.loop-room.number =
    record { from_on = omega arith; fits = rw (← kept.power) (omega arith); below = λ k low high. kept.below k high } in
    kept.power
    ∙ same_least c.args.length _ (room_of c.args.length) (least_from_first c.args.length c.loop-room.number first) (room_of_least c.args.length c.requires.filled)
