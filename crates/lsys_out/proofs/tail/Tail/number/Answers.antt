use Rattle.std.proofs.Common.{rules, arith, ◌≡◌, ap}
use Rattle.std.proofs.lemmas.Fmt.{length-decimal-le}
use Rattle.lsys_out.specs.Lines.{RoomyText}
use Rattle.lsys_out.proofs.tail.Tail.number.Goals as goal

pub write_digits-self-inside-requires : goal.write_digits-self-inside-requires
write_digits-self-inside-requires c =
    let room : c.self.inside.from ≡ c.args.self.now.room = ap (λ (t : RoomyText). t.room) c.self.view_is in
    (omega (arith, room, c.requires, length-decimal-le 19 c.unsigned_abs.result (omega arith) (omega arith) (omega arith)), search rules)

pub returns-then-value-ge0-clause-room : goal.returns-then-value-ge0-clause-room
returns-then-value-ge0-clause-room c =
    let room : c.self.inside.from ≡ c.args.self.now.room = ap (λ (t : RoomyText). t.room) c.self.view_is in
    omega (arith, room, length-decimal-le 19 c.unsigned_abs.result (omega arith) (omega arith) (omega arith))

pub byte-requires : goal.byte-requires
byte-requires c =
    let room : c.self.inside.from ≡ c.args.self.now.room = ap (λ (t : RoomyText). t.room) c.self.view_is in
    omega (arith, room, c.requires, length-decimal-le 19 c.unsigned_abs.result (omega arith) (omega arith) (omega arith))

pub returns-clause-room : goal.returns-clause-room
returns-clause-room c =
    let room : c.self.inside.from ≡ c.args.self.now.room = ap (λ (t : RoomyText). t.room) c.self.view_is in
    omega (arith, room, c.byte.ensures.room, length-decimal-le 19 c.unsigned_abs.result (omega arith) (omega arith) (omega arith))
