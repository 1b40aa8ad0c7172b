use Rattle.std.proofs.Common.{sym, ap, ◌∙◌}
use Rattle.std.specs.Option.{option_copied}
use Rattle.lsys_region.proofs.PoolLemmas.{room_of-no_last, Reuses-empty, Grows-empty}
use Rattle.lsys_region.proofs.Region.place.Goals as goal

pub returns-in-None-clause-reuses : goal.returns-in-None-clause-reuses
returns-in-None-clause-reuses g c =
    Reuses-empty c.self.inside.table.parts c.self.inside.cells.items c.self.view_is (room_of-no_last c.args.list.now (sym c.last.ensures.value ∙ ap option_copied c.in-None.is))

pub returns-in-None-clause-grows : goal.returns-in-None-clause-grows
returns-in-None-clause-grows g c =
    Grows-empty (room_of-no_last c.args.list.now (sym c.last.ensures.value ∙ ap option_copied c.in-None.is))
