use Rattle.lsys_cli.proofs.growth_reply.answer_growth.Given as goal

abbrev pub ghosts-counted_growth : goal.ghosts-counted_growth
ghosts-counted_growth g a = record { name = a.products.name; parts = a.products.parts }
