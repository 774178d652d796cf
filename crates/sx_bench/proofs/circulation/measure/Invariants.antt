use Rattle.sx_bench.proofs.circulation.measure.Given as goal

abbrev pub ghosts-best_run : goal.ghosts-best_run
ghosts-best_run g a = record { name = a.blank.name; parts = a.blank.parts }
