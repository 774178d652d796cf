use Rattle.sx_bench.proofs.clear.measure.Given as goal

abbrev pub ghosts-clear_once : goal.ghosts-clear_once
ghosts-clear_once g a = record { name = a.blank.name; parts = a.blank.parts }
