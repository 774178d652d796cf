use Rattle.sx_tests_solver.proofs.level.drawn.Given as goal

abbrev pub ghosts-solved : goal.ghosts-solved
ghosts-solved a = record { name = a.blank.name; parts = a.blank.parts }
