use Rattle.sx_tests_solver.proofs.net.pushed.Given as goal

abbrev pub ghosts-pushes : goal.ghosts-pushes
ghosts-pushes a = record { name = a.blank.name; parts = a.blank.parts }
