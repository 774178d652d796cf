use Rattle.sx_commit.proofs.subtree.+digest_over.Given as goal

abbrev pub decreases-digest_over : goal.decreases-digest_over
decreases-digest_over l = l.level
