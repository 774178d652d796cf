use Rattle.sx_layout.proofs.MarksLaws.{marks_elsewhere, marks_grow, marks_join}
use Rattle.sx_layout.proofs.laws.marks_laws.Goals as goal

pub returns : goal.returns
returns c = record { join = marks_join; grow = marks_grow; elsewhere = marks_elsewhere }
