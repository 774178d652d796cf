use Rattle.sx_text.proofs.gathering.put_script_line.Goals as goal

pub returns : goal.returns
returns c = rw c.items.ensures at c.in_ok-write.ensures.bytes
