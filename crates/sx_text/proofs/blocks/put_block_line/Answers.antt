use Rattle.sx_text.proofs.blocks.put_block_line.Goals as goal

pub returns : goal.returns
returns c = rw (c.items.ensures, c.get-mu.ensures.value) at c.in_ok-write.ensures.bytes
