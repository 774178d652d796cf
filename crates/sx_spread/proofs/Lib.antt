mod Halves
mod ApplicableBlocks
