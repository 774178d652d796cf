use Rattle.std.proofs.Common.{arith}
use Rattle.sx_words.proofs.TakenNumbers.{is_found, same_number, small}
use Rattle.sx_words.proofs.reading.option_of.Goals as goal

pub unwrap-requires : goal.unwrap-requires
unwrap-requires c =
    let number = c.requires.read.0 in
    is_found c.number_of.result number (c.number_of.ensures number (rw c.requires.id c.requires.read.1.1))

pub overflow_cast-result : goal.overflow_cast-result
overflow_cast-result c =
    let number = c.requires.read.0 in
    let same = same_number c.number_of.result c.unwrap.result number c.unwrap.ensures
    (c.number_of.ensures number (rw c.requires.id c.requires.read.1.1)) in
    omega (arith, same, small c.args.setting number c.requires.read.1.0)

pub returns : goal.returns
returns c = λ number is.
    same_number c.number_of.result c.unwrap.result number c.unwrap.ensures
    (c.number_of.ensures number (rw c.requires.id is.1))
