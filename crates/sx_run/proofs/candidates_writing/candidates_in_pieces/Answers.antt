use Rattle.std.proofs.Common.{◌≡◌, List, ℕ, length, ap, arith}
use Rattle.sx_run.proofs.PartLists.{all, fits}
use Rattle.sx_run.proofs.candidates_writing.candidates_in_pieces.Goals as goal

pub bytes_of-size-requires : goal.bytes_of-size-requires
bytes_of-size-requires g c =
    let told = c.in_ok-told.told.items in
    let same : length (all c.deref.result.now) ≡ length (all told) =
    ap (λ (xss : List (List ℕ)). length (all xss)) c.deref.ensures.value in
    omega (
      arith,
      same,
      fits told c.parts-parts.result.now c.args.candidates.now c.in_ok-told.ensures c.parts-parts.ensures
          c.requires.few,
    )

pub overflow_add-size : goal.overflow_add-size
overflow_add-size g c =
    let told = c.in_ok-told.told.items in
    let same : length (all c.deref.result.now) ≡ length (all told) =
    ap (λ (xss : List (List ℕ)). length (all xss)) c.deref.ensures.value in
    omega (
      arith,
      same,
      c.bytes_of-size.ensures,
      fits told c.parts-parts.result.now c.args.candidates.now c.in_ok-told.ensures c.parts-parts.ensures c.requires.few,
    )

pub overflow_cast-size : goal.overflow_cast-size
overflow_cast-size g c =
    let told = c.in_ok-told.told.items in
    let same : length (all c.deref.result.now) ≡ length (all told) =
    ap (λ (xss : List (List ℕ)). length (all xss)) c.deref.ensures.value in
    omega (
      arith,
      same,
      c.bytes_of-size.ensures,
      fits told c.parts-parts.result.now c.args.candidates.now c.in_ok-told.ensures c.parts-parts.ensures c.requires.few,
    )
