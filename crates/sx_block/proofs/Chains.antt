-- Chains of a list of blocks: which block is next, and what chains have in common.
use Rattle.std.proofs.Common.{◌≡◌, ℕ, zero, suc, ◌<◌, List, [], ◌∷◌, ◌++◌, length, get_or, inl, inr}
use Rattle.std.proofs.Common.{refl, sym, ap, subst, ◌∙◌, arith, length-append}
use Rattle.std.specs.Prelude.{Contains}
use Rattle.std.proofs.lemmas.Bool.{cases_lt}
use Rattle.std.proofs.lemmas.List.{get_or_append_left, get_or_default}
use Rattle.sx_block.specs.declared.header.Block.{Block}
use Rattle.sx_block.specs.Rule as rule
use Rattle.sx_block.specs.Validity.{IsValid, ledger_after}
use Rattle.sx_block.specs.Chain.{IsChain, IsNext, NoneIsValid}
use Rattle.sx_block.specs.ChainLaws.{ChainGrows, IsPrefix, OneChain, PartGoesAsFar}
use Rattle.sx_ledger.specs.declared.parts.Parts.{Parts}

-- ---- the next block

module _ (parts : Parts) (blocks : List Block) where
  -- it stands in the list
  pub next_contained : (block : Block) → IsNext parts blocks block → Contains blocks block
  next_contained block next = (next.place, next.within, next.there)

  -- where one is next, some block is valid
  pub not_none : (block : Block) → IsNext parts blocks block → ¬ NoneIsValid parts blocks
  not_none block next none =
      none next.place block next.within (subst (λ (b : Block). IsValid parts b) (sym next.there) next.valid)

  -- a block that stands before another one that is next is not valid
  passed : (one other : Block) (a : IsNext parts blocks one) (b : IsNext parts blocks other) → ¬ (a.place < b.place)
  passed one other a b lt =
      b.earlier a.place one lt (subst (λ (x : Block). IsValid parts x) (sym a.there) a.valid)

  -- only one block is next
  pub one_next : (one other : Block) → IsNext parts blocks one → IsNext parts blocks other → one ≡ other
  one_next one other a b =
      elim (cases_lt a.place b.place) [
        | inl less ↦ absurd (passed one other a b less)
        | inr most ↦
            elim (cases_lt b.place a.place) [
              | inl less ↦ absurd (passed other one b a less)
              | inr least ↦
                  let same : a.place ≡ b.place = omega arith in
                  sym a.there ∙ ap (λ (k : ℕ). get_or blocks k one) same
                  ∙ get_or_default blocks b.place one other b.within ∙ b.there
            ]
      ]

  -- blocks behind leave it next
  pub next_before : (more : List Block) (block : Block) → IsNext parts blocks block
      → IsNext parts (blocks ++ more) block
  next_before more block next = record {
    place = next.place;
    within = let within = next.within in omega (arith, length-append blocks more);
    there = get_or_append_left blocks more block next.place next.within ∙ next.there;
    valid = next.valid;
    earlier = λ k d lt is.
        let there : k < length blocks = let within = next.within in omega arith in
        next.earlier k d lt (subst (λ (b : Block). IsValid parts b) (get_or_append_left blocks more d k there) is);
  }

  -- blocks before a place in a longer list
  further : (first : Block) (place : ℕ) → ¬ IsValid parts first
      → ((k : ℕ) (d : Block) → k < place → ¬ IsValid parts (get_or blocks k d))
      → (k : ℕ) (d : Block) → k < suc place → ¬ IsValid parts (get_or (first ∷ blocks) k d)
  further first place refused earlier zero d lt = refused
  further first place refused earlier (suc k) d lt = earlier k d (omega arith)

  -- one block before: the next stands one place further on
  pub next_behind : (first : Block) → ¬ IsValid parts first → (block : Block) → IsNext parts blocks block
      → IsNext parts (first ∷ blocks) block
  next_behind first refused block next = record {
    place = suc next.place;
    within = let within = next.within in omega arith;
    there = next.there;
    valid = next.valid;
    earlier = further first next.place refused next.earlier;
  }

-- the first of a list is next where it is valid
pub first_next : (parts : Parts) (block : Block) (blocks : List Block) → IsValid parts block
    → IsNext parts (block ∷ blocks) block
first_next parts block blocks valid = record {
  place = 0;
  within = omega arith;
  there = refl;
  valid = valid;
  earlier = λ k d lt is. absurd (omega arith);
}

-- blocks that are not valid stay before the next
pub next_after : (parts : Parts) (block : Block) (before blocks : List Block) → NoneIsValid parts before
    → IsNext parts blocks block → IsNext parts (before ++ blocks) block
next_after parts block [] blocks none next = next
next_after parts block (first ∷ before) blocks none next =
    next_behind parts (before ++ blocks) first (none 0 first (omega arith)) block
    (next_after parts block before blocks (λ k d lt. none (suc k) d (omega arith)) next)

-- ---- chains

pub one_chain : OneChain
one_chain parts blocks [] [] a b = refl
one_chain parts blocks [] (next ∷ others) a b = absurd (not_none parts blocks next b.0 a)
one_chain parts blocks (next ∷ others) [] a b = absurd (not_none parts blocks next a.0 b)
one_chain parts blocks (next ∷ others) (next' ∷ others') a b =
    let same = one_next parts blocks next next' a.0 b.0 in
    let rest = subst (λ (x : Block). IsChain (ledger_after parts x) blocks others') (sym same) b.1 in
    ap (λ (xs : List Block). next ∷ xs) (one_chain (ledger_after parts next) blocks others others' a.1 rest)
    ∙ ap (λ (x : Block). x ∷ others') same

-- a prefix of what is behind a block, with the block
prefix_cons : (next next' : Block) (one other : List Block) → next ≡ next' → IsPrefix one other
    → IsPrefix (next ∷ one) (next' ∷ other)
prefix_cons next next' one other same is =
    (is.0, ap (λ (xs : List Block). next ∷ xs) is.1 ∙ ap (λ (x : Block). x ∷ other) same)

pub chain_grows : ChainGrows
chain_grows parts blocks more [] other a b = (other, refl)
chain_grows parts blocks more (next ∷ one) [] a b =
    absurd (not_none parts (blocks ++ more) next (next_before parts blocks more next a.0) b)
chain_grows parts blocks more (next ∷ one) (next' ∷ other) a b =
    let same = one_next parts (blocks ++ more) next next' (next_before parts blocks more next a.0) b.0 in
    let rest = subst (λ (x : Block). IsChain (ledger_after parts x) (blocks ++ more) other) (sym same) b.1 in
    prefix_cons next next' one other same (chain_grows (ledger_after parts next) blocks more one other a.1 rest)

pub part_goes_as_far : PartGoesAsFar
part_goes_as_far parts some all [] other once part a b = (other, refl)
part_goes_as_far parts some all (next ∷ one) [] once part a b =
    let here = part next (next_contained parts some next a.0) in
    absurd (b here.0 next here.1 (subst (λ (x : Block). IsValid parts x) (sym here.2) a.0.valid))
part_goes_as_far parts some all (next ∷ one) (next' ∷ other) once part a b =
    let same = once next next' (part next (next_contained parts some next a.0)) (next_contained parts all next' b.0)
    (a.0.valid.rules rule.Parent ∙ sym (b.0.valid.rules rule.Parent)) in
    let rest = subst (λ (x : Block). IsChain (ledger_after parts x) all other) (sym same) b.1 in
    prefix_cons next next' one other same
    (part_goes_as_far (ledger_after parts next) some all one other once part a.1 rest)
