-- A follower that takes the blocks of a replay has its chain.
use Rattle.std.proofs.Common.{◌≡◌, ℕ, List, [], ◌∷◌, ◌++◌, sym, subst}
use Rattle.sx_block.specs.ChainLaws.{ValidAreChain}
use Rattle.sx_meaning.specs.Findings.{FindsAtEnd, MayComeAll, no_fault}
use Rattle.sx_meaning.specs.Items.{Item, state}
use Rattle.sx_meaning.specs.Laws.{FollowsReplays}
use Rattle.sx_meaning.specs.Outputs.{Writes}
use Rattle.sx_meaning.specs.Replays.{blocks_of}
use Rattle.sx_meaning.proofs.Chains.{replays_chains}
use Rattle.sx_words.specs.declared.command.Command.TheVariants.{Follow, Replay}

may_come_too : (workers : ℕ) (before items : List Item) → MayComeAll (Replay workers) before items
    → MayComeAll Follow before items
may_come_too workers before [] each = tt
may_come_too workers before (next ∷ items) each = (
  record { listed = each.0.listed; form = each.0.form; goes_on = tt },
  may_come_too workers (before ++ next ∷ []) items each.1,
)

pub follows_replays : ValidAreChain → FollowsReplays
follows_replays valid_are_chain workers bytes text left x =
    let found = x.found in
    let end : FindsAtEnd (Replay workers) found.items found.rest no_fault left = found.finds in
    let c = end.concludes in
    let wrote = subst (λ (l : List Item). Writes (Replay workers) l text) c.are x.writes in
    let each = subst (λ (l : List Item). MayComeAll (Replay workers) [] l) c.are found.each in
    let chain = replays_chains workers c.parts c.others each in
    let is = valid_are_chain c.parts (blocks_of c.others) chain.valid in
    record {
      found = record {
        items = found.items;
        rest = found.rest;
        each = may_come_too workers [] found.items found.each;
        read = found.read;
        finds = record { done = end.done; may = end.may; concludes = c };
      };
      writes = subst (λ (l : List Item). Writes Follow l text) (sym c.are)
          (record { chain = blocks_of c.others; is = is; written = wrote });
    }
