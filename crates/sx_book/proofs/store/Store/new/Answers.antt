use Rattle.std.proofs.Common.{◌≡◌, ap, ◌∙◌}
use Rattle.sx_book.specs.Store.{nodes_of, offers_in}
use Rattle.sx_book.proofs.Placed.{flat_empty}
use Rattle.sx_book.proofs.Sound.{IsSound-new}
use Rattle.sx_book.proofs.store.Store.new.Goals as goal

pub returns-clause-sound : goal.returns-clause-sound
returns-clause-sound c =
    IsSound-new _ c.args.count c.requires (ap (λ l. l.lists) c.in_ok-new.ensures) c.new-2.ensures.empty

pub returns-clause-empty : goal.returns-clause-empty
returns-clause-empty c = ap (λ l. offers_in (nodes_of l.lists)) c.in_ok-new.ensures ∙ ap offers_in
    (flat_empty c.args.count)
