use Rattle.std.proofs.Common.{◌≡◌, Ok, None, true, subst, sym, rules}
use Rattle.sx_bytes.specs.Cursor.{Cursor}
use Rattle.sx_state.specs.Decoding.{offer_list_at}
use Rattle.sx_state.specs.SoundOffers.{AreAhead, all_stand}
use Rattle.sx_state.proofs.SoundOffers.{all_listed}
use Rattle.sx_state.proofs.entry_readers.SpreadEntryReader.sound_offers.Goals as goal

pub returns-clause-sound : goal.returns-clause-sound
returns-clause-sound g c =
    let assets = c.args.assets in
    let accounts = c.args.accounts.now in
    let from = c.args.from.now in
    let offers = c.in-Some.field-0.offers in
    let end = c.in-Some.field-0.end in
    let ahead : AreAhead assets from offers end = search rules in
    let there : c.move_to.new.from ≡ record { bytes = from.bytes; place = end } = search rules in
    let stand : all_stand accounts None offers ≡ true = search rules in
    subst (λ (next : Cursor). offer_list_at accounts assets from ≡ Ok (offers, next)) (sym there)
    (all_listed accounts assets from (record { bytes = from.bytes; place = end }) offers ahead stand)
