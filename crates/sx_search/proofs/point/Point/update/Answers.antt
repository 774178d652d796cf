use Rattle.std.proofs.Common.{◌≡◌, ◌∙◌, ap, length, sum_by, unsigned_abs, arith}
use Rattle.sx_demand.specs.Excess.{nets_of, volumes_of}
use Rattle.sx_search.proofs.Excesses.{nets_length, off_is}
use Rattle.sx_search.proofs.point.Point.update.Goals as goal

pub off-self-requires-clause-few : goal.off-self-requires-clause-few
off-self-requires-clause-few g c =
    let nets = nets_length c.args.curves.now.quotes c.deref.result.now c.args.mu c.update.new.self.net
    c.update.ensures.net in
    omega (arith, ap length c.net.ensures, ap length c.deref.ensures.value)

pub returns-clause-room : goal.returns-clause-room
returns-clause-room g c =
    let nets = nets_length c.args.curves.now.quotes c.deref.result.now c.args.mu c.update.new.self.net
    c.update.ensures.net in
    record {
      prices = c.requires.prices;
      nets = nets ∙ ap length c.deref.ensures.value ∙ c.requires.prices;
      few = c.requires.few;
    }

pub returns-clause-at : goal.returns-clause-at
returns-clause-at g c =
    let prices = c.args.self.now.prices.items in
    let quotes = c.args.curves.now.quotes in
    let net : c.update.new.self.net ≡ nets_of quotes prices c.args.mu =
    c.update.ensures.net ∙ (λ i. nets_of quotes (c.deref.ensures.value i) c.args.mu) in
    record {
      net = net;
      volume = c.update.ensures.volume ∙ (λ i. volumes_of quotes (c.deref.ensures.value i) c.args.mu);
      off = c.off-self.ensures ∙ ap (sum_by unsigned_abs) c.net.ensures
          ∙ off_is quotes prices c.args.mu c.update.new.self.net net;
    }
