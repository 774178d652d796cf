use Rattle.std.proofs.Common.{◌≡◌, ℕ, List, sym, ap, ◌∙◌, arith}
use Rattle.std.specs.Cmp.Lexicographic.{same_text}
use Rattle.sx_curve.specs.Demand.{imbalance}
use Rattle.sx_demand.specs.Excess.{nets_of, volumes_of}
use Rattle.sx_demand.proofs.Sold.{written}
use Rattle.sx_search.specs.Points.{held_at}
use Rattle.sx_search.proofs.Excesses.{are_excesses, tried}
use Rattle.sx_search.proofs.Rounds.{trial_given_up, trial_held}
use Rattle.sx_search.proofs.state.State.try_once.Goals as goal

pub write_trial-requires-clause-excesses : goal.write_trial-requires-clause-excesses
write_trial-requires-clause-excesses g c =
    let quotes = c.args.curves.now.quotes in
    let held = c.requires.state.held_at in
    let prices = sym c.deref.ensures.value in
    are_excesses quotes c.deref.result.now c.args.mu c.net.result.now c.volume.result.now
    (c.net.ensures ∙ held.net ∙ (λ i. nets_of quotes (prices i) c.args.mu))
    (c.volume.ensures ∙ held.volume ∙ (λ i. volumes_of quotes (prices i) c.args.mu))

pub returns-then-eq-clause-after : goal.returns-then-eq-clause-after
returns-then-eq-clause-after g c =
    let quotes = c.args.curves.now.quotes in
    let old = c.args.self.now in
    let held = c.requires.state.held_at in
    let trial = tried quotes old.held.prices.items c.deref.result.now c.args.mu c.net.result.now c.volume.result.now
    old.exponent c.write_trial.new.trial c.deref.ensures.value (c.net.ensures ∙ held.net)
    (c.volume.ensures ∙ held.volume) c.write_trial.ensures in
    let same : c.as_slice.result.now ≡ c.as_slice-2.result.now =
    same_text c.as_slice.result.now c.as_slice-2.result.now (sym c.if-eq.true ∙ c.eq.ensures) in
    let stayed : old.held.prices.items ≡ c.write_trial.new.trial =
    sym c.as_slice-2.ensures.value ∙ sym same ∙ c.as_slice.ensures.value
    ∙ written _ c.write_trial.new.trial _ (omega arith) in
    trial_given_up quotes c.args.mu (held_at old.held old.exponent) c.write_trial.new.trial old.held.off old.held.off
    trial (held.off ∙ ap (λ (prices : List ℕ). imbalance quotes prices c.args.mu) stayed) held.off (omega arith)

pub returns-then-self-clause-after : goal.returns-then-self-clause-after
returns-then-self-clause-after g c =
    let quotes = c.args.curves.now.quotes in
    let old = c.args.self.now in
    let held = c.requires.state.held_at in
    let trial = tried quotes old.held.prices.items c.deref.result.now c.args.mu c.net.result.now c.volume.result.now
    old.exponent c.write_trial.new.trial c.deref.ensures.value (c.net.ensures ∙ held.net)
    (c.volume.ensures ∙ held.volume) c.write_trial.ensures in
    (λ i. held_at (c.swap.ensures.x_after i) c.max-self.result)
    ∙ trial_held quotes c.args.mu (held_at old.held old.exponent) c.update.new.self.prices.items c.max-self.result
    c.update.new.self.off old.held.off
    (c.update.ensures.prices ∙ written _ c.write_trial.new.trial _ (omega arith) ∙ trial)
    (omega arith) c.update.ensures.at.off held.off c.if-self.true

pub returns-else-self-clause-after : goal.returns-else-self-clause-after
returns-else-self-clause-after g c =
    let quotes = c.args.curves.now.quotes in
    let old = c.args.self.now in
    let held = c.requires.state.held_at in
    let trial = tried quotes old.held.prices.items c.deref.result.now c.args.mu c.net.result.now c.volume.result.now
    old.exponent c.write_trial.new.trial c.deref.ensures.value (c.net.ensures ∙ held.net)
    (c.volume.ensures ∙ held.volume) c.write_trial.ensures in
    trial_given_up quotes c.args.mu (held_at old.held old.exponent) c.update.new.self.prices.items
    c.update.new.self.off old.held.off
    (c.update.ensures.prices ∙ written _ c.write_trial.new.trial _ (omega arith) ∙ trial)
    c.update.ensures.at.off held.off c.if-self.false
