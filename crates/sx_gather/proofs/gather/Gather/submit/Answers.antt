use Rattle.std.proofs.Common.{◌≡◌, ◌<◌, List, length, Some, refl, sym, ap, subst, ◌∙◌, arith}
use Rattle.std.specs.Prelude.{slice_get}
use Rattle.std.specs.Vec.{with_items}
use Rattle.std.proofs.lemmas.List.{with_items_is}
use Rattle.std.proofs.lemmas.Option.{slice_get_read}
use Rattle.sx_outcome.specs.Gathering.{Decision}
use Rattle.sx_shard.specs.Models.{Seated}
use Rattle.sx_tx.specs.declared.tx.Tx.{Tx}
use Rattle.sx_gather.specs.contracts.pass.Pass.{the_view}
use Rattle.sx_gather.specs.Passes.{Gathering, IsPassOf, Passing}
use Rattle.sx_gather.specs.Submit.{Decides}
use Rattle.sx_gather.proofs.Steps.{if_some}
use Rattle.sx_gather.proofs.Submitting.{submitted_as}
use Rattle.sx_gather.proofs.gather.Gather.submit.Goals as goal

pub returns-clause-of : goal.returns-clause-of
returns-clause-of c =
    let g = c.args.self.now in
    let pass = the_view c.pass.inside in
    let said = c.judge-outcome.result.0 in
    let seats = c.judge-outcome.new.seats in
    let tx = c.index-candidates-pass.result in
    let one : Decision = record { tx = tx; outcome = said } in
    let is : IsPassOf g pass = subst (IsPassOf g) (sym c.pass.view_is) c.requires.of in
    let left : pass.next < pass.end = subst (λ (p : Passing). p.next < p.end) (sym c.pass.view_is) c.requires.left in
    let list : c.candidates.result.now ≡ g.candidates =
    c.candidates.ensures ∙ ap (λ (h : Gathering). h.candidates) c.self.view_is in
    let many : length c.candidates.result.now ≡ length g.candidates = ap (λ (xs : List Tx). length xs) list in
    let at : slice_get g.candidates pass.next ≡ Some tx =
    ap (λ (xs : List Tx). slice_get xs pass.next) (sym list)
    ∙ slice_get_read c.candidates.result.now (length c.candidates.result.now) pass.next tx refl
    (omega (arith, left, is.ends, many)) c.index-candidates-pass.is in
    let decides : Decides g.parts g.plan pass.seats seats one =
    subst (λ (before : List Seated). Decides g.parts g.plan before seats one) c.deref_mut.ensures.value
    c.judge-outcome.ensures.decides in
    submitted_as g pass tx said c.push.new.self.spare seats
    (with_items c.pass.inside.seats seats).items c.push.new.self.outcomes is left at
    c.judge-outcome.ensures.seats decides
    (sym (with_items_is c.pass.inside.seats seats (omega (arith, c.judge-outcome.auto.seats, c.deref_mut.ensures.len))))
    (sym c.push.ensures.outcomes)

pub returns-clause-decides : goal.returns-clause-decides
returns-clause-decides c =
    let g = c.args.self.now in
    let pass = the_view c.pass.inside in
    let said = c.judge-outcome.result.0 in
    let seats = c.judge-outcome.new.seats in
    let after = (with_items c.pass.inside.seats seats).items in
    let tx = c.index-candidates-pass.result in
    let one : Decision = record { tx = tx; outcome = said } in
    let is : IsPassOf g pass = subst (IsPassOf g) (sym c.pass.view_is) c.requires.of in
    let left : pass.next < pass.end = subst (λ (p : Passing). p.next < p.end) (sym c.pass.view_is) c.requires.left in
    let list : c.candidates.result.now ≡ g.candidates =
    c.candidates.ensures ∙ ap (λ (h : Gathering). h.candidates) c.self.view_is in
    let many : length c.candidates.result.now ≡ length g.candidates = ap (λ (xs : List Tx). length xs) list in
    let at : slice_get g.candidates pass.next ≡ Some tx =
    ap (λ (xs : List Tx). slice_get xs pass.next) (sym list)
    ∙ slice_get_read c.candidates.result.now (length c.candidates.result.now) pass.next tx refl
    (omega (arith, left, is.ends, many)) c.index-candidates-pass.is in
    let decides : Decides g.parts g.plan pass.seats seats one =
    subst (λ (before : List Seated). Decides g.parts g.plan before seats one) c.deref_mut.ensures.value
    c.judge-outcome.ensures.decides in
    let same : seats ≡ after =
    sym (with_items_is c.pass.inside.seats seats
    (omega (arith, c.judge-outcome.auto.seats, c.deref_mut.ensures.len))) in
    if_some (slice_get g.candidates c.args.pass.now.next) tx
    (λ t. Decides g.parts g.plan c.args.pass.now.seats after (record { tx = t; outcome = said }))
    (ap (λ (p : Passing). slice_get g.candidates p.next) (sym c.pass.view_is) ∙ at)
    (subst (λ (p : Passing). Decides g.parts g.plan p.seats after one) c.pass.view_is
    (subst (λ (s : List Seated). Decides g.parts g.plan pass.seats s one) same decides))
