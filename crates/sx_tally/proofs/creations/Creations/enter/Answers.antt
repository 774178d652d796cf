use Rattle.std.proofs.Common.{◌≡◌, ℕ, Bool, true, false, cond, not, List, [], ◌∷◌, ◌++◌, None, Some}
use Rattle.std.proofs.Common.{refl, sym, ap, ◌∙◌}
use Rattle.std.specs.Prelude.{nat_eq}
use Rattle.std.specs.BTreeMap.{is_at}
use Rattle.std.specs.BTreeSet.{contains}
use Rattle.std.specs.List.{list_any}
use Rattle.std.specs.Ordering.{nat_cmp}
use Rattle.std.proofs.lemmas.Bool.{eq-eqb, eqb-true}
use Rattle.sx_ledger.specs.Repeats.{creates}
use Rattle.sx_tally.proofs.Repeated.{done_more, done_none, id_more, repeat_none, repeat_step}
use Rattle.sx_tally.proofs.creations.Creations.enter.Goals as goal
use Rattle.sx_ledger.specs.Body.{created}

pub returns-in_default : goal.returns-in_default
returns-in_default c = λ before at was.
    let tx = c.args.tx.now in
    let nothing : creates tx ≡ None = sym c.in_default.ensures in
    let same = done_none creates before tx nothing in
    record {
      ids = was.ids ∙ sym same;
      set = λ id. was.set id ∙ sym (ap (list_any (nat_eq id)) same);
      again = repeat_none creates nat_eq (λ x y e. eqb-true x y e) (λ x. eq-eqb x x refl) before tx
          c.args.self.now.again was.again nothing;
    }

pub returns : goal.returns
returns c = λ before at was.
    let tx = c.args.tx.now in
    let id = c.in-Some.id in
    let old = c.args.self.now in
    let is : creates tx ≡ Some id = sym c.in-Some.ensures in
    let more = done_more creates before tx id is in
    let seen : not c.in_ok-is_new.is_new ≡ list_any (nat_eq id) (created before) =
    ap not c.in_ok-is_new.ensures.added ∙ not_not (contains nat_cmp old.set id) ∙ was.set id in
    record {
      ids = c.in_ok-push.ensures.items ∙ ap (λ (xs : List ℕ). xs ++ id ∷ []) was.ids ∙ sym more;
      set = λ q.
          c.in_ok-is_new.ensures.updates.0 q
          ∙ ap (λ (b : Bool). cond (is_at (nat_cmp id) q) true b) (was.set q)
          ∙ id_more id q (created before) ∙ sym (ap (list_any (nat_eq q)) more);
      again = repeat_step creates nat_eq (λ x y e. eqb-true x y e) (λ x. eq-eqb x x refl) before tx
          old.again c.first_again-self.result was.again id is (not c.in_ok-is_new.is_new) seen c.args.index at
          c.first_again-self.ensures;
    }
  where
    not_not : (b : Bool) → not (not b) ≡ b
    not_not true = refl
    not_not false = refl
