-- What a pass has found so far.
use Rattle.std.proofs.Common.{◌≡◌, ℕ, ◌+◌, ◌<◌, Bool, true, false, List, refl, ◌∙◌, arith, below_more}
use Rattle.sx_circ.specs.declared.walk.Walk.{Walk}
use Rattle.sx_circ.specs.declared.raising.Found.{Found}
use Rattle.sx_circ.specs.declared.raising.Found.TheVariants.{Nothing, Raised, Gaining}
use Rattle.sx_circ.specs.Labels.{AreLabels, IsFound, total_height}

-- the walks are labels; where nothing rose they are as they were, and the fact holds of each number below the count
pub record IsPass (n : ℕ) (low high y : ℕ → ℕ → ℕ) (fact : List Walk → ℕ → Type 0) (old walks : List Walk) (count : ℕ)
    (raised : Bool) : Type 0 where
  pub labels : AreLabels n low high y walks
  pub same : raised ≡ false → walks ≡ old
  pub quiet : raised ≡ false → (k : ℕ) → k < count → fact old k
  pub loud : raised ≡ true → total_height old < total_height walks

module _ (n : ℕ) (low high y : ℕ → ℕ → ℕ) (fact : List Walk → ℕ → Type 0) where
  pub pass_begins : (walks : List Walk) → AreLabels n low high y walks → IsPass n low high y fact walks walks 0 false
  pass_begins walks labels = record {
    labels = labels;
    same = λ _. refl;
    quiet = λ _ k lt. absurd (omega arith);
    loud = λ is. cc;
  }

  -- nothing rose
  pub pass_quiet : (old mid new : List Walk) (count : ℕ) (raised : Bool) →
      IsPass n low high y fact old mid count raised → AreLabels n low high y new → new ≡ mid → fact mid count →
      IsPass n low high y fact old new (count + 1) raised
  pass_quiet old mid new count raised pass labels is here = record {
    labels = labels;
    same = λ none. is ∙ pass.same none;
    quiet = λ none. below_more _ _ (pass.quiet none) (let same = pass.same none in rw same at here);
    loud = λ some. rw is (pass.loud some);
  }

  -- something did
  pub pass_loud : (old mid new : List Walk) (count : ℕ) (raised : Bool) →
      IsPass n low high y fact old mid count raised → AreLabels n low high y new →
      total_height mid < total_height new →
      IsPass n low high y fact old new (count + 1) true
  pass_loud old mid new count false pass labels more = record {
    labels = labels;
    same = λ is. cc;
    quiet = λ is. absurd cc;
    loud = λ _. let same = pass.same refl in rw same at more;
  }
  pass_loud old mid new count true pass labels more = record {
    labels = labels;
    same = λ is. cc;
    quiet = λ is. absurd cc;
    loud = λ _. omega (arith, pass.loud refl);
  }

-- what is found of no fact is found of each
pub found_of_any : (n : ℕ) (low high y : ℕ → ℕ → ℕ) (old new : List Walk) (fact : Type 0) (found : Found)
    → IsFound n low high y old new ⊥ found
    → IsFound n low high y old new fact found
found_of_any n low high y old new fact Nothing is = absurd is.1
found_of_any n low high y old new fact Raised is = is
found_of_any n low high y old new fact (Gaining cycle) is = is
