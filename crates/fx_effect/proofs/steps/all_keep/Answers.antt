use Rattle.std.proofs.Common.{◌≡◌, ℕ, nat_eq, true, length, subst, arith, List}
use Rattle.std.proofs.lemmas.Bool.Decides.{nat_tests}
use Rattle.std.proofs.lemmas.List.{take_all}
use Rattle.fx_effect.specs.Given.{Keep}
use Rattle.fx_effect.specs.declared.steps.Step.{Step}
use Rattle.fx_effect.proofs.steps.all_keep.Goals as goal

same_number : (k n : ℕ) → nat_eq k n ≡ true → k ≡ n
same_number k n h = grind (arith, nat_tests)

pub returns : goal.returns
returns c kept =
    let all : c.kept_first.result ≡ length c.args.steps.now = same_number c.kept_first.result (length c.args.steps.now) kept in
    subst (λ (ss : List Step). Keep c.args.depth c.args.components ss) (take_all c.kept_first.result c.args.steps.now (omega (arith, all))) c.kept_first.ensures.kept
