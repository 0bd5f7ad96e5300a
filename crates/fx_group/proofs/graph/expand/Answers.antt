use Rattle.std.proofs.Common.{◌≡◌, nat_eq, true, rules}
use Rattle.std.proofs.lemmas.Result.{IfOk-weaker}
use Rattle.fx_group.proofs.ExpandLaws.{instances_of}
use Rattle.fx_group.proofs.ShownLaws.{expanded_shown}
use Rattle.fx_group.proofs.TwoLaws.{one_expands}
use Rattle.fx_group.proofs.graph.expand.Goals as goal

pub returns-else-raw-eq1-clause-instances : goal.returns-else-raw-eq1-clause-instances
returns-else-raw-eq1-clause-instances c =
    IfOk-weaker c.expand_two.result _ _ (λ g is. instances_of c.args.raw g is) c.expand_two.ensures.expanded

pub returns-then-raw-eq1-clause-shown : goal.returns-then-raw-eq1-clause-shown
returns-then-raw-eq1-clause-shown c find =
    let one : nat_eq c.args.raw.format 1 ≡ true = search rules in
    expanded_shown find (λ m. m) c.args.raw c.args.raw (one_expands c.args.raw one)

pub returns-else-raw-eq1-clause-shown : goal.returns-else-raw-eq1-clause-shown
returns-else-raw-eq1-clause-shown c =
    IfOk-weaker c.expand_two.result _ _ (λ g is find. expanded_shown find (λ m. m) c.args.raw g is) c.expand_two.ensures.expanded
