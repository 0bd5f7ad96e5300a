use Rattle.std.proofs.Common.{◌≤◌, rules}
use Rattle.fx_time.proofs.WeightLaws.{weighed_is}
use Rattle.fx_time.proofs.weight.Weight.weighed.Goals as goal

pub returns-clause-value : goal.returns-clause-value
returns-clause-value c =
    let few : c.args.s ≤ 65535 = search rules in
    rw (c.from.ensures, c.args.self.value) (weighed_is c.args.self.count c.args.self.back c.args.s c.args.self.few few)
