use Rattle.std.proofs.Common.{◌≡◌, ◌≢◌, rules, Err, arith, codes}
use Rattle.std.proofs.lemmas.Grind.{common_steps}
use Rattle.fx_text.specs.Paths.{inside}
use Rattle.fx_text.specs.Objects.{group_of, groups_of}
use Rattle.serde_json.specs.View.{items_view}
use Rattle.fx_text.specs.Fault.{told}
use Rattle.fx_text.specs.declared.fault.GraphFault.TheVariants.{Memory}
use Rattle.fx_text.proofs.Faults.{item_fault}
use Rattle.fx_text.proofs.Rows.{next_item}
use Rattle.fx_text.proofs.group.groups_of.Goals as goal

pub loop-k-preserved : goal.loop-k-preserved
loop-k-preserved c = record {
  all = next_item (λ k d. group_of (inside (codes "groups") k) c.args.project d) c.args.values.now c.loop-k.k c.index-values-k.result c.loop-k.groups.items c.push.new.self.items c.in_ok-group.group _
      c.loop-k-test.true c.index-values-k.is c.in_ok-push.ensures.items c.in_ok-group.ensures.0 c.loop-k.invariant.all;
  count = grind (arith, common_steps, c.in_ok-push.ensures.len, c.loop-k.invariant.count);
}

pub returns-in_err-group-clause-err : goal.returns-in_err-group-clause-err
returns-in_err-group-clause-err c =
    let args = c.args in
    let e = c.in_err-group.field-0.0 in
    let fault : e ≢ Memory → groups_of args.project (items_view args.values.now) ≡ Err (told e) = λ other.
    item_fault (λ k d. group_of (inside (codes "groups") k) args.project d) args.values.now c.loop-k.k c.index-values-k.result c.loop-k.groups.items _ _
    c.loop-k-test.true c.index-values-k.is (c.in_err-group.ensures.1 other) c.loop-k.invariant.all in
    search (rules, fault)
