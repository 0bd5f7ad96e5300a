use Rattle.std.proofs.Common.{◌≡◌, ◌≢◌, rules, Err, arith}
use Rattle.std.proofs.lemmas.Grind.{common_steps}
use Rattle.fx_text.specs.Paths.{inside}
use Rattle.fx_text.specs.Json.{short_of}
use Rattle.serde_json.specs.View.{items_view}
use Rattle.fx_text.specs.Fault.{told}
use Rattle.fx_text.specs.declared.fault.GraphFault.TheVariants.{Memory}
use Rattle.fx_text.specs.Objects.{inputs_of}
use Rattle.fx_text.proofs.Faults.{item_fault}
use Rattle.fx_text.proofs.Rows.{next_item}
use Rattle.fx_text.proofs.group.inputs_of.Goals as goal

pub loop-k-preserved : goal.loop-k-preserved
loop-k-preserved c = record {
  all = next_item (λ k d. short_of (inside c.args.path.now k) d) c.args.values.now c.loop-k.k c.index-values-k.result c.loop-k.names.items c.push.new.self.items c.in_ok-name.name _
      c.loop-k-test.true c.index-values-k.is c.in_ok-push.ensures.items c.in_ok-name.ensures.0 c.loop-k.invariant.all;
  count = grind (arith, common_steps, c.in_ok-push.ensures.len, c.loop-k.invariant.count);
}

pub returns-in_err-name-clause-err : goal.returns-in_err-name-clause-err
returns-in_err-name-clause-err c =
    let args = c.args in
    let e = c.in_err-name.field-0.0 in
    let fault : e ≢ Memory → inputs_of args.path.now (items_view args.values.now) ≡ Err (told e) = λ other.
    item_fault (λ k d. short_of (inside args.path.now k) d) args.values.now c.loop-k.k c.index-values-k.result c.loop-k.names.items _ _
    c.loop-k-test.true c.index-values-k.is (c.in_err-name.ensures.1 other) c.loop-k.invariant.all in
    search (rules, fault)
