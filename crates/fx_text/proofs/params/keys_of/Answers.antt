use Rattle.std.proofs.Common.{◌≡◌, ◌≢◌, rules, Err, arith}
use Rattle.std.proofs.lemmas.Grind.{common_steps}
use Rattle.fx_text.specs.Values.{key_of, keys_of}
use Rattle.serde_json.specs.View.{items_view}
use Rattle.fx_text.specs.Fault.{told}
use Rattle.fx_text.specs.declared.fault.GraphFault.TheVariants.{Memory}
use Rattle.fx_text.proofs.Faults.{item_fault}
use Rattle.fx_text.proofs.Rows.{next_item}
use Rattle.fx_text.proofs.params.keys_of.Goals as goal

pub loop-k-preserved : goal.loop-k-preserved
loop-k-preserved c = record {
  all = next_item (λ k d. key_of d) c.args.values.now c.loop-k.k c.index-values-k.result c.loop-k.keys.items c.push.new.self.items c.in_ok-key.key _
      c.loop-k-test.true c.index-values-k.is c.in_ok-push.ensures.items c.in_ok-key.ensures.0 c.loop-k.invariant.all;
  count = grind (arith, common_steps, c.in_ok-push.ensures.len, c.loop-k.invariant.count);
}

pub returns-in_err-key-clause-err : goal.returns-in_err-key-clause-err
returns-in_err-key-clause-err c =
    let args = c.args in
    let e = c.in_err-key.field-0.0 in
    let fault : e ≢ Memory → keys_of (items_view args.values.now) ≡ Err (told e) = λ other.
    item_fault (λ k d. key_of d) args.values.now c.loop-k.k c.index-values-k.result c.loop-k.keys.items _ _
    c.loop-k-test.true c.index-values-k.is (c.in_err-key.ensures.1 other) c.loop-k.invariant.all in
    search (rules, fault)
