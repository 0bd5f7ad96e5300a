use Rattle.std.proofs.Common.{◌≡◌, take, subst, sym, ap, ◌∙◌, ◌+◌}
use Rattle.fx_props.specs.Entries.{Entry}
use Rattle.fx_props.specs.Entries.{IsEntry}
use Rattle.fx_props.proofs.EntryLaws.{Begun, entry_not_refused, entry_more, fronts_one, on_err}
use Rattle.fx_props.proofs.write.write_entry.Goals as goal

pub append-requires : goal.append-requires
append-requires c =
    let e = c.args.entry.now in
    let fine : IsEntry e = subst IsEntry c.entry.view_is c.entry.invariant in
    let same : c.deref-value-items.result.now ≡ e.values = c.deref-value-items.ensures.value ∙ ap (λ (b : Entry). b.values) c.entry.view_is in
    let named : c.text-name.result.now ≡ e.name = c.text-name.ensures ∙ ap (λ (b : Entry). b.name) c.entry.view_is in
    rw named (entry_not_refused e c.loop-value.value-index c.loop-value.index c.value-item.result c.args.set.now c.loop-value.set fine
    (rw same at c.loop-value-test.true) (rw same at c.value-item.is) c.loop-value.invariant.place c.loop-value.invariant.begun)

pub loop-value-preserved : goal.loop-value-preserved
loop-value-preserved c =
    let e = c.args.entry.now in
    let fine : IsEntry e = subst IsEntry c.entry.view_is c.entry.invariant in
    let same : c.deref-value-items.result.now ≡ e.values = c.deref-value-items.ensures.value ∙ ap (λ (b : Entry). b.values) c.entry.view_is in
    let named : c.text-name.result.now ≡ e.name = c.text-name.ensures ∙ ap (λ (b : Entry). b.name) c.entry.view_is in
    record {
      place = ap (λ n. n + 1) c.loop-value.invariant.place;
      begun = entry_more e c.loop-value.value-index c.loop-value.index c.value-item.result c.args.set.now c.loop-value.set c.append.new.set fine
          (rw same at c.loop-value-test.true) (rw same at c.value-item.is) c.loop-value.invariant.place c.loop-value.invariant.begun (rw named at c.in_ok-append.ensures.ok);
    }

pub returns-in_err-append-clause-left : goal.returns-in_err-append-clause-left
returns-in_err-append-clause-left c =
    let e = c.args.entry.now in
    let i = c.loop-value.value-index in
    on_err c.from_residual.result (fronts_one e i c.args.set.now c.append.new.set
    (subst (λ s. Begun e.name e.kind (take i e.values) c.args.set.now s) (sym c.in_err-append.ensures.err) c.loop-value.invariant.begun))
