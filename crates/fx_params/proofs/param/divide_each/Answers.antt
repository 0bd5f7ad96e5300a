use Rattle.std.proofs.Common.{◌≡◌, ◌∙◌, ap, sym, map, pos, slice_set, slice_index_or, get_or, arith, w64, to_z, of_z, FitsSigned}
use Rattle.std.proofs.lemmas.Grind.{common_steps}
use Rattle.std.proofs.lemmas.Int.{to_z-of_z}
use Rattle.std.proofs.lemmas.List.{get_or_default}
use Rattle.std.proofs.lemmas.List.Edits.{map_over_more}
use Rattle.fx_params.specs.declared.key.Key.{Key}
use Rattle.fx_params.specs.Parameter.{divided_from, with_value}
use Rattle.fx_params.proofs.param.divide_each.Goals as goal

pub loop-key-preserved : goal.loop-key-preserved
loop-key-preserved c =
    let keys = c.deref_mut-key-items.result.now in
    let now = c.loop-key.key-items in
    let i = c.loop-key.key-index in
    let none : Key = record { frame = pos 0; value = pos 0 } in
    let key = slice_index_or now i none in
    let f = with_value (divided_from (to_z w64 (of_z w64 c.args.least)) c.args.by) in
    let long = c.loop-key.auto.key-items in
    let there : key ≡ get_or now i key = get_or_default now i none key (omega (arith, long, c.loop-key-test.true)) in
    ap (slice_set now i) c.divide_key.ensures ∙ map_over_more f keys now i key c.loop-key-test.true c.loop-key.invariant there

pub returns : goal.returns
returns c =
    let fits : FitsSigned w64 c.args.least = c.ranges.least in
    let inv = simp to_z-of_z at c.loop-key.invariant in
    grind (arith, common_steps, inv)
