use Rattle.std.proofs.Common.{◌≡◌, sym, ◌∙◌}
use Rattle.std.proofs.lemmas.Iterator.Adapters.{YieldsList-from_vec}
use Rattle.std.proofs.lemmas.Iterator.Consumers.{YieldsList-end}
use Rattle.std.proofs.lemmas.List.{map-id}
use Rattle.fx_props.proofs.SetLemmas.{property_among, among_made}
use Rattle.fx_props.proofs.set.PropSet.new.Goals as goal

-- at the end of the loop every definition was taken
pub returns : goal.returns
returns c =
    let gives = c.into_iter-def-iterator.ensures.into_iter_gives in
    let list = YieldsList-from_vec {s = c.into_iter-def-iterator.result} c.args.defs.items gives.0 (gives.1 ∙ c.args.defs.ok.0) in
    let end = YieldsList-end list c.loop-def.yielded c.loop-def.def-iterator c.loop-def.yielded_by c.next.result c.next.new.self c.in-None.is c.next.ensures.steps in
    let all : c.loop-def.yielded ≡ c.args.defs.items = sym (map-id c.loop-def.yielded) ∙ end.0 in
    λ name. property_among c.loop-def.properties.items name ∙ rw (c.loop-def.invariant, all) (among_made c.args.defs.items name)
