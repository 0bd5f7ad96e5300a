use Rattle.std.proofs.Common.{◌≡◌, ◌∙◌, sym, [], ◌∷◌, rules}
use Rattle.std.proofs.lemmas.List.{map-append}
use Rattle.std.proofs.lemmas.List.Elements.{All-push}
use Rattle.fx_params.specs.Parameter.{IsSound}
use Rattle.fx_graph.specs.Params.{param_of}
use Rattle.fx_graph.proofs.params.make_params.Goals as goal

pub loop-def-preserved : goal.loop-def-preserved
loop-def-preserved c =
    record {
      made = c.in_ok-push.ensures.items ∙ rw (c.loop-def.invariant.made, c.in_ok-make_param.ensures.made) (sym (map-append (param_of c.args.params.now) c.loop-def.yielded (c.in-Some.def ∷ [])));
      sound = rw c.in_ok-push.ensures.items (All-push IsSound c.loop-def.made.items c.in_ok-make_param.field-0 c.loop-def.invariant.sound c.in_ok-make_param.ensures.sound);
    }
