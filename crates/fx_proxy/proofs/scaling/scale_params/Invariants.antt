use Rattle.std.proofs.Common.{◌≡◌, ◌++◌, take, drop}
use Rattle.fx_proxy.specs.Scaled.{HasLengths, scaled_params}
use Rattle.fx_proxy.proofs.scaling.scale_params.Given as goal

abbrev pub invariant-loop-place : goal.invariant-loop-place
invariant-loop-place l =
    record {
      value : take l.place l.params.items ++ scaled_params l.effect l.place l.fn.q (drop l.place l.params.items)
          ≡ scaled_params l.effect 0 l.fn.q l.fn.params.items;
      left : HasLengths l.effect l.place (drop l.place l.params.items);
    }
