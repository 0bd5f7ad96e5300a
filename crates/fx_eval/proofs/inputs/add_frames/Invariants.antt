use Rattle.std.proofs.Common.{◌≡◌, ℕ, Option, Some, take}
use Rattle.fx_eval.specs.Setups.{setup_nodes}
use Rattle.fx_eval.specs.Inputs.{Adds, IsSomeOf}
use Rattle.fx_eval.proofs.inputs.add_frames.Given as goal

abbrev pub invariant-loop-f : goal.invariant-loop-f
invariant-loop-f g l =
    record {
      clip : l.inputs.components ≡ l.fn.inputs.components;
      adds : (node : ℕ → Option ℕ) → node l.c ≡ Some l.m
          → Adds (setup_nodes g.E.ImageEffect.meaning l.setup) node (IsSomeOf l.c (take l.f-index l.frames)) l.fn.inputs l.inputs;
    }
