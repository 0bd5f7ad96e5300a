use Rattle.std.proofs.Common.{subst, ◌∙◌}
use Rattle.fx_modes.specs.Graphs.{Graph}
use Rattle.fx_modes.specs.Steps.{IsSourceFault}
use Rattle.fx_modes.proofs.TakeLemmas.{source_at}
use Rattle.fx_modes.proofs.moments.finished.Goals as goal

pub returns-in-Source : goal.returns-in-Source
returns-in-Source c =
    let script = c.args.making.scene.script in
    let shown = c.graph.ensures.shown ∙ c.is_played.ensures.graph_is in
    rw c.in-Source.is (source_at script.written script.takes script.take c.in-Source.fault c.source_fault.result
    (subst (λ (h : Graph). IsSourceFault h c.in-Source.fault c.source_fault.result) shown c.source_fault.ensures))
