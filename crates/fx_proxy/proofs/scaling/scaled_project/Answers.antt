use Rattle.fx_proxy.proofs.ScaledLemmas.{project_is_whole, project_near}
use Rattle.fx_proxy.proofs.scaling.scaled_project.Goals as goal

pub blocks_in-requires-clause-whole : goal.blocks_in-requires-clause-whole
blocks_in-requires-clause-whole c = project_is_whole c.args.project c.requires.project

pub blocks_in-requires-clause-near : goal.blocks_in-requires-clause-near
blocks_in-requires-clause-near c = project_near c.args.project c.requires.project
