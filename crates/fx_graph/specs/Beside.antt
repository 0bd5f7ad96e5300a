-- Graphs that differ in their nodes alone.
use Rattle.std.specs.Prelude.{◌≡◌}
use Rattle.fx_graph.specs.declared.graph.Graph.{Graph}

pub record SameBesideNodes {E : Type 0} {c e : _} (old new : Graph E c e) : Type 0 where
  pub project : new.project ≡ old.project
  pub depth : new.depth ≡ old.depth
  pub components : new.components ≡ old.components
  pub output : new.output ≡ old.output
  pub file : new.file ≡ old.file
  pub format : new.format ≡ old.format
  pub first : new.first ≡ old.first
  pub last : new.last ≡ old.last
