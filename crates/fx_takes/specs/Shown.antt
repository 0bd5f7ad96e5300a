-- Takes as contracts see them.
use Rattle.std.specs.Prelude.{ℕ, List, map}
use Rattle.fx_params.specs.Parameter.{Parameter}
use Rattle.fx_scene.specs.declared.take.Edit.{Edit}
use Rattle.fx_scene.specs.declared.take.Take.{Take}

-- the places of a node and of one of its parameters, and what that is from there on
pub record EditShown : Type 0 where
  pub node : ℕ
  pub param : ℕ
  pub value : Parameter

-- the pattern of a take's files, and its edits
pub record TakeShown : Type 0 where
  pub file : List ℕ
  pub edits : List EditShown

abbrev pub edit_shown : Edit → EditShown
edit_shown e = record { node = e.node; param = e.param; value = e.value }

abbrev pub take_shown : Take → TakeShown
take_shown t = record { file = t.file; edits = map edit_shown t.edits.items }
