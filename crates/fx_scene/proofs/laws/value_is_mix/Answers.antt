use Rattle.std.proofs.Common.{◌≡◌, ℤ, ap}
use Rattle.fx_scene.specs.Value.{Pixels}
use Rattle.fx_scene.proofs.Equations.{value_is}
use Rattle.fx_scene.proofs.laws.value_is_mix.Goals as goal

pub returns : goal.returns
returns c nodes ok n t x y = ap (λ (v : Pixels). v t x y) (value_is nodes ok n)
