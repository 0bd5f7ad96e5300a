-- The gate and the instance of an effect in its place of a graph.
use Rattle.std.proofs.Common.{ℕ, ◌<◌, ◌≤◌, ◌+◌, length, ap, arith}
use Rattle.fx_life.specs.Posts.{HasLife, Lives, Plays, used_by}
use Rattle.fx_graph.specs.Shown.{GraphShown}
use Rattle.fx_scene.specs.declared.site.EffectNode.{EffectNode}
use Rattle.fx_scene.specs.Sites.{StandsIn}
use Rattle.fx_scene.proofs.SiteLemmas.{place_below}

module _ {E : Type 0} (g : GraphShown E) where
  -- its gate is one of so many
  pub has_gate : (gates : ℕ) → 64 + length g.nodes ≤ gates → (n : EffectNode E) → StandsIn g n → 64 + n.place < gates
  has_gate gates enough n at = let low = place_below g n at in omega (arith, enough, low)

  -- its instance is in the life
  pub has_instance : (number : E → ℕ) (life : Lives E) → HasLife number g life → (n : EffectNode E) → StandsIn g n
      → Plays number life n.place n.effect.now
  has_instance number life has n at =
      (has n.place at.node (record { effect = n.effect.now; context = n.context }) at.there (ap used_by at.does)).0
