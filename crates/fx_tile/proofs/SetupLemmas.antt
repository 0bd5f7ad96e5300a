-- Nodes of a setup in their places.
use Rattle.std.proofs.Common.{◌≡◌, ℕ, ◌<◌, ℤ, false, length, not, sym, ap, ◌∙◌, subst, arith}
use Rattle.std.proofs.lemmas.Int.{ints}
use Rattle.std.proofs.lemmas.List.{length-map}
use Rattle.fx_effect.specs.Meaning.{Meaning}
use Rattle.fx_graph.specs.Shown.{GraphShown, shown}
use Rattle.fx_scene.specs.Nodes.{Effect, EffectNode as Effects, Nodes, Source, SourceFrames}
use Rattle.fx_scene.specs.Reach.{IsPlace}
use Rattle.fx_scene.specs.Scenes.{graph_nodes, graph_shown, images_in}
use Rattle.fx_scene.specs.declared.site.EffectNode.{EffectNode}
use Rattle.fx_scene.specs.declared.site.SourceNode.{SourceNode}
use Rattle.fx_scene.specs.Sites.{IsSourceAt, StandsIn, effect_at, scene_nodes, source_of}
use Rattle.fx_region.specs.Tables.{AreRegions, Has}
use Rattle.fx_region.specs.declared.regions.Regions.{Regions}
use Rattle.fx_scene.proofs.SiteLemmas.{effect_is, source_is}
use Rattle.fx_tile.specs.declared.setup.Setup.{Setup}
use Rattle.fx_tile.specs.Kept.{is_whole}
use Rattle.fx_tile.specs.Setups.{IsSetup}

no_source : (s : SourceFrames) (o : Effects) → Source s ≡ Effect o → ⊥
no_source s o e = cc

module _ {E : Type 0} {c e : _} (meaning : E → Meaning) (number : E → ℕ) (setup : Setup E c e) (is : IsSetup meaning number setup) where
  -- the place of a node that is reached
  pub place_of : (node : ℕ) (frame : ℤ) → Has setup.regions.now node frame → IsPlace (length setup.scene.now.graph.nodes) node frame
  place_of node frame reached = is.regions.are.places node frame reached

  pub in_graph : (node : ℕ) (frame : ℤ) → Has setup.regions.now node frame → node < length setup.graph.now.nodes.items
  in_graph node frame reached =
      let low = (place_of node frame reached).there in
      let same = ap (λ (g : GraphShown E). length g.nodes) is.graph in
      let long = length-map setup.graph.now.nodes.items shown in
      subst (λ (k : ℕ). node < k) (same ∙ long) low

  pub effect_there : (n : EffectNode E) → StandsIn (graph_shown setup.graph.now) n
      → scene_nodes meaning setup.scene.now n.place ≡ Effect (effect_at meaning setup.graph.now.project n)
  effect_there n at =
      ap (λ (g : GraphShown E). graph_nodes meaning g (images_in setup.scene.now.store) n.place) is.graph
      ∙ effect_is meaning (graph_shown setup.graph.now) (images_in setup.scene.now.store) n at

  source_there : (place : ℕ) (s : SourceNode) → IsSourceAt (graph_shown setup.graph.now) place s
      → scene_nodes meaning setup.scene.now place ≡ Source (source_of (images_in setup.scene.now.store) place s)
  source_there place s at =
      ap (λ (g : GraphShown E). graph_nodes meaning g (images_in setup.scene.now.store) place) is.graph
      ∙ source_is meaning (graph_shown setup.graph.now) (images_in setup.scene.now.store) place s at

  -- whether images of a node are kept whole
  pub source_whole : (place : ℕ) (s : SourceNode) → IsSourceAt (graph_shown setup.graph.now) place s
      → false ≡ is_whole (scene_nodes meaning setup.scene.now place)
  source_whole place s at = sym (ap is_whole (source_there place s at))

  pub effect_whole : (place : ℕ) (n : EffectNode E) → n.place ≡ place → StandsIn (graph_shown setup.graph.now) n
      → not (meaning n.effect.now).shape.tiles ≡ is_whole (scene_nodes meaning setup.scene.now place)
  effect_whole place n same at =
      subst (λ (k : ℕ). not (meaning n.effect.now).shape.tiles ≡ is_whole (scene_nodes meaning setup.scene.now k)) same
      (sym (ap is_whole (effect_there n at)))

  -- no source stands where an effect does
  pub is_no_source : (place : ℕ) (s : SourceNode) (o : Effects) → IsSourceAt (graph_shown setup.graph.now) place s
      → scene_nodes meaning setup.scene.now place ≡ Effect o → ⊥
  is_no_source place s o at there = no_source _ o (sym (source_there place s at) ∙ there)

-- the output is reached at the frame that the regions are of
pub has_output : (nodes : Nodes) (count output : ℕ) (regions : Regions) (t : ℤ) → AreRegions nodes count output t regions → Has regions output t
has_output nodes count output regions t are = are.all output t (λ s closed. closed.start t (omega (arith, ints)) (omega (arith, ints)))
