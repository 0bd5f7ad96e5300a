-- What is known of the effect that a graph of the catalogue's renders, at frame 7.
use Rattle.std.proofs.Common.{◌≡◌, ◌≤◌, ℕ, ◌∷◌, [], List, Bool, true, false, refl, sym, subst, pos, length, map, rules}
use Rattle.std.specs.List.{AllZip, Contains}
use Rattle.std.proofs.lemmas.Bool.{false≢true}
use Rattle.std.proofs.lemmas.List.{length-map}
use Rattle.fx_base.specs.Bounds.{Bounds, none}
use Rattle.fx_base.specs.declared.limits.TheConstants.{MOST_NODES}
use Rattle.fx_pixel.specs.declared.Components.{Components}
use Rattle.fx_pixel.specs.declared.Depth.{Depth}
use Rattle.fx_effect.specs.Asked.{AreRegions, IsWindow}
use Rattle.fx_effect.specs.Given.{Given}
use Rattle.fx_effect.specs.Shape.{IsLawfulIn, IsProject}
use Rattle.fx_effect.specs.declared.values.Values.{Values}
use Rattle.fx_life.specs.Plugin.{MayRenderIn}
use Rattle.fx_graph.specs.Kept as graph
use Rattle.fx_graph.specs.Kept.{use_values}
use Rattle.fx_graph.specs.Nodes.{Form}
use Rattle.fx_graph.specs.Shown.{GraphShown, shown}
use Rattle.fx_graph.specs.declared.node.Node.{Node}
use Rattle.fx_scene.specs.Nodes.{AreNodes}
use Rattle.fx_scene.specs.Scenes.{graph_nodes, no_images}
use Rattle.fx_scene.specs.Sites.{StandsIn, seen_in}
use Rattle.fx_scene.specs.declared.site.EffectNode.{EffectNode}
use Rattle.fx_scene.proofs.GraphLemmas.{nodes_are}
use Rattle.fx_scene.proofs.SiteLemmas.{is_effect, may_render}
use Rattle.fx_shipped.specs.Shipped.{meaning_of}
use Rattle.fx_shipped.specs.ShippedLaws.{shipped_laws}
use Rattle.fx_shipped.specs.declared.shipped.Shipped.{Shipped}
use Rattle.fx_rows_effects.specs.Asked.{source_region}

pub few_shown : {E : Type 0} (nodes : List (Node E)) → length nodes ≤ MOST_NODES → length (map shown nodes) ≤ MOST_NODES
few_shown nodes few = subst (λ (k : ℕ). k ≤ MOST_NODES) (sym (length-map nodes shown)) few

regions_are : (flags : List Bool)
    → AllZip (λ connected r. IsWindow r × (connected ≡ false → r ≡ none)) flags (map source_region flags)
regions_are [] = tt
regions_are (true ∷ flags) = ((search rules, λ not. absurd (false≢true (sym not))), regions_are flags)
regions_are (false ∷ flags) = ((search rules, λ not. refl), regions_are flags)

module _ (g : GraphShown Shipped) (form : Form) (kept : graph.AreNodes meaning_of form g.nodes)
    (extent : IsProject g.project) (few : length g.nodes ≤ MOST_NODES) (n : EffectNode Shipped) (at : StandsIn g n) where
  nodes : AreNodes (graph_nodes meaning_of g no_images)
  nodes = nodes_are meaning_of form g shipped_laws extent few kept

  pub lawful : (v : Values) → v ≡ use_values g.project (pos 7) n.clips.now n.params.now
      → IsLawfulIn (meaning_of n.effect.now).shape n.context v
  lawful v is =
      subst (λ (w : Values). IsLawfulIn (meaning_of n.effect.now).shape n.context w) (sym is)
      ((is_effect meaning_of g no_images nodes n at).lawful (pos 7))

  pub supported : Contains (meaning_of n.effect.now).shape.contexts n.context
  supported = (lawful (use_values g.project (pos 7) n.clips.now n.params.now) refl).supported

  -- it may be asked to render images of its form
  pub may : (depth : Depth) (c : Components) (v : Values) (given : Given) → depth ≡ n.depth → c ≡ n.components
      → v ≡ use_values g.project (pos 7) n.clips.now n.params.now → given.depth ≡ n.depth
      → given.components ≡ map (seen_in n.components) n.masks.now
      → MayRenderIn n.context (meaning_of n.effect.now).shape v given depth c
  may depth c v given deep components is given_depth given_components =
      subst (λ (d : Depth). MayRenderIn n.context (meaning_of n.effect.now).shape v given d c) (sym deep)
      (subst (λ (k : Components). MayRenderIn n.context (meaning_of n.effect.now).shape v given n.depth k) (sym components)
      (may_render meaning_of g form kept no_images nodes n at v given
      (subst (λ (w : Values). w ≡ use_values g.project w.frame n.clips.now n.params.now) (sym is) refl) given_depth
      given_components))

pub regions_right : (v : Values) (flags : List Bool) (regions : List Bounds) → v.connected ≡ flags
    → regions ≡ map source_region flags → AreRegions v regions
regions_right v flags regions connected are =
    let R : Bool → Bounds → Type 0 = λ connected r. IsWindow r × (connected ≡ false → r ≡ none) in
    subst (λ (fs : List Bool). AllZip R fs regions) (sym connected)
    (subst (λ (rs : List Bounds). AllZip R flags rs) (sym are) (regions_are flags))
