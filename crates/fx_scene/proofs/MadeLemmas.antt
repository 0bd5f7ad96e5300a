-- What is made from what is held is right, and what is right may be used.
use Rattle.std.proofs.Common.{◌≡◌, ℕ, ◌≤◌, ℤ, List, length, Some, sym, ◌∙◌, arith}
use Rattle.std.proofs.lemmas.Int.{ints}
use Rattle.fx_base.specs.declared.limits.TheConstants.{MOST_NODES}
use Rattle.fx_effect.specs.Laws.{Laws}
use Rattle.fx_effect.specs.Meaning.{Meaning}
use Rattle.fx_effect.specs.Shape.{IsProject}
use Rattle.fx_graph.specs.Shown.{GraphShown}
use Rattle.fx_scene.specs.Depends.{AgreeOnWanted}
use Rattle.fx_scene.specs.Scenes.{graph_nodes, no_images}
use Rattle.fx_scene.proofs.DependLemmas.{value_depends}
use Rattle.fx_scene.specs.declared.take.Edit.{Edit}
use Rattle.fx_scene.specs.Holds.{IsHeldAt, MadeIsRight, RightIsMade}
use Rattle.fx_scene.specs.Right.{HasWanted, IsRightAt}
use Rattle.fx_scene.specs.Takes.{AreTakes, graph_of_take}
use Rattle.fx_scene.proofs.EraLemmas.{take_few}
use Rattle.fx_scene.proofs.HeldLemmas.{wanted_more}
use Rattle.fx_scene.proofs.RightLemmas.{right_by_one, right_more, same_components, same_depth, same_some}

module _ {E : Type 0} (meaning : E → Meaning) (g : GraphShown E) (takes : List (List Edit)) (laws : (e : E) → Laws (meaning e))
    (is : IsProject g.project) (few : length g.nodes ≤ MOST_NODES) (are : AreTakes meaning g takes) where
  pub made_is_right : MadeIsRight meaning g takes
  made_is_right held all k t key image at reached of_era values tile =
      let h = graph_of_take g takes k in
      let own : HasWanted meaning h held key.node key.frame = λ m f w.
      at.holds m f (wanted_more (graph_nodes meaning h no_images) g.output key.node m t t key.frame f reached w) in
      let here : IsRightAt meaning h held key image = record { values = values; fetched = own; tile = tile } in
      right_by_one meaning g takes laws is few are all k key image at.all_are at.few (sym of_era)
      (right_more meaning g takes laws is few are k held all key image at.held_are at.all_are at.among here)

  pub right_is_made : RightIsMade meaning g takes
  right_is_made held all k t key image at reached of_era right =
      let h = graph_of_take g takes k in
      let r = (right.each k at.few (sym of_era)).tile in
      let agree : AgreeOnWanted meaning h key.node key.frame key.frame held all = λ m f w.
      same_some meaning (held m f) (all m f) (at.among m f)
      (at.holds m f (wanted_more (graph_nodes meaning h no_images) g.output key.node m t t key.frame f reached w)) in
      record {
        rect = r.rect;
        depth = r.depth ∙ same_depth meaning h all held key.node;
        components = r.components ∙ same_components meaning h all held key.node;
        pixels = λ x y inside.
            r.pixels x y inside
            ∙ sym (value_depends meaning h (g.depth, g.components) laws is (take_few meaning g takes laws is few are k) (are k)
            key.node key.frame key.frame held all at.held_are at.all_are agree key.frame x y (omega (arith, ints)) (omega (arith, ints)));
      }
