-- Stores that were filled with what is wanted.
use Rattle.std.proofs.Common.{◌≡◌, ℕ, ℤ, List, Some, ap, is_some, option_map, subst}
use Rattle.fx_effect.specs.Meaning.{Meaning}
use Rattle.fx_graph.specs.Shown.{GraphShown}
use Rattle.fx_image.specs.Stored.{image_of}
use Rattle.fx_outside.specs.Outside.{Files}
use Rattle.fx_scene.specs.Right.{HasWanted}
use Rattle.fx_scene.specs.Scenes.{graph_nodes, images_in, no_images}
use Rattle.fx_scene.specs.Wants.{AreWanted}
use Rattle.fx_seq.specs.declared.store.Store.{Store}
use Rattle.fx_seq.specs.declared.wanted.Wanted.{Wanted}
use Rattle.fx_seq.specs.Frames.{HoldsPictures}
use Rattle.fx_seq.specs.Held.{held}

-- where each wanted frame has the image of its file, what is wanted is held
pub wanted_held : {E : Type 0} (meaning : E → Meaning) (g : GraphShown E) (store : Store) (t : ℤ) (wanted : List Wanted) (files : Files) (side : ℕ)
    → AreWanted (graph_nodes meaning g no_images) g.output t t wanted → HoldsPictures files side wanted (held store)
    → HasWanted meaning g (images_in store) g.output t
wanted_held meaning g store t wanted files side are holds k f w =
    let l = are.all k f w in
    let h = holds l.entry l.listed in
    ap (λ o. is_some (option_map image_of o))
    (subst (λ (u : ℤ). held store k u ≡ Some h.0) l.frame (subst (λ (n : ℕ). held store n l.entry.frame ≡ Some h.0) l.node h.1))
