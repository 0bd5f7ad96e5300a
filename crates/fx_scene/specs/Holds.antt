-- What a scene shows of which it holds some frames of all that were fetched.
use Rattle.std.specs.Prelude.{◌≡◌, ◌≤◌, ℕ, ℤ, List, length}
use Rattle.fx_effect.specs.Meaning.{Meaning}
use Rattle.fx_graph.specs.Shown.{GraphShown}
use Rattle.fx_image.specs.Stored.{Stored}
use Rattle.fx_scene.specs.declared.key.Key.{Key}
use Rattle.fx_scene.specs.Areas.{area}
use Rattle.fx_scene.specs.Depends.{AreImages}
use Rattle.fx_scene.specs.Reach.{IsReached}
use Rattle.fx_scene.specs.Scenes.{Images, graph_nodes, no_images, node_values, picture}
use Rattle.fx_scene.specs.Value.{value}
use Rattle.fx_scene.specs.declared.take.Edit.{Edit}
use Rattle.fx_scene.specs.Right.{HasGrown, HasWanted, IsRightTile, IsTile}
use Rattle.fx_scene.specs.Takes.{era, graph_of_take}

-- over all that was fetched a node that is reached from the output at t has the pixels and the area that it has over
-- what is held, where what is wanted at t is held
abbrev pub HeldSuffice : {E : Type 0} → (E → Meaning) → GraphShown E → Type 0
HeldSuffice meaning g =
    (held all : Images) (t : ℤ) → AreImages held → AreImages all → HasGrown held all
    → HasWanted meaning g held g.output t
    → (n : ℕ) (u : ℤ) → IsReached (graph_nodes meaning g no_images) g.output t t n u
    → HasWanted meaning g held n u
    × ((x y : ℤ) → value (graph_nodes meaning g held) n u x y ≡ value (graph_nodes meaning g all) n u x y)
    × (area (graph_nodes meaning g held) n u ≡ area (graph_nodes meaning g all) n u)

-- What a tile is made from: at a take k, of all that was fetched what is wanted at t is held
pub record IsHeldAt {E : Type 0} (meaning : E → Meaning) (g : GraphShown E) (takes : List (List Edit))
    (held all : Images) (k : ℕ) (t : ℤ) : Type 0 where
  pub few : k ≤ length takes
  pub held_are : AreImages held
  pub all_are : AreImages all
  pub among : HasGrown held all
  pub holds : HasWanted meaning (graph_of_take g takes k) held g.output t

-- an image that was made from it of what is reached there is right, and may be kept
abbrev pub MadeIsRight : {E : Type 0} → (E → Meaning) → GraphShown E → List (List Edit) → Type 0
MadeIsRight meaning g takes =
    (held all : Images) (k : ℕ) (t : ℤ) (key : Key) (image : Stored) → IsHeldAt meaning g takes held all k t
    → (let h = graph_of_take g takes k in
    IsReached (graph_nodes meaning h no_images) g.output t t key.node key.frame
    → key.era ≡ era g.nodes takes k key.node
    → key.values ≡ node_values h key.node key.frame
    → IsTile (graph_nodes meaning h held) key.node key.frame key.region image
    → IsRightTile meaning g takes all key image)

-- and one that is right may be used as if it was made from it
abbrev pub RightIsMade : {E : Type 0} → (E → Meaning) → GraphShown E → List (List Edit) → Type 0
RightIsMade meaning g takes =
    (held all : Images) (k : ℕ) (t : ℤ) (key : Key) (image : Stored) → IsHeldAt meaning g takes held all k t
    → (let h = graph_of_take g takes k in
    IsReached (graph_nodes meaning h no_images) g.output t t key.node key.frame
    → key.era ≡ era g.nodes takes k key.node
    → IsRightTile meaning g takes all key image
    → IsTile (graph_nodes meaning h held) key.node key.frame key.region image)

-- more source frames change no picture of which all that it wants was there
abbrev pub PicturesStay : {E : Type 0} → (E → Meaning) → GraphShown E → List (List Edit) → Type 0
PicturesStay meaning g takes =
    (old new : Images) (k : ℕ) (t : ℤ) → AreImages old → AreImages new → HasGrown old new
    → (let h = graph_of_take g takes k in
    HasWanted meaning h old g.output t → picture meaning h old t ≡ picture meaning h new t)
