-- Scenes at a take: what a scene keeps of its takes, and what is known of every scene.
use Rattle.std.specs.Prelude.{◌≡◌, ◌<◌, ◌≤◌, ◌+◌, ℕ, List, [], length, slice_index_or, Option, Some, None}
use Rattle.fx_text.specs.declared.raw.TheConstants.{MOST_TAKES}
use Rattle.fx_image.specs.Stored.{Stored}
use Rattle.fx_seq.specs.declared.kept.Kept.{Kept}
use Rattle.fx_effect.specs.Meaning.{Meaning}
use Rattle.fx_graph.specs.Shown.{GraphShown}
use Rattle.fx_scene.specs.declared.key.Key.{Key}
use Rattle.fx_scene.specs.declared.take.Edit.{Edit}
use Rattle.fx_scene.specs.declared.take.Takes.{Takes}
use Rattle.fx_scene.specs.Depends.{AreImages}
use Rattle.fx_scene.specs.Right.{HasGrown, IsRightTile}
use Rattle.fx_scene.specs.Scenes.{Script, Shot, fetched_in, images_in}
use Rattle.fx_scene.specs.Takes.{AreEdits, AreTakes, edits_of, era, graph_of_take}

-- those that are remembered, if any are
abbrev pub edits_kept : Option (Kept Takes) → List (List Edit)
edits_kept None = []
edits_kept (Some kept) = edits_of kept.value.list.items

-- a graph that is written so, with no takes
abbrev pub untaken : {E : Type 0} → GraphShown E → Script E
untaken g = record { written = g; takes = []; take = 0 }

-- the graph is that of the script's take, which is one of the takes or the graph as written; there are at most 64 takes,
-- and each edit is of a parameter of the graph, so that at each take the nodes are such as a graph keeps
pub record IsPlayed {E : Type 0} (meaning : E → Meaning) (graph : GraphShown E) (script : Script E) : Type 0 where
  pub graph_is : graph ≡ graph_of_take script.written script.takes script.take
  pub among : script.take ≤ length script.takes
  pub few : length script.takes ≤ MOST_TAKES
  pub edits : AreEdits script.written.nodes script.takes
  pub takes : AreTakes meaning script.written script.takes

-- the scene after its next take: its graph has the edits of that take
abbrev pub taken : {E : Type 0} → Shot E → Shot E
taken scene =
    let k = scene.script.take + 1 in
    record scene {
      graph = graph_of_take scene.script.written scene.script.takes k;
      script = record scene.script { take = k };
    }

-- ---- eras

-- the era that stands at a node's place, and 0 where none does
abbrev pub era_in : List ℕ → ℕ → ℕ
era_in eras n = slice_index_or eras n 0

-- the era of a node at the script's take
abbrev pub era_of : {E : Type 0} → Script E → ℕ → ℕ
era_of script n = era script.written.nodes script.takes script.take n

-- each node's era stands at its place
abbrev pub AreEras : {E : Type 0} → Script E → List ℕ → Type 0
AreEras script eras = (n : ℕ) → n < length script.written.nodes → era_in eras n ≡ era_of script n

-- ---- scenes

-- of every scene: its graph is that of its take, and what it holds are images of frames and among all that it fetched
pub record IsScene {E : Type 0} (meaning : E → Meaning) (scene : Shot E) : Type 0 where
  pub played : IsPlayed meaning scene.graph scene.script
  pub held : AreImages (images_in scene.store)
  pub fetched : AreImages (fetched_in scene.store)
  pub among : HasGrown (images_in scene.store) (fetched_in scene.store)

-- a scene of the same takes that has each frame that the first one fetched
pub record HasGrownTo {E : Type 0} (old new : Shot E) : Type 0 where
  pub written : new.script.written ≡ old.script.written
  pub takes : new.script.takes ≡ old.script.takes
  pub among : HasGrown (fetched_in old.store) (fetched_in new.store)

-- the image may be kept under the key of the scene, whichever take it is at
abbrev pub IsRightFor : {E : Type 0} → (E → Meaning) → Shot E → Key → Stored → Type 0
IsRightFor meaning scene key image =
    IsRightTile meaning scene.script.written scene.script.takes (fetched_in scene.store) key image
