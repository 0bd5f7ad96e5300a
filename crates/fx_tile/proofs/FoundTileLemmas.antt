-- A tile of the picture as it was found.
use Rattle.std.proofs.Common.{◌≡◌, ◌≤◌, ◌+◌, ℕ, ℤ, List, All, length, sym, ap, ◌∙◌, subst, Result, Ok, Err, IfOk}
use Rattle.std.proofs.lemmas.List.Elements.{All-weaker}
use Rattle.fx_base.specs.Bounds.{Bounds, none}
use Rattle.fx_base.specs.declared.memory.Memory.{Memory}
use Rattle.fx_directory.specs.Seats.{Made}
use Rattle.fx_effect.specs.Meaning.{Meaning}
use Rattle.fx_pool.specs.Working.{numbers_below, numbers_of}
use Rattle.fx_region.specs.declared.ends.End.{End}
use Rattle.fx_region.specs.declared.ends.Need.{Need}
use Rattle.fx_region.specs.Ends.{EndShown, end_of, end_shown}
use Rattle.fx_region.specs.Suffice.{ShowsEnd}
use Rattle.fx_scene.specs.Sites.{scene_nodes}
use Rattle.fx_tile.specs.declared.found.FoundTile.{FoundTile}
use Rattle.fx_tile.specs.declared.job.TileJob.{TileJob}
use Rattle.fx_tile.specs.declared.setup.Setup.{Setup}
use Rattle.fx_tile.specs.Counts.{CountsEnd, CountsRises, CountsWay}
use Rattle.fx_tile.specs.Moments.{IsDrawn, IsFoundTile, job_tile, rects_of}
use Rattle.fx_region.specs.Stands.{StandsBelow}
use Rattle.fx_tile.specs.Founds.{IsFoundIn}
use Rattle.fx_tile.specs.Setups.{IsReady, IsSetup, IsTileOf, end_renders}
use Rattle.fx_tile.specs.Tiles.{IsSmall}
use Rattle.fx_tile.proofs.FoundLemmas.{ends_found}
use Rattle.fx_tile.proofs.ListLemmas.{map-numbered}
use Rattle.fx_tile.proofs.ReadyLemmas.{end_ready}

-- where a region of the output's node is found it may be shown
pub output_ready : {E : Type 0} {c e : _} (meaning : E → Meaning) (number : E → ℕ) (setup : Setup E c e) → IsSetup meaning number setup → (frame : ℤ) (tile : Bounds)
    (end : End) → IsSmall tile → setup.graph.now.output ≤ 1024
    → StandsBelow (scene_nodes meaning setup.scene.now) setup.regions.now (setup.graph.now.output + 1) (end_shown end)
    → end_shown end ≡ end_of (scene_nodes meaning setup.scene.now) setup.graph.now.output frame tile
    → IsReady meaning setup (setup.graph.now.output + 1) end
output_ready meaning number setup of frame tile end small few stands is =
    let nodes = scene_nodes meaning setup.scene.now in
    let output = setup.graph.now.output in
    end_ready meaning setup of.store (output + 1) tile end small stands
    (subst (IsFoundIn nodes tile) (sym is) (ends_found nodes of.nodes output frame tile few))

module _ {E : Type 0} {c e : _} (meaning : E → Meaning) (setup : Setup E c e) (frame : ℤ) (tile : Bounds) (end : End) (m n : Made)
    (ready : IsReady meaning setup (setup.graph.now.output + 1) end)
    (shows : ShowsEnd (scene_nodes meaning setup.scene.now) setup.scene.now.graph.output frame tile (end_shown end))
    (is : end_shown end ≡ end_of (scene_nodes meaning setup.scene.now) setup.scene.now.graph.output frame tile) where
  -- a tile with the image of its end, and with the count that the seat rose by
  pub is_found : (r : Result FoundTile Memory) → IfOk r (λ f. f.tile ≡ tile) → IfOk r (λ f. f.need ≡ record { clip = 0; frame = frame; end = end })
      → IfOk r (λ f. IsTileOf (scene_nodes meaning setup.scene.now) end f.image) → IfOk r (λ f. CountsEnd (end_shown end) f.count)
      → IfOk r (λ f. CountsRises (end_renders (scene_nodes meaning setup.scene.now) setup.shared.now.grid (end_shown end)) m n f.count)
      → IfOk r (IsFoundTile meaning setup frame)
  is_found (Err memory) at need image count rises = tt
  is_found (Ok f) at need image count rises =
      let nodes = scene_nodes meaning setup.scene.now in
      let output = setup.scene.now.graph.output in
      let same : end_shown end ≡ end_of nodes output frame f.tile = is ∙ ap (end_of nodes output frame) (sym at) in
      record {
        clip = ap (λ (k : Need). k.clip) need;
        frame_is = ap (λ (k : Need). k.frame) need;
        ready = subst (λ (k : Need). IsReady meaning setup (setup.graph.now.output + 1) k.end) (sym need) ready;
        image = subst (λ (k : Need). IsTileOf nodes k.end f.image) (sym need) image;
        shows =
            subst (λ (k : Need). ShowsEnd nodes output frame f.tile (end_shown k.end)) (sym need)
            (subst (λ (t : Bounds). ShowsEnd nodes output frame t (end_shown end)) (sym at) shows);
        count = subst (λ (z : EndShown). CountsEnd z f.count) same count;
        way = subst (λ (z : EndShown). CountsWay (end_renders nodes setup.shared.now.grid z) f.count) same rises.way;
      }

-- the tiles that were found, each under its number
module _ {E : Type 0} {c e : _} (meaning : E → Meaning) (job : TileJob E c e) (outs : List (ℕ × FoundTile)) where
  pub found_rects : numbers_of outs ≡ numbers_below (length job.tiles.now) → All (λ out. IsDrawn meaning job out.0 out.1) outs → rects_of outs ≡ job.tiles.now
  found_rects numbers right =
      map-numbered (λ (f : ℕ × FoundTile). f.1.tile) outs job.tiles.now none numbers
      (All-weaker (λ out. IsDrawn meaning job out.0 out.1) (λ out. out.1.tile ≡ job_tile job out.0) (λ out drawn. drawn.tile) outs right)

  pub all_found : All (λ out. IsDrawn meaning job out.0 out.1) outs → All (λ f. IsFoundTile meaning job.setup.now job.frame f.1) outs
  all_found right =
      All-weaker (λ out. IsDrawn meaning job out.0 out.1) (λ f. IsFoundTile meaning job.setup.now job.frame f.1) (λ out drawn. drawn.is) outs right
