-- What is demanded over other images, where those that are wanted agree.
use Rattle.std.proofs.Common.{◌≡◌, ℕ, ℤ, map, ap, arith}
use mathlib.Core.Path.{fun_ext}
use Rattle.std.proofs.lemmas.Int.{ints}
use Rattle.std.specs.List.{flat_map}
use Rattle.std.specs.BTreeSet.{BTreeSet}
use Rattle.fx_base.specs.Bounds.{Bounds}
use Rattle.fx_effect.specs.Meaning.{Meaning}
use Rattle.fx_graph.specs.Shown.{GraphShown}
use Rattle.fx_scene.specs.Depends.{AgreeOnWanted, AreImages}
use Rattle.fx_scene.specs.Nodes.{Nodes}
use Rattle.fx_scene.specs.Reach.{IsReached}
use Rattle.fx_scene.specs.Scenes.{Images, graph_nodes, no_images}
use Rattle.fx_scene.proofs.SiteLemmas.{reads_same}
use Rattle.fx_region.specs.Counts.{window_tiles}
use Rattle.fx_region.specs.Ends.{EndShown}
use Rattle.fx_region.specs.Tables.{AreRegions}
use Rattle.fx_region.specs.declared.regions.Regions.{Regions}
use Rattle.fx_region.proofs.TableLemmas.{reached_same}
use Rattle.fx_plan.specs.Agree.{EndsAgree}
use Rattle.fx_plan.specs.declared.entry.Entry.{Entry}
use Rattle.fx_plan.specs.declared.entry.SortKey.{SortKey}
use Rattle.fx_plan.specs.Keys.{AreDemanded, AreRenders}
use Rattle.fx_plan.specs.Plan.{entry_at, need_entry, needed_entries, window_entries}
use Rattle.fx_plan.proofs.PlanLemmas.{demanded_same}

module _ {E : Type 0} (meaning : E → Meaning) (g : GraphShown E) (agree : EndsAgree meaning g) (held : Images) (are_held : AreImages held)
    (side : ℕ) (t : ℤ) where
  abbrev over : Images → Nodes
  over images = graph_nodes meaning g images

  module _ (more : Images) (are_more : AreImages more) (same : AgreeOnWanted meaning g g.output t t held more) where
    window_same : window_entries (over held) g.output side g.project t ≡ window_entries (over more) g.output side g.project t
    window_same =
        ap (λ (e : Bounds → EndShown). flat_map entry_at (map e (window_tiles side g.project)))
        (fun_ext (λ r. (agree held more t are_held are_more same g.output t r
        (λ s closed. closed.start t (omega (arith, ints)) (omega (arith, ints)))).0))

    needed_same : (e : Entry) → IsReached (over no_images) g.output t t e.node e.frame
        → needed_entries (over held) side e ≡ needed_entries (over more) side e
    needed_same e reached =
        ap (flat_map need_entry) ((agree held more t are_held are_more same e.node e.frame e.region reached).1 side)

    -- the regions tell what is reached
    pub demanded_over : (regions : Regions) (count n : ℕ) (done : BTreeSet SortKey) → AreRegions (over held) count g.output t regions
        → AreRenders (over held) regions n done → AreDemanded (over held) g.output side g.project t done
        → AreDemanded (over more) g.output side g.project t done
    demanded_over regions count n done are renders =
        demanded_same (over held) (over more) g.output side g.project t done window_same
        (λ e h. needed_same e (reached_same (over held) (over no_images) g.output t t e.node e.frame (reads_same meaning g held no_images)
        (are.only e.node e.frame (renders e h).reached)))
