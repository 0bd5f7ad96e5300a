-- How many renders were made so far.
use Rattle.std.proofs.Common.{◌≡◌, ◌+◌, ◌∙◌, ℕ, ℤ, List, [], ◌∷◌, refl, sym, ap}
use Rattle.std.specs.List.{fold}
use Rattle.fx_core.specs.State.{State}
use Rattle.fx_scene.specs.Nodes.{Effect, EffectNode, Node, Nodes, Source, SourceFrames}
use Rattle.fx_scene.specs.Areas.{area}
use Rattle.fx_scene.specs.Reach.{IsReach, IsReadBy, NodeFrames}
use Rattle.fx_scene.specs.declared.reaching.NodeFrame.{NodeFrame}
use Rattle.fx_base.specs.Bounds.{Bounds}
use Rattle.fx_eval.specs.Cuts.{pieces}
use Rattle.fx_eval.specs.Flights.{Drops, IsIdle, after_renders}
use Rattle.fx_eval.specs.Renders.{renders_at, renders_by, renders_of}
use Rattle.fx_eval.proofs.FlightLemmas.{none_made, renders_drop, renders_idle, renders_more}

-- those of the nodes at frames before `rest`
pub record IsRendering {K V : Type 0} (nodes : Nodes) (node_frames rest : List NodeFrame) (old new : State K V) : Type 0 where
  pub made : ℕ
  pub core : new ≡ after_renders old made
  pub all : fold (λ a m. a + renders_at nodes m.node m.frame) made rest ≡ renders_of nodes node_frames

module _ {K V : Type 0} (nodes : Nodes) (node_frames : List NodeFrame) (s : State K V) where
  pub rendering_start : IsRendering nodes node_frames node_frames s s
  rendering_start = record { made = 0; core = none_made s; all = refl }

  pub rendering_step : (m : NodeFrame) (rest : List NodeFrame) (t u : State K V) → IsRendering nodes node_frames (m ∷ rest) s t
      → u ≡ after_renders t (renders_at nodes m.node m.frame) → IsRendering nodes node_frames rest s u
  rendering_step m rest t u r e =
      record {
        made = r.made + renders_at nodes m.node m.frame;
        core = renders_more s t u r.made (renders_at nodes m.node m.frame) r.core e;
        all = r.all;
      }

  pub rendering_end : (t : State K V) → IsRendering nodes node_frames [] s t → t ≡ after_renders s (renders_of nodes node_frames)
  rendering_end t r = r.core ∙ ap (after_renders s) r.all

  pub rendering_idle : (rest : List NodeFrame) (t : State K V) → IsRendering nodes node_frames rest s t → IsIdle s → IsIdle t
  rendering_idle rest t r idle = renders_idle s t r.made r.core idle

  pub rendering_drop : (rest : List NodeFrame) (t u : State K V) → IsRendering nodes node_frames rest s t → Drops t u → Drops s u
  rendering_drop rest t u r d = renders_drop s t u r.made r.core d

-- ---- one node

pub source_renders : {K V : Type 0} (nodes : Nodes) (n : ℕ) (t : ℤ) (o : SourceFrames) (s : State K V) → nodes n ≡ Source o
    → s ≡ after_renders s (renders_at nodes n t)
source_renders nodes n t o s stands =
    none_made s ∙ ap (λ (q : Node). after_renders s (renders_by q (area nodes n t))) (sym stands)

pub effect_renders : {K V : Type 0} (nodes : Nodes) (n : ℕ) (t : ℤ) (o : EffectNode) (a : Bounds) (s u : State K V)
    → nodes n ≡ Effect o → a ≡ area nodes n t → u ≡ after_renders s (pieces a) → u ≡ after_renders s (renders_at nodes n t)
effect_renders nodes n t o a s u stands is e =
    e ∙ ap (λ (b : Bounds). after_renders s (pieces b)) is
    ∙ ap (λ (q : Node). after_renders s (renders_by q (area nodes n t))) (sym stands)

-- ---- what is reached

-- a least set is one over nodes that read the same
pub reach_same : (a b : Nodes) (output : ℕ) (first last : ℤ) (node_frames : NodeFrames)
    → ((n : ℕ) (t : ℤ) (m : ℕ) (f : ℤ) → IsReadBy (a n) t m f → IsReadBy (b n) t m f)
    → ((n : ℕ) (t : ℤ) (m : ℕ) (f : ℤ) → IsReadBy (b n) t m f → IsReadBy (a n) t m f)
    → IsReach a output first last node_frames → IsReach b output first last node_frames
reach_same a b output first last node_frames to from reach =
    record {
      all = λ n t r. reach.all n t (λ s closed.
          r s (record { start = closed.start; reads = λ k u h m f e. closed.reads k u h m f (from k u m f e) }));
      only = λ n t h s closed.
          reach.only n t h s (record { start = closed.start; reads = λ k u h m f e. closed.reads k u h m f (to k u m f e) });
    }
