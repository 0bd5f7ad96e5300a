use Rattle.std.proofs.Common.{◌∙◌, ap, get_or, pos, w64, rules, refl, Some, ℤ, take, ◌+◌, List, subst, sym}
use Rattle.std.proofs.lemmas.Int.{to_z-of_z}
use Rattle.std.proofs.lemmas.List.{take_all}
use mathlib.Core.Logic.{◌⊎◌}
use mir.Val.{SFits}
use Rattle.fx_effect.specs.Given.{Given}
use Rattle.fx_eval.specs.Setups.{setup_nodes}
use Rattle.fx_eval.specs.Wholes.{IsMade}
use Rattle.fx_eval.specs.Inputs.{Adds, IsSomeOf, IsOne}
use Rattle.fx_eval.proofs.PieceLemmas.{adds_less, adds_more, frames_split}
use Rattle.fx_eval.proofs.inputs.add_frames.Goals as goal

pub add_frame-requires-clause-made : goal.add_frame-requires-clause-made
add_frame-requires-clause-made g c =
    let f = get_or c.args.frames.now c.loop-f.f-index (pos 0) in
    let fits : SFits w64 f = search rules in
    subst (IsMade c.args.made.now c.args.m) (sym (to_z-of_z w64 f fits)) (c.requires.made c.loop-f.f-index (pos 0) c.loop-f-test.true)

pub loop-f-preserved : goal.loop-f-preserved
loop-f-preserved g c =
    let nodes = setup_nodes g.E.ImageEffect.meaning c.args.setup.now in
    let fs = c.args.frames.now in
    let i = c.loop-f.f-index in
    let f = get_or fs i (pos 0) in
    let fits : SFits w64 f = search rules in
    let one = simp to_z-of_z at c.in_ok-add_frame.ensures in
    record {
      clip = ap (λ (a : Given). a.components) (one (λ k. Some c.args.m) refl).is ∙ c.loop-f.invariant.clip;
      adds = λ node is.
          adds_less nodes node (IsSomeOf c.args.c (take (i + 1) fs)) (λ k h. IsSomeOf c.args.c (take i fs) k h ⊎ IsOne c.args.c f k h) c.args.inputs.now c.add_frame.new.inputs
          (λ k h s. frames_split c.args.c fs i (pos 0) c.loop-f-test.true k h s)
          (adds_more nodes node (IsSomeOf c.args.c (take i fs)) (IsOne c.args.c f) c.args.inputs.now c.loop-f.inputs c.add_frame.new.inputs (c.loop-f.invariant.adds node is) (one node is));
    }

pub returns : goal.returns
returns g c node is =
    subst (λ (fs : List ℤ). Adds (setup_nodes g.E.ImageEffect.meaning c.args.setup.now) node (IsSomeOf c.args.c fs) c.args.inputs.now c.loop-f.inputs) (take_all c.loop-f.f-index c.args.frames.now c.loop-f-test.false) (c.loop-f.invariant.adds node is)
