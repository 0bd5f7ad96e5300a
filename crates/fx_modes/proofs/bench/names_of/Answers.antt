use Rattle.std.proofs.Common.{◌≡◌, ◌-◌, ◌∙◌, map, ap, arith, ◌++◌, ◌∷◌, []}
use Rattle.std.specs.List.{range_with_len}
use Rattle.fx_base.specs.Pattern.{name_of}
use Rattle.fx_modes.specs.Graphs.{frame_count}
use Rattle.fx_modes.proofs.MadeLemmas.{name_added}
use Rattle.fx_modes.proofs.bench.names_of.Goals as goal

pub loop-frame-preserved : goal.loop-frame-preserved
loop-frame-preserved c = record {
  from = omega (arith, c.loop-frame.invariant.from);
  up_to = omega (arith, c.loop-frame-test.true, c.loop-frame.invariant.until);
  until = c.loop-frame.invariant.until;
  names = name_added (name_of c.args.file.now) c.args.first c.loop-frame.frame c.loop-frame.names.items c.push.new.self.items
      c.loop-frame.invariant.from c.loop-frame.invariant.names
      (c.in_ok-push.ensures.items ∙ ap (λ n. c.loop-frame.names.items ++ n ∷ []) c.in_ok-name.ensures.value);
}

pub returns : goal.returns
returns c =
    let same : c.loop-frame.frame - c.args.first ≡ frame_count c.args.first c.args.last =
    omega (arith, c.loop-frame.invariant.from, c.loop-frame.invariant.until, c.loop-frame-test.false, c.loop-frame.invariant.up_to) in
    c.loop-frame.invariant.names ∙ ap (λ n. map (name_of c.args.file.now) (range_with_len c.args.first n)) same
