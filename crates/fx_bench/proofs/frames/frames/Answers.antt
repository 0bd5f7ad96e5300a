use Rattle.std.proofs.Common.{sym, ap, map}
use Rattle.fx_bench.specs.Frames.{file_of}
use Rattle.fx_bench.proofs.DrawLemmas.{state_none, state_behind, frame_added, is_file}
use Rattle.fx_bench.proofs.frames.frames.Goals as goal

pub loop-k-init : goal.loop-k-init
loop-k-init c = record {
  state_is = sym (state_none c.args.draws.now.state);
  files_are = ap (map file_of) c.new-files.ensures.items;
}

pub loop-k-preserved : goal.loop-k-preserved
loop-k-preserved c =
    let r = c.args.draws.now.state in
    let k = c.loop-k.k in
    let s = c.loop-k.draws.state in
    record {
      state_is = state_behind r k s c.frame.new.draws.state c.loop-k.invariant.state_is c.in_ok-bytes.ensures.state;
      files_are =
          frame_added r k (c.in_ok-name.name, c.in_ok-bytes.bytes) c.loop-k.files.items c.push.new.self.items
          c.loop-k.invariant.files_are c.in_ok-push.ensures.items
          (is_file r k s c.in_ok-name.name c.in_ok-bytes.bytes c.loop-k.invariant.state_is c.in_ok-name.ensures c.in_ok-bytes.ensures.bytes);
    }
