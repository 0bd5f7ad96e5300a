use Rattle.std.proofs.Common.{◌≡◌, ◌+◌, ◌++◌, take, vec_capacity, vec_len}
use Rattle.fx_seq.specs.Lists.{seen_in}
use Rattle.fx_seq.proofs.store.note.Given as goal

abbrev pub invariant-loop-frame : goal.invariant-loop-frame
invariant-loop-frame l =
    record {
      len : vec_len l.got ≡ vec_len l.fn.got + l.frame-index;
      room : vec_capacity l.got ≡ vec_capacity l.fn.got;
      noted : seen_in l.got.items ≡ seen_in l.fn.got.items ++ take l.frame-index l.frames;
    }
