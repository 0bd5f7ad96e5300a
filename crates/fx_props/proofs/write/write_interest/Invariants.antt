use Rattle.std.proofs.Common.{take}
use Rattle.fx_props.specs.Entries.{Wrote, interest, region_of, texts_of}
use Rattle.fx_props.proofs.write.write_interest.Given as goal

abbrev pub invariant-loop-k : goal.invariant-loop-k
invariant-loop-k l = Wrote (take l.k (interest (texts_of l.clips) (region_of l.regions))) l.initial.out_args l.out_args
