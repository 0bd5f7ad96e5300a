use Rattle.std.proofs.Common.{◌≡◌, subst, arith}
use Rattle.fx_area.specs.Gathered.{AreGathered}
use Rattle.fx_area.proofs.GatherLaws.{gathered_one, gathered_more}
use Rattle.fx_area.proofs.extreme.gather.Goals as goal

pub loop-have-init : goal.loop-have-init
loop-have-init c =
    record {
      some = omega arith;
      most = omega arith;
      gathered = gathered_one c.args.extreme c.args.depth c.args.count c.args.stride c.args.bytes.now;
    }

pub loop-have-preserved : goal.loop-have-preserved
loop-have-preserved c =
    let inv = c.loop-have.invariant in
    let have = c.loop-have.have in
    let more = c.min-more.result in
    record {
      some = omega (arith, inv.some);
      most = omega (arith, c.min-more.ensures, inv.most);
      gathered = gathered_more c.args.extreme c.args.depth c.args.count c.args.stride have more c.args.bytes.now
          c.loop-have.bytes c.spread.new.bytes inv.some (omega (arith, c.min-more.ensures)) inv.gathered
          c.spread.ensures;
    }

pub returns : goal.returns
returns c =
    let all : c.loop-have.have ≡ c.args.wanted = omega (arith, c.loop-have.invariant.most, c.loop-have-test.false) in
    subst (λ n. AreGathered c.args.extreme c.args.depth c.args.count c.args.stride n c.args.bytes.now c.loop-have.bytes) all c.loop-have.invariant.gathered
