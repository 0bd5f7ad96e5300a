use Rattle.std.proofs.Common.{◌≡◌, ◌++◌, [], ◌∷◌, arith, ap, sym, subst, ◌∙◌}
use Rattle.std.specs.List.{Contains}
use Rattle.std.specs.Vec.{vec_capacity}
use Rattle.fx_life.specs.Running.{made, begun, members}
use Rattle.fx_life.proofs.RunningLemmas.{begins, last_idle, longer, one_of, plan_kept}
use Rattle.fx_life.proofs.running.begin_each.Goals as goal

pub loop-instance-preserved : goal.loop-instance-preserved
loop-instance-preserved g c =
    let idle = c.loop-instance.idle.items in
    let sequences = c.loop-instance.in_sequence.items in
    let s = c.in-Ok.sequence in
    let popped : idle ≡ c.pop.new.self.items ++ c.in-Some.instance ∷ [] = c.in-Some.ensures.items in
    let grown : c.push_reserved.new.self.items ≡ sequences ++ s ∷ [] = c.push_reserved.ensures.items in
    let whole : s ≡ begun c.args.first c.args.last c.in-Some.instance = c.in-Ok.ensures.ok in
    let same : made s ≡ c.in-Some.instance = ap made whole in
    let room : vec_capacity c.pop.new.self ≡ vec_capacity c.loop-instance.idle = c.in-Some.ensures.capacity in
    let sequence_room : vec_capacity c.push_reserved.new.self ≡ vec_capacity c.loop-instance.in_sequence =
    c.push_reserved.ensures.capacity in
    let fewer = longer c.pop.new.self.items idle c.in-Some.instance popped in
    let more = longer sequences c.push_reserved.new.self.items s grown in
    record {
      same =
          begins idle c.pop.new.self.items sequences c.push_reserved.new.self.items c.in-Some.instance s popped grown
          same
          ∙ c.loop-instance.invariant.same;
      planned =
          plan_kept c.args.first c.args.last idle c.pop.new.self.items sequences c.push_reserved.new.self.items
          c.in-Some.instance s popped grown whole
          ∙ c.loop-instance.invariant.planned;
      room = omega (arith, c.loop-instance.invariant.room, room, fewer, more);
      sequence_room = omega (arith, c.loop-instance.invariant.sequence_room, sequence_room, fewer, more);
    }

pub begin-requires-clause-plugin : goal.begin-requires-clause-plugin
begin-requires-clause-plugin g c =
    let sequences = c.loop-instance.in_sequence.items in
    let rest = c.pop.new.self.items in
    let m = c.in-Some.instance in
    let all = members c.args.idle.now.items c.args.in_sequence.now.items in
    let popped : c.loop-instance.idle.items ≡ rest ++ m ∷ [] = c.in-Some.ensures.items in
    let is = ap (λ l. members l sequences) (sym popped) ∙ c.loop-instance.invariant.same in
    let member : Contains all m = subst (λ l. Contains l m) is (last_idle rest m sequences) in
    (one_of (g.E.Catalogue.number_of c.args.plugin.now.effect) c.args.plugin.now.live all m c.requires.live
    member).plugin

pub begin-requires-clause-live : goal.begin-requires-clause-live
begin-requires-clause-live g c =
    let sequences = c.loop-instance.in_sequence.items in
    let rest = c.pop.new.self.items in
    let m = c.in-Some.instance in
    let all = members c.args.idle.now.items c.args.in_sequence.now.items in
    let popped : c.loop-instance.idle.items ≡ rest ++ m ∷ [] = c.in-Some.ensures.items in
    let is = ap (λ l. members l sequences) (sym popped) ∙ c.loop-instance.invariant.same in
    let member : Contains all m = subst (λ l. Contains l m) is (last_idle rest m sequences) in
    (one_of (g.E.Catalogue.number_of c.args.plugin.now.effect) c.args.plugin.now.live all m c.requires.live
    member).there

pub begin-requires-clause-first : goal.begin-requires-clause-first
begin-requires-clause-first g c = c.requires.frames.0

pub begin-requires-clause-last : goal.begin-requires-clause-last
begin-requires-clause-last g c = c.requires.frames.1
