use Rattle.std.proofs.Common.{◌≡◌, ◌++◌, [], ◌∷◌, arith, ap, sym, subst, ◌∙◌}
use Rattle.std.specs.List.{Contains}
use Rattle.std.specs.Vec.{vec_capacity}
use Rattle.fx_life.specs.Plugin.{MadeFor}
use Rattle.fx_life.specs.Running.{made, members}
use Rattle.fx_life.proofs.RunningLemmas.{begins, longer, one_of, last_idle, moved}
use Rattle.fx_life.proofs.running.end_each.Goals as goal

pub end-requires-clause-plugin : goal.end-requires-clause-plugin
end-requires-clause-plugin g c =
    let idle = c.loop-sequence.idle.items in
    let s = c.in-Some.sequence in
    let all = members c.args.idle.now.items c.args.in_sequence.now.items in
    let popped : c.loop-sequence.in_sequence.items ≡ c.pop.new.self.items ++ s ∷ [] = c.in-Some.ensures.items in
    let is =
    sym (moved idle c.pop.new.self.items s) ∙ ap (λ l. members idle l) (sym popped)
    ∙ c.loop-sequence.invariant.same in
    let member : Contains all (made s) =
    subst (λ l. Contains l (made s)) is (last_idle idle (made s) c.pop.new.self.items) in
    (one_of (g.E.Catalogue.number_of c.args.plugin.now.effect) c.args.plugin.now.live all (made s) c.requires.live
    member).plugin

pub end-requires-clause-live : goal.end-requires-clause-live
end-requires-clause-live g c =
    let idle = c.loop-sequence.idle.items in
    let s = c.in-Some.sequence in
    let all = members c.args.idle.now.items c.args.in_sequence.now.items in
    let popped : c.loop-sequence.in_sequence.items ≡ c.pop.new.self.items ++ s ∷ [] = c.in-Some.ensures.items in
    let is =
    sym (moved idle c.pop.new.self.items s) ∙ ap (λ l. members idle l) (sym popped)
    ∙ c.loop-sequence.invariant.same in
    let member : Contains all (made s) =
    subst (λ l. Contains l (made s)) is (last_idle idle (made s) c.pop.new.self.items) in
    (one_of (g.E.Catalogue.number_of c.args.plugin.now.effect) c.args.plugin.now.live all (made s) c.requires.live
    member).there

pub loop-sequence-preserved : goal.loop-sequence-preserved
loop-sequence-preserved g c =
    let idle = c.loop-sequence.idle.items in
    let sequences = c.loop-sequence.in_sequence.items in
    let s = c.in-Some.sequence in
    let instance : MadeFor = c.end.result in
    let popped : sequences ≡ c.pop.new.self.items ++ s ∷ [] = c.in-Some.ensures.items in
    let grown : c.push_reserved.new.self.items ≡ idle ++ instance ∷ [] = c.push_reserved.ensures.items in
    let same : made s ≡ instance = sym c.end.ensures.ok in
    let room : vec_capacity c.push_reserved.new.self ≡ vec_capacity c.loop-sequence.idle =
    c.push_reserved.ensures.capacity in
    let fewer = longer c.pop.new.self.items sequences s popped in
    let more = longer idle c.push_reserved.new.self.items instance grown in
    record {
      same =
          sym (begins c.push_reserved.new.self.items idle c.pop.new.self.items sequences instance s grown popped same)
          ∙ c.loop-sequence.invariant.same;
      room = omega (arith, c.loop-sequence.invariant.room, room, fewer, more);
    }
