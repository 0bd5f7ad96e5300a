use Rattle.std.proofs.Common.{◌≡◌, ◌<◌, ◌++◌, ℕ, [], ◌∷◌, length, arith, sym, ap, subst, ◌∙◌, All, AllPairs, ◌≢◌}
use Rattle.std.specs.List.{Contains}
use Rattle.std.specs.Vec.{vec_capacity}
use Rattle.std.proofs.Math.ListN.{length-set}
use Rattle.std.proofs.lemmas.List.Elements.{All-push}
use Rattle.std.proofs.lemmas.Result.{IfOk-from_err}
use Rattle.fx_life.specs.Posts.{uses_at, handed, IsStarted}
use Rattle.fx_life.proofs.RunningLemmas.{longer}
use Rattle.fx_life.proofs.LifeLemmas.{handed_on, unused_number, placed_more, started_for}
use Rattle.fx_life.proofs.PostLemmas.{uses_here}
use Rattle.fx_life.proofs.life.start_each.Goals as goal

pub start-requires-clause-supported : goal.start-requires-clause-supported
start-requires-clause-supported g c =
    let effect = c.in-Some.effect in
    let n = c.number-number.result in
    let mine = c.index-uses-number.result in
    let value : n ≡ g.E.Catalogue.number_of effect = c.number-number.ensures.value in
    let low : n < length c.args.uses.now = omega (arith, c.requires.lists.0, c.number-number.ensures.small) in
    let items : c.deref.result.now ≡ mine.items = c.deref.ensures.value in
    let here =
    ap (uses_at c.args.uses.now) (sym value) ∙ uses_here c.args.uses.now n mine low c.index-uses-number.is
    ∙ sym items in
    subst (All (λ u. Contains (g.E.ImageEffect.meaning effect).shape.contexts u.context)) here
    (c.requires.supported effect)

pub start-requires-clause-apart : goal.start-requires-clause-apart
start-requires-clause-apart g c =
    let n = c.number-number.result in
    let mine = c.index-uses-number.result in
    let low : n < length c.args.uses.now = omega (arith, c.requires.lists.0, c.number-number.ensures.small) in
    let items : c.deref.result.now ≡ mine.items = c.deref.ensures.value in
    let here = uses_here c.args.uses.now n mine low c.index-uses-number.is ∙ sym items in
    subst (AllPairs (λ a b. a.node ≢ b.node)) here (c.requires.apart n)

pub loop-effect-preserved : goal.loop-effect-preserved
loop-effect-preserved g c =
    let number = g.E.Catalogue.number_of in
    let uses = c.args.uses.now in
    let effects = c.loop-effect.effects.items in
    let rest = c.pop.new.self.items in
    let runs = c.loop-effect.running.items in
    let after = c.push_reserved.new.self.items in
    let places = c.loop-effect.places.items in
    let known = c.loop-effect.invariant in
    let effect = c.in-Some.effect in
    let run = c.in_ok-run.run' in
    let n = c.number-number.result in
    let mine = c.index-uses-number.result in
    let popped : effects ≡ rest ++ effect ∷ [] = c.in-Some.ensures.items in
    let grown : after ≡ runs ++ run ∷ [] = c.push_reserved.ensures.items in
    let same : run.effect ≡ effect = c.in_ok-run.ensures.effect in
    let value : n ≡ number effect = c.number-number.ensures.value in
    let low : n < length uses = omega (arith, c.requires.lists.0, c.number-number.ensures.small) in
    let inside : n < length places = omega (arith, known.places, c.number-number.ensures.small) in
    let items : c.deref.result.now ≡ mine.items = c.deref.ensures.value in
    let long : c.len-in-Some.result ≡ length runs =
    ◌∙◌ {A = ℕ} c.len-in-Some.ensures c.loop-effect.running.ok.0 in
    let here = ap (uses_at uses) (sym value) ∙ uses_here uses n mine low c.index-uses-number.is ∙ sym items in
    let room : vec_capacity c.push_reserved.new.self ≡ vec_capacity c.loop-effect.running =
    c.push_reserved.ensures.capacity in
    let back : vec_capacity c.pop.new.self ≡ vec_capacity c.loop-effect.effects = c.in-Some.ensures.capacity in
    let fewer = longer rest effects effect popped in
    let more = longer runs after run grown in
    record {
      room = omega (arith, known.room, room, fewer, more);
      back = omega (arith, known.back, back, fewer, more);
      handed = ap (handed rest) grown ∙ handed_on rest effects runs effect run popped same ∙ known.handed;
      placed =
          placed_more number runs after places run n c.len-in-Some.result grown (ap number same ∙ sym value) long inside
          known.placed (λ i r there is. unused_number number rest effects c.args.effects.now.items runs effect i r
          c.requires.numbers known.handed popped there (sym value ∙ is));
      started = rw grown (All-push (IsStarted number uses c.args.first c.args.last) runs run known.started
          (started_for number uses c.args.first c.args.last effect run c.deref.result.now here same
          c.in_ok-run.ensures.contexts c.in_ok-run.ensures.sequences));
      places = length-set places n c.len-in-Some.result ∙ known.places;
    }

pub start-requires-clause-frames : goal.start-requires-clause-frames
start-requires-clause-frames g c = c.requires.frames

pub returns-in_err-reserve-clause-placed : goal.returns-in_err-reserve-clause-placed
returns-in_err-reserve-clause-placed g c = IfOk-from_err _ _ c.from_residual.ensures.0

pub returns-in_err-reserve-clause-started : goal.returns-in_err-reserve-clause-started
returns-in_err-reserve-clause-started g c = IfOk-from_err _ _ c.from_residual.ensures.0

pub returns-in_err-reserve-clause-effects : goal.returns-in_err-reserve-clause-effects
returns-in_err-reserve-clause-effects g c = IfOk-from_err _ _ c.from_residual.ensures.0

pub returns-in_err-reserve-clause-all : goal.returns-in_err-reserve-clause-all
returns-in_err-reserve-clause-all g c = IfOk-from_err _ _ c.from_residual.ensures.0

pub returns-in_err-run-clause-placed : goal.returns-in_err-run-clause-placed
returns-in_err-run-clause-placed g c = IfOk-from_err _ _ c.from_residual-in_err-run.ensures.0

pub returns-in_err-run-clause-started : goal.returns-in_err-run-clause-started
returns-in_err-run-clause-started g c = IfOk-from_err _ _ c.from_residual-in_err-run.ensures.0

pub returns-in_err-run-clause-effects : goal.returns-in_err-run-clause-effects
returns-in_err-run-clause-effects g c = IfOk-from_err _ _ c.from_residual-in_err-run.ensures.0

pub returns-in_err-run-clause-all : goal.returns-in_err-run-clause-all
returns-in_err-run-clause-all g c = IfOk-from_err _ _ c.from_residual-in_err-run.ensures.0

pub returns-clause-placed : goal.returns-clause-placed
returns-clause-placed g c = c.loop-effect.invariant.placed

pub returns-clause-started : goal.returns-clause-started
returns-clause-started g c = c.loop-effect.invariant.started
