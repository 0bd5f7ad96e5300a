use Rattle.std.proofs.Common.{◌≡◌, ◌+◌, ◌-◌, ◌*◌, ℕ, arith, subst}
use Rattle.fx_scene.specs.Rows.{rows_in}
use Rattle.fx_scene.specs.Scenes.{graph_shown}
use Rattle.fx_scene.specs.Uses.{HasUses, Notes, wanting}
use Rattle.fx_scene.specs.Wants.{IsNamedIn}
use Rattle.fx_scene.proofs.NotingLemmas.{at_take, next_moment, uses_more}
use Rattle.fx_scene.proofs.moments.note_take.Goals as goal

pub loop-i-preserved : goal.loop-i-preserved
loop-i-preserved g c = λ takes same was.
    let shown = graph_shown c.args.graph.now in
    let meaning = g.E.ImageEffect.meaning in
    let i = c.loop-i.i in
    let take = c.args.take in
    let count = c.args.last + 1 - c.args.first in
    let is : c.saturating_sub-count.result ≡ count = omega (arith, c.saturating_sub-count.ensures, c.from.ensures, c.from-2.ensures) in
    let wanted = c.in_ok-wanted.wanted.items in
    let so_far = c.loop-i.invariant takes same was in
    let W = wanting meaning shown takes c.args.first count in
    subst (λ (n : ℕ). HasUses W (IsNamedIn shown) n c.note_all.new.table) (next_moment (take * count) i)
    (uses_more W (IsNamedIn shown) (take * count + i) wanted c.loop-i.table c.note_all.new.table so_far
    (at_take meaning shown (IsNamedIn shown) takes (rows_in c.args.rows.now) c.args.first count take i wanted
    (omega (arith, c.loop-i-test.true, is)) same c.in_ok-wanted.ensures.exact c.in_ok-wanted.ensures.names)
    (subst (λ (k : ℕ). Notes wanted (take * k + i) c.loop-i.table c.note_all.new.table) is c.in_ok-note_all.ensures.notes)
    (c.in_ok-note_all.ensures.order so_far.order))

pub returns : goal.returns
returns g c = λ takes same was.
    let shown = graph_shown c.args.graph.now in
    let count = c.args.last + 1 - c.args.first in
    let all : c.loop-i.i ≡ count = omega (arith, c.loop-i-test.false, c.loop-i.auto.i-end, c.saturating_sub-count.ensures, c.from.ensures, c.from-2.ensures) in
    subst (λ (k : ℕ). HasUses (wanting g.E.ImageEffect.meaning shown takes c.args.first count) (IsNamedIn shown) (c.args.take * count + k) c.loop-i.table) all
    (c.loop-i.invariant takes same was)
