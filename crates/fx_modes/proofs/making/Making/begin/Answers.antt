use Rattle.std.proofs.Common.{◌≡◌, ◌<◌, length, Some, refl, sym, ap, subst, ◌∙◌, arith}
use Rattle.fx_scene.specs.Scenes.{Shot}
use Rattle.fx_scene.specs.Scripts.{HasGrownTo, taken}
use Rattle.fx_shipped.specs.declared.shipped.Shipped.{Shipped}
use Rattle.fx_modes.specs.declared.making.Making.{Making}
use Rattle.fx_modes.proofs.MakingLemmas.{at_take, grown_taken, take_edits, take_there, taken_long}
use Rattle.fx_modes.proofs.making.Making.begin.Goals as goal

pub next_take-requires : goal.next_take-requires
next_take-requires c =
    let w = c.requires.at in
    let take = c.in-Some.take in
    let rest = c.pop_front.new.self.items in
    record {
      more = take_there w.0 c.args.self.now take rest w.2 c.in-Some.ensures.items;
      next = take_edits w.0 c.args.self.now take rest w.2 c.in-Some.ensures.items;
    }

pub returns-in-Ok-clause-grown : goal.returns-in-Ok-clause-grown
returns-in-Ok-clause-grown c =
    subst (HasGrownTo c.args.self.now.scene) (sym c.in-Ok.ensures.ok) (grown_taken c.args.self.now.scene)

pub returns-in-Ok-clause-nodes : goal.returns-in-Ok-clause-nodes
returns-in-Ok-clause-nodes c =
    let w = c.requires.at in
    ap (λ (s : Shot Shipped). length s.graph.nodes) c.in-Ok.ensures.ok
    ∙ taken_long w.0 c.args.self.now c.in-Some.take c.pop_front.new.self.items w.2 c.in-Some.ensures.items

pub returns-in-Ok-clause-at : goal.returns-in-Ok-clause-at
returns-in-Ok-clause-at c = λ p plan at.
    let old = c.args.self.now in
    let take = c.in-Some.take in
    let past : old.last < old.frame = let not = c.if-self.false in omega (arith, not) in
    let now : Making =
    record old {
      scene = c.next_take.new.self;
      takes = c.pop_front.new.self;
      file = Some take.file;
      frame = old.first;
    } in
    let is : now ≡ record old { scene = taken old.scene; takes = now.takes; file = Some take.file; frame = old.first } =
    ap (λ (s : Shot Shipped). record old { scene = s; takes = c.pop_front.new.self; file = Some take.file; frame = old.first }) c.in-Ok.ensures.ok in
    let first = at.first in
    let last = at.last in
    let some = plan.some in
    (at_take p old take c.pop_front.new.self.items plan at past c.in-Some.ensures.items now is refl, omega (arith, first, last, some))
