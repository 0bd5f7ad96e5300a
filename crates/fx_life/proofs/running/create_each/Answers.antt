use Rattle.std.proofs.Common.{◌≡◌, ◌<◌, ◌++◌, ℕ, List, [], ◌∷◌, length, rules, arith, ap, sym, ◌∙◌}
use Rattle.fx_effect.specs.declared.action.Context.{Context}
use Rattle.fx_life.specs.Plugin.{Plugin, MadeFor}
use Rattle.fx_life.proofs.RunningLemmas.{more_live, absent_use, absent_made, made_more}
use Rattle.fx_life.proofs.running.create_each.Goals as goal

pub create_instance-requires-clause-described : goal.create_instance-requires-clause-described
create_instance-requires-clause-described g c =
    let inside : c.loop-one.one-index < length c.args.uses.now = search rules in
    rw c.loop-one.invariant.contexts (c.requires.described c.loop-one.one-index _ inside)

pub create_instance-requires-clause-once : goal.create_instance-requires-clause-once
create_instance-requires-clause-once g c =
    let inside : c.loop-one.one-index < length c.args.uses.now = search rules in
    absent_use (g.E.Catalogue.number_of c.args.plugin.now.effect) c.args.uses.now c.loop-one.one-index _
    c.loop-one.plugin.live c.loop-one.idle.items
    c.requires.apart inside (rw (sym c.loop-one.invariant.effect) c.loop-one.invariant.live) c.loop-one.invariant.made

pub loop-one-preserved : goal.loop-one-preserved
loop-one-preserved g c =
    let number = g.E.Catalogue.number_of c.args.plugin.now.effect in
    let uses = c.args.uses.now in
    let k = c.loop-one.one-index in
    let before = c.loop-one.plugin.live in
    let idle = c.loop-one.idle.items in
    let m : MadeFor = c.in_ok-create_instance.field-0 in
    let known = c.loop-one.invariant in
    let inside : k < length uses = search rules in
    let after = c.in_ok-create_instance.ensures.ok in
    let instance = c.in_ok-create_instance.ensures.instance in
    let effect : c.create_instance.new.self.effect ≡ c.loop-one.plugin.effect = ap (λ (p : Plugin _). p.effect) after in
    let contexts : c.create_instance.new.self.contexts ≡ c.loop-one.plugin.contexts =
    ap (λ (p : Plugin _). p.contexts) after in
    let plugin : m.plugin ≡ g.E.Catalogue.number_of c.loop-one.plugin.effect =
    ap (λ (i : MadeFor). i.plugin) instance in
    let live : c.create_instance.new.self.live ≡ before ++ m.node ∷ [] =
    ◌∙◌ {A = List ℕ} (ap (λ (p : Plugin _). p.live) after)
    (ap (λ (i : MadeFor). before ++ i.node ∷ []) (sym instance)) in
    let items : c.push_reserved.new.self.items ≡ idle ++ m ∷ [] =
    ◌∙◌ {A = List MadeFor} c.push_reserved.ensures.items
    (ap (λ (l : List MadeFor). l ++ m ∷ []) c.reserve.ensures.items) in
    let absent =
    absent_made number (g.E.Catalogue.number_of c.loop-one.plugin.effect) uses k _ before idle m c.requires.apart
    inside (rw (sym known.effect) known.live) known.made instance in
    record {
      effect = ◌∙◌ {A = g.row.E.Denot} effect known.effect;
      contexts = ◌∙◌ {A = List Context} contexts known.contexts;
      live =
          rw (live, items, effect) (more_live (g.E.Catalogue.number_of c.loop-one.plugin.effect) before idle m
          known.live absent plugin);
      room = omega (arith, c.push_reserved.new.self.ok);
      made =
          ◌∙◌ {A = List MadeFor} items (made_more number (g.E.Catalogue.number_of c.loop-one.plugin.effect) uses k _
          idle m inside known.made (ap g.E.Catalogue.number_of known.effect) instance);
    }
