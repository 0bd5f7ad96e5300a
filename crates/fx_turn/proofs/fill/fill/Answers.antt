use Rattle.std.proofs.Common.{◌≡◌, ◌+◌, ◌∷◌, ◌++◌, [], List, Option, reverse, length, sym, ap, ◌∙◌, subst, arith}
use Rattle.std.proofs.lemmas.List.{length-append, length-reverse}
use Rattle.atomic_table.specs.Table.{Me}
use Rattle.fx_turn.specs.declared.rule.View.{View}
use Rattle.fx_turn.specs.Turning.{MayStand, stage_of, with_turn}
use Rattle.fx_turn.proofs.Lists.{moved_on, last_in}
use Rattle.fx_turn.proofs.Moves.{stage_more}
use Rattle.fx_turn.proofs.fill.fill.Goals as goal

pub move_in-requires-clause-place : goal.move_in-requires-clause-place
move_in-requires-clause-place g c = let inv = c.loop-value.invariant in
    omega (arith, ap length inv.1, length-append inv.0 (reverse c.loop-value.values.items), length-reverse c.loop-value.values.items, ap length c.in-Some.ensures.items, length-append c.pop.new.self.items (c.in-Some.value ∷ []))

pub move_in-requires-clause-next : goal.move_in-requires-clause-next
move_in-requires-clause-next g c = let inv = c.loop-value.invariant in let v = c.in-Some.value in
    let M : Type 0 = Me (Option g.row.V.Denot) (View g.row.N.Denot g.row.V.Denot g.row.V-Mark.Denot) in
    let slots = c.args.slots.now.shared.table_id.slots in
    let parts = ap (λ (l : List g.row.V.Denot). inv.0 ++ reverse l) (sym c.in-Some.ensures.items) ∙ inv.1 in
    let long : length inv.0 + (length c.pop.new.self.items + 1) ≡ slots = omega (arith, ap length parts, length-append inv.0 (reverse (c.pop.new.self.items ++ v ∷ [])), length-reverse (c.pop.new.self.items ++ v ∷ []), length-append c.pop.new.self.items (v ∷ [])) in record {
      moved = inv.0;
      turn = ap (λ (m : M). m.0.turn) inv.4 ∙ stage_more slots inv.0 (λ e. omega arith);
      count = sym inv.2;
      free = ap (λ (m : M). m.1) inv.4;
      last = λ all_in. subst (λ (z : List g.row.V.Denot × M). MayStand g.V.Fits.fits g.V.Fits.tally g.V.Fits.claims c.args.slots.now.shared.key.name.value z.0 z.1.0.tally z.1.0.claims)
          (λ q. (sym (last_in inv.0 c.pop.new.self.items v c.args.values.items parts (omega arith)) q, sym inv.4 q)) c.requires.stand;
    }

pub loop-value-preserved : goal.loop-value-preserved
loop-value-preserved g c = let inv = c.loop-value.invariant in let v = c.in-Some.value in
    let M : Type 0 = Me (Option g.row.V.Denot) (View g.row.N.Denot g.row.V.Denot g.row.V-Mark.Denot) in
    let slots = c.args.slots.now.shared.table_id.slots in
    let parts = ap (λ (l : List g.row.V.Denot). inv.0 ++ reverse l) (sym c.in-Some.ensures.items) ∙ inv.1 in
    let long : length inv.0 + (length c.pop.new.self.items + 1) ≡ slots = omega (arith, ap length parts, length-append inv.0 (reverse (c.pop.new.self.items ++ v ∷ [])), length-reverse (c.pop.new.self.items ++ v ∷ []), length-append c.pop.new.self.items (v ∷ [])) in
    let turn = ap (λ (m : M). m.0.turn) inv.4 ∙ stage_more slots inv.0 (λ e. omega arith) in (
      inv.0 ++ v ∷ [],
      moved_on inv.0 c.pop.new.self.items v c.args.values.items parts,
      omega (arith, length-append inv.0 (v ∷ [])),
      c.move_in.ensures.row ∙ inv.3,
      c.move_in.ensures.moved inv.0 turn ∙ ap (λ (m : M). (with_turn m.0 (stage_of slots (inv.0 ++ v ∷ [])), [])) inv.4,
    )
