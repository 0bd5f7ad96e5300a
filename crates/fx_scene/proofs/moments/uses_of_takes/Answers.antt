use Rattle.std.proofs.Common.{◌≡◌, ◌<◌, ◌+◌, ◌-◌, ◌*◌, ℕ, List, length, All, refl, ap, sym, ◌∙◌, subst, arith}
use Rattle.std.specs.List.{AllByRecursion}
use Rattle.std.specs.BTreeMap.{values}
use Rattle.std.specs.declared.alloc.Global.{Global}
use Rattle.std.specs.declared.vec.Vec.{Vec}
use Rattle.std.proofs.Math.Nat.{zero-mul}
use Rattle.std.proofs.lemmas.List.{length-map}
use Rattle.std.proofs.lemmas.Result.{IfOk-weaker}
use Rattle.fx_seq.specs.declared.used.Use.{Use}
use Rattle.fx_scene.specs.declared.take.Edit.{Edit}
use Rattle.fx_scene.specs.declared.take.Take.{Take}
use Rattle.fx_scene.specs.Rows.{HasPlace, rows_edited, rows_in}
use Rattle.fx_scene.specs.Scenes.{graph_shown}
use Rattle.fx_scene.specs.Takes.{edits_after, edits_of}
use Rattle.fx_scene.specs.Uses.{AreUses, HasUses, wanting}
use Rattle.fx_scene.specs.Wants.{IsNamedIn}
use Rattle.fx_scene.proofs.NotingLemmas.{all_moments, all_named, are_uses, next_take, uses_none}
use Rattle.fx_scene.proofs.RowLemmas.{edits_here, next_long, next_nodes, own_are, own_same, take_places, take_rows}
use Rattle.fx_scene.proofs.moments.uses_of_takes.Goals as goal

pub note_take-requires-clause-rows : goal.note_take-requires-clause-rows
note_take-requires-clause-rows g c =
    let graph = c.args.graph.now in
    own_are g.E.ImageEffect.meaning (graph_shown graph) graph.nodes.items refl (rows_in c.as_slice.result.now)
    (ap rows_in c.as_slice.ensures.value ∙ c.in_ok-rows.ensures) graph.kept

pub loop-k-init : goal.loop-k-init
loop-k-init g c =
    let graph = c.args.graph.now in
    let over = graph_shown graph in
    let m = g.E.ImageEffect.meaning in
    let edits = edits_of c.args.takes.now.list.items in
    let count = c.args.last + 1 - c.args.first in
    let W = wanting m over edits c.args.first count in
    let rows = rows_in c.in_ok-rows.rows.items in
    record {
      long = (own_are m over graph.nodes.items refl rows c.in_ok-rows.ensures graph.kept).long;
      nodes = sym (own_same m over graph.nodes.items refl rows c.in_ok-rows.ensures);
      uses = c.in_ok-note_take.ensures edits
          (sym (own_same m over graph.nodes.items refl (rows_in c.as_slice.result.now) (ap rows_in c.as_slice.ensures.value ∙ c.in_ok-rows.ensures)))
          (subst (λ (n : ℕ). HasUses W (IsNamedIn over) n c.new-table.result) (sym (zero-mul count))
          (uses_none W (IsNamedIn over) c.new-table.result c.new-table.ensures.empty c.new-table.ensures.ordered));
    }

pub edit_rows-requires : goal.edit_rows-requires
edit_rows-requires g c =
    let graph = c.args.graph.now in
    let takes = c.args.takes.now.list.items in
    let k = c.loop-k.k in
    let rows = rows_in c.loop-k.rows.items in
    let long = c.args.takes.now.list.ok.0 in
    let low : k < length takes = omega (arith, c.loop-k-test.true, c.len-k-end.ensures, long) in
    let here = c.as_slice-in-loop-k.ensures.value ∙ edits_here takes k c.index.result.now low c.index.ensures in
    subst (λ (es : List Edit). AllByRecursion (HasPlace rows) es) (sym here)
    (take_places g.E.ImageEffect.meaning (graph_shown graph) (edits_of takes) k rows c.requires.edits c.loop-k.invariant.long c.loop-k.invariant.nodes)

pub note_take-requires-in-loop-k-clause-rows : goal.note_take-requires-in-loop-k-clause-rows
note_take-requires-in-loop-k-clause-rows g c =
    let graph = c.args.graph.now in
    let over = graph_shown graph in
    let m = g.E.ImageEffect.meaning in
    let takes = c.args.takes.now.list.items in
    let edits = edits_of takes in
    let k = c.loop-k.k in
    let rows = rows_in c.loop-k.rows.items in
    let long = c.args.takes.now.list.ok.0 in
    let low : k < length takes = omega (arith, c.loop-k-test.true, c.len-k-end.ensures, long) in
    let here = c.as_slice-in-loop-k.ensures.value ∙ edits_here takes k c.index.result.now low c.index.ensures in
    let new = rows_in c.as_slice-in-loop-k-2.result.now in
    let is : new ≡ rows_edited (edits_after edits k) rows =
    ap rows_in c.as_slice-in-loop-k-2.ensures.value ∙ c.edit_rows.ensures ∙ ap (λ (es : List Edit). rows_edited es rows) here in
    let inv = c.loop-k.invariant in
    take_rows m over edits (k + 1) new c.requires.edits
    (next_long m over edits k rows c.requires.edits inv.long inv.nodes new is)
    (next_nodes m over edits k rows c.requires.edits inv.long inv.nodes new is) graph.kept

pub loop-k-preserved : goal.loop-k-preserved
loop-k-preserved g c =
    let graph = c.args.graph.now in
    let over = graph_shown graph in
    let m = g.E.ImageEffect.meaning in
    let takes = c.args.takes.now.list.items in
    let edits = edits_of takes in
    let count = c.args.last + 1 - c.args.first in
    let W = wanting m over edits c.args.first count in
    let k = c.loop-k.k in
    let rows = rows_in c.loop-k.rows.items in
    let long = c.args.takes.now.list.ok.0 in
    let low : k < length takes = omega (arith, c.loop-k-test.true, c.len-k-end.ensures, long) in
    let here = c.as_slice-in-loop-k.ensures.value ∙ edits_here takes k c.index.result.now low c.index.ensures in
    let inv = c.loop-k.invariant in
    let new = rows_in c.edit_rows.new.rows.items in
    let is : new ≡ rows_edited (edits_after edits k) rows = c.edit_rows.ensures ∙ ap (λ (es : List Edit). rows_edited es rows) here in
    let lent = rows_in c.as_slice-in-loop-k-2.result.now in
    let lent_is : lent ≡ rows_edited (edits_after edits k) rows = ap rows_in c.as_slice-in-loop-k-2.ensures.value ∙ is in
    record {
      long = next_long m over edits k rows c.requires.edits inv.long inv.nodes new is;
      nodes = next_nodes m over edits k rows c.requires.edits inv.long inv.nodes new is;
      uses = c.in_ok-note_take-2.ensures edits (next_nodes m over edits k rows c.requires.edits inv.long inv.nodes lent lent_is)
          (subst (λ (n : ℕ). HasUses W (IsNamedIn over) n c.loop-k.table) (next_take k count) inv.uses);
    }

pub returns : goal.returns
returns g c =
    let over = graph_shown c.args.graph.now in
    let named = IsNamedIn over in
    let takes = c.args.takes.now.list.items in
    let edits = edits_of takes in
    let count = c.args.last + 1 - c.args.first in
    let W = wanting g.E.ImageEffect.meaning over edits c.args.first count in
    let table = c.loop-k.table in
    let k = c.loop-k.k in
    let stored = c.args.takes.now.list.ok.0 in
    let long = length-map takes (λ (t : Take). t.edits.items) in
    let all : k ≡ length edits = omega (arith, c.loop-k-test.false, c.loop-k.auto.k-end, c.len-k-end.ensures, stored, long) in
    let moments = count * (length edits + 1) in
    let has : HasUses W named moments table =
    subst (λ (n : ℕ). HasUses W named n table) (all_moments k count ∙ ap (λ (n : ℕ). count * (n + 1)) all) c.loop-k.invariant.uses in
    record {
      exact = IfOk-weaker c.listed.result (λ (uses : Vec Use Global). uses.items ≡ values table) (λ (uses : Vec Use Global). AreUses W moments uses.items)
          (λ uses is. subst (λ (us : List Use). AreUses W moments us) (sym is) (are_uses W named moments table has)) c.listed.ensures;
      names = IfOk-weaker c.listed.result (λ (uses : Vec Use Global). uses.items ≡ values table) (λ (uses : Vec Use Global). All (λ u. named u.wanted) uses.items)
          (λ uses is. subst (λ (us : List Use). All (λ u. named u.wanted) us) (sym is) (all_named W named moments table has)) c.listed.ensures;
    }
