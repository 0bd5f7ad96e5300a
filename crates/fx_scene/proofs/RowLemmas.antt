-- Rows of parameters in place of a graph's own.
use Rattle.std.proofs.Common.{◌≡◌, ◌↔◌, ℕ, zero, suc, ◌<◌, ◌+◌, ℤ, List, [], ◌∷◌, ◌++◌, length, map, set, take, get_or, slice_get, slice_index_or, Option, Some, None, is_some, Bool, refl, sym, ap, ◌∙◌, subst, arith}
use Rattle.std.specs.Borrow.{Bor}
use Rattle.std.specs.List.{AllByRecursion}
use Rattle.std.specs.Option.{option_map}
use Rattle.std.specs.declared.alloc.Global.{Global}
use Rattle.std.specs.declared.vec.Vec.{Vec}
use Rattle.std.specs.Vec.{with_item}
use Rattle.std.proofs.lemmas.List.{length-map, length-set, map-set, take_more}
use Rattle.std.proofs.lemmas.Option.{none-some, same_Some}
use Rattle.fx_base.specs.Bounds.{Bounds}
use Rattle.fx_params.specs.Parameter.{Parameter, value_at}
use Rattle.fx_params.specs.declared.def.ParamDef.{ParamDef}
use Rattle.fx_effect.specs.Meaning.{Meaning}
use Rattle.fx_effect.specs.declared.values.Values.{Values}
use Rattle.fx_graph.specs.Edits.{HasParam, with_edit, with_param}
use Rattle.fx_graph.specs.Kept as kept
use Rattle.fx_graph.specs.declared.node.Node.{Node as AnyNode}
use Rattle.fx_graph.specs.Shown.{Does, GraphShown, Shown, does_of, shown}
use Rattle.fx_graph.specs.Shown as does
use Rattle.fx_scene.specs.declared.take.Edit.{Edit}
use Rattle.fx_scene.specs.Rows.{AreRows, HasPlace, HasRow, IsRow, IsRowAt, graph_with, node_with, own_row, own_rows, row_in, rows_edited, rows_in, with_param_at, with_row, with_rows}
use Rattle.fx_scene.specs.declared.take.Take.{Take}
use Rattle.fx_scene.specs.Scenes.{graph_nodes, no_images, node_in, node_of, nodes_of}
use Rattle.fx_scene.specs.Takes.{AreEdits, IsEdit, edited_all, edits_after, edits_of, nodes_at}
use Rattle.fx_scene.specs.Wants.{ShowSame, Shows}
use Rattle.fx_scene.proofs.EditLemmas.{edits_keep, edits_then}
use Rattle.fx_scene.proofs.GraphLemmas.{use_at}

-- ---- what stands at a place

module _ {E : Type 0} where
  pub with_rows_long : (ns : List (Shown E)) (rows : List (List Parameter)) → length (with_rows ns rows) ≡ length ns
  with_rows_long [] rows = refl
  with_rows_long (n ∷ ns) [] = refl
  with_rows_long (n ∷ ns) (row ∷ rows) = ap suc (with_rows_long ns rows)

  pub row_at : (ns : List (Shown E)) (rows : List (List Parameter)) (k : ℕ) → length rows ≡ length ns
      → slice_get (with_rows ns rows) k ≡ option_map (node_with (slice_index_or rows k [])) (slice_get ns k)
  row_at [] rows k long = refl
  row_at (n ∷ ns) [] k long = absurd (omega (arith, long))
  row_at (n ∷ ns) (row ∷ rows) zero long = refl
  row_at (n ∷ ns) (row ∷ rows) (suc k) long = row_at ns rows k (omega (arith, long))

  own_does : (work : Does E) → with_row (own_row work) work ≡ work
  own_does (does.Source pattern first last hold) = refl
  own_does (does.Effect e context clips names optional masks params) = refl

  pub own_node : (n : Shown E) → node_with (own_row n.does) n ≡ n
  own_node n = ap (λ (work : Does E). record n { does = work }) (own_does n.does)

  pub own_nodes : (ns : List (AnyNode E)) → with_rows (map shown ns) (own_rows ns) ≡ map shown ns
  own_nodes [] = refl
  own_nodes (n ∷ ns) =
      ap (λ (m : Shown E). m ∷ with_rows (map shown ns) (own_rows ns)) (own_node (shown n))
      ∙ ap (λ (ms : List (Shown E)). shown n ∷ ms) (own_nodes ns)

  place_below : (ns : List (Shown E)) (k : ℕ) (n : Shown E) → slice_get ns k ≡ Some n → length (take k ns) ≡ k
  place_below [] k n there = absurd (none-some n there)
  place_below (m ∷ ns) zero n there = refl
  place_below (m ∷ ns) (suc k) n there = ap suc (place_below ns k n there)

module _ {E : Type 0} (meaning : E → Meaning) (g : GraphShown E) where
  pub has_row : (rows : List (List Parameter)) (k : ℕ) (row : List Parameter) → length rows ≡ length g.nodes
      → row ≡ slice_index_or rows k [] → HasRow (graph_with g rows) g k row
  has_row rows k row long is =
      record {
        project = refl;
        node = row_at g.nodes rows k long ∙ ap (λ (r : List Parameter). option_map (node_with r) (slice_get g.nodes k)) (sym is);
      }

  pub is_row : (rows : List (List Parameter)) (k : ℕ) (row : List Parameter) → AreRows meaning g rows
      → row ≡ slice_index_or rows k [] → IsRowAt meaning g k row
  is_row rows k row are is n there = by n.does refl
    where
      at : slice_get (with_rows g.nodes rows) k ≡ Some (node_with row n)
      at = (has_row rows k row are.long is).node ∙ ap (option_map (node_with row)) there

      by : (work : Does E) → n.does ≡ work → IsRow meaning k row work
      by (does.Source pattern first last hold) same = tt
      by (does.Effect e context clips names optional masks params) same =
          subst (λ (before : ℕ). kept.IsUse (meaning e).shape before context clips names optional masks row)
          (place_below (with_rows g.nodes rows) k (node_with row n) at)
          (use_at meaning (g.depth, g.components) (with_rows g.nodes rows) k (node_with row n) e context clips names optional masks row are.kept at (ap (with_row row) same))

  -- the graph's own
  pub own_is_row : (k : ℕ) (n : Shown E) (row : List Parameter) → kept.AreNodes meaning (g.depth, g.components) g.nodes
      → slice_get g.nodes k ≡ Some n → row ≡ own_row n.does → IsRowAt meaning g k row
  own_is_row k n row are there is m also =
      subst (λ (o : Shown E). IsRow meaning k row o.does) (same_Some n m (sym there ∙ also))
      (subst (λ (r : List Parameter). IsRow meaning k r n.does) (sym is) (by n.does refl))
    where
      by : (work : Does E) → n.does ≡ work → IsRow meaning k (own_row work) work
      by (does.Source pattern first last hold) same = tt
      by (does.Effect e context clips names optional masks params) same =
          subst (λ (before : ℕ). kept.IsUse (meaning e).shape before context clips names optional masks params)
          (place_below g.nodes k n there)
          (use_at meaning (g.depth, g.components) g.nodes k n e context clips names optional masks params are there same)

  pub own_has_row : (k : ℕ) (n : Shown E) (row : List Parameter) → slice_get g.nodes k ≡ Some n → row ≡ own_row n.does
      → HasRow g g k row
  own_has_row k n row there is =
      record {
        project = refl;
        node = there ∙ ap Some (sym (ap (λ (r : List Parameter). node_with r n) is ∙ own_node n))
            ∙ ap (option_map (node_with row)) (sym there);
      }

  module _ (nodes : List (AnyNode E)) (are_nodes : g.nodes ≡ map shown nodes) (rows : List (List Parameter)) (is : rows ≡ own_rows nodes) where
    pub own_same : with_rows g.nodes rows ≡ g.nodes
    own_same =
        ap (λ (ns : List (Shown E)). with_rows ns rows) are_nodes ∙ ap (with_rows (map shown nodes)) is ∙ own_nodes nodes ∙ sym are_nodes

    pub own_are : kept.AreNodes meaning (g.depth, g.components) g.nodes → AreRows meaning g rows
    own_are are =
        record {
          long = ap (λ (rs : List (List Parameter)). length rs) is ∙ length-map nodes (λ (n : AnyNode E). own_row (does_of n.work))
              ∙ sym (length-map nodes shown) ∙ ap (λ (ns : List (Shown E)). length ns) (sym are_nodes);
          kept = subst (λ (ns : List (Shown E)). kept.AreNodes meaning (g.depth, g.components) ns) (sym own_same) are;
        }

  -- sources show the same whatever the parameters of effects are
  pub show_same : (rows : List (List Parameter)) → length rows ≡ length g.nodes
      → ShowSame (graph_nodes meaning (graph_with g rows) no_images) (graph_nodes meaning g no_images)
  unfolding nodes_of
  show_same rows long n t f =
      subst (λ (o : Option (Shown E)). Shows (node_in meaning g.project (no_images n) o) t f ↔ Shows (graph_nodes meaning g no_images n) t f)
      (sym (row_at g.nodes rows n long)) (by (slice_get g.nodes n))
    where
      row : List Parameter
      row = slice_index_or rows n []

      of_work : (m : Shown E) (work : Does E)
          → Shows (node_of meaning g.project (no_images n) m.depth m.components (with_row row work)) t f
          ↔ Shows (node_of meaning g.project (no_images n) m.depth m.components work) t f
      of_work m (does.Source pattern first last hold) = (λ h. h, λ h. h)
      of_work m (does.Effect e context clips names optional masks params) = (λ h. h, λ h. h)

      by : (o : Option (Shown E)) → Shows (node_in meaning g.project (no_images n) (option_map (node_with row) o)) t f
          ↔ Shows (node_in meaning g.project (no_images n) o) t f
      by None = (λ h. h, λ h. h)
      by (Some m) = of_work m m.does

-- ---- rows that are lent

pub rows_long : (rows : List (Vec (Bor Parameter) Global)) → length (rows_in rows) ≡ length rows
rows_long rows = length-map rows (λ (row : Vec (Bor Parameter) Global). row_in row.items)

-- the row that is indexed
pub row_here : (rows : List (Vec (Bor Parameter) Global)) (k : ℕ) (row : Vec (Bor Parameter) Global) (items : List (Bor Parameter))
    → k < length rows → row ≡ get_or rows k row → items ≡ row.items → row_in items ≡ slice_index_or (rows_in rows) k []
row_here rows k row items low is same = ap row_in same ∙ at rows k low is
  where
    at : (rows : List (Vec (Bor Parameter) Global)) (k : ℕ) → k < length rows → row ≡ get_or rows k row
        → row_in row.items ≡ slice_index_or (rows_in rows) k []
    at [] k low is = absurd (omega (arith, low))
    at (r ∷ rows) zero low is = ap (λ (x : Vec (Bor Parameter) Global). row_in x.items) is
    at (r ∷ rows) (suc k) low is = at rows k (omega (arith, low)) is

pub row_low : {E : Type 0} (meaning : E → Meaning) (g : GraphShown E) (rows : List (Vec (Bor Parameter) Global)) (nodes : List (AnyNode E))
    (k : ℕ) → g.nodes ≡ map shown nodes → AreRows meaning g (rows_in rows) → k < length nodes → k < length rows
row_low meaning g rows nodes k same are low =
    let a = are.long in
    let b = ap (λ (ns : List (Shown _)). length ns) same in
    let c = length-map nodes shown in
    let d = rows_long rows in
    omega (arith, low, a, b, c, d)

pub row_edited : (rows : List (Vec (Bor Parameter) Global)) (k i : ℕ) (x : Bor Parameter) (row : Vec (Bor Parameter) Global)
    → row ≡ get_or rows k row → rows_in (set rows k (with_item row i x)) ≡ with_param_at k i x.now (rows_in rows)
row_edited [] k i x row is = refl
row_edited (r ∷ rows) zero i x row is =
    ap (λ (ps : List Parameter). ps ∷ rows_in rows)
    (map-set (λ (p : Bor Parameter). p.now) row.items i x
    ∙ ap (λ (w : Vec (Bor Parameter) Global). set (row_in w.items) i x.now) is)
row_edited (r ∷ rows) (suc k) i x row is = ap (λ (rs : List (List Parameter)). row_in r.items ∷ rs) (row_edited rows k i x row is)

-- the numbers of parameters that are lent
pub values_are : (project : Bounds) (t : ℤ) (clips : List (Option ℕ)) (row : List (Bor Parameter)) (numbers : List ℤ) (connected : List Bool)
    → numbers ≡ map (λ (p : Bor Parameter). value_at p.now t) row → connected ≡ map is_some clips
    → record { frame = t; numbers = numbers; connected = connected; project = project } ≡ kept.use_values project t clips (row_in row)
values_are project t clips row numbers connected are flags = ap made (are ∙ lent row) ∙ ap flagged flags
  where
    made : List ℤ → Values
    made ns = record { frame = t; numbers = ns; connected = connected; project = project }

    flagged : List Bool → Values
    flagged fs = record { frame = t; numbers = map (λ p. value_at p t) (row_in row); connected = fs; project = project }

    lent : (ps : List (Bor Parameter)) → map (λ (p : Bor Parameter). value_at p.now t) ps ≡ map (λ p. value_at p t) (row_in ps)
    lent [] = refl
    lent (p ∷ ps) = ap (λ (ns : List ℤ). value_at p.now t ∷ ns) (lent ps)

-- ---- edits of rows

edits_append : (es : List Edit) (e : Edit) (rows : List (List Parameter))
    → rows_edited (es ++ e ∷ []) rows ≡ with_param_at e.node e.param e.value (rows_edited es rows)
edits_append [] e rows = refl
edits_append (d ∷ es) e rows = edits_append es e (with_param_at d.node d.param d.value rows)

pub edits_next : (es : List Edit) (k : ℕ) (e : Edit) (rows : List (List Parameter)) → k < length es → e ≡ get_or es k e
    → with_param_at e.node e.param e.value (rows_edited (take k es) rows) ≡ rows_edited (take (k + 1) es) rows
edits_next es k e rows low is =
    ap (λ (d : Edit). with_param_at d.node d.param d.value (rows_edited (take k es) rows)) is
    ∙ sym (edits_append (take k es) (get_or es k e) rows)
    ∙ ap (λ (xs : List Edit). rows_edited xs rows) (sym (take_more es k e low))

param_long : (k i : ℕ) (p : Parameter) (rows : List (List Parameter)) → length (with_param_at k i p rows) ≡ length rows
param_long k i p [] = refl
param_long zero i p (row ∷ rows) = refl
param_long (suc k) i p (row ∷ rows) = ap suc (param_long k i p rows)

pub edited_long : (es : List Edit) (rows : List (List Parameter)) → length (rows_edited es rows) ≡ length rows
edited_long [] rows = refl
edited_long (e ∷ es) rows = edited_long es (with_param_at e.node e.param e.value rows) ∙ param_long e.node e.param e.value rows

-- a parameter stays at each place
place_still : (k i : ℕ) (p : Parameter) (rows : List (List Parameter)) (e : Edit) → HasPlace rows e → HasPlace (with_param_at k i p rows) e
place_still k i p rows e has = let r = at k rows e.node has.there in record { row = r.0; there = r.1; within = r.2 }
  where
    Has : List (List Parameter) → ℕ → Type 0
    Has rows n = (row : List Parameter) × (slice_get rows n ≡ Some row) × (e.param < length row)

    at : (k : ℕ) (rows : List (List Parameter)) (n : ℕ) → slice_get rows n ≡ Some has.row → Has (with_param_at k i p rows) n
    at k [] n there = absurd (none-some has.row there)
    at zero (row ∷ rows) zero there =
        let low = has.within in
        let same : length row ≡ length has.row = ap (λ (r : List Parameter). length r) (same_Some row has.row there) in
        let long = length-set row i p in
        (set row i p, refl, omega (arith, low, same, long))
    at zero (row ∷ rows) (suc n) there = (has.row, there, has.within)
    at (suc k) (row ∷ rows) zero there = (has.row, there, has.within)
    at (suc k) (row ∷ rows) (suc n) there = at k rows n there

pub places_still : (k i : ℕ) (p : Parameter) (rows : List (List Parameter)) (es : List Edit) → AllByRecursion (HasPlace rows) es
    → AllByRecursion (HasPlace (with_param_at k i p rows)) es
places_still k i p rows [] all = tt
places_still k i p rows (e ∷ es) all = (place_still k i p rows e all.0, places_still k i p rows es all.1)

within_of : {A : Type 0} (xs : List A) (i : ℕ) (x : A) → slice_get xs i ≡ Some x → i < length xs
within_of [] i x there = absurd (none-some x there)
within_of (y ∷ xs) zero x there = omega arith
within_of (y ∷ xs) (suc i) x there = let low = within_of xs i x there in omega (arith, low)

-- rows are edited as the nodes are
module _ {E : Type 0} where
  edited_does : (row : List Parameter) (i : ℕ) (p : Parameter) (work : Does E) → with_row (set row i p) work ≡ with_param i p (with_row row work)
  edited_does row i p (does.Source pattern first last hold) = refl
  edited_does row i p (does.Effect e context clips names optional masks params) = refl

  edit_with : (ns : List (Shown E)) (rows : List (List Parameter)) (k i : ℕ) (p : Parameter) → length rows ≡ length ns
      → with_rows ns (with_param_at k i p rows) ≡ with_edit k i p (with_rows ns rows)
  edit_with [] rows k i p long = refl
  edit_with (n ∷ ns) [] k i p long = absurd (omega (arith, long))
  edit_with (n ∷ ns) (row ∷ rows) zero i p long =
      ap (λ (work : Does E). record n { does = work } ∷ with_rows ns rows) (edited_does row i p n.does)
  edit_with (n ∷ ns) (row ∷ rows) (suc k) i p long =
      ap (λ (ms : List (Shown E)). node_with row n ∷ ms) (edit_with ns rows k i p (omega (arith, long)))

  pub edits_with : (ns : List (Shown E)) (es : List Edit) (rows : List (List Parameter)) → length rows ≡ length ns
      → with_rows ns (rows_edited es rows) ≡ edited_all es (with_rows ns rows)
  edits_with ns [] rows long = refl
  edits_with ns (e ∷ es) rows long =
      edits_with ns es (with_param_at e.node e.param e.value rows) (param_long e.node e.param e.value rows ∙ long)
      ∙ ap (edited_all es) (edit_with ns rows e.node e.param e.value long)

  -- an edit of the nodes has its place in the rows
  place_in : (ns : List (Shown E)) (rows : List (List Parameter)) (k : ℕ) (n : Shown E) (i : ℕ) (def : ParamDef)
      → length rows ≡ length ns → slice_get (with_rows ns rows) k ≡ Some n → HasParam n.does i def
      → (row : List Parameter) × (slice_get rows k ≡ Some row) × (i < length row)
  place_in [] rows k n i def long there has = absurd (none-some n there)
  place_in (m ∷ ns) [] k n i def long there has = absurd (omega (arith, long))
  place_in (m ∷ ns) (row ∷ rows) zero n i def long there has =
      (row, refl, by m.does (subst (λ (o : Shown E). HasParam o.does i def) (sym (same_Some (node_with row m) n there)) has))
    where
      by : (work : Does E) → HasParam (with_row row work) i def → i < length row
      by (does.Source pattern first last hold) h = absurd h
      by (does.Effect e context clips names optional masks params) h = within_of row i h.0 h.1
  place_in (m ∷ ns) (row ∷ rows) (suc k) n i def long there has = place_in ns rows k n i def (omega (arith, long)) there has

  place_of : (ns : List (Shown E)) (rows : List (List Parameter)) (e : Edit) → length rows ≡ length ns
      → IsEdit (with_rows ns rows) e → HasPlace rows e
  place_of ns rows e long is =
      let r = place_in ns rows e.node is.node e.param e.value.def long is.there is.param in
      record { row = r.0; there = r.1; within = r.2 }

  pub places_of : (ns : List (Shown E)) (rows : List (List Parameter)) (es : List Edit) → length rows ≡ length ns
      → AllByRecursion (IsEdit (with_rows ns rows)) es → AllByRecursion (HasPlace rows) es
  places_of ns rows [] long are = tt
  places_of ns rows (e ∷ es) long are = (place_of ns rows e long are.0, places_of ns rows es long are.1)

-- ---- from take to take

pub edits_here : (takes : List Take) (k : ℕ) (t : Take) → k < length takes → t ≡ get_or takes k t
    → t.edits.items ≡ edits_after (edits_of takes) k
edits_here [] k t low is = absurd (omega (arith, low))
edits_here (u ∷ takes) zero t low is = ap (λ (v : Take). v.edits.items) is
edits_here (u ∷ takes) (suc k) t low is = edits_here takes k t (omega (arith, low)) is

module _ {E : Type 0} (meaning : E → Meaning) (g : GraphShown E) (takes : List (List Edit)) (k : ℕ) (rows : List (List Parameter))
    (are : AreEdits g.nodes takes) (long : length rows ≡ length g.nodes) (at : nodes_at g.nodes takes k ≡ with_rows g.nodes rows) where
  pub take_rows : kept.AreNodes meaning (g.depth, g.components) g.nodes → AreRows meaning g rows
  take_rows own =
      record {
        long = long;
        kept = subst (λ (ns : List (Shown E)). kept.AreNodes meaning (g.depth, g.components) ns) at (edits_keep meaning g takes own are k);
      }

  pub take_places : AllByRecursion (HasPlace rows) (edits_after takes k)
  take_places =
      places_of g.nodes rows (edits_after takes k) long
      (subst (λ (ns : List (Shown E)). AllByRecursion (IsEdit ns) (edits_after takes k)) at
      (edits_then g.nodes takes are k (edits_after takes k) (are k)))

  next_rows : nodes_at g.nodes takes (suc k) ≡ with_rows g.nodes (rows_edited (edits_after takes k) rows)
  next_rows = ap (edited_all (edits_after takes k)) at ∙ sym (edits_with g.nodes (edits_after takes k) rows long)

  module _ (new : List (List Parameter)) (is : new ≡ rows_edited (edits_after takes k) rows) where
    pub next_long : length new ≡ length g.nodes
    next_long = ap (λ (rs : List (List Parameter)). length rs) is ∙ edited_long (edits_after takes k) rows ∙ long

    pub next_nodes : nodes_at g.nodes takes (k + 1) ≡ with_rows g.nodes new
    next_nodes =
        subst (λ (n : ℕ). nodes_at g.nodes takes n ≡ with_rows g.nodes new) one
        (next_rows ∙ ap (λ (rs : List (List Parameter)). with_rows g.nodes rs) (sym is))
      where
        one : suc k ≡ k + 1
        one = omega arith
