-- What the edits of takes leave of a graph.
use Rattle.std.proofs.Common.{◌≡◌, ℕ, zero, suc, ℤ, List, [], ◌∷◌, map, Some, slice_get, slice_index_or, refl, sym, ap, subst, ◌∙◌}
use Rattle.std.specs.Option.{option_map}
use Rattle.std.proofs.lemmas.Option.{none-some, same_Some}
use Rattle.fx_params.specs.Parameter.{Parameter}
use Rattle.fx_graph.specs.Edits.{edited, with_edit, with_param}
use Rattle.fx_graph.specs.Shown.{Does, Shown}
use Rattle.fx_graph.specs.Shown as does
use Rattle.fx_life.specs.Posts.{HasLife, Lives, used_by}
use Rattle.fx_scene.specs.Takes.{edited_all, edits_after, graph_of_take, nodes_at}
use Rattle.fx_scene.specs.declared.take.Edit.{Edit}
use Rattle.fx_shipped.specs.declared.shipped.Shipped.{Shipped}
use Rattle.fx_takes.specs.Shown.{EditShown, edit_shown}
use Rattle.fx_seq.specs.declared.fault.SeqFault.{SeqFault}
use Rattle.fx_seq.specs.declared.fault.SeqFault.TheVariants as seq
use Rattle.fx_words.specs.declared.fault.FrameFault.{FrameFault}
use Rattle.fx_words.specs.declared.fault.RunFault.{RunFault}
use Rattle.fx_words.specs.declared.fault.RunFault.TheVariants as run
use Rattle.fx_modes.specs.Graphs.{Graph, name_at}
use Rattle.fx_modes.specs.Run.{IsToldAs}
use Rattle.fx_modes.specs.Steps.{IsRefusedAs, IsSourceFault}

-- ---- a node of a take

abbrev pub IsSource : Does Shipped → Type 0
IsSource (does.Source pattern first last hold) = Unit {0}
IsSource (does.Effect e context clips names optional masks params) = ⊥

-- the second comes from the first by edits: it uses the same effect, and a source is the same
pub record Stems (old new : Shown Shipped) : Type 0 where
  pub used : used_by old.does ≡ used_by new.does
  pub source : IsSource new.does → old ≡ new

itself : (n : Shown Shipped) → Stems n n
itself n = record { used = refl; source = λ is. refl }

stems_on : (a b c : Shown Shipped) → Stems a b → Stems b c → Stems a c
stems_on a b c first then =
    record {
      used = first.used ∙ then.used;
      source = λ is.
          let last : b ≡ c = then.source is in
          first.source (subst (λ (n : Shown Shipped). IsSource n.does) (sym last) is) ∙ last;
    }

param_used : (i : ℕ) (p : Parameter) (d : Does Shipped) → used_by d ≡ used_by (with_param i p d)
param_used i p (does.Source pattern first last hold) = refl
param_used i p (does.Effect e context clips names optional masks params) = refl

param_source : (i : ℕ) (p : Parameter) (d : Does Shipped) → IsSource (with_param i p d) → d ≡ with_param i p d
param_source i p (does.Source pattern first last hold) is = refl
param_source i p (does.Effect e context clips names optional masks params) is = absurd is

stems_edited : (i : ℕ) (p : Parameter) (n : Shown Shipped) → Stems n (edited i p n)
stems_edited i p n =
    record {
      used = param_used i p n.does;
      source = λ is. ap (λ (d : Does Shipped). record n { does = d }) (param_source i p n.does is);
    }

-- the node comes from the one at the place
pub record ComesFrom (ns : List (Shown Shipped)) (k : ℕ) (new : Shown Shipped) : Type 0 where
  pub node : Shown Shipped
  pub there : slice_get ns k ≡ Some node
  pub stems : Stems node new

from_edit : (k i : ℕ) (p : Parameter) (ns : List (Shown Shipped)) (n : ℕ) (new : Shown Shipped) → slice_get (with_edit k i p ns) n ≡ Some new
    → ComesFrom ns n new
from_edit k i p [] n new at = absurd (none-some new at)
from_edit zero i p (m ∷ ns) zero new at =
    record { node = m; there = refl; stems = subst (Stems m) (same_Some (edited i p m) new at) (stems_edited i p m) }
from_edit zero i p (m ∷ ns) (suc n) new at = record { node = new; there = at; stems = itself new }
from_edit (suc k) i p (m ∷ ns) zero new at =
    record { node = m; there = refl; stems = subst (Stems m) (same_Some m new at) (itself m) }
from_edit (suc k) i p (m ∷ ns) (suc n) new at =
    let from = from_edit k i p ns n new at in record { node = from.node; there = from.there; stems = from.stems }

from_edits : (es : List Edit) (ns : List (Shown Shipped)) (n : ℕ) (new : Shown Shipped) → slice_get (edited_all es ns) n ≡ Some new
    → ComesFrom ns n new
from_edits [] ns n new at = record { node = new; there = at; stems = itself new }
from_edits (e ∷ es) ns n new at =
    let last = from_edits es (with_edit e.node e.param e.value ns) n new at in
    let first = from_edit e.node e.param e.value ns n last.node last.there in
    record { node = first.node; there = first.there; stems = stems_on first.node last.node new first.stems last.stems }

pub from_take : (ns : List (Shown Shipped)) (takes : List (List Edit)) (k n : ℕ) (new : Shown Shipped)
    → slice_get (nodes_at ns takes k) n ≡ Some new → ComesFrom ns n new
from_take ns takes zero n new at = record { node = new; there = at; stems = itself new }
from_take ns takes (suc k) n new at =
    let last = from_edits (edits_after takes k) (nodes_at ns takes k) n new at in
    let first = from_take ns takes k n last.node last.there in
    record { node = first.node; there = first.there; stems = stems_on first.node last.node new first.stems last.stems }

-- a life of the graph as it is written is one of each take
pub life_at : (number : Shipped → ℕ) (g : Graph) (takes : List (List Edit)) (k : ℕ) (life : Lives Shipped) → HasLife number g life
    → HasLife number (graph_of_take g takes k) life
life_at number g takes k life has n node used at is =
    let from = from_take g.nodes takes k n node at in
    has n from.node used from.there (from.stems.used ∙ is)

-- ---- names stay

edit_named : (k i : ℕ) (p : Parameter) (ns : List (Shown Shipped)) (n : ℕ)
    → option_map (λ node. node.name) (slice_get (with_edit k i p ns) n) ≡ option_map (λ node. node.name) (slice_get ns n)
edit_named k i p [] n = refl
edit_named zero i p (m ∷ ns) zero = refl
edit_named zero i p (m ∷ ns) (suc n) = refl
edit_named (suc k) i p (m ∷ ns) zero = refl
edit_named (suc k) i p (m ∷ ns) (suc n) = edit_named k i p ns n

edits_named : (es : List Edit) (ns : List (Shown Shipped)) (n : ℕ)
    → option_map (λ node. node.name) (slice_get (edited_all es ns) n) ≡ option_map (λ node. node.name) (slice_get ns n)
edits_named [] ns n = refl
edits_named (e ∷ es) ns n =
    edits_named es (with_edit e.node e.param e.value ns) n ∙ edit_named e.node e.param e.value ns n

take_named : (g : Graph) (takes : List (List Edit)) (k n : ℕ) → name_at (graph_of_take g takes k) n ≡ name_at g n
take_named g takes zero n = refl
take_named g takes (suc k) n = edits_named (edits_after takes k) (nodes_at g.nodes takes k) n ∙ take_named g takes k n

told_at : (g : Graph) (takes : List (List Edit)) (k : ℕ) (first : SeqFault) (name : List ℕ) (t : ℤ) (why : FrameFault)
    → IsToldAs (graph_of_take g takes k) first name t why → IsToldAs g first name t why
told_at g takes k (seq.Frame node frame cause) name t why is = (sym (take_named g takes k node) ∙ is.0, is.1, is.2)
told_at g takes k (seq.TooLarge node frame sum) name t why is = (sym (take_named g takes k node) ∙ is.0, is.1, is.2)
told_at g takes k (seq.Fetch node frame file) name t why is = absurd is
told_at g takes k seq.Memory name t why is = absurd is

refused_at : (g : Graph) (takes : List (List Edit)) (k : ℕ) (first : SeqFault) (e : RunFault)
    → IsRefusedAs (graph_of_take g takes k) first e → IsRefusedAs g first e
refused_at g takes k first (run.Frame name t why) is = told_at g takes k first name t why is
refused_at g takes k first run.Memory is = tt
refused_at g takes k first run.Usage is = absurd is
refused_at g takes k first (run.Graph code path) is = absurd is
refused_at g takes k first (run.Read name) is = absurd is
refused_at g takes k first (run.Write name) is = absurd is
refused_at g takes k first run.Report is = absurd is

-- what is told of a source frame at a take is told of the graph as it is written
pub source_at : (g : Graph) (takes : List (List Edit)) (k : ℕ) (fault : SeqFault) (e : RunFault)
    → IsSourceFault (graph_of_take g takes k) fault e → IsSourceFault g fault e
source_at g takes k (seq.Fetch node t name) e is = is
source_at g takes k (seq.Frame node t cause) e is = refused_at g takes k (seq.Frame node t cause) e is
source_at g takes k (seq.TooLarge node t sum) e is = refused_at g takes k (seq.TooLarge node t sum) e is
source_at g takes k seq.Memory e is = is

-- ---- edits that show the same do the same

abbrev done : List EditShown → List (Shown Shipped) → List (Shown Shipped)
done [] ns = ns
done (e ∷ es) ns = done es (with_edit e.node e.param e.value ns)

done_is : (es : List Edit) (ns : List (Shown Shipped)) → edited_all es ns ≡ done (map edit_shown es) ns
done_is [] ns = refl
done_is (e ∷ es) ns = done_is es (with_edit e.node e.param e.value ns)

abbrev pub shown_nodes : List (Shown Shipped) → List (List EditShown) → ℕ → List (Shown Shipped)
shown_nodes ns takes zero = ns
shown_nodes ns takes (suc k) = done (slice_index_or takes k []) (shown_nodes ns takes k)

after_shown : (takes : List (List Edit)) (k : ℕ) → map edit_shown (edits_after takes k) ≡ slice_index_or (map (map edit_shown) takes) k []
after_shown [] k = refl
after_shown (es ∷ takes) zero = refl
after_shown (es ∷ takes) (suc k) = after_shown takes k

pub nodes_shown : (ns : List (Shown Shipped)) (takes : List (List Edit)) (k : ℕ)
    → nodes_at ns takes k ≡ shown_nodes ns (map (map edit_shown) takes) k
nodes_shown ns takes zero = refl
nodes_shown ns takes (suc k) =
    done_is (edits_after takes k) (nodes_at ns takes k)
    ∙ ap (λ (es : List EditShown). done es (nodes_at ns takes k)) (after_shown takes k)
    ∙ ap (done (slice_index_or (map (map edit_shown) takes) k [])) (nodes_shown ns takes k)
