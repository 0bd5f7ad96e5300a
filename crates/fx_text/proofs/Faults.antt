-- Readings of lists: the fault of an item is the list's, and a member's is the object's.
use Rattle.std.proofs.Common.{◌≡◌, ◌∙◌, ap, sym, ℕ, ◌<◌, ◌+◌, List, ◌∷◌, length, drop, get_or, Result, Err, String, string_bytes}
use Rattle.serde_json.specs.Data.{Data}
use Rattle.serde_json.specs.declared.value.Value.{Value}
use Rattle.serde_json.specs.View.{view, items_view, members_view}
use Rattle.std.specs.declared.alloc.Global.{Global}
use Rattle.fx_text.specs.Fault.{Fault}
use Rattle.fx_text.specs.Json.{read_items, read_members}
use Rattle.fx_text.proofs.Rows.{before, one_then, items-drop}

pub item_fault : {A : Type 0} (read : ℕ → Data → Result A Fault) (vs : List Value) (k : ℕ) (v : Value) (items : List A) (fault : Fault) (total : Result (List A) Fault)
    → k < length vs → v ≡ get_or vs k v → read k (view v) ≡ Err fault
    → before items (read_items read k (items_view (drop k vs))) ≡ total → total ≡ Err fault
item_fault read vs k v items fault total h e is all =
    sym all ∙ ap (λ ds. before items (read_items read k ds)) (items-drop vs k v h e)
    ∙ ap (λ r. before items (one_then r (read_items read (k + 1) (items_view (drop (k + 1) vs))))) is

pub member_fault : {A : Type 0} (read : List ℕ → Data → Result A Fault) (all rest : List (String Global × Value)) (k : String Global) (v : Value) (name : List ℕ) (items : List A) (fault : Fault) (total : Result (List A) Fault)
    → all ≡ (k, v) ∷ rest → name ≡ string_bytes k → read name (view v) ≡ Err fault
    → before items (read_members read (members_view all)) ≡ total → total ≡ Err fault
member_fault read all rest k v name items fault total here reads is known =
    sym known ∙ ap (λ es. before items (read_members read (members_view es))) here
    ∙ ap (λ r. before items (one_then r (read_members read (members_view rest)))) (ap (λ t. read t (view v)) (sym reads) ∙ is)
