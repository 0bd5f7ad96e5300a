-- The takes of a graph: edits of parameters, one after another.
use Rattle.std.specs.Prelude.{ℕ, ◌≤◌, List, [], ◌∷◌, length, codes, Result, Ok}
use Rattle.serde_json.specs.Data.{Data, Items}
use Rattle.fx_text.specs.declared.raw.RawEdit.{RawEdit}
use Rattle.fx_text.specs.declared.raw.TheConstants.{MOST_EDITS, MOST_TAKES}
use Rattle.fx_text.specs.Fault.{Fault}
use Rattle.fx_text.specs.Json.{after, check_object, text_at, member_at, list_at, list_or, read_items}
use Rattle.fx_text.specs.Paths.{inside, joined}
use Rattle.fx_text.specs.Values.{moved, value_of}

-- the pattern of its files' names, and its edits
pub record Take : Type 0 where
  pub file : List ℕ
  pub edits : List RawEdit

pub record AreFewEdits (edits : List RawEdit) : Type 0 where
  pub some : 1 ≤ length edits
  pub few : length edits ≤ MOST_EDITS

pub record AreFewTakes (takes : List Take) : Type 0 where
  pub few : length takes ≤ MOST_TAKES

abbrev pub edit_keys : List (List ℕ)
edit_keys = codes "node" ∷ codes "param" ∷ codes "value" ∷ []

-- an edit: the node's name, the parameter's, and the value, whose faults all stand at its path
abbrev pub edit_of : List ℕ → Data → Result RawEdit Fault
edit_of path d =
    after (check_object path edit_keys d) (λ _.
    after (text_at path (codes "node") d) (λ node.
    after (text_at path (codes "param") d) (λ param.
    after (member_at path (codes "value") d) (λ given.
    after (moved (joined path (codes "value")) (value_of given)) (λ value.
    Ok (record { node = node; param = param; value = value }))))))

abbrev pub edits_of : List ℕ → Items → Result (List RawEdit) Fault
edits_of path = read_items (λ k d. edit_of (inside path k) d) 0

abbrev pub take_keys : List (List ℕ)
take_keys = codes "file" ∷ codes "edits" ∷ []

-- a take: file and edits
abbrev pub take_of : List ℕ → Data → Result Take Fault
take_of path d =
    after (check_object path take_keys d) (λ _.
    after (text_at path (codes "file") d) (λ file.
    after (after (list_at path (codes "edits") 1 MOST_EDITS d) (edits_of (joined path (codes "edits")))) (λ edits.
    Ok (record { file = file; edits = edits }))))

-- the takes of a graph, of which there are none where the member is absent
abbrev pub takes_of : Items → Result (List Take) Fault
takes_of = read_items (λ k d. take_of (inside (codes "takes") k) d) 0

abbrev pub takes_at : Data → Result (List Take) Fault
takes_at d = after (list_or [] (codes "takes") 0 MOST_TAKES d) takes_of
