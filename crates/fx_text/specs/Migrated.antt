-- A graph's text in format 2.
use Rattle.std.specs.Prelude.{◌≡◌, ℕ, false, List, [], Option, Some, None, codes, Result, Ok, Err}
use Rattle.serde_json.specs.Data.{Data, unsigned, number, object, put}
use Rattle.serde_json.specs.Written.{IsInOrder, has_float, compact_text}
use Rattle.fx_text.specs.declared.fault.GraphCode.TheVariants.{NotJson}
use Rattle.fx_text.specs.Fault.{Fault}
use Rattle.fx_text.specs.Json.{value_of}
use Rattle.fx_text.specs.Nodes.{Graph}
use Rattle.fx_text.specs.Objects.{graph_of, read_graph}

-- the value with its member `ofxr` set to 2
abbrev pub in_format_two : Data → Data
in_format_two (object ms) = object (put (codes "ofxr") (number (unsigned 2)) ms)
in_format_two d = d

-- the compact text of a value: its members and items once and in order, its integers in decimal; it reads as the value
pub record IsCompactText (text : List ℕ) (d : Data) : Type 0 where
  pub compact : has_float d ≡ false → text ≡ compact_text d
  pub order : IsInOrder text d
  pub reads : value_of text ≡ Some d

-- a value that is a graph is the same graph in format 2
abbrev pub StaysTheSame : Type 0
StaysTheSame =
    (most side : ℕ) (d : Data) (g : Graph) → graph_of most side d ≡ Ok g
    → graph_of most side (in_format_two d) ≡ Ok (record g { format = 2 })

abbrev pub value_or_fault : Option Data → Result Data Fault
value_or_fault (Some d) = Ok d
value_or_fault None = Err (record { code = NotJson; path = [] })

-- the value of bytes, or that they have none
abbrev pub value_in : List ℕ → Result Data Fault
value_in bytes = value_or_fault (value_of bytes)

-- the text is that of the bytes' value in format 2
pub record IsMigrated (bytes text : List ℕ) : Type 0 where
  pub value : Data
  pub was : value_of bytes ≡ Some value
  pub is : IsCompactText text (in_format_two value)

-- a graph that the bytes say is said by the text, in format 2
abbrev pub IsSameGraph : List ℕ → List ℕ → Type 0
IsSameGraph bytes text =
    (most side : ℕ) (g : Graph) → read_graph bytes most side ≡ Ok g →
    read_graph text most side ≡ Ok (record g { format = 2 })
