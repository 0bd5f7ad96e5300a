-- Groups mean the same expanded.
use Rattle.std.specs.Prelude.{◌≡◌, ℕ, nat_eq, false, List, [], ◌∷◌, Some, None}
use Rattle.fx_text.specs.Nodes.{Node, Graph}
use Rattle.fx_group.specs.Faults.{expand_fault}
use Rattle.fx_group.specs.Expansion.{expanded}
use Rattle.fx_group.specs.Instances.{Kind, Shown, Giving, values_of, instance_values, named}

-- what a node's value is made of: its name, what it does, and what each of its clips shows
mutual
  pub data Formula : Type 0 where
    made : List ℕ → Kind → Clips → Formula

  pub data Clips : Type 0 where
    no_clips : Clips
    empty_clip : List ℕ → Clips → Clips
    clip : List ℕ → Formula → Clips → Clips

abbrev pub clips_of : Shown Formula → Clips
clips_of [] = no_clips
clips_of ((name, None) ∷ more) = empty_clip name (clips_of more)
clips_of ((name, Some f) ∷ more) = clip name f (clips_of more)

abbrev pub formula_of : Giving Formula
formula_of name kind clips = made name kind (clips_of clips)

-- these nodes are the instances of the graph: in order, each under its joined name, and each with the same formula
abbrev pub AreInstances : Graph → List Node → Type 0
AreInstances raw nodes = values_of formula_of [] nodes ≡ named (instance_values formula_of raw)

-- so are the nodes of the expanded list, where no fault is found
abbrev pub ExpandedAreInstances : Type 0
ExpandedAreInstances =
    (raw : Graph) → nat_eq raw.format 1 ≡ false → expand_fault raw ≡ None → AreInstances raw (expanded raw)
