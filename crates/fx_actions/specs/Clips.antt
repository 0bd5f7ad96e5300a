-- Answers for each input clip.
use Rattle.std.specs.Prelude.{◌≡◌, ℕ, List, map, length}
use Rattle.std.specs.List.{range_with_len}
use Rattle.fx_effect.specs.declared.action.Context.{Context}
use Rattle.fx_effect.specs.declared.values.Values.{Values}
use Rattle.fx_effect.specs.Shape.{Shape, clip_names, IsLawfulIn}

-- the names of the input clips of a context in which the values are lawful
pub record NamesClips (s : Shape) (v : Values) (names : List (List ℕ)) : Type 0 where
  pub context : Context
  pub lawful : IsLawfulIn s context v
  pub are : names ≡ clip_names s context

-- what each of these clips has, by its place
abbrev pub each_clip : {A : Type 0} → List (List ℕ) → (ℕ → A) → List A
each_clip names of_clip = map of_clip (range_with_len 0 (length names))
