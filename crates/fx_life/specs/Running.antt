-- The instances of one plug-in: idle ones, and those in their sequences of renders.
use Rattle.std.specs.Prelude.{◌≡◌, ◌≢◌, ℕ, List, [], ◌∷◌, ◌++◌, map, reverse, All, AllPairs, ◌⊎◌}
use Rattle.std.specs.List.{Contains}
use Rattle.fx_effect.specs.declared.action.Context.{Context}
use Rattle.fx_life.specs.declared.uses.Use.{Use}
use Rattle.fx_life.specs.Plugin.{MadeFor, Rendering}

-- the instance that the sequence is of
abbrev pub made : Rendering → MadeFor
made s = record { plugin = s.plugin; node = s.node; context = s.context }

-- the sequence of the instance over these frames
abbrev pub begun : ℕ → ℕ → MadeFor → Rendering
begun first last m =
    record { plugin = m.plugin; node = m.node; context = m.context; first = first; last = last }

-- the instance of a use, of the plug-in of this number
abbrev pub made_for : ℕ → Use → MadeFor
made_for number u = record { plugin = number; node = u.node; context = u.context }

-- and its sequence over these frames
abbrev pub rendering : ℕ → ℕ → ℕ → Use → Rendering
rendering number first last u = begun first last (made_for number u)

-- All instances in the order of their creation: the one that was created last begins first, and ends last.
abbrev pub members : List MadeFor → List Rendering → List MadeFor
members idle in_sequence = idle ++ map made (reverse in_sequence)

-- and the sequences that they are in, or are to begin
abbrev pub planned : ℕ → ℕ → List MadeFor → List Rendering → List Rendering
planned first last idle in_sequence = map (begun first last) idle ++ reverse in_sequence

-- they are the plug-in's live ones, each of another node and of the plug-in's number
pub record AreLive (number : ℕ) (live : List ℕ) (ms : List MadeFor) : Type 0 where
  pub nodes : live ≡ map (λ m. m.node) ms
  pub apart : AllPairs (λ a b. a ≢ b) live
  pub plugin : All (λ m. m.plugin ≡ number) ms

-- each context that is used, and no other, once
pub record AreUsed (contexts : List Context) (uses : List Use) : Type 0 where
  pub once : AllPairs (λ a b. a ≢ b) contexts
  pub used : All (λ c. Contains (map (λ u. u.context) uses) c) contexts
  pub each : All (λ u. Contains contexts u.context) uses

-- the contexts with one more, where it isn't among them
abbrev pub IsWith : List Context → Context → List Context → Type 0
IsWith contexts c after =
    ((after ≡ contexts) × Contains contexts c) ⊎ ((after ≡ contexts ++ c ∷ []) × (Contains contexts c → ⊥))

-- A plug-in whose instances are in their sequences, in the order of their creation.
pub record Run (E : Type 0) : Type 0 where
  pub effect : E
  pub contexts : List Context
  pub sequences : List Rendering
