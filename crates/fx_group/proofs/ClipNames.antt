-- Clips that are connected otherwise keep their names.
use Rattle.std.proofs.Common.{◌≡◌, refl, ap, List, [], ◌∷◌, ◌++◌, map, ℕ, Option, Some, None}
use Rattle.fx_text.specs.declared.value.RawClip.{RawClip}
use Rattle.fx_group.specs.Expansion.{with_clips, Targets, input_target}

pub names_same : (f : List ℕ → List ℕ) (clips : List RawClip) → map (λ c. c.name) (with_clips clips f) ≡ map (λ c. c.name) clips
names_same f [] = refl
names_same f (c ∷ cs) = ap (λ names. c.name ∷ names) (names_same f cs)

pub target_apart : (input : List ℕ) (o : Option (List ℕ)) (more : Targets) → input_target input o more ≡ input_target input o [] ++ more
target_apart input None more = refl
target_apart input (Some t) more = refl
