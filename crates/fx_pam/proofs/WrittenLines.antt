-- Lines that are written and then read: a line ends at its line feed, and what neither begins nor ends with a blank is not trimmed.
use Rattle.std.proofs.Common.{◌≡◌, ℕ, List, [], ◌∷◌, ◌++◌, reverse, false, refl, ap, sym, ◌∙◌}
use Rattle.std.specs.Prelude.{◌==◌}
use Rattle.std.specs.List.{list_any}
use Rattle.std.proofs.lemmas.Bool.{or_parts, or_from}
use Rattle.std.proofs.lemmas.List.{reverse-append, reverse-reverse}
use Rattle.fx_pam.specs.Header.{lines_of, with_first, is_blank, without_blanks, trimmed}

-- no byte is a line feed
abbrev pub IsLine : List ℕ → Type 0
IsLine line = list_any (λ b. b == 10) line ≡ false

pub line-append : (xs ys : List ℕ) → IsLine xs → IsLine ys → IsLine (xs ++ ys)
line-append [] ys h k = k
line-append (b ∷ xs) ys h k = let parts = or_parts (b == 10) (list_any (λ x. x == 10) xs) h in or_from (b == 10) (list_any (λ x. x == 10) (xs ++ ys)) parts.0 (line-append xs ys parts.1 k)

pub lines_of-line : (line rest : List ℕ) → IsLine line → lines_of (line ++ 10 ∷ rest) ≡ record { line = line; behind = rest } ∷ lines_of rest
lines_of-line [] rest h = refl
lines_of-line (b ∷ line) rest h = let parts = or_parts (b == 10) (list_any (λ x. x == 10) line) h in rw parts.0 (ap (with_first b) (lines_of-line line rest parts.1))

-- nothing is cut off
pub trimmed-whole : (b d : ℕ) (middle : List ℕ) → is_blank b ≡ false → is_blank d ≡ false → trimmed (b ∷ (middle ++ d ∷ [])) ≡ b ∷ (middle ++ d ∷ [])
trimmed-whole b d middle first last =
    let line = b ∷ (middle ++ d ∷ []) in
    let turned : reverse line ≡ d ∷ reverse (b ∷ middle) = reverse-append (b ∷ middle) (d ∷ []) in
    let kept : without_blanks (d ∷ reverse (b ∷ middle)) ≡ d ∷ reverse (b ∷ middle) = rw last refl in
    let begun : without_blanks line ≡ line = rw first refl in
    ap (λ l. reverse (without_blanks (reverse l))) begun
    ∙ ap (λ l. reverse (without_blanks l)) turned
    ∙ ap reverse kept
    ∙ ap reverse (sym turned)
    ∙ reverse-reverse line
