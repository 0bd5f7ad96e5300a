-- The first line of bytes, by the place of their first line feed.
use Rattle.std.proofs.Common.{◌≡◌, ◌≤◌, ◌<◌, ℕ, suc, ◌+◌, List, [], ◌∷◌, length, take, drop, Bool, true, false, refl, ap, sym, ◌∙◌, arith}
use Rattle.std.specs.Prelude.{◌==◌}
use Rattle.std.proofs.Common.{ltb, cond, Some, None}
use Rattle.std.specs.List.{position, position_or_len}
use Rattle.std.proofs.lemmas.Bool.Decides.{nat_tests}
use Rattle.fx_pam.specs.declared.header.AfterLine.{AfterLine}
use Rattle.fx_pam.specs.declared.numbers.HeaderSoFar.{HeaderSoFar}
use Rattle.fx_pam.specs.Header.{Saying, IsWrongAt, lines_of, with_first, trimmed, saying_of, header_of, header_by}
use Rattle.fx_pam.specs.Seen.{Leads, led}

-- where the first line feed stands, or the length
abbrev pub line_length : List ℕ → ℕ
line_length bytes = position_or_len (λ b. b == 10) bytes

pub lines_of-first : (bytes : List ℕ) → line_length bytes < length bytes → lines_of bytes ≡ record { line = take (line_length bytes) bytes; behind = drop (line_length bytes + 1) bytes } ∷ lines_of (drop (line_length bytes + 1) bytes)
lines_of-first [] low = absurd (omega arith)
lines_of-first (b ∷ bytes) low = go (λ h. lines_of-first bytes h) (b == 10) refl
  where
    go : (line_length bytes < length bytes → lines_of bytes ≡ record { line = take (line_length bytes) bytes; behind = drop (line_length bytes + 1) bytes } ∷ lines_of (drop (line_length bytes + 1) bytes)) → (is : Bool) → (b == 10) ≡ is → lines_of (b ∷ bytes) ≡ record { line = take (line_length (b ∷ bytes)) (b ∷ bytes); behind = drop (line_length (b ∷ bytes) + 1) (b ∷ bytes) } ∷ lines_of (drop (line_length (b ∷ bytes) + 1) (b ∷ bytes))
    go rest true is = rw is refl
    go rest false is =
        let long : line_length (b ∷ bytes) ≡ suc (line_length bytes) = rw is (omega arith) in
        let next = rest (omega (arith, long)) in
        let step : suc (line_length bytes) + 1 ≡ suc (line_length bytes + 1) = omega arith in
        rw (long, is) (ap (with_first b) next ∙ ap (λ k. record { line = b ∷ take (line_length bytes) bytes; behind = drop k (b ∷ bytes) } ∷ lines_of (drop k (b ∷ bytes))) (sym step))

pub lines_of-none : (bytes : List ℕ) → length bytes ≤ line_length bytes → lines_of bytes ≡ []
lines_of-none [] low = refl
lines_of-none (b ∷ bytes) low = go (λ h. lines_of-none bytes h) (b == 10) refl
  where
    go : (length bytes ≤ line_length bytes → lines_of bytes ≡ []) → (is : Bool) → (b == 10) ≡ is → lines_of (b ∷ bytes) ≡ []
    go rest true is = absurd (let none : line_length (b ∷ bytes) ≡ 0 = rw is refl in omega (arith, none))
    go rest false is =
        let long : line_length (b ∷ bytes) ≡ suc (line_length bytes) = rw is (omega arith) in
        rw is (ap (with_first b) (rest (omega (arith, long))))

past_all : (n len : ℕ) → cond (ltb n len) (Some n) None ≡ None → len ≤ n
past_all n len none = grind (arith, nat_tests)

stands_at : (n len k : ℕ) → cond (ltb n len) (Some n) None ≡ Some k → (n ≡ k) × (n < len)
stands_at n len k some = (grind (arith, nat_tests), grind (arith, nat_tests))

-- without a line feed there is no line
pub header_past : (line : ℕ) (n : HeaderSoFar) (bytes : List ℕ) → position (λ b. b == 10) bytes ≡ None → header_of line n (lines_of bytes) ≡ IsWrongAt line
header_past line n bytes none = ap (header_of line n) (lines_of-none bytes (past_all (line_length bytes) (length bytes) none))

lines_at : (bytes : List ℕ) (k : ℕ) → line_length bytes ≡ k → k < length bytes → lines_of bytes ≡ record { line = take k bytes; behind = drop (k + 1) bytes } ∷ lines_of (drop (k + 1) bytes)
lines_at bytes k is low = rw (← is) (lines_of-first bytes (rw is low))

-- the first line, which ends at k, leads to what the reader goes on with
pub line_leads : (line : ℕ) (n : HeaderSoFar) (bytes : List ℕ) (k : ℕ) (said : Saying) (after : AfterLine) → position (λ b. b == 10) bytes ≡ Some k → said ≡ saying_of (trimmed (take k bytes)) → Leads n said after → header_of line n (lines_of bytes) ≡ led after line (drop (k + 1) bytes) (λ l m. header_of l m (lines_of (drop (k + 1) bytes)))
line_leads line n bytes k said after found is leads =
    let at = stands_at (line_length bytes) (length bytes) k found in
    let low : k < length bytes = omega (arith, at.0, at.1) in
    ap (header_of line n) (lines_at bytes k at.0 low)
    ∙ ap (λ s. header_by line n s (drop (k + 1) bytes) (λ l m. header_of l m (lines_of (drop (k + 1) bytes)))) (sym is)
    ∙ leads line (drop (k + 1) bytes) (λ l m. header_of l m (lines_of (drop (k + 1) bytes)))

pub line_within : (bytes : List ℕ) (k : ℕ) → position (λ b. b == 10) bytes ≡ Some k → k < length bytes
line_within bytes k found = let at = stands_at (line_length bytes) (length bytes) k found in omega (arith, at.0, at.1)
