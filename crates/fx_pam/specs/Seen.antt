-- What the reader's values stand for.
use Rattle.std.specs.Prelude.{◌≡◌, ℕ, ◌+◌, List, Result, Ok, Err}
use Rattle.std.specs.Borrow.{Bor}
use Rattle.fx_pam.specs.declared.header.AfterLine.{AfterLine}
use Rattle.fx_pam.specs.declared.header.AfterLine.TheVariants as after
use Rattle.fx_pam.specs.declared.numbers.HeaderSoFar.{HeaderSoFar}
use Rattle.fx_pam.specs.declared.numbers.HeaderNumbers.{HeaderNumbers}
use Rattle.fx_pam.specs.declared.header.Said.{Said}
use Rattle.fx_pam.specs.declared.header.Said.TheVariants as said
use Rattle.fx_pam.specs.Header.{Saying, Nothing, End, Number, Wrong, HeaderReading, Reads, IsWrongAt, header_by}

abbrev pub seen : Said → Saying
seen said.Nothing = Nothing
seen said.End = End
seen (said.Number field n) = Number field n
seen said.Wrong = Wrong

-- what the reader goes on with after a line
abbrev pub led : AfterLine → ℕ → List ℕ → (ℕ → HeaderSoFar → HeaderReading) → HeaderReading
led (after.On n) line behind next = next (line + 1) n
led (after.Complete numbers) line behind next = Reads numbers behind
led after.Wrong line behind next = IsWrongAt line

-- a line that says so leads to what the reader goes on with
abbrev pub Leads : HeaderSoFar → Saying → AfterLine → Type 0
Leads n saying after =
    (line : ℕ) (behind : List ℕ) (next : ℕ → HeaderSoFar → HeaderReading)
    → header_by line n saying behind next ≡ led after line behind next

abbrev pub reading_of : Result (HeaderNumbers × Bor (List ℕ)) ℕ → HeaderReading
reading_of (Ok header) = Reads header.0 header.1.now
reading_of (Err line) = IsWrongAt line
